-- Equals may be replaced in a well-sorted term, by the congruence rule.
use Rattle.std.proofs.Common.{◌≡◌, refl, sym, ap, ◌∙◌, subst, ℕ, suc, ◌+◌, List, [], ◌∷◌, ◌++◌}
use Rattle.std.proofs.Common.{map, Bool, true, false}
use Rattle.std.specs.Prelude.{replicate, Some, None, unwrap_or, if◌then◌else◌}
use Rattle.sq_base.specs.declared.sort.Sort.{Sort}
use Rattle.sq_base.specs.declared.sort.Sort.TheVariants.{Message, Boolean, Index}
use Rattle.sq_term.specs.declared.model.Value.{Value}
use Rattle.sq_term.specs.Lists.{Each, fold_right}
use Rattle.sq_term.specs.Closed.{is_closed}
use Rattle.sq_term.specs.Symbols as kind
use Rattle.sq_term.specs.Symbols.{Kind}
use Rattle.sq_term.specs.Builtins.{takes_boolean}
use Rattle.sq_term.specs.Signatures.{is_boolean_sort, is_boolean_function}
use Rattle.sq_term.specs.Syntax.{TermTree, name, fun, macro, schema, diff, le, ts_eq, idx_eq}
use Rattle.sq_term.specs.Syntax.{happens, all, some, find, TermTrees, nil, cons}
use Rattle.sq_term.specs.TreeEquality.{is_same_sort, is_same_tree}
use Rattle.sq_term.specs.Ground.{Ground, applied, Grounds, none, more}
use Rattle.sq_term.specs.GroundFormulas.{truth, falsity, implies, equivalent, equal, conditional}
use Rattle.sq_term.specs.GroundFormulas.{conj, disj_of_all}
use Rattle.sq_term.specs.Translate.{World, Assignment, idx_values, domain, choices, translate}
use Rattle.sq_term.specs.Translate.{translate_all}
use Rattle.sq_term.proofs.BoolTests.{and_split}
use Rattle.sq_term.proofs.Members.{each_none, each_cons, each_pair}
use Rattle.sq_term.proofs.SameTrees.{is_same_tree-decides}
use Rattle.sq_subst.specs.Leaves.{Leaves, term_below, map_term, map_terms}
use Rattle.sq_subst.specs.Replacement.{exchanging_terms, term_replaced}
use Rattle.sq_subst.proofs.Laws.{free_term}
use Rattle.sq_subst.proofs.Stays.{indices_stay, times_stay}
use Rattle.sq_typing.specs.Functions.{are_functions}
use Rattle.sq_term.specs.Pure.{is_binder_sort}
use Rattle.sq_typing.specs.Typing.{Signature, argument_sort, has_sort, have_sorts}
use Rattle.sq_ground.specs.Truth.{value, IsTrueAt}
use Rattle.sq_ground.specs.Lines.{fact, alike}
use Rattle.sq_ground.specs.Conclusions.{count_grounds, alike_arguments}
use Rattle.sq_ground.specs.Rules.{FollowsBy}
use Rattle.sq_ground.specs.Theories.{Theory, world_at}
use Rattle.sq_ground.proofs.Derivations.{derive_outright}
use Rattle.sq_ground.proofs.Propositional.{claim, Proved, by_two, from_fact, valid, alli, if_to}
use Rattle.sq_ground.proofs.Propositional.{if_from, and_from}
use Rattle.sq_typing.proofs.SortLaws.{first_sort, sort_is_one, application_sort, argument_sorts}
use Rattle.sq_typing.proofs.SortLaws.{boolean_or_message}

module _ (th : Theory) (left : Bool) (H : List Ground) where
  abbrev pub Alike : Bool → Ground → Ground → Type 0
  Alike b u v = Proved th left H (alike b u v)

  pub alike_itself : (b : Bool) (u : Ground) → Alike b u u
  alike_itself true u =
      valid th left H (equivalent u u)
      (λ v h.
      let e : (if value v u then value v u else true) ≡ true =
      if_from (value v u) (value v u) (λ x. x) in
      and_from (if value v u then value v u else true) (if value v u then value v u else true) e e)
  alike_itself false u =
      from_fact th left H (equal u u)
      (derive_outright th (fact left (equal u u)) (FollowsBy.reflexive left u))

  -- a function of arguments that are alike
  pub congruence : (f : Kind) (is : List ℕ) (us vs : Grounds) → count_grounds us ≡ count_grounds vs
      → Each (Proved th left H) (alike_arguments f 0 us vs)
      → Alike (is_boolean_function th.funs f) (applied f is us) (applied f is vs)
  congruence f is us vs n p =
      let A = conj (alike_arguments f 0 us vs) in
      let R = alike (is_boolean_function th.funs f) (applied f is us) (applied f is vs) in
      by_two th left (claim H A) (claim [] (implies A R)) (claim H R)
      (alli th left H (alike_arguments f 0 us vs) p)
      (derive_outright th (fact left (implies A R)) (FollowsBy.congruent left f is us vs n))
      (λ v a b h. if_to (value v A) (value v R) (b (each_none (IsTrueAt v))) (a h))

  pub conj_alike : {A : Type 0} (f g : A → Ground) (xs : List A)
      → ((x : A) → Alike true (f x) (g x)) → Alike true (conj (map f xs)) (conj (map g xs))
  conj_alike f g [] h = alike_itself true truth
  conj_alike f g (x ∷ []) h = h x
  conj_alike f g (x ∷ y ∷ xs) h =
      congruence kind.conjunction [] (more (f x) (more (conj (map f (y ∷ xs))) none))
      (more (g x) (more (conj (map g (y ∷ xs))) none)) refl
      (each_pair _ _ (Proved th left H) (h x) (conj_alike f g (y ∷ xs) h))

  pub disj_alike : {A : Type 0} (f g : A → Ground) (xs : List A)
      → ((x : A) → Alike true (f x) (g x))
      → Alike true (disj_of_all (map f xs)) (disj_of_all (map g xs))
  disj_alike f g [] h = alike_itself true falsity
  disj_alike f g (x ∷ []) h = h x
  disj_alike f g (x ∷ y ∷ xs) h =
      congruence kind.disjunction [] (more (f x) (more (disj_of_all (map f (y ∷ xs))) none))
      (more (g x) (more (disj_of_all (map g (y ∷ xs))) none)) refl
      (each_pair _ _ (Proved th left H) (h x) (disj_alike f g (y ∷ xs) h))

  pub choice_alike : {A : Type 0} (b b' t t' : A → Ground) (o o' : Ground) (xs : List A)
      → ((x : A) → Alike true (b x) (b' x)) → ((x : A) → Alike false (t x) (t' x))
      → Alike false o o'
      → Alike false (fold_right (λ x rest. conditional (b x) (t x) rest) o xs)
      (fold_right (λ x rest. conditional (b' x) (t' x) rest) o' xs)
  choice_alike b b' t t' o o' [] h k l = l
  choice_alike b b' t t' o o' (x ∷ xs) h k l =
      let rest : Ground = fold_right (λ x rest. conditional (b x) (t x) rest) o xs in
      let rest' : Ground = fold_right (λ x rest. conditional (b' x) (t' x) rest) o' xs in
      congruence kind.conditional [] (more (b x) (more (t x) (more rest none)))
      (more (b' x) (more (t' x) (more rest' none))) refl
      (each_cons _ _ (Proved th left H) (h x)
      (each_pair _ _ (Proved th left H) (k x) (choice_alike b b' t t' o o' xs h k l)))

  either_side : (c b : Bool) (t u t' u' : Ground) → Alike c t t' → Alike c u u'
      → Alike c (if b then t else u) (if b then t' else u')
  either_side c true t u t' u' h k = h
  either_side c false t u t' u' h k = k

  module _ (g : Signature) (read : g.funs ≡ th.funs) (ok : are_functions g.funs ≡ true)
      (a : Assignment) (r : Sort) (from to : TermTree)
      (from_closed : is_closed 0 from ≡ true) (to_closed : is_closed 0 to ≡ true)
      (sorted : has_sort g [] r from ≡ true) where
    abbrev w : World
    w = world_at th left

    module _ (equal : Alike (is_boolean_sort r) (translate w a [] from) (translate w a [] to)) where
      abbrev L : Leaves
      L = exchanging_terms from to

      -- what is put in the place of the whole, or what was made of its parts
      here_or : (bs : List Value) (ss : List Sort) (s : Sort) (t other : TermTree)
          → has_sort g ss s t ≡ true
          → Alike (is_boolean_sort s) (translate w a bs t) (translate w a bs other)
          → (b : Bool) → is_same_tree t from ≡ b
          → Alike (is_boolean_sort s) (translate w a bs t)
          (translate w a bs (unwrap_or (if b then Some to else None) other))
      here_or bs ss s t other h p true q =
          let is : t ≡ from = (is_same_tree-decides t from).0 q in
          let sorts : r ≡ s =
          sort_is_one g [] ss r s from sorted (subst (λ x. has_sort g ss s x ≡ true) is h) in
          let there : translate w a [] from ≡ translate w a bs t =
          free_term w a [] bs from from_closed ∙ sym (ap (translate w a bs) is) in
          let new : translate w a [] to ≡ translate w a bs to = free_term w a [] bs to to_closed in
          subst (Proved th left H) (λ i. alike (is_boolean_sort (sorts i)) (there i) (new i)) equal
      here_or bs ss s t other h p false q = p

      part : (bs : List Value) (ss : List Sort) (s : Sort) (m : ℕ) (t : TermTree)
          → has_sort g ss s t ≡ true
          → Alike (is_boolean_sort s) (translate w a bs t) (translate w a bs (term_below L m t))
          → Alike (is_boolean_sort s) (translate w a bs t) (translate w a bs (map_term L m t))
      part bs ss s m t h p = here_or bs ss s t (term_below L m t) h p (is_same_tree t from) refl

      kept : (bs : List Value) (s : Sort) (t u : TermTree) → t ≡ u
          → Alike (is_boolean_sort s) (translate w a bs t) (translate w a bs u)
      kept bs s t u e =
          subst (λ x. Alike (is_boolean_sort s) (translate w a bs t) (translate w a bs x)) e
          (alike_itself (is_boolean_sort s) (translate w a bs t))

      -- at a term of this sort
      at_sort : (q s : Sort) (u v : Ground) → q ≡ s → Alike (is_boolean_sort q) u v
          → Alike (is_boolean_sort s) u v
      at_sort q s u v e p = subst (λ z. Alike (is_boolean_sort z) u v) e p

      mutual
        below_law : (bs : List Value) (ss : List Sort) (s : Sort) (m : ℕ) (t : TermTree)
            → has_sort g ss s t ≡ true
            → Alike (is_boolean_sort s) (translate w a bs t) (translate w a bs (term_below L m t))
        below_law bs ss s m (name n is) h =
            kept bs s (name n is) _ (sym (ap (name n) (indices_stay is)))
        below_law bs ss s m (fun f is ts) h =
            let e : is_boolean_function th.funs f ≡ is_boolean_sort s =
            ap (λ fs. is_boolean_function fs f) (sym read)
            ∙ application_sort g ss s f is ts ok h in
            let us : Grounds = translate_all w a bs ts in
            let vs : Grounds = translate_all w a bs (map_terms L m ts) in
            let js : List ℕ = idx_values a bs is in
            let same : js ≡ idx_values a bs (map (L.index m) is) =
            sym (ap (idx_values a bs) (indices_stay is)) in
            subst (λ ks. Alike (is_boolean_sort s) (applied f js us) (applied f ks vs)) same
            (subst (λ b. Alike b (applied f js us) (applied f js vs)) e
            (congruence f js us vs (same_count bs m ts)
            (below_laws bs ss f 0 m ts (argument_sorts g ss s f is ts h))))
        below_law bs ss s m (macro x t) h =
            kept bs s (macro x t) _ (sym (ap (macro x) (times_stay from to m t)))
        below_law bs ss s m (schema k) h = kept bs s (schema k) _ refl
        below_law bs ss s m (diff t u) h =
            let p = and_split (has_sort g ss s t) (has_sort g ss s u) h in
            either_side (is_boolean_sort s) left (translate w a bs t) (translate w a bs u)
            (translate w a bs (map_term L m t)) (translate w a bs (map_term L m u))
            (part bs ss s m t p.0 (below_law bs ss s m t p.0))
            (part bs ss s m u p.1 (below_law bs ss s m u p.1))
        below_law bs ss s m (le t u) h =
            kept bs s (le t u) _
            (sym (λ i. le (times_stay from to m t i) (times_stay from to m u i)))
        below_law bs ss s m (ts_eq t u) h =
            kept bs s (ts_eq t u) _
            (sym (λ i. ts_eq (times_stay from to m t i) (times_stay from to m u i)))
        below_law bs ss s m (idx_eq i j) h = kept bs s (idx_eq i j) _ refl
        below_law bs ss s m (happens t) h =
            kept bs s (happens t) _ (sym (ap happens (times_stay from to m t)))
        below_law bs ss s m (all b t) h =
            let p = and_split (is_same_sort Boolean s) _ h in
            let q = and_split (is_binder_sort b) (has_sort g (b ∷ ss) Boolean t) p.1 in
            at_sort Boolean s _ _ (first_sort Boolean s _ h)
            (conj_alike (λ x. translate w a (x ∷ bs) t)
            (λ x. translate w a (x ∷ bs) (map_term L (m + 1) t)) (domain w.times b)
            (λ x. part (x ∷ bs) (b ∷ ss) Boolean (m + 1) t q.1
            (below_law (x ∷ bs) (b ∷ ss) Boolean (m + 1) t q.1)))
        below_law bs ss s m (some b t) h =
            let p = and_split (is_same_sort Boolean s) _ h in
            let q = and_split (is_binder_sort b) (has_sort g (b ∷ ss) Boolean t) p.1 in
            at_sort Boolean s _ _ (first_sort Boolean s _ h)
            (disj_alike (λ x. translate w a (x ∷ bs) t)
            (λ x. translate w a (x ∷ bs) (map_term L (m + 1) t)) (domain w.times b)
            (λ x. part (x ∷ bs) (b ∷ ss) Boolean (m + 1) t q.1
            (below_law (x ∷ bs) (b ∷ ss) Boolean (m + 1) t q.1)))
        below_law bs ss s m (find c t u v) h =
            let inner : List Sort = replicate c Index ++ ss in
            let p = and_split (is_same_sort Message s) _ h in
            let q = and_split (has_sort g inner Boolean t) _ p.1 in
            let z = and_split (has_sort g inner Message u) (has_sort g ss Message v) q.1 in
            at_sort Message s _ _ (first_sort Message s _ h)
            (choice_alike (λ xs. translate w a xs t)
            (λ xs. translate w a xs (map_term L (m + c) t)) (λ xs. translate w a xs u)
            (λ xs. translate w a xs (map_term L (m + c) u))
            (translate w a bs v) (translate w a bs (map_term L m v)) (choices w.times c bs)
            (λ xs. part xs inner Boolean (m + c) t q.0 (below_law xs inner Boolean (m + c) t q.0))
            (λ xs. part xs inner Message (m + c) u z.0 (below_law xs inner Message (m + c) u z.0))
            (part bs ss Message m v z.1 (below_law bs ss Message m v z.1)))

        below_laws : (bs : List Value) (ss : List Sort) (f : Kind) (k m : ℕ) (ts : TermTrees)
            → have_sorts g ss f k ts ≡ true
            → Each (Proved th left H)
            (alike_arguments f k (translate_all w a bs ts)
            (translate_all w a bs (map_terms L m ts)))
        below_laws bs ss f k m nil h = each_none (Proved th left H)
        below_laws bs ss f k m (cons t ts) h =
            let p = and_split (has_sort g ss (argument_sort f k) t)
            (have_sorts g ss f (suc k) ts) h in
            each_cons
            (alike (takes_boolean f k) (translate w a bs t) (translate w a bs (map_term L m t)))
            (alike_arguments f (suc k) (translate_all w a bs ts)
            (translate_all w a bs (map_terms L m ts))) (Proved th left H)
            (subst (λ b. Alike b (translate w a bs t) (translate w a bs (map_term L m t)))
            (boolean_or_message (takes_boolean f k))
            (part bs ss (argument_sort f k) m t p.0 (below_law bs ss (argument_sort f k) m t p.0)))
            (below_laws bs ss f (suc k) m ts p.1)

        same_count : (bs : List Value) (m : ℕ) (ts : TermTrees)
            → count_grounds (translate_all w a bs ts)
            ≡ count_grounds (translate_all w a bs (map_terms L m ts))
        same_count bs m nil = refl
        same_count bs m (cons t ts) = ap suc (same_count bs m ts)

      pub replaced_law : (bs : List Value) (ss : List Sort) (s : Sort) (t : TermTree)
          → has_sort g ss s t ≡ true
          → Alike (is_boolean_sort s) (translate w a bs t)
          (translate w a bs (term_replaced from to t))
      replaced_law bs ss s t h = part bs ss s 0 t h (below_law bs ss s 0 t h)
