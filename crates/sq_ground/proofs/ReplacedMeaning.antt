-- A replaced term means the term with some places of its meaning replaced.
use Rattle.std.proofs.Common.{◌≡◌, refl, sym, ap, ◌∙◌, subst, ℕ, ◌+◌, List, [], ◌∷◌, map, Bool}
use Rattle.std.proofs.Common.{true, false}
use Rattle.std.specs.Prelude.{Some, None, unwrap_or, if◌then◌else◌}
use Rattle.sq_term.specs.declared.model.Value.{Value}
use Rattle.sq_term.specs.Lists.{fold_right}
use Rattle.sq_term.specs.Closed.{is_closed}
use Rattle.sq_term.specs.Symbols as kind
use Rattle.sq_term.specs.Symbols.{Kind}
use Rattle.sq_term.specs.Syntax.{TsTree, TermTree, name, fun, macro, schema, diff, le, ts_eq}
use Rattle.sq_term.specs.Syntax.{idx_eq, happens, all, some, find, TermTrees, nil, cons}
use Rattle.sq_term.specs.TreeEquality.{is_same_tree}
use Rattle.sq_term.specs.Ground.{Ground, applied, none, more}
use Rattle.sq_term.specs.GroundFormulas.{truth, falsity, conditional, conj, disj_of_all}
use Rattle.sq_term.specs.Translate.{World, Assignment, idx_values, domain, choices, translate}
use Rattle.sq_term.specs.Translate.{translate_all}
use Rattle.sq_term.proofs.SameTrees.{is_same_tree-decides}
use Rattle.sq_subst.specs.Leaves.{Leaves, map_ts, term_below, map_term, map_terms}
use Rattle.sq_subst.specs.Replacement.{exchanging_terms, term_replaced}
use Rattle.sq_subst.proofs.Laws.{free_term}
use Rattle.sq_subst.proofs.Stays.{indices_stay, times_stay}
use Rattle.sq_ground.specs.Replaced.{Replaced, whole, kept, inside, AllReplaced, no_more}
use Rattle.sq_ground.specs.Replaced.{first_and_rest}

module _ (old new : Ground) where
  abbrev Becomes : Ground → Ground → Type 0
  Becomes t u = Replaced old new t u

  two_replaced : (f : Kind) (t u t' u' : Ground) → Becomes t t' → Becomes u u'
      → Becomes (applied f [] (more t (more u none))) (applied f [] (more t' (more u' none)))
  two_replaced f t u t' u' h k =
      inside f [] _ _ (first_and_rest t t' _ _ h (first_and_rest u u' _ _ k no_more))

  conj_replaced : {A : Type 0} (f g : A → Ground) (xs : List A) → ((x : A) → Becomes (f x) (g x))
      → Becomes (conj (map f xs)) (conj (map g xs))
  conj_replaced f g [] h = kept truth
  conj_replaced f g (x ∷ []) h = h x
  conj_replaced f g (x ∷ y ∷ xs) h =
      two_replaced kind.conjunction (f x) (conj (map f (y ∷ xs))) (g x) (conj (map g (y ∷ xs)))
      (h x) (conj_replaced f g (y ∷ xs) h)

  disj_replaced : {A : Type 0} (f g : A → Ground) (xs : List A) → ((x : A) → Becomes (f x) (g x))
      → Becomes (disj_of_all (map f xs)) (disj_of_all (map g xs))
  disj_replaced f g [] h = kept falsity
  disj_replaced f g (x ∷ []) h = h x
  disj_replaced f g (x ∷ y ∷ xs) h =
      two_replaced kind.disjunction (f x) (disj_of_all (map f (y ∷ xs))) (g x)
      (disj_of_all (map g (y ∷ xs))) (h x) (disj_replaced f g (y ∷ xs) h)

  choice_replaced : {A : Type 0} (b b' t t' : A → Ground) (o o' : Ground) (xs : List A)
      → ((x : A) → Becomes (b x) (b' x)) → ((x : A) → Becomes (t x) (t' x)) → Becomes o o'
      → Becomes (fold_right (λ x rest. conditional (b x) (t x) rest) o xs)
      (fold_right (λ x rest. conditional (b' x) (t' x) rest) o' xs)
  choice_replaced b b' t t' o o' [] h k l = l
  choice_replaced b b' t t' o o' (x ∷ xs) h k l =
      inside kind.conditional [] _ _
      (first_and_rest (b x) (b' x) _ _ (h x)
      (first_and_rest (t x) (t' x) _ _ (k x)
      (first_and_rest _ _ _ _ (choice_replaced b b' t t' o o' xs h k l) no_more)))

  either_replaced : (b : Bool) (t u t' u' : Ground) → Becomes t t' → Becomes u u'
      → Becomes (if b then t else u) (if b then t' else u')
  either_replaced true t u t' u' h k = h
  either_replaced false t u t' u' h k = k

module _ (w : World) (a : Assignment) (from to : TermTree) (from_closed : is_closed 0 from ≡ true)
    (to_closed : is_closed 0 to ≡ true) where
  abbrev old : Ground
  old = translate w a [] from

  abbrev new : Ground
  new = translate w a [] to

  abbrev L : Leaves
  L = exchanging_terms from to

  stay : (m : ℕ) (t : TsTree) → map_ts L m t ≡ t
  stay = times_stay from to

  -- what is put in the place of the whole, or what was made of its parts
  here_or : (bs : List Value) (t other : TermTree)
      → Replaced old new (translate w a bs t) (translate w a bs other)
      → (b : Bool) → is_same_tree t from ≡ b
      → Replaced old new (translate w a bs t)
      (translate w a bs (unwrap_or (if b then Some to else None) other))
  here_or bs t other p true q =
      let is : t ≡ from = (is_same_tree-decides t from).0 q in
      let there : old ≡ translate w a bs t =
      free_term w a [] bs from from_closed ∙ sym (ap (translate w a bs) is) in
      let here : new ≡ translate w a bs to = free_term w a [] bs to to_closed in
      subst (Replaced old new (translate w a bs t)) here
      (subst (λ x. Replaced old new x new) there whole)
  here_or bs t other p false q = p

  part : (bs : List Value) (m : ℕ) (t : TermTree)
      → Replaced old new (translate w a bs t) (translate w a bs (term_below L m t))
      → Replaced old new (translate w a bs t) (translate w a bs (map_term L m t))
  part bs m t p = here_or bs t (term_below L m t) p (is_same_tree t from) refl

  same : (bs : List Value) (t u : TermTree) → t ≡ u
      → Replaced old new (translate w a bs t) (translate w a bs u)
  same bs t u e = subst (λ x. Replaced old new (translate w a bs t) (translate w a bs x)) e
      (kept (translate w a bs t))

  mutual
    below_replaced : (bs : List Value) (m : ℕ) (t : TermTree)
        → Replaced old new (translate w a bs t) (translate w a bs (term_below L m t))
    below_replaced bs m (name n is) =
        same bs (name n is) _ (sym (ap (name n) (indices_stay is)))
    below_replaced bs m (fun f is ts) =
        subst (λ js. Replaced old new (translate w a bs (fun f is ts))
        (translate w a bs (fun f js (map_terms L m ts)))) (sym (indices_stay is))
        (inside f (idx_values a bs is) _ _ (meanings_replaced bs m ts))
    below_replaced bs m (macro x t) = same bs (macro x t) _ (sym (ap (macro x) (stay m t)))
    below_replaced bs m (schema k) = kept (translate w a bs (schema k))
    below_replaced bs m (diff t u) =
        either_replaced old new w.left (translate w a bs t) (translate w a bs u)
        (translate w a bs (map_term L m t)) (translate w a bs (map_term L m u))
        (part bs m t (below_replaced bs m t)) (part bs m u (below_replaced bs m u))
    below_replaced bs m (le t u) =
        same bs (le t u) _ (sym (λ i. le (stay m t i) (stay m u i)))
    below_replaced bs m (ts_eq t u) =
        same bs (ts_eq t u) _ (sym (λ i. ts_eq (stay m t i) (stay m u i)))
    below_replaced bs m (idx_eq i j) = kept (translate w a bs (idx_eq i j))
    below_replaced bs m (happens t) = same bs (happens t) _ (sym (ap happens (stay m t)))
    below_replaced bs m (all s t) =
        conj_replaced old new (λ x. translate w a (x ∷ bs) t)
        (λ x. translate w a (x ∷ bs) (map_term L (m + 1) t)) (domain w.times s)
        (λ x. part (x ∷ bs) (m + 1) t (below_replaced (x ∷ bs) (m + 1) t))
    below_replaced bs m (some s t) =
        disj_replaced old new (λ x. translate w a (x ∷ bs) t)
        (λ x. translate w a (x ∷ bs) (map_term L (m + 1) t)) (domain w.times s)
        (λ x. part (x ∷ bs) (m + 1) t (below_replaced (x ∷ bs) (m + 1) t))
    below_replaced bs m (find c t u v) =
        choice_replaced old new (λ xs. translate w a xs t)
        (λ xs. translate w a xs (map_term L (m + c) t)) (λ xs. translate w a xs u)
        (λ xs. translate w a xs (map_term L (m + c) u))
        (translate w a bs v) (translate w a bs (map_term L m v)) (choices w.times c bs)
        (λ xs. part xs (m + c) t (below_replaced xs (m + c) t))
        (λ xs. part xs (m + c) u (below_replaced xs (m + c) u))
        (part bs m v (below_replaced bs m v))

    meanings_replaced : (bs : List Value) (m : ℕ) (ts : TermTrees)
        → AllReplaced old new (translate_all w a bs ts) (translate_all w a bs (map_terms L m ts))
    meanings_replaced bs m nil = no_more
    meanings_replaced bs m (cons t ts) =
        first_and_rest _ _ _ _ (part bs m t (below_replaced bs m t)) (meanings_replaced bs m ts)

  pub meaning_replaced : (bs : List Value) (t : TermTree)
      → Replaced old new (translate w a bs t) (translate w a bs (term_replaced from to t))
  meaning_replaced bs t = part bs 0 t (below_replaced bs 0 t)
