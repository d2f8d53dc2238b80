-- A well-sorted term's translation has its sort.
use Rattle.std.proofs.Common.{◌≡◌, refl, sym, ap, subst, ℕ, zero, suc, List, [], ◌∷◌, ◌++◌, map}
use Rattle.std.proofs.Common.{length, replicate, Bool, true, false, ◌&&◌, Option}
use Rattle.std.proofs.Common.{slice_get}
use Rattle.std.specs.Prelude.{get_or, if◌then◌else◌}
use Rattle.std.proofs.lemmas.List.{length-map}
use Rattle.sq_base.specs.declared.sort.Sort.{Sort}
use Rattle.sq_base.specs.declared.sort.Sort.TheVariants.{Message, Boolean, Index}
use Rattle.sq_term.specs.declared.term.Macro.{Macro}
use Rattle.sq_term.specs.declared.model.Value.{Value}
use Rattle.sq_term.specs.declared.signature.FunDecl.{FunDecl}
use Rattle.sq_term.specs.Lists.{here, there, Each, fold_right}
use Rattle.sq_term.specs.Macros.{GroundMacro, ground_macro, macro_indices}
use Rattle.sq_term.specs.Measure.{count_terms}
use Rattle.sq_term.specs.Pure.{is_binder_sort}
use Rattle.sq_term.specs.Symbols.{Kind, function_number}
use Rattle.sq_term.specs.Syntax.{TermTree, name, fun, macro, schema, diff, le, ts_eq, idx_eq}
use Rattle.sq_term.specs.Syntax.{happens, all, some, find, TermTrees, nil, cons}
use Rattle.sq_term.specs.TreeEquality.{is_same_sort}
use Rattle.sq_term.specs.Ground.{Ground, atom}
use Rattle.sq_term.specs.GroundFormulas.{conditional}
use Rattle.sq_term.specs.Translate.{World, Assignment, idx_values, ts_value, idx_value, is_upto}
use Rattle.sq_term.specs.Translate.{is_same_time, is_position, domain, choices, translate}
use Rattle.sq_term.specs.Translate.{translate_all}
use Rattle.sq_term.proofs.BoolTests.{and_split, and_both}
use Rattle.sq_term.proofs.Members.{each-map}
use Rattle.sq_typing.specs.Functions.{are_functions}
use Rattle.sq_typing.specs.Typing.{Signature, are_indices, applies}
use Rattle.sq_typing.specs.Typing.{result_sort, macro_sort, argument_sort, has_sort, have_sorts}
use Rattle.sq_typing.proofs.SortLaws.{first_sort}
use Rattle.sq_ground.specs.Conclusions.{count_grounds}
use Rattle.sq_ground.specs.GroundSorts.{has_ground_sort, have_ground_sorts, IsMessage}
use Rattle.sq_ground.proofs.GroundSorting.{truth_of_sort, conditional_sort, conj_sort}
use Rattle.sq_ground.proofs.GroundSorting.{disj_sort}

-- each macro has values of its sort
abbrev pub AreSorted : List FunDecl → (GroundMacro → Option ℕ → Ground) → Type 0
AreSorted funs values =
    (m : Macro) (is : List ℕ) (t : Option ℕ)
    → has_ground_sort funs (macro_sort m) (values (ground_macro m is) t) ≡ true

-- an element of a list, or what stands for one that is not there
pub get_or-each : {A : Type 0} (P : A → Type 0) (xs : List A) (k : ℕ) (d : A) → Each P xs → P d
    → P (get_or xs k d)
get_or-each P [] k d h p = p
get_or-each P (x ∷ xs) zero d h p = h x here
get_or-each P (x ∷ xs) (suc k) d h p = get_or-each P xs k d (λ y i. h y (there i)) p

module _ (g : Signature) (ok : are_functions g.funs ≡ true) (w : World)
    (sorted : AreSorted g.funs w.values) (a : Assignment)
    (given : Each (IsMessage g.funs) a.schemas) where
  abbrev Is : Sort → Ground → Type 0
  Is s t = has_ground_sort g.funs s t ≡ true

  at_sort : (r s : Sort) (t : Ground) → r ≡ s → Is r t → Is s t
  at_sort r s t e h = subst (λ q. Is q t) e h

  -- the first part of a test of a sort
  has_first : (r s : Sort) (p : Bool) (t : Ground) → (is_same_sort r s && p) ≡ true → Is r t
      → Is s t
  has_first r s p t h k = at_sort r s t (first_sort r s p h) k

  nested_sort : (test found : List Value → Ground) (other : Ground) (xs : List (List Value))
      → ((x : List Value) → Is Boolean (test x)) → ((x : List Value) → Is Message (found x))
      → Is Message other
      → Is Message (fold_right (λ x rest. conditional (test x) (found x) rest) other xs)
  nested_sort test found other [] p q r = r
  nested_sort test found other (x ∷ xs) p q r =
      conditional_sort g.funs ok (test x) (found x)
      (fold_right (λ x rest. conditional (test x) (found x) rest) other xs)
      (p x) (q x) (nested_sort test found other xs p q r)

  same_count : (bs : List Value) (ts : TermTrees)
      → count_grounds (translate_all w a bs ts) ≡ count_terms ts
  same_count bs nil = refl
  same_count bs (cons t ts) = ap suc (same_count bs ts)

  side_sort : (b : Bool) (s : Sort) (t u : Ground) → Is s t → Is s u → Is s (if b then t else u)
  side_sort true s t u p q = p
  side_sort false s t u p q = q

  mutual
    pub translation_sort : (bs : List Value) (ss : List Sort) (s : Sort) (t : TermTree)
        → has_sort g ss s t ≡ true → Is s (translate w a bs t)
    translation_sort bs ss s (name n is) h = (and_split (is_same_sort Message s) _ h).0
    translation_sort bs ss s (fun f is ts) h =
        let o : Option FunDecl = slice_get g.funs (function_number f) in
        let p = and_split (is_same_sort (result_sort o) s) _ h in
        let q = and_split (applies o (length is) (count_terms ts)) _ p.1 in
        let r = and_split (are_indices g ss is) (have_sorts g ss f 0 ts) q.1 in
        let numbers : length (idx_values a bs is) ≡ length is = length-map is (idx_value a bs) in
        and_both (is_same_sort (result_sort o) s) _ p.0
        (and_both
        (applies o (length (idx_values a bs is)) (count_grounds (translate_all w a bs ts))) _
        (subst (λ n. applies o n (count_grounds (translate_all w a bs ts)) ≡ true) (sym numbers)
        (subst (λ n. applies o (length is) n ≡ true) (sym (same_count bs ts)) q.0))
        (translation_sorts bs ss f 0 ts r.1))
    translation_sort bs ss s (macro m t) h =
        has_first (macro_sort m) s _ _ h
        (sorted m (idx_values a bs (macro_indices m)) (ts_value w.times a bs t))
    translation_sort bs ss s (schema k) h =
        has_first Message s _ _ h (get_or-each (IsMessage g.funs) a.schemas k (atom k) given refl)
    translation_sort bs ss s (diff t u) h =
        let p = and_split (has_sort g ss s t) (has_sort g ss s u) h in
        side_sort w.left s (translate w a bs t) (translate w a bs u)
        (translation_sort bs ss s t p.0) (translation_sort bs ss s u p.1)
    translation_sort bs ss s (le t u) h =
        has_first Boolean s _ _ h
        (truth_of_sort g.funs ok (is_upto (ts_value w.times a bs t) (ts_value w.times a bs u)))
    translation_sort bs ss s (ts_eq t u) h =
        has_first Boolean s _ _ h
        (truth_of_sort g.funs ok (is_same_time (ts_value w.times a bs t) (ts_value w.times a bs u)))
    translation_sort bs ss s (idx_eq i j) h = has_first Boolean s _ _ h (truth_of_sort g.funs ok _)
    translation_sort bs ss s (happens t) h =
        has_first Boolean s _ _ h (truth_of_sort g.funs ok (is_position (ts_value w.times a bs t)))
    translation_sort bs ss s (all b t) h =
        let p = and_split (is_same_sort Boolean s) _ h in
        let q = and_split (is_binder_sort b) (has_sort g (b ∷ ss) Boolean t) p.1 in
        has_first Boolean s _ _ h
        (conj_sort g.funs ok (map (λ x. translate w a (x ∷ bs) t) (domain w.times b))
        (each-map (λ x. translate w a (x ∷ bs) t) (domain w.times b) (Is Boolean)
        (λ x i. translation_sort (x ∷ bs) (b ∷ ss) Boolean t q.1)))
    translation_sort bs ss s (some b t) h =
        let p = and_split (is_same_sort Boolean s) _ h in
        let q = and_split (is_binder_sort b) (has_sort g (b ∷ ss) Boolean t) p.1 in
        has_first Boolean s _ _ h
        (disj_sort g.funs ok (map (λ x. translate w a (x ∷ bs) t) (domain w.times b))
        (each-map (λ x. translate w a (x ∷ bs) t) (domain w.times b) (Is Boolean)
        (λ x i. translation_sort (x ∷ bs) (b ∷ ss) Boolean t q.1)))
    translation_sort bs ss s (find c t u v) h =
        let inner : List Sort = replicate c Index ++ ss in
        let p = and_split (is_same_sort Message s) _ h in
        let q = and_split (has_sort g inner Boolean t) _ p.1 in
        let r = and_split (has_sort g inner Message u) (has_sort g ss Message v) q.1 in
        has_first Message s _ _ h
        (nested_sort (λ xs. translate w a xs t) (λ xs. translate w a xs u) (translate w a bs v)
        (choices w.times c bs)
        (λ xs. translation_sort xs inner Boolean t q.0)
        (λ xs. translation_sort xs inner Message u r.0)
        (translation_sort bs ss Message v r.1))

    translation_sorts : (bs : List Value) (ss : List Sort) (f : Kind) (k : ℕ) (ts : TermTrees)
        → have_sorts g ss f k ts ≡ true → have_ground_sorts g.funs f k (translate_all w a bs ts)
        ≡ true
    translation_sorts bs ss f k nil h = refl
    translation_sorts bs ss f k (cons t ts) h =
        let p = and_split (has_sort g ss (argument_sort f k) t) (have_sorts g ss f (suc k) ts) h in
        and_both _ _ (translation_sort bs ss (argument_sort f k) t p.0)
        (translation_sorts bs ss f (suc k) ts p.1)
