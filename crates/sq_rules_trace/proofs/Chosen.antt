-- Formulas over lists of indices, and under quantifiers over indices.
use Rattle.std.proofs.Common.{◌≡◌, refl, sym, ap, ◌∙◌, subst, ℕ, zero, suc, ◌+◌, ◌<◌, List, [], ◌∷◌}
use Rattle.std.proofs.Common.{length, map, Bool, true, false, arith, Some, None}
use Rattle.std.specs.Prelude.{◌==◌, ◌&&◌, get_or, nat_lt}
use Rattle.std.proofs.lemmas.Bool.{eqb-true, eq-eqb}
use Rattle.std.proofs.lemmas.Bool.Decides.{nat_tests}
use Rattle.sq_base.specs.declared.sort.Sort.TheVariants.{Index}
use Rattle.sq_term.specs.declared.model.Value.{Value}
use Rattle.sq_term.specs.declared.model.Value.TheVariants.{Index as Number, Time as Moment}
use Rattle.sq_term.specs.declared.term.Idx.{Idx}
use Rattle.sq_term.specs.Ground.{Ground}
use Rattle.sq_term.specs.GroundFormulas as ground
use Rattle.sq_term.specs.Lists.{Member, here, there, Each, count}
use Rattle.sq_term.specs.Models.{are_below}
use Rattle.sq_term.specs.Syntax.{TermTree, idx_eq}
use Rattle.sq_term.specs.Translate.{World, Times, Assignment, number_of, idx_value, idx_values}
use Rattle.sq_term.specs.Translate.{domain, translate}
use Rattle.sq_term.proofs.BoolTests.{and_split}
use Rattle.sq_term.proofs.Members.{each_none, each_cons, each-map, member-map}
use Rattle.sq_ground.specs.Truth.{IsTrueAt}
use Rattle.sq_ground.proofs.Propositional.{conj-from, conj-to, disj-from}
use Rattle.sq_formula.specs.Facts.{some_indices}
use Rattle.sq_occ.specs.Facts.{conj_of, equations}
use Rattle.sq_rules_trace.specs.ActionFacts.{same_indices, indices_of_binders}
use Rattle.sq_rules_trace.proofs.Truths.{on, off}

abbrev nothing : Value
nothing = Moment None

module _ (w : World) (a : Assignment) where
  conj-means : (bs : List Value) (ts : List TermTree)
      → translate w a bs (conj_of ts) ≡ ground.conj (map (translate w a bs) ts)
  conj-means bs [] = refl
  conj-means bs (t ∷ []) = refl
  conj-means bs (t ∷ u ∷ rest) =
      ap (ground.both (translate w a bs t)) (conj-means bs (u ∷ rest))

  module _ (v : Ground → Bool) where
    abbrev Holds : TermTree → Type 0
    Holds t = IsTrueAt v (translate w a [] t)

    -- ---- equal indices

    equations_true : (is js : List Idx) → idx_values a [] is ≡ idx_values a [] js
        → Each Holds (equations is js)
    equations_true [] js e = each_none Holds
    equations_true (i ∷ is) [] e = each_none Holds
    equations_true (i ∷ is) (j ∷ js) e =
        let f : idx_value a [] i ≡ idx_value a [] j = cc in
        let g : idx_values a [] is ≡ idx_values a [] js = cc in
        each_cons (idx_eq i j) (equations is js) Holds
        (on v (idx_value a [] i == idx_value a [] j) (eq-eqb _ _ f)) (equations_true is js g)

    equations_same : (is js : List Idx) → length is ≡ length js → Each Holds (equations is js)
        → idx_values a [] is ≡ idx_values a [] js
    equations_same [] [] l h = refl
    equations_same [] (j ∷ js) l h = absurd (omega (arith, l))
    equations_same (i ∷ is) [] l h = absurd (omega (arith, l))
    equations_same (i ∷ is) (j ∷ js) l h =
        let f : idx_value a [] i ≡ idx_value a [] j =
        eqb-true _ _ (off v (idx_value a [] i == idx_value a [] j) (h (idx_eq i j) here)) in
        cc (f, equations_same is js (omega (arith, l)) (λ t m. h t (there m)))

    pub same_true : (is js : List Idx) → idx_values a [] is ≡ idx_values a [] js
        → Holds (same_indices is js)
    same_true is js e =
        subst (IsTrueAt v) (sym (conj-means [] (equations is js)))
        (conj-from v (map (translate w a []) (equations is js))
        (each-map (translate w a []) (equations is js) (IsTrueAt v) (equations_true is js e)))

    pub true_same : (is js : List Idx) → length is ≡ length js → Holds (same_indices is js)
        → idx_values a [] is ≡ idx_values a [] js
    true_same is js l h =
        equations_same is js l (λ t i.
        conj-to v (map (translate w a []) (equations is js))
        (subst (IsTrueAt v) (conj-means [] (equations is js)) h) (translate w a [] t)
        (member-map (translate w a []) (equations is js) t i))

    -- ---- chosen indices

    -- the values of binders around, where these numbers are chosen, the first for the outermost
    abbrev pub chosen : List ℕ → List Value → List Value
    chosen [] bs = bs
    chosen (x ∷ xs) bs = chosen xs (Number x ∷ bs)

    in_row : (n b k q : ℕ) → q ≡ b + k → k < n → Member (count b n) q
    in_row zero b k q e h = absurd (omega arith)
    in_row (suc n) b zero q e h =
        let f : b ≡ q = omega (arith, e) in subst (Member (b ∷ count (suc b) n)) f here
    in_row (suc n) b (suc k) q e h =
        there (in_row n (suc b) k q (omega (arith, e)) (omega arith))

    number_there : (x : ℕ) → nat_lt x w.times.indices ≡ true
        → Member (domain w.times Index) (Number x)
    number_there x h =
        let b : x < w.times.indices = grind (arith, nat_tests) in
        member-map Number (count 0 w.times.indices) x (in_row w.times.indices 0 x x (omega arith) b)

    pub some_true : (xs : List ℕ) (bs : List Value) (t : TermTree)
        → are_below w.times.indices xs ≡ true → IsTrueAt v (translate w a (chosen xs bs) t)
        → IsTrueAt v (translate w a bs (some_indices (length xs) t))
    some_true [] bs t b h = h
    some_true (x ∷ xs) bs t b h =
        let p = and_split (nat_lt x w.times.indices) (are_below w.times.indices xs) b in
        disj-from v
        (map (λ y. translate w a (y ∷ bs) (some_indices (length xs) t)) (domain w.times Index))
        (translate w a (Number x ∷ bs) (some_indices (length xs) t))
        (member-map (λ y. translate w a (y ∷ bs) (some_indices (length xs) t))
        (domain w.times Index) (Number x) (number_there x p.0))
        (some_true xs (Number x ∷ bs) t p.1 h)

    behind : (xs : List ℕ) (bs : List Value) (k n : ℕ) → n ≡ length xs + k
        → get_or (chosen xs bs) n nothing ≡ get_or bs k nothing
    behind [] bs k n e = let f : n ≡ k = omega (arith, e) in ap (λ q. get_or bs q nothing) f
    behind (x ∷ xs) bs k n e = behind xs (Number x ∷ bs) (suc k) n (omega (arith, e))

    pub chosen_values : (xs : List ℕ) (bs : List Value)
        → idx_values a (chosen xs bs) (indices_of_binders (length xs)) ≡ xs
    chosen_values [] bs = refl
    chosen_values (x ∷ xs) bs =
        let f : number_of (get_or (chosen xs (Number x ∷ bs)) (length xs) nothing) ≡ x =
        ap number_of (behind xs (Number x ∷ bs) 0 (length xs) (omega arith)) in
        cc (f, chosen_values xs (Number x ∷ bs))
