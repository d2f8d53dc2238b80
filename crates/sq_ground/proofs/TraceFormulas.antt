-- A trace formula means the same on both sides and under each valuation.
use Rattle.std.proofs.Common.{◌≡◌, refl, sym, ap, ◌∙◌, subst, ℕ, suc, List, [], ◌∷◌, length, map}
use Rattle.std.proofs.Common.{Bool, true, false, arith}
use Rattle.std.specs.Prelude.{Option, ◌&&◌}
use Rattle.std.proofs.lemmas.Bool.{eqb-true}
use Rattle.sq_term.specs.Macros.{GroundMacro}
use Rattle.sq_term.specs.Measure.{count_terms}
use Rattle.sq_term.specs.declared.model.Value.{Value}
use Rattle.sq_term.specs.Lists.{here, there, Each}
use Rattle.sq_term.specs.Symbols.{Kind, truth, falsity, negation, conjunction, disjunction}
use Rattle.sq_term.specs.Symbols.{implication}
use Rattle.sq_term.specs.Syntax.{TermTree, name, fun, macro, schema, diff, le, ts_eq, idx_eq}
use Rattle.sq_term.specs.Syntax.{happens, all, some, find, TermTrees, nil, cons}
use Rattle.sq_term.specs.Ground.{Ground, applied}
use Rattle.sq_term.specs.GroundFormulas.{truth_of, conj, disj_of_all}
use Rattle.sq_term.specs.Translate.{World, Assignment, idx_values, domain, translate, translate_all}
use Rattle.sq_term.specs.Pure.{is_connective, has_no_indices, is_binder_sort, is_pure, are_pure}
use Rattle.sq_term.proofs.Lists.{map_same}
use Rattle.sq_term.proofs.Members.{each-map}
use Rattle.sq_term.proofs.BoolTests.{and_split}
use Rattle.sq_ground.specs.Truth.{table, value, values}
use Rattle.sq_ground.specs.Theories.{world_at}
use Rattle.sq_ground.specs.Laws.{TraceFormulasHaveOneTruth}

no_false : {P : Type 0} → false ≡ true → P
no_false e = absurd (let f : false ≡ true = e in cc)

module _ (w : World) (m : GroundMacro → Option ℕ → Ground) (l : Bool) (a : Assignment) where
  mutual
    pub pure_sides : (t : TermTree) (bs : List Value) → is_pure t ≡ true
        → translate (record { times = w.times; values = m; left = l }) a bs t ≡ translate w a bs t
    pure_sides (name n is) bs h = no_false h
    pure_sides (fun f is ts) bs h =
        let s : (is_connective f (count_terms ts) ≡ true)
        × ((has_no_indices is && are_pure ts) ≡ true) =
        and_split (is_connective f (count_terms ts)) _ h in
        ap (applied f (idx_values a bs is))
        (pure_sides_all ts bs (and_split (has_no_indices is) (are_pure ts) s.1).1)
    pure_sides (macro r t) bs h = no_false h
    pure_sides (schema k) bs h = no_false h
    pure_sides (diff t u) bs h = no_false h
    pure_sides (le t s) bs h = refl
    pure_sides (ts_eq t s) bs h = refl
    pure_sides (idx_eq i j) bs h = refl
    pure_sides (happens t) bs h = refl
    pure_sides (all s body) bs h =
        ap conj (map_same _ _ (domain w.times s)
        (λ x i. pure_sides body (x ∷ bs) (and_split (is_binder_sort s) (is_pure body) h).1))
    pure_sides (some s body) bs h =
        ap disj_of_all
        (map_same _ _ (domain w.times s)
        (λ x i. pure_sides body (x ∷ bs) (and_split (is_binder_sort s) (is_pure body) h).1))
    pure_sides (find c test found other) bs h = no_false h

    pub pure_sides_all : (ts : TermTrees) (bs : List Value) → are_pure ts ≡ true
        → translate_all (record { times = w.times; values = m; left = l }) a bs ts
        ≡ translate_all w a bs ts
    pure_sides_all nil bs h = refl
    pure_sides_all (cons t ts) bs h =
        let s : (is_pure t ≡ true) × (are_pure ts ≡ true) = and_split (is_pure t) (are_pure ts) h in
        cc (pure_sides t bs s.0, pure_sides_all ts bs s.1)

-- a connective's table says all
table_same : (k : Kind) (xs : List Bool) (p q : Bool) → is_connective k (length xs) ≡ true
    → table k xs p ≡ table k xs q
table_same truth [] p q h = refl
table_same truth (x ∷ xs) p q h =
    absurd (let e : suc (length xs) ≡ 0 = eqb-true _ _ h in omega arith)
table_same falsity [] p q h = refl
table_same falsity (x ∷ xs) p q h =
    absurd (let e : suc (length xs) ≡ 0 = eqb-true _ _ h in omega arith)
table_same negation [] p q h = no_false h
table_same negation (x ∷ []) p q h = refl
table_same negation (x ∷ y ∷ xs) p q h =
    absurd (let e : suc (suc (length xs)) ≡ 1 = eqb-true _ _ h in omega arith)
table_same conjunction [] p q h = no_false h
table_same conjunction (x ∷ []) p q h = no_false h
table_same conjunction (x ∷ y ∷ []) p q h = refl
table_same conjunction (x ∷ y ∷ z ∷ xs) p q h =
    absurd (let e : suc (suc (suc (length xs))) ≡ 2 = eqb-true _ _ h in omega arith)
table_same disjunction [] p q h = no_false h
table_same disjunction (x ∷ []) p q h = no_false h
table_same disjunction (x ∷ y ∷ []) p q h = refl
table_same disjunction (x ∷ y ∷ z ∷ xs) p q h =
    absurd (let e : suc (suc (suc (length xs))) ≡ 2 = eqb-true _ _ h in omega arith)
table_same implication [] p q h = no_false h
table_same implication (x ∷ []) p q h = no_false h
table_same implication (x ∷ y ∷ []) p q h = refl
table_same implication (x ∷ y ∷ z ∷ xs) p q h =
    absurd (let e : suc (suc (suc (length xs))) ≡ 2 = eqb-true _ _ h in omega arith)
table_same _ xs p q h = no_false h

pub value-truth_of : (v : Ground → Bool) (b : Bool) → value v (truth_of b) ≡ b
value-truth_of v true = refl
value-truth_of v false = refl

conj_same : (u v : Ground → Bool) (xs : List Ground) → Each (λ x. value u x ≡ value v x) xs
    → value u (conj xs) ≡ value v (conj xs)
conj_same u v [] h = refl
conj_same u v (x ∷ []) h = h x here
conj_same u v (x ∷ y ∷ xs) h = cc (h x here, conj_same u v (y ∷ xs) (λ z i. h z (there i)))

disj_same : (u v : Ground → Bool) (xs : List Ground) → Each (λ x. value u x ≡ value v x) xs
    → value u (disj_of_all xs) ≡ value v (disj_of_all xs)
disj_same u v [] h = refl
disj_same u v (x ∷ []) h = h x here
disj_same u v (x ∷ y ∷ xs) h = cc (h x here, disj_same u v (y ∷ xs) (λ z i. h z (there i)))

module _ (w : World) (a : Assignment) (u v : Ground → Bool) where
  length-values : (bs : List Value) (ts : TermTrees) → length (values u (translate_all w a bs ts))
      ≡ count_terms ts
  length-values bs nil = refl
  length-values bs (cons t ts) =
      let e : length (values u (translate_all w a bs ts)) ≡ count_terms ts =
      length-values bs ts in omega (arith, e)

  mutual
    pub pure_value : (t : TermTree) (bs : List Value) → is_pure t ≡ true
        → value u (translate w a bs t) ≡ value v (translate w a bs t)
    pure_value (name n is) bs h = no_false h
    pure_value (fun f is ts) bs h =
        let s : (is_connective f (count_terms ts) ≡ true)
        × ((has_no_indices is && are_pure ts) ≡ true) =
        and_split (is_connective f (count_terms ts)) _ h in
        table_same f (values u (translate_all w a bs ts)) (u (translate w a bs (fun f is ts)))
        (v (translate w a bs (fun f is ts)))
        (subst (λ n. is_connective f n ≡ true) (sym (length-values bs ts)) s.0)
        ∙ ap (λ xs. table f xs (v (translate w a bs (fun f is ts))))
        (pure_values ts bs (and_split (has_no_indices is) (are_pure ts) s.1).1)
    pure_value (macro r t) bs h = no_false h
    pure_value (schema k) bs h = no_false h
    pure_value (diff t u) bs h = no_false h
    pure_value (le t s) bs h = value-truth_of u _ ∙ sym (value-truth_of v _)
    pure_value (ts_eq t s) bs h = value-truth_of u _ ∙ sym (value-truth_of v _)
    pure_value (idx_eq i j) bs h = value-truth_of u _ ∙ sym (value-truth_of v _)
    pure_value (happens t) bs h = value-truth_of u _ ∙ sym (value-truth_of v _)
    pure_value (all s body) bs h =
        conj_same u v (map (λ x. translate w a (x ∷ bs) body) (domain w.times s))
        (each-map (λ x. translate w a (x ∷ bs) body) (domain w.times s) (λ x. value u x ≡ value v x)
        (λ x i. pure_value body (x ∷ bs) (and_split (is_binder_sort s) (is_pure body) h).1))
    pure_value (some s body) bs h =
        disj_same u v (map (λ x. translate w a (x ∷ bs) body) (domain w.times s))
        (each-map (λ x. translate w a (x ∷ bs) body) (domain w.times s) (λ x. value u x ≡ value v x)
        (λ x i. pure_value body (x ∷ bs) (and_split (is_binder_sort s) (is_pure body) h).1))
    pure_value (find c test found other) bs h = no_false h

    pub pure_values : (ts : TermTrees) (bs : List Value) → are_pure ts ≡ true
        → values u (translate_all w a bs ts) ≡ values v (translate_all w a bs ts)
    pure_values nil bs h = refl
    pure_values (cons t ts) bs h =
        let s : (is_pure t ≡ true) × (are_pure ts ≡ true) = and_split (is_pure t) (are_pure ts) h in
        cc (pure_value t bs s.0, pure_values ts bs s.1)

-- on each side and under each valuation a trace formula has its one truth
pub one_truth : TraceFormulasHaveOneTruth
one_truth th a t h left v =
    ap (value v) (pure_sides (world_at th true) (th.values left) left a t [] h)
    ∙ pure_value (world_at th true) a v (λ x. false) t [] h
