-- The fact that is computed of a term is the fact of its shape.
use Rattle.std.proofs.Common.{◌≡◌, ℕ, suc, ◌==◌, refl, sym, ap, ◌∙◌, subst, List, [], Option, Some}
use Rattle.std.proofs.Common.{None, Bool, true, false, ◌&&◌}
use Rattle.std.specs.Prelude.{if◌then◌else◌}
use Rattle.std.proofs.lemmas.Bool.{eqb-true}
use Rattle.sq_base.specs.declared.sort.Sort.{Sort}
use Rattle.sq_base.specs.declared.sort.Sort.TheVariants.{Message, Boolean}
use Rattle.sq_term.specs.declared.signature.FunDecl.{FunDecl}
use Rattle.sq_term.specs.Formulas.{unary, binary, ternary, equal, conditional, pair, first, second}
use Rattle.sq_term.specs.Formulas.{of_bool}
use Rattle.sq_term.specs.Signatures.{declared_at, is_sign, is_check, is_signature}
use Rattle.sq_term.specs.Symbols.{declared}
use Rattle.sq_term.specs.Syntax.{TermTree, fun, find, TermTrees, nil, cons}
use Rattle.sq_term.specs.TreeEquality.{is_same_tree}
use Rattle.sq_term.proofs.BoolTests.{and_split, and_both, number_itself}
use Rattle.sq_term.proofs.SameTrees.{is_same_tree-decides}
use Rattle.sq_formula.specs.Facts.{conditional_fact, boolean_fact, find_fact}
use Rattle.sq_formula.specs.FactSearch.{part_of, part_fact}
use Rattle.sq_formula.specs.FactSearch.{arguments_of, accepts_parts, accepts, check_fact}
use Rattle.sq_formula.specs.FactSearch.{fact_by_shape}
use Rattle.sq_formula.specs.FactSearch.{fact_of, fact_sort}
use Rattle.sq_formula.specs.Facts.{HasFact, signed}

-- ---- signatures

same : (t : TermTree) → is_same_tree t t ≡ true
same t = (is_same_tree-decides t t).1 refl

arguments-there : (k : ℕ) (ts : TermTrees) → arguments_of k (fun (declared k) [] ts) ≡ Some ts
arguments-there k ts = ap (λ b. if b then Some ts else None) (number_itself k)

accepted : (k : ℕ) (m key : TermTree)
    → accepts k m (binary (declared k) m key) (unary (declared (suc (suc k))) key) ≡ true
accepted k m key =
    ap (λ o. accepts_parts m o (arguments_of (suc (suc k)) (unary (declared (suc (suc k))) key)))
    (arguments-there k (cons m (cons key nil)))
    ∙ (ap (accepts_parts m (Some (cons m (cons key nil))))
    (arguments-there (suc (suc k)) (cons key nil))
    ∙ and_both (is_same_tree m m) (is_same_tree key key) (same m) (same key))

-- an application of the declared function with these arguments
arguments-are : (k : ℕ) (t : TermTree) (ts : TermTrees) → arguments_of k t ≡ Some ts
    → t ≡ fun (declared k) [] ts
arguments-are k (fun (declared i) [] us) ts e = go (i == k) refl e
  where
    go : (b : Bool) → (i == k) ≡ b → (if b then Some us else None) ≡ Some ts
        → fun (declared i) [] us ≡ fun (declared k) [] ts
    go true q r =
        let z : i ≡ k = eqb-true i k q in
        let w : us ≡ ts = cc in
        ap (λ n. fun (declared n) [] us) z ∙ ap (fun (declared k) []) w
    go false q r = absurd (cc)
arguments-are k _ ts e = absurd (cc)

parts-are : (m : TermTree) (o q : Option TermTrees) → accepts_parts m o q ≡ true
    → (key : TermTree) × (o ≡ Some (cons m (cons key nil))) × (q ≡ Some (cons key nil))
parts-are m (Some (cons n (cons k nil))) (Some (cons l nil)) e =
    let h = and_split (is_same_tree m n) (is_same_tree k l) e in
    let x : m ≡ n = (is_same_tree-decides m n).0 h.0 in
    let y : k ≡ l = (is_same_tree-decides k l).0 h.1 in
    (k, ap (λ z. Some (cons z (cons k nil))) (sym x), ap (λ z. Some (cons z nil)) (sym y))
parts-are m _ _ e = let z : false ≡ true = e in absurd (cc)

-- ---- both ways

module _ (funs : List FunDecl) where
  check-role : (k : ℕ) → is_signature funs k ≡ true → fact_sort funs (fun (declared (suc k)) [] nil)
      ≡ Boolean
  unfolding fact_sort
  check-role k e =
      let h = and_split (is_sign (declared_at funs k).role) _ e in
      ap (λ b. if b then Boolean else Message)
      (and_split (is_check (declared_at funs (suc k)).role) _ h.1).0

  pub fact-is : (x : Sort) (t F : TermTree) → HasFact funs x t F
      → (fact_sort funs t ≡ x) × (fact_of funs t ≡ Some F)
  unfolding fact_sort fact_of fact_by_shape part_of
  fact-is _ _ _ (HasFact.of_conditional b u v) = (refl, refl)
  fact-is _ _ _ (HasFact.of_first u v) = (refl, refl)
  fact-is _ _ _ (HasFact.of_second u v) = (refl, refl)
  fact-is _ _ _ (HasFact.of_boolean b) = (refl, refl)
  fact-is _ _ _ (HasFact.of_signature f m k e) = (
    check-role f e,
    ap (λ b. if b then Some (signed f m k) else None)
        (and_both (is_signature funs f) _ e (accepted f m k)),
  )
  fact-is _ _ _ (HasFact.of_find c F u v) = (refl, refl)

  signed-shape : (k : ℕ) (m s p F : TermTree) (b : Bool) → (is_signature funs k && accepts k m s p)
      ≡ b
      → (if b then Some (ternary (declared (suc k)) m s p) else None) ≡ Some F
      → HasFact funs Boolean (ternary (declared (suc k)) m s p) F
  signed-shape k m s p F false q e = absurd (cc)
  signed-shape k m s p F true q e =
      let h = and_split (is_signature funs k) (accepts k m s p) q in
      let a = parts-are m (arguments_of k s) (arguments_of (suc (suc k)) p) h.1 in
      let x : s ≡ binary (declared k) m a.0 = arguments-are k s (cons m (cons a.0 nil)) a.1 in
      let y : p ≡ unary (declared (suc (suc k))) a.0 =
      arguments-are (suc (suc k)) p (cons a.0 nil) a.2 in
      let t : ternary (declared (suc k)) m s p ≡ signed k m a.0 =
      ap (λ z. ternary (declared (suc k)) m z p) x
      ∙ ap (ternary (declared (suc k)) m (binary (declared k) m a.0)) y in
      let w : F ≡ ternary (declared (suc k)) m s p = cc in
      subst (λ z. HasFact funs Boolean (ternary (declared (suc k)) m s p) z) (sym w)
      (subst (λ z. HasFact funs Boolean z z) (sym t) (HasFact.of_signature k m a.0 h.0))

  is-check : (k : ℕ) (m s p F : TermTree) (b : Bool) → (is_signature funs k && accepts k m s p) ≡ b
      → (if b then Some (ternary (declared (suc k)) m s p) else None) ≡ Some F
      → fact_sort funs (ternary (declared (suc k)) m s p) ≡ Boolean
  unfolding fact_sort
  is-check k m s p F false q e = absurd (cc)
  is-check k m s p F true q e = check-role k (and_split (is_signature funs k) (accepts k m s p) q).0

  check-shape : (k : ℕ) (ts : TermTrees) (F : TermTree)
      → check_fact funs k (fun (declared k) [] ts) ts ≡ Some F
      → HasFact funs (fact_sort funs (fun (declared k) [] ts)) (fun (declared k) [] ts) F
  check-shape (suc k) (cons m (cons s (cons p nil))) F e =
      subst (λ x. HasFact funs x (ternary (declared (suc k)) m s p) F)
      (sym (is-check k m s p F (is_signature funs k && accepts k m s p) refl e))
      (signed-shape k m s p F (is_signature funs k && accepts k m s p) refl e)
  check-shape _ _ F e = absurd (cc)

  first-shape : (p F : TermTree) → part_fact (first p) (part_of true p) ≡ Some F
      → HasFact funs Message (first p) F
  unfolding part_of
  first-shape (pair u v) F e =
      let z : F ≡ equal (first (pair u v)) u = cc in
      subst (HasFact funs Message (first (pair u v))) (sym z) (HasFact.of_first u v)
  first-shape _ F e = absurd (cc)

  second-shape : (p F : TermTree) → part_fact (second p) (part_of false p) ≡ Some F
      → HasFact funs Message (second p) F
  unfolding part_of
  second-shape (pair u v) F e =
      let z : F ≡ equal (second (pair u v)) v = cc in
      subst (HasFact funs Message (second (pair u v))) (sym z) (HasFact.of_second u v)
  second-shape _ F e = absurd (cc)

  pub fact-shape : (t F : TermTree) → fact_of funs t ≡ Some F → HasFact funs (fact_sort funs t) t F
  unfolding fact_sort fact_of fact_by_shape part_of
  fact-shape (conditional b u v) F e =
      let z : F ≡ conditional_fact (conditional b u v) b u v = cc in
      subst (HasFact funs Message (conditional b u v)) (sym z) (HasFact.of_conditional b u v)
  fact-shape (first p) F e = first-shape p F e
  fact-shape (second p) F e = second-shape p F e
  fact-shape (of_bool b) F e =
      let z : F ≡ boolean_fact (of_bool b) b = cc in
      subst (HasFact funs Message (of_bool b)) (sym z) (HasFact.of_boolean b)
  fact-shape (fun (declared k) [] ts) F e = check-shape k ts F e
  fact-shape (find c G u v) F e =
      let z : F ≡ find_fact (find c G u v) c G u v = cc in
      subst (HasFact funs Message (find c G u v)) (sym z) (HasFact.of_find c G u v)
  fact-shape _ F e = absurd (cc)
