-- Places that are judged one after another.
use Rattle.std.proofs.Common.{◌≡◌, ◌≢◌, ◌<◌, ◌+◌, ◌-◌, ℕ, zero, suc, List, [], ◌∷◌, ◌++◌, take}
use Rattle.std.proofs.Common.{length, Option, Some, None, true, false, nat_lt, refl, sym}
use Rattle.std.proofs.Common.{drop, get_or, ◌⊎◌, inl, inr, ap, ◌∙◌, subst, arith}
use Rattle.std.specs.Prelude.{Result, Ok, Err, IsErrAnd}
use Rattle.std.proofs.lemmas.List.{append_assoc}
use Rattle.std.proofs.lemmas.Bool.Decides.{nat_tests}
use Rattle.sq_base.specs.declared.sort.Sort.{Sort}
use Rattle.sq_base.specs.declared.sort.Sort.TheVariants.{Message, Boolean, Index, Timestamp}
use Rattle.sq_ast.specs.declared.formula.Formula.{Formula}
use Rattle.sq_ast.specs.View.{formula_tree, formula_trees}
use Rattle.sq_ast.specs.Tree.{FormulaTree, quantified, binary, group, pair, constant}
use Rattle.sq_ast.specs.Tree.{conditional, find, diff, unary, value, name, apply, FormulaTrees}
use Rattle.sq_ast.specs.Tree.{more}
use Rattle.sq_term.specs.declared.term.Idx.{Idx}
use Rattle.sq_typing.specs.Functions.{is_value_sort}
use Rattle.sq_resolve.specs.declared.fault.ResolveFault.{ResolveFault}
use Rattle.sq_resolve.specs.declared.fault.ResolveFault.TheVariants.{NoMemory}
use Rattle.sq_resolve.specs.Among.{Tells, Judges, behind, argument_sort}
use Rattle.sq_resolve.specs.Places.{Place, identifier_fault, own_fault, places, argument_places}
use Rattle.sq_resolve.specs.Places.{first_fault, fault_of}
use Rattle.sq_resolve.specs.Resolved.{Moment, Value, judged, as_index, as_moment, as_value}
use Rattle.sq_resolve.specs.Scopes.{Variable, Context, first_some, meaning}
use Rattle.sq_resolve.proofs.PlaceLaws.{first_append, index_name, moment_name, identifier_alone}
use Rattle.sq_resolve.proofs.PlaceLaws.{value_stands}
use Rattle.sq_resolve.proofs.Rows.{drop_next}

-- ---- an identifier, where this sort is wanted

module _ (c : Context) (bs : List Variable) (x : List ℕ) (n : ℕ) where
  abbrev own : Sort → Option ResolveFault
  own w = identifier_fault w x n (meaning c bs x)

  pub index_known : (i : Idx) → judged as_index Index x n (meaning c bs x) ≡ Ok i
      → own Index ≡ None
  index_known i e = sym (index_name c bs x n) ∙ ap fault_of e

  pub index_unknown : (e : ResolveFault) → judged as_index Index x n (meaning c bs x) ≡ Err e
      → own Index ≡ Some e
  index_unknown e h = sym (index_name c bs x n) ∙ ap fault_of h

  pub moment_known : (m : Moment) → judged as_moment Timestamp x n (meaning c bs x) ≡ Ok m
      → own Timestamp ≡ None
  moment_known m e = sym (moment_name c bs x n) ∙ ap fault_of e

  pub moment_unknown : (e : ResolveFault)
      → judged as_moment Timestamp x n (meaning c bs x) ≡ Err e → own Timestamp ≡ Some e
  moment_unknown e h = sym (moment_name c bs x n) ∙ ap fault_of h

  value_fault : (w : Sort) → is_value_sort w ≡ true
      → fault_of (judged (as_value w) w x n (meaning c bs x)) ≡ own w
  value_fault w s =
      identifier_alone c (as_value w) w bs x n (meaning c bs x) (value_stands c w s)

  value_sort : (w : Sort) → (w ≡ Message) ⊎ (w ≡ Boolean) → is_value_sort w ≡ true
  value_sort w (inl e) = ap is_value_sort e
  value_sort w (inr e) = ap is_value_sort e

  pub value_known : (w : Sort) (v : Value) → (w ≡ Message) ⊎ (w ≡ Boolean)
      → judged (as_value w) w x n (meaning c bs x) ≡ Ok v → own w ≡ None
  value_known w v s e = sym (value_fault w (value_sort w s)) ∙ ap fault_of e

  pub value_unknown : (w : Sort) (e : ResolveFault) → (w ≡ Message) ⊎ (w ≡ Boolean)
      → judged (as_value w) w x n (meaning c bs x) ≡ Err e → own w ≡ Some e
  value_unknown w e s h = sym (value_fault w (value_sort w s)) ∙ ap fault_of h

pub above_zero : (n : ℕ) → n ≢ 0 → 0 < n
above_zero zero h = absurd (h refl)
above_zero (suc n) h = omega arith

-- an error that is handed on
pub tells_error : {A : Type 0} (r : Result A ResolveFault) (e : ResolveFault)
    (o : Option ResolveFault) → IsErrAnd r (λ x. x ≡ e) → (e ≢ NoMemory → o ≡ Some e) → Tells r o
tells_error (Ok a) e o same h = absurd same
tells_error {A} (Err x) e o same h =
    subst (λ (y : ResolveFault). Tells {A = A} (Err y) o) (sym same) h

-- ---- several places

module _ (c : Context) where
  take_append : (n : ℕ) (ps qs : List Place)
      → take n (ps ++ qs) ≡ take n ps ++ take (n - length ps) qs
  take_append zero [] qs = let e : 0 ≡ 0 - 0 = omega arith in ap (λ k. take k qs) e
  take_append (suc n) [] qs = let e : suc n ≡ suc n - 0 = omega arith in ap (λ k. take k qs) e
  take_append zero (p ∷ ps) qs = let e : 0 ≡ 0 - suc (length ps) =
      omega arith in ap (λ k. take k qs) e
  take_append (suc n) (p ∷ ps) qs =
      let e : n - length ps ≡ suc n - suc (length ps) = omega arith in
      ap (λ l. p ∷ l) (take_append n ps qs)
      ∙ ap (λ k. p ∷ (take n ps ++ take k qs)) e

  fault_append : (n : ℕ) (ps qs : List Place)
      → first_fault c (take n (ps ++ qs))
      ≡ first_some (first_fault c (take n ps)) (first_fault c (take (n - length ps) qs))
  fault_append n ps qs =
      ap (first_fault c) (take_append n ps qs)
      ∙ first_append c (take n ps) (take (n - length ps) qs)

  lengths : (n k m : ℕ) (ps qs : List Place) → k ≡ n - length ps → m ≡ k - length qs
      → m ≡ n - length (ps ++ qs)
  lengths n k m ps qs d e = let l : length (ps ++ qs) ≡ length ps + length qs =
      length_append ps qs in omega arith
    where
      length_append : (ps qs : List Place) → length (ps ++ qs) ≡ length ps + length qs
      length_append [] qs = omega arith
      length_append (p ∷ ps) qs = let e = length_append ps qs in omega arith

  pub judges_then : (n k : ℕ) (ps qs : List Place) (r : Result ℕ ResolveFault)
      → Judges c n ps (Ok k) → Judges c k qs r → Judges c n (ps ++ qs) r
  judges_then n k ps qs (Ok m) h g =
      let at : first_fault c (take (n - length ps) qs) ≡ None =
      ap (λ j. first_fault c (take j qs)) (sym h.1) ∙ g.0 in (
        fault_append n ps qs ∙ (λ i. first_some (h.0 i) (at i)),
        lengths n k m ps qs h.1 g.1,
      )
  judges_then n k ps qs (Err e) h g = λ m.
      let at : first_fault c (take (n - length ps) qs) ≡ Some e =
      ap (λ j. first_fault c (take j qs)) (sym h.1) ∙ g m in
      fault_append n ps qs ∙ (λ i. first_some (h.0 i) (at i))

  pub judges_fault : (n : ℕ) (ps qs : List Place) (e : ResolveFault) → Judges c n ps (Err e)
      → Judges c n (ps ++ qs) (Err e)
  judges_fault n ps qs e h = λ m. fault_append n ps qs
      ∙ ap (λ o. first_some o (first_fault c (take (n - length ps) qs))) (h m)

  pub judges_nothing : (n : ℕ) → Judges c n [] (Ok n)
  judges_nothing n = (none_of n, omega arith)
    where
      none_of : (n : ℕ) → first_fault c (take n []) ≡ None
      none_of zero = refl
      none_of (suc n) = refl

  pub judges_none : (ps : List Place) → Judges c 0 ps (Ok 0)
  judges_none [] = (refl, omega arith)
  judges_none (p ∷ ps) = (refl, omega arith)

  pub judges_error : (n : ℕ) (ps : List Place) (r : Result ℕ ResolveFault) (e : ResolveFault)
      → IsErrAnd r (λ x. x ≡ e) → Judges c n ps (Err e) → Judges c n ps r
  judges_error n ps (Ok k) e same h = absurd same
  judges_error n ps (Err x) e same h =
      subst (λ (y : ResolveFault). Judges c n ps (Err y)) (sym same) h

  -- ---- the root of a tree and what is behind it

  root : (bs : List Variable) (w : Sort) (f : FormulaTree)
      → places c bs w f
      ≡ record { around = bs; want = w; tree = f } ∷ behind (places c bs w f)
  root bs w (quantified q gs a) = refl
  root bs w (binary o a b) = refl
  root bs w (group a) = refl
  root bs w (pair a b) = refl
  root bs w (constant k) = refl
  root bs w (conditional a b d) = refl
  root bs w (find ns a b d) = refl
  root bs w (diff a b) = refl
  root bs w (unary u a) = refl
  root bs w (value v a) = refl
  root bs w (name x) = refl
  root bs w (apply x xs) = refl

  pub root_fault : (n : ℕ) (bs : List Variable) (w : Sort) (f : FormulaTree) (e : ResolveFault)
      → 0 < n → (e ≢ NoMemory → own_fault c bs w f ≡ Some e) → Judges c n (places c bs w f) (Err e)
  root_fault zero bs w f e b h = absurd (omega arith)
  root_fault (suc n) bs w f e b h = λ m.
      ap (λ l. first_fault c (take (suc n) l)) (root bs w f)
      ∙ ap (λ o. first_some o (first_fault c (take n (behind (places c bs w f))))) (h m)

  after_root : (k : ℕ) (p : Place) (ps : List Place) (r : Result ℕ ResolveFault)
      → own_fault c p.around p.want p.tree ≡ None → Judges c k ps r
      → Judges c (suc k) (p ∷ ps) r
  after_root k p ps (Ok m) clear g =
      let e = g.1 in (
        ap (λ o. first_some o (first_fault c (take k ps))) clear ∙ g.0,
        omega arith,
      )
  after_root k p ps (Err e) clear g =
      λ m. ap (λ o. first_some o (first_fault c (take k ps))) clear ∙ g m

  pub root_then : (n k : ℕ) (bs : List Variable) (w : Sort) (f : FormulaTree)
      (r : Result ℕ ResolveFault) → n ≡ suc k → own_fault c bs w f ≡ None
      → Judges c k (behind (places c bs w f)) r → Judges c n (places c bs w f) r
  root_then n k bs w f r at clear h =
      subst (λ m. Judges c m (places c bs w f) r) (sym at)
      (subst (λ l. Judges c (suc k) l r) (sym (root bs w f))
      (after_root k (record { around = bs; want = w; tree = f }) (behind (places c bs w f)) r clear
      h))

  -- ---- arguments

  pub next_argument : (bs : List Variable) (at indices : ℕ) (a : FormulaTree) (xs : FormulaTrees)
      → argument_places c bs (indices - at) (more a xs)
      ≡ places c bs (argument_sort at indices) a ++ argument_places c bs (indices - (at + 1)) xs
  next_argument bs at indices a xs = by (indices - at) refl
    where
      by : (n : ℕ) → indices - at ≡ n
          → argument_places c bs (indices - at) (more a xs)
          ≡ places c bs (argument_sort at indices) a
          ++ argument_places c bs (indices - (at + 1)) xs
      by zero e =
          let past : nat_lt at indices ≡ false = grind (arith, nat_tests) in
          let rest : indices - (at + 1) ≡ 0 = omega arith in
          rw (e, past, rest) refl
      by (suc k) e =
          let before : nat_lt at indices ≡ true = grind (arith, nat_tests) in
          let rest : indices - (at + 1) ≡ k = omega arith in
          rw (e, before, rest) refl

  -- the arguments from a place on
  module _ (bs : List Variable) (n left indices at : ℕ) (args : List Formula) (x d : Formula)
      (ps : List Place) (within : at < length args) (is : x ≡ get_or args at d)
      (so_far : Judges c n ps (Ok left))
      (all : argument_places c bs indices (formula_trees args)
      ≡ ps ++ argument_places c bs (indices - at) (formula_trees (drop at args))) where
    abbrev here : List Place
    here = places c bs (argument_sort at indices) (formula_tree x)

    abbrev more_places : List Place
    more_places = argument_places c bs (indices - (at + 1)) (formula_trees (drop (at + 1) args))

    split : argument_places c bs indices (formula_trees args) ≡ ps ++ (here ++ more_places)
    split =
        let next : suc at ≡ at + 1 = omega arith in
        let first : drop at args ≡ x ∷ drop (at + 1) args =
        drop_next args at x d within is ∙ ap (λ (k : ℕ). x ∷ drop k args) next in
        all
        ∙ (ap (λ (l : List Formula). ps ++ argument_places c bs (indices - at) (formula_trees l))
        first
        ∙ ap (λ (l : List Place). ps ++ l)
        (next_argument bs at indices (formula_tree x) (formula_trees (drop (at + 1) args))))

    pub argument_fault : (e : ResolveFault) → Judges c left here (Err e)
        → Judges c n (argument_places c bs indices (formula_trees args)) (Err e)
    argument_fault e h =
        subst (λ (l : List Place). Judges c n l (Err e)) (sym split)
        (judges_then n left ps (here ++ more_places) (Err e) so_far
        (judges_fault left here more_places e h))

    pub argument_judged : (k : ℕ) → Judges c left here (Ok k)
        → (qs : List Place) × (Judges c n qs (Ok k)
        × (argument_places c bs indices (formula_trees args) ≡ qs ++ more_places))
    argument_judged k h = (
      ps ++ here,
      (
        judges_then n left ps here (Ok k) so_far h,
        split ∙ sym (append_assoc ps here more_places),
      ),
    )

pub ruleset judging_rules = (judges_none, root_fault, root_then)
