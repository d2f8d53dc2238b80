-- Sorts of ground terms of the built-in functions.
use Rattle.std.proofs.Common.{◌≡◌, refl, sym, ap, ◌∙◌, subst, ℕ, zero, suc, List, [], ◌∷◌, Bool}
use Rattle.std.proofs.Common.{true, false, ◌&&◌, ◌==◌, slice_get, Some, None}
use Rattle.std.proofs.lemmas.Bool.{eqb-true}
use Rattle.sq_base.specs.declared.sort.Sort.{Sort}
use Rattle.sq_base.specs.declared.sort.Sort.TheVariants.{Message, Boolean}
use Rattle.sq_term.specs.declared.signature.FunDecl.{FunDecl}
use Rattle.sq_term.specs.declared.signature.FunRole.{FunRole}
use Rattle.sq_term.specs.declared.signature.FunRole.TheVariants.{Plain, Hash, Sign, Check, Pk}
use Rattle.sq_term.specs.Symbols as kind
use Rattle.sq_term.specs.Symbols.{Kind, function_number}
use Rattle.sq_term.specs.Ground.{Ground, applied, Grounds, none, more}
use Rattle.sq_term.specs.GroundFormulas.{truth, falsity, both, either, conditional, pair, of_bool}
use Rattle.sq_term.specs.GroundFormulas.{attacked, empty, truth_of, conj, disj_of_all}
use Rattle.sq_term.specs.Lists.{Each, here, there}
use Rattle.sq_term.specs.TreeEquality.{is_same_sort}
use Rattle.sq_term.proofs.BoolTests.{and_split, and_both}
use Rattle.sq_term.proofs.SameTrees.{is_same_sort-decides}
use Rattle.sq_typing.specs.Functions.{plain_function, builtin_functions, begins_with, same_role}
use Rattle.sq_typing.specs.Functions.{same_function, are_functions}
use Rattle.sq_typing.specs.Typing.{applies, result_sort}
use Rattle.sq_ground.specs.Conclusions.{count_grounds}
use Rattle.sq_ground.specs.GroundSorts.{has_ground_sort, have_ground_sorts}

same_role-true : (r s : FunRole) → same_role r s ≡ true → r ≡ s
same_role-true Plain Plain h = refl
same_role-true Hash Hash h = refl
same_role-true Sign Sign h = refl
same_role-true Check Check h = refl
same_role-true Pk Pk h = refl
same_role-true _ _ h = absurd (let f : false ≡ true = h in cc)

same_function-true : (d e : FunDecl) → same_function d e ≡ true → d ≡ e
same_function-true d e h =
    let p = and_split (d.idx == e.idx) _ h in
    let q = and_split (d.args == e.args) _ p.1 in
    let r = and_split (is_same_sort d.result e.result) (same_role d.role e.role) q.1 in
    let idx : d.idx ≡ e.idx = eqb-true d.idx e.idx p.0 in
    let args : d.args ≡ e.args = eqb-true d.args e.args q.0 in
    let result : d.result ≡ e.result = (is_same_sort-decides d.result e.result).0 r.0 in
    let role : d.role ≡ e.role = same_role-true d.role e.role r.1 in
    λ i. record { idx = idx i; args = args i; result = result i; role = role i }

builtin_among : (bs fs : List FunDecl) (k : ℕ) (b : FunDecl) → begins_with bs fs ≡ true
    → slice_get bs k ≡ Some b → slice_get fs k ≡ Some b
builtin_among [] fs k b h e = absurd (let f : None ≡ Some b = e in cc)
builtin_among (x ∷ bs) [] k b h e = absurd (let f : false ≡ true = h in cc)
builtin_among (x ∷ bs) (y ∷ fs) zero b h e =
    ap Some (sym (same_function-true x y (and_split (same_function x y) (begins_with bs fs) h).0))
    ∙ e
builtin_among (x ∷ bs) (y ∷ fs) (suc k) b h e =
    builtin_among bs fs k b (and_split (same_function x y) (begins_with bs fs) h).1 e

module _ (funs : List FunDecl) (ok : are_functions funs ≡ true) where
  abbrev pub Has : Sort → Ground → Type 0
  Has s t = has_ground_sort funs s t ≡ true

  -- a built-in function on its arguments
  built : (f : Kind) (n : ℕ) (s : Sort) (ts : Grounds)
      → slice_get builtin_functions (function_number f) ≡ Some (plain_function n s)
      → is_same_sort s s ≡ true → (n == count_grounds ts) ≡ true
      → have_ground_sorts funs f 0 ts ≡ true → Has s (applied f [] ts)
  built f n s ts e same counts args =
      let there' : slice_get funs (function_number f) ≡ Some (plain_function n s) =
      builtin_among builtin_functions funs (function_number f) (plain_function n s) ok e in
      subst (λ o. (is_same_sort (result_sort o) s
      && (applies o 0 (count_grounds ts) && have_ground_sorts funs f 0 ts)) ≡ true)
      (sym there')
      (and_both (is_same_sort s s) _ same (and_both (n == count_grounds ts) _ counts args))

  two : (p q : Bool) → p ≡ true → q ≡ true → (p && (q && true)) ≡ true
  two p q e f = and_both p (q && true) e (and_both q true f refl)

  pub truth_sort : Has Boolean truth
  truth_sort = built kind.truth 0 Boolean none refl refl refl refl

  pub falsity_sort : Has Boolean falsity
  falsity_sort = built kind.falsity 0 Boolean none refl refl refl refl

  pub truth_of_sort : (b : Bool) → Has Boolean (truth_of b)
  truth_of_sort true = truth_sort
  truth_of_sort false = falsity_sort

  pub empty_sort : Has Message empty
  empty_sort = built kind.empty 0 Message none refl refl refl refl

  pub both_sort : (x y : Ground) → Has Boolean x → Has Boolean y → Has Boolean (both x y)
  both_sort x y p q =
      built kind.conjunction 2 Boolean (more x (more y none)) refl refl refl (two _ _ p q)

  pub either_sort : (x y : Ground) → Has Boolean x → Has Boolean y → Has Boolean (either x y)
  either_sort x y p q =
      built kind.disjunction 2 Boolean (more x (more y none)) refl refl refl (two _ _ p q)

  pub pair_sort : (x y : Ground) → Has Message x → Has Message y → Has Message (pair x y)
  pair_sort x y p q =
      built kind.pairing 2 Message (more x (more y none)) refl refl refl (two _ _ p q)

  pub of_bool_sort : (x : Ground) → Has Boolean x → Has Message (of_bool x)
  of_bool_sort x p =
      built kind.of_bool 1 Message (more x none) refl refl refl (and_both _ true p refl)

  pub attacked_sort : (x : Ground) → Has Message x → Has Message (attacked x)
  attacked_sort x p =
      built kind.attacker 1 Message (more x none) refl refl refl (and_both _ true p refl)

  pub conditional_sort : (c x y : Ground) → Has Boolean c → Has Message x → Has Message y
      → Has Message (conditional c x y)
  conditional_sort c x y p q r =
      built kind.conditional 3 Message (more c (more x (more y none))) refl refl refl
      (and_both _ _ p (two _ _ q r))

  pub conj_sort : (xs : List Ground) → Each (Has Boolean) xs → Has Boolean (conj xs)
  conj_sort [] h = truth_sort
  conj_sort (x ∷ []) h = h x here
  conj_sort (x ∷ y ∷ xs) h =
      both_sort x (conj (y ∷ xs)) (h x here) (conj_sort (y ∷ xs) (λ z i. h z (there i)))

  pub disj_sort : (xs : List Ground) → Each (Has Boolean) xs → Has Boolean (disj_of_all xs)
  disj_sort [] h = falsity_sort
  disj_sort (x ∷ []) h = h x here
  disj_sort (x ∷ y ∷ xs) h =
      either_sort x (disj_of_all (y ∷ xs)) (h x here) (disj_sort (y ∷ xs) (λ z i. h z (there i)))
