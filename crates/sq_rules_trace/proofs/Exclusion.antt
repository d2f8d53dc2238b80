-- Instances of one trace are separated by no choice on their paths.
use Rattle.std.proofs.Common.{◌≡◌, refl, sym, ap, ◌∙◌, subst, ℕ, zero, suc, ◌+◌, ◌<◌, ◌⊎◌, inl, inr}
use Rattle.std.proofs.Common.{List, [], ◌∷◌, ◌++◌, length, take, drop, Bool, true, false, arith}
use Rattle.std.specs.Prelude.{◌==◌, ◌&&◌, ◌||◌, not, Option, Some, None, slice_get}
use Rattle.std.specs.Prelude.{if◌then◌else◌}
use Rattle.std.specs.List.{list_any}
use Rattle.std.proofs.lemmas.Bool.Decides.{nat_tests}
use Rattle.sq_term.specs.declared.action.PathStep.{PathStep}
use Rattle.sq_term.specs.declared.action.PathStep.TheVariants.{Side, Rep, Branch, Found, NotFound}
use Rattle.sq_term.specs.declared.action.PathStep.TheVariants.{Done}
use Rattle.sq_term.specs.declared.model.Inst.{Inst}
use Rattle.sq_term.specs.declared.model.Model.{Model}
use Rattle.sq_term.specs.Lists.{Member, here, there, ElementAt, same_numbers, same_bit}
use Rattle.sq_term.specs.Models.{are_in_conflict, IsTraceModel}
use Rattle.sq_term.specs.Systems.{SystemTree, action_at, indices_bound, same_step, is_choice}
use Rattle.sq_term.specs.Systems.{in_conflict, Choice, found_choice, choices_from, clash}
use Rattle.sq_term.specs.Systems.{is_separated}
use Rattle.sq_term.proofs.BoolTests.{number_itself, same_numbers_itself, same_numbers-true}
use Rattle.sq_term.proofs.Models.{list_any-none}
use Rattle.sq_system.proofs.Choices.{separated_choices}
use Rattle.sq_rules_trace.proofs.Instances.{element_once}

-- ---- a conflict has no order

number_turned : (a b : ℕ) → (a == b) ≡ (b == a)
number_turned a b = both (a == b) (b == a) refl refl
  where
    both : (p q : Bool) → (a == b) ≡ p → (b == a) ≡ q → p ≡ q
    both true true e f = refl
    both false false e f = refl
    both true false e f = absurd (grind (arith, nat_tests))
    both false true e f = absurd (grind (arith, nat_tests))

numbers_turned : (xs ys : List ℕ) → same_numbers xs ys ≡ same_numbers ys xs
numbers_turned [] [] = refl
numbers_turned [] (y ∷ ys) = refl
numbers_turned (x ∷ xs) [] = refl
numbers_turned (x ∷ xs) (y ∷ ys) = cc (number_turned x y, numbers_turned xs ys)

bit_turned : (a b : Bool) → same_bit a b ≡ same_bit b a
bit_turned true true = refl
bit_turned true false = refl
bit_turned false true = refl
bit_turned false false = refl

step_turned : (s t : PathStep) → same_step s t ≡ same_step t s
step_turned (Side a) (Side b) = bit_turned a b
step_turned (Branch a) (Branch b) = bit_turned a b
step_turned (Found c) (Found d) = number_turned c d
step_turned Rep Rep = refl
step_turned NotFound NotFound = refl
step_turned Done Done = refl
step_turned (Side a) Rep = refl
step_turned (Side a) (Branch b) = refl
step_turned (Side a) (Found c) = refl
step_turned (Side a) NotFound = refl
step_turned (Side a) Done = refl
step_turned Rep (Side b) = refl
step_turned Rep (Branch b) = refl
step_turned Rep (Found c) = refl
step_turned Rep NotFound = refl
step_turned Rep Done = refl
step_turned (Branch a) (Side b) = refl
step_turned (Branch a) Rep = refl
step_turned (Branch a) (Found c) = refl
step_turned (Branch a) NotFound = refl
step_turned (Branch a) Done = refl
step_turned (Found c) (Side b) = refl
step_turned (Found c) Rep = refl
step_turned (Found c) (Branch b) = refl
step_turned (Found c) NotFound = refl
step_turned (Found c) Done = refl
step_turned NotFound (Side b) = refl
step_turned NotFound Rep = refl
step_turned NotFound (Branch b) = refl
step_turned NotFound (Found c) = refl
step_turned NotFound Done = refl
step_turned Done (Side b) = refl
step_turned Done Rep = refl
step_turned Done (Branch b) = refl
step_turned Done (Found c) = refl
step_turned Done NotFound = refl

choice_turned : (s t : PathStep) → is_choice s t ≡ is_choice t s
choice_turned (Side a) (Side b) = refl
choice_turned (Branch a) (Branch b) = refl
choice_turned (Found c) (Found d) = number_turned c d
choice_turned Rep Rep = refl
choice_turned NotFound NotFound = refl
choice_turned Done Done = refl
choice_turned (Side a) Rep = refl
choice_turned (Side a) (Branch b) = refl
choice_turned (Side a) (Found c) = refl
choice_turned (Side a) NotFound = refl
choice_turned (Side a) Done = refl
choice_turned Rep (Side b) = refl
choice_turned Rep (Branch b) = refl
choice_turned Rep (Found c) = refl
choice_turned Rep NotFound = refl
choice_turned Rep Done = refl
choice_turned (Branch a) (Side b) = refl
choice_turned (Branch a) Rep = refl
choice_turned (Branch a) (Found c) = refl
choice_turned (Branch a) NotFound = refl
choice_turned (Branch a) Done = refl
choice_turned (Found c) (Side b) = refl
choice_turned (Found c) Rep = refl
choice_turned (Found c) (Branch b) = refl
choice_turned (Found c) NotFound = refl
choice_turned (Found c) Done = refl
choice_turned NotFound (Side b) = refl
choice_turned NotFound Rep = refl
choice_turned NotFound (Branch b) = refl
choice_turned NotFound (Found c) = refl
choice_turned NotFound Done = refl
choice_turned Done (Side b) = refl
choice_turned Done Rep = refl
choice_turned Done (Branch b) = refl
choice_turned Done (Found c) = refl
choice_turned Done NotFound = refl

turned : (p q : List PathStep) (is js : List ℕ) → in_conflict p is q js ≡ in_conflict q js p is
turned [] [] is js = refl
turned [] (t ∷ q) is js = refl
turned (s ∷ p) [] is js = refl
turned (s ∷ p) (t ∷ q) is js =
    cc (
      step_turned s t,
      numbers_turned (take (indices_bound s) is) (take (indices_bound t) js),
      choice_turned s t,
      turned p q (drop (indices_bound s) is) (drop (indices_bound t) js),
    )

-- ---- the choices of a path with itself

step_itself : (s : PathStep) → same_step s s ≡ true
step_itself (Side true) = refl
step_itself (Side false) = refl
step_itself Rep = refl
step_itself (Branch true) = refl
step_itself (Branch false) = refl
step_itself (Found c) = number_itself c
step_itself NotFound = refl
step_itself Done = refl

abbrev NeedsDifference : Choice → Type 0
NeedsDifference c = (c.differ == 0) ≡ false

zero_no : (c : ℕ) → (suc c == 0) ≡ false
zero_no c = grind (arith, nat_tests)

found_needs : (n : ℕ) (s : PathStep) (c : Choice) → Member (found_choice n s) c → NeedsDifference c
found_needs n (Found (suc k)) c here = zero_no k
found_needs n (Found (suc k)) c (there i) = elim i [ ]
found_needs n (Found zero) c i = elim i [ ]
found_needs n (Side a) c i = elim i [ ]
found_needs n Rep c i = elim i [ ]
found_needs n (Branch a) c i = elim i [ ]
found_needs n NotFound c i = elim i [ ]
found_needs n Done c i = elim i [ ]

pub member_either : {A : Type 0} (xs ys : List A) (x : A) → Member (xs ++ ys) x
    → Member xs x ⊎ Member ys x
member_either [] ys x i = inr i
member_either (y ∷ xs) ys z here = inl here
member_either {A} (y ∷ xs) ys x (there i) = more (member_either xs ys x i)
  where
    more : Member xs x ⊎ Member ys x → Member (y ∷ xs) x ⊎ Member ys x
    more (inl j) = inl (there j)
    more (inr j) = inr j

-- two instances of one action differ where a choice separates them
own_choices : (p : List PathStep) (n : ℕ) (c : Choice) → Member (choices_from n p p) c
    → NeedsDifference c
own_choices [] n c i = elim i [ ]
own_choices (s ∷ p) n c i =
    at (same_step s s) (step_itself s) i
    (λ j. own_choices p (n + indices_bound s) c j)
  where
    at : (b : Bool) → b ≡ true
        → Member (if b then found_choice n s ++ choices_from (n + indices_bound s) p p
        else (if is_choice s s then record { agree = n; differ = 0 } ∷ [] else [])) c
        → (Member (choices_from (n + indices_bound s) p p) c → NeedsDifference c)
        → NeedsDifference c
    at true e j later =
        elim (member_either (found_choice n s) (choices_from (n + indices_bound s) p p) c j) [
          | inl k ↦ found_needs n s c k
          | inr k ↦ later k
        ]
    at false e j later = absurd (cc)

pub got_member : {A : Type 0} (xs : List A) (k : ℕ) (x : A) → slice_get xs k ≡ Some x → Member xs x
got_member [] k x e = absurd (cc)
got_member {A} (y ∷ ys) zero x e = let s : x ≡ y = cc in subst (Member (y ∷ ys)) (sym s) here
got_member (y ∷ ys) (suc k) x e = there (got_member ys k x e)

-- ---- instances of one trace

itself_apart : (is : List ℕ) (c : Choice) → NeedsDifference c → is_separated is is c ≡ false
itself_apart is c h =
    rw (
      same_numbers_itself (take c.agree is),
      h,
      same_numbers_itself (take c.differ (drop c.agree is)),
    ) refl

three : (j k : ℕ) → (j < k) ⊎ ((k < j) ⊎ (j ≡ k))
three j k = grind arith

module _ (s : SystemTree) (m : Model) (M : IsTraceModel s m) where
  abbrev path : ℕ → List PathStep
  path n = (action_at s n).path

  no_conflict : (j k : ℕ) (x y : Inst) → ElementAt m.list j x → ElementAt m.list k y
      → (j < k) ⊎ (k < j) → in_conflict (path x.act) x.idx (path y.act) y.idx ≡ false
  no_conflict j k x y h g (inl b) =
      turned (path x.act) (path y.act) x.idx y.idx ∙ M.compatible j k x y b h g
  no_conflict j k x y h g (inr b) = M.compatible k j y x b g h

  -- no choice on the common path of two actions separates two instances of the trace
  pub unseparated : (j k : ℕ) (x y : Inst) → ElementAt m.list j x → ElementAt m.list k y
      → (n : ℕ) (c : Choice) → clash (path x.act) (path y.act) n ≡ Some c
      → is_separated x.idx y.idx c ≡ false
  unseparated j k x y h g n c e = elim (three j k) [
    | inl b ↦ apart (no_conflict j k x y h g (inl b))
    | inr d ↦ elim d [
      | inl b ↦ apart (no_conflict j k x y h g (inr b))
      | inr q ↦ same (element_once m.list j x y h (subst (λ i. ElementAt m.list i y) (sym q) g))
    ]
  ]
    where
      there_is : Member (choices_from 0 (path x.act) (path y.act)) c
      there_is = got_member (choices_from 0 (path x.act) (path y.act)) n c e

      apart : in_conflict (path x.act) x.idx (path y.act) y.idx ≡ false
          → is_separated x.idx y.idx c ≡ false
      apart f =
          list_any-none (is_separated x.idx y.idx) (choices_from 0 (path x.act) (path y.act))
          (sym (separated_choices (path x.act) (path y.act) x.idx y.idx) ∙ f) c there_is

      same : x ≡ y → is_separated x.idx y.idx c ≡ false
      same q =
          let i : Member (choices_from 0 (path x.act) (path x.act)) c =
          subst (λ (z : Inst). Member (choices_from 0 (path x.act) (path z.act)) c) (sym q)
          there_is in
          subst (λ (z : Inst). is_separated x.idx z.idx c ≡ false) q
          (itself_apart x.idx c (own_choices (path x.act) 0 c i))
