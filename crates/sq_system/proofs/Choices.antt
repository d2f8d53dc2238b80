-- Two instances are in conflict exactly where one of the choices on the common path separates them.
use Rattle.std.proofs.Common.{◌≡◌, ℕ, zero, suc, ◌+◌, ◌≤◌, List, [], ◌∷◌, ◌++◌, Bool, true, false}
use Rattle.std.proofs.Common.{if◌then◌else◌, nat_eq, take, drop, refl, sym, ap, ◌∙◌, subst, arith}
use Rattle.std.specs.Prelude.{◌&&◌, ◌||◌, not}
use Rattle.std.specs.List.{list_any}
use Rattle.std.proofs.lemmas.Bool.{false≢true}
use Rattle.std.proofs.lemmas.Bool.Decides.{nat_tests}
use Rattle.std.proofs.lemmas.List.{drop-take}
use Rattle.std.proofs.lemmas.List.Folds.{list_any-append}
use Rattle.std.proofs.Math.Seq.{take-add, take-take, drop-drop}
use Rattle.sq_term.specs.declared.action.PathStep.{PathStep}
use Rattle.sq_term.specs.declared.action.PathStep.TheVariants.{Side, Rep, Branch, Found, NotFound}
use Rattle.sq_term.specs.declared.action.PathStep.TheVariants.{Done}
use Rattle.sq_term.specs.Lists.{same_numbers, same_bit}
use Rattle.sq_term.specs.Systems.{indices_bound, same_step, is_choice, in_conflict, found_choice}
use Rattle.sq_term.specs.Systems.{choices_from, is_separated}

same_nat : (a b : ℕ) → nat_eq a b ≡ true → a ≡ b
same_nat a b e = grind (arith, nat_tests)

nat_itself : (a : ℕ) → nat_eq a a ≡ true
nat_itself a = grind (arith, nat_tests)

suc_not_zero : (a : ℕ) → nat_eq (suc a) 0 ≡ false
suc_not_zero a = grind (arith, nat_tests)

and_left : (a b : Bool) → (a && b) ≡ true → a ≡ true
and_left true b e = refl
and_left false b e = e

and_right : (a b : Bool) → (a && b) ≡ true → b ≡ true
and_right true b e = e
and_right false b e = cc

pub same_numbers_are : (xs ys : List ℕ) → same_numbers xs ys ≡ true → xs ≡ ys
same_numbers_are [] [] e = refl
same_numbers_are [] (y ∷ ys) e = cc
same_numbers_are (x ∷ xs) [] e = cc
same_numbers_are (x ∷ xs) (y ∷ ys) e =
    let h = same_nat x y (and_left (nat_eq x y) (same_numbers xs ys) e) in
    let t = same_numbers_are xs ys (and_right (nat_eq x y) (same_numbers xs ys) e) in
    cc

pub same_numbers_itself : (xs : List ℕ) → same_numbers xs xs ≡ true
same_numbers_itself [] = refl
same_numbers_itself (x ∷ xs) = rw (nat_itself x) (same_numbers_itself xs)

pub same_numbers_from : (xs ys : List ℕ) → xs ≡ ys → same_numbers xs ys ≡ true
same_numbers_from xs ys e = subst (λ zs. same_numbers xs zs ≡ true) e (same_numbers_itself xs)

same_bit_is : (a b : Bool) → same_bit a b ≡ true → a ≡ b
same_bit_is true true e = refl
same_bit_is true false e = cc
same_bit_is false true e = cc
same_bit_is false false e = refl

same_step_is : (s t : PathStep) → same_step s t ≡ true → s ≡ t
same_step_is (Side a) (Side b) e = ap Side (same_bit_is a b e)
same_step_is Rep Rep e = refl
same_step_is (Branch a) (Branch b) e = ap Branch (same_bit_is a b e)
same_step_is (Found c) (Found d) e = ap Found (same_nat c d e)
same_step_is NotFound NotFound e = refl
same_step_is Done Done e = refl
same_step_is _ _ e = cc

module _ (xs ys : List ℕ) where
  -- lists that differ within their first m differ within their first n, where n is no less
  differ_longer : (m n : ℕ) → m ≤ n → same_numbers (take m xs) (take m ys) ≡ false
      → same_numbers (take n xs) (take n ys) ≡ false
  differ_longer m n h e = by (same_numbers (take n xs) (take n ys)) refl
    where
      by : (b : Bool) → same_numbers (take n xs) (take n ys) ≡ b → b ≡ false
      by true f =
          let same = same_numbers_are (take n xs) (take n ys) f in
          absurd (false≢true
          (sym e ∙ same_numbers_from (take m xs) (take m ys)
          (sym (take-take m n xs h) ∙ (ap (take m) same ∙ take-take m n ys h))))
      by false f = refl

  agree_longer : (n m : ℕ) → same_numbers (take n xs) (take n ys) ≡ true
      → same_numbers (take m (drop n xs)) (take m (drop n ys)) ≡ true
      → same_numbers (take (n + m) xs) (take (n + m) ys) ≡ true
  agree_longer n m first next =
      let f = same_numbers_are (take n xs) (take n ys) first in
      let g = same_numbers_are (take m (drop n xs)) (take m (drop n ys)) next in
      same_numbers_from (take (n + m) xs) (take (n + m) ys)
      (take-add n m xs ∙ ((λ i. f i ++ g i) ∙ sym (take-add n m ys)))

  differ_next : (n m : ℕ) → same_numbers (take m (drop n xs)) (take m (drop n ys)) ≡ false
      → same_numbers (take (n + m) xs) (take (n + m) ys) ≡ false
  differ_next n m e = by (same_numbers (take (n + m) xs) (take (n + m) ys)) refl
    where
      by : (b : Bool) → same_numbers (take (n + m) xs) (take (n + m) ys) ≡ b → b ≡ false
      by true f =
          let same = same_numbers_are (take (n + m) xs) (take (n + m) ys) f in
          absurd (false≢true
          (sym e ∙ same_numbers_from _ _
          (sym (drop-take n m xs) ∙ (ap (drop n) same ∙ drop-take n m ys))))
      by false f = refl

  -- where indices differ before a choice, the choice separates nothing
  apart_before : (m n d : ℕ) → m ≤ n → same_numbers (take m xs) (take m ys) ≡ false
      → is_separated xs ys (record { agree = n; differ = d }) ≡ false
  apart_before m n d h e = rw (differ_longer m n h e) refl

  found_before : (m n : ℕ) (s : PathStep) → m ≤ n → same_numbers (take m xs) (take m ys) ≡ false
      → list_any (is_separated xs ys) (found_choice n s) ≡ false
  found_before m n (Found zero) h e = refl
  found_before m n (Found (suc c)) h e = rw (apart_before m n (suc c) h e) refl
  found_before m n (Side a) h e = refl
  found_before m n Rep h e = refl
  found_before m n (Branch a) h e = refl
  found_before m n NotFound h e = refl
  found_before m n Done h e = refl

  none_separates : (p q : List PathStep) (m n : ℕ) → m ≤ n
      → same_numbers (take m xs) (take m ys) ≡ false
      → list_any (is_separated xs ys) (choices_from n p q) ≡ false
  none_separates [] q m n h e = refl
  none_separates (s ∷ p) [] m n h e = refl
  none_separates (s ∷ p) (t ∷ q) m n h e =
      by (same_step s t) (is_choice s t)
      (none_separates p q m (n + indices_bound s) (omega arith) e)
    where
      by : (b c : Bool) → list_any (is_separated xs ys) (choices_from (n + indices_bound s) p q)
          ≡ false
          → list_any (is_separated xs ys)
          (if b then found_choice n s ++ choices_from (n + indices_bound s) p q
          else (if c then record { agree = n; differ = 0 } ∷ [] else [])) ≡ false
      by true c rest =
          rw (
            list_any-append (is_separated xs ys) (found_choice n s)
                (choices_from (n + indices_bound s) p q),
            found_before m n s h e,
          ) rest
      by false true rest = rw (apart_before m n 0 h e) refl
      by false false rest = refl

  -- at a common step whose indices agree the step separates nothing
  found_agree : (n : ℕ) (s : PathStep)
      → same_numbers (take (indices_bound s) (drop n xs)) (take (indices_bound s) (drop n ys))
      ≡ true → list_any (is_separated xs ys) (found_choice n s) ≡ false
  found_agree n (Found zero) e = refl
  found_agree n (Found (suc c)) e =
      rw (e, suc_not_zero c) (by (same_numbers (take n xs) (take n ys)))
    where
      by : (b : Bool) → ((b && (false || not true)) || false) ≡ false
      by true = refl
      by false = refl
  found_agree n (Side a) e = refl
  found_agree n Rep e = refl
  found_agree n (Branch a) e = refl
  found_agree n NotFound e = refl
  found_agree n Done e = refl

  -- at a common step whose indices differ the instances are in conflict exactly where it is a find
  found_differ : (n : ℕ) (s : PathStep) → same_numbers (take n xs) (take n ys) ≡ true
      → same_numbers (take (indices_bound s) (drop n xs)) (take (indices_bound s) (drop n ys))
      ≡ false
      → is_choice s s ≡ list_any (is_separated xs ys) (found_choice n s)
  found_differ n (Found zero) same e = absurd (false≢true (sym e))
  found_differ n (Found (suc c)) same e = rw (nat_itself (suc c), same, e, suc_not_zero c) refl
  found_differ n (Side a) same e = absurd (false≢true (sym e))
  found_differ n Rep same e = refl
  found_differ n (Branch a) same e = absurd (false≢true (sym e))
  found_differ n NotFound same e = absurd (false≢true (sym e))
  found_differ n Done same e = absurd (false≢true (sym e))

  -- what follows a place whose first n indices agree
  abbrev Follows : ℕ → List PathStep → List PathStep → Type 0
  Follows n p q = same_numbers (take n xs) (take n ys) ≡ true
      → in_conflict p (drop n xs) q (drop n ys) ≡ list_any (is_separated xs ys) (choices_from n p q)

  at_common_step : (n : ℕ) (s : PathStep) (p q : List PathStep)
      → same_numbers (take n xs) (take n ys) ≡ true → Follows (n + indices_bound s) p q
      → (b : Bool)
      → same_numbers (take (indices_bound s) (drop n xs)) (take (indices_bound s) (drop n ys))
      ≡ b
      → (if b then in_conflict p (drop (indices_bound s) (drop n xs)) q
      (drop (indices_bound s) (drop n ys)) else is_choice s s)
      ≡ list_any (is_separated xs ys) (found_choice n s ++ choices_from (n + indices_bound s) p q)
  at_common_step n s p q same rest true e =
      rw (
        list_any-append (is_separated xs ys) (found_choice n s)
            (choices_from (n + indices_bound s) p q),
        found_agree n s e,
        drop-drop
            (indices_bound s) n xs,
        drop-drop (indices_bound s) n ys,
      )
      (rest (agree_longer n (indices_bound s) same e))
  at_common_step n s p q same rest false e =
      rw (
        list_any-append (is_separated xs ys) (found_choice n s)
            (choices_from (n + indices_bound s) p q),
        none_separates p q (n + indices_bound s)
            (n + indices_bound s) (omega arith)
            (differ_next n (indices_bound s) e),
        ← found_differ n s same e,
      )
      (by (is_choice s s))
    where
      by : (b : Bool) → b ≡ (b || false)
      by true = refl
      by false = refl

  at_parting : (n : ℕ) (c : Bool) → same_numbers (take n xs) (take n ys) ≡ true
      → c ≡ list_any (is_separated xs ys) (if c then record { agree = n; differ = 0 } ∷ [] else [])
  at_parting n true same = rw same refl
  at_parting n false same = refl

  follows_all : (p q : List PathStep) (n : ℕ) → Follows n p q
  follows_all [] q n same = refl
  follows_all (s ∷ p) [] n same = refl
  follows_all (s ∷ p) (t ∷ q) n same =
      by (same_step s t) refl (follows_all p q (n + indices_bound s))
    where
      by : (b : Bool) → same_step s t ≡ b → Follows (n + indices_bound s) p q
          → (if b && same_numbers (take (indices_bound s) (drop n xs))
          (take (indices_bound t) (drop n ys))
          then in_conflict p (drop (indices_bound s) (drop n xs)) q
          (drop (indices_bound t) (drop n ys)) else is_choice s t)
          ≡ list_any (is_separated xs ys)
          (if b then found_choice n s ++ choices_from (n + indices_bound s) p q
          else (if is_choice s t then record { agree = n; differ = 0 } ∷ [] else []))
      by true e rest =
          subst (λ u. (if same_numbers (take (indices_bound s) (drop n xs))
          (take (indices_bound u) (drop n ys))
          then in_conflict p (drop (indices_bound s) (drop n xs)) q
          (drop (indices_bound u) (drop n ys)) else is_choice s u)
          ≡ list_any (is_separated xs ys)
          (found_choice n s ++ choices_from (n + indices_bound s) p q)) (same_step_is s t e)
          (at_common_step n s p q same rest _ refl)
      by false e rest = at_parting n (is_choice s t) same

pub separated_choices : (p q : List PathStep) (is js : List ℕ)
    → in_conflict p is q js ≡ list_any (is_separated is js) (choices_from 0 p q)
separated_choices p q is js = follows_all is js p q 0 refl
