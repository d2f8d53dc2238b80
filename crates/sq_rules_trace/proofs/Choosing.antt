-- How many indices the choices on the paths of two actions speak of.
use Rattle.std.proofs.Common.{◌≡◌, inl, inr, refl, ℕ, zero, suc, ◌+◌, ◌≤◌, List, []}
use Rattle.std.proofs.Common.{◌∷◌, ◌++◌, sum_by, Bool, true, false, arith}
use Rattle.std.specs.Prelude.{◌==◌, if◌then◌else◌, Some}
use Rattle.std.proofs.lemmas.Bool.{eqb-true}
use Rattle.std.proofs.lemmas.List.Sums.{sum_by-cons}
use Rattle.sq_term.specs.declared.action.PathStep.{PathStep}
use Rattle.sq_term.specs.declared.action.PathStep.TheVariants.{Side, Rep, Branch, Found, NotFound}
use Rattle.sq_term.specs.declared.action.PathStep.TheVariants.{Done}
use Rattle.sq_term.specs.Lists.{Member, here, there}
use Rattle.sq_term.specs.Systems.{indices_bound, same_step, is_choice, Choice, found_choice}
use Rattle.sq_term.specs.Systems.{choices_from, clash}
use Rattle.sq_rules_trace.proofs.Exclusion.{member_either, got_member}

same_bound : (s t : PathStep) → same_step s t ≡ true → indices_bound s ≡ indices_bound t
same_bound (Side a) (Side b) e = refl
same_bound Rep Rep e = refl
same_bound (Branch a) (Branch b) e = refl
same_bound (Found c) (Found d) e = eqb-true c d e
same_bound NotFound NotFound e = refl
same_bound Done Done e = refl
same_bound _ _ e = absurd (cc)

-- the indices that must agree are among those of both paths, behind n
record Within (n : ℕ) (p q : List PathStep) (c : Choice) : Type 0 where
  pub first : c.agree ≤ n + sum_by indices_bound p
  pub second : c.agree ≤ n + sum_by indices_bound q

found_agrees : (n : ℕ) (s : PathStep) (c : Choice) → Member (found_choice n s) c → c.agree ≡ n
found_agrees n (Found (suc k)) c here = refl
found_agrees n (Found (suc k)) c (there i) = elim i [ ]
found_agrees n (Found zero) c i = elim i [ ]
found_agrees n (Side a) c i = elim i [ ]
found_agrees n Rep c i = elim i [ ]
found_agrees n (Branch a) c i = elim i [ ]
found_agrees n NotFound c i = elim i [ ]
found_agrees n Done c i = elim i [ ]

parting_agrees : (n : ℕ) (b : Bool) (c : Choice)
    → Member (if b then record { agree = n; differ = 0 } ∷ [] else []) c → c.agree ≡ n
parting_agrees n true c here = refl
parting_agrees n true c (there i) = elim i [ ]
parting_agrees n false c i = elim i [ ]

within : (p q : List PathStep) (n : ℕ) (c : Choice) → Member (choices_from n p q) c
    → Within n p q c
within [] q n c i = elim i [ ]
within (s ∷ p) [] n c i = elim i [ ]
within (s ∷ p) (t ∷ q) n c i =
    at (same_step s t) refl i (λ j. within p q (n + indices_bound s) c j)
  where
    far : c.agree ≡ n → Within n (s ∷ p) (t ∷ q) c
    far e = record { first = omega (arith, e); second = omega (arith, e) }

    at : (b : Bool) → same_step s t ≡ b
        → Member (if b then found_choice n s ++ choices_from (n + indices_bound s) p q
        else (if is_choice s t then record { agree = n; differ = 0 } ∷ [] else [])) c
        → (Member (choices_from (n + indices_bound s) p q) c → Within (n + indices_bound s) p q c)
        → Within n (s ∷ p) (t ∷ q) c
    at true e j later =
        elim (member_either (found_choice n s) (choices_from (n + indices_bound s) p q) c j) [
          | inl k ↦ far (found_agrees n s c k)
          | inr k ↦
              let r : Within (n + indices_bound s) p q c = later k in
              let b : indices_bound s ≡ indices_bound t = same_bound s t e in
              let x : c.agree ≤ (n + indices_bound s) + sum_by indices_bound p = r.first in
              let y : c.agree ≤ (n + indices_bound s) + sum_by indices_bound q = r.second in
              record {
                first = omega (arith, x, sum_by-cons indices_bound s p);
                second = omega (arith, y, b, sum_by-cons indices_bound t q);
              }
        ]
    at false e j later = far (parting_agrees n (is_choice s t) c j)

pub agree_within : (p q : List PathStep) (k : ℕ) (c : Choice) → clash p q k ≡ Some c
    → (c.agree ≤ sum_by indices_bound p) × (c.agree ≤ sum_by indices_bound q)
agree_within p q k c e =
    let r : Within 0 p q c = within p q 0 c (got_member (choices_from 0 p q) k c e) in
    let x : c.agree ≤ 0 + sum_by indices_bound p = r.first in
    let y : c.agree ≤ 0 + sum_by indices_bound q = r.second in
    (omega arith, omega arith)
