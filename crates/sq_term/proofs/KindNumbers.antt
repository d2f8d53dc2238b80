-- A function's number and its kind are one.
use Rattle.std.proofs.Common.{◌≡◌, ◌≤◌, ◌-◌, refl, sym, ap, ◌∙◌, subst, ℕ, zero, suc, ◌+◌, List, []}
use Rattle.std.proofs.Common.{◌∷◌}
use Rattle.std.proofs.Common.{length, Decides, arith}
use Rattle.std.proofs.lemmas.Bool.Decides.{Decides-eqb, Decides-like}
use Rattle.sq_term.specs.Symbols.{Kind, empty, truth, falsity, negation, conjunction, disjunction}
use Rattle.sq_term.specs.Symbols.{implication, equality, conditional, pairing, first, second}
use Rattle.sq_term.specs.Symbols.{of_bool, attacker, declared, IsDeclared, same_kind, builtin_kinds}
use Rattle.sq_term.specs.Symbols.{kind_among, kind_of, function_number}

past : (ks : List Kind) (k : ℕ) → kind_among ks (k + length ks) ≡ declared k
past [] k = let e : k + 0 ≡ k = omega arith in ap declared e
past (x ∷ ks) k =
    let e : suc (k + length ks) ≡ k + suc (length ks) = omega arith in
    subst (λ n. kind_among (x ∷ ks) n ≡ declared k) e (past ks k)

pub kind_of-function_number : (k : Kind) → kind_of (function_number k) ≡ k
kind_of-function_number empty = refl
kind_of-function_number truth = refl
kind_of-function_number falsity = refl
kind_of-function_number negation = refl
kind_of-function_number conjunction = refl
kind_of-function_number disjunction = refl
kind_of-function_number implication = refl
kind_of-function_number equality = refl
kind_of-function_number conditional = refl
kind_of-function_number pairing = refl
kind_of-function_number first = refl
kind_of-function_number second = refl
kind_of-function_number of_bool = refl
kind_of-function_number attacker = refl
kind_of-function_number (declared k) = past builtin_kinds k

-- the kinds stand at their numbers, from number d on to the last
abbrev Stand : ℕ → List Kind → Type 0
Stand d [] = d ≡ 14
Stand d (k ∷ ks) = (function_number k ≡ d) × Stand (suc d) ks

stand : Stand 0 builtin_kinds
stand = (
  refl,
  (
    refl,
    (
      refl,
      (
        refl,
        (
          refl,
          (
            refl,
            (
              refl,
              (
                refl,
                (
                  refl,
                  (
                    refl,
                    (
                      refl,
                      (
                        refl,
                        (
                          refl,
                          (refl, refl),
                        ),
                      ),
                    ),
                  ),
                ),
              ),
            ),
          ),
        ),
      ),
    ),
  ),
)

number : (ks : List Kind) (d n : ℕ) → Stand d ks → function_number (kind_among ks n) ≡ d + n
number [] d n h = omega (arith, h)
number (k ∷ ks) d zero h = h.0 ∙ omega arith
number (k ∷ ks) d (suc n) h = number ks (suc d) n h.1 ∙ omega arith

pub function_number-kind_of : (n : ℕ) → function_number (kind_of n) ≡ n
function_number-kind_of n = number builtin_kinds 0 n stand ∙ omega arith

pub kind_of-same : (m n : ℕ) → kind_of m ≡ kind_of n → m ≡ n
kind_of-same m n e =
    sym (function_number-kind_of m) ∙ ap function_number e ∙ function_number-kind_of n

pub same_kind-decides : (j k : Kind) → Decides (same_kind j k) (j ≡ k)
same_kind-decides empty empty = (λ e. refl, λ e. refl)
same_kind-decides truth truth = (λ e. refl, λ e. refl)
same_kind-decides falsity falsity = (λ e. refl, λ e. refl)
same_kind-decides negation negation = (λ e. refl, λ e. refl)
same_kind-decides conjunction conjunction = (λ e. refl, λ e. refl)
same_kind-decides disjunction disjunction = (λ e. refl, λ e. refl)
same_kind-decides implication implication = (λ e. refl, λ e. refl)
same_kind-decides equality equality = (λ e. refl, λ e. refl)
same_kind-decides conditional conditional = (λ e. refl, λ e. refl)
same_kind-decides pairing pairing = (λ e. refl, λ e. refl)
same_kind-decides first first = (λ e. refl, λ e. refl)
same_kind-decides second second = (λ e. refl, λ e. refl)
same_kind-decides of_bool of_bool = (λ e. refl, λ e. refl)
same_kind-decides attacker attacker = (λ e. refl, λ e. refl)
same_kind-decides (declared j) (declared k) =
    Decides-like _ (λ e. ap declared e) (λ e. cc) (Decides-eqb j k)
same_kind-decides _ _ = (λ e. cc, λ e. cc)

-- the functions that are declared have the numbers behind the built-in ones
pub IsDeclared-number : (k : Kind) → IsDeclared k → (j : ℕ) × (k ≡ declared j)
IsDeclared-number (declared j) h = (j, refl)
IsDeclared-number _ h = absurd h

pub kind_of-behind : (f : ℕ) → 14 ≤ f → kind_of f ≡ declared (f - 14)
kind_of-behind f h =
    let e : (f - 14) + 14 ≡ f = omega arith in
    subst (λ n. kind_of n ≡ declared (f - 14)) e (past builtin_kinds (f - 14))

pub behind-kind_of : (f : ℕ) → IsDeclared (kind_of f) → 14 ≤ f
behind-kind_of f h =
    let r : (j : ℕ) × (kind_of f ≡ declared j) = IsDeclared-number (kind_of f) h in
    let e : f ≡ r.0 + 14 = sym (function_number-kind_of f) ∙ ap function_number r.1 in
    omega (arith, e)
