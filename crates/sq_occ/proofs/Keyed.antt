-- The arguments of an application as the program counts them.
use Rattle.std.proofs.Common.{◌≡◌, ◌≢◌, refl, ap, ℕ, List, [], ◌∷◌, length, Bool, false}
use Rattle.std.proofs.Common.{if◌then◌else◌}
use Rattle.std.specs.Prelude.{None}
use Rattle.sq_term.specs.declared.signature.FunRole.{FunRole}
use Rattle.sq_term.specs.declared.term.Term.{Term}
use Rattle.sq_term.specs.Signatures.{is_keyed, is_pk}
use Rattle.sq_term.specs.View.{term_tree, term_trees}
use Rattle.sq_term.proofs.Views.{tree_rules}
use Rattle.sq_occ.specs.Calls.Scans.{named, keyed, only}

pub keyed-count : (n : ℕ) (left : Bool) (role : FunRole) (ts : List Term) → length ts ≢ 2
    → keyed n left role (term_trees ts) ≡ None
keyed-count n left role [] h = refl
keyed-count n left role (x ∷ []) h = refl
keyed-count n left role (x ∷ k ∷ []) h = absurd (h refl)
keyed-count n left role (x ∷ k ∷ y ∷ ts) h = refl

pub keyed-role : (n : ℕ) (left : Bool) (role : FunRole) (ts : List Term) → is_keyed role ≡ false
    → keyed n left role (term_trees ts) ≡ None
keyed-role n left role [] h = refl
keyed-role n left role (x ∷ []) h = refl
keyed-role n left role (x ∷ k ∷ []) h =
    ap (λ b. (if b then named n left (term_tree k) else None)) h
keyed-role n left role (x ∷ k ∷ y ∷ ts) h = refl

pub only-count : (n : ℕ) (left : Bool) (role : FunRole) (ts : List Term) → length ts ≢ 1
    → only n left role (term_trees ts) ≡ None
only-count n left role [] h = refl
only-count n left role (k ∷ []) h = absurd (h refl)
only-count n left role (x ∷ k ∷ ts) h = refl

pub only-role : (n : ℕ) (left : Bool) (role : FunRole) (ts : List Term) → is_pk role ≡ false
    → only n left role (term_trees ts) ≡ None
only-role n left role [] h = refl
only-role n left role (k ∷ []) h = ap (λ b. (if b then named n left (term_tree k) else None)) h
only-role n left role (x ∷ k ∷ ts) h = refl

pub ruleset keyed_rules = (tree_rules, keyed-count, keyed-role, only-count, only-role)
