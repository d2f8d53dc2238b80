-- The loop over a trace's positions.
use Rattle.std.proofs.Common.{◌≡◌, sym, ap, ◌∙◌, subst, ℕ, zero, suc, ◌+◌, ◌<◌, List, [], ◌∷◌, ◌++◌}
use Rattle.std.proofs.Common.{length, take, drop, get_or, true, arith}
use Rattle.std.specs.Prelude.{if◌then◌else◌, Some, Result, Ok, Err, MatchResult}
use Rattle.sq_term.specs.declared.model.Inst.{Inst}
use Rattle.sq_term.specs.declared.model.Model.{Model}
use Rattle.sq_term.specs.Lists.{Each}
use Rattle.sq_term.specs.Systems.{SystemTree}
use Rattle.sq_term.specs.Models.{is_instance_below, may_follow, refused_from, first_refused}
use Rattle.sq_term.specs.Models.{IsTraceModel, IsFirstRefused}
use Rattle.sq_term.proofs.Members.{each-push}
use Rattle.sq_term.proofs.BoolTests.{and_split}
use Rattle.sq_term.proofs.Models.{first_refused-none, first_refused-some}
use Rattle.sq_ground.specs.Calls.Answers.{position_refused}

pub drop_next : {A : Type 0} (xs : List A) (k : ℕ) (x d : A) → k < length xs → x ≡ get_or xs k d
    → drop k xs ≡ x ∷ drop (suc k) xs
drop_next [] k x d b e = absurd (omega arith)
drop_next (y ∷ ys) zero x d b e = ap (λ z. z ∷ ys) (sym e)
drop_next (y ∷ ys) (suc k) x d b e = drop_next ys k x d (omega arith) e

pub take_next : {A : Type 0} (xs : List A) (k : ℕ) (x d : A) → k < length xs → x ≡ get_or xs k d
    → take (suc k) xs ≡ take k xs ++ x ∷ []
take_next [] k x d b e = absurd (omega arith)
take_next (y ∷ ys) zero x d b e = ap (λ z. z ∷ []) (sym e)
take_next (y ∷ ys) (suc k) x d b e = ap (λ r. y ∷ r) (take_next ys k x d (omega arith) e)

module _ (system : SystemTree) where
  pub verdict : {A : Type 0} (m : Model) (r : Result A ℕ)
      → position_refused r ≡ first_refused system m
      → MatchResult r (λ x. IsTraceModel system m) (λ k. IsFirstRefused system m k)
  verdict m (Ok x) e = first_refused-none system m (sym e)
  verdict m (Err k) e = first_refused-some system m k (sym e)

  -- an instance that may stand is passed
  advance : (d k : ℕ) (earlier rest : List Inst) (x : Inst) → may_follow system d earlier x ≡ true
      → refused_from system d (suc k) (earlier ++ x ∷ []) rest
      ≡ refused_from system d k earlier (x ∷ rest)
  advance d k earlier rest x m =
      sym (ap (λ b. if b then refused_from system d (suc k) (earlier ++ x ∷ []) rest else Some k) m)

  pub passed : (d k : ℕ) (xs : List Inst) (x d' : Inst) → k < length xs → x ≡ get_or xs k d'
      → may_follow system d (take k xs) x ≡ true
      → refused_from system d (suc (k + 1)) (take (k + 1) xs) (drop (k + 1) xs)
      ≡ refused_from system d (suc k) (take k xs) (drop k xs)
  passed d k xs x d' b e m =
      let one : k + 1 ≡ suc k = omega arith in
      ap (λ n. refused_from system d (suc n) (take n xs) (drop n xs)) one
      ∙ (ap (λ ys. refused_from system d (suc (suc k)) ys (drop (suc k) xs))
      (take_next xs k x d' b e)
      ∙ (advance d (suc k) (take k xs) (drop (suc k) xs) x m
      ∙ ap (refused_from system d (suc k) (take k xs)) (sym (drop_next xs k x d' b e))))

  pub passed_each : (d k : ℕ) (xs : List Inst) (x d' : Inst) → k < length xs → x ≡ get_or xs k d'
      → may_follow system d (take k xs) x ≡ true
      → Each (λ j. is_instance_below system d j ≡ true) (take k xs)
      → Each (λ j. is_instance_below system d j ≡ true) (take (k + 1) xs)
  passed_each d k xs x d' b e m h =
      let one : suc k ≡ k + 1 = omega arith in
      subst (λ n. Each (λ j. is_instance_below system d j ≡ true) (take n xs)) one
      (subst (Each (λ j. is_instance_below system d j ≡ true)) (sym (take_next xs k x d' b e))
      (each-push (take k xs) x (λ j. is_instance_below system d j ≡ true) h
      (and_split (is_instance_below system d x) _ m).0))
