-- What is kept of records.
use Rattle.std.proofs.Common.{◌≡◌, refl, sym, ap, ℕ, zero, suc, ◌<◌, ◌≢◌, inr, List, [], ◌∷◌, ◌++◌}
use Rattle.std.proofs.Common.{length, arith}
use Rattle.std.specs.Prelude.{get_or, slice_get, Some, None, Result, Ok, Err, IfOk}
use Rattle.sq_term.specs.Records.{Record, at_undefined}
use Rattle.sq_ground.specs.declared.reading.Entry.{Entry}
use Rattle.sq_ground.specs.Calls.GroundMeasure.{ground_depth}
use Rattle.sq_ground.specs.Calls.Builds.{Passes}
use Rattle.sq_ground.specs.Calls.Readings.{tower, oversized, kept_record, kept_records}

ground_depth-tower : (n : ℕ) → ground_depth (tower n) ≡ suc n
unfolding tower
ground_depth-tower zero = refl
ground_depth-tower (suc n) = omega (arith, ground_depth-tower n)

-- what stands for a term that is not kept passes every room
pub oversized_passes : (room : ℕ) → Passes room oversized
unfolding oversized
oversized_passes room = inr (omega (arith, ground_depth-tower 1024))

pub kept_at : (es : List Entry) (r : Record) (p : ℕ) (e : Entry) → slice_get es p ≡ Some e
    → get_or (kept_records es ++ r ∷ []) p at_undefined ≡ kept_record e
kept_at [] r p e h = cc
kept_at (x ∷ es) r zero e h = let i : x ≡ e = cc in ap kept_record i
kept_at (x ∷ es) r (suc p) e h = kept_at es r p e h

pub kept_own : (es : List Entry) (r : Record) (p : ℕ) → p ≡ length es
    → get_or (kept_records es ++ r ∷ []) p at_undefined ≡ r
kept_own [] r zero h = refl
kept_own [] r (suc p) h = absurd (omega arith)
kept_own (x ∷ es) r zero h = absurd (omega arith)
kept_own (x ∷ es) r (suc p) h = kept_own es r p (omega arith)

pub kept_past : (es : List Entry) (r : Record) (p : ℕ) → slice_get es p ≡ None → p ≢ length es
    → get_or (kept_records es ++ r ∷ []) p at_undefined ≡ at_undefined
kept_past [] r zero h n = absurd (n refl)
kept_past [] r (suc p) h n = refl
kept_past (x ∷ es) r zero h n = let i : Some x ≡ None = h in cc
kept_past (x ∷ es) r (suc p) h n = kept_past es r p h (λ e. n (ap suc e))

pub ruleset kept_rules = (kept_at, kept_own, kept_past)

-- nothing is behind the last record where what stands there is undefined
pub undefined_last : (rs : List Record) (p : ℕ) → get_or (rs ++ at_undefined ∷ []) p at_undefined
    ≡ get_or rs p at_undefined
undefined_last [] zero = refl
undefined_last [] (suc p) = refl
undefined_last (r ∷ rs) zero = refl
undefined_last (r ∷ rs) (suc p) = undefined_last rs p

-- the entry at a place
pub entry_at : (es : List Entry) (p : ℕ) (e : Entry) → p < length es → e ≡ get_or es p e
    → get_or (kept_records es) p at_undefined ≡ kept_record e
entry_at [] p e h i = absurd (omega arith)
entry_at (x ∷ es) zero e h i = ap kept_record (sym i)
entry_at (x ∷ es) (suc p) e h i = entry_at es p e (omega arith) i

pub ok_map : {A E : Type 0} (r : Result A E) (P Q : A → Type 0) → IfOk r P → ((x : A) → P x → Q x)
    → IfOk r Q
ok_map (Ok x) P Q h f = f x h
ok_map (Err e) P Q h f = h
