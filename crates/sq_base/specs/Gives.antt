-- Exact answers: a call answers its outcome, but for want of memory.
use Rattle.std.specs.Prelude.{◌≡◌, ◌≢◌, Result, Ok, Err}

-- Ok is the outcome's value as `view` sees it; a refusal other than want of memory is the outcome;
-- want of memory, the refusal `memory`, says nothing of it
abbrev pub Gives : {A B E : Type 0} → E → (A → B) → Result A E → Result B E → Type 0
Gives memory view (Ok v) outcome = outcome ≡ Ok (view v)
Gives memory view (Err e) outcome = e ≢ memory → outcome ≡ Err e
