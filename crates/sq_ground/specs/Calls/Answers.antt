-- What the calls answer.
use Rattle.std.specs.Prelude.{ℕ, Option, Some, None, Result, Ok, Err}

-- the position that an answer refuses
abbrev pub position_refused : {A : Type 0} → Result A ℕ → Option ℕ
position_refused (Ok x) = None
position_refused (Err k) = Some k
