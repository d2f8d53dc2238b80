-- What a function that reads a whole sentence answers.
use Rattle.std.specs.Prelude.{◌≡◌, List, [], Result, Ok, Err}
use Rattle.sq_token.specs.Sign.{Sign}
use Rattle.sq_parse_term.specs.declared.stop.Stop.{Stop}
use Rattle.sq_parse_term.specs.declared.stop.Stop.TheVariants as stop
use Rattle.sq_parse_term.specs.Parse.{Read, none, got}
use Rattle.sq_parse_term.specs.Reads.{Fails}

-- no token is left
abbrev pub Told : {X Y : Type 0} → (X → Y) → Result X Stop → Read Y → Type 0
Told view (Ok x) m = m ≡ got (view x) []
Told view (Err e) m = Fails e m

abbrev pub Ends : {X : Type 0} → Result X Stop → Read (Unit {0}) → Type 0
Ends (Ok x) m = m ≡ got tt []
Ends (Err stop.None) m = m ≡ none
Ends (Err stop.TooDeep) m = ⊥
Ends (Err stop.NoMemory) m = ⊥
