-- What a function that parses answers, by what is read from the front of its tokens.
use Rattle.std.specs.Prelude.{◌≡◌, ℕ, List, Result, Ok, Err, ⊤}
use denote.Ref.{Bor}
use Rattle.std.specs.declared.alloc.Global.{Global}
use Rattle.sq_token.specs.declared.token.Token.{Token}
use Rattle.sq_token.specs.Sign.{signs}
use Rattle.sq_ast.specs.declared.formula.Form.{Form}
use Rattle.sq_ast.specs.declared.formula.Formula.{Formula}
use Rattle.sq_ast.specs.View.{formula_tree}
use Rattle.sq_parse_term.specs.declared.stop.Stop.{Stop}
use Rattle.sq_parse_term.specs.declared.stop.Stop.TheVariants as stop
use Rattle.sq_parse_term.specs.Parse.{Read, deep, none, got, parse}

abbrev pub Fails : {Y : Type 0} → Stop → Read Y → Type 0
Fails stop.None m = m ≡ none
Fails stop.TooDeep m = m ≡ deep
Fails stop.NoMemory m = ⊤

abbrev pub Reads : {X Y : Type 0} → (X → Y) → Result (X × Bor (List Token)) Stop → Read Y → Type 0
Reads view (Ok x) m = m ≡ got (view x.0) (signs x.1.now)
Reads view (Err e) m = Fails e m

-- the same for a token, which says nothing but that it stands there
abbrev pub Eats : Result (Bor (List Token)) Stop → Read (Unit {0}) → Type 0
Eats (Ok q) m = m ≡ got tt (signs q.now)
Eats (Err stop.None) m = m ≡ none
Eats (Err stop.TooDeep) m = ⊥
Eats (Err stop.NoMemory) m = ⊥

-- a parser of parts, with so many nodes still to go around each
pub record Parses (depth : ℕ) (pre : Global → ℕ → Form → Bor (List Token) → Type 0)
    (post : Global → ℕ → Form → Bor (List Token) → Result (Formula × Bor (List Token)) Stop
    → Type 0) : Type 0 where
  pub callable : (alloc : Global) (form : Form) (ts : Bor (List Token)) → pre alloc depth form ts
  pub reads : (alloc : Global) (form : Form) (ts : Bor (List Token))
      (r : Result (Formula × Bor (List Token)) Stop) → post alloc depth form ts r
      → Reads formula_tree r (parse depth form (signs ts.now))
