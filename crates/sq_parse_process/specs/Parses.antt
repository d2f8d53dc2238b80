-- A function value that parses processes, with so many nodes still to go.
use Rattle.std.specs.Prelude.{ℕ, List, Result}
use denote.Ref.{Bor}
use Rattle.std.specs.declared.alloc.Global.{Global}
use Rattle.sq_token.specs.declared.token.Token.{Token}
use Rattle.sq_token.specs.Sign.{signs}
use Rattle.sq_ast.specs.declared.process.Proc.{Proc}
use Rattle.sq_ast.specs.ProcTree.{process_tree}
use Rattle.sq_parse_term.specs.declared.stop.Stop.{Stop}
use Rattle.sq_parse_term.specs.Reads.{Reads}
use Rattle.sq_parse_process.specs.Process.{parse_process}

pub record Parses (depth : ℕ) (pre : Global → ℕ → Bor (List Token) → Type 0)
    (post : Global → ℕ → Bor (List Token) → Result (Proc × Bor (List Token)) Stop
    → Type 0) : Type 0 where
  pub callable : (alloc : Global) (ts : Bor (List Token)) → pre alloc depth ts
  pub reads : (alloc : Global) (ts : Bor (List Token)) (r : Result (Proc × Bor (List Token)) Stop)
      → post alloc depth ts r → Reads process_tree r (parse_process depth (signs ts.now))
