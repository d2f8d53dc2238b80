-- When a goal of a file holds at every model of its system.
use Rattle.std.specs.Prelude.{ℕ, List}
use Rattle.sq_term.specs.declared.signature.FunDecl.{FunDecl}
use Rattle.sq_term.specs.declared.model.Model.{Model}
use Rattle.sq_term.specs.Syntax.{TermTree}
use Rattle.sq_term.specs.Systems.{SystemTree}
use Rattle.sq_term.specs.Models.{times_of, IsTraceModel}
use Rattle.sq_term.specs.Records.{world}
use Rattle.sq_system.specs.Statements.{EnvTree}
use Rattle.sq_system.specs.Usable.{usable_axioms, system_of, statement_at}
use Rattle.sq_ground.specs.Theories.{Theory}
use Rattle.sq_ground.specs.Holding.{HoldsAt}

-- the ground rules stand at a model of a system, before a goal that may use these axioms
abbrev pub theory_at : SystemTree → Model → List FunDecl → List TermTree → Theory
theory_at s m funs axioms =
    record {
      times = times_of m;
      values = λ left. (world s m left).values;
      axioms = axioms;
      funs = funs;
    }

-- at a model of the goal's system, before goal g
abbrev pub theory_of : EnvTree → ℕ → Model → Theory
theory_of env g m = theory_at (system_of env g) m env.funs (usable_axioms env g)

-- goal g holds at every model of its system
abbrev pub HoldsEverywhere : EnvTree → ℕ → Type 0
HoldsEverywhere env g =
    (m : Model) → IsTraceModel (system_of env g) m
    → HoldsAt (theory_of env g m) (statement_at env g).start
