-- What calls answer that judge parts of a process.
use Rattle.std.specs.Prelude.{◌≡◌, ◌≢◌, ℕ, List, Result, Ok, Err}
use Rattle.sq_base.specs.declared.sort.Sort.{Sort}
use Rattle.sq_ast.specs.Tree.{FormulaTree}
use Rattle.sq_resolve.specs.Built.{Builds}
use Rattle.sq_resolve.specs.Resolved.{term_of}
use Rattle.sq_resolve.specs.Scopes.{Variable}
use Rattle.sq_elab.specs.declared.fault.ElabFault.{ElabFault}
use Rattle.sq_elab.specs.declared.fault.ElabFault.TheVariants.{NoMemory}
use Rattle.sq_elab.specs.declared.formula.Judged.{Judged}
use Rattle.sq_elab.specs.Events.{Count, formula}
use Rattle.sq_elab.specs.Meanings.{Base, scope}
use Rattle.sq_elab.specs.Walks.{judge}
use Rattle.sq_elab.specs.Ways.{Way}

-- how many nodes there are behind the formula, and its term; or the fault of its first node that
-- has one
abbrev pub JudgesFormula : Base → Way → Count → List Variable → Sort → ℕ → FormulaTree
    → Result Judged ElabFault → Type 0
JudgesFormula b w k around want d f (Ok r) =
    (judge b k (formula b w around want d f) ≡ Ok (record k { nodes = r.nodes }))
    × Builds (Ok r.built) (term_of (scope b w) around want f)
JudgesFormula b w k around want d f (Err e) =
    e ≢ NoMemory → judge b k (formula b w around want d f) ≡ Err e
