use Rattle.std.proofs.Common.{◌≡◌, ◌++◌, drop, map}
use Rattle.sq_system.specs.Statements.{stmt_tree}
use Rattle.sq_run.specs.Scripts.{statement_of}
use Rattle.sq_run.proofs.runner.statements_of.Given as goal

abbrev pub invariant-loop-lemma : goal.invariant-loop-lemma
invariant-loop-lemma l =
    map stmt_tree l.stmts ++ map statement_of (drop l.lemma-index l.lemmas)
    ≡ map statement_of l.lemmas
