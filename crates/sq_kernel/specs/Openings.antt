-- The open goal with which the proof of a statement begins.
use Rattle.std.specs.Prelude.{[], length}
use Rattle.sq_system.specs.Sequents.{hyps_of}
use Rattle.sq_system.specs.Statements.{StmtTree}
use Rattle.sq_kernel.specs.Goals.{GoalTree}
use Rattle.sq_kernel.specs.Labels.{hypothesis_labels}

-- the starting sequent of a statement, with the statement's names
abbrev pub opening : StmtTree → GoalTree
opening g =
    record {
      sequent = g.start;
      schemas = g.schemas;
      vars = g.vars;
      labels = hypothesis_labels (length (hyps_of g.start));
      known = [];
    }
