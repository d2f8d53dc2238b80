use Rattle.std.proofs.Common.{drop}
use Rattle.std.specs.Prelude.{reverse}
use Rattle.sq_term.specs.View.{term_trees}
use Rattle.sq_occ.specs.Calls.Bodies.{scan_of}
use Rattle.sq_occ.specs.Calls.Lists.{growing}
use Rattle.sq_occ.specs.Calls.Scans.{scan_all}
use Rattle.sq_occ.proofs.Growth.{Continues}
use Rattle.sq_occ.proofs.scan.+scan.Given as goal

abbrev pub invariant-scan_application-loop-arg : goal.invariant-scan_application-loop-arg
invariant-scan_application-loop-arg l =
    Continues (growing l.initial.list) (growing l.list)
    (scan_all (scan_of l.search) (reverse l.above) l.equation
    (term_trees (drop l.arg-index l.args)))
    (scan_all (scan_of l.search) (reverse l.above) l.equation (term_trees l.args))
