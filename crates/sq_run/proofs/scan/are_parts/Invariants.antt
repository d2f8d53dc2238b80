use Rattle.std.proofs.Common.{◌≡◌, drop}
use Rattle.std.specs.List.{list_all}
use Rattle.sq_run.specs.Scanning.{is_part}
use Rattle.sq_run.proofs.scan.are_parts.Given as goal

abbrev pub invariant-loop-b : goal.invariant-loop-b
invariant-loop-b l = list_all is_part (drop l.b-index l.text) ≡ list_all is_part l.text
