use Rattle.std.proofs.Common.{◌≡◌, drop, Some}
use Rattle.sq_run.specs.Scanning.{scanned, start}
use Rattle.sq_run.proofs.scan.sentences_of.Given as goal

abbrev pub invariant-bytes : goal.invariant-bytes
invariant-bytes l =
    scanned (Some l.scanner) l.at (drop l.at l.bytes) ≡ scanned (Some start) 0 l.bytes
