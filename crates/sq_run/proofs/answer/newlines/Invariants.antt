use Rattle.std.proofs.Common.{◌≡◌, ◌+◌, ◌≤◌, drop}
use Rattle.sq_run.specs.Answering.{newlines}
use Rattle.sq_run.proofs.answer.newlines.Given as goal

abbrev pub invariant-bytes : goal.invariant-bytes
invariant-bytes l = record {
  count : l.count + newlines (drop l.b-index l.bytes) ≡ newlines l.bytes;
  within : l.count ≤ l.b-index;
}
