use Rattle.std.proofs.Common.{◌<◌, ◌+◌, ◌^◌, length}
use Rattle.sq_cert.proofs.Stops.{TakesBlocks}
use Rattle.sq_cert.proofs.certificate.read_blocks.Given as goal

abbrev pub invariant-goals : goal.invariant-goals
invariant-goals l = record {
  takes : TakesBlocks l.blocks l.lines.taken l.fn.lines.rest.now l.lines.rest.now;
  within : l.lines.taken + length l.lines.rest.now < 2 ^ 64;
}

abbrev pub decreases-goals : goal.decreases-goals
decreases-goals l = length l.lines.rest.now
