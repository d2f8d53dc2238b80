use Rattle.std.proofs.Common.{◌+◌, ◌*◌}
use Rattle.sq_cert_terms.proofs.reading.+timestamp.Given as goal

abbrev pub decreases-ts_of : goal.decreases-ts_of
decreases-ts_of l = 2 * l.room + 1

abbrev pub decreases-ts : goal.decreases-ts
decreases-ts l = 2 * l.depth
