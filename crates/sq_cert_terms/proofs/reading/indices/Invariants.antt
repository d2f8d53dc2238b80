use Rattle.std.proofs.Common.{◌≡◌, []}
use Rattle.sq_cert_words.specs.Reads.{left}
use Rattle.sq_cert_terms.specs.Reading as spec
use Rattle.sq_cert_terms.proofs.reading.indices.Given as goal

abbrev pub invariant-indices : goal.invariant-indices
invariant-indices l =
    spec.indices_on l.indices l.remaining (left l.words)
    ≡ spec.indices_on [] l.count (left l.fn.words)

abbrev pub decreases-indices : goal.decreases-indices
decreases-indices l = l.remaining
