use Rattle.std.proofs.Common.{◌≡◌, drop, fold}
use Rattle.sq_term.specs.TsEquality.{indices_fed}
use Rattle.sq_term.proofs.ts_equality.feed_indices.Given as goal

abbrev pub invariant-loop-i : goal.invariant-loop-i
invariant-loop-i g l =
    fold g.H.Hasher.write l.state (indices_fed (drop l.i-index l.indices))
    ≡ fold g.H.Hasher.write l.initial.state (indices_fed l.indices)
