use Rattle.std.proofs.Common.{◌≡◌, map, take, drop, length}
use Rattle.sq_elab.specs.Declarations.{declaration, IsTried}
use Rattle.sq_elab.specs.FreshNames.{with_fresh}
use Rattle.sq_elab.proofs.declare.add_all.Given as goal

abbrev pub invariant-loop-one : goal.invariant-loop-one
invariant-loop-one l =
    (with_fresh l.table (map declaration (drop l.one-index l.declared))
    ≡ with_fresh l.initial.table (map declaration l.declared))
    × IsTried l.table l.tried
    × (take (length l.initial.table) l.table ≡ l.initial.table)
