use Rattle.std.proofs.Common.{◌≡◌, map, take}
use Rattle.sq_resolve.specs.Scopes.{Variable}
use Rattle.sq_readback.proofs.returning.variable_names.Given as goal

abbrev pub invariant-loop-var : goal.invariant-loop-var
invariant-loop-var l = l.names ≡ map (λ (v : Variable). v.0) (take l.var-index l.vars)
