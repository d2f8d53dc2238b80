use Rattle.std.proofs.Common.{[], ◌∷◌}
use Rattle.sq_resolve.proofs.built.call_one.Goals as goal

pub returns : goal.returns
returns c = λ x h.
    let one = c.in_ok-row.ensures [] x c.no_row.ensures h in
    c.call_builtin.ensures (x ∷ []) one
