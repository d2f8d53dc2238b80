use Rattle.std.proofs.Common.{[], ◌∷◌}
use Rattle.sq_resolve.proofs.built.call_two.Goals as goal

pub returns : goal.returns
returns c = λ x y h k.
    let one = c.in_ok-first.ensures [] x c.no_row.ensures h in
    let two = c.in_ok-row.ensures (x ∷ []) y one k in
    c.call_builtin.ensures (x ∷ y ∷ []) two
