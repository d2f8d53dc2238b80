use Rattle.std.proofs.Common.{[], ◌∷◌}
use Rattle.sq_resolve.proofs.built.call_three.Goals as goal

pub returns : goal.returns
returns c = λ x y z h k l.
    let one = c.in_ok-first.ensures [] x c.no_row.ensures h in
    let two = c.in_ok-second.ensures (x ∷ []) y one k in
    let three = c.in_ok-row.ensures (x ∷ y ∷ []) z two l in
    c.call_builtin.ensures (x ∷ y ∷ z ∷ []) three
