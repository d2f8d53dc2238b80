-- The two sides of a sequent, and of a formula over messages.
use Rattle.std.specs.Prelude.{List, [], map}
use Rattle.sq_term.specs.declared.term.Side.{Side}
use Rattle.sq_term.specs.Syntax.{TermTree}
use Rattle.sq_subst.specs.Projection.{projected}
use Rattle.sq_subst.specs.Substitution.{instance_of}
use Rattle.sq_system.specs.Sequents.{SequentTree, trace, local, equiv}

-- a local sequent as it is read on one side
abbrev pub on_side : Side → SequentTree → SequentTree
on_side side (local old vars hyps g) =
    local side vars (map (projected side) hyps) (projected side g)
on_side side (trace vars hyps g) = trace vars hyps g
on_side side (equiv vars hyps known items) = equiv vars hyps known items

-- What a formula says on a side of these messages. They are put in after the side is taken, since
-- they are of that side already.
abbrev pub instance_on : Side → List TermTree → TermTree → TermTree
instance_on side ms F = instance_of [] ms (projected side F)
