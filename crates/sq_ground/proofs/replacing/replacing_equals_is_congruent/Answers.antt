use Rattle.std.proofs.Common.{◌≡◌, subst, sym, [], true}
use Rattle.sq_typing.specs.Functions.{are_functions}
use Rattle.sq_ground.proofs.Congruence.{replaced_law}
use Rattle.sq_ground.proofs.replacing.replacing_equals_is_congruent.Goals as goal

pub returns : goal.returns
returns c =
    λ th left a g hyps r s from to t read h k p q d.
    replaced_law th left hyps g read.0
    (subst (λ fs. are_functions fs ≡ true) (sym read.0) read.1) a r from to h k p d [] [] s t q
