use Rattle.std.proofs.Common.{◌≡◌, suc, drop, take, true, []}
use Rattle.sq_term.specs.Lists.{Each}
use Rattle.sq_term.specs.Systems.{system_tree}
use Rattle.sq_term.specs.Models.{is_instance_below, refused_from}
use Rattle.sq_ground.proofs.model.find_refused.Given as goal

abbrev pub invariant-positions : goal.invariant-positions
invariant-positions l =
    (refused_from (system_tree l.s) l.m.indices (suc l.k) (take l.k l.list) (drop l.k l.list)
    ≡ refused_from (system_tree l.s) l.m.indices 1 [] l.list)
    × Each (λ j. is_instance_below (system_tree l.s) l.m.indices j ≡ true) (take l.k l.list)
