use Rattle.std.proofs.Common.{◌≡◌, length, true}
use Rattle.std.specs.List.{list_any}
use Rattle.sq_term.specs.Lists.{Each}
use Rattle.sq_term.specs.Systems.{system_tree}
use Rattle.sq_term.specs.Models.{is_instance_below, are_in_conflict}
use Rattle.sq_ground.proofs.model.is_in_conflict.Given as goal

abbrev pub invariant-instances : goal.invariant-instances
invariant-instances l =
    (list_any (are_in_conflict (system_tree l.s) l.i) l.rest
    ≡ list_any (are_in_conflict (system_tree l.s) l.i) l.earlier)
    × Each (λ j. is_instance_below (system_tree l.s) l.indices j ≡ true) l.rest

abbrev pub decreases-instances : goal.decreases-instances
decreases-instances l = length l.rest
