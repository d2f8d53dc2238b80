use Rattle.std.proofs.Common.{◌≡◌, ◌≤◌, ◌-◌, length}
use Rattle.std.specs.Prelude.{flat_map}
use Rattle.sq_term.specs.Translate.{choices}
use Rattle.sq_term.specs.Models.{times_of}
use Rattle.sq_ground.proofs.instances.choices_of_several.Given as goal

abbrev pub invariant-loop-done : goal.invariant-loop-done
invariant-loop-done l = record {
  rest : flat_map (choices (times_of l.m) (l.c - l.done)) l.lists ≡ choices (times_of l.m) l.c l.bs;
  few : length l.lists ≤ 1024;
}
