use Rattle.std.proofs.Common.{◌≡◌, drop, Some}
use Rattle.sq_run.specs.Scripts.{read_from, start}
use Rattle.sq_run.proofs.script.script_of.Given as goal

abbrev pub invariant-sentences : goal.invariant-sentences
invariant-sentences l =
    read_from (Some l.script) l.number (drop l.number l.sentences)
    ≡ read_from (Some start) 0 l.sentences
