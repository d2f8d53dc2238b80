use Rattle.std.proofs.Common.{◌≡◌, drop}
use Rattle.sq_system.specs.Environments.{env_tree}
use Rattle.sq_run.specs.Running.{lemmas_trouble}
use Rattle.sq_run.proofs.runner.trouble_of.Given as goal

abbrev pub invariant-lemmas : goal.invariant-lemmas
invariant-lemmas l =
    lemmas_trouble (env_tree l.env) l.number (drop l.number l.script.lemmas)
    ≡ lemmas_trouble (env_tree l.env) 0 l.script.lemmas
