use Rattle.std.proofs.Common.{◌≡◌, drop, map}
use Rattle.sq_system.specs.Environments.{env_tree}
use Rattle.sq_run.specs.Running.{goal_tree, proof_trouble, lemma_trouble}
use Rattle.sq_run.proofs.runner.lemma_trouble.Given as goal

abbrev pub invariant-tasks : goal.invariant-tasks
invariant-tasks l =
    proof_trouble (env_tree l.env) l.number (drop l.task-index l.lemma.tasks) l.lemma.qed
    (map goal_tree l.goals) ≡ lemma_trouble (env_tree l.env) l.number l.lemma
