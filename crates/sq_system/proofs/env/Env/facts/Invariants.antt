use Rattle.sq_system.proofs.EnvFacts.{Seen}
use Rattle.sq_system.proofs.env.Env.facts.Given as goal

abbrev pub invariant-loop-system : goal.invariant-loop-system
invariant-loop-system l = Seen l.systems l.system-index
