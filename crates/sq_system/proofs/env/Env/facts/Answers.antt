use Rattle.std.proofs.Common.{◌≤◌, length, subst}
use Rattle.sq_system.proofs.EnvFacts.{Seen, seen_none, seen_next, environment_facts}
use Rattle.sq_system.proofs.env.Env.facts.Goals as goal

pub loop-system-init : goal.loop-system-init
loop-system-init c = seen_none c.as_slice-systems.result.now

pub loop-system-preserved : goal.loop-system-preserved
loop-system-preserved c =
    seen_next c.as_slice-systems.result.now c.loop-system.system-index c.system-item.result
    c.loop-system-test.true c.system-item.is c.count-count.ensures.facts c.loop-system.invariant

pub returns : goal.returns
returns c =
    environment_facts c.args.self.now c.loop-system.system-index
    (subst (λ xs. length xs ≤ c.loop-system.system-index) c.as_slice-systems.ensures
    c.loop-system-test.false)
    (subst (λ xs. Seen xs c.loop-system.system-index) c.as_slice-systems.ensures
    c.loop-system.invariant)
