use Rattle.std.proofs.Common.{sym, subst}
use Rattle.sq_cert.specs.Certificates as spec
use Rattle.sq_cert.proofs.GoalLines.{goal_of}
use Rattle.sq_cert.proofs.goal.goal_in.Goals as goal

pub returns-in_ok-from_str-in-Some : goal.returns-in_ok-from_str-in-Some
returns-in_ok-from_str-in-Some c =
    let found =
    goal_of c.args.line.now c.in-Some.name.now c.in-Some.count c.in-Some.ensures in
    subst (λ x. spec.IsGoalLine c.args.line.now x c.in-Some.count)
    (sym c.in_ok-from_str-in-Some.ensures) found
