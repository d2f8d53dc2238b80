use Rattle.std.proofs.Common.{subst}
use Rattle.sq_ground.specs.Calls.Builds.{Builds}
use Rattle.sq_ground.proofs.Tables.{term_answered, fault_answered}
use Rattle.sq_ground.proofs.call.answer.Goals as goal

pub returns-in-Ok : goal.returns-in-Ok
returns-in-Ok c room g whole h b =
    term_answered room g whole c.in-Ok.b h (subst (Builds room g) c.in-Ok.is b)

pub returns-in-Err : goal.returns-in-Err
returns-in-Err c room g whole h b =
    fault_answered room g whole c.in-Err.fault h (subst (Builds room g) c.in-Err.is b)
