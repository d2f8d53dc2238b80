use Rattle.sq_kernel.proofs.Starting.{started-named}
use Rattle.sq_kernel.proofs.proof.Proof.start.Goals as goal

pub invariant_of-result : goal.invariant_of-result
invariant_of-result c =
    record {
      named =
          started-named c.args.env.now c.args.goal c.as_slice.result.now _
          c.index-as_slice-goal.result c.in_ok-first_goal.field-0 c.new-goals.result
          c.push.new.self c.requires c.as_slice.ensures c.index-as_slice-goal.is
          c.in_ok-first_goal.ensures c.new-goals.ensures c.in_ok-push.ensures.ok;
    }
