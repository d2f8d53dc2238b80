use Rattle.std.proofs.Common.{◌≡◌, ◌∙◌, ◌++◌, ◌∷◌, []}
use Rattle.sq_system.proofs.EnvPushes.{first_kept}
use Rattle.sq_system.proofs.env.Env.new.Goals as goal

pub invariant_of-result : goal.invariant_of-result
invariant_of-result c =
    let pushed : c.push.new.self ≡ [] ∷ [] =
    c.in_ok-push.ensures.ok ∙ (λ i. c.new-systems.ensures i ++ c.empty.ensures i ∷ []) in
    record {
      well_formed =
          first_kept c.new.result c.in_ok-funs.funs c.push.new.self c.new-2.result c.new.ensures
          c.in_ok-funs.ensures pushed c.new-2.ensures;
    }
