use Rattle.std.proofs.Common.{ap, sym, ◌∙◌}
use Rattle.std.specs.Option.{option_copied}
use Rattle.sq_ground.proofs.Systems.{action_at-none}
use Rattle.sq_ground.proofs.model.arity_of.Goals as goal

pub returns-in-None : goal.returns-in-None
returns-in-None c =
    ap (λ a. a.arity)
    (sym (action_at-none c.args.s.now c.args.n
    (sym c.action.ensures ∙ ap option_copied c.in-None.is)))
