use Rattle.std.proofs.Common.{◌∙◌}
use Rattle.sq_sequent.proofs.EqualityShapes.{no-messages}
use Rattle.sq_sequent.proofs.equality.is_reflexive.Goals as goal

pub returns-else-messages : goal.returns-else-messages
returns-else-messages c =
    c.if-messages.false
    ∙ no-messages c.args.messages _ _ _ c.in-Equal.ensures c.if-messages.false
