use Rattle.std.proofs.Common.{sym, ap, ◌∙◌}
use Rattle.std.specs.Option.{option_copied}
use Rattle.sq_sequent.specs.Sites.{site_tree}
use Rattle.sq_rules_trace.proofs.Lookups.{never-missing}
use Rattle.sq_rules_trace.proofs.macros.at_instance.Goals as goal

pub unreachable-requires : goal.unreachable-requires
unreachable-requires c =
    never-missing (site_tree c.args.at.now) c.actions_of.result.now c.args.i.now.action
    c.args.i.now.indices.now c.actions_of.ensures.actions
    (sym (ap option_copied c.in-None.is) ∙ c.at.ensures) c.requires
