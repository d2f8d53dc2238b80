use Rattle.std.proofs.Common.{sym, ap, ◌∙◌}
use Rattle.std.specs.Prelude.{option_map}
use Rattle.std.specs.Option.{option_copied}
use Rattle.sq_term.specs.View.{ts_tree}
use Rattle.sq_sequent.specs.Sites.{site_tree}
use Rattle.sq_rules_trace.proofs.Lookups.{time-sorted}
use Rattle.sq_rules_trace.proofs.macros.x_on.Goals as goal

pub x_of-requires : goal.x_of-requires
x_of-requires c =
    time-sorted (site_tree c.args.at.now) c.args.x.now (ts_tree c.in-Some.t.now)
    (sym (ap (λ o. option_map ts_tree (option_copied o)) c.in-Some.is) ∙ c.time_in.ensures)
