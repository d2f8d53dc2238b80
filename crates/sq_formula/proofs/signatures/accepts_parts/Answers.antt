use Rattle.std.proofs.Common.{Some}
use Rattle.sq_term.specs.View.{term_tree, term_trees}
use Rattle.sq_formula.proofs.FactParts.{owner-many}
use Rattle.sq_formula.proofs.signatures.accepts_parts.Goals as goal

pub returns-in_default-owner-2 : goal.returns-in_default-owner-2
returns-in_default-owner-2 c =
    owner-many (term_tree c.args.m.now) (Some (term_trees c.args.signed.now)) c.args.owner.now
    c.in_default-owner.len_at_least
