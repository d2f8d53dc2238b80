use Rattle.std.proofs.Common.{◌++◌, ◌+◌, ◌-◌, ap, ◌∙◌, length, take, drop}
use Rattle.sq_sequent.proofs.Without.{without-parts}
use Rattle.sq_sequent.proofs.premises.copy_without.Goals as goal

pub returns : goal.returns
returns c =
    c.in_ok-push_copies.ensures
    ∙ (ap (λ x. x ++ take (length c.args.terms.now - (c.args.at + 1))
    (drop (c.args.at + 1) c.args.terms.now)) c.in_ok-out.ensures
    ∙ without-parts c.args.terms.now c.args.at)
