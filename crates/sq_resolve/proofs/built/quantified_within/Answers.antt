use Rattle.std.proofs.Common.{◌∙◌, ap, arith}
use Rattle.sq_term.specs.View.{term_tree}
use Rattle.sq_resolve.specs.Resolved.{quantifier}
use Rattle.sq_resolve.proofs.Limits.{quantifier_size, quantifier_depth}
use Rattle.sq_resolve.proofs.built.quantified_within.Goals as goal

pub returns : goal.returns
returns c = λ x h.
    c.sized.ensures (quantifier c.args.q c.args.sort x)
    (c.with_quantifier.ensures
    ∙ ap (quantifier c.args.q c.args.sort) (ap term_tree c.in_ok-inner.ensures ∙ h.term_is))
    (let n = h.nodes_is in omega (arith, quantifier_size c.args.q c.args.sort x))
    (let n = h.depth_is in omega (arith, quantifier_depth c.args.q c.args.sort x))
