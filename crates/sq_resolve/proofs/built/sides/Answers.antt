use Rattle.std.proofs.Common.{◌∙◌, ap, arith}
use Rattle.sq_term.specs.Syntax as t
use Rattle.sq_term.specs.View.{term_tree}
use Rattle.sq_term.proofs.Views.{term_tree-Diff}
use Rattle.sq_resolve.proofs.built.sides.Goals as goal

pub returns : goal.returns
returns c = λ x y h k.
    c.sized.ensures (t.diff x y)
    (term_tree-Diff _ _
    ∙ (λ i. t.diff ((ap term_tree c.in_ok-left.ensures ∙ h.term_is) i)
    ((ap term_tree c.in_ok-right.ensures ∙ k.term_is) i)))
    (let n = h.nodes_is in let m = k.nodes_is in omega arith)
    (let n = h.depth_is in let m = k.depth_is in omega arith)
