use Rattle.std.proofs.Common.{◌∙◌, ap, arith}
use Rattle.sq_term.specs.Syntax as t
use Rattle.sq_term.specs.View.{term_tree}
use Rattle.sq_term.proofs.Views.{term_tree-Find}
use Rattle.sq_resolve.proofs.built.branches.Goals as goal

pub returns : goal.returns
returns c = λ x y z h k l.
    c.sized.ensures (t.find c.args.count x y z)
    (term_tree-Find c.args.count _ _ _
    ∙ (λ i. t.find c.args.count ((ap term_tree c.in_ok-test.ensures ∙ h.term_is) i)
    ((ap term_tree c.in_ok-then.ensures ∙ k.term_is) i)
    ((ap term_tree c.in_ok-other.ensures ∙ l.term_is) i)))
    (let n = h.nodes_is in let m = k.nodes_is in let o = l.nodes_is in omega arith)
    (let n = h.depth_is in let m = k.depth_is in let o = l.depth_is in omega arith)
