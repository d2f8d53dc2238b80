use Rattle.std.proofs.Common.{◌++◌, ◌∷◌, [], ◌∙◌, ap, arith, map}
use Rattle.sq_term.specs.View.{term_tree}
use Rattle.sq_resolve.proofs.Limits.{map-push}
use Rattle.sq_resolve.proofs.Rows.{sizes-push, depths-push}
use Rattle.sq_resolve.proofs.row.longer.Goals as goal

pub returns : goal.returns
returns c = λ ts x h k.
    c.sized_row.ensures (ts ++ x ∷ [])
    (ap (map term_tree) c.in_ok-push.ensures.items
    ∙ (map-push c.args.row.terms.items c.args.last.term
    ∙ (λ i. h.terms_are i ++ k.term_is i ∷ [])))
    (let n = h.nodes_is in let m = k.nodes_is in omega (arith, sizes-push ts x))
    (let n = h.depth_is in let m = k.depth_is in omega (arith, depths-push ts x))
