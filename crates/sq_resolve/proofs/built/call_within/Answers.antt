use Rattle.std.proofs.Common.{◌∙◌, ap, sym, arith, map}
use Rattle.sq_term.specs.Symbols.{kind_of}
use Rattle.sq_term.specs.Syntax as t
use Rattle.sq_term.specs.View.{row, term_tree}
use Rattle.sq_term.proofs.Views.{term_tree-Fun, row-map}
use Rattle.sq_resolve.proofs.built.call_within.Goals as goal

pub returns : goal.returns
returns c = λ ts h.
    c.sized.ensures (t.fun (kind_of c.args.f) c.args.indices (row ts))
    (term_tree-Fun c.args.f c.args.indices _
    ∙ ap (t.fun (kind_of c.args.f) c.args.indices)
    (sym (row-map _) ∙ ap row (ap (map term_tree) c.from_vec-items.ensures ∙ h.terms_are)))
    (let n = h.nodes_is in let l = c.len.ensures in omega arith)
    (let n = h.depth_is in let l = c.indices_depth.ensures in omega arith)
