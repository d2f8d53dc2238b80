use Rattle.std.proofs.Common.{◌≡◌, ◌++◌, ap, sym, ◌∙◌}
use Rattle.sq_term.specs.Syntax.{diff, find}
use Rattle.sq_term.specs.View.{term_tree}
use Rattle.sq_term.proofs.Views.{term_tree-Diff, term_tree-Find}
use Rattle.sq_sequent.specs.Places.{reached, node_tree, inner_nodes, nodes}
use Rattle.sq_sequent.proofs.Walks.{first-here, then-on, found-among, next-among}
use Rattle.sq_sequent.proofs.places.+walk.Goals as goal

pub inner_node-returns-in-Err-part_node : goal.inner_node-returns-in-Err-part_node
inner_node-returns-in-Err-part_node t c =
    let d = c.in-Diff in
    let is : term_tree c.args.t.now ≡ diff (term_tree d.left) (term_tree d.right) =
    ap term_tree d.is ∙ term_tree-Diff d.left d.right in
    c.part_node-in-Err-part_node.ensures
    ∙ (then-on (nodes (term_tree d.left))
    (nodes (term_tree d.right)) c.args.k c.in-Err-part_node.rest c.in-Err-part_node.ensures
    ∙ ap (λ x. reached (inner_nodes x) c.args.k) (sym is))

pub inner_node-returns-in-Ok-part_node-3 : goal.inner_node-returns-in-Ok-part_node-3
inner_node-returns-in-Ok-part_node-3 t c =
    let f = c.in-Find in
    let is : term_tree c.args.t.now ≡ find f.field-0 (term_tree f.test) (term_tree f.found)
    (term_tree f.other) =
    ap term_tree f.is ∙ term_tree-Find f.field-0 f.test f.found f.other in
    let first = c.in-Err-part_node-2 in
    first-here (nodes (term_tree f.found)) (nodes (term_tree f.other)) first.rest
    (node_tree c.in-Ok-part_node-3.node) c.in-Ok-part_node-3.ensures
    ∙ (then-on (nodes (term_tree f.test))
    (nodes (term_tree f.found) ++ nodes (term_tree f.other)) c.args.k first.rest first.ensures
    ∙ ap (λ x. reached (inner_nodes x) c.args.k) (sym is))

pub inner_node-returns-in-Err-part_node-3 : goal.inner_node-returns-in-Err-part_node-3
inner_node-returns-in-Err-part_node-3 t c =
    let f = c.in-Find in
    let is : term_tree c.args.t.now ≡ find f.field-0 (term_tree f.test) (term_tree f.found)
    (term_tree f.other) =
    ap term_tree f.is ∙ term_tree-Find f.field-0 f.test f.found f.other in
    let first = c.in-Err-part_node-2 in
    let second = c.in-Err-part_node-3 in
    c.part_node-in-Err-part_node-3.ensures
    ∙ (then-on (nodes (term_tree f.found))
    (nodes (term_tree f.other)) first.rest second.rest second.ensures
    ∙ (then-on (nodes (term_tree f.test))
    (nodes (term_tree f.found) ++ nodes (term_tree f.other)) c.args.k first.rest first.ensures
    ∙ ap (λ x. reached (inner_nodes x) c.args.k) (sym is)))

pub node_among-returns-in-Ok : goal.node_among-returns-in-Ok
node_among-returns-in-Ok t c =
    found-among c.args.terms.now c.loop-term.term-index c.loop-term.rest c.term-item.result
    (node_tree c.in-Ok.node) _
    c.loop-term-test.true c.term-item.is c.if-rest-eq0.false c.loop-term.invariant c.in-Ok.ensures

pub node_among-loop-term-preserved : goal.node_among-loop-term-preserved
node_among-loop-term-preserved t c =
    next-among c.args.terms.now c.loop-term.term-index c.loop-term.rest c.in-Err.left
    c.term-item.result _
    c.loop-term-test.true c.term-item.is c.if-rest-eq0.false c.loop-term.invariant c.in-Err.ensures
