use Rattle.std.proofs.Common.{◌≡◌, ◌++◌, map, drop, false}
use Rattle.sq_system.specs.Sequents.{item_of}
use Rattle.sq_sequent.specs.Rewriting.{item_rewritten}
use Rattle.sq_sequent.specs.RewriteRow.{rewriting_tree, items_fit}
use Rattle.sq_sequent.proofs.rewriting.rewrite_items.Given as goal

abbrev pub invariant-loop-item : goal.invariant-loop-item
invariant-loop-item l =
    (map item_of l.out ++ map (item_rewritten (rewriting_tree l.by))
    (map item_of (drop l.item-index l.items)) ≡ map (item_rewritten (rewriting_tree l.by))
    (map item_of l.items))
    × (items_fit (rewriting_tree l.by) (map item_of (drop l.item-index l.items)) ≡ false
    → items_fit (rewriting_tree l.by) (map item_of l.items) ≡ false)
