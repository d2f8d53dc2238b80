use Rattle.std.proofs.Common.{◌≡◌, Option, Some, None, IfSome, slice_get, List, Bor, sym}
use Rattle.std.specs.Option.{option_copied}
use Rattle.sq_pool.specs.declared.node.TermId.{TermId}
use Rattle.sq_pool.specs.declared.node.Node.{Node}
use Rattle.sq_pool.specs.Nodes.{IsOver, IsPool}
use Rattle.sq_pool.specs.Trees.{node_tree, tree_of}
use Rattle.sq_pool.proofs.Trees.{tree_of-node}
use Rattle.sq_pool.proofs.pool.Pool.get.Goals as goal

module _ (ns : List Node) (pool : IsPool ns) (id : TermId) where
  is_over : (r : Option (Bor Node)) → option_copied r ≡ slice_get ns id.at
      → IfSome r (λ x. IsOver id.at x.now)
  is_over None e = tt
  is_over (Some x) e = pool.over id.at x.now (sym e)

  has_tree : (r : Option (Bor Node)) → option_copied r ≡ slice_get ns id.at
      → IfSome r (λ x. tree_of ns id ≡ node_tree (tree_of ns) x.now)
  has_tree None e = tt
  has_tree (Some x) e = tree_of-node ns pool id x.now (sym e)

pub returns-clause-over : goal.returns-clause-over
returns-clause-over c =
    is_over c.self.inside.nodes.keys c.self.invariant c.args.id
    c.get_index.result c.get_index.ensures.key

pub returns-clause-tree : goal.returns-clause-tree
returns-clause-tree c =
    rw (← c.self.view_is)
    (has_tree c.self.inside.nodes.keys c.self.invariant c.args.id
    c.get_index.result c.get_index.ensures.key)
