use Rattle.std.proofs.Common.{◌≡◌, Result, Ok, Err, IfOk, OnErr, List, refl, sym, subst}
use Rattle.sq_base.specs.declared.memory.NoMemory.{NoMemory}
use Rattle.sq_pool.specs.declared.node.TermId.{TermId}
use Rattle.sq_pool.specs.declared.node.Node.{Node}
use Rattle.sq_pool.specs.Nodes.{IsPool, IsLive, Puts}
use Rattle.sq_pool.specs.Trees.{node_tree, tree_of, KeepsIds}
use Rattle.sq_pool.proofs.Nodes.{IsLive-Puts}
use Rattle.sq_pool.proofs.Trees.{tree_of-Puts, KeepsIds-Puts}
use Rattle.sq_pool.proofs.pool.Pool.put.Goals as goal

module _ (old : List Node) (x : Node) (new : List Node) (pool : IsPool old) where
  is_live : (r : Result TermId NoMemory) → IfOk r (λ id. Puts old x id new)
      → IfOk r (λ id. IsLive new id)
  is_live (Ok id) puts = IsLive-Puts old x id new puts
  is_live (Err e) puts = tt

  has_tree : (r : Result TermId NoMemory) → IfOk r (λ id. Puts old x id new)
      → IfOk r (λ id. tree_of new id ≡ node_tree (tree_of old) x)
  has_tree (Ok id) puts = tree_of-Puts old x id new pool puts
  has_tree (Err e) puts = tt

  keeps : (r : Result TermId NoMemory) → IfOk r (λ id. Puts old x id new) → OnErr r (new ≡ old)
      → KeepsIds old new
  keeps (Ok id) puts same = KeepsIds-Puts old x id new puts
  keeps (Err e) puts same = subst (KeepsIds old) (sym same) (λ id live. (live, refl))

pub returns-clause-live : goal.returns-clause-live
returns-clause-live c =
    is_live c.self.inside.nodes.keys c.args.node c.put_in.new.nodes.keys c.self.invariant
    c.put_in.result c.put_in.ensures.ok

pub returns-clause-tree : goal.returns-clause-tree
returns-clause-tree c =
    rw (← c.self.view_is)
    (has_tree c.self.inside.nodes.keys c.args.node c.put_in.new.nodes.keys c.self.invariant
    c.put_in.result c.put_in.ensures.ok)

pub returns-clause-ids : goal.returns-clause-ids
returns-clause-ids c =
    rw (← c.self.view_is)
    (keeps c.self.inside.nodes.keys c.args.node c.put_in.new.nodes.keys c.self.invariant
    c.put_in.result c.put_in.ensures.ok c.put_in.ensures.err)
