-- The trees of the ids of a pool.
use Rattle.std.specs.Prelude.{◌≡◌, ℕ, ◌+◌, ◌<◌, ◌↔◌, List, [], ◌∷◌, ◌++◌, slice_get, unwrap_or}
use Rattle.std.specs.Prelude.{if◌then◌else◌}
use Rattle.std.specs.List.{list_any}
use Rattle.sq_term.specs.Symbols.{kind_of}
use Rattle.sq_term.specs.Syntax as term
use Rattle.sq_term.specs.Syntax.{TermTree, TermTrees}
use Rattle.sq_term.specs.View.{ts_tree}
use Rattle.sq_term.specs.TreeEquality.{is_same_tree}
use Rattle.sq_pool.specs.declared.node.TermId.{TermId}
use Rattle.sq_pool.specs.declared.node.Node.{Node}
use Rattle.sq_pool.specs.declared.node.Node.TheVariants as node
use Rattle.sq_pool.specs.Nodes.{IsLive}

module _ (tree : TermId → TermTree) where
  abbrev pub children_trees : List TermId → TermTrees
  children_trees [] = term.nil
  children_trees (c ∷ cs) = term.cons (tree c) (children_trees cs)

  -- the tree of a node, over the trees of its children
  abbrev pub node_tree : Node → TermTree
  node_tree (node.Name n is) = term.name n is
  node_tree (node.Fun f is ts) = term.fun (kind_of f) is (children_trees ts)
  node_tree (node.Macro m t) = term.macro m (ts_tree t)
  node_tree (node.Schema n) = term.schema n
  node_tree (node.Diff a b) = term.diff (tree a) (tree b)
  node_tree (node.Le s t) = term.le (ts_tree s) (ts_tree t)
  node_tree (node.TsEq s t) = term.ts_eq (ts_tree s) (ts_tree t)
  node_tree (node.IdxEq i j) = term.idx_eq i j
  node_tree (node.Happens t) = term.happens (ts_tree t)
  node_tree (node.Forall s t) = term.all s (tree t)
  node_tree (node.Exists s t) = term.some s (tree t)
  node_tree (node.Find n c a b) = term.find n (tree c) (tree a) (tree b)

-- the tree at an id's place; past the end, where no id is live, it means nothing
abbrev pub tree_at : List TermTree → TermId → TermTree
tree_at ts id = unwrap_or (slice_get ts id.at) (term.schema 0)

-- the trees of the nodes, behind those before them: each is its node's over the trees before it
abbrev pub trees_after : List TermTree → List Node → List TermTree
trees_after before [] = before
trees_after before (x ∷ xs) = trees_after (before ++ node_tree (tree_at before) x ∷ []) xs

unfoldable pub trees : List Node → List TermTree
trees = trees_after []

-- the tree that an id names
abbrev pub tree_of : List Node → TermId → TermTree
tree_of ns = tree_at (trees ns)

-- ids are equal exactly where their trees are
abbrev pub HasOneIdPerTree : List Node → Type 0
HasOneIdPerTree ns =
    (a b : TermId) → IsLive ns a → IsLive ns b → (a ≡ b) ↔ (tree_of ns a ≡ tree_of ns b)

-- how many different trees there are in the list
abbrev pub different_count : List TermTree → ℕ
different_count [] = 0
different_count (t ∷ ts) =
    if list_any (is_same_tree t) ts then different_count ts else different_count ts + 1

-- each id of the old pool is one of the new pool, and names the same tree
abbrev pub KeepsIds : List Node → List Node → Type 0
KeepsIds old new =
    (id : TermId) → IsLive old id → IsLive new id × (tree_of new id ≡ tree_of old id)

-- the ids below the mark are left, with their trees, and no others
pub record KeepsBelow (mark : ℕ) (old new : List Node) : Type 0 where
  pub live : (id : TermId) → IsLive new id ↔ (IsLive old id × (id.at < mark))
  pub trees : (id : TermId) → IsLive new id → tree_of new id ≡ tree_of old id
