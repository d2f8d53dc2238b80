-- The list of the nodes of a pool.
use Rattle.std.specs.Prelude.{◌≡◌, ◌≢◌, ℕ, ◌<◌, List, [], ◌∷◌, ◌++◌, length, slice_get, Some}
use Rattle.sq_pool.specs.declared.node.TermId.{TermId}
use Rattle.sq_pool.specs.declared.node.Node.{Node}
use Rattle.sq_pool.specs.declared.node.Node.TheVariants as node

-- the ids that a node holds
abbrev pub children : Node → List TermId
children (node.Fun f is ts) = ts
children (node.Diff a b) = a ∷ b ∷ []
children (node.Forall s t) = t ∷ []
children (node.Exists s t) = t ∷ []
children (node.Find n c a b) = c ∷ a ∷ b ∷ []
children _ = []

-- each of the ids stands before the place
abbrev pub AreBefore : ℕ → List TermId → Type 0
AreBefore at [] = Unit {0}
AreBefore at (c ∷ cs) = (c.at < at) × AreBefore at cs

-- the children of the node stand before the place
abbrev pub IsOver : ℕ → Node → Type 0
IsOver at x = AreBefore at (children x)

-- no two nodes are equal, and the children of each stand before it
pub record IsPool (ns : List Node) : Type 0 where
  pub differ : (i j : ℕ) (x : Node) → slice_get ns i ≡ Some x → slice_get ns j ≡ Some x → i ≡ j
  pub over : (i : ℕ) (x : Node) → slice_get ns i ≡ Some x → IsOver i x

-- the id is one of the pool
abbrev pub IsLive : List Node → TermId → Type 0
IsLive ns id = id.at < length ns

-- the node has the id: it was there, and nothing changed, or it is new and stands at the end
pub data Puts (old : List Node) (x : Node) (id : TermId) (new : List Node) : Type 0 where
  there : slice_get old id.at ≡ Some x → new ≡ old → Puts old x id new
  fresh : ((i : ℕ) → slice_get old i ≢ Some x) → id.at ≡ length old → new ≡ old ++ x ∷ []
      → Puts old x id new
