-- How many nodes a ground term has, and how deep it is. Each ground term is one node, and its
-- numbers are none.
use Rattle.std.specs.Prelude.{ℕ, suc, ◌+◌, ◌≤◌, max, List, [], ◌∷◌}
use Rattle.sq_term.specs.Ground.{Ground, named, applied, atom, Grounds, none, more}

abbrev mutual
  pub ground_size : Ground → ℕ
  ground_size (named n is) = 1
  ground_size (applied f is ts) = suc (ground_sizes ts)
  ground_size (atom k) = 1

  pub ground_sizes : Grounds → ℕ
  ground_sizes none = 0
  ground_sizes (more t ts) = ground_size t + ground_sizes ts

-- the most nodes on a way from the root to a leaf
abbrev mutual
  pub ground_depth : Ground → ℕ
  ground_depth (named n is) = 1
  ground_depth (applied f is ts) = suc (ground_depths ts)
  ground_depth (atom k) = 1

  pub ground_depths : Grounds → ℕ
  ground_depths none = 0
  ground_depths (more t ts) = max (ground_depth t) (ground_depths ts)

-- the same of a list
abbrev pub total : List Ground → ℕ
total [] = 0
total (t ∷ ts) = ground_size t + total ts

abbrev pub deepest : List Ground → ℕ
deepest [] = 0
deepest (t ∷ ts) = max (ground_depth t) (deepest ts)

-- the term has at most `room` nodes and depth 1,024
pub record FitsIn (room : ℕ) (t : Ground) : Type 0 where
  pub in_room : ground_size t ≤ room
  pub in_depth : ground_depth t ≤ 1024
