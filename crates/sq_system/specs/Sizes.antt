-- How large a sequent is, and how large a premise may be.
use Rattle.std.specs.Prelude.{ℕ, ◌+◌, max, nat_le, Bool, true, ◌&&◌, List, [], ◌∷◌}
use Rattle.sq_term.specs.Syntax.{TermTree}
use Rattle.sq_term.specs.Measure.{size, depth}
use Rattle.sq_system.specs.Limits.{most_nodes, most_depth}
use Rattle.sq_system.specs.Sequents.{Item, item, Body, trace_body, local_body, equiv_body}
use Rattle.sq_system.specs.Sequents.{SequentTree, sequent}

abbrev pub all_size : List TermTree → ℕ
all_size [] = 0
all_size (t ∷ ts) = size t + all_size ts

abbrev pub all_depth : List TermTree → ℕ
all_depth [] = 0
all_depth (t ∷ ts) = max (depth t) (all_depth ts)

abbrev pub item_size : Item → ℕ
item_size (item a b) = size a + size b

abbrev pub item_depth : Item → ℕ
item_depth (item a b) = max (depth a) (depth b)

abbrev pub items_size : List Item → ℕ
items_size [] = 0
items_size (i ∷ is) = item_size i + items_size is

abbrev pub items_depth : List Item → ℕ
items_depth [] = 0
items_depth (i ∷ is) = max (item_depth i) (items_depth is)

abbrev pub known_size : List (List Item) → ℕ
known_size [] = 0
known_size (k ∷ ks) = items_size k + known_size ks

abbrev pub known_depth : List (List Item) → ℕ
known_depth [] = 0
known_depth (k ∷ ks) = max (items_depth k) (known_depth ks)

abbrev pub body_size : Body → ℕ
body_size (trace_body goal) = size goal
body_size (local_body side goal) = size goal
body_size (equiv_body known items) = known_size known + items_size items

abbrev pub body_depth : Body → ℕ
body_depth (trace_body goal) = depth goal
body_depth (local_body side goal) = depth goal
body_depth (equiv_body known items) = max (known_depth known) (items_depth items)

-- the nodes of all its terms; variables are no nodes
abbrev pub sequent_size : SequentTree → ℕ
sequent_size (sequent vars hyps body) = all_size hyps + body_size body

-- the greatest depth of its terms
abbrev pub sequent_depth : SequentTree → ℕ
sequent_depth (sequent vars hyps body) = max (all_depth hyps) (body_depth body)

-- a sequent inside a derivation is no larger
abbrev pub fits : SequentTree → Bool
fits s = nat_le (sequent_size s) most_nodes && nat_le (sequent_depth s) most_depth

abbrev pub all_fit : List SequentTree → Bool
all_fit [] = true
all_fit (s ∷ ss) = fits s && all_fit ss
