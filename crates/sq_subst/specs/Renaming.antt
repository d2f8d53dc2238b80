-- A free variable made bound, and an index in the place of another.
use Rattle.std.specs.Prelude.{ℕ, suc, ◌+◌, ◌-◌, nat_lt, if◌then◌else◌, ◌==◌}
use Rattle.sq_term.specs.declared.term.Idx.{Idx}
use Rattle.sq_term.specs.declared.term.Idx.TheVariants.{Free, Bound}
use Rattle.sq_term.specs.declared.term.Side.{Side}
use Rattle.sq_term.specs.Syntax.{free, bound, TermTree}
use Rattle.sq_term.specs.TsEquality.{is_same_idx}
use Rattle.sq_subst.specs.Leaves.{Leaves, keeping, map_term}

abbrev pub close_index : ℕ → ℕ → Idx → Idx
close_index x m (Free k) = if k == x then Bound m else Free k
close_index x m (Bound k) = Bound k

-- free variable x becomes the variable of a binder around the term
abbrev pub closing : ℕ → Leaves
closing x = record keeping {
  index = close_index x;
  free_time = λ m k. if k == x then bound m else free k;
}

-- each index `from` becomes `to`
abbrev pub exchanging : Idx → Idx → Leaves
exchanging from to = record keeping { index = λ m i. if is_same_idx i from then to else i }

-- free index k below r becomes the variable of one of r binders around the term, the first of the
-- outermost
abbrev pub bound_index : ℕ → ℕ → Idx → Idx
bound_index r m (Free k) = if nat_lt k r then Bound (m + (r - suc k)) else Free k
bound_index r m (Bound k) = Bound k

-- the same on one side; free timestamps stay
abbrev pub binding : ℕ → Side → Leaves
binding r side = record keeping { index = bound_index r; side = side }

abbrev pub closed_over : ℕ → TermTree → TermTree
closed_over x t = map_term (closing x) 0 t

abbrev pub idx_replaced : Idx → Idx → TermTree → TermTree
idx_replaced from to t = map_term (exchanging from to) 0 t
