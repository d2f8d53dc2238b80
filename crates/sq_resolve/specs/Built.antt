-- Terms that are built within the limits of a formula.
use Rattle.std.specs.Prelude.{◌≡◌, ℕ, ◌≤◌, ◌<◌, List, [], map, Result, Ok, Err, Bool, true, ◌&&◌}
use Rattle.std.specs.Prelude.{nat_le, if◌then◌else◌, ◌≢◌}
use Rattle.sq_base.specs.declared.sort.Sort.{Sort}
use Rattle.sq_base.specs.declared.sort.Sort.TheVariants.{Index}
use Rattle.sq_ast.specs.Tree.{FormulaTree}
use Rattle.sq_term.specs.Arguments.{ArgTree, an_index, a_time}
use Rattle.sq_term.specs.Measure.{size, depth, sizes, depths, ts_size, ts_depth}
use Rattle.sq_term.specs.Syntax.{TermTree, TermTrees}
use Rattle.sq_term.specs.View.{term_tree, row}
use Rattle.sq_resolve.specs.declared.sized.SizedTerm.{SizedTerm}
use Rattle.sq_resolve.specs.declared.sized.Built.{Built}
use Rattle.sq_resolve.specs.declared.sized.Built.TheVariants.{Within, TooLarge as Passes}
use Rattle.sq_resolve.specs.declared.sized.SizedRow.{SizedRow}
use Rattle.sq_resolve.specs.declared.sized.Row.{Row}
use Rattle.sq_resolve.specs.declared.sized.Row.TheVariants as r
use Rattle.sq_resolve.specs.declared.fault.ResolveFault.{ResolveFault}
use Rattle.sq_resolve.specs.declared.fault.ResolveFault.TheVariants.{TooLarge, NoMemory}
use Rattle.sq_resolve.specs.Limits.{most_formula_nodes, most_formula_depth}
use Rattle.sq_resolve.specs.Resolved.{Found, mapped, index_of, time_of}
use Rattle.sq_resolve.specs.Scopes.{Context}
use Rattle.sq_term.specs.TreeEquality.{is_same_sort}

-- the term and its measures
pub record Measures (s : SizedTerm) (t : TermTree) : Type 0 where
  pub term_is : term_tree s.term ≡ t
  pub nodes_is : s.nodes ≡ size t
  pub depth_is : s.depth ≡ depth t

-- what was built for the tree
abbrev pub IsBuilt : Built → TermTree → Type 0
IsBuilt (Within s) t = Measures s t
IsBuilt Passes t = size t ≤ most_formula_nodes → most_formula_depth < depth t

pub record MeasuresRow (s : SizedRow) (ts : List TermTree) : Type 0 where
  pub terms_are : map term_tree s.terms.items ≡ ts
  pub nodes_is : s.nodes ≡ sizes (row ts)
  pub depth_is : s.depth ≡ depths (row ts)

abbrev pub IsRow : Row → List TermTree → Type 0
IsRow (r.Within s) ts = MeasuresRow s ts
IsRow r.TooLarge ts = sizes (row ts) ≤ most_formula_nodes → most_formula_depth < depths (row ts)

-- a call that builds the term of a place, or answers the fault of the first place in it that has
-- one
abbrev pub Builds : Result Built ResolveFault → Found TermTree → Type 0
Builds (Ok b) (Ok t) = IsBuilt b t
Builds (Ok b) (Err e) = ⊥
Builds (Err e) m = e ≢ NoMemory → m ≡ Err e

-- a call that builds the terms of a row of places
pub record IsRowOf (r : Row) (ts : TermTrees) : Type 0 where
  pub terms : List TermTree
  pub row_is : IsRow r terms
  pub terms_are : row terms ≡ ts

abbrev pub BuildsRow : Result Row ResolveFault → Found TermTrees → Type 0
BuildsRow (Ok r) (Ok ts) = IsRowOf r ts
BuildsRow (Ok r) (Err e) = ⊥
BuildsRow (Err e) m = e ≢ NoMemory → m ≡ Err e

-- ---- outcomes

abbrev pub within_limits : ℕ → ℕ → Bool
within_limits nodes deep = nat_le nodes most_formula_nodes && nat_le deep most_formula_depth

-- an index or a timestamp of a tree that stands behind no binder
abbrev pub arg_of : Context → Sort → FormulaTree → Found ArgTree
arg_of c want f =
    if is_same_sort want Index then mapped an_index (index_of c [] f)
    else mapped a_time (time_of c [] f)

abbrev pub arg_fits : ArgTree → Bool
arg_fits (an_index i) = true
arg_fits (a_time u) = within_limits (ts_size u) (ts_depth u)

abbrev pub limited_arg : Found ArgTree → Found ArgTree
limited_arg (Ok a) = if arg_fits a then Ok a else Err TooLarge
limited_arg (Err e) = Err e

-- faults stand before the limits
abbrev pub limited_term : Found TermTree → Found TermTree
limited_term (Ok t) = if within_limits (size t) (depth t) then Ok t else Err TooLarge
limited_term (Err e) = Err e
