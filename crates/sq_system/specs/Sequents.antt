-- Sequents as definitions see them.
use Rattle.std.specs.Prelude.{List, map}
use Rattle.sq_base.specs.declared.sort.Sort.{Sort}
use Rattle.sq_term.specs.declared.term.Side.{Side}
use Rattle.sq_term.specs.Syntax.{TermTree}
use Rattle.sq_term.specs.View.{term_tree}
use Rattle.sq_system.specs.declared.sequent.Both.{Both}
use Rattle.sq_system.specs.declared.sequent.Sequent.{Sequent}
use Rattle.sq_system.specs.declared.sequent.Sequent.TheVariants as s

-- the two sides of an item
pub data Item : Type 0 where
  item : TermTree → TermTree → Item

-- what is to be shown: a goal on the trace, or on a side, or items beside lists that are known
pub data Body : Type 0 where
  trace_body : TermTree → Body
  local_body : Side → TermTree → Body
  equiv_body : List (List Item) → List Item → Body

-- variables, hypotheses and body
pub data SequentTree : Type 0 where
  sequent : List Sort → List TermTree → Body → SequentTree

-- the three kinds of sequents

pattern abbrev pub trace : List Sort → List TermTree → TermTree → SequentTree
trace vars hyps goal = sequent vars hyps (trace_body goal)

pattern abbrev pub local : Side → List Sort → List TermTree → TermTree → SequentTree
local side vars hyps goal = sequent vars hyps (local_body side goal)

pattern abbrev pub equiv : List Sort → List TermTree → List (List Item) → List Item → SequentTree
equiv vars hyps known items = sequent vars hyps (equiv_body known items)

abbrev pub vars_of : SequentTree → List Sort
vars_of (sequent vars hyps body) = vars

abbrev pub hyps_of : SequentTree → List TermTree
hyps_of (sequent vars hyps body) = hyps

abbrev pub body_of : SequentTree → Body
body_of (sequent vars hyps body) = body

-- the sequent that the program's value holds

abbrev pub item_of : Both → Item
item_of b = item (term_tree b.left) (term_tree b.right)

abbrev pub sequent_tree : Sequent → SequentTree
sequent_tree (s.Trace vars hyps goal) = trace vars (map term_tree hyps) (term_tree goal)
sequent_tree (s.Local side vars hyps goal) = local side vars (map term_tree hyps) (term_tree goal)
sequent_tree (s.Equiv vars hyps known items) =
    equiv vars (map term_tree hyps) (map (map item_of) known) (map item_of items)
