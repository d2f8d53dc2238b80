-- Rewriting by a hypothesis that is an equation or an equivalence.
use Rattle.sq_term.specs.declared.term.Idx.{Idx}
use Rattle.sq_term.specs.Syntax.{TsTree, TermTree}
use Rattle.sq_subst.specs.Renaming.{idx_replaced}
use Rattle.sq_subst.specs.Replacement.{ts_replaced, term_replaced}
use Rattle.sq_system.specs.Sequents.{Item, item}
use Rattle.sq_step.specs.declared.step.Dir.{Dir}
use Rattle.sq_step.specs.declared.step.Dir.TheVariants.{Forward, Backward}

-- what is replaced, and by what
pub data Rewriting : Type 0 where
  term_by : TermTree → TermTree → Rewriting
  time_by : TsTree → TsTree → Rewriting
  index_by : Idx → Idx → Rewriting

-- read in this direction
abbrev pub turned : Dir → Rewriting → Rewriting
turned Forward r = r
turned Backward (term_by a b) = term_by b a
turned Backward (time_by a b) = time_by b a
turned Backward (index_by i j) = index_by j i

-- each occurrence replaced
abbrev pub rewritten : Rewriting → TermTree → TermTree
rewritten (term_by a b) t = term_replaced a b t
rewritten (time_by a b) t = ts_replaced a b t
rewritten (index_by i j) t = idx_replaced i j t

-- on both sides of an item
abbrev pub item_rewritten : Rewriting → Item → Item
item_rewritten r (item a b) = item (rewritten r a) (rewritten r b)
