-- The changes of the program as cases of the walk.
use Rattle.std.specs.Prelude.{map}
use Rattle.sq_term.specs.View.{ts_tree, term_tree}
use Rattle.sq_term.specs.Arguments.{arg_tree}
use Rattle.sq_term.specs.Syntax.{TsTree, bound}
use Rattle.sq_subst.specs.declared.change.Change.{Change}
use Rattle.sq_subst.specs.declared.change.Change.TheVariants as change
use Rattle.sq_subst.specs.declared.change.NewTs.{NewTs}
use Rattle.sq_subst.specs.declared.change.NewTs.TheVariants as new
use Rattle.sq_subst.specs.Leaves.{Leaves}
use Rattle.sq_subst.specs.Substitution.{substitution}
use Rattle.sq_subst.specs.Renaming.{closing, exchanging, binding}
use Rattle.sq_subst.specs.Replacement.{exchanging_times, exchanging_terms}
use Rattle.sq_subst.specs.Projection.{projecting}

abbrev pub leaves : Change → Leaves
leaves (change.Put vars outer schemas) =
    substitution (map arg_tree vars.now) (map arg_tree outer.now) (map term_tree schemas.now)
leaves (change.Close x) = closing x
leaves (change.Index from to) = exchanging from to
leaves (change.Time from to) = exchanging_times (ts_tree from.now) (ts_tree to.now)
leaves (change.Term from to) = exchanging_terms (term_tree from.now) (term_tree to.now)
leaves (change.Project side) = projecting side
leaves (change.Bind r side) = binding r side

-- what is put in the place of a timestamp variable
abbrev pub new_ts : NewTs → TsTree
new_ts (new.Bound k) = bound k
new_ts (new.Copy t) = ts_tree t.now
