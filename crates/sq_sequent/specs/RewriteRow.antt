-- The row that rewrites: how its premise is found.
use Rattle.std.specs.Prelude.{ℕ, List, [], ◌∷◌, map, ◌==◌, ◌&&◌, Bool, if◌then◌else◌, Option, Some}
use Rattle.std.specs.Prelude.{None, option_map, slice_set}
use Rattle.std.specs.List.{list_all}
use Rattle.sq_term.specs.Formulas.{equal, both, implies}
use Rattle.sq_term.specs.Syntax.{TermTree, ts_eq, idx_eq}
use Rattle.sq_term.specs.TreeEquality.{is_same_tree}
use Rattle.sq_term.specs.View.{ts_tree, term_tree}
use Rattle.sq_subst.specs.Room.{fits}
use Rattle.sq_system.specs.Limits.{most_nodes}
use Rattle.sq_system.specs.Sequents.{Item, item, Body, trace_body, local_body, equiv_body}
use Rattle.sq_system.specs.Sequents.{SequentTree, trace, local, equiv, hyps_of, body_of}
use Rattle.sq_sequent.specs.declared.rewriting.Rewriting.{Rewriting as RewritingOf}
use Rattle.sq_sequent.specs.declared.rewriting.Rewriting.TheVariants as by
use Rattle.sq_step.specs.declared.step.Dir.{Dir}
use Rattle.sq_step.specs.declared.step.Target.{Target}
use Rattle.sq_step.specs.declared.step.Target.TheVariants as target
use Rattle.sq_sequent.specs.Views.{goal_of, hyp_of}
use Rattle.sq_sequent.specs.Premises.{asking, with_hyps}
use Rattle.sq_sequent.specs.Rewriting.{Rewriting, term_by, time_by, index_by, turned, rewritten}
use Rattle.sq_sequent.specs.Rewriting.{item_rewritten}

-- what the program's value holds
abbrev pub rewriting_tree : RewritingOf → Rewriting
rewriting_tree (by.Terms a b) = term_by (term_tree a.now) (term_tree b.now)
rewriting_tree (by.Times a b) = time_by (ts_tree a.now) (ts_tree b.now)
rewriting_tree (by.Indices i j) = index_by i j

-- ---- what a hypothesis rewrites

-- an equation
unfoldable pub by_equation : TermTree → Option Rewriting
by_equation (equal a b) = Some (term_by a b)
by_equation (ts_eq a b) = Some (time_by a b)
by_equation (idx_eq i j) = Some (index_by i j)
by_equation _ = None

-- `(a => b) && (b => a)`
unfoldable pub by_equivalence : TermTree → Option Rewriting
by_equivalence (both (implies a b) (implies c d)) =
    if is_same_tree a d && is_same_tree b c then Some (term_by a b) else None
by_equivalence _ = None

-- an equivalence of formulas rewrites in a local sequent alone
abbrev pub equivalence_in : Body → TermTree → Option Rewriting
equivalence_in (trace_body goal) t = None
equivalence_in (local_body side goal) t = by_equivalence t
equivalence_in (equiv_body known items) t = None

abbrev pub first_rewriting : Option Rewriting → Option Rewriting → Option Rewriting
first_rewriting (Some r) q = Some r
first_rewriting None q = q

-- the left side by the right one
abbrev pub read_in : SequentTree → TermTree → Option Rewriting
read_in s t = first_rewriting (by_equation t) (equivalence_in (body_of s) t)

unfoldable pub rewriting_of : SequentTree → Dir → Option TermTree → Option Rewriting
rewriting_of s d None = None
rewriting_of s d (Some t) = option_map (turned d) (read_in s t)

-- ---- what is made of it

abbrev pub item_fits : Rewriting → Item → Bool
item_fits r (item a b) = fits most_nodes (rewritten r a) && fits most_nodes (rewritten r b)

abbrev pub items_fit : Rewriting → List Item → Bool
items_fit r items = list_all (item_fits r) items

abbrev pub goal_rewritten : SequentTree → Rewriting → Option TermTree → Option (List SequentTree)
goal_rewritten s r None = None
goal_rewritten s r (Some g) = Some (asking s (rewritten r g) ∷ [])

abbrev pub hyp_rewritten : SequentTree → ℕ → Rewriting → Option TermTree → Option (List SequentTree)
hyp_rewritten s k r None = None
hyp_rewritten s k r (Some t) = Some (with_hyps (slice_set (hyps_of s) k (rewritten r t)) s ∷ [])

abbrev pub items_rewritten : SequentTree → Rewriting → Option (List SequentTree)
items_rewritten (trace vars hyps goal) r = None
items_rewritten (local side vars hyps goal) r = None
items_rewritten (equiv vars hyps known items) r =
    Some (equiv vars hyps known (map (item_rewritten r) items) ∷ [])

-- the goal, the items, or another hypothesis than h
abbrev pub rewriting_at : SequentTree → ℕ → Target → Rewriting → Option (List SequentTree)
rewriting_at s h target.Goal r = goal_rewritten s r (goal_of s)
rewriting_at s h target.Items r = items_rewritten s r
rewriting_at s h (target.Hyp k) r = if k == h then None else hyp_rewritten s k r (hyp_of s k)

-- rew: hypothesis h is an equation, or in a local sequent an equivalence
abbrev pub rew_row : SequentTree → ℕ → Target → Option Rewriting → Option (List SequentTree)
rew_row s h p None = None
rew_row s h p (Some r) = rewriting_at s h p r
