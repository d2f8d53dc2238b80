-- Well-formed sequents, statements and environments.
use Rattle.std.specs.Prelude.{◌≡◌, ℕ, nat_le, List, [], length, replicate, slice_get, Option}
use Rattle.std.specs.Prelude.{Some, None, Bool, true, false, ◌&&◌, ◌||◌, ◌==◌}
use Rattle.std.specs.List.{list_all}
use Rattle.sq_base.specs.declared.sort.Sort.{Sort}
use Rattle.sq_base.specs.declared.sort.Sort.TheVariants.{Message, Boolean, Index}
use Rattle.sq_term.specs.declared.term.Side.TheVariants.{Left, Right, Both}
use Rattle.sq_term.specs.Lists.{Each}
use Rattle.sq_term.specs.Pure.{is_binder_sort}
use Rattle.sq_term.specs.Syntax.{TermTree}
use Rattle.sq_term.specs.Systems.{ActionTree, SystemTree}
use Rattle.sq_typing.specs.Functions.{are_functions}
use Rattle.sq_typing.specs.Standing.{of_trace, of_side, may_stand}
use Rattle.sq_typing.specs.Typing.{Signature, has_sort, binds_indices}
use Rattle.sq_system.specs.declared.env.StmtKind.{StmtKind}
use Rattle.sq_system.specs.declared.env.StmtKind.TheVariants.{Axiom, Lemma, Equiv}
use Rattle.sq_system.specs.Facts.{IsSystem, AreShallow}
use Rattle.sq_system.specs.Limits.{most_entries}
use Rattle.sq_system.specs.Scopes.{signature_of, subject_of}
use Rattle.sq_system.specs.Statements.{StmtTree, EnvTree}
use Rattle.sq_system.specs.Sequents.{Item, item, Body, trace_body, local_body, equiv_body}
use Rattle.sq_system.specs.Sequents.{SequentTree, sequent, local, equiv, vars_of}
use Rattle.sq_system.specs.Sizes.{fits}

-- each side may stand on that side
abbrev pub has_both_sorts : Signature → Sort → Item → Bool
has_both_sorts g s (item a b) = may_stand g (of_side Left) s a && may_stand g (of_side Right) s b

-- the two sides have one sort
abbrev pub is_item : Signature → Item → Bool
is_item g i = has_both_sorts g Message i || has_both_sorts g Boolean i

abbrev pub is_sorted_body : Signature → Body → Bool
is_sorted_body g (trace_body goal) = may_stand g of_trace Boolean goal
is_sorted_body g (local_body side goal) = may_stand g (of_side side) Boolean goal
is_sorted_body g (equiv_body known items) =
    list_all (list_all (is_item g)) known && list_all (is_item g) items

-- each term may stand in its place
abbrev pub is_sorted : Signature → SequentTree → Bool
is_sorted g (sequent vars hyps body) =
    list_all (may_stand g (subject_of body) Boolean) hyps && is_sorted_body g body

-- a sequent of a statement with this system and so many schema variables
abbrev pub is_sequent_of : EnvTree → Option SystemTree → ℕ → SequentTree → Bool
is_sequent_of e None schemas s = false
is_sequent_of e (Some system) schemas s =
    list_all is_binder_sort (vars_of s)
    && (is_sorted (signature_of e system schemas (vars_of s)) s && fits s)

abbrev pub is_well_formed_for : EnvTree → Option StmtTree → SequentTree → Bool
is_well_formed_for e None s = false
is_well_formed_for e (Some g) s =
    is_sequent_of e (slice_get e.systems g.system) (length g.schemas) s

-- the sequent is well-formed for the goal with this number
abbrev pub is_well_formed : EnvTree → ℕ → SequentTree → Bool
is_well_formed e goal s = is_well_formed_for e (slice_get e.stmts goal) s

-- an axiom or a lemma starts as a local sequent of both sides, without variables and hypotheses
abbrev pub starts_local : SequentTree → Bool
starts_local (local Both [] [] goal) = true
starts_local _ = false

-- an equivalence starts without known lists
abbrev pub starts_equiv : SequentTree → Bool
starts_equiv (equiv vars hyps [] items) = true
starts_equiv _ = false

abbrev pub starts_as : StmtKind → ℕ → SequentTree → Bool
starts_as Axiom schemas s = starts_local s
starts_as Lemma schemas s = starts_local s
starts_as Equiv schemas s = (schemas == 0) && starts_equiv s

abbrev pub is_statement : EnvTree → StmtTree → Bool
is_statement e g =
    is_sequent_of e (slice_get e.systems g.system) (length g.schemas) g.start
    && ((length g.vars == length (vars_of g.start))
    && starts_as g.kind (length g.schemas) g.start)

-- a condition or an output: well-sorted over the action's indices, quantifiers over indices alone
abbrev pub is_body : Signature → Sort → TermTree → Bool
is_body g s t = has_sort g [] s t && binds_indices t

abbrev pub are_bodies : EnvTree → SystemTree → ActionTree → Bool
are_bodies e s a =
    is_body (signature_of e s 0 (replicate a.arity Index)) Boolean a.cond
    && is_body (signature_of e s 0 (replicate a.arity Index)) Message a.output

abbrev pub is_well_sorted : EnvTree → SystemTree → Bool
is_well_sorted e s = list_all (are_bodies e s) s.actions

-- each list has no more entries than numbers
abbrev pub are_numbered : EnvTree → Bool
are_numbered e =
    nat_le (length e.names) most_entries
    && (nat_le (length e.funs) most_entries
    && (nat_le (length e.systems) most_entries && nat_le (length e.stmts) most_entries))

-- what a test can say of what every environment keeps
unfoldable pub is_environment : EnvTree → Bool
is_environment e =
    are_numbered e
    && (are_functions e.funs
    && (list_all (is_well_sorted e) e.systems && list_all (is_statement e) e.stmts))

-- what every environment keeps
pub record IsEnvironment (e : EnvTree) : Type 0 where
  pub well_formed : is_environment e ≡ true
  pub systems : Each IsSystem e.systems
  pub shallow : Each AreShallow e.systems
