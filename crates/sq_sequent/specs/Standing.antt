-- What may stand in a sequent: the rules on written terms, and on what stands at a place.
use Rattle.std.specs.Prelude.{[], length, Bool, if◌then◌else◌, Option, Some, None, option_map}
use Rattle.sq_base.specs.declared.sort.Sort.{Sort}
use Rattle.sq_base.specs.declared.sort.Sort.TheVariants.{Index, Timestamp}
use Rattle.sq_term.specs.declared.term.Idx.{Idx}
use Rattle.sq_term.specs.Arguments.{ArgTree, an_index, a_time}
use Rattle.sq_term.specs.Syntax.{TsTree, TermTree}
use Rattle.sq_typing.specs.Typing.{Signature, is_index, is_timestamp}
use Rattle.sq_typing.specs.Standing as typing
use Rattle.sq_system.specs.Sequents.{vars_of, body_of}
use Rattle.sq_system.specs.Usable.{statement_at, system_of}
use Rattle.sq_system.specs.Scopes.{signature_of, subject_of}
use Rattle.sq_step.specs.declared.step.IdxArg.{IdxArg}
use Rattle.sq_step.specs.declared.step.TermArg.{TermArg}
use Rattle.sq_step.specs.declared.step.TsArg.{TsArg}
use Rattle.sq_step.specs.declared.step.ValArg.{ValArg}
use Rattle.sq_step.specs.declared.step.ValArg.TheVariants as val_arg
use Rattle.sq_sequent.specs.Site.{Site}
use Rattle.sq_sequent.specs.Places.{term_at, ts_at, idx_at}

-- the symbols of the environment, the actions of the goal's system, the schema variables of its
-- statement, and the variables of the sequent
abbrev pub signature_at : Site → Signature
signature_at at =
    signature_of at.env (system_of at.env at.goal)
    (length (statement_at at.env at.goal).schemas) (vars_of at.sequent)

-- a term of this sort that the sequent may speak of
unfoldable pub may_stand : Site → Sort → TermTree → Bool
may_stand at sort t = typing.may_stand (signature_at at) (subject_of (body_of at.sequent)) sort t

abbrev pub where_standing : Site → Sort → Option TermTree → Option TermTree
where_standing at sort None = None
where_standing at sort (Some t) = if may_stand at sort t then Some t else None

-- the term of an argument, where it may stand in the sequent
unfoldable pub term_in : Site → Sort → TermArg → Option TermTree
term_in at sort a = where_standing at sort (term_at at.sequent a)

abbrev pub time_where : Signature → Option TsTree → Option TsTree
time_where g None = None
time_where g (Some t) = if is_timestamp g [] t then Some t else None

abbrev pub index_where : Signature → Option Idx → Option Idx
index_where g None = None
index_where g (Some i) = if is_index g [] i then Some i else None

-- the timestamp or the index of an argument, where it speaks of the goal's system and the sequent's
-- variables alone
unfoldable pub time_in : Site → TsArg → Option TsTree
time_in at a = time_where (signature_at at) (ts_at at.sequent a)

unfoldable pub index_in : Site → IdxArg → Option Idx
index_in at a = index_where (signature_at at) (idx_at at.sequent a)

-- the value of an argument for a binder of this sort
unfoldable pub value_in : Site → Sort → ValArg → Option ArgTree
value_in at Index (val_arg.Index a) = option_map an_index (index_in at a)
value_in at Timestamp (val_arg.Time a) = option_map a_time (time_in at a)
value_in at _ _ = None
