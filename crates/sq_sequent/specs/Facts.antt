-- The row that makes the fact of a term a hypothesis.
use Rattle.std.specs.Prelude.{List, [], ◌∷◌, if◌then◌else◌, Option, Some, None}
use Rattle.sq_term.specs.Syntax.{TermTree}
use Rattle.sq_system.specs.Sequents.{Body, trace_body, local_body, equiv_body, SequentTree, body_of}
use Rattle.sq_formula.specs.FactSearch.{fact_of, fact_sort}
use Rattle.sq_step.specs.declared.step.TermArg.{TermArg}
use Rattle.sq_sequent.specs.Site.{Site}
use Rattle.sq_sequent.specs.Places.{term_at}
use Rattle.sq_sequent.specs.Premises.{assuming}
use Rattle.sq_sequent.specs.Standing.{may_stand}

-- the fact of an argument's term, which may stand in the sequent
abbrev pub standing_fact : Site → Option TermTree → Option TermTree
standing_fact at None = None
standing_fact at (Some t) =
    if may_stand at (fact_sort at.env.funs t) t then fact_of at.env.funs t else None

abbrev pub assumed_fact : SequentTree → Option TermTree → Option (List SequentTree)
assumed_fact s None = None
assumed_fact s (Some F) = Some (assuming s F ∷ [])

-- fact: of a local sequent, the fact of a term becomes a hypothesis
abbrev pub fact_on : Site → Body → TermArg → Option (List SequentTree)
fact_on at (trace_body g) a = None
fact_on at (local_body side g) a = assumed_fact at.sequent (standing_fact at (term_at at.sequent a))
fact_on at (equiv_body known items) a = None

abbrev pub fact_row : Site → TermArg → Option (List SequentTree)
fact_row at a = fact_on at (body_of at.sequent) a
