-- The row that uses an earlier axiom or lemma.
use Rattle.std.specs.Prelude.{ℕ, ◌==◌, if◌then◌else◌, ◌&&◌, List, [], ◌∷◌}
use Rattle.std.specs.Prelude.{length, Option, Some, None, slice_get}
use Rattle.sq_base.specs.declared.sort.Sort.TheVariants.{Message}
use Rattle.sq_term.specs.declared.term.Side.{Side}
use Rattle.sq_term.specs.Syntax.{TermTree}
use Rattle.sq_system.specs.Sequents.{Body, trace_body, local_body, equiv_body, SequentTree, body_of}
use Rattle.sq_system.specs.Statements.{StmtTree}
use Rattle.sq_system.specs.Usable.{usable, states_a_formula}
use Rattle.sq_step.specs.declared.step.TermArg.{TermArg}
use Rattle.sq_sequent.specs.Site.{Site}
use Rattle.sq_sequent.specs.Views.{goal_of}
use Rattle.sq_sequent.specs.Premises.{assuming}
use Rattle.sq_sequent.specs.Sides.{instance_on}
use Rattle.sq_sequent.specs.Standing.{term_in}

-- the formula of statement k, where the goal may use it and it has so many schema variables
abbrev pub offered_by : Site → ℕ → ℕ → Option StmtTree → Option TermTree
offered_by at k n None = None
offered_by at k n (Some st) =
    if usable at.env at.goal k && (states_a_formula st.kind && (n == length st.schemas))
    then goal_of st.start else None

unfoldable pub offered : Site → ℕ → ℕ → Option TermTree
offered at k n = offered_by at k n (slice_get at.env.stmts k)

abbrev pub with_first : Option TermTree → Option (List TermTree) → Option (List TermTree)
with_first None ts = None
with_first (Some t) None = None
with_first (Some t) (Some ts) = Some (t ∷ ts)

-- the messages of arguments, where each of them may stand in the sequent
abbrev pub messages_in : Site → List TermArg → Option (List TermTree)
messages_in at [] = Some []
messages_in at (w ∷ ws) = with_first (term_in at Message w) (messages_in at ws)

abbrev pub used_with : SequentTree → Side → Option TermTree → Option (List TermTree)
    → Option (List SequentTree)
used_with s side None ms = None
used_with s side (Some F) None = None
used_with s side (Some F) (Some ms) = Some (assuming s (instance_on side ms F) ∷ [])

-- use: of statement k, with messages for its schema variables, in a local sequent
abbrev pub use_on : Site → Body → ℕ → List TermArg → Option (List SequentTree)
use_on at (trace_body g) k ws = None
use_on at (local_body side g) k ws =
    used_with at.sequent side (offered at k (length ws)) (messages_in at ws)
use_on at (equiv_body known items) k ws = None

unfoldable pub use_row : Site → ℕ → List TermArg → Option (List SequentTree)
use_row at k ws = use_on at (body_of at.sequent) k ws
