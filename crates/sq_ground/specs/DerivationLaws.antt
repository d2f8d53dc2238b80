-- What is proved of derivations.
use Rattle.std.specs.Prelude.{◌≡◌, ℕ, List, [], Bool, true, false}
use Rattle.sq_term.specs.declared.model.Model.{Model}
use Rattle.sq_term.specs.Lists.{Member, Each}
use Rattle.sq_term.specs.Models.{IsTraceModel}
use Rattle.sq_term.specs.Syntax.{TermTree}
use Rattle.sq_system.specs.Sequents.{SequentTree, trace, local, equiv}
use Rattle.sq_system.specs.Statements.{EnvTree}
use Rattle.sq_system.specs.Usable.{usable, is_axiom, statement_at, system_of}
use Rattle.sq_ground.specs.Lines.{Claim, Line, Entails}
use Rattle.sq_ground.specs.Lines as line
use Rattle.sq_ground.specs.Theories.{Theory}
use Rattle.sq_ground.specs.Derivations.{IsInstance, Follows, HasDerivation}
use Rattle.sq_ground.specs.Holding.{HoldsAt}
use Rattle.sq_ground.specs.Goals.{theory_of, HoldsEverywhere}

-- a line that follows from lines that have derivations has one
abbrev pub DerivationsCompose : Type 0
DerivationsCompose =
    (th : Theory) (lines : List Line) (l : Line) → Each (HasDerivation th) lines
    → Follows th lines l
    → HasDerivation th l

-- an instance of an axiom has a derivation
abbrev pub InstancesAreDerivable : Type 0
InstancesAreDerivable = (th : Theory) (l : Line) → IsInstance th l → HasDerivation th l

-- a claim that is true wherever claims of its side are true has a derivation where they have
abbrev pub TruthTablesDerive : Type 0
TruthTablesDerive =
    (th : Theory) (left : Bool) (cited : List Claim) (c : Claim)
    → Each (λ d. HasDerivation th (line.local left d)) cited → Entails cited c
    → HasDerivation th (line.local left c)

-- the theory with these axioms
abbrev pub with_axioms : Theory → List TermTree → Theory
with_axioms th axioms = record th { axioms = axioms }

-- with more axioms no derivation is lost
abbrev pub MoreAxiomsDeriveNoLess : Type 0
MoreAxiomsDeriveNoLess =
    (th : Theory) (axioms : List TermTree) → Each (Member axioms) th.axioms → (l : Line)
    → HasDerivation th l → HasDerivation (with_axioms th axioms) l

-- a sequent has no known lists, as that of a statement
abbrev pub KnowsNothing : SequentTree → Type 0
KnowsNothing (trace vars hyps goal) = Unit {0}
KnowsNothing (local side vars hyps goal) = Unit {0}
KnowsNothing (equiv vars hyps known items) = known ≡ []

-- a lemma or an equivalence
abbrev pub IsClaimed : EnvTree → ℕ → Type 0
IsClaimed env k = is_axiom (statement_at env k).kind ≡ false

-- what holds before an earlier goal holds before a later one that may use it
abbrev pub EarlierGoalsStillHold : Type 0
EarlierGoalsStillHold =
    (env : EnvTree) (g k : ℕ) (m : Model) → usable env g k ≡ true → IsClaimed env k
    → KnowsNothing (statement_at env k).start
    → HoldsAt (theory_of env k m) (statement_at env k).start
    → HoldsAt (theory_of env g m) (statement_at env k).start

-- the goal holds at each model of its system where those hold that it may use
abbrev pub HoldsByEarlier : EnvTree → ℕ → Type 0
HoldsByEarlier env g =
    (m : Model) → IsTraceModel (system_of env g) m
    → ((k : ℕ) → usable env g k ≡ true → IsClaimed env k
    → HoldsAt (theory_of env g m) (statement_at env k).start)
    → HoldsAt (theory_of env g m) (statement_at env g).start

-- where each goal holds by earlier ones, each holds everywhere: no lemma is a source of its own
abbrev pub GoalsHoldInOrder : Type 0
GoalsHoldInOrder =
    (env : EnvTree) → ((k : ℕ) → KnowsNothing (statement_at env k).start)
    → ((g : ℕ) → IsClaimed env g → HoldsByEarlier env g)
    → (g : ℕ) → IsClaimed env g → HoldsEverywhere env g
