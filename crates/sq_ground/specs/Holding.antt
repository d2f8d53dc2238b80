-- When a sequent holds at a model.
use Rattle.std.specs.Prelude.{◌≡◌, List, [], ◌∷◌, map, Bool, true, false, ⊤}
use Rattle.sq_base.specs.declared.sort.Sort.{Sort}
use Rattle.sq_term.specs.declared.term.Side.{Side}
use Rattle.sq_term.specs.declared.term.Side.TheVariants.{Left, Right, Both}
use Rattle.sq_term.specs.declared.model.Value.{Value}
use Rattle.sq_term.specs.Lists.{Member, Each}
use Rattle.sq_term.specs.Syntax.{TermTree}
use Rattle.sq_term.specs.Translate.{Times, World, Assignment, translate, domain}
use Rattle.sq_system.specs.Sequents.{Item, item, Body, trace_body, local_body, equiv_body}
use Rattle.sq_system.specs.Sequents.{SequentTree, sequent}
use Rattle.sq_ground.specs.Truth.{is_true}
use Rattle.sq_ground.specs.Lines.{Claim, Pair, Line}
use Rattle.sq_ground.specs.Lines as line
use Rattle.sq_ground.specs.GroundSorts.{IsMessage}
use Rattle.sq_ground.specs.Theories.{Theory, world_at}
use Rattle.sq_ground.specs.Derivations.{HasDerivation}

-- the sides of a local sequent, true for the left one
abbrev pub sides_of : Side → List Bool
sides_of Left = true ∷ []
sides_of Right = false ∷ []
sides_of Both = true ∷ false ∷ []

-- each variable has a value of its sort
abbrev pub Fits : Times → List Sort → List Value → Type 0
Fits w [] [] = ⊤
Fits w (s ∷ ss) (x ∷ xs) = Member (domain w s) x × Fits w ss xs
Fits w _ _ = ⊥

-- the variables have values of their sorts, and schema variables messages
pub record IsAssignment (th : Theory) (vars : List Sort) (a : Assignment) : Type 0 where
  pub values : Fits th.times vars a.variables
  pub messages : Each (IsMessage th.funs) a.schemas

abbrev pub claim_of : World → Assignment → List TermTree → TermTree → Claim
claim_of w a hyps goal =
    record { hyps = map (translate w a []) hyps; goal = translate w a [] goal }

-- a trace formula is true: it speaks of the trace alone, so that its value is the same on both
-- sides
abbrev pub IsTrueFormula : Theory → Assignment → TermTree → Type 0
IsTrueFormula th a t = is_true (translate (world_at th true) a [] t) ≡ true

abbrev pub pair_of : Theory → Assignment → Item → Pair
pair_of th a (item t u) =
    record {
      left = translate (world_at th true) a [] t;
      right = translate (world_at th false) a [] u;
    }

abbrev pub pairs_of : Theory → Assignment → List Item → Line
pairs_of th a items = line.equiv (map (pair_of th a) items)

-- Under an assignment: where the hypotheses are true the goal is; the translated line has a
-- derivation on each side; where the hypotheses are true and the known lists have derivations, the
-- items have one.
abbrev pub BodyHolds : Theory → Assignment → List TermTree → Body → Type 0
BodyHolds th a hyps (trace_body goal) = Each (IsTrueFormula th a) hyps → IsTrueFormula th a goal
BodyHolds th a hyps (local_body side goal) =
    (left : Bool) → Member (sides_of side) left
    → HasDerivation th (line.local left (claim_of (world_at th left) a hyps goal))
BodyHolds th a hyps (equiv_body known items) =
    Each (IsTrueFormula th a) hyps → Each (λ list. HasDerivation th (pairs_of th a list)) known
    → HasDerivation th (pairs_of th a items)

-- the sequent holds under every assignment
abbrev pub HoldsAt : Theory → SequentTree → Type 0
HoldsAt th (sequent vars hyps body) =
    (a : Assignment) → IsAssignment th vars a → BodyHolds th a hyps body
