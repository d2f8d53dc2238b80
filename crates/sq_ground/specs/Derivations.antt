-- Ground derivations.
use Rattle.std.specs.Prelude.{List, [], ◌∷◌, Bool, ⊤}
use Rattle.sq_term.specs.Lists.{Member, Each}
use Rattle.sq_term.specs.Syntax.{TermTree}
use Rattle.sq_term.specs.Ground.{Ground}
use Rattle.sq_term.specs.Translate.{translate}
use Rattle.sq_ground.specs.GroundSorts.{IsMessage}
use Rattle.sq_ground.specs.Lines.{Line, fact}
use Rattle.sq_ground.specs.Rules.{Rule, FollowsBy}
use Rattle.sq_ground.specs.Theories.{Theory, world_at}

-- the line is an instance of an axiom: its formula on a side, with messages for its schema
-- variables
pub data IsInstance (th : Theory) : Line → Type 0 where
  instance : (left : Bool) (t : TermTree) (ms : List Ground) → Member th.axioms t
      → Each (IsMessage th.funs) ms
      → IsInstance th
      (fact left (translate (world_at th left) (record { variables = []; schemas = ms }) [] t))

-- a line follows by some rule from some earlier lines and some instances of axioms
pub record Follows (th : Theory) (earlier : List Line) (l : Line) : Type 0 where
  pub axioms : List Line
  pub are_instances : Each (IsInstance th) axioms
  pub cited : List Line
  pub are_earlier : Each (Member earlier) cited
  pub rule : Rule
  pub by_rule : FollowsBy th.funs axioms rule cited l

-- a finite list of lines, the last one first, each of which follows from earlier ones
abbrev pub IsDerivation : Theory → List Line → Type 0
IsDerivation th [] = ⊤
IsDerivation th (l ∷ earlier) = Follows th earlier l × IsDerivation th earlier

-- a derivation ends with the line
abbrev pub HasDerivation : Theory → Line → Type 0
HasDerivation th l = (earlier : List Line) × IsDerivation th (l ∷ earlier)
