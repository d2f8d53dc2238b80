-- What the call `translate` answers.
use Rattle.std.specs.Prelude.{◌≡◌, ℕ, List, [], Bool, true, false, Result, Ok, Err}
use Rattle.sq_term.specs.declared.term.Side.{Side}
use Rattle.sq_term.specs.declared.term.Side.TheVariants.{Left, Right, Both}
use Rattle.sq_term.specs.declared.term.SizeFault.{SizeFault}
use Rattle.sq_term.specs.declared.term.SizeFault.TheVariants.{TooLarge, NoMemory}
use Rattle.sq_term.specs.declared.ground.GTerm.{GTerm}
use Rattle.sq_term.specs.declared.model.Model.{Model}
use Rattle.sq_term.specs.declared.model.Value.{Value}
use Rattle.sq_term.specs.Ground.{Ground, ground}
use Rattle.sq_term.specs.Syntax.{TermTree}
use Rattle.sq_term.specs.Systems.{SystemTree}
use Rattle.sq_term.specs.Translate.{Assignment, translate}
use Rattle.sq_term.specs.Records.{world}
use Rattle.sq_ground.specs.Calls.GroundMeasure.{FitsIn}

-- which side is read; a term is read on one of them
abbrev pub is_left : Side → Bool
is_left Left = true
is_left Right = false
is_left Both = false

-- these values of the variables; a schema variable stands for its atom
abbrev pub values_alone : List Value → Assignment
values_alone vars = record { variables = vars; schemas = [] }

-- the ground term of a term at a model of a system
abbrev pub ground_translation : SystemTree → Model → Side → List Value → TermTree → Ground
ground_translation s m side vars t = translate (world s m (is_left side)) (values_alone vars) [] t

-- the answer for a ground term with this room: the term itself, or TooLarge where it does not fit
abbrev pub IsAnswer : ℕ → Ground → Result GTerm SizeFault → Type 0
IsAnswer room g (Ok t) = (ground t ≡ g) × FitsIn room g
IsAnswer room g (Err TooLarge) = FitsIn room g → ⊥
IsAnswer room g (Err NoMemory) = Unit {0}
