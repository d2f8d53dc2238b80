-- What the readers of one goal and of its steps answer.
use Rattle.std.specs.Prelude.{◌≡◌, ◌<◌, ◌+◌, ℕ, List, ◌∷◌, ◌++◌, length, map, IsTrue, ⊤}
use Rattle.std.specs.List.{list_all}
use Rattle.sq_step.specs.declared.step.Step.{Step}
use Rattle.sq_cert_steps.specs.Lines.{step_line, is_spelled}
use Rattle.sq_cert.specs.declared.fault.ReadFault.{ReadFault}
use Rattle.sq_cert.specs.declared.fault.ReadFault.TheVariants.{Truncated, Trailing, BadStep}
use Rattle.sq_cert.specs.declared.fault.ReadFault.TheVariants.{NoMemory}
use Rattle.sq_cert.specs.Certificates.{Block, lines_text, IsGoalLine}
use Rattle.sq_cert.specs.Refusals.{IsOneLine, HasNoStep, HasNoGoal}

-- these steps stand at the front of the text
pub record TakesSteps (steps : List Step) (text rest : List ℕ) : Type 0 where
  pub spelled : IsTrue (list_all is_spelled steps)
  pub whole : text ≡ lines_text (map step_line steps) ++ rest

-- fewer steps than are owed stand at the front, and no further line is whole
pub record LacksSteps (owed : ℕ) (text : List ℕ) : Type 0 where
  pub steps : List Step
  pub rest : List ℕ
  pub fewer : length steps < owed
  pub taken : TakesSteps steps text rest
  pub unfinished : IsOneLine rest

-- and the next line, which has this number where `before` lines stand before the steps, is no step
pub record HasBadStep (owed before : ℕ) (text : List ℕ) (number : ℕ) : Type 0 where
  pub steps : List Step
  pub line : List ℕ
  pub rest : List ℕ
  pub fewer : length steps < owed
  pub taken : TakesSteps steps text (line ++ 10 ∷ rest)
  pub one_line : IsOneLine line
  pub refused : HasNoStep line
  pub counted : number ≡ before + length steps + 1

abbrev pub StopsInSteps : ℕ → ℕ → List ℕ → ReadFault → Type 0
StopsInSteps owed before text Truncated = LacksSteps owed text
StopsInSteps owed before text (Trailing number) = ⊥
StopsInSteps owed before text (BadStep number) = HasBadStep owed before text number
StopsInSteps owed before text NoMemory = ⊤

-- the line is the goal line of the block, and its steps stand at the front of the text behind it
pub record TakesBlock (block : Block) (line text rest : List ℕ) : Type 0 where
  pub goal : IsGoalLine line block.0 (length block.1)
  pub taken : TakesSteps block.1 text rest

-- so many lines were taken with this one, which is no goal line, or whose steps are cut short or
-- refused
pub data StopsInBlock (line : List ℕ) (before : ℕ) (text : List ℕ) (e : ReadFault) : Type 0 where
  no_memory : e ≡ NoMemory → StopsInBlock line before text e
  at_goal : e ≡ BadStep before → HasNoGoal line → StopsInBlock line before text e
  in_steps : (name : List ℕ) (owed : ℕ) → IsGoalLine line name owed
      → StopsInSteps owed before text e → StopsInBlock line before text e
