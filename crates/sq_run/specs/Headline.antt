-- What Done says of each goal that is listed.
use Rattle.std.specs.Prelude.{◌≡◌, ℕ, List, [], ◌∷◌, ◌++◌, Some, slice_get, codes}
use Rattle.std.specs.List.{flat_map}
use Rattle.sq_term.specs.Lists.{Each}
use Rattle.sq_system.specs.Statements.{EnvTree}
use Rattle.sq_ground.specs.Goals.{HoldsEverywhere}
use Rattle.sq_step.specs.declared.step.Step.{Step}
use Rattle.sq_kernel.specs.Closing.{ClosesGoal}
use Rattle.sq_run.specs.declared.script.Lemma.{Lemma}
use Rattle.sq_run.specs.declared.script.Script.{Script}
use Rattle.sq_run.specs.Scripts.{form_of, environment_of}

-- Goal n of an environment: steps close it by the calculus, and at every trace model of its system,
-- under every assignment, its translation on each side has a derivation by the ground rules from
-- instances of the axioms before it alone.
pub record IsProved (env : EnvTree) (n : ℕ) : Type 0 where
  pub steps : List Step
  pub closed : ClosesGoal env n steps
  pub holds : HoldsEverywhere env n

-- the file has a goal of this name, and it is proved
pub record HasProved (file name : List ℕ) : Type 0 where
  pub script : Script
  pub form : form_of file ≡ Some script
  pub number : ℕ
  pub lemma : Lemma
  pub at : slice_get script.lemmas number ≡ Some lemma
  pub named : lemma.name ≡ name
  pub proved : IsProved (environment_of script) number

abbrev pub proved_line : List ℕ → List ℕ
proved_line name = codes "proved " ++ name ++ 10 ∷ []

-- the text is a line `proved NAME` for each of some names, and the file has a proved goal of each
-- of these names
pub record ListsProved (file text : List ℕ) : Type 0 where
  pub names : List (List ℕ)
  pub lines : text ≡ flat_map proved_line names
  pub each : Each (HasProved file) names
