-- What the commands of a proof do, and the first trouble of a file's proofs.
use Rattle.std.specs.Prelude.{ℕ, zero, suc, Bool, ◌||◌, ◌+◌, nat_le, List, [], ◌∷◌, ◌++◌, length}
use Rattle.std.specs.Prelude.{map}
use Rattle.std.specs.Prelude.{Option, Some, None, Result, Ok, Err, if◌then◌else◌}
use Rattle.std.specs.List.{list_any, list_all, position_from}
use Rattle.std.specs.Str.{bytes_eq}
use Rattle.sq_term.specs.Syntax.{TermTree}
use Rattle.sq_term.specs.TreeEquality.{is_same_tree}
use Rattle.sq_system.specs.Sequents.{SequentTree, sequent_tree, hyps_of}
use Rattle.sq_system.specs.Sizes.{sequent_size}
use Rattle.sq_system.specs.Statements.{EnvTree}
use Rattle.sq_system.specs.Usable.{statement_at}
use Rattle.sq_system.specs.declared.fault.RuleFault.{RuleFault}
use Rattle.sq_step.specs.declared.step.Step.TheVariants as step
use Rattle.sq_sequent.specs.Views.{goal_of}
use Rattle.sq_kernel.specs.Closing.{site}
use Rattle.sq_kernel.specs.Verdicts.{calculus}
use Rattle.sq_run.specs.declared.script.Command.{Command}
use Rattle.sq_run.specs.declared.script.Command.TheVariants.{Intro, Destruct, Split, Assumption}
use Rattle.sq_run.specs.declared.script.Place.{Place}
use Rattle.sq_run.specs.declared.script.Task.{Task}
use Rattle.sq_run.specs.declared.script.Lemma.{Lemma}
use Rattle.sq_run.specs.declared.script.Script.{Script}
use Rattle.sq_run.specs.declared.goal.Goal.{Goal}
use Rattle.sq_run.specs.declared.goal.Plan.{Plan}
use Rattle.sq_run.specs.declared.goal.Refusal.{Refusal}
use Rattle.sq_run.specs.declared.goal.Refusal.TheVariants as refusal
use Rattle.sq_run.specs.declared.runner.Trouble.{Trouble}
use Rattle.sq_run.specs.declared.runner.Trouble.TheVariants.{NotBuilt, Shape, OpenGoals}
use Rattle.sq_run.specs.Refusals.{refusal_of}
use Rattle.sq_run.specs.Scripts.{environment_of}

-- an open goal: a sequent, and the labels of its hypotheses
pub record GoalTree : Type 0 where
  pub sequent : SequentTree
  pub labels : List (List ℕ)

abbrev pub goal_tree : Goal → GoalTree
goal_tree g = record { sequent = sequent_tree g.sequent; labels = g.labels }

abbrev pub goal_trees : List Goal → List GoalTree
goal_trees gs = map goal_tree gs

abbrev pub is_label : List (List ℕ) → List ℕ → Bool
is_label labels label = list_any (λ l. bytes_eq l label) labels

-- the first hypothesis with the label
abbrev pub labelled : List (List ℕ) → List ℕ → Option ℕ
labelled labels label = position_from (λ l. bytes_eq l label) 0 labels

-- the first hypothesis that is the goal
abbrev pub assumed_in : List TermTree → Option TermTree → Option ℕ
assumed_in hyps None = None
assumed_in hyps (Some goal) = position_from (is_same_tree goal) 0 hyps

-- one step, and the labels of the hypotheses that it adds
abbrev pub intro_plan : List (List ℕ) → List ℕ → Result Plan Refusal
intro_plan labels x =
    if is_label labels x then Err refusal.NotBuilt
    else Ok (record { step = step.Impi; labels = x ∷ [] })

abbrev pub destruct_plan : Option ℕ → List (List ℕ) → List ℕ → List ℕ → Result Plan Refusal
destruct_plan None labels x y = Err refusal.NotBuilt
destruct_plan (Some h) labels x y =
    if is_label labels x || is_label labels y || bytes_eq x y then Err refusal.NotBuilt
    else Ok (record { step = step.Ande h; labels = x ∷ y ∷ [] })

abbrev pub assumption_plan : Option ℕ → Result Plan Refusal
assumption_plan None = Err refusal.Shape
assumption_plan (Some h) = Ok (record { step = step.Hyp h; labels = [] })

abbrev pub plan_of : Command → GoalTree → Result Plan Refusal
plan_of (Intro x) g = intro_plan g.labels x
plan_of (Destruct h x y) g = destruct_plan (labelled g.labels h) g.labels x y
plan_of Split g = Ok (record { step = step.Andi; labels = [] })
plan_of Assumption g = assumption_plan (assumed_in (hyps_of g.sequent) (goal_of g.sequent))

-- the premises with the labels of the goal and these
abbrev pub with_labels : List (List ℕ) → List SequentTree → List GoalTree
with_labels labels ps = map (λ p. record { sequent = p; labels = labels }) ps

-- the most nodes of an open goal
abbrev pub most_nodes : ℕ
most_nodes = 65536

abbrev pub is_small : SequentTree → Bool
is_small s = nat_le (sequent_size s) most_nodes

abbrev pub are_small : List SequentTree → Bool
are_small ps = list_all is_small ps

abbrev pub new_goals : List (List ℕ) → Result (List SequentTree) RuleFault
    → Result (List GoalTree) Refusal
new_goals labels (Ok ps) =
    if are_small ps then Ok (with_labels labels ps) else Err refusal.NotBuilt
new_goals labels (Err fault) = Err (refusal_of fault)

abbrev pub after_plan : EnvTree → ℕ → GoalTree → Result Plan Refusal
    → Result (List GoalTree) Refusal
after_plan env n g (Ok plan) =
    new_goals (g.labels ++ plan.labels) (calculus (site env n g.sequent) plan.step)
after_plan env n g (Err r) = Err r

abbrev pub in_front : Result (List GoalTree) Refusal → List GoalTree
    → Result (List GoalTree) Refusal
in_front (Ok gs) rest = Ok (gs ++ rest)
in_front (Err r) rest = Err r

-- a command replaces the first open goal by the premises of its step
abbrev pub after_command : EnvTree → ℕ → Command → List GoalTree
    → Result (List GoalTree) Refusal
after_command env n command [] = Err refusal.Shape
after_command env n command (g ∷ rest) = in_front (after_plan env n g (plan_of command g)) rest

abbrev pub trouble_at : Refusal → Place → Trouble
trouble_at refusal.Shape place = Shape place
trouble_at r place = NotBuilt

-- at the proof's end no goal is open
abbrev pub open_goals : ℕ → Place → Option Trouble
open_goals zero place = None
open_goals (suc n) place = Some (OpenGoals (suc n) place)

abbrev pub at_end : List GoalTree → Place → Option Trouble
at_end gs place = open_goals (length gs) place

abbrev pub after_task : Result (List GoalTree) Refusal → Place → (List GoalTree → Option Trouble)
    → Option Trouble
after_task (Ok gs) place further = further gs
after_task (Err r) place further = Some (trouble_at r place)

-- the first trouble of a proof's commands and its end, from these open goals on
abbrev pub proof_trouble : EnvTree → ℕ → List Task → Place → List GoalTree → Option Trouble
proof_trouble env n [] qed gs = at_end gs qed
proof_trouble env n (t ∷ ts) qed gs =
    after_task (after_command env n t.command gs) t.place (proof_trouble env n ts qed)

-- a lemma's first open goal
abbrev pub first_goals : SequentTree → List GoalTree
first_goals start = record { sequent = start; labels = [] } ∷ []

abbrev pub lemma_trouble : EnvTree → ℕ → Lemma → Option Trouble
lemma_trouble env n l =
    proof_trouble env n l.tasks l.qed (first_goals (statement_at env n).start)

abbrev pub earlier : Option Trouble → Option Trouble → Option Trouble
earlier None later = later
earlier (Some t) later = Some t

-- the first trouble of the lemmas, the first of them being statement n
abbrev pub lemmas_trouble : EnvTree → ℕ → List Lemma → Option Trouble
lemmas_trouble env n [] = None
lemmas_trouble env n (l ∷ ls) = earlier (lemma_trouble env n l) (lemmas_trouble env (n + 1) ls)

-- the first trouble of a file's proofs
unfoldable pub trouble_of : Script → Option Trouble
trouble_of s = lemmas_trouble (environment_of s) 0 s.lemmas
