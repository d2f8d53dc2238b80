-- Ways from the root of a process with its calls replaced, and what is read off a way alone.
use Rattle.std.specs.Prelude.{ℕ, ◌+◌, List, [], ◌∷◌, ◌++◌, length, codes, replicate, Option, Some}
use Rattle.std.specs.Prelude.{None, Bool, true, false, if◌then◌else◌}
use Rattle.sq_ast.specs.Tree.{FormulaTree}
use Rattle.sq_term.specs.declared.action.PathStep.{PathStep}
use Rattle.sq_term.specs.declared.action.PathStep.TheVariants as mark
use Rattle.sq_resolve.specs.Scopes.{first_some}

-- What a way passes. Where a node may close an action, the step has the action's number if it does.
pub data Step : Type 0 where
  -- `new x`, with the number of the new name
  creates : List ℕ → ℕ → Step
  receives : List ℕ → Option ℕ → Step
  repeats : List ℕ → Option ℕ → Step
  sends : FormulaTree → ℕ → Step
  -- `if`, to the first branch where true
  tests : FormulaTree → Bool → Step
  -- `find`, to where it found where true
  finds : List (List ℕ) → FormulaTree → Bool → Step
  defines : List ℕ → FormulaTree → Step
  -- into part k of a parallel, counted from 0; whether others follow it
  part : ℕ → Bool → Option ℕ → Step
  labels : List ℕ → Step
  -- into a called body: its parameters, and what the call gives for them
  enters : List (List ℕ) → List (List ℕ) → Step

-- the step nearest to the node comes first
abbrev pub Way : Type 0
Way = List Step

-- the action that the node closes
abbrev pub closes : Step → Option ℕ
closes (receives x a) = a
closes (repeats i a) = a
closes (sends m a) = Some a
closes (part k more a) = a
closes s = None

-- a node at the end of the way closes an action, even if it is no `out`
abbrev pub pending : Way → Bool
pending [] = false
pending (receives x a ∷ w) = true
pending (tests f b ∷ w) = true
pending (finds ns f b ∷ w) = true
pending (sends m a ∷ w) = false
pending (repeats i a ∷ w) = false
pending (part k more a ∷ w) = false
pending (s ∷ w) = pending w

abbrev pub indices_of_step : Step → ℕ
indices_of_step (repeats i a) = 1
indices_of_step (finds ns f true) = length ns
indices_of_step s = 0

-- how many indices an action at the end of the way has
abbrev pub indices : Way → ℕ
indices [] = 0
indices (s ∷ w) = indices w + indices_of_step s

-- the last action before it on the way
abbrev pub parent : Way → Option ℕ
parent [] = None
parent (s ∷ w) = first_some (closes s) (parent w)

-- the nearest label, of a caller too
abbrev pub label : Way → List ℕ
label [] = codes "A"
label (labels l ∷ w) = l
label (s ∷ w) = label w

abbrev pub done : Option ℕ → List PathStep
done None = []
done (Some a) = mark.Done ∷ []

-- part k goes right k times, and then left where others follow
abbrev pub sides : ℕ → Bool → List PathStep
sides k more = replicate k (mark.Side true) ++ (if more then mark.Side false ∷ [] else [])

abbrev pub marks : Step → List PathStep
marks (receives x a) = done a
marks (repeats i a) = done a ++ mark.Rep ∷ []
marks (sends m a) = mark.Done ∷ []
marks (tests f b) = mark.Branch b ∷ []
marks (finds ns f true) = mark.Found (length ns) ∷ []
marks (finds ns f false) = mark.NotFound ∷ []
marks (part k more a) = done a ++ sides k more
marks s = []

-- the path to the end of the way
abbrev pub path : Way → List PathStep
path [] = []
path (s ∷ w) = path w ++ marks s

-- the path of an action that is closed there
abbrev pub closed_path : Way → List PathStep
closed_path w = path w ++ mark.Done ∷ []
