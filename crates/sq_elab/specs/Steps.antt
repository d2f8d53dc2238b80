-- The steps of the program as ways, and what it knows at the end of one.
use Rattle.std.specs.Prelude.{◌≡◌, ◌≤◌, ℕ, List, [], ◌∷◌, ◌++◌, Option, Some, None, codes}
use Rattle.std.specs.Prelude.{slice_get, unwrap_or}
use denote.Ref.{Bor}
use Rattle.sq_ast.specs.View.{formula_tree}
use Rattle.sq_elab.specs.declared.step.Step.{Step as Passed}
use Rattle.sq_elab.specs.declared.step.Step.TheVariants as st
use Rattle.sq_elab.specs.declared.step.Place.{Place}
use Rattle.sq_elab.specs.Ways.{Step, creates, receives, repeats, sends, tests, finds, defines, part}
use Rattle.sq_elab.specs.Ways.{labels, enters, Way, pending, indices, parent, label}

abbrev pub step_tree : Passed → Step
step_tree (st.Creates x k) = creates x.now k
step_tree (st.Receives x a) = receives x.now a
step_tree (st.Repeats x a) = repeats x.now a
step_tree (st.Sends m a) = sends (formula_tree m.now) a
step_tree (st.Tests f h b) = tests (formula_tree f.now) b
step_tree (st.Finds ns f h b) = finds ns.now (formula_tree f.now) b
step_tree (st.Defines x f h s) = defines x.now (formula_tree f.now)
step_tree (st.Part k more a) = part k more a
step_tree (st.Labels l) = labels l.now
step_tree (st.Enters xs ys) = enters xs.now ys.now

-- ---- ways

-- the way of steps, of which the first is nearest to the root, behind a way
abbrev pub way_behind : Way → List Passed → Way
way_behind w [] = w
way_behind w (s ∷ ss) = way_behind (step_tree s ∷ w) ss

abbrev pub way_of : List Passed → Way
way_of ss = way_behind [] ss

-- Ways that share their fronts: each is an earlier one with a step behind it, and the first one is
-- empty.
abbrev pub steps_in : List (List Passed) → ℕ → List Passed
steps_in ways k = unwrap_or (slice_get ways k) []

abbrev pub ways_behind : List (List Passed) → List (ℕ × Passed) → List (List Passed)
ways_behind ways [] = ways
ways_behind ways (l ∷ more) = ways_behind (ways ++ (steps_in ways l.0 ++ l.1 ∷ []) ∷ []) more

-- the steps of way number k, from the root on
abbrev pub steps_at : List (ℕ × Passed) → ℕ → List Passed
steps_at links k = steps_in (ways_behind ([] ∷ []) links) k

-- each goes on from an earlier one
abbrev pub AreBehind : List (ℕ × Passed) → Type 0
AreBehind links = (k : ℕ) (l : ℕ × Passed) → slice_get links k ≡ Some l → l.0 ≤ k

-- ---- places

abbrev pub label_text : Option (Bor (List ℕ)) → List ℕ
label_text (Some l) = l.now
label_text None = codes "A"

pub record IsPlace (p : Place) (w : Way) : Type 0 where
  pub indices_are : p.indices ≡ indices w
  pub pending_is : p.pending ≡ pending w
  pub parent_is : p.parent ≡ parent w
  pub label_is : label_text p.label ≡ label w
