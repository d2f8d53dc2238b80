-- Open goals as definitions see them, and the names that an open goal has.
use Rattle.std.specs.Prelude.{ℕ, List, length, map, Bool, ◌&&◌, ◌==◌}
use Rattle.sq_system.specs.declared.sequent.OpenGoal.{OpenGoal}
use Rattle.sq_system.specs.Sequents.{Body, trace_body, local_body, equiv_body}
use Rattle.sq_system.specs.Sequents.{SequentTree, sequent_tree, vars_of, hyps_of, body_of}

-- a sequent that is still to be shown, and the names of its schema variables, variables, hypotheses
-- and known lists
pub record GoalTree : Type 0 where
  pub sequent : SequentTree
  pub schemas : List (List ℕ)
  pub vars : List (List ℕ)
  pub labels : List (List ℕ)
  pub known : List (List ℕ)

-- what the program's value holds
abbrev pub goal_tree : OpenGoal → GoalTree
goal_tree g =
    record {
      sequent = sequent_tree g.sequent;
      schemas = g.schemas;
      vars = g.vars;
      labels = g.labels;
      known = g.known;
    }

abbrev pub goal_trees : List OpenGoal → List GoalTree
goal_trees gs = map goal_tree gs

abbrev pub sequents_of : List GoalTree → List SequentTree
sequents_of gs = map (λ g. g.sequent) gs

abbrev pub count_in : Body → ℕ
count_in (trace_body goal) = 0
count_in (local_body side goal) = 0
count_in (equiv_body known items) = length known

-- how many lists are known; only an equivalence has some
abbrev pub count_known : SequentTree → ℕ
count_known s = count_in (body_of s)

-- there is a name for each variable, hypothesis and known list
abbrev pub is_named : GoalTree → Bool
is_named g =
    (length g.vars == length (vars_of g.sequent))
    && ((length g.labels == length (hyps_of g.sequent))
    && (length g.known == count_known g.sequent))
