-- What every system keeps.
use Rattle.std.specs.Prelude.{◌≡◌, ℕ, ◌<◌, ◌≤◌, List, [], ◌∷◌, map, length, Option, Some, IfSome}
use Rattle.std.specs.Prelude.{option_and_then, slice_get, sum_by, Bool, ◌||◌}
use Rattle.std.specs.List.{list_any}
use Rattle.std.specs.Option.{option_map_or}
use Rattle.sq_term.specs.declared.action.Action.{Action}
use Rattle.sq_term.specs.declared.action.PathStep.{PathStep}
use Rattle.sq_term.specs.declared.term.Idx.{Idx}
use Rattle.sq_term.specs.declared.term.Idx.TheVariants as idx
use Rattle.sq_term.specs.declared.term.Macro.{Macro}
use Rattle.sq_term.specs.declared.term.Macro.TheVariants as m
use Rattle.sq_term.specs.Lists.{count}
use Rattle.sq_term.specs.Measure.{depth}
use Rattle.sq_term.specs.Syntax.{TsTree, action, TermTree, name, fun, macro, schema, diff, le}
use Rattle.sq_term.specs.Syntax.{ts_eq, idx_eq, happens, all, some, find, TermTrees, nil, cons}
use Rattle.sq_term.specs.Systems.{ActionTree, SystemTree, system_tree, indices_bound}
use Rattle.sq_typing.specs.Diffs.{holds_diff}
use Rattle.sq_system.specs.Limits.{most_depth, most_actions}

-- action b is on the line of action a: it is a itself or stands before it
pub data OnLine (s : SystemTree) : ℕ → ℕ → Type 0 where
  itself : {a : ℕ} → OnLine s a a
  before : {a p b : ℕ} {x : ActionTree} → slice_get s.actions a ≡ Some x → x.parent ≡ Some p
      → OnLine s p b → OnLine s a b

-- the first n free indices
abbrev pub first_indices : ℕ → List Idx
first_indices n = map idx.Free (count 0 n)

-- what an action reads: the input of an action on its own line, at the first of its indices
pub record IsOwnInput (s : SystemTree) (k : ℕ) (read : Macro) (t : TsTree) : Type 0 where
  pub at : ℕ
  pub there : ActionTree
  pub there_is : slice_get s.actions at ≡ Some there
  pub on_line : OnLine s k at
  pub read_is : read ≡ m.Input
  pub time_is : t ≡ action at (first_indices there.arity)

abbrev pub IsIndexOf : ℕ → Idx → Type 0
IsIndexOf n (idx.Free i) = i < n
IsIndexOf n (idx.Bound j) = Unit {0}

abbrev pub AreIndicesOf : ℕ → List Idx → Type 0
AreIndicesOf n [] = Unit {0}
AreIndicesOf n (i ∷ is) = IsIndexOf n i × AreIndicesOf n is

-- A condition or an output of action k, which has n indices: no schema variable, no timestamp
-- outside the inputs that it reads.
abbrev mutual
  pub IsBody : SystemTree → ℕ → ℕ → TermTree → Type 0
  IsBody s k n (name m is) = AreIndicesOf n is
  IsBody s k n (fun f is ts) = AreIndicesOf n is × AreBodies s k n ts
  IsBody s k n (macro r t) = IsOwnInput s k r t
  IsBody s k n (schema m) = ⊥
  IsBody s k n (diff a b) = IsBody s k n a × IsBody s k n b
  IsBody s k n (le a b) = ⊥
  IsBody s k n (ts_eq a b) = ⊥
  IsBody s k n (idx_eq i j) = IsIndexOf n i × IsIndexOf n j
  IsBody s k n (happens t) = ⊥
  IsBody s k n (all r t) = IsBody s k n t
  IsBody s k n (some r t) = IsBody s k n t
  IsBody s k n (find c t a b) = IsBody s k n t × IsBody s k n a × IsBody s k n b

  pub AreBodies : SystemTree → ℕ → ℕ → TermTrees → Type 0
  AreBodies s k n nil = Unit {0}
  AreBodies s k n (cons t ts) = IsBody s k n t × AreBodies s k n ts

-- action p comes before action k and has no more indices
pub record IsParent (s : SystemTree) (k n p : ℕ) : Type 0 where
  pub earlier : p < k
  pub there : ActionTree
  pub there_is : slice_get s.actions p ≡ Some there
  pub fewer : there.arity ≤ n

-- action k of the system
pub record IsAction (s : SystemTree) (k : ℕ) (a : ActionTree) : Type 0 where
  pub parent_is : IfSome a.parent (IsParent s k a.arity)
  pub arity_is : a.arity ≡ sum_by indices_bound a.path
  pub cond_is : IsBody s k a.arity a.cond
  pub output_is : IsBody s k a.arity a.output

-- each action is one
abbrev pub IsSystem : SystemTree → Type 0
IsSystem s = (k : ℕ) (a : ActionTree) → slice_get s.actions k ≡ Some a → IsAction s k a

-- the action's condition and output are no deeper than a term of a sequent may be
pub record IsShallow (a : ActionTree) : Type 0 where
  pub cond_is : depth a.cond ≤ most_depth
  pub output_is : depth a.output ≤ most_depth

abbrev pub AreShallow : SystemTree → Type 0
AreShallow s = (k : ℕ) (a : ActionTree) → slice_get s.actions k ≡ Some a → IsShallow a

-- what the type keeps
pub record KeepsFacts (xs : List Action) : Type 0 where
  pub few : length xs ≤ most_actions
  pub system : IsSystem (system_tree xs)
  pub shallow : AreShallow (system_tree xs)

abbrev pub action_holds_diff : ActionTree → Bool
action_holds_diff a = holds_diff a.cond || holds_diff a.output

abbrev pub some_diff : SystemTree → Bool
some_diff s = list_any action_holds_diff s.actions

-- the action before action a on its line
abbrev pub parent_of : List Action → ℕ → Option ℕ
parent_of xs a = option_and_then (λ x. x.parent) (slice_get xs a)

abbrev pub path_of : List Action → ℕ → List PathStep
path_of xs a = option_map_or (λ x. x.path) (slice_get xs a) []

abbrev pub arity_of : List Action → ℕ → ℕ
arity_of xs a = option_map_or (λ x. x.arity) (slice_get xs a) 0
