-- Trace models: which lists of action instances are one, and the first position that is refused.
use Rattle.std.specs.Prelude.{◌≡◌, ◌≢◌, ℕ, zero, suc, ◌<◌, List, [], ◌∷◌, ◌++◌, take, length}
use Rattle.std.specs.Prelude.{Option, Some, None, Bool, true, false, if◌then◌else◌, not, ◌&&◌, ◌==◌}
use Rattle.std.specs.Prelude.{nat_lt}
use Rattle.std.specs.List.{list_any}
use Rattle.sq_term.specs.declared.model.Inst.{Inst}
use Rattle.sq_term.specs.declared.model.Model.{Model}
use Rattle.sq_term.specs.Lists.{Each, ElementAt, same_numbers}
use Rattle.sq_term.specs.Systems.{SystemTree, action_at, in_conflict}
use Rattle.sq_term.specs.Translate.{Times}

-- the instance is that of action n at these indices
abbrev pub is_instance : ℕ → List ℕ → Inst → Bool
is_instance n is i = (n == i.act) && same_numbers is i.idx

abbrev pub stands_in : List Inst → ℕ → List ℕ → Bool
stands_in list n is = list_any (is_instance n is) list

-- where the instance of action n at these indices stands, the first of the list being at p
abbrev pub place_from : ℕ → List Inst → ℕ → List ℕ → Option ℕ
place_from p [] n is = None
place_from p (i ∷ rest) n is =
    if is_instance n is i then Some p else place_from (suc p) rest n is

-- position 0 is init, and the first instance has position 1
abbrev pub times_of : Model → Times
times_of m =
    record { indices = m.indices; positions = suc (length m.list); place = place_from 1 m.list }

abbrev pub are_below : ℕ → List ℕ → Bool
are_below d [] = true
are_below d (n ∷ ns) = nat_lt n d && are_below d ns

-- an instance of one of the actions, with indices below d
abbrev pub is_instance_below : SystemTree → ℕ → Inst → Bool
is_instance_below system d i =
    nat_lt i.act (length system.actions)
    && ((length i.idx == (action_at system i.act).arity) && are_below d i.idx)

-- where the action has a parent, its instance at the first of these indices is among the earlier
-- ones
abbrev pub parent_stands_in : SystemTree → List Inst → Option ℕ → List ℕ → Bool
parent_stands_in system earlier None is = true
parent_stands_in system earlier (Some p) is =
    stands_in earlier p (take (action_at system p).arity is)

abbrev pub are_in_conflict : SystemTree → Inst → Inst → Bool
are_in_conflict system i j =
    in_conflict (action_at system i.act).path i.idx (action_at system j.act).path j.idx

-- the instance may stand directly after the earlier ones
abbrev pub may_follow : SystemTree → ℕ → List Inst → Inst → Bool
may_follow system d earlier i =
    is_instance_below system d i
    && (not (stands_in earlier i.act i.idx)
    && (parent_stands_in system earlier (action_at system i.act).parent i.idx
    && not (list_any (are_in_conflict system i) earlier)))

-- the first position from p on whose instance may not stand there
abbrev pub refused_from : SystemTree → ℕ → ℕ → List Inst → List Inst → Option ℕ
refused_from system d p earlier [] = None
refused_from system d p earlier (i ∷ rest) =
    if may_follow system d earlier i
    then refused_from system d (suc p) (earlier ++ i ∷ []) rest
    else Some p

-- the first position that is refused: 0 where there is no index
abbrev pub first_refused : SystemTree → Model → Option ℕ
first_refused system m =
    if m.indices == 0 then Some 0 else refused_from system m.indices 1 [] m.list

-- The list is a trace: its instances are of the system's actions, with indices below the model's
-- count, which is at least 1; they are pairwise different, each stands after its parent instance,
-- and no two are in conflict.
pub record IsTraceModel (system : SystemTree) (m : Model) : Type 0 where
  pub has_an_index : 0 < m.indices
  pub instances : Each (λ i. is_instance_below system m.indices i ≡ true) m.list
  pub different : (j k : ℕ) (x y : Inst) → j < k
      → ElementAt m.list j x → ElementAt m.list k y → x ≢ y
  pub after_parents : (k : ℕ) (x : Inst) → ElementAt m.list k x
      → parent_stands_in system (take k m.list) (action_at system x.act).parent x.idx ≡ true
  pub compatible : (j k : ℕ) (x y : Inst) → j < k
      → ElementAt m.list j x → ElementAt m.list k y → are_in_conflict system y x ≡ false

-- the first k instances of a model
abbrev pub up_to : ℕ → Model → Model
up_to k m = record { indices = m.indices; list = take k m.list }

-- position q is the first that is refused: up to the one before it the list is a model, and with it
-- no longer
abbrev pub IsFirstRefused : SystemTree → Model → ℕ → Type 0
IsFirstRefused system m zero = m.indices ≡ 0
IsFirstRefused system m (suc k) =
    (k < length m.list) × IsTraceModel system (up_to k m)
    × (IsTraceModel system (up_to (suc k) m) → ⊥)
