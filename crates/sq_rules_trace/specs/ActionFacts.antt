-- What is true of the instances of a system's actions in every trace.
use Rattle.std.specs.Prelude.{ℕ, zero, suc, List, [], ◌∷◌, take, drop, Option, Some, None, ◌==◌}
use Rattle.std.specs.Prelude.{if◌then◌else◌}
use Rattle.sq_term.specs.declared.term.Idx.{Idx}
use Rattle.sq_term.specs.declared.term.Idx.TheVariants.{Bound}
use Rattle.sq_term.specs.Formulas.{negation, both, implies}
use Rattle.sq_term.specs.Syntax.{TsTree, init, action, TermTree, le, ts_eq, happens}
use Rattle.sq_term.specs.Systems.{SystemTree, ActionTree, Choice, action_at}
use Rattle.sq_formula.specs.Facts.{some_indices}
use Rattle.sq_occ.specs.Facts.{conj_of, disj_of, equations}

-- all the indices are equal
abbrev pub same_indices : List Idx → List Idx → TermTree
same_indices is js = conj_of (equations is js)

-- two instances of one action are equal only at equal indices
abbrev pub one_action : ℕ → List Idx → List Idx → TermTree
one_action a is js =
    implies (happens (action a is))
    (implies (ts_eq (action a is) (action a js)) (same_indices is js))

-- instances of two actions are not equal
abbrev pub two_actions : ℕ → List Idx → ℕ → List Idx → TermTree
two_actions a is b js =
    implies (happens (action a is)) (negation (ts_eq (action a is) (action b js)))

abbrev pub o8 : ℕ → List Idx → ℕ → List Idx → TermTree
o8 a is b js = if a == b then one_action a is js else two_actions a is b js

-- the indices of n binders, the first that of the outermost
abbrev pub indices_of_binders : ℕ → List Idx
indices_of_binders zero = []
indices_of_binders (suc n) = Bound n ∷ indices_of_binders n

-- t is an instance of the action
abbrev pub is_some_instance : TsTree → ℕ → ActionTree → TermTree
is_some_instance t n a = some_indices a.arity (ts_eq t (action n (indices_of_binders a.arity)))

-- one formula for each action, where the first has number n
abbrev pub instances_from : TsTree → ℕ → List ActionTree → List TermTree
instances_from t n [] = []
instances_from t n (a ∷ rest) = is_some_instance t n a ∷ instances_from t (suc n) rest

-- what happens is init or an instance of an action. No index of t is loose, so that t stands as it
-- is below the quantifiers.
abbrev pub o9 : SystemTree → TsTree → TermTree
o9 s t = implies (happens t) (disj_of (ts_eq t init ∷ instances_from t 0 s.actions))

-- t stands before s
abbrev pub is_before : TsTree → TsTree → TermTree
is_before t s = both (le t s) (negation (ts_eq t s))

-- an instance is not init, and stands after its parent
abbrev pub after_parent : SystemTree → ℕ → List Idx → Option ℕ → TermTree
after_parent s a is None = negation (ts_eq (action a is) init)
after_parent s a is (Some p) =
    both (negation (ts_eq (action a is) init))
    (implies (happens (action a is))
    (is_before (action p (take (action_at s p).arity is)) (action a is)))

abbrev pub o11 : SystemTree → ℕ → List Idx → TermTree
o11 s a is = after_parent s a is (action_at s a).parent

-- the indices at which instances must be equal to be separated by a choice
abbrev pub agree : List Idx → List Idx → Choice → TermTree
agree is js c = same_indices (take c.agree is) (take c.agree js)

-- the next ones, which are equal unless the choice separates the instances
abbrev pub agree_further : List Idx → List Idx → Choice → TermTree
agree_further is js c =
    same_indices (take c.differ (drop c.agree is)) (take c.differ (drop c.agree js))

-- a choice separates the instances: they do not both happen
abbrev pub excluded : ℕ → List Idx → ℕ → List Idx → Choice → TermTree
excluded a is b js c =
    implies (happens (action a is))
    (implies (agree is js c) (negation (happens (action b js))))

-- a choice separates only instances whose next indices differ
abbrev pub determined : ℕ → List Idx → ℕ → List Idx → Choice → TermTree
determined a is b js c =
    implies (happens (action a is))
    (implies (happens (action b js)) (implies (agree is js c) (agree_further is js c)))

abbrev pub o12 : ℕ → List Idx → ℕ → List Idx → Choice → TermTree
o12 a is b js c = if c.differ == 0 then excluded a is b js c else determined a is b js c
