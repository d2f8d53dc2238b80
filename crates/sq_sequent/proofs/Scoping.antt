-- Systems of an environment, as the program looks them up.
use Rattle.std.proofs.Common.{◌≡◌, ℕ, List, [], ◌∷◌, map, get_or, Option, Some, None}
use Rattle.std.proofs.Common.{refl, sym, ap, ◌∙◌}
use Rattle.std.specs.Prelude.{slice_get}
use Rattle.sq_term.specs.declared.action.Action.{Action}
use Rattle.sq_term.specs.Systems.{ActionTree, SystemTree, system_tree}
use Rattle.sq_system.specs.Statements.{no_actions}
use Rattle.sq_system.proofs.Lookups.{found_or, get_or-map}
use Rattle.sq_typing.specs.Views.{arities}

-- the counts of indices of a system's actions as they are looked up
abbrev pub actions_found : Option (List Action) → List Action
actions_found None = []
actions_found (Some actions) = actions

arities-are : (systems : List (List Action)) (k : ℕ) (o : Option (List Action))
    → o ≡ slice_get systems k
    → arities (actions_found o)
    ≡ map (λ (a : ActionTree). a.arity) (get_or (map system_tree systems) k no_actions).actions
arities-are systems k o e =
    ap (λ q. arities (actions_found q)) e
    ∙ (same (slice_get systems k)
    ∙ ap (λ (s : SystemTree). map (λ (a : ActionTree). a.arity) s.actions)
    (get_or-map system_tree no_actions systems k))
  where
    each : (actions : List Action)
        → arities actions ≡ map (λ (a : ActionTree). a.arity) (system_tree actions).actions
    each [] = refl
    each (a ∷ rest) = ap (λ ns. a.arity ∷ ns) (each rest)

    same : (q : Option (List Action)) → arities (actions_found q)
        ≡ map (λ (a : ActionTree). a.arity) (found_or system_tree no_actions q).actions
    same None = refl
    same (Some x) = each x

pub actions-some : (systems : List (List Action)) (k : ℕ) (actions : List Action)
    → slice_get systems k ≡ Some actions
    → arities actions
    ≡ map (λ (a : ActionTree). a.arity) (get_or (map system_tree systems) k no_actions).actions
actions-some systems k actions e = arities-are systems k (Some actions) (sym e)

pub actions-none : (systems : List (List Action)) (k : ℕ) → slice_get systems k ≡ None
    → [] ≡ map (λ (a : ActionTree). a.arity) (get_or (map system_tree systems) k no_actions).actions
actions-none systems k e = arities-are systems k None (sym e)

pub ruleset system_rules = (actions-some, actions-none)
