-- Actions and systems as the program looks them up.
use Rattle.std.proofs.Common.{◌≡◌, refl, sym, ap, ◌∙◌, subst, ℕ, zero, suc, ◌<◌, ◌≤◌, List, [], ◌∷◌}
use Rattle.std.proofs.Common.{map, length, get_or, Option, Some, None, Bool, true, false, arith}
use Rattle.std.specs.Prelude.{slice_get, option_map}
use Rattle.sq_term.specs.declared.action.Action.{Action}
use Rattle.sq_term.specs.declared.action.PathStep.{PathStep}
use Rattle.sq_term.specs.Systems.{ActionTree, SystemTree, action_tree, system_tree, no_action}
use Rattle.sq_term.specs.Systems.{action_at, clash}
use Rattle.sq_term.specs.Arguments.{a_time}
use Rattle.sq_term.specs.declared.term.Idx.{Idx}
use Rattle.sq_term.specs.Syntax.{TsTree, action}
use Rattle.sq_term.proofs.BoolTests.{and_split}
use Rattle.sq_typing.specs.Typing.{has_count_at, is_timestamp}
use Rattle.sq_base.specs.declared.sort.Sort.TheVariants.{Timestamp}
use Rattle.sq_step.specs.declared.step.TsArg.{TsArg}
use Rattle.sq_step.specs.declared.step.ValArg.TheVariants as val_arg
use Rattle.sq_sequent.specs.Site.{Site}
use Rattle.sq_sequent.specs.Standing.{signature_at, time_in, value_in}
use Rattle.sq_sequent.proofs.Values.{value-sort}
use Rattle.sq_rules_trace.specs.Rows.{system_at}
use Rattle.sq_system.specs.Facts.{path_of}
use Rattle.sq_system.specs.Statements.{no_actions}
use Rattle.sq_system.proofs.Lookups.{found_or, get_or-map}
use Rattle.sq_rules_trace.specs.Instances.{actions_found}

-- ---- an action of a system

action-found : (xs : List Action) (k : ℕ) (o : Option Action) → slice_get xs k ≡ o
    → action_at (system_tree xs) k ≡ found_or action_tree no_action o
action-found xs k o e =
    sym (get_or-map action_tree no_action xs k) ∙ ap (found_or action_tree no_action) e

pub action-some : (xs : List Action) (k : ℕ) (a : Action) → Some a ≡ slice_get xs k
    → action_at (system_tree xs) k ≡ action_tree a
action-some xs k a e = action-found xs k (Some a) (sym e)

pub action-none : (xs : List Action) (k : ℕ) → None ≡ slice_get xs k
    → action_at (system_tree xs) k ≡ no_action
action-none xs k e = action-found xs k None (sym e)

pub ruleset action_rules = (action-some, action-none)

-- ---- the system of a goal

pub system-found : (systems : List (List Action)) (k : ℕ) (o : Option (List Action))
    → o ≡ slice_get systems k
    → system_tree (actions_found o) ≡ get_or (map system_tree systems) k no_actions
system-found systems k o e =
    same o ∙ (ap (found_or system_tree no_actions) e ∙ get_or-map system_tree no_actions systems k)
  where
    same : (q : Option (List Action))
        → system_tree (actions_found q) ≡ found_or system_tree no_actions q
    same None = refl
    same (Some x) = refl

pub ruleset system_rules = (system-found)

-- ---- choices

path-is : (xs : List Action) (k : ℕ) → path_of xs k ≡ (action_at (system_tree xs) k).path
path-is [] k = refl
path-is (a ∷ xs) zero = refl
path-is (a ∷ xs) (suc k) = path-is xs k

pub choice-there : (xs : List Action) (a b k : ℕ)
    → clash (path_of xs a) (path_of xs b) k
    ≡ clash (action_at (system_tree xs) a).path (action_at (system_tree xs) b).path k
choice-there xs a b k =
    ap (λ p. clash p (path_of xs b) k) (path-is xs a)
    ∙ ap (λ p. clash (action_at (system_tree xs) a).path p k) (path-is xs b)

no_path : (xs : List Action) (a : ℕ) → length xs ≤ a → (action_at (system_tree xs) a).path ≡ []
no_path [] a h = refl
no_path (x ∷ xs) zero h = absurd (omega arith)
no_path (x ∷ xs) (suc a) h = no_path xs a (omega arith)

no_choice : (p : List PathStep) (k : ℕ) → clash p [] k ≡ None
no_choice [] k = refl
no_choice (s ∷ p) k = refl

pub choice-first : (xs : List Action) (a b k : ℕ) → length xs ≤ a
    → clash (action_at (system_tree xs) a).path (action_at (system_tree xs) b).path k ≡ None
choice-first xs a b k h =
    ap (λ p. clash p (action_at (system_tree xs) b).path k) (no_path xs a h)

pub choice-second : (xs : List Action) (a b k : ℕ) → length xs ≤ b
    → clash (action_at (system_tree xs) a).path (action_at (system_tree xs) b).path k ≡ None
choice-second xs a b k h =
    ap (λ p. clash (action_at (system_tree xs) a).path p k) (no_path xs b h)
    ∙ no_choice (action_at (system_tree xs) a).path k

pub choice-nowhere : (S : SystemTree) (a b k : ℕ) → system_tree [] ≡ S
    → clash (action_at S a).path (action_at S b).path k ≡ None
choice-nowhere S a b k e =
    subst (λ s. clash (action_at s a).path (action_at s b).path k ≡ None) e refl

pub ruleset choice_rules = (choice-there, choice-first, choice-second, choice-nowhere)

-- ---- an action of a timestamp that may stand in the sequent

pub action-there : (S : SystemTree) (xs : List Action) (k : ℕ) (a : Action) → system_tree xs ≡ S
    → Some a ≡ slice_get xs k → action_at S k ≡ action_tree a
action-there S xs k a e h = subst (λ s. action_at s k ≡ action_tree a) e (action-some xs k a h)

missing : (ys : List Action) (j c : ℕ) → None ≡ slice_get ys j
    → has_count_at (map (λ (a : ActionTree). a.arity) (system_tree ys).actions) j c ≡ false
missing [] j c g = refl
missing (y ∷ ys) zero c g = absurd (cc)
missing (y ∷ ys) (suc j) c g = missing ys j c g

pub never-missing : (at : Site) (xs : List Action) (k : ℕ) (is : List Idx)
    → system_tree xs ≡ system_at at → None ≡ slice_get xs k
    → is_timestamp (signature_at at) [] (action k is) ≡ true → ⊥
never-missing at xs k is e h there =
    let counted : has_count_at (signature_at at).actions k (length is)
    ≡ true = (and_split (has_count_at (signature_at at).actions k (length is)) _ there).0 in
    let z : false ≡ true =
    sym (missing xs k (length is) h)
    ∙ subst (λ (s : SystemTree). has_count_at (map (λ (a : ActionTree). a.arity) s.actions) k
    (length is) ≡ true) (sym e) counted
    in absurd (cc)

pub ruleset there_rules = (action-there, never-missing)

-- ---- a timestamp that may stand in the sequent

pub time-sorted : (at : Site) (x : TsArg) (t : TsTree) → Some t ≡ time_in at x
    → is_timestamp (signature_at at) [] t ≡ true
unfolding value_in
time-sorted at x t e =
    value-sort at Timestamp (val_arg.Time x) (a_time t) (ap (option_map a_time) (sym e))

pub ruleset time_rules = (time-sorted)
