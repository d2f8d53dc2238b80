-- Facts of small systems as the rows write them, and their truth in a trace, by computation.
use Rattle.std.proofs.Common.{◌≡◌, refl, ℕ, List, [], ◌∷◌, Bool, true, false, None, Some}
use Rattle.std.specs.List.{list_all}
use Rattle.sq_base.specs.declared.sort.Sort.TheVariants.{Index, Timestamp}
use Rattle.sq_term.specs.declared.action.PathStep.TheVariants.{Rep, Found, NotFound, Done}
use Rattle.sq_term.specs.declared.model.Inst.{Inst}
use Rattle.sq_term.specs.declared.model.Model.{Model}
use Rattle.sq_term.specs.declared.model.Value.{Value}
use Rattle.sq_term.specs.declared.term.Idx.TheVariants.{Free, Bound}
use Rattle.sq_term.specs.declared.term.Macro.TheVariants.{Input, Output, Cond, Frame}
use Rattle.sq_term.specs.declared.term.Side.TheVariants.{Left, Both}
use Rattle.sq_term.specs.Formulas.{truth, negation, both, either, implies, equal, empty, pair}
use Rattle.sq_term.specs.Models.{first_refused, times_of}
use Rattle.sq_term.specs.Records.{world}
use Rattle.sq_term.specs.Syntax.{TsTree, free, bound, init, pred, action, TermTree, name, macro}
use Rattle.sq_term.specs.Syntax.{diff, le, ts_eq, idx_eq, happens, all, some}
use Rattle.sq_term.specs.Systems.{SystemTree}
use Rattle.sq_term.specs.Translate.{domain, translate}
use Rattle.sq_ground.specs.Truth.{is_true}
use Rattle.sq_rules_trace.specs.ActionFacts.{o8, o9, o11, o12}
use Rattle.sq_rules_trace.specs.Induction.{earlier}
use Rattle.sq_rules_trace.specs.OrderFacts.{o1, o2, o3, o4, o5, o6, o7, o10}
use Rattle.sq_rules_trace.specs.Unfolding.{initial, undefined, body_at}

-- !_i in(c,x); find j such that .. in (out(c,n(i)); out(c,<n(j),..>)) else ..: the find, what comes
-- after it, and its else
abbrev finds : SystemTree
finds = record {
  actions =
      record {
        arity = 2;
        parent = None;
        path = Rep ∷ Found 1 ∷ Done ∷ [];
        cond = truth;
        output = diff (name 0 (Free 0 ∷ [])) (name 0 (Free 1 ∷ []));
      }
      ∷ record {
        arity = 2;
        parent = Some 0;
        path = Rep ∷ Found 1 ∷ Done ∷ Done ∷ [];
        cond = equal (macro Input (action 0 (Free 0 ∷ Free 1 ∷ []))) (name 0 (Free 1 ∷ []));
        output = empty;
      }
      ∷ record {
        arity = 1;
        parent = None;
        path = Rep ∷ NotFound ∷ Done ∷ [];
        cond = truth;
        output = empty;
      }
      ∷ [];
}

abbrev no_actions : SystemTree
no_actions = record { actions = [] }

abbrev t : TsTree
t = free 0

abbrev s : TsTree
s = free 1

abbrev found : TsTree
found = action 0 (Free 2 ∷ Free 3 ∷ [])

abbrev after : TsTree
after = action 1 (Free 2 ∷ Free 3 ∷ [])

abbrev other : TsTree
other = action 2 (Free 2 ∷ [])

-- ---- the facts as they are written

one_action_twice : o8 0 (Free 2 ∷ Free 3 ∷ []) 0 (Free 3 ∷ Free 3 ∷ [])
    ≡ implies (happens found)
    (implies (ts_eq found (action 0 (Free 3 ∷ Free 3 ∷ [])))
    (both (idx_eq (Free 2) (Free 3)) (idx_eq (Free 3) (Free 3))))
one_action_twice = refl

two_actions : o8 0 (Free 2 ∷ Free 3 ∷ []) 2 (Free 2 ∷ [])
    ≡ implies (happens found) (negation (ts_eq found other))
two_actions = refl

no_indices : o8 0 [] 0 []
    ≡ implies (happens (action 0 [])) (implies (ts_eq (action 0 []) (action 0 [])) truth)
no_indices = refl

only_init : o9 no_actions t ≡ implies (happens t) (ts_eq t init)
only_init = refl

init_or_an_action : o9 finds t
    ≡ implies (happens t)
    (either (ts_eq t init)
    (either (some Index (some Index (ts_eq t (action 0 (Bound 1 ∷ Bound 0 ∷ [])))))
    (either (some Index (some Index (ts_eq t (action 1 (Bound 1 ∷ Bound 0 ∷ [])))))
    (some Index (ts_eq t (action 2 (Bound 0 ∷ [])))))))
init_or_an_action = refl

without_parent : o11 finds 2 (Free 2 ∷ []) ≡ negation (ts_eq other init)
without_parent = refl

behind_its_parent : o11 finds 1 (Free 2 ∷ Free 3 ∷ [])
    ≡ both (negation (ts_eq after init))
    (implies (happens after) (both (le found after) (negation (ts_eq found after))))
behind_its_parent = refl

-- the clash of the two branches, and that of two choices of the find
branches_exclude : o12 0 (Free 2 ∷ Free 3 ∷ []) 2 (Free 2 ∷ []) (record { agree = 1; differ = 0 })
    ≡ implies (happens found) (implies (idx_eq (Free 2) (Free 2)) (negation (happens other)))
branches_exclude = refl

one_choice
    : o12 0 (Free 2 ∷ Free 3 ∷ []) 1 (Free 2 ∷ Free 3 ∷ []) (record { agree = 1; differ = 1 })
    ≡ implies (happens found)
    (implies (happens after)
    (implies (idx_eq (Free 2) (Free 2)) (idx_eq (Free 3) (Free 3))))
one_choice = refl

induction : earlier 0 (implies (le t s) (happens s))
    ≡ all Timestamp
    (implies (both (le (bound 0) t) (negation (ts_eq (bound 0) t)))
    (implies (le (bound 0) s) (happens s)))
induction = refl

-- ---- macros

first_input : initial Input ≡ equal (macro Input init) empty
first_input = refl

first_condition : initial Cond ≡ macro Cond init
first_condition = refl

no_frame : undefined Frame (pred init) ≡ equal (macro Frame (pred init)) empty
no_frame = refl

left_output
    : body_at Left (Free 2 ∷ Free 3 ∷ []) (diff (name 0 (Free 0 ∷ [])) (name 0 (Free 1 ∷ [])))
    ≡ name 0 (Free 2 ∷ [])
left_output = refl

output_of_both
    : body_at Both (Free 2 ∷ Free 3 ∷ []) (diff (name 0 (Free 0 ∷ [])) (name 0 (Free 1 ∷ [])))
    ≡ diff (name 0 (Free 2 ∷ [])) (name 0 (Free 3 ∷ []))
output_of_both = refl

condition : body_at Both (Free 2 ∷ Free 3 ∷ [])
    (equal (macro Input (action 0 (Free 0 ∷ Free 1 ∷ []))) (name 0 (Free 1 ∷ [])))
    ≡ equal (macro Input found) (name 0 (Free 3 ∷ []))
condition = refl

-- ---- a trace of four instances: the facts are true of each two timestamps, undefined included

abbrev instance : ℕ → List ℕ → Inst
instance n is = record { act = n; idx = is }

abbrev trace : Model
trace = record {
  indices = 2;
  list =
      instance 0 (0 ∷ 1 ∷ []) ∷ instance 2 (1 ∷ []) ∷ instance 1 (0 ∷ 1 ∷ []) ∷ [];
}

is_a_trace : first_refused finds trace ≡ None
is_a_trace = refl

abbrev is_true_of : Value → Value → Value → Value → TermTree → Bool
is_true_of x y i j F =
    is_true
    (translate (world finds trace true)
    (record { variables = x ∷ y ∷ i ∷ j ∷ []; schemas = [] }) [] F)

abbrev all_times : (Value → Bool) → Bool
all_times p = list_all p (domain (times_of trace) Timestamp)

abbrev all_indices : (Value → Bool) → Bool
all_indices p = list_all p (domain (times_of trace) Index)

abbrev is_true_always : TermTree → Bool
is_true_always F =
    all_times (λ x. all_times (λ y. all_indices (λ i. all_indices (λ j. is_true_of x y i j F))))

order_facts
    : list_all is_true_always
    (o1 t ∷ o2 t s (pred t) ∷ o3 t s ∷ o4 t s ∷ o5 t s ∷ o6 t ∷ o7 t ∷ o10 t s ∷ [])
    ≡ true
order_facts = refl

action_facts
    : list_all is_true_always
    (o8 0 (Free 2 ∷ Free 3 ∷ []) 0 (Free 3 ∷ Free 2 ∷ [])
    ∷ o8 0 (Free 2 ∷ Free 3 ∷ []) 2 (Free 2 ∷ [])
    ∷ o9 finds t
    ∷ o11 finds 0 (Free 2 ∷ Free 3 ∷ [])
    ∷ o11 finds 1 (Free 2 ∷ Free 3 ∷ [])
    ∷ o12 0 (Free 2 ∷ Free 3 ∷ []) 2 (Free 2 ∷ []) (record { agree = 1; differ = 0 })
    ∷ o12 0 (Free 2 ∷ Free 3 ∷ []) 1 (Free 2 ∷ Free 2 ∷ []) (record { agree = 1; differ = 1 })
    ∷ [])
    ≡ true
action_facts = refl

-- what does not hold of every two timestamps
untrue : is_true_always (implies (le t s) (le s t)) ≡ false
untrue = refl

undefined_are_equal : is_true_always (ts_eq (pred init) (pred (pred init))) ≡ true
undefined_are_equal = refl
