-- That a timestamp is an instance of some action, as the program gathers it: no two of the formulas
-- are the same, so that none is left out.
use Rattle.std.proofs.Common.{◌≡◌, refl, sym, ap, ◌∙◌, ℕ, zero, suc, ◌+◌, ◌-◌, ◌<◌, List, [], ◌∷◌}
use Rattle.std.proofs.Common.{◌++◌, map, length, drop, get_or, Bool, true, false, ◌&&◌, ◌==◌, add-one}
use Rattle.std.proofs.Common.{arith}
use Rattle.std.proofs.Math.Seq.{drop-cons}
use Rattle.std.specs.Prelude.{if◌then◌else◌}
use Rattle.std.proofs.lemmas.Bool.{eqb-true}
use Rattle.std.proofs.lemmas.List.{append-nil}
use Rattle.sq_term.specs.declared.action.Action.{Action}
use Rattle.sq_term.specs.declared.term.Idx.{Idx}
use Rattle.sq_term.specs.declared.term.Idx.TheVariants.{Bound}
use Rattle.sq_term.specs.declared.term.Term.{Term}
use Rattle.sq_term.specs.Symbols as kind
use Rattle.sq_term.specs.Syntax.{TsTree, init, action, TermTree, ts_eq}
use Rattle.sq_term.specs.Systems.{ActionTree, action_tree, action_trees}
use Rattle.sq_term.specs.TreeEquality.{is_same_tree}
use Rattle.sq_term.specs.TsEquality.{is_same_ts_tree}
use Rattle.sq_term.specs.View.{term_tree}
use Rattle.sq_formula.specs.Facts.{some_indices}
use Rattle.sq_occ.specs.Facts.{disj_of_all, without, distinct, disj_of}
use Rattle.sq_rules_trace.specs.ActionFacts.{indices_of_binders, is_some_instance, instances_from}
use Rattle.sq_rules_trace.specs.Nested.{nested}
use Rattle.sq_rules_trace.proofs.NestedLists.{disj-nested, trees-push}

-- ---- no two are the same

and-false : (a b : Bool) → b ≡ false → (a && b) ≡ false
and-false true b e = e
and-false false b e = refl

and-first : (a b : Bool) → a ≡ false → (a && b) ≡ false
and-first true b e = absurd (cc)
and-first false b e = refl

apart-init : (c : ℕ) (t : TsTree) (k : ℕ) (is : List Idx)
    → is_same_tree (ts_eq t init) (some_indices c (ts_eq t (action k is))) ≡ false
apart-init zero t k is = and-false (is_same_ts_tree t t) false refl
apart-init (suc c) t k is = refl

apart : (c d : ℕ) (t : TsTree) (j k : ℕ) (is js : List Idx) → (j == k) ≡ false
    → is_same_tree (some_indices c (ts_eq t (action j is))) (some_indices d (ts_eq t (action k js)))
    ≡ false
apart zero zero t j k is js e =
    and-false (is_same_ts_tree t t) (is_same_ts_tree (action j is) (action k js))
    (and-first (j == k) _ e)
apart zero (suc d) t j k is js e = refl
apart (suc c) zero t j k is js e = refl
apart (suc c) (suc d) t j k is js e = apart c d t j k is js e

other-number : (j k : ℕ) → j < k → (j == k) ≡ false
other-number j k h = go (j == k) refl
  where
    go : (b : Bool) → (j == k) ≡ b → b ≡ false
    go true e = absurd (let z : j ≡ k = eqb-true j k e in omega arith)
    go false e = refl

kept : (b : Bool) (u : TermTree) (us vs : List TermTree) → b ≡ false → us ≡ vs
    → (if b then us else u ∷ us) ≡ u ∷ vs
kept true u us vs e f = absurd (cc)
kept false u us vs e f = ap (λ ws. u ∷ ws) f

without-init : (t : TsTree) (n : ℕ) (xs : List ActionTree)
    → without (ts_eq t init) (instances_from t n xs) ≡ instances_from t n xs
without-init t n [] = refl
without-init t n (x ∷ xs) =
    kept (is_same_tree (ts_eq t init) (is_some_instance t n x)) (is_some_instance t n x)
    (without (ts_eq t init) (instances_from t (suc n) xs)) (instances_from t (suc n) xs)
    (apart-init x.arity t n (indices_of_binders x.arity)) (without-init t (suc n) xs)

without-earlier : (t : TsTree) (j : ℕ) (a : ActionTree) (n : ℕ) (xs : List ActionTree) → j < n
    → without (is_some_instance t j a) (instances_from t n xs) ≡ instances_from t n xs
without-earlier t j a n [] h = refl
without-earlier t j a n (x ∷ xs) h =
    kept (is_same_tree (is_some_instance t j a) (is_some_instance t n x)) (is_some_instance t n x)
    (without (is_some_instance t j a) (instances_from t (suc n) xs)) (instances_from t (suc n) xs)
    (apart a.arity x.arity t j n (indices_of_binders a.arity) (indices_of_binders x.arity)
    (other-number j n h))
    (without-earlier t j a (suc n) xs (omega arith))

all-distinct : (t : TsTree) (n : ℕ) (xs : List ActionTree)
    → distinct (instances_from t n xs) ≡ instances_from t n xs
all-distinct t n [] = refl
all-distinct t n (x ∷ xs) =
    ap (λ us. is_some_instance t n x ∷ us)
    (ap (without (is_some_instance t n x)) (all-distinct t (suc n) xs)
    ∙ without-earlier t n x (suc n) xs (omega arith))

pub some-nested : (t : TsTree) (xs : List ActionTree) (ts : List TermTree)
    → ts ≡ ts_eq t init ∷ instances_from t 0 xs
    → nested kind.disjunction kind.falsity ts ≡ disj_of (ts_eq t init ∷ instances_from t 0 xs)
some-nested t xs ts e =
    ap (nested kind.disjunction kind.falsity) e
    ∙ (sym (disj-nested (ts_eq t init ∷ instances_from t 0 xs))
    ∙ ap (λ us. disj_of_all (ts_eq t init ∷ us))
    (sym (ap (without (ts_eq t init)) (all-distinct t 0 xs) ∙ without-init t 0 xs)))

pub ruleset o9_rules = (some-nested)

-- ---- as they are gathered

rest_is : (actions : List Action) (k : ℕ) (a : Action) → k < length actions → a ≡ get_or actions k a
    → drop k actions ≡ a ∷ drop (k + 1) actions
rest_is actions k a h e = rw add-one
    (drop-cons actions k a h ∙ ap (λ x. x ∷ drop (suc k) actions) (sym e))

pub some-kept : (t : TsTree) (actions : List Action) (out next : List Term) (k : ℕ) (a : Action)
    (x : Term) (r : List TermTree) → k < length actions → a ≡ get_or actions k a
    → term_tree x ≡ some_indices a.arity (ts_eq t (action k (indices_of_binders a.arity)))
    → next ≡ out ++ x ∷ []
    → map term_tree out ++ instances_from t k (action_trees (drop k actions)) ≡ r
    → map term_tree next ++ instances_from t (k + 1) (action_trees (drop (k + 1) actions)) ≡ r
some-kept t actions out next k a x r h e b o inv =
    ap (λ l. map term_tree l ++ instances_from t (k + 1) (action_trees (drop (k + 1) actions))) o
    ∙ (trees-push out x (is_some_instance t k (action_tree a))
    (instances_from t (k + 1) (action_trees (drop (k + 1) actions))) b
    ∙ (rw add-one
    (ap (λ l. map term_tree out ++ instances_from t k (action_trees l))
    (sym (drop-cons actions k a h ∙ ap (λ y. y ∷ drop (suc k) actions) (sym e))) ∙ inv)))

pub ruleset some_rules = (some-kept)

-- ---- the indices of binders

pub binders-step : (out next : List Idx) (left : ℕ) (n : List Idx) → 0 < left
    → next ≡ out ++ Bound (left - 1) ∷ [] → out ++ indices_of_binders left ≡ n
    → next ++ indices_of_binders (left - 1) ≡ n
binders-step out next zero n h o inv = absurd (omega arith)
binders-step out next (suc k) n h o inv =
    let e : suc k - 1 ≡ k = omega arith in
    ap (λ q. q ++ indices_of_binders (suc k - 1)) o
    ∙ (ap (λ m. (out ++ Bound m ∷ []) ++ indices_of_binders m) e
    ∙ (pushed out ∙ inv))
  where
    pushed : (xs : List Idx) → (xs ++ Bound k ∷ []) ++ indices_of_binders k
        ≡ xs ++ Bound k ∷ indices_of_binders k
    pushed [] = refl
    pushed (y ∷ xs) = ap (λ l. y ∷ l) (pushed xs)

pub binders-end : (out : List Idx) (left : ℕ) (n : List Idx) → left ≡ 0
    → out ++ indices_of_binders left ≡ n → out ≡ n
binders-end out left n e inv =
    sym (append-nil out) ∙ (ap (λ k. out ++ indices_of_binders k) (sym e) ∙ inv)

pub ruleset binders_rules = (binders-step, binders-end)
