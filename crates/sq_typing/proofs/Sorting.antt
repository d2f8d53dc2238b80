-- Sorts and counts at the places of lists, and of binders, as the program reads them.
use Rattle.std.proofs.Common.{rules, Bor, ◌≡◌, ℕ, zero, suc, ◌+◌, ◌-◌, ◌<◌, ◌≤◌, ◌==◌, true, false}
use Rattle.std.proofs.Common.{List, [], ◌∷◌, ◌++◌, length, replicate, Some, None, refl, sym, ap}
use Rattle.std.proofs.Common.{subst, arith, ◌∙◌}
use Rattle.std.specs.Prelude.{slice_get}
use Rattle.std.proofs.lemmas.Bool.Decides.{nat_tests}
use Rattle.sq_base.specs.declared.sort.Sort.{Sort}
use Rattle.sq_term.specs.declared.action.Action.{Action}
use Rattle.sq_term.specs.declared.signature.FunDecl.{FunDecl}
use Rattle.sq_term.specs.declared.term.Term.{Term}
use Rattle.sq_term.specs.Builtins.{takes_boolean}
use Rattle.sq_term.specs.Measure.{count_terms}
use Rattle.sq_term.specs.Symbols.{Kind, declared, IsDeclared, kind_of, function_number}
use Rattle.sq_term.proofs.KindNumbers.{function_number-kind_of}
use Rattle.sq_term.proofs.Connectives.{count_terms-trees}
use Rattle.sq_term.specs.Syntax.{TermTree, TermTrees, cons}
use Rattle.sq_term.specs.View.{term_trees}
use Rattle.sq_term.proofs.Views.{open_rules}
use Rattle.sq_term.specs.TreeEquality.{is_same_sort}
use Rattle.sq_typing.specs.Typing.{Signature, has_sort_at, has_count_at, result_sort, argument_sort}
use Rattle.sq_typing.specs.Typing.{has_sort, have_sorts}
use Rattle.sq_typing.specs.declared.signature.Binders.{Binders, Outermost, Around, the_lemmas}
use Rattle.sq_typing.specs.Views.{arities, binder_sorts}

pub has_sort_at-some : (xs : List Sort) (k : ℕ) (s t : Sort) → slice_get xs k ≡ Some t
    → is_same_sort t s ≡ has_sort_at xs k s
has_sort_at-some [] k s t e = absurd (cc)
has_sort_at-some (x ∷ xs) zero s t e = let z : t ≡ x = cc in ap (λ r. is_same_sort r s) z
has_sort_at-some (x ∷ xs) (suc k) s t e = has_sort_at-some xs k s t e

pub has_sort_at-none : (xs : List Sort) (k : ℕ) (s : Sort) → slice_get xs k ≡ None
    → has_sort_at xs k s ≡ false
has_sort_at-none [] k s e = refl
has_sort_at-none (x ∷ xs) zero s e = absurd (cc)
has_sort_at-none (x ∷ xs) (suc k) s e = has_sort_at-none xs k s e

pub has_count_at-some : (xs : List ℕ) (k n m : ℕ) → slice_get xs k ≡ Some m
    → (m == n) ≡ has_count_at xs k n
has_count_at-some [] k n m e = absurd (cc)
has_count_at-some (x ∷ xs) zero n m e = let z : m ≡ x = cc in ap (λ r. r == n) z
has_count_at-some (x ∷ xs) (suc k) n m e = has_count_at-some xs k n m e

pub has_count_at-none : (xs : List ℕ) (k n : ℕ) → slice_get xs k ≡ None
    → has_count_at xs k n ≡ false
has_count_at-none [] k n e = refl
has_count_at-none (x ∷ xs) zero n e = absurd (cc)
has_count_at-none (x ∷ xs) (suc k) n e = has_count_at-none xs k n e

pub arity-some : (xs : List Action) (k n : ℕ) (a : Action) → slice_get xs k ≡ Some a
    → (a.arity == n) ≡ has_count_at (arities xs) k n
arity-some [] k n a e = absurd (cc)
arity-some (x ∷ xs) zero n a e =
    let z : a ≡ x = cc in
    ap (λ (r : Action). r.arity == n) z
arity-some (x ∷ xs) (suc k) n a e = arity-some xs k n a e

pub arity-none : (xs : List Action) (k n : ℕ) → slice_get xs k ≡ None
    → has_count_at (arities xs) k n ≡ false
arity-none [] k n e = refl
arity-none (x ∷ xs) zero n e = absurd (cc)
arity-none (x ∷ xs) (suc k) n e = arity-none xs k n e

pub ruleset sort_rules = (
  has_sort_at-some,
  has_sort_at-none,
  has_count_at-some,
  has_count_at-none,
  arity-some,
  arity-none,
)

-- ---- binders

pub binder_sorts-Outermost : binder_sorts Outermost ≡ []
unfolding binder_sorts
binder_sorts-Outermost = search (rules, the_lemmas)

pub binder_sorts-Around : (s : Sort) (c : ℕ) (outer : Bor Binders)
    → binder_sorts (Around s c outer) ≡ replicate c s ++ binder_sorts outer.now
unfolding binder_sorts
binder_sorts-Around s c outer = search (rules, the_lemmas)

pub ruleset outermost_rules = (binder_sorts-Outermost)

below : (c k : ℕ) (s t : Sort) (bs : List Sort) → k < c
    → has_sort_at (replicate c s ++ bs) k t ≡ is_same_sort s t
below zero k s t bs h = absurd (omega arith)
below (suc c) zero s t bs h = refl
below (suc c) (suc k) s t bs h = below c k s t bs (omega arith)

past : (c k : ℕ) (s t : Sort) (bs : List Sort) → has_sort_at (replicate c s ++ bs) (c + k) t
    ≡ has_sort_at bs k t
past zero k s t bs = let e : 0 + k ≡ k = omega arith in ap (λ n. has_sort_at bs n t) e
past (suc c) k s t bs = let e : suc c + k ≡ suc (c + k) =
    omega arith in ap (λ n. has_sort_at (replicate (suc c) s ++ bs) n t) e ∙ past c k s t bs

pub bound-below : (c k : ℕ) (s t : Sort) (outer : Bor Binders) → k < c
    → is_same_sort s t ≡ has_sort_at (binder_sorts (Around s c outer)) k t
bound-below c k s t outer h =
    rw (binder_sorts-Around s c outer) (sym (below c k s t (binder_sorts outer.now) h))

pub bound-past : (c k : ℕ) (s t : Sort) (outer : Bor Binders) → c ≤ k
    → has_sort_at (binder_sorts outer.now) (k - c) t
    ≡ has_sort_at (binder_sorts (Around s c outer)) k t
bound-past c k s t outer h =
    let e : c + (k - c) ≡ k = omega arith in
    rw (binder_sorts-Around s c outer) (sym (past c (k - c) s t (binder_sorts outer.now))
    ∙ ap (λ n. has_sort_at (replicate c s ++ binder_sorts outer.now) n t) e)

pub ruleset binder_rules = (the_lemmas, binder_sorts-Outermost, bound-below, bound-past)

-- ---- functions

declared_no : (f : Kind) (n : ℕ) → IsDeclared f → takes_boolean f n ≡ false
declared_no (declared k) n h = refl
declared_no _ n h = absurd h

pub declared_takes_messages : (f n : ℕ) → IsDeclared (kind_of f)
    → takes_boolean (kind_of f) n ≡ false
declared_takes_messages f n h = declared_no (kind_of f) n h

-- what a function gives and takes, read by its number
pub gives-some : (fs : List FunDecl) (f : ℕ) (d : FunDecl) (s : Sort) → slice_get fs f ≡ Some d
    → is_same_sort d.result s
    ≡ is_same_sort (result_sort (slice_get fs (function_number (kind_of f)))) s
gives-some fs f d s e =
    sym (ap (λ n. is_same_sort (result_sort (slice_get fs n)) s) (function_number-kind_of f)
    ∙ ap (λ o. is_same_sort (result_sort o) s) e)

pub ruleset number_rules = (function_number-kind_of, gives-some)

-- the arguments from number k on
pub sorts-next : (g : Signature) (bs : List Sort) (f : Kind) (k j : ℕ) (t : TermTree)
    (ts : TermTrees) → j ≡ k + 1 → has_sort g bs (argument_sort f k) t ≡ true
    → have_sorts g bs f j ts ≡ have_sorts g bs f k (cons t ts)
sorts-next g bs f k j t ts e h = let z : j ≡ suc k =
    omega arith in rw h (ap (λ n. have_sorts g bs f n ts) z)

pub sorts-fail : (g : Signature) (bs : List Sort) (f : Kind) (k : ℕ) (t : TermTree) (ts : TermTrees)
    → has_sort g bs (argument_sort f k) t ≡ false
    → have_sorts g bs f k (cons t ts) ≡ false
sorts-fail g bs f k t ts h = rw h

pub ruleset typing_rules = (
  open_rules,
  sorts-next,
  sorts-fail,
  count_terms-trees,
  binder_sorts-Outermost,
  binder_sorts-Around,
)
