-- Tests in conditions, and what the variable of an `in` means.
use Rattle.std.proofs.Common.{◌≡◌, ℕ, zero, suc, ◌+◌, List, [], ◌∷◌, ◌++◌, length, true}
use Rattle.std.proofs.Common.{Option, Some, None, is_none, refl, sym, ap, ◌∙◌, subst}
use Rattle.std.proofs.Common.{slice_get, length-append}
use Rattle.std.specs.Prelude.{◌&&◌}
use Rattle.std.proofs.lemmas.Bool.{false≢true}
use Rattle.sq_term.specs.Lists.{Member, here, there as further}
use Rattle.sq_term.specs.Syntax.{TermTree}
use Rattle.sq_elab.specs.Actions.{branch_test, find_test, tests_since}
use Rattle.sq_elab.specs.Laws.{closes_none, TestsAreInConditions, FindsAreInConditions}
use Rattle.sq_elab.specs.Laws.{InputsAreOfTheFirst}
use Rattle.sq_elab.specs.Meanings.{Base, Closing, from_step, input_of, values, value_of_step}
use Rattle.sq_elab.specs.Meanings.{value_count, values_of_step}
use Rattle.sq_elab.specs.Ways.{Step, creates, receives, repeats, sends, tests, finds, defines}
use Rattle.sq_elab.specs.Ways.{part, labels, enters, Way, closes, indices}

-- ---- members

in_front : {A : Type 0} {x : A} {xs : List A} (ys : List A) → Member xs x → Member (xs ++ ys) x
in_front ys here = here
in_front ys (further m) = further (in_front ys m)

at_the_end : {A : Type 0} (xs : List A) (x : A) → Member (xs ++ x ∷ []) x
at_the_end [] x = here
at_the_end (y ∷ xs) x = further (at_the_end xs x)

-- ---- tests

-- what is among the tests of a way stays there up to the next action
module _ (b : Base) (next : Closing) (w : Way) (t : TermTree)
    (among : Member (tests_since b next w) t) where
  stays : (u : Way) → closes_none u ≡ true → Member (tests_since b next (u ++ w)) t
  stays [] e = among
  stays (creates x k ∷ u) e = stays u e
  stays (receives x None ∷ u) e = stays u e
  stays (receives x (Some a) ∷ u) e = absurd (false≢true e)
  stays (repeats i None ∷ u) e = stays u e
  stays (repeats i (Some a) ∷ u) e = absurd (false≢true e)
  stays (sends m a ∷ u) e = absurd (false≢true e)
  stays (tests f x ∷ u) e = in_front (branch_test b next (u ++ w) f x ∷ []) (stays u e)
  stays (finds ns f x ∷ u) e = in_front (find_test b next (u ++ w) ns f x ∷ []) (stays u e)
  stays (defines x f ∷ u) e = stays u e
  stays (part k more None ∷ u) e = stays u e
  stays (part k more (Some a) ∷ u) e = absurd (false≢true e)
  stays (labels l ∷ u) e = stays u e
  stays (enters xs ys ∷ u) e = stays u e

pub tests_in_conditions : TestsAreInConditions
tests_in_conditions b next f x u w e =
    stays b next (tests f x ∷ w) (branch_test b next w f x)
    (at_the_end (tests_since b next w) (branch_test b next w f x)) u e

pub finds_in_conditions : FindsAreInConditions
finds_in_conditions b next ns f x u w e =
    stays b next (finds ns f x ∷ w) (find_test b next w ns f x)
    (at_the_end (tests_since b next w) (find_test b next w ns f x)) u e

-- ---- values

pub slice_get-front : {A : Type 0} (xs ys : List A) (k : ℕ) (y : A) → slice_get xs k ≡ Some y
    → slice_get (xs ++ ys) k ≡ Some y
slice_get-front [] ys k y e = absurd (cc (e))
slice_get-front (x ∷ xs) ys zero y e = e
slice_get-front (x ∷ xs) ys (suc k) y e = slice_get-front xs ys k y e

pub slice_get-end : {A : Type 0} (xs : List A) (y : A)
    → slice_get (xs ++ y ∷ []) (length xs) ≡ Some y
slice_get-end [] y = refl
slice_get-end (x ∷ xs) y = slice_get-end xs y

one-value : (b : Base) (next : Closing) (s : Step) (w : Way) (vs : List TermTree)
    → length (value_of_step b next s w vs) ≡ values_of_step s
one-value b next (creates x k) w vs = refl
one-value b next (receives x a) w vs = refl
one-value b next (repeats i a) w vs = refl
one-value b next (sends m a) w vs = refl
one-value b next (tests f x) w vs = refl
one-value b next (finds ns f x) w vs = refl
one-value b next (defines x f) w vs = refl
one-value b next (part k more a) w vs = refl
one-value b next (labels l) w vs = refl
one-value b next (enters xs ys) w vs = refl

-- a way has as many values as are numbered
pub length-values : (b : Base) (w : Way) (next : Closing) → length (values b next w) ≡ value_count w
length-values b [] next = refl
length-values b (s ∷ w) next =
    let before = from_step (closes s) (indices w) next in
    length-append (values b before w) (value_of_step b next s w (values b before w))
    ∙ (λ i. length-values b w before i + one-value b next s w (values b before w) i)

-- the variable of an `in` at the end of the way
input-at : (b : Base) (x : List ℕ) (c : Option ℕ) (w : Way) (next : Closing)
    → slice_get (values b next (receives x c ∷ w)) (value_count w) ≡ Some (input_of next)
input-at b x c w next =
    let before = from_step c (indices w) next in
    subst (λ k. slice_get (values b before w ++ input_of next ∷ []) k ≡ Some (input_of next))
    (length-values b w before) (slice_get-end (values b before w) (input_of next))

-- whatever stands behind it
value-stays : (b : Base) (w : Way) (k : ℕ) (y : TermTree)
    → ((next : Closing) → slice_get (values b next w) k ≡ Some y) → (v : Way) (next : Closing)
    → slice_get (values b next (v ++ w)) k ≡ Some y
value-stays b w k y h [] next = h next
value-stays b w k y h (s ∷ v) next =
    let before = from_step (closes s) (indices (v ++ w)) next in
    let vs = values b before (v ++ w) in
    slice_get-front vs (value_of_step b next s (v ++ w) vs) k y (value-stays b w k y h v before)

pub closes-none : (s : Step) (u : Way) → closes_none (s ∷ u) ≡ true → closes s ≡ None
closes-none s u e = by (closes s) e
  where
    by : (o : Option ℕ) → (is_none o && closes_none u) ≡ true → o ≡ None
    by None f = refl
    by (Some a) f = absurd (false≢true f)

closes-none-rest : (s : Step) (u : Way) → closes_none (s ∷ u) ≡ true → closes_none u ≡ true
closes-none-rest s u e = by (closes s) e
  where
    by : (o : Option ℕ) → (is_none o && closes_none u) ≡ true → closes_none u ≡ true
    by None f = f
    by (Some a) f = absurd (false≢true f)

-- steps that close nothing change no value
none-between : (b : Base) (w : Way) (k : ℕ) (next : Closing) (y : TermTree)
    → slice_get (values b next w) k ≡ Some y → (u : Way) → closes_none u ≡ true
    → slice_get (values b next (u ++ w)) k ≡ Some y
none-between b w k next y h [] e = h
none-between b w k next y h (s ∷ u) e =
    let before = from_step (closes s) (indices (u ++ w)) next in
    let vs = values b before (u ++ w) in
    let same : before ≡ next =
    ap (λ o. from_step o (indices (u ++ w)) next) (closes-none s u e) in
    slice_get-front vs (value_of_step b next s (u ++ w) vs) k y
    (subst (λ m. slice_get (values b m (u ++ w)) k ≡ Some y) (sym same)
    (none-between b w k next y h u (closes-none-rest s u e)))

-- behind a step that closes action a
closed-between : (b : Base) (w : Way) (k : ℕ) (s : Step) (a : ℕ) (y : TermTree)
    → closes s ≡ Some a → slice_get (values b (a, indices w) w) k ≡ Some y → (next : Closing)
    → slice_get (values b next (s ∷ w)) k ≡ Some y
closed-between b w k s a y f h next =
    let before = from_step (closes s) (indices w) next in
    let vs = values b before w in
    let same : before ≡ (a, indices w) = ap (λ o. from_step o (indices w) next) f in
    slice_get-front vs (value_of_step b next s w vs) k y
    (subst (λ m. slice_get (values b m w) k ≡ Some y) (sym same) h)

pub inputs_of_the_first : InputsAreOfTheFirst
inputs_of_the_first b next x c w =
    let at = receives x c ∷ w in
    let k = value_count w in (
      λ u e. none-between b at k next (input_of next) (input-at b x c w next) u e,
      λ u v s a e f.
          let first : Closing = (a, indices (u ++ at)) in
          let value = none-between b at k first (input_of first) (input-at b x c w first) u e in
          value-stays b (s ∷ (u ++ at)) k (input_of first)
          (closed-between b (u ++ at) k s a (input_of first) f value) v next,
    )
