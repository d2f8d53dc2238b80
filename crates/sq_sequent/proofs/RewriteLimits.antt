-- What is too large once it is rewritten takes its sequent past the limits; items and hypotheses,
-- as the program gathers them.
use Rattle.std.proofs.Common.{◌≡◌, ◌≢◌, ℕ, zero, suc, ◌+◌, ◌-◌, ◌<◌, ◌≤◌, max, refl, sym, ap, ◌∙◌}
use Rattle.std.proofs.Common.{List, [], ◌∷◌, ◌++◌, map, length, take, drop, get_or, Bool, true}
use Rattle.std.proofs.Common.{false, ◌&&◌, nat_le, add-one, arith, Some, Ok, Err}
use Rattle.std.specs.Prelude.{slice_get, slice_set, if◌then◌else◌}
use Rattle.std.proofs.Math.Nat.{le-max_left, le-max_right}
use Rattle.std.proofs.Math.Seq.{drop-cons}
use Rattle.std.proofs.lemmas.Bool.{le-leb, leb-true}
use Rattle.std.proofs.lemmas.List.{map-set, take_rest}
use Rattle.sq_base.specs.declared.sort.Sort.{Sort}
use Rattle.sq_term.specs.declared.term.Term.{Term}
use Rattle.sq_term.specs.Measure.{size, depth}
use Rattle.sq_term.specs.Syntax.{TermTree}
use Rattle.sq_term.specs.View.{term_tree}
use Rattle.sq_term.proofs.BoolTests.{and_split, and_both}
use Rattle.sq_subst.specs.Room as room
use Rattle.sq_system.specs.declared.sequent.Both.{Both}
use Rattle.sq_system.specs.Sequents.{Item, item, item_of, SequentTree, sequent, equiv, hyps_of}
use Rattle.sq_system.specs.Limits.{most_nodes, most_depth}
use Rattle.sq_system.specs.Sizes.{all_size, all_depth, items_size, items_depth, known_size}
use Rattle.sq_system.specs.Sizes.{known_depth, body_size, body_depth, fits}
use Rattle.sq_system.specs.declared.fault.RuleFault.{RuleFault}
use Rattle.sq_system.specs.declared.fault.RuleFault.TheVariants.{TooLarge, NoMemory}
use Rattle.sq_sequent.specs.Views.{hyp_of}
use Rattle.sq_sequent.specs.Premises.{with_hyps}
use Rattle.sq_sequent.specs.Rewriting.{Rewriting, rewritten, item_rewritten}
use Rattle.sq_sequent.specs.RewriteRow.{item_fits, items_fit}
use Rattle.sq_formula.specs.Refusals.{IsPastLimits}
use Rattle.sq_sequent.specs.Logic.{held, within_limits, judged}
use Rattle.sq_sequent.proofs.Held.{larger, refused, unfit_premise}

-- ---- an item

pub held-is : (t c : TermTree) → held t ≡ Ok c → c ≡ t
held-is t c = go (room.fits most_nodes t)
  where
    go : (b : Bool) → (if b then Ok t else Err TooLarge) ≡ Ok c → c ≡ t
    go true e = cc
    go false e = absurd (cc)

second_fails : (a b : Bool) → b ≡ false → (a && b) ≡ false
second_fails true b e = e
second_fails false b e = refl

pub left-past : (e : RuleFault) (r : Rewriting) (a b : TermTree)
    → (e ≢ NoMemory → held (rewritten r a) ≡ Err e) → IsPastLimits e (item_fits r (item a b))
left-past e r a b h n =
    let p = refused (rewritten r a) e (h n) in
    (p.1, ap (λ x. x && room.fits most_nodes (rewritten r b)) p.0)

pub right-past : (e : RuleFault) (r : Rewriting) (a b : TermTree)
    → (e ≢ NoMemory → held (rewritten r b) ≡ Err e) → IsPastLimits e (item_fits r (item a b))
right-past e r a b h n =
    let p = refused (rewritten r b) e (h n) in (
      p.1,
      second_fails (room.fits most_nodes (rewritten r a))
          (room.fits most_nodes (rewritten r b)) p.0,
    )

pub ruleset item_rules = (held-is, left-past, right-past)

-- ---- the items as they are gathered

items-push : (xs : List Both) (x : Both) (y : Item) (ys : List Item) → item_of x ≡ y
    → map item_of (xs ++ x ∷ []) ++ ys ≡ map item_of xs ++ (y ∷ ys)
items-push [] x y ys e = ap (λ i. i ∷ ys) e
items-push (z ∷ xs) x y ys e = ap (λ is. item_of z ∷ is) (items-push xs x y ys e)

rest_is : (items : List Both) (i : ℕ) (t : Both) → i < length items → t ≡ get_or items i t
    → drop i items ≡ t ∷ drop (i + 1) items
rest_is items i t h e =
    rw add-one (drop-cons items i t h ∙ ap (λ x. x ∷ drop (suc i) items) (sym e))

pub items-kept : (r : Rewriting) (items out out' : List Both) (i : ℕ) (t x : Both) (q : List Item)
    → i < length items → t ≡ get_or items i t
    → item_of x ≡ item_rewritten r (item_of t) → out' ≡ out ++ x ∷ []
    → map item_of out ++ map (item_rewritten r) (map item_of (drop i items)) ≡ q
    → map item_of out' ++ map (item_rewritten r) (map item_of (drop (i + 1) items)) ≡ q
items-kept r items out out' i t x q h e p o inv =
    ap (λ l. map item_of l ++ map (item_rewritten r) (map item_of (drop (i + 1) items))) o
    ∙ (items-push out x (item_rewritten r (item_of t))
    (map (item_rewritten r) (map item_of (drop (i + 1) items))) p
    ∙ (ap (λ l. map item_of out ++ map (item_rewritten r) (map item_of l))
    (sym (rest_is items i t h e)) ∙ inv))

pub fit-step : (r : Rewriting) (items : List Both) (i : ℕ) (t : Both) → i < length items
    → t ≡ get_or items i t
    → (items_fit r (map item_of (drop i items)) ≡ false → items_fit r (map item_of items) ≡ false)
    → items_fit r (map item_of (drop (i + 1) items)) ≡ false
    → items_fit r (map item_of items) ≡ false
fit-step r items i t h e inv f =
    inv (ap (λ l. items_fit r (map item_of l)) (rest_is items i t h e)
    ∙ second_fails (item_fits r (item_of t)) (items_fit r (map item_of (drop (i + 1) items))) f)

pub fit-stop : (r : Rewriting) (items : List Both) (i : ℕ) (t : Both) → i < length items
    → t ≡ get_or items i t
    → (items_fit r (map item_of (drop i items)) ≡ false → items_fit r (map item_of items) ≡ false)
    → item_fits r (item_of t) ≡ false → items_fit r (map item_of items) ≡ false
fit-stop r items i t h e inv f =
    inv (ap (λ l. items_fit r (map item_of l)) (rest_is items i t h e)
    ∙ ap (λ b. b && items_fit r (map item_of (drop (i + 1) items))) f)

pub ruleset items_rules = (items-kept, fit-step, fit-stop)

-- ---- items that do not fit

small : (a b n : ℕ) → a + b ≤ n → (a ≤ n) × (b ≤ n)
small a b n h = (omega arith, omega arith)

least : (a b n : ℕ) → max a b ≤ n → (a ≤ n) × (b ≤ n)
least a b n h =
    let p : a ≤ max a b = le-max_left a b in
    let q : b ≤ max a b = le-max_right a b in
    (omega arith, omega arith)

one_fits : (t : TermTree) → size t ≤ most_nodes → depth t ≤ most_depth
    → room.fits most_nodes t ≡ true
one_fits t h k =
    and_both (nat_le (size t) most_nodes) (nat_le (depth t) most_depth)
    (le-leb (size t) most_nodes h) (le-leb (depth t) most_depth k)

each_fits : (r : Rewriting) (items : List Item)
    → items_size (map (item_rewritten r) items) ≤ most_nodes
    → items_depth (map (item_rewritten r) items) ≤ most_depth → items_fit r items ≡ true
each_fits r [] h k = refl
each_fits r (item a b ∷ items) h k =
    let p = small (size (rewritten r a) + size (rewritten r b))
    (items_size (map (item_rewritten r) items)) most_nodes h in
    let q = least (max (depth (rewritten r a)) (depth (rewritten r b)))
    (items_depth (map (item_rewritten r) items)) most_depth k in
    let x = small (size (rewritten r a)) (size (rewritten r b)) most_nodes p.0 in
    let y = least (depth (rewritten r a)) (depth (rewritten r b)) most_depth q.0 in
    and_both (item_fits r (item a b)) (items_fit r items)
    (and_both (room.fits most_nodes (rewritten r a)) (room.fits most_nodes (rewritten r b))
    (one_fits (rewritten r a) x.0 y.0) (one_fits (rewritten r b) x.1 y.1))
    (each_fits r items p.1 q.1)

all_fit_in : (r : Rewriting) (vars : List Sort) (H : List TermTree) (known : List (List Item))
    (items : List Item) → fits (equiv vars H known (map (item_rewritten r) items)) ≡ true
    → items_fit r items ≡ true
all_fit_in r vars H known items e =
    let k = and_split
    (nat_le (all_size H + (known_size known + items_size (map (item_rewritten r) items)))
    most_nodes) _ e in
    let p = small (all_size H)
    (known_size known + items_size (map (item_rewritten r) items)) most_nodes
    (leb-true _ _ k.0) in
    let q = least (all_depth H)
    (max (known_depth known) (items_depth (map (item_rewritten r) items))) most_depth
    (leb-true _ _ k.1) in
    each_fits r items
    (small (known_size known) (items_size (map (item_rewritten r) items)) most_nodes p.1).1
    (least (known_depth known) (items_depth (map (item_rewritten r) items)) most_depth q.1).1

items-too-large : (r : Rewriting) (vars : List Sort) (H : List TermTree) (known : List (List Item))
    (items : List Item) → items_fit r items ≡ false
    → fits (equiv vars H known (map (item_rewritten r) items)) ≡ false
items-too-large r vars H known items h =
    go (fits (equiv vars H known (map (item_rewritten r) items))) refl
  where
    go : (b : Bool) → fits (equiv vars H known (map (item_rewritten r) items)) ≡ b → b ≡ false
    go false e = refl
    go true e = let z : true ≡ false = sym (all_fit_in r vars H known items e) ∙ h in z

pub items-refused : (e : RuleFault) (r : Rewriting) (vars : List Sort) (H : List TermTree)
    (known : List (List Item)) (items : List Item) → IsPastLimits e (items_fit r items)
    → e ≢ NoMemory
    → within_limits (equiv vars H known (map (item_rewritten r) items) ∷ []) ≡ Err e
unfolding within_limits
items-refused e r vars H known items h n =
    ap (λ b. if b && true then Ok (equiv vars H known (map (item_rewritten r) items) ∷ []) else
    (Err TooLarge)) (items-too-large r vars H known items (h n).1) ∙ ap Err (sym (h n).0)

-- ---- a hypothesis in the place of another

parts : {A : Type 0} (xs : List A) (k : ℕ) (x : A) → k < length xs
    → (take k xs ++ x ∷ []) ++ drop (suc k) xs ≡ slice_set xs k x
parts [] k x h = absurd (omega arith)
parts (y ∷ ys) zero x h = refl
parts (y ∷ ys) (suc k) x h = ap (λ l. y ∷ l) (parts ys k x (omega arith))

pub set-parts : (xs out out' c : List Term) (k : ℕ) (x : Term) → k < length xs → out ≡ take k xs
    → out' ≡ out ++ x ∷ []
    → c ≡ out' ++ take (length xs - (k + 1)) (drop (k + 1) xs) → c ≡ slice_set xs k x
set-parts xs out out' c k x h e o p =
    p ∙ (ap (λ l. l ++ take (length xs - (k + 1)) (drop (k + 1) xs)) (o ∙ ap (λ l. l ++ x ∷ []) e)
    ∙ (ap (λ l. (take k xs ++ x ∷ []) ++ l) (take_rest xs (k + 1)) ∙ rw add-one (parts xs k x h)))

pub ruleset set_rules = (set-parts)

mapped : (xs : List Term) → length (map term_tree xs) ≡ length xs
mapped [] = refl
mapped (x ∷ xs) = ap suc (mapped xs)

pub is-below : (xs : List Term) (H : List TermTree) (k : ℕ) → map term_tree xs ≡ H → k < length H
    → k < length xs
is-below xs H k e h = let l : length H ≡ length xs = ap length (sym e) ∙ mapped xs in omega arith

pub hyps-set : (xs : List Term) (H : List TermTree) (k : ℕ) (x : Term) → map term_tree xs ≡ H
    → map term_tree (slice_set xs k x) ≡ slice_set H k (term_tree x)
hyps-set xs H k x e = map-set term_tree xs k x ∙ ap (λ l. slice_set l k (term_tree x)) e

pub ruleset hyp_at_rules = (is-below, hyps-set)

get-below : (xs : List TermTree) (k : ℕ) (x : TermTree) → slice_get xs k ≡ Some x → k < length xs
get-below [] k x e = absurd (cc)
get-below (y ∷ ys) zero x e = omega arith
get-below (y ∷ ys) (suc k) x e = let l : k < length ys = get-below ys k x e in omega arith

pub hyp-below : (s : SequentTree) (k : ℕ) (x : TermTree) → hyp_of s k ≡ Some x
    → k < length (hyps_of s)
unfolding hyp_of
hyp-below s k x e = get-below (hyps_of s) k x e

set_size : (xs : List TermTree) (k : ℕ) (x t : TermTree) → slice_get xs k ≡ Some x
    → size t ≤ all_size (slice_set xs k t)
set_size [] k x t e = absurd (cc)
set_size (y ∷ ys) zero x t e = omega arith
set_size (y ∷ ys) (suc k) x t e = let l : size t ≤ all_size (slice_set ys k t) =
    set_size ys k x t e in omega arith

set_depth : (xs : List TermTree) (k : ℕ) (x t : TermTree) → slice_get xs k ≡ Some x
    → depth t ≤ all_depth (slice_set xs k t)
set_depth [] k x t e = absurd (cc)
set_depth (y ∷ ys) zero x t e = omega arith
set_depth (y ∷ ys) (suc k) x t e = let l : depth t ≤ all_depth (slice_set ys k t) =
    set_depth ys k x t e in omega arith

hyp_unfit : (s : SequentTree) (k : ℕ) (x t : TermTree) → slice_get (hyps_of s) k ≡ Some x
    → room.fits most_nodes t ≡ false → fits (with_hyps (slice_set (hyps_of s) k t) s) ≡ false
unfolding with_hyps
hyp_unfit (sequent vars H body) k x t e h =
    larger (size t) (depth t) (all_size (slice_set H k t) + body_size body)
    (max (all_depth (slice_set H k t)) (body_depth body)) h (omega (arith, set_size H k x t e))
    (omega (arith, set_depth H k x t e))

pub hyp-refused : (s : SequentTree) (k : ℕ) (x t : TermTree) (e : RuleFault) → hyp_of s k ≡ Some x
    → held t ≡ Err e → judged (Some (with_hyps (slice_set (hyps_of s) k t) s ∷ [])) ≡ Err e
unfolding hyp_of
hyp-refused s k x t e q h =
    let p = refused t e h in
    unfit_premise (with_hyps (slice_set (hyps_of s) k t) s) (hyp_unfit s k x t q p.0)
    ∙ ap Err (sym p.1)

pub ruleset hyp_rules = (held-is, hyp-refused, hyp-below)
