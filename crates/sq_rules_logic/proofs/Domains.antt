-- The value of an argument for a binder is in the binder's domain.
use Rattle.std.proofs.Common.{◌≡◌, ℕ, zero, suc, ◌+◌, ◌<◌, ◌≤◌, ◌⊎◌, ⊎_elim, sym, subst, List, []}
use Rattle.std.proofs.Common.{◌∷◌, map, length, Option, Some, None, Bool, true, false, arith}
use Rattle.std.specs.Prelude.{⊤, get_or, if◌then◌else◌}
use Rattle.sq_base.specs.declared.sort.Sort.{Sort}
use Rattle.sq_base.specs.declared.sort.Sort.TheVariants.{Message, Boolean, Index, Timestamp}
use Rattle.sq_term.specs.declared.model.Inst.{Inst}
use Rattle.sq_term.specs.declared.model.Model.{Model}
use Rattle.sq_term.specs.declared.model.Value.{Value}
use Rattle.sq_term.specs.declared.model.Value.TheVariants.{Index as Number, Time as Moment}
use Rattle.sq_term.specs.declared.term.Idx.{Idx}
use Rattle.sq_term.specs.declared.term.Idx.TheVariants.{Free, Bound}
use Rattle.sq_term.specs.Arguments.{ArgTree, an_index, a_time}
use Rattle.sq_term.specs.Lists.{Member, here, there, Each, count}
use Rattle.sq_term.specs.Models.{is_instance, place_from, times_of}
use Rattle.sq_term.specs.Syntax.{TsTree, free, bound, init, pred, action}
use Rattle.sq_term.specs.Translate.{Times, Assignment, time_of, idx_value, idx_values, before}
use Rattle.sq_term.specs.Translate.{ts_value, domain}
use Rattle.sq_term.proofs.Members.{member-append_left, member-append_right, member-map, each-map}
use Rattle.sq_term.proofs.Members.{each-push}
use Rattle.sq_term.proofs.SameTrees.{is_same_sort-decides}
use Rattle.sq_typing.specs.Typing.{Signature, has_sort_at, is_index, is_timestamp}
use Rattle.sq_subst.specs.Laws.{arg_value}
use Rattle.sq_ground.specs.Holding.{Fits}
use Rattle.sq_formula.proofs.Opened.{is_value}
use Rattle.sq_rules_logic.proofs.FurtherVariable.{numbers}

-- ---- numbers in a row

split : (x y : ℕ) → x ≤ y → (x ≡ y) ⊎ (suc x ≤ y)
split x y l = grind arith

pub count-member : (a n k : ℕ) → a ≤ k → k < a + n → Member (count a n) k
count-member a zero k h b = absurd (omega arith)
count-member a (suc n) k h b =
    ⊎_elim (λ s. subst (λ z. Member (a ∷ count (suc a) n) z) s here)
    (λ l. there (count-member (suc a) n k l (omega arith))) (split a k h)

member-count : (a n k : ℕ) → Member (count a n) k → k < a + n
member-count a zero k i = elim i [ ]
member-count a (suc n) k here = omega arith
member-count a (suc n) k (there i) = let b : k < suc a + n =
    member-count (suc a) n k i in omega arith

-- ---- the times of a model

-- a position below n, or undefined
abbrev IsBelow : ℕ → Option ℕ → Type 0
IsBelow n None = ⊤
IsBelow n (Some p) = p < n

-- init has a position, and so has each instance that stands in the trace
abbrev pub IsPlaced : Times → Type 0
IsPlaced w = (0 < w.positions) × ((n : ℕ) (is : List ℕ) → IsBelow w.positions (w.place n is))

place-below : (list : List Inst) (p n : ℕ) (is : List ℕ) (b : ℕ) → p + length list ≤ b
    → IsBelow b (place_from p list n is)
place-below [] p n is b h = tt
place-below (i ∷ rest) p n is b h =
    let k : p + suc (length rest) ≤ b = h in
    let first : p < b = omega arith in
    let room : suc p + length rest ≤ b = omega arith in
    go (is_instance n is i) first (place-below rest (suc p) n is b room)
  where
    go : (q : Bool) → p < b → IsBelow b (place_from (suc p) rest n is)
        → IsBelow b (if q then Some p else place_from (suc p) rest n is)
    go true f r = f
    go false f r = r

pub placed_times : (m : Model) → IsPlaced (times_of m)
placed_times m =
    let first : 0 < suc (length m.list) = omega arith in
    let room : 1 + length m.list ≤ suc (length m.list) = omega arith in
    (first, λ n is. place-below m.list 1 n is (suc (length m.list)) room)

-- ---- values of variables

fits-at : (w : Times) (vars : List Sort) (vs : List Value) (k : ℕ) (s : Sort) → Fits w vars vs
    → has_sort_at vars k s ≡ true → Member (domain w s) (get_or vs k (Moment None))
fits-at w [] vs k s f h = let z : false ≡ true = h in absurd (cc)
fits-at w (x ∷ xs) [] k s f h = absurd f
fits-at w (x ∷ xs) (v ∷ vs) zero s f h =
    subst (λ y. Member (domain w y) v) ((is_same_sort-decides x s).0 h) f.0
fits-at w (x ∷ xs) (v ∷ vs) (suc k) s f h = fits-at w xs vs k s f.1 h

moments-below : (w : Times) → Each (λ v. IsBelow w.positions (time_of v)) (domain w Timestamp)
moments-below w =
    each-push (map (λ p. Moment (Some p)) (count 0 w.positions)) (Moment None)
    (λ v. IsBelow w.positions (time_of v))
    (each-map (λ p. Moment (Some p)) (count 0 w.positions) (λ v. IsBelow w.positions (time_of v))
    (λ p i.
    let b : p < 0 + w.positions = member-count 0 w.positions p i in
    let l : p < w.positions = omega arith in l)) tt

moment-member : (w : Times) (o : Option ℕ) → IsBelow w.positions o
    → Member (domain w Timestamp) (Moment o)
moment-member w None h =
    member-append_right (map (λ p. Moment (Some p)) (count 0 w.positions)) (Moment None ∷ [])
    (Moment None) here
moment-member w (Some q) h =
    let k : q < w.positions = h in
    let b : q < 0 + w.positions = omega arith in
    let z : 0 ≤ q = omega arith in
    member-append_left (map (λ p. Moment (Some p)) (count 0 w.positions)) (Moment None ∷ [])
    (Moment (Some q))
    (member-map (λ p. Moment (Some p)) (count 0 w.positions) q (count-member 0 w.positions q z b))

before-below : (n : ℕ) (o : Option ℕ) → IsBelow n o → IsBelow n (before o)
before-below n None h = tt
before-below n (Some zero) h = tt
before-below n (Some (suc p)) h = let k : suc p < n = h in let l : p < n = omega arith in l

-- ---- the value of an argument

no_value : {P : Type 0} → false ≡ true → P
no_value e = absurd (let f : false ≡ true = e in cc)

module _ (w : Times) (placed : IsPlaced w) (g : Signature) (a : Assignment)
    (fit : Fits w g.vars a.variables) where
  index_value : (i : Idx) → is_index g [] i ≡ true
      → Member (domain w Index) (Number (idx_value a [] i))
  index_value (Free k) h =
      let i : Member (domain w Index) (get_or a.variables k (Moment None)) =
      fits-at w g.vars a.variables k Index fit h in
      subst (Member (domain w Index)) (sym (numbers w (get_or a.variables k (Moment None)) i)) i
  index_value (Bound k) h = no_value h

  time_value : (t : TsTree) → is_timestamp g [] t ≡ true → IsBelow w.positions (ts_value w a [] t)
  time_value (free k) h =
      moments-below w (get_or a.variables k (Moment None))
      (fits-at w g.vars a.variables k Timestamp fit h)
  time_value (bound k) h = no_value h
  time_value init h = placed.0
  time_value (pred t) h = before-below w.positions (ts_value w a [] t) (time_value t h)
  time_value (action n is) h = placed.1 n (idx_values a [] is)

  -- it is in the domain of the binder
  pub value_member : (x : Sort) (v : ArgTree) → is_value g x v ≡ true
      → Member (domain w x) (arg_value w a v)
  value_member Index (an_index i) h = index_value i h
  value_member Timestamp (a_time t) h = moment-member w (ts_value w a [] t) (time_value t h)
  value_member Index (a_time t) h = no_value h
  value_member Timestamp (an_index i) h = no_value h
  value_member Message (an_index i) h = no_value h
  value_member Message (a_time t) h = no_value h
  value_member Boolean (an_index i) h = no_value h
  value_member Boolean (a_time t) h = no_value h
