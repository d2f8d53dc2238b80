-- Where instances stand in a trace.
use Rattle.std.proofs.Common.{◌≡◌, refl, sym, ap, ◌∙◌, subst, ℕ, zero, suc, ◌+◌, ◌<◌, ◌⊎◌, inl, inr}
use Rattle.std.proofs.Common.{⊎_elim, List, [], ◌∷◌, length, map, take, Bool, true, false, arith}
use Rattle.std.specs.Prelude.{◌≢◌, ◌==◌, ◌||◌, Option, Some, None, if◌then◌else◌, nat_lt}
use Rattle.std.specs.List.{list_any}
use Rattle.std.proofs.lemmas.Bool.{eqb-true}
use Rattle.std.proofs.lemmas.Bool.Decides.{nat_tests}
use Rattle.sq_term.specs.declared.model.Inst.{Inst}
use Rattle.sq_term.specs.declared.model.Model.{Model}
use Rattle.sq_term.specs.Lists.{Member, here, there, ElementAt, same_numbers}
use Rattle.sq_term.specs.Models.{is_instance, stands_in, place_from, parent_stands_in, are_below}
use Rattle.sq_term.specs.Models.{is_instance_below, IsTraceModel}
use Rattle.sq_term.specs.Systems.{SystemTree, action_at}
use Rattle.sq_term.proofs.BoolTests.{and_split, same_numbers-true}
use Rattle.sq_term.proofs.Members.{element-member}
use Rattle.sq_term.proofs.Models.{member-earlier, is_instance-true, is_instance_itself}

-- the instance of action n at these indices is element k
pub record IsAt (list : List Inst) (n : ℕ) (is : List ℕ) (k : ℕ) : Type 0 where
  pub instance : Inst
  pub stands : ElementAt list k instance
  pub action : n ≡ instance.act
  pub indices : is ≡ instance.idx

named : (i : Inst) (n : ℕ) (is : List ℕ) → is_instance n is i ≡ true → (n ≡ i.act) × (is ≡ i.idx)
named i n is h =
    let s : ((n == i.act) ≡ true) × (same_numbers is i.idx ≡ true) = and_split (n == i.act) _ h in
    (eqb-true n i.act s.0, same_numbers-true is i.idx s.1)

-- what has a place is an instance that stands there
place_from-at : (list : List Inst) (p n : ℕ) (is : List ℕ) (q : ℕ) → place_from p list n is ≡ Some q
    → (k : ℕ) × (q ≡ p + k) × IsAt list n is k
place_from-at [] p n is q e = absurd (cc)
place_from-at (i ∷ rest) p n is q e =
    at (is_instance n is i) refl e (λ f. place_from-at rest (suc p) n is q f)
  where
    at : (b : Bool) → is_instance n is i ≡ b
        → (if b then Some p else place_from (suc p) rest n is) ≡ Some q
        → (place_from (suc p) rest n is ≡ Some q
        → (k : ℕ) × (q ≡ suc p + k) × IsAt rest n is k)
        → (k : ℕ) × (q ≡ p + k) × IsAt (i ∷ rest) n is k
    at true h f later =
        let s = named i n is h in
        let g : p ≡ q = cc in (
          0,
          omega (arith, g),
          record { instance = i; stands = refl; action = s.0; indices = s.1 },
        )
    at false h f later =
        let r : (k : ℕ) × (q ≡ suc p + k) × IsAt rest n is k = later f in
        let g : q ≡ suc p + r.0 = r.1 in (
          suc r.0,
          omega (arith, g),
          record {
            instance = r.2.instance;
            stands = r.2.stands;
            action = r.2.action;
            indices = r.2.indices;
          },
        )

pub placed-at : (list : List Inst) (n : ℕ) (is : List ℕ) (q : ℕ) → place_from 1 list n is ≡ Some q
    → (k : ℕ) × (q ≡ suc k) × IsAt list n is k
placed-at list n is q e =
    let r : (k : ℕ) × (q ≡ 1 + k) × IsAt list n is k = place_from-at list 1 n is q e in
    let g : q ≡ 1 + r.0 = r.1 in
    (r.0, omega (arith, g), r.2)

abbrev AreDifferent : List Inst → Type 0
AreDifferent list = (j k : ℕ) (x y : Inst) → j < k → ElementAt list j x → ElementAt list k y → x ≢ y

-- an instance that stands once has its place
at-place_from : (list : List Inst) (p k : ℕ) (i : Inst) → AreDifferent list → ElementAt list k i
    → place_from p list i.act i.idx ≡ Some (p + k)
at-place_from [] p k i d h = absurd h
at-place_from (x ∷ rest) p zero i d h =
    let e : is_instance i.act i.idx x ≡ true =
    subst (λ z. is_instance i.act i.idx z ≡ true) (sym h) (is_instance_itself i) in
    let f : p ≡ p + 0 = omega arith in
    ap (λ b. if b then Some p else place_from (suc p) rest i.act i.idx) e ∙ ap Some f
at-place_from (x ∷ rest) p (suc k) i d h =
    at (is_instance i.act i.idx x) refl
    (at-place_from rest (suc p) k i
    (λ j l y z b m n. d (suc j) (suc l) y z (omega arith) m n) h)
  where
    at : (b : Bool) → is_instance i.act i.idx x ≡ b
        → place_from (suc p) rest i.act i.idx ≡ Some (suc p + k)
        → (if b then Some p else place_from (suc p) rest i.act i.idx) ≡ Some (p + suc k)
    at true e later = absurd (d 0 (suc k) x i (omega arith) refl h (is_instance-true i x e))
    at false e later = let f : suc p + k ≡ p + suc k = omega arith in later ∙ ap Some f

pub at-placed : (list : List Inst) (n : ℕ) (is : List ℕ) (k : ℕ) → AreDifferent list
    → IsAt list n is k → place_from 1 list n is ≡ Some (suc k)
at-placed list n is k d h =
    let e : place_from 1 list h.instance.act h.instance.idx ≡ Some (1 + k) =
    at-place_from list 1 k h.instance d h.stands in
    let f : place_from 1 list n is ≡ place_from 1 list h.instance.act h.instance.idx =
    λ i. place_from 1 list (h.action i) (h.indices i) in
    let g : 1 + k ≡ suc k = omega arith in
    f ∙ (e ∙ ap Some g)

-- one place has one element
pub element_once : {A : Type 0} (xs : List A) (k : ℕ) (x y : A) → ElementAt xs k x
    → ElementAt xs k y → x ≡ y
element_once [] k x y h g = absurd h
element_once (z ∷ xs) zero x y h g = sym h ∙ g
element_once (z ∷ xs) (suc k) x y h g = element_once xs k x y h g

found-any : {A : Type 0} (test : A → Bool) (xs : List A) → list_any test xs ≡ true
    → (x : A) × Member xs x × (test x ≡ true)
found-any test [] e = absurd (let f : false ≡ true = e in cc)
found-any {A} test (x ∷ xs) e = at (test x) refl e (λ f. found-any test xs f)
  where
    at : (b : Bool) → test x ≡ b → (b || list_any test xs) ≡ true
        → (list_any test xs ≡ true → (y : A) × Member xs y × (test y ≡ true))
        → (y : A) × Member (x ∷ xs) y × (test y ≡ true)
    at true t e later = (x, here, t)
    at false t e later = let r : (y : A) × Member xs y × (test y ≡ true) =
        later e in (r.0, there r.1, r.2)

-- each position behind init is that of an instance
pub element_there : {A : Type 0} (xs : List A) (k : ℕ) → k < length xs → (x : A) × ElementAt xs k x
element_there [] k b = absurd (omega arith)
element_there (x ∷ xs) zero b = (x, refl)
element_there {A} (x ∷ xs) (suc k) b =
    let r : (y : A) × ElementAt xs k y = element_there xs k (omega arith) in (r.0, r.1)

module _ (s : SystemTree) (m : Model) (M : IsTraceModel s m) where
  -- what an instance is
  pub below : (k : ℕ) (i : Inst) → ElementAt m.list k i
      → (i.act < length s.actions) × (length i.idx ≡ (action_at s i.act).arity)
      × (are_below m.indices i.idx ≡ true)
  below k i h =
      let p : (nat_lt i.act (length s.actions) ≡ true) × _ =
      and_split (nat_lt i.act (length s.actions)) _ (M.instances i (element-member m.list k i h)) in
      let q : ((length i.idx == (action_at s i.act).arity) ≡ true)
      × (are_below m.indices i.idx ≡ true) =
      and_split (length i.idx == (action_at s i.act).arity) _ p.1 in
      let e : nat_lt i.act (length s.actions) ≡ true = p.0 in
      (grind (arith, nat_tests), eqb-true _ _ q.0, q.1)

  -- the parent's instance stands earlier
  pub parent_earlier : (k : ℕ) (i : Inst) (p : ℕ) → ElementAt m.list k i
      → (action_at s i.act).parent ≡ Some p
      → (j : ℕ) × (j < k) × IsAt m.list p (take (action_at s p).arity i.idx) j
  parent_earlier k i p h e =
      let f : parent_stands_in s (take k m.list) (Some p) i.idx ≡ true =
      subst (λ o. parent_stands_in s (take k m.list) o i.idx ≡ true) e (M.after_parents k i h) in
      let r : (x : Inst) × Member (take k m.list) x
      × (is_instance p (take (action_at s p).arity i.idx) x ≡ true) =
      found-any (is_instance p (take (action_at s p).arity i.idx)) (take k m.list) f in
      let q : (j : ℕ) × (j < k) × ElementAt m.list j r.0 = member-earlier m.list k r.0 r.1 in
      let t = named r.0 p (take (action_at s p).arity i.idx) r.2 in
      (q.0, q.1, record { instance = r.0; stands = q.2; action = t.0; indices = t.1 })
