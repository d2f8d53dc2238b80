-- A model is one where no position is refused, and the first that is refused ends a model before
-- it.
use Rattle.std.proofs.Common.{◌≡◌, refl, sym, ap, ◌∙◌, subst, ℕ, zero, suc, ◌+◌, ◌<◌, ◌≤◌, List, []}
use Rattle.std.proofs.Common.{◌∷◌, ◌++◌, length, Bool, true, false, if◌then◌else◌, not, ◌||◌, ◌==◌}
use Rattle.std.proofs.Common.{take}
use Rattle.std.proofs.Common.{arith}
use Rattle.std.specs.Prelude.{Some, None}
use Rattle.std.specs.List.{list_any}
use Rattle.std.proofs.lemmas.Bool.{eqb-true}
use Rattle.std.proofs.Math.Dec.{eqb-suc-zero}
use Rattle.sq_term.specs.declared.model.Inst.{Inst}
use Rattle.sq_term.specs.declared.model.Model.{Model}
use Rattle.sq_term.specs.Lists.{Member, here, there, ElementAt, same_numbers}
use Rattle.sq_term.specs.Systems.{SystemTree, action_at}
use Rattle.sq_term.specs.Models.{is_instance, stands_in, is_instance_below, parent_stands_in}
use Rattle.sq_term.specs.Models.{are_in_conflict, may_follow, refused_from, first_refused}
use Rattle.sq_term.specs.Models.{IsTraceModel, up_to, IsFirstRefused}
use Rattle.sq_term.proofs.Members.{member-element, element-member}
use Rattle.sq_term.proofs.BoolTests.{and_split, and_both, number_itself, same_numbers-true}
use Rattle.sq_term.proofs.BoolTests.{same_numbers_itself}

-- the empty trace over one index is a model of every system
abbrev pub empty_model : Model
empty_model = record { indices = 1; list = [] }

pub empty_model-first_refused : (system : SystemTree) → first_refused system empty_model ≡ None
empty_model-first_refused system = refl

-- Booleans
not-true : (x : Bool) → not x ≡ true → x ≡ false
not-true true h = let e : false ≡ true = h in cc
not-true false h = refl

pub list_any-none : {A : Type 0} (test : A → Bool) (xs : List A) → list_any test xs ≡ false
    → (x : A) → Member xs x → test x ≡ false
list_any-none test [] h x i = elim i [ ]
list_any-none test (x ∷ xs) h z here = first (test x) (list_any test xs) h
  where
    first : (a b : Bool) → (a || b) ≡ false → a ≡ false
    first true b e = e
    first false b e = refl
list_any-none test (x ∷ xs) h z (there i) =
    list_any-none test xs (second (test x) (list_any test xs) h) z i
  where
    second : (a b : Bool) → (a || b) ≡ false → b ≡ false
    second true b e = let f : true ≡ false = e in cc
    second false b e = e

pub none-list_any : {A : Type 0} (test : A → Bool) (xs : List A)
    → ((x : A) → Member xs x → test x ≡ false) → list_any test xs ≡ false
none-list_any test [] h = refl
none-list_any test (x ∷ xs) h =
    both (test x) (list_any test xs) (h x here) (none-list_any test xs (λ z i. h z (there i)))
  where
    both : (a b : Bool) → a ≡ false → b ≡ false → (a || b) ≡ false
    both true b e f = e
    both false b e f = f

-- an instance is that of its action at its indices, and no other
pub is_instance-true : (i j : Inst) → is_instance i.act i.idx j ≡ true → j ≡ i
is_instance-true i j h =
    let s : ((i.act == j.act) ≡ true) × (same_numbers i.idx j.idx ≡ true) =
    and_split (i.act == j.act) (same_numbers i.idx j.idx) h in
    let e : i.act ≡ j.act = eqb-true i.act j.act s.0 in
    let f : i.idx ≡ j.idx = same_numbers-true i.idx j.idx s.1 in
    sym (λ k. record { act = e k; idx = f k })

pub is_instance_itself : (i : Inst) → is_instance i.act i.idx i ≡ true
is_instance_itself i =
    and_both (i.act == i.act) (same_numbers i.idx i.idx) (number_itself i.act)
    (same_numbers_itself i.idx)

-- elements before place k
pub earlier-member : {A : Type 0} (xs : List A) (j k : ℕ) (x : A) → j < k → ElementAt xs j x
    → Member (take k xs) x
earlier-member [] j k x b h = absurd h
earlier-member (y ∷ ys) j zero x b h = absurd (omega arith)
earlier-member (y ∷ ys) zero (suc k) x b h = subst (λ z. Member (y ∷ take k ys) z) h here
earlier-member (y ∷ ys) (suc j) (suc k) x b h = there (earlier-member ys j k x (omega arith) h)

pub member-earlier : {A : Type 0} (xs : List A) (k : ℕ) (x : A) → Member (take k xs) x
    → (j : ℕ) × (j < k) × ElementAt xs j x
member-earlier [] zero x i = elim i [ ]
member-earlier [] (suc k) x i = elim i [ ]
member-earlier (y ∷ ys) zero x i = elim i [ ]
member-earlier (y ∷ ys) (suc k) z here = (0, omega arith, refl)
member-earlier {A} (y ∷ ys) (suc k) z (there i) =
    let r : (j : ℕ) × (j < k) × ElementAt ys j z = member-earlier ys k z i in
    (suc r.0, (let b : r.0 < k = r.1 in omega arith), r.2)

append_one : {A : Type 0} (xs ys : List A) (y : A) → (xs ++ y ∷ []) ++ ys ≡ xs ++ y ∷ ys
append_one [] ys y = refl
append_one (x ∷ xs) ys y = ap (λ r. x ∷ r) (append_one xs ys y)

append_nil : {A : Type 0} (xs : List A) → xs ++ [] ≡ xs
append_nil [] = refl
append_nil (x ∷ xs) = ap (λ r. x ∷ r) (append_nil xs)

module _ (system : SystemTree) where
  -- each instance may stand where it does
  abbrev pub AllMayFollow : ℕ → List Inst → List Inst → Type 0
  AllMayFollow d earlier rest = (k : ℕ) (i : Inst) → ElementAt rest k i
      → may_follow system d (earlier ++ take k rest) i ≡ true

  refused_from-none : (d p : ℕ) (earlier rest : List Inst)
      → refused_from system d p earlier rest ≡ None → AllMayFollow d earlier rest
  refused_from-none d p earlier [] e k i h = absurd h
  refused_from-none d p earlier (x ∷ rest) e k i h =
      at (may_follow system d earlier x) refl e k i h
      (λ f. refused_from-none d (suc p) (earlier ++ x ∷ []) rest f)
    where
      at : (b : Bool) → may_follow system d earlier x ≡ b
          → (if b then refused_from system d (suc p) (earlier ++ x ∷ []) rest else Some p) ≡ None
          → (k : ℕ) (i : Inst) → ElementAt (x ∷ rest) k i
          → (refused_from system d (suc p) (earlier ++ x ∷ []) rest ≡ None
          → AllMayFollow d (earlier ++ x ∷ []) rest)
          → may_follow system d (earlier ++ take k (x ∷ rest)) i ≡ true
      at false m e k i h later = absurd (let f : Some p ≡ None = e in cc)
      at true m e zero i h later = rw append_nil (ap (may_follow system d earlier) (sym h) ∙ m)
      at true m e (suc k) i h later =
          subst (λ q. may_follow system d q i ≡ true) (append_one earlier (take k rest) x)
          (later e k i h)

  none-refused_from : (d p : ℕ) (earlier rest : List Inst) → AllMayFollow d earlier rest
      → refused_from system d p earlier rest ≡ None
  none-refused_from d p earlier [] h = refl
  none-refused_from d p earlier (x ∷ rest) h =
      let e : may_follow system d earlier x ≡ true = rw append_nil at (h 0 x refl) in
      ap (λ b. (if b then refused_from system d (suc p) (earlier ++ x ∷ []) rest else Some p)) e
      ∙ none-refused_from d (suc p) (earlier ++ x ∷ []) rest
      (λ k i g. subst (λ q. may_follow system d q i ≡ true)
      (sym (append_one earlier (take k rest) x)) (h (suc k) i g))

  -- the four parts of `may_follow`
  record Parts (d : ℕ) (earlier : List Inst) (i : Inst) : Type 0 where
    below : is_instance_below system d i ≡ true
    new : stands_in earlier i.act i.idx ≡ false
    parent : parent_stands_in system earlier (action_at system i.act).parent i.idx ≡ true
    free : list_any (are_in_conflict system i) earlier ≡ false

  parts : (d : ℕ) (earlier : List Inst) (i : Inst) → may_follow system d earlier i ≡ true
      → Parts d earlier i
  parts d earlier i h =
      let a : (is_instance_below system d i ≡ true) × _ =
      and_split (is_instance_below system d i) _ h in
      let b : (not (stands_in earlier i.act i.idx) ≡ true) × _ =
      and_split (not (stands_in earlier i.act i.idx)) _ a.1 in
      let c : (parent_stands_in system earlier (action_at system i.act).parent i.idx ≡ true)
      × (not (list_any (are_in_conflict system i) earlier) ≡ true) = and_split _ _ b.1 in
      record { below = a.0; new = not-true _ b.0; parent = c.0; free = not-true _ c.1 }

  from_parts : (d : ℕ) (earlier : List Inst) (i : Inst) → Parts d earlier i
      → may_follow system d earlier i ≡ true
  from_parts d earlier i p =
      and_both _ _ p.below (and_both _ _ (ap not p.new) (and_both _ _ p.parent (ap not p.free)))

  pub all-model : (m : Model) → 0 < m.indices → AllMayFollow m.indices [] m.list
      → IsTraceModel system m
  all-model m d h = record {
    has_an_index = d;
    instances = λ x i. let e : (k : ℕ) × ElementAt m.list k x =
        member-element m.list x i in (parts m.indices (take e.0 m.list) x (h e.0 x e.1)).below;
    different = λ j k x y b p q e. let f : is_instance y.act y.idx x ≡ false =
        list_any-none (is_instance y.act y.idx) (take k m.list)
        (parts m.indices (take k m.list) y (h k y q)).new x (earlier-member m.list j k x b p) in
        let g : is_instance y.act y.idx x ≡ true =
        subst (λ z. is_instance z.act z.idx x ≡ true) e (is_instance_itself x) in
        absurd (let c : false ≡ true = sym f ∙ g in cc);
    after_parents = λ k x p. (parts m.indices (take k m.list) x (h k x p)).parent;
    compatible =
        λ j k x y b p q. list_any-none (are_in_conflict system y) (take k m.list)
        (parts m.indices (take k m.list) y (h k y q)).free x (earlier-member m.list j k x b p);
  }

  pub model-all : (m : Model) → IsTraceModel system m → AllMayFollow m.indices [] m.list
  model-all m M k y q = from_parts m.indices (take k m.list) y (record {
    below = M.instances y (element-member m.list k y q);
    new = none-list_any (is_instance y.act y.idx) (take k m.list)
        (λ x i. other x i (is_instance y.act y.idx x) refl);
    parent = M.after_parents k y q;
    free = none-list_any (are_in_conflict system y) (take k m.list)
        (λ x i. let e : (j : ℕ) × (j < k) × ElementAt m.list j x = member-earlier m.list k x i in
        M.compatible e.0 k x y e.1 e.2 q);
  })
    where
      other : (x : Inst) → Member (take k m.list) x → (b : Bool) → is_instance y.act y.idx x ≡ b
          → is_instance y.act y.idx x ≡ false
      other x i false e = e
      other x i true e = let r : (j : ℕ) × (j < k) × ElementAt m.list j x =
          member-earlier m.list k x i in
          absurd (M.different r.0 k x y r.1 r.2 q (is_instance-true y x e))

  -- no position is refused exactly where the list is a model
  pub first_refused-none : (m : Model) → first_refused system m ≡ None → IsTraceModel system m
  first_refused-none m e = at (m.indices == 0) refl e
    where
      positive : (n : ℕ) → (n == 0) ≡ false → 0 < n
      positive zero e = absurd (let f : true ≡ false = e in cc)
      positive (suc n) e = omega arith

      at : (b : Bool) → (m.indices == 0) ≡ b
          → (if b then Some 0 else refused_from system m.indices 1 [] m.list) ≡ None
          → IsTraceModel system m
      at true z e = absurd (let f : Some 0 ≡ None = e in cc)
      at false z e = all-model m (positive m.indices z) (refused_from-none m.indices 1 [] m.list e)

  pub none-first_refused : (m : Model) → IsTraceModel system m → first_refused system m ≡ None
  none-first_refused m M =
      ap (λ b. (if b then Some 0 else refused_from system m.indices 1 [] m.list))
      (not_zero m.indices M.has_an_index) ∙ none-refused_from m.indices 1 [] m.list (model-all m M)
    where
      not_zero : (n : ℕ) → 0 < n → (n == 0) ≡ false
      not_zero zero h = absurd (omega arith)
      not_zero (suc n) h = eqb-suc-zero n

  element-take : {A : Type 0} (xs : List A) (k j : ℕ) (x : A) → ElementAt (take k xs) j x
      → (j < k) × ElementAt xs j x
  element-take [] zero j x h = absurd h
  element-take [] (suc k) j x h = absurd h
  element-take (y ∷ ys) zero j x h = absurd h
  element-take (y ∷ ys) (suc k) zero x h = (omega arith, h)
  element-take {A} (y ∷ ys) (suc k) (suc j) x h = let r : (j < k) × ElementAt ys j x =
      element-take ys k j x h in ((let b : j < k = r.0 in omega arith), r.1)

  take-element : {A : Type 0} (xs : List A) (k j : ℕ) (x : A) → j < k → ElementAt xs j x
      → ElementAt (take k xs) j x
  take-element [] k j x b h = absurd h
  take-element (y ∷ ys) zero j x b h = absurd (omega arith)
  take-element (y ∷ ys) (suc k) zero x b h = h
  take-element (y ∷ ys) (suc k) (suc j) x b h = take-element ys k j x (omega arith) h

  take-take : {A : Type 0} (xs : List A) (k j : ℕ) → j ≤ k → take j (take k xs) ≡ take j xs
  take-take [] zero zero h = refl
  take-take [] zero (suc j) h = absurd (omega arith)
  take-take [] (suc k) zero h = refl
  take-take [] (suc k) (suc j) h = refl
  take-take (y ∷ ys) zero zero h = refl
  take-take (y ∷ ys) zero (suc j) h = absurd (omega arith)
  take-take (y ∷ ys) (suc k) zero h = refl
  take-take (y ∷ ys) (suc k) (suc j) h = ap (λ r. y ∷ r) (take-take ys k j (omega arith))

  element-length : {A : Type 0} (xs : List A) (k : ℕ) (x : A) → ElementAt xs k x → k < length xs
  element-length [] k x h = absurd h
  element-length (y ∷ ys) zero x h = omega arith
  element-length (y ∷ ys) (suc k) x h = let b : k < length ys =
      element-length ys k x h in omega arith

  -- where the first refused instance stands
  record Refused (d p q : ℕ) (earlier rest : List Inst) : Type 0 where
    at : ℕ
    instance : Inst
    place : q ≡ p + at
    stands : ElementAt rest at instance
    refused : may_follow system d (earlier ++ take at rest) instance ≡ false
    before : (k : ℕ) (i : Inst) → k < at → ElementAt rest k i
        → may_follow system d (earlier ++ take k rest) i ≡ true

  refused_from-some : (d p q : ℕ) (earlier rest : List Inst)
      → refused_from system d p earlier rest ≡ Some q → Refused d p q earlier rest
  refused_from-some d p q earlier [] e = absurd (let f : None ≡ Some q = e in cc)
  refused_from-some d p q earlier (x ∷ rest) e =
      at (may_follow system d earlier x) refl e
      (λ f. refused_from-some d (suc p) q (earlier ++ x ∷ []) rest f)
    where
      at : (b : Bool) → may_follow system d earlier x ≡ b
          → (if b then refused_from system d (suc p) (earlier ++ x ∷ []) rest else Some p) ≡ Some q
          → (refused_from system d (suc p) (earlier ++ x ∷ []) rest ≡ Some q
          → Refused d (suc p) q (earlier ++ x ∷ []) rest) → Refused d p q earlier (x ∷ rest)
      at false m e later = record {
        at = 0;
        instance = x;
        place = let f : Some p ≡ Some q = e in let g : p ≡ q = cc in omega (arith, g);
        stands = refl;
        refused = rw append_nil m;
        before = λ k i b h. absurd (omega arith);
      }
      at true m e later =
          let r : Refused d (suc p) q (earlier ++ x ∷ []) rest = later e in
          record {
            at = suc r.at;
            instance = r.instance;
            place = omega (arith, r.place);
            stands = r.stands;
            refused =
                subst (λ z. may_follow system d z r.instance ≡ false)
                (append_one earlier (take r.at rest) x) r.refused;
            before = first r;
          }
        where
          first : (r : Refused d (suc p) q (earlier ++ x ∷ []) rest) → (k : ℕ) (i : Inst)
              → k < suc r.at → ElementAt (x ∷ rest) k i
              → may_follow system d (earlier ++ take k (x ∷ rest)) i ≡ true
          first r zero i b h = rw append_nil (ap (may_follow system d earlier) (sym h) ∙ m)
          first r (suc k) i b h =
              subst (λ z. may_follow system d z i ≡ true) (append_one earlier (take k rest) x)
              (r.before k i (omega arith) h)

  pub first_refused-some : (m : Model) (q : ℕ) → first_refused system m ≡ Some q
      → IsFirstRefused system m q
  first_refused-some m q e = at (m.indices == 0) refl e
    where
      zero_is : (n : ℕ) → (n == 0) ≡ true → n ≡ 0
      zero_is n h = eqb-true n 0 h

      positive : (n : ℕ) → (n == 0) ≡ false → 0 < n
      positive zero e = absurd (let f : true ≡ false = e in cc)
      positive (suc n) e = omega arith

      cut_is : (k : ℕ) → 0 < m.indices
          → ((j : ℕ) (i : Inst) → j < k → ElementAt m.list j i
          → may_follow system m.indices (take j m.list) i ≡ true) → IsTraceModel system (up_to k m)
      cut_is k d h = all-model (up_to k m) d
          (λ j i g. let r : (j < k) × ElementAt m.list j i = element-take m.list k j i g in
          subst (λ z. may_follow system m.indices z i ≡ true)
          (sym (take-take m.list k j (let b : j < k = r.0 in omega arith))) (h j i r.0 r.1))

      not_cut : (k : ℕ) (i : Inst) → ElementAt m.list k i
          → may_follow system m.indices (take k m.list) i ≡ false
          → IsTraceModel system (up_to (suc k) m) → ⊥
      not_cut k i h f M =
          let g : may_follow system m.indices (take k (take (suc k) m.list)) i ≡ true =
          model-all (up_to (suc k) m) M k i (take-element m.list (suc k) k i (omega arith) h) in
          let g' : may_follow system m.indices (take k m.list) i ≡ true =
          subst (λ z. may_follow system m.indices z i ≡ true)
          (take-take m.list (suc k) k (omega arith)) g in
          let c : false ≡ true = sym f ∙ g' in cc

      at : (b : Bool) → (m.indices == 0) ≡ b
          → (if b then Some 0 else refused_from system m.indices 1 [] m.list) ≡ Some q
          → IsFirstRefused system m q
      at true z e = let f : Some 0 ≡ Some q = e in let g : 0 ≡ q =
          cc in subst (IsFirstRefused system m) g (zero_is m.indices z)
      at false z e =
          let r : Refused m.indices 1 q [] m.list = refused_from-some m.indices 1 q [] m.list e in
          let g : suc r.at ≡ q = omega (arith, r.place) in
          subst (IsFirstRefused system m) g (
            element-length m.list r.at r.instance r.stands,
            cut_is r.at
                (positive m.indices z) r.before,
            not_cut r.at r.instance r.stands r.refused,
          )
