-- What an action's body reads in a trace stands no later than its instance.
use Rattle.std.proofs.Common.{◌≡◌, refl, sym, ap, ◌∙◌, subst, ℕ, zero, suc, ◌+◌, ◌<◌, ◌≤◌, List, []}
use Rattle.std.proofs.Common.{◌∷◌, ◌++◌, length, map, take, Bool, true, false, arith}
use Rattle.std.specs.Prelude.{Option, Some, None, get_or, slice_get, IfSome, ◌||◌, ◌==◌, nat_lt}
use Rattle.std.specs.Prelude.{if◌then◌else◌}
use Rattle.std.specs.List.{list_any}
use Rattle.std.proofs.lemmas.Bool.{eqb-true}
use Rattle.sq_term.specs.declared.term.Idx.TheVariants.{Free}
use Rattle.sq_term.specs.declared.term.Macro.{Macro}
use Rattle.sq_term.specs.Macros.{word}
use Rattle.sq_term.specs.declared.model.Inst.{Inst}
use Rattle.sq_term.specs.declared.model.Model.{Model}
use Rattle.sq_term.specs.declared.model.Value.{Value}
use Rattle.sq_term.specs.declared.model.Value.TheVariants.{Index as Number, Time as Moment}
use Rattle.sq_term.specs.Lists.{Member, here, there, ElementAt, same_numbers, count}
use Rattle.sq_term.specs.Syntax.{TsTree, TermTree, name, fun, macro, schema, diff, le, ts_eq}
use Rattle.sq_term.specs.Syntax.{idx_eq, happens, all, some, find, TermTrees, nil, cons}
use Rattle.sq_term.specs.Systems.{ActionTree, no_action, SystemTree, action_at}
use Rattle.sq_term.specs.Translate.{idx_value, idx_values, ts_value, number_of}
use Rattle.sq_term.specs.Models.{is_instance, stands_in, place_from, times_of, is_instance_below}
use Rattle.sq_term.specs.Models.{parent_stands_in, IsTraceModel}
use Rattle.sq_term.specs.Records.{own_indices}
use Rattle.sq_term.specs.Reads.{AllAtMacros, IsNoLater, IsEarlyInput, ReadsUpTo}
use Rattle.sq_term.proofs.BoolTests.{and_split, same_numbers-true}
use Rattle.sq_term.proofs.Members.{element-member}
use Rattle.sq_term.proofs.Models.{member-earlier, is_instance_itself}
use Rattle.sq_system.specs.Facts.{OnLine, itself, before, first_indices, IsOwnInput, IsBody}
use Rattle.sq_system.specs.Facts.{AreBodies, IsParent, IsSystem}

-- the first n own indices of an instance
own_index : (xs : List ℕ) (bs : List Value) (k : ℕ) (is : List ℕ)
    → number_of (get_or (map Number is) k (Moment None)) ≡ get_or is k 0
own_index xs bs k [] = refl
own_index xs bs zero (i ∷ is) = refl
own_index xs bs (suc k) (i ∷ is) = own_index xs bs k is

first_of : (i : Inst) (bs : List Value) (k n : ℕ) (front rest : List ℕ) → i.idx ≡ front ++ rest
    → length front ≡ k → n ≤ length rest → idx_values (own_indices i) bs (map Free (count k n))
    ≡ take n rest
first_of i bs k zero front rest e l h = refl
first_of i bs k (suc n) front [] e l h = absurd (omega arith)
first_of i bs k (suc n) front (x ∷ rest) e l h =
    let at : idx_value (own_indices i) bs (Free k) ≡ x =
    own_index i.idx bs k i.idx
    ∙ (ap (λ ys. get_or ys k 0) e
    ∙ subst (λ q. get_or (front ++ x ∷ rest) q 0 ≡ x) l (at_end front)) in
    let later : idx_values (own_indices i) bs (map Free (count (suc k) n)) ≡ take n rest =
    first_of i bs (suc k) n (front ++ x ∷ []) rest (e ∙ moved front) (longer front l)
    (omega arith) in
    cc
  where
    at_end : (ys : List ℕ) → get_or (ys ++ x ∷ rest) (length ys) 0 ≡ x
    at_end [] = refl
    at_end (y ∷ ys) = at_end ys

    moved : (ys : List ℕ) → ys ++ x ∷ rest ≡ (ys ++ x ∷ []) ++ rest
    moved [] = refl
    moved (y ∷ ys) = ap (λ r. y ∷ r) (moved ys)

    longer : (ys : List ℕ) → {q : ℕ} → length ys ≡ q → length (ys ++ x ∷ []) ≡ suc q
    longer [] e = ap suc e
    longer (y ∷ ys) e = ap suc (longer ys refl) ∙ ap suc e

pub first_indices-value : (i : Inst) (bs : List Value) (n : ℕ) → n ≤ length i.idx
    → idx_values (own_indices i) bs (first_indices n) ≡ take n i.idx
first_indices-value i bs n h = first_of i bs 0 n [] i.idx refl refl h

-- an instance stands no later than where it is found
pub place_from-no_later : (list : List Inst) (p j : ℕ) (i : Inst) (n : ℕ) (is : List ℕ) (r : ℕ)
    → ElementAt list j i → is_instance n is i ≡ true → place_from p list n is ≡ Some r → r ≤ p + j
place_from-no_later [] p j i n is r el h e = absurd el
place_from-no_later (x ∷ list) p zero i n is r el h e =
    let f : is_instance n is x ≡ true = subst (λ z. is_instance n is z ≡ true) (sym el) h in
    let g : Some p ≡ Some r =
    ap (λ b. if b then Some p else place_from (suc p) list n is) (sym f) ∙ e in
    let k : p ≡ r = cc in omega arith
place_from-no_later (x ∷ list) p (suc j) i n is r el h e =
    at (is_instance n is x) e (λ f. place_from-no_later list (suc p) j i n is r el h f)
  where
    at : (b : Bool) → (if b then Some p else place_from (suc p) list n is) ≡ Some r
        → (place_from (suc p) list n is ≡ Some r → r ≤ suc p + j) → r ≤ p + suc j
    at true e later = let g : p ≡ r = (let f : Some p ≡ Some r = e in cc) in omega arith
    at false e later = let b : r ≤ suc p + j = later e in omega arith

action_at-slice : (xs : List ActionTree) (n : ℕ) (a : ActionTree) → slice_get xs n ≡ Some a
    → get_or xs n no_action ≡ a
action_at-slice [] n a e = absurd (let f : None ≡ Some a = e in cc)
action_at-slice (x ∷ xs) zero a e = let f : Some x ≡ Some a = e in cc
action_at-slice (x ∷ xs) (suc n) a e = action_at-slice xs n a e

found-any : {A : Type 0} (test : A → Bool) (xs : List A) → list_any test xs ≡ true
    → (x : A) × Member xs x × (test x ≡ true)
found-any test [] e = absurd (let f : false ≡ true = e in cc)
found-any {A} test (x ∷ xs) e = at (test x) refl e (λ f. found-any test xs f)
  where
    at : (b : Bool) → test x ≡ b → (b || list_any test xs) ≡ true
        → (list_any test xs ≡ true → (y : A) × Member xs y × (test y ≡ true))
        → (y : A) × Member (x ∷ xs) y × (test y ≡ true)
    at true t e later = (x, here, t)
    at false t e later = let r : (y : A) × Member xs y × (test y ≡ true) =
        later e in (r.0, there r.1, r.2)

take-all : (xs : List ℕ) (n : ℕ) → length xs ≤ n → take n xs ≡ xs
take-all [] zero h = refl
take-all [] (suc n) h = refl
take-all (x ∷ xs) zero h = absurd (omega arith)
take-all (x ∷ xs) (suc n) h = ap (λ r. x ∷ r) (take-all xs n (omega arith))

take-take : (xs : List ℕ) (k j : ℕ) → j ≤ k → take j (take k xs) ≡ take j xs
take-take [] zero zero h = refl
take-take [] zero (suc j) h = absurd (omega arith)
take-take [] (suc k) zero h = refl
take-take [] (suc k) (suc j) h = refl
take-take (y ∷ ys) zero zero h = refl
take-take (y ∷ ys) zero (suc j) h = absurd (omega arith)
take-take (y ∷ ys) (suc k) zero h = refl
take-take (y ∷ ys) (suc k) (suc j) h = ap (λ r. y ∷ r) (take-take ys k j (omega arith))

module _ (s : SystemTree) (facts : IsSystem s) (m : Model) (M : IsTraceModel s m) where
  parent_of : (k n : ℕ) (x : ActionTree) (p : ℕ) → x.parent ≡ Some p
      → IfSome x.parent (IsParent s k n) → IsParent s k n p
  parent_of k n x p e h = subst (λ o. IfSome o (IsParent s k n)) e h

  parent_is : (k : ℕ) (x z : ActionTree) (p : ℕ) → slice_get s.actions k ≡ Some x
      → slice_get s.actions k ≡ Some z → z.parent ≡ Some p → IsParent s k x.arity p
  parent_is k x z p e g h = let f : Some z ≡ Some x = sym g ∙ e in let same : z ≡ x =
      cc in parent_of k x.arity x p (subst (λ w. w.parent ≡ Some p) same h) (facts k x e).parent_is

  -- an action has no fewer indices than those before it on its line
  line_arity : (k at : ℕ) (x y : ActionTree) → slice_get s.actions k ≡ Some x
      → slice_get s.actions at ≡ Some y → OnLine s k at → y.arity ≤ x.arity
  line_arity k at x y e f itself = let g : Some x ≡ Some y = sym e ∙ f in let h : x ≡ y =
      cc in subst (λ z. z.arity ≤ x.arity) h (omega arith)
  line_arity k at x y e f (before {p = p} {x = z} g h l) =
      let q : IsParent s k x.arity p = parent_is k x z p e g h in
      let r : y.arity ≤ q.there.arity = line_arity p at q.there y q.there_is f l in
      let t : q.there.arity ≤ x.arity = q.fewer in
      omega arith

  -- an instance has as many indices as its action
  idx_length : (k j : ℕ) (x : ActionTree) (i : Inst) → slice_get s.actions k ≡ Some x
      → ElementAt m.list j i → i.act ≡ k → length i.idx ≡ x.arity
  idx_length k j x i e el act =
      let b : is_instance_below s m.indices i ≡ true =
      M.instances i (element-member m.list j i el) in
      let t : ((length i.idx == (action_at s i.act).arity) ≡ true) × _ =
      and_split (length i.idx == (action_at s i.act).arity) _
      (and_split (nat_lt i.act (length s.actions)) _ b).1 in
      eqb-true _ _ t.0 ∙ ap (λ a. a.arity) (ap (action_at s) act ∙ action_at-slice s.actions k x e)

  -- the parent's instance stands earlier
  parent_instance : (k j p : ℕ) (x there' : ActionTree) (i : Inst) → slice_get s.actions k ≡ Some x
      → x.parent ≡ Some p → slice_get s.actions p ≡ Some there' → ElementAt m.list j i → i.act ≡ k
      → (q : ℕ) × (i' : Inst) × (q < j) × ElementAt m.list q i' × (i'.act ≡ p)
      × (i'.idx ≡ take there'.arity i.idx)
  parent_instance k j p x there' i e par te el act =
      let a : action_at s i.act ≡ x = ap (action_at s) act ∙ action_at-slice s.actions k x e in
      let f : parent_stands_in s (take j m.list) x.parent i.idx ≡ true =
      subst (λ z. parent_stands_in s (take j m.list) z.parent i.idx ≡ true) a
      (M.after_parents j i el) in
      let g : parent_stands_in s (take j m.list) (Some p) i.idx ≡ true =
      subst (λ o. parent_stands_in s (take j m.list) o i.idx ≡ true) par f in
      let h : stands_in (take j m.list) p (take there'.arity i.idx) ≡ true =
      subst (λ z. stands_in (take j m.list) p (take z.arity i.idx) ≡ true)
      (action_at-slice s.actions p there' te) g in
      let r : (y : Inst) × Member (take j m.list) y
      × (is_instance p (take there'.arity i.idx) y ≡ true) =
      found-any (is_instance p (take there'.arity i.idx)) (take j m.list) h in
      let w : (q : ℕ) × (q < j) × ElementAt m.list q r.0 = member-earlier m.list j r.0 r.1 in
      let t : ((p == r.0.act) ≡ true) × (same_numbers (take there'.arity i.idx) r.0.idx ≡ true) =
      and_split (p == r.0.act) _ r.2 in
      (w.0, r.0, w.1, w.2, sym (eqb-true p r.0.act t.0), sym (same_numbers-true _ _ t.1))

  -- an instance of an action before it on its line stands no later
  on_line-no_later : (k at : ℕ) (x y : ActionTree) → slice_get s.actions k ≡ Some x
      → slice_get s.actions at ≡ Some y → OnLine s k at
      → (j : ℕ) (i : Inst) → ElementAt m.list j i → i.act ≡ k → (r : ℕ)
      → place_from 1 m.list at (take y.arity i.idx) ≡ Some r → r ≤ suc j
  on_line-no_later k at x y e f itself j i el act r pl =
      let len : length i.idx ≡ y.arity = idx_length k j y i f el act in
      let whole : take y.arity i.idx ≡ i.idx = take-all i.idx y.arity (omega (arith, len)) in
      let own : is_instance k (take y.arity i.idx) i ≡ true =
      subst (λ js. is_instance k js i ≡ true) (sym whole)
      (subst (λ n. is_instance n i.idx i ≡ true) act (is_instance_itself i)) in
      let b : r ≤ 1 + j = place_from-no_later m.list 1 j i k (take y.arity i.idx) r el own pl in
      omega arith
  on_line-no_later k at x y e f (before {p = p} {x = z} g h l) j i el act r pl =
      let q : IsParent s k x.arity p = parent_is k x z p e g h in
      let same : z ≡ x = (let t : Some z ≡ Some x = sym g ∙ e in cc) in
      let par : x.parent ≡ Some p = subst (λ w. w.parent ≡ Some p) same h in
      let v : (n : ℕ) × (i' : Inst) × (n < j) × ElementAt m.list n i' × (i'.act ≡ p)
      × (i'.idx ≡ take q.there.arity i.idx) =
      parent_instance k j p x q.there i e par q.there_is el act in
      let fewer : y.arity ≤ q.there.arity = line_arity p at q.there y q.there_is f l in
      let cut : take y.arity v.1.idx ≡ take y.arity i.idx =
      ap (take y.arity) v.5 ∙ take-take i.idx q.there.arity y.arity fewer in
      let b : r ≤ suc v.0 =
      on_line-no_later p at q.there y q.there_is f l v.0 v.1 v.3 v.4 r
      (ap (place_from 1 m.list at) cut ∙ pl) in
      let c : v.0 < j = v.2 in
      omega arith

  module _ (k j : ℕ) (x : ActionTree) (i : Inst) (e : slice_get s.actions k ≡ Some x)
      (el : ElementAt m.list j i) (act : i.act ≡ k) where
    input_no_later : (bs : List Value) (r : Macro) (t : TsTree) → IsOwnInput s k r t
        → IsEarlyInput (times_of m) (own_indices i) (suc j) bs r t
    input_no_later bs r t h = (
      ap word h.read_is,
      subst
          (λ u. IsNoLater (suc j) (ts_value (times_of m) (own_indices i) bs u)) (sym h.time_is)
          (at
          (place_from 1 m.list h.at (idx_values (own_indices i) bs (first_indices h.there.arity)))
          refl),
    )
      where
        fewer : h.there.arity ≤ length i.idx
        fewer =
            let a : h.there.arity ≤ x.arity =
            line_arity k h.at x h.there e h.there_is h.on_line in
            let b : length i.idx ≡ x.arity = idx_length k j x i e el act in omega arith

        at : (o : Option ℕ)
            → place_from 1 m.list h.at (idx_values (own_indices i) bs (first_indices h.there.arity))
            ≡ o → IsNoLater (suc j) o
        at None p = tt
        at (Some q) p =
            on_line-no_later k h.at x h.there e h.there_is h.on_line j i el act q
            (ap (place_from 1 m.list h.at) (sym (first_indices-value i bs h.there.arity fewer)) ∙ p)

    mutual
      pub body_reads : (n : ℕ) (t : TermTree) (bs : List Value) → IsBody s k n t
          → ReadsUpTo (times_of m) (own_indices i) (suc j) bs t
      body_reads n (name c is) bs h = tt
      body_reads n (fun f is ts) bs h = bodies_read n ts bs h.1
      body_reads n (macro r t) bs h = input_no_later bs r t h
      body_reads n (schema c) bs h = absurd h
      body_reads n (diff a b) bs h = (body_reads n a bs h.0, body_reads n b bs h.1)
      body_reads n (le a b) bs h = absurd h
      body_reads n (ts_eq a b) bs h = absurd h
      body_reads n (idx_eq a b) bs h = tt
      body_reads n (happens t) bs h = absurd h
      body_reads n (all c t) bs h = λ v w. body_reads n t (v ∷ bs) h
      body_reads n (some c t) bs h = λ v w. body_reads n t (v ∷ bs) h
      body_reads n (find c t a b) bs h =
          (λ vs w. (body_reads n t vs h.0, body_reads n a vs h.1), body_reads n b bs h.2)

      pub bodies_read : (n : ℕ) (ts : TermTrees) (bs : List Value) → AreBodies s k n ts
          → AllAtMacros (times_of m) (IsEarlyInput (times_of m) (own_indices i) (suc j)) bs ts
      bodies_read n nil bs h = tt
      bodies_read n (cons t ts) bs h = (body_reads n t bs h.0, bodies_read n ts bs h.1)
