-- The names of binders differ from each other and from all other names.
use Rattle.std.proofs.Common.{◌≡◌, ◌≢◌, ◌<◌, ◌≤◌, ◌+◌, ℕ, zero, suc, Bool, true}
use Rattle.std.proofs.Common.{false, if◌then◌else◌, ◌||◌, List, [], ◌∷◌, ◌++◌, length, map, reverse}
use Rattle.std.proofs.Common.{Option}
use Rattle.std.proofs.Common.{Some, None, slice_get, refl, sym, ap, ◌∙◌, subst, arith}
use Rattle.std.proofs.Common.{length-append}
use Rattle.std.specs.Str.{bytes_eq}
use Rattle.std.proofs.lemmas.Bool.{false≢true}
use Rattle.std.proofs.lemmas.List.{map-append, reverse-append}
use Rattle.sq_base.specs.declared.sort.Sort.{Sort}
use Rattle.sq_token.specs.Kinds.{IsIdentifier}
use Rattle.sq_term.proofs.SameTrees.{is_same_sort-decides}
use Rattle.sq_typing.specs.Typing.{has_sort_at}
use Rattle.sq_print.specs.Names.{Names, is_used, names_count}
use Rattle.sq_sym.specs.Candidates.{candidate, candidate_count, among}
use Rattle.sq_print.specs.Names.{binder_name, stem}
use Rattle.sq_sym.proofs.Candidates.{differ, equal}
use Rattle.sq_print.proofs.FreeNames.{binder_free}
use Rattle.sq_resolve.specs.Scopes.{Variable, last_from, last_of}
use Rattle.sq_readback.proofs.Standing.{Bound, StandAround}

-- ---- places of names

last_pushed : (k : ℕ) (best : Option (ℕ × Sort)) (x : List ℕ) (bs : List Variable) (v : Variable)
    → last_from k best x (bs ++ v ∷ [])
    ≡ (if bytes_eq x v.0 then Some (k + length bs, v.1) else last_from k best x bs)
last_pushed k best x [] v = let e : k ≡ k + 0 =
    omega arith in ap (λ n. (if bytes_eq x v.0 then Some (n, v.1) else best)) e
last_pushed k best x (b ∷ bs) v =
    let e : k + 1 + length bs ≡ k + suc (length bs) = omega arith in
    let rest = (if bytes_eq x b.0 then Some (k, b.1) else best) in
    last_pushed (k + 1) rest x bs v
    ∙ ap (λ n. (if bytes_eq x v.0 then Some (n, v.1) else last_from (k + 1) rest x bs)) e

last_none : (k : ℕ) (x : List ℕ) (bs : List Variable) → among x (map (λ v. v.0) bs) ≡ false
    → last_from k None x bs ≡ None
last_none k x [] e = refl
last_none k x (b ∷ bs) e = by (bytes_eq x b.0) e (λ h. last_none (k + 1) x bs h)
  where
    by : (t : Bool) → (t || among x (map (λ v. v.0) bs)) ≡ false
        → (among x (map (λ v. v.0) bs) ≡ false → last_from (k + 1) None x bs ≡ None)
        → last_from (k + 1) (if t then Some (k, b.1) else None) x bs ≡ None
    by true h rest = cc
    by false h rest = rest h

names_pushed : (bs : List Variable) (v : Variable) → reverse (map (λ w. w.0) (bs ++ v ∷ []))
    ≡ v.0 ∷ reverse (map (λ w. w.0) bs)
names_pushed bs v = ap reverse (map-append (λ w. w.0) bs (v ∷ []))
    ∙ reverse-append (map (λ w. w.0) bs) (v.0 ∷ [])

-- ---- one binder more

pub record IsFresh (ns : Names) (bs : List Variable) (x : List ℕ) : Type 0 where
  pub identifier : IsIdentifier x
  pub unused : is_used ns x ≡ false
  pub apart : last_of x bs ≡ None

pub none_around : (ns : Names) → StandAround ns [] []
none_around ns = record { inner = λ k s h. absurd (false≢true h); unused = λ x h. refl }

pub one_around : (ns : Names) (bs : List Variable) (ss : List Sort) (x : List ℕ) (s : Sort)
    → StandAround ns bs ss → IsFresh ns bs x → StandAround ns (bs ++ (x, s) ∷ []) (s ∷ ss)
one_around ns bs ss x s st fresh = record { inner = inner; unused = unused }
  where
    other : (y : List ℕ) → y ≢ x → last_of y (bs ++ (x, s) ∷ []) ≡ last_of y bs
    other y ne =
        last_pushed 0 None y bs (x, s)
        ∙ ap (λ b. (if b then Some (0 + length bs, s) else last_of y bs)) (differ y x ne)

    inner : (k : ℕ) (r : Sort) → has_sort_at (s ∷ ss) k r ≡ true → Bound (bs ++ (x, s) ∷ []) k r
    inner zero r h =
        let same : s ≡ r = (is_same_sort-decides s r).0 h in
        let here = ap (λ l. slice_get l 0) (names_pushed bs (x, s)) in
        let from_zero : 0 + length bs ≡ length bs = omega arith in
        let last =
        last_pushed 0 None x bs (x, s)
        ∙ ap (λ b. (if b then Some (0 + length bs, s) else last_of x bs)) (equal x x refl) in
        record {
          x = x;
          place = length bs;
          there = here;
          identifier = fresh.identifier;
          last = last ∙ (λ i. Some (from_zero i, same i));
          from_inside = sym (length-append bs ((x, s) ∷ []));
        }
    inner (suc k) r h =
        let b = st.inner k r h in
        let none = fresh.apart in
        let known = b.last in
        let ne : b.x ≢ x = λ e. let clash : last_of x bs ≡ Some (b.place, r) =
        ap (λ y. last_of y bs) (sym e) ∙ known in cc in
        let long = length-append bs ((x, s) ∷ []) in
        record {
          x = b.x;
          place = b.place;
          there = ap (λ l. slice_get l (suc k)) (names_pushed bs (x, s)) ∙ b.there;
          identifier = b.identifier;
          last = other b.x ne ∙ b.last;
          from_inside = let p = b.from_inside in omega arith;
        }

    unused : (y : List ℕ) → is_used ns y ≡ true → last_of y (bs ++ (x, s) ∷ []) ≡ None
    unused y h = other y (λ e. false≢true (sym fresh.unused ∙ (ap (is_used ns) (sym e) ∙ h)))
        ∙ st.unused y h

-- the name of the next binder is fresh
pub next_fresh : (ns : Names) (bs : List Variable) (s : Sort)
    → names_count ns (map (λ v. v.0) bs) + 1 ≤ candidate_count
    → ((k : ℕ) → k < candidate_count → IsIdentifier (candidate (stem s) k))
    → IsFresh ns bs (binder_name ns (map (λ v. v.0) bs) s)
next_fresh ns bs s w named =
    let around = map (λ v. v.0) bs in
    let first = binder_free ns around s w in
    let free : (is_used ns (binder_name ns around s) || among (binder_name ns around s) around)
    ≡ false = ap (λ x. is_used ns x || among x around) first.is ∙ first.free in
    record {
      identifier =
          subst IsIdentifier (sym first.is) (named first.k (let le = first.within in omega arith));
      unused = left_false _ _ free;
      apart = last_none 0 (binder_name ns around s) bs (right_false _ _ free);
    }
  where
    left_false : (a b : Bool) → (a || b) ≡ false → a ≡ false
    left_false false b e = refl
    left_false true b e = cc

    right_false : (a b : Bool) → (a || b) ≡ false → b ≡ false
    right_false false b e = e
    right_false true b e = cc
