-- One law of the walk: where each thing that is put in has the value of what it stands for, the
-- term keeps its meaning.
use Rattle.std.proofs.Common.{◌≡◌, refl, sym, ap, ◌∙◌, subst, ℕ, zero, suc, ◌+◌, List, [], ◌∷◌}
use Rattle.std.proofs.Common.{◌++◌, length, map, flat_map, get_or, Bool, true, false, ◌&&◌}
use Rattle.std.proofs.Common.{Option, Some, None, not, arith}
use Rattle.std.specs.Prelude.{unwrap_or, if◌then◌else◌}
use Rattle.sq_base.specs.declared.sort.Sort.TheVariants.{Index}
use Rattle.sq_term.specs.declared.term.Idx.{Idx}
use Rattle.sq_term.specs.declared.term.Side.{Side}
use Rattle.sq_term.specs.declared.term.Side.TheVariants.{Left, Right, Both}
use Rattle.sq_term.specs.declared.model.Value.{Value}
use Rattle.sq_term.specs.declared.model.Value.TheVariants.{Time as Moment}
use Rattle.sq_term.specs.Lists.{Each, fold_right}
use Rattle.sq_term.proofs.Lists.{fold_same}
use Rattle.sq_term.proofs.Members.{each-flat_map, each_single}
use Rattle.sq_term.specs.Syntax.{TsTree, free, bound, init, pred, action, TermTree, name, fun}
use Rattle.sq_term.specs.Syntax.{macro, schema, diff, le, ts_eq, idx_eq, happens, all, some, find}
use Rattle.sq_term.specs.Syntax.{TermTrees, nil, cons}
use Rattle.sq_term.specs.Ground.{Ground, named, atom}
use Rattle.sq_term.specs.GroundFormulas.{conditional, truth_of, conj, disj_of_all}
use Rattle.sq_term.specs.Translate.{World, Times, Assignment, time_of, before}
use Rattle.sq_term.specs.Translate.{is_position, idx_value, idx_values, macro_value, ts_value}
use Rattle.sq_term.specs.Translate.{domain, choices, translate, translate_all}
use Rattle.sq_subst.specs.Leaves.{Leaves, on_side, ts_below, map_ts, term_below, map_term}
use Rattle.sq_subst.specs.Leaves.{map_terms}
use Rattle.sq_subst.specs.Laws.{is_read_on}
use Rattle.sq_subst.specs.Tests.{Tests, indices_pass, ts_passes, passes, all_pass}

-- ---- lists

pub map_same : {A B : Type 0} (f g : A → B) (xs : List A) → ((x : A) → f x ≡ g x)
    → map f xs ≡ map g xs
map_same f g [] h = refl
map_same f g (x ∷ xs) h = cc (h x, map_same f g xs h)

map-append : {A B : Type 0} (f : A → B) (xs ys : List A) → map f (xs ++ ys) ≡ map f xs ++ map f ys
map-append f [] ys = refl
map-append f (x ∷ xs) ys = ap (λ zs. f x ∷ zs) (map-append f xs ys)

map-flat_map : {A B C : Type 0} (f : B → C) (g : A → List B) (xs : List A)
    → map f (flat_map g xs) ≡ flat_map (λ x. map f (g x)) xs
map-flat_map f g [] = refl
map-flat_map f g (x ∷ xs) =
    map-append f (g x) (flat_map g xs) ∙ ap (λ zs. map f (g x) ++ zs) (map-flat_map f g xs)

flat_map_same : {A B : Type 0} (f g : A → List B) (xs : List A) → ((x : A) → f x ≡ g x)
    → flat_map f xs ≡ flat_map g xs
flat_map_same f g [] h = refl
flat_map_same f g (x ∷ xs) h = cc (h x, flat_map_same f g xs h)

fold-map : {A B C : Type 0} (h : A → B) (G : B → C → C) (xs : List A) (b : C)
    → fold_right G b (map h xs) ≡ fold_right (λ x r. G (h x) r) b xs
fold-map h G [] b = refl
fold-map h G (x ∷ xs) b = ap (G (h x)) (fold-map h G xs b)

-- ---- the choices of a find

-- each before the values of the binders around
choices_around : (w : Times) (c : ℕ) (xs bs : List Value)
    → choices w c (xs ++ bs) ≡ map (λ es. es ++ bs) (choices w c xs)
choices_around w zero xs bs = refl
choices_around w (suc c) xs bs =
    flat_map_same (λ x. choices w c ((x ∷ xs) ++ bs))
    (λ x. map (λ es. es ++ bs) (choices w c (x ∷ xs))) (domain w Index)
    (λ x. choices_around w c (x ∷ xs) bs)
    ∙ sym (map-flat_map (λ es. es ++ bs) (λ x. choices w c (x ∷ xs)) (domain w Index))

choices_long : (w : Times) (c : ℕ) (xs : List Value)
    → Each (λ es. length es ≡ c + length xs) (choices w c xs)
choices_long w zero xs = each_single xs (λ es. length es ≡ 0 + length xs) (omega arith)
choices_long w (suc c) xs =
    each-flat_map (λ x. choices w c (x ∷ xs)) (domain w Index) (λ es. length es ≡ suc c + length xs)
    (λ x i es j. choices_long w c (x ∷ xs) es j ∙ omega arith)

-- a find over the choices at bs, by those alone
find_at : (w : Times) (c : ℕ) (bs : List Value) (F : List Value → Ground → Ground) (b : Ground)
    → fold_right F b (choices w c bs) ≡ fold_right (λ es r. F (es ++ bs) r) b (choices w c [])
find_at w c bs F b = ap (fold_right F b) (choices_around w c [] bs)
    ∙ fold-map (λ es. es ++ bs) F (choices w c []) b

pub find_law : (w : Times) (c : ℕ) (bs cs : List Value) (F G : List Value → Ground → Ground)
    (b d : Ground)
    → ((es : List Value) → length es ≡ c → (r : Ground) → F (es ++ bs) r ≡ G (es ++ cs) r) → b ≡ d
    → fold_right F b (choices w c bs) ≡ fold_right G d (choices w c cs)
find_law w c bs cs F G b d h e =
    find_at w c bs F b
    ∙ (fold_same (λ es r. F (es ++ bs) r) (λ es r. G (es ++ cs) r) (choices w c [])
    (λ es i r. h es (choices_long w c [] es i ∙ omega arith) r) b
    ∙ (ap (λ x. fold_right (λ es r. G (es ++ cs) r) x (choices w c [])) e
    ∙ sym (find_at w c cs G d)))

-- ---- tests

pub first_of_both : (p q : Bool) → (p && q) ≡ true → p ≡ true
first_of_both true q h = refl
first_of_both false q h = h

pub second_of_both : (p q : Bool) → (p && q) ≡ true → q ≡ true
second_of_both true q h = h
second_of_both false q h = cc

-- ---- the law

-- on the side that is read, what stays of a difference means what the difference does
stays : (w : World) (c : Assignment) (cs : List Value) (s : Side) (t u : Ground) (x y : TermTree)
    → is_read_on s w ≡ true → t ≡ translate w c cs x → u ≡ translate w c cs y
    → (if w.left then t else u) ≡ translate w c cs (on_side s x y)
stays w c cs Left t u x y e f g = ap (λ b. if b then t else u) e ∙ f
stays w c cs Right t u x y e f g = ap (λ b. if b then t else u) (is_right w.left e) ∙ g
  where
    is_right : (b : Bool) → not b ≡ true → b ≡ false
    is_right true h = cc
    is_right false h = refl
stays w c cs Both t u x y e f g = cc (f, g)

module _ (L : Leaves) (P : Tests) (w : World) (a c : Assignment)
    (Rel : ℕ → List Value → List Value → Type 0)
    (push : (m : ℕ) (bs cs : List Value) (x : Value) → Rel m bs cs → Rel (m + 1) (x ∷ bs) (x ∷ cs))
    (index : (m : ℕ) (bs cs : List Value) (i : Idx) → Rel m bs cs → P.index m i ≡ true
    → idx_value a bs i ≡ idx_value c cs (L.index m i))
    (free_time : (m : ℕ) (bs cs : List Value) (k : ℕ) → Rel m bs cs → P.free_time m k ≡ true
    → time_of (get_or a.variables k (Moment None)) ≡ ts_value w.times c cs (L.free_time m k))
    (bound_time : (m : ℕ) (bs cs : List Value) (k : ℕ) → Rel m bs cs → P.bound_time m k ≡ true
    → time_of (get_or bs k (Moment None)) ≡ ts_value w.times c cs (L.bound_time m k))
    (message : (m : ℕ) (bs cs : List Value) (k : ℕ) → Rel m bs cs → P.message m k ≡ true
    → get_or a.schemas k (atom k) ≡ translate w c cs (L.message m k))
    (time : (m : ℕ) (bs cs : List Value) (t u : TsTree) → Rel m bs cs → ts_passes P m t ≡ true
    → L.time t ≡ Some u → ts_value w.times a bs t ≡ ts_value w.times c cs u)
    (term : (m : ℕ) (bs cs : List Value) (t u : TermTree) → Rel m bs cs → passes P m t ≡ true
    → L.term t ≡ Some u → translate w a bs t ≡ translate w c cs u)
    (side : is_read_on L.side w ≡ true) where
  push_all : (es : List Value) (m : ℕ) (bs cs : List Value) → Rel m bs cs
      → Rel (m + length es) (es ++ bs) (es ++ cs)
  push_all [] m bs cs r = subst (λ k. Rel k bs cs) (omega arith) r
  push_all (e ∷ es) m bs cs r =
      subst (λ k. Rel k (e ∷ (es ++ bs)) (e ∷ (es ++ cs))) (omega arith)
      (push (m + length es) (es ++ bs) (es ++ cs) e (push_all es m bs cs r))

  indices_law : (m : ℕ) (bs cs : List Value) (is : List Idx) → Rel m bs cs
      → indices_pass P m is ≡ true → idx_values a bs is ≡ idx_values c cs (map (L.index m) is)
  indices_law m bs cs [] r h = refl
  indices_law m bs cs (i ∷ is) r h =
      let first = index m bs cs i r (first_of_both _ _ h) in
      cc (first, indices_law m bs cs is r (second_of_both (P.index m i) _ h))

  -- what is put in the place of the whole, and what stands below
  ts_put : (m : ℕ) (bs cs : List Value) (t : TsTree) (o : Option TsTree) → Rel m bs cs
      → ts_passes P m t ≡ true → L.time t ≡ o
      → ts_value w.times a bs t ≡ ts_value w.times c cs (ts_below L m t)
      → ts_value w.times a bs t ≡ ts_value w.times c cs (unwrap_or o (ts_below L m t))
  ts_put m bs cs t (Some u) r h e f = time m bs cs t u r h e
  ts_put m bs cs t None r h e f = f

  ts_below_law : (m : ℕ) (bs cs : List Value) (t : TsTree) → Rel m bs cs → ts_passes P m t ≡ true
      → ts_value w.times a bs t ≡ ts_value w.times c cs (ts_below L m t)
  ts_below_law m bs cs (free k) r h = free_time m bs cs k r h
  ts_below_law m bs cs (bound k) r h = bound_time m bs cs k r h
  ts_below_law m bs cs init r h = refl
  ts_below_law m bs cs (pred t) r h =
      ap before (ts_put m bs cs t (L.time t) r h refl (ts_below_law m bs cs t r h))
  ts_below_law m bs cs (action n is) r h = ap (w.times.place n) (indices_law m bs cs is r h)

  pub ts_law : (m : ℕ) (bs cs : List Value) (t : TsTree) → Rel m bs cs → ts_passes P m t ≡ true
      → ts_value w.times a bs t ≡ ts_value w.times c cs (map_ts L m t)
  ts_law m bs cs t r h = ts_put m bs cs t (L.time t) r h refl (ts_below_law m bs cs t r h)

  term_put : (m : ℕ) (bs cs : List Value) (t : TermTree) (o : Option TermTree) → Rel m bs cs
      → passes P m t ≡ true → L.term t ≡ o
      → translate w a bs t ≡ translate w c cs (term_below L m t)
      → translate w a bs t ≡ translate w c cs (unwrap_or o (term_below L m t))
  term_put m bs cs t (Some u) r h e f = term m bs cs t u r h e
  term_put m bs cs t None r h e f = f

  -- a part of a term from what holds of it where nothing stands in its place
  part : (m : ℕ) (bs cs : List Value) (t : TermTree) → Rel m bs cs → passes P m t ≡ true
      → translate w a bs t ≡ translate w c cs (term_below L m t)
      → translate w a bs t ≡ translate w c cs (map_term L m t)
  part m bs cs t r h f = term_put m bs cs t (L.term t) r h refl f

  both_times : (m : ℕ) (bs cs : List Value) (t s : TsTree) → Rel m bs cs
      → (ts_passes P m t && ts_passes P m s) ≡ true
      → (ts_value w.times a bs t ≡ ts_value w.times c cs (map_ts L m t))
      × (ts_value w.times a bs s ≡ ts_value w.times c cs (map_ts L m s))
  both_times m bs cs t s r h = (
    ts_law m bs cs t r (first_of_both _ _ h),
    ts_law m bs cs s r (second_of_both (ts_passes P m t) _ h),
  )

  mutual
    below_law : (t : TermTree) (m : ℕ) (bs cs : List Value) → Rel m bs cs → passes P m t ≡ true
        → translate w a bs t ≡ translate w c cs (term_below L m t)
    below_law (name n is) m bs cs r h = ap (named n) (indices_law m bs cs is r h)
    below_law (fun f is ts) m bs cs r h =
        let of_indices = indices_law m bs cs is r (first_of_both _ _ h) in
        cc (of_indices, all_leaves_law ts m bs cs r (second_of_both (indices_pass P m is) _ h))
    below_law (macro x t) m bs cs r h = ap (w.values (macro_value a bs x)) (ts_law m bs cs t r h)
    below_law (schema k) m bs cs r h = message m bs cs k r h
    below_law (diff x y) m bs cs r h =
        let p = first_of_both (passes P m x) (passes P m y) h in
        let q = second_of_both (passes P m x) (passes P m y) h in
        stays w c cs L.side (translate w a bs x) (translate w a bs y) (map_term L m x)
        (map_term L m y) side
        (part m bs cs x r p (below_law x m bs cs r p))
        (part m bs cs y r q (below_law y m bs cs r q))
    below_law (le t s) m bs cs r h = let e = both_times m bs cs t s r h in cc (e.0, e.1)
    below_law (ts_eq t s) m bs cs r h = let e = both_times m bs cs t s r h in cc (e.0, e.1)
    below_law (idx_eq i j) m bs cs r h =
        let first = index m bs cs i r (first_of_both _ _ h) in
        cc (first, index m bs cs j r (second_of_both (P.index m i) _ h))
    below_law (happens t) m bs cs r h = ap (λ y. truth_of (is_position y)) (ts_law m bs cs t r h)
    below_law (all s body) m bs cs r h =
        ap conj (map_same _ _ (domain w.times s) (λ x.
        let d = push m bs cs x r in
        part (m + 1) (x ∷ bs) (x ∷ cs) body d h
        (below_law body (m + 1) (x ∷ bs) (x ∷ cs) d h)))
    below_law (some s body) m bs cs r h =
        ap disj_of_all (map_same _ _ (domain w.times s) (λ x.
        let d = push m bs cs x r in
        part (m + 1) (x ∷ bs) (x ∷ cs) body d h
        (below_law body (m + 1) (x ∷ bs) (x ∷ cs) d h)))
    below_law (find k test found other) m bs cs r h =
        let p = first_of_both (passes P (m + k) test) _ h in
        let rest = second_of_both (passes P (m + k) test) _ h in
        let q = first_of_both (passes P (m + k) found) _ rest in
        let o = second_of_both (passes P (m + k) found) _ rest in
        find_law w.times k bs cs
        (λ xs r. conditional (translate w a xs test) (translate w a xs found) r)
        (λ xs r. conditional (translate w c xs (map_term L (m + k) test))
        (translate w c xs (map_term L (m + k) found)) r)
        (translate w a bs other) (translate w c cs (map_term L m other))
        (λ es e z.
        let d : Rel (m + k) (es ++ bs) (es ++ cs) =
        subst (λ n. Rel (m + n) (es ++ bs) (es ++ cs)) e (push_all es m bs cs r) in
        let f = part (m + k) (es ++ bs) (es ++ cs) test d p
        (below_law test (m + k) (es ++ bs) (es ++ cs) d p) in
        let g = part (m + k) (es ++ bs) (es ++ cs) found d q
        (below_law found (m + k) (es ++ bs) (es ++ cs) d q) in
        cc (f, g))
        (part m bs cs other r o (below_law other m bs cs r o))

    pub all_leaves_law : (ts : TermTrees) (m : ℕ) (bs cs : List Value) → Rel m bs cs
        → all_pass P m ts ≡ true → translate_all w a bs ts ≡ translate_all w c cs (map_terms L m ts)
    all_leaves_law nil m bs cs r h = refl
    all_leaves_law (cons t ts) m bs cs r h =
        let p = first_of_both (passes P m t) _ h in
        let e = part m bs cs t r p (below_law t m bs cs r p) in
        cc (e, all_leaves_law ts m bs cs r (second_of_both (passes P m t) _ h))

  pub leaves_law : (t : TermTree) (m : ℕ) (bs cs : List Value) → Rel m bs cs → passes P m t ≡ true
      → translate w a bs t ≡ translate w c cs (map_term L m t)
  leaves_law t m bs cs r h = part m bs cs t r h (below_law t m bs cs r h)
