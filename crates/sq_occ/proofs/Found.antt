-- The bodies' places, found once and met at each macro, are what the definition lists there.
use Rattle.std.proofs.Common.{◌≡◌, refl, sym, ap, ◌∙◌, ℕ, suc, ◌+◌, List, []}
use Rattle.std.proofs.Common.{◌∷◌, map, length, Bool, true, false, if◌then◌else◌, ◌||◌}
use Rattle.std.proofs.Common.{Option, Some, None, arith, nat_lt, ◌-◌}
use Rattle.std.proofs.lemmas.Bool.Decides.{nat_tests}
use Rattle.sq_base.specs.declared.sort.Sort.{Sort}
use Rattle.sq_term.specs.declared.term.Idx.{Idx}
use Rattle.sq_term.specs.declared.term.Idx.TheVariants.{Free, Bound}
use Rattle.sq_term.specs.declared.term.Macro.{Macro}
use Rattle.sq_term.specs.declared.term.Side.TheVariants.{Both}
use Rattle.sq_term.specs.Signatures.{function_role, is_equality}
use Rattle.sq_term.specs.Syntax.{TsTree, TermTree, name, fun, macro, schema, diff, le, ts_eq}
use Rattle.sq_term.specs.Syntax.{idx_eq, happens, all, some, find, TermTrees, nil, cons}
use Rattle.sq_term.specs.Systems.{ActionTree, SystemTree}
use Rattle.sq_subst.specs.Renaming.{bound_index, binding}
use Rattle.sq_subst.proofs.Fusion.{kept}
use Rattle.sq_subst.proofs.TestLaws.{no_tests, passes_none}
use Rattle.sq_occ.specs.Entries.{RoleTree, bare, public, key, OccTree, with_indices}
use Rattle.sq_occ.specs.Walks.{first_term}
use Rattle.sq_occ.specs.Searches.{in_action, body_places, action_places}
use Rattle.sq_occ.specs.Searches.{bound_role, in_actions, side_places}
use Rattle.sq_occ.specs.Listed.{side_of}
use Rattle.sq_occ.specs.Calls.Scans.{Scan, ActionPlaces, keyed, only, at_name, reads_macro}
use Rattle.sq_occ.specs.Calls.Scans.{read_macro, scanned, key_role, scan, scan_first, scan_all}
use Rattle.sq_occ.specs.Calls.Bodies.{met_at, met_in, met_in_all, within_action, places_in}
use Rattle.sq_occ.specs.Calls.Bodies.{all_places_in}
use Rattle.sq_occ.proofs.Sides.{neither}
use Rattle.sq_occ.proofs.Scanning.{bound_place, map-append, scan_is}

-- ---- no index is bound in the term itself

not_below_zero : (k : ℕ) → nat_lt k 0 ≡ false
not_below_zero k = grind (arith, nat_tests)

bound_none : (m : ℕ) (i : Idx) → bound_index 0 m i ≡ i
bound_none m (Free k) =
    ap (λ b. (if b then Bound (m + (0 - suc k)) else Free k)) (not_below_zero k)
bound_none m (Bound k) = refl

bounds_none : (m : ℕ) (is : List Idx) → map (bound_index 0 m) is ≡ is
bounds_none m [] = refl
bounds_none m (i ∷ is) = cc (bound_none m i, bounds_none m is)

role_none : (d : ℕ) (o : RoleTree) → bound_role 0 d o ≡ o
role_none d bare = refl
role_none d public = refl
role_none d (key f m test) =
    ap (λ t. key f t test)
    (kept (binding 0 Both) no_tests (λ m i h. bound_none m i) (λ m k h. refl) (λ m k h. refl)
    (λ m k h. refl) d m (passes_none d m))

place_none : (u : OccTree) → bound_place 0 u ≡ u
place_none u =
    let args : map (bound_index 0 (length u.bound)) u.args ≡ u.args =
    bounds_none (length u.bound) u.args in
    let role : bound_role 0 (length u.bound) u.role ≡ u.role =
    role_none (length u.bound) u.role in
    λ i. record u { args = args i; role = role i }

places_none : (us : List OccTree) → map (bound_place 0) us ≡ us
places_none [] = refl
places_none (u ∷ us) = cc (place_none u, places_none us)

-- ---- at a macro

met_bound : (p : ActionPlaces) (b : List Sort) (m : Macro) (t : TsTree) (us : List OccTree)
    → p.places ≡ map (bound_place p.arity) us
    → met_in p b m t ≡ map (in_action p.action p.arity b m t) us
met_bound p b m t us e = ap (map (met_at p b m t)) e ∙ twice us
  where
    twice : (us : List OccTree)
        → map (met_at p b m t) (map (bound_place p.arity) us)
        ≡ map (in_action p.action p.arity b m t) us
    twice [] = refl
    twice (u ∷ us) = ap (λ xs. in_action p.action p.arity b m t u ∷ xs) (twice us)

module _ (S : Scan) where
  body_is : (r : ℕ) (t : TermTree)
      → scan (within_action S r) [] false t
      ≡ map (bound_place r) (body_places S.funs S.name (side_of S.left) t)
  body_is r t = scan_is (within_action S r) (λ b m t. []) (λ b m t. refl) t [] 0 false refl

  places_are : (j : ℕ) (a : ActionTree)
      → (places_in S j a).places
      ≡ map (bound_place a.arity) (action_places S.funs S.name (side_of S.left) a)
  places_are j a =
      let one = body_is a.arity a.cond in
      let two = body_is a.arity a.output in
      let split = map-append (bound_place a.arity)
      (body_places S.funs S.name (side_of S.left) a.cond)
      (body_places S.funs S.name (side_of S.left) a.output) in
      cc

  pub met_is : (acts : List ActionTree) (j : ℕ) (b : List Sort) (m : Macro) (t : TsTree)
      → met_in_all (all_places_in S j acts) b m t
      ≡ in_actions S.funs S.name (side_of S.left) b m t j acts
  met_is [] j b m t = refl
  met_is (a ∷ acts) j b m t =
      let one = met_bound (places_in S j a) b m t
      (action_places S.funs S.name (side_of S.left) a) (places_are j a) in
      let rest = met_is acts (suc j) b m t in
      cc

-- ---- a term

-- the walk of the program over the whole term lists what the definition lists
pub side_is : (S : Scan) (s : SystemTree) (t : TermTree) → S.arity ≡ 0
    → ((b : List Sort) (m : Macro) (x : TsTree)
    → S.at_macro b m x ≡ in_actions S.funs S.name (side_of S.left) b m x 0 s.actions)
    → scan S [] false t ≡ side_places S.funs S.name (side_of S.left) s t
side_is S s t none macros =
    scan_is S (λ b m x. in_actions S.funs S.name (side_of S.left) b m x 0 s.actions)
    (λ b m x. macros b m x
    ∙ (sym (places_none (in_actions S.funs S.name (side_of S.left) b m x 0 s.actions))
    ∙ ap (λ r. map (bound_place r)
    (in_actions S.funs S.name (side_of S.left) b m x 0 s.actions)) (sym none)))
    t [] 0 false refl
    ∙ (ap (λ r. map (bound_place r) (side_places S.funs S.name (side_of S.left) s t)) none
    ∙ places_none (side_places S.funs S.name (side_of S.left) s t))

-- ---- a term that reads no macro

module _ (S : Scan) (M : List Sort → Macro → TsTree → List OccTree) where
  abbrev other : Scan
  other = record S { at_macro = M }

  none_left : (l : Bool) (p q : Bool) → (if l then p else q) ≡ false → (l ≡ true → p ≡ false)
      × (l ≡ false → q ≡ false)
  none_left true p q e = ((λ f. e), λ f. absurd (let x : true ≡ false = f in cc))
  none_left false p q e = ((λ f. absurd (let x : false ≡ true = f in cc)), λ f. e)

  at_name_same : (o : Option (List Idx)) (f g : List Idx → List OccTree) (x y : List OccTree)
      → ((is : List Idx) → f is ≡ g is) → x ≡ y → at_name o f x ≡ at_name o g y
  at_name_same (Some is) f g x y h e = h is
  at_name_same None f g x y h e = e

  mutual
    pub scan_same : (t : TermTree) (b : List Sort) (e : Bool) → reads_macro S.left t ≡ false
        → scan S b e t ≡ scan other b e t
    scan_same (name k is) b e h = refl
    scan_same (fun f is ts) b e h =
        let first = first_same ts b h in
        at_name_same (keyed S.name S.left (function_role S.funs f) ts) _ _ _ _
        (λ js. ap (λ us. scanned S js (key_role S e f (first_term ts) b) b ∷ us) first)
        (at_name_same (only S.name S.left (function_role S.funs f) ts) _ _ _ _ (λ js. refl)
        (all_same ts b (is_equality f) h))
    scan_same (macro m t) b e h = absurd (let x : true ≡ false = h in cc)
    scan_same (schema k) b e h = refl
    scan_same (diff x y) b e h =
        at S.left refl (λ p. scan_same x b e p) (λ p. scan_same y b e p)
      where
        at : (l : Bool) → S.left ≡ l
            → (reads_macro S.left x ≡ false → scan S b e x ≡ scan other b e x)
            → (reads_macro S.left y ≡ false → scan S b e y ≡ scan other b e y)
            → (if S.left then scan S b e x else scan S b e y)
            ≡ (if S.left then scan other b e x else scan other b e y)
        at true f hx hy =
            let p : reads_macro S.left x ≡ false =
            (none_left S.left (reads_macro S.left x) (reads_macro S.left y) h).0 f in
            let q = hx p in
            ap (λ c. (if c then scan S b e x else scan S b e y)) f
            ∙ (q ∙ sym (ap (λ c. (if c then scan other b e x else scan other b e y)) f))
        at false f hx hy =
            let p : reads_macro S.left y ≡ false =
            (none_left S.left (reads_macro S.left x) (reads_macro S.left y) h).1 f in
            let q = hy p in
            ap (λ c. (if c then scan S b e x else scan S b e y)) f
            ∙ (q ∙ sym (ap (λ c. (if c then scan other b e x else scan other b e y)) f))
    scan_same (le t s) b e h = refl
    scan_same (ts_eq t s) b e h = refl
    scan_same (idx_eq i j) b e h = refl
    scan_same (happens t) b e h = refl
    scan_same (all s t) b e h = scan_same t (s ∷ b) false h
    scan_same (some s t) b e h = scan_same t (s ∷ b) false h
    scan_same (find c t a o) b e h =
        let p = neither (reads_macro S.left t) (reads_macro S.left a || reads_macro S.left o) h in
        let q = neither (reads_macro S.left a) (reads_macro S.left o) p.1 in
        let one = scan_same t (with_indices c b) false p.0 in
        let two = scan_same a (with_indices c b) false q.0 in
        let three = scan_same o b false q.1 in
        cc

    first_same : (ts : TermTrees) (b : List Sort) → read_macro S.left ts ≡ false
        → scan_first S b ts ≡ scan_first other b ts
    first_same nil b h = refl
    first_same (cons t ts) b h =
        scan_same t b false (neither (reads_macro S.left t) (read_macro S.left ts) h).0

    all_same : (ts : TermTrees) (b : List Sort) (e : Bool) → read_macro S.left ts ≡ false
        → scan_all S b e ts ≡ scan_all other b e ts
    all_same nil b e h = refl
    all_same (cons t ts) b e h =
        let p = neither (reads_macro S.left t) (read_macro S.left ts) h in
        let one = scan_same t b e p.0 in
        let rest = all_same ts b e p.1 in
        cc
