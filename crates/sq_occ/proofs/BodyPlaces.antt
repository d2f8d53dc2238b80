-- What is found in the bodies of a system is no more than what a macro lists of it, and holds no
-- message that is too deep.
use Rattle.std.proofs.Common.{◌≡◌, refl, sym, ap, subst, ℕ, suc, ◌+◌, ◌≤◌, List, [], ◌∷◌}
use Rattle.std.proofs.Common.{◌++◌, map, length, Bool, true, false, Some, slice_get, arith}
use Rattle.sq_base.specs.declared.sort.Sort.{Sort}
use Rattle.sq_term.specs.declared.term.Macro.{Macro}
use Rattle.sq_term.specs.Formulas.{truth}
use Rattle.sq_term.specs.Lists.{Each, here, there}
use Rattle.sq_term.specs.Measure.{size, depth}
use Rattle.sq_term.specs.Syntax.{TsTree, TermTree}
use Rattle.sq_term.specs.Systems.{ActionTree}
use Rattle.sq_term.proofs.Members.{member-append_left, member-append_right, member-map}
use Rattle.sq_term.proofs.Members.{member-map_from, each-append, each_none}
use Rattle.sq_subst.specs.Leaves.{map_term}
use Rattle.sq_subst.specs.Renaming.{binding}
use Rattle.sq_system.specs.Facts.{IsShallow}
use Rattle.sq_occ.specs.Entries.{OccTree}
use Rattle.sq_occ.specs.Sizes.{list_nodes}
use Rattle.sq_occ.specs.Listed.{side_of}
use Rattle.sq_occ.specs.Calls.Scans.{Scan, ActionPlaces, scan, reads_macro}
use Rattle.sq_occ.specs.Calls.Lists.{IsShallowRole, HaveShallowMessages}
use Rattle.sq_occ.specs.Calls.Bodies.{met_at, met_in, met_in_all, within_action, places_in}
use Rattle.sq_occ.specs.Calls.Bodies.{all_places_in, all_nodes, HaveShallowPlaces}
use Rattle.sq_occ.proofs.Depths.{depth_bound}
use Rattle.sq_occ.proofs.Growth.{list_nodes-append}
use Rattle.sq_occ.proofs.Scanned.{scan_each, HasMacro, macro_part}

-- a message is no deeper than the term that it stands in
pub scan_shallow : (S : Scan) (x : TermTree) (b : List Sort) (e : Bool)
    → ((b : List Sort) (m : Macro) (t : TsTree) → HaveShallowMessages (S.at_macro b m t))
    → depth x ≤ 1024 → HaveShallowMessages (scan S b e x)
scan_shallow S x b e macros h =
    scan_each S (λ u. IsShallowRole u.role) 1024 (λ is b. tt) (λ is b. tt)
    (λ is f m test b below.
    let l : depth (map_term (binding S.arity (side_of S.left)) (length b) m) ≤ depth m =
    depth_bound S.arity (side_of S.left) m (length b) in
    omega (arith, below))
    macros x b e h

-- ---- what a macro lists has no fewer nodes

abbrev Unguarded : OccTree → Type 0
Unguarded u = u.guard ≡ truth

body_unguarded : (S : Scan) (r : ℕ) (x : TermTree)
    → Each Unguarded (scan (within_action S r) [] false x)
body_unguarded S r x =
    scan_each (within_action S r) Unguarded (depth x) (λ is b. refl) (λ is b. refl)
    (λ is f m test b below. refl) (λ b m t. each_none Unguarded) x [] false (omega arith)

met_more : (p : ActionPlaces) (b : List Sort) (m : Macro) (t : TsTree) (us : List OccTree)
    → Each Unguarded us → list_nodes us ≤ list_nodes (map (met_at p b m t) us)
met_more p b m t [] h = omega arith
met_more p b m t (u ∷ us) h =
    let one : size u.guard ≡ 1 = ap size (h u here) in
    let rest : list_nodes us ≤ list_nodes (map (met_at p b m t) us) =
    met_more p b m t us (λ x i. h x (there i)) in
    omega (arith, one, rest)

module _ (S : Scan) where
  pub met_all_more : (acts : List ActionTree) (j : ℕ) (b : List Sort) (m : Macro) (t : TsTree)
      → all_nodes (all_places_in S j acts)
      ≤ list_nodes (met_in_all (all_places_in S j acts) b m t)
  met_all_more [] j b m t = omega arith
  met_all_more (a ∷ acts) j b m t =
      let plain : Each Unguarded (places_in S j a).places =
      each-append _ _ Unguarded (body_unguarded S a.arity a.cond)
      (body_unguarded S a.arity a.output) in
      let one : list_nodes (places_in S j a).places ≤ list_nodes (met_in (places_in S j a) b m t) =
      met_more (places_in S j a) b m t (places_in S j a).places plain in
      let rest : all_nodes (all_places_in S (suc j) acts)
      ≤ list_nodes (met_in_all (all_places_in S (suc j) acts) b m t) =
      met_all_more acts (suc j) b m t in
      let sum : list_nodes (met_in (places_in S j a) b m t
      ++ met_in_all (all_places_in S (suc j) acts) b m t)
      ≡ list_nodes (met_in (places_in S j a) b m t)
      + list_nodes (met_in_all (all_places_in S (suc j) acts) b m t) =
      list_nodes-append (met_in (places_in S j a) b m t)
      (met_in_all (all_places_in S (suc j) acts) b m t) in
      omega (arith, one, rest, sum)

-- ---- depths

pub met_shallow : (ps : List ActionPlaces) (b : List Sort) (m : Macro) (t : TsTree)
    → HaveShallowPlaces ps → HaveShallowMessages (met_in_all ps b m t)
met_shallow [] b m t h = each_none (λ u. IsShallowRole u.role)
met_shallow (p ∷ ps) b m t h =
    each-append _ _ (λ u. IsShallowRole u.role)
    (λ x i. let (u, within, same) = member-map_from (met_at p b m t) p.places x i in
    subst (λ (o : OccTree). IsShallowRole o.role) (sym same) (h p here u within))
    (met_shallow ps b m t (λ q i. h q (there i)))

pub places_shallow : (ps : List ActionPlaces) (b : List Sort) (m : Macro) (t : TsTree)
    → HaveShallowMessages (met_in_all ps b m t) → HaveShallowPlaces ps
places_shallow [] b m t h q i = elim i [ ]
places_shallow (p ∷ ps) b m t h q here = λ u i.
    h (met_at p b m t u)
    (member-append_left (met_in p b m t) (met_in_all ps b m t) (met_at p b m t u)
    (member-map (met_at p b m t) p.places u i))
places_shallow (p ∷ ps) b m t h q (there i) =
    places_shallow ps b m t
    (λ x k. h x (member-append_right (met_in p b m t) (met_in_all ps b m t) x k)) q i

pub bodies_shallow : (S : Scan) (acts : List ActionTree) (j : ℕ)
    → ((k : ℕ) (a : ActionTree) → slice_get acts k ≡ Some a → IsShallow a)
    → HaveShallowPlaces (all_places_in S j acts)
bodies_shallow S [] j h q i = elim i [ ]
bodies_shallow S (a ∷ acts) j h q here =
    let shallow : IsShallow a = h 0 a refl in
    each-append _ _ (λ u. IsShallowRole u.role)
    (scan_shallow (within_action S a.arity) a.cond [] false
    (λ b m t. each_none (λ u. IsShallowRole u.role)) shallow.cond_is)
    (scan_shallow (within_action S a.arity) a.output [] false
    (λ b m t. each_none (λ u. IsShallowRole u.role)) shallow.output_is)
bodies_shallow S (a ∷ acts) j h q (there i) =
    bodies_shallow S acts (suc j) (λ k x e. h (suc k) x e) q i

-- ---- a term that reads a macro

-- what is too large in the bodies is too large in the term, whose list has all of it
pub part_more : (S : Scan) (x : TermTree) (b : List Sort) (e : Bool) (n : ℕ)
    → reads_macro S.left x ≡ true
    → ((b : List Sort) (m : Macro) (t : TsTree) → n ≤ list_nodes (S.at_macro b m t))
    → n ≤ list_nodes (scan S b e x)
part_more S x b e n reads more =
    let part : HasMacro S (scan S b e x) = macro_part S x b e reads in
    let middle : List OccTree = S.at_macro part.binders part.read part.time in
    let here : n ≤ list_nodes (S.at_macro part.binders part.read part.time) =
    more part.binders part.read part.time in
    let sum = list_nodes-append part.before
    (S.at_macro part.binders part.read part.time ++ part.after) in
    let again = list_nodes-append (S.at_macro part.binders part.read part.time) part.after in
    let whole : list_nodes (scan S b e x) ≡ list_nodes (part.before
    ++ (S.at_macro part.binders part.read part.time ++ part.after)) = ap list_nodes part.is_part in
    omega (arith, here, sum, again, whole)

pub part_shallow : (S : Scan) (x : TermTree) (b : List Sort) (e : Bool)
    → reads_macro S.left x ≡ true → HaveShallowMessages (scan S b e x)
    → (b : List Sort) × (m : Macro) × (t : TsTree) × HaveShallowMessages (S.at_macro b m t)
part_shallow S x b e reads shallow =
    let part : HasMacro S (scan S b e x) = macro_part S x b e reads in
    let whole : HaveShallowMessages (part.before
    ++ (S.at_macro part.binders part.read part.time ++ part.after)) =
    subst HaveShallowMessages part.is_part shallow in (
      part.binders,
      part.read,
      part.time,
      λ u i. whole u
          (member-append_right part.before
          (S.at_macro part.binders part.read part.time ++ part.after) u
          (member-append_left (S.at_macro part.binders part.read part.time) part.after u i)),
    )
