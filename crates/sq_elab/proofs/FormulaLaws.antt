-- The nodes of a formula, judged by the walk that counts them and by the places of the formula.
use Rattle.std.proofs.Common.{◌≡◌, ◌≢◌, ℕ, suc, ◌-◌, ◌+◌, ◌≤◌, List, [], ◌∷◌, map, take}
use Rattle.std.proofs.Common.{Option, Some}
use Rattle.std.proofs.Common.{None, Bool, true, false, Result, Ok, Err, refl, sym, ap, ◌∙◌, subst}
use Rattle.std.proofs.Common.{arith, if◌then◌else◌, zip}
use Rattle.std.specs.Prelude.{option_map}
use Rattle.sq_base.specs.declared.sort.Sort.{Sort}
use Rattle.sq_ast.specs.Tree.{FormulaTree}
use Rattle.sq_typing.specs.Functions.{is_value_sort}
use Rattle.sq_resolve.specs.declared.fault.ResolveFault.{ResolveFault}
use Rattle.sq_resolve.specs.declared.stopped.Stopped.{Stopped}
use Rattle.sq_resolve.specs.declared.stopped.Stopped.TheVariants.{Time, Limit}
use Rattle.sq_term.specs.Syntax.{TermTree}
use Rattle.sq_resolve.specs.declared.sized.Built.{Built}
use Rattle.sq_resolve.specs.Built.{Builds, within_limits}
use Rattle.sq_resolve.specs.Places.{Place, places, own_fault, first_fault, fault_of}
use Rattle.sq_resolve.specs.Resolved.{Found, term_of}
use Rattle.sq_resolve.specs.Scopes.{Context, Variable, first_some}
use Rattle.sq_resolve.specs.Stops.{nodes, speaks_of_time, stop_at, past, passed}
use Rattle.sq_resolve.proofs.NodePlaces.{levels_of_nodes, place_trees}
use Rattle.sq_resolve.proofs.PlaceLaws.{term_places}
use Rattle.sq_elab.specs.declared.fault.ElabFault.{ElabFault}
use Rattle.sq_elab.specs.declared.fault.ElabFault.TheVariants as e
use Rattle.sq_elab.specs.Events.{Event, Count, formula_node, formula}
use Rattle.sq_elab.specs.Faults.{of_resolving, stop_place, or_stop}
use Rattle.sq_elab.specs.Judging.{JudgesFormula}
use Rattle.sq_elab.specs.Meanings.{Base, scope}
use Rattle.sq_elab.specs.Walks.{unless, judge}
use Rattle.sq_elab.specs.Ways.{Way}

abbrev tree_of : Place → FormulaTree
tree_of p = p.tree

abbrev form_of : FormulaTree × ℕ → FormulaTree
form_of n = n.0

abbrev level_of : FormulaTree × ℕ → ℕ
level_of n = n.1

abbrev head_or : FormulaTree → List FormulaTree → FormulaTree
head_or f [] = f
head_or f (g ∷ gs) = g

abbrev rest_of : List FormulaTree → List FormulaTree
rest_of [] = []
rest_of (g ∷ gs) = gs

abbrev nodes_or : ℕ → Result ℕ Stopped → ℕ
nodes_or n (Ok k) = k
nodes_or n (Err s) = n

abbrev place_or : ℕ → Result ℕ Stopped → ℕ
place_or n (Ok k) = n
place_or n (Err s) = stop_place s

abbrev or_stop_at : Option ResolveFault → Result ℕ Stopped → ElabFault
or_stop_at o (Ok k) = e.NoMemory
or_stop_at o (Err s) = or_stop o s

abbrev refused : ResolveFault → Option ResolveFault → Result Count ElabFault
refused d None = Err (of_resolving d)
refused d (Some y) = Err (of_resolving y)

module _ (b : Base) (w : Way) where
  abbrev c : Context
  c = scope b w

  abbrev own : Place → Option ResolveFault
  own p = own_fault (scope b w) p.around p.want p.tree

  -- the events of these places, at these nodes
  abbrev at_nodes : List Place → List (FormulaTree × ℕ) → List Event
  at_nodes ps ns = map (λ r. formula_node w r.0 r.1) (zip ps (map level_of ns))

  -- why the walk stops at a node, by what its tests answer
  abbrev stopping : Bool → Bool → ℕ → Option Stopped
  stopping s l k = if s then Some (Time k) else (if l then None else Some (Limit k))

  abbrev node_faults : Option ResolveFault → Bool → Bool → Option ElabFault
  node_faults o s l =
      first_some (option_map of_resolving o)
      (first_some (if s then Some e.ProcessShape else None) (if l then None else Some e.TooLarge))

  -- ---- a formula that is passed and has no fault

  passing : (o : Option ResolveFault) (s l : Bool) (k n : ℕ) (more : Option ResolveFault)
      (walked : Result ℕ Stopped) (j : Result Count ElabFault) (goal : Result Count ElabFault)
      → first_some o more ≡ None → past (stopping s l k) walked ≡ Ok n
      → (more ≡ None → walked ≡ Ok n → j ≡ goal) → unless (node_faults o s l) j ≡ goal
  passing (Some x) s l k n more walked j goal h g rest = absurd (cc (h))
  passing None true l k n more walked j goal h g rest = absurd (cc (g))
  passing None false true k n more walked j goal h g rest = rest h g
  passing None false false k n more walked j goal h g rest = absurd (cc (g))

  passed_all : (k : Count) (n : ℕ) (ps : List Place) (ns : List (FormulaTree × ℕ))
      → map tree_of ps ≡ map form_of ns → passed k.nodes ns ≡ Ok n → first_fault c ps ≡ None
      → judge b k (at_nodes ps ns) ≡ Ok (record k { nodes = n })
  passed_all k n [] [] same h g =
      ap (λ (r : Result ℕ Stopped). Ok (record k { nodes = nodes_or n r })) h
  passed_all k n [] (m ∷ ns) same h g = absurd (cc (same))
  passed_all k n (p ∷ ps) [] same h g = absurd (cc (same))
  passed_all k n (p ∷ ps) (m ∷ ns) same h g =
      let form : p.tree ≡ m.0 = ap (head_or p.tree) same in
      let here : past (stop_at k.nodes p.tree m.1) (passed (suc k.nodes) ns) ≡ Ok n =
      subst (λ f. past (stop_at k.nodes f m.1) (passed (suc k.nodes) ns) ≡ Ok n) (sym form) h in
      passing (own p) (speaks_of_time p.tree) (within_limits (suc k.nodes) m.1) k.nodes n
      (first_fault c ps) (passed (suc k.nodes) ns)
      (judge b (record k { nodes = suc k.nodes }) (at_nodes ps ns)) (Ok (record k { nodes = n }))
      g here
      (λ more walked.
      passed_all (record k { nodes = suc k.nodes }) n ps ns (ap rest_of same) walked more)

  -- ---- a formula that is passed and has one

  failing : (o : Option ResolveFault) (s l : Bool) (k n : ℕ) (x : ResolveFault)
      (more : Option ResolveFault) (walked : Result ℕ Stopped) (j : Result Count ElabFault)
      → first_some o more ≡ Some x → past (stopping s l k) walked ≡ Ok n
      → (more ≡ Some x → walked ≡ Ok n → j ≡ Err (of_resolving x))
      → unless (node_faults o s l) j ≡ Err (of_resolving x)
  failing (Some y) s l k n x more walked j h g rest = ap (refused x) h
  failing None true l k n x more walked j h g rest = absurd (cc (g))
  failing None false true k n x more walked j h g rest = rest h g
  failing None false false k n x more walked j h g rest = absurd (cc (g))

  failed : (k : Count) (n : ℕ) (x : ResolveFault) (ps : List Place)
      (ns : List (FormulaTree × ℕ)) → map tree_of ps ≡ map form_of ns
      → passed k.nodes ns ≡ Ok n → first_fault c ps ≡ Some x
      → judge b k (at_nodes ps ns) ≡ Err (of_resolving x)
  failed k n x [] ns same h g = absurd (cc (g))
  failed k n x (p ∷ ps) [] same h g = absurd (cc (same))
  failed k n x (p ∷ ps) (m ∷ ns) same h g =
      let form : p.tree ≡ m.0 = ap (head_or p.tree) same in
      let here : past (stop_at k.nodes p.tree m.1) (passed (suc k.nodes) ns) ≡ Ok n =
      subst (λ f. past (stop_at k.nodes f m.1) (passed (suc k.nodes) ns) ≡ Ok n) (sym form) h in
      failing (own p) (speaks_of_time p.tree) (within_limits (suc k.nodes) m.1) k.nodes n x
      (first_fault c ps) (passed (suc k.nodes) ns)
      (judge b (record k { nodes = suc k.nodes }) (at_nodes ps ns)) g here
      (λ more walked.
      failed (record k { nodes = suc k.nodes }) n x ps ns (ap rest_of same) walked more)

  -- ---- a formula in which the walk stops

  -- it stops no earlier than it begins
  begins : (k : ℕ) (s : Stopped) (ns : List (FormulaTree × ℕ)) → passed k ns ≡ Err s
      → k ≤ stop_place s
  begins k s [] h = absurd (cc (h))
  begins k s (m ∷ ns) h =
      by (speaks_of_time m.0) (within_limits (suc k) m.1) h (begins (suc k) s ns)
    where
      by : (t l : Bool) → past (stopping t l k) (passed (suc k) ns) ≡ Err s
          → (passed (suc k) ns ≡ Err s → suc k ≤ stop_place s) → k ≤ stop_place s
      by true l g rest = let at : k ≡ stop_place s = ap (place_or k) g in omega (arith, at)
      by false true g rest = let below = rest g in omega (arith, below)
      by false false g rest = let at : k ≡ stop_place s = ap (place_or k) g in omega (arith, at)

  stopping_here : (o : Option ResolveFault) (t l : Bool) (k : ℕ) (s : Stopped)
      (p : Place) (ps : List Place) (walked : Result ℕ Stopped) (j : Result Count ElabFault)
      → own p ≡ o → k ≤ stop_place s → past (stopping t l k) walked ≡ Err s
      → (walked ≡ Err s → (suc k ≤ stop_place s)
      × (j ≡ Err (or_stop (first_fault c (take (suc (stop_place s - suc k)) ps)) s)))
      → unless (node_faults o t l) j
      ≡ Err (or_stop (first_fault c (take (suc (stop_place s - k)) (p ∷ ps))) s)
  stopping_here (Some x) t l k s p ps walked j own_is low g rest =
      ap (λ (o : Option ResolveFault).
      Err (or_stop (first_some o (first_fault c (take (stop_place s - k) ps))) s)) (sym own_is)
  stopping_here None true l k s p ps walked j own_is low g rest =
      let at : k ≡ stop_place s = ap (place_or k) g in
      let none : stop_place s - k ≡ 0 = omega (arith, at) in
      ap (λ (r : Result ℕ Stopped). Err (or_stop_at None r)) g
      ∙ ap (λ (n : ℕ). Err (or_stop (first_some None (first_fault c (take n ps))) s)) (sym none)
      ∙ ap (λ (o : Option ResolveFault).
      Err (or_stop (first_some o (first_fault c (take (stop_place s - k) ps))) s)) (sym own_is)
  stopping_here None false true k s p ps walked j own_is low g rest =
      let more = rest g in
      let next : suc (stop_place s - suc k) ≡ stop_place s - k = omega (arith, more.0) in
      more.1
      ∙ ap (λ (n : ℕ). Err (or_stop (first_some None (first_fault c (take n ps))) s)) next
      ∙ ap (λ (o : Option ResolveFault).
      Err (or_stop (first_some o (first_fault c (take (stop_place s - k) ps))) s)) (sym own_is)
  stopping_here None false false k s p ps walked j own_is low g rest =
      let at : k ≡ stop_place s = ap (place_or k) g in
      let none : stop_place s - k ≡ 0 = omega (arith, at) in
      ap (λ (r : Result ℕ Stopped). Err (or_stop_at None r)) g
      ∙ ap (λ (n : ℕ). Err (or_stop (first_some None (first_fault c (take n ps))) s)) (sym none)
      ∙ ap (λ (o : Option ResolveFault).
      Err (or_stop (first_some o (first_fault c (take (stop_place s - k) ps))) s)) (sym own_is)

  stopped : (k : Count) (s : Stopped) (ps : List Place) (ns : List (FormulaTree × ℕ))
      → map tree_of ps ≡ map form_of ns → passed k.nodes ns ≡ Err s
      → judge b k (at_nodes ps ns)
      ≡ Err (or_stop (first_fault c (take (suc (stop_place s - k.nodes)) ps)) s)
  stopped k s ps [] same h = absurd (cc (h))
  stopped k s [] (m ∷ ns) same h = absurd (cc (same))
  stopped k s (p ∷ ps) (m ∷ ns) same h =
      let form : p.tree ≡ m.0 = ap (head_or p.tree) same in
      let here : past (stop_at k.nodes p.tree m.1) (passed (suc k.nodes) ns) ≡ Err s =
      subst (λ f. past (stop_at k.nodes f m.1) (passed (suc k.nodes) ns) ≡ Err s) (sym form) h in
      stopping_here (own p) (speaks_of_time p.tree) (within_limits (suc k.nodes) m.1) k.nodes s p
      ps (passed (suc k.nodes) ns)
      (judge b (record k { nodes = suc k.nodes }) (at_nodes ps ns)) refl
      (begins k.nodes s (m ∷ ns) h) here
      (λ walked. (
        begins (suc k.nodes) s ns walked,
        stopped (record k { nodes = suc k.nodes }) s ps ns (ap rest_of same) walked,
      ))

-- ---- a whole formula

abbrev passed_nodes : Count → ℕ → FormulaTree → Result ℕ Stopped
passed_nodes k d f = passed k.nodes (nodes d f)

module _ (b : Base) (w : Way) (k : Count) (around : List Variable) (want : Sort) (d : ℕ)
    (f : FormulaTree) where
  abbrev ps : List Place
  ps = places (scope b w) around want f

  trees : map tree_of (places (scope b w) around want f) ≡ map form_of (nodes d f)
  trees = place_trees (scope b w) around want d f

  -- the events of the formula, by its nodes
  by_nodes : judge b k (at_nodes b w (places (scope b w) around want f) (nodes d f))
      ≡ judge b k (formula b w around want d f)
  by_nodes =
      ap (λ (ls : List ℕ). judge b k (map (λ r. formula_node w r.0 r.1)
      (zip (places (scope b w) around want f) ls))) (sym (levels_of_nodes d f))

  pub judged_within : (c : Context) (n : ℕ) (built : Built) → c ≡ scope b w
      → is_value_sort want ≡ true → Builds (Ok built) (term_of c around want f)
      → Ok n ≡ passed_nodes k d f
      → JudgesFormula b w k around want d f (Ok (record { nodes = n; built = built }))
  judged_within c n built here value builds walked =
      let builds_here : Builds (Ok built) (term_of (scope b w) around want f) =
      subst (λ (x : Context). Builds (Ok built) (term_of x around want f)) here builds in
      by (term_of (scope b w) around want f) refl builds_here
    where
      by : (m : Found TermTree) → term_of (scope b w) around want f ≡ m → Builds (Ok built) m
          → JudgesFormula b w k around want d f (Ok (record { nodes = n; built = built }))
      by (Ok t) is h =
          let none : first_fault (scope b w) (places (scope b w) around want f) ≡ None =
          sym (term_places (scope b w) around want f value) ∙ ap fault_of is in (
            sym by_nodes
                ∙ passed_all b w k n (places (scope b w) around want f) (nodes d f) trees
                (sym walked)
                none,
            subst (λ (x : Found TermTree). Builds (Ok built) x) (sym is) h,
          )
      by (Err x) is h = absurd h

  pub judged_fault : (c : Context) (n : ℕ) (x : ResolveFault) → c ≡ scope b w
      → is_value_sort want ≡ true → Builds (Err x) (term_of c around want f)
      → Ok n ≡ passed_nodes k d f
      → JudgesFormula b w k around want d f (Err (of_resolving x))
  judged_fault c n x here value builds walked = λ known.
      let is : term_of (scope b w) around want f ≡ Err x =
      ap (λ (y : Context). term_of y around want f) (sym here)
      ∙ builds (λ none. known (ap of_resolving none)) in
      sym by_nodes
      ∙ failed b w k n x (places (scope b w) around want f) (nodes d f) trees (sym walked)
      (sym (term_places (scope b w) around want f value) ∙ ap fault_of is)

  pub judged_stop : (c : Context) (s : Stopped) (x : ElabFault) → c ≡ scope b w
      → Err s ≡ passed_nodes k d f
      → (x ≢ e.NoMemory
      → x ≡ or_stop (first_fault c (take (stop_place s - k.nodes + 1) (places c around want f))) s)
      → JudgesFormula b w k around want d f (Err x)
  judged_stop c s x here walked first = λ known.
      let count : suc (stop_place s - k.nodes) ≡ stop_place s - k.nodes + 1 = omega arith in
      sym by_nodes
      ∙ (stopped b w k s (places (scope b w) around want f) (nodes d f) trees (sym walked)
      ∙ (ap (λ (n : ℕ). Err (or_stop (first_fault (scope b w)
      (take n (places (scope b w) around want f))) s)) count
      ∙ (ap (λ (y : Context). Err (or_stop (first_fault y
      (take (stop_place s - k.nodes + 1) (places y around want f))) s)) (sym here)
      ∙ ap (λ (y : ElabFault). Err y) (sym (first known)))))
