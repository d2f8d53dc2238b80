-- An action goes on from one that was closed before it.
use Rattle.std.proofs.Common.{◌≡◌, ℕ, suc, ◌+◌, List, [], ◌∷◌, ◌++◌, map, length}
use Rattle.std.proofs.Common.{Bool, true, false, if◌then◌else◌, Option, Some, None, refl, sym, ap}
use Rattle.std.proofs.Common.{◌∙◌, subst, arith, slice_get, append_assoc, append-nil, length-append}
use Rattle.std.specs.Prelude.{zip}
use Rattle.sq_base.specs.declared.sort.Sort.TheVariants.{Message, Boolean, Index}
use Rattle.sq_ast.specs.Tree.{FormulaTree}
use Rattle.sq_resolve.specs.Places.{Place, places}
use Rattle.sq_resolve.specs.Resolved.{group_variables}
use Rattle.sq_resolve.specs.Stops.{levels}
use Rattle.sq_elab.specs.Events.{Event, process_node, formula_node, calls, argument, channel}
use Rattle.sq_elab.specs.Events.{create, close, Count, counted, counted_all, formula}
use Rattle.sq_elab.specs.Events.{closing}
use Rattle.sq_elab.specs.Events.{number, are_more, events, part_events}
use Rattle.sq_elab.specs.Inlined as q
use Rattle.sq_elab.specs.Inlined.{InlinedTree, InlinedTrees}
use Rattle.sq_elab.specs.Meanings.{Base, scope, let_sort}
use Rattle.sq_elab.specs.Outcome.{ClosingNode, node_of, closing_nodes}
use Rattle.sq_elab.specs.Ways.{Step, creates, receives, repeats, sends, tests, finds, defines}
use Rattle.sq_elab.specs.Ways.{part, labels, enters, Way, closes, pending}
use Rattle.sq_elab.proofs.WayLaws.{slice_get-front, slice_get-end}

-- ---- known actions

abbrev pub node_at : ℕ → Way → Option FormulaTree → ClosingNode
node_at a w m = record { number = a; way = w; message = m }

-- action a was closed at the end of way w
pub record Known (ns : List ClosingNode) (w : Way) (a : ℕ) : Type 0 where
  pub message : Option FormulaTree
  pub is : slice_get ns a ≡ Some (node_at a w message)

abbrev pub IsKnown : List ClosingNode → Way → Option ℕ → Type 0
IsKnown ns w None = Unit {0}
IsKnown ns w (Some a) = Known ns w a

-- each action that the way passes was closed there
abbrev pub AreKnown : List ClosingNode → Way → Type 0
AreKnown ns [] = Unit {0}
AreKnown ns (s ∷ w) = IsKnown ns w (closes s) × AreKnown ns w

is-known-still : (ns ms : List ClosingNode) (w : Way) (o : Option ℕ) → IsKnown ns w o
    → IsKnown (ns ++ ms) w o
is-known-still ns ms w None h = tt
is-known-still ns ms w (Some a) h =
    record {
      message = h.message;
      is = slice_get-front ns ms a (node_at a w h.message) h.is;
    }

pub are-known-still : (ns ms : List ClosingNode) (w : Way) → AreKnown ns w → AreKnown (ns ++ ms) w
are-known-still ns ms [] h = tt
are-known-still ns ms (s ∷ w) h =
    (is-known-still ns ms w (closes s) h.0, are-known-still ns ms w h.1)

-- ---- at each closing node of the events the actions of its way are known

abbrev pub AtEvent : List ClosingNode → Event → Type 0
AtEvent ns (close w m) = AreKnown ns w
AtEvent ns v = Unit {0}

abbrev pub WellClosed : List ClosingNode → Count → List Event → Type 0
WellClosed ns k [] = Unit {0}
WellClosed ns k (v ∷ vs) = AtEvent ns v × WellClosed (ns ++ node_of k.actions v) (counted k v) vs

well-append : (ns : List ClosingNode) (k : Count) (vs us : List Event) → WellClosed ns k vs
    → WellClosed (ns ++ closing_nodes k vs) (counted_all k vs) us → WellClosed ns k (vs ++ us)
well-append ns k [] us h g = subst (λ l. WellClosed l k us) (append-nil ns) g
well-append ns k (v ∷ vs) us h g = (
  h.0,
  well-append (ns ++ node_of k.actions v) (counted k v) vs us h.1
      (subst (λ l. WellClosed l (counted_all (counted k v) vs) us)
      (sym (append_assoc ns (node_of k.actions v) (closing_nodes (counted k v) vs))) g),
)

one-longer : (ns : List ClosingNode) (k : Count) (v : Event) → length ns ≡ k.actions
    → length (ns ++ node_of k.actions v) ≡ (counted k v).actions
one-longer ns k (close w m) h =
    let l : length (ns ++ node_at k.actions w m ∷ []) ≡ length ns + 1 =
    length-append ns (node_at k.actions w m ∷ []) in
    omega arith
one-longer ns k (process_node d) h = ap length (append-nil ns) ∙ h
one-longer ns k (formula_node w p d) h = ap length (append-nil ns) ∙ h
one-longer ns k (calls w x n c) h = ap length (append-nil ns) ∙ h
one-longer ns k (argument w y) h = ap length (append-nil ns) ∙ h
one-longer ns k (channel w x) h = ap length (append-nil ns) ∙ h
one-longer ns k (create w x) h = ap length (append-nil ns) ∙ h

all-longer : (ns : List ClosingNode) (k : Count) (vs : List Event) → length ns ≡ k.actions
    → length (ns ++ closing_nodes k vs) ≡ (counted_all k vs).actions
all-longer ns k [] h = ap length (append-nil ns) ∙ h
all-longer ns k (v ∷ vs) h =
    ap length (sym (append_assoc ns (node_of k.actions v) (closing_nodes (counted k v) vs)))
    ∙ all-longer (ns ++ node_of k.actions v) (counted k v) vs (one-longer ns k v h)

-- ---- formulas and calls close nothing

module _ (w : Way) where
  abbrev pub nodes_of_formula : List (Place × ℕ) → List Event
  nodes_of_formula zs = map (λ r. formula_node w r.0 r.1) zs

  formula-well : (zs : List (Place × ℕ)) (ns : List ClosingNode) (k : Count)
      → WellClosed ns k (nodes_of_formula zs)
  formula-well [] ns k = tt
  formula-well (z ∷ zs) ns k =
      (tt, formula-well zs (ns ++ []) (counted k (formula_node w z.0 z.1)))

  formula-nodes : (zs : List (Place × ℕ)) (k : Count)
      → closing_nodes k (nodes_of_formula zs) ≡ []
  formula-nodes [] k = refl
  formula-nodes (z ∷ zs) k = formula-nodes zs (counted k (formula_node w z.0 z.1))

  formula-actions : (zs : List (Place × ℕ)) (k : Count)
      → (counted_all k (nodes_of_formula zs)).actions ≡ k.actions
  formula-actions [] k = refl
  formula-actions (z ∷ zs) k = formula-actions zs (counted k (formula_node w z.0 z.1))

  arguments-well : (ys : List (List ℕ)) (ns : List ClosingNode) (k : Count)
      → WellClosed ns k (map (argument w) ys)
  arguments-well [] ns k = tt
  arguments-well (y ∷ ys) ns k = (tt, arguments-well ys (ns ++ []) k)

  -- the message of an `out`, and its closing node
  message-well : (zs : List (Place × ℕ)) (m : Option FormulaTree) (ns : List ClosingNode)
      (k : Count) → AreKnown ns w → WellClosed ns k (nodes_of_formula zs ++ close w m ∷ [])
  message-well [] m ns k h = (h, tt)
  message-well (z ∷ zs) m ns k h = (
    tt,
    message-well zs m (ns ++ []) (counted k (formula_node w z.0 z.1))
        (are-known-still ns [] w h),
  )

  message-nodes : (zs : List (Place × ℕ)) (m : Option FormulaTree) (k : Count)
      → closing_nodes k (nodes_of_formula zs ++ close w m ∷ []) ≡ node_at k.actions w m ∷ []
  message-nodes [] m k = refl
  message-nodes (z ∷ zs) m k = message-nodes zs m (counted k (formula_node w z.0 z.1))

-- ---- closing nodes that are no `out`

abbrev closing_if : Bool → Way → List Event
closing_if c w = (if c then close w None ∷ [] else [])

abbrev number_if : Bool → Count → Option ℕ
number_if c k = (if c then Some k.actions else None)

-- the node that was closed last
last-known : (ns : List ClosingNode) (n : ℕ) (w : Way) (m : Option FormulaTree) → length ns ≡ n
    → Known (ns ++ node_at n w m ∷ []) w n
last-known ns n w m h =
    record {
      message = m;
      is =
          subst (λ i. slice_get (ns ++ node_at n w m ∷ []) i ≡ Some (node_at n w m)) h
          (slice_get-end ns (node_at n w m));
    }

-- a node that may close, with other events around it that close nothing
closing-well : (c : Bool) (w : Way) (d : ℕ) (ns : List ClosingNode) (k : Count) → AreKnown ns w
    → WellClosed ns k (closing_if c w ++ process_node d ∷ [])
closing-well true w d ns k h = (h, (tt, tt))
closing-well false w d ns k h = (tt, tt)

closing-known : (c : Bool) (w : Way) (d : ℕ) (ns : List ClosingNode) (k : Count)
    → length ns ≡ k.actions
    → IsKnown (ns ++ closing_nodes k (closing_if c w ++ process_node d ∷ [])) w (number_if c k)
closing-known true w d ns k h = last-known ns k.actions w None h
closing-known false w d ns k h = tt

-- the events of p behind step s of way w are well closed
abbrev pub StaysWell : Base → InlinedTree → Way → ℕ → Type 0
StaysWell b p w d =
    (ns : List ClosingNode) (k : Count) → length ns ≡ k.actions → AreKnown ns w
    → WellClosed ns k (events b w d p k)

-- the two branches behind a test
two-well : (b : Base) (p r : InlinedTree) (s t : Step) (w : Way) (d : ℕ) (zs : List (Place × ℕ))
    → closes s ≡ None → closes t ≡ None → StaysWell b p (s ∷ w) (suc d)
    → StaysWell b r (t ∷ w) (suc d) → (ns : List ClosingNode) (k : Count)
    → length ns ≡ k.actions → AreKnown ns w
    → WellClosed ns k ((process_node d ∷ nodes_of_formula w zs)
    ++ (events b (s ∷ w) (suc d) p (counted_all k (process_node d ∷ nodes_of_formula w zs))
    ++ events b (t ∷ w) (suc d) r
    (counted_all (counted_all k (process_node d ∷ nodes_of_formula w zs))
    (events b (s ∷ w) (suc d) p (counted_all k (process_node d ∷ nodes_of_formula w zs))))))
two-well b p r s t w d zs e f stays stays_else ns k l h =
    let vs = process_node d ∷ nodes_of_formula w zs in
    let ms = ns ++ closing_nodes k vs in
    let j = counted_all k vs in
    let us = events b (s ∷ w) (suc d) p j in
    let here = are-known-still ns (closing_nodes k vs) w h in
    let long = all-longer ns k vs l in
    let first : AreKnown ms (s ∷ w) = (subst (IsKnown ms w) (sym e) tt, here) in
    let second : AreKnown (ms ++ closing_nodes j us) (t ∷ w) = (
      subst (IsKnown (ms ++ closing_nodes j us) w) (sym f) tt,
      are-known-still ms (closing_nodes j us) w here,
    ) in
    well-append ns k vs (us ++ events b (t ∷ w) (suc d) r (counted_all j us))
    (tt, formula-well w zs (ns ++ []) (counted k (process_node d)))
    (well-append ms j us (events b (t ∷ w) (suc d) r (counted_all j us))
    (stays ms j long first)
    (stays_else (ms ++ closing_nodes j us) (counted_all j us) (all-longer ms j us long) second))

-- ---- processes

module _ (b : Base) where
  mutual
    pub all-well : (p : InlinedTree) (w : Way) (d : ℕ) (ns : List ClosingNode) (k : Count)
        → length ns ≡ k.actions → AreKnown ns w → WellClosed ns k (events b w d p k)
    all-well q.unwritten w d ns k l h = by (pending w)
      where
        by : (c : Bool) → WellClosed ns k (closing_if c w)
        by true = (h, tt)
        by false = tt
    all-well q.null w d ns k l h = closing-well (pending w) w d ns k h
    all-well (q.new x p) w d ns k l h =
        let vs = process_node d ∷ create w x ∷ [] in
        well-append ns k vs (events b (creates x k.names ∷ w) (suc d) p (counted_all k vs))
        (tt, (tt, tt))
        (all-well p (creates x k.names ∷ w) (suc d) (ns ++ []) (counted_all k vs)
        (all-longer ns k vs l) (tt, are-known-still ns [] w h))
    all-well (q.receive c x p) w d ns k l h =
        let vs = channel w c ∷ (closing w ++ process_node d ∷ []) in
        let v = receives x (number w k) ∷ w in
        let known : AreKnown (ns ++ closing_nodes k vs) v =
        (closing-known (pending w) w d ns k l, are-known-still ns (closing_nodes k vs) w h) in
        well-append ns k vs (events b v (suc d) p (counted_all k vs))
        (tt, closing-well (pending w) w d (ns ++ []) k (are-known-still ns [] w h))
        (all-well p v (suc d) (ns ++ closing_nodes k vs) (counted_all k vs) (all-longer ns k vs l)
        known)
    all-well (q.send c m p) w d ns k l h =
        let zs = zip (places (scope b w) [] Message m) (levels (suc d) m) in
        let vs =
        channel w c ∷ process_node d
        ∷ (formula b w [] Message (suc d) m ++ close w (Some m) ∷ []) in
        let v = sends m k.actions ∷ w in
        let closed : closing_nodes k vs ≡ node_at k.actions w (Some m) ∷ [] =
        message-nodes w zs (Some m) (counted k (process_node d)) in
        let last : Known (ns ++ closing_nodes k vs) w k.actions =
        subst (λ ms. Known (ns ++ ms) w k.actions) (sym closed)
        (last-known ns k.actions w (Some m) l) in
        let twice = are-known-still (ns ++ []) [] w (are-known-still ns [] w h) in
        well-append ns k vs (events b v (suc d) p (counted_all k vs))
        (tt, (tt, message-well w zs (Some m) ((ns ++ []) ++ []) (counted k (process_node d)) twice))
        (all-well p v (suc d) (ns ++ closing_nodes k vs) (counted_all k vs) (all-longer ns k vs l)
        (last, are-known-still ns (closing_nodes k vs) w h))
    all-well (q.branch a p r) w d ns k l h =
        two-well b p r (tests a true) (tests a false) w d
        (zip (places (scope b w) [] Boolean a) (levels (suc d) a)) refl refl
        (all-well p (tests a true ∷ w) (suc d)) (all-well r (tests a false ∷ w) (suc d)) ns k l h
    all-well (q.find ms a p r) w d ns k l h =
        two-well b p r (finds ms a true) (finds ms a false) w d
        (zip (places (scope b w) (group_variables Index ms) Boolean a) (levels (suc d) a)) refl
        refl (all-well p (finds ms a true ∷ w) (suc d)) (all-well r (finds ms a false ∷ w) (suc d))
        ns k l h
    all-well (q.define x u p) w d ns k l h =
        let zs = zip (places (scope b w) [] (let_sort b w u) u) (levels (suc d) u) in
        let vs = process_node d ∷ nodes_of_formula w zs in
        let ms = closing_nodes k vs in
        well-append ns k vs (events b (defines x u ∷ w) (suc d) p (counted_all k vs))
        (tt, formula-well w zs (ns ++ []) (counted k (process_node d)))
        (all-well p (defines x u ∷ w) (suc d) (ns ++ ms) (counted_all k vs) (all-longer ns k vs l)
        (tt, are-known-still ns ms w h))
    all-well (q.replicate i p) w d ns k l h =
        let vs = closing w ++ process_node d ∷ [] in
        let v = repeats i (number w k) ∷ w in
        well-append ns k vs (events b v (suc d) p (counted_all k vs))
        (closing-well (pending w) w d ns k h)
        (all-well p v (suc d) (ns ++ closing_nodes k vs) (counted_all k vs) (all-longer ns k vs l)
        (closing-known (pending w) w d ns k l, are-known-still ns (closing_nodes k vs) w h))
    all-well (q.label n p) w d ns k l h =
        let vs = process_node d ∷ [] in
        well-append ns k vs (events b (labels n ∷ w) (suc d) p (counted_all k vs)) (tt, tt)
        (all-well p (labels n ∷ w) (suc d) (ns ++ []) (counted_all k vs) (all-longer ns k vs l)
        (tt, are-known-still ns [] w h))
    all-well (q.enclosed p) w d ns k l h =
        let vs = process_node d ∷ [] in
        well-append ns k vs (events b w (suc d) p (counted_all k vs)) (tt, tt)
        (all-well p w (suc d) (ns ++ []) (counted_all k vs) (all-longer ns k vs l)
        (are-known-still ns [] w h))
    all-well (q.parallel ps) w d ns k l h =
        let vs = closing w ++ process_node d ∷ [] in
        well-append ns k vs (part_events b w (suc d) (number w k) 0 ps (counted_all k vs))
        (closing-well (pending w) w d ns k h)
        (parts-well ps w (suc d) (number w k) 0 (ns ++ closing_nodes k vs) (counted_all k vs)
        (all-longer ns k vs l) (closing-known (pending w) w d ns k l)
        (are-known-still ns (closing_nodes k vs) w h))
    all-well (q.called x args params p) w d ns k l h =
        let vs = calls w x (Some (length params)) (length args) ∷ map (argument w) args in
        let ms = closing_nodes k vs in
        well-append ns k vs (events b (enters params args ∷ w) d p (counted_all k vs))
        (tt, arguments-well w args (ns ++ []) k)
        (all-well p (enters params args ∷ w) d (ns ++ ms) (counted_all k vs) (all-longer ns k vs l)
        (tt, are-known-still ns ms w h))
    all-well (q.uncalled x) w d ns k l h = (tt, tt)

    parts-well : (ps : InlinedTrees) (w : Way) (d : ℕ) (a : Option ℕ) (j : ℕ)
        (ns : List ClosingNode) (k : Count) → length ns ≡ k.actions → IsKnown ns w a
        → AreKnown ns w → WellClosed ns k (part_events b w d a j ps k)
    parts-well q.none w d a j ns k l n h = tt
    parts-well (q.more p ps) w d a j ns k l n h =
        let v = part j (are_more ps) a ∷ w in
        let us = events b v d p k in
        let ms = closing_nodes k us in
        well-append ns k us (part_events b w d a (suc j) ps (counted_all k us))
        (all-well p v d ns k l (n, h))
        (parts-well ps w d a (suc j) (ns ++ ms) (counted_all k us) (all-longer ns k us l)
        (is-known-still ns ms w a n) (are-known-still ns ms w h))
