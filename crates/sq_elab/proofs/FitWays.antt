-- On the way to each closing node of a process that is not refused no formula speaks of time, and
-- the arguments of calls mean indices.
use Rattle.std.proofs.Common.{◌≡◌, ℕ, zero, suc, List, [], ◌∷◌, ◌++◌, map, length}
use Rattle.std.proofs.Common.{Bool, true, false, if◌then◌else◌, Option, Some, None, refl, ap}
use Rattle.std.proofs.Common.{subst, slice_get, option_map}
use Rattle.std.specs.Prelude.{zip}
use Rattle.sq_base.specs.declared.sort.Sort.{Sort}
use Rattle.sq_base.specs.declared.sort.Sort.TheVariants.{Message, Boolean, Index}
use Rattle.sq_ast.specs.Tree.{FormulaTree, name}
use Rattle.sq_elab.specs.declared.fault.ElabFault.TheVariants as fault
use Rattle.sq_elab.specs.Events.{Event, process_node, formula_node, calls, argument, channel}
use Rattle.sq_elab.specs.Events.{create, close, Count, counted, counted_all, formula}
use Rattle.sq_elab.specs.Events.{closing, number, are_more, events, part_events}
use Rattle.sq_elab.specs.Faults as f
use Rattle.sq_elab.specs.Faults.{faults, first_of, shape_fault, node_fault}
use Rattle.sq_elab.specs.Faults.{of_resolving}
use Rattle.sq_elab.specs.Inlined as q
use Rattle.sq_elab.specs.Inlined.{InlinedTree, InlinedTrees}
use Rattle.sq_elab.specs.Meanings.{Base, scope, let_sort}
use Rattle.sq_resolve.specs.declared.fault.ResolveFault.{ResolveFault}
use Rattle.sq_resolve.specs.Places.{Place, places, own_fault}
use Rattle.sq_resolve.specs.Scopes.{Variable, first_some}
use Rattle.sq_resolve.specs.Stops.{speaks_of_time, levels}
use Rattle.sq_resolve.specs.Resolved.{group_variables}
use Rattle.sq_elab.specs.Outcome.{ClosingNode, closing_nodes}
use Rattle.sq_elab.specs.Ways.{creates, receives, repeats, sends, tests, finds, defines}
use Rattle.sq_elab.specs.Ways.{part, labels, enters, Way, pending}
use Rattle.sq_elab.proofs.LimitLaws.{first-none, rest-none}
use Rattle.sq_elab.proofs.LineLaws.{nodes_of_formula}
use Rattle.sq_elab.proofs.Timeless.{IsTimeless, AreTimelessPairs, timeless_formula}

-- ---- ways

-- the argument of a call means an index on the way
abbrev pub IsIndexThere : Base → Way → List ℕ → Type 0
IsIndexThere b w y = own_fault (scope b w) [] Index (name y) ≡ None

abbrev pub AreIndicesThere : Base → Way → List (List ℕ) → Type 0
AreIndicesThere b w [] = Unit {0}
AreIndicesThere b w (y ∷ ys) = IsIndexThere b w y × AreIndicesThere b w ys

abbrev pub IsFitWay : Base → Way → Type 0
IsFitWay b [] = Unit {0}
IsFitWay b (creates x k ∷ w) = IsFitWay b w
IsFitWay b (receives x a ∷ w) = IsFitWay b w
IsFitWay b (repeats i a ∷ w) = IsFitWay b w
IsFitWay b (sends m a ∷ w) = IsFitWay b w
IsFitWay b (tests a x ∷ w) = IsTimeless a × IsFitWay b w
IsFitWay b (finds ns a x ∷ w) = IsTimeless a × IsFitWay b w
IsFitWay b (defines x a ∷ w) = IsTimeless a × IsFitWay b w
IsFitWay b (part k more a ∷ w) = IsFitWay b w
IsFitWay b (labels l ∷ w) = IsFitWay b w
IsFitWay b (enters xs ys ∷ w) = AreIndicesThere b w ys × IsFitWay b w

abbrev pub IsFitMessage : Option FormulaTree → Type 0
IsFitMessage None = Unit {0}
IsFitMessage (Some a) = IsTimeless a

abbrev pub IsFitEvent : Base → Event → Type 0
IsFitEvent b (close w m) = IsFitWay b w × IsFitMessage m
IsFitEvent b v = Unit {0}

abbrev pub AreFit : Base → List Event → Type 0
AreFit b [] = Unit {0}
AreFit b (v ∷ vs) = IsFitEvent b v × AreFit b vs

fit-append : (b : Base) (vs us : List Event) → AreFit b vs → AreFit b us → AreFit b (vs ++ us)
fit-append b [] us h g = g
fit-append b (v ∷ vs) us h g = (h.0, fit-append b vs us h.1 g)

-- ---- no faults

abbrev pub NoFaults : Base → Count → List Event → Type 0
NoFaults b k [] = Unit {0}
NoFaults b k (v ∷ vs) = (f.fault b k v ≡ None) × NoFaults b (counted k v) vs

pub no-faults : (b : Base) (k : Count) (vs : List Event) → first_of (faults b k vs) ≡ None
    → NoFaults b k vs
no-faults b k [] e = tt
no-faults b k (v ∷ vs) e = (
  first-none (f.fault b k v) (faults b (counted k v) vs) e,
  no-faults b (counted k v) vs (rest-none (f.fault b k v) (faults b (counted k v) vs) e),
)

pub no-faults-front : (b : Base) (k : Count) (vs us : List Event) → NoFaults b k (vs ++ us)
    → NoFaults b k vs
no-faults-front b k [] us h = tt
no-faults-front b k (v ∷ vs) us h = (h.0, no-faults-front b (counted k v) vs us h.1)

pub no-faults-rest : (b : Base) (k : Count) (vs us : List Event) → NoFaults b k (vs ++ us)
    → NoFaults b (counted_all k vs) us
no-faults-rest b k [] us h = h
no-faults-rest b k (v ∷ vs) us h = no-faults-rest b (counted k v) vs us h.1

first-is-none : {A : Type 0} (o p : Option A) → first_some o p ≡ None → o ≡ None
first-is-none None p e = refl
first-is-none (Some a) p e = e

second-is-none : {A : Type 0} (o p : Option A) → first_some o p ≡ None → p ≡ None
second-is-none None p e = e
second-is-none (Some a) p e = absurd (cc (e))

no-shape-fault : (a : FormulaTree) → shape_fault a ≡ None → speaks_of_time a ≡ false
no-shape-fault a e = by (speaks_of_time a) e
  where
    by : (c : Bool) → (if c then Some fault.ProcessShape else None) ≡ None → c ≡ false
    by true h = absurd (cc (h))
    by false h = refl

pairs-timeless : (b : Base) (w : Way) (zs : List (Place × ℕ)) (k : Count)
    → NoFaults b k (nodes_of_formula w zs) → AreTimelessPairs zs
pairs-timeless b w [] k h = tt
pairs-timeless b w (z ∷ zs) k h =
    let p = z.0 in
    let own = option_map of_resolving (own_fault (scope b w) p.around p.want p.tree) in
    let rest = second-is-none own (first_some (shape_fault p.tree) (node_fault k z.1)) h.0 in (
      no-shape-fault p.tree (first-is-none (shape_fault p.tree) (node_fault k z.1) rest),
      pairs-timeless b w zs (counted k (formula_node w p z.1)) h.1,
    )

abbrev pairs : Base → Way → List Variable → Sort → ℕ → FormulaTree → List (Place × ℕ)
pairs b w bs want d a = zip (places (scope b w) bs want a) (levels d a)

formula-timeless : (b : Base) (w : Way) (bs : List Variable) (want : Sort) (d : ℕ)
    (a : FormulaTree) (k : Count) → NoFaults b k (formula b w bs want d a) → IsTimeless a
formula-timeless b w bs want d a k h =
    timeless_formula (scope b w) bs want d a (pairs-timeless b w (pairs b w bs want d a) k h)

formula-fit : (b : Base) (w : Way) (zs : List (Place × ℕ)) → AreFit b (nodes_of_formula w zs)
formula-fit b w [] = tt
formula-fit b w (z ∷ zs) = (tt, formula-fit b w zs)

not-mapped : (o : Option ResolveFault) → option_map of_resolving o ≡ None → o ≡ None
not-mapped None e = refl
not-mapped (Some a) e = absurd (cc (e))

arguments-there : (b : Base) (w : Way) (ys : List (List ℕ)) (k : Count)
    → NoFaults b k (map (argument w) ys) → AreIndicesThere b w ys
arguments-there b w [] k h = tt
arguments-there b w (y ∷ ys) k h =
    (not-mapped (own_fault (scope b w) [] Index (name y)) h.0, arguments-there b w ys k h.1)

arguments-fit : (b : Base) (w : Way) (ys : List (List ℕ)) → AreFit b (map (argument w) ys)
arguments-fit b w [] = tt
arguments-fit b w (y ∷ ys) = (tt, arguments-fit b w ys)

-- ---- processes

closing-fit : (b : Base) (w : Way) → IsFitWay b w → AreFit b (closing w)
closing-fit b w h = by (pending w)
  where
    by : (c : Bool) → AreFit b (if c then close w None ∷ [] else [])
    by true = ((h, tt), tt)
    by false = tt

closing-node-fit : (b : Base) (w : Way) (d : ℕ) → IsFitWay b w
    → AreFit b (closing w ++ process_node d ∷ [])
closing-node-fit b w d h =
    fit-append b (closing w) (process_node d ∷ []) (closing-fit b w h) (tt, tt)

-- what stays fit behind a way
abbrev StaysFit : Base → InlinedTree → Way → ℕ → Type 0
StaysFit b p w d =
    (k : Count) → IsFitWay b w → NoFaults b k (events b w d p k) → AreFit b (events b w d p k)

-- the two branches behind a test
branches-fit : (b : Base) (p r : InlinedTree) (v u : Way) (d : ℕ) (vs : List Event)
    → AreFit b vs → StaysFit b p v d → StaysFit b r u d → (k : Count)
    → ((NoFaults b k vs) → IsFitWay b v × IsFitWay b u)
    → NoFaults b k (vs ++ (events b v d p (counted_all k vs)
    ++ events b u d r (counted_all (counted_all k vs) (events b v d p (counted_all k vs)))))
    → AreFit b (vs ++ (events b v d p (counted_all k vs)
    ++ events b u d r (counted_all (counted_all k vs) (events b v d p (counted_all k vs)))))
branches-fit b p r v u d vs here stays stays_else k ways h =
    let j = counted_all k vs in
    let first = events b v d p j in
    let second = events b u d r (counted_all j first) in
    let fit = ways (no-faults-front b k vs (first ++ second) h) in
    let behind = no-faults-rest b k vs (first ++ second) h in
    fit-append b vs (first ++ second) here
    (fit-append b first second (stays j fit.0 (no-faults-front b j first second behind))
    (stays_else (counted_all j first) fit.1 (no-faults-rest b j first second behind)))

-- one process behind some events
rest-fit : (b : Base) (p : InlinedTree) (v : Way) (d : ℕ) (vs : List Event) → AreFit b vs
    → StaysFit b p v d → (k : Count) → (NoFaults b k vs → IsFitWay b v)
    → NoFaults b k (vs ++ events b v d p (counted_all k vs))
    → AreFit b (vs ++ events b v d p (counted_all k vs))
rest-fit b p v d vs here stays k way h =
    let rest = events b v d p (counted_all k vs) in
    fit-append b vs rest here
    (stays (counted_all k vs) (way (no-faults-front b k vs rest h)) (no-faults-rest b k vs rest h))

module _ (b : Base) where
  mutual
    pub all-fit : (p : InlinedTree) (w : Way) (d : ℕ) (k : Count) → IsFitWay b w
        → NoFaults b k (events b w d p k) → AreFit b (events b w d p k)
    all-fit q.unwritten w d k g h = closing-fit b w g
    all-fit q.null w d k g h = closing-node-fit b w d g
    all-fit (q.new x p) w d k g h =
        rest-fit b p (creates x k.names ∷ w) (suc d) (process_node d ∷ create w x ∷ [])
        (tt, (tt, tt)) (all-fit p (creates x k.names ∷ w) (suc d)) k (λ e. g) h
    all-fit (q.receive c x p) w d k g h =
        let v = receives x (number w k) ∷ w in
        rest-fit b p v (suc d) (channel w c ∷ (closing w ++ process_node d ∷ []))
        (tt, closing-node-fit b w d g) (all-fit p v (suc d)) k (λ e. g) h
    all-fit (q.send c m p) w d k g h =
        let message = formula b w [] Message (suc d) m in
        let vs = channel w c ∷ process_node d ∷ (message ++ close w (Some m) ∷ []) in
        let l = counted k (process_node d) in
        let front = no-faults-front b k vs (events b (sends m k.actions ∷ w) (suc d) p
        (counted_all k vs)) h in
        let timeless =
        formula-timeless b w [] Message (suc d) m l
        (no-faults-front b l message (close w (Some m) ∷ []) front.1.1) in
        rest-fit b p (sends m k.actions ∷ w) (suc d) vs (
          tt,
          (
            tt,
            fit-append b message (close w (Some m) ∷ [])
                (formula-fit b w (pairs b w [] Message (suc d) m)) ((g, timeless), tt),
          ),
        )
        (all-fit p (sends m k.actions ∷ w) (suc d)) k (λ e. g) h
    all-fit (q.branch a p r) w d k g h =
        branches-fit b p r (tests a true ∷ w) (tests a false ∷ w) (suc d)
        (process_node d ∷ formula b w [] Boolean (suc d) a)
        (tt, formula-fit b w (pairs b w [] Boolean (suc d) a))
        (all-fit p (tests a true ∷ w) (suc d)) (all-fit r (tests a false ∷ w) (suc d)) k
        (λ e. let l =
        formula-timeless b w [] Boolean (suc d) a (counted k (process_node d)) e.1 in
        ((l, g), (l, g))) h
    all-fit (q.find ns a p r) w d k g h =
        let bs = group_variables Index ns in
        branches-fit b p r (finds ns a true ∷ w) (finds ns a false ∷ w) (suc d)
        (process_node d ∷ formula b w bs Boolean (suc d) a)
        (tt, formula-fit b w (pairs b w bs Boolean (suc d) a))
        (all-fit p (finds ns a true ∷ w) (suc d)) (all-fit r (finds ns a false ∷ w) (suc d)) k
        (λ e. let l =
        formula-timeless b w bs Boolean (suc d) a (counted k (process_node d)) e.1 in
        ((l, g), (l, g))) h
    all-fit (q.define x u p) w d k g h =
        let s = let_sort b w u in
        rest-fit b p (defines x u ∷ w) (suc d) (process_node d ∷ formula b w [] s (suc d) u)
        (tt, formula-fit b w (pairs b w [] s (suc d) u)) (all-fit p (defines x u ∷ w) (suc d)) k
        (λ e. (formula-timeless b w [] s (suc d) u (counted k (process_node d)) e.1, g)) h
    all-fit (q.replicate i p) w d k g h =
        let v = repeats i (number w k) ∷ w in
        rest-fit b p v (suc d) (closing w ++ process_node d ∷ []) (closing-node-fit b w d g)
        (all-fit p v (suc d)) k (λ e. g) h
    all-fit (q.label n p) w d k g h =
        rest-fit b p (labels n ∷ w) (suc d) (process_node d ∷ []) (tt, tt)
        (all-fit p (labels n ∷ w) (suc d)) k (λ e. g) h
    all-fit (q.enclosed p) w d k g h =
        rest-fit b p w (suc d) (process_node d ∷ []) (tt, tt) (all-fit p w (suc d)) k (λ e. g) h
    all-fit (q.parallel ps) w d k g h =
        let vs = closing w ++ process_node d ∷ [] in
        let j = counted_all k vs in
        let rest = part_events b w (suc d) (number w k) 0 ps j in
        fit-append b vs rest (closing-node-fit b w d g)
        (parts-fit ps w (suc d) (number w k) 0 j g (no-faults-rest b k vs rest h))
    all-fit (q.called x args params p) w d k g h =
        rest-fit b p (enters params args ∷ w) d
        (calls w x (Some (length params)) (length args) ∷ map (argument w) args)
        (tt, arguments-fit b w args) (all-fit p (enters params args ∷ w) d) k
        (λ e. (arguments-there b w args k e.1, g)) h
    all-fit (q.uncalled x) w d k g h = (tt, tt)

    parts-fit : (ps : InlinedTrees) (w : Way) (d : ℕ) (a : Option ℕ) (j : ℕ) (k : Count)
        → IsFitWay b w → NoFaults b k (part_events b w d a j ps k)
        → AreFit b (part_events b w d a j ps k)
    parts-fit q.none w d a j k g h = tt
    parts-fit (q.more p ps) w d a j k g h =
        let v = part j (are_more ps) a ∷ w in
        let us = events b v d p k in
        let rest = part_events b w d a (suc j) ps (counted_all k us) in
        fit-append b us rest (all-fit p v d k g (no-faults-front b k us rest h))
        (parts-fit ps w d a (suc j) (counted_all k us) g (no-faults-rest b k us rest h))

-- ---- closing nodes

pub record IsFitNode (b : Base) (n : ClosingNode) : Type 0 where
  pub way : IsFitWay b n.way
  pub message : IsFitMessage n.message

abbrev node_or : ClosingNode → Option ClosingNode → ClosingNode
node_or x (Some n) = n
node_or x None = x

pub fit-node : (b : Base) (k : Count) (vs : List Event) → AreFit b vs → (i : ℕ) (n : ClosingNode)
    → slice_get (closing_nodes k vs) i ≡ Some n → IsFitNode b n
fit-node b k [] h i n e = absurd (cc (e))
fit-node b k (process_node d ∷ vs) h i n e =
    fit-node b (counted k (process_node d)) vs h.1 i n e
fit-node b k (formula_node w p d ∷ vs) h i n e =
    fit-node b (counted k (formula_node w p d)) vs h.1 i n e
fit-node b k (calls w x c d ∷ vs) h i n e = fit-node b k vs h.1 i n e
fit-node b k (argument w y ∷ vs) h i n e = fit-node b k vs h.1 i n e
fit-node b k (channel w x ∷ vs) h i n e = fit-node b k vs h.1 i n e
fit-node b k (create w x ∷ vs) h i n e = fit-node b (counted k (create w x)) vs h.1 i n e
fit-node b k (close w m ∷ vs) h zero n e =
    subst (IsFitNode b) (ap (node_or n) e) (record { way = h.0.0; message = h.0.1 })
fit-node b k (close w m ∷ vs) h (suc i) n e =
    fit-node b (counted k (close w m)) vs h.1 i n e
