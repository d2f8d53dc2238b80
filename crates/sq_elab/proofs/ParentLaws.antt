-- An action's parent comes before it, and the action's path goes on from the parent's.
use Rattle.std.proofs.Common.{◌≡◌, ℕ, zero, suc, ◌<◌, ◌≤◌, List, [], ◌∷◌, ◌++◌, map, length}
use Rattle.std.proofs.Common.{Option, Some, None, Ok, Err, refl, sym, ap, ◌∙◌, subst, arith}
use Rattle.std.proofs.Common.{slice_get, append_assoc, append-nil}
use Rattle.std.specs.Prelude.{Result, IfSome}
use Rattle.sq_ast.specs.Tree.{FormulaTree}
use Rattle.sq_resolve.specs.Scopes.{first_some}
use Rattle.sq_term.specs.declared.action.PathStep.{PathStep}
use Rattle.sq_term.specs.declared.action.PathStep.TheVariants.{Rep, Done}
use Rattle.sq_term.specs.Systems.{ActionTree}
use Rattle.sq_elab.specs.declared.fault.ElabFault.{ElabFault}
use Rattle.sq_elab.specs.Events.{Event, process_node, formula_node, calls, argument, channel}
use Rattle.sq_elab.specs.Events.{create, close, Count, counted}
use Rattle.sq_elab.specs.Inlined.{inlined}
use Rattle.sq_elab.specs.Laws.{GoesOnFrom, ParentsGoBefore}
use Rattle.sq_elab.specs.Meanings.{Base}
use Rattle.sq_elab.specs.Outcome.{ClosingNode, closing_nodes, action_at_node, start, all_events}
use Rattle.sq_elab.specs.Outcome.{nodes_of, Elaborated, elaborated, refusal, refused_or}
use Rattle.sq_elab.specs.Ways.{Step, creates, receives, repeats, sends, tests, finds, defines}
use Rattle.sq_elab.specs.Ways.{part, labels, enters, Way, closes, indices, parent, sides, marks}
use Rattle.sq_elab.specs.Ways.{path, closed_path}
use Rattle.sq_elab.proofs.LineLaws.{node_at, Known, IsKnown, AreKnown, are-known-still}
use Rattle.sq_elab.proofs.LineLaws.{WellClosed, all-well}
use Rattle.sq_elab.proofs.PathLaws.{closed-path-at}
use Rattle.sq_elab.proofs.WayLaws.{slice_get-front}

-- ---- a closing node among the others

pub record Standing (ns all : List ClosingNode) (i : ℕ) (n : ClosingNode) : Type 0 where
  pub before : List ClosingNode
  pub after : List ClosingNode
  pub split : all ≡ before ++ n ∷ after
  pub long : length before ≡ i
  pub known : AreKnown (ns ++ before) n.way

abbrev node_or : ClosingNode → Option ClosingNode → ClosingNode
node_or x (Some n) = n
node_or x None = x

standing-first : (ns rest : List ClosingNode) (a : ℕ) (w : Way) (m : Option FormulaTree)
    (n : ClosingNode) → AreKnown ns w → node_at a w m ≡ n
    → Standing ns (node_at a w m ∷ rest) 0 n
standing-first ns rest a w m n h same =
    record {
      before = [];
      after = rest;
      split = ap (λ x. x ∷ rest) same;
      long = refl;
      known = subst (λ x. AreKnown (ns ++ []) x.way) same (are-known-still ns [] w h);
    }

standing-behind : (ns rest : List ClosingNode) (x : ClosingNode) (i : ℕ) (n : ClosingNode)
    → Standing (ns ++ x ∷ []) rest i n → Standing ns (x ∷ rest) (suc i) n
standing-behind ns rest x i n s =
    record {
      before = x ∷ s.before;
      after = s.after;
      split = ap (λ l. x ∷ l) s.split;
      long = ap suc s.long;
      known = subst (λ l. AreKnown l n.way) (append_assoc ns (x ∷ []) s.before) s.known;
    }

same-nodes : (ns : List ClosingNode) (k : Count) (vs : List Event) → WellClosed (ns ++ []) k vs
    → WellClosed ns k vs
same-nodes ns k vs h = subst (λ l. WellClosed l k vs) (append-nil ns) h

pub standing : (ns : List ClosingNode) (k : Count) (vs : List Event) → WellClosed ns k vs → (i : ℕ)
    (n : ClosingNode) → slice_get (closing_nodes k vs) i ≡ Some n
    → Standing ns (closing_nodes k vs) i n
standing ns k [] h i n e = absurd (cc (e))
standing ns k (process_node d ∷ vs) h i n e =
    standing ns (counted k (process_node d)) vs
    (same-nodes ns (counted k (process_node d)) vs h.1) i n e
standing ns k (formula_node w p d ∷ vs) h i n e =
    standing ns (counted k (formula_node w p d)) vs
    (same-nodes ns (counted k (formula_node w p d)) vs h.1) i n e
standing ns k (calls w x c d ∷ vs) h i n e =
    standing ns k vs (same-nodes ns k vs h.1) i n e
standing ns k (argument w y ∷ vs) h i n e = standing ns k vs (same-nodes ns k vs h.1) i n e
standing ns k (channel w x ∷ vs) h i n e = standing ns k vs (same-nodes ns k vs h.1) i n e
standing ns k (create w x ∷ vs) h i n e =
    standing ns (counted k (create w x)) vs
    (same-nodes ns (counted k (create w x)) vs h.1) i n e
standing ns k (close w m ∷ vs) h zero n e =
    standing-first ns (closing_nodes (counted k (close w m)) vs) k.actions w m n h.0
    (ap (node_or n) e)
standing ns k (close w m ∷ vs) h (suc i) n e =
    standing-behind ns (closing_nodes (counted k (close w m)) vs) (node_at k.actions w m) i n
    (standing (ns ++ node_at k.actions w m ∷ []) (counted k (close w m)) vs h.1 i n e)

-- ---- the step that closed the parent

record ParentAt (ns : List ClosingNode) (w : Way) (p : ℕ) : Type 0 where
  behind : Way
  step : Step
  front : Way
  way_is : w ≡ behind ++ step ∷ front
  closes_is : closes step ≡ Some p
  known : Known ns front p

abbrev number_or : Option ℕ → ℕ
number_or (Some a) = a
number_or None = 0

parent-at : (ns : List ClosingNode) (w : Way) (p : ℕ) → AreKnown ns w → parent w ≡ Some p
    → ParentAt ns w p
parent-at ns [] p h e = absurd (cc (e))
parent-at ns (s ∷ w) p h e = by (closes s) refl h.0 e (λ f. parent-at ns w p h.1 f)
  where
    by : (o : Option ℕ) → closes s ≡ o → IsKnown ns w o → first_some o (parent w) ≡ Some p
        → (parent w ≡ Some p → ParentAt ns w p) → ParentAt ns (s ∷ w) p
    by (Some a) c known f rest =
        let same : a ≡ p = ap number_or f in
        record {
          behind = [];
          step = s;
          front = w;
          way_is = refl;
          closes_is = c ∙ f;
          known = subst (Known ns w) same known;
        }
    by None c known f rest =
        let at = rest f in
        record {
          behind = s ∷ at.behind;
          step = at.step;
          front = at.front;
          way_is = ap (λ v. s ∷ v) at.way_is;
          closes_is = at.closes_is;
          known = at.known;
        }

marks-done : (s : Step) (p : ℕ) → closes s ≡ Some p → (q : List PathStep) × (marks s ≡ Done ∷ q)
marks-done (creates x k) p e = absurd (cc (e))
marks-done (receives x None) p e = absurd (cc (e))
marks-done (receives x (Some a)) p e = ([], refl)
marks-done (repeats i None) p e = absurd (cc (e))
marks-done (repeats i (Some a)) p e = (Rep ∷ [], refl)
marks-done (sends m a) p e = ([], refl)
marks-done (tests f x) p e = absurd (cc (e))
marks-done (finds ns f x) p e = absurd (cc (e))
marks-done (defines x f) p e = absurd (cc (e))
marks-done (part k more None) p e = absurd (cc (e))
marks-done (part k more (Some a)) p e = (sides k more, refl)
marks-done (labels l) p e = absurd (cc (e))
marks-done (enters xs ys) p e = absurd (cc (e))

-- the path goes on behind `Done` of the closing step
goes-on : (u v : Way) (s : Step) (q : List PathStep) → marks s ≡ Done ∷ q
    → closed_path (u ++ s ∷ v) ≡ closed_path v ++ (q ++ (path u ++ Done ∷ []))
goes-on u v s q e =
    closed-path-at u v s
    ∙ (ap (λ m. path v ++ (m ++ (path u ++ Done ∷ []))) e
    ∙ sym (append_assoc (path v) (Done ∷ []) (q ++ (path u ++ Done ∷ []))))

fewer-in-front : (u v : Way) → indices v ≤ indices (u ++ v)
fewer-in-front [] v = omega arith
fewer-in-front (s ∷ u) v =
    let less : indices v ≤ indices (u ++ v) = fewer-in-front u v in
    omega arith

fewer-behind : (u v : Way) (s : Step) → indices v ≤ indices (u ++ s ∷ v)
fewer-behind u v s =
    let less : indices (s ∷ v) ≤ indices (u ++ s ∷ v) = fewer-in-front u (s ∷ v) in
    omega arith

-- ---- actions of a list of nodes

pub slice_get-map : (b : Base) (ns : List ClosingNode) (i : ℕ) (n : ClosingNode)
    → slice_get ns i ≡ Some n
    → slice_get (map (action_at_node b) ns) i ≡ Some (action_at_node b n)
slice_get-map b [] i n e = absurd (cc (e))
slice_get-map b (x ∷ ns) zero n e = ap (λ y. Some (action_at_node b y)) (ap (node_or n) e)
slice_get-map b (x ∷ ns) (suc i) n e = slice_get-map b ns i n e

abbrev action_or : ActionTree → Option ActionTree → ActionTree
action_or x (Some a) = a
action_or x None = x

pub map-slice_get : (b : Base) (ns : List ClosingNode) (i : ℕ) (a : ActionTree)
    → slice_get (map (action_at_node b) ns) i ≡ Some a
    → (n : ClosingNode) × (slice_get ns i ≡ Some n) × (action_at_node b n ≡ a)
map-slice_get b [] i a e = absurd (cc (e))
map-slice_get b (x ∷ ns) zero a e = (x, refl, ap (action_or a) e)
map-slice_get b (x ∷ ns) (suc i) a e = map-slice_get b ns i a e

slice_get-below : (ns : List ClosingNode) (i : ℕ) (n : ClosingNode) → slice_get ns i ≡ Some n
    → i < length ns
slice_get-below [] i n e = absurd (cc (e))
slice_get-below (x ∷ ns) zero n e = omega arith
slice_get-below (x ∷ ns) (suc i) n e =
    let below : i < length ns = slice_get-below ns i n e in omega arith

-- ---- the law

module _ (b : Base) (all : List ClosingNode) (k : ℕ) (n : ClosingNode)
    (here : Standing [] all k n) where
  goes-on-from : (p : ℕ) → parent n.way ≡ Some p
      → GoesOnFrom (map (action_at_node b) all) k (action_at_node b n) p
  goes-on-from p e =
      let at = parent-at here.before n.way p here.known e in
      let known = at.known in
      let node = node_at p at.front known.message in
      let done = marks-done at.step p at.closes_is in
      let within : slice_get all p ≡ Some node =
      subst (λ l. slice_get l p ≡ Some node) (sym here.split)
      (slice_get-front here.before (n ∷ here.after) p node known.is) in
      let below : p < length here.before = slice_get-below here.before p node known.is in
      let long : length here.before ≡ k = here.long in
      let fewer : indices at.front ≤ indices (at.behind ++ at.step ∷ at.front) =
      fewer-behind at.behind at.front at.step in
      record {
        earlier = omega arith;
        there = action_at_node b node;
        there_is = slice_get-map b all p node within;
        rest = done.0 ++ (path at.behind ++ Done ∷ []);
        path_is = ap closed_path at.way_is ∙ goes-on at.behind at.front at.step done.0 done.1;
        fewer = subst (λ w. indices at.front ≤ indices w) (sym at.way_is) fewer;
      }

  parent-goes-before : IfSome (parent n.way)
      (GoesOnFrom (map (action_at_node b) all) k (action_at_node b n))
  parent-goes-before = by (parent n.way) refl
    where
      by : (o : Option ℕ) → parent n.way ≡ o
          → IfSome o (GoesOnFrom (map (action_at_node b) all) k (action_at_node b n))
      by (Some p) e = goes-on-from p e
      by None e = tt

abbrev actions_or : Result Elaborated ElabFault → List ActionTree
actions_or (Ok r) = r.actions
actions_or (Err e) = []

pub parents_go_before : ParentsGoBefore
parents_go_before b p r e k a s = by (refusal b p) e
  where
    by : (o : Option ElabFault) → refused_or o (elaborated b p) ≡ Ok r
        → IfSome a.parent (GoesOnFrom r.actions k a)
    by (Some x) same = absurd (cc (same))
    by None same =
        let nodes = nodes_of b p in
        let actions : map (action_at_node b) nodes ≡ r.actions = ap actions_or same in
        let found =
        map-slice_get b nodes k a (subst (λ xs. slice_get xs k ≡ Some a) (sym actions) s) in
        let well =
        all-well b (inlined b.table b.processes (length b.table) p) [] 1 [] (start b) refl tt in
        let here = standing [] (start b) (all_events b p) well k found.0 found.1 in
        subst (λ x. IfSome x.parent (GoesOnFrom r.actions k x)) found.2
        (subst (λ xs. IfSome (parent found.0.way)
        (GoesOnFrom xs k (action_at_node b found.0))) actions
        (parent-goes-before b nodes k found.0 here))
