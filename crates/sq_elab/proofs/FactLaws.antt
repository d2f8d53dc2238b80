-- The actions of a process that is not refused are a system's.
use Rattle.std.proofs.Common.{◌≡◌, ℕ, zero, suc, ◌+◌, ◌≤◌, List, [], ◌∷◌, ◌++◌, map, length}
use Rattle.std.proofs.Common.{true, false, Option, Some, None, Ok, Err, refl, sym, ap}
use Rattle.std.proofs.Common.{arith, subst, slice_get, fold, sum_by, IfSome}
use Rattle.std.specs.Prelude.{Result}
use Rattle.sq_base.specs.declared.sort.Sort.{Sort}
use Rattle.sq_base.specs.declared.sort.Sort.TheVariants.{Message, Boolean, Index}
use Rattle.sq_ast.specs.declared.formula.Quantifier.{Quantifier}
use Rattle.sq_ast.specs.declared.formula.Quantifier.TheVariants.{Forall, Exists}
use Rattle.sq_ast.specs.ProcTree.{ProcTree}
use Rattle.sq_ast.specs.Tree.{FormulaTree}
use Rattle.sq_term.specs.declared.action.PathStep.{PathStep}
use Rattle.sq_term.specs.declared.action.PathStep.TheVariants.{Done}
use Rattle.sq_term.specs.declared.term.Idx.TheVariants as idx
use Rattle.sq_term.specs.Arguments.{ArgTree}
use Rattle.sq_term.specs.Formulas.{negation}
use Rattle.sq_term.specs.Lists.{count}
use Rattle.sq_term.specs.Syntax.{TermTree, action}
use Rattle.sq_term.specs.Systems.{ActionTree, SystemTree, indices_bound}
use Rattle.sq_system.specs.Facts.{OnLine, itself, before, first_indices, AreIndicesOf, IsBody}
use Rattle.sq_system.specs.Facts.{IsParent, IsAction, IsSystem}
use Rattle.sq_elab.specs.declared.fault.ElabFault.{ElabFault}
use Rattle.sq_elab.specs.Actions.{conj, branch_test, find_test, tests_since, output}
use Rattle.sq_elab.specs.Inlined.{inlined}
use Rattle.sq_elab.specs.Laws.{GoesOnFrom, IsFit, SystemsKeepTheirFacts}
use Rattle.sq_elab.specs.Meanings.{Base, let_sort, value_count, held, Closing, from_step, values}
use Rattle.sq_resolve.specs.Fitting.{filled}
use Rattle.sq_elab.specs.Meanings.{value_of_step, term, indices_from}
use Rattle.sq_resolve.specs.Scopes.{Variable, first_some}
use Rattle.sq_resolve.specs.Resolved.{group_variables, quantify}
use Rattle.sq_elab.specs.Outcome.{ClosingNode, action_at_node, start, all_events, nodes_of}
use Rattle.sq_elab.specs.Outcome.{Elaborated, elaborated, refusal, refused_or, outcome}
use Rattle.sq_elab.specs.Ways.{Step, creates, receives, repeats, sends, tests, finds, defines}
use Rattle.sq_elab.specs.Ways.{part, labels, enters, Way, closes, indices, parent, path}
use Rattle.sq_elab.specs.Ways.{closed_path}
use Rattle.sq_elab.proofs.Bodies.{AreAllBodies, bodies-append, args-from, put-body, held-fits}
use Rattle.sq_elab.proofs.Bodies.{held-find-fits, AreArgs}
use Rattle.sq_elab.proofs.FitWays.{IsFitWay, IsFitMessage, IsFitNode, no-faults, all-fit, fit-node}
use Rattle.sq_elab.proofs.LimitLaws.{within_limits_law}
use Rattle.sq_elab.proofs.LineLaws.{node_at, IsKnown, AreKnown, are-known-still, all-well}
use Rattle.sq_elab.proofs.NodeLaws.{numbered_in_order}
use Rattle.sq_elab.proofs.ParentLaws as parents
use Rattle.sq_elab.proofs.ParentLaws.{standing, map-slice_get, slice_get-map}
use Rattle.sq_elab.proofs.PathLaws.{along, along-append, along-path}
use Rattle.sq_elab.proofs.WayLaws.{length-values}

-- ---- the indices of a path

along-fold : (a : ℕ) (p : List PathStep)
    → fold (λ n s. n + indices_bound s) a p ≡ a + along p
along-fold a [] = omega arith
along-fold a (s ∷ p) =
    let rest : fold (λ n s. n + indices_bound s) (a + indices_bound s) p
    ≡ a + indices_bound s + along p = along-fold (a + indices_bound s) p in
    omega arith

path-indices : (w : Way) → indices w ≡ sum_by indices_bound (closed_path w)
path-indices w =
    let all : sum_by indices_bound (closed_path w) ≡ 0 + along (closed_path w) =
    along-fold 0 (closed_path w) in
    let parts : along (closed_path w) ≡ along (path w) + along (Done ∷ []) =
    along-append (path w) (Done ∷ []) in
    let way : along (path w) ≡ indices w = along-path w in
    omega arith

-- ---- lines

on-line-end : {s : SystemTree} {k c p : ℕ} {x : ActionTree} → OnLine s k c
    → slice_get s.actions c ≡ Some x → x.parent ≡ Some p → OnLine s k p
on-line-end itself e f = before e f itself
on-line-end (before g h rest) e f = before g h (on-line-end rest e f)

fit-rest : (b : Base) (t : Step) (w : Way) → IsFitWay b (t ∷ w) → IsFitWay b w
fit-rest b (creates x k) w h = h
fit-rest b (receives x a) w h = h
fit-rest b (repeats i a) w h = h
fit-rest b (sends m a) w h = h
fit-rest b (tests f x) w h = h.1
fit-rest b (finds ns f x) w h = h.1
fit-rest b (defines x f) w h = h.1
fit-rest b (part k more a) w h = h
fit-rest b (labels l) w h = h
fit-rest b (enters xs ys) w h = h.1

count-indices : (n a c : ℕ) → a + c ≤ n → AreIndicesOf n (map idx.Free (count a c))
count-indices n a zero h = tt
count-indices n a (suc c) h = (omega arith, count-indices n (suc a) c (omega arith))

quantify-body : (s : SystemTree) (k n : ℕ) (q : Quantifier) (xs : List Variable) (u : TermTree)
    → IsBody s k n u → IsBody s k n (quantify q xs u)
quantify-body s k n q [] u h = h
quantify-body s k n Forall (x ∷ xs) u h = quantify-body s k n Forall xs u h
quantify-body s k n Exists (x ∷ xs) u h = quantify-body s k n Exists xs u h

conj-body : (s : SystemTree) (k n : ℕ) (us : List TermTree) → AreAllBodies s k n us
    → IsBody s k n (conj us)
conj-body s k n [] h = (tt, tt)
conj-body s k n (u ∷ []) h = h.0
conj-body s k n (u ∷ w ∷ us) h = (tt, (h.0, (conj-body s k n (w ∷ us) h.1, tt)))

abbrev system_of : Base → List ClosingNode → SystemTree
system_of b all = record { actions = map (action_at_node b) all }

-- the next action behind the end of a way, which is on the line of action k
record IsNext (b : Base) (all : List ClosingNode) (k : ℕ) (next : Closing) (w : Way) : Type 0 where
  there : ActionTree
  there_is : slice_get (map (action_at_node b) all) next.0 ≡ Some there
  arity_is : there.arity ≡ next.1
  parent_is : there.parent ≡ parent w
  on_line : OnLine (system_of b all) k next.0

module _ (b : Base) (all : List ClosingNode) (k n : ℕ) where
  before-next : (t : Step) (w : Way) (next : Closing) → AreKnown all (t ∷ w)
      → IsNext b all k next (t ∷ w) → IsNext b all k (from_step (closes t) (indices w) next) w
  before-next t w next known h = by (closes t) known.0 h.parent_is
    where
      by : (o : Option ℕ) → IsKnown all w o → h.there.parent ≡ first_some o (parent w)
          → IsNext b all k (from_step o (indices w) next) w
      by None g e =
          record {
            there = h.there;
            there_is = h.there_is;
            arity_is = h.arity_is;
            parent_is = e;
            on_line = h.on_line;
          }
      by (Some a) g e =
          let node = node_at a w g.message in
          record {
            there = action_at_node b node;
            there_is = slice_get-map b all a node g.is;
            arity_is = refl;
            parent_is = refl;
            on_line = on-line-end h.on_line h.there_is e;
          }

  value-is : (t : Step) (w : Way) (next : Closing) (us : List TermTree)
      → IsFitWay b (t ∷ w) → IsNext b all k next (t ∷ w) → indices w ≤ n
      → AreAllBodies (system_of b all) k n us → length us ≡ value_count w
      → AreAllBodies (system_of b all) k n (value_of_step b next t w us)
  value-is (creates x j) w next us fit h fewer bodies long =
      (count-indices n 0 (indices w) (omega arith), tt)
  value-is (receives x a) w next us fit h fewer bodies long = (
    record {
      at = next.0;
      there = h.there;
      there_is = h.there_is;
      on_line = h.on_line;
      read_is = refl;
      time_is = ap (λ c. action next.0 (first_indices c)) (sym h.arity_is);
    },
    tt,
  )
  value-is (repeats i a) w next us fit h fewer bodies long = tt
  value-is (sends m a) w next us fit h fewer bodies long = tt
  value-is (tests f x) w next us fit h fewer bodies long = tt
  value-is (finds ns f x) w next us fit h fewer bodies long = tt
  value-is (defines x f) w next us fit h fewer bodies long = (
    put-body (system_of b all) k n (value_count w) (indices w) fewer us bodies long [] tt
        (held b w [] (let_sort b w f) f) 0 (held-fits b w f (let_sort b w f) fit.1 fit.0),
    tt,
  )
  value-is (part j more a) w next us fit h fewer bodies long = tt
  value-is (labels l) w next us fit h fewer bodies long = tt
  value-is (enters xs ys) w next us fit h fewer bodies long = tt

  values-are : (w : Way) (next : Closing) → IsFitWay b w → AreKnown all w
      → IsNext b all k next w → indices w ≤ n
      → AreAllBodies (system_of b all) k n (values b next w)
  values-are [] next fit known h fewer = tt
  values-are (t ∷ w) next fit known h fewer =
      let last = from_step (closes t) (indices w) next in
      let less : indices w ≤ n = omega (arith, fewer) in
      let us = values b last w in
      let bodies =
      values-are w last (fit-rest b t w fit) known.1 (before-next t w next known h) less in
      bodies-append (system_of b all) k n us (value_of_step b next t w us) bodies
      (value-is t w next us fit h less bodies (length-values b w last))

  -- a formula of the way, with these arguments for the binders around it
  term-body : (w : Way) (next : Closing) (f : FormulaTree) (s : Sort) → IsFitWay b w
      → IsFitMessage (Some f) → AreKnown all w → IsNext b all k next w → indices w ≤ n
      → IsBody (system_of b all) k n (filled (values b next w) [] (held b w [] s f))
  term-body w next f s fit timeless known h fewer =
      put-body (system_of b all) k n (value_count w) (indices w) fewer (values b next w)
      (values-are w next fit known h fewer) (length-values b w next) [] tt (held b w [] s f) 0
      (held-fits b w f s fit timeless)

  find-body : (w : Way) (next : Closing) (ns : List (List ℕ)) (f : FormulaTree) → IsFitWay b w
      → IsFitMessage (Some f) → AreKnown all w → IsNext b all k next w → indices w ≤ n
      → (outer : List ArgTree) → AreArgs (system_of b all) k n outer
      → IsBody (system_of b all) k n
      (filled (values b next w) outer (held b w (group_variables Index ns) Boolean f))
  find-body w next ns f fit timeless known h fewer outer args =
      put-body (system_of b all) k n (value_count w) (indices w) fewer (values b next w)
      (values-are w next fit known h fewer) (length-values b w next) outer args
      (held b w (group_variables Index ns) Boolean f) 0
      (held-find-fits b w ns f Boolean fit timeless)

  tests-are : (w : Way) (next : Closing) → IsFitWay b w → AreKnown all w
      → IsNext b all k next w → indices w ≤ n
      → AreAllBodies (system_of b all) k n (tests_since b next w)
  tests-are [] next fit known h fewer = tt
  tests-are (tests f true ∷ w) next fit known h fewer =
      let there = before-next (tests f true) w next known h in
      let less : indices w ≤ n = omega (arith, fewer) in
      bodies-append (system_of b all) k n (tests_since b next w) (branch_test b next w f true ∷ [])
      (tests-are w next fit.1 known.1 there less)
      (term-body w next f Boolean fit.1 fit.0 known.1 there less, tt)
  tests-are (tests f false ∷ w) next fit known h fewer =
      let there = before-next (tests f false) w next known h in
      let less : indices w ≤ n = omega (arith, fewer) in
      bodies-append (system_of b all) k n (tests_since b next w)
      (branch_test b next w f false ∷ []) (tests-are w next fit.1 known.1 there less)
      ((tt, (term-body w next f Boolean fit.1 fit.0 known.1 there less, tt)), tt)
  tests-are (finds ns f true ∷ w) next fit known h fewer =
      let there = before-next (finds ns f true) w next known h in
      let less : indices w ≤ n = omega (arith, fewer) in
      let within : indices w + length ns ≤ n = fewer in
      bodies-append (system_of b all) k n (tests_since b next w)
      (find_test b next w ns f true ∷ []) (tests-are w next fit.1 known.1 there less) (
        find-body w next ns f fit.1 fit.0 known.1 there less (indices_from (indices w) (length ns))
            (args-from (system_of b all) k n (indices w) (length ns) within),
        tt,
      )
  tests-are (finds ns f false ∷ w) next fit known h fewer =
      let there = before-next (finds ns f false) w next known h in
      let less : indices w ≤ n = omega (arith, fewer) in
      bodies-append (system_of b all) k n (tests_since b next w)
      (find_test b next w ns f false ∷ []) (tests-are w next fit.1 known.1 there less) (
        quantify-body (system_of b all) k n Forall (group_variables Index ns)
            (negation (term b next w (group_variables Index ns) Boolean f))
            (tt, (find-body w next ns f fit.1 fit.0 known.1 there less [] tt, tt)),
        tt,
      )
  tests-are (creates x j ∷ w) next fit known h fewer =
      tests-are w next fit known.1 (before-next (creates x j) w next known h)
      (omega (arith, fewer))
  tests-are (receives x None ∷ w) next fit known h fewer =
      tests-are w next fit known.1 (before-next (receives x None) w next known h)
      (omega (arith, fewer))
  tests-are (receives x (Some a) ∷ w) next fit known h fewer = tt
  tests-are (repeats i None ∷ w) next fit known h fewer =
      tests-are w next fit known.1 (before-next (repeats i None) w next known h)
      (omega (arith, fewer))
  tests-are (repeats i (Some a) ∷ w) next fit known h fewer = tt
  tests-are (sends m a ∷ w) next fit known h fewer = tt
  tests-are (defines x f ∷ w) next fit known h fewer =
      tests-are w next fit.1 known.1 (before-next (defines x f) w next known h)
      (omega (arith, fewer))
  tests-are (part j more None ∷ w) next fit known h fewer =
      tests-are w next fit known.1 (before-next (part j more None) w next known h)
      (omega (arith, fewer))
  tests-are (part j more (Some a) ∷ w) next fit known h fewer = tt
  tests-are (labels l ∷ w) next fit known h fewer =
      tests-are w next fit known.1 (before-next (labels l) w next known h) (omega (arith, fewer))
  tests-are (enters xs ys ∷ w) next fit known h fewer =
      tests-are w next fit.1 known.1 (before-next (enters xs ys) w next known h)
      (omega (arith, fewer))

  output-body : (w : Way) (next : Closing) (m : Option FormulaTree) → IsFitWay b w
      → IsFitMessage m → AreKnown all w → IsNext b all k next w → indices w ≤ n
      → IsBody (system_of b all) k n (output b next w m)
  output-body w next None fit timeless known h fewer = (tt, tt)
  output-body w next (Some f) fit timeless known h fewer =
      term-body w next f Message fit timeless known h fewer

-- ---- the system

-- the closing node of an action
record IsNodeOf (b : Base) (all : List ClosingNode) (k : ℕ) (node : ClosingNode) : Type 0 where
  there : slice_get all k ≡ Some node
  number : node.number ≡ k
  known : AreKnown all node.way
  fit : IsFitNode b node

module _ (b : Base) (all : List ClosingNode) (k : ℕ) (node : ClosingNode)
    (h : IsNodeOf b all k node) where
  own-next : IsNext b all k (node.number, indices node.way) node.way
  own-next =
      record {
        there = action_at_node b node;
        there_is =
            subst (λ i. slice_get (map (action_at_node b) all) i ≡ Some (action_at_node b node))
            (sym h.number) (slice_get-map b all k node h.there);
        arity_is = refl;
        parent_is = refl;
        on_line = subst (OnLine (system_of b all) k) (sym h.number) itself;
      }

  cond-is : IsBody (system_of b all) k (indices node.way)
      (conj (tests_since b (node.number, indices node.way) node.way))
  cond-is =
      let n = indices node.way in
      conj-body (system_of b all) k n (tests_since b (node.number, n) node.way)
      (tests-are b all k n node.way (node.number, n) h.fit.way h.known own-next (omega arith))

  output-is : IsBody (system_of b all) k (indices node.way)
      (output b (node.number, indices node.way) node.way node.message)
  output-is =
      let n = indices node.way in
      output-body b all k n node.way (node.number, n) node.message h.fit.way h.fit.message h.known
      own-next (omega arith)

is_parent : (xs : List ActionTree) (k : ℕ) (a : ActionTree) (o : Option ℕ)
    → IfSome o (GoesOnFrom xs k a) → IfSome o (IsParent (record { actions = xs }) k a.arity)
is_parent xs k a None h = tt
is_parent xs k a (Some p) h =
    record { earlier = h.earlier; there = h.there; there_is = h.there_is; fewer = h.fewer }

module _ (b : Base) (p : ProcTree) (none : refusal b p ≡ None) where
  answers : outcome b p ≡ Ok (elaborated b p)
  answers = ap (λ o. refused_or o (elaborated b p)) none

  node-of : (k : ℕ) (node : ClosingNode) → slice_get (nodes_of b p) k ≡ Some node
      → IsNodeOf b (nodes_of b p) k node
  node-of k node e =
      let tree = inlined b.table b.processes (length b.table) p in
      let here = standing [] (start b) (all_events b p)
      (all-well b tree [] 1 [] (start b) refl tt) k node e in
      let known : AreKnown (here.before ++ node ∷ here.after) node.way =
      are-known-still here.before (node ∷ here.after) node.way here.known in
      record {
        there = e;
        number = numbered_in_order b p k node e;
        known = subst (λ xs. AreKnown xs node.way) (sym here.split) known;
        fit =
            fit-node b (start b) (all_events b p)
            (all-fit b tree [] 1 (start b) tt (no-faults b (start b) (all_events b p) none)) k
            node e;
      }

  system-is : IsSystem (system_of b (nodes_of b p))
  system-is k a e =
      let found = map-slice_get b (nodes_of b p) k a e in
      let node = found.0 in
      let h = node-of k node found.1 in
      let xs = map (action_at_node b) (nodes_of b p) in
      let parent_is = is_parent xs k a a.parent
      (parents.parents_go_before b p (elaborated b p) answers k a e) in
      let here : IfSome (action_at_node b node).parent
      (IsParent (system_of b (nodes_of b p)) k (action_at_node b node).arity) =
      subst (λ x. IfSome x.parent (IsParent (system_of b (nodes_of b p)) k x.arity))
      (sym found.2) parent_is in
      subst (λ x. IsAction (system_of b (nodes_of b p)) k x) found.2
      (record {
        parent_is = here;
        arity_is = path-indices node.way;
        cond_is = cond-is b (nodes_of b p) k node h;
        output_is = output-is b (nodes_of b p) k node h;
      })

  is-fit : IsFit (elaborated b p).actions
  is-fit =
      let limits = within_limits_law b p (elaborated b p) answers in
      record { few = limits.0; system = system-is; shallow = limits.1 }

abbrev actions_or : Result Elaborated ElabFault → List ActionTree
actions_or (Ok r) = r.actions
actions_or (Err e) = []

pub keep_their_facts : SystemsKeepTheirFacts
keep_their_facts b p r e = by (refusal b p) refl e
  where
    by : (o : Option ElabFault) → refusal b p ≡ o → refused_or o (elaborated b p) ≡ Ok r
        → IsFit r.actions
    by (Some x) none same = absurd (cc (same))
    by None none same = subst IsFit (ap actions_or same) (is-fit b p none)
