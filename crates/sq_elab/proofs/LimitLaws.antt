-- A process that is not refused has few actions, and none of them is large.
use Rattle.std.proofs.Common.{◌≡◌, ℕ, zero, suc, ◌+◌, ◌<◌, ◌≤◌, List, [], ◌∷◌, map, length, Bool}
use Rattle.std.proofs.Common.{true, false, if◌then◌else◌, Option, Some, None, Ok, Err, refl, sym}
use Rattle.std.proofs.Common.{ap, ◌∙◌}
use Rattle.std.proofs.Common.{arith, subst, slice_get}
use Rattle.std.specs.Prelude.{◌&&◌, nat_le, Result}
use Rattle.std.proofs.lemmas.Bool.{false≢true}
use Rattle.std.proofs.lemmas.Bool.Decides.{nat_tests}
use Rattle.sq_ast.specs.Tree.{FormulaTree}
use Rattle.sq_term.specs.Measure.{size, depth}
use Rattle.sq_term.specs.Syntax.{TermTree}
use Rattle.sq_term.specs.Systems.{ActionTree}
use Rattle.sq_system.specs.Facts.{IsShallow}
use Rattle.sq_system.specs.Limits.{most_actions}
use Rattle.sq_elab.specs.declared.fault.ElabFault.{ElabFault}
use Rattle.sq_elab.specs.declared.fault.ElabFault.TheVariants as fault
use Rattle.sq_elab.specs.Actions.{action_of}
use Rattle.sq_elab.specs.Events.{Event, process_node, formula_node, calls, argument, channel}
use Rattle.sq_elab.specs.Events.{create, close, Count, counted}
use Rattle.sq_elab.specs.Faults as f
use Rattle.sq_elab.specs.Faults.{faults, first_of, action_fault, action_fits, is_within_limits}
use Rattle.sq_elab.specs.Laws.{SystemsAreWithinLimits}
use Rattle.sq_elab.specs.Meanings.{Base}
use Rattle.sq_elab.specs.Outcome.{ClosingNode, closing_nodes, action_at_node, start, all_events}
use Rattle.sq_elab.specs.Outcome.{nodes_of, Elaborated, elaborated, refusal, refused_or}
use Rattle.sq_elab.specs.Ways.{Way}

-- ---- no fault

pub first-none : (o : Option ElabFault) (os : List (Option ElabFault)) → first_of (o ∷ os) ≡ None
    → o ≡ None
first-none None os e = refl
first-none (Some x) os e = e

pub rest-none : (o : Option ElabFault) (os : List (Option ElabFault)) → first_of (o ∷ os) ≡ None
    → first_of os ≡ None
rest-none None os e = e
rest-none (Some x) os e = absurd (cc (e))

-- ---- at a closing node

module _ (b : Base) (k : Count) (w : Way) (m : Option FormulaTree)
    (none : f.fault b k (close w m) ≡ None) where
  room : k.actions < 1024
  room = by (nat_le most_actions k.actions) refl none
    where
      by : (c : Bool) → nat_le most_actions k.actions ≡ c
          → (if c then Some fault.TooManyActions else (action_fault (action_of b k.actions w m)))
          ≡ None
          → k.actions < 1024
      by true e h = absurd (cc (h))
      by false e h =
          let over : nat_le 1024 k.actions ≡ false = e in grind (arith, nat_tests)

  fitting : action_fits (action_of b k.actions w m) ≡ true
  fitting = by (nat_le most_actions k.actions) none
    where
      fits : (c : Bool) → (if c then None else (Some fault.TooLarge)) ≡ None → c ≡ true
      fits true h = refl
      fits false h = absurd (cc (h))

      by : (c : Bool)
          → (if c then Some fault.TooManyActions else (action_fault (action_of b k.actions w m)))
          ≡ None
          → action_fits (action_of b k.actions w m) ≡ true
      by true h = absurd (cc (h))
      by false h = fits (action_fits (action_of b k.actions w m)) h

-- ---- all of them

module _ (b : Base) where
  few : (k : Count) (vs : List Event) → first_of (faults b k vs) ≡ None → k.actions ≤ 1024
      → k.actions + length (closing_nodes k vs) ≤ 1024
  few k [] e h = omega arith
  few k (process_node d ∷ vs) e h =
      few (counted k (process_node d)) vs
      (rest-none (f.fault b k (process_node d)) (faults b (counted k (process_node d)) vs) e) h
  few k (formula_node w p d ∷ vs) e h =
      few (counted k (formula_node w p d)) vs
      (rest-none (f.fault b k (formula_node w p d)) (faults b (counted k (formula_node w p d)) vs)
      e) h
  few k (calls w x n c ∷ vs) e h =
      few k vs (rest-none (f.fault b k (calls w x n c)) (faults b k vs) e) h
  few k (argument w y ∷ vs) e h =
      few k vs (rest-none (f.fault b k (argument w y)) (faults b k vs) e) h
  few k (channel w x ∷ vs) e h =
      few k vs (rest-none (f.fault b k (channel w x)) (faults b k vs) e) h
  few k (create w x ∷ vs) e h =
      few (counted k (create w x)) vs
      (rest-none (f.fault b k (create w x)) (faults b (counted k (create w x)) vs) e) h
  few k (close w m ∷ vs) e h =
      let rest = faults b (counted k (close w m)) vs in
      let below : suc k.actions ≤ 1024 =
      room b k w m (first-none (f.fault b k (close w m)) rest e) in
      let behind : suc k.actions + length (closing_nodes (counted k (close w m)) vs) ≤ 1024 =
      few (counted k (close w m)) vs (rest-none (f.fault b k (close w m)) rest e) below in
      omega arith

  abbrev fits_or : Option ClosingNode → Bool
  fits_or (Some n) = action_fits (action_at_node b n)
  fits_or None = true

  node-fits : (k : Count) (vs : List Event) → first_of (faults b k vs) ≡ None → (i : ℕ)
      (n : ClosingNode) → slice_get (closing_nodes k vs) i ≡ Some n
      → action_fits (action_at_node b n) ≡ true
  node-fits k [] e i n s = absurd (cc (s))
  node-fits k (process_node d ∷ vs) e i n s =
      node-fits (counted k (process_node d)) vs
      (rest-none (f.fault b k (process_node d)) (faults b (counted k (process_node d)) vs) e) i n s
  node-fits k (formula_node w p d ∷ vs) e i n s =
      node-fits (counted k (formula_node w p d)) vs
      (rest-none (f.fault b k (formula_node w p d)) (faults b (counted k (formula_node w p d)) vs)
      e) i n s
  node-fits k (calls w x c d ∷ vs) e i n s =
      node-fits k vs (rest-none (f.fault b k (calls w x c d)) (faults b k vs) e) i n s
  node-fits k (argument w y ∷ vs) e i n s =
      node-fits k vs (rest-none (f.fault b k (argument w y)) (faults b k vs) e) i n s
  node-fits k (channel w x ∷ vs) e i n s =
      node-fits k vs (rest-none (f.fault b k (channel w x)) (faults b k vs) e) i n s
  node-fits k (create w x ∷ vs) e i n s =
      node-fits (counted k (create w x)) vs
      (rest-none (f.fault b k (create w x)) (faults b (counted k (create w x)) vs) e) i n s
  node-fits k (close w m ∷ vs) e zero n s =
      let rest = faults b (counted k (close w m)) vs in
      let same : action_fits (action_of b k.actions w m) ≡ action_fits (action_at_node b n) =
      ap fits_or s in
      sym same ∙ fitting b k w m (first-none (f.fault b k (close w m)) rest e)
  node-fits k (close w m ∷ vs) e (suc i) n s =
      node-fits (counted k (close w m)) vs
      (rest-none (f.fault b k (close w m)) (faults b (counted k (close w m)) vs) e) i n s

-- ---- the actions

abbrev action_fits_or : Option ActionTree → Bool
action_fits_or (Some a) = action_fits a
action_fits_or None = true

action-fits : (b : Base) (ns : List ClosingNode)
    → ((i : ℕ) (n : ClosingNode) → slice_get ns i ≡ Some n
    → action_fits (action_at_node b n) ≡ true) → (i : ℕ) (a : ActionTree)
    → slice_get (map (action_at_node b) ns) i ≡ Some a → action_fits a ≡ true
action-fits b [] h i a s = absurd (cc (s))
action-fits b (n ∷ ns) h zero a s =
    let same : action_fits (action_at_node b n) ≡ action_fits a = ap action_fits_or s in
    sym same ∙ h 0 n refl
action-fits b (n ∷ ns) h (suc i) a s =
    action-fits b ns (λ j c e. h (suc j) c e) i a s

pub first-true : (c d : Bool) → (c && d) ≡ true → c ≡ true
first-true true d e = refl
first-true false d e = e

pub second-true : (c d : Bool) → (c && d) ≡ true → d ≡ true
second-true true d e = e
second-true false d e = absurd (false≢true e)

is-shallow : (u : TermTree) → is_within_limits u ≡ true → depth u ≤ 1024
is-shallow u e =
    let deep : nat_le (depth u) 1000 ≡ true =
    second-true (nat_le (size u) 65536) (nat_le (depth u) 1000) e in
    grind (arith, nat_tests)

length-map-nodes : (b : Base) (ns : List ClosingNode)
    → length (map (action_at_node b) ns) ≡ length ns
length-map-nodes b [] = refl
length-map-nodes b (n ∷ ns) = ap suc (length-map-nodes b ns)

abbrev actions_or : Result Elaborated ElabFault → List ActionTree
actions_or (Ok r) = r.actions
actions_or (Err e) = []

pub within_limits_law : SystemsAreWithinLimits
within_limits_law b p r e = by (refusal b p) refl e
  where
    by : (o : Option ElabFault) → refusal b p ≡ o → refused_or o (elaborated b p) ≡ Ok r
        → (length r.actions ≤ most_actions)
        × ((k : ℕ) (a : ActionTree) → slice_get r.actions k ≡ Some a → IsShallow a)
    by (Some x) none same = absurd (cc (same))
    by None none same =
        let actions : map (action_at_node b) (nodes_of b p) ≡ r.actions = ap actions_or same in
        let count : 0 + length (nodes_of b p) ≤ 1024 =
        few b (start b) (all_events b p) none (omega arith) in
        let long : length r.actions ≡ length (nodes_of b p) =
        ap length (sym actions) ∙ length-map-nodes b (nodes_of b p) in
        let small : length r.actions ≤ 1024 = omega arith in (
          small,
          λ k a s.
              let there = subst (λ xs. slice_get xs k ≡ Some a) (sym actions) s in
              let fits =
              action-fits b (nodes_of b p) (node-fits b (start b) (all_events b p) none) k a
              there in
              record {
                cond_is = is-shallow a.cond
                    (first-true (is_within_limits a.cond) (is_within_limits a.output) fits);
                output_is = is-shallow a.output
                    (second-true (is_within_limits a.cond) (is_within_limits a.output) fits);
              },
        )
