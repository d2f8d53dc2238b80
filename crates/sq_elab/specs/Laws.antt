-- What the definition of elaboration comes to.
use Rattle.std.specs.Prelude.{◌≡◌, ◌≢◌, ℕ, ◌<◌, ◌≤◌, ◌^◌, List, ◌∷◌, ◌++◌, length, take, drop}
use Rattle.std.specs.Prelude.{Option, Some, None, IfSome, Ok, Bool, true, false, is_none, slice_get}
use Rattle.std.specs.List.{list_all}
use Rattle.sq_ast.specs.Tree.{FormulaTree}
use Rattle.sq_ast.specs.ProcTree.{ProcTree}
use Rattle.sq_sym.specs.declared.symbol.Symbol.{Symbol}
use Rattle.sq_sym.specs.Declarations.{found, NamesDiffer}
use Rattle.sq_term.specs.declared.action.PathStep.{PathStep}
use Rattle.sq_term.specs.Lists.{Member}
use Rattle.sq_term.specs.Systems.{ActionTree, in_conflict, choices_from}
use Rattle.sq_system.specs.Facts.{IsSystem, AreShallow}
use Rattle.sq_system.specs.Limits.{most_actions}
use Rattle.sq_elab.specs.declared.fault.ElabFault.{ElabFault}
use Rattle.sq_elab.specs.Actions.{branch_test, find_test, tests_since}
use Rattle.sq_elab.specs.Faults.{faults}
use Rattle.sq_elab.specs.FreshNames.{fresh_name}
use Rattle.sq_sym.specs.Candidates.{candidate}
use Rattle.sq_elab.specs.Inlined.{ProcessTree, inlined_within, inlined}
use Rattle.sq_elab.specs.Meanings.{Base, Closing, input_of, values, value_count}
use Rattle.sq_elab.specs.Outcome.{ClosingNode, nodes_of, Elaborated, outcome, refusal, start}
use Rattle.sq_elab.specs.Outcome.{all_events}
use Rattle.sq_elab.specs.Ways.{Step, receives, tests, finds, part, Way, closes, indices, path}
use Rattle.sq_elab.specs.Ways.{closed_path}

-- ---- numbers and parents

-- closing nodes are numbered in preorder
abbrev pub AreNumberedInOrder : Type 0
AreNumberedInOrder =
    (b : Base) (p : ProcTree) (k : ℕ) (n : ClosingNode)
    → slice_get (nodes_of b p) k ≡ Some n → n.number ≡ k

-- The action's path goes on from that of action p, which comes before it. So the indices of p are
-- the first ones of the action.
pub record GoesOnFrom (actions : List ActionTree) (k : ℕ) (a : ActionTree) (p : ℕ) : Type 0 where
  pub earlier : p < k
  pub there : ActionTree
  pub there_is : slice_get actions p ≡ Some there
  pub rest : List PathStep
  pub path_is : a.path ≡ there.path ++ rest
  pub fewer : there.arity ≤ a.arity

abbrev pub ParentsGoBefore : Type 0
ParentsGoBefore =
    (b : Base) (p : ProcTree) (r : Elaborated) → outcome b p ≡ Ok r
    → (k : ℕ) (a : ActionTree) → slice_get r.actions k ≡ Some a
    → IfSome a.parent (GoesOnFrom r.actions k a)

-- no call is left out: calls in a process behind `limit` declarations go no deeper than that
abbrev pub DeeperCallsChangeNothing : Type 0
DeeperCallsChangeNothing =
    (table : List (List ℕ × Symbol)) (ps : List ProcessTree) (n limit : ℕ) (q : ProcTree)
    → limit ≤ n → inlined_within table ps n limit q ≡ inlined table ps limit q

-- ---- conflicts

-- instances of actions in the two branches of one test are in conflict where their common indices
-- are equal
abbrev pub BranchesExclude : Type 0
BranchesExclude =
    (f : FormulaTree) (u v w : Way) (is js : List ℕ)
    → take (indices w) is ≡ take (indices w) js
    → (in_conflict (closed_path (u ++ tests f true ∷ w)) is
    (closed_path (v ++ tests f false ∷ w)) js ≡ true)
    × (in_conflict (closed_path (v ++ tests f false ∷ w)) js
    (closed_path (u ++ tests f true ∷ w)) is ≡ true)

-- and so are those where one `find` found, and those where it did not
abbrev pub FindsExclude : Type 0
FindsExclude =
    (f : FormulaTree) (ns : List (List ℕ)) (u v w : Way) (is js : List ℕ)
    → take (indices w) is ≡ take (indices w) js
    → (in_conflict (closed_path (u ++ finds ns f true ∷ w)) is
    (closed_path (v ++ finds ns f false ∷ w)) js ≡ true)
    × (in_conflict (closed_path (v ++ finds ns f false ∷ w)) js
    (closed_path (u ++ finds ns f true ∷ w)) is ≡ true)

-- and those where one `find` found, with other indices
abbrev pub FoundIndicesExclude : Type 0
FoundIndicesExclude =
    (f : FormulaTree) (ns : List (List ℕ)) (u v w : Way) (is js : List ℕ)
    → take (indices w) is ≡ take (indices w) js
    → take (length ns) (drop (indices w) is) ≢ take (length ns) (drop (indices w) js)
    → in_conflict (closed_path (u ++ finds ns f true ∷ w)) is
    (closed_path (v ++ finds ns f true ∷ w)) js ≡ true

-- the parts of a parallel add no choice to those of the way to it
abbrev pub PartsDoNotExclude : Type 0
PartsDoNotExclude =
    (i j : ℕ) (more : Bool) (a : Option ℕ) (u v w : Way) → i < j
    → (choices_from 0 (closed_path (u ++ part i true a ∷ w))
    (closed_path (v ++ part j more a ∷ w)) ≡ choices_from 0 (path w) (path w))
    × (choices_from 0 (closed_path (v ++ part j more a ∷ w))
    (closed_path (u ++ part i true a ∷ w)) ≡ choices_from 0 (path w) (path w))

-- ---- conditions and inputs

abbrev pub closes_none : Way → Bool
closes_none u = list_all (λ s. is_none (closes s)) u

-- a test stands in the condition of the next action behind it: F in one branch, `not(F)` in the
-- other, with what F means before that action
abbrev pub TestsAreInConditions : Type 0
TestsAreInConditions =
    (b : Base) (next : Closing) (f : FormulaTree) (x : Bool) (u w : Way) → closes_none u ≡ true
    → Member (tests_since b next (u ++ tests f x ∷ w)) (branch_test b next w f x)

abbrev pub FindsAreInConditions : Type 0
FindsAreInConditions =
    (b : Base) (next : Closing) (ns : List (List ℕ)) (f : FormulaTree) (x : Bool) (u w : Way)
    → closes_none u ≡ true
    → Member (tests_since b next (u ++ finds ns f x ∷ w)) (find_test b next w ns f x)

-- The variable of an `in` means the input of the first action that is closed behind it, at all
-- indices of that action: one of the way, or else the next one.
abbrev pub InputsAreOfTheFirst : Type 0
InputsAreOfTheFirst =
    (b : Base) (next : Closing) (x : List ℕ) (c : Option ℕ) (w : Way)
    → ((u : Way) → closes_none u ≡ true
    → slice_get (values b next (u ++ receives x c ∷ w)) (value_count w) ≡ Some (input_of next))
    × ((u v : Way) (s : Step) (a : ℕ) → closes_none u ≡ true → closes s ≡ Some a
    → slice_get (values b next (v ++ s ∷ (u ++ receives x c ∷ w))) (value_count w)
    ≡ Some (input_of (a, indices (u ++ receives x c ∷ w))))

-- ---- refusals

-- the first fault, and no place before it has one
pub record IsFirstFault (os : List (Option ElabFault)) (x : ElabFault) : Type 0 where
  pub place : ℕ
  pub is : slice_get os place ≡ Some (Some x)
  pub none_before : (k : ℕ) → k < place → slice_get os k ≡ Some None

abbrev pub TheFirstPlaceCounts : Type 0
TheFirstPlaceCounts =
    (b : Base) (p : ProcTree) (x : ElabFault) → refusal b p ≡ Some x
    → IsFirstFault (faults b (start b) (all_events b p)) x

-- ---- names

-- the first of n, n1, n2 and so on that is not in the table
pub record IsFirstFree (table : List (List ℕ × Symbol)) (n x : List ℕ) : Type 0 where
  pub place : ℕ
  pub is : x ≡ candidate n place
  pub free : found x table ≡ None
  pub taken_before : (k : ℕ) → k < place → found (candidate n k) table ≢ None

abbrev pub FreshNamesAreFirst : Type 0
FreshNamesAreFirst =
    (table : List (List ℕ × Symbol)) (n : List ℕ) → length table < 2 ^ 32
    → IsFirstFree table n (fresh_name table n)

abbrev pub NamesStayApart : Type 0
NamesStayApart =
    (b : Base) (p : ProcTree) (r : Elaborated) → outcome b p ≡ Ok r → NamesDiffer b.table
    → length r.table < 2 ^ 32 → NamesDiffer r.table

-- ---- what every system keeps

abbrev pub SystemsAreWithinLimits : Type 0
SystemsAreWithinLimits =
    (b : Base) (p : ProcTree) (r : Elaborated) → outcome b p ≡ Ok r
    → (length r.actions ≤ most_actions) × AreShallow (record { actions = r.actions })

pub record IsFit (actions : List ActionTree) : Type 0 where
  pub few : length actions ≤ most_actions
  pub system : IsSystem (record { actions = actions })
  pub shallow : AreShallow (record { actions = actions })

abbrev pub SystemsKeepTheirFacts : Type 0
SystemsKeepTheirFacts =
    (b : Base) (p : ProcTree) (r : Elaborated) → outcome b p ≡ Ok r → IsFit r.actions
