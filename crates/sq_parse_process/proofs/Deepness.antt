-- A place that runs deep is found to be deep; and one with few tokens does not run deep.
use Rattle.std.proofs.Common.{◌≡◌, ℕ, zero, suc, ◌<◌, ◌≤◌, List, [], ◌∷◌, ◌++◌, length, Option}
use Rattle.std.proofs.Common.{refl, sym, ap, ◌∙◌, subst, arith, append_assoc, length-append, ◌⊎◌}
use Rattle.std.proofs.Common.{inl, inr}
use Rattle.sq_token.specs.declared.kind.Reserved.TheVariants as r
use Rattle.sq_token.specs.declared.kind.Punctuation.TheVariants as p
use Rattle.sq_token.specs.Sign.{Sign, reserved, mark}
use Rattle.sq_ast.specs.declared.formula.Form.TheVariants.{Formula}
use Rattle.sq_ast.specs.Tree.{FormulaTree}
use Rattle.sq_ast.specs.Grammar.{names_spelled, spelled, IsBuilt}
use Rattle.sq_ast.specs.Deep.{IsFront, IsLongest}
use Rattle.sq_ast.specs.ProcTree.{ProcTree, send_before, branch_or, find_or, define, ProcTrees}
use Rattle.sq_ast.specs.ProcTree.{none, more}
use Rattle.sq_ast.specs.ProcGrammar.{process_spelled, IsProcess, IsProcessFront, IsLongestProcess}
use Rattle.sq_ast.specs.ProcGrammar.{ProcAlternative, creation, reception, emission, condition}
use Rattle.sq_ast.specs.ProcGrammar.{finding, definition, replication, labelling, process_lead}
use Rattle.sq_ast.specs.ProcGrammar.{process_elements, IsWholeProcess, ProcElement, token}
use Rattle.sq_ast.specs.ProcGrammar.{a_formula, a_process, ProcElementDeep, ParallelDeep}
use Rattle.sq_ast.specs.ProcGrammar.{ProcessDeep, in_alternative, in_parallel}
use Rattle.sq_parse_term.specs.Parse.{Read, bind, recover, eat}
use Rattle.sq_parse_term.specs.Parse as read
use Rattle.sq_parse_term.proofs.Outcomes.{Tells, Finds, eat_self}
use Rattle.sq_parse_term.proofs.Complete as formula
use Rattle.sq_parse_term.proofs.Runs.{IsDeep, deep_bind, deep_recover}
use Rattle.sq_parse_process.specs.Process.{behind, perhaps, read_test, read_find, read_processes}
use Rattle.sq_parse_process.specs.Process.{read_group, read_replication, process}
use Rattle.sq_parse_process.proofs.Finding.{Ahead, new_lead, in_lead, after_message, out_lead}
use Rattle.sq_parse_process.proofs.Finding.{find_lead, let_lead, label_lead}

-- a part that is the longest at its place is what is read there, or the place is deep
passed : {T B : Type 0} (front : T → List Sign → Type 0) (a : T) (q : List Sign) (m : Read T)
    (k : T → List Sign → Read B)
    → Finds (λ u v. ((u ≡ a) × (v ≡ q)) ⊎ (length v < length q)) m → Tells front m
    → ((u : T) (v : List Sign) → front u v → length q ≤ length v) → IsDeep (k a q)
    → IsDeep (bind m k)
passed front a q read.deep k f t l d = tt
passed front a q read.none k f t l d = f
passed front a q (read.got u v) k (inl e) t l d = subst IsDeep (λ j. k (sym e.0 j) (sym e.1 j)) d
passed front a q (read.got u v) k (inr g) t l d = let le = l u v t in let never : ⊥ = omega arith in
    absurd never

shorter_formula : (l : ℕ) (a : FormulaTree) (q : List Sign) (m : Read FormulaTree)
    → Finds (formula.Ahead l a q) m → Finds (λ u v. ((u ≡ a) × (v ≡ q)) ⊎ (length v < length q)) m
shorter_formula l a q read.deep h = h
shorter_formula l a q read.none h = h
shorter_formula l a q (read.got u v) (inl e) = inl e
shorter_formula l a q (read.got u v) (inr g) = inr g.0

shorter_process : (a : ProcTree) (q : List Sign) (m : Read ProcTree) → Finds (Ahead a q) m
    → Finds (λ u v. ((u ≡ a) × (v ≡ q)) ⊎ (length v < length q)) m
shorter_process a q read.deep h = h
shorter_process a q read.none h = h
shorter_process a q (read.got u v) (inl e) = inl e
shorter_process a q (read.got u v) (inr g) = inr g.0

module _ (F : List Sign → Read FormulaTree) (P : List Sign → Read ProcTree)
    (formula_sound : (ts : List Sign) → Tells (IsFront Formula ts) (F ts))
    (formula_finds : (f : FormulaTree) (rest : List Sign) → IsBuilt f
    → Finds (formula.Ahead 4 f rest) (F (spelled f ++ rest)))
    (process_sound : (ts : List Sign) → Tells (IsProcessFront ts) (P ts))
    (process_finds : (a : ProcTree) (rest : List Sign) → IsProcess a
    → Finds (Ahead a rest) (P (process_spelled a ++ rest)))
    (FD PD : List Sign → Type 0) (formula_deep : (ts : List Sign) → FD ts → IsDeep (F ts))
    (process_deep : (ts : List Sign) → PD ts → IsDeep (P ts)) where
  past_formula : {B : Type 0} (ts : List Sign) (f : FormulaTree) (q : List Sign)
      (k : FormulaTree → List Sign → Read B) → IsLongest Formula ts f q → IsDeep (k f q)
      → IsDeep (bind (F ts) k)
  past_formula ts f q k l d = passed (IsFront Formula ts) f q (F ts) k
      (shorter_formula 4 f q (F ts)
      (subst (λ z. Finds (formula.Ahead 4 f q) (F z)) (sym l.front.split)
      (formula_finds f q l.front.built))) (formula_sound ts) l.longest d

  past_process : {B : Type 0} (ts : List Sign) (a : ProcTree) (q : List Sign)
      (k : ProcTree → List Sign → Read B) → IsLongestProcess ts a q → IsDeep (k a q)
      → IsDeep (bind (P ts) k)
  past_process ts a q k l d = passed (IsProcessFront ts) a q (P ts) k
      (shorter_process a q (P ts)
      (subst (λ z. Finds (Ahead a q) (P z)) (sym l.front.split)
      (process_finds a q l.front.built))) (process_sound ts) l.longest d

  behind_deep : (s : Sign) (ts q : List Sign) → ts ≡ s ∷ q → PD q → IsDeep (behind F P s ts)
  behind_deep s ts q e d =
      subst (λ z. IsDeep (behind F P s z)) (sym e) (rw (eat_self s q) (process_deep q d))

  past_behind : {B : Type 0} (s : Sign) (ts q : List Sign) (a : ProcTree) (y : List Sign)
      (k : ProcTree → List Sign → Read B) → ts ≡ s ∷ q → IsLongestProcess q a y → IsDeep (k a y)
      → IsDeep (bind (behind F P s ts) k)
  past_behind s ts q a y k e l d = subst (λ z. IsDeep (bind (behind F P s z) k)) (sym e)
      (rw (eat_self s q) (past_process q a y k l d))

  perhaps_deep : (s : Sign) (ts q : List Sign) → ts ≡ s ∷ q → PD q → IsDeep (perhaps F P s ts)
  perhaps_deep s ts q e d = deep_recover (behind F P s ts) _ _ (behind_deep s ts q e d)

  test_deep : (s : Sign) (k : FormulaTree → ProcTree → Option ProcTree → ProcTree) (ts : List Sign)
      → ProcElementDeep FD PD (a_formula ∷ token s ∷ a_process ∷ token (reserved r.Else) ∷ a_process
      ∷ []) ts → IsDeep (read_test F P s k ts)
  test_deep s k ts (inl d) = deep_bind (F ts) _ (formula_deep ts d)
  test_deep s k ts (inr h) = past_formula ts h.0 h.1 _ h.2 (yes h.0 h.1 h.3.0 h.3.1 h.3.2)
    where
      no : (f : FormulaTree) (a : ProcTree) (y x : List Sign) → y ≡ reserved r.Else ∷ x
          → ProcElementDeep FD PD (a_process ∷ []) x
          → IsDeep (bind (perhaps F P (reserved r.Else) y) (λ o v. read.got (k f a o) v))
      no f a y x e (inl d) =
          deep_bind (perhaps F P (reserved r.Else) y) _ (perhaps_deep (reserved r.Else) y x e d)
      no f a y x e (inr i) = absurd i.3

      yes : (f : FormulaTree) (q u : List Sign) → q ≡ s ∷ u
          → ProcElementDeep FD PD (a_process ∷ token (reserved r.Else) ∷ a_process ∷ []) u
          → IsDeep (bind (behind F P s q)
          (λ a y. bind (perhaps F P (reserved r.Else) y) (λ o v. read.got (k f a o) v)))
      yes f q u e (inl d) = deep_bind (behind F P s q) _ (behind_deep s q u e d)
      yes f q u e (inr i) = past_behind s q u i.0 i.1 _ e i.2 (no f i.0 i.1 i.3.0 i.3.1 i.3.2)

  -- behind the message of an output
  message_deep : (c : List ℕ) (f : FormulaTree) (w : List Sign)
      → ProcElementDeep FD PD (token (mark p.CloseParenthesis) ∷ token (mark p.Semicolon)
      ∷ a_process ∷ []) w → IsDeep (after_message F P c f w)
  message_deep c f w h = subst (λ z. IsDeep (after_message F P c f z)) (sym h.1)
      (rw (eat_self (mark p.CloseParenthesis) h.0) (of h.2.2))
    where
      of : ProcElementDeep FD PD (a_process ∷ []) h.2.0
          → IsDeep (bind (perhaps F P (mark p.Semicolon) h.0)
          (λ o z. read.got (send_before c f o) z))
      of (inl d) = deep_bind (perhaps F P (mark p.Semicolon) h.0) _
          (perhaps_deep (mark p.Semicolon) h.0 h.2.0 h.2.1 d)
      of (inr i) = absurd i.3

  alternative_deep : (a : ProcAlternative) (q : List Sign) → IsWholeProcess a
      → ProcElementDeep FD PD (process_elements a) q → IsDeep (process F P (process_lead a ++ q))
  unfolding process read_replication
  alternative_deep (creation n) q w (inl d) =
      subst IsDeep (sym (new_lead F P n q)) (deep_bind (P q) _ (process_deep q d))
  alternative_deep (creation n) q w (inr h) = absurd h.3
  alternative_deep (reception c x) q w (inl d) =
      subst IsDeep (sym (in_lead F P c x (mark p.Semicolon ∷ q)))
      (deep_bind (perhaps F P (mark p.Semicolon) (mark p.Semicolon ∷ q)) _
      (perhaps_deep (mark p.Semicolon) (mark p.Semicolon ∷ q) q refl d))
  alternative_deep (reception c x) q w (inr h) = absurd h.3
  alternative_deep (emission c) q w (inl d) =
      subst IsDeep (sym (out_lead F P c q)) (deep_bind (F q) _ (formula_deep q d))
  alternative_deep (emission c) q w (inr h) =
      subst IsDeep (sym (out_lead F P c q))
      (past_formula q h.0 h.1 _ h.2 (message_deep c h.0 h.1 h.3))
  alternative_deep condition q w h = test_deep (reserved r.Then) branch_or q h
  alternative_deep (finding ns) q w h =
      subst IsDeep (sym (ap (λ z. read_find F P z)
      (append_assoc (names_spelled ns) (reserved r.Such ∷ reserved r.That ∷ []) q)
      ∙ find_lead F P ns q w)) (test_deep (reserved r.In) (find_or ns) q h)
  alternative_deep (definition n) q w (inl d) =
      subst IsDeep (sym (let_lead F P n q)) (deep_bind (F q) _ (formula_deep q d))
  alternative_deep (definition n) q w (inr h) =
      subst IsDeep (sym (let_lead F P n q)) (past_formula q h.0 h.1 _ h.2 (of h.3.2))
    where
      of : ProcElementDeep FD PD (a_process ∷ []) h.3.0
          → IsDeep (bind (behind F P (reserved r.In) h.1) (λ a u. read.got (define n h.0 a) u))
      of (inl d) = deep_bind (behind F P (reserved r.In) h.1) _
          (behind_deep (reserved r.In) h.1 h.3.0 h.3.1 d)
      of (inr i) = absurd i.3
  alternative_deep (replication n) q w (inl d) = deep_bind (P q) _ (process_deep q d)
  alternative_deep (replication n) q w (inr h) = absurd h.3
  alternative_deep (labelling n) q w (inl d) =
      subst IsDeep (sym (label_lead F P n q)) (deep_recover (P q) _ _ (process_deep q d))
  alternative_deep (labelling n) q w (inr h) = absurd h.3

  processes_deep : (m : ℕ) (ps : ProcTrees) (ts : List Sign) → length ts < m
      → ParallelDeep FD PD ps ts → IsDeep (read_processes F P m ts)
  unfolding read_processes
  processes_deep zero ps ts lt h = absurd (omega arith)
  processes_deep (suc m) none ts lt h = deep_bind (P ts) _ (process_deep ts h)
  processes_deep (suc m) (more a ps) ts lt h =
      let q = h.0 in
      let less : length q < m =
      omega (
        arith,
        ap length h.1.front.split,
        length-append (process_spelled a)
            (mark p.Bar ∷ q),
      ) in
      past_process ts a (mark p.Bar ∷ q) _ h.1
      (rw (eat_self (mark p.Bar) q)
      (deep_bind (read_processes F P m q) (λ qs v. read.got (more a qs) v)
      (processes_deep m ps q less h.2)))

  pub all_deep : (ts : List Sign) → ProcessDeep FD PD ts → IsDeep (process F P ts)
  unfolding process read_group
  all_deep ts (in_alternative a q w e h) =
      subst (λ z. IsDeep (process F P z)) (sym e) (alternative_deep a q w h)
  all_deep ts (in_parallel ps q e h) =
      subst (λ z. IsDeep (process F P z)) (sym e)
      (deep_bind (read_processes F P (suc (length q)) q) _
      (processes_deep (suc (length q)) ps q (omega arith) h))

-- ---- few tokens

lead_some : (a : ProcAlternative) (q : List Sign) → length q < length (process_lead a ++ q)
lead_some (creation n) q = omega arith
lead_some (reception c x) q = omega arith
lead_some (emission c) q = omega arith
lead_some condition q = omega arith
lead_some (finding ns) q =
    omega (arith, length-append (names_spelled ns ++ reserved r.Such ∷ reserved r.That ∷ []) q)
lead_some (definition n) q = omega arith
lead_some (replication n) q = omega arith
lead_some (labelling n) q = omega arith

module _ (FD PD : List Sign → Type 0) (d : ℕ) (formula_shallow : (ts : List Sign) → length ts < d
    → FD ts → ⊥) (process_shallow : (ts : List Sign) → length ts < d → PD ts → ⊥) where
  elements_shallow : (es : List ProcElement) (ts : List Sign) → length ts < d
      → ProcElementDeep FD PD es ts → ⊥
  elements_shallow [] ts lt h = h
  elements_shallow (token s ∷ es) ts lt h = elements_shallow es h.0 (omega (arith, ap length h.1))
      h.2
  elements_shallow (a_formula ∷ es) ts lt (inl h) = formula_shallow ts lt h
  elements_shallow (a_formula ∷ es) ts lt (inr h) =
      elements_shallow es h.1
      (omega (arith, ap length h.2.front.split, length-append (spelled h.0) h.1)) h.3
  elements_shallow (a_process ∷ es) ts lt (inl h) = process_shallow ts lt h
  elements_shallow (a_process ∷ es) ts lt (inr h) =
      elements_shallow es h.1
      (omega (arith, ap length h.2.front.split, length-append (process_spelled h.0) h.1)) h.3

  parallel_shallow : (ps : ProcTrees) (ts : List Sign) → length ts < d → ParallelDeep FD PD ps ts
      → ⊥
  parallel_shallow none ts lt h = process_shallow ts lt h
  parallel_shallow (more a ps) ts lt h =
      parallel_shallow ps h.0
      (omega (
        arith,
        ap length h.1.front.split,
        length-append (process_spelled a)
            (mark p.Bar ∷ h.0),
      )) h.2

  pub all_shallow : (ts : List Sign) → length ts < suc d → ProcessDeep FD PD ts → ⊥
  all_shallow ts lt (in_alternative a q w e h) =
      elements_shallow (process_elements a) q (omega (arith, ap length e, lead_some a q)) h
  all_shallow ts lt (in_parallel ps q e h) = parallel_shallow ps q (omega (arith, ap length e)) h
