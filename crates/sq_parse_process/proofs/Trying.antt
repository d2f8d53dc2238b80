-- An open process takes the `else` behind it, if a process stands behind that.
use Rattle.std.proofs.Common.{◌≡◌, ℕ, zero, suc, List, [], ◌∷◌, length, Option, Some, None, refl}
use Rattle.std.proofs.Common.{sym, ap, ◌∙◌, subst}
use Rattle.std.specs.Prelude.{⊤}
use Rattle.sq_token.specs.declared.kind.Reserved.{Reserved}
use Rattle.sq_token.specs.declared.kind.Reserved.TheVariants as r
use Rattle.sq_token.specs.declared.kind.Punctuation.{Punctuation}
use Rattle.sq_token.specs.declared.kind.Punctuation.TheVariants as p
use Rattle.sq_token.specs.Sign.{Sign, word, number, reserved, mark}
use Rattle.sq_ast.specs.Tree.{FormulaTree}
use Rattle.sq_ast.specs.ProcTree.{ProcTree, receive_before, send_before, branch_or, find_or}
use Rattle.sq_ast.specs.ProcGrammar.{IsOpen, IsProcessFront, IsLongestProcess, ProcessRunsDeep}
use Rattle.sq_parse_term.specs.Parse.{Read, deep, none, got, bind, recover, eat, identifier}
use Rattle.sq_parse_term.specs.Parse.{identifiers, instance}
use Rattle.sq_parse_term.proofs.Outcomes.{Never, Tells, Finds, bind_holds, recover_holds, weaken}
use Rattle.sq_parse_term.proofs.Outcomes.{eat_never, eat_self}
use Rattle.sq_parse_term.proofs.Runs.{Only, IsDeep}
use Rattle.sq_parse_process.specs.Process.{name_before, formula_before, behind, perhaps}
use Rattle.sq_parse_process.specs.Process.{read_call, read_new, read_in, read_out, read_test}
use Rattle.sq_parse_process.specs.Process.{read_find, read_let, read_replication, read_named}
use Rattle.sq_parse_process.specs.Process.{read_processes, read_group, read_reserved, read_marked}
use Rattle.sq_parse_process.specs.Process.{process, formula_at, parse_process}
use Rattle.sq_parse_process.specs.Spent.{IsSpent}
use Rattle.sq_parse_process.proofs.Finding.{Ahead, OpenAfter}
use Rattle.sq_parse_process.proofs.Room.{process_room}
use Rattle.sq_parse_process.proofs.Whole.{laws}

anything : {A : Type 0} (m : Read A) → Tells (λ a q. ⊤) m
anything deep = tt
anything none = tt
anything (got a q) = tt

module _ (F : List Sign → Read FormulaTree) (P : List Sign → Read ProcTree) where
  -- nothing was read
  abbrev Nothing : Read ProcTree → Type 0
  Nothing m = Never (λ a q. ⊥) m

  -- where nothing is read behind an `else`, none is tried
  pub not_tried : (a : ProcTree) (ts : List Sign) → IsSpent P a ts → IsOpen a
      → perhaps F P (reserved r.Else) ts ≡ got None ts
  not_tried a ts h o =
      by (behind F P (reserved r.Else) ts)
      (bind_holds ⊥ ⊤ (λ u q. ts ≡ reserved r.Else ∷ q) (λ b v. ⊥) (eat (reserved r.Else) ts) _
      (eat_never (reserved r.Else) ts) (λ u q e. subst Nothing (sym (h o q e)) tt))
    where
      by : (m : Read ProcTree) → Nothing m → recover m (λ b q. got (Some b) q) (got None ts)
          ≡ got None ts
      by deep n = absurd n
      by none n = refl
      by (got b q) n = absurd n

module _ (F : List Sign → Read FormulaTree) (P : List Sign → Read ProcTree)
    (spent : (ts : List Sign) → Tells (IsSpent P) (P ts)) where
  -- the same behind a process that may be left out; without it O says whether the whole is open
  abbrev SpentAfter : Type 0 → Option ProcTree → List Sign → Type 0
  SpentAfter O o ts = OpenAfter O o → (q : List Sign) → ts ≡ reserved r.Else ∷ q → P q ≡ none

  pub behind_spent : (s : Sign) (ts : List Sign) → Tells (IsSpent P) (behind F P s ts)
  behind_spent s ts = bind_holds ⊤ ⊤ (λ u q. ⊤) (IsSpent P) (eat s ts) _ (anything (eat s ts))
      (λ u q h. spent q)

  next_spent : (s : Sign) (ts : List Sign) → Tells (SpentAfter ⊥) (perhaps F P s ts)
  next_spent s ts = recover_holds ⊤ ⊤ (IsSpent P) (SpentAfter ⊥) ⊤ (behind F P s ts) _ _
      (behind_spent s ts) (λ a v h. h) (λ o. absurd o)

  else_is : (ts q : List Sign) → ts ≡ reserved r.Else ∷ q → behind F P (reserved r.Else) ts ≡ P q
  else_is ts q e = subst (λ z. behind F P (reserved r.Else) z ≡ P q) (sym e)
      (rw (eat_self (reserved r.Else) q) refl)

  else_spent : (ts : List Sign) → Tells (SpentAfter ⊤) (perhaps F P (reserved r.Else) ts)
  else_spent ts = by (behind F P (reserved r.Else) ts) refl
    where
      by : (m : Read ProcTree) → behind F P (reserved r.Else) ts ≡ m
          → Tells (SpentAfter ⊤) (recover m (λ a q. got (Some a) q) (got None ts))
      by deep e = tt
      by none e = λ o q f. sym (else_is ts q f) ∙ e
      by (got a v) e = subst (Tells (IsSpent P)) e (behind_spent (reserved r.Else) ts)

  receive_spent : (c x : List ℕ) (o : Option ProcTree) (v : List Sign) → SpentAfter ⊥ o v
      → IsSpent P (receive_before c x o) v
  receive_spent c x None v h = h
  receive_spent c x (Some a) v h = h

  send_spent : (c : List ℕ) (f : FormulaTree) (o : Option ProcTree) (v : List Sign)
      → SpentAfter ⊥ o v → IsSpent P (send_before c f o) v
  send_spent c f None v h = h
  send_spent c f (Some a) v h = h

  branch_spent : (f : FormulaTree) (a : ProcTree) (o : Option ProcTree) (v : List Sign)
      → SpentAfter ⊤ o v → IsSpent P (branch_or f a o) v
  branch_spent f a None v h = h
  branch_spent f a (Some b) v h = h

  find_spent : (ns : List (List ℕ)) (f : FormulaTree) (a : ProcTree) (o : Option ProcTree)
      (v : List Sign) → SpentAfter ⊤ o v → IsSpent P (find_or ns f a o) v
  find_spent ns f a None v h = h
  find_spent ns f a (Some b) v h = h

  test_spent : (s : Sign) (k : FormulaTree → ProcTree → Option ProcTree → ProcTree) (ts : List Sign)
      → ((f : FormulaTree) (a : ProcTree) (o : Option ProcTree) (v : List Sign) → SpentAfter ⊤ o v
      → IsSpent P (k f a o) v)
      → Tells (IsSpent P) (read_test F P s k ts)
  test_spent s k ts g =
      bind_holds ⊤ ⊤ (λ f q. ⊤) (IsSpent P) (F ts) _ (anything (F ts)) (λ f q i.
      bind_holds ⊤ ⊤ (λ a u. ⊤) (IsSpent P) (behind F P s q) _ (anything (behind F P s q)) (λ a u j.
      bind_holds ⊤ ⊤ (SpentAfter ⊤) (IsSpent P) (perhaps F P (reserved r.Else) u) _ (else_spent u)
      (λ o v h. g f a o v h)))

  reserved_spent : (w : Reserved) (ts : List Sign) → Tells (IsSpent P) (read_reserved F P w ts)
  unfolding read_new read_in read_out read_find read_let
  reserved_spent r.Null ts = λ o. absurd o
  reserved_spent r.New ts =
      bind_holds ⊤ ⊤ (λ n q. ⊤) (IsSpent P) (identifier ts) _ (anything (identifier ts)) (λ n q i.
      bind_holds ⊤ ⊤ (IsSpent P) (IsSpent P) (behind F P (mark p.Semicolon) q) _
      (behind_spent (mark p.Semicolon) q) (λ a u h. h))
  reserved_spent r.In ts =
      bind_holds ⊤ ⊤ (λ n q. ⊤) (IsSpent P) (eat (mark p.OpenParenthesis) ts) _
      (anything (eat (mark p.OpenParenthesis) ts)) (λ n q i.
      bind_holds ⊤ ⊤ (λ c u. ⊤) (IsSpent P) (name_before (mark p.Comma) q) _
      (anything (name_before (mark p.Comma) q)) (λ c u j.
      bind_holds ⊤ ⊤ (λ x v. ⊤) (IsSpent P) (name_before (mark p.CloseParenthesis) u) _
      (anything (name_before (mark p.CloseParenthesis) u)) (λ x v k.
      bind_holds ⊤ ⊤ (SpentAfter ⊥) (IsSpent P) (perhaps F P (mark p.Semicolon) v) _
      (next_spent (mark p.Semicolon) v) (λ o w h. receive_spent c x o w h))))
  reserved_spent r.Out ts =
      bind_holds ⊤ ⊤ (λ n q. ⊤) (IsSpent P) (eat (mark p.OpenParenthesis) ts) _
      (anything (eat (mark p.OpenParenthesis) ts)) (λ n q i.
      bind_holds ⊤ ⊤ (λ c u. ⊤) (IsSpent P) (name_before (mark p.Comma) q) _
      (anything (name_before (mark p.Comma) q)) (λ c u j.
      bind_holds ⊤ ⊤ (λ f v. ⊤) (IsSpent P) (formula_before F P (mark p.CloseParenthesis) u) _
      (anything (formula_before F P (mark p.CloseParenthesis) u)) (λ f v k.
      bind_holds ⊤ ⊤ (SpentAfter ⊥) (IsSpent P) (perhaps F P (mark p.Semicolon) v) _
      (next_spent (mark p.Semicolon) v) (λ o w h. send_spent c f o w h))))
  reserved_spent r.If ts = test_spent (reserved r.Then) branch_or ts branch_spent
  reserved_spent r.Find ts =
      bind_holds ⊤ ⊤ (λ ns q. ⊤) (IsSpent P) (identifiers ts) _ (anything (identifiers ts))
      (λ ns q i.
      bind_holds ⊤ ⊤ (λ s u. ⊤) (IsSpent P) (eat (reserved r.Such) q) _
      (anything (eat (reserved r.Such) q)) (λ s u j.
      bind_holds ⊤ ⊤ (λ t v. ⊤) (IsSpent P) (eat (reserved r.That) u) _
      (anything (eat (reserved r.That) u)) (λ t v k.
      test_spent (reserved r.In) (find_or ns) v (find_spent ns))))
  reserved_spent r.Let ts =
      bind_holds ⊤ ⊤ (λ n q. ⊤) (IsSpent P) (name_before (mark p.Equals) ts) _
      (anything (name_before (mark p.Equals) ts)) (λ n q i.
      bind_holds ⊤ ⊤ (λ f u. ⊤) (IsSpent P) (F q) _ (anything (F q)) (λ f u j.
      bind_holds ⊤ ⊤ (IsSpent P) (IsSpent P) (behind F P (reserved r.In) u) _
      (behind_spent (reserved r.In) u) (λ a v h. h)))
  reserved_spent _ ts = tt

  marked_spent : (i : Punctuation) (ts : List Sign) → Tells (IsSpent P) (read_marked F P i ts)
  unfolding read_replication read_group
  marked_spent p.Repeat ts =
      bind_holds ⊤ ⊤ (λ n q. ⊤) (IsSpent P) (identifier ts) _ (anything (identifier ts)) (λ n q i.
      bind_holds ⊤ ⊤ (IsSpent P) (IsSpent P) (P q) _ (spent q) (λ a v h. h))
  marked_spent p.OpenParenthesis ts =
      bind_holds ⊤ ⊤ (λ ps q. ⊤) (IsSpent P) (read_processes F P (suc (length ts)) ts) _
      (anything (read_processes F P (suc (length ts)) ts)) (λ ps q i.
      bind_holds ⊤ ⊤ (λ u v. ⊤) (IsSpent P) (eat (mark p.CloseParenthesis) q) _
      (anything (eat (mark p.CloseParenthesis) q)) (λ u v j. λ o. absurd o))
  marked_spent _ ts = tt

  call_spent : (n : List ℕ) (ts : List Sign) → Tells (IsSpent P) (read_call n ts)
  call_spent n ts = recover_holds ⊤ ⊤ (λ ns q. ⊤) (IsSpent P) ⊤ (instance ts) _ _
      (anything (instance ts)) (λ ns q h. λ o. absurd o) (λ o. absurd o)

  all_spent : (ts : List Sign) → Tells (IsSpent P) (process F P ts)
  unfolding process read_named
  all_spent [] = tt
  all_spent (word n ∷ q) = recover_holds ⊤ ⊤ (IsSpent P) (IsSpent P) ⊤ (behind F P (mark p.Colon) q)
      _ _ (behind_spent (mark p.Colon) q) (λ a v h. h) (call_spent n q)
  all_spent (number k ∷ q) = tt
  all_spent (reserved w ∷ q) = reserved_spent w q
  all_spent (mark i ∷ q) = marked_spent i q

-- with one more node still to go, there is none either
later : (d : ℕ) (ts : List Sign) → parse_process d ts ≡ none → parse_process (suc d) ts ≡ none
later d ts e = by (parse_process (suc d) ts) ((laws (suc d)).only ts)
  where
    nothing : (a : ProcTree) (q : List Sign) → IsProcessFront ts a q → ⊥
    nothing a q f = subst (Finds (Ahead a q)) (ap (parse_process d) (sym f.split) ∙ e)
        ((laws d).finds a q f.built)

    by : (m : Read ProcTree) → Only (ProcessRunsDeep (suc d) ts) (IsLongestProcess ts) m → m ≡ none
    by deep h = absurd (subst IsDeep e ((laws d).deep ts (process_room d ts h)))
    by none h = refl
    by (got a q) h = absurd (nothing a q h.front)

pub spent : (d : ℕ) (ts : List Sign) → Tells (IsSpent (parse_process d)) (parse_process d ts)
unfolding parse_process
spent zero ts = tt
spent (suc d) ts = weaken ⊤ ⊤ (IsSpent (parse_process d)) (IsSpent (parse_process (suc d)))
    (process (formula_at d) (parse_process d) ts)
    (all_spent (formula_at d) (parse_process d) (spent d) ts)
    (λ a v h. λ o q e. later d q (h o q e))

-- what stands behind a token and a process
pub given_spent : (d : ℕ) (s : Sign) (ts : List Sign) (a : ProcTree) (v : List Sign)
    → behind (formula_at d) (parse_process d) s ts ≡ got a v → IsSpent (parse_process d) a v
given_spent d s ts a v e =
    subst (Tells (IsSpent (parse_process d))) e
    (behind_spent (formula_at d) (parse_process d) (spent d) s ts)
