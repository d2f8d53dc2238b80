-- What is read is a process, and stands at the front; the place is deep only where it runs deep.
use Rattle.std.proofs.Common.{◌≡◌, ℕ, zero, suc, List, [], ◌∷◌, ◌++◌, length, Option}
use Rattle.std.proofs.Common.{Some, None, refl, sym, ap, ◌∙◌, subst, arith, append_assoc}
use Rattle.std.proofs.Common.{length-append, inl, inr}
use Rattle.std.specs.Prelude.{⊤}
use Rattle.std.proofs.lemmas.List.{append-nil}
use Rattle.sq_token.specs.declared.kind.Reserved.{Reserved}
use Rattle.sq_token.specs.declared.kind.Reserved.TheVariants as r
use Rattle.sq_token.specs.declared.kind.Punctuation.{Punctuation}
use Rattle.sq_token.specs.declared.kind.Punctuation.TheVariants as p
use Rattle.sq_token.specs.Sign.{Sign, word, number, reserved, mark}
use Rattle.sq_ast.specs.declared.formula.Form.TheVariants.{Formula}
use Rattle.sq_ast.specs.Tree.{FormulaTree}
use Rattle.sq_ast.specs.Grammar.{names_spelled, IsFilled, spelled, IsBuilt}
use Rattle.sq_ast.specs.Deep.{IsLongest}
use Rattle.sq_ast.specs.ProcTree.{ProcTree, receive_before, send_before, branch_or}
use Rattle.sq_ast.specs.ProcTree.{find_or}
use Rattle.sq_ast.specs.ProcTree.{ProcTrees, none, more}
use Rattle.sq_ast.specs.ProcGrammar.{process_spelled, processes_spelled, more_processes_spelled}
use Rattle.sq_ast.specs.ProcGrammar.{IsOpen, AreSome, IsProcess, AreProcesses, IsProcessFront}
use Rattle.sq_ast.specs.ProcGrammar.{IsLongestProcess, creation, reception, emission, condition}
use Rattle.sq_ast.specs.ProcGrammar.{finding, definition, replication, labelling, process_lead}
use Rattle.sq_ast.specs.ProcGrammar.{token, a_formula, a_process, ProcElementDeep, ParallelDeep}
use Rattle.sq_ast.specs.ProcGrammar.{ProcessDeep, in_alternative, in_parallel}
use Rattle.sq_parse_term.specs.Parse.{Read, eat, identifier, identifiers}
use Rattle.sq_parse_term.specs.Parse.{instance}
use Rattle.sq_parse_term.proofs.Outcomes.{Never, bind_holds, recover_holds, weaken, never_holds}
use Rattle.sq_parse_term.proofs.Outcomes.{eat_never, identifier_never}
use Rattle.sq_parse_term.proofs.Sound.{both_split, identifiers_never, instance_never}
use Rattle.sq_parse_term.proofs.Runs.{Only, only_map}
use Rattle.sq_parse_process.specs.Process.{name_before, formula_before, behind, perhaps, read_call}
use Rattle.sq_parse_process.specs.Process.{read_new, read_in, read_out, read_test, read_find}
use Rattle.sq_parse_process.specs.Process.{read_let, read_replication, read_named, read_processes}
use Rattle.sq_parse_process.specs.Process.{read_group, read_reserved, read_marked, process}
use Rattle.sq_parse_process.proofs.Fill.{fill}

-- ---- the process that may stand at the end

abbrev pub IsPerhaps : Option ProcTree → Type 0
IsPerhaps None = ⊤
IsPerhaps (Some a) = IsProcess a

abbrev pub perhaps_spelled : Sign → Option ProcTree → List Sign
perhaps_spelled s None = []
perhaps_spelled s (Some a) = s ∷ process_spelled a

-- an `else` belongs to no open process before it
abbrev pub IsApart : ProcTree → Option ProcTree → Type 0
IsApart a None = ⊤
IsApart a (Some b) = IsOpen a → ⊥

abbrev pub test_spelled : Sign → FormulaTree → ProcTree → Option ProcTree → List Sign
test_spelled s f a o = spelled f ++ s ∷ (process_spelled a ++ perhaps_spelled (reserved r.Else) o)

pub record Tested (s : Sign) (ts : List Sign) (f : FormulaTree) (a : ProcTree) (o : Option ProcTree)
    (v : List Sign) : Type 0 where
  pub test : IsBuilt f
  pub yes : IsProcess a
  pub no : IsPerhaps o
  pub apart : IsApart a o
  pub split : ts ≡ test_spelled s f a o ++ v

pub receive_front : (c x : List ℕ) (o : Option ProcTree) (ts y z : List Sign) → ts ≡ reserved r.In
    ∷ mark p.OpenParenthesis ∷ word c ∷ mark p.Comma ∷ word x ∷ mark p.CloseParenthesis ∷ y
    → IsPerhaps o → y ≡ perhaps_spelled (mark p.Semicolon) o ++ z
    → IsProcessFront ts (receive_before c x o) z
receive_front c x None ts y z e h g =
    record {
      built = tt;
      split =
          e ∙ ap (λ w. reserved r.In ∷ mark p.OpenParenthesis ∷ word c ∷ mark p.Comma ∷ word x
          ∷ mark p.CloseParenthesis ∷ w) g;
    }
receive_front c x (Some a) ts y z e h g =
    record {
      built = h;
      split =
          e ∙ ap (λ w. reserved r.In ∷ mark p.OpenParenthesis ∷ word c ∷ mark p.Comma ∷ word x
          ∷ mark p.CloseParenthesis ∷ w) g;
    }

pub send_front : (c : List ℕ) (f : FormulaTree) (o : Option ProcTree) (ts v z : List Sign) → ts
    ≡ reserved r.Out ∷ mark p.OpenParenthesis ∷ word c ∷ mark p.Comma ∷ v → IsBuilt f → IsPerhaps o
    → v ≡ (spelled f ++ mark p.CloseParenthesis ∷ perhaps_spelled (mark p.Semicolon) o) ++ z
    → IsProcessFront ts (send_before c f o) z
send_front c f None ts v z e b h g =
    record {
      built = b;
      split =
          e ∙ ap (λ w. reserved r.Out ∷ mark p.OpenParenthesis ∷ word c ∷ mark p.Comma ∷ w) g;
    }
send_front c f (Some a) ts v z e b h g =
    record {
      built = (b, h);
      split =
          e ∙ ap (λ w. reserved r.Out ∷ mark p.OpenParenthesis ∷ word c ∷ mark p.Comma ∷ w) g;
    }

branch_front : (f : FormulaTree) (a : ProcTree) (o : Option ProcTree) (ts v : List Sign)
    → Tested (reserved r.Then) ts f a o v → IsProcessFront (reserved r.If ∷ ts) (branch_or f a o) v
branch_front f a None ts v h = record {
  built = (h.test, h.yes);
  split = ap (λ z. reserved r.If ∷ z)
      (h.split ∙ ap (λ z. (spelled f ++ reserved r.Then ∷ z) ++ v)
      (append-nil (process_spelled a)));
}
branch_front f a (Some b) ts v h =
    record { built = (h.test, h.yes, h.apart, h.no); split = ap (λ z. reserved r.If ∷ z) h.split }

find_front : (ns : List (List ℕ)) (f : FormulaTree) (a : ProcTree) (o : Option ProcTree)
    (ts u v : List Sign) → IsFilled ns → ts ≡ names_spelled ns ++ reserved r.Such ∷ reserved r.That
    ∷ u → Tested (reserved r.In) u f a o v → IsProcessFront (reserved r.Find ∷ ts)
    (find_or ns f a o) v
find_front ns f a None ts u v w e h = record {
  built = (w, h.test, h.yes);
  split = ap (λ z. reserved r.Find ∷ z)
      (both_split ts (names_spelled ns) (reserved r.Such ∷ reserved r.That ∷ u)
      (reserved r.Such ∷ reserved r.That ∷ (spelled f ++ reserved r.In ∷ process_spelled a)) v e
      (ap (λ z. reserved r.Such ∷ reserved r.That ∷ z)
      (h.split ∙ ap (λ z. (spelled f ++ reserved r.In ∷ z) ++ v)
      (append-nil (process_spelled a)))));
}
find_front ns f a (Some b) ts u v w e h = record {
  built = (w, h.test, h.yes, h.apart, h.no);
  split = ap (λ z. reserved r.Find ∷ z)
      (both_split ts (names_spelled ns) (reserved r.Such ∷ reserved r.That ∷ u)
      (reserved r.Such ∷ reserved r.That ∷ test_spelled (reserved r.In) f a (Some b)) v e
      (ap (λ z. reserved r.Such ∷ reserved r.That ∷ z) h.split));
}

-- a process that was read as far as it goes is not open before an `else` with a process
apart : (u : List Sign) (a : ProcTree) (y : List Sign) (o : Option ProcTree) (z : List Sign)
    → IsLongestProcess u a y → IsPerhaps o → y ≡ perhaps_spelled (reserved r.Else) o ++ z
    → IsApart a o
apart u a y None z l h e = tt
apart u a y (Some b) z l h e = λ o.
    let t = fill a b l.front.built h o in
    let split = both_split u (process_spelled a) y (reserved r.Else ∷ process_spelled b) z
    l.front.split e in
    let no_longer = l.longest t.tree z
    (record { built = t.built; split = split ∙ ap (λ w. w ++ z) (sym t.spelled_is) }) in
    let never : ⊥ = omega (arith, no_longer, ap length e, length-append (process_spelled b) z) in
    never

-- ---- calls

pub call_never : (n : List ℕ) (ts : List Sign) → Never (IsProcessFront (word n ∷ ts))
    (read_call n ts)
call_never n ts = recover_holds ⊥ ⊤ _ (IsProcessFront (word n ∷ ts)) ⊤ (instance ts) _ _
    (instance_never ts)
    (λ ns q h. record { built = h.0; split = ap (λ z. word n ∷ z) h.1 })
    (record { built = tt; split = refl })

name_before_never : (s : Sign) (ts : List Sign) → Never (λ n q. ts ≡ word n ∷ s ∷ q)
    (name_before s ts)
name_before_never s ts =
    bind_holds ⊥ ⊤ (λ n q. ts ≡ word n ∷ q) _ (identifier ts) _ (identifier_never ts) (λ n q e.
    bind_holds ⊥ ⊤ (λ u v. q ≡ s ∷ v) _ (eat s q) _ (eat_never s q)
    (λ u v f. e ∙ ap (λ z. word n ∷ z) f))

pub more_list : (ps : ProcTrees) → AreSome ps → mark p.Bar ∷ processes_spelled ps
    ≡ more_processes_spelled ps
more_list none h = absurd h
more_list (more a ps) h = refl

module _ (F : List Sign → Read FormulaTree) (P : List Sign → Read ProcTree)
    (FD PD : List Sign → Type 0)
    (formula_only : (ts : List Sign) → Only (FD ts) (IsLongest Formula ts) (F ts))
    (process_only : (ts : List Sign) → Only (PD ts) (IsLongestProcess ts) (P ts)) where
  behind_only : (s : Sign) (ts : List Sign) (D : Type 0) → ((q : List Sign) → ts ≡ s ∷ q → PD q → D)
      → Only D (λ a v. (q : List Sign) × (ts ≡ s ∷ q) × IsLongestProcess q a v) (behind F P s ts)
  behind_only s ts D f =
      bind_holds D ⊤ (λ u q. ts ≡ s ∷ q) _ (eat s ts) _
      (never_holds D _ (eat s ts) (eat_never s ts)) (λ u q e.
      weaken D ⊤ (IsLongestProcess q) _ (P q)
      (only_map (PD q) D _ (P q) (process_only q) (λ h. f q e h)) (λ a v h. (q, e, h)))

  formula_before_only : (s : Sign) (ts : List Sign) (D : Type 0) → (FD ts → D)
      → Only D (λ f v. IsLongest Formula ts f (s ∷ v)) (formula_before F P s ts)
  formula_before_only s ts D d =
      bind_holds D ⊤ (IsLongest Formula ts) _ (F ts) _
      (only_map (FD ts) D _ (F ts) (formula_only ts) d) (λ f q l.
      bind_holds D ⊤ (λ u v. q ≡ s ∷ v) _ (eat s q) _ (never_holds D _ (eat s q) (eat_never s q))
      (λ u v e. subst (IsLongest Formula ts f) e l))

  perhaps_only : (s : Sign) (ts : List Sign) (D : Type 0)
      → ((q : List Sign) → ts ≡ s ∷ q → PD q → D)
      → Only D (λ o v. IsPerhaps o × (ts ≡ perhaps_spelled s o ++ v)) (perhaps F P s ts)
  perhaps_only s ts D f =
      recover_holds D ⊤ (λ a v. (q : List Sign) × (ts ≡ s ∷ q) × IsLongestProcess q a v)
      (λ o v. IsPerhaps o × (ts ≡ perhaps_spelled s o ++ v)) ⊤ (behind F P s ts) _ _
      (behind_only s ts D f)
      (λ a v h. (h.2.front.built, h.1 ∙ ap (λ z. s ∷ z) h.2.front.split))
      (tt, refl)

  test_only : (s : Sign) (k : FormulaTree → ProcTree → Option ProcTree → ProcTree) (ts : List Sign)
      (D : Type 0) (Q : ProcTree → List Sign → Type 0)
      → (ProcElementDeep FD PD (a_formula ∷ token s ∷ a_process ∷ token (reserved r.Else)
      ∷ a_process ∷ []) ts → D)
      → ((f : FormulaTree) (a : ProcTree) (o : Option ProcTree) (v : List Sign)
      → Tested s ts f a o v → Q (k f a o) v)
      → Only D Q (read_test F P s k ts)
  test_only s k ts D Q d g =
      bind_holds D ⊤ (IsLongest Formula ts) Q (F ts) _
      (only_map (FD ts) D _ (F ts) (formula_only ts) (λ h. d (inl h))) (λ f q lf.
      bind_holds D ⊤ _ Q (behind F P s q) _
      (behind_only s q D (λ u e h. d (inr (f, q, lf, (u, e, inl h))))) (λ a y la.
      bind_holds D ⊤ _ Q (perhaps F P (reserved r.Else) y) _
      (perhaps_only (reserved r.Else) y D
      (λ x e h. d (inr (f, q, lf, (la.0, la.1, inr (a, y, la.2, (x, e, inl h))))))) (λ o z h.
      g f a o z (record {
        test = lf.front.built;
        yes = la.2.front.built;
        no = h.0;
        apart = apart la.0 a y o z la.2 h.0 h.1;
        split = both_split ts (spelled f) q
            (s ∷ (process_spelled a ++ perhaps_spelled (reserved r.Else) o)) z lf.front.split
            (la.1 ∙ ap (λ w. s ∷ w)
            (both_split la.0 (process_spelled a) y (perhaps_spelled (reserved r.Else) o) z
            la.2.front.split h.1));
      }))))

  new_only : (ts : List Sign) → Only (ProcessDeep FD PD (reserved r.New ∷ ts))
      (IsProcessFront (reserved r.New ∷ ts)) (read_new F P ts)
  unfolding read_new
  new_only ts =
      let D = ProcessDeep FD PD (reserved r.New ∷ ts) in
      bind_holds D ⊤ _ _ (identifier ts) _ (never_holds D _ (identifier ts) (identifier_never ts))
      (λ n q e.
      let lead : (u : List Sign) → q ≡ mark p.Semicolon ∷ u → reserved r.New ∷ ts
      ≡ process_lead (creation n) ++ u =
      λ u f. ap (λ z. reserved r.New ∷ z) (e ∙ ap (λ z. word n ∷ z) f) in
      bind_holds D ⊤ _ _ (behind F P (mark p.Semicolon) q) _
      (behind_only (mark p.Semicolon) q D
      (λ u f h. in_alternative (creation n) u tt (lead u f) (inl h))) (λ a v h.
      record {
        built = h.2.front.built;
        split = lead h.0 h.1
            ∙ ap (λ z. reserved r.New ∷ word n ∷ mark p.Semicolon ∷ z) h.2.front.split;
      }))

  in_only : (ts : List Sign) → Only (ProcessDeep FD PD (reserved r.In ∷ ts))
      (IsProcessFront (reserved r.In ∷ ts)) (read_in F P ts)
  unfolding read_in
  in_only ts =
      let D = ProcessDeep FD PD (reserved r.In ∷ ts) in
      bind_holds D ⊤ _ _ (eat (mark p.OpenParenthesis) ts) _
      (never_holds D _ (eat (mark p.OpenParenthesis) ts)
      (eat_never (mark p.OpenParenthesis) ts)) (λ i q e.
      bind_holds D ⊤ _ _ (name_before (mark p.Comma) q) _
      (never_holds D _ (name_before (mark p.Comma) q) (name_before_never (mark p.Comma) q))
      (λ c u f.
      bind_holds D ⊤ _ _ (name_before (mark p.CloseParenthesis) u) _
      (never_holds D _ (name_before (mark p.CloseParenthesis) u)
      (name_before_never (mark p.CloseParenthesis) u)) (λ x y g.
      let front : reserved r.In ∷ ts ≡ reserved r.In ∷ mark p.OpenParenthesis ∷ word c
      ∷ mark p.Comma ∷ word x ∷ mark p.CloseParenthesis ∷ y =
      ap (λ z. reserved r.In ∷ z)
      (e ∙ ap (λ z. mark p.OpenParenthesis ∷ z) (f ∙ ap (λ z. word c ∷ mark p.Comma ∷ z) g)) in
      bind_holds D ⊤ _ _ (perhaps F P (mark p.Semicolon) y) _
      (perhaps_only (mark p.Semicolon) y D
      (λ a m d. in_alternative (reception c x) a tt
      (front ∙ ap (λ z. reserved r.In ∷ mark p.OpenParenthesis ∷ word c ∷ mark p.Comma ∷ word x
      ∷ mark p.CloseParenthesis ∷ z) m) (inl d))) (λ o z m.
      receive_front c x o (reserved r.In ∷ ts) y z front m.0 m.1))))

  out_only : (ts : List Sign) → Only (ProcessDeep FD PD (reserved r.Out ∷ ts))
      (IsProcessFront (reserved r.Out ∷ ts)) (read_out F P ts)
  unfolding read_out
  out_only ts =
      let D = ProcessDeep FD PD (reserved r.Out ∷ ts) in
      bind_holds D ⊤ _ _ (eat (mark p.OpenParenthesis) ts) _
      (never_holds D _ (eat (mark p.OpenParenthesis) ts)
      (eat_never (mark p.OpenParenthesis) ts)) (λ i q e.
      bind_holds D ⊤ _ _ (name_before (mark p.Comma) q) _
      (never_holds D _ (name_before (mark p.Comma) q) (name_before_never (mark p.Comma) q))
      (λ c v g.
      let front : reserved r.Out ∷ ts ≡ reserved r.Out ∷ mark p.OpenParenthesis ∷ word c
      ∷ mark p.Comma ∷ v =
      ap (λ z. reserved r.Out ∷ z) (e ∙ ap (λ z. mark p.OpenParenthesis ∷ z) g) in
      bind_holds D ⊤ _ _ (formula_before F P (mark p.CloseParenthesis) v) _
      (formula_before_only (mark p.CloseParenthesis) v D
      (λ h. in_alternative (emission c) v tt front (inl h))) (λ f y l.
      bind_holds D ⊤ _ _ (perhaps F P (mark p.Semicolon) y) _
      (perhaps_only (mark p.Semicolon) y D
      (λ a n d. in_alternative (emission c) v tt front
      (inr (f, mark p.CloseParenthesis ∷ y, l, (y, refl, (a, n, inl d)))))) (λ o z n.
      send_front c f o (reserved r.Out ∷ ts) v z front l.front.built n.0
      (both_split v (spelled f) (mark p.CloseParenthesis ∷ y)
      (mark p.CloseParenthesis ∷ perhaps_spelled (mark p.Semicolon) o) z l.front.split
      (ap (λ x. mark p.CloseParenthesis ∷ x) n.1))))))

  find_only : (ts : List Sign) → Only (ProcessDeep FD PD (reserved r.Find ∷ ts))
      (IsProcessFront (reserved r.Find ∷ ts)) (read_find F P ts)
  unfolding read_find
  find_only ts =
      let D = ProcessDeep FD PD (reserved r.Find ∷ ts) in
      bind_holds D ⊤ _ _ (identifiers ts) _
      (never_holds D _ (identifiers ts) (identifiers_never ts)) (λ ns q h.
      bind_holds D ⊤ _ _ (eat (reserved r.Such) q) _
      (never_holds D _ (eat (reserved r.Such) q) (eat_never (reserved r.Such) q)) (λ i u e.
      bind_holds D ⊤ _ _ (eat (reserved r.That) u) _
      (never_holds D _ (eat (reserved r.That) u) (eat_never (reserved r.That) u)) (λ j v g.
      let names : ts ≡ names_spelled ns ++ reserved r.Such ∷ reserved r.That ∷ v =
      h.1 ∙ ap (λ z. names_spelled ns ++ z) (e ∙ ap (λ z. reserved r.Such ∷ z) g) in
      let front : reserved r.Find ∷ ts ≡ process_lead (finding ns) ++ v =
      ap (λ z. reserved r.Find ∷ z)
      (names ∙ sym (append_assoc (names_spelled ns) (reserved r.Such ∷ reserved r.That ∷ []) v))
      in
      test_only (reserved r.In) (find_or ns) v D (IsProcessFront (reserved r.Find ∷ ts))
      (λ d. in_alternative (finding ns) v h.0 front d)
      (λ f a o z t. find_front ns f a o ts v z h.0 names t))))

  let_only : (ts : List Sign) → Only (ProcessDeep FD PD (reserved r.Let ∷ ts))
      (IsProcessFront (reserved r.Let ∷ ts)) (read_let F P ts)
  unfolding read_let
  let_only ts =
      let D = ProcessDeep FD PD (reserved r.Let ∷ ts) in
      bind_holds D ⊤ _ _ (name_before (mark p.Equals) ts) _
      (never_holds D _ (name_before (mark p.Equals) ts) (name_before_never (mark p.Equals) ts))
      (λ n u e.
      let front : reserved r.Let ∷ ts ≡ process_lead (definition n) ++ u =
      ap (λ z. reserved r.Let ∷ z) e in
      bind_holds D ⊤ (IsLongest Formula u) _ (F u) _
      (only_map (FD u) D _ (F u) (formula_only u)
      (λ h. in_alternative (definition n) u tt front (inl h))) (λ f v lf.
      bind_holds D ⊤ _ _ (behind F P (reserved r.In) v) _
      (behind_only (reserved r.In) v D
      (λ w m d. in_alternative (definition n) u tt front (inr (f, v, lf, (w, m, inl d)))))
      (λ a y h.
      record {
        built = (lf.front.built, h.2.front.built);
        split = front ∙ ap (λ z. reserved r.Let ∷ word n ∷ mark p.Equals ∷ z)
            (both_split u (spelled f) v (reserved r.In ∷ process_spelled a) y lf.front.split
            (h.1 ∙ ap (λ z. reserved r.In ∷ z) h.2.front.split));
      })))

  replication_only : (ts : List Sign) → Only (ProcessDeep FD PD (mark p.Repeat ∷ ts))
      (IsProcessFront (mark p.Repeat ∷ ts)) (read_replication F P ts)
  unfolding read_replication
  replication_only ts =
      let D = ProcessDeep FD PD (mark p.Repeat ∷ ts) in
      bind_holds D ⊤ _ _ (identifier ts) _ (never_holds D _ (identifier ts) (identifier_never ts))
      (λ n q e.
      let front : mark p.Repeat ∷ ts ≡ process_lead (replication n) ++ q =
      ap (λ z. mark p.Repeat ∷ z) e in
      bind_holds D ⊤ (IsLongestProcess q) _ (P q) _
      (only_map (PD q) D _ (P q) (process_only q)
      (λ h. in_alternative (replication n) q tt front (inl h))) (λ a v h.
      record {
        built = h.front.built;
        split =
            front ∙ ap (λ z. mark p.Repeat ∷ word n ∷ z) h.front.split;
      }))

  named_only : (n : List ℕ) (ts : List Sign) → Only (ProcessDeep FD PD (word n ∷ ts))
      (IsProcessFront (word n ∷ ts)) (read_named F P n ts)
  unfolding read_named
  named_only n ts =
      let D = ProcessDeep FD PD (word n ∷ ts) in
      recover_holds D ⊤ (λ a v. (q : List Sign) × (ts ≡ mark p.Colon ∷ q) × IsLongestProcess q a v)
      (IsProcessFront (word n ∷ ts)) ⊤ (behind F P (mark p.Colon) ts) _ _
      (behind_only (mark p.Colon) ts D
      (λ q e h. in_alternative (labelling n) q tt (ap (λ z. word n ∷ z) e) (inl h)))
      (λ a v h. record {
        built = h.2.front.built;
        split =
            ap (λ z. word n ∷ z) (h.1 ∙ ap (λ z. mark p.Colon ∷ z) h.2.front.split);
      })
      (never_holds D _ (read_call n ts) (call_never n ts))

  processes_only : (m : ℕ) (ts : List Sign) → Only ((ps : ProcTrees) × ParallelDeep FD PD ps ts)
      (λ ps v. AreSome ps × AreProcesses ps × (ts ≡ processes_spelled ps ++ v))
      (read_processes F P m ts)
  unfolding read_processes
  processes_only zero ts = tt
  processes_only (suc m) ts =
      let D = (ps : ProcTrees) × ParallelDeep FD PD ps ts in
      let Q : ProcTrees → List Sign → Type 0 = λ ps v. AreSome ps × AreProcesses ps
      × (ts ≡ processes_spelled ps ++ v) in
      bind_holds D ⊤ (IsLongestProcess ts) Q (P ts) _
      (only_map (PD ts) D _ (P ts) (process_only ts) (λ h. (none, h))) (λ a q h.
      recover_holds D ⊤ (λ u v. q ≡ mark p.Bar ∷ v) Q ⊤ (eat (mark p.Bar) q) _ _
      (never_holds D _ (eat (mark p.Bar) q) (eat_never (mark p.Bar) q))
      (λ u v e. bind_holds D ⊤ (λ ps w. AreSome ps × AreProcesses ps
      × (v ≡ processes_spelled ps ++ w)) Q (read_processes F P m v) _
      (only_map ((ps : ProcTrees) × ParallelDeep FD PD ps v) D _ (read_processes F P m v)
      (processes_only m v) (λ g. (more a g.0, (v, subst (IsLongestProcess ts a) e h, g.1))))
      (λ ps w g. (
        tt,
        (h.front.built, g.1),
        both_split ts (process_spelled a) q
            (more_processes_spelled ps) w h.front.split
            (e ∙ (ap (λ z. mark p.Bar ∷ z) g.2 ∙ ap (λ z. z ++ w) (more_list ps g.0))),
      ))) (
        tt,
        (h.front.built, tt),
        h.front.split
            ∙ ap (λ z. z ++ q) (sym (append-nil (process_spelled a))),
      ))

  group_only : (ts : List Sign) → Only (ProcessDeep FD PD (mark p.OpenParenthesis ∷ ts))
      (IsProcessFront (mark p.OpenParenthesis ∷ ts)) (read_group F P ts)
  unfolding read_group
  group_only ts =
      let D = ProcessDeep FD PD (mark p.OpenParenthesis ∷ ts) in
      bind_holds D ⊤ _ _ (read_processes F P (suc (length ts)) ts) _
      (only_map ((ps : ProcTrees) × ParallelDeep FD PD ps ts) D _
      (read_processes F P (suc (length ts)) ts) (processes_only (suc (length ts)) ts)
      (λ g. in_parallel g.0 ts refl g.1)) (λ ps q h.
      bind_holds D ⊤ _ _ (eat (mark p.CloseParenthesis) q) _
      (never_holds D _ (eat (mark p.CloseParenthesis) q)
      (eat_never (mark p.CloseParenthesis) q)) (λ u v e.
      record {
        built = (h.0, h.1);
        split =
            ap (λ z. mark p.OpenParenthesis ∷ z)
            (both_split ts (processes_spelled ps) q (mark p.CloseParenthesis ∷ []) v h.2 e);
      }))

  reserved_only : (w : Reserved) (q : List Sign) → Only (ProcessDeep FD PD (reserved w ∷ q))
      (IsProcessFront (reserved w ∷ q)) (read_reserved F P w q)
  reserved_only r.Null q = record { built = tt; split = refl }
  reserved_only r.New q = new_only q
  reserved_only r.In q = in_only q
  reserved_only r.Out q = out_only q
  reserved_only r.If q =
      test_only (reserved r.Then) branch_or q (ProcessDeep FD PD (reserved r.If ∷ q))
      (IsProcessFront (reserved r.If ∷ q)) (λ d. in_alternative condition q tt refl d)
      (λ f a o v t. branch_front f a o q v t)
  reserved_only r.Find q = find_only q
  reserved_only r.Let q = let_only q
  reserved_only _ q = tt

  marked_only : (i : Punctuation) (q : List Sign) → Only (ProcessDeep FD PD (mark i ∷ q))
      (IsProcessFront (mark i ∷ q)) (read_marked F P i q)
  marked_only p.Repeat q = replication_only q
  marked_only p.OpenParenthesis q = group_only q
  marked_only _ q = tt

  pub all_only : (ts : List Sign) → Only (ProcessDeep FD PD ts) (IsProcessFront ts) (process F P ts)
  unfolding process
  all_only [] = tt
  all_only (word n ∷ q) = named_only n q
  all_only (number n ∷ q) = tt
  all_only (reserved w ∷ q) = reserved_only w q
  all_only (mark i ∷ q) = marked_only i q
