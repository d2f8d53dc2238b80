-- What begins the list is read, or something longer.
use Rattle.std.proofs.Common.{◌≡◌, ℕ, zero, suc, ◌+◌, ◌<◌, ◌≤◌, List, [], ◌∷◌, ◌++◌, length, Option}
use Rattle.std.proofs.Common.{Some, None, refl, sym, ap, ◌∙◌, subst, arith, append_assoc}
use Rattle.std.proofs.Common.{length-append, ◌⊎◌, inl, inr}
use Rattle.std.specs.Prelude.{⊤}
use Rattle.std.proofs.lemmas.List.{append-nil}
use Rattle.sq_token.specs.declared.kind.Reserved.TheVariants as r
use Rattle.sq_token.specs.declared.kind.Punctuation.TheVariants as p
use Rattle.sq_token.specs.Sign.{Sign, word, reserved, mark}
use Rattle.sq_ast.specs.Tree.{FormulaTree}
use Rattle.sq_ast.specs.Grammar.{names_spelled, IsFilled, spelled, IsBuilt}
use Rattle.sq_ast.specs.ProcTree.{ProcTree, null, new, receive, receive_then, receive_before, send}
use Rattle.sq_ast.specs.ProcTree.{send_then, send_before, branch, branch_else, branch_or, find}
use Rattle.sq_ast.specs.ProcTree.{find_else, find_or, define, replicate, label, call, call_with}
use Rattle.sq_ast.specs.ProcTree.{parallel, ProcTrees, more}
use Rattle.sq_ast.specs.ProcTree as tree
use Rattle.sq_ast.specs.ProcGrammar.{process_spelled, processes_spelled, more_processes_spelled}
use Rattle.sq_ast.specs.ProcGrammar.{IsOpen, AreSome, IsProcess, AreProcesses, IsProcessFront}
use Rattle.sq_parse_term.specs.Parse.{Read, deep, none, got, bind, recover, eat}
use Rattle.sq_parse_term.specs.Parse.{instance}
use Rattle.sq_parse_term.proofs.Outcomes.{Tells, Finds, bind_holds, recover_holds, recover_finds}
use Rattle.sq_parse_term.proofs.Outcomes.{never_holds, weaken, eat_self, eat_other, eat_never}
use Rattle.sq_parse_term.proofs.Sound.{instance_never}
use Rattle.sq_parse_term.proofs.Again.{identifiers_again, no_comma, instance_again}
use Rattle.sq_parse_term.proofs.Complete.{goes_on, exact, Exactly}
use Rattle.sq_parse_term.proofs.Complete as formula
use Rattle.sq_parse_process.specs.Process.{behind, perhaps, read_call, read_new, read_in, read_out}
use Rattle.sq_parse_process.specs.Process.{read_test, read_find, read_branches, read_let}
use Rattle.sq_parse_process.specs.Process.{read_replication, read_named, read_processes, read_group}
use Rattle.sq_parse_process.specs.Process.{process}
use Rattle.sq_parse_process.proofs.Reading.{IsPerhaps, perhaps_spelled, IsApart, test_spelled}

-- a process with the token behind it may be longer; an `else` goes on where O
abbrev pub Continues : Type 0 → Sign → Type 0
Continues O (mark p.Semicolon) = ⊤
Continues O (mark p.OpenParenthesis) = ⊤
Continues O (mark p.Colon) = ⊤
Continues O (reserved r.Else) = O
Continues O _ = ⊥

abbrev pub GoesOn : Type 0 → List Sign → Type 0
GoesOn O [] = ⊥
GoesOn O (s ∷ q) = Continues O s

-- u and q are what was to be read, or longer
abbrev pub AheadAs : {A : Type 0} → Type 0 → A → List Sign → A → List Sign → Type 0
AheadAs O t rest u q = ((u ≡ t) × (q ≡ rest)) ⊎ ((length q < length rest) × GoesOn O rest)

abbrev pub Ahead : ProcTree → List Sign → ProcTree → List Sign → Type 0
Ahead t rest u q = AheadAs (IsOpen t) t rest u q

continues_more : (O : Type 0) (s : Sign) → Continues O s → Continues ⊤ s
continues_more O (mark p.Semicolon) h = tt
continues_more O (mark p.OpenParenthesis) h = tt
continues_more O (mark p.Colon) h = tt
continues_more O (reserved r.Else) h = tt
continues_more O _ h = absurd h

goes_more : (O : Type 0) (rest : List Sign) → GoesOn O rest → GoesOn ⊤ rest
goes_more O [] h = h
goes_more O (s ∷ q) h = continues_more O s h

pub ahead_map : {A B : Type 0} (O : Type 0) (k : A → B) (a : A) (rest : List Sign) (m : Read A)
    → Finds (AheadAs O a rest) m → Finds (AheadAs O (k a) rest) (bind m (λ u v. got (k u) v))
ahead_map O k a rest deep h = h
ahead_map O k a rest none h = h
ahead_map O k a rest (got u v) (inl e) = inl (ap k e.0, e.1)
ahead_map O k a rest (got u v) (inr g) = inr g

-- the process at the end decides whether the whole is open; without one O does
abbrev pub OpenAfter : Type 0 → Option ProcTree → Type 0
OpenAfter O None = O
OpenAfter O (Some b) = IsOpen b

pub call_ahead : (n : List ℕ) (rest : List Sign)
    → Finds (AheadAs ⊥ (call n) rest) (read_call n rest)
call_ahead n rest = recover_holds ⊤ ⊥
    (λ ns q. IsFilled ns
    × (rest ≡ mark p.OpenParenthesis ∷ ((names_spelled ns ++ mark p.CloseParenthesis ∷ []) ++ q)))
    (AheadAs ⊥ (call n) rest) ⊤ (instance rest) _ _
    (never_holds ⊤ _ (instance rest) (instance_never rest))
    (λ ns q h. inr (
      omega (
        arith,
        ap length h.1,
        length-append (names_spelled ns ++ mark p.CloseParenthesis ∷ [])
            q,
      ),
      subst (GoesOn ⊥) (sym h.1) tt,
    ))
    (inl (refl, refl))

pub call_again : (n : List ℕ) (ns : List (List ℕ)) (rest : List Sign) → IsFilled ns
    → read_call n (mark p.OpenParenthesis
    ∷ ((names_spelled ns ++ mark p.CloseParenthesis ∷ []) ++ rest)) ≡ got (call_with n ns) rest
call_again n ns rest f = rw (instance_again ns rest f) refl

abbrev pub count : ProcTrees → ℕ
count tree.none = 0
count (more a ps) = 1 + count ps

more_count : (ps : ProcTrees) → count ps ≤ length (more_processes_spelled ps)
more_count tree.none = omega arith
more_count (more a ps) =
    omega (arith, more_count ps, length-append (process_spelled a) (more_processes_spelled ps))

no_bar : (q : List Sign) → eat (mark p.Bar) (mark p.CloseParenthesis ∷ q) ≡ none
no_bar q = eat_other (mark p.Bar) (mark p.CloseParenthesis) q (λ e. cc)

-- ---- the tokens before the first part

module _ (F : List Sign → Read FormulaTree) (P : List Sign → Read ProcTree) where
  pub new_lead : (n : List ℕ) (q : List Sign) → read_new F P (word n ∷ mark p.Semicolon ∷ q)
      ≡ bind (P q) (λ a u. got (new n a) u)
  unfolding read_new
  new_lead n q = rw (eat_self (mark p.Semicolon) q) refl

  pub in_lead : (c x : List ℕ) (y : List Sign)
      → read_in F P (mark p.OpenParenthesis ∷ word c ∷ mark p.Comma ∷ word x
      ∷ mark p.CloseParenthesis ∷ y) ≡ bind (perhaps F P (mark p.Semicolon) y)
      (λ o z. got (receive_before c x o) z)
  unfolding read_in
  in_lead c x y =
      rw (
        eat_self (mark p.OpenParenthesis)
            (word c ∷ mark p.Comma ∷ word x ∷ mark p.CloseParenthesis ∷ y),
        eat_self (mark p.Comma)
            (word x ∷ mark p.CloseParenthesis ∷ y),
        eat_self (mark p.CloseParenthesis) y,
      ) refl

  -- behind the message of an `out`
  abbrev pub after_message : List ℕ → FormulaTree → List Sign → Read ProcTree
  after_message c f w =
      bind (eat (mark p.CloseParenthesis) w)
      (λ _ y. bind (perhaps F P (mark p.Semicolon) y) (λ o z. got (send_before c f o) z))

  regrouped : (c : List ℕ) (m : Read FormulaTree)
      → bind (bind m (λ f q. bind (eat (mark p.CloseParenthesis) q) (λ _ u. got f u)))
      (λ f v. bind (perhaps F P (mark p.Semicolon) v) (λ o w. got (send_before c f o) w))
      ≡ bind m (λ f w. after_message c f w)
  regrouped c deep = refl
  regrouped c none = refl
  regrouped c (got f q) = of (eat (mark p.CloseParenthesis) q)
    where
      of : (e : Read (Unit {0}))
          → bind (bind e (λ _ u. got f u))
          (λ g v. bind (perhaps F P (mark p.Semicolon) v) (λ o w. got (send_before c g o) w))
          ≡ bind e (λ _ y. bind (perhaps F P (mark p.Semicolon) y)
          (λ o z. got (send_before c f o) z))
      of deep = refl
      of none = refl
      of (got t u) = refl

  pub out_lead : (c : List ℕ) (v : List Sign)
      → read_out F P (mark p.OpenParenthesis ∷ word c ∷ mark p.Comma ∷ v)
      ≡ bind (F v) (λ f w. after_message c f w)
  unfolding read_out
  out_lead c v = rw (
    eat_self (mark p.OpenParenthesis) (word c ∷ mark p.Comma ∷ v),
    eat_self
        (mark p.Comma) v,
  ) (regrouped c (F v))

  pub find_lead : (ns : List (List ℕ)) (v : List Sign) → IsFilled ns
      → read_find F P (names_spelled ns ++ reserved r.Such ∷ reserved r.That ∷ v)
      ≡ read_branches F P ns v
  unfolding read_find
  find_lead ns v f =
      rw (
        identifiers_again ns (reserved r.Such ∷ reserved r.That ∷ v) f
            (no_comma (reserved r.Such) (reserved r.That ∷ v) (λ e. cc)),
        eat_self (reserved r.Such)
            (reserved r.That ∷ v),
        eat_self (reserved r.That) v,
      ) refl

  pub let_lead : (n : List ℕ) (u : List Sign) → read_let F P (word n ∷ mark p.Equals ∷ u)
      ≡ bind (F u) (λ f v. bind (behind F P (reserved r.In) v) (λ a w. got (define n f a) w))
  unfolding read_let
  let_lead n u = rw (eat_self (mark p.Equals) u) refl

  pub label_lead : (n : List ℕ) (q : List Sign) → read_named F P n (mark p.Colon ∷ q)
      ≡ recover (P q) (λ a v. got (label n a) v) (read_call n (mark p.Colon ∷ q))
  unfolding read_named
  label_lead n q = rw (eat_self (mark p.Colon) q) refl

module _ (F : List Sign → Read FormulaTree) (P : List Sign → Read ProcTree)
    (formula_finds : (f : FormulaTree) (rest : List Sign) → IsBuilt f
    → Finds (formula.Ahead 4 f rest) (F (spelled f ++ rest)))
    (process_sound : (ts : List Sign) → Tells (IsProcessFront ts) (P ts))
    (process_finds : (a : ProcTree) (rest : List Sign) → IsProcess a
    → Finds (Ahead a rest) (P (process_spelled a ++ rest))) where
  -- at the end of a formula, where the next token does not go on
  stopped : {B : Type 0} (Q : B → List Sign → Type 0) (f : FormulaTree) (s : Sign) (x : List Sign)
      (k : FormulaTree → List Sign → Read B) → IsBuilt f → 4 < goes_on s → Finds Q (k f (s ∷ x))
      → Finds Q (bind (F (spelled f ++ s ∷ x)) k)
  stopped Q f s x k b h g = bind_holds ⊤ ⊥ (formula.Ahead 4 f (s ∷ x)) Q (F (spelled f ++ s ∷ x)) k
      (formula_finds f (s ∷ x) b)
      (λ u q a. let e = exact 4 f s x u q h a in subst (Finds Q) (λ j. k (sym e.0 j) (sym e.1 j)) g)

  behind_given : (s : Sign) (a : ProcTree) (rest : List Sign) → IsProcess a
      → Finds (Ahead a rest) (behind F P s (s ∷ (process_spelled a ++ rest)))
  behind_given s a rest h = rw (eat_self s (process_spelled a ++ rest)) (process_finds a rest h)

  behind_shrinks : (s : Sign) (ts : List Sign)
      → Tells (λ a v. (q : List Sign) × (ts ≡ s ∷ q) × (length v ≤ length q)) (behind F P s ts)
  behind_shrinks s ts = bind_holds ⊤ ⊤ (λ u q. ts ≡ s ∷ q) _ (eat s ts) _
      (never_holds ⊤ _ (eat s ts) (eat_never s ts)) (λ u q e.
      weaken ⊤ ⊤ (IsProcessFront q) _ (P q) (process_sound q)
      (λ a v h. (q, e, omega (arith, ap length h.split, length-append (process_spelled a) v))))

  perhaps_given : (s : Sign) (b : ProcTree) (rest : List Sign) → IsProcess b
      → Finds (AheadAs (IsOpen b) (Some b) rest) (perhaps F P s (s ∷ (process_spelled b ++ rest)))
  perhaps_given s b rest h = recover_finds ⊤ ⊥ (Ahead b rest) (AheadAs (IsOpen b) (Some b) rest)
      (behind F P s (s ∷ (process_spelled b ++ rest))) _ _ (behind_given s b rest h)
      (λ u v g. of u v g)
    where
      of : (u : ProcTree) (v : List Sign) → Ahead b rest u v
          → AheadAs (IsOpen b) (Some b) rest (Some u) v
      of u v (inl e) = inl (ap (λ z. Some z) e.0, e.1)
      of u v (inr g) = inr g

  perhaps_absent : (O : Type 0) (s : Sign) (rest : List Sign) → Continues O s
      → Finds (AheadAs O None rest) (perhaps F P s rest)
  perhaps_absent O s rest c =
      recover_holds ⊤ ⊥ (λ a v. (q : List Sign) × (rest ≡ s ∷ q) × (length v ≤ length q))
      (AheadAs O None rest) ⊤ (behind F P s rest) _ _ (behind_shrinks s rest)
      (λ a v h. inr (omega (arith, ap length h.1, h.2), subst (GoesOn O) (sym h.1) c))
      (inl (refl, refl))

  perhaps_shrinks : (s : Sign) (ts : List Sign) → Finds (λ o v. length v ≤ length ts)
      (perhaps F P s ts)
  perhaps_shrinks s ts =
      recover_holds ⊤ ⊥ (λ a v. (q : List Sign) × (ts ≡ s ∷ q) × (length v ≤ length q))
      (λ o v. length v ≤ length ts) ⊤ (behind F P s ts) _ _ (behind_shrinks s ts)
      (λ a v h. omega (arith, ap length h.1, h.2))
      (omega arith)

  -- the process at the end, if there is one
  at_end : (O : Type 0) (s : Sign) (o : Option ProcTree) (rest : List Sign) → Continues O s
      → IsPerhaps o → Finds (AheadAs (OpenAfter O o) o rest)
      (perhaps F P s (perhaps_spelled s o ++ rest))
  at_end O s None rest c h = perhaps_absent O s rest c
  at_end O s (Some b) rest c h = perhaps_given s b rest h

  test_finds : (s : Sign) (k : FormulaTree → ProcTree → Option ProcTree → ProcTree)
      (f : FormulaTree) (a : ProcTree) (o : Option ProcTree) (rest : List Sign) → 4 < goes_on s
      → IsBuilt f → IsProcess a → IsPerhaps o → IsApart a o
      → Finds (AheadAs (OpenAfter ⊤ o) (k f a o) rest)
      (read_test F P s k (test_spelled s f a o ++ rest))
  test_finds s k f a o rest lt b h i apart =
      let end = perhaps_spelled (reserved r.Else) o ++ rest in
      let Q : ProcTree → List Sign → Type 0 = AheadAs (OpenAfter ⊤ o) (k f a o) rest in
      let split : test_spelled s f a o ++ rest ≡ spelled f ++ s ∷ (process_spelled a ++ end) =
      append_assoc (spelled f) (s ∷ (process_spelled a ++ perhaps_spelled (reserved r.Else) o)) rest
      ∙ ap (λ z. spelled f ++ s ∷ z)
      (append_assoc (process_spelled a) (perhaps_spelled (reserved r.Else) o) rest) in
      subst (λ z. Finds Q (read_test F P s k z)) (sym split)
      (stopped Q f s (process_spelled a ++ end)
      (λ g q. bind (behind F P s q)
      (λ c u. bind (perhaps F P (reserved r.Else) u) (λ e v. got (k g c e) v))) b lt
      (bind_holds ⊤ ⊥ (Ahead a end) Q (behind F P s (s ∷ (process_spelled a ++ end))) _
      (behind_given s a end h) (λ u v g. after o apart i u v g)))
    where
      longer : (u : ProcTree) (v : List Sign) → length v < length rest → GoesOn ⊤ rest
          → Finds (AheadAs ⊤ (k f a None) rest)
          (bind (perhaps F P (reserved r.Else) v) (λ e w. got (k f u e) w))
      longer u v lt g = bind_holds ⊤ ⊥ (λ e w. length w ≤ length v) (AheadAs ⊤ (k f a None) rest)
          (perhaps F P (reserved r.Else) v) _ (perhaps_shrinks (reserved r.Else) v)
          (λ e w le. inr (omega arith, g))

      after : (e : Option ProcTree) → IsApart a e → IsPerhaps e → (u : ProcTree) (v : List Sign)
          → Ahead a (perhaps_spelled (reserved r.Else) e ++ rest) u v
          → Finds (AheadAs (OpenAfter ⊤ e) (k f a e) rest)
          (bind (perhaps F P (reserved r.Else) v) (λ d w. got (k f u d) w))
      after e x y u v (inl z) =
          subst (Finds (AheadAs (OpenAfter ⊤ e) (k f a e) rest))
          (λ j. bind (perhaps F P (reserved r.Else) (sym z.1 j))
          (λ d w. got (k f (sym z.0 j) d) w))
          (ahead_map (OpenAfter ⊤ e) (λ d. k f a d) e rest
          (perhaps F P (reserved r.Else) (perhaps_spelled (reserved r.Else) e ++ rest))
          (at_end ⊤ (reserved r.Else) e rest tt y))
      after None x y u v (inr z) = longer u v z.0 (goes_more (IsOpen a) rest z.1)
      after (Some b) x y u v (inr z) = absurd (x z.1)

  processes_finds : (m : ℕ) (a : ProcTree) (ps : ProcTrees) (x : List Sign) → count ps < m
      → IsProcess a → AreProcesses ps → Finds (Exactly (more a ps) (mark p.CloseParenthesis ∷ x))
      (read_processes F P m
      (process_spelled a ++ (more_processes_spelled ps ++ mark p.CloseParenthesis ∷ x)))
  unfolding read_processes
  processes_finds zero a ps x lt h g = absurd (omega arith)
  processes_finds (suc m) a tree.none x lt h g =
      let end = mark p.CloseParenthesis ∷ x in
      bind_holds ⊤ ⊥ (Ahead a end) (Exactly (more a tree.none) end) (P (process_spelled a ++ end)) _
      (process_finds a end h) (λ u v i. after u v i)
    where
      after : (u : ProcTree) (v : List Sign) → Ahead a (mark p.CloseParenthesis ∷ x) u v
          → Finds (Exactly (more a tree.none) (mark p.CloseParenthesis ∷ x))
          (recover (eat (mark p.Bar) v)
          (λ _ y. bind (read_processes F P m y) (λ ps w. got (more u ps) w))
          (got (more u tree.none) v))
      after u v (inl e) =
          subst (Finds (Exactly (more a tree.none) (mark p.CloseParenthesis ∷ x)))
          (λ j. recover (eat (mark p.Bar) (sym e.1 j))
          (λ _ y. bind (read_processes F P m y) (λ ps w. got (more (sym e.0 j) ps) w))
          (got (more (sym e.0 j) tree.none) (sym e.1 j)))
          (rw (no_bar x) (refl, refl))
      after u v (inr e) = absurd e.1
  processes_finds (suc m) a (more b ps) x lt h g =
      let end = mark p.CloseParenthesis ∷ x in
      let next = (process_spelled b ++ more_processes_spelled ps) ++ end in
      bind_holds ⊤ ⊥ (Ahead a (mark p.Bar ∷ next)) (Exactly (more a (more b ps)) end)
      (P (process_spelled a ++ mark p.Bar ∷ next)) _ (process_finds a (mark p.Bar ∷ next) h)
      (λ u v i. after u v (subst (λ z. Finds (Exactly (more b ps) end) (read_processes F P m z))
      (sym (append_assoc (process_spelled b) (more_processes_spelled ps) end))
      (processes_finds m b ps x (omega arith) g.0 g.1)) i)
    where
      after : (u : ProcTree) (v : List Sign)
          → Finds (Exactly (more b ps) (mark p.CloseParenthesis ∷ x))
          (read_processes F P m ((process_spelled b ++ more_processes_spelled ps)
          ++ mark p.CloseParenthesis ∷ x))
          → Ahead a (mark p.Bar
          ∷ ((process_spelled b ++ more_processes_spelled ps) ++ mark p.CloseParenthesis ∷ x)) u v
          → Finds (Exactly (more a (more b ps)) (mark p.CloseParenthesis ∷ x))
          (recover (eat (mark p.Bar) v)
          (λ _ y. bind (read_processes F P m y) (λ qs w. got (more u qs) w))
          (got (more u tree.none) v))
      after u v inner (inl e) =
          subst (Finds (Exactly (more a (more b ps)) (mark p.CloseParenthesis ∷ x)))
          (λ j. recover (eat (mark p.Bar) (sym e.1 j))
          (λ _ y. bind (read_processes F P m y) (λ qs w. got (more (sym e.0 j) qs) w))
          (got (more (sym e.0 j) tree.none) (sym e.1 j)))
          (rw (eat_self (mark p.Bar) ((process_spelled b ++ more_processes_spelled ps)
          ++ mark p.CloseParenthesis ∷ x))
          (bind_holds ⊤ ⊥ (Exactly (more b ps) (mark p.CloseParenthesis ∷ x))
          (Exactly (more a (more b ps)) (mark p.CloseParenthesis ∷ x))
          (read_processes F P m ((process_spelled b ++ more_processes_spelled ps)
          ++ mark p.CloseParenthesis ∷ x)) _ inner (λ qs w i. (ap (λ z. more a z) i.0, i.1))))
      after u v inner (inr e) = absurd e.1

  group_finds : (ps : ProcTrees) (rest : List Sign) → AreSome ps → AreProcesses ps
      → Finds (AheadAs ⊥ (parallel ps) rest)
      (read_group F P ((processes_spelled ps ++ mark p.CloseParenthesis ∷ []) ++ rest))
  unfolding read_group
  group_finds tree.none rest f h = absurd f
  group_finds (more a ps) rest f h =
      let s = mark p.CloseParenthesis in
      let ts = process_spelled a ++ (more_processes_spelled ps ++ s ∷ rest) in
      let split : ((process_spelled a ++ more_processes_spelled ps) ++ s ∷ []) ++ rest ≡ ts =
      append_assoc (process_spelled a ++ more_processes_spelled ps) (s ∷ []) rest
      ∙ append_assoc (process_spelled a) (more_processes_spelled ps) (s ∷ rest) in
      let enough : count ps < suc (length ts) =
      omega (
        arith,
        more_count ps,
        length-append (process_spelled a)
            (more_processes_spelled ps ++ s ∷ rest),
        length-append (more_processes_spelled ps)
            (s ∷ rest),
      ) in
      rw split (bind_holds ⊤ ⊥ (Exactly (more a ps) (s ∷ rest))
      (AheadAs ⊥ (parallel (more a ps)) rest) (read_processes F P (suc (length ts)) ts) _
      (processes_finds (suc (length ts)) a ps rest enough h.0 h.1)
      (λ qs q e. subst (λ z. Finds (AheadAs ⊥ (parallel (more a ps)) rest)
      (bind (eat s z) (λ _ v. got (parallel qs) v))) (sym e.1)
      (rw (eat_self s rest) (inl (ap (λ z. parallel z) e.0, refl)))))

  receive_finds : (c x : List ℕ) (o : Option ProcTree) (rest : List Sign) → IsPerhaps o
      → Finds (AheadAs (OpenAfter ⊥ o) (receive_before c x o) rest)
      (read_in F P (mark p.OpenParenthesis ∷ word c ∷ mark p.Comma ∷ word x
      ∷ mark p.CloseParenthesis ∷ (perhaps_spelled (mark p.Semicolon) o ++ rest)))
  receive_finds c x o rest h =
      let end = perhaps_spelled (mark p.Semicolon) o ++ rest in
      subst (Finds (AheadAs (OpenAfter ⊥ o) (receive_before c x o) rest))
      (sym (in_lead F P c x end))
      (ahead_map (OpenAfter ⊥ o) (λ d. receive_before c x d) o rest
      (perhaps F P (mark p.Semicolon) end) (at_end ⊥ (mark p.Semicolon) o rest tt h))

  send_finds : (c : List ℕ) (f : FormulaTree) (o : Option ProcTree) (rest : List Sign) → IsBuilt f
      → IsPerhaps o → Finds (AheadAs (OpenAfter ⊥ o) (send_before c f o) rest)
      (read_out F P (mark p.OpenParenthesis ∷ word c ∷ mark p.Comma
      ∷ ((spelled f ++ mark p.CloseParenthesis ∷ perhaps_spelled (mark p.Semicolon) o) ++ rest)))
  send_finds c f o rest b h =
      let end = perhaps_spelled (mark p.Semicolon) o ++ rest in
      let Q : ProcTree → List Sign → Type 0 = AheadAs (OpenAfter ⊥ o) (send_before c f o) rest in
      subst (Finds Q) (sym
      (out_lead F P c ((spelled f ++ mark p.CloseParenthesis
      ∷ perhaps_spelled (mark p.Semicolon) o) ++ rest)))
      (subst (λ z. Finds Q (bind (F z) (λ g w. after_message F P c g w)))
      (sym (append_assoc (spelled f)
      (mark p.CloseParenthesis ∷ perhaps_spelled (mark p.Semicolon) o) rest))
      (stopped Q f (mark p.CloseParenthesis) end (λ g w. after_message F P c g w) b (omega arith)
      (rw (eat_self (mark p.CloseParenthesis) end)
      (ahead_map (OpenAfter ⊥ o) (λ d. send_before c f d) o rest
      (perhaps F P (mark p.Semicolon) end) (at_end ⊥ (mark p.Semicolon) o rest tt h)))))

  find_finds : (ns : List (List ℕ)) (f : FormulaTree) (a : ProcTree) (o : Option ProcTree)
      (rest : List Sign) → IsFilled ns → IsBuilt f → IsProcess a → IsPerhaps o → IsApart a o
      → Finds (AheadAs (OpenAfter ⊤ o) (find_or ns f a o) rest)
      (read_find F P ((names_spelled ns ++ reserved r.Such ∷ reserved r.That
      ∷ test_spelled (reserved r.In) f a o) ++ rest))
  find_finds ns f a o rest w b h i apart =
      let Q : ProcTree → List Sign → Type 0 = AheadAs (OpenAfter ⊤ o) (find_or ns f a o) rest in
      subst (Finds Q) (sym
      (ap (λ z. read_find F P z)
      (append_assoc (names_spelled ns)
      (reserved r.Such ∷ reserved r.That ∷ test_spelled (reserved r.In) f a o) rest)
      ∙ find_lead F P ns (test_spelled (reserved r.In) f a o ++ rest) w))
      (test_finds (reserved r.In) (find_or ns) f a o rest (omega arith) b h i apart)

  pub all_finds : (t : ProcTree) (rest : List Sign) → IsProcess t
      → Finds (Ahead t rest) (process F P (process_spelled t ++ rest))
  unfolding process read_replication read_named
  all_finds null rest h = inl (refl, refl)
  all_finds (new n a) rest h =
      subst (Finds (Ahead (new n a) rest)) (sym (new_lead F P n (process_spelled a ++ rest)))
      (ahead_map (IsOpen a) (λ z. new n z) a rest (P (process_spelled a ++ rest))
      (process_finds a rest h))
  all_finds (receive c x) rest h = receive_finds c x None rest tt
  all_finds (receive_then c x a) rest h = receive_finds c x (Some a) rest h
  all_finds (send c f) rest h = send_finds c f None rest h tt
  all_finds (send_then c f a) rest h = send_finds c f (Some a) rest h.0 h.1
  all_finds (branch f a) rest h =
      subst (λ z. Finds (Ahead (branch f a) rest)
      (read_test F P (reserved r.Then) branch_or ((spelled f ++ reserved r.Then ∷ z) ++ rest)))
      (append-nil (process_spelled a))
      (test_finds (reserved r.Then) branch_or f a None rest (omega arith) h.0 h.1 tt tt)
  all_finds (branch_else f a b) rest h = test_finds (reserved r.Then) branch_or f a (Some b) rest
      (omega arith) h.0 h.1 h.3 h.2
  all_finds (find ns f a) rest h =
      subst (λ z. Finds (Ahead (find ns f a) rest)
      (read_find F P ((names_spelled ns ++ reserved r.Such ∷ reserved r.That
      ∷ (spelled f ++ reserved r.In ∷ z)) ++ rest))) (append-nil (process_spelled a))
      (find_finds ns f a None rest h.0 h.1 h.2 tt tt)
  all_finds (find_else ns f a b) rest h = find_finds ns f a (Some b) rest h.0 h.1 h.2 h.4 h.3
  all_finds (define n f a) rest h =
      let Q : ProcTree → List Sign → Type 0 = Ahead (define n f a) rest in
      let k : FormulaTree → List Sign → Read ProcTree =
      λ g v. bind (behind F P (reserved r.In) v) (λ c w. got (define n g c) w) in
      subst (Finds Q) (sym
      (let_lead F P n ((spelled f ++ reserved r.In ∷ process_spelled a) ++ rest)))
      (subst (λ z. Finds Q (bind (F z) k))
      (sym (append_assoc (spelled f) (reserved r.In ∷ process_spelled a) rest))
      (stopped Q f (reserved r.In) (process_spelled a ++ rest) k h.0 (omega arith)
      (ahead_map (IsOpen a) (λ z. define n f z) a rest
      (behind F P (reserved r.In) (reserved r.In ∷ (process_spelled a ++ rest)))
      (behind_given (reserved r.In) a rest h.1))))
  all_finds (replicate n a) rest h = ahead_map (IsOpen a) (λ z. replicate n z) a rest
      (P (process_spelled a ++ rest)) (process_finds a rest h)
  all_finds (label n a) rest h =
      subst (Finds (Ahead (label n a) rest)) (sym (label_lead F P n (process_spelled a ++ rest)))
      (recover_finds ⊤ ⊥ (Ahead a rest) (Ahead (label n a) rest) (P (process_spelled a ++ rest)) _ _
      (process_finds a rest h) (λ u v g. of u v g))
    where
      of : (u : ProcTree) (v : List Sign) → Ahead a rest u v → Ahead (label n a) rest (label n u) v
      of u v (inl e) = inl (ap (λ z. label n z) e.0, e.1)
      of u v (inr g) = inr g
  all_finds (call n) rest h =
      recover_holds ⊤ ⊥ (λ a v. (q : List Sign) × (rest ≡ mark p.Colon ∷ q) × (length v ≤ length q))
      (AheadAs ⊥ (call n) rest) ⊤ (behind F P (mark p.Colon) rest) _ _
      (behind_shrinks (mark p.Colon) rest)
      (λ a v h. inr (omega (arith, ap length h.1, h.2), subst (GoesOn ⊥) (sym h.1) tt))
      (call_ahead n rest)
  all_finds (call_with n ns) rest h =
      let next = (names_spelled ns ++ mark p.CloseParenthesis ∷ []) ++ rest in
      rw (eat_other (mark p.Colon) (mark p.OpenParenthesis) next (λ e. cc), call_again n ns rest h)
      (inl (refl, refl))
  all_finds (parallel ps) rest h = group_finds ps rest h.0 h.1
