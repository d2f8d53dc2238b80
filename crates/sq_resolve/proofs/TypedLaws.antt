-- A tree has exactly the term that the walk gives, so at most one.
use Rattle.std.proofs.Common.{◌≡◌, ℕ, zero, suc, List, [], ◌∷◌, ◌++◌, Option, Some, None, Bool}
use Rattle.std.proofs.Common.{true, false, if◌then◌else◌, length, refl, sym, ap, ◌∙◌, arith}
use Rattle.std.specs.Prelude.{Ok, Err, ◌==◌}
use Rattle.std.proofs.lemmas.Bool.Decides.{nat_tests}
use Rattle.sq_base.specs.declared.sort.Sort.{Sort}
use Rattle.sq_base.specs.declared.sort.Sort.TheVariants.{Message, Boolean, Index, Timestamp}
use Rattle.sq_ast.specs.declared.formula.Binary.TheVariants.{Implies, Or, And, Equal, NotEqual}
use Rattle.sq_ast.specs.declared.formula.Binary.TheVariants.{LessEqual, Less}
use Rattle.sq_ast.specs.declared.formula.Constant.TheVariants.{Init}
use Rattle.sq_ast.specs.declared.formula.Unary.TheVariants.{Not, Fst, Snd, OfBool, Happens, Pred}
use Rattle.sq_ast.specs.Tree.{Group, FormulaTree, quantified, binary, group, pair, constant}
use Rattle.sq_ast.specs.Tree.{conditional, find, diff, unary, value, name, apply, FormulaTrees}
use Rattle.sq_ast.specs.Tree.{none, more}
use Rattle.sq_term.specs.declared.term.Idx.{Idx}
use Rattle.sq_term.specs.Formulas as formula
use Rattle.sq_term.specs.Syntax as t
use Rattle.sq_term.specs.Syntax.{TsTree, TermTree, TermTrees, nil, cons}
use Rattle.sq_typing.specs.Typing.{macro_sort}
use Rattle.sq_term.specs.TreeEquality.{is_same_sort}
use Rattle.sq_resolve.specs.declared.fault.ResolveFault.TheVariants.{Arity, SortClash}
use Rattle.sq_resolve.specs.declared.fault.ResolveFault.TheVariants.{MessageQuantifier}
use Rattle.sq_resolve.specs.declared.head.Head.{Head}
use Rattle.sq_resolve.specs.Scopes.{Variable, Context, meaning, head_arity}
use Rattle.sq_resolve.specs.Resolved.{Found, mapped, both, three, expect, read_as, chosen, judged}
use Rattle.sq_resolve.specs.Resolved.{as_index, Moment, moment, instance, as_moment, Value}
use Rattle.sq_resolve.specs.Resolved.{schema_variable, name_symbol, function, as_value, macro_of}
use Rattle.sq_resolve.specs.Resolved.{own_sort, count_trees, index_of, indices_of, at_indices}
use Rattle.sq_resolve.specs.Resolved.{time_of, quantify, group_variables, variables}
use Rattle.sq_resolve.specs.Resolved.{bind_no_message, with_binders, by_sort, before, constant_kind}
use Rattle.sq_resolve.specs.Resolved.{constant_sort, function_term, with_arguments, term_of}
use Rattle.sq_resolve.specs.Resolved.{terms_of, arguments_of, equation}
use Rattle.sq_resolve.specs.Typed.{OfTwo, OfOne, OfThree, IsIndex, AreIndices, IsMoment, IsTime}
use Rattle.sq_resolve.specs.Typed.{IsEquation, HasArguments, IsTerm, AreArguments, AreMessages}

-- ---- one step back from an answer

mapped_ok : {A B : Type 0} (f : A → B) (m : Found A) (b : B) → mapped f m ≡ Ok b
    → (a : A) × ((m ≡ Ok a) × (b ≡ f a))
mapped_ok f (Ok a) b e = let g : b ≡ f a = cc in (a, (refl, g))
mapped_ok f (Err x) b e = let n : ⊥ = cc in absurd n

both_ok : {A B C : Type 0} (f : A → B → C) (m : Found A) (n : Found B) (d : C) → both f m n ≡ Ok d
    → (a : A) × ((b : B) × ((m ≡ Ok a) × (n ≡ Ok b) × (d ≡ f a b)))
both_ok f (Ok a) (Ok b) d e = let g : d ≡ f a b = cc in (a, (b, (refl, refl, g)))
both_ok f (Ok a) (Err x) d e = let n : ⊥ = cc in absurd n
both_ok f (Err x) n d e = let n : ⊥ = cc in absurd n

three_ok : {A B C D : Type 0} (f : A → B → C → D) (m : Found A) (n : Found B) (o : Found C) (d : D)
    → three f m n o ≡ Ok d
    → (a : A) × ((b : B) × ((x : C) × ((m ≡ Ok a) × (n ≡ Ok b) × (o ≡ Ok x) × (d ≡ f a b x))))
three_ok f (Ok a) n o d e = let r =
    both_ok (f a) n o d e in (a, (r.0, (r.1.0, (refl, r.1.1.0, r.1.1.1, r.1.1.2))))
three_ok f (Err x) n o d e = let n : ⊥ = cc in absurd n

same_sort_is : (s t : Sort) → is_same_sort s t ≡ true → s ≡ t
same_sort_is Message Message e = refl
same_sort_is Boolean Boolean e = refl
same_sort_is Index Index e = refl
same_sort_is Timestamp Timestamp e = refl
same_sort_is _ _ e = cc

same_sort_itself : (s : Sort) → is_same_sort s s ≡ true
same_sort_itself Message = refl
same_sort_itself Boolean = refl
same_sort_itself Index = refl
same_sort_itself Timestamp = refl

expect_ok : {A : Type 0} (w o : Sort) (m : Found A) (a : A) → expect w o m ≡ Ok a
    → (w ≡ o) × (m ≡ Ok a)
expect_ok {A} w o m a e = by (is_same_sort w o) refl e
  where
    by : (b : Bool) → is_same_sort w o ≡ b → (if b then m else Err (SortClash w o)) ≡ Ok a
        → (w ≡ o) × (m ≡ Ok a)
    by true s e = (same_sort_is w o s, e)
    by false s e = let n : ⊥ = cc in absurd n

expect_same : {A : Type 0} (w o : Sort) (m : Found A) → w ≡ o → expect w o m ≡ m
expect_same w o m e = rw (ap (is_same_sort w) (sym e) ∙ same_sort_itself w) refl

binders_ok : {A : Type 0} (gs : List Group) (m : Found A) (a : A) → with_binders gs m ≡ Ok a
    → (bind_no_message gs ≡ true) × (m ≡ Ok a)
binders_ok gs m a e = by (bind_no_message gs) refl e
  where
    by : (b : Bool) → bind_no_message gs ≡ b → (if b then m else Err MessageQuantifier) ≡ Ok a
        → (bind_no_message gs ≡ true) × (m ≡ Ok a)
    by true s e = (s, e)
    by false s e = let n : ⊥ = cc in absurd n

same_count : (a b : ℕ) → (a == b) ≡ true → a ≡ b
same_count a b e = grind (arith, nat_tests)

count_itself : (a b : ℕ) → a ≡ b → (a == b) ≡ true
count_itself a b e = grind (arith, nat_tests)

judged_ok : {A : Type 0} (reading : Head → Option A) (w : Sort) (x : List ℕ) (n : ℕ)
    (m : Option Head) (a : A) → judged reading w x n m ≡ Ok a
    → (h : Head) × ((m ≡ Some h) × (head_arity h ≡ n) × (reading h ≡ Some a))
judged_ok reading w x n None a e = let n : ⊥ = cc in absurd n
judged_ok {A} reading w x n (Some h) a e = by (head_arity h == n) refl (reading h) refl e
  where
    by : (b : Bool) → (head_arity h == n) ≡ b → (o : Option A) → reading h ≡ o
        → chosen reading w (if b then Ok h else Err (Arity x (head_arity h) n)) ≡ Ok a
        → (g : Head) × ((Some h ≡ Some g) × (head_arity g ≡ n) × (reading g ≡ Some a))
    by true s (Some v) r e =
        let k : read_as w h (Some v) ≡ Ok a = ap (read_as w h) (sym r) ∙ e in
        let f : Some v ≡ Some a = cc in
        (h, (refl, same_count (head_arity h) n s, r ∙ f))
    by true s None r e = let k : read_as w h None ≡ Ok a =
        ap (read_as w h) (sym r) ∙ e in let n : ⊥ = cc in absurd n
    by false s o r e = let n : ⊥ = cc in absurd n

judged_by : {A : Type 0} (reading : Head → Option A) (w : Sort) (x : List ℕ) (n : ℕ)
    (m : Option Head) (h : Head) (a : A) → m ≡ Some h → head_arity h ≡ n → reading h ≡ Some a
    → judged reading w x n m ≡ Ok a
judged_by reading w x n m h a is arity reads =
    rw (is, count_itself (head_arity h) n arity, reads) refl

-- ---- the walk's answers have the relation

of_two : {A B C : Type 0} (make : A → B → C) (m : Found A) (n : Found B) (R : A → Type 0)
    (S : B → Type 0) → ((a : A) → m ≡ Ok a → R a) → ((b : B) → n ≡ Ok b → S b) → (d : C)
    → both make m n ≡ Ok d → OfTwo R S make d
of_two make m n R S f g d e = let x =
    both_ok make m n d e in (x.0, (x.1.0, (f x.0 x.1.1.0, g x.1.0 x.1.1.1, x.1.1.2)))

of_one : {A C : Type 0} (make : A → C) (m : Found A) (R : A → Type 0) → ((a : A) → m ≡ Ok a → R a)
    → (d : C) → mapped make m ≡ Ok d → OfOne R make d
of_one make m R f d e = let x = mapped_ok make m d e in (x.0, (f x.0 x.1.0, x.1.1))

of_three : (make : TermTree → TermTree → TermTree → TermTree) (m n o : Found TermTree)
    (R S T : TermTree → Type 0) → ((a : TermTree) → m ≡ Ok a → R a)
    → ((a : TermTree) → n ≡ Ok a → S a) → ((a : TermTree) → o ≡ Ok a → T a) → (d : TermTree)
    → three make m n o ≡ Ok d → OfThree R S T make d
of_three make m n o R S T f g h d e = let x =
    three_ok make m n o d e in
    (x.0, (x.1.0, (x.1.1.0, (f x.0 x.1.1.1.0, g x.1.0 x.1.1.1.1, h x.1.1.0 x.1.1.1.2, x.1.1.1.3))))

of_equation : (s : Sort) (i j k : Found TermTree) (I J K : Type 0) (u : TermTree) → (i ≡ Ok u → I)
    → (j ≡ Ok u → J) → (k ≡ Ok u → K) → by_sort s i j k ≡ Ok u → IsEquation s I J K
of_equation Index i j k I J K u f g h e = f e
of_equation Timestamp i j k I J K u f g h e = g e
of_equation Message i j k I J K u f g h e = h e
of_equation Boolean i j k I J K u f g h e = h e

module _ (c : Context) where
  pub index_typed : (bs : List Variable) (f : FormulaTree) (i : Idx) → index_of c bs f ≡ Ok i
      → IsIndex c bs f i
  index_typed bs (group a) i e = index_typed bs a i e
  index_typed bs (name x) i e = let r = judged_ok as_index Index x 0 (meaning c bs x) i e in
      (r.0, ((r.1.0, r.1.1), r.1.2))
  index_typed bs (apply x xs) i e = let r =
      judged_ok as_index Index x (count_trees xs) (meaning c bs x) i e in
      (r.0, ((r.1.0, r.1.1), r.1.2))
  index_typed bs _ i e = cc

  indices_typed : (bs : List Variable) (xs : FormulaTrees) (is : List Idx)
      → indices_of c bs xs ≡ Ok is → AreIndices c bs xs is
  indices_typed bs none is e = cc
  indices_typed bs (more a xs) is e =
      of_two (λ i js. i ∷ js) (index_of c bs a) (indices_of c bs xs) (IsIndex c bs a)
      (AreIndices c bs xs) (index_typed bs a) (indices_typed bs xs) is e

  moment_typed : (bs : List Variable) (xs : FormulaTrees) (m : Moment) (u : TsTree)
      → at_indices (Ok m) (indices_of c bs xs) ≡ Ok u → IsMoment c bs xs m u
  moment_typed bs xs (moment v) u e = let g : u ≡ v = cc in g
  moment_typed bs xs (instance a) u e =
      of_one (t.action a) (indices_of c bs xs) (AreIndices c bs xs) (indices_typed bs xs) u e

  at_ok : (m : Found Moment) (is : Found (List Idx)) (u : TsTree) → at_indices m is ≡ Ok u
      → (v : Moment) × ((m ≡ Ok v) × (at_indices (Ok v) is ≡ Ok u))
  at_ok (Ok v) is u e = (v, (refl, e))
  at_ok (Err x) is u e = let n : ⊥ = cc in absurd n

  pub time_typed : (bs : List Variable) (f : FormulaTree) (u : TsTree) → time_of c bs f ≡ Ok u
      → IsTime c bs f u
  time_typed bs (group a) u e = time_typed bs a u e
  time_typed bs (constant Init) u e = cc
  time_typed bs (unary Pred a) u e =
      of_one t.pred (time_of c bs a) (IsTime c bs a) (time_typed bs a) u e
  time_typed bs (name x) u e =
      let r = at_ok (judged as_moment Timestamp x 0 (meaning c bs x)) (Ok []) u e in
      let s = judged_ok as_moment Timestamp x 0 (meaning c bs x) r.0 r.1.0 in
      (s.0, (r.0, ((s.1.0, s.1.1), s.1.2, moment_typed bs none r.0 u r.1.1)))
  time_typed bs (apply x xs) u e =
      let r = at_ok (judged as_moment Timestamp x (count_trees xs) (meaning c bs x))
      (indices_of c bs xs) u e in
      let s = judged_ok as_moment Timestamp x (count_trees xs) (meaning c bs x) r.0 r.1.0 in
      (s.0, (r.0, ((s.1.0, s.1.1), s.1.2, moment_typed bs xs r.0 u r.1.1)))
  time_typed bs _ u e = cc

  arguments_ok : (m : Found Value) (is : Found (List Idx)) (args : ℕ → Found (List Idx × TermTrees))
      (u : TermTree) → with_arguments m is args ≡ Ok u
      → (v : Value) × ((m ≡ Ok v) × (with_arguments (Ok v) is args ≡ Ok u))
  arguments_ok (Ok v) is args u e = (v, (refl, e))
  arguments_ok (Err x) is args u e = let n : ⊥ = cc in absurd n

  value_typed : (v : Value) (is : Found (List Idx)) (args : ℕ → Found (List Idx × TermTrees))
      (R : List Idx → Type 0) (S : ℕ → List Idx × TermTrees → Type 0)
      → ((js : List Idx) → is ≡ Ok js → R js)
      → ((i : ℕ) (r : List Idx × TermTrees) → args i ≡ Ok r → S i r) → (u : TermTree)
      → with_arguments (Ok v) is args ≡ Ok u → HasArguments v R S u
  value_typed (schema_variable k) is args R S f g u e = let h : u ≡ t.schema k = cc in h
  value_typed (name_symbol n) is args R S f g u e = of_one (t.name n) is R f u e
  value_typed (function f' i) is args R S f g u e =
      of_one (function_term f') (args i) (S i) (g i) u e

  equation_typed : (s : Sort) (bs : List Variable) (a b : FormulaTree) (u : TermTree)
      → ((v : TermTree) → term_of c bs Message a ≡ Ok v → IsTerm c bs Message a v)
      → ((v : TermTree) → term_of c bs Message b ≡ Ok v → IsTerm c bs Message b v)
      → equation c bs s a b ≡ Ok u
      → (s ≡ Boolean)
      × IsEquation (own_sort c bs a) (OfTwo (IsIndex c bs a) (IsIndex c bs b) t.idx_eq u)
      (OfTwo (IsTime c bs a) (IsTime c bs b) t.ts_eq u)
      (OfTwo (IsTerm c bs Message a) (IsTerm c bs Message b) formula.equal u)
  equation_typed s bs a b u f g e =
      let i = both t.idx_eq (index_of c bs a) (index_of c bs b) in
      let j = both t.ts_eq (time_of c bs a) (time_of c bs b) in
      let k = both formula.equal (term_of c bs Message a) (term_of c bs Message b) in
      let x = expect_ok s Boolean (by_sort (own_sort c bs a) i j k) u e in (
        x.0,
        of_equation (own_sort c bs a) i j k _ _ _ u
            (of_two t.idx_eq (index_of c bs a) (index_of c bs b) (IsIndex c bs a) (IsIndex c bs b)
            (index_typed bs a) (index_typed bs b) u)
            (of_two t.ts_eq (time_of c bs a) (time_of c bs b) (IsTime c bs a) (IsTime c bs b)
            (time_typed bs a) (time_typed bs b) u)
            (of_two formula.equal (term_of c bs Message a) (term_of c bs Message b)
            (IsTerm c bs Message a) (IsTerm c bs Message b) f g u)
            x.1,
      )

  mutual
    pub term_typed : (bs : List Variable) (s : Sort) (f : FormulaTree) (u : TermTree)
        → term_of c bs s f ≡ Ok u → IsTerm c bs s f u
    term_typed bs s (quantified q gs a) u e =
        let x = expect_ok s Boolean
        (with_binders gs
        (mapped (quantify q (variables gs)) (term_of c (bs ++ variables gs) Boolean a))) u e in
        let y = binders_ok gs
        (mapped (quantify q (variables gs)) (term_of c (bs ++ variables gs) Boolean a)) u x.1 in (
          x.0,
          y.0,
          of_one (quantify q (variables gs)) (term_of c (bs ++ variables gs) Boolean a)
              (IsTerm c (bs ++ variables gs) Boolean a)
              (term_typed (bs ++ variables gs) Boolean a) u y.1,
        )
    term_typed bs s (binary Implies a b) u e =
        let x = expect_ok s Boolean
        (both formula.implies (term_of c bs Boolean a) (term_of c bs Boolean b)) u e in (
          x.0,
          of_two formula.implies (term_of c bs Boolean a) (term_of c bs Boolean b)
              (IsTerm c bs Boolean a) (IsTerm c bs Boolean b) (term_typed bs Boolean a)
              (term_typed bs Boolean b) u x.1,
        )
    term_typed bs s (binary Or a b) u e =
        let x = expect_ok s Boolean
        (both formula.either (term_of c bs Boolean a) (term_of c bs Boolean b)) u e in (
          x.0,
          of_two formula.either (term_of c bs Boolean a) (term_of c bs Boolean b)
              (IsTerm c bs Boolean a) (IsTerm c bs Boolean b) (term_typed bs Boolean a)
              (term_typed bs Boolean b) u x.1,
        )
    term_typed bs s (binary And a b) u e =
        let x = expect_ok s Boolean
        (both formula.both (term_of c bs Boolean a) (term_of c bs Boolean b)) u e in (
          x.0,
          of_two formula.both (term_of c bs Boolean a) (term_of c bs Boolean b)
              (IsTerm c bs Boolean a) (IsTerm c bs Boolean b) (term_typed bs Boolean a)
              (term_typed bs Boolean b) u x.1,
        )
    term_typed bs s (binary Equal a b) u e =
        equation_typed s bs a b u (term_typed bs Message a) (term_typed bs Message b) e
    term_typed bs s (binary NotEqual a b) u e =
        let x = mapped_ok formula.negation (equation c bs s a b) u e in (
          x.0,
          (
            equation_typed s bs a b x.0 (term_typed bs Message a)
                (term_typed bs Message b) x.1.0,
            x.1.1,
          ),
        )
    term_typed bs s (binary LessEqual a b) u e =
        let x = expect_ok s Boolean (both t.le (time_of c bs a) (time_of c bs b)) u e in (
          x.0,
          of_two t.le (time_of c bs a) (time_of c bs b) (IsTime c bs a) (IsTime c bs b)
              (time_typed bs a) (time_typed bs b) u x.1,
        )
    term_typed bs s (binary Less a b) u e =
        let x = expect_ok s Boolean (both before (time_of c bs a) (time_of c bs b)) u e in (
          x.0,
          of_two before (time_of c bs a) (time_of c bs b) (IsTime c bs a) (IsTime c bs b)
              (time_typed bs a) (time_typed bs b) u x.1,
        )
    term_typed bs s (group a) u e = term_typed bs s a u e
    term_typed bs s (pair a b) u e =
        let x = expect_ok s Message
        (both formula.pair (term_of c bs Message a) (term_of c bs Message b)) u e in (
          x.0,
          of_two formula.pair (term_of c bs Message a) (term_of c bs Message b)
              (IsTerm c bs Message a) (IsTerm c bs Message b) (term_typed bs Message a)
              (term_typed bs Message b) u x.1,
        )
    term_typed bs s (constant k) u e =
        let x = expect_ok s (constant_sort k) (Ok (formula.constant (constant_kind k))) u e in
        let g : Ok (formula.constant (constant_kind k)) ≡ Ok u = x.1 in
        let h : u ≡ formula.constant (constant_kind k) = cc in
        (x.0, h)
    term_typed bs s (conditional a b d) u e =
        let x = expect_ok s Message
        (three formula.conditional (term_of c bs Boolean a) (term_of c bs Message b)
        (term_of c bs Message d)) u e in (
          x.0,
          of_three formula.conditional (term_of c bs Boolean a) (term_of c bs Message b)
              (term_of c bs Message d) (IsTerm c bs Boolean a) (IsTerm c bs Message b)
              (IsTerm c bs Message d) (term_typed bs Boolean a) (term_typed bs Message b)
              (term_typed bs Message d) u x.1,
        )
    term_typed bs s (find ns a b d) u e =
        let is = bs ++ group_variables Index ns in
        let x = expect_ok s Message
        (three (t.find (length ns)) (term_of c is Boolean a) (term_of c is Message b)
        (term_of c bs Message d)) u e in (
          x.0,
          of_three (t.find (length ns)) (term_of c is Boolean a) (term_of c is Message b)
              (term_of c bs Message d) (IsTerm c is Boolean a) (IsTerm c is Message b)
              (IsTerm c bs Message d) (term_typed is Boolean a) (term_typed is Message b)
              (term_typed bs Message d) u x.1,
        )
    term_typed bs s (diff a b) u e =
        of_two t.diff (term_of c bs s a) (term_of c bs s b) (IsTerm c bs s a) (IsTerm c bs s b)
        (term_typed bs s a) (term_typed bs s b) u e
    term_typed bs s (unary Not a) u e =
        let x = expect_ok s Boolean (mapped formula.negation (term_of c bs Boolean a)) u e in (
          x.0,
          of_one formula.negation (term_of c bs Boolean a) (IsTerm c bs Boolean a)
              (term_typed bs Boolean a) u x.1,
        )
    term_typed bs s (unary Fst a) u e =
        let x = expect_ok s Message (mapped formula.first (term_of c bs Message a)) u e in (
          x.0,
          of_one formula.first (term_of c bs Message a) (IsTerm c bs Message a)
              (term_typed bs Message a) u x.1,
        )
    term_typed bs s (unary Snd a) u e =
        let x = expect_ok s Message (mapped formula.second (term_of c bs Message a)) u e in (
          x.0,
          of_one formula.second (term_of c bs Message a) (IsTerm c bs Message a)
              (term_typed bs Message a) u x.1,
        )
    term_typed bs s (unary OfBool a) u e =
        let x = expect_ok s Message (mapped formula.of_bool (term_of c bs Boolean a)) u e in (
          x.0,
          of_one formula.of_bool (term_of c bs Boolean a) (IsTerm c bs Boolean a)
              (term_typed bs Boolean a) u x.1,
        )
    term_typed bs s (unary Happens a) u e =
        let x = expect_ok s Boolean (mapped t.happens (time_of c bs a)) u e in
        (x.0, of_one t.happens (time_of c bs a) (IsTime c bs a) (time_typed bs a) u x.1)
    term_typed bs s (unary Pred a) u e = cc
    term_typed bs s (value w a) u e =
        let x = expect_ok s (macro_sort (macro_of w))
        (mapped (t.macro (macro_of w)) (time_of c bs a)) u e in (
          x.0,
          of_one (t.macro (macro_of w)) (time_of c bs a) (IsTime c bs a)
              (time_typed bs a) u x.1,
        )
    term_typed bs s (name x) u e =
        let r = arguments_ok (judged (as_value s) s x 0 (meaning c bs x)) (Ok [])
        (λ i. Ok ([], nil)) u e in
        let j = judged_ok (as_value s) s x 0 (meaning c bs x) r.0 r.1.0 in (
          j.0,
          (
            r.0,
            (
              (j.1.0, j.1.1),
              j.1.2,
              value_typed r.0 (Ok []) (λ i. Ok ([], nil))
                  (AreIndices c bs none) (λ i r. r ≡ ([], nil)) (λ js e. cc) (λ i r e. cc) u r.1.1,
            ),
          ),
        )
    term_typed bs s (apply x xs) u e =
        let r = arguments_ok (judged (as_value s) s x (count_trees xs) (meaning c bs x))
        (indices_of c bs xs) (λ i. arguments_of c bs i xs) u e in
        let j = judged_ok (as_value s) s x (count_trees xs) (meaning c bs x) r.0 r.1.0 in (
          j.0,
          (
            r.0,
            (
              (j.1.0, j.1.1),
              j.1.2,
              value_typed r.0 (indices_of c bs xs)
                  (λ i. arguments_of c bs i xs) (AreIndices c bs xs) (λ i. AreArguments c bs i xs)
                  (indices_typed bs xs) (λ i. arguments_typed bs i xs) u r.1.1,
            ),
          ),
        )

    arguments_typed : (bs : List Variable) (i : ℕ) (xs : FormulaTrees) (r : List Idx × TermTrees)
        → arguments_of c bs i xs ≡ Ok r → AreArguments c bs i xs r
    arguments_typed bs i none r e = cc
    arguments_typed bs zero (more a xs) r e =
        let x = mapped_ok (λ ts. ([], ts))
        (both cons (term_of c bs Message a) (terms_of c bs xs)) r e in
        let y = of_two cons (term_of c bs Message a) (terms_of c bs xs) (IsTerm c bs Message a)
        (AreMessages c bs xs) (term_typed bs Message a) (messages_typed bs xs) x.0 x.1.0 in
        (y.0, (y.1.0, (y.1.1.0, y.1.1.1, x.1.1 ∙ ap (λ ts. ([], ts)) y.1.1.2)))
    arguments_typed bs (suc i) (more a xs) r e =
        of_two (λ j s. (j ∷ s.0, s.1)) (index_of c bs a) (arguments_of c bs i xs) (IsIndex c bs a)
        (AreArguments c bs i xs) (index_typed bs a) (arguments_typed bs i xs) r e

    messages_typed : (bs : List Variable) (xs : FormulaTrees) (us : TermTrees)
        → terms_of c bs xs ≡ Ok us → AreMessages c bs xs us
    messages_typed bs none us e = cc
    messages_typed bs (more a xs) us e =
        of_two cons (term_of c bs Message a) (terms_of c bs xs) (IsTerm c bs Message a)
        (AreMessages c bs xs) (term_typed bs Message a) (messages_typed bs xs) us e

-- ---- and what has the relation is the walk's answer

two_of : {A B C : Type 0} (make : A → B → C) (m : Found A) (n : Found B) (R : A → Type 0)
    (S : B → Type 0) → ((a : A) → R a → m ≡ Ok a) → ((b : B) → S b → n ≡ Ok b) → (d : C)
    → OfTwo R S make d → both make m n ≡ Ok d
two_of make m n R S f g d h = rw (f h.0 h.1.1.0, g h.1.0 h.1.1.1) (ap Ok (sym h.1.1.2))

one_of : {A C : Type 0} (make : A → C) (m : Found A) (R : A → Type 0) → ((a : A) → R a → m ≡ Ok a)
    → (d : C) → OfOne R make d → mapped make m ≡ Ok d
one_of make m R f d h = rw (f h.0 h.1.0) (ap Ok (sym h.1.1))

three_of : (make : TermTree → TermTree → TermTree → TermTree) (m n o : Found TermTree)
    (R S T : TermTree → Type 0) → ((a : TermTree) → R a → m ≡ Ok a)
    → ((a : TermTree) → S a → n ≡ Ok a) → ((a : TermTree) → T a → o ≡ Ok a) → (d : TermTree)
    → OfThree R S T make d → three make m n o ≡ Ok d
three_of make m n o R S T f g k d h =
    rw (f h.0 h.1.1.1.0, g h.1.0 h.1.1.1.1, k h.1.1.0 h.1.1.1.2) (ap Ok (sym h.1.1.1.3))

equation_of : (s : Sort) (i j k : Found TermTree) (I J K : Type 0) (u : TermTree) → (I → i ≡ Ok u)
    → (J → j ≡ Ok u) → (K → k ≡ Ok u) → IsEquation s I J K → by_sort s i j k ≡ Ok u
equation_of Index i j k I J K u f g h e = f e
equation_of Timestamp i j k I J K u f g h e = g e
equation_of Message i j k I J K u f g h e = h e
equation_of Boolean i j k I J K u f g h e = h e

module _ (c : Context) where
  pub typed_index : (bs : List Variable) (f : FormulaTree) (i : Idx) → IsIndex c bs f i
      → index_of c bs f ≡ Ok i
  typed_index bs (group a) i e = typed_index bs a i e
  typed_index bs (name x) i e =
      judged_by as_index Index x 0 (meaning c bs x) e.0 i e.1.0.0 e.1.0.1 e.1.1
  typed_index bs (apply x xs) i e =
      judged_by as_index Index x (count_trees xs) (meaning c bs x) e.0 i e.1.0.0 e.1.0.1 e.1.1
  typed_index bs _ i e = absurd e

  typed_indices : (bs : List Variable) (xs : FormulaTrees) (is : List Idx) → AreIndices c bs xs is
      → indices_of c bs xs ≡ Ok is
  typed_indices bs none is e = ap Ok (sym e)
  typed_indices bs (more a xs) is e =
      two_of (λ i js. i ∷ js) (index_of c bs a) (indices_of c bs xs) (IsIndex c bs a)
      (AreIndices c bs xs) (typed_index bs a) (typed_indices bs xs) is e

  typed_moment : (bs : List Variable) (xs : FormulaTrees) (m : Moment) (u : TsTree)
      → IsMoment c bs xs m u → at_indices (Ok m) (indices_of c bs xs) ≡ Ok u
  typed_moment bs xs (moment v) u e = ap Ok (sym e)
  typed_moment bs xs (instance a) u e =
      one_of (t.action a) (indices_of c bs xs) (AreIndices c bs xs) (typed_indices bs xs) u e

  pub typed_time : (bs : List Variable) (f : FormulaTree) (u : TsTree) → IsTime c bs f u
      → time_of c bs f ≡ Ok u
  typed_time bs (group a) u e = typed_time bs a u e
  typed_time bs (constant Init) u e = ap Ok (sym e)
  typed_time bs (unary Pred a) u e =
      one_of t.pred (time_of c bs a) (IsTime c bs a) (typed_time bs a) u e
  typed_time bs (name x) u e =
      rw (judged_by as_moment Timestamp x 0 (meaning c bs x) e.0 e.1.0 e.1.1.0.0 e.1.1.0.1 e.1.1.1)
      (typed_moment bs none e.1.0 u e.1.1.2)
  typed_time bs (apply x xs) u e =
      rw (judged_by as_moment Timestamp x (count_trees xs)
      (meaning c bs x) e.0 e.1.0 e.1.1.0.0 e.1.1.0.1 e.1.1.1) (typed_moment bs xs e.1.0 u e.1.1.2)
  typed_time bs _ u e = absurd e

  typed_value : (v : Value) (is : Found (List Idx)) (args : ℕ → Found (List Idx × TermTrees))
      (R : List Idx → Type 0) (S : ℕ → List Idx × TermTrees → Type 0)
      → ((js : List Idx) → R js → is ≡ Ok js)
      → ((i : ℕ) (r : List Idx × TermTrees) → S i r → args i ≡ Ok r) → (u : TermTree)
      → HasArguments v R S u → with_arguments (Ok v) is args ≡ Ok u
  typed_value (schema_variable k) is args R S f g u e = ap Ok (sym e)
  typed_value (name_symbol n) is args R S f g u e = one_of (t.name n) is R f u e
  typed_value (function f' i) is args R S f g u e =
      one_of (function_term f') (args i) (S i) (g i) u e

  typed_equation : (s : Sort) (bs : List Variable) (a b : FormulaTree) (u : TermTree)
      → ((v : TermTree) → IsTerm c bs Message a v → term_of c bs Message a ≡ Ok v)
      → ((v : TermTree) → IsTerm c bs Message b v → term_of c bs Message b ≡ Ok v)
      → (s ≡ Boolean)
      × IsEquation (own_sort c bs a) (OfTwo (IsIndex c bs a) (IsIndex c bs b) t.idx_eq u)
      (OfTwo (IsTime c bs a) (IsTime c bs b) t.ts_eq u)
      (OfTwo (IsTerm c bs Message a) (IsTerm c bs Message b) formula.equal u)
      → equation c bs s a b ≡ Ok u
  typed_equation s bs a b u f g e =
      let i = both t.idx_eq (index_of c bs a) (index_of c bs b) in
      let j = both t.ts_eq (time_of c bs a) (time_of c bs b) in
      let k = both formula.equal (term_of c bs Message a) (term_of c bs Message b) in
      expect_same s Boolean (by_sort (own_sort c bs a) i j k) e.0
      ∙ equation_of (own_sort c bs a) i j k _ _ _ u
      (two_of t.idx_eq (index_of c bs a) (index_of c bs b) (IsIndex c bs a) (IsIndex c bs b)
      (typed_index bs a) (typed_index bs b) u)
      (two_of t.ts_eq (time_of c bs a) (time_of c bs b) (IsTime c bs a) (IsTime c bs b)
      (typed_time bs a) (typed_time bs b) u)
      (two_of formula.equal (term_of c bs Message a) (term_of c bs Message b)
      (IsTerm c bs Message a) (IsTerm c bs Message b) f g u)
      e.1

  mutual
    pub typed_term : (bs : List Variable) (s : Sort) (f : FormulaTree) (u : TermTree)
        → IsTerm c bs s f u → term_of c bs s f ≡ Ok u
    typed_term bs s (quantified q gs a) u e =
        let m = mapped (quantify q (variables gs)) (term_of c (bs ++ variables gs) Boolean a) in
        expect_same s Boolean (with_binders gs m) e.0
        ∙ rw e.1 (one_of (quantify q (variables gs)) (term_of c (bs ++ variables gs) Boolean a)
        (IsTerm c (bs ++ variables gs) Boolean a)
        (typed_term (bs ++ variables gs) Boolean a) u e.2)
    typed_term bs s (binary Implies a b) u e =
        expect_same s Boolean _ e.0
        ∙ two_of formula.implies (term_of c bs Boolean a) (term_of c bs Boolean b)
        (IsTerm c bs Boolean a) (IsTerm c bs Boolean b) (typed_term bs Boolean a)
        (typed_term bs Boolean b) u e.1
    typed_term bs s (binary Or a b) u e =
        expect_same s Boolean _ e.0
        ∙ two_of formula.either (term_of c bs Boolean a) (term_of c bs Boolean b)
        (IsTerm c bs Boolean a) (IsTerm c bs Boolean b) (typed_term bs Boolean a)
        (typed_term bs Boolean b) u e.1
    typed_term bs s (binary And a b) u e =
        expect_same s Boolean _ e.0
        ∙ two_of formula.both (term_of c bs Boolean a) (term_of c bs Boolean b)
        (IsTerm c bs Boolean a) (IsTerm c bs Boolean b) (typed_term bs Boolean a)
        (typed_term bs Boolean b) u e.1
    typed_term bs s (binary Equal a b) u e =
        typed_equation s bs a b u (typed_term bs Message a) (typed_term bs Message b) e
    typed_term bs s (binary NotEqual a b) u e =
        rw (typed_equation s bs a b e.0 (typed_term bs Message a) (typed_term bs Message b) e.1.0)
        (ap Ok (sym e.1.1))
    typed_term bs s (binary LessEqual a b) u e =
        expect_same s Boolean _ e.0
        ∙ two_of t.le (time_of c bs a) (time_of c bs b) (IsTime c bs a) (IsTime c bs b)
        (typed_time bs a) (typed_time bs b) u e.1
    typed_term bs s (binary Less a b) u e =
        expect_same s Boolean _ e.0
        ∙ two_of before (time_of c bs a) (time_of c bs b) (IsTime c bs a) (IsTime c bs b)
        (typed_time bs a) (typed_time bs b) u e.1
    typed_term bs s (group a) u e = typed_term bs s a u e
    typed_term bs s (pair a b) u e =
        expect_same s Message _ e.0
        ∙ two_of formula.pair (term_of c bs Message a) (term_of c bs Message b)
        (IsTerm c bs Message a) (IsTerm c bs Message b) (typed_term bs Message a)
        (typed_term bs Message b) u e.1
    typed_term bs s (constant k) u e = expect_same s (constant_sort k) _ e.0 ∙ ap Ok (sym e.1)
    typed_term bs s (conditional a b d) u e =
        expect_same s Message _ e.0
        ∙ three_of formula.conditional (term_of c bs Boolean a) (term_of c bs Message b)
        (term_of c bs Message d) (IsTerm c bs Boolean a) (IsTerm c bs Message b)
        (IsTerm c bs Message d) (typed_term bs Boolean a) (typed_term bs Message b)
        (typed_term bs Message d) u e.1
    typed_term bs s (find ns a b d) u e =
        let is = bs ++ group_variables Index ns in
        expect_same s Message _ e.0
        ∙ three_of (t.find (length ns)) (term_of c is Boolean a) (term_of c is Message b)
        (term_of c bs Message d) (IsTerm c is Boolean a) (IsTerm c is Message b)
        (IsTerm c bs Message d) (typed_term is Boolean a) (typed_term is Message b)
        (typed_term bs Message d) u e.1
    typed_term bs s (diff a b) u e =
        two_of t.diff (term_of c bs s a) (term_of c bs s b) (IsTerm c bs s a) (IsTerm c bs s b)
        (typed_term bs s a) (typed_term bs s b) u e
    typed_term bs s (unary Not a) u e =
        expect_same s Boolean _ e.0
        ∙ one_of formula.negation (term_of c bs Boolean a) (IsTerm c bs Boolean a)
        (typed_term bs Boolean a) u e.1
    typed_term bs s (unary Fst a) u e =
        expect_same s Message _ e.0
        ∙ one_of formula.first (term_of c bs Message a) (IsTerm c bs Message a)
        (typed_term bs Message a) u e.1
    typed_term bs s (unary Snd a) u e =
        expect_same s Message _ e.0
        ∙ one_of formula.second (term_of c bs Message a) (IsTerm c bs Message a)
        (typed_term bs Message a) u e.1
    typed_term bs s (unary OfBool a) u e =
        expect_same s Message _ e.0
        ∙ one_of formula.of_bool (term_of c bs Boolean a) (IsTerm c bs Boolean a)
        (typed_term bs Boolean a) u e.1
    typed_term bs s (unary Happens a) u e =
        expect_same s Boolean _ e.0
        ∙ one_of t.happens (time_of c bs a) (IsTime c bs a) (typed_time bs a) u e.1
    typed_term bs s (unary Pred a) u e = absurd e
    typed_term bs s (value w a) u e = expect_same s (macro_sort (macro_of w)) _ e.0
        ∙ one_of (t.macro (macro_of w)) (time_of c bs a) (IsTime c bs a) (typed_time bs a) u e.1
    typed_term bs s (name x) u e =
        rw (judged_by (as_value s) s x 0 (meaning c bs x) e.0 e.1.0 e.1.1.0.0 e.1.1.0.1 e.1.1.1)
        (typed_value e.1.0 (Ok []) (λ i. Ok ([], nil)) (AreIndices c bs none) (λ i r. r ≡ ([], nil))
        (λ js e. ap Ok (sym e)) (λ i r e. ap Ok (sym e)) u e.1.1.2)
    typed_term bs s (apply x xs) u e =
        rw (judged_by (as_value s) s x (count_trees xs)
        (meaning c bs x) e.0 e.1.0 e.1.1.0.0 e.1.1.0.1 e.1.1.1)
        (typed_value e.1.0 (indices_of c bs xs) (λ i. arguments_of c bs i xs) (AreIndices c bs xs)
        (λ i. AreArguments c bs i xs) (typed_indices bs xs)
        (λ i. typed_arguments bs i xs) u e.1.1.2)

    typed_arguments : (bs : List Variable) (i : ℕ) (xs : FormulaTrees) (r : List Idx × TermTrees)
        → AreArguments c bs i xs r → arguments_of c bs i xs ≡ Ok r
    typed_arguments bs i none r e = ap Ok (sym e)
    typed_arguments bs zero (more a xs) r e =
        rw (typed_term bs Message a e.0 e.1.1.0, typed_messages bs xs e.1.0 e.1.1.1)
        (ap Ok (sym e.1.1.2))
    typed_arguments bs (suc i) (more a xs) r e =
        two_of (λ j s. (j ∷ s.0, s.1)) (index_of c bs a) (arguments_of c bs i xs) (IsIndex c bs a)
        (AreArguments c bs i xs) (typed_index bs a) (typed_arguments bs i xs) r e

    typed_messages : (bs : List Variable) (xs : FormulaTrees) (us : TermTrees)
        → AreMessages c bs xs us → terms_of c bs xs ≡ Ok us
    typed_messages bs none us e = ap Ok (sym e)
    typed_messages bs (more a xs) us e =
        two_of cons (term_of c bs Message a) (terms_of c bs xs) (IsTerm c bs Message a)
        (AreMessages c bs xs) (typed_term bs Message a) (typed_messages bs xs) us e

-- a tree has at most one term at a sort
pub one_term : (c : Context) (bs : List Variable) (s : Sort) (f : FormulaTree) (u v : TermTree)
    → IsTerm c bs s f u → IsTerm c bs s f v → u ≡ v
one_term c bs s f u v d e = let m = typed_term c bs s f u d in let n =
    typed_term c bs s f v e in let r : Ok u ≡ Ok v = sym m ∙ n in cc
