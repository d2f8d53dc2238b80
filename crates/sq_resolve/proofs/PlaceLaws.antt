-- The walk refuses a tree with the fault of its first place, in preorder, that has one.
use Rattle.std.proofs.Common.{◌≡◌, ℕ, zero, suc, ◌+◌, List, [], ◌∷◌, ◌++◌, Option, Some, None, Bool}
use Rattle.std.proofs.Common.{true, false, if◌then◌else◌, length, is_some, refl, sym, ap, ◌∙◌}
use Rattle.std.proofs.Common.{arith}
use Rattle.std.specs.Prelude.{Ok, Err, ◌==◌}
use Rattle.std.proofs.lemmas.Bool.Decides.{nat_tests}
use Rattle.sq_base.specs.declared.sort.Sort.{Sort}
use Rattle.sq_base.specs.declared.sort.Sort.TheVariants.{Message, Boolean, Index, Timestamp}
use Rattle.sq_ast.specs.declared.formula.Binary.TheVariants.{Implies, Or, And, Equal, NotEqual}
use Rattle.sq_ast.specs.declared.formula.Binary.TheVariants.{LessEqual, Less}
use Rattle.sq_ast.specs.declared.formula.Constant.TheVariants.{True, False, Empty, Init}
use Rattle.sq_ast.specs.declared.formula.Unary.TheVariants.{Not, Fst, Snd, OfBool, Happens, Pred}
use Rattle.sq_ast.specs.declared.formula.MacroWord.TheVariants.{Input, Output, Cond, Exec, Frame}
use Rattle.sq_ast.specs.Tree.{Group, FormulaTree, quantified, binary, group, pair, constant}
use Rattle.sq_ast.specs.Tree.{conditional, find, diff, unary, value, name, apply, FormulaTrees}
use Rattle.sq_ast.specs.Tree.{none, more}
use Rattle.sq_term.specs.declared.term.Idx.{Idx}
use Rattle.sq_term.specs.Formulas as formula
use Rattle.sq_term.specs.Symbols.{kind_of}
use Rattle.sq_term.specs.Syntax as t
use Rattle.sq_term.specs.Syntax.{TsTree, TermTree, TermTrees, nil, cons}
use Rattle.sq_typing.specs.Functions.{is_value_sort}
use Rattle.sq_term.specs.Pure.{is_binder_sort}
use Rattle.sq_typing.specs.Typing.{macro_sort}
use Rattle.sq_term.specs.TreeEquality.{is_same_sort}
use Rattle.sq_resolve.specs.declared.fault.ResolveFault.{ResolveFault}
use Rattle.sq_resolve.specs.declared.fault.ResolveFault.TheVariants.{Arity, SortClash}
use Rattle.sq_resolve.specs.declared.fault.ResolveFault.TheVariants.{MessageQuantifier}
use Rattle.sq_resolve.specs.declared.head.Head.{Head}
use Rattle.sq_resolve.specs.declared.head.Head.TheVariants as head
use Rattle.sq_resolve.specs.Scopes.{Variable, Context, meaning, head_arity, head_sort, first_some}
use Rattle.sq_resolve.specs.Resolved.{Found, mapped, both, three, expect, chosen, judged, as_index}
use Rattle.sq_resolve.specs.Resolved.{Moment, moment, instance, as_moment, Value, schema_variable}
use Rattle.sq_resolve.specs.Resolved.{name_symbol, function, as_value, macro_of, own_sort}
use Rattle.sq_resolve.specs.Resolved.{count_trees, index_of, indices_of, at_indices, time_of}
use Rattle.sq_resolve.specs.Resolved.{quantify, group_variables, variables, bind_no_message}
use Rattle.sq_resolve.specs.Resolved.{with_binders, by_sort, before, constant_kind, constant_sort}
use Rattle.sq_resolve.specs.Resolved.{function_term, with_arguments, term_of, terms_of}
use Rattle.sq_resolve.specs.Resolved.{arguments_of, equation}
use Rattle.sq_resolve.specs.Places.{Place, clash, stands_for, head_fault, identifier_fault}
use Rattle.sq_resolve.specs.Places.{own_fault, equation_sort, index_count, places, argument_places}
use Rattle.sq_resolve.specs.Places.{first_fault, fault_of}

first_assoc : {A : Type 0} (a b d : Option A)
    → first_some (first_some a b) d ≡ first_some a (first_some b d)
first_assoc (Some x) b d = refl
first_assoc None b d = refl

first_none : {A : Type 0} (a : Option A) → first_some a None ≡ a
first_none (Some x) = refl
first_none None = refl

fault_mapped : {A B : Type 0} (f : A → B) (m : Found A) → fault_of (mapped f m) ≡ fault_of m
fault_mapped f (Ok a) = refl
fault_mapped f (Err e) = refl

fault_both : {A B C : Type 0} (f : A → B → C) (m : Found A) (n : Found B)
    → fault_of (both f m n) ≡ first_some (fault_of m) (fault_of n)
fault_both f (Ok a) (Ok b) = refl
fault_both f (Ok a) (Err e) = refl
fault_both f (Err e) n = refl

fault_three : {A B C D : Type 0} (f : A → B → C → D) (m : Found A) (n : Found B) (o : Found C)
    → fault_of (three f m n o) ≡ first_some (fault_of m) (first_some (fault_of n) (fault_of o))
fault_three f (Ok a) n o = fault_both (f a) n o
fault_three f (Err e) n o = refl

fault_expect : {A : Type 0} (w o : Sort) (m : Found A)
    → fault_of (expect w o m) ≡ first_some (clash w o) (fault_of m)
fault_expect {A} w o m = by (is_same_sort w o)
  where
    by : (b : Bool) → fault_of (if b then m else Err (SortClash w o))
        ≡ first_some (if b then None else Some (SortClash w o)) (fault_of m)
    by true = refl
    by false = refl

fault_binders : {A : Type 0} (gs : List Group) (m : Found A)
    → fault_of (with_binders gs m)
    ≡ first_some (if bind_no_message gs then None else Some MessageQuantifier) (fault_of m)
fault_binders {A} gs m = by (bind_no_message gs)
  where
    by : (b : Bool) → fault_of (if b then m else Err MessageQuantifier)
        ≡ first_some (if b then None else Some MessageQuantifier) (fault_of m)
    by true = refl
    by false = refl

fault_judged : {A : Type 0} (reading : Head → Option A) (w : Sort) (x : List ℕ) (n : ℕ) (h : Head)
    → fault_of (judged reading w x n (Some h)) ≡ head_fault (is_some (reading h)) w x n h
fault_judged {A} reading w x n h = by (head_arity h == n) (reading h) refl
  where
    by : (b : Bool) (o : Option A) → reading h ≡ o
        → fault_of (chosen reading w (if b then Ok h else Err (Arity x (head_arity h) n)))
        ≡ (if b then if is_some (reading h) then None else (Some (SortClash w (head_sort h)))
        else Some (Arity x (head_arity h) n))
    by true (Some a) e = rw e refl
    by true None e = rw e refl
    by false o e = refl

module _ (c : Context) where
  pub first_append : (ps qs : List Place)
      → first_fault c (ps ++ qs) ≡ first_some (first_fault c ps) (first_fault c qs)
  first_append [] qs = refl
  first_append (p ∷ ps) qs =
      ap (first_some (own_fault c p.around p.want p.tree)) (first_append ps qs)
      ∙ sym (first_assoc (own_fault c p.around p.want p.tree) (first_fault c ps) (first_fault c qs))

  two_places : {A B C : Type 0} (f : A → B → C) (m : Found A) (n : Found B) (ps qs : List Place)
      → fault_of m ≡ first_fault c ps → fault_of n ≡ first_fault c qs
      → fault_of (both f m n) ≡ first_fault c (ps ++ qs)
  two_places f m n ps qs d e =
      fault_both f m n ∙ ((λ i. first_some (d i) (e i)) ∙ sym (first_append ps qs))

  three_places : {A B C D : Type 0} (f : A → B → C → D) (m : Found A) (n : Found B) (o : Found C)
      (ps qs rs : List Place) → fault_of m ≡ first_fault c ps → fault_of n ≡ first_fault c qs
      → fault_of o ≡ first_fault c rs → fault_of (three f m n o) ≡ first_fault c (ps ++ (qs ++ rs))
  three_places f m n o ps qs rs d e g =
      fault_three f m n o
      ∙ ((λ i. first_some (d i) (first_some (e i) (g i)))
      ∙ (ap (first_some (first_fault c ps)) (sym (first_append qs rs))
      ∙ sym (first_append ps (qs ++ rs))))

  -- a form with a sort of its own, and its parts
  expect_places : {A : Type 0} (w o : Sort) (m : Found A) (ps : List Place)
      → fault_of m ≡ first_fault c ps
      → fault_of (expect w o m) ≡ first_some (clash w o) (first_fault c ps)
  expect_places w o m ps e = fault_expect w o m ∙ ap (first_some (clash w o)) e

  -- no arguments where a head takes none
  no_arguments : (xs : FormulaTrees) → (0 == count_trees xs) ≡ true → xs ≡ none
  no_arguments none e = refl
  no_arguments (more a xs) e = let n : ⊥ = grind (arith, nat_tests) in absurd n

  pub identifier_alone : {A : Type 0} (reading : Head → Option A) (w : Sort) (bs : List Variable)
      (x : List ℕ) (n : ℕ) (m : Option Head)
      → ((h : Head) → is_some (reading h) ≡ stands_for w h)
      → fault_of (judged reading w x n m) ≡ identifier_fault w x n m
  identifier_alone reading w bs x n None same = refl
  identifier_alone reading w bs x n (Some h) same =
      fault_judged reading w x n h ∙ ap (λ b. head_fault b w x n h) (same h)

  pub index_name : (bs : List Variable) (x : List ℕ) (n : ℕ)
      → fault_of (judged as_index Index x n (meaning c bs x))
      ≡ identifier_fault Index x n (meaning c bs x)
  index_name bs x n = identifier_alone as_index Index bs x n (meaning c bs x) (λ h. refl)

  pub moment_name : (bs : List Variable) (x : List ℕ) (n : ℕ)
      → fault_of (judged as_moment Timestamp x n (meaning c bs x))
      ≡ identifier_fault Timestamp x n (meaning c bs x)
  moment_name bs x n = identifier_alone as_moment Timestamp bs x n (meaning c bs x) (λ h. refl)

  pub value_stands : (w : Sort) → is_value_sort w ≡ true → (h : Head)
      → is_some (as_value w h) ≡ stands_for w h
  value_stands Message e h = refl
  value_stands Boolean e h = refl
  value_stands Index e h = let n : ⊥ = cc in absurd n
  value_stands Timestamp e h = let n : ⊥ = cc in absurd n

  -- what follows an identifier that is judged
  abbrev continued : {A : Type 0} → (A → Option ResolveFault) → Found A → Option ResolveFault
  continued f (Ok a) = f a
  continued f (Err e) = Some e

  judged_places : {A : Type 0} (reading : Head → Option A) (w : Sort) (x : List ℕ) (n : ℕ)
      (h : Head) (f : A → Option ResolveFault) (rest : Option ResolveFault)
      → ((a : A) → reading h ≡ Some a → (head_arity h == n) ≡ true → f a ≡ rest)
      → continued f (judged reading w x n (Some h))
      ≡ first_some (head_fault (is_some (reading h)) w x n h) rest
  judged_places {A} reading w x n h f rest go = by (head_arity h == n) refl (reading h) refl
    where
      by : (b : Bool) → (head_arity h == n) ≡ b → (o : Option A) → reading h ≡ o
          → continued f (chosen reading w (if b then Ok h else Err (Arity x (head_arity h) n)))
          ≡ first_some
          (if b then if is_some (reading h) then None else (Some (SortClash w (head_sort h)))
          else Some (Arity x (head_arity h) n)) rest
      by true e (Some a) r = rw r (go a r e)
      by true e None r = rw r refl
      by false e o r = refl

  -- ---- indices

  index_rest : (h : Head) (i : Idx) (xs : FormulaTrees) (bs : List Variable) → as_index h ≡ Some i
      → (head_arity h == count_trees xs) ≡ true
      → None ≡ first_fault c (argument_places c bs (index_count (Some h)) xs)
  index_rest (head.Bound k Index) i xs bs e b = rw (no_arguments xs b) refl
  index_rest (head.Free k Index) i xs bs e b = rw (no_arguments xs b) refl
  index_rest _ i xs bs e b = let n : ⊥ = cc in absurd n

  index_applied : (bs : List Variable) (x : List ℕ) (xs : FormulaTrees) (m : Option Head)
      → fault_of (judged as_index Index x (count_trees xs) m)
      ≡ first_some (identifier_fault Index x (count_trees xs) m)
      (first_fault c (argument_places c bs (index_count m) xs))
  index_applied bs x xs None = refl
  index_applied bs x xs (Some h) = by (judged as_index Index x (count_trees xs) (Some h))
      ∙ judged_places as_index Index x (count_trees xs) h (λ i. None)
      (first_fault c (argument_places c bs (index_count (Some h)) xs))
      (λ i e b. index_rest h i xs bs e b)
    where
      by : (m : Found Idx) → fault_of m ≡ continued (λ i. None) m
      by (Ok i) = refl
      by (Err e) = refl

  pub index_places : (bs : List Variable) (f : FormulaTree)
      → fault_of (index_of c bs f) ≡ first_fault c (places c bs Index f)
  index_places bs (group a) = index_places bs a
  index_places bs (name x) =
      index_name bs x 0 ∙ sym (first_none (identifier_fault Index x 0 (meaning c bs x)))
  index_places bs (apply x xs) = index_applied bs x xs (meaning c bs x)
  index_places bs (constant True) = refl
  index_places bs (constant False) = refl
  index_places bs (constant Empty) = refl
  index_places bs (constant Init) = refl
  index_places bs (unary Not a) = refl
  index_places bs (unary Fst a) = refl
  index_places bs (unary Snd a) = refl
  index_places bs (unary OfBool a) = refl
  index_places bs (unary Happens a) = refl
  index_places bs (unary Pred a) = refl
  index_places bs (value Input a) = refl
  index_places bs (value Output a) = refl
  index_places bs (value Cond a) = refl
  index_places bs (value Exec a) = refl
  index_places bs (value Frame a) = refl
  index_places bs (quantified q gs a) = refl
  index_places bs (binary o a b) = refl
  index_places bs (pair a b) = refl
  index_places bs (conditional a b d) = refl
  index_places bs (find ns a b d) = refl
  index_places bs (diff a b) = refl

  indices_places : (bs : List Variable) (xs : FormulaTrees)
      → fault_of (indices_of c bs xs) ≡ first_fault c (argument_places c bs (count_trees xs) xs)
  indices_places bs none = refl
  indices_places bs (more a xs) =
      let e : count_trees xs + 1 ≡ suc (count_trees xs) = omega arith in
      rw e (two_places (λ i is. i ∷ is) (index_of c bs a) (indices_of c bs xs) (places c bs Index a)
      (argument_places c bs (count_trees xs) xs) (index_places bs a) (indices_places bs xs))

  -- ---- timestamps

  same_number : (a b : ℕ) → (a == b) ≡ true → a ≡ b
  same_number a b e = grind (arith, nat_tests)

  moment_rest : (h : Head) (m : Moment) (xs : FormulaTrees) (bs : List Variable)
      → as_moment h ≡ Some m → (head_arity h == count_trees xs) ≡ true
      → fault_of (at_indices (Ok m) (indices_of c bs xs))
      ≡ first_fault c (argument_places c bs (index_count (Some h)) xs)
  moment_rest (head.Bound k Timestamp) m xs bs e b = let is : m ≡ moment (t.bound k) =
      cc in rw (is, no_arguments xs b) refl
  moment_rest (head.Free k Timestamp) m xs bs e b = let is : m ≡ moment (t.free k) =
      cc in rw (is, no_arguments xs b) refl
  moment_rest (head.Action a k) m xs bs e b =
      let is : m ≡ instance a = cc in
      rw (is, same_number k (count_trees xs) b) (fault_mapped (t.action a) (indices_of c bs xs)
      ∙ indices_places bs xs)
  moment_rest _ m xs bs e b = let n : ⊥ = cc in absurd n

  moment_applied : (bs : List Variable) (x : List ℕ) (xs : FormulaTrees) (m : Option Head)
      → fault_of (at_indices (judged as_moment Timestamp x (count_trees xs) m) (indices_of c bs xs))
      ≡ first_some (identifier_fault Timestamp x (count_trees xs) m)
      (first_fault c (argument_places c bs (index_count m) xs))
  moment_applied bs x xs None = refl
  moment_applied bs x xs (Some h) =
      by (judged as_moment Timestamp x (count_trees xs) (Some h))
      ∙ judged_places as_moment Timestamp x (count_trees xs) h
      (λ m. fault_of (at_indices (Ok m) (indices_of c bs xs)))
      (first_fault c (argument_places c bs (index_count (Some h)) xs))
      (λ m e b. moment_rest h m xs bs e b)
    where
      by : (m : Found Moment) → fault_of (at_indices m (indices_of c bs xs))
          ≡ continued (λ m. fault_of (at_indices (Ok m) (indices_of c bs xs))) m
      by (Ok i) = refl
      by (Err e) = refl

  pub time_places : (bs : List Variable) (f : FormulaTree)
      → fault_of (time_of c bs f) ≡ first_fault c (places c bs Timestamp f)
  time_places bs (group a) = time_places bs a
  time_places bs (constant True) = refl
  time_places bs (constant False) = refl
  time_places bs (constant Empty) = refl
  time_places bs (constant Init) = refl
  time_places bs (unary Pred a) = fault_mapped t.pred (time_of c bs a) ∙ time_places bs a
  time_places bs (unary Not a) = refl
  time_places bs (unary Fst a) = refl
  time_places bs (unary Snd a) = refl
  time_places bs (unary OfBool a) = refl
  time_places bs (unary Happens a) = refl
  time_places bs (name x) = moment_applied bs x none (meaning c bs x)
  time_places bs (apply x xs) = moment_applied bs x xs (meaning c bs x)
  time_places bs (value Input a) = refl
  time_places bs (value Output a) = refl
  time_places bs (value Cond a) = refl
  time_places bs (value Exec a) = refl
  time_places bs (value Frame a) = refl
  time_places bs (quantified q gs a) = refl
  time_places bs (binary o a b) = refl
  time_places bs (pair a b) = refl
  time_places bs (conditional a b d) = refl
  time_places bs (find ns a b d) = refl
  time_places bs (diff a b) = refl

  -- ---- terms

  value_rest : (w : Sort) (h : Head) (v : Value) (xs : FormulaTrees) (bs : List Variable)
      → ((i : ℕ) → fault_of (arguments_of c bs i xs) ≡ first_fault c (argument_places c bs i xs))
      → as_value w h ≡ Some v → (head_arity h == count_trees xs) ≡ true
      → fault_of (with_arguments (Ok v) (indices_of c bs xs) (λ i. arguments_of c bs i xs))
      ≡ first_fault c (argument_places c bs (index_count (Some h)) xs)
  value_rest w (head.Schema k s) v xs bs go e b = by (is_same_sort w s) e
    where
      by : (s : Bool) → (if s then Some (schema_variable k) else None) ≡ Some v
          → fault_of (with_arguments (Ok v) (indices_of c bs xs) (λ i. arguments_of c bs i xs))
          ≡ first_fault c (argument_places c bs 0 xs)
      by true f = let is : v ≡ schema_variable k = cc in rw (is, no_arguments xs b) refl
      by false f = let n : ⊥ = cc in absurd n
  value_rest w (head.Name n k) v xs bs go e b = by (is_same_sort w Message) e
    where
      by : (s : Bool) → (if s then Some (name_symbol n) else None) ≡ Some v
          → fault_of (with_arguments (Ok v) (indices_of c bs xs) (λ i. arguments_of c bs i xs))
          ≡ first_fault c (argument_places c bs k xs)
      by true f = let is : v ≡ name_symbol n =
          cc in rw (is, same_number k (count_trees xs) b)
          (fault_mapped (t.name n) (indices_of c bs xs) ∙ indices_places bs xs)
      by false f = let n : ⊥ = cc in absurd n
  value_rest w (head.Function f i n s) v xs bs go e b = by (is_same_sort w s) e
    where
      by : (r : Bool) → (if r then Some (function (kind_of f) i) else None) ≡ Some v
          → fault_of (with_arguments (Ok v) (indices_of c bs xs) (λ i. arguments_of c bs i xs))
          ≡ first_fault c (argument_places c bs i xs)
      by true g =
          let is : v ≡ function (kind_of f) i = cc in
          rw is (fault_mapped (function_term (kind_of f)) (arguments_of c bs i xs) ∙ go i)
      by false g = let n : ⊥ = cc in absurd n
  value_rest w _ v xs bs go e b = let n : ⊥ = cc in absurd n

  value_applied : (w : Sort) → is_value_sort w ≡ true
      → (bs : List Variable) (x : List ℕ) (xs : FormulaTrees) (m : Option Head)
      → ((i : ℕ) → fault_of (arguments_of c bs i xs) ≡ first_fault c (argument_places c bs i xs))
      → fault_of
      (with_arguments (judged (as_value w) w x (count_trees xs) m) (indices_of c bs xs)
      (λ i. arguments_of c bs i xs)) ≡ first_some (identifier_fault w x (count_trees xs) m)
      (first_fault c (argument_places c bs (index_count m) xs))
  value_applied w s bs x xs None go = refl
  value_applied w s bs x xs (Some h) go =
      by (judged (as_value w) w x (count_trees xs) (Some h))
      ∙ (judged_places (as_value w) w x (count_trees xs) h
      (λ v. fault_of (with_arguments (Ok v) (indices_of c bs xs) (λ i. arguments_of c bs i xs)))
      (first_fault c (argument_places c bs (index_count (Some h)) xs))
      (λ v e b. value_rest w h v xs bs go e b)
      ∙ ap (λ b. first_some (head_fault b w x (count_trees xs) h)
      (first_fault c (argument_places c bs (index_count (Some h)) xs))) (value_stands w s h))
    where
      by : (m : Found Value)
          → fault_of (with_arguments m (indices_of c bs xs) (λ i. arguments_of c bs i xs))
          ≡ continued
          (λ v. fault_of (with_arguments (Ok v) (indices_of c bs xs) (λ i. arguments_of c bs i xs)))
          m
      by (Ok v) = refl
      by (Err e) = refl

  -- an equation of indices, of timestamps or of messages
  equation_places : (s : Sort) (bs : List Variable) (a b : FormulaTree)
      → fault_of (term_of c bs Message a) ≡ first_fault c (places c bs Message a)
      → fault_of (term_of c bs Message b) ≡ first_fault c (places c bs Message b)
      → fault_of
      (by_sort s (both t.idx_eq (index_of c bs a) (index_of c bs b))
      (both t.ts_eq (time_of c bs a) (time_of c bs b))
      (both formula.equal (term_of c bs Message a) (term_of c bs Message b)))
      ≡ first_fault c (places c bs (equation_sort s) a ++ places c bs (equation_sort s) b)
  equation_places Index bs a b f g =
      two_places t.idx_eq (index_of c bs a) (index_of c bs b) (places c bs Index a)
      (places c bs Index b) (index_places bs a) (index_places bs b)
  equation_places Timestamp bs a b f g =
      two_places t.ts_eq (time_of c bs a) (time_of c bs b) (places c bs Timestamp a)
      (places c bs Timestamp b) (time_places bs a) (time_places bs b)
  equation_places Message bs a b f g =
      two_places formula.equal (term_of c bs Message a) (term_of c bs Message b)
      (places c bs Message a) (places c bs Message b) f g
  equation_places Boolean bs a b f g =
      two_places formula.equal (term_of c bs Message a) (term_of c bs Message b)
      (places c bs Message a) (places c bs Message b) f g

  no_timestamp : (w : Sort) → is_value_sort w ≡ true
      → Some (SortClash w Timestamp) ≡ clash w Timestamp
  no_timestamp Message e = refl
  no_timestamp Boolean e = refl
  no_timestamp Index e = refl
  no_timestamp Timestamp e = let n : ⊥ = cc in absurd n

  no_argument_sort : (w : Sort) → is_value_sort w ≡ true → is_binder_sort w ≡ false
  no_argument_sort Message e = refl
  no_argument_sort Boolean e = refl
  no_argument_sort Index e = cc
  no_argument_sort Timestamp e = cc

  mutual
    pub term_places : (bs : List Variable) (w : Sort) (f : FormulaTree) → is_value_sort w ≡ true
        → fault_of (term_of c bs w f) ≡ first_fault c (places c bs w f)
    term_places bs w (quantified q gs a) s =
        let m = mapped (quantify q (variables gs)) (term_of c (bs ++ variables gs) Boolean a) in
        fault_expect w Boolean (with_binders gs m)
        ∙ (ap (first_some (clash w Boolean)) (fault_binders gs m)
        ∙ (ap (λ x. first_some (clash w Boolean)
        (first_some (if bind_no_message gs then None else Some MessageQuantifier) x))
        (fault_mapped (quantify q (variables gs)) (term_of c (bs ++ variables gs) Boolean a)
        ∙ term_places (bs ++ variables gs) Boolean a refl)
        ∙ sym (first_assoc (clash w Boolean)
        (if bind_no_message gs then None else Some MessageQuantifier)
        (first_fault c (places c (bs ++ variables gs) Boolean a)))))
    term_places bs w (binary Implies a b) s =
        expect_places w Boolean _ (places c bs Boolean a ++ places c bs Boolean b)
        (two_places formula.implies (term_of c bs Boolean a) (term_of c bs Boolean b)
        (places c bs Boolean a) (places c bs Boolean b) (term_places bs Boolean a refl)
        (term_places bs Boolean b refl))
    term_places bs w (binary Or a b) s =
        expect_places w Boolean _ (places c bs Boolean a ++ places c bs Boolean b)
        (two_places formula.either (term_of c bs Boolean a) (term_of c bs Boolean b)
        (places c bs Boolean a) (places c bs Boolean b) (term_places bs Boolean a refl)
        (term_places bs Boolean b refl))
    term_places bs w (binary And a b) s =
        expect_places w Boolean _ (places c bs Boolean a ++ places c bs Boolean b)
        (two_places formula.both (term_of c bs Boolean a) (term_of c bs Boolean b)
        (places c bs Boolean a) (places c bs Boolean b) (term_places bs Boolean a refl)
        (term_places bs Boolean b refl))
    term_places bs w (binary Equal a b) s =
        expect_places w Boolean _
        (places c bs (equation_sort (own_sort c bs a)) a ++ places c bs
        (equation_sort (own_sort c bs a)) b)
        (equation_places (own_sort c bs a) bs a b (term_places bs Message a refl)
        (term_places bs Message b refl))
    term_places bs w (binary NotEqual a b) s =
        fault_mapped formula.negation (equation c bs w a b)
        ∙ expect_places w Boolean _
        (places c bs (equation_sort (own_sort c bs a)) a ++ places c bs
        (equation_sort (own_sort c bs a)) b)
        (equation_places (own_sort c bs a) bs a b (term_places bs Message a refl)
        (term_places bs Message b refl))
    term_places bs w (binary LessEqual a b) s =
        expect_places w Boolean _ (places c bs Timestamp a ++ places c bs Timestamp b)
        (two_places t.le (time_of c bs a) (time_of c bs b) (places c bs Timestamp a)
        (places c bs Timestamp b) (time_places bs a) (time_places bs b))
    term_places bs w (binary Less a b) s =
        expect_places w Boolean _ (places c bs Timestamp a ++ places c bs Timestamp b)
        (two_places before (time_of c bs a) (time_of c bs b) (places c bs Timestamp a)
        (places c bs Timestamp b) (time_places bs a) (time_places bs b))
    term_places bs w (group a) s = term_places bs w a s
    term_places bs w (pair a b) s =
        expect_places w Message _ (places c bs Message a ++ places c bs Message b)
        (two_places formula.pair (term_of c bs Message a) (term_of c bs Message b)
        (places c bs Message a) (places c bs Message b) (term_places bs Message a refl)
        (term_places bs Message b refl))
    term_places bs w (constant k) s =
        expect_places w (constant_sort k) (Ok (formula.constant (constant_kind k))) [] refl
    term_places bs w (conditional a b d) s =
        expect_places w Message _
        (places c bs Boolean a ++ (places c bs Message b ++ places c bs Message d))
        (three_places formula.conditional (term_of c bs Boolean a) (term_of c bs Message b)
        (term_of c bs Message d) (places c bs Boolean a) (places c bs Message b)
        (places c bs Message d) (term_places bs Boolean a refl) (term_places bs Message b refl)
        (term_places bs Message d refl))
    term_places bs w (find ns a b d) s =
        let is = bs ++ group_variables Index ns in
        expect_places w Message _
        (places c is Boolean a ++ (places c is Message b ++ places c bs Message d))
        (three_places (t.find (length ns)) (term_of c is Boolean a) (term_of c is Message b)
        (term_of c bs Message d) (places c is Boolean a) (places c is Message b)
        (places c bs Message d) (term_places is Boolean a refl) (term_places is Message b refl)
        (term_places bs Message d refl))
    term_places bs w (diff a b) s =
        rw (no_argument_sort w s)
        (two_places t.diff (term_of c bs w a) (term_of c bs w b) (places c bs w a) (places c bs w b)
        (term_places bs w a s) (term_places bs w b s))
    term_places bs w (unary Not a) s =
        expect_places w Boolean _ (places c bs Boolean a)
        (fault_mapped formula.negation (term_of c bs Boolean a) ∙ term_places bs Boolean a refl)
    term_places bs w (unary Fst a) s =
        expect_places w Message _ (places c bs Message a)
        (fault_mapped formula.first (term_of c bs Message a) ∙ term_places bs Message a refl)
    term_places bs w (unary Snd a) s =
        expect_places w Message _ (places c bs Message a)
        (fault_mapped formula.second (term_of c bs Message a) ∙ term_places bs Message a refl)
    term_places bs w (unary OfBool a) s =
        expect_places w Message _ (places c bs Boolean a)
        (fault_mapped formula.of_bool (term_of c bs Boolean a) ∙ term_places bs Boolean a refl)
    term_places bs w (unary Happens a) s =
        expect_places w Boolean _ (places c bs Timestamp a) (fault_mapped t.happens (time_of c bs a)
        ∙ time_places bs a)
    term_places bs w (unary Pred a) s = let e = no_timestamp w s in rw (← e) refl
    term_places bs w (value v a) s =
        expect_places w (macro_sort (macro_of v)) _ (places c bs Timestamp a)
        (fault_mapped (t.macro (macro_of v)) (time_of c bs a) ∙ time_places bs a)
    term_places bs w (name x) s = value_applied w s bs x none (meaning c bs x) (λ i. refl)
    term_places bs w (apply x xs) s =
        value_applied w s bs x xs (meaning c bs x) (λ i. arguments_places bs i xs)

    arguments_places : (bs : List Variable) (i : ℕ) (xs : FormulaTrees)
        → fault_of (arguments_of c bs i xs) ≡ first_fault c (argument_places c bs i xs)
    arguments_places bs i none = refl
    arguments_places bs zero (more a xs) =
        fault_mapped (λ ts. ([], ts)) (both cons (term_of c bs Message a) (terms_of c bs xs))
        ∙ two_places cons (term_of c bs Message a) (terms_of c bs xs) (places c bs Message a)
        (argument_places c bs 0 xs) (term_places bs Message a refl) (messages_places bs xs)
    arguments_places bs (suc i) (more a xs) =
        two_places (λ j s. (j ∷ s.0, s.1)) (index_of c bs a) (arguments_of c bs i xs)
        (places c bs Index a) (argument_places c bs i xs) (index_places bs a)
        (arguments_places bs i xs)

    messages_places : (bs : List Variable) (xs : FormulaTrees)
        → fault_of (terms_of c bs xs) ≡ first_fault c (argument_places c bs 0 xs)
    messages_places bs none = refl
    messages_places bs (more a xs) =
        two_places cons (term_of c bs Message a) (terms_of c bs xs) (places c bs Message a)
        (argument_places c bs 0 xs) (term_places bs Message a refl) (messages_places bs xs)
