-- The syntax tree of a printed term has the term as its term, at the sort that the term has.
use Rattle.std.proofs.Common.{◌≡◌, ◌≢◌, ◌≤◌, ◌+◌, ℕ, zero, suc, Bool}
use Rattle.std.proofs.Common.{true, false, if◌then◌else◌, ◌&&◌, ◌==◌, nat_eq, nat_lt, List, [], ◌∷◌}
use Rattle.std.proofs.Common.{◌++◌}
use Rattle.std.proofs.Common.{length, map, replicate, Option, Some, None, slice_get}
use Rattle.std.proofs.Common.{append_assoc, append-nil, length-append, refl, sym, ap, ◌∙◌, subst}
use Rattle.std.proofs.Common.{arith}
use Rattle.std.proofs.lemmas.Bool.{false≢true}
use Rattle.std.proofs.lemmas.Bool.Decides.{nat_tests}
use Rattle.std.proofs.lemmas.List.{map-append}
use Rattle.sq_base.specs.declared.sort.Sort.{Sort}
use Rattle.sq_base.specs.declared.sort.Sort.TheVariants.{Message, Boolean, Index, Timestamp}
use Rattle.sq_ast.specs.Tree.{FormulaTree, FormulaTrees}
use Rattle.sq_ast.specs.Tree as tree
use Rattle.sq_term.specs.declared.action.Action.{Action}
use Rattle.sq_term.specs.declared.signature.FunDecl.{FunDecl}
use Rattle.sq_term.specs.declared.term.Idx.{Idx}
use Rattle.sq_term.specs.Syntax.{TermTree, name, fun, macro, schema, diff, le, ts_eq, idx_eq}
use Rattle.sq_term.specs.Syntax.{happens, all, some, find, TermTrees, nil, cons}
use Rattle.sq_term.specs.declared.builtin.Builtin.{Builtin}
use Rattle.sq_term.specs.declared.builtin.Builtin.TheVariants as builtin
use Rattle.sq_term.specs.declared.layout.Layout.TheVariants.{Word}
use Rattle.sq_term.specs.Measure.{count_terms}
use Rattle.sq_term.specs.Pure.{is_binder_sort}
use Rattle.sq_term.specs.Symbols as kind
use Rattle.sq_term.specs.Symbols.{Kind, declared, declared_number, function_number, kind_of}
use Rattle.sq_term.proofs.KindNumbers.{kind_of-function_number}
use Rattle.sq_term.specs.TreeEquality.{is_same_sort}
use Rattle.sq_term.proofs.SameTrees.{is_same_sort-decides}
use Rattle.sq_typing.specs.Typing.{Signature, is_index, are_indices, is_timestamp, has_sort}
use Rattle.sq_typing.specs.Typing.{have_sorts, has_count_at, applies, result_sort, macro_sort}
use Rattle.sq_typing.specs.Typing.{argument_sort}
use Rattle.sq_term.specs.Builtins.{takes_boolean, builtin_kind}
use Rattle.std.proofs.lemmas.Bool.{and_parts}
use Rattle.sq_sym.specs.declared.symbol.Symbol.TheVariants as symbol
use Rattle.sq_print.specs.declared.form.Form.TheVariants as form
use Rattle.sq_print.specs.Forms.{layout_of}
use Rattle.sq_print.specs.Printed.{idx_text}
use Rattle.sq_print.specs.Names.{Names, text_at, is_function, spelling, function_word, name_word}
use Rattle.sq_print.specs.Names.{binder_name, bound_names, names_count}
use Rattle.sq_sym.specs.Candidates.{candidate_count}
use Rattle.sq_resolve.specs.declared.head.Head.TheVariants as head
use Rattle.sq_resolve.specs.Scopes.{Variable, Context, meaning}
use Rattle.sq_resolve.specs.Resolved.{own_sort, count_trees, schema_variable, function}
use Rattle.sq_resolve.specs.Resolved.{group_variables, macro_of, value_sort}
use Rattle.sq_resolve.specs.Typed.{IsTerm, IsEquation, AreArguments, AreMessages}
use Rattle.sq_printed.specs.Trees.{called}
use Rattle.sq_printed.specs.Trees.{index_trees, ts_syntax, applied, function_syntax, macro_of_term}
use Rattle.sq_printed.specs.Trees.{term_syntax, term_syntaxes, IsWritable, AreWritable}
use Rattle.sq_readback.specs.Readable.{Declares, HasWord, HasWords, HaveWords, binders, all_binders}
use Rattle.sq_readback.proofs.Standing.{AreNamesOf, signature, IsPlain, StandAround}
use Rattle.sq_readback.proofs.Around.{one_around, next_fresh}
use Rattle.sq_readback.proofs.Stems.{candidate_named}
use Rattle.sq_readback.proofs.Heads.{count_at, schema_means, name_means, function_means}
use Rattle.sq_readback.proofs.Terms.{placed_term, macro_same, count_index_trees, index_is}
use Rattle.sq_readback.proofs.Terms.{index_sort, time_is, time_sort, called_sort, name_term}
use Rattle.sq_readback.proofs.Functions.{IsValue, HasTerm, HaveTerms, AreParts, builtin_is}

abbrev pub names_around : List Variable → List (List ℕ)
names_around bs = map (λ v. v.0) bs

same_sort_is : (r s : Sort) → is_same_sort r s ≡ true → r ≡ s
same_sort_is r s e = (is_same_sort-decides r s).0 e

sort_is_itself : (s : Sort) → is_same_sort s s ≡ true
sort_is_itself s = (is_same_sort-decides s s).1 refl

count_syntaxes : (ns : Names) (around : List (List ℕ)) (ts : TermTrees)
    → count_trees (term_syntaxes ns around ts) ≡ count_terms ts
count_syntaxes ns around nil = refl
count_syntaxes ns around (cons t ts) = let rest = count_syntaxes ns around ts in omega arith

argument_value : (f : Kind) (k : ℕ) → IsValue (argument_sort f k)
argument_value f k = by (takes_boolean f k)
  where
    by : (b : Bool) → IsValue (if b then Boolean else Message)
    by true = tt
    by false = tt

-- ---- declared functions

-- what holds of the built-in functions and of the declared ones holds of all
pub by_kind : (P : Kind → Type 0) → ((b : Builtin) → P (builtin_kind b))
    → ((k : ℕ) → P (declared k)) → (f : Kind) → P f
by_kind P own other kind.empty = own builtin.Empty
by_kind P own other kind.truth = own builtin.True
by_kind P own other kind.falsity = own builtin.False
by_kind P own other kind.negation = own builtin.Not
by_kind P own other kind.conjunction = own builtin.And
by_kind P own other kind.disjunction = own builtin.Or
by_kind P own other kind.implication = own builtin.Implies
by_kind P own other kind.equality = own builtin.Eq
by_kind P own other kind.conditional = own builtin.Ite
by_kind P own other kind.pairing = own builtin.Pair
by_kind P own other kind.first = own builtin.Fst
by_kind P own other kind.second = own builtin.Snd
by_kind P own other kind.of_bool = own builtin.OfBool
by_kind P own other kind.attacker = own builtin.Att
by_kind P own other (declared k) = other k

-- the attacker's function has no word
pub no_attacker : (c : Context) (f : Kind) → HasWord c f → f ≢ kind.attacker
no_attacker c f word e = subst (HasWord c) e word

-- an application of a declared function is written as a word
word_layout : (k n m : ℕ) → layout_of (declared k) n m ≡ Word
word_layout k n m = by (nat_eq n 0) (nat_eq m 0)
  where
    by : (a b : Bool) → (if a && b then Word else Word) ≡ Word
    by true true = refl
    by true false = refl
    by false b = refl

applied_called : (ns : Names) (around : List (List ℕ)) (k : ℕ) (is : List Idx) (xs : FormulaTrees)
    → applied ns around (declared k) is xs
    ≡ called (spelling (is_function (declared_number k)) ns.table) (index_trees ns around is xs)
unfolding function_word
applied_called ns around k [] tree.none = refl
applied_called ns around k [] (tree.more a tree.none) = refl
applied_called ns around k [] (tree.more a (tree.more b xs)) = refl
applied_called ns around k (i ∷ is) xs = refl

pub declared_tree : (ns : Names) (around : List (List ℕ)) (k : ℕ) (is : List Idx) (ts : TermTrees)
    → term_syntax ns around (fun (declared k) is ts)
    ≡ called (spelling (is_function (declared_number k)) ns.table)
    (index_trees ns around is (term_syntaxes ns around ts))
declared_tree ns around k is ts =
    ap (λ l. function_syntax l ns around (declared k) is (term_syntaxes ns around ts))
    (word_layout k (length is) (count_terms ts))
    ∙ applied_called ns around k is (term_syntaxes ns around ts)

module _ (c : Context) (ns : Names) (actions : List Action) (same : AreNamesOf ns c)
    (plain : IsPlain c actions) (bs : List Variable) (ss : List Sort)
    (st : StandAround ns bs ss) where
  messages_are : (k j : ℕ) (ts : TermTrees) → HaveTerms c ns bs (declared k) j ts
      → AreMessages c bs (term_syntaxes ns (names_around bs) ts) ts
  messages_are k j nil h = refl
  messages_are k j (cons t ts) h = (t, (ts, (h.0.0, messages_are k (suc j) ts h.1, refl)))

  arguments_are : (k : ℕ) (is : List Idx) (ts : TermTrees) → are_indices (signature c actions) ss is
      ≡ true → HaveTerms c ns bs (declared k) 0 ts
      → AreArguments c bs (length is)
      (index_trees ns (names_around bs) is (term_syntaxes ns (names_around bs) ts)) (is, ts)
  arguments_are k [] nil e h = refl
  arguments_are k [] (cons t ts) e h = (t, (ts, (h.0.0, messages_are k 1 ts h.1, refl)))
  arguments_are k (i ∷ is) ts e h =
      let parts =
      and_parts (is_index (signature c actions) ss i)
      (are_indices (signature c actions) ss is) e in (
        i,
        (
          (is, ts),
          (
            index_is c ns actions same plain bs ss st i parts.0,
            arguments_are k is ts parts.1 h,
            refl,
          ),
        ),
      )

  called_term : (x : List ℕ) (k : ℕ) (d : FunDecl) (s : Sort) (is : List Idx) (ts : TermTrees)
      → meaning c bs x ≡ Some (head.Function (declared_number k) d.idx d.args d.result)
      → AreParts d s is ts
      → are_indices (signature c actions) ss is ≡ true → HaveTerms c ns bs (declared k) 0 ts
      → IsTerm c bs s
      (called x (index_trees ns (names_around bs) is (term_syntaxes ns (names_around bs) ts)))
      (fun (declared k) is ts)
  called_term x k d s is ts m p e h = by is ts p.indices p.arguments (arguments_are k is ts e h)
    where
      read : (want : Sort) → want ≡ d.result
          → (if is_same_sort want d.result then Some (function (kind_of (declared_number k)) d.idx)
          else None)
          ≡ Some (function (declared k) d.idx)
      read want w =
          ap (λ b. (if b then Some (function (kind_of (declared_number k)) d.idx) else None))
          (ap (λ r. is_same_sort r d.result) w ∙ sort_is_itself d.result)
          ∙ ap (λ f. Some (function f d.idx)) (kind_of-function_number (declared k))

      by : (is : List Idx) (ts : TermTrees) → length is ≡ d.idx → count_terms ts ≡ d.args
          → AreArguments c bs (length is)
          (index_trees ns (names_around bs) is (term_syntaxes ns (names_around bs) ts)) (is, ts)
          → IsTerm c bs s
          (called x
          (index_trees ns (names_around bs) is (term_syntaxes ns (names_around bs) ts)))
          (fun (declared k) is ts)
      by [] nil i n a = (
        head.Function (declared_number k) d.idx d.args d.result,
        (
          function (declared k) d.idx,
          ((m, omega arith), read s p.result, (([], nil), (refl, refl))),
        ),
      )
      by [] (cons t ts) i n a =
          let many = count_syntaxes ns (names_around bs) (cons t ts) in (
            head.Function (declared_number k) d.idx d.args d.result,
            (
              function (declared k) d.idx,
              (
                (m, omega arith),
                read s p.result,
                (
                  ([], cons t ts),
                  (
                    subst (λ j. AreArguments c bs j (term_syntaxes ns (names_around bs) (cons t ts))
                        ([], cons t ts)) i a,
                    refl,
                  ),
                ),
              ),
            ),
          )
      by (j ∷ js) ts i n a =
          let many = count_syntaxes ns (names_around bs) ts in
          let all =
          count_index_trees ns (names_around bs) (j ∷ js)
          (term_syntaxes ns (names_around bs) ts) in (
            head.Function (declared_number k) d.idx d.args d.result,
            (
              function (declared k) d.idx,
              (
                (m, omega arith),
                read s p.result,
                (
                  (j ∷ js, ts),
                  (
                    subst (λ n. AreArguments c bs n
                        (index_trees ns (names_around bs) (j ∷ js)
                        (term_syntaxes ns (names_around bs) ts))
                        (j ∷ js, ts)) i a,
                    refl,
                  ),
                ),
              ),
            ),
          )

  declared_is : (k : ℕ) (d : FunDecl) (s : Sort) (is : List Idx) (ts : TermTrees)
      → slice_get c.funs (declared_number k) ≡ Some d
      → Declares c.table (symbol.Fun (declared_number k)) → IsValue s → AreParts d s is ts
      → are_indices (signature c actions) ss is ≡ true → HaveTerms c ns bs (declared k) 0 ts
      → HasTerm c ns bs s (fun (declared k) is ts)
  declared_is k d s is ts there known v p e h =
      let around = names_around bs in
      let x = spelling (is_function (declared_number k)) ns.table in
      let f = function_means c ns actions same plain bs ss st k d there known in
      let xs = term_syntaxes ns around ts in
      let tree_is : term_syntax ns around (fun (declared k) is ts)
      ≡ called x (index_trees ns around is xs) = declared_tree ns around k is ts in
      let own : own_sort c bs (called x (index_trees ns around is xs)) ≡ s =
      called_sort c ns actions same plain bs ss st x
      (head.Function (declared_number k) d.idx d.args d.result)
      (index_trees ns around is xs) f.meaning_is ∙ sym p.result in (
        subst (λ a. IsTerm c bs s a (fun (declared k) is ts)) (sym tree_is)
            (called_term x k d s is ts f.meaning_is p e h),
        subst IsValue
            (sym (ap (own_sort c bs) tree_is ∙ own)) v,
      )

-- ---- binders

-- room for the names of so many binders more
abbrev pub Room : Names → List Variable → ℕ → Type 0
Room ns bs n = names_count ns (names_around bs) + n + 1 ≤ candidate_count

pub around_more : (bs : List Variable) (x : List ℕ) (s : Sort)
    → names_around (bs ++ (x, s) ∷ []) ≡ names_around bs ++ x ∷ []
around_more bs x s = map-append (λ v. v.0) bs ((x, s) ∷ [])

length_around : (bs : List Variable) → length (names_around bs) ≡ length bs
length_around [] = refl
length_around (b ∷ bs) = ap suc (length_around bs)

pub room_less : (ns : Names) (bs : List Variable) (m n : ℕ) → m ≤ n → Room ns bs n → Room ns bs m
room_less ns bs m n within r = omega arith

pub room_inside : (ns : Names) (bs : List Variable) (v : Variable) (n : ℕ) → Room ns bs (suc n)
    → Room ns (bs ++ v ∷ []) n
room_inside ns bs v n r =
    let a = length_around bs in
    let b = length_around (bs ++ v ∷ []) in
    let d = length-append bs (v ∷ []) in
    omega arith

pub bound_stand : (ns : Names) (bs : List Variable) (ss : List Sort) (s : Sort) (n : ℕ)
    → StandAround ns bs ss → Room ns bs (suc n)
    → StandAround ns (bs ++ (binder_name ns (names_around bs) s, s) ∷ []) (s ∷ ss)
bound_stand ns bs ss s n st r =
    one_around ns bs ss (binder_name ns (names_around bs) s) s st
    (next_fresh ns bs s (omega arith) (candidate_named s))

-- those of a find
abbrev pub found_variables : Names → List Variable → ℕ → List Variable
found_variables ns bs n = group_variables Index (bound_names ns (names_around bs) n)

replicate_more : {A : Type 0} (n : ℕ) (x : A) (xs : List A)
    → replicate n x ++ x ∷ xs ≡ x ∷ (replicate n x ++ xs)
replicate_more zero x xs = refl
replicate_more (suc n) x xs = ap (λ r. x ∷ r) (replicate_more n x xs)

pub found_stand : (ns : Names) (bs : List Variable) (ss : List Sort) (n m : ℕ)
    → StandAround ns bs ss → Room ns bs (n + m)
    → StandAround ns (bs ++ found_variables ns bs n) (replicate n Index ++ ss)
    × Room ns (bs ++ found_variables ns bs n) m
    × (names_around (bs ++ found_variables ns bs n)
    ≡ names_around bs ++ bound_names ns (names_around bs) n)
found_stand ns bs ss zero m st r =
    let none : bs ++ [] ≡ bs = append-nil bs in
    let room : Room ns bs m = omega arith in (
      subst (λ l. StandAround ns l ss) (sym none) st,
      subst (λ l. Room ns l m)
          (sym none) room,
      ap names_around none ∙ sym (append-nil (names_around bs)),
    )
found_stand ns bs ss (suc n) m st r =
    let around = names_around bs in
    let x = binder_name ns around Index in
    let next = bs ++ (x, Index) ∷ [] in
    let more_room : suc n + m ≡ suc (n + m) = omega arith in
    let st' = bound_stand ns bs ss Index (n + m) st (subst (Room ns bs) more_room r) in
    let r' = room_inside ns bs (x, Index) (n + m) (subst (Room ns bs) more_room r) in
    let inner = found_stand ns next (Index ∷ ss) n m st' r' in
    let names : bound_names ns (names_around next) n ≡ bound_names ns (around ++ x ∷ []) n =
    ap (λ a. bound_names ns a n) (around_more bs x Index) in
    let seen : next ++ found_variables ns next n ≡ bs ++ found_variables ns bs (suc n) =
    append_assoc bs ((x, Index) ∷ []) (found_variables ns next n)
    ∙ ap (λ l. bs ++ (x, Index) ∷ group_variables Index l) names in
    let sorts : replicate n Index ++ Index ∷ ss ≡ replicate (suc n) Index ++ ss =
    replicate_more n Index ss in (
      subst (λ q. StandAround ns (bs ++ found_variables ns bs (suc n)) q) sorts
          (subst (λ l. StandAround ns l (replicate n Index ++ Index ∷ ss)) seen inner.0),
      subst (λ l. Room ns l m) seen inner.1,
      ap names_around (sym seen)
          ∙ (inner.2
          ∙ ((λ i. around_more bs x Index i ++ names i)
          ∙ append_assoc around (x ∷ []) (bound_names ns (around ++ x ∷ []) n))),
    )

length_bound : (ns : Names) (around : List (List ℕ)) (n : ℕ) → length (bound_names ns around n) ≡ n
length_bound ns around zero = refl
length_bound ns around (suc n) =
    ap suc (length_bound ns (around ++ binder_name ns around Index ∷ []) n)

-- ---- all terms

-- what the sorts say of a function with its parts
pub record OfFunction (c : Context) (actions : List Action) (ss : List Sort) (f : Kind) (s : Sort)
    (is : List Idx) (ts : TermTrees) : Type 0 where
  pub d : FunDecl
  pub there : slice_get c.funs (function_number f) ≡ Some d
  pub parts : AreParts d s is ts
  pub indices : are_indices (signature c actions) ss is ≡ true
  pub sorts : have_sorts (signature c actions) ss f 0 ts ≡ true

pub of_function : (c : Context) (actions : List Action) (ss : List Sort) (f : Kind) (s : Sort)
    (is : List Idx) (ts : TermTrees) → has_sort (signature c actions) ss s (fun f is ts) ≡ true
    → OfFunction c actions ss f s is ts
of_function c actions ss f s is ts h = by (slice_get c.funs (function_number f)) refl h
  where
    g : Signature
    g = signature c actions

    by : (o : Option FunDecl) → slice_get c.funs (function_number f) ≡ o
        → (is_same_sort (result_sort o) s
        && (applies o (length is) (count_terms ts)
        && (are_indices g ss is && have_sorts g ss f 0 ts))) ≡ true
        → OfFunction c actions ss f s is ts
    by None e h =
        let a = and_parts (is_same_sort (result_sort None) s)
        (applies None (length is) (count_terms ts)
        && (are_indices g ss is && have_sorts g ss f 0 ts)) h in
        let b = and_parts (applies None (length is) (count_terms ts))
        (are_indices g ss is && have_sorts g ss f 0 ts) a.1 in
        absurd (false≢true b.0)
    by (Some d) e h =
        let a = and_parts (is_same_sort d.result s)
        (((d.idx == length is) && (d.args == count_terms ts))
        && (are_indices g ss is && have_sorts g ss f 0 ts)) h in
        let b = and_parts ((d.idx == length is) && (d.args == count_terms ts))
        (are_indices g ss is && have_sorts g ss f 0 ts) a.1 in
        let n = and_parts (d.idx == length is) (d.args == count_terms ts) b.0 in
        let p = and_parts (are_indices g ss is) (have_sorts g ss f 0 ts) b.1 in
        let idx_test = n.0 in
        let args_test = n.1 in
        record {
          d = d;
          there = e;
          parts = record {
            result = sym (same_sort_is d.result s a.0);
            indices = grind
                (arith, nat_tests);
            arguments = grind (arith, nat_tests);
          };
          indices = p.0;
          sorts = p.1;
        }

module _ (c : Context) (ns : Names) (actions : List Action) (same : AreNamesOf ns c)
    (plain : IsPlain c actions) where
  function_is : (bs : List Variable) (ss : List Sort) → StandAround ns bs ss → (f : Kind) (s : Sort)
      (is : List Idx) (ts : TermTrees) → IsValue s → HasWord c f
      → OfFunction c actions ss f s is ts → HaveTerms c ns bs f 0 ts
      → HasTerm c ns bs s (fun f is ts)
  function_is bs ss st f s is ts v =
      by_kind (λ f. HasWord c f → OfFunction c actions ss f s is ts → HaveTerms c ns bs f 0 ts
      → HasTerm c ns bs s (fun f is ts))
      (λ b word o h. builtin_is c ns bs (builtin_kind b) o.d s is ts
      (sym (plain.builtin b) ∙ o.there) (no_attacker c (builtin_kind b) word) o.parts h)
      (λ k word o h. declared_is c ns actions same plain bs ss st k o.d s is ts o.there word v
      o.parts o.indices h)
      f

  value_sort_value : (s : Sort) → IsValue (value_sort s)
  value_sort_value Message = tt
  value_sort_value Boolean = tt
  value_sort_value Index = tt
  value_sort_value Timestamp = tt

  of_times : (s : Sort) (a b d : Type 0) → s ≡ Timestamp → b → IsEquation s a b d
  of_times s a b d e h = subst (λ q. IsEquation q a b d) (sym e) h

  of_indices : (s : Sort) (a b d : Type 0) → s ≡ Index → a → IsEquation s a b d
  of_indices s a b d e h = subst (λ q. IsEquation q a b d) (sym e) h

  binds : (s : Sort) → is_binder_sort s ≡ true → (is_binder_sort s && true) ≡ true
  binds Message e = cc
  binds Boolean e = cc
  binds Index e = refl
  binds Timestamp e = refl

  -- below one binder
  under : (bs : List Variable) (b : Sort) (t : TermTree)
      → IsTerm c (bs ++ (binder_name ns (names_around bs) b, b) ∷ []) Boolean
      (term_syntax ns (names_around (bs ++ (binder_name ns (names_around bs) b, b) ∷ [])) t) t
      → IsTerm c (bs ++ (binder_name ns (names_around bs) b, b) ∷ []) Boolean
      (term_syntax ns (names_around bs ++ binder_name ns (names_around bs) b ∷ []) t) t
  under bs b t h =
      subst (λ l. IsTerm c (bs ++ (binder_name ns (names_around bs) b, b) ∷ []) Boolean
      (term_syntax ns l t) t) (around_more bs (binder_name ns (names_around bs) b) b) h

  mutual
    pub term_is : (bs : List Variable) (ss : List Sort) → StandAround ns bs ss → (s : Sort)
        → IsValue s → (t : TermTree) → Room ns bs (binders t)
        → has_sort (signature c actions) ss s t ≡ true → HasWords c t → IsWritable t
        → HasTerm c ns bs s t
    term_is bs ss st s v (name n is) r h words w =
        let a = and_parts (is_same_sort Message s)
        (has_count_at c.names n (length is) && are_indices (signature c actions) ss is) h in
        let b = and_parts (has_count_at c.names n (length is))
        (are_indices (signature c actions) ss is) a.1 in
        let m = name_means c ns actions same plain bs ss st n (length is)
        (count_at c.names n (length is) b.0) words in
        let xs = index_trees ns (names_around bs) is tree.none in
        let own =
        called_sort c ns actions same plain bs ss st (name_word ns n)
        (head.Name n (length is)) xs m.meaning_is in (
          subst (λ q. IsTerm c bs q (called (name_word ns n) xs) (name n is))
              (same_sort_is Message s a.0)
              (name_term c ns actions same plain bs ss st (name_word ns n) n is m.meaning_is b.1),
          subst IsValue (sym own) tt,
        )
    term_is bs ss st s v (fun f is ts) r h words w =
        let o = of_function c actions ss f s is ts h in
        function_is bs ss st f s is ts v words.0 o (terms_are bs ss st f 0 ts r o.sorts words.1 w)
    term_is bs ss st s v (macro m t) r h words w =
        let a = and_parts (is_same_sort (macro_sort m) s)
        (is_timestamp (signature c actions) ss t) h in
        let sort_is : s ≡ macro_sort (macro_of (macro_of_term m)) =
        sym (same_sort_is (macro_sort m) s a.0) ∙ ap macro_sort (sym (macro_same m)) in (
          (
            sort_is,
            (
              t,
              (
                time_is c ns actions same plain bs ss st t a.1 words,
                ap (λ k. macro k t)
                    (sym (macro_same m)),
              ),
            ),
          ),
          subst IsValue sort_is v,
        )
    term_is bs ss st s v (schema k) r h words w =
        let a = and_parts (is_same_sort Message s) (nat_lt k (length c.schemas)) h in
        let low = a.1 in
        let m = schema_means c ns actions same plain bs ss st k (grind (arith, nat_tests)) in
        let known = m.meaning_is in
        let own : own_sort c bs (tree.name (text_at ns.schemas k)) ≡ Message = rw known refl in (
          subst (λ q. IsTerm c bs q (tree.name (text_at ns.schemas k)) (schema k))
              (same_sort_is Message s a.0)
              (head.Schema k Message, (schema_variable k, ((m.meaning_is, refl), refl, refl))),
          subst IsValue
              (sym own) tt,
        )
    term_is bs ss st s v (diff a b) r h words w =
        let p = and_parts (has_sort (signature c actions) ss s a)
        (has_sort (signature c actions) ss s b) h in
        let x = term_is bs ss st s v a
        (room_less ns bs (binders a) (binders a + binders b) (omega arith) r) p.0 words.0 w.0 in
        let y = term_is bs ss st s v b
        (room_less ns bs (binders b) (binders a + binders b) (omega arith) r) p.1 words.1 w.1 in (
          (a, (b, (x.0, y.0, refl))),
          value_sort_value
              (own_sort c bs (term_syntax ns (names_around bs) a)),
        )
    term_is bs ss st s v (le t u) r h words w =
        let a = and_parts (is_same_sort Boolean s)
        (is_timestamp (signature c actions) ss t && is_timestamp (signature c actions) ss u) h
        in
        let b = and_parts (is_timestamp (signature c actions) ss t)
        (is_timestamp (signature c actions) ss u) a.1 in (
          (
            sym (same_sort_is Boolean s a.0),
            (
              t,
              (
                u,
                (
                  time_is c ns actions same plain bs ss st t b.0 words.0,
                  time_is c ns actions same plain bs ss st u b.1 words.1,
                  refl,
                ),
              ),
            ),
          ),
          tt,
        )
    term_is bs ss st s v (ts_eq t u) r h words w =
        let a = and_parts (is_same_sort Boolean s)
        (is_timestamp (signature c actions) ss t && is_timestamp (signature c actions) ss u) h
        in
        let b = and_parts (is_timestamp (signature c actions) ss t)
        (is_timestamp (signature c actions) ss u) a.1 in (
          (
            sym (same_sort_is Boolean s a.0),
            of_times (own_sort c bs (ts_syntax ns (names_around bs) t)) _ _ _
                (time_sort c ns actions same plain bs ss st t b.0 words.0) (
                  t,
                  (
                    u,
                    (
                      time_is c ns actions same plain bs ss st t b.0 words.0,
                      time_is c ns actions same plain bs ss st u b.1 words.1,
                      refl,
                    ),
                  ),
                ),
          ),
          tt,
        )
    term_is bs ss st s v (idx_eq i j) r h words w =
        let a = and_parts (is_same_sort Boolean s)
        (is_index (signature c actions) ss i && is_index (signature c actions) ss j) h in
        let b = and_parts (is_index (signature c actions) ss i)
        (is_index (signature c actions) ss j) a.1 in (
          (
            sym (same_sort_is Boolean s a.0),
            of_indices (own_sort c bs (tree.name (idx_text ns (names_around bs) i))) _ _ _
                (index_sort c ns actions same plain bs ss st i b.0) (
                  i,
                  (
                    j,
                    (
                      index_is c ns actions same plain bs ss st i b.0,
                      index_is c ns actions same
                          plain bs ss st j b.1,
                      refl,
                    ),
                  ),
                ),
          ),
          tt,
        )
    term_is bs ss st s v (happens t) r h words w =
        let a = and_parts (is_same_sort Boolean s) (is_timestamp (signature c actions) ss t) h in (
          (
            sym (same_sort_is Boolean s a.0),
            (t, (time_is c ns actions same plain bs ss st t a.1 words, refl)),
          ),
          tt,
        )
    term_is bs ss st s v (all b t) r h words w =
        let a = and_parts (is_same_sort Boolean s)
        (is_binder_sort b && has_sort (signature c actions) (b ∷ ss) Boolean t) h in
        let p = and_parts (is_binder_sort b)
        (has_sort (signature c actions) (b ∷ ss) Boolean t) a.1 in
        let x = binder_name ns (names_around bs) b in
        let body =
        term_is (bs ++ (x, b) ∷ []) (b ∷ ss)
        (bound_stand ns bs ss b (binders t) st r) Boolean tt t
        (room_inside ns bs (x, b) (binders t) r) p.1 words w.1 in
        ((sym (same_sort_is Boolean s a.0), binds b p.0, (t, (under bs b t body.0, refl))), tt)
    term_is bs ss st s v (some b t) r h words w =
        let a = and_parts (is_same_sort Boolean s)
        (is_binder_sort b && has_sort (signature c actions) (b ∷ ss) Boolean t) h in
        let p = and_parts (is_binder_sort b)
        (has_sort (signature c actions) (b ∷ ss) Boolean t) a.1 in
        let x = binder_name ns (names_around bs) b in
        let body =
        term_is (bs ++ (x, b) ∷ []) (b ∷ ss)
        (bound_stand ns bs ss b (binders t) st r) Boolean tt t
        (room_inside ns bs (x, b) (binders t) r) p.1 words w.1 in
        ((sym (same_sort_is Boolean s a.0), binds b p.0, (t, (under bs b t body.0, refl))), tt)
    term_is bs ss st s v (find n t u x) r h words w =
        let around = names_around bs in
        let inside = replicate n Index ++ ss in
        let below = bs ++ found_variables ns bs n in
        let a = and_parts (is_same_sort Message s)
        (has_sort (signature c actions) inside Boolean t
        && (has_sort (signature c actions) inside Message u
        && has_sort (signature c actions) ss Message x)) h in
        let b = and_parts (has_sort (signature c actions) inside Boolean t)
        (has_sort (signature c actions) inside Message u
        && has_sort (signature c actions) ss Message x) a.1 in
        let d = and_parts (has_sort (signature c actions) inside Message u)
        (has_sort (signature c actions) ss Message x) b.1 in
        let within = found_stand ns bs ss n (binders t + (binders u + binders x)) st r in
        let room_x : binders x ≤ n + (binders t + (binders u + binders x)) = omega arith in
        let test =
        term_is below inside within.0 Boolean tt t
        (room_less ns below (binders t) (binders t + (binders u + binders x))
        (omega arith) within.1) b.0 words.0 w.1 in
        let found =
        term_is below inside within.0 Message tt u
        (room_less ns below (binders u) (binders t + (binders u + binders x))
        (omega arith) within.1) d.0 words.1 w.2 in
        let other =
        term_is bs ss st Message tt x
        (room_less ns bs (binders x) (n + (binders t + (binders u + binders x))) room_x r) d.1
        words.2 w.3 in
        let test' = subst (λ l. IsTerm c below Boolean (term_syntax ns l t) t) within.2 test.0 in
        let found' =
        subst (λ l. IsTerm c below Message (term_syntax ns l u) u) within.2 found.0 in (
          (
            sym (same_sort_is Message s a.0),
            (
              t,
              (
                u,
                (
                  x,
                  (
                    test',
                    placed_term c below Message form.Term
                        (term_syntax ns (around ++ bound_names ns around n) u) u found',
                    placed_term c bs Message form.Term (term_syntax ns around x) x other.0,
                    ap (λ k. find k t u x) (sym (length_bound ns around n)),
                  ),
                ),
              ),
            ),
          ),
          tt,
        )

    terms_are : (bs : List Variable) (ss : List Sort) → StandAround ns bs ss
        → (f : Kind) (k : ℕ) (ts : TermTrees) → Room ns bs (all_binders ts)
        → have_sorts (signature c actions) ss f k ts ≡ true → HaveWords c ts → AreWritable ts
        → HaveTerms c ns bs f k ts
    terms_are bs ss st f k nil r h words w = tt
    terms_are bs ss st f k (cons t ts) r h words w =
        let p = and_parts (has_sort (signature c actions) ss (argument_sort f k) t)
        (have_sorts (signature c actions) ss f (suc k) ts) h in (
          term_is bs ss st (argument_sort f k) (argument_value f k) t
              (room_less ns bs (binders t) (binders t + all_binders ts) (omega arith) r) p.0 words.0
              w.0,
          terms_are bs ss st f (suc k) ts
              (room_less ns bs (all_binders ts) (binders t + all_binders ts) (omega arith) r) p.1
              words.1 w.1,
        )
