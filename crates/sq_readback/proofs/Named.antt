-- All names in the syntax tree of a printed term are identifiers.
use Rattle.std.proofs.Common.{◌≡◌, ◌≢◌, ◌+◌, ℕ, zero, suc, Bool, true}
use Rattle.std.proofs.Common.{false, if◌then◌else◌, ◌&&◌, nat_le, nat_lt, List, [], ◌∷◌, ◌++◌}
use Rattle.std.proofs.Common.{length, map, replicate, Some, slice_get, refl, sym, ap, ◌∙◌, subst}
use Rattle.std.proofs.Common.{arith}
use Rattle.std.proofs.lemmas.Bool.Decides.{nat_tests}
use Rattle.sq_base.specs.declared.sort.Sort.{Sort}
use Rattle.sq_base.specs.declared.sort.Sort.TheVariants.{Message, Boolean, Index, Timestamp}
use Rattle.sq_token.specs.Kinds.{IsIdentifier}
use Rattle.sq_ast.specs.Tree.{FormulaTree, FormulaTrees}
use Rattle.sq_ast.specs.Tree as tree
use Rattle.sq_ast.specs.Grammar.{tree_rank}
use Rattle.sq_term.specs.declared.action.Action.{Action}
use Rattle.sq_term.specs.declared.signature.FunDecl.{FunDecl}
use Rattle.sq_term.specs.declared.term.Idx.{Idx}
use Rattle.sq_term.specs.declared.term.Idx.TheVariants.{Free, Bound}
use Rattle.sq_term.specs.Syntax.{TsTree, free, bound, init, pred, action, TermTree, name, fun}
use Rattle.sq_term.specs.Syntax.{macro, schema, diff, le, ts_eq, idx_eq, happens, all, some, find}
use Rattle.sq_term.specs.Syntax.{TermTrees, nil, cons}
use Rattle.sq_term.specs.Builtins.{builtin_kind}
use Rattle.sq_term.specs.Measure.{count_terms}
use Rattle.sq_term.specs.Pure.{is_binder_sort}
use Rattle.sq_term.specs.Symbols as kind
use Rattle.sq_term.specs.Symbols.{Kind, declared, declared_number, function_number}
use Rattle.sq_term.specs.TreeEquality.{is_same_sort}
use Rattle.sq_typing.specs.Functions.{plain_function, builtin_functions}
use Rattle.sq_typing.specs.Typing.{is_index, are_indices, is_timestamp, has_sort, have_sorts}
use Rattle.sq_typing.specs.Typing.{has_count_at, argument_sort}
use Rattle.std.proofs.lemmas.Bool.{and_parts}
use Rattle.sq_sym.specs.declared.symbol.Symbol.TheVariants as symbol
use Rattle.sq_print.specs.declared.form.Form.{Form}
use Rattle.sq_print.specs.declared.form.Form.TheVariants as form
use Rattle.sq_print.specs.Forms.{rank}
use Rattle.sq_print.specs.Names.{Names, is_function, spelling, name_word, action_word, binder_name}
use Rattle.sq_print.specs.Names.{bound_names}
use Rattle.sq_print.specs.Printed.{idx_text}
use Rattle.sq_resolve.specs.Scopes.{Variable, Context}
use Rattle.sq_printed.specs.Trees.{in_place, called, index_trees, ts_syntax, term_syntax}
use Rattle.sq_printed.specs.Trees.{term_syntaxes, IsWritable, AreWritable}
use Rattle.sq_printed.specs.Reads.{AreIdentifiers, IsNamed, AreNamed}
use Rattle.sq_readback.specs.Readable.{Declares, HasWord, TimeHasWords, HasWords, HaveWords}
use Rattle.sq_readback.specs.Readable.{binders, all_binders}
use Rattle.sq_readback.proofs.Standing.{AreNamesOf, signature, IsPlain, StandAround}
use Rattle.sq_readback.proofs.Around.{next_fresh}
use Rattle.sq_readback.proofs.Stems.{candidate_named}
use Rattle.sq_readback.proofs.Heads.{count_at, free_means, bound_means, schema_means, name_means}
use Rattle.sq_readback.proofs.Heads.{function_means, action_means}
use Rattle.sq_readback.proofs.Functions.{none_behind, on_none, on_one, on_two, on_three}
use Rattle.sq_readback.proofs.Whole.{by_kind, no_attacker, declared_tree, names_around, Room}
use Rattle.sq_readback.proofs.Whole.{room_less}
use Rattle.sq_readback.proofs.Whole.{room_inside, around_more, bound_stand, found_variables}
use Rattle.sq_readback.proofs.Whole.{found_stand, OfFunction, of_function}

placed_named : (at : Form) (a : FormulaTree) → IsNamed a → IsNamed (in_place at a)
placed_named at a h = by (nat_le (tree_rank a) (rank at))
  where
    by : (b : Bool) → IsNamed (if b then a else tree.group a)
    by true = h
    by false = h

called_named : (x : List ℕ) (xs : FormulaTrees) → IsIdentifier x → AreNamed xs
    → IsNamed (called x xs)
called_named x tree.none e h = e
called_named x (tree.more a xs) e h = (e, h)

-- the tree of a built-in function's term, if its arguments have trees with such names
abbrev NamedIs : Names → List (List ℕ) → Kind → List Idx → TermTrees → Type 0
NamedIs ns around f is ts =
    AreNamed (term_syntaxes ns around ts) → IsNamed (term_syntax ns around (fun f is ts))

builtin_named : (ns : Names) (around : List (List ℕ)) (f : Kind) (d : FunDecl) (is : List Idx)
    (ts : TermTrees) → slice_get builtin_functions (function_number f) ≡ Some d → f ≢ kind.attacker
    → length is ≡ d.idx → count_terms ts ≡ d.args → NamedIs ns around f is ts
builtin_named ns around kind.empty d is ts e clear i k =
    let decl : plain_function 0 Message ≡ d = cc in
    on_none (NamedIs ns around kind.empty) (λ h. tt) is ts
    (i ∙ ap (λ (x : FunDecl). x.idx) (sym decl)) (k ∙ ap (λ (x : FunDecl). x.args) (sym decl))
builtin_named ns around kind.truth d is ts e clear i k =
    let decl : plain_function 0 Boolean ≡ d = cc in
    on_none (NamedIs ns around kind.truth) (λ h. tt) is ts
    (i ∙ ap (λ (x : FunDecl). x.idx) (sym decl)) (k ∙ ap (λ (x : FunDecl). x.args) (sym decl))
builtin_named ns around kind.falsity d is ts e clear i k =
    let decl : plain_function 0 Boolean ≡ d = cc in
    on_none (NamedIs ns around kind.falsity) (λ h. tt) is ts
    (i ∙ ap (λ (x : FunDecl). x.idx) (sym decl)) (k ∙ ap (λ (x : FunDecl). x.args) (sym decl))
builtin_named ns around kind.negation d is ts e clear i k =
    let decl : plain_function 1 Boolean ≡ d = cc in
    on_one (NamedIs ns around kind.negation) (λ a h. h.0) is ts
    (i ∙ ap (λ (x : FunDecl). x.idx) (sym decl)) (k ∙ ap (λ (x : FunDecl). x.args) (sym decl))
builtin_named ns around kind.conjunction d is ts e clear i k =
    let decl : plain_function 2 Boolean ≡ d = cc in
    on_two (NamedIs ns around kind.conjunction)
    (λ a b h. (
      placed_named form.Atom (term_syntax ns around a) h.0,
      placed_named form.Conjunction
          (term_syntax ns around b) h.1.0,
    )) is ts (i ∙ ap (λ (x : FunDecl). x.idx) (sym decl))
    (k ∙ ap (λ (x : FunDecl). x.args) (sym decl))
builtin_named ns around kind.disjunction d is ts e clear i k =
    let decl : plain_function 2 Boolean ≡ d = cc in
    on_two (NamedIs ns around kind.disjunction)
    (λ a b h. (
      placed_named form.Conjunction (term_syntax ns around a) h.0,
      placed_named form.Disjunction
          (term_syntax ns around b) h.1.0,
    )) is ts (i ∙ ap (λ (x : FunDecl). x.idx) (sym decl))
    (k ∙ ap (λ (x : FunDecl). x.args) (sym decl))
builtin_named ns around kind.implication d is ts e clear i k =
    let decl : plain_function 2 Boolean ≡ d = cc in
    on_two (NamedIs ns around kind.implication)
    (λ a b h. (
      placed_named form.Disjunction (term_syntax ns around a) h.0,
      placed_named form.Formula
          (term_syntax ns around b) h.1.0,
    )) is ts (i ∙ ap (λ (x : FunDecl). x.idx) (sym decl))
    (k ∙ ap (λ (x : FunDecl). x.args) (sym decl))
builtin_named ns around kind.equality d is ts e clear i k =
    let decl : plain_function 2 Boolean ≡ d = cc in
    on_two (NamedIs ns around kind.equality)
    (λ a b h. (
      placed_named form.Term (term_syntax ns around a) h.0,
      placed_named form.Term
          (term_syntax ns around b) h.1.0,
    )) is ts (i ∙ ap (λ (x : FunDecl). x.idx) (sym decl))
    (k ∙ ap (λ (x : FunDecl). x.args) (sym decl))
builtin_named ns around kind.conditional d is ts e clear i k =
    let decl : plain_function 3 Message ≡ d = cc in
    on_three (NamedIs ns around kind.conditional)
    (λ a b g h. (
      placed_named form.Formula (term_syntax ns around a) h.0,
      placed_named form.Term
          (term_syntax ns around b) h.1.0,
      placed_named form.Term (term_syntax ns around g) h.1.1.0,
    ))
    is ts (i ∙ ap (λ (x : FunDecl). x.idx) (sym decl))
    (k ∙ ap (λ (x : FunDecl). x.args) (sym decl))
builtin_named ns around kind.pairing d is ts e clear i k =
    let decl : plain_function 2 Message ≡ d = cc in
    on_two (NamedIs ns around kind.pairing)
    (λ a b h. (
      placed_named form.Term (term_syntax ns around a) h.0,
      placed_named form.Term
          (term_syntax ns around b) h.1.0,
    )) is ts (i ∙ ap (λ (x : FunDecl). x.idx) (sym decl))
    (k ∙ ap (λ (x : FunDecl). x.args) (sym decl))
builtin_named ns around kind.first d is ts e clear i k =
    let decl : plain_function 1 Message ≡ d = cc in
    on_one (NamedIs ns around kind.first) (λ a h. h.0) is ts
    (i ∙ ap (λ (x : FunDecl). x.idx) (sym decl)) (k ∙ ap (λ (x : FunDecl). x.args) (sym decl))
builtin_named ns around kind.second d is ts e clear i k =
    let decl : plain_function 1 Message ≡ d = cc in
    on_one (NamedIs ns around kind.second) (λ a h. h.0) is ts
    (i ∙ ap (λ (x : FunDecl). x.idx) (sym decl)) (k ∙ ap (λ (x : FunDecl). x.args) (sym decl))
builtin_named ns around kind.of_bool d is ts e clear i k =
    let decl : plain_function 1 Message ≡ d = cc in
    on_one (NamedIs ns around kind.of_bool) (λ a h. h.0) is ts
    (i ∙ ap (λ (x : FunDecl). x.idx) (sym decl)) (k ∙ ap (λ (x : FunDecl). x.args) (sym decl))
builtin_named ns around kind.attacker d is ts e clear i k = absurd (clear refl)
builtin_named ns around (declared n) d is ts e clear i k = absurd (none_behind n e)

module _ (c : Context) (ns : Names) (actions : List Action) (same : AreNamesOf ns c)
    (plain : IsPlain c actions) where
  module _ (bs : List Variable) (ss : List Sort) (st : StandAround ns bs ss) where
    index_named : (i : Idx) → is_index (signature c actions) ss i ≡ true
        → IsIdentifier (idx_text ns (names_around bs) i)
    index_named (Free k) e = (free_means c ns actions same plain bs ss st k Index e).identifier
    index_named (Bound k) e = (bound_means c ns actions same plain bs ss st k Index e).identifier

    indices_named : (is : List Idx) (xs : FormulaTrees) → are_indices (signature c actions) ss is
        ≡ true → AreNamed xs → AreNamed (index_trees ns (names_around bs) is xs)
    indices_named [] xs e h = h
    indices_named (i ∷ is) xs e h =
        let parts =
        and_parts (is_index (signature c actions) ss i)
        (are_indices (signature c actions) ss is) e in
        (index_named i parts.0, indices_named is xs parts.1 h)

    time_named : (t : TsTree) → is_timestamp (signature c actions) ss t ≡ true → TimeHasWords c t
        → IsNamed (ts_syntax ns (names_around bs) t)
    time_named (free k) e w = (free_means c ns actions same plain bs ss st k Timestamp e).identifier
    time_named (bound k) e w =
        (bound_means c ns actions same plain bs ss st k Timestamp e).identifier
    time_named init e w = tt
    time_named (pred t) e w = time_named t e w
    time_named (action a is) e w =
        let parts =
        and_parts (has_count_at (map (λ x. x.arity) actions) a (length is))
        (are_indices (signature c actions) ss is) e in
        let word =
        (action_means c ns actions same plain bs ss st a (length is) parts.0 w).identifier in
        called_named (action_word ns a) (index_trees ns (names_around bs) is tree.none) word
        (indices_named is tree.none parts.1 tt)

    declared_named : (k : ℕ) (d : FunDecl) (is : List Idx) (ts : TermTrees)
        → slice_get c.funs (declared_number k) ≡ Some d
        → Declares c.table (symbol.Fun (declared_number k))
        → are_indices (signature c actions) ss is ≡ true
        → NamedIs ns (names_around bs) (declared k) is ts
    declared_named k d is ts there known e h =
        let around = names_around bs in
        let xs = term_syntaxes ns around ts in
        let x = spelling (is_function (declared_number k)) ns.table in
        let word = (function_means c ns actions same plain bs ss st k d there known).identifier in
        let tree_is : term_syntax ns around (fun (declared k) is ts)
        ≡ called x (index_trees ns around is xs) =
        declared_tree ns around k is ts in
        subst IsNamed (sym tree_is)
        (called_named x (index_trees ns around is xs) word (indices_named is xs e h))

    function_named : (f : Kind) (s : Sort) (is : List Idx) (ts : TermTrees) → HasWord c f
        → OfFunction c actions ss f s is ts → NamedIs ns (names_around bs) f is ts
    function_named f s is ts words o =
        by_kind (λ f. HasWord c f → OfFunction c actions ss f s is ts
        → NamedIs ns (names_around bs) f is ts)
        (λ b word o. builtin_named ns (names_around bs) (builtin_kind b) o.d is ts
        (sym (plain.builtin b) ∙ o.there) (no_attacker c (builtin_kind b) word) o.parts.indices
        o.parts.arguments)
        (λ k word o. declared_named k o.d is ts o.there word o.indices)
        f words o

  names_named : (bs : List Variable) (n m : ℕ) → Room ns bs (n + m)
      → AreIdentifiers (bound_names ns (names_around bs) n)
  names_named bs zero m r = tt
  names_named bs (suc n) m r =
      let x = binder_name ns (names_around bs) Index in
      let more_room : suc n + m ≡ suc (n + m) = omega arith in
      let r' = subst (Room ns bs) more_room r in
      let fresh = next_fresh ns bs Index (omega arith) (candidate_named Index) in
      let rest =
      names_named (bs ++ (x, Index) ∷ []) n m (room_inside ns bs (x, Index) (n + m) r') in (
        fresh.identifier,
        subst (λ a. AreIdentifiers (bound_names ns a n))
            (around_more bs x Index) rest,
      )

  binder_named : (bs : List Variable) (b : Sort) (n : ℕ) → Room ns bs (suc n)
      → IsIdentifier (binder_name ns (names_around bs) b)
  binder_named bs b n r = let fresh = next_fresh ns bs b (omega arith) (candidate_named b) in
      fresh.identifier

  under_named : (bs : List Variable) (b : Sort) (t : TermTree)
      → IsNamed
      (term_syntax ns (names_around (bs ++ (binder_name ns (names_around bs) b, b) ∷ [])) t)
      → IsNamed (term_syntax ns (names_around bs ++ binder_name ns (names_around bs) b ∷ []) t)
  under_named bs b t h =
      subst (λ l. IsNamed (term_syntax ns l t))
      (around_more bs (binder_name ns (names_around bs) b) b) h

  mutual
    pub named : (bs : List Variable) (ss : List Sort) → StandAround ns bs ss
        → (s : Sort) (t : TermTree) → Room ns bs (binders t)
        → has_sort (signature c actions) ss s t ≡ true → HasWords c t → IsWritable t
        → IsNamed (term_syntax ns (names_around bs) t)
    named bs ss st s (name n is) r h words w =
        let a = and_parts (is_same_sort Message s)
        (has_count_at c.names n (length is) && are_indices (signature c actions) ss is) h in
        let b = and_parts (has_count_at c.names n (length is))
        (are_indices (signature c actions) ss is) a.1 in
        let word =
        (name_means c ns actions same plain bs ss st n (length is)
        (count_at c.names n (length is) b.0) words).identifier in
        called_named (name_word ns n) (index_trees ns (names_around bs) is tree.none) word
        (indices_named bs ss st is tree.none b.1 tt)
    named bs ss st s (fun f is ts) r h words w =
        let o = of_function c actions ss f s is ts h in
        function_named bs ss st f s is ts words.0 o (all_named bs ss st f 0 ts r o.sorts words.1 w)
    named bs ss st s (macro m t) r h words w =
        time_named bs ss st t (and_parts _ (is_timestamp (signature c actions) ss t) h).1 words
    named bs ss st s (schema k) r h words w =
        let low = (and_parts (is_same_sort Message s) (nat_lt k (length c.schemas)) h).1 in
        (schema_means c ns actions same plain bs ss st k (grind (arith, nat_tests))).identifier
    named bs ss st s (diff a b) r h words w =
        let p = and_parts (has_sort (signature c actions) ss s a)
        (has_sort (signature c actions) ss s b) h in (
          named bs ss st s a
              (room_less ns bs (binders a) (binders a + binders b) (omega arith) r) p.0 words.0 w.0,
          named bs ss st s b
              (room_less ns bs (binders b) (binders a + binders b) (omega arith) r) p.1 words.1 w.1,
        )
    named bs ss st s (le t u) r h words w =
        let b = and_parts (is_timestamp (signature c actions) ss t)
        (is_timestamp (signature c actions) ss u) (and_parts (is_same_sort Boolean s) _ h).1 in
        (time_named bs ss st t b.0 words.0, time_named bs ss st u b.1 words.1)
    named bs ss st s (ts_eq t u) r h words w =
        let b = and_parts (is_timestamp (signature c actions) ss t)
        (is_timestamp (signature c actions) ss u) (and_parts (is_same_sort Boolean s) _ h).1 in
        (time_named bs ss st t b.0 words.0, time_named bs ss st u b.1 words.1)
    named bs ss st s (idx_eq i j) r h words w =
        let b = and_parts (is_index (signature c actions) ss i)
        (is_index (signature c actions) ss j) (and_parts (is_same_sort Boolean s) _ h).1 in
        (index_named bs ss st i b.0, index_named bs ss st j b.1)
    named bs ss st s (happens t) r h words w =
        time_named bs ss st t
        (and_parts (is_same_sort Boolean s) (is_timestamp (signature c actions) ss t) h).1 words
    named bs ss st s (all b t) r h words w =
        let p = and_parts (is_binder_sort b) (has_sort (signature c actions) (b ∷ ss) Boolean t)
        (and_parts (is_same_sort Boolean s) _ h).1 in
        let x = binder_name ns (names_around bs) b in
        let body =
        named (bs ++ (x, b) ∷ []) (b ∷ ss) (bound_stand ns bs ss b (binders t) st r) Boolean t
        (room_inside ns bs (x, b) (binders t) r) p.1 words w.1 in
        (((binder_named bs b (binders t) r, tt), tt), under_named bs b t body)
    named bs ss st s (some b t) r h words w =
        let p = and_parts (is_binder_sort b) (has_sort (signature c actions) (b ∷ ss) Boolean t)
        (and_parts (is_same_sort Boolean s) _ h).1 in
        let x = binder_name ns (names_around bs) b in
        let body =
        named (bs ++ (x, b) ∷ []) (b ∷ ss) (bound_stand ns bs ss b (binders t) st r) Boolean t
        (room_inside ns bs (x, b) (binders t) r) p.1 words w.1 in
        (((binder_named bs b (binders t) r, tt), tt), under_named bs b t body)
    named bs ss st s (find n t u x) r h words w =
        let inside = replicate n Index ++ ss in
        let below = bs ++ found_variables ns bs n in
        let around = names_around bs ++ bound_names ns (names_around bs) n in
        let b = and_parts (has_sort (signature c actions) inside Boolean t)
        (has_sort (signature c actions) inside Message u
        && has_sort (signature c actions) ss Message x)
        (and_parts (is_same_sort Message s) _ h).1 in
        let d = and_parts (has_sort (signature c actions) inside Message u)
        (has_sort (signature c actions) ss Message x) b.1 in
        let m = binders t + (binders u + binders x) in
        let within = found_stand ns bs ss n m st r in
        let test =
        named below inside within.0 Boolean t
        (room_less ns below (binders t) m (omega arith) within.1) b.0 words.0 w.1 in
        let found =
        named below inside within.0 Message u
        (room_less ns below (binders u) m (omega arith) within.1) d.0 words.1 w.2 in
        let other =
        named bs ss st Message x
        (room_less ns bs (binders x) (n + m) (omega arith) r) d.1 words.2 w.3 in (
          names_named bs n m r,
          subst (λ l. IsNamed (term_syntax ns l t)) within.2 test,
          placed_named form.Term (term_syntax ns around u)
              (subst (λ l. IsNamed (term_syntax ns l u)) within.2 found),
          placed_named form.Term (term_syntax ns (names_around bs) x) other,
        )

    all_named : (bs : List Variable) (ss : List Sort) → StandAround ns bs ss
        → (f : Kind) (k : ℕ) (ts : TermTrees) → Room ns bs (all_binders ts)
        → have_sorts (signature c actions) ss f k ts ≡ true → HaveWords c ts → AreWritable ts
        → AreNamed (term_syntaxes ns (names_around bs) ts)
    all_named bs ss st f k nil r h words w = tt
    all_named bs ss st f k (cons t ts) r h words w =
        let p = and_parts (has_sort (signature c actions) ss (argument_sort f k) t)
        (have_sorts (signature c actions) ss f (suc k) ts) h in (
          named bs ss st (argument_sort f k) t
              (room_less ns bs (binders t) (binders t + all_binders ts) (omega arith) r) p.0 words.0
              w.0,
          all_named bs ss st f (suc k) ts
              (room_less ns bs (all_binders ts) (binders t + all_binders ts) (omega arith) r) p.1
              words.1 w.1,
        )
