-- The syntax tree of a printed term has the term as its term.
use Rattle.std.proofs.Common.{◌≡◌, ◌+◌, ℕ, Bool, true, false, if◌then◌else◌, nat_le, List, [], ◌∷◌}
use Rattle.std.proofs.Common.{length}
use Rattle.std.proofs.Common.{map, Some, refl, sym, arith}
use Rattle.sq_base.specs.declared.sort.Sort.{Sort}
use Rattle.sq_base.specs.declared.sort.Sort.TheVariants.{Message, Index, Timestamp}
use Rattle.sq_ast.specs.Tree.{FormulaTree, FormulaTrees}
use Rattle.sq_ast.specs.Tree as tree
use Rattle.sq_ast.specs.Grammar.{tree_rank}
use Rattle.sq_term.specs.declared.action.Action.{Action}
use Rattle.sq_term.specs.declared.term.Idx.{Idx}
use Rattle.sq_term.specs.declared.term.Macro.{Macro}
use Rattle.sq_term.specs.declared.term.Macro.TheVariants as macro_word
use Rattle.sq_term.specs.declared.term.Idx.TheVariants.{Free, Bound}
use Rattle.sq_term.specs.Syntax.{TsTree, free, bound, init, pred, action, TermTree, name}
use Rattle.sq_typing.specs.Typing.{is_index, are_indices, is_timestamp, has_count_at}
use Rattle.std.proofs.lemmas.Bool.{and_parts}
use Rattle.sq_print.specs.declared.form.Form.{Form}
use Rattle.sq_print.specs.Forms.{rank}
use Rattle.sq_print.specs.Names.{Names, action_word}
use Rattle.sq_print.specs.Printed.{idx_text}
use Rattle.sq_resolve.specs.declared.head.Head.{Head}
use Rattle.sq_resolve.specs.declared.head.Head.TheVariants as head
use Rattle.sq_resolve.specs.Scopes.{Variable, Context, meaning, head_sort}
use Rattle.sq_resolve.specs.Resolved.{own_sort, count_trees, moment, instance, name_symbol}
use Rattle.sq_resolve.specs.Resolved.{macro_of}
use Rattle.sq_resolve.specs.Typed.{IsIndex, AreIndices, IsTime, IsTerm}
use Rattle.sq_printed.specs.Trees.{in_place, called, index_trees, ts_syntax, macro_of_term}
use Rattle.sq_readback.specs.Readable.{TimeHasWords}
use Rattle.sq_readback.proofs.Standing.{AreNamesOf, signature, IsPlain, StandAround}
use Rattle.sq_readback.proofs.Heads.{free_means, bound_means, action_means}

-- parentheses change neither the term nor the sort of a tree
pub placed_term : (c : Context) (bs : List Variable) (s : Sort) (at : Form) (a : FormulaTree)
    (u : TermTree) → IsTerm c bs s a u → IsTerm c bs s (in_place at a) u
placed_term c bs s at a u h = by (nat_le (tree_rank a) (rank at))
  where
    by : (b : Bool) → IsTerm c bs s (if b then a else tree.group a) u
    by true = h
    by false = h

pub placed_sort : (c : Context) (bs : List Variable) (at : Form) (a : FormulaTree)
    → own_sort c bs (in_place at a) ≡ own_sort c bs a
placed_sort c bs at a = by (nat_le (tree_rank a) (rank at))
  where
    by : (b : Bool) → own_sort c bs (if b then a else tree.group a) ≡ own_sort c bs a
    by true = refl
    by false = refl

pub macro_same : (m : Macro) → macro_of (macro_of_term m) ≡ m
macro_same macro_word.Input = refl
macro_same macro_word.Output = refl
macro_same macro_word.Cond = refl
macro_same macro_word.Exec = refl
macro_same macro_word.Frame = refl

pub count_index_trees : (ns : Names) (around : List (List ℕ)) (is : List Idx) (xs : FormulaTrees)
    → count_trees (index_trees ns around is xs) ≡ length is + count_trees xs
count_index_trees ns around [] xs = omega arith
count_index_trees ns around (i ∷ is) xs = let rest =
    count_index_trees ns around is xs in omega arith

module _ (c : Context) (ns : Names) (actions : List Action) (same : AreNamesOf ns c)
    (plain : IsPlain c actions) where
  -- ---- indices and timestamps

  module _ (bs : List Variable) (ss : List Sort) (st : StandAround ns bs ss) where
    pub index_is : (i : Idx) → is_index (signature c actions) ss i ≡ true
        → IsIndex c bs (tree.name (idx_text ns (map (λ v. v.0) bs) i)) i
    index_is (Free k) e = let m = free_means c ns actions same plain bs ss st k Index e in
        (head.Free k Index, ((m.meaning_is, refl), refl))
    index_is (Bound k) e = let m = bound_means c ns actions same plain bs ss st k Index e in
        (head.Bound k Index, ((m.meaning_is, refl), refl))

    pub index_sort : (i : Idx) → is_index (signature c actions) ss i ≡ true
        → own_sort c bs (tree.name (idx_text ns (map (λ v. v.0) bs) i)) ≡ Index
    index_sort (Free k) e = let m = free_means c ns actions same plain bs ss st k Index e in
        let known = m.meaning_is in rw known refl
    index_sort (Bound k) e = let m = bound_means c ns actions same plain bs ss st k Index e in
        let known = m.meaning_is in rw known refl

    pub indices_are : (is : List Idx) → are_indices (signature c actions) ss is ≡ true
        → AreIndices c bs (index_trees ns (map (λ v. v.0) bs) is tree.none) is
    indices_are [] e = refl
    indices_are (i ∷ is) e =
        let parts =
        and_parts (is_index (signature c actions) ss i)
        (are_indices (signature c actions) ss is) e in
        (i, (is, (index_is i parts.0, indices_are is parts.1, refl)))

    action_time : (x : List ℕ) (a : ℕ) (is : List Idx)
        → meaning c bs x ≡ Some (head.Action a (length is))
        → are_indices (signature c actions) ss is ≡ true
        → IsTime c bs (called x (index_trees ns (map (λ v. v.0) bs) is tree.none)) (action a is)
    action_time x a [] m e = (head.Action a 0, (instance a, ((m, refl), refl, ([], (refl, refl)))))
    action_time x a (i ∷ is) m e =
        let many = sym (count_index_trees ns (map (λ v. v.0) bs) (i ∷ is) tree.none) in
        let arity : length (i ∷ is)
        ≡ count_trees (index_trees ns (map (λ v. v.0) bs) (i ∷ is) tree.none) =
        omega (arith, many) in (
          head.Action a (length (i ∷ is)),
          (instance a, ((m, arity), refl, (i ∷ is, (indices_are (i ∷ is) e, refl)))),
        )

    pub time_is : (t : TsTree) → is_timestamp (signature c actions) ss t ≡ true → TimeHasWords c t
        → IsTime c bs (ts_syntax ns (map (λ v. v.0) bs) t) t
    time_is (free k) e w = let m = free_means c ns actions same plain bs ss st k Timestamp e in
        (head.Free k Timestamp, (moment (free k), ((m.meaning_is, refl), refl, refl)))
    time_is (bound k) e w = let m = bound_means c ns actions same plain bs ss st k Timestamp e in
        (head.Bound k Timestamp, (moment (bound k), ((m.meaning_is, refl), refl, refl)))
    time_is init e w = refl
    time_is (pred t) e w = (t, (time_is t e w, refl))
    time_is (action a is) e w =
        let parts =
        and_parts (has_count_at (map (λ x. x.arity) actions) a (length is))
        (are_indices (signature c actions) ss is) e in
        let m = action_means c ns actions same plain bs ss st a (length is) parts.0 w in
        action_time (action_word ns a) a is m.meaning_is parts.1

    pub called_sort : (x : List ℕ) (h : Head) (xs : FormulaTrees) → meaning c bs x ≡ Some h
        → own_sort c bs (called x xs) ≡ head_sort h
    called_sort x h tree.none m = rw m refl
    called_sort x h (tree.more a xs) m = rw m refl

    pub time_sort : (t : TsTree) → is_timestamp (signature c actions) ss t ≡ true → TimeHasWords c t
        → own_sort c bs (ts_syntax ns (map (λ v. v.0) bs) t) ≡ Timestamp
    time_sort (free k) e w = let m = free_means c ns actions same plain bs ss st k Timestamp e in
        let known = m.meaning_is in rw known refl
    time_sort (bound k) e w = let m = bound_means c ns actions same plain bs ss st k Timestamp e in
        let known = m.meaning_is in rw known refl
    time_sort init e w = refl
    time_sort (pred t) e w = refl
    time_sort (action a is) e w =
        let parts =
        and_parts (has_count_at (map (λ x. x.arity) actions) a (length is))
        (are_indices (signature c actions) ss is) e in
        let m = action_means c ns actions same plain bs ss st a (length is) parts.0 w in
        called_sort (action_word ns a) (head.Action a (length is))
        (index_trees ns (map (λ v. v.0) bs) is tree.none) m.meaning_is

    pub name_term : (x : List ℕ) (n : ℕ) (is : List Idx)
        → meaning c bs x ≡ Some (head.Name n (length is)) → are_indices (signature c actions) ss is
        ≡ true
        → IsTerm c bs Message (called x (index_trees ns (map (λ v. v.0) bs) is tree.none))
        (name n is)
    name_term x n [] m e = (head.Name n 0, (name_symbol n, ((m, refl), refl, ([], (refl, refl)))))
    name_term x n (i ∷ is) m e =
        let many = sym (count_index_trees ns (map (λ v. v.0) bs) (i ∷ is) tree.none) in
        let arity : length (i ∷ is)
        ≡ count_trees (index_trees ns (map (λ v. v.0) bs) (i ∷ is) tree.none) =
        omega (arith, many) in (
          head.Name n (length (i ∷ is)),
          (name_symbol n, ((m, arity), refl, (i ∷ is, (indices_are (i ∷ is) e, refl)))),
        )
