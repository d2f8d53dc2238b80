-- The limits of the parser and of the resolver.
use Rattle.std.proofs.Common.{◌≡◌, ◌≤◌, ◌+◌, ℕ, Bool, true, false, if◌then◌else◌, max, nat_le, List}
use Rattle.std.proofs.Common.{[], ◌∷◌, ◌++◌, length, Option, Some, None, refl, sym, ap, ◌∙◌, arith}
use Rattle.std.proofs.lemmas.List.{append-nil}
use Rattle.sq_token.specs.Sign.{Sign}
use Rattle.sq_ast.specs.declared.formula.Form.TheVariants as place
use Rattle.sq_ast.specs.declared.formula.Constant.{Constant}
use Rattle.sq_ast.specs.declared.formula.Unary.{Unary}
use Rattle.sq_ast.specs.Tree.{FormulaTree, FormulaTrees}
use Rattle.sq_ast.specs.Tree as tree
use Rattle.sq_ast.specs.Grammar.{spelled, tree_rank, IsBuilt, Is}
use Rattle.sq_ast.specs.Deep.{height, heights, IsFront, IsLongest}
use Rattle.sq_parse_term.specs.Parse.{got, parse}
use Rattle.sq_parse_term.specs.Answers.{IsFormula, HasNone, IsTooDeep}
use Rattle.sq_parse_term.specs.Answers as answers
use Rattle.sq_parse_term.proofs.Answered.{formula_is}
use Rattle.sq_parse_term.proofs.Within.{one_tree}
use Rattle.sq_term.specs.declared.term.Idx.{Idx}
use Rattle.sq_term.specs.Measure.{count_terms, ts_depth, depth, depths, indices_depth}
use Rattle.sq_term.specs.Syntax.{TsTree, free, bound, init, pred, action, TermTree, name, fun}
use Rattle.sq_term.specs.Syntax.{macro, schema, diff, le, ts_eq, idx_eq, happens, all, some, find}
use Rattle.sq_term.specs.Syntax.{TermTrees, nil, cons}
use Rattle.sq_print.specs.declared.form.Form.{Form}
use Rattle.sq_print.specs.declared.form.Form.TheVariants as form
use Rattle.sq_term.specs.declared.layout.Layout.{Layout}
use Rattle.sq_term.specs.declared.layout.Layout.TheVariants.{Infix, Pair, Conditional}
use Rattle.sq_term.specs.declared.layout.Level.{Level}
use Rattle.sq_term.specs.Symbols.{Kind}
use Rattle.sq_print.specs.Forms.{rank, left_form, right_form, layout_of}
use Rattle.sq_print.specs.Names.{Names, action_word, function_word, name_word, binder_name}
use Rattle.sq_print.specs.Names.{bound_names}
use Rattle.sq_print.proofs.Behind.{by_counts}
use Rattle.sq_printed.specs.Trees.{in_place, called, index_trees, ts_syntax, laid_tree}
use Rattle.sq_printed.specs.Trees.{constant_of, unary_of, constant_or, unary_or, applied}
use Rattle.sq_printed.specs.Trees.{function_syntax, term_syntax, term_syntaxes}
use Rattle.sq_readback.specs.Calls.{most_levels, IsOnlyFormula}
use Rattle.sq_printed.proofs.TreeTexts.{tree_rank_within, trees_count, count_is, two_trees}
use Rattle.sq_printed.proofs.TreeTexts.{three_trees}
use Rattle.sq_readback.proofs.Shallow.{parse_gets}

-- ---- the parser

pub only_formula : (t : FormulaTree) → IsBuilt t → height t ≤ most_levels
    → IsOnlyFormula (spelled t) t
only_formula t built within =
    record {
      formula = formula;
      only = λ u q g. unique u q g.longest;
      some =
          λ g. g.none t [] front;
      shallow = never;
    }
  where
    read : parse most_levels place.Formula (spelled t) ≡ got t []
    read = ap (parse most_levels place.Formula) (sym (append-nil (spelled t)))
        ∙ parse_gets most_levels place.Formula t [] (tree_rank_within t) built within tt

    formula : IsFormula (spelled t) t []
    formula = formula_is (spelled t) t [] read within

    front : IsFront place.Formula (spelled t) t []
    front = formula.longest.front

    nothing : (q : List Sign) → length q ≤ 0 → q ≡ []
    nothing [] h = refl
    nothing (s ∷ q) h = absurd (omega arith)

    unique : (u : FormulaTree) (q : List Sign) → IsLongest place.Formula (spelled t) u q
        → (u ≡ t) × (q ≡ [])
    unique u q g =
        let none : q ≡ [] = nothing q (g.longest t [] front) in
        let same : spelled t ≡ spelled u =
        g.front.split ∙ (ap (λ r. spelled u ++ r) none ∙ append-nil (spelled u)) in
        let mine : Is place.Formula t (spelled t) =
        record { form_is = tree_rank_within t; built = built; spelled_is = refl } in
        let other : Is place.Formula u (spelled t) =
        record { form_is = g.front.form_is; built = g.front.built; spelled_is = same } in
        (one_tree place.Formula u t (spelled t) other mine, none)

    never : IsTooDeep (spelled t) → ⊥
    never (answers.place h) = formula.shallow h
    never (answers.tree u q h deep) = let same : height u ≡ height t =
        ap height (unique u q h).0 in omega arith

-- ---- a term is no deeper than its syntax tree

placed_height : (at : Form) (a : FormulaTree) → height a ≤ height (in_place at a)
placed_height at a = by (nat_le (tree_rank a) (rank at))
  where
    by : (b : Bool) → height a ≤ height (if b then a else tree.group a)
    by true = omega arith
    by false = omega arith

called_height : (word : List ℕ) (xs : FormulaTrees) → height (called word xs) ≡ 1 + heights xs
called_height word tree.none = refl
called_height word (tree.more a xs) = refl

indices_height : (ns : Names) (around : List (List ℕ)) (is : List Idx) (rest : FormulaTrees)
    → max (indices_depth is) (heights rest) ≤ heights (index_trees ns around is rest)
indices_height ns around [] rest = omega arith
indices_height ns around (i ∷ is) rest = let more = indices_height ns around is rest in omega arith

ts_low : (ns : Names) (around : List (List ℕ)) (t : TsTree)
    → ts_depth t ≤ height (ts_syntax ns around t)
ts_low ns around (free k) = omega arith
ts_low ns around (bound k) = omega arith
ts_low ns around init = omega arith
ts_low ns around (pred t) = let part = ts_low ns around t in omega arith
ts_low ns around (action a is) = let parts = indices_height ns around is tree.none in let whole =
    called_height (action_word ns a) (index_trees ns around is tree.none) in omega arith

constant_height : (o : Option Constant) (word : List ℕ) → height (constant_or o word) ≡ 1
constant_height (Some c) word = refl
constant_height None word = refl

unary_height : (o : Option Unary) (word : List ℕ) (a : FormulaTree)
    → 1 + height a ≤ height (unary_or o word a)
unary_height (Some u) word a = omega arith
unary_height None word a = omega arith

applied_low : (ns : Names) (around : List (List ℕ)) (f : Kind) (is : List Idx) (xs : FormulaTrees)
    → 1 + max (indices_depth is) (heights xs) ≤ height (applied ns around f is xs)
applied_low ns around f [] tree.none = let e =
    constant_height (constant_of f) (function_word ns f) in omega arith
applied_low ns around f [] (tree.more a tree.none) = let e =
    unary_height (unary_of f) (function_word ns f) a in omega arith
applied_low ns around f [] (tree.more a (tree.more b xs)) = omega arith
applied_low ns around f (i ∷ is) xs =
    let parts = indices_height ns around (i ∷ is) xs in
    let whole = called_height (function_word ns f) (index_trees ns around (i ∷ is) xs) in
    omega arith

indices_none : (is : List Idx) → length is ≡ 0 → indices_depth is ≡ 0
indices_none [] e = refl
indices_none (i ∷ is) e = absurd (omega arith)

-- the tree of an application in a layout is higher than its indices and arguments
abbrev IsHigher : Names → List (List ℕ) → Kind → List Idx → FormulaTrees → Layout → Type 0
IsHigher ns around f is xs l =
    1 + max (indices_depth is) (heights xs) ≤ height (function_syntax l ns around f is xs)

abbrev Laid : Layout → FormulaTrees → Type 0
Laid l xs = 1 + heights xs ≤ height (laid_tree l xs)

function_low : (ns : Names) (around : List (List ℕ)) (f : Kind) (is : List Idx) (xs : FormulaTrees)
    (m : ℕ) → trees_count xs ≡ m
    → 1 + max (indices_depth is) (heights xs)
    ≤ height (function_syntax (layout_of f (length is) m) ns around f is xs)
function_low ns around f is xs m e =
    by_counts (IsHigher ns around f is xs) f (length is) m (applied_low ns around f is xs)
    (λ l i d. whole (Infix l) i (two_trees (Laid (Infix l)) (infix_low l) xs (e ∙ d)))
    (λ i d. whole Pair i (two_trees (Laid Pair) pair xs (e ∙ d)))
    (λ i d. whole Conditional i (three_trees (Laid Conditional) conditional xs (e ∙ d)))
  where
    whole : (l : Layout) → length is ≡ 0 → Laid l xs
        → 1 + max (indices_depth is) (heights xs) ≤ height (laid_tree l xs)
    whole l i h = let none = indices_none is i in omega arith

    infix_low : (l : Level) (a b : FormulaTree)
        → Laid (Infix l) (tree.more a (tree.more b tree.none))
    infix_low l a b = let x = placed_height (left_form l) a in let y =
        placed_height (right_form l) b in omega arith

    pair : (a b : FormulaTree) → Laid Pair (tree.more a (tree.more b tree.none))
    pair a b = let x = placed_height form.Term a in let y = placed_height form.Term b in omega arith

    conditional : (a b c : FormulaTree)
        → Laid Conditional (tree.more a (tree.more b (tree.more c tree.none)))
    conditional a b c =
        let x = placed_height form.Formula a in
        let y = placed_height form.Term b in
        let z = placed_height form.Term c in
        omega arith

mutual
  pub term_low : (ns : Names) (around : List (List ℕ)) (t : TermTree)
      → depth t ≤ height (term_syntax ns around t)
  term_low ns around (name n is) = let parts = indices_height ns around is tree.none in let whole =
      called_height (name_word ns n) (index_trees ns around is tree.none) in omega arith
  term_low ns around (fun f is ts) =
      let parts = terms_low ns around ts in
      let whole =
      function_low ns around f is (term_syntaxes ns around ts) (count_terms ts)
      (count_is ns around ts) in
      omega arith
  term_low ns around (macro m t) = let part = ts_low ns around t in omega arith
  term_low ns around (schema k) = omega arith
  term_low ns around (diff a b) = let x = term_low ns around a in let y =
      term_low ns around b in omega arith
  term_low ns around (le a b) = let x = ts_low ns around a in let y =
      ts_low ns around b in omega arith
  term_low ns around (ts_eq a b) = let x = ts_low ns around a in let y =
      ts_low ns around b in omega arith
  term_low ns around (idx_eq i j) = omega arith
  term_low ns around (happens t) = let part = ts_low ns around t in omega arith
  term_low ns around (all s t) = let part =
      term_low ns (around ++ binder_name ns around s ∷ []) t in omega arith
  term_low ns around (some s t) = let part =
      term_low ns (around ++ binder_name ns around s ∷ []) t in omega arith
  term_low ns around (find n t u v) =
      let inner = around ++ bound_names ns around n in
      let x = term_low ns inner t in
      let y = term_low ns inner u in
      let y' = placed_height form.Term (term_syntax ns inner u) in
      let z = term_low ns around v in
      let z' = placed_height form.Term (term_syntax ns around v) in
      omega arith

  terms_low : (ns : Names) (around : List (List ℕ)) (ts : TermTrees)
      → depths ts ≤ heights (term_syntaxes ns around ts)
  terms_low ns around nil = omega arith
  terms_low ns around (cons t ts) = let x = term_low ns around t in let y =
      terms_low ns around ts in omega arith
