-- What is printed is the text of a syntax tree of the grammar.
use Rattle.std.proofs.Common.{◌≡◌, ◌≢◌, ◌≤◌, ◌<◌, ℕ, zero, suc, Bool, true, false}
use Rattle.std.proofs.Common.{if◌then◌else◌, nat_le, List, [], ◌∷◌, ◌++◌, Option, Some, None}
use Rattle.std.proofs.Common.{length}
use Rattle.std.proofs.Common.{map, codes, append_assoc, append-nil, refl, sym, ap, ◌∙◌}
use Rattle.std.proofs.Common.{arith}
use Rattle.std.proofs.lemmas.Bool.Decides.{nat_tests}
use Rattle.std.specs.Prelude.{⊤}
use Rattle.sq_base.specs.declared.sort.Sort.{Sort}
use Rattle.sq_base.specs.declared.sort.Sort.TheVariants as sort
use Rattle.sq_token.specs.Kinds.{reserved_text, punctuation_text}
use Rattle.sq_ast.specs.declared.formula.Form.TheVariants as place
use Rattle.sq_ast.specs.declared.formula.Binary.{Binary}
use Rattle.sq_ast.specs.declared.formula.Binary.TheVariants as binary
use Rattle.sq_ast.specs.declared.formula.Constant.{Constant}
use Rattle.sq_ast.specs.declared.formula.Unary.{Unary}
use Rattle.sq_ast.specs.Tree.{FormulaTree, FormulaTrees}
use Rattle.sq_ast.specs.Tree as tree
use Rattle.sq_ast.specs.Grammar.{sort_word, binary_mark, tree_rank, IsFilled, IsBinderSort}
use Rattle.sq_ast.specs.Grammar.{AreNames, IsTime, IsBuilt, AreBuilt, Is, spelled}
use Rattle.sq_ast.specs.Grammar as grammar
use Rattle.sq_term.specs.declared.term.Idx.{Idx}
use Rattle.sq_term.specs.declared.term.Macro.{Macro}
use Rattle.sq_term.specs.declared.term.Macro.TheVariants as macro_of
use Rattle.sq_term.specs.Syntax.{TsTree, free, bound, init, pred, action, TermTree, name, fun}
use Rattle.sq_term.specs.Syntax.{macro, schema, diff, le, ts_eq, idx_eq, happens, all, some, find}
use Rattle.sq_term.specs.Syntax.{TermTrees, nil, cons}
use Rattle.sq_print.specs.declared.form.Form.{Form}
use Rattle.sq_print.specs.declared.form.Form.TheVariants as form
use Rattle.sq_term.specs.declared.layout.Layout.{Layout}
use Rattle.sq_term.specs.declared.layout.Layout.TheVariants.{Word, Infix, Pair, Conditional}
use Rattle.sq_term.specs.declared.layout.Level.{Level}
use Rattle.sq_term.specs.declared.layout.Level.TheVariants as level
use Rattle.sq_term.specs.Builtins.{sign}
use Rattle.sq_term.specs.Measure.{count_terms}
use Rattle.sq_term.specs.Symbols as kind
use Rattle.sq_term.specs.Symbols.{Kind, declared}
use Rattle.sq_print.specs.Forms.{rank, fits, level_form, left_form, right_form, layout_of}
use Rattle.sq_print.specs.Forms.{layout_form, form_of}
use Rattle.sq_print.specs.Names.{Names, name_word, action_word, function_word, binder_name}
use Rattle.sq_print.specs.Names.{bound_names}
use Rattle.sq_print.specs.Printed.{sort_text, macro_text, joined, call, placed, laid, by_layout}
use Rattle.sq_print.specs.Printed.{idx_text, idx_texts, ts_text, quantified, term_text, part_texts}
use Rattle.sq_printed.specs.Trees.{text_of, texts_of, in_place, called, index_trees, ts_syntax}
use Rattle.sq_printed.specs.Trees.{macro_of_term, operator, laid_tree, constant_of, unary_of}
use Rattle.sq_printed.specs.Trees.{constant_or, unary_or, applied, function_syntax, term_syntax}
use Rattle.sq_printed.specs.Trees.{term_syntaxes, IsWritable, AreWritable}
use Rattle.sq_print.proofs.Behind.{by_counts, count_parts}

-- ---- texts

index_texts : (ns : Names) (around : List (List ℕ)) (is : List Idx) (rest : FormulaTrees)
    → texts_of (index_trees ns around is rest) ≡ idx_texts ns around is ++ texts_of rest
index_texts ns around [] rest = refl
index_texts ns around (i ∷ is) rest =
    ap (λ r. idx_text ns around i ∷ r) (index_texts ns around is rest)

called_text : (word : List ℕ) (xs : FormulaTrees)
    → text_of (called word xs) ≡ call word (texts_of xs)
called_text word tree.none = refl
called_text word (tree.more a xs) = refl

indices_text : (ns : Names) (around : List (List ℕ)) (word : List ℕ) (is : List Idx)
    → text_of (called word (index_trees ns around is tree.none))
    ≡ call word (idx_texts ns around is)
indices_text ns around word is = called_text word (index_trees ns around is tree.none)
    ∙ ap (call word) (index_texts ns around is tree.none ∙ append-nil (idx_texts ns around is))

ts_text_is : (ns : Names) (around : List (List ℕ)) (t : TsTree)
    → text_of (ts_syntax ns around t) ≡ ts_text ns around t
ts_text_is ns around (free k) = refl
ts_text_is ns around (bound k) = refl
ts_text_is ns around init = refl
ts_text_is ns around (pred t) = ap (λ r. codes "pred(" ++ (r ++ codes ")")) (ts_text_is ns around t)
ts_text_is ns around (action a is) = indices_text ns around (action_word ns a) is

sort_text_is : (s : Sort) → reserved_text (sort_word s) ≡ sort_text s
sort_text_is sort.Message = refl
sort_text_is sort.Boolean = refl
sort_text_is sort.Index = refl
sort_text_is sort.Timestamp = refl

macro_text_is : (m : Macro) → reserved_text (grammar.macro_word (macro_of_term m)) ≡ macro_text m
macro_text_is macro_of.Input = refl
macro_text_is macro_of.Output = refl
macro_text_is macro_of.Cond = refl
macro_text_is macro_of.Exec = refl
macro_text_is macro_of.Frame = refl

quantified_text : (word x : List ℕ) (s : Sort) (a b : List ℕ) → a ≡ b
    → word ++
    (codes " (" ++ ((x ++ (codes ":" ++ reserved_text (sort_word s))) ++ (codes "), " ++ a)))
    ≡ quantified word x s b
quantified_text word x s a b e =
    (λ i. word ++ (codes " (" ++ ((x ++ (codes ":" ++ sort_text_is s i)) ++ (codes "), " ++ e i))))
    ∙ ap (λ r. word ++ (codes " (" ++ r)) (simp append_assoc)

-- the forms and texts of trees
abbrev Parts : FormulaTrees → List (Form × List ℕ) → Type 0
Parts tree.none [] = ⊤
Parts tree.none (p ∷ ps) = ⊥
Parts (tree.more a xs) [] = ⊥
Parts (tree.more a xs) (p ∷ ps) = (tree_rank a ≡ rank p.0) × (text_of a ≡ p.1) × Parts xs ps

parts_texts : (xs : FormulaTrees) (ps : List (Form × List ℕ)) → Parts xs ps
    → texts_of xs ≡ map (λ p. p.1) ps
parts_texts tree.none [] h = refl
parts_texts tree.none (p ∷ ps) h = absurd h
parts_texts (tree.more a xs) [] h = absurd h
parts_texts (tree.more a xs) (p ∷ ps) h = let rest = parts_texts xs ps h.2 in λ i. h.1 i ∷ rest i

placed_text : (at : Form) (a : FormulaTree) (p : Form × List ℕ) → tree_rank a ≡ rank p.0
    → text_of a ≡ p.1 → text_of (in_place at a) ≡ placed at p
placed_text at a p r t = on (nat_le (tree_rank a) (rank at)) refl
  where
    on : (b : Bool) → nat_le (tree_rank a) (rank at) ≡ b
        → text_of (if b then a else tree.group a) ≡ placed at p
    on true e = let same : fits p.0 at ≡ true = ap (λ n. nat_le n (rank at)) (sym r) ∙ e in t
        ∙ sym (ap (λ b. (if b then p.1 else (codes "(" ++ (p.1 ++ codes ")")))) same)
    on false e = let same : fits p.0 at ≡ false = ap (λ n. nat_le n (rank at)) (sym r) ∙ e in
        ap (λ x. codes "(" ++ (x ++ codes ")")) t
        ∙ sym (ap (λ b. (if b then p.1 else (codes "(" ++ (p.1 ++ codes ")")))) same)

-- parts of two trees, and of three
two_parts : (P : FormulaTrees → List (Form × List ℕ) → Type 0)
    → ((a b : FormulaTree) (p q : Form × List ℕ)
    → Parts (tree.more a (tree.more b tree.none)) (p ∷ q ∷ [])
    → P (tree.more a (tree.more b tree.none)) (p ∷ q ∷ []))
    → (xs : FormulaTrees) (ps : List (Form × List ℕ)) → Parts xs ps → length ps ≡ 2 → P xs ps
two_parts P on xs [] h e = absurd (omega arith)
two_parts P on xs (p ∷ []) h e = absurd (omega arith)
two_parts P on tree.none (p ∷ q ∷ []) h e = absurd h
two_parts P on (tree.more a tree.none) (p ∷ q ∷ []) h e = absurd h.2
two_parts P on (tree.more a (tree.more b tree.none)) (p ∷ q ∷ []) h e = on a b p q h
two_parts P on (tree.more a (tree.more b (tree.more c xs))) (p ∷ q ∷ []) h e = absurd h.2.2
two_parts P on xs (p ∷ q ∷ r ∷ ps) h e = absurd (omega arith)

three_parts : (P : FormulaTrees → List (Form × List ℕ) → Type 0)
    → ((a b c : FormulaTree) (p q r : Form × List ℕ)
    → Parts (tree.more a (tree.more b (tree.more c tree.none))) (p ∷ q ∷ r ∷ [])
    → P (tree.more a (tree.more b (tree.more c tree.none))) (p ∷ q ∷ r ∷ []))
    → (xs : FormulaTrees) (ps : List (Form × List ℕ)) → Parts xs ps → length ps ≡ 3 → P xs ps
three_parts P on xs [] h e = absurd (omega arith)
three_parts P on xs (p ∷ []) h e = absurd (omega arith)
three_parts P on xs (p ∷ q ∷ []) h e = absurd (omega arith)
three_parts P on tree.none (p ∷ q ∷ r ∷ []) h e = absurd h
three_parts P on (tree.more a tree.none) (p ∷ q ∷ r ∷ []) h e = absurd h.2
three_parts P on (tree.more a (tree.more b tree.none)) (p ∷ q ∷ r ∷ []) h e = absurd h.2.2
three_parts P on (tree.more a (tree.more b (tree.more c tree.none))) (p ∷ q ∷ r ∷ []) h e =
    on a b c p q r h
three_parts P on (tree.more a (tree.more b (tree.more c (tree.more d xs)))) (p ∷ q ∷ r ∷ []) h e =
    absurd h.2.2.2
three_parts P on xs (p ∷ q ∷ r ∷ s ∷ ps) h e = absurd (omega arith)

-- the text of a layout's tree is its printed form
abbrev IsLaid : Layout → FormulaTrees → List (Form × List ℕ) → Type 0
IsLaid l xs ps = text_of (laid_tree l xs) ≡ laid l ps

operator_text : (l : Level) → punctuation_text (binary_mark (operator l)) ≡ sign l
operator_text level.Atom = refl
operator_text level.Conjunction = refl
operator_text level.Disjunction = refl
operator_text level.Formula = refl

infix_text : (l : Level) (xs : FormulaTrees) (ps : List (Form × List ℕ)) → Parts xs ps
    → length ps ≡ 2
    → IsLaid (Infix l) xs ps
infix_text l = two_parts (IsLaid (Infix l)) (λ a b p q h.
    let x = placed_text (left_form l) a p h.0 h.1 in
    let y = placed_text (right_form l) b q h.2.0 h.2.1 in
    λ i. x i ++ ((codes " " ++ (operator_text l i ++ codes " ")) ++ y i))

pair_text : (xs : FormulaTrees) (ps : List (Form × List ℕ)) → Parts xs ps → length ps ≡ 2
    → IsLaid Pair xs ps
pair_text = two_parts (IsLaid Pair) (λ a b p q h.
    let x = placed_text form.Term a p h.0 h.1 in
    let y = placed_text form.Term b q h.2.0 h.2.1 in
    λ i. codes "<" ++ (x i ++ (codes "," ++ (y i ++ codes ">"))))

conditional_text : (xs : FormulaTrees) (ps : List (Form × List ℕ)) → Parts xs ps → length ps ≡ 3
    → IsLaid Conditional xs ps
conditional_text = three_parts (IsLaid Conditional) (λ a b c p q r h.
    let x = placed_text form.Formula a p h.0 h.1 in
    let y = placed_text form.Term b q h.2.0 h.2.1 in
    let z = placed_text form.Term c r h.2.2.0 h.2.2.1 in
    λ i. codes "if " ++ (x i ++ (codes " then " ++ (y i ++ (codes " else " ++ z i)))))

constant_text : (ns : Names) (f : Kind) → text_of (constant_or (constant_of f) (function_word ns f))
    ≡ function_word ns f
unfolding function_word
constant_text ns kind.empty = refl
constant_text ns kind.truth = refl
constant_text ns kind.falsity = refl
constant_text ns kind.negation = refl
constant_text ns kind.conjunction = refl
constant_text ns kind.disjunction = refl
constant_text ns kind.implication = refl
constant_text ns kind.equality = refl
constant_text ns kind.conditional = refl
constant_text ns kind.pairing = refl
constant_text ns kind.first = refl
constant_text ns kind.second = refl
constant_text ns kind.of_bool = refl
constant_text ns kind.attacker = refl
constant_text ns (declared k) = refl

unary_text : (ns : Names) (f : Kind) (a : FormulaTree)
    → text_of (unary_or (unary_of f) (function_word ns f) a)
    ≡ call (function_word ns f) (text_of a ∷ [])
unfolding function_word
unary_text ns kind.empty a = refl
unary_text ns kind.truth a = refl
unary_text ns kind.falsity a = refl
unary_text ns kind.negation a = refl
unary_text ns kind.conjunction a = refl
unary_text ns kind.disjunction a = refl
unary_text ns kind.implication a = refl
unary_text ns kind.equality a = refl
unary_text ns kind.conditional a = refl
unary_text ns kind.pairing a = refl
unary_text ns kind.first a = refl
unary_text ns kind.second a = refl
unary_text ns kind.of_bool a = refl
unary_text ns kind.attacker a = refl
unary_text ns (declared k) a = refl

applied_text : (ns : Names) (around : List (List ℕ)) (f : Kind) (is : List Idx) (xs : FormulaTrees)
    → text_of (applied ns around f is xs)
    ≡ call (function_word ns f) (idx_texts ns around is ++ texts_of xs)
applied_text ns around f [] tree.none = constant_text ns f
applied_text ns around f [] (tree.more a tree.none) = unary_text ns f a
applied_text ns around f [] (tree.more a (tree.more b xs)) = refl
applied_text ns around f (i ∷ is) xs =
    called_text (function_word ns f) (index_trees ns around (i ∷ is) xs)
    ∙ ap (call (function_word ns f)) (index_texts ns around (i ∷ is) xs)

abbrev HasText : Names → List (List ℕ) → Kind → List Idx → FormulaTrees → List (Form × List ℕ)
    → Layout → Type 0
HasText ns around f is xs ps l =
    text_of (function_syntax l ns around f is xs)
    ≡ by_layout l (function_word ns f) (idx_texts ns around is) ps

function_text : (ns : Names) (around : List (List ℕ)) (f : Kind) (is : List Idx) (xs : FormulaTrees)
    (ps : List (Form × List ℕ)) (m : ℕ) → length ps ≡ m → Parts xs ps
    → text_of (function_syntax (layout_of f (length is) m) ns around f is xs)
    ≡ by_layout (layout_of f (length is) (length ps)) (function_word ns f)
    (idx_texts ns around is) ps
function_text ns around f is xs ps m e h =
    by_counts (HasText ns around f is xs ps) f (length is) m
    (applied_text ns around f is xs
    ∙ ap (λ r. call (function_word ns f) (idx_texts ns around is ++ r)) (parts_texts xs ps h))
    (λ l i d. infix_text l xs ps h (e ∙ d))
    (λ i d. pair_text xs ps h (e ∙ d))
    (λ i d. conditional_text xs ps h (e ∙ d))
    ∙ ap (λ l. by_layout l (function_word ns f) (idx_texts ns around is) ps)
    (sym (ap (layout_of f (length is)) e))

-- ---- forms

abbrev pub trees_count : FormulaTrees → ℕ
trees_count tree.none = 0
trees_count (tree.more a xs) = suc (trees_count xs)

pub count_is : (ns : Names) (around : List (List ℕ)) (ts : TermTrees)
    → trees_count (term_syntaxes ns around ts) ≡ count_terms ts
count_is ns around nil = refl
count_is ns around (cons t ts) = let rest = count_is ns around ts in omega arith

-- trees of two parts, and of three
pub two_trees : (P : FormulaTrees → Type 0)
    → ((a b : FormulaTree) → P (tree.more a (tree.more b tree.none)))
    → (xs : FormulaTrees) → trees_count xs ≡ 2 → P xs
two_trees P h tree.none e = absurd (omega arith)
two_trees P h (tree.more a tree.none) e = absurd (omega arith)
two_trees P h (tree.more a (tree.more b tree.none)) e = h a b
two_trees P h (tree.more a (tree.more b (tree.more c xs))) e = absurd (omega arith)

pub three_trees : (P : FormulaTrees → Type 0)
    → ((a b c : FormulaTree) → P (tree.more a (tree.more b (tree.more c tree.none))))
    → (xs : FormulaTrees) → trees_count xs ≡ 3 → P xs
three_trees P h tree.none e = absurd (omega arith)
three_trees P h (tree.more a tree.none) e = absurd (omega arith)
three_trees P h (tree.more a (tree.more b tree.none)) e = absurd (omega arith)
three_trees P h (tree.more a (tree.more b (tree.more c tree.none))) e = h a b c
three_trees P h (tree.more a (tree.more b (tree.more c (tree.more d xs)))) e = absurd (omega arith)

called_rank : (word : List ℕ) (xs : FormulaTrees) → tree_rank (called word xs) ≡ 0
called_rank word tree.none = refl
called_rank word (tree.more a xs) = refl

ts_rank : (ns : Names) (around : List (List ℕ)) (t : TsTree) → tree_rank (ts_syntax ns around t) ≡ 0
ts_rank ns around (free k) = refl
ts_rank ns around (bound k) = refl
ts_rank ns around init = refl
ts_rank ns around (pred t) = refl
ts_rank ns around (action a is) =
    called_rank (action_word ns a) (index_trees ns around is tree.none)

operator_rank : (l : Level) → grammar.binary_rank (operator l) ≡ rank (level_form l)
operator_rank level.Atom = refl
operator_rank level.Conjunction = refl
operator_rank level.Disjunction = refl
operator_rank level.Formula = refl

constant_rank : (o : Option Constant) (word : List ℕ) → tree_rank (constant_or o word) ≡ 0
constant_rank (Some c) word = refl
constant_rank None word = refl

unary_rank : (o : Option Unary) (word : List ℕ) (a : FormulaTree)
    → tree_rank (unary_or o word a) ≡ 0
unary_rank (Some u) word a = refl
unary_rank None word a = refl

applied_rank : (ns : Names) (around : List (List ℕ)) (f : Kind) (is : List Idx) (xs : FormulaTrees)
    → tree_rank (applied ns around f is xs) ≡ 0
applied_rank ns around f [] tree.none = constant_rank (constant_of f) (function_word ns f)
applied_rank ns around f [] (tree.more a tree.none) = unary_rank (unary_of f) (function_word ns f) a
applied_rank ns around f [] (tree.more a (tree.more b xs)) = refl
applied_rank ns around f (i ∷ is) xs =
    called_rank (function_word ns f) (index_trees ns around (i ∷ is) xs)

abbrev HasRank : Names → List (List ℕ) → Kind → List Idx → FormulaTrees → Layout → Type 0
HasRank ns around f is xs l =
    tree_rank (function_syntax l ns around f is xs) ≡ rank (layout_form l)

abbrev LaidRank : Layout → FormulaTrees → Type 0
LaidRank l xs = tree_rank (laid_tree l xs) ≡ rank (layout_form l)

function_rank : (ns : Names) (around : List (List ℕ)) (f : Kind) (is : List Idx) (xs : FormulaTrees)
    (m : ℕ) → trees_count xs ≡ m
    → tree_rank (function_syntax (layout_of f (length is) m) ns around f is xs)
    ≡ rank (layout_form (layout_of f (length is) m))
function_rank ns around f is xs m e =
    by_counts (HasRank ns around f is xs) f (length is) m (applied_rank ns around f is xs)
    (λ l i d. two_trees (LaidRank (Infix l)) (λ a b. operator_rank l) xs (e ∙ d))
    (λ i d. two_trees (LaidRank Pair) (λ a b. refl) xs (e ∙ d))
    (λ i d. three_trees (LaidRank Conditional) (λ a b c. refl) xs (e ∙ d))

pub rank_is : (ns : Names) (around : List (List ℕ)) (t : TermTree)
    → tree_rank (term_syntax ns around t) ≡ rank (form_of t)
rank_is ns around (name n is) = called_rank (name_word ns n) (index_trees ns around is tree.none)
rank_is ns around (fun f is ts) =
    function_rank ns around f is (term_syntaxes ns around ts) (count_terms ts)
    (count_is ns around ts)
rank_is ns around (macro m t) = refl
rank_is ns around (schema k) = refl
rank_is ns around (diff a b) = refl
rank_is ns around (le a b) = refl
rank_is ns around (ts_eq a b) = refl
rank_is ns around (idx_eq i j) = refl
rank_is ns around (happens t) = refl
rank_is ns around (all s t) = refl
rank_is ns around (some s t) = refl
rank_is ns around (find n t u v) = refl

mutual
  pub text_is : (ns : Names) (around : List (List ℕ)) (t : TermTree)
      → text_of (term_syntax ns around t) ≡ term_text ns around t
  text_is ns around (name n is) = indices_text ns around (name_word ns n) is
  text_is ns around (fun f is ts) =
      function_text ns around f is (term_syntaxes ns around ts) (part_texts ns around ts)
      (count_terms ts) (count_parts ns around ts) (parts_are ns around ts)
  text_is ns around (macro m t) = let x = macro_text_is m in let y =
      ts_text_is ns around t in λ i. x i ++ (codes "@" ++ y i)
  text_is ns around (schema k) = refl
  text_is ns around (diff a b) = let x = text_is ns around a in let y =
      text_is ns around b in λ i. codes "diff(" ++ (x i ++ (codes "," ++ (y i ++ codes ")")))
  text_is ns around (le a b) = let x = ts_text_is ns around a in let y =
      ts_text_is ns around b in λ i. x i ++ (codes " <= " ++ y i)
  text_is ns around (ts_eq a b) = let x = ts_text_is ns around a in let y =
      ts_text_is ns around b in λ i. x i ++ (codes " = " ++ y i)
  text_is ns around (idx_eq i j) = refl
  text_is ns around (happens t) =
      ap (λ r. codes "happens(" ++ (r ++ codes ")")) (ts_text_is ns around t)
  text_is ns around (all s t) =
      quantified_text (codes "forall") (binder_name ns around s) s
      (text_of (term_syntax ns (around ++ binder_name ns around s ∷ []) t))
      (term_text ns (around ++ binder_name ns around s ∷ []) t)
      (text_is ns (around ++ binder_name ns around s ∷ []) t)
  text_is ns around (some s t) =
      quantified_text (codes "exists") (binder_name ns around s) s
      (text_of (term_syntax ns (around ++ binder_name ns around s ∷ []) t))
      (term_text ns (around ++ binder_name ns around s ∷ []) t)
      (text_is ns (around ++ binder_name ns around s ∷ []) t)
  text_is ns around (find n t u v) =
      let inner = around ++ bound_names ns around n in
      let x = text_is ns inner t in
      let y = placed_text form.Term (term_syntax ns inner u) (form_of u, term_text ns inner u)
      (rank_is ns inner u) (text_is ns inner u) in
      let z = placed_text form.Term (term_syntax ns around v) (form_of v, term_text ns around v)
      (rank_is ns around v) (text_is ns around v) in
      λ i. codes "find " ++
      (joined (codes ", ") (bound_names ns around n) ++
      (codes " such that " ++ (x i ++ (codes " in " ++ (y i ++ (codes " else " ++ z i))))))

  parts_are : (ns : Names) (around : List (List ℕ)) (ts : TermTrees)
      → Parts (term_syntaxes ns around ts) (part_texts ns around ts)
  parts_are ns around nil = tt
  parts_are ns around (cons t ts) =
      (rank_is ns around t, text_is ns around t, parts_are ns around ts)

-- ---- what is built

in_place_form : (at : Form) (t : FormulaTree) → tree_rank (in_place at t) ≤ rank at
in_place_form at t = on (nat_le (tree_rank t) (rank at)) refl
  where
    on : (b : Bool) → nat_le (tree_rank t) (rank at) ≡ b
        → tree_rank (if b then t else tree.group t) ≤ rank at
    on true e = grind (arith, nat_tests)
    on false e = omega arith

in_place_built : (at : Form) (t : FormulaTree) → IsBuilt t → IsBuilt (in_place at t)
in_place_built at t h = on (nat_le (tree_rank t) (rank at))
  where
    on : (b : Bool) → IsBuilt (if b then t else tree.group t)
    on true = h
    on false = h

indices_built : (ns : Names) (around : List (List ℕ)) (is : List Idx) (rest : FormulaTrees)
    → AreBuilt rest → AreBuilt (index_trees ns around is rest)
indices_built ns around [] rest h = h
indices_built ns around (i ∷ is) rest h = (tt, indices_built ns around is rest h)

called_built : (word : List ℕ) (xs : FormulaTrees) → AreBuilt xs → IsBuilt (called word xs)
called_built word tree.none h = tt
called_built word (tree.more a xs) h = (tt, h)

indices_names : (ns : Names) (around : List (List ℕ)) (is : List Idx)
    → AreNames (index_trees ns around is tree.none)
indices_names ns around [] = tt
indices_names ns around (i ∷ is) = indices_names ns around is

called_time : (word : List ℕ) (xs : FormulaTrees) → AreNames xs → IsTime (called word xs)
called_time word tree.none h = tt
called_time word (tree.more a xs) h = h

ts_time : (ns : Names) (around : List (List ℕ)) (t : TsTree) → IsTime (ts_syntax ns around t)
ts_time ns around (free k) = tt
ts_time ns around (bound k) = tt
ts_time ns around init = tt
ts_time ns around (pred t) = tt
ts_time ns around (action a is) =
    called_time (action_word ns a) (index_trees ns around is tree.none) (indices_names ns around is)

ts_built : (ns : Names) (around : List (List ℕ)) (t : TsTree) → IsBuilt (ts_syntax ns around t)
ts_built ns around (free k) = tt
ts_built ns around (bound k) = tt
ts_built ns around init = tt
ts_built ns around (pred t) = (ts_time ns around t, ts_built ns around t)
ts_built ns around (action a is) =
    called_built (action_word ns a) (index_trees ns around is tree.none)
    (indices_built ns around is tree.none tt)

two_built : (l : Level) (a b : FormulaTree) → IsBuilt a → IsBuilt b
    → IsBuilt (tree.binary (operator l) (in_place (left_form l) a) (in_place (right_form l) b))
two_built level.Atom a b x y = (
  in_place_form form.Term a,
  in_place_built form.Term a x,
  in_place_form form.Term b,
  in_place_built form.Term b y,
)
two_built level.Conjunction a b x y = (
  in_place_form form.Atom a,
  in_place_built form.Atom a x,
  in_place_form form.Conjunction b,
  in_place_built form.Conjunction b y,
)
two_built level.Disjunction a b x y = (
  in_place_form form.Conjunction a,
  in_place_built form.Conjunction a x,
  in_place_form
      form.Disjunction b,
  in_place_built form.Disjunction b y,
)
two_built level.Formula a b x y = (
  in_place_form form.Disjunction a,
  in_place_built form.Disjunction a x,
  in_place_form
      form.Formula b,
  in_place_built form.Formula b y,
)

infix_built : (l : Level) (xs : FormulaTrees) → AreBuilt xs → IsBuilt (laid_tree (Infix l) xs)
infix_built l tree.none h = tt
infix_built l (tree.more a tree.none) h = tt
infix_built l (tree.more a (tree.more b tree.none)) h = two_built l a b h.0 h.1.0
infix_built l (tree.more a (tree.more b (tree.more c xs))) h = tt

pair_built : (xs : FormulaTrees) → AreBuilt xs → IsBuilt (laid_tree Pair xs)
pair_built tree.none h = tt
pair_built (tree.more a tree.none) h = tt
pair_built (tree.more a (tree.more b tree.none)) h = (
  in_place_form form.Term a,
  in_place_built form.Term a h.0,
  in_place_form form.Term b,
  in_place_built form.Term b h.1.0,
)
pair_built (tree.more a (tree.more b (tree.more c xs))) h = tt

conditional_built : (xs : FormulaTrees) → AreBuilt xs → IsBuilt (laid_tree Conditional xs)
conditional_built tree.none h = tt
conditional_built (tree.more a tree.none) h = tt
conditional_built (tree.more a (tree.more b tree.none)) h = tt
conditional_built (tree.more a (tree.more b (tree.more c tree.none))) h = (
  in_place_built form.Formula a h.0,
  in_place_form form.Term b,
  in_place_built form.Term b h.1.0,
  in_place_form form.Term c,
  in_place_built form.Term c h.1.1.0,
)
conditional_built (tree.more a (tree.more b (tree.more c (tree.more d xs)))) h = tt

constant_built : (o : Option Constant) (word : List ℕ) → IsBuilt (constant_or o word)
constant_built (Some c) word = tt
constant_built None word = tt

-- no form is looser than a formula
binary_rank_within : (o : Binary) → grammar.binary_rank o ≤ 4
binary_rank_within binary.Implies = omega arith
binary_rank_within binary.Or = omega arith
binary_rank_within binary.And = omega arith
binary_rank_within binary.Equal = omega arith
binary_rank_within binary.NotEqual = omega arith
binary_rank_within binary.LessEqual = omega arith
binary_rank_within binary.Less = omega arith

pub tree_rank_within : (t : FormulaTree) → tree_rank t ≤ 4
tree_rank_within (tree.quantified q gs a) = omega arith
tree_rank_within (tree.binary o a b) = binary_rank_within o
tree_rank_within (tree.group a) = omega arith
tree_rank_within (tree.pair a b) = omega arith
tree_rank_within (tree.constant c) = omega arith
tree_rank_within (tree.conditional a b c) = omega arith
tree_rank_within (tree.find xs a b c) = omega arith
tree_rank_within (tree.diff a b) = omega arith
tree_rank_within (tree.unary u a) = omega arith
tree_rank_within (tree.value m a) = omega arith
tree_rank_within (tree.name n) = omega arith
tree_rank_within (tree.apply n xs) = omega arith

unary_built : (f : Kind) (word : List ℕ) (a : FormulaTree) → IsBuilt a
    → IsBuilt (unary_or (unary_of f) word a)
unary_built kind.empty word a h = (tt, (h, tt))
unary_built kind.truth word a h = (tt, (h, tt))
unary_built kind.falsity word a h = (tt, (h, tt))
unary_built kind.negation word a h = (tree_rank_within a, h)
unary_built kind.conjunction word a h = (tt, (h, tt))
unary_built kind.disjunction word a h = (tt, (h, tt))
unary_built kind.implication word a h = (tt, (h, tt))
unary_built kind.equality word a h = (tt, (h, tt))
unary_built kind.conditional word a h = (tt, (h, tt))
unary_built kind.pairing word a h = (tt, (h, tt))
unary_built kind.first word a h = (tree_rank_within a, h)
unary_built kind.second word a h = (tree_rank_within a, h)
unary_built kind.of_bool word a h = (tree_rank_within a, h)
unary_built kind.attacker word a h = (tt, (h, tt))
unary_built (declared k) word a h = (tt, (h, tt))

applied_built : (ns : Names) (around : List (List ℕ)) (f : Kind) (is : List Idx) (xs : FormulaTrees)
    → AreBuilt xs → IsBuilt (applied ns around f is xs)
applied_built ns around f [] tree.none h = constant_built (constant_of f) (function_word ns f)
applied_built ns around f [] (tree.more a tree.none) h = unary_built f (function_word ns f) a h.0
applied_built ns around f [] (tree.more a (tree.more b xs)) h = (tt, h)
applied_built ns around f (i ∷ is) xs h =
    called_built (function_word ns f) (index_trees ns around (i ∷ is) xs)
    (indices_built ns around (i ∷ is) xs h)

function_built : (l : Layout) (ns : Names) (around : List (List ℕ)) (f : Kind) (is : List Idx)
    (xs : FormulaTrees) → AreBuilt xs → IsBuilt (function_syntax l ns around f is xs)
function_built Word ns around f is xs h = applied_built ns around f is xs h
function_built (Infix l) ns around f is xs h = infix_built l xs h
function_built Pair ns around f is xs h = pair_built xs h
function_built Conditional ns around f is xs h = conditional_built xs h

binder_sort : (s : Sort) → s ≢ sort.Boolean → IsBinderSort s
binder_sort sort.Message h = tt
binder_sort sort.Boolean h = absurd (h refl)
binder_sort sort.Index h = tt
binder_sort sort.Timestamp h = tt

names_filled : (ns : Names) (around : List (List ℕ)) (n : ℕ) → 0 < n
    → IsFilled (bound_names ns around n)
names_filled ns around zero h = absurd (omega arith)
names_filled ns around (suc n) h = tt

ts_term : (ns : Names) (around : List (List ℕ)) (t : TsTree) → tree_rank (ts_syntax ns around t) ≤ 0
ts_term ns around t = let e = ts_rank ns around t in omega arith

mutual
  pub built : (ns : Names) (around : List (List ℕ)) (t : TermTree) → IsWritable t
      → IsBuilt (term_syntax ns around t)
  built ns around (name n is) h =
      called_built (name_word ns n) (index_trees ns around is tree.none)
      (indices_built ns around is tree.none tt)
  built ns around (fun f is ts) h =
      function_built (layout_of f (length is) (count_terms ts)) ns around f is
      (term_syntaxes ns around ts) (all_built ns around ts h)
  built ns around (macro m t) h = (ts_time ns around t, ts_built ns around t)
  built ns around (schema k) h = tt
  built ns around (diff a b) h = (built ns around a h.0, built ns around b h.1)
  built ns around (le a b) h =
      (ts_term ns around a, ts_built ns around a, ts_term ns around b, ts_built ns around b)
  built ns around (ts_eq a b) h =
      (ts_term ns around a, ts_built ns around a, ts_term ns around b, ts_built ns around b)
  built ns around (idx_eq i j) h = (omega arith, tt, omega arith, tt)
  built ns around (happens t) h = (ts_time ns around t, ts_built ns around t)
  built ns around (all s t) h =
      ((tt, (tt, binder_sort s h.0, tt)), built ns (around ++ binder_name ns around s ∷ []) t h.1)
  built ns around (some s t) h =
      ((tt, (tt, binder_sort s h.0, tt)), built ns (around ++ binder_name ns around s ∷ []) t h.1)
  built ns around (find n t u v) h =
      let inner = around ++ bound_names ns around n in (
        names_filled ns around n h.0,
        built ns inner t h.1,
        in_place_form form.Term (term_syntax ns inner u),
        in_place_built form.Term (term_syntax ns inner u) (built ns inner u h.2),
        in_place_form form.Term (term_syntax ns around v),
        in_place_built form.Term (term_syntax ns around v) (built ns around v h.3),
      )

  all_built : (ns : Names) (around : List (List ℕ)) (ts : TermTrees) → AreWritable ts
      → AreBuilt (term_syntaxes ns around ts)
  all_built ns around nil h = tt
  all_built ns around (cons t ts) h = (built ns around t h.0, all_built ns around ts h.1)

pub is_formula : (ns : Names) (around : List (List ℕ)) (t : TermTree) → IsWritable t
    → Is place.Formula (term_syntax ns around t) (spelled (term_syntax ns around t))
is_formula ns around t h =
    record {
      form_is = tree_rank_within
          (term_syntax ns around t);
      built = built ns around t h;
      spelled_is = refl;
    }
