-- The syntax tree of a printed term, and the text of a syntax tree.
use Rattle.std.specs.Prelude.{◌≢◌, ◌<◌, ℕ, ⊤, nat_le, List, [], ◌∷◌, ◌++◌, length, map, reverse}
use Rattle.std.specs.Prelude.{Option, Some, None, codes, if◌then◌else◌}
use Rattle.sq_base.specs.declared.sort.Sort.TheVariants.{Boolean}
use Rattle.sq_token.specs.Kinds.{reserved_text, punctuation_text}
use Rattle.sq_ast.specs.declared.formula.Quantifier.TheVariants.{Forall, Exists}
use Rattle.sq_ast.specs.declared.formula.Binary.{Binary}
use Rattle.sq_ast.specs.declared.formula.Binary.TheVariants as binary
use Rattle.sq_ast.specs.declared.formula.Constant.{Constant}
use Rattle.sq_ast.specs.declared.formula.Constant.TheVariants as constant
use Rattle.sq_ast.specs.declared.formula.Unary.{Unary}
use Rattle.sq_ast.specs.declared.formula.Unary.TheVariants as unary
use Rattle.sq_ast.specs.declared.formula.MacroWord.{MacroWord}
use Rattle.sq_ast.specs.declared.formula.MacroWord.TheVariants as macro_word
use Rattle.sq_ast.specs.Tree.{Group, FormulaTree, FormulaTrees}
use Rattle.sq_ast.specs.Tree as tree
use Rattle.sq_ast.specs.Grammar.{quantifier_word, binary_mark, constant_word, unary_word, sort_word}
use Rattle.sq_ast.specs.Grammar.{tree_rank}
use Rattle.sq_ast.specs.Grammar as grammar
use Rattle.sq_term.specs.declared.term.Idx.{Idx}
use Rattle.sq_term.specs.declared.term.Macro.{Macro}
use Rattle.sq_term.specs.declared.term.Macro.TheVariants as macro_of
use Rattle.sq_term.specs.declared.layout.Layout.{Layout}
use Rattle.sq_term.specs.declared.layout.Layout.TheVariants.{Word, Infix, Pair, Conditional}
use Rattle.sq_term.specs.declared.layout.Level.{Level}
use Rattle.sq_term.specs.declared.layout.Level.TheVariants as level
use Rattle.sq_term.specs.Measure.{count_terms}
use Rattle.sq_term.specs.Symbols as kind
use Rattle.sq_term.specs.Symbols.{Kind}
use Rattle.sq_term.specs.Syntax.{TsTree, free, bound, init, pred, action, TermTree, name, fun}
use Rattle.sq_term.specs.Syntax.{macro, schema, diff, le, ts_eq, idx_eq, happens, all, some, find}
use Rattle.sq_term.specs.Syntax.{TermTrees, nil, cons}
use Rattle.sq_print.specs.declared.form.Form.{Form}
use Rattle.sq_print.specs.declared.form.Form.TheVariants as form
use Rattle.sq_print.specs.Forms.{rank, left_form, right_form, layout_of}
use Rattle.sq_print.specs.Names.{Names, text_at, name_word, action_word, function_word, binder_name}
use Rattle.sq_print.specs.Names.{bound_names}
use Rattle.sq_print.specs.Printed.{joined, idx_text}

-- ---- the text of a syntax tree

abbrev pub group_text : Group → List ℕ
group_text g = joined (codes ", ") g.0 ++ (codes ":" ++ reserved_text (sort_word g.1))

abbrev mutual
  pub text_of : FormulaTree → List ℕ
  text_of (tree.quantified q gs a) =
      reserved_text (quantifier_word q) ++
      (codes " (" ++ (joined (codes ", ") (map group_text gs) ++ (codes "), " ++ text_of a)))
  text_of (tree.binary o a b) =
      text_of a ++ ((codes " " ++ (punctuation_text (binary_mark o) ++ codes " ")) ++ text_of b)
  text_of (tree.group a) = codes "(" ++ (text_of a ++ codes ")")
  text_of (tree.pair a b) = codes "<" ++ (text_of a ++ (codes "," ++ (text_of b ++ codes ">")))
  text_of (tree.constant c) = reserved_text (constant_word c)
  text_of (tree.conditional a b c) =
      codes "if " ++ (text_of a ++ (codes " then " ++ (text_of b ++ (codes " else " ++ text_of c))))
  text_of (tree.find xs a b c) =
      codes "find " ++
      (joined (codes ", ") xs ++
      (codes " such that " ++
      (text_of a ++ (codes " in " ++ (text_of b ++ (codes " else " ++ text_of c))))))
  text_of (tree.diff a b) = codes "diff(" ++ (text_of a ++ (codes "," ++ (text_of b ++ codes ")")))
  text_of (tree.unary u a) = reserved_text (unary_word u) ++ (codes "(" ++ (text_of a ++ codes ")"))
  text_of (tree.value m a) = reserved_text (grammar.macro_word m) ++ (codes "@" ++ text_of a)
  text_of (tree.name n) = n
  text_of (tree.apply n xs) = n ++ (codes "(" ++ (joined (codes ",") (texts_of xs) ++ codes ")"))

  pub texts_of : FormulaTrees → List (List ℕ)
  texts_of tree.none = []
  texts_of (tree.more a xs) = text_of a ∷ texts_of xs

-- ---- the syntax tree of a term

-- in parentheses where the place wants a tighter form
abbrev pub in_place : Form → FormulaTree → FormulaTree
in_place place t = if nat_le (tree_rank t) (rank place) then t else tree.group t

-- a word, with its arguments if there are some
abbrev pub called : List ℕ → FormulaTrees → FormulaTree
called word tree.none = tree.name word
called word (tree.more a xs) = tree.apply word (tree.more a xs)

-- indices, in front of other arguments
abbrev pub index_trees : Names → List (List ℕ) → List Idx → FormulaTrees → FormulaTrees
index_trees ns around [] rest = rest
index_trees ns around (i ∷ is) rest =
    tree.more (tree.name (idx_text ns around i)) (index_trees ns around is rest)

abbrev pub ts_syntax : Names → List (List ℕ) → TsTree → FormulaTree
ts_syntax ns around (free k) = tree.name (text_at ns.vars k)
ts_syntax ns around (bound k) = tree.name (text_at (reverse around) k)
ts_syntax ns around init = tree.constant constant.Init
ts_syntax ns around (pred t) = tree.unary unary.Pred (ts_syntax ns around t)
ts_syntax ns around (action a is) = called (action_word ns a) (index_trees ns around is tree.none)

abbrev pub macro_of_term : Macro → MacroWord
macro_of_term macro_of.Input = macro_word.Input
macro_of_term macro_of.Output = macro_word.Output
macro_of_term macro_of.Cond = macro_word.Cond
macro_of_term macro_of.Exec = macro_word.Exec
macro_of_term macro_of.Frame = macro_word.Frame

abbrev pub operator : Level → Binary
operator level.Atom = binary.Equal
operator level.Conjunction = binary.And
operator level.Disjunction = binary.Or
operator level.Formula = binary.Implies

-- the arguments of a function that is not written as a word
abbrev pub laid_tree : Layout → FormulaTrees → FormulaTree
laid_tree (Infix l) (tree.more a (tree.more b tree.none)) =
    tree.binary (operator l) (in_place (left_form l) a) (in_place (right_form l) b)
laid_tree Pair (tree.more a (tree.more b tree.none)) =
    tree.pair (in_place form.Term a) (in_place form.Term b)
laid_tree Conditional (tree.more a (tree.more b (tree.more c tree.none))) =
    tree.conditional (in_place form.Formula a) (in_place form.Term b) (in_place form.Term c)
laid_tree _ _ = tree.constant constant.Empty

-- the reserved word of a function without arguments, and of one with one argument
abbrev pub constant_of : Kind → Option Constant
constant_of kind.empty = Some constant.Empty
constant_of kind.truth = Some constant.True
constant_of kind.falsity = Some constant.False
constant_of f = None

abbrev pub unary_of : Kind → Option Unary
unary_of kind.negation = Some unary.Not
unary_of kind.first = Some unary.Fst
unary_of kind.second = Some unary.Snd
unary_of kind.of_bool = Some unary.OfBool
unary_of f = None

abbrev pub constant_or : Option Constant → List ℕ → FormulaTree
constant_or (Some c) word = tree.constant c
constant_or None word = tree.name word

abbrev pub unary_or : Option Unary → List ℕ → FormulaTree → FormulaTree
unary_or (Some u) word a = tree.unary u a
unary_or None word a = tree.apply word (tree.more a tree.none)

-- a function that is written as a word
abbrev pub applied : Names → List (List ℕ) → Kind → List Idx → FormulaTrees → FormulaTree
applied ns around f [] tree.none = constant_or (constant_of f) (function_word ns f)
applied ns around f [] (tree.more a tree.none) = unary_or (unary_of f) (function_word ns f) a
applied ns around f [] (tree.more a (tree.more b xs)) =
    tree.apply (function_word ns f) (tree.more a (tree.more b xs))
applied ns around f (i ∷ is) xs = called (function_word ns f) (index_trees ns around (i ∷ is) xs)

abbrev pub function_syntax : Layout → Names → List (List ℕ) → Kind → List Idx → FormulaTrees
    → FormulaTree
function_syntax Word ns around f is xs = applied ns around f is xs
function_syntax l ns around f is xs = laid_tree l xs

abbrev mutual
  pub term_syntax : Names → List (List ℕ) → TermTree → FormulaTree
  term_syntax ns around (name n is) = called (name_word ns n) (index_trees ns around is tree.none)
  term_syntax ns around (fun f is ts) =
      function_syntax (layout_of f (length is) (count_terms ts)) ns around f is
      (term_syntaxes ns around ts)
  term_syntax ns around (macro m t) = tree.value (macro_of_term m) (ts_syntax ns around t)
  term_syntax ns around (schema k) = tree.name (text_at ns.schemas k)
  term_syntax ns around (diff a b) = tree.diff (term_syntax ns around a) (term_syntax ns around b)
  term_syntax ns around (le a b) =
      tree.binary binary.LessEqual (ts_syntax ns around a) (ts_syntax ns around b)
  term_syntax ns around (ts_eq a b) =
      tree.binary binary.Equal (ts_syntax ns around a) (ts_syntax ns around b)
  term_syntax ns around (idx_eq i j) =
      tree.binary binary.Equal (tree.name (idx_text ns around i)) (tree.name (idx_text ns around j))
  term_syntax ns around (happens t) = tree.unary unary.Happens (ts_syntax ns around t)
  term_syntax ns around (all s t) =
      tree.quantified Forall ((binder_name ns around s ∷ [], s) ∷ [])
      (term_syntax ns (around ++ binder_name ns around s ∷ []) t)
  term_syntax ns around (some s t) =
      tree.quantified Exists ((binder_name ns around s ∷ [], s) ∷ [])
      (term_syntax ns (around ++ binder_name ns around s ∷ []) t)
  term_syntax ns around (find n t u v) =
      tree.find (bound_names ns around n) (term_syntax ns (around ++ bound_names ns around n) t)
      (in_place form.Term (term_syntax ns (around ++ bound_names ns around n) u))
      (in_place form.Term (term_syntax ns around v))

  pub term_syntaxes : Names → List (List ℕ) → TermTrees → FormulaTrees
  term_syntaxes ns around nil = tree.none
  term_syntaxes ns around (cons t ts) =
      tree.more (term_syntax ns around t) (term_syntaxes ns around ts)

-- no quantifier binds a Boolean, and each find binds an index
abbrev mutual
  pub IsWritable : TermTree → Type 0
  IsWritable (name n is) = ⊤
  IsWritable (fun f is ts) = AreWritable ts
  IsWritable (macro m t) = ⊤
  IsWritable (schema k) = ⊤
  IsWritable (diff a b) = IsWritable a × IsWritable b
  IsWritable (le a b) = ⊤
  IsWritable (ts_eq a b) = ⊤
  IsWritable (idx_eq i j) = ⊤
  IsWritable (happens t) = ⊤
  IsWritable (all s t) = (s ≢ Boolean) × IsWritable t
  IsWritable (some s t) = (s ≢ Boolean) × IsWritable t
  IsWritable (find n t u v) = (0 < n) × IsWritable t × IsWritable u × IsWritable v

  pub AreWritable : TermTrees → Type 0
  AreWritable nil = ⊤
  AreWritable (cons t ts) = IsWritable t × AreWritable ts
