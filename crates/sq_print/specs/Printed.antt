-- The printed form of a term.
use Rattle.std.specs.Prelude.{ℕ, List, [], ◌∷◌, ◌++◌, length, map, reverse, codes, if◌then◌else◌}
use Rattle.sq_base.specs.declared.sort.Sort.{Sort}
use Rattle.sq_base.specs.declared.sort.Sort.TheVariants as sort
use Rattle.sq_term.specs.declared.term.Idx.{Idx}
use Rattle.sq_term.specs.declared.term.Idx.TheVariants as idx
use Rattle.sq_term.specs.declared.term.Macro.{Macro}
use Rattle.sq_term.specs.declared.term.Macro.TheVariants as macro_word
use Rattle.sq_term.specs.declared.layout.Layout.{Layout}
use Rattle.sq_term.specs.declared.layout.Layout.TheVariants.{Word, Infix, Pair, Conditional}
use Rattle.sq_term.specs.Builtins.{sign}
use Rattle.sq_term.specs.Syntax.{TsTree, free, bound, init, pred, action, TermTree, name, fun}
use Rattle.sq_term.specs.Syntax.{macro, schema, diff, le, ts_eq, idx_eq, happens, all, some, find}
use Rattle.sq_term.specs.Syntax.{TermTrees, nil, cons}
use Rattle.sq_print.specs.declared.form.Form.{Form}
use Rattle.sq_print.specs.declared.form.Form.TheVariants as form
use Rattle.sq_print.specs.Forms.{fits, left_form, right_form, layout_of, form_of}
use Rattle.sq_print.specs.Names.{Names, text_at, name_word, action_word, function_word, binder_name}
use Rattle.sq_print.specs.Names.{bound_names}

abbrev pub sort_text : Sort → List ℕ
sort_text sort.Message = codes "message"
sort_text sort.Boolean = codes "boolean"
sort_text sort.Index = codes "index"
sort_text sort.Timestamp = codes "timestamp"

abbrev pub macro_text : Macro → List ℕ
macro_text macro_word.Input = codes "input"
macro_text macro_word.Output = codes "output"
macro_text macro_word.Cond = codes "cond"
macro_text macro_word.Exec = codes "exec"
macro_text macro_word.Frame = codes "frame"

abbrev pub joined : List ℕ → List (List ℕ) → List ℕ
joined between [] = []
joined between (t ∷ []) = t
joined between (t ∷ u ∷ us) = t ++ (between ++ joined between (u ∷ us))

-- a word alone, or with its arguments in parentheses
abbrev pub call : List ℕ → List (List ℕ) → List ℕ
call word [] = word
call word (a ∷ rest) = word ++ (codes "(" ++ (joined (codes ",") (a ∷ rest) ++ codes ")"))

-- a part with its form, in parentheses where the place wants a tighter form
abbrev pub placed : Form → Form × List ℕ → List ℕ
placed place part = if fits part.0 place then part.1 else codes "(" ++ (part.1 ++ codes ")")

-- the arguments of a function that is not written as a word
abbrev pub laid : Layout → List (Form × List ℕ) → List ℕ
laid (Infix l) (a ∷ b ∷ []) =
    placed (left_form l) a
    ++ ((codes " " ++ (sign l ++ codes " ")) ++ placed (right_form l) b)
laid Pair (a ∷ b ∷ []) =
    codes "<" ++ (placed form.Term a ++ (codes "," ++ (placed form.Term b ++ codes ">")))
laid Conditional (a ∷ b ∷ c ∷ []) =
    codes "if " ++ (placed form.Formula a ++ (codes " then " ++ (placed form.Term b
    ++ (codes " else " ++ placed form.Term c))))
laid _ _ = []

abbrev pub by_layout : Layout → List ℕ → List (List ℕ) → List (Form × List ℕ) → List ℕ
by_layout Word word indices parts = call word (indices ++ map (λ p. p.1) parts)
by_layout l word indices parts = laid l parts

abbrev pub idx_text : Names → List (List ℕ) → Idx → List ℕ
idx_text ns around (idx.Free k) = text_at ns.vars k
idx_text ns around (idx.Bound k) = text_at (reverse around) k

abbrev pub idx_texts : Names → List (List ℕ) → List Idx → List (List ℕ)
idx_texts ns around [] = []
idx_texts ns around (i ∷ is) = idx_text ns around i ∷ idx_texts ns around is

abbrev pub ts_text : Names → List (List ℕ) → TsTree → List ℕ
ts_text ns around (free k) = text_at ns.vars k
ts_text ns around (bound k) = text_at (reverse around) k
ts_text ns around init = codes "init"
ts_text ns around (pred t) = codes "pred(" ++ (ts_text ns around t ++ codes ")")
ts_text ns around (action a is) = call (action_word ns a) (idx_texts ns around is)

-- a quantifier's word, its variable's name and sort, and its body
abbrev pub quantified : List ℕ → List ℕ → Sort → List ℕ → List ℕ
quantified word x s body =
    word ++ (codes " (" ++ (x ++ (codes ":" ++ (sort_text s ++ (codes "), " ++ body)))))

-- a term below binders with these names, which are listed from outside in
abbrev mutual
  pub term_text : Names → List (List ℕ) → TermTree → List ℕ
  term_text ns around (name n is) = call (name_word ns n) (idx_texts ns around is)
  term_text ns around (fun f is ts) =
      by_layout (layout_of f (length is) (length (part_texts ns around ts))) (function_word ns f)
      (idx_texts ns around is) (part_texts ns around ts)
  term_text ns around (macro m t) = macro_text m ++ (codes "@" ++ ts_text ns around t)
  term_text ns around (schema k) = text_at ns.schemas k
  term_text ns around (diff a b) =
      codes "diff(" ++
      (term_text ns around a ++ (codes "," ++ (term_text ns around b ++ codes ")")))
  term_text ns around (le a b) = ts_text ns around a ++ (codes " <= " ++ ts_text ns around b)
  term_text ns around (ts_eq a b) = ts_text ns around a ++ (codes " = " ++ ts_text ns around b)
  term_text ns around (idx_eq i j) = idx_text ns around i ++ (codes " = " ++ idx_text ns around j)
  term_text ns around (happens t) = codes "happens(" ++ (ts_text ns around t ++ codes ")")
  term_text ns around (all s t) =
      quantified (codes "forall") (binder_name ns around s) s
      (term_text ns (around ++ binder_name ns around s ∷ []) t)
  term_text ns around (some s t) =
      quantified (codes "exists") (binder_name ns around s) s
      (term_text ns (around ++ binder_name ns around s ∷ []) t)
  term_text ns around (find n t u v) =
      codes "find " ++
      (joined (codes ", ") (bound_names ns around n) ++
      (codes " such that " ++ (term_text ns (around ++ bound_names ns around n) t
      ++ (codes " in " ++
      (placed form.Term (form_of u, term_text ns (around ++ bound_names ns around n) u)
      ++ (codes " else " ++ placed form.Term (form_of v, term_text ns around v)))))))

  -- the forms and texts of the arguments of a function
  pub part_texts : Names → List (List ℕ) → TermTrees → List (Form × List ℕ)
  part_texts ns around nil = []
  part_texts ns around (cons t ts) = (form_of t, term_text ns around t) ∷ part_texts ns around ts
