-- Which form of the grammar a term is, and where it stands without parentheses.
use Rattle.std.specs.Prelude.{ℕ, Bool, ◌&&◌, nat_le, nat_eq, length, if◌then◌else◌}
use Rattle.sq_term.specs.Builtins.{layout, arguments}
use Rattle.sq_term.specs.Measure.{count_terms}
use Rattle.sq_term.specs.Symbols.{Kind}
use Rattle.sq_term.specs.Syntax.{TermTree, name, fun, macro, schema, diff, le, ts_eq, idx_eq}
use Rattle.sq_term.specs.Syntax.{happens, all, some, find}
use Rattle.sq_term.specs.declared.layout.Layout.{Layout}
use Rattle.sq_term.specs.declared.layout.Layout.TheVariants.{Word, Infix, Pair, Conditional}
use Rattle.sq_term.specs.declared.layout.Level.{Level}
use Rattle.sq_term.specs.declared.layout.Level.TheVariants as level
use Rattle.sq_print.specs.declared.form.Form.{Form}
use Rattle.sq_print.specs.declared.form.Form.TheVariants as form

abbrev pub rank : Form → ℕ
rank form.Term = 0
rank form.Atom = 1
rank form.Conjunction = 2
rank form.Disjunction = 3
rank form.Formula = 4

-- whether a term of the first form stands without parentheses where the second is wanted
abbrev pub fits : Form → Form → Bool
fits own place = nat_le (rank own) (rank place)

abbrev pub level_form : Level → Form
level_form level.Atom = form.Atom
level_form level.Conjunction = form.Conjunction
level_form level.Disjunction = form.Disjunction
level_form level.Formula = form.Formula

-- the forms that the two sides of a sign have without parentheses: signs group to the right
abbrev pub left_form : Level → Form
left_form level.Atom = form.Term
left_form level.Conjunction = form.Atom
left_form level.Disjunction = form.Conjunction
left_form level.Formula = form.Disjunction

abbrev pub right_form : Level → Form
right_form level.Atom = form.Term
right_form level.Conjunction = form.Conjunction
right_form level.Disjunction = form.Disjunction
right_form level.Formula = form.Formula

-- an application is laid out as its function has it, where it has no indices and as many arguments
-- as the function takes, and as a word elsewhere
abbrev pub layout_of : Kind → ℕ → ℕ → Layout
layout_of f indices count =
    if nat_eq indices 0 && nat_eq count (arguments f) then layout f else Word

abbrev pub layout_form : Layout → Form
layout_form Word = form.Term
layout_form (Infix l) = level_form l
layout_form Pair = form.Term
layout_form Conditional = form.Term

abbrev pub form_of : TermTree → Form
form_of (name n is) = form.Term
form_of (fun f is ts) = layout_form (layout_of f (length is) (count_terms ts))
form_of (macro m t) = form.Term
form_of (schema k) = form.Term
form_of (diff a b) = form.Term
form_of (le a b) = form.Atom
form_of (ts_eq a b) = form.Atom
form_of (idx_eq a b) = form.Atom
form_of (happens t) = form.Term
form_of (all s t) = form.Formula
form_of (some s t) = form.Formula
form_of (find n c a b) = form.Term
