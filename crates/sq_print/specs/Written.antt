-- A text with the printed form of a term at its end.
use Rattle.std.specs.Prelude.{ℕ, ◌+◌, Bool, true, false, ◌&&◌, nat_eq, List, [], ◌∷◌, ◌++◌, length}
use Rattle.std.specs.Prelude.{reverse, codes, if◌then◌else◌}
use Rattle.sq_base.specs.declared.sort.Sort.{Sort}
use Rattle.sq_term.specs.declared.term.Idx.{Idx}
use Rattle.sq_term.specs.declared.layout.Layout.{Layout}
use Rattle.sq_term.specs.declared.layout.Layout.TheVariants.{Word, Infix, Pair, Conditional}
use Rattle.sq_term.specs.Builtins.{sign}
use Rattle.sq_term.specs.Measure.{count_terms}
use Rattle.sq_term.specs.Syntax.{TsTree, free, bound, init, pred, action, TermTree, name, fun}
use Rattle.sq_term.specs.Syntax.{macro, schema, diff, le, ts_eq, idx_eq, happens, all, some, find}
use Rattle.sq_term.specs.Syntax.{TermTrees, nil, cons}
use Rattle.sq_print.specs.declared.form.Form.{Form}
use Rattle.sq_print.specs.declared.form.Form.TheVariants as form
use Rattle.sq_print.specs.Forms.{fits, left_form, right_form, layout_of, form_of}
use Rattle.sq_print.specs.Names.{Names, text_at, name_word, action_word, function_word, binder_name}
use Rattle.sq_print.specs.Names.{bound_names}
use Rattle.sq_print.specs.Printed.{sort_text, macro_text, idx_text}

abbrev pub opened : Form → Form → List ℕ → List ℕ
opened place own out = if fits own place then out else out ++ codes "("

abbrev pub closed : Form → Form → List ℕ → List ℕ
closed place own out = if fits own place then out else out ++ codes ")"

-- a call without arguments is not closed
abbrev pub ended : Bool → List ℕ → List ℕ
ended true out = out
ended false out = out ++ codes ")"

abbrev pub is_none : {A : Type 0} → List A → Bool
is_none [] = true
is_none (x ∷ xs) = false

abbrev pub are_none : TermTrees → Bool
are_none nil = true
are_none (cons t ts) = false

-- what stands before the k-th argument of a layout, where it stands, and what ends the layout
abbrev pub wrote_before : Layout → ℕ → List ℕ → List ℕ
wrote_before Word k out = out
wrote_before (Infix l) k out =
    if nat_eq k 0 then out else ((out ++ codes " ") ++ sign l) ++ codes " "
wrote_before Pair k out = if nat_eq k 0 then out ++ codes "<" else out ++ codes ","
wrote_before Conditional k out =
    if nat_eq k 0 then out ++ codes "if "
    else (if nat_eq k 1 then out ++ codes " then " else out ++ codes " else ")

abbrev pub place : Layout → ℕ → Form
place Word k = form.Term
place (Infix l) k = if nat_eq k 0 then left_form l else right_form l
place Pair k = form.Term
place Conditional k = if nat_eq k 0 then form.Formula else form.Term

abbrev pub end : Layout → List ℕ
end Pair = codes ">"
end l = []

abbrev pub wrote_names : List ℕ → List ℕ → List (List ℕ) → List ℕ
wrote_names sep out [] = out
wrote_names sep out (x ∷ xs) = wrote_names (codes ", ") ((out ++ sep) ++ x) xs

abbrev pub wrote_indices : Names → List (List ℕ) → List ℕ → List ℕ → List Idx → List ℕ
wrote_indices ns around sep out [] = out
wrote_indices ns around sep out (i ∷ is) =
    wrote_indices ns around (codes ",") ((out ++ sep) ++ idx_text ns around i) is

abbrev pub wrote_call : Names → List (List ℕ) → List ℕ → List Idx → List ℕ
wrote_call ns around out is = ended (is_none is) (wrote_indices ns around (codes "(") out is)

abbrev pub wrote_ts : Names → List (List ℕ) → List ℕ → TsTree → List ℕ
wrote_ts ns around out (free k) = out ++ text_at ns.vars k
wrote_ts ns around out (bound k) = out ++ text_at (reverse around) k
wrote_ts ns around out init = out ++ codes "init"
wrote_ts ns around out (pred t) = wrote_ts ns around (out ++ codes "pred(") t ++ codes ")"
wrote_ts ns around out (action a is) = wrote_call ns around (out ++ action_word ns a) is

abbrev pub wrote_binder : List ℕ → List ℕ → Sort → List ℕ → List ℕ
wrote_binder word x s out =
    (((((out ++ word) ++ codes " (") ++ x) ++ codes ":") ++ sort_text s) ++ codes "), "

abbrev pub first_before : List Idx → List ℕ
first_before [] = codes "("
first_before (i ∷ is) = codes ","

abbrev pub by_layout : Layout → List ℕ → List ℕ → List ℕ
by_layout Word called laid = called
by_layout l called laid = laid

abbrev mutual
  pub wrote : Names → List (List ℕ) → List ℕ → TermTree → List ℕ
  wrote ns around out (name n is) = wrote_call ns around (out ++ name_word ns n) is
  wrote ns around out (fun f is ts) =
      by_layout (layout_of f (length is) (count_terms ts))
      (ended (is_none is && are_none ts) (wrote_arguments ns around (first_before is)
      (wrote_indices ns around (codes "(") (out ++ function_word ns f) is) ts))
      (wrote_parts ns around (layout_of f (length is) (count_terms ts)) 0 out ts
      ++ end (layout_of f (length is) (count_terms ts)))
  wrote ns around out (macro m t) = wrote_ts ns around ((out ++ macro_text m) ++ codes "@") t
  wrote ns around out (schema k) = out ++ text_at ns.schemas k
  wrote ns around out (diff a b) =
      wrote ns around (wrote ns around (out ++ codes "diff(") a ++ codes ",") b ++ codes ")"
  wrote ns around out (le a b) = wrote_ts ns around (wrote_ts ns around out a ++ codes " <= ") b
  wrote ns around out (ts_eq a b) = wrote_ts ns around (wrote_ts ns around out a ++ codes " = ") b
  wrote ns around out (idx_eq i j) =
      ((out ++ idx_text ns around i) ++ codes " = ") ++ idx_text ns around j
  wrote ns around out (happens t) = wrote_ts ns around (out ++ codes "happens(") t ++ codes ")"
  wrote ns around out (all s t) =
      wrote ns (around ++ binder_name ns around s ∷ [])
      (wrote_binder (codes "forall") (binder_name ns around s) s out) t
  wrote ns around out (some s t) =
      wrote ns (around ++ binder_name ns around s ∷ [])
      (wrote_binder (codes "exists") (binder_name ns around s) s out) t
  wrote ns around out (find n t u v) =
      closed form.Term (form_of v) (wrote ns around (opened form.Term (form_of v)
      (closed form.Term (form_of u)
      (wrote ns (around ++ bound_names ns around n) (opened form.Term (form_of u)
      (wrote ns (around ++ bound_names ns around n)
      (wrote_names [] (out ++ codes "find ") (bound_names ns around n) ++ codes " such that ") t
      ++ codes " in ")) u) ++ codes " else ")) v)

  pub wrote_parts : Names → List (List ℕ) → Layout → ℕ → List ℕ → TermTrees → List ℕ
  wrote_parts ns around l k out nil = out
  wrote_parts ns around l k out (cons t ts) =
      wrote_parts ns around l (k + 1)
      (closed (place l k) (form_of t)
      (wrote ns around (opened (place l k) (form_of t) (wrote_before l k out)) t)) ts

  pub wrote_arguments : Names → List (List ℕ) → List ℕ → List ℕ → TermTrees → List ℕ
  wrote_arguments ns around sep out nil = out
  wrote_arguments ns around sep out (cons t ts) =
      wrote_arguments ns around (codes ",") (wrote ns around (out ++ sep) t) ts

-- a message where it stands without parentheses
abbrev pub wrote_branch : Names → List (List ℕ) → List ℕ → TermTree → List ℕ
wrote_branch ns around out t =
    closed form.Term (form_of t) (wrote ns around (opened form.Term (form_of t) out) t)

-- a quantifier with this word
abbrev pub wrote_quantified : Names → List (List ℕ) → List ℕ → Sort → List ℕ → TermTree → List ℕ
wrote_quantified ns around word s out t =
    wrote ns (around ++ binder_name ns around s ∷ [])
    (wrote_binder word (binder_name ns around s) s out) t
