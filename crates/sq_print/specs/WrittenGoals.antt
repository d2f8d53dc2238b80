-- A text with lines of a goal at its end.
use Rattle.std.specs.Prelude.{◌≡◌, ℕ, ◌+◌, List, [], ◌∷◌, ◌++◌, codes, if◌then◌else◌}
use Rattle.std.specs.Fmt.{decimal}
use Rattle.sq_base.specs.declared.sort.Sort.{Sort}
use Rattle.sq_term.specs.Syntax.{TermTree}
use Rattle.sq_term.specs.TreeEquality.{is_same_tree}
use Rattle.sq_sym.specs.declared.symbol.Symbol.{Symbol}
use Rattle.sq_system.specs.Sequents.{Item, item, SequentTree, trace, local, equiv, sequent_tree}
use Rattle.sq_system.specs.declared.sequent.OpenGoal.{OpenGoal}
use Rattle.sq_print.specs.declared.binders.Binders.{Binders}
use Rattle.sq_print.specs.Names.{Names, text_at}
use Rattle.sq_print.specs.Printed.{sort_text, term_text}
use Rattle.sq_print.specs.Supplies.{IsAround}
use Rattle.sq_print.specs.GoalTexts.{newline, rule, kind_text, goal_names}

-- no binder is around
pub record StandsAlone (ns : Names) (b : Binders) : Type 0 where
  pub none : b.around ≡ []
  pub is_around : IsAround ns b

abbrev pub wrote_variable : List (List ℕ) → ℕ → Sort → List ℕ → List ℕ
wrote_variable names k s out = ((out ++ text_at names k) ++ codes ":") ++ sort_text s

abbrev pub wrote_sorts : List (List ℕ) → ℕ → List ℕ → List ℕ → List Sort → List ℕ
wrote_sorts names k sep out [] = out
wrote_sorts names k sep out (s ∷ ss) =
    wrote_sorts names (k + 1) (codes ", ") (wrote_variable names k s (out ++ sep)) ss

abbrev pub wrote_variables : List (List ℕ) → List ℕ → List Sort → List ℕ
wrote_variables names out [] = out
wrote_variables names out (s ∷ ss) = wrote_sorts names 0 [] out (s ∷ ss) ++ newline

abbrev pub wrote_hypothesis : Names → List ℕ → TermTree → List ℕ → List ℕ
wrote_hypothesis ns label h out = (((out ++ label) ++ codes " : ") ++ term_text ns [] h) ++ newline

abbrev pub wrote_hypotheses : Names → List (List ℕ) → ℕ → List ℕ → List TermTree → List ℕ
wrote_hypotheses ns labels k out [] = out
wrote_hypotheses ns labels k out (h ∷ hs) =
    wrote_hypotheses ns labels (k + 1) (wrote_hypothesis ns (text_at labels k) h out) hs

abbrev pub wrote_item : Names → List ℕ → Item → List ℕ
wrote_item ns out (item a b) =
    if is_same_tree a b then out ++ term_text ns [] a
    else ((((out ++ codes "diff(") ++ term_text ns [] a) ++ codes ",") ++ term_text ns [] b) ++
    codes ")"

abbrev pub wrote_list : Names → List ℕ → List ℕ → List Item → List ℕ
wrote_list ns sep out [] = out
wrote_list ns sep out (i ∷ is) = wrote_list ns (codes ", ") (wrote_item ns (out ++ sep) i) is

abbrev pub wrote_known_line : Names → List ℕ → List Item → List ℕ → List ℕ
wrote_known_line ns label is out = wrote_list ns [] ((out ++ label) ++ codes " ~ ") is ++ newline

abbrev pub wrote_known : Names → List (List ℕ) → ℕ → List ℕ → List (List Item) → List ℕ
wrote_known ns labels k out [] = out
wrote_known ns labels k out (is ∷ iss) =
    wrote_known ns labels (k + 1) (wrote_known_line ns (text_at labels k) is out) iss

abbrev pub wrote_item_line : Names → ℕ → Item → List ℕ → List ℕ
wrote_item_line ns k i out = wrote_item ns ((out ++ decimal k) ++ codes ": ") i ++ newline

abbrev pub wrote_items : Names → ℕ → List ℕ → List Item → List ℕ
wrote_items ns k out [] = out
wrote_items ns k out (i ∷ is) = wrote_items ns (k + 1) (wrote_item_line ns k i out) is

abbrev pub wrote_shown : Names → TermTree → List ℕ → List ℕ
wrote_shown ns t out = ((out ++ rule) ++ term_text ns [] t) ++ newline

abbrev pub wrote_sequent : Names → List (List ℕ) → List (List ℕ) → List ℕ → SequentTree → List ℕ
wrote_sequent ns labels known_labels out (trace vars hyps goal) =
    wrote_shown ns goal (wrote_hypotheses ns labels 0 (wrote_variables ns.vars out vars) hyps)
wrote_sequent ns labels known_labels out (local side vars hyps goal) =
    wrote_shown ns goal (wrote_hypotheses ns labels 0 (wrote_variables ns.vars out vars) hyps)
wrote_sequent ns labels known_labels out (equiv vars hyps known items) =
    wrote_items ns 0
    (wrote_known ns known_labels 0
    (wrote_hypotheses ns labels 0 (wrote_variables ns.vars out vars) hyps) known ++ rule) items

abbrev pub wrote_goal : ℕ → List (List ℕ × Symbol) → ℕ → ℕ → OpenGoal → List ℕ → List ℕ
wrote_goal system table k m g out =
    wrote_sequent (goal_names system table g) g.labels g.known
    (((((((out ++ codes "goal ") ++ decimal k) ++ codes " of ") ++ decimal m) ++ codes " (") ++
    kind_text (sequent_tree g.sequent)) ++ (codes ")" ++ newline))
    (sequent_tree g.sequent)

abbrev pub wrote_goals : ℕ → List (List ℕ × Symbol) → ℕ → ℕ → List ℕ → List OpenGoal → List ℕ
wrote_goals system table k m out [] = out
wrote_goals system table k m out (g ∷ gs) =
    wrote_goals system table (k + 1) m (wrote_goal system table (k + 1) m g out) gs
