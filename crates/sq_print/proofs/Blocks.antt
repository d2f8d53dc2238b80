-- The lines that are written behind a text are those of the goal's block.
use Rattle.std.proofs.Common.{◌≡◌, ◌+◌, ◌<◌, arith, ℕ, Bool, true, false, if◌then◌else◌, List, []}
use Rattle.std.proofs.Common.{◌∷◌, ◌++◌}
use Rattle.std.proofs.Common.{length, map, codes, append_assoc, append-nil, refl, sym, ap, ◌∙◌}
use Rattle.std.specs.Fmt.{decimal}
use Rattle.sq_base.specs.declared.sort.Sort.{Sort}
use Rattle.sq_term.specs.Syntax.{TermTree}
use Rattle.sq_term.specs.TreeEquality.{is_same_tree}
use Rattle.sq_sym.specs.declared.symbol.Symbol.{Symbol}
use Rattle.sq_system.specs.Sequents.{Item, item, SequentTree, trace, local, equiv, sequent_tree}
use Rattle.sq_system.specs.declared.sequent.OpenGoal.{OpenGoal}
use Rattle.sq_print.specs.Names.{Names, text_at}
use Rattle.sq_print.specs.Printed.{term_text, joined}
use Rattle.sq_print.specs.GoalTexts.{newline, rule, kind_text, goal_names, variables_from}
use Rattle.sq_print.specs.GoalTexts.{variables_text, hypotheses_text, item_text, known_line}
use Rattle.sq_print.specs.GoalTexts.{known_text, item_line, items_text, sequent_text, goal_text}
use Rattle.sq_print.specs.GoalTexts.{goals_from, goals_text}
use Rattle.sq_print.specs.WrittenGoals.{wrote_variable, wrote_sorts, wrote_variables}
use Rattle.sq_print.specs.WrittenGoals.{wrote_hypothesis, wrote_hypotheses, wrote_item, wrote_list}
use Rattle.sq_print.specs.WrittenGoals.{wrote_known_line, wrote_known, wrote_item_line, wrote_items}
use Rattle.sq_print.specs.WrittenGoals.{wrote_shown, wrote_sequent, wrote_goal, wrote_goals}
use Rattle.sq_print.proofs.Behind.{spaced, joined_is, one_more}

sorts_behind : (names : List (List ℕ)) (k : ℕ) (sep out : List ℕ) (ss : List Sort)
    → wrote_sorts names k sep out ss ≡ out ++ spaced sep (codes ", ") (variables_from names k ss)
sorts_behind names k sep out [] = sym (append-nil out)
sorts_behind names k sep out (s ∷ ss) =
    sorts_behind names (k + 1) (codes ", ") (wrote_variable names k s (out ++ sep)) ss
    ∙ simp append_assoc

pub variables_behind : (names : List (List ℕ)) (out : List ℕ) (ss : List Sort)
    → wrote_variables names out ss ≡ out ++ variables_text names ss
variables_behind names out [] = sym (append-nil out)
variables_behind names out (s ∷ ss) =
    ap (λ r. r ++ newline)
    (sorts_behind names 0 [] out (s ∷ ss)
    ∙ ap (λ r. out ++ r) (joined_is (codes ", ") (variables_from names 0 (s ∷ ss))))
    ∙ append_assoc out (joined (codes ", ") (variables_from names 0 (s ∷ ss))) newline

pub hypotheses_behind : (ns : Names) (labels : List (List ℕ)) (k : ℕ) (out : List ℕ)
    (hs : List TermTree)
    → wrote_hypotheses ns labels k out hs ≡ out ++ hypotheses_text ns labels k hs
hypotheses_behind ns labels k out [] = sym (append-nil out)
hypotheses_behind ns labels k out (h ∷ hs) =
    hypotheses_behind ns labels (k + 1) (wrote_hypothesis ns (text_at labels k) h out) hs
    ∙ simp append_assoc

item_behind : (ns : Names) (out : List ℕ) (i : Item) → wrote_item ns out i ≡ out ++ item_text ns i
item_behind ns out (item a b) = by (is_same_tree a b)
  where
    by : (s : Bool)
        → (if s then out ++ term_text ns [] a
        else ((((out ++ codes "diff(") ++ term_text ns [] a) ++ codes ",") ++ term_text ns [] b
        ++ codes
        ")"))
        ≡ out ++ (if s then term_text ns [] a else (codes "diff(" ++
        (term_text ns [] a ++ (codes "," ++ (term_text ns [] b ++ codes ")")))))
    by true = refl
    by false = simp append_assoc

list_behind : (ns : Names) (sep out : List ℕ) (is : List Item)
    → wrote_list ns sep out is ≡ out ++ spaced sep (codes ", ") (map (item_text ns) is)
list_behind ns sep out [] = sym (append-nil out)
list_behind ns sep out (i ∷ is) =
    list_behind ns (codes ", ") (wrote_item ns (out ++ sep) i) is
    ∙ (ap (λ r. r ++ spaced (codes ", ") (codes ", ") (map (item_text ns) is))
    (item_behind ns (out ++ sep) i)
    ∙ one_more out sep (item_text ns i) (spaced (codes ", ") (codes ", ") (map (item_text ns) is)))

known_line_behind : (ns : Names) (label : List ℕ) (is : List Item) (out : List ℕ)
    → wrote_known_line ns label is out ≡ out ++ known_line ns label is
known_line_behind ns label is out =
    ap (λ r. r ++ newline) (list_behind ns [] ((out ++ label) ++ codes " ~ ") is
    ∙ ap (λ r. ((out ++ label) ++ codes " ~ ") ++ r)
    (joined_is (codes ", ") (map (item_text ns) is)))
    ∙ simp append_assoc

pub known_behind : (ns : Names) (labels : List (List ℕ)) (k : ℕ) (out : List ℕ)
    (iss : List (List Item)) → wrote_known ns labels k out iss ≡ out ++ known_text ns labels k iss
known_behind ns labels k out [] = sym (append-nil out)
known_behind ns labels k out (is ∷ iss) =
    known_behind ns labels (k + 1) (wrote_known_line ns (text_at labels k) is out) iss
    ∙ (ap (λ r. r ++ known_text ns labels (k + 1) iss)
    (known_line_behind ns (text_at labels k) is out)
    ∙ append_assoc out (known_line ns (text_at labels k) is) (known_text ns labels (k + 1) iss))

item_line_behind : (ns : Names) (k : ℕ) (i : Item) (out : List ℕ)
    → wrote_item_line ns k i out ≡ out ++ item_line ns k i
item_line_behind ns k i out =
    ap (λ r. r ++ newline) (item_behind ns ((out ++ decimal k) ++ codes ": ") i) ∙ simp append_assoc

pub items_behind : (ns : Names) (k : ℕ) (out : List ℕ) (is : List Item)
    → wrote_items ns k out is ≡ out ++ items_text ns k is
items_behind ns k out [] = sym (append-nil out)
items_behind ns k out (i ∷ is) =
    items_behind ns (k + 1) (wrote_item_line ns k i out) is
    ∙ (ap (λ r. r ++ items_text ns (k + 1) is) (item_line_behind ns k i out)
    ∙ append_assoc out (item_line ns k i) (items_text ns (k + 1) is))

head_behind : (ns : Names) (labels : List (List ℕ)) (out : List ℕ) (vars : List Sort)
    (hyps : List TermTree)
    → wrote_hypotheses ns labels 0 (wrote_variables ns.vars out vars) hyps
    ≡ out ++ (variables_text ns.vars vars ++ hypotheses_text ns labels 0 hyps)
head_behind ns labels out vars hyps =
    hypotheses_behind ns labels 0 (wrote_variables ns.vars out vars) hyps
    ∙ (ap (λ r. r ++ hypotheses_text ns labels 0 hyps) (variables_behind ns.vars out vars)
    ∙ append_assoc out (variables_text ns.vars vars) (hypotheses_text ns labels 0 hyps))

shown_behind : (ns : Names) (labels : List (List ℕ)) (out : List ℕ) (vars : List Sort)
    (hyps : List TermTree) (goal : TermTree)
    → wrote_shown ns goal (wrote_hypotheses ns labels 0 (wrote_variables ns.vars out vars) hyps)
    ≡ out ++ (variables_text ns.vars vars ++
    (hypotheses_text ns labels 0 hyps ++ (rule ++ (term_text ns [] goal ++ newline))))
shown_behind ns labels out vars hyps goal =
    ap (wrote_shown ns goal) (head_behind ns labels out vars hyps) ∙ simp append_assoc

pub sequent_behind : (ns : Names) (labels known_labels : List (List ℕ)) (out : List ℕ)
    (s : SequentTree) → wrote_sequent ns labels known_labels out s
    ≡ out ++ sequent_text ns labels known_labels s
sequent_behind ns labels known_labels out (trace vars hyps goal) =
    shown_behind ns labels out vars hyps goal
sequent_behind ns labels known_labels out (local side vars hyps goal) =
    shown_behind ns labels out vars hyps goal
sequent_behind ns labels known_labels out (equiv vars hyps known items) =
    let head = wrote_hypotheses ns labels 0 (wrote_variables ns.vars out vars) hyps in
    items_behind ns 0 (wrote_known ns known_labels 0 head known ++ rule) items
    ∙ (ap (λ r. (r ++ rule) ++ items_text ns 0 items) (known_behind ns known_labels 0 head known
    ∙ ap (λ r. r ++ known_text ns known_labels 0 known) (head_behind ns labels out vars hyps))
    ∙ simp append_assoc)

goal_behind : (system : ℕ) (table : List (List ℕ × Symbol)) (k m : ℕ) (g : OpenGoal) (out : List ℕ)
    → wrote_goal system table k m g out ≡ out ++ goal_text system table k m g
goal_behind system table k m g out =
    sequent_behind (goal_names system table g) g.labels g.known
    (((((((out ++ codes "goal ") ++ decimal k) ++ codes " of ") ++ decimal m) ++ codes " (") ++
    kind_text (sequent_tree g.sequent)) ++ (codes ")" ++ newline)) (sequent_tree g.sequent)
    ∙ by (kind_text (sequent_tree g.sequent))
    (sequent_text (goal_names system table g) g.labels g.known (sequent_tree g.sequent))
  where
    by : (kind rest : List ℕ)
        → (((((((out ++ codes "goal ") ++ decimal k) ++ codes " of ") ++ decimal m) ++ codes " (")
        ++ kind) ++ (codes ")" ++ newline)) ++ rest
        ≡ out ++ (codes "goal " ++
        (decimal k ++
        (codes " of " ++
        (decimal m ++ (codes " (" ++ (kind ++ (codes ")" ++ (newline ++ rest))))))))
    by kind rest = simp append_assoc

pub goals_behind : (system : ℕ) (table : List (List ℕ × Symbol)) (k m : ℕ) (out : List ℕ)
    (gs : List OpenGoal)
    → wrote_goals system table k m out gs ≡ out ++ goals_from system table (k + 1) m gs
goals_behind system table k m out [] = sym (append-nil out)
goals_behind system table k m out (g ∷ gs) =
    goals_behind system table (k + 1) m (wrote_goal system table (k + 1) m g out) gs
    ∙ (ap (λ r. r ++ goals_from system table (k + 1 + 1) m gs)
    (goal_behind system table (k + 1) m g out)
    ∙ append_assoc out (goal_text system table (k + 1) m g)
    (goals_from system table (k + 1 + 1) m gs))

-- the text of a list of goals that is not empty
pub all_goals : (system : ℕ) (table : List (List ℕ × Symbol)) (gs : List OpenGoal) → 0 < length gs
    → wrote_goals system table 0 (length gs) [] gs ≡ goals_text system table gs
all_goals system table [] h = absurd (omega arith)
all_goals system table (g ∷ gs) h = goals_behind system table 0 (length (g ∷ gs)) [] (g ∷ gs)

pub no_goals : (system : ℕ) (table : List (List ℕ × Symbol)) (gs : List OpenGoal) → length gs ≡ 0
    → codes "no open goal" ++ newline ≡ goals_text system table gs
no_goals system table [] h = refl
no_goals system table (g ∷ gs) h = absurd (omega arith)

pub no_variables : (names : List (List ℕ)) (out : List ℕ) (ss : List Sort) → length ss ≡ 0
    → out ≡ wrote_variables names out ss
no_variables names out [] h = refl
no_variables names out (s ∷ ss) h = absurd (omega arith)

pub some_variables : (names : List (List ℕ)) (out : List ℕ) (ss : List Sort) → (length ss ≡ 0 → ⊥)
    → wrote_sorts names 0 [] out ss ++ newline ≡ wrote_variables names out ss
some_variables names out [] h = absurd (h refl)
some_variables names out (s ∷ ss) h = refl

pub some_goals : (gs : List OpenGoal) → (length gs ≡ 0 → ⊥) → 0 < length gs
some_goals [] h = absurd (h refl)
some_goals (g ∷ gs) h = omega arith
