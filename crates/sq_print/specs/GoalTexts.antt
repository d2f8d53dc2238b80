-- The printed form of open goals.
use Rattle.std.specs.Prelude.{ℕ, ◌+◌, List, [], ◌∷◌, ◌++◌, length, map, codes, if◌then◌else◌}
use Rattle.std.specs.Fmt.{decimal}
use Rattle.sq_base.specs.declared.sort.Sort.{Sort}
use Rattle.sq_term.specs.declared.term.Side.{Side}
use Rattle.sq_term.specs.declared.term.Side.TheVariants.{Left, Right, Both}
use Rattle.sq_term.specs.Syntax.{TermTree}
use Rattle.sq_term.specs.TreeEquality.{is_same_tree}
use Rattle.sq_sym.specs.declared.symbol.Symbol.{Symbol}
use Rattle.sq_system.specs.declared.sequent.OpenGoal.{OpenGoal}
use Rattle.sq_system.specs.Sequents.{Item, item, SequentTree, trace, local, equiv, sequent_tree}
use Rattle.sq_print.specs.Names.{Names, text_at}
use Rattle.sq_print.specs.Printed.{sort_text, joined, term_text}

abbrev pub newline : List ℕ
newline = 10 ∷ []

abbrev pub side_text : Side → List ℕ
side_text Left = codes "local left"
side_text Right = codes "local right"
side_text Both = codes "local"

abbrev pub kind_text : SequentTree → List ℕ
kind_text (trace vars hyps goal) = codes "trace"
kind_text (local side vars hyps goal) = side_text side
kind_text (equiv vars hyps known items) = codes "equiv"

-- the k-th variable with its sort
abbrev pub variable_text : List (List ℕ) → ℕ → Sort → List ℕ
variable_text names k s = text_at names k ++ (codes ":" ++ sort_text s)

-- the variables from the k-th on
abbrev pub variables_from : List (List ℕ) → ℕ → List Sort → List (List ℕ)
variables_from names k [] = []
variables_from names k (s ∷ ss) = variable_text names k s ∷ variables_from names (k + 1) ss

-- a line with the variables, where there are some
abbrev pub variables_text : List (List ℕ) → List Sort → List ℕ
variables_text names [] = []
variables_text names (s ∷ ss) = joined (codes ", ") (variables_from names 0 (s ∷ ss)) ++ newline

abbrev pub hypothesis_text : Names → List ℕ → TermTree → List ℕ
hypothesis_text ns label h = label ++ (codes " : " ++ (term_text ns [] h ++ newline))

-- a line for each hypothesis from the k-th on
abbrev pub hypotheses_text : Names → List (List ℕ) → ℕ → List TermTree → List ℕ
hypotheses_text ns labels k [] = []
hypotheses_text ns labels k (h ∷ hs) =
    hypothesis_text ns (text_at labels k) h ++ hypotheses_text ns labels (k + 1) hs

-- the one term of an item whose sides are the same, and both terms of another
abbrev pub item_text : Names → Item → List ℕ
item_text ns (item a b) =
    if is_same_tree a b then term_text ns [] a
    else codes "diff(" ++ (term_text ns [] a ++ (codes "," ++ (term_text ns [] b ++ codes ")")))

abbrev pub known_line : Names → List ℕ → List Item → List ℕ
known_line ns label is =
    label ++ (codes " ~ " ++ (joined (codes ", ") (map (item_text ns) is) ++ newline))

-- a line for each known list from the k-th on
abbrev pub known_text : Names → List (List ℕ) → ℕ → List (List Item) → List ℕ
known_text ns labels k [] = []
known_text ns labels k (is ∷ iss) =
    known_line ns (text_at labels k) is ++ known_text ns labels (k + 1) iss

abbrev pub item_line : Names → ℕ → Item → List ℕ
item_line ns k i = decimal k ++ (codes ": " ++ (item_text ns i ++ newline))

-- a line for each item from the k-th on
abbrev pub items_text : Names → ℕ → List Item → List ℕ
items_text ns k [] = []
items_text ns k (i ∷ is) = item_line ns k i ++ items_text ns (k + 1) is

abbrev pub rule : List ℕ
rule = codes "----" ++ newline

-- what stands behind the first line of a block: its variables, hypotheses and known lists, and what
-- is to be shown
abbrev pub sequent_text : Names → List (List ℕ) → List (List ℕ) → SequentTree → List ℕ
sequent_text ns labels known_labels (trace vars hyps goal) =
    variables_text ns.vars vars ++
    (hypotheses_text ns labels 0 hyps ++ (rule ++ (term_text ns [] goal ++ newline)))
sequent_text ns labels known_labels (local side vars hyps goal) =
    variables_text ns.vars vars ++
    (hypotheses_text ns labels 0 hyps ++ (rule ++ (term_text ns [] goal ++ newline)))
sequent_text ns labels known_labels (equiv vars hyps known items) =
    variables_text ns.vars vars ++
    (hypotheses_text ns labels 0 hyps ++
    (known_text ns known_labels 0 known ++ (rule ++ items_text ns 0 items)))

abbrev pub goal_names : ℕ → List (List ℕ × Symbol) → OpenGoal → Names
goal_names system table g =
    record { schemas = g.schemas; vars = g.vars; system = system; table = table }

-- the block of the k-th of m goals
abbrev pub goal_text : ℕ → List (List ℕ × Symbol) → ℕ → ℕ → OpenGoal → List ℕ
goal_text system table k m g =
    codes "goal " ++
    (decimal k ++
    (codes " of " ++
    (decimal m ++ (codes " (" ++ (kind_text (sequent_tree g.sequent) ++ (codes ")" ++ (newline
    ++ sequent_text (goal_names system table g) g.labels g.known (sequent_tree g.sequent))))))))

-- the blocks of the goals from the k-th on
abbrev pub goals_from : ℕ → List (List ℕ × Symbol) → ℕ → ℕ → List OpenGoal → List ℕ
goals_from system table k m [] = []
goals_from system table k m (g ∷ gs) =
    goal_text system table k m g ++ goals_from system table (k + 1) m gs

-- all blocks, counted from 1
abbrev pub goals_text : ℕ → List (List ℕ × Symbol) → List OpenGoal → List ℕ
goals_text system table [] = codes "no open goal" ++ newline
goals_text system table (g ∷ gs) = goals_from system table 1 (length (g ∷ gs)) (g ∷ gs)
