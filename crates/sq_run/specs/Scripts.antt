-- The form of a file: constants, and then lemmas with their proofs; and the environment of these.
use Rattle.std.specs.Prelude.{ℕ, Bool, true, false, ◌&&◌, ◌+◌, List, [], ◌∷◌, ◌++◌, length, map}
use Rattle.std.specs.Prelude.{Option, Some, None, is_none, option_map, if◌then◌else◌, codes}
use Rattle.std.specs.Option.{option_and_then}
use Rattle.std.specs.Str.{bytes_eq}
use Rattle.sq_base.specs.declared.sort.Sort.TheVariants.{Boolean}
use Rattle.sq_token.specs.declared.kind.Reserved.{Reserved}
use Rattle.sq_token.specs.declared.kind.Reserved.TheVariants as reserved
use Rattle.sq_token.specs.Kinds.{reserved_of}
use Rattle.sq_sym.specs.declared.symbol.Symbol.{Symbol}
use Rattle.sq_sym.specs.declared.symbol.Symbol.TheVariants.{Fun, Statement}
use Rattle.sq_sym.specs.Declarations.{found}
use Rattle.sq_term.specs.declared.term.Side.TheVariants.{Both}
use Rattle.sq_typing.specs.Functions.{plain_function, builtin_functions}
use Rattle.sq_system.specs.declared.env.StmtKind.TheVariants as kind
use Rattle.sq_system.specs.Sequents.{local}
use Rattle.sq_system.specs.Statements.{StmtTree, EnvTree, no_actions}
use Rattle.sq_run.specs.declared.scan.Sentence.{Sentence}
use Rattle.sq_run.specs.declared.formula.Chain.{Chain}
use Rattle.sq_run.specs.declared.script.Command.{Command}
use Rattle.sq_run.specs.declared.script.Command.TheVariants.{Intro, Destruct, Split, Assumption}
use Rattle.sq_run.specs.declared.script.Place.{Place}
use Rattle.sq_run.specs.declared.script.Lemma.{Lemma}
use Rattle.sq_run.specs.declared.script.Stage.{Stage}
use Rattle.sq_run.specs.declared.script.Stage.TheVariants.{Outside, Stated, Proving}
use Rattle.sq_run.specs.declared.script.Script.{Script}
use Rattle.sq_run.specs.Formulas.{chain_of, tree_of, is_shallow}
use Rattle.sq_run.specs.Scanning.{is_word, sentences_of}

-- an identifier: a word that is not reserved
abbrev pub is_name : List ℕ → Bool
is_name text = is_word text && is_none (reserved_of text)

abbrev pub are_names : List ℕ → List ℕ → List ℕ → Bool
are_names hyp first second = is_name hyp && is_name first && is_name second

-- the words around the labels of `destruct`
abbrev pub is_destruct : List ℕ → List ℕ → Bool
is_destruct word as_ = bytes_eq word (codes "destruct") && bytes_eq as_ (codes "as")

abbrev pub destruct_of : List ℕ → List ℕ → List ℕ → List ℕ → List ℕ → Option Command
destruct_of word hyp as_ first second =
    if is_destruct word as_ && are_names hyp first second then Some (Destruct hyp first second)
    else None

abbrev pub command_of : List (List ℕ) → Option Command
command_of (word ∷ []) =
    if bytes_eq word (codes "split") then Some Split
    else (if bytes_eq word (codes "assumption") then Some Assumption else None)
command_of (word ∷ label ∷ []) =
    if bytes_eq word (codes "intro") && is_name label then Some (Intro label) else None
command_of (word ∷ hyp ∷ as_ ∷ first ∷ second ∷ []) = destruct_of word hyp as_ first second
command_of words = None

abbrev pub is_outside : Stage → Bool
is_outside Outside = true
is_outside stage = false

abbrev pub is_empty : List Lemma → Bool
is_empty [] = true
is_empty (l ∷ ls) = false

-- a name more, where it is not in the table yet
abbrev pub with_symbol : Script → List ℕ → Symbol → Option Script
with_symbol s name symbol =
    if is_none (found name s.table)
    then Some (record s { table = s.table ++ (name, symbol) ∷ [] }) else None

-- a Boolean constant more
abbrev pub with_constant : Script → Script
with_constant s = record s { funs = s.funs ++ plain_function 0 Boolean ∷ [] }

abbrev pub declared_constant : Script → List ℕ → Option Script
declared_constant s name = option_map with_constant (with_symbol s name (Fun (length s.funs)))

abbrev pub is_before_lemmas : Script → Bool
is_before_lemmas s = is_outside s.stage && is_empty s.lemmas

abbrev pub is_sort : List ℕ → List ℕ → Bool
is_sort colon sort = bytes_eq colon (codes ":") && bytes_eq sort (codes "boolean")

-- `abstract NAME : boolean`, in front of all lemmas
abbrev pub declared : Script → List (List ℕ) → Option Script
declared s (name ∷ colon ∷ sort ∷ []) =
    if is_sort colon sort && is_before_lemmas s && is_name name then declared_constant s name
    else None
declared s words = None

abbrev pub with_stage : Stage → Script → Script
with_stage stage s = record s { stage = stage }

abbrev pub stated_chain : Script → List ℕ → Option Chain → Option Script
stated_chain s name None = None
stated_chain s name (Some chain) =
    if is_shallow chain
    then option_map (with_stage (Stated name chain))
    (with_symbol s name (Statement (length s.lemmas)))
    else None

abbrev pub stated_formula : Script → List ℕ → List (List ℕ) → Option Script
stated_formula s name words = stated_chain s name (chain_of s.table words)

-- `lemma NAME : FORMULA`, where no lemma waits for its proof
abbrev pub stated : Script → List (List ℕ) → Option Script
stated s (name ∷ colon ∷ words) =
    if bytes_eq colon (codes ":") && is_outside s.stage && is_name name
    then stated_formula s name words else None
stated s words = None

abbrev pub begun_at : Script → Stage → Option Script
begun_at s (Stated name formula) = Some (record s { stage = Proving name formula [] })
begun_at s stage = None

-- `Proof` directly behind a lemma
abbrev pub begun : Script → List (List ℕ) → Option Script
begun s [] = begun_at s s.stage
begun s words = None

abbrev pub commanded_at : Script → Stage → Command → Place → Option Script
commanded_at s (Proving name formula tasks) command place =
    Some (record s {
      stage = Proving name formula (tasks ++ record { command = command; place = place } ∷ []);
    })
commanded_at s stage command place = None

-- a proof command, in a proof
abbrev pub commanded : Script → Option Command → Place → Option Script
commanded s None place = None
commanded s (Some command) place = commanded_at s s.stage command place

abbrev pub ended_at : Script → Stage → Place → Option Script
ended_at s (Proving name formula tasks) place =
    Some (record s {
      lemmas =
          s.lemmas
          ++ record { name = name; formula = formula; tasks = tasks; qed = place } ∷ [];
      stage = Outside;
    })
ended_at s stage place = None

-- `Qed`, in a proof
abbrev pub qed : Script → List (List ℕ) → Place → Option Script
qed s [] place = ended_at s s.stage place
qed s words place = None

-- a sentence by its first word
abbrev pub after_first : Script → Option Reserved → List ℕ → List (List ℕ) → Place → Option Script
after_first s (Some reserved.Abstract) first rest place = declared s rest
after_first s (Some reserved.Lemma) first rest place = stated s rest
after_first s (Some reserved.Proof) first rest place = begun s rest
after_first s (Some reserved.Qed) first rest place = qed s rest place
after_first s other first rest place = commanded s (command_of (first ∷ rest)) place

abbrev pub after_words : Script → List (List ℕ) → Place → Option Script
after_words s [] place = None
after_words s (first ∷ rest) place = after_first s (reserved_of first) first rest place

-- the sentences from one on, of which `number` went before
abbrev pub read_from : Option Script → ℕ → List Sentence → Option Script
read_from None number sentences = None
read_from (Some s) number [] = Some s
read_from (Some s) number (sentence ∷ sentences) =
    read_from (after_words s sentence.words (record { number = number + 1; at = sentence.at }))
    (number + 1) sentences

abbrev pub start : Script
start = record { table = []; funs = builtin_functions; lemmas = []; stage = Outside }

-- a file ends where no lemma waits for its proof's end
abbrev pub complete : Script → Option Script
complete s = if is_outside s.stage then Some s else None

-- What a file of the form holds, where each name is declared once, each formula uses declared names
-- alone, and none is too deep.
unfoldable pub script_of : List Sentence → Option Script
script_of sentences = option_and_then complete (read_from (Some start) 0 sentences)

-- what a file holds, where its bytes are of the form
unfoldable pub form_of : List ℕ → Option Script
form_of bytes = option_and_then script_of (sentences_of bytes)

-- ---- the environment that it declares

-- a lemma is shown on both sides, without variables and hypotheses, in the system without actions
abbrev pub statement_about : Chain → StmtTree
statement_about formula =
    record {
      kind = kind.Lemma;
      system = 0;
      schemas = [];
      vars = [];
      start = local Both [] [] (tree_of formula);
    }

abbrev pub statement_of : Lemma → StmtTree
statement_of l = statement_about l.formula

-- what the file declares and claims
abbrev pub environment_of : Script → EnvTree
environment_of s =
    record {
      names = [];
      funs = s.funs;
      systems = no_actions ∷ [];
      stmts = map statement_of s.lemmas;
    }
