-- The form of a file: constants, and then lemmas with their proofs. Its sentences, and what it
-- declares and claims.
use Rattle.std.specs.Prelude.{◌≡◌, ℕ, Bool, true, false, ◌+◌, ◌≤◌, List, [], ◌∷◌, ◌++◌, length}
use Rattle.std.specs.Prelude.{map, flat_map, unwrap_or, codes}
use Rattle.std.specs.List.{list_any, list_all}
use Rattle.std.specs.Str.{bytes_eq}
use Rattle.sq_base.specs.declared.sort.Sort.TheVariants.{Boolean}
use Rattle.sq_sym.specs.declared.symbol.Symbol.TheVariants.{Fun, Statement}
use Rattle.sq_term.specs.declared.signature.FunDecl.{FunDecl}
use Rattle.sq_term.specs.Measure.{depth}
use Rattle.sq_typing.specs.Functions.{plain_function, builtin_functions}
use Rattle.sq_run.specs.declared.scan.Sentence.{Sentence}
use Rattle.sq_run.specs.declared.formula.Connective.{Connective}
use Rattle.sq_run.specs.declared.formula.Connective.TheVariants.{And, Implies}
use Rattle.sq_run.specs.declared.formula.Chain.{Chain}
use Rattle.sq_run.specs.declared.script.Command.{Command}
use Rattle.sq_run.specs.declared.script.Command.TheVariants.{Intro, Destruct, Split, Assumption}
use Rattle.sq_run.specs.declared.script.Task.{Task}
use Rattle.sq_run.specs.declared.script.Lemma.{Lemma}
use Rattle.sq_run.specs.declared.script.Stage.TheVariants.{Outside}
use Rattle.sq_run.specs.declared.script.Script.{Script}
use Rattle.sq_run.specs.Formulas.{Declarations, function_of, most_depth}
use Rattle.sq_run.specs.Grammar.{Conj, single, both, Formula, conj, implies, formula_words}
use Rattle.sq_run.specs.Grammar.{formula_tree}
use Rattle.sq_run.specs.Scripts.{is_name}

-- `abstract NAME : boolean.`, with its sentence's place
pub record Constant : Type 0 where
  pub name : List ℕ
  pub at : ℕ

-- a proof command, with its sentence's place
pub record Placed : Type 0 where
  pub command : Command
  pub at : ℕ

-- `lemma NAME : FORMULA.`, `Proof.`, commands and `Qed.`, each with its sentence's place
pub record Claim : Type 0 where
  pub name : List ℕ
  pub formula : Formula
  pub at : ℕ
  pub proof : ℕ
  pub commands : List Placed
  pub qed : ℕ

pub record File : Type 0 where
  pub constants : List Constant
  pub claims : List Claim

-- the sentences of a file

abbrev pub sentence : List (List ℕ) → ℕ → Sentence
sentence words at = record { words = words; at = at }

abbrev pub constant_words : List ℕ → List (List ℕ)
constant_words name = codes "abstract" ∷ name ∷ codes ":" ∷ codes "boolean" ∷ []

abbrev pub claim_words : List ℕ → Formula → List (List ℕ)
claim_words name formula = codes "lemma" ∷ name ∷ codes ":" ∷ formula_words formula

abbrev pub command_words : Command → List (List ℕ)
command_words (Intro label) = codes "intro" ∷ label ∷ []
command_words (Destruct hyp first second) =
    codes "destruct" ∷ hyp ∷ codes "as" ∷ first ∷ second ∷ []
command_words Split = codes "split" ∷ []
command_words Assumption = codes "assumption" ∷ []

abbrev pub constant_sentence : Constant → Sentence
constant_sentence c = sentence (constant_words c.name) c.at

abbrev pub command_sentence : Placed → Sentence
command_sentence p = sentence (command_words p.command) p.at

abbrev pub claim_sentences : Claim → List Sentence
claim_sentences c =
    sentence (claim_words c.name c.formula) c.at ∷ sentence (codes "Proof" ∷ []) c.proof
    ∷ (map command_sentence c.commands ++ (sentence (codes "Qed" ∷ []) c.qed ∷ []))

abbrev pub file_sentences : File → List Sentence
file_sentences f = map constant_sentence f.constants ++ flat_map claim_sentences f.claims

-- which files are of the form

abbrev pub is_among : List ℕ → List (List ℕ) → Bool
is_among name names = list_any (bytes_eq name) names

abbrev pub conj_names : Conj → List (List ℕ)
conj_names (single x) = x ∷ []
conj_names (both x c) = x ∷ conj_names c

-- the names that a formula uses
abbrev pub formula_names : Formula → List (List ℕ)
formula_names (conj c) = conj_names c
formula_names (implies c f) = conj_names c ++ formula_names f

abbrev pub constant_name : Constant → List ℕ
constant_name c = c.name

abbrev pub claim_name : Claim → List ℕ
claim_name c = c.name

-- the constants in the order of their numbers, from this number on
abbrev pub constant_table : ℕ → List (List ℕ) → Declarations
constant_table n [] = []
constant_table n (name ∷ names) = (name, Fun n) ∷ constant_table (n + 1) names

-- the lemmas in the order of their numbers, from this number on
abbrev pub claim_table : ℕ → List (List ℕ) → Declarations
claim_table n [] = []
claim_table n (name ∷ names) = (name, Statement n) ∷ claim_table (n + 1) names

-- the constants of these names: their numbers follow those of the functions that every signature
-- begins with
abbrev pub constants_of : List (List ℕ) → Declarations
constants_of names = constant_table (length builtin_functions) names

-- a name that is declared once
pub record IsNew (constants claims : List (List ℕ)) (name : List ℕ) : Type 0 where
  pub identifier : is_name name ≡ true
  pub no_constant : is_among name constants ≡ false
  pub no_claim : is_among name claims ≡ false

abbrev pub AreConstants : List (List ℕ) → List Constant → Type 0
AreConstants before [] = Unit {0}
AreConstants before (c ∷ constants) =
    IsNew before [] c.name × AreConstants (before ++ c.name ∷ []) constants

-- the labels of a command are identifiers
abbrev pub IsCommand : Command → Type 0
IsCommand (Intro label) = is_name label ≡ true
IsCommand (Destruct hyp first second) =
    (is_name hyp ≡ true) × (is_name first ≡ true) × (is_name second ≡ true)
IsCommand Split = Unit {0}
IsCommand Assumption = Unit {0}

abbrev pub AreCommands : List Placed → Type 0
AreCommands [] = Unit {0}
AreCommands (p ∷ commands) = IsCommand p.command × AreCommands commands

-- a lemma behind these constants and lemmas
pub record IsClaim (constants claims : List (List ℕ)) (c : Claim) : Type 0 where
  pub new : IsNew constants claims c.name
  pub declared : list_all (λ x. is_among x constants) (formula_names c.formula) ≡ true
  pub shallow : depth (formula_tree (constants_of constants) c.formula) ≤ most_depth
  pub commands : AreCommands c.commands

abbrev pub AreClaims : List (List ℕ) → List (List ℕ) → List Claim → Type 0
AreClaims constants before [] = Unit {0}
AreClaims constants before (c ∷ claims) =
    IsClaim constants before c × AreClaims constants (before ++ c.name ∷ []) claims

pub record IsFile (f : File) : Type 0 where
  pub constants : AreConstants [] f.constants
  pub claims : AreClaims (map constant_name f.constants) [] f.claims

-- what a file holds

abbrev pub number_in : Declarations → List ℕ → ℕ
number_in table name = unwrap_or (function_of table name) 0

abbrev pub in_front : ℕ → Connective → Chain → Chain
in_front f k chain =
    record {
      links = record { function = f; connective = k } ∷ chain.links;
      last = chain.last;
    }

abbrev pub conj_chain : Declarations → Conj → Chain
conj_chain table (single x) = record { links = []; last = number_in table x }
conj_chain table (both x c) = in_front (number_in table x) And (conj_chain table c)

abbrev pub implied_chain : Declarations → Conj → Chain → Chain
implied_chain table (single x) back = in_front (number_in table x) Implies back
implied_chain table (both x c) back =
    in_front (number_in table x) And (implied_chain table c back)

-- the names of a formula and the connectives between them
abbrev pub formula_chain : Declarations → Formula → Chain
formula_chain table (conj c) = conj_chain table c
formula_chain table (implies c f) = implied_chain table c (formula_chain table f)

-- the commands behind so many sentences
abbrev pub tasks_from : ℕ → List Placed → List Task
tasks_from n [] = []
tasks_from n (p ∷ commands) =
    record { command = p.command; place = record { number = n + 1; at = p.at } }
    ∷ tasks_from (n + 1) commands

-- a lemma behind so many sentences
abbrev pub claim_lemma : Declarations → ℕ → Claim → Lemma
claim_lemma table n c =
    record {
      name = c.name;
      formula = formula_chain table c.formula;
      tasks = tasks_from (n + 2) c.commands;
      qed = record { number = n + length c.commands + 3; at = c.qed };
    }

abbrev pub claim_lemmas : Declarations → ℕ → List Claim → List Lemma
claim_lemmas table n [] = []
claim_lemmas table n (c ∷ claims) =
    claim_lemma table n c ∷ claim_lemmas table (n + length c.commands + 3) claims

abbrev pub constant_functions : List (List ℕ) → List FunDecl
constant_functions [] = []
constant_functions (name ∷ names) = plain_function 0 Boolean ∷ constant_functions names

abbrev pub script_with : List (List ℕ) → List (List ℕ) → List Lemma → Script
script_with constants claims lemmas =
    record {
      table = constants_of constants ++ claim_table 0 claims;
      funs = builtin_functions ++ constant_functions constants;
      lemmas = lemmas;
      stage = Outside;
    }

abbrev pub file_script : File → Script
file_script f =
    script_with (map constant_name f.constants) (map claim_name f.claims)
    (claim_lemmas (constants_of (map constant_name f.constants)) (length f.constants) f.claims)

-- the sentences are those of a file that holds this
pub record IsFileOf (sentences : List Sentence) (script : Script) : Type 0 where
  pub file : File
  pub good : IsFile file
  pub parts : file_sentences file ≡ sentences
  pub holds : file_script file ≡ script
