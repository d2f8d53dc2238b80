-- The forms of sentences: the table of declarations and proof commands, and the tree of each.
use Rattle.std.specs.Prelude.{◌≡◌, ℕ, List, [], ◌∷◌}
use Rattle.std.specs.Prelude.{codes, ⊤}
use Rattle.sq_token.specs.declared.kind.Reserved.TheVariants as r
use Rattle.sq_token.specs.declared.kind.Punctuation.TheVariants as p
use Rattle.sq_token.specs.Sign.{Sign, word, reserved, mark}
use Rattle.sq_ast.specs.declared.command.CommandWord.{CommandWord}
use Rattle.sq_ast.specs.declared.command.CommandWord.TheVariants as w
use Rattle.sq_ast.specs.declared.formula.Form.TheVariants as form
use Rattle.sq_ast.specs.Sentence.{Part, either, optional, identifier, identifiers, another, place}
use Rattle.sq_ast.specs.Sentence.{a_number, numbers, a_macro, arrows, parameters, a_formula}
use Rattle.sq_ast.specs.Sentence.{formulas, values, hypotheses, a_process, Element, literal, part}
use Rattle.sq_ast.specs.Sentence.{Values, all_spelled, AllFit, all_height, RowDeep}

-- ---- which sentence

pub data Kind : Type 0 where
  hash : Kind
  channel : Kind
  signature : Kind
  name : Kind
  function : Kind
  process : Kind
  system : Kind
  postulate : Kind
  lemma : Kind
  equivalence : Kind
  proof : Kind
  qed : Kind
  exists : Kind
  command : CommandWord → Kind
  fresh_item : Kind

abbrev pub IsDeclaration : Kind → Type 0
IsDeclaration proof = ⊥
IsDeclaration qed = ⊥
IsDeclaration exists = ⊥
IsDeclaration (command c) = ⊥
IsDeclaration fresh_item = ⊥
IsDeclaration _ = ⊤

abbrev pub IsCommand : Kind → Type 0
IsCommand exists = ⊤
IsCommand (command c) = ⊤
IsCommand fresh_item = ⊤
IsCommand _ = ⊥

-- how the first word of a proof command is written
abbrev pub command_text : CommandWord → List ℕ
command_text w.Intro = codes "intro"
command_text w.Split = codes "split"
command_text w.Left = codes "left"
command_text w.Right = codes "right"
command_text w.Destruct = codes "destruct"
command_text w.Mp = codes "mp"
command_text w.Contra = codes "contra"
command_text w.Spec = codes "spec"
command_text w.Have = codes "have"
command_text w.Case = codes "case"
command_text w.Drop = codes "drop"
command_text w.Use = codes "use"
command_text w.Project = codes "project"
command_text w.Trace = codes "trace"
command_text w.Assumption = codes "assumption"
command_text w.Refl = codes "refl"
command_text w.Rewrite = codes "rewrite"
command_text w.Fact = codes "fact"
command_text w.Expand = codes "expand"
command_text w.Undefined = codes "undefined"
command_text w.Tcases = codes "tcases"
command_text w.Induction = codes "induction"
command_text w.Fresh = codes "fresh"
command_text w.Euf = codes "euf"
command_text w.Collision = codes "collision"
command_text w.Assume = codes "assume"
command_text w.Select = codes "select"
command_text w.Fa = codes "fa"
command_text w.Atom = codes "atom"
command_text w.IfCase = codes "ifcase"
command_text w.Deduce = codes "deduce"
command_text w.Replace = codes "replace"
command_text w.Prf = codes "prf"
command_text w.Constraints = codes "constraints"
command_text w.Congruence = codes "congruence"
command_text w.Auto = codes "auto"

abbrev pub first_word : Kind → Sign
first_word hash = reserved r.Hash
first_word channel = reserved r.Channel
first_word signature = reserved r.Signature
first_word name = reserved r.Name
first_word function = reserved r.Abstract
first_word process = reserved r.Process
first_word system = reserved r.System
first_word postulate = reserved r.Axiom
first_word lemma = reserved r.Lemma
first_word equivalence = reserved r.Equiv
first_word proof = reserved r.Proof
first_word qed = reserved r.Qed
first_word exists = reserved r.Exists
first_word (command c) = word (command_text c)
first_word fresh_item = word (codes "fresh")

-- ---- what stands behind the first word

-- `H as L`
abbrev pub labelled : List Element
labelled = part identifier ∷ literal (reserved r.As) ∷ part identifier ∷ []

-- `F as L`
abbrev pub formula_labelled : List Element
formula_labelled = part (a_formula form.Formula) ∷ literal (reserved r.As) ∷ part identifier ∷ []

-- `T as L`
abbrev pub time_labelled : List Element
time_labelled = part (a_formula form.Time) ∷ literal (reserved r.As) ∷ part identifier ∷ []

-- `M@T as L`
abbrev pub macro_labelled : List Element
macro_labelled = part a_macro ∷ literal (mark p.At) ∷ time_labelled

-- `ID, ID`
abbrev pub two_names : List Element
two_names = part identifier ∷ literal (mark p.Comma) ∷ part identifier ∷ []

-- `F by F`
abbrev pub replacement : List Element
replacement = part (a_formula form.Formula) ∷ literal (reserved r.By)
    ∷ part (a_formula form.Formula) ∷ []

-- `ID : F`
abbrev pub statement : List Element
statement = part identifier ∷ literal (mark p.Colon) ∷ part (a_formula form.Formula) ∷ []

-- `left` or `right`
abbrev pub side : Part
side = either (word (codes "left")) (word (codes "right"))

abbrev pub command_form : CommandWord → List Element
command_form w.Intro = part identifiers ∷ []
command_form w.Destruct = part identifier ∷ literal (reserved r.As) ∷ part identifier
    ∷ part identifier ∷ []
command_form w.Mp = labelled
command_form w.Contra = part identifier ∷ []
command_form w.Spec = part identifier ∷ formula_labelled
command_form w.Have = statement
command_form w.Case = formula_labelled
command_form w.Drop = part identifier ∷ []
command_form w.Use = part identifier ∷ part values ∷ literal (reserved r.As) ∷ part identifier ∷ []
command_form w.Rewrite = part (optional (mark p.LeftArrow)) ∷ part identifier ∷ part place ∷ []
command_form w.Fact = formula_labelled
command_form w.Expand = macro_labelled
command_form w.Undefined = macro_labelled
command_form w.Tcases = time_labelled
command_form w.Induction = part identifier ∷ literal (reserved r.As) ∷ part identifier
    ∷ part another ∷ []
command_form w.Fresh = labelled
command_form w.Euf = labelled
command_form w.Collision = labelled
command_form w.Assume = part identifier ∷ []
command_form w.Select = part numbers ∷ []
command_form w.Fa = part a_number ∷ []
command_form w.Atom = part a_number ∷ []
command_form w.IfCase = part a_number ∷ part a_number ∷ []
command_form w.Deduce = part a_number ∷ literal (reserved r.From) ∷ part a_number ∷ []
command_form w.Replace = part side ∷ part a_number ∷ literal (reserved r.By)
    ∷ part (a_formula form.Formula) ∷ []
command_form w.Prf = part side ∷ part a_number ∷ replacement
command_form _ = []

abbrev pub form_of : Kind → List Element
form_of hash = part identifier ∷ []
form_of channel = part identifier ∷ []
form_of signature = part identifier ∷ literal (mark p.Comma) ∷ two_names
form_of name = part identifier ∷ literal (mark p.Colon) ∷ part (arrows r.Index)
    ∷ literal (reserved r.Message) ∷ []
form_of function = part identifier ∷ literal (mark p.Colon) ∷ part (arrows r.Index)
    ∷ part (arrows r.Message) ∷ part (either (reserved r.Message) (reserved r.Boolean)) ∷ []
form_of process = part identifier ∷ part parameters ∷ literal (mark p.Equals) ∷ part a_process ∷ []
form_of system = part identifier ∷ literal (mark p.Equals) ∷ part a_process ∷ []
form_of postulate = statement
form_of lemma = statement
form_of equivalence = part identifier ∷ part parameters ∷ part hypotheses ∷ literal (mark p.Colon)
    ∷ part formulas ∷ []
form_of proof = []
form_of qed = []
form_of exists = part (a_formula form.Formula) ∷ []
form_of (command c) = command_form c
form_of fresh_item = part a_number ∷ []

-- ---- sentences

-- which sentence it is, and what its parts say, in order
pub data SentenceTree : Type 0 where
  sentence : (k : Kind) → Values (form_of k) → SentenceTree

abbrev pub kind_of : SentenceTree → Kind
kind_of (sentence k vs) = k

abbrev pub sentence_spelled : SentenceTree → List Sign
sentence_spelled (sentence k vs) = first_word k ∷ all_spelled (form_of k) vs

abbrev pub IsBuiltSentence : SentenceTree → Type 0
IsBuiltSentence (sentence k vs) = AllFit (form_of k) vs

abbrev pub sentence_height : SentenceTree → ℕ
sentence_height (sentence k vs) = all_height (form_of k) vs

-- a sentence and its tokens
pub record IsSentenceOf (t : SentenceTree) (ts : List Sign) : Type 0 where
  pub built : IsBuiltSentence t
  pub spelled_is : ts ≡ sentence_spelled t

pub record IsDeclarationOf (t : SentenceTree) (ts : List Sign) : Type 0 where
  pub declares : IsDeclaration (kind_of t)
  pub sentence_is : IsSentenceOf t ts

pub record IsCommandOf (t : SentenceTree) (ts : List Sign) : Type 0 where
  pub commands : IsCommand (kind_of t)
  pub sentence_is : IsSentenceOf t ts

-- The place runs deep as a sentence of some kind: one of its parts does. The parts have as many
-- nodes around them as the sentence itself.
pub record SentenceRunsDeep (d : ℕ) (ts : List Sign) : Type 0 where
  pub kind : Kind
  pub rest : List Sign
  pub split : ts ≡ first_word kind ∷ rest
  pub runs : RowDeep d (form_of kind) rest

-- with no node around it
abbrev pub SentenceDeep : List Sign → Type 0
SentenceDeep ts = SentenceRunsDeep 256 ts
