-- Reading a sentence.
use Rattle.std.specs.Prelude.{ℕ, zero, suc, Bool, true, false, List, [], ◌∷◌, length, Option, Some}
use Rattle.std.specs.Prelude.{None}
use Rattle.sq_token.specs.declared.kind.Reserved.{Reserved}
use Rattle.sq_token.specs.declared.kind.Reserved.TheVariants as r
use Rattle.sq_token.specs.declared.kind.Punctuation.TheVariants as p
use Rattle.sq_token.specs.Sign.{Sign, word, number, reserved, mark}
use Rattle.sq_ast.specs.declared.command.CommandWord.{CommandWord}
use Rattle.sq_ast.specs.declared.command.CommandWord.TheVariants as w
use Rattle.sq_ast.specs.declared.formula.MacroWord.{MacroWord}
use Rattle.sq_ast.specs.Tree.{Group, FormulaTrees}
use Rattle.sq_ast.specs.ProcTree.{ProcTree}
use Rattle.sq_ast.specs.Sentence.{Part, either, optional, identifier, identifiers, another, place}
use Rattle.sq_ast.specs.Sentence.{a_number, numbers, a_macro, arrows, parameters, a_formula}
use Rattle.sq_ast.specs.Sentence.{formulas, values, hypotheses, a_process, ValueOf, Element}
use Rattle.sq_ast.specs.Sentence.{literal, part, Values}
use Rattle.sq_ast.specs.Forms.{Kind, hash, channel, signature, name, function, process, system}
use Rattle.sq_ast.specs.Forms.{postulate, lemma, equivalence, proof, qed, exists, command}
use Rattle.sq_ast.specs.Forms.{fresh_item, form_of, SentenceTree, sentence}
use Rattle.sq_ast.specs.Commands.{command_of}
use Rattle.sq_parse_term.specs.declared.words.Start.{Start}
use Rattle.sq_parse_term.specs.declared.words.Start.TheVariants as start
use Rattle.sq_parse_term.specs.Parse.{Read, none, got, bind, recover, eat, binders, start_of, parse}
use Rattle.sq_parse_term.specs.Parse as term
use Rattle.sq_parse_term.specs.Lists.{formula_list}
use Rattle.sq_parse_process.specs.Process.{parse_process}

-- ---- parts

abbrev pub read_either : Sign → Sign → List Sign → Read Bool
read_either s t ts = recover (eat s ts) (λ _ q. got true q) (bind (eat t ts) (λ _ q. got false q))

abbrev pub read_optional : Sign → List Sign → Read Bool
read_optional s ts = recover (eat s ts) (λ _ q. got true q) (got false ts)

-- identifiers, one behind the other, as many as there are
abbrev pub all_words : List Sign → Read (List (List ℕ))
all_words (word n ∷ q) = bind (all_words q) (λ ns u. got (n ∷ ns) u)
all_words ts = got [] ts

abbrev pub all_numbers : List Sign → Read (List ℕ)
all_numbers (number k ∷ q) = bind (all_numbers q) (λ ks u. got (k ∷ ks) u)
all_numbers ts = got [] ts

abbrev pub some : {A : Type 0} → List A → List Sign → Read (List A)
some [] q = none
some (x ∷ xs) q = got (x ∷ xs) q

abbrev pub read_words : List Sign → Read (List (List ℕ))
read_words ts = bind (all_words ts) (λ ns q. some ns q)

abbrev pub read_numbers : List Sign → Read (List ℕ)
read_numbers ts = bind (all_numbers ts) (λ ks q. some ks q)

abbrev pub read_another : List Sign → Read (Option (List ℕ))
read_another ts = recover (term.identifier ts) (λ n q. got (Some n) q) (got None ts)

abbrev pub read_place : List Sign → Read (Option (List ℕ))
read_place ts = recover (eat (reserved r.In) ts)
    (λ _ q. bind (term.identifier q) (λ n u. got (Some n) u)) (got None ts)

abbrev pub read_number : List Sign → Read ℕ
read_number (number k ∷ q) = got k q
read_number _ = none

abbrev pub macro_at : Option Start → List Sign → Read MacroWord
macro_at (Some (start.Macro m)) q = got m q
macro_at _ q = none

abbrev pub read_macro : List Sign → Read MacroWord
read_macro (reserved v ∷ q) = macro_at (start_of v) q
read_macro _ = none

-- the word and an arrow
abbrev pub arrow : Reserved → List Sign → Read (Unit {0})
arrow v ts = bind (eat (reserved v) ts) (λ _ q. eat (mark p.Arrow) q)

-- so often at most
unfoldable pub arrows_within : ℕ → Reserved → List Sign → Read ℕ
arrows_within zero v ts = got 0 ts
arrows_within (suc m) v ts = recover (arrow v ts)
    (λ _ q. bind (arrows_within m v q) (λ k u. got (suc k) u)) (got 0 ts)

abbrev pub read_arrows : Reserved → List Sign → Read ℕ
read_arrows v ts = arrows_within (length ts) v ts

abbrev pub read_parameters : List Sign → Read (Option (List Group))
read_parameters ts = recover (eat (mark p.OpenParenthesis) ts)
    (λ _ q. bind (binders q) (λ gs u. bind (eat (mark p.CloseParenthesis) u)
    (λ _ v. got (Some gs) v))) (got None ts)

-- ---- sentences of one word, and first words

-- nothing stands behind a sentence
abbrev pub end : List Sign → Read (Unit {0})
end [] = got tt []
end (s ∷ q) = none

-- a sentence of one word
abbrev pub stand_alone : SentenceTree → List Sign → Read SentenceTree
stand_alone t ts = bind (end ts) (λ _ u. got t u)

-- the kinds that begin with a reserved word
abbrev pub kind_at : Reserved → Option Kind
kind_at r.Hash = Some hash
kind_at r.Channel = Some channel
kind_at r.Signature = Some signature
kind_at r.Name = Some name
kind_at r.Abstract = Some function
kind_at r.Process = Some process
kind_at r.System = Some system
kind_at r.Axiom = Some postulate
kind_at r.Lemma = Some lemma
kind_at r.Equiv = Some equivalence
kind_at r.Proof = Some proof
kind_at r.Qed = Some qed
kind_at r.Exists = Some exists
kind_at _ = None

-- ---- with d nodes still to go around each tree

module _ (d : ℕ) where
  abbrev pub read_formulas : List Sign → Read FormulaTrees
  read_formulas ts = formula_list (parse d) ts

  abbrev pub read_values : List Sign → Read (Option FormulaTrees)
  read_values ts = recover (read_formulas ts) (λ xs q. got (Some xs) q) (got None ts)

  abbrev pub read_hypotheses : List Sign → Read (Option FormulaTrees)
  read_hypotheses ts = recover (eat (mark p.OpenBracket) ts)
      (λ _ q. bind (read_formulas q)
      (λ xs u. bind (eat (mark p.CloseBracket) u) (λ _ v. got (Some xs) v))) (got None ts)

  abbrev pub read_part : (a : Part) → List Sign → Read (ValueOf a)
  read_part (either s t) ts = read_either s t ts
  read_part (optional s) ts = read_optional s ts
  read_part identifier ts = term.identifier ts
  read_part identifiers ts = read_words ts
  read_part another ts = read_another ts
  read_part place ts = read_place ts
  read_part a_number ts = read_number ts
  read_part numbers ts = read_numbers ts
  read_part a_macro ts = read_macro ts
  read_part (arrows v) ts = read_arrows v ts
  read_part parameters ts = read_parameters ts
  read_part (a_formula f) ts = parse d f ts
  read_part formulas ts = read_formulas ts
  read_part values ts = read_values ts
  read_part hypotheses ts = read_hypotheses ts
  read_part a_process ts = parse_process d ts

  unfoldable pub read_row : (es : List Element) → List Sign → Read (Values es)
  read_row [] ts = got tt ts
  read_row (literal s ∷ es) ts = bind (eat s ts) (λ _ q. read_row es q)
  read_row (part a ∷ es) ts = bind (read_part a ts)
      (λ v q. bind (read_row es q) (λ vs u. got (v, vs) u))

  -- behind the first word
  abbrev pub read_kind : Kind → List Sign → Read SentenceTree
  read_kind k ts = bind (read_row (form_of k) ts)
      (λ vs q. bind (end q) (λ _ u. got (sentence k vs) u))

  abbrev pub read_reserved : Option Kind → List Sign → Read SentenceTree
  read_reserved None q = none
  read_reserved (Some k) q = read_kind k q

  -- `fresh n`, else `fresh H as L`
  abbrev pub read_fresh : List Sign → Read SentenceTree
  read_fresh q = recover (read_kind fresh_item q) (λ t u. got t u) (read_kind (command w.Fresh) q)

  abbrev pub read_command : Option CommandWord → List Sign → Read SentenceTree
  read_command None q = none
  read_command (Some w.Fresh) q = read_fresh q
  read_command (Some c) q = read_kind (command c) q

  abbrev pub read_sentence : List Sign → Read SentenceTree
  read_sentence (reserved v ∷ q) = read_reserved (kind_at v) q
  read_sentence (word n ∷ q) = read_command (command_of n) q
  read_sentence _ = none

  -- ---- declarations with a process at the end

  -- `=`, and a process with nothing behind it
  abbrev pub read_definition : List Sign → Read ProcTree
  read_definition ts = bind (eat (mark p.Equals) ts)
      (λ _ q. bind (parse_process d q) (λ t u. bind (end u) (λ _ v. got t v)))

  abbrev pub read_system : List Sign → Read SentenceTree
  read_system ts = bind (term.identifier ts)
      (λ n q. bind (read_definition q) (λ t u. got (sentence system (n, (t, tt))) u))

  abbrev pub read_process : List Sign → Read SentenceTree
  read_process ts = bind (term.identifier ts) (λ n q. bind (read_parameters q)
      (λ ps u. bind (read_definition u) (λ t v. got (sentence process (n, (ps, (t, tt)))) v)))
