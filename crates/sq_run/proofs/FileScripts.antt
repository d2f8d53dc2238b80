-- The sentences of a file of the form are read as what the file holds.
use Rattle.std.proofs.Common.{◌≡◌, ◌+◌, ℕ, List, [], ◌∷◌, ◌++◌, length, map, Option, Some, refl}
use Rattle.std.proofs.Common.{sym, ◌∙◌, ap, arith, append_assoc, append-nil, length-append}
use Rattle.std.proofs.Common.{add-zero, codes}
use Rattle.std.specs.Prelude.{flat_map}
use Rattle.std.specs.Option.{option_and_then}
use Rattle.sq_run.specs.declared.scan.Sentence.{Sentence}
use Rattle.sq_run.specs.declared.formula.Chain.{Chain}
use Rattle.sq_run.specs.declared.script.Task.{Task}
use Rattle.sq_run.specs.declared.script.Lemma.{Lemma}
use Rattle.sq_run.specs.declared.script.Stage.TheVariants.{Outside, Proving}
use Rattle.sq_run.specs.declared.script.Script.{Script}
use Rattle.sq_run.specs.Scripts.{read_from, complete, script_of}
use Rattle.sq_run.specs.Files.{Constant, Placed, Claim, File, sentence, constant_sentence}
use Rattle.sq_run.specs.Files.{command_sentence, claim_sentences, file_sentences, constant_name}
use Rattle.sq_run.specs.Files.{claim_name, constants_of, AreConstants, AreCommands, IsClaim}
use Rattle.sq_run.specs.Files.{AreClaims, IsFile, formula_chain, tasks_from, claim_lemma}
use Rattle.sq_run.specs.Files.{claim_lemmas, file_script}
use Rattle.sq_run.proofs.Steps.{state, constant_step, claim_step, proof_step, command_step}
use Rattle.sq_run.proofs.Steps.{qed_step}

-- the place is written in another way
at_place : (s : Script) (n m : ℕ) (rest : List Sentence) → n ≡ m
    → read_from (Some s) n rest ≡ read_from (Some s) m rest
at_place s n m rest e = ap (λ (k : ℕ). read_from (Some s) k rest) e

constants_read : (before : List (List ℕ)) (n : ℕ) (constants : List Constant) (rest : List Sentence)
    → AreConstants before constants
    → read_from (Some (state before [] [] Outside)) n (map constant_sentence constants ++ rest)
    ≡ read_from (Some (state (before ++ map constant_name constants) [] [] Outside))
    (n + length constants) rest
constants_read before n [] rest good =
    (λ i. read_from (Some (state (sym (append-nil before) i) [] [] Outside))
    (sym (add-zero n) i) rest)
constants_read before n (c ∷ constants) rest good =
    ap (λ (o : Option Script). read_from o (n + 1) (map constant_sentence constants ++ rest))
    (constant_step before c.name (record { number = n + 1; at = c.at }) good.0)
    ∙ constants_read (before ++ c.name ∷ []) (n + 1) constants rest good.1
    ∙ (let place : n + 1 + length constants ≡ n + length (c ∷ constants) = omega arith in
    λ i. read_from
    (Some (state
    (append_assoc before (c.name ∷ []) (map constant_name constants) i) [] [] Outside))
    (place i) rest)

module _ (constants claims : List (List ℕ)) (lemmas : List Lemma) (x : List ℕ) (chain : Chain) where
  abbrev proving : List Task → Script
  proving tasks = state constants claims lemmas (Proving x chain tasks)

  commands_read : (tasks : List Task) (n : ℕ) (commands : List Placed) (rest : List Sentence)
      → AreCommands commands
      → read_from (Some (proving tasks)) n (map command_sentence commands ++ rest)
      ≡ read_from (Some (proving (tasks ++ tasks_from n commands))) (n + length commands) rest
  commands_read tasks n [] rest good =
      (λ i. read_from (Some (proving (sym (append-nil tasks) i))) (sym (add-zero n) i) rest)
  commands_read tasks n (p ∷ commands) rest good =
      let task : Task =
      record { command = p.command; place = record { number = n + 1; at = p.at } } in
      ap (λ (o : Option Script). read_from o (n + 1) (map command_sentence commands ++ rest))
      (command_step constants claims lemmas x chain tasks p.command
      (record { number = n + 1; at = p.at }) good.0)
      ∙ commands_read (tasks ++ task ∷ []) (n + 1) commands rest good.1
      ∙ (let place : n + 1 + length commands ≡ n + length (p ∷ commands) = omega arith in
      λ i. read_from
      (Some (proving (append_assoc tasks (task ∷ []) (tasks_from (n + 1) commands) i)))
      (place i) rest)

claim_read : (constants claims : List (List ℕ)) (lemmas : List Lemma) (n : ℕ) (c : Claim)
    (rest : List Sentence) → length lemmas ≡ length claims → IsClaim constants claims c
    → read_from (Some (state constants claims lemmas Outside)) n (claim_sentences c ++ rest)
    ≡ read_from
    (Some (state constants (claims ++ c.name ∷ [])
    (lemmas ++ claim_lemma (constants_of constants) n c ∷ []) Outside))
    (n + length c.commands + 3) rest
claim_read constants claims lemmas n c rest len good =
    let names : List (List ℕ) = claims ++ c.name ∷ [] in
    let chain : Chain = formula_chain (constants_of constants) c.formula in
    let begin : Sentence = sentence (codes "Proof" ∷ []) c.proof in
    let end : Sentence = sentence (codes "Qed" ∷ []) c.qed in
    let commands : List Sentence = map command_sentence c.commands in
    let two : n + 1 + 1 ≡ n + 2 = omega arith in
    let last : n + 2 + length c.commands + 1 ≡ n + length c.commands + 3 = omega arith in
    ap (λ (o : Option Script). read_from o (n + 1) (begin ∷ ((commands ++ (end ∷ [])) ++ rest)))
    (claim_step constants claims lemmas c.name c.formula
    (record { number = n + 1; at = c.at }) len good.new good.declared good.shallow)
    ∙ ap (λ (o : Option Script). read_from o (n + 1 + 1) ((commands ++ (end ∷ [])) ++ rest))
    (proof_step constants names lemmas c.name chain
    (record { number = n + 1 + 1; at = c.proof }))
    ∙ ap (read_from (Some (proving constants names lemmas c.name chain [])) (n + 1 + 1))
    (append_assoc commands (end ∷ []) rest)
    ∙ commands_read constants names lemmas c.name chain [] (n + 1 + 1) c.commands
    (end ∷ rest) good.commands
    ∙ ap (λ (k : ℕ). read_from
    (Some (proving constants names lemmas c.name chain (tasks_from k c.commands)))
    (k + length c.commands) (end ∷ rest)) two
    ∙ ap (λ (o : Option Script). read_from o (n + 2 + length c.commands + 1) rest)
    (qed_step constants names lemmas c.name chain (tasks_from (n + 2) c.commands)
    (record { number = n + 2 + length c.commands + 1; at = c.qed }))
    ∙ (λ i. read_from
    (Some (state constants names
    (lemmas ++ record {
      name = c.name;
      formula = chain;
      tasks = tasks_from
          (n + 2) c.commands;
      qed = record { number = last i; at = c.qed };
    } ∷ []) Outside))
    (last i) rest)

claims_read : (constants claims : List (List ℕ)) (lemmas : List Lemma) (n : ℕ) (more : List Claim)
    → length lemmas ≡ length claims → AreClaims constants claims more
    → read_from (Some (state constants claims lemmas Outside)) n (flat_map claim_sentences more)
    ≡ Some (state constants (claims ++ map claim_name more)
    (lemmas ++ claim_lemmas (constants_of constants) n more) Outside)
claims_read constants claims lemmas n [] len good =
    λ i. Some (state constants (sym (append-nil claims) i) (sym (append-nil lemmas) i) Outside)
claims_read constants claims lemmas n (c ∷ more) len good =
    let one : Lemma = claim_lemma (constants_of constants) n c in
    let longer : length (lemmas ++ one ∷ []) ≡ length (claims ++ c.name ∷ []) =
    omega (arith, length-append lemmas (one ∷ []), length-append claims (c.name ∷ [])) in
    claim_read constants claims lemmas n c (flat_map claim_sentences more) len good.0
    ∙ claims_read constants (claims ++ c.name ∷ []) (lemmas ++ one ∷ [])
    (n + length c.commands + 3) more longer good.1
    ∙ (λ i. Some
    (state constants (append_assoc claims (c.name ∷ []) (map claim_name more) i)
    (append_assoc lemmas (one ∷ [])
    (claim_lemmas (constants_of constants) (n + length c.commands + 3) more) i) Outside))

pub file_read : (f : File) → IsFile f → script_of (file_sentences f) ≡ Some (file_script f)
unfolding script_of
file_read f good =
    let names : List (List ℕ) = map constant_name f.constants in
    ap (option_and_then complete)
    (constants_read [] 0 f.constants (flat_map claim_sentences f.claims) good.constants
    ∙ at_place (state names [] [] Outside) (0 + length f.constants) (length f.constants)
    (flat_map claim_sentences f.claims) (omega arith)
    ∙ claims_read names [] [] (length f.constants) f.claims refl good.claims)
