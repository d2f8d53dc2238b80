-- Sentences that are read whole are those of a file of the form.
use Rattle.std.proofs.Common.{◌≡◌, ◌+◌, ℕ, Bool, true, false, not, List, [], ◌∷◌, ◌++◌, length, map}
use Rattle.std.proofs.Common.{Option, Some, None, is_none, codes, refl, sym, ◌∙◌, ap, subst, arith}
use Rattle.std.proofs.Common.{append_assoc, append-nil, length-append}
use Rattle.std.proofs.lemmas.Bool.{and_parts}
use Rattle.std.specs.Prelude.{flat_map}
use Rattle.std.specs.Option.{option_and_then}
use Rattle.sq_sym.specs.Declarations.{found}
use Rattle.sq_run.specs.declared.scan.Sentence.{Sentence}
use Rattle.sq_run.specs.declared.formula.Chain.{Chain}
use Rattle.sq_run.specs.declared.script.Place.{Place}
use Rattle.sq_run.specs.declared.script.Task.{Task}
use Rattle.sq_run.specs.declared.script.Lemma.{Lemma}
use Rattle.sq_run.specs.declared.script.Stage.TheVariants.{Outside, Stated, Proving}
use Rattle.sq_run.specs.declared.script.Script.{Script}
use Rattle.sq_run.specs.Formulas.{chain_of, is_shallow}
use Rattle.sq_run.specs.Grammar.{Formula, formula_words}
use Rattle.sq_run.specs.Scripts.{is_name, is_empty, after_words, read_from, complete, script_of}
use Rattle.sq_run.specs.Files.{Constant, Placed, Claim, File, sentence, constant_words}
use Rattle.sq_run.specs.Files.{claim_words, command_words, constant_sentence, command_sentence}
use Rattle.sq_run.specs.Files.{claim_sentences, is_among, constant_name, claim_table}
use Rattle.sq_run.specs.Files.{constants_of, IsNew, AreConstants, AreCommands, AreClaims, IsFile}
use Rattle.sq_run.specs.Files.{formula_chain, file_script, IsFileOf}
use Rattle.sq_run.proofs.Names.{none-table}
use Rattle.sq_run.proofs.Spelling.{chain_of-table, formula_declared, formula_shallow}
use Rattle.sq_run.proofs.Steps.{state, constant_step, claim_step, proof_step, command_step}
use Rattle.sq_run.proofs.Steps.{qed_step}
use Rattle.sq_run.proofs.SentencesRead.{Read, constant, claim, proof, command, qed, sentence_read}
use Rattle.sq_run.proofs.FileScripts.{file_read}

-- the rest of a file from inside of a proof
record ProofRest (constants claims : List (List ℕ)) (ss : List Sentence) : Type 0 where
  commands : List Placed
  end : ℕ
  more : List Claim
  are : AreCommands commands
  good : AreClaims constants claims more
  parts : map command_sentence commands ++
      (sentence (codes "Qed" ∷ []) end ∷ flat_map claim_sentences more) ≡ ss

-- from behind a lemma's sentence
record StatedRest (constants claims : List (List ℕ)) (ss : List Sentence) : Type 0 where
  begin : ℕ
  rest : List Sentence
  later : ProofRest constants claims rest
  parts : sentence (codes "Proof" ∷ []) begin ∷ rest ≡ ss

-- from behind a proof
record ClaimsRest (constants claims : List (List ℕ)) (ss : List Sentence) : Type 0 where
  more : List Claim
  good : AreClaims constants claims more
  parts : flat_map claim_sentences more ≡ ss

-- from between constants
record FileRest (before : List (List ℕ)) (ss : List Sentence) : Type 0 where
  constants : List Constant
  claims : List Claim
  are : AreConstants before constants
  good : AreClaims (before ++ map constant_name constants) [] claims
  parts : map constant_sentence constants ++ flat_map claim_sentences claims ≡ ss

abbrev Ends : Option Script → ℕ → List Sentence → Script → Type 0
Ends o n ss script = option_and_then complete (read_from o n ss) ≡ Some script

abbrev First : List Sentence → Type 0
First ss = (constants : List (List ℕ)) (n : ℕ) (script : Script)
    → Ends (Some (state constants [] [] Outside)) n ss script → FileRest constants ss

abbrev Between : List Sentence → Type 0
Between ss = (constants claims : List (List ℕ)) (lemmas : List Lemma) (n : ℕ) (script : Script)
    → length lemmas ≡ length claims → is_empty lemmas ≡ false
    → Ends (Some (state constants claims lemmas Outside)) n ss script
    → ClaimsRest constants claims ss

abbrev Waiting : List Sentence → Type 0
Waiting ss =
    (constants claims : List (List ℕ)) (lemmas : List Lemma) (x : List ℕ) (chain : Chain) (n : ℕ)
    (script : Script) → length claims ≡ length lemmas + 1
    → Ends (Some (state constants claims lemmas (Stated x chain))) n ss script
    → StatedRest constants claims ss

abbrev Within : List Sentence → Type 0
Within ss =
    (constants claims : List (List ℕ)) (lemmas : List Lemma) (x : List ℕ) (chain : Chain)
    (tasks : List Task) (n : ℕ) (script : Script) → length claims ≡ length lemmas + 1
    → Ends (Some (state constants claims lemmas (Proving x chain tasks))) n ss script
    → ProofRest constants claims ss

next_of : (o : Option Script) (n : ℕ) (ss : List Sentence) (script : Script) → Ends o n ss script
    → (next : Script) × (o ≡ Some next)
next_of None n ss script e = absurd (cc (e))
next_of (Some s) n ss script e = (s, refl)

new_of : (constants claims : List (List ℕ)) (x : List ℕ) → is_name x ≡ true
    → is_none (found x (constants_of constants ++ claim_table 0 claims)) ≡ true
    → IsNew constants claims x
new_of constants claims x is free =
    let p = and_parts (not (is_among x constants)) (not (is_among x claims))
    (sym (none-table x constants claims) ∙ free) in
    record {
      identifier = is;
      no_constant = off (is_among x constants) p.0;
      no_claim = off
          (is_among x claims) p.1;
    }
  where
    off : (b : Bool) → not b ≡ true → b ≡ false
    off true h = absurd (cc (h))
    off false h = refl

not_empty : (lemmas : List Lemma) (l : Lemma) → is_empty (lemmas ++ l ∷ []) ≡ false
not_empty [] l = refl
not_empty (k ∷ lemmas) l = refl

module _ (s : Sentence) (ss : List Sentence) (n : ℕ) where
  abbrev here : Place
  here = record { number = n + 1; at = s.at }

  -- the sentence is known by its words, and what it makes of what went before
  stepped : (was now : Script) (words : List (List ℕ)) (script : Script) → s.words ≡ words
      → after_words was words here ≡ Some now → Ends (Some was) n (s ∷ ss) script
      → Ends (Some now) (n + 1) ss script
  stepped was now words script w step e =
      ap (λ (o : Option Script). option_and_then complete (read_from o (n + 1) ss))
      (sym (ap (λ (ws : List (List ℕ)). after_words was ws here) w ∙ step)) ∙ e

  -- a lemma more in front of the rest
  claim_more : (constants claims : List (List ℕ)) (x : List ℕ) (f : Formula) (chain : Chain)
      → s.words ≡ claim_words x f → IsNew constants claims x
      → chain_of (constants_of constants) (formula_words f) ≡ Some chain → is_shallow chain ≡ true
      → StatedRest constants (claims ++ x ∷ []) ss → ClaimsRest constants claims (s ∷ ss)
  claim_more constants claims x f chain w new reads shallow r =
      record {
        more = record {
          name = x;
          formula = f;
          at = s.at;
          proof = r.begin;
          commands =
              r.later.commands;
          qed = r.later.end;
        } ∷ r.later.more;
        good = (
          record {
            new = new;
            declared = formula_declared constants f chain reads;
            shallow =
                formula_shallow constants f chain reads shallow;
            commands =
                r.later.are;
          },
          r.later.good,
        );
        parts = λ i. sentence (sym w i) s.at ∷
            (ap (λ (l : List Sentence). sentence (codes "Proof" ∷ []) r.begin ∷ l)
            (append_assoc (map command_sentence r.later.commands)
            (sentence (codes "Qed" ∷ []) r.later.end ∷ [])
            (flat_map claim_sentences r.later.more) ∙ r.later.parts) ∙ r.parts) i;
      }

  module _ (firsts : First ss) (betweens : Between ss) (waitings : Waiting ss)
      (withins : Within ss) where
    claim_cons : (constants claims : List (List ℕ)) (lemmas : List Lemma) (x : List ℕ) (f : Formula)
        (chain : Chain) (script : Script) → length lemmas ≡ length claims
        → s.words ≡ claim_words x f → is_name x ≡ true
        → chain_of (constants_of constants ++ claim_table 0 claims) (formula_words f) ≡ Some chain
        → is_shallow chain ≡ true
        → is_none (found x (constants_of constants ++ claim_table 0 claims)) ≡ true
        → Ends (Some (state constants claims lemmas Outside)) n (s ∷ ss) script
        → ClaimsRest constants claims (s ∷ ss)
    claim_cons constants claims lemmas x f chain script len w is reads shallow free e =
        let new : IsNew constants claims x = new_of constants claims x is free in
        let read : chain_of (constants_of constants) (formula_words f) ≡ Some chain =
        sym (chain_of-table constants claims (formula_words f)) ∙ reads in
        let longer : length (claims ++ x ∷ []) ≡ length lemmas + 1 =
        omega (arith, length-append claims (x ∷ []), len) in
        let step =
        claim_step constants claims lemmas x f here len new
        (formula_declared constants f chain read)
        (formula_shallow constants f chain read shallow) in
        claim_more constants claims x f chain w new read shallow
        (waitings constants (claims ++ x ∷ []) lemmas x (formula_chain (constants_of constants) f)
        (n + 1) script longer
        (stepped (state constants claims lemmas Outside)
        (state constants (claims ++ x ∷ []) lemmas
        (Stated x (formula_chain (constants_of constants) f)))
        (claim_words x f) script w step e))

    first_by : (constants : List (List ℕ)) (script : Script)
        → Ends (Some (state constants [] [] Outside)) n (s ∷ ss) script
        → Read (state constants [] [] Outside) s.words → FileRest constants (s ∷ ss)
    first_by constants script e (constant x w before is free) =
        let new : IsNew constants [] x = new_of constants [] x is free in
        let r = firsts (constants ++ x ∷ []) (n + 1) script
        (stepped (state constants [] [] Outside) (state (constants ++ x ∷ []) [] [] Outside)
        (constant_words x) script w (constant_step constants x here new) e) in
        record {
          constants = record { name = x; at = s.at } ∷ r.constants;
          claims = r.claims;
          are = (new, r.are);
          good = subst (λ (names : List (List ℕ)). AreClaims names [] r.claims)
              (append_assoc constants (x ∷ []) (map constant_name r.constants)) r.good;
          parts = λ i. sentence (sym w i) s.at ∷ r.parts i;
        }
    first_by constants script e (claim x f chain w outside is reads shallow free) =
        let r = claim_cons constants [] [] x f chain script refl w is reads shallow free e in
        record {
          constants = [];
          claims = r.more;
          are = tt;
          good = subst
              (λ (names : List (List ℕ)). AreClaims names [] r.more)
              (sym (append-nil constants)) r.good;
          parts = r.parts;
        }
    first_by constants script e (proof next w h) = absurd (cc (h))
    first_by constants script e (command c p next w is h) = absurd (cc (h))
    first_by constants script e (qed p next w h) = absurd (cc (h))

    between_by : (constants claims : List (List ℕ)) (lemmas : List Lemma) (script : Script)
        → length lemmas ≡ length claims → is_empty lemmas ≡ false
        → Ends (Some (state constants claims lemmas Outside)) n (s ∷ ss) script
        → Read (state constants claims lemmas Outside) s.words
        → ClaimsRest constants claims (s ∷ ss)
    between_by constants claims lemmas script len some e (constant x w before is free) =
        absurd (cc (sym before ∙ some))
    between_by constants claims lemmas script len some e
        (claim x f chain w outside is reads shallow free) =
        claim_cons constants claims lemmas x f chain script len w is reads shallow free e
    between_by constants claims lemmas script len some e (proof next w h) = absurd (cc (h))
    between_by constants claims lemmas script len some e (command c p next w is h) = absurd (cc (h))
    between_by constants claims lemmas script len some e (qed p next w h) = absurd (cc (h))

    waiting_by : (constants claims : List (List ℕ)) (lemmas : List Lemma) (x : List ℕ)
        (chain : Chain) (script : Script) → length claims ≡ length lemmas + 1
        → Ends (Some (state constants claims lemmas (Stated x chain))) n (s ∷ ss) script
        → Read (state constants claims lemmas (Stated x chain)) s.words
        → StatedRest constants claims (s ∷ ss)
    waiting_by constants claims lemmas x chain script len e (constant y w before is free) =
        absurd (cc (before))
    waiting_by constants claims lemmas x chain script len e
        (claim y f other w outside is reads shallow free) = absurd (cc (outside))
    waiting_by constants claims lemmas x chain script len e (proof next w h) =
        record {
          begin = s.at;
          rest = ss;
          later = withins constants claims lemmas x chain []
              (n + 1) script len
              (stepped (state constants claims lemmas (Stated x chain))
              (state constants claims lemmas (Proving x chain [])) (codes "Proof" ∷ []) script w
              (proof_step constants claims lemmas x chain here) e);
          parts = λ i. sentence
              (sym w i) s.at ∷ ss;
        }
    waiting_by constants claims lemmas x chain script len e (command c p next w is h) =
        absurd (cc (h))
    waiting_by constants claims lemmas x chain script len e (qed p next w h) = absurd (cc (h))

    within_by : (constants claims : List (List ℕ)) (lemmas : List Lemma) (x : List ℕ)
        (chain : Chain) (tasks : List Task) (script : Script) → length claims ≡ length lemmas + 1
        → Ends (Some (state constants claims lemmas (Proving x chain tasks))) n (s ∷ ss) script
        → Read (state constants claims lemmas (Proving x chain tasks)) s.words
        → ProofRest constants claims (s ∷ ss)
    within_by constants claims lemmas x chain tasks script len e (constant y w before is free) =
        absurd (cc (before))
    within_by constants claims lemmas x chain tasks script len e
        (claim y f other w outside is reads shallow free) = absurd (cc (outside))
    within_by constants claims lemmas x chain tasks script len e (proof next w h) = absurd (cc (h))
    within_by constants claims lemmas x chain tasks script len e (command c p next w is h) =
        let task : Task = record { command = c; place = here } in
        let r = withins constants claims lemmas x chain (tasks ++ task ∷ []) (n + 1) script len
        (stepped (state constants claims lemmas (Proving x chain tasks))
        (state constants claims lemmas (Proving x chain (tasks ++ task ∷ [])))
        (command_words c) script w
        (command_step constants claims lemmas x chain tasks c here is) e) in
        record {
          commands = record { command = c; at = s.at } ∷ r.commands;
          end = r.end;
          more =
              r.more;
          are = (is, r.are);
          good = r.good;
          parts =
              λ i. sentence (sym w i) s.at ∷ r.parts i;
        }
    within_by constants claims lemmas x chain tasks script len e (qed p next w h) =
        let one : Lemma = record { name = x; formula = chain; tasks = tasks; qed = here } in
        let longer : length (lemmas ++ one ∷ []) ≡ length claims =
        omega (arith, length-append lemmas (one ∷ []), len) in
        let r = betweens constants claims (lemmas ++ one ∷ []) (n + 1) script longer
        (not_empty lemmas one)
        (stepped (state constants claims lemmas (Proving x chain tasks))
        (state constants claims (lemmas ++ one ∷ []) Outside) (codes "Qed" ∷ []) script w
        (qed_step constants claims lemmas x chain tasks here) e) in
        record {
          commands = [];
          end = s.at;
          more = r.more;
          are = tt;
          good = r.good;
          parts =
              λ i. sentence (sym w i) s.at ∷ r.parts i;
        }

-- what a sentence is, behind what went before
read_first : (was : Script) (s : Sentence) (ss : List Sentence) (n : ℕ) (script : Script)
    → Ends (Some was) n (s ∷ ss) script → Read was s.words
read_first was s ss n script e =
    let next =
    next_of (after_words was s.words (record { number = n + 1; at = s.at }))
    (n + 1) ss script e in
    sentence_read was s.words (record { number = n + 1; at = s.at }) next.0 next.1

rests : (ss : List Sentence) → First ss × Between ss × Waiting ss × Within ss
rests [] = (
  λ constants n script e. record { constants = []; claims = []; are = tt; good = tt; parts = refl },
  λ constants claims lemmas n script len some e. record { more = []; good = tt; parts = refl },
  λ constants claims lemmas x chain n script len e. absurd (cc (e)),
  λ constants claims lemmas x chain tasks n script len e. absurd (cc (e)),
)
rests (s ∷ ss) =
    let r = rests ss in (
      λ constants n script e. first_by s ss n r.0 r.1 r.2 r.3 constants script e
          (read_first (state constants [] [] Outside) s ss n script e),
      λ constants claims lemmas n script len some e. between_by s ss n r.0 r.1 r.2 r.3 constants
          claims lemmas script len some e
          (read_first (state constants claims lemmas Outside) s ss n script e),
      λ constants claims lemmas x chain n script len e. waiting_by s ss n r.0 r.1 r.2 r.3 constants
          claims lemmas x chain script len e
          (read_first (state constants claims lemmas (Stated x chain)) s ss n script e),
      λ constants claims lemmas x chain tasks n script len e. within_by s ss n r.0 r.1 r.2 r.3
          constants claims lemmas x chain tasks script len e
          (read_first (state constants claims lemmas (Proving x chain tasks)) s ss n script e),
    )

same_some : (a b : Script) → Some a ≡ Some b → a ≡ b
same_some a b e = cc

pub script_is_of_file : (ss : List Sentence) (script : Script) → script_of ss ≡ Some script
    → IsFileOf ss script
unfolding script_of
script_is_of_file ss script e =
    let r = (rests ss).0 [] 0 script e in
    let f : File = record { constants = r.constants; claims = r.claims } in
    let good : IsFile f = record { constants = r.are; claims = r.good } in
    record {
      file = f;
      good = good;
      parts = r.parts;
      holds = same_some (file_script f) script
          (sym (file_read f good) ∙ ap script_of r.parts ∙ e);
    }

pub file_is_read : (ss : List Sentence) (script : Script) → IsFileOf ss script
    → script_of ss ≡ Some script
file_is_read ss script is = ap script_of (sym is.parts) ∙ file_read is.file is.good
    ∙ ap Some is.holds
