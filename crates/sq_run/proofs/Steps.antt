-- What one sentence of a file of the form makes of what went before.
use Rattle.std.proofs.Common.{◌≡◌, ◌≤◌, ℕ, Bool, true, ◌&&◌, not, if◌then◌else◌, List, [], ◌∷◌}
use Rattle.std.proofs.Common.{◌++◌, length}
use Rattle.std.proofs.Common.{Option, Some, None, option_map, is_none, codes, refl, ◌∙◌, ap}
use Rattle.std.specs.List.{list_all}
use Rattle.sq_token.specs.declared.kind.Reserved.{Reserved}
use Rattle.sq_token.specs.declared.kind.Reserved.TheVariants as reserved
use Rattle.sq_token.specs.Kinds.{reserved_of}
use Rattle.sq_token.proofs.Words.{found_by_text}
use Rattle.sq_sym.specs.declared.symbol.Symbol.{Symbol}
use Rattle.sq_sym.specs.declared.symbol.Symbol.TheVariants.{Fun, Statement}
use Rattle.sq_sym.specs.Declarations.{found}
use Rattle.sq_term.specs.Measure.{depth}
use Rattle.sq_typing.specs.Functions.{builtin_functions}
use Rattle.sq_run.specs.declared.formula.Chain.{Chain}
use Rattle.sq_run.specs.declared.script.Command.{Command}
use Rattle.sq_run.specs.declared.script.Command.TheVariants.{Intro, Destruct, Split, Assumption}
use Rattle.sq_run.specs.declared.script.Place.{Place}
use Rattle.sq_run.specs.declared.script.Task.{Task}
use Rattle.sq_run.specs.declared.script.Lemma.{Lemma}
use Rattle.sq_run.specs.declared.script.Stage.{Stage}
use Rattle.sq_run.specs.declared.script.Stage.TheVariants.{Outside, Stated, Proving}
use Rattle.sq_run.specs.declared.script.Script.{Script}
use Rattle.sq_run.specs.Formulas.{most_depth, chain_of}
use Rattle.sq_run.specs.Grammar.{Formula, formula_words, formula_tree}
use Rattle.sq_run.specs.Scripts.{with_constant, with_symbol, with_stage, stated_chain, commanded}
use Rattle.sq_run.specs.Scripts.{after_first, after_words}
use Rattle.sq_run.specs.Files.{constant_words, claim_words, command_words, is_among}
use Rattle.sq_run.specs.Files.{formula_names, claim_table, constants_of, constant_functions}
use Rattle.sq_run.specs.Files.{IsNew, IsCommand, formula_chain}
use Rattle.sq_run.proofs.Names.{none-table, table-constant, functions-more, table-claim}
use Rattle.sq_run.proofs.Spelling.{chain_of-table, formula_reads, shallow_reads}

-- what was read: constants and lemmas of these names, these lemmas with their proofs, and what has
-- begun
abbrev pub state : List (List ℕ) → List (List ℕ) → List Lemma → Stage → Script
state constants claims lemmas stage =
    record {
      table = constants_of constants ++ claim_table 0 claims;
      funs =
          builtin_functions ++ constant_functions constants;
      lemmas = lemmas;
      stage = stage;
    }

free : (constants claims : List (List ℕ)) (x : List ℕ) → IsNew constants claims x
    → is_none (found x (constants_of constants ++ claim_table 0 claims)) ≡ true
free constants claims x new =
    none-table x constants claims ∙ (λ i. not (new.no_constant i) && not (new.no_claim i))

by_word : (s : Script) (r : Reserved) (first : List ℕ) (rest : List (List ℕ)) (p : Place)
    → reserved_of first ≡ Some r
    → after_words s (first ∷ rest) p ≡ after_first s (Some r) first rest p
by_word s r first rest p e = ap (λ (k : Option Reserved). after_first s k first rest p) e

pub constant_step : (constants : List (List ℕ)) (x : List ℕ) (p : Place) → IsNew constants [] x
    → after_words (state constants [] [] Outside) (constant_words x) p
    ≡ Some (state (constants ++ x ∷ []) [] [] Outside)
constant_step constants x p new =
    let s : Script = state constants [] [] Outside in
    let symbol : Symbol = Fun (length s.funs) in
    by_word s reserved.Abstract (codes "abstract") (x ∷ codes ":" ∷ codes "boolean" ∷ []) p
    (found_by_text reserved.Abstract)
    ∙ ap (λ (b : Bool). (if b then option_map with_constant (with_symbol s x symbol) else None))
    new.identifier
    ∙ ap (λ (b : Bool). option_map with_constant
    (if b then Some (record s { table = s.table ++ (x, symbol) ∷ [] }) else None))
    (free constants [] x new)
    ∙ (λ i. Some
    (record {
      table = table-constant constants x i;
      funs =
          builtin_functions ++ functions-more constants x i;
      lemmas = [];
      stage = Outside;
    }))

pub claim_step : (constants claims : List (List ℕ)) (lemmas : List Lemma) (x : List ℕ) (f : Formula)
    (p : Place) → length lemmas ≡ length claims → IsNew constants claims x
    → list_all (λ x. is_among x constants) (formula_names f) ≡ true
    → depth (formula_tree (constants_of constants) f) ≤ most_depth
    → after_words (state constants claims lemmas Outside) (claim_words x f) p
    ≡ Some (state constants (claims ++ x ∷ []) lemmas
    (Stated x (formula_chain (constants_of constants) f)))
claim_step constants claims lemmas x f p len new declared shallow =
    let s : Script = state constants claims lemmas Outside in
    let chain : Chain = formula_chain (constants_of constants) f in
    let symbol : Symbol = Statement (length lemmas) in
    by_word s reserved.Lemma (codes "lemma") (x ∷ codes ":" ∷ formula_words f) p
    (found_by_text reserved.Lemma)
    ∙ ap (λ (b : Bool). (if b then stated_chain s x (chain_of s.table (formula_words f)) else None))
    new.identifier
    ∙ ap (stated_chain s x) (chain_of-table constants claims (formula_words f)
    ∙ formula_reads constants f declared)
    ∙ ap (λ (b : Bool). (if b then option_map (with_stage (Stated x chain)) (with_symbol s x symbol)
    else None))
    (shallow_reads constants f declared shallow)
    ∙ ap (λ (b : Bool). option_map (with_stage (Stated x chain))
    (if b then Some (record s { table = s.table ++ (x, symbol) ∷ [] }) else None))
    (free constants claims x new)
    ∙ (λ i. Some
    (record {
      table = table-claim constants claims x
          (length lemmas) len i;
      funs = s.funs;
      lemmas = lemmas;
      stage = Stated x chain;
    }))

module _ (constants claims : List (List ℕ)) (lemmas : List Lemma) (x : List ℕ) (chain : Chain) where
  pub proof_step : (p : Place)
      → after_words (state constants claims lemmas (Stated x chain)) (codes "Proof" ∷ []) p
      ≡ Some (state constants claims lemmas (Proving x chain []))
  proof_step p =
      by_word (state constants claims lemmas (Stated x chain)) reserved.Proof (codes "Proof") [] p
      (found_by_text reserved.Proof)

  pub qed_step : (tasks : List Task) (p : Place)
      → after_words (state constants claims lemmas (Proving x chain tasks)) (codes "Qed" ∷ []) p
      ≡ Some (state constants claims
      (lemmas ++ record { name = x; formula = chain; tasks = tasks; qed = p } ∷ []) Outside)
  qed_step tasks p =
      by_word (state constants claims lemmas (Proving x chain tasks)) reserved.Qed
      (codes "Qed") [] p (found_by_text reserved.Qed)

  abbrev proving : List Task → Script
  proving tasks = state constants claims lemmas (Proving x chain tasks)

  unreserved : (s : Script) (first : List ℕ) (rest : List (List ℕ)) (p : Place)
      → reserved_of first ≡ None → after_words s (first ∷ rest) p ≡ after_first s None first rest p
  unreserved s first rest p e = ap (λ (k : Option Reserved). after_first s k first rest p) e

  pub command_step : (tasks : List Task) (c : Command) (p : Place) → IsCommand c
      → after_words (proving tasks) (command_words c) p
      ≡ Some (proving (tasks ++ record { command = c; place = p } ∷ []))
  unfolding reserved_of
  command_step tasks (Intro label) p h =
      ap (λ (b : Bool). commanded (proving tasks) (if b then Some (Intro label) else None) p) h
  command_step tasks (Destruct hyp first second) p h =
      (λ i. commanded (proving tasks)
      (if h.0 i && h.1 i && h.2 i then Some (Destruct hyp first second) else None) p)
  command_step tasks Split p h = refl
  command_step tasks Assumption p h = refl
