-- A sentence that is read is one of the form, and what it declares is new.
use Rattle.std.proofs.Common.{◌≡◌, ℕ, Bool, true, false, ◌&&◌, if◌then◌else◌, List, [], ◌∷◌, ◌++◌}
use Rattle.std.proofs.Common.{length}
use Rattle.std.proofs.Common.{Option, Some, None, option_map, is_none, codes, refl, sym, ◌∙◌, ap}
use Rattle.std.proofs.Common.{subst}
use Rattle.std.proofs.lemmas.Bool.{and_parts}
use Rattle.std.specs.Str.{bytes_eq}
use Rattle.std.proofs.lemmas.Slice.Eq.{bytes_eq-Decides}
use Rattle.sq_token.specs.declared.kind.Reserved.{Reserved}
use Rattle.sq_token.specs.declared.kind.Reserved.TheVariants as reserved
use Rattle.sq_token.specs.Kinds.{reserved_of}
use Rattle.sq_token.proofs.Words.{text_of_found}
use Rattle.sq_sym.specs.declared.symbol.Symbol.TheVariants.{Fun, Statement}
use Rattle.sq_sym.specs.Declarations.{found}
use Rattle.sq_run.specs.declared.formula.Chain.{Chain}
use Rattle.sq_run.specs.declared.script.Command.{Command}
use Rattle.sq_run.specs.declared.script.Command.TheVariants.{Intro, Destruct, Split, Assumption}
use Rattle.sq_run.specs.declared.script.Place.{Place}
use Rattle.sq_run.specs.declared.script.Stage.TheVariants.{Stated}
use Rattle.sq_run.specs.declared.script.Script.{Script}
use Rattle.sq_run.specs.Formulas.{chain_of, is_shallow}
use Rattle.sq_run.specs.Grammar.{Formula, formula_words}
use Rattle.sq_run.specs.Scripts.{is_name, are_names, is_destruct, command_of, is_outside, is_sort}
use Rattle.sq_run.specs.Scripts.{is_before_lemmas, declared, declared_constant, with_constant}
use Rattle.sq_run.specs.Scripts.{with_stage, stated, stated_chain, stated_formula, begun}
use Rattle.sq_run.specs.Scripts.{begun_at, commanded, commanded_at, qed as ended, ended_at}
use Rattle.sq_run.specs.Scripts.{after_first, after_words}
use Rattle.sq_run.specs.Files.{constant_words, claim_words, command_words, IsCommand}
use Rattle.sq_run.proofs.Grammars.{chain_of-spelled}

if_some : {A : Type 0} (b : Bool) (o : Option A) (y : A) → (if b then o else None) ≡ Some y
    → (b ≡ true) × (o ≡ Some y)
if_some true o y e = (refl, e)
if_some false o y e = absurd (cc (e))

if_mapped : (b : Bool) (g : Script → Script) (s next : Script)
    → option_map g (if b then Some s else None) ≡ Some next → b ≡ true
if_mapped true g s next e = refl
if_mapped false g s next e = absurd (cc (e))

reads_is : (t u : List ℕ) → bytes_eq t u ≡ true → t ≡ u
reads_is t u h = (bytes_eq-Decides t u).0 h

same_command : (c d : Command) → Some c ≡ Some d → c ≡ d
same_command c d e = cc

abbrev IsForm : List (List ℕ) → Command → Type 0
IsForm words c = (words ≡ command_words c) × IsCommand c

abbrev of_one : List ℕ → Option Command
of_one w =
    (if bytes_eq w (codes "split") then Some Split else if bytes_eq w (codes "assumption")
    then Some Assumption else None)

one_word : (w : List ℕ) (c : Command) (x y : Bool) → bytes_eq w (codes "split") ≡ x
    → bytes_eq w (codes "assumption") ≡ y
    → (if x then Some Split else if y then Some Assumption else None)
    ≡ Some c → IsForm (w ∷ []) c
one_word w c true y a b e =
    subst (IsForm (w ∷ [])) (same_command Split c e)
    ((λ i. reads_is w (codes "split") a i ∷ []), tt)
one_word w c false true a b e =
    subst (IsForm (w ∷ [])) (same_command Assumption c e)
    ((λ i. reads_is w (codes "assumption") b i ∷ []), tt)
one_word w c false false a b e = absurd (cc (e))

-- a command's words
command_form : (words : List (List ℕ)) (c : Command) → command_of words ≡ Some c → IsForm words c
command_form [] c e = absurd (cc (e))
command_form (w ∷ []) c e =
    one_word w c (bytes_eq w (codes "split")) (bytes_eq w (codes "assumption")) refl refl e
command_form (w ∷ label ∷ []) c e =
    let p = if_some (bytes_eq w (codes "intro") && is_name label) (Some (Intro label)) c e in
    let q = and_parts (bytes_eq w (codes "intro")) (is_name label) p.0 in
    subst (IsForm (w ∷ label ∷ [])) (same_command (Intro label) c p.1)
    ((λ i. reads_is w (codes "intro") q.0 i ∷ label ∷ []), q.1)
command_form (w ∷ a ∷ b ∷ []) c e = absurd (cc (e))
command_form (w ∷ a ∷ b ∷ d ∷ []) c e = absurd (cc (e))
command_form (w ∷ hyp ∷ by ∷ first ∷ second ∷ []) c e =
    let p = if_some (is_destruct w by && are_names hyp first second)
    (Some (Destruct hyp first second)) c e in
    let q = and_parts (is_destruct w by) (are_names hyp first second) p.0 in
    let words = and_parts (bytes_eq w (codes "destruct")) (bytes_eq by (codes "as")) q.0 in
    let names = and_parts (is_name hyp && is_name first) (is_name second) q.1 in
    let front = and_parts (is_name hyp) (is_name first) names.0 in
    subst (IsForm (w ∷ hyp ∷ by ∷ first ∷ second ∷ []))
    (same_command (Destruct hyp first second) c p.1) (
      (λ i. reads_is w (codes "destruct") words.0 i ∷ hyp ∷ reads_is by
          (codes "as") words.1 i ∷ first ∷ second ∷ []),
      (front.0, front.1, names.1),
    )
command_form (w ∷ a ∷ b ∷ d ∷ f ∷ g ∷ more) c e = absurd (cc (e))

-- the sentences that are read behind what went before
pub data Read (s : Script) (words : List (List ℕ)) : Type 0 where
  constant : (x : List ℕ) → words ≡ constant_words x → is_before_lemmas s ≡ true → is_name x ≡ true
      → is_none (found x s.table) ≡ true → Read s words
  claim : (x : List ℕ) (f : Formula) (chain : Chain) → words ≡ claim_words x f
      → is_outside s.stage ≡ true → is_name x ≡ true
      → chain_of s.table (formula_words f) ≡ Some chain → is_shallow chain ≡ true
      → is_none (found x s.table) ≡ true → Read s words
  proof : (next : Script) → words ≡ codes "Proof" ∷ [] → begun_at s s.stage ≡ Some next
      → Read s words
  command : (c : Command) (p : Place) (next : Script) → words ≡ command_words c → IsCommand c
      → commanded_at s s.stage c p ≡ Some next → Read s words
  qed : (p : Place) (next : Script) → words ≡ codes "Qed" ∷ [] → ended_at s s.stage p ≡ Some next
      → Read s words

module _ (s : Script) (first : List ℕ) (p : Place) (next : Script) where
  constant_read : (rest : List (List ℕ)) → first ≡ codes "abstract" → declared s rest ≡ Some next
      → Read s (first ∷ rest)
  constant_read [] w e = absurd (cc (e))
  constant_read (x ∷ []) w e = absurd (cc (e))
  constant_read (x ∷ colon ∷ []) w e = absurd (cc (e))
  constant_read (x ∷ colon ∷ sort ∷ []) w e =
      let c = if_some (is_sort colon sort && is_before_lemmas s && is_name x)
      (declared_constant s x) next e in
      let front = and_parts (is_sort colon sort && is_before_lemmas s) (is_name x) c.0 in
      let two = and_parts (is_sort colon sort) (is_before_lemmas s) front.0 in
      let marks = and_parts (bytes_eq colon (codes ":")) (bytes_eq sort (codes "boolean")) two.0 in
      let free =
      if_mapped (is_none (found x s.table)) with_constant
      (record s { table = s.table ++ (x, Fun (length s.funs)) ∷ [] }) next c.1 in
      constant x
      (λ i. w i ∷ x ∷ reads_is colon (codes ":") marks.0 i ∷ reads_is sort
      (codes "boolean") marks.1 i ∷ []) two.1 front.1 free
  constant_read (x ∷ colon ∷ sort ∷ more ∷ rest) w e = absurd (cc (e))

  claim_read : (rest : List (List ℕ)) → first ≡ codes "lemma" → stated s rest ≡ Some next
      → Read s (first ∷ rest)
  claim_read [] w e = absurd (cc (e))
  claim_read (x ∷ []) w e = absurd (cc (e))
  claim_read (x ∷ colon ∷ words) w e =
      let c = if_some (bytes_eq colon (codes ":") && is_outside s.stage && is_name x)
      (stated_formula s x words) next e in
      let front = and_parts (bytes_eq colon (codes ":") && is_outside s.stage) (is_name x) c.0 in
      let two = and_parts (bytes_eq colon (codes ":")) (is_outside s.stage) front.0 in
      by two.0 two.1 front.1 (chain_of s.table words) refl c.1
    where
      by : bytes_eq colon (codes ":") ≡ true → is_outside s.stage ≡ true → is_name x ≡ true
          → (o : Option Chain) → chain_of s.table words ≡ o → stated_chain s x o ≡ Some next
          → Read s (first ∷ x ∷ colon ∷ words)
      by mark outside name None is h = absurd (cc (h))
      by mark outside name (Some chain) is h =
          let c = if_some (is_shallow chain) _ next h in
          let free =
          if_mapped (is_none (found x s.table)) (with_stage (Stated x chain))
          (record s { table = s.table ++ (x, Statement (length s.lemmas)) ∷ [] }) next c.1 in
          let f = chain_of-spelled s.table words chain is in
          claim x f.0 chain
          (λ i. w i ∷ x ∷ reads_is colon (codes ":") mark i ∷ sym f.1 i) outside name
          (ap (chain_of s.table) f.1 ∙ is) c.0 free

  proof_read : (rest : List (List ℕ)) → first ≡ codes "Proof" → begun s rest ≡ Some next
      → Read s (first ∷ rest)
  proof_read [] w e = proof next (λ i. w i ∷ []) e
  proof_read (x ∷ rest) w e = absurd (cc (e))

  qed_read : (rest : List (List ℕ)) → first ≡ codes "Qed" → ended s rest p ≡ Some next
      → Read s (first ∷ rest)
  qed_read [] w e = qed p next (λ i. w i ∷ []) e
  qed_read (x ∷ rest) w e = absurd (cc (e))

  command_read : (words : List (List ℕ)) (o : Option Command) → command_of words ≡ o
      → commanded s o p ≡ Some next → Read s words
  command_read words None is e = absurd (cc (e))
  command_read words (Some c) is e = let f = command_form words c is in command c p next f.0 f.1 e

  by_first : (rest : List (List ℕ)) (k : Option Reserved) → reserved_of first ≡ k
      → after_first s k first rest p ≡ Some next → Read s (first ∷ rest)
  by_first rest (Some reserved.Abstract) k e =
      constant_read rest (text_of_found first reserved.Abstract k) e
  by_first rest (Some reserved.Lemma) k e = claim_read rest (text_of_found first reserved.Lemma k) e
  by_first rest (Some reserved.Proof) k e = proof_read rest (text_of_found first reserved.Proof k) e
  by_first rest (Some reserved.Qed) k e = qed_read rest (text_of_found first reserved.Qed k) e
  by_first rest other k e = command_read (first ∷ rest) (command_of (first ∷ rest)) refl e

-- what a sentence is that is read
pub sentence_read : (s : Script) (words : List (List ℕ)) (p : Place) (next : Script)
    → after_words s words p ≡ Some next → Read s words
sentence_read s [] p next e = absurd (cc (e))
sentence_read s (first ∷ rest) p next e = by_first s first p next rest (reserved_of first) refl e
