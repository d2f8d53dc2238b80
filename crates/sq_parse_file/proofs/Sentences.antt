-- Sentences by their first word; each has at most one tree; and what is answered of one.
use Rattle.std.proofs.Common.{◌≡◌, ℕ, zero, suc, ◌<◌, ◌≤◌, Bool, true, false, if◌then◌else◌, List}
use Rattle.std.proofs.Common.{[], ◌∷◌}
use Rattle.std.proofs.Common.{◌++◌, length, Option, Some, None, find, bytes_eq, refl, sym, ap, ◌∙◌}
use Rattle.std.proofs.Common.{subst, arith, ◌⊎◌, inl, inr}
use Rattle.std.specs.Prelude.{codes, ⊤}
use Rattle.std.proofs.lemmas.List.{append-nil}
use Rattle.std.proofs.lemmas.Slice.Eq.{bytes_eq-Decides}
use Rattle.sq_token.specs.declared.kind.Reserved.{Reserved}
use Rattle.sq_token.specs.declared.kind.Reserved.TheVariants as r
use Rattle.sq_token.specs.Sign.{Sign, word, number, reserved, mark}
use Rattle.sq_ast.specs.declared.command.CommandWord.{CommandWord}
use Rattle.sq_ast.specs.declared.command.CommandWord.TheVariants as w
use Rattle.sq_ast.specs.Sentence.{a_number, identifier, Element, literal, part, Values, all_spelled}
use Rattle.sq_ast.specs.Sentence.{AllFit, RowDeep}
use Rattle.sq_ast.specs.Forms.{Kind, hash, channel, signature, name, function, process, system}
use Rattle.sq_ast.specs.Forms.{postulate, lemma, equivalence, proof, qed, exists, command}
use Rattle.sq_ast.specs.Forms.{fresh_item, command_text, first_word, labelled, command_form}
use Rattle.sq_ast.specs.Forms.{form_of, SentenceTree, sentence, kind_of, sentence_spelled}
use Rattle.sq_ast.specs.Forms.{IsBuiltSentence, sentence_height, IsSentenceOf, SentenceRunsDeep}
use Rattle.sq_ast.specs.Forms.{SentenceDeep}
use Rattle.sq_ast.specs.Commands.{command_words, command_of}
use Rattle.sq_parse_term.specs.Parse.{Read, deep, none, got, bind, recover}
use Rattle.sq_parse_term.proofs.Outcomes.{Tells, Finds, bind_holds, recover_holds, recover_finds}
use Rattle.sq_parse_term.proofs.Outcomes.{weaken}
use Rattle.sq_parse_term.proofs.Complete.{Exactly}
use Rattle.sq_parse_term.proofs.Runs.{Only, only_map, IsDeep, deep_bind}
use Rattle.sq_parse_file.specs.Read.{end, read_row, read_kind, kind_at, read_reserved, read_fresh}
use Rattle.sq_parse_file.specs.Read.{read_command, read_sentence}
use Rattle.sq_parse_file.specs.Answers.{IsItem, HasNoTree, IsTooDeep, first_place, only_tree}
use Rattle.sq_parse_file.proofs.RowReading.{row_only, row_finds, row_deep, row_shallow}
use Rattle.sq_parse_file.proofs.Clear.{clear, pair_shallow, one_shallow}

-- ---- first words

kind_at_is : (v : Reserved) (k : Kind) → kind_at v ≡ Some k → reserved v ≡ first_word k
kind_at_is r.Hash k h = let e : hash ≡ k = cc in ap first_word e
kind_at_is r.Channel k h = let e : channel ≡ k = cc in ap first_word e
kind_at_is r.Signature k h = let e : signature ≡ k = cc in ap first_word e
kind_at_is r.Name k h = let e : name ≡ k = cc in ap first_word e
kind_at_is r.Abstract k h = let e : function ≡ k = cc in ap first_word e
kind_at_is r.Process k h = let e : process ≡ k = cc in ap first_word e
kind_at_is r.System k h = let e : system ≡ k = cc in ap first_word e
kind_at_is r.Axiom k h = let e : postulate ≡ k = cc in ap first_word e
kind_at_is r.Lemma k h = let e : lemma ≡ k = cc in ap first_word e
kind_at_is r.Equiv k h = let e : equivalence ≡ k = cc in ap first_word e
kind_at_is r.Proof k h = let e : proof ≡ k = cc in ap first_word e
kind_at_is r.Qed k h = let e : qed ≡ k = cc in ap first_word e
kind_at_is r.Exists k h = let e : exists ≡ k = cc in ap first_word e
kind_at_is _ k h = cc

found_passes : {X : Type 0} (test : X → Bool) (xs : List X) (x : X) → find test xs ≡ Some x → test x
    ≡ true
found_passes test [] x e = cc
found_passes test (y ∷ ys) x e = by (test y) refl e (found_passes test ys x)
  where
    by : (b : Bool) → test y ≡ b → (if b then Some y else find test ys) ≡ Some x
        → (find test ys ≡ Some x → test x ≡ true) → test x ≡ true
    by true p q h = cc
    by false p q h = h q

text_of_found : (text : List ℕ) (c : CommandWord) → command_of text ≡ Some c → text ≡ command_text c
unfolding command_of
text_of_found text c e =
    sym ((bytes_eq-Decides (command_text c) text).0
    (found_passes (λ x. bytes_eq (command_text x) text) command_words c e))

found_by_text : (c : CommandWord) → command_of (command_text c) ≡ Some c
unfolding command_of
found_by_text w.Intro = refl
found_by_text w.Split = refl
found_by_text w.Left = refl
found_by_text w.Right = refl
found_by_text w.Destruct = refl
found_by_text w.Mp = refl
found_by_text w.Contra = refl
found_by_text w.Spec = refl
found_by_text w.Have = refl
found_by_text w.Case = refl
found_by_text w.Drop = refl
found_by_text w.Use = refl
found_by_text w.Project = refl
found_by_text w.Trace = refl
found_by_text w.Assumption = refl
found_by_text w.Refl = refl
found_by_text w.Rewrite = refl
found_by_text w.Fact = refl
found_by_text w.Expand = refl
found_by_text w.Undefined = refl
found_by_text w.Tcases = refl
found_by_text w.Induction = refl
found_by_text w.Fresh = refl
found_by_text w.Euf = refl
found_by_text w.Collision = refl
found_by_text w.Assume = refl
found_by_text w.Select = refl
found_by_text w.Fa = refl
found_by_text w.Atom = refl
found_by_text w.IfCase = refl
found_by_text w.Deduce = refl
found_by_text w.Replace = refl
found_by_text w.Prf = refl
found_by_text w.Constraints = refl
found_by_text w.Congruence = refl
found_by_text w.Auto = refl

no_item : (d : ℕ) (n : List ℕ) (q : List Sign) → read_kind d fresh_item (word n ∷ q) ≡ none
unfolding read_row
no_item d n q = refl

module _ (d : ℕ) where
  -- behind the first word of the kind
  of_kind : (k : Kind) (q : List Sign) → Only (SentenceRunsDeep d (first_word k ∷ q))
      (λ t u. (u ≡ []) × IsSentenceOf t (first_word k ∷ q)) (read_kind d k q)
  of_kind k q =
      let D = SentenceRunsDeep d (first_word k ∷ q) in
      bind_holds D ⊤ (λ vs u. AllFit (form_of k) vs × (q ≡ all_spelled (form_of k) vs ++ u))
      (λ t u. (u ≡ []) × IsSentenceOf t (first_word k ∷ q)) (read_row d (form_of k) q) _
      (only_map (RowDeep d (form_of k) q) D _ (read_row d (form_of k) q) (row_only d (form_of k) q)
      (λ h. record { kind = k; rest = q; split = refl; runs = h }))
      (λ vs u h. ended vs u h.0 h.1)
    where
      ended : (vs : Values (form_of k)) (u : List Sign) → AllFit (form_of k) vs → q
          ≡ all_spelled (form_of k) vs ++ u → Only (SentenceRunsDeep d (first_word k ∷ q))
          (λ t x. (x ≡ []) × IsSentenceOf t (first_word k ∷ q))
          (bind (end u) (λ _ x. got (sentence k vs) x))
      ended vs [] f e = (
        refl,
        record {
          built = f;
          spelled_is =
              ap (λ z. first_word k ∷ z) (e ∙ append-nil (all_spelled (form_of k) vs));
        },
      )
      ended vs (s ∷ u) f e = tt

  command_only : (c : CommandWord) (q : List Sign)
      → Only (SentenceRunsDeep d (word (command_text c) ∷ q))
      (λ t u. (u ≡ []) × IsSentenceOf t (word (command_text c) ∷ q)) (read_command d (Some c) q)
  command_only w.Fresh q =
      let D = SentenceRunsDeep d (word (codes "fresh") ∷ q) in
      let Q : SentenceTree → List Sign → Type 0 = λ t u. (u ≡ [])
      × IsSentenceOf t (word (codes "fresh") ∷ q) in
      recover_holds D ⊤ Q Q ⊤ (read_kind d fresh_item q) _ _ (of_kind fresh_item q) (λ t u h. h)
      (of_kind (command w.Fresh) q)
  command_only c q = of_kind (command c) q

  pub sentence_only : (ts : List Sign)
      → Only (SentenceRunsDeep d ts) (λ t u. (u ≡ []) × IsSentenceOf t ts) (read_sentence d ts)
  sentence_only [] = tt
  sentence_only (number k ∷ q) = tt
  sentence_only (mark i ∷ q) = tt
  sentence_only (reserved v ∷ q) = by (kind_at v) refl
    where
      by : (o : Option Kind) → kind_at v ≡ o → Only (SentenceRunsDeep d (reserved v ∷ q))
          (λ t u. (u ≡ []) × IsSentenceOf t (reserved v ∷ q)) (read_reserved d o q)
      by None e = tt
      by (Some k) e = subst
          (λ z. Only (SentenceRunsDeep d (z ∷ q)) (λ t u. (u ≡ []) × IsSentenceOf t (z ∷ q))
          (read_kind d k q)) (sym (kind_at_is v k e)) (of_kind k q)
  sentence_only (word n ∷ q) = by (command_of n) refl
    where
      by : (o : Option CommandWord) → command_of n ≡ o → Only (SentenceRunsDeep d (word n ∷ q))
          (λ t u. (u ≡ []) × IsSentenceOf t (word n ∷ q)) (read_command d o q)
      by None e = tt
      by (Some c) e = subst
          (λ z. Only (SentenceRunsDeep d (word z ∷ q))
          (λ t u. (u ≡ []) × IsSentenceOf t (word z ∷ q)) (read_command d (Some c) q))
          (sym (text_of_found n c e)) (command_only c q)

  kind_finds : (k : Kind) (vs : Values (form_of k)) → AllFit (form_of k) vs
      → Finds (Exactly (sentence k vs) []) (read_kind d k (all_spelled (form_of k) vs))
  kind_finds k vs f =
      bind_holds ⊤ ⊥ (Exactly vs []) (Exactly (sentence k vs) [])
      (read_row d (form_of k) (all_spelled (form_of k) vs)) _
      (row_finds d (form_of k) vs (clear d k) f)
      (λ us u e. subst (λ z. Finds (Exactly (sentence k vs) [])
      (bind (end z) (λ _ x. got (sentence k us) x))) (sym e.1)
      (ap (λ z. sentence k z) e.0, refl))

  command_finds : (c : CommandWord) (vs : Values (command_form c)) → AllFit (command_form c) vs
      → Finds (Exactly (sentence (command c) vs) [])
      (read_command d (Some c) (all_spelled (command_form c) vs))
  command_finds w.Fresh vs f =
      rw (no_item d vs.0 (all_spelled (literal (reserved r.As) ∷ part identifier ∷ []) vs.1))
      (kind_finds (command w.Fresh) vs f)
  command_finds c vs f = kind_finds (command c) vs f

  item_finds : (vs : Values (form_of fresh_item)) → AllFit (form_of fresh_item) vs
      → Finds (Exactly (sentence fresh_item vs) [])
      (read_fresh d (all_spelled (form_of fresh_item) vs))
  item_finds vs f = recover_finds ⊤ ⊥ (Exactly (sentence fresh_item vs) [])
      (Exactly (sentence fresh_item vs) [])
      (read_kind d fresh_item (all_spelled (form_of fresh_item) vs)) _ _
      (kind_finds fresh_item vs f) (λ t u e. e)

  spelled_finds : (k : Kind) (vs : Values (form_of k)) → AllFit (form_of k) vs
      → Finds (Exactly (sentence k vs) [])
      (read_sentence d (first_word k ∷ all_spelled (form_of k) vs))
  spelled_finds (command c) vs f = rw (found_by_text c) (command_finds c vs f)
  spelled_finds fresh_item vs f = rw (found_by_text w.Fresh) (item_finds vs f)
  spelled_finds k vs f = kind_finds k vs f

  pub sentence_finds : (t : SentenceTree) (ts : List Sign) → IsSentenceOf t ts
      → Finds (Exactly t []) (read_sentence d ts)
  sentence_finds (sentence k vs) ts h =
      subst (λ z. Finds (Exactly (sentence k vs) []) (read_sentence d z)) (sym h.spelled_is)
      (spelled_finds k vs h.built)

  kind_deep : (k : Kind) (q : List Sign) → RowDeep d (form_of k) q → IsDeep (read_kind d k q)
  kind_deep k q h = deep_bind (read_row d (form_of k) q) _ (row_deep d (form_of k) q (clear d k) h)

  command_deep : (c : CommandWord) (q : List Sign) → RowDeep d (command_form c) q
      → IsDeep (read_command d (Some c) q)
  command_deep w.Fresh q h = absurd (of h)
    where
      last : (u : List Sign) → RowDeep d (part identifier ∷ []) u → ⊥
      last u g = one_shallow d identifier u (λ ts i. i) g

      of : RowDeep d labelled q → ⊥
      of (inl g) = g
      of (inr g) = last g.3.0 g.3.2
  command_deep c q h = kind_deep (command c) q h

  first_deep : (k : Kind) (q : List Sign) → RowDeep d (form_of k) q
      → IsDeep (read_sentence d (first_word k ∷ q))
  first_deep (command c) q h = rw (found_by_text c) (command_deep c q h)
  first_deep fresh_item q h = absurd (one_shallow d a_number q (λ ts i. i) h)
  first_deep k q h = kind_deep k q h

  pub sentence_deep : (ts : List Sign) → SentenceRunsDeep d ts → IsDeep (read_sentence d ts)
  sentence_deep ts h = subst (λ z. IsDeep (read_sentence d z)) (sym h.split)
      (first_deep h.kind h.rest h.runs)

  sentence_shallow : (ts : List Sign) → length ts < d → SentenceRunsDeep d ts → ⊥
  sentence_shallow ts lt h =
      row_shallow d (form_of h.kind) h.rest (omega (arith, ap length h.split)) h.runs

-- ---- at most one tree

both : (t u : SentenceTree) (D : Type 0) (Q : SentenceTree → List Sign → Type 0)
    (m : Read SentenceTree) → Only D Q m → (D → ⊥) → Finds (Exactly t []) m → Finds (Exactly u []) m
    → t ≡ u
both t u D Q deep o n f g = absurd (n o)
both t u D Q none o n f g = absurd f
both t u D Q (got a q) o n f g = sym f.0 ∙ g.0

pub one_sentence : (t u : SentenceTree) (ts : List Sign) → IsSentenceOf t ts → IsSentenceOf u ts → t
    ≡ u
one_sentence t u ts h i =
    let d = suc (length ts) in
    both t u (SentenceRunsDeep d ts) _ (read_sentence d ts) (sentence_only d ts)
    (sentence_shallow d ts (omega arith)) (sentence_finds d t ts h) (sentence_finds d u ts i)

-- ---- answers

only_tells : {A : Type 0} (D : Type 0) (Q : A → List Sign → Type 0) (m : Read A) → Only D Q m
    → Tells Q m
only_tells D Q deep h = tt
only_tells D Q none h = h
only_tells D Q (got a q) h = h

sentence_is : (ts : List Sign) (t : SentenceTree) → read_sentence 256 ts ≡ got t []
    → IsSentenceOf t ts
sentence_is ts t e =
    (subst (Tells (λ v u. (u ≡ []) × IsSentenceOf v ts)) e
    (only_tells (SentenceRunsDeep 256 ts) (λ v u. (u ≡ []) × IsSentenceOf v ts)
    (read_sentence 256 ts) (sentence_only 256 ts))).1

pub item_is : (ts : List Sign) (t : SentenceTree) → read_sentence 256 ts ≡ got t []
    → sentence_height t ≤ 256 → IsItem t ts
item_is ts t e h = record {
  sentence_is = sentence_is ts t e;
  depth = h;
  shallow =
      λ g. subst IsDeep e (sentence_deep 256 ts g);
}

pub none_is : (ts : List Sign) → read_sentence 256 ts ≡ none → HasNoTree ts
none_is ts e = record {
  none = λ t g. subst (Finds (Exactly t [])) e (sentence_finds 256 t ts g);
  shallow = λ g. subst IsDeep e (sentence_deep 256 ts g);
}

pub deep_is : (ts : List Sign) → read_sentence 256 ts ≡ deep → IsTooDeep ts
deep_is ts e = first_place
    (subst (Only (SentenceRunsDeep 256 ts) (λ v u. (u ≡ []) × IsSentenceOf v ts)) e
    (sentence_only 256 ts))

pub high_is : (ts : List Sign) (t : SentenceTree) → read_sentence 256 ts ≡ got t []
    → 256 < sentence_height t → IsTooDeep ts
high_is ts t e h = only_tree t (sentence_is ts t e) h
