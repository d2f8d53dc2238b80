-- Reserved words and their texts.
use Rattle.std.proofs.Common.{◌≡◌, ℕ, Bool, true, false, if◌then◌else◌, List, [], ◌∷◌, Some, find}
use Rattle.std.proofs.Common.{bytes_eq}
use Rattle.std.proofs.Common.{refl, sym, ap, ◌∙◌, ◌↔◌}
use Rattle.std.proofs.lemmas.Slice.Eq.{bytes_eq-Decides}
use Rattle.sq_token.specs.declared.kind.Reserved.{Reserved}
use Rattle.sq_token.specs.declared.kind.Reserved.TheVariants as w
use Rattle.sq_token.specs.Kinds.{reserved_text, reserved_of, reserved_words}

-- what is found passes the test
found_passes : {X : Type 0} (test : X → Bool) (xs : List X) (x : X) → find test xs ≡ Some x → test x
    ≡ true
found_passes test [] x e = cc
found_passes test (y ∷ ys) x e = by (test y) refl e (found_passes test ys x)
  where
    by : (b : Bool) → test y ≡ b → (if b then Some y else find test ys) ≡ Some x
        → (find test ys ≡ Some x → test x ≡ true) → test x ≡ true
    by true p q h = cc
    by false p q h = h q

pub text_of_found : (text : List ℕ) (r : Reserved) → reserved_of text ≡ Some r → text
    ≡ reserved_text r
unfolding reserved_of
text_of_found text r e =
    sym ((bytes_eq-Decides (reserved_text r) text).0
    (found_passes (λ w. bytes_eq (reserved_text w) text) reserved_words r e))

pub found_by_text : (r : Reserved) → reserved_of (reserved_text r) ≡ Some r
unfolding reserved_of
found_by_text w.Hash = refl
found_by_text w.Signature = refl
found_by_text w.Name = refl
found_by_text w.Abstract = refl
found_by_text w.Channel = refl
found_by_text w.Process = refl
found_by_text w.System = refl
found_by_text w.Axiom = refl
found_by_text w.Lemma = refl
found_by_text w.Equiv = refl
found_by_text w.Diff = refl
found_by_text w.Proof = refl
found_by_text w.Qed = refl
found_by_text w.Null = refl
found_by_text w.New = refl
found_by_text w.In = refl
found_by_text w.Out = refl
found_by_text w.If = refl
found_by_text w.Then = refl
found_by_text w.Else = refl
found_by_text w.Find = refl
found_by_text w.Such = refl
found_by_text w.That = refl
found_by_text w.Let = refl
found_by_text w.Forall = refl
found_by_text w.Exists = refl
found_by_text w.True = refl
found_by_text w.False = refl
found_by_text w.Empty = refl
found_by_text w.Not = refl
found_by_text w.Happens = refl
found_by_text w.Init = refl
found_by_text w.Pred = refl
found_by_text w.Input = refl
found_by_text w.Output = refl
found_by_text w.Cond = refl
found_by_text w.Exec = refl
found_by_text w.Frame = refl
found_by_text w.Fst = refl
found_by_text w.Snd = refl
found_by_text w.OfBool = refl
found_by_text w.Att = refl
found_by_text w.Index = refl
found_by_text w.Message = refl
found_by_text w.Boolean = refl
found_by_text w.Timestamp = refl
found_by_text w.Mutable = refl
found_by_text w.As = refl
found_by_text w.By = refl
found_by_text w.From = refl

-- a word is found by exactly its own text
pub word_is : (text : List ℕ) (r : Reserved)
    → (reserved_of text ≡ Some r) ↔ (text ≡ reserved_text r)
word_is text r = (text_of_found text r, λ h. ap reserved_of h ∙ found_by_text r)
