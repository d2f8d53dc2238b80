-- What is meant, and what is answered.
use Rattle.std.proofs.Common.{◌≡◌, ◌⊎◌, ◌<◌, ◌≤◌, inl, inr, ℕ, true, false, List, length, take}
use Rattle.std.proofs.Common.{None, Some, refl, sym, ◌∙◌, ap, subst, arith, length-take, nat_lt}
use Rattle.std.proofs.lemmas.Bool.Decides.{nat_tests}
use Rattle.std.specs.declared.option.Option.{Option}
use Rattle.sq_edge.specs.declared.status.Status.{Status}
use Rattle.sq_edge.specs.declared.status.Status.TheVariants.{Done, Refused, Usage, Missing}
use Rattle.sq_edge.specs.declared.status.Status.TheVariants.{ShelfFault, OutFault, Limit, NoMemory}
use Rattle.sq_edge.specs.Edge.{Files, held, Lacks, and_then_bytes}
use Rattle.sq_run.specs.declared.answer.Answer.{Answer}
use Rattle.sq_run.specs.Answering.{IsVerdict}
use Rattle.sq_run.specs.Run.{answer_for, limit_text, usage_text, IsMeant, IsMeantFor, IsPut}
use Rattle.sq_run.specs.Run.{Answers}
use Rattle.sq_run.proofs.Bytes.{take_short}

limit : Answer
limit = record { status = Limit; text = limit_text }

over : (bytes : List ℕ) → 1048576 < length bytes → answer_for bytes ≡ limit
unfolding limit
over bytes h = let test : nat_lt 1048576 (length bytes) ≡ true =
    grind (arith, nat_tests) in rw test refl

-- the bytes up to one more than there may be tell the answer
pub same_answer : (file bytes : List ℕ) → bytes ≡ take 1048577 file
    → answer_for file ≡ answer_for bytes
same_answer file bytes is =
    elim (nat_lt 1048576 (length file)) as
    (λ b. nat_lt 1048576 (length file) ≡ b → answer_for file ≡ answer_for bytes) [
      | true ↦ λ t.
          let long : 1048576 < length file = grind (arith, nat_tests) in
          let len : 1048576 < length bytes =
          omega (arith, ap length is, length-take 1048577 file) in
          over file long ∙ sym (over bytes len)
      | false ↦ λ t.
          let short : length file ≤ 1048577 = grind (arith, nat_tests) in
          ap answer_for (sym (is ∙ take_short 1048577 file short))
    ] refl

-- a verdict on the file is meant
verdict_meant : (name : List ℕ) (files : Option Files) (fault miss : Type 0) (status : Status)
    (text : List ℕ) → IsVerdict status
    → (Lacks files name → ⊥) × ((file : List ℕ) → held files name ≡ Some file
    → answer_for file ≡ record { status = status; text = text })
    → IsMeantFor name files fault miss status text
verdict_meant name files fault miss Done text v h = h
verdict_meant name files fault miss Refused text v h = h
verdict_meant name files fault miss Limit text v h = h
verdict_meant name files fault miss Usage text v h = absurd v
verdict_meant name files fault miss Missing text v h = absurd v
verdict_meant name files fault miss ShelfFault text v h = absurd v
verdict_meant name files fault miss OutFault text v h = absurd v
verdict_meant name files fault miss NoMemory text v h = absurd v

pub meant_for : (name : List ℕ) (files : Option Files) (fault miss : Type 0) (bytes : List ℕ)
    (a : Answer) → (a ≡ answer_for bytes) × IsVerdict a.status
    → (Lacks files name → ⊥)
    → ((file : List ℕ) → held files name ≡ Some file → bytes ≡ take 1048577 file)
    → IsMeantFor name files fault miss a.status a.text
meant_for name files fault miss bytes a is there read =
    verdict_meant name files fault miss a.status a.text is.1
    (there, λ file h. same_answer file bytes (read file h) ∙ sym is.0)

module _ (meant : Status → List ℕ → Type 0) (old new : Option (List ℕ)) (rose : Type 0)
    (text : List ℕ) where
  whole : (status : Status) → (meant OutFault text → ⊥) → (meant NoMemory text → ⊥)
      → meant status text → new ≡ and_then_bytes old text → Answers meant old new rose status
  whole Done out memory m put = (text, m, put)
  whole Refused out memory m put = (text, m, put)
  whole Usage out memory m put = (text, m, put)
  whole Missing out memory m put = (text, m, put)
  whole ShelfFault out memory m put = (text, m, put)
  whole Limit out memory m put = (text, m, put)
  whole OutFault out memory m put = absurd (out m)
  whole NoMemory out memory m put = absurd (memory m)

  pub put_meant : (status result : Status) → (meant OutFault text → ⊥) → (meant NoMemory text → ⊥)
      → meant status text → IsPut old new rose text status result
      → Answers meant old new rose result
  put_meant status result out memory m (inl done) =
      subst (Answers meant old new rose) (sym done.0) (whole status out memory m done.1)
  put_meant status result out memory m (inr cut) =
      subst (Answers meant old new rose) (sym cut.0) (cut.1, status, text, cut.2, m, cut.3)

-- where nothing failed
pub completes : (name file : List ℕ) (files : Option Files) (fault miss : Type 0)
    (old new : Option (List ℕ)) (rose : Type 0) (result : Status)
    → Answers (IsMeant (Some name) files fault miss) old new rose result
    → held files name ≡ Some file → (fault → ⊥) → (miss → ⊥) → (rose → ⊥)
    → (result ≡ (answer_for file).status) ⊎ (result ≡ NoMemory)
completes name file files fault miss old new rose Done a h f m r =
    inl (sym (ap (λ (x : Answer). x.status) (a.1.1 file h)))
completes name file files fault miss old new rose Refused a h f m r =
    inl (sym (ap (λ (x : Answer). x.status) (a.1.1 file h)))
completes name file files fault miss old new rose Limit a h f m r =
    inl (sym (ap (λ (x : Answer). x.status) (a.1.1 file h)))
completes name file files fault miss old new rose Usage a h f m r = absurd a.1
completes name file files fault miss old new rose Missing a h f m r = absurd (m a.1.0)
completes name file files fault miss old new rose ShelfFault a h f m r = absurd (f a.1.0)
completes name file files fault miss old new rose OutFault a h f m r = absurd (r a.0)
completes name file files fault miss old new rose NoMemory a h f m r = inr refl

-- the words name this file
pub named_answered : (name : List ℕ) (words : Option (List ℕ)) (files : Option Files)
    (fault miss : Type 0) (old new : Option (List ℕ)) (rose : Type 0) (result : Status)
    → Answers (IsMeant (Some name) files fault miss) old new rose result → Some name ≡ words
    → Answers (IsMeant words files fault miss) old new rose result
named_answered name words files fault miss old new rose result a is =
    subst (λ (w : Option (List ℕ)). Answers (IsMeant w files fault miss) old new rose result) is a

-- the words are no listed form
pub usage_answered : (words : Option (List ℕ)) (files : Option Files) (fault miss : Type 0)
    (old new : Option (List ℕ)) (rose : Type 0) (result : Status)
    → IsPut old new rose usage_text Usage result → None ≡ words
    → Answers (IsMeant words files fault miss) old new rose result
usage_answered words files fault miss old new rose result put is =
    subst (λ (w : Option (List ℕ)). Answers (IsMeant w files fault miss) old new rose result) is
    (put_meant (IsMeant None files fault miss) old new rose usage_text Usage result (λ m. cc (m.0))
    (λ m. cc (m.0)) (refl, refl) put)
