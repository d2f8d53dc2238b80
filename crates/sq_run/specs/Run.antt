-- What a run answers.
use Rattle.std.specs.Prelude.{◌≡◌, ◌⊎◌, ℕ, Bool, false, not, ◌&&◌, ◌==◌, nat_lt, List, [], ◌∷◌}
use Rattle.std.specs.Prelude.{◌++◌}
use Rattle.std.specs.Prelude.{length, take, None, Some, codes, if◌then◌else◌}
use Rattle.std.specs.declared.option.Option.{Option}
use Rattle.std.specs.Str.{bytes_eq}
use Rattle.sq_edge.specs.declared.status.Status.{Status}
use Rattle.sq_edge.specs.declared.status.Status.TheVariants.{Usage, Missing, ShelfFault, OutFault}
use Rattle.sq_edge.specs.declared.status.Status.TheVariants.{Limit, NoMemory}
use Rattle.sq_edge.specs.Edge.{Files, held, Lacks, and_then_bytes}
use Rattle.sq_run.specs.declared.answer.Answer.{Answer}
use Rattle.sq_run.specs.Answering.{most_bytes, answer_of}

-- whether the word begins with a dash
abbrev pub has_dash : List ℕ → Bool
has_dash [] = false
has_dash (b ∷ word) = b == 45

-- the file that the words name, where they are `check FILE`
abbrev pub file_of : List (List ℕ) → Option (List ℕ)
file_of (command ∷ file ∷ []) =
    if bytes_eq command (codes "check") && not (has_dash file) then Some file else None
file_of words = None

abbrev pub usage_text : List ℕ
usage_text = codes "usage: squirrel check FILE" ++ 10 ∷ []

abbrev pub missing_text : List ℕ → List ℕ
missing_text name = codes "missing: " ++ name ++ 10 ∷ []

abbrev pub fault_text : List ℕ → List ℕ
fault_text name = codes "shelf fault: " ++ name ++ 10 ∷ []

abbrev pub limit_text : List ℕ
limit_text = codes "limit: file over 1048576 bytes" ++ 10 ∷ []

-- the answer for a whole file
abbrev pub answer_for : List ℕ → Answer
answer_for file =
    if nat_lt most_bytes (length file) then record { status = Limit; text = limit_text }
    else answer_of file

-- What a run with this file's name is to answer, whatever becomes of the text.
abbrev pub IsMeantFor : List ℕ → Option Files → Type 0 → Type 0 → Status → List ℕ → Type 0
IsMeantFor name files fault miss Missing text =
    miss × (text ≡ missing_text name) × ((file : List ℕ) → held files name ≡ Some file → ⊥)
IsMeantFor name files fault miss ShelfFault text = fault × (text ≡ fault_text name)
IsMeantFor name files fault miss Usage text = ⊥
IsMeantFor name files fault miss OutFault text = ⊥
IsMeantFor name files fault miss NoMemory text = ⊥
IsMeantFor name files fault miss status text =
    (Lacks files name → ⊥)
    × ((file : List ℕ) → held files name ≡ Some file
    → answer_for file ≡ record { status = status; text = text })

-- What a run with these words is to answer.
abbrev pub IsMeant : Option (List ℕ) → Option Files → Type 0 → Type 0 → Status → List ℕ
    → Type 0
IsMeant None files fault miss status text = (status ≡ Usage) × (text ≡ usage_text)
IsMeant (Some name) files fault miss status text = IsMeantFor name files fault miss status text

-- What was meant was put whole, or a front of it where the sink failed, or nothing where memory ran
-- out.
abbrev pub Answers : (Status → List ℕ → Type 0) → Option (List ℕ) → Option (List ℕ) → Type 0
    → Status → Type 0
Answers meant old new rose OutFault =
    rose × (status : Status) × (text : List ℕ) × (n : ℕ) × meant status text
    × (new ≡ and_then_bytes old (take n text))
Answers meant old new rose NoMemory = new ≡ old
Answers meant old new rose status =
    (text : List ℕ) × meant status text × (new ≡ and_then_bytes old text)

-- The text was put whole and the status stays, or the sink failed behind a front of it.
abbrev pub IsPut : Option (List ℕ) → Option (List ℕ) → Type 0 → List ℕ → Status → Status
    → Type 0
IsPut old new rose text status result =
    ((result ≡ status) × (new ≡ and_then_bytes old text))
    ⊎ ((result ≡ OutFault) × rose × (n : ℕ) × (new ≡ and_then_bytes old (take n text)))
