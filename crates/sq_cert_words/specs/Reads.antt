-- What a reader of words answers, by what it reads from the front of the words that are left.
use Rattle.std.specs.Prelude.{◌≡◌, List, [], ◌∷◌, ℕ, Option, Some, None, Result, Ok}
use Rattle.std.specs.Prelude.{Err, ⊤, option_copied}
use Rattle.sq_cert_words.specs.declared.fault.CertFault.{CertFault}
use Rattle.sq_cert_words.specs.declared.fault.CertFault.TheVariants.{BadStep, NoMemory}
use Rattle.sq_cert_words.specs.declared.word.Word.{Word}
use Rattle.sq_cert_words.specs.declared.words.Words.{Words}
use Rattle.sq_cert_words.specs.Lines.{words_left}
use Rattle.sq_cert_words.specs.Words.{word_of}

-- what stands at the front of some words, and the words behind it
abbrev pub Found : Type 0 → Type 0
Found A = Option (A × List (List ℕ))

abbrev pub followed : {A B : Type 0} → Found A → (A → List (List ℕ) → Found B) → Found B
followed None f = None
followed (Some p) f = f p.0 p.1

abbrev pub Fails : {A : Type 0} → CertFault → Found A → Type 0
Fails BadStep found = found ≡ None
Fails NoMemory found = ⊤

-- Ok is what is found, as `view` sees it, and leaves the words behind it. BadStep says that nothing
-- is found.
abbrev pub Reads : {A B : Type 0} → (A → B) → Result A CertFault → List (List ℕ) → Found B → Type 0
Reads view (Ok a) left found = found ≡ Some (view a, left)
Reads view (Err e) left found = Fails e found

-- the words still to come
abbrev pub left : Words → List (List ℕ)
left ws = words_left (option_copied ws.rest)

abbrev pub as_found : {A : Type 0} → Option A → List (List ℕ) → Found A
as_found None ws = None
as_found (Some a) ws = Some (a, ws)

abbrev pub any_word : List (List ℕ) → Found (List ℕ)
any_word [] = None
any_word (w ∷ ws) = Some (w, ws)

abbrev pub head_word : List (List ℕ) → Found Word
head_word [] = None
head_word (w ∷ ws) = as_found (word_of w) ws
