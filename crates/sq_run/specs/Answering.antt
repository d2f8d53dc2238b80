-- What is answered for a file that was read.
use Rattle.std.specs.Prelude.{ℕ, ◌+◌, ◌==◌, List, [], ◌∷◌, ◌++◌, take, Option, None, Some, codes}
use Rattle.std.specs.Prelude.{decimal, if◌then◌else◌}
use Rattle.std.specs.List.{flat_map}
use Rattle.sq_edge.specs.declared.status.Status.{Status}
use Rattle.sq_edge.specs.declared.status.Status.TheVariants.{Done, Refused, Limit}
use Rattle.sq_run.specs.declared.answer.Answer.{Answer}
use Rattle.sq_run.specs.declared.script.Place.{Place}
use Rattle.sq_run.specs.declared.script.Lemma.{Lemma}
use Rattle.sq_run.specs.declared.script.Script.{Script}
use Rattle.sq_run.specs.declared.runner.Trouble.{Trouble}
use Rattle.sq_run.specs.declared.runner.Trouble.TheVariants.{NotBuilt, Shape, OpenGoals}
use Rattle.sq_run.specs.Scripts.{form_of}
use Rattle.sq_run.specs.Running.{trouble_of}
use Rattle.sq_run.specs.Headline.{proved_line}

-- the most bytes of a file
abbrev pub most_bytes : ℕ
most_bytes = 1048576

-- how a file that was read can end
abbrev pub IsVerdict : Status → Type 0
IsVerdict Done = Unit {0}
IsVerdict Refused = Unit {0}
IsVerdict Limit = Unit {0}
IsVerdict status = ⊥

abbrev pub newlines : List ℕ → ℕ
newlines [] = 0
newlines (b ∷ bytes) = if b == 10 then newlines bytes + 1 else newlines bytes

-- the line of a place, counted from 1
abbrev pub line_of : List ℕ → ℕ → ℕ
line_of bytes at = newlines (take at bytes) + 1

abbrev pub place_text : List ℕ → Place → List ℕ
place_text bytes place =
    codes "sentence " ++ decimal place.number ++ codes ", line " ++ decimal (line_of bytes place.at)
    ++ codes ": "

abbrev pub trouble_text : List ℕ → Trouble → List ℕ
trouble_text bytes NotBuilt = codes "NotBuilt"
trouble_text bytes (Shape place) = place_text bytes place ++ codes "Shape"
trouble_text bytes (OpenGoals n place) =
    place_text bytes place ++ codes "OpenGoals(" ++ decimal n ++ codes ")"

-- the names of the lemmas, in the order of the file
abbrev pub name_of : Lemma → List ℕ
name_of l = l.name

-- a line for each lemma
abbrev pub listing : List ℕ → List Lemma → Answer
listing text lemmas =
    record { status = Done; text = text ++ flat_map (λ l. proved_line (name_of l)) lemmas }

-- one line with the trouble
abbrev pub refusal : List ℕ → List ℕ → Trouble → Answer
refusal text bytes trouble =
    record {
      status = Refused;
      text = text ++ codes "refused: " ++ trouble_text bytes trouble ++ 10 ∷ [];
    }

abbrev pub answer_of_run : List ℕ → Script → Option Trouble → Answer
answer_of_run bytes script None = listing [] script.lemmas
answer_of_run bytes script (Some trouble) = refusal [] bytes trouble

abbrev pub answer_of_form : List ℕ → Option Script → Answer
answer_of_form bytes None = refusal [] bytes NotBuilt
answer_of_form bytes (Some script) = answer_of_run bytes script (trouble_of script)

-- the answer for the bytes of a file
unfoldable pub answer_of : List ℕ → Answer
answer_of bytes = answer_of_form bytes (form_of bytes)
