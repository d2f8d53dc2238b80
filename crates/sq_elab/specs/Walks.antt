-- What a walk over the events of a process comes to, and what it holds at the end of a way.
use Rattle.std.specs.Prelude.{◌≡◌, ℕ, List, [], ◌∷◌, ◌++◌, length, Option, Some, None, Result}
use Rattle.std.specs.Prelude.{Ok, Err, slice_get}
use Rattle.sq_term.specs.Formulas.{falsity}
use Rattle.sq_term.specs.Syntax as t
use Rattle.sq_term.specs.Syntax.{TermTree}
use Rattle.sq_system.specs.Facts.{first_indices}
use Rattle.sq_elab.specs.declared.fault.ElabFault.{ElabFault}
use Rattle.sq_elab.specs.Events.{Event, Count, counted}
use Rattle.sq_elab.specs.Faults.{fault}
use Rattle.sq_resolve.specs.Fitting.{filled}
use Rattle.sq_elab.specs.Meanings.{Base, Closing, input_of, held, let_sort, values}
use Rattle.sq_elab.specs.Ways.{Step, creates, receives, defines, Way, closes, indices}

-- ---- over events

abbrev pub unless : {A : Type 0} → Option ElabFault → Result A ElabFault → Result A ElabFault
unless (Some x) r = Err x
unless None r = r

-- the count behind the events, or the first fault
abbrev pub judge : Base → Count → List Event → Result Count ElabFault
judge b k [] = Ok k
judge b k (v ∷ vs) = unless (fault b k v) (judge b (counted k v) vs)

abbrev pub behind : {A B : Type 0} → Result A ElabFault → (A → Result B ElabFault)
    → Result B ElabFault
behind (Ok a) rest = rest a
behind (Err e) rest = Err e

-- ---- the line of a way: the actions that it closes, in order

abbrev pub closing_at : Option ℕ → ℕ → List Closing
closing_at (Some a) n = (a, n) ∷ []
closing_at None n = []

abbrev pub line : Way → List Closing
line [] = []
line (s ∷ w) = line w ++ closing_at (closes s) (indices w)

-- ---- slots: what the values of a way are, whatever follows on the line

pub data Slot : Type 0 where
  -- the input of the action with this place on the line
  input : ℕ → Slot
  -- a new name, at its first indices
  name : ℕ → ℕ → Slot
  -- a term with placeholders for the slots before it
  term : TermTree → Slot

abbrev pub slots_of_step : Base → Step → Way → List Slot
slots_of_step b (creates x k) w = name k (indices w) ∷ []
slots_of_step b (receives x a) w = input (length (line (receives x a ∷ w))) ∷ []
slots_of_step b (defines x f) w = term (held b w [] (let_sort b w f) f) ∷ []
slots_of_step b s w = []

abbrev pub slots : Base → Way → List Slot
slots b [] = []
slots b (s ∷ w) = slots b w ++ slots_of_step b s w

abbrev pub input_at : Option Closing → TermTree
input_at (Some c) = input_of c
input_at None = falsity

-- what a slot stands for, behind these values
abbrev pub slot_value : List Closing → List TermTree → Slot → TermTree
slot_value on before (input k) = input_at (slice_get on k)
slot_value on before (name k n) = t.name k (first_indices n)
slot_value on before (term u) = filled before [] u

-- the values of the slots behind these, the first of which may stand in those that follow
abbrev pub read_behind : List Closing → List TermTree → List Slot → List TermTree
read_behind on before [] = before
read_behind on before (s ∷ ss) = read_behind on (before ++ slot_value on before s ∷ []) ss

abbrev pub read : List Closing → List Slot → List TermTree
read on ss = read_behind on [] ss

-- ---- what of this holds

-- a walk over events in two pieces
abbrev pub WalksGoOn : Type 0
WalksGoOn =
    (b : Base) (k : Count) (vs us : List Event)
    → judge b k (vs ++ us) ≡ behind (judge b k vs) (λ j. judge b j us)

-- What is held at the end of a way gives its values, whichever action is closed next and whatever
-- follows it.
abbrev pub ValuesAreReadOffTheLine : Type 0
ValuesAreReadOffTheLine =
    (b : Base) (w : Way) (next : Closing) (more : List Closing)
    → read (line w ++ next ∷ more) (slots b w) ≡ values b next w
