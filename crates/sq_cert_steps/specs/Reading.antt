-- The arguments of steps at the front of some words.
use Rattle.std.specs.Prelude.{ℕ, zero, suc, Bool, if◌then◌else◌, ◌==◌, List, [], ◌∷◌, ◌++◌, length}
use Rattle.std.specs.Prelude.{slice_index}
use Rattle.std.specs.Prelude.{◌≡◌, Option, Some, None, option_map, option_and_then, Result, Ok, Err}
use Rattle.std.specs.Prelude.{⊤, IfOk}
use Rattle.sq_term.specs.declared.term.Idx.{Idx}
use Rattle.sq_term.specs.declared.term.Macro.TheVariants as macro_of
use Rattle.sq_term.specs.Syntax.{TsTree, TermTree}
use Rattle.sq_step.specs.declared.step.Place.{Place}
use Rattle.sq_step.specs.declared.step.Place.TheVariants as place
use Rattle.sq_step.specs.declared.step.Hand.TheVariants as hand_of
use Rattle.sq_step.specs.declared.step.Dir.TheVariants as dir
use Rattle.sq_step.specs.declared.step.Target.TheVariants as target_of
use Rattle.sq_step.specs.declared.step.Step.{Step}
use Rattle.sq_cert_steps.specs.Lines.{Spot, at, written, Argument, number, index_value, time_value}
use Rattle.sq_cert_steps.specs.Lines.{time, term, direction, target, hand, macro, arguments}
use Rattle.sq_cert_words.specs.declared.word.Plain.TheVariants as plain
use Rattle.sq_cert_words.specs.declared.word.Word.{Word}
use Rattle.sq_cert_words.specs.declared.word.Word.TheVariants as word
use Rattle.sq_cert_words.specs.declared.fault.CertFault.{CertFault}
use Rattle.sq_cert_words.specs.declared.fault.CertFault.TheVariants.{BadStep, NoMemory}
use Rattle.sq_cert_words.specs.Numbers as numbers
use Rattle.sq_cert_words.specs.Numbers.{last_number}
use Rattle.sq_cert_words.specs.Lines.{words}
use Rattle.sq_cert_words.specs.Reads.{Found, followed, as_found, any_word, head_word, Reads}
use Rattle.sq_cert_words.specs.Words.{word_of}
use Rattle.sq_cert_terms.specs.Reading.{index_at, ts_of}
use Rattle.sq_cert_terms.specs.Reading as terms
use Rattle.sq_cert_steps.specs.declared.name.StepName.{StepName}
use Rattle.sq_cert_steps.specs.declared.name.StepName.TheVariants as name
use Rattle.sq_cert_steps.specs.Names.{name_of, name_written}

-- ---- places

abbrev pub behind_dot : List ℕ → Option (List ℕ)
behind_dot [] = None
behind_dot (c ∷ cs) = if c == 46 then Some cs else None

abbrev pub node_of : Place → List ℕ → Option (Place × ℕ)
node_of p text =
    option_and_then (λ behind. option_map (λ k. (p, k)) (last_number behind)) (behind_dot text)

abbrev pub numbered_place : (ℕ → Place) → List ℕ → Option (Place × ℕ)
numbered_place f text = option_and_then (λ j. node_of (f j.0) j.1) (numbers.number 4294967295 text)

abbrev pub place_behind : List ℕ → Option (Place × ℕ)
place_behind [] = None
place_behind (c ∷ cs) =
    if c == 103 then node_of place.Goal cs
    else (if c == 104 then numbered_place place.Hyp cs
    else (if c == 108 then numbered_place place.Left cs
    else (if c == 114 then numbered_place place.Right cs else None)))

-- what a word that begins with @ says
abbrev pub is_place : List ℕ → Bool
is_place w = slice_index w 0 == 64

abbrev pub place_of : List ℕ → Option (Place × ℕ)
place_of [] = None
place_of (c ∷ cs) = if c == 64 then place_behind cs else None

abbrev pub placed : {A : Type 0} → Option (Place × ℕ) → List (List ℕ) → Found (Spot A)
placed None ws = None
placed (Some p) ws = Some (at p.0 p.1, ws)

-- a place, or what a reader finds that is told the first word
abbrev pub spot_at : {A : Type 0} → (Word → List (List ℕ) → Found A) → List ℕ → List (List ℕ)
    → Found (Spot A)
spot_at reader w ws =
    if is_place w then placed (place_of w) ws
    else followed (as_found (word_of w) ws)
    (λ h r. followed (reader h r) (λ a q. Some (written a, q)))

abbrev pub spot : {A : Type 0} → (Word → List (List ℕ) → Found A) → List (List ℕ) → Found (Spot A)
spot reader ws = followed (any_word ws) (spot_at reader)

-- written timestamps and terms have depth at most 1,024
abbrev pub index_spot : List (List ℕ) → Found (Spot Idx)
index_spot ws = spot index_at ws

abbrev pub ts_spot : List (List ℕ) → Found (Spot TsTree)
ts_spot ws = spot (ts_of 1023) ws

abbrev pub term_spot : List (List ℕ) → Found (Spot TermTree)
term_spot ws = spot (terms.term_of 1023) ws

-- ---- single words

-- the letter that is all of a word
abbrev pub letter_of : List ℕ → Option ℕ
letter_of [] = None
letter_of (c ∷ []) = Some c
letter_of (c ∷ d ∷ cs) = None

abbrev pub direction_at : Option ℕ → List (List ℕ) → Found Argument
direction_at None ws = None
direction_at (Some c) ws =
    if c == 62 then Some (direction dir.Forward, ws)
    else (if c == 60 then Some (direction dir.Backward, ws) else None)

abbrev pub hand_at : Option ℕ → List (List ℕ) → Found Argument
hand_at None ws = None
hand_at (Some c) ws =
    if c == 108 then Some (hand hand_of.Left, ws)
    else (if c == 114 then Some (hand hand_of.Right, ws) else None)

abbrev pub hypothesis_at : List ℕ → List (List ℕ) → Found Argument
hypothesis_at w ws = as_found (option_map (λ h. target (target_of.Hyp h)) (last_number w)) ws

abbrev pub target_at : Option ℕ → List ℕ → List (List ℕ) → Found Argument
target_at None w ws = hypothesis_at w ws
target_at (Some c) w ws =
    if c == 103 then Some (target target_of.Goal, ws)
    else (if c == 105 then Some (target target_of.Items, ws) else hypothesis_at w ws)

abbrev pub value_at : Option ℕ → List (List ℕ) → Found Argument
value_at None ws = None
value_at (Some c) ws =
    if c == 105 then followed (index_spot ws) (λ a r. Some (index_value a, r))
    else (if c == 116 then followed (ts_spot ws) (λ a r. Some (time_value a, r)) else None)

abbrev pub macro_at : Word → List (List ℕ) → Found Argument
macro_at (word.Plain plain.Input) ws = Some (macro macro_of.Input, ws)
macro_at (word.Plain plain.Output) ws = Some (macro macro_of.Output, ws)
macro_at (word.Plain plain.Cond) ws = Some (macro macro_of.Cond, ws)
macro_at (word.Plain plain.Exec) ws = Some (macro macro_of.Exec, ws)
macro_at (word.Plain plain.Frame) ws = Some (macro macro_of.Frame, ws)
macro_at _ ws = None

-- ---- by kind

pub data Kind : Type 0 where
  of_number of_value of_time of_term of_direction of_target of_hand of_macro : Kind

abbrev pub argument : Kind → List (List ℕ) → Found Argument
argument of_number ws =
    followed (any_word ws) (λ w r. as_found (option_map number (last_number w)) r)
argument of_value ws = followed (any_word ws) (λ w r. value_at (letter_of w) r)
argument of_time ws = followed (ts_spot ws) (λ a r. Some (time a, r))
argument of_term ws = followed (term_spot ws) (λ a r. Some (term a, r))
argument of_direction ws = followed (any_word ws) (λ w r. direction_at (letter_of w) r)
argument of_target ws = followed (any_word ws) (λ w r. target_at (letter_of w) w r)
argument of_hand ws = followed (any_word ws) (λ w r. hand_at (letter_of w) r)
argument of_macro ws = followed (head_word ws) macro_at

abbrev pub fixed_arguments : List Kind → List (List ℕ) → Found (List Argument)
fixed_arguments [] ws = Some ([], ws)
fixed_arguments (k ∷ ks) ws =
    followed (argument k ws) (λ a r. followed (fixed_arguments ks r) (λ more q. Some (a ∷ more, q)))

-- these arguments and then those of the kind up to the end, of which there are at most so many
unfoldable pub arguments_on : Kind → List Argument → ℕ → List (List ℕ) → Found (List Argument)
arguments_on k front n [] = Some (front, [])
arguments_on k front zero (w ∷ ws) = None
arguments_on k front (suc n) (w ∷ ws) =
    followed (argument k (w ∷ ws)) (λ a r. arguments_on k (front ++ a ∷ []) n r)

abbrev pub all_arguments : Kind → List (List ℕ) → Found (List Argument)
all_arguments k ws = arguments_on k [] (length ws) ws

-- ---- by step

-- the kinds of the arguments of a step, and that of those which go to the end of the line
abbrev pub kinds_of : StepName → List Kind × Option Kind
kinds_of name.Hyp = (of_number ∷ [], None)
kinds_of name.True = ([], None)
kinds_of name.Absurd = (of_number ∷ [], None)
kinds_of name.Impi = ([], None)
kinds_of name.Noti = ([], None)
kinds_of name.Alli = ([], None)
kinds_of name.Andi = ([], None)
kinds_of name.Orl = ([], None)
kinds_of name.Orr = ([], None)
kinds_of name.Exi = (of_value ∷ [], None)
kinds_of name.Ande = (of_number ∷ [], None)
kinds_of name.Ore = (of_number ∷ [], None)
kinds_of name.Impe = (of_number ∷ [], None)
kinds_of name.Note = (of_number ∷ [], None)
kinds_of name.Alle = (of_number ∷ of_value ∷ [], None)
kinds_of name.Exe = (of_number ∷ [], None)
kinds_of name.Cut = (of_term ∷ [], None)
kinds_of name.Em = (of_term ∷ [], None)
kinds_of name.Drop = (of_number ∷ [], None)
kinds_of name.UseStmt = (of_number ∷ [], Some of_term)
kinds_of name.Proj = ([], None)
kinds_of name.Trace = ([], None)
kinds_of name.Refl = ([], None)
kinds_of name.Sym = ([], None)
kinds_of name.Trans = (of_term ∷ [], None)
kinds_of name.Arg = ([], None)
kinds_of name.Rew = (of_number ∷ of_direction ∷ of_target ∷ [], None)
kinds_of name.Fact = (of_term ∷ [], None)
kinds_of name.O1 = (of_time ∷ [], None)
kinds_of name.O2 = (of_time ∷ of_time ∷ of_time ∷ [], None)
kinds_of name.O3 = (of_time ∷ of_time ∷ [], None)
kinds_of name.O4 = (of_time ∷ of_time ∷ [], None)
kinds_of name.O5 = (of_time ∷ of_time ∷ [], None)
kinds_of name.O6 = (of_time ∷ [], None)
kinds_of name.O7 = (of_time ∷ [], None)
kinds_of name.O8 = (of_time ∷ of_time ∷ [], None)
kinds_of name.O9 = (of_time ∷ [], None)
kinds_of name.O10 = (of_time ∷ of_time ∷ [], None)
kinds_of name.O11 = (of_time ∷ [], None)
kinds_of name.O12 = (of_time ∷ of_time ∷ of_number ∷ [], None)
kinds_of name.Tind = (of_number ∷ [], None)
kinds_of name.X = (of_macro ∷ of_time ∷ [], None)
kinds_of name.Xu = (of_macro ∷ of_time ∷ [], None)
kinds_of name.Fresh = (of_number ∷ [], None)
kinds_of name.Euf = (of_number ∷ [], None)
kinds_of name.Coll = (of_number ∷ [], None)
kinds_of name.Eass = (of_number ∷ [], None)
kinds_of name.Erefl = ([], None)
kinds_of name.Esel = ([], Some of_number)
kinds_of name.Efa = (of_number ∷ [], None)
kinds_of name.Eatom = (of_number ∷ [], None)
kinds_of name.Efre = (of_number ∷ [], None)
kinds_of name.Ecase = (of_number ∷ of_number ∷ [], None)
kinds_of name.Erep = (of_hand ∷ of_number ∷ of_term ∷ [], None)
kinds_of name.Eded = (of_number ∷ of_number ∷ [], None)
kinds_of name.Eind = (of_number ∷ [], None)
kinds_of name.Eprf = (of_hand ∷ of_number ∷ of_term ∷ of_term ∷ [], None)
kinds_of name.Euse = (of_number ∷ [], Some of_value)

abbrev pub up_to_end : Option Kind → List Argument → List (List ℕ) → Found (List Argument)
up_to_end None front ws = Some (front, ws)
up_to_end (Some k) front ws = followed (all_arguments k ws) (λ more r. Some (front ++ more, r))

abbrev pub arguments_by : List Kind × Option Kind → List (List ℕ) → Found (List Argument)
arguments_by ks ws = followed (fixed_arguments ks.0 ws) (up_to_end ks.1)

abbrev pub arguments_of : StepName → List (List ℕ) → Found (List Argument)
arguments_of n ws = arguments_by (kinds_of n) ws

-- nothing is left
abbrev pub ended : {A : Type 0} → A → List (List ℕ) → Option A
ended a [] = Some a
ended a (w ∷ ws) = None

abbrev pub whole : {A : Type 0} → Found A → Option A
whole None = None
whole (Some p) = ended p.0 p.1

abbrev pub name_at : List (List ℕ) → Found StepName
name_at ws = followed (any_word ws) (λ w r. as_found (name_written w) r)

-- a step as its name and its arguments
abbrev pub StepView : Type 0
StepView = StepName × List Argument

abbrev pub step_view : Step → StepView
step_view s = (name_of s, arguments s)

abbrev pub step_in : List (List ℕ) → Option StepView
step_in ws =
    whole (followed (name_at ws)
    (λ n r. followed (arguments_of n r) (λ more q. Some ((n, more), q))))

-- the step whose line this is, as its name and its arguments
abbrev pub step_read : List ℕ → Option StepView
step_read line = step_in (words line)

-- Ok is what is read, as `view` sees it, and BadStep says that nothing is
abbrev pub Tells : {A B : Type 0} → (A → B) → Result A CertFault → Option B → Type 0
Tells view (Ok a) read = read ≡ Some (view a)
Tells view (Err BadStep) read = read ≡ None
Tells view (Err NoMemory) read = ⊤

-- the step of this name with the arguments that stand at the front of some words, and the words
-- behind them
abbrev pub ReadsStep : StepName → Result Step CertFault → List (List ℕ) → List (List ℕ) → Type 0
ReadsStep n r ws behind = IfOk r (λ s. name_of s ≡ n) × Reads arguments r behind (arguments_of n ws)
