-- The line of a step in a certificate: its word and its arguments, in order.
use Rattle.std.specs.Prelude.{ℕ, ◌+◌, Bool, true, ◌&&◌, nat_le, List, [], ◌∷◌, ◌++◌}
use Rattle.std.specs.Prelude.{map, codes, decimal}
use Rattle.std.specs.List.{list_all}
use Rattle.sq_term.specs.declared.term.Idx.{Idx}
use Rattle.sq_term.specs.declared.term.Macro.{Macro}
use Rattle.sq_term.specs.Measure.{ts_size, size, ts_depth, depth}
use Rattle.sq_term.specs.Syntax.{TsTree, TermTree}
use Rattle.sq_term.specs.View.{ts_tree, term_tree}
use Rattle.sq_step.specs.declared.step.Place.{Place}
use Rattle.sq_step.specs.declared.step.Place.TheVariants as place
use Rattle.sq_step.specs.declared.step.IdxArg.{IdxArg}
use Rattle.sq_step.specs.declared.step.IdxArg.TheVariants as idx_arg
use Rattle.sq_step.specs.declared.step.TsArg.{TsArg}
use Rattle.sq_step.specs.declared.step.TsArg.TheVariants as ts_arg
use Rattle.sq_step.specs.declared.step.TermArg.{TermArg}
use Rattle.sq_step.specs.declared.step.TermArg.TheVariants as term_arg
use Rattle.sq_step.specs.declared.step.ValArg.{ValArg}
use Rattle.sq_step.specs.declared.step.ValArg.TheVariants as val_arg
use Rattle.sq_step.specs.declared.step.Hand.{Hand}
use Rattle.sq_step.specs.declared.step.Hand.TheVariants as hand_of
use Rattle.sq_step.specs.declared.step.Dir.{Dir}
use Rattle.sq_step.specs.declared.step.Dir.TheVariants as dir
use Rattle.sq_step.specs.declared.step.Target.{Target}
use Rattle.sq_step.specs.declared.step.Target.TheVariants as target_of
use Rattle.sq_step.specs.declared.step.Step.{Step}
use Rattle.sq_step.specs.declared.step.Step.TheVariants as step
use Rattle.sq_cert_words.specs.Spelling.{joined, index_word, ts_words, term_words, macro_word}
use Rattle.sq_cert_words.specs.Spelling.{is_small, index_fits, ts_fits, term_fits, ts_counts_fit}
use Rattle.sq_cert_words.specs.Spelling.{counts_fit, binds_alone}

-- ---- arguments

-- a node of the sequent, or what is written out
pub data Spot (A : Type 0) : Type 0 where
  at : Place → ℕ → Spot A
  written : A → Spot A

pub data Argument : Type 0 where
  number : ℕ → Argument
  index_value : Spot Idx → Argument
  time_value : Spot TsTree → Argument
  time : Spot TsTree → Argument
  term : Spot TermTree → Argument
  direction : Dir → Argument
  target : Target → Argument
  hand : Hand → Argument
  macro : Macro → Argument

abbrev pub index_spot : IdxArg → Spot Idx
index_spot (idx_arg.At p k) = at p k
index_spot (idx_arg.Written i) = written i

abbrev pub ts_spot : TsArg → Spot TsTree
ts_spot (ts_arg.At p k) = at p k
ts_spot (ts_arg.Written t) = written (ts_tree t)

abbrev pub term_spot : TermArg → Spot TermTree
term_spot (term_arg.At p k) = at p k
term_spot (term_arg.Written t) = written (term_tree t)

abbrev pub time_of : TsArg → Argument
time_of a = time (ts_spot a)

abbrev pub term_of : TermArg → Argument
term_of a = term (term_spot a)

-- a value for a binder
abbrev pub value_of : ValArg → Argument
value_of (val_arg.Index a) = index_value (index_spot a)
value_of (val_arg.Time a) = time_value (ts_spot a)

-- ---- the words of arguments

abbrev pub place_text : Place → List ℕ
place_text place.Goal = codes "@g"
place_text (place.Hyp h) = codes "@h" ++ decimal h
place_text (place.Left k) = codes "@l" ++ decimal k
place_text (place.Right k) = codes "@r" ++ decimal k

-- node k of a place
abbrev pub place_word : Place → ℕ → List ℕ
place_word p k = place_text p ++ 46 ∷ decimal k

abbrev pub spot_words : {A : Type 0} → (A → List (List ℕ)) → Spot A → List (List ℕ)
spot_words words (at p k) = place_word p k ∷ []
spot_words words (written a) = words a

abbrev pub direction_word : Dir → List ℕ
direction_word dir.Forward = codes ">"
direction_word dir.Backward = codes "<"

abbrev pub target_word : Target → List ℕ
target_word target_of.Goal = codes "g"
target_word target_of.Items = codes "i"
target_word (target_of.Hyp h) = decimal h

abbrev pub hand_word : Hand → List ℕ
hand_word hand_of.Left = codes "l"
hand_word hand_of.Right = codes "r"

abbrev pub argument_words : Argument → List (List ℕ)
argument_words (number n) = decimal n ∷ []
argument_words (index_value a) = codes "i" ∷ spot_words (λ i. index_word i ∷ []) a
argument_words (time_value a) = codes "t" ∷ spot_words ts_words a
argument_words (time a) = spot_words ts_words a
argument_words (term a) = spot_words term_words a
argument_words (direction d) = direction_word d ∷ []
argument_words (target t) = target_word t ∷ []
argument_words (hand h) = hand_word h ∷ []
argument_words (macro m) = macro_word m ∷ []

abbrev pub arguments_words : List Argument → List (List ℕ)
arguments_words [] = []
arguments_words (a ∷ more) = argument_words a ++ arguments_words more

-- ---- the steps

abbrev pub step_word : Step → List ℕ
step_word (step.Hyp _) = codes "hyp"
step_word step.True = codes "true"
step_word (step.Absurd _) = codes "absurd"
step_word step.Impi = codes "impi"
step_word step.Noti = codes "noti"
step_word step.Alli = codes "alli"
step_word step.Andi = codes "andi"
step_word step.Orl = codes "orl"
step_word step.Orr = codes "orr"
step_word (step.Exi _) = codes "exi"
step_word (step.Ande _) = codes "ande"
step_word (step.Ore _) = codes "ore"
step_word (step.Impe _) = codes "impe"
step_word (step.Note _) = codes "note"
step_word (step.Alle _ _) = codes "alle"
step_word (step.Exe _) = codes "exe"
step_word (step.Cut _) = codes "cut"
step_word (step.Em _) = codes "em"
step_word (step.Drop _) = codes "drop"
step_word (step.UseStmt _ _) = codes "use"
step_word step.Proj = codes "proj"
step_word step.Trace = codes "trace"
step_word step.Refl = codes "refl"
step_word step.Sym = codes "sym"
step_word (step.Trans _) = codes "trans"
step_word step.Arg = codes "arg"
step_word (step.Rew _ _ _) = codes "rew"
step_word (step.Fact _) = codes "fact"
step_word (step.O1 _) = codes "o1"
step_word (step.O2 _ _ _) = codes "o2"
step_word (step.O3 _ _) = codes "o3"
step_word (step.O4 _ _) = codes "o4"
step_word (step.O5 _ _) = codes "o5"
step_word (step.O6 _) = codes "o6"
step_word (step.O7 _) = codes "o7"
step_word (step.O8 _ _) = codes "o8"
step_word (step.O9 _) = codes "o9"
step_word (step.O10 _ _) = codes "o10"
step_word (step.O11 _) = codes "o11"
step_word (step.O12 _ _ _) = codes "o12"
step_word (step.Tind _) = codes "tind"
step_word (step.X _ _) = codes "x"
step_word (step.Xu _ _) = codes "xu"
step_word (step.Fresh _) = codes "fresh"
step_word (step.Euf _) = codes "euf"
step_word (step.Coll _) = codes "coll"
step_word (step.Eass _) = codes "eass"
step_word step.Erefl = codes "erefl"
step_word (step.Esel _) = codes "esel"
step_word (step.Efa _) = codes "efa"
step_word (step.Eatom _) = codes "eatom"
step_word (step.Efre _) = codes "efre"
step_word (step.Ecase _ _) = codes "ecase"
step_word (step.Erep _ _ _) = codes "erep"
step_word (step.Eded _ _) = codes "eded"
step_word (step.Eind _) = codes "eind"
step_word (step.Eprf _ _ _ _) = codes "eprf"
step_word (step.Euse _ _) = codes "euse"

abbrev pub arguments : Step → List Argument
arguments (step.Hyp a) = number a ∷ []
arguments step.True = []
arguments (step.Absurd a) = number a ∷ []
arguments step.Impi = []
arguments step.Noti = []
arguments step.Alli = []
arguments step.Andi = []
arguments step.Orl = []
arguments step.Orr = []
arguments (step.Exi a) = value_of a ∷ []
arguments (step.Ande a) = number a ∷ []
arguments (step.Ore a) = number a ∷ []
arguments (step.Impe a) = number a ∷ []
arguments (step.Note a) = number a ∷ []
arguments (step.Alle a b) = number a ∷ value_of b ∷ []
arguments (step.Exe a) = number a ∷ []
arguments (step.Cut a) = term_of a ∷ []
arguments (step.Em a) = term_of a ∷ []
arguments (step.Drop a) = number a ∷ []
arguments (step.UseStmt a rest) = number a ∷ map term_of rest
arguments step.Proj = []
arguments step.Trace = []
arguments step.Refl = []
arguments step.Sym = []
arguments (step.Trans a) = term_of a ∷ []
arguments step.Arg = []
arguments (step.Rew a b c) = number a ∷ direction b ∷ target c ∷ []
arguments (step.Fact a) = term_of a ∷ []
arguments (step.O1 a) = time_of a ∷ []
arguments (step.O2 a b c) = time_of a ∷ time_of b ∷ time_of c ∷ []
arguments (step.O3 a b) = time_of a ∷ time_of b ∷ []
arguments (step.O4 a b) = time_of a ∷ time_of b ∷ []
arguments (step.O5 a b) = time_of a ∷ time_of b ∷ []
arguments (step.O6 a) = time_of a ∷ []
arguments (step.O7 a) = time_of a ∷ []
arguments (step.O8 a b) = time_of a ∷ time_of b ∷ []
arguments (step.O9 a) = time_of a ∷ []
arguments (step.O10 a b) = time_of a ∷ time_of b ∷ []
arguments (step.O11 a) = time_of a ∷ []
arguments (step.O12 a b c) = time_of a ∷ time_of b ∷ number c ∷ []
arguments (step.Tind a) = number a ∷ []
arguments (step.X a b) = macro a ∷ time_of b ∷ []
arguments (step.Xu a b) = macro a ∷ time_of b ∷ []
arguments (step.Fresh a) = number a ∷ []
arguments (step.Euf a) = number a ∷ []
arguments (step.Coll a) = number a ∷ []
arguments (step.Eass a) = number a ∷ []
arguments step.Erefl = []
arguments (step.Esel rest) = map number rest
arguments (step.Efa a) = number a ∷ []
arguments (step.Eatom a) = number a ∷ []
arguments (step.Efre a) = number a ∷ []
arguments (step.Ecase a b) = number a ∷ number b ∷ []
arguments (step.Erep a b c) = hand a ∷ number b ∷ term_of c ∷ []
arguments (step.Eded a b) = number a ∷ number b ∷ []
arguments (step.Eind a) = number a ∷ []
arguments (step.Eprf a b c d) = hand a ∷ number b ∷ term_of c ∷ term_of d ∷ []
arguments (step.Euse a rest) = number a ∷ map value_of rest

-- the line of a step, without its newline
abbrev pub step_line : Step → List ℕ
step_line s = joined (step_word s ∷ arguments_words (arguments s))

-- ---- what is spelled

-- no written term or timestamp is deeper
abbrev pub is_shallow : ℕ → Bool
is_shallow n = nat_le n 1024

abbrev pub argument_writable : Argument → Bool
argument_writable (time_value (written t)) = is_shallow (ts_depth t) && ts_counts_fit t
argument_writable (time (written t)) = is_shallow (ts_depth t) && ts_counts_fit t
argument_writable (term (written t)) =
    is_shallow (depth t) && (counts_fit t && binds_alone t)
argument_writable _ = true

-- The written terms of the step bind indices and timestamps alone, its written terms and
-- timestamps have depth at most 1,024, and no list that is spelled with its count has 2^32 parts
-- or more.
abbrev pub is_writable : Step → Bool
is_writable s = list_all argument_writable (arguments s)

abbrev pub place_fits : Place → ℕ → Bool
place_fits place.Goal k = is_small k
place_fits (place.Hyp h) k = is_small h && is_small k
place_fits (place.Left j) k = is_small j && is_small k
place_fits (place.Right j) k = is_small j && is_small k

abbrev pub spot_fits : {A : Type 0} → (A → Bool) → Spot A → Bool
spot_fits fits (at p k) = place_fits p k
spot_fits fits (written a) = fits a

abbrev pub target_fits : Target → Bool
target_fits target_of.Goal = true
target_fits target_of.Items = true
target_fits (target_of.Hyp h) = is_small h

abbrev pub written_ts_fits : TsTree → Bool
written_ts_fits t = is_shallow (ts_depth t) && ts_fits t

abbrev pub written_term_fits : TermTree → Bool
written_term_fits t = is_shallow (depth t) && (term_fits t && binds_alone t)

abbrev pub argument_fits : Argument → Bool
argument_fits (number n) = is_small n
argument_fits (index_value a) = spot_fits index_fits a
argument_fits (time_value a) = spot_fits written_ts_fits a
argument_fits (time a) = spot_fits written_ts_fits a
argument_fits (term a) = spot_fits written_term_fits a
argument_fits (direction d) = true
argument_fits (target t) = target_fits t
argument_fits (hand h) = true
argument_fits (macro m) = true

-- the step is writable, and its numbers are below 2^32, as those of the program's steps are
abbrev pub is_spelled : Step → Bool
is_spelled s = list_all argument_fits (arguments s)

-- ---- how much is written

-- A written term, timestamp or index has its nodes. A place, a number, a letter and a macro's word
-- count for one, and a value for one more than what it is.
abbrev pub spot_nodes : {A : Type 0} → (A → ℕ) → Spot A → ℕ
spot_nodes nodes (at p k) = 1
spot_nodes nodes (written a) = nodes a

abbrev pub argument_nodes : Argument → ℕ
argument_nodes (number n) = 1
argument_nodes (index_value a) = spot_nodes (λ i. 1) a + 1
argument_nodes (time_value a) = spot_nodes ts_size a + 1
argument_nodes (time a) = spot_nodes ts_size a
argument_nodes (term a) = spot_nodes size a
argument_nodes (direction d) = 1
argument_nodes (target t) = 1
argument_nodes (hand h) = 1
argument_nodes (macro m) = 1

abbrev pub arguments_nodes : List Argument → ℕ
arguments_nodes [] = 0
arguments_nodes (a ∷ more) = argument_nodes a + arguments_nodes more

abbrev pub step_nodes : Step → ℕ
step_nodes s = arguments_nodes (arguments s)
