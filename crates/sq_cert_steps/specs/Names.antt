-- The words of steps.
use Rattle.std.specs.Prelude.{ℕ, ◌==◌, List, [], ◌∷◌, filter, find, slice_index, Option, codes}
use Rattle.std.specs.Prelude.{bytes_eq}
use Rattle.sq_step.specs.declared.step.Step.{Step}
use Rattle.sq_step.specs.declared.step.Step.TheVariants as step
use Rattle.sq_cert_steps.specs.declared.name.StepName.{StepName}
use Rattle.sq_cert_steps.specs.declared.name.StepName.TheVariants as name

abbrev pub name_of : Step → StepName
name_of (step.Hyp _) = name.Hyp
name_of step.True = name.True
name_of (step.Absurd _) = name.Absurd
name_of step.Impi = name.Impi
name_of step.Noti = name.Noti
name_of step.Alli = name.Alli
name_of step.Andi = name.Andi
name_of step.Orl = name.Orl
name_of step.Orr = name.Orr
name_of (step.Exi _) = name.Exi
name_of (step.Ande _) = name.Ande
name_of (step.Ore _) = name.Ore
name_of (step.Impe _) = name.Impe
name_of (step.Note _) = name.Note
name_of (step.Alle _ _) = name.Alle
name_of (step.Exe _) = name.Exe
name_of (step.Cut _) = name.Cut
name_of (step.Em _) = name.Em
name_of (step.Drop _) = name.Drop
name_of (step.UseStmt _ _) = name.UseStmt
name_of step.Proj = name.Proj
name_of step.Trace = name.Trace
name_of step.Refl = name.Refl
name_of step.Sym = name.Sym
name_of (step.Trans _) = name.Trans
name_of step.Arg = name.Arg
name_of (step.Rew _ _ _) = name.Rew
name_of (step.Fact _) = name.Fact
name_of (step.O1 _) = name.O1
name_of (step.O2 _ _ _) = name.O2
name_of (step.O3 _ _) = name.O3
name_of (step.O4 _ _) = name.O4
name_of (step.O5 _ _) = name.O5
name_of (step.O6 _) = name.O6
name_of (step.O7 _) = name.O7
name_of (step.O8 _ _) = name.O8
name_of (step.O9 _) = name.O9
name_of (step.O10 _ _) = name.O10
name_of (step.O11 _) = name.O11
name_of (step.O12 _ _ _) = name.O12
name_of (step.Tind _) = name.Tind
name_of (step.X _ _) = name.X
name_of (step.Xu _ _) = name.Xu
name_of (step.Fresh _) = name.Fresh
name_of (step.Euf _) = name.Euf
name_of (step.Coll _) = name.Coll
name_of (step.Eass _) = name.Eass
name_of step.Erefl = name.Erefl
name_of (step.Esel _) = name.Esel
name_of (step.Efa _) = name.Efa
name_of (step.Eatom _) = name.Eatom
name_of (step.Efre _) = name.Efre
name_of (step.Ecase _ _) = name.Ecase
name_of (step.Erep _ _ _) = name.Erep
name_of (step.Eded _ _) = name.Eded
name_of (step.Eind _) = name.Eind
name_of (step.Eprf _ _ _ _) = name.Eprf
name_of (step.Euse _ _) = name.Euse

abbrev pub name_text : StepName → List ℕ
name_text name.Hyp = codes "hyp"
name_text name.True = codes "true"
name_text name.Absurd = codes "absurd"
name_text name.Impi = codes "impi"
name_text name.Noti = codes "noti"
name_text name.Alli = codes "alli"
name_text name.Andi = codes "andi"
name_text name.Orl = codes "orl"
name_text name.Orr = codes "orr"
name_text name.Exi = codes "exi"
name_text name.Ande = codes "ande"
name_text name.Ore = codes "ore"
name_text name.Impe = codes "impe"
name_text name.Note = codes "note"
name_text name.Alle = codes "alle"
name_text name.Exe = codes "exe"
name_text name.Cut = codes "cut"
name_text name.Em = codes "em"
name_text name.Drop = codes "drop"
name_text name.UseStmt = codes "use"
name_text name.Proj = codes "proj"
name_text name.Trace = codes "trace"
name_text name.Refl = codes "refl"
name_text name.Sym = codes "sym"
name_text name.Trans = codes "trans"
name_text name.Arg = codes "arg"
name_text name.Rew = codes "rew"
name_text name.Fact = codes "fact"
name_text name.O1 = codes "o1"
name_text name.O2 = codes "o2"
name_text name.O3 = codes "o3"
name_text name.O4 = codes "o4"
name_text name.O5 = codes "o5"
name_text name.O6 = codes "o6"
name_text name.O7 = codes "o7"
name_text name.O8 = codes "o8"
name_text name.O9 = codes "o9"
name_text name.O10 = codes "o10"
name_text name.O11 = codes "o11"
name_text name.O12 = codes "o12"
name_text name.Tind = codes "tind"
name_text name.X = codes "x"
name_text name.Xu = codes "xu"
name_text name.Fresh = codes "fresh"
name_text name.Euf = codes "euf"
name_text name.Coll = codes "coll"
name_text name.Eass = codes "eass"
name_text name.Erefl = codes "erefl"
name_text name.Esel = codes "esel"
name_text name.Efa = codes "efa"
name_text name.Eatom = codes "eatom"
name_text name.Efre = codes "efre"
name_text name.Ecase = codes "ecase"
name_text name.Erep = codes "erep"
name_text name.Eded = codes "eded"
name_text name.Eind = codes "eind"
name_text name.Eprf = codes "eprf"
name_text name.Euse = codes "euse"

abbrev pub step_names : List StepName
step_names =
    name.Hyp ∷ name.True ∷ name.Absurd ∷ name.Impi ∷ name.Noti ∷ name.Alli ∷ name.Andi ∷
    name.Orl ∷ name.Orr ∷ name.Exi ∷ name.Ande ∷ name.Ore ∷ name.Impe ∷ name.Note ∷ name.Alle ∷
    name.Exe ∷ name.Cut ∷ name.Em ∷ name.Drop ∷ name.UseStmt ∷ name.Proj ∷ name.Trace ∷
    name.Refl ∷ name.Sym ∷ name.Trans ∷ name.Arg ∷ name.Rew ∷ name.Fact ∷ name.O1 ∷ name.O2 ∷
    name.O3 ∷ name.O4 ∷ name.O5 ∷ name.O6 ∷ name.O7 ∷ name.O8 ∷ name.O9 ∷ name.O10 ∷
    name.O11 ∷ name.O12 ∷ name.Tind ∷ name.X ∷ name.Xu ∷ name.Fresh ∷ name.Euf ∷ name.Coll ∷
    name.Eass ∷ name.Erefl ∷ name.Esel ∷ name.Efa ∷ name.Eatom ∷ name.Efre ∷ name.Ecase ∷
    name.Erep ∷ name.Eded ∷ name.Eind ∷ name.Eprf ∷ name.Euse ∷ []

-- the names whose words begin with this letter
abbrev pub names_beginning : ℕ → List StepName
names_beginning letter = filter (λ n. slice_index (name_text n) 0 == letter) step_names

-- the step whose word is written so
unfoldable pub name_written : List ℕ → Option StepName
name_written text = find (λ n. bytes_eq (name_text n) text) step_names
