-- A step is told by its name and its arguments.
use Rattle.std.proofs.Common.{◌≡◌, ℕ, zero, suc, true, List, [], ◌∷◌, map, Some, refl}
use Rattle.std.proofs.Common.{sym, ap, ◌∙◌}
use Rattle.sq_term.specs.declared.term.Macro.{Macro}
use Rattle.sq_term.specs.declared.term.Macro.TheVariants as macro_of
use Rattle.sq_term.specs.declared.term.Idx.TheVariants as idx
use Rattle.sq_term.specs.declared.term.Ts.TheVariants as ts_of
use Rattle.sq_term.specs.declared.term.Term.TheVariants as tm
use Rattle.sq_term.proofs.Inverse.{of_ts_tree, of_term_tree, of_ts_tree_of, of_term_tree_of}
use Rattle.sq_step.specs.declared.step.IdxArg.TheVariants as idx_arg
use Rattle.sq_step.specs.declared.step.TsArg.{TsArg}
use Rattle.sq_step.specs.declared.step.TsArg.TheVariants as ts_arg
use Rattle.sq_step.specs.declared.step.TermArg.{TermArg}
use Rattle.sq_step.specs.declared.step.TermArg.TheVariants as term_arg
use Rattle.sq_step.specs.declared.step.ValArg.{ValArg}
use Rattle.sq_step.specs.declared.step.ValArg.TheVariants as val_arg
use Rattle.sq_step.specs.declared.step.Hand.{Hand}
use Rattle.sq_step.specs.declared.step.Hand.TheVariants as hand_of
use Rattle.sq_step.specs.declared.step.Dir.{Dir}
use Rattle.sq_step.specs.declared.step.Dir.TheVariants as dir
use Rattle.sq_step.specs.declared.step.Target.{Target}
use Rattle.sq_step.specs.declared.step.Target.TheVariants as target_of
use Rattle.sq_step.specs.declared.step.Step.{Step}
use Rattle.sq_step.specs.declared.step.Step.TheVariants as step
use Rattle.sq_cert_steps.specs.declared.name.StepName.{StepName}
use Rattle.sq_cert_steps.specs.declared.name.StepName.TheVariants as name
use Rattle.sq_cert_steps.specs.Lines.{at, written, Argument, number, index_value, time_value}
use Rattle.sq_cert_steps.specs.Lines.{time}
use Rattle.sq_cert_steps.specs.Lines.{term, direction, target, hand, macro, time_of, term_of}
use Rattle.sq_cert_steps.specs.Lines.{value_of}
use Rattle.sq_cert_steps.specs.Lines.{arguments, step_line, is_spelled}
use Rattle.sq_cert_steps.specs.Names.{name_of}
use Rattle.sq_cert_steps.specs.Reading.{step_read}
use Rattle.sq_cert_steps.proofs.StepLaws.{line_reads}

-- ---- arguments, built back; of another kind it is some argument

abbrev to_number : Argument → ℕ
to_number (number n) = n
to_number _ = 0

abbrev to_time : Argument → TsArg
to_time (time (at p k)) = ts_arg.At p k
to_time (time (written t)) = ts_arg.Written (of_ts_tree t)
to_time _ = ts_arg.Written ts_of.Init

abbrev to_term : Argument → TermArg
to_term (term (at p k)) = term_arg.At p k
to_term (term (written t)) = term_arg.Written (of_term_tree t)
to_term _ = term_arg.Written (tm.Schema 0)

abbrev to_value : Argument → ValArg
to_value (index_value (at p k)) = val_arg.Index (idx_arg.At p k)
to_value (index_value (written i)) = val_arg.Index (idx_arg.Written i)
to_value (time_value (at p k)) = val_arg.Time (ts_arg.At p k)
to_value (time_value (written t)) = val_arg.Time (ts_arg.Written (of_ts_tree t))
to_value _ = val_arg.Index (idx_arg.Written (idx.Free 0))

abbrev to_direction : Argument → Dir
to_direction (direction d) = d
to_direction _ = dir.Forward

abbrev to_target : Argument → Target
to_target (target t) = t
to_target _ = target_of.Goal

abbrev to_hand : Argument → Hand
to_hand (hand h) = h
to_hand _ = hand_of.Left

abbrev to_macro : Argument → Macro
to_macro (macro m) = m
to_macro _ = macro_of.Input

time_back : (a : TsArg) → to_time (time_of a) ≡ a
time_back (ts_arg.At p k) = refl
time_back (ts_arg.Written t) = ap ts_arg.Written (of_ts_tree_of t)

term_back : (a : TermArg) → to_term (term_of a) ≡ a
term_back (term_arg.At p k) = refl
term_back (term_arg.Written t) = ap term_arg.Written (of_term_tree_of t)

value_back : (a : ValArg) → to_value (value_of a) ≡ a
value_back (val_arg.Index (idx_arg.At p k)) = refl
value_back (val_arg.Index (idx_arg.Written i)) = refl
value_back (val_arg.Time (ts_arg.At p k)) = refl
value_back (val_arg.Time (ts_arg.Written t)) = ap (λ x. val_arg.Time (ts_arg.Written x))
    (of_ts_tree_of t)

all_back : {A : Type 0} (f : A → Argument) (g : Argument → A) → ((a : A) → g (f a) ≡ a)
    → (xs : List A) → map g (map f xs) ≡ xs
all_back f g back [] = refl
all_back f g back (x ∷ xs) = λ i. back x i ∷ all_back f g back xs i

-- ---- steps, built back

abbrev nth : List Argument → ℕ → Argument
nth [] k = number 0
nth (a ∷ more) zero = a
nth (a ∷ more) (suc k) = nth more k

abbrev behind_first : List Argument → List Argument
behind_first [] = []
behind_first (a ∷ more) = more

abbrev build : StepName → List Argument → Step
build name.Hyp args = step.Hyp (to_number (nth args 0))
build name.True args = step.True
build name.Absurd args = step.Absurd (to_number (nth args 0))
build name.Impi args = step.Impi
build name.Noti args = step.Noti
build name.Alli args = step.Alli
build name.Andi args = step.Andi
build name.Orl args = step.Orl
build name.Orr args = step.Orr
build name.Exi args = step.Exi (to_value (nth args 0))
build name.Ande args = step.Ande (to_number (nth args 0))
build name.Ore args = step.Ore (to_number (nth args 0))
build name.Impe args = step.Impe (to_number (nth args 0))
build name.Note args = step.Note (to_number (nth args 0))
build name.Alle args = step.Alle (to_number (nth args 0)) (to_value (nth args 1))
build name.Exe args = step.Exe (to_number (nth args 0))
build name.Cut args = step.Cut (to_term (nth args 0))
build name.Em args = step.Em (to_term (nth args 0))
build name.Drop args = step.Drop (to_number (nth args 0))
build name.UseStmt args = step.UseStmt (to_number (nth args 0)) (map to_term (behind_first args))
build name.Proj args = step.Proj
build name.Trace args = step.Trace
build name.Refl args = step.Refl
build name.Sym args = step.Sym
build name.Trans args = step.Trans (to_term (nth args 0))
build name.Arg args = step.Arg
build name.Rew args = step.Rew (to_number (nth args 0)) (to_direction (nth args 1))
    (to_target (nth args 2))
build name.Fact args = step.Fact (to_term (nth args 0))
build name.O1 args = step.O1 (to_time (nth args 0))
build name.O2 args = step.O2 (to_time (nth args 0)) (to_time (nth args 1)) (to_time (nth args 2))
build name.O3 args = step.O3 (to_time (nth args 0)) (to_time (nth args 1))
build name.O4 args = step.O4 (to_time (nth args 0)) (to_time (nth args 1))
build name.O5 args = step.O5 (to_time (nth args 0)) (to_time (nth args 1))
build name.O6 args = step.O6 (to_time (nth args 0))
build name.O7 args = step.O7 (to_time (nth args 0))
build name.O8 args = step.O8 (to_time (nth args 0)) (to_time (nth args 1))
build name.O9 args = step.O9 (to_time (nth args 0))
build name.O10 args = step.O10 (to_time (nth args 0)) (to_time (nth args 1))
build name.O11 args = step.O11 (to_time (nth args 0))
build name.O12 args = step.O12 (to_time (nth args 0)) (to_time (nth args 1))
    (to_number (nth args 2))
build name.Tind args = step.Tind (to_number (nth args 0))
build name.X args = step.X (to_macro (nth args 0)) (to_time (nth args 1))
build name.Xu args = step.Xu (to_macro (nth args 0)) (to_time (nth args 1))
build name.Fresh args = step.Fresh (to_number (nth args 0))
build name.Euf args = step.Euf (to_number (nth args 0))
build name.Coll args = step.Coll (to_number (nth args 0))
build name.Eass args = step.Eass (to_number (nth args 0))
build name.Erefl args = step.Erefl
build name.Esel args = step.Esel (map to_number args)
build name.Efa args = step.Efa (to_number (nth args 0))
build name.Eatom args = step.Eatom (to_number (nth args 0))
build name.Efre args = step.Efre (to_number (nth args 0))
build name.Ecase args = step.Ecase (to_number (nth args 0)) (to_number (nth args 1))
build name.Erep args = step.Erep (to_hand (nth args 0)) (to_number (nth args 1))
    (to_term (nth args 2))
build name.Eded args = step.Eded (to_number (nth args 0)) (to_number (nth args 1))
build name.Eind args = step.Eind (to_number (nth args 0))
build name.Eprf args = step.Eprf (to_hand (nth args 0)) (to_number (nth args 1))
    (to_term (nth args 2)) (to_term (nth args 3))
build name.Euse args = step.Euse (to_number (nth args 0)) (map to_value (behind_first args))

built_back : (s : Step) → build (name_of s) (arguments s) ≡ s
built_back (step.Hyp a) = refl
built_back step.True = refl
built_back (step.Absurd a) = refl
built_back step.Impi = refl
built_back step.Noti = refl
built_back step.Alli = refl
built_back step.Andi = refl
built_back step.Orl = refl
built_back step.Orr = refl
built_back (step.Exi a) = λ i. step.Exi (value_back a i)
built_back (step.Ande a) = refl
built_back (step.Ore a) = refl
built_back (step.Impe a) = refl
built_back (step.Note a) = refl
built_back (step.Alle a b) = λ i. step.Alle a (value_back b i)
built_back (step.Exe a) = refl
built_back (step.Cut a) = λ i. step.Cut (term_back a i)
built_back (step.Em a) = λ i. step.Em (term_back a i)
built_back (step.Drop a) = refl
built_back (step.UseStmt a b) = λ i. step.UseStmt a (all_back term_of to_term term_back b i)
built_back step.Proj = refl
built_back step.Trace = refl
built_back step.Refl = refl
built_back step.Sym = refl
built_back (step.Trans a) = λ i. step.Trans (term_back a i)
built_back step.Arg = refl
built_back (step.Rew a b c) = refl
built_back (step.Fact a) = λ i. step.Fact (term_back a i)
built_back (step.O1 a) = λ i. step.O1 (time_back a i)
built_back (step.O2 a b c) = λ i. step.O2 (time_back a i) (time_back b i) (time_back c i)
built_back (step.O3 a b) = λ i. step.O3 (time_back a i) (time_back b i)
built_back (step.O4 a b) = λ i. step.O4 (time_back a i) (time_back b i)
built_back (step.O5 a b) = λ i. step.O5 (time_back a i) (time_back b i)
built_back (step.O6 a) = λ i. step.O6 (time_back a i)
built_back (step.O7 a) = λ i. step.O7 (time_back a i)
built_back (step.O8 a b) = λ i. step.O8 (time_back a i) (time_back b i)
built_back (step.O9 a) = λ i. step.O9 (time_back a i)
built_back (step.O10 a b) = λ i. step.O10 (time_back a i) (time_back b i)
built_back (step.O11 a) = λ i. step.O11 (time_back a i)
built_back (step.O12 a b c) = λ i. step.O12 (time_back a i) (time_back b i) c
built_back (step.Tind a) = refl
built_back (step.X a b) = λ i. step.X a (time_back b i)
built_back (step.Xu a b) = λ i. step.Xu a (time_back b i)
built_back (step.Fresh a) = refl
built_back (step.Euf a) = refl
built_back (step.Coll a) = refl
built_back (step.Eass a) = refl
built_back step.Erefl = refl
built_back (step.Esel a) = λ i. step.Esel (all_back number to_number (λ n. refl) a i)
built_back (step.Efa a) = refl
built_back (step.Eatom a) = refl
built_back (step.Efre a) = refl
built_back (step.Ecase a b) = refl
built_back (step.Erep a b c) = λ i. step.Erep a b (term_back c i)
built_back (step.Eded a b) = refl
built_back (step.Eind a) = refl
built_back (step.Eprf a b c d) = λ i. step.Eprf a b (term_back c i) (term_back d i)
built_back (step.Euse a b) = λ i. step.Euse a (all_back value_of to_value value_back b i)

same_read : (s t : StepName × List Argument) → Some s ≡ Some t → s ≡ t
same_read s t e = cc

pub line-same : (s t : Step) → is_spelled s ≡ true → is_spelled t ≡ true → step_line s ≡ step_line t
    → s ≡ t
line-same s t hs ht same =
    let read = same_read (name_of s, arguments s) (name_of t, arguments t)
    (sym (line_reads s hs) ∙ ap step_read same ∙ line_reads t ht) in
    sym (built_back s) ∙ ap (λ x. build x.0 x.1) read ∙ built_back t
