-- The line of a step is read back, and what is read was the line of that step.
use Rattle.std.proofs.Common.{◌≡◌, ◌≢◌, ℕ, zero, suc, Bool, true}
use Rattle.std.proofs.Common.{List, [], ◌∷◌, ◌++◌, map, length, Option, Some, None}
use Rattle.std.proofs.Common.{bytes_eq, refl, sym, ap, ◌∙◌, subst, append_assoc, append-nil}
use Rattle.std.proofs.Common.{length-append, arith, nat_lt}
use Rattle.std.specs.List.{list_all}
use Rattle.std.proofs.lemmas.Slice.Eq.{bytes_eq-Decides}
use Rattle.sq_step.specs.declared.step.Step.{Step}
use Rattle.sq_step.specs.declared.step.Step.TheVariants as step
use Rattle.sq_step.specs.declared.step.TermArg.{TermArg}
use Rattle.sq_step.specs.declared.step.ValArg.{ValArg}
use Rattle.sq_step.specs.declared.step.ValArg.TheVariants as val_arg
use Rattle.sq_cert_words.specs.Spelling.{joined}
use Rattle.sq_cert_steps.specs.Lines.{Argument, number, term_of, value_of, argument_words}
use Rattle.sq_cert_steps.specs.Lines.{arguments_words, argument_fits, step_word, arguments}
use Rattle.sq_cert_steps.specs.Lines.{step_line}
use Rattle.sq_cert_steps.specs.Lines.{is_spelled}
use Rattle.sq_cert_words.specs.Lines.{words}
use Rattle.sq_cert_words.specs.Reads.{Found, followed, as_found}
use Rattle.sq_cert_words.proofs.LineLaws.{IsUnparted, words-joined, joined-words}
use Rattle.sq_cert_words.proofs.WordLaws.{found_passes}
use Rattle.sq_cert_words.proofs.NumberLaws.{same_found, same_value}
use Rattle.sq_cert_terms.proofs.ReadBack.{both, next}
use Rattle.sq_cert_terms.proofs.Told.{first_part, and_true}
use Rattle.sq_cert_steps.specs.declared.name.StepName.{StepName}
use Rattle.sq_cert_steps.specs.declared.name.StepName.TheVariants as name
use Rattle.sq_cert_steps.specs.Names.{name_of, name_text, name_written, step_names}
use Rattle.sq_cert_steps.specs.Reading.{Kind, of_number, of_value, of_time, of_term, of_direction}
use Rattle.sq_cert_steps.specs.Reading.{of_target, of_hand, of_macro, argument, fixed_arguments}
use Rattle.sq_cert_steps.specs.Reading.{arguments_on, all_arguments, kinds_of, up_to_end}
use Rattle.sq_cert_steps.specs.Reading.{arguments_by}
use Rattle.sq_cert_steps.specs.Reading.{arguments_of, whole, step_in, step_read}
use Rattle.sq_cert_steps.proofs.ArgumentLaws.{kind_of, argument_reads, argument_tells}
use Rattle.sq_cert_steps.proofs.Rests.{argument_words-some, on_more}
use Rattle.sq_cert_steps.proofs.Unparted.{arguments_unparted}
use Rattle.sq_cert_steps.proofs.Writes.{arguments_words-append, name_text-name_of}

-- ---- names

name_tells : (text : List ℕ) (n : StepName) → name_written text ≡ Some n → text ≡ name_text n
unfolding name_written
name_tells text n e =
    sym ((bytes_eq-Decides (name_text n) text).0
    (found_passes (λ m. bytes_eq (name_text m) text) step_names n e))

name_reads : (n : StepName) → name_written (name_text n) ≡ Some n
unfolding name_written
name_reads name.Hyp = refl
name_reads name.True = refl
name_reads name.Absurd = refl
name_reads name.Impi = refl
name_reads name.Noti = refl
name_reads name.Alli = refl
name_reads name.Andi = refl
name_reads name.Orl = refl
name_reads name.Orr = refl
name_reads name.Exi = refl
name_reads name.Ande = refl
name_reads name.Ore = refl
name_reads name.Impe = refl
name_reads name.Note = refl
name_reads name.Alle = refl
name_reads name.Exe = refl
name_reads name.Cut = refl
name_reads name.Em = refl
name_reads name.Drop = refl
name_reads name.UseStmt = refl
name_reads name.Proj = refl
name_reads name.Trace = refl
name_reads name.Refl = refl
name_reads name.Sym = refl
name_reads name.Trans = refl
name_reads name.Arg = refl
name_reads name.Rew = refl
name_reads name.Fact = refl
name_reads name.O1 = refl
name_reads name.O2 = refl
name_reads name.O3 = refl
name_reads name.O4 = refl
name_reads name.O5 = refl
name_reads name.O6 = refl
name_reads name.O7 = refl
name_reads name.O8 = refl
name_reads name.O9 = refl
name_reads name.O10 = refl
name_reads name.O11 = refl
name_reads name.O12 = refl
name_reads name.Tind = refl
name_reads name.X = refl
name_reads name.Xu = refl
name_reads name.Fresh = refl
name_reads name.Euf = refl
name_reads name.Coll = refl
name_reads name.Eass = refl
name_reads name.Erefl = refl
name_reads name.Esel = refl
name_reads name.Efa = refl
name_reads name.Eatom = refl
name_reads name.Efre = refl
name_reads name.Ecase = refl
name_reads name.Erep = refl
name_reads name.Eded = refl
name_reads name.Eind = refl
name_reads name.Eprf = refl
name_reads name.Euse = refl

abbrev has_no_blank : List ℕ → Bool
has_no_blank text = list_all (λ c. nat_lt 32 c) text

unparted-from : (text : List ℕ) → has_no_blank text ≡ true → IsUnparted text
unparted-from [] h = tt
unparted-from (c ∷ cs) h =
    let parts = both (nat_lt 32 c) (has_no_blank cs) h in (parts.0, unparted-from cs parts.1)

name_no_blank : (n : StepName) → has_no_blank (name_text n) ≡ true
name_no_blank name.Hyp = refl
name_no_blank name.True = refl
name_no_blank name.Absurd = refl
name_no_blank name.Impi = refl
name_no_blank name.Noti = refl
name_no_blank name.Alli = refl
name_no_blank name.Andi = refl
name_no_blank name.Orl = refl
name_no_blank name.Orr = refl
name_no_blank name.Exi = refl
name_no_blank name.Ande = refl
name_no_blank name.Ore = refl
name_no_blank name.Impe = refl
name_no_blank name.Note = refl
name_no_blank name.Alle = refl
name_no_blank name.Exe = refl
name_no_blank name.Cut = refl
name_no_blank name.Em = refl
name_no_blank name.Drop = refl
name_no_blank name.UseStmt = refl
name_no_blank name.Proj = refl
name_no_blank name.Trace = refl
name_no_blank name.Refl = refl
name_no_blank name.Sym = refl
name_no_blank name.Trans = refl
name_no_blank name.Arg = refl
name_no_blank name.Rew = refl
name_no_blank name.Fact = refl
name_no_blank name.O1 = refl
name_no_blank name.O2 = refl
name_no_blank name.O3 = refl
name_no_blank name.O4 = refl
name_no_blank name.O5 = refl
name_no_blank name.O6 = refl
name_no_blank name.O7 = refl
name_no_blank name.O8 = refl
name_no_blank name.O9 = refl
name_no_blank name.O10 = refl
name_no_blank name.O11 = refl
name_no_blank name.O12 = refl
name_no_blank name.Tind = refl
name_no_blank name.X = refl
name_no_blank name.Xu = refl
name_no_blank name.Fresh = refl
name_no_blank name.Euf = refl
name_no_blank name.Coll = refl
name_no_blank name.Eass = refl
name_no_blank name.Erefl = refl
name_no_blank name.Esel = refl
name_no_blank name.Efa = refl
name_no_blank name.Eatom = refl
name_no_blank name.Efre = refl
name_no_blank name.Ecase = refl
name_no_blank name.Erep = refl
name_no_blank name.Eded = refl
name_no_blank name.Eind = refl
name_no_blank name.Eprf = refl
name_no_blank name.Euse = refl

-- ---- lists of arguments

abbrev AreOfKind : Kind → List Argument → Type 0
AreOfKind k [] = Unit {0}
AreOfKind k (a ∷ more) = (kind_of a ≡ k) × AreOfKind k more

abbrev RestFits : Option Kind → List Argument → Type 0
RestFits None more = more ≡ []
RestFits (Some k) more = AreOfKind k more

-- the arguments are of these kinds
record Fit (ks : List Kind × Option Kind) (args : List Argument) : Type 0 where
  front : List Argument
  more : List Argument
  is : args ≡ front ++ more
  fixed : map kind_of front ≡ ks.0
  rest : RestFits ks.1 more

number_kinds : (ns : List ℕ) → AreOfKind of_number (map number ns)
number_kinds [] = tt
number_kinds (n ∷ ns) = (refl, number_kinds ns)

term_kinds : (ts : List TermArg) → AreOfKind of_term (map term_of ts)
term_kinds [] = tt
term_kinds (t ∷ ts) = (refl, term_kinds ts)

value_kind : (v : ValArg) → kind_of (value_of v) ≡ of_value
value_kind (val_arg.Index a) = refl
value_kind (val_arg.Time a) = refl

value_kinds : (vs : List ValArg) → AreOfKind of_value (map value_of vs)
value_kinds [] = tt
value_kinds (v ∷ vs) = (value_kind v, value_kinds vs)

exactly : (ks : List Kind) (args : List Argument) → map kind_of args ≡ ks → Fit (ks, None) args
exactly ks args h =
    record { front = args; more = []; is = sym (append-nil args); fixed = h; rest = refl }

arguments_fit : (s : Step) → Fit (kinds_of (name_of s)) (arguments s)
arguments_fit (step.Hyp a) = exactly (of_number ∷ []) (arguments (step.Hyp a)) refl
arguments_fit step.True = exactly ([]) (arguments step.True) refl
arguments_fit (step.Absurd a) = exactly (of_number ∷ []) (arguments (step.Absurd a)) refl
arguments_fit step.Impi = exactly ([]) (arguments step.Impi) refl
arguments_fit step.Noti = exactly ([]) (arguments step.Noti) refl
arguments_fit step.Alli = exactly ([]) (arguments step.Alli) refl
arguments_fit step.Andi = exactly ([]) (arguments step.Andi) refl
arguments_fit step.Orl = exactly ([]) (arguments step.Orl) refl
arguments_fit step.Orr = exactly ([]) (arguments step.Orr) refl
arguments_fit (step.Exi a) =
    exactly (of_value ∷ []) (arguments (step.Exi a)) (ap (λ x. x ∷ []) (value_kind a))
arguments_fit (step.Ande a) = exactly (of_number ∷ []) (arguments (step.Ande a)) refl
arguments_fit (step.Ore a) = exactly (of_number ∷ []) (arguments (step.Ore a)) refl
arguments_fit (step.Impe a) = exactly (of_number ∷ []) (arguments (step.Impe a)) refl
arguments_fit (step.Note a) = exactly (of_number ∷ []) (arguments (step.Note a)) refl
arguments_fit (step.Alle a b) =
    exactly (of_number ∷ of_value ∷ []) (arguments (step.Alle a b))
    (ap (λ x. of_number ∷ x ∷ []) (value_kind b))
arguments_fit (step.Exe a) = exactly (of_number ∷ []) (arguments (step.Exe a)) refl
arguments_fit (step.Cut a) = exactly (of_term ∷ []) (arguments (step.Cut a)) refl
arguments_fit (step.Em a) = exactly (of_term ∷ []) (arguments (step.Em a)) refl
arguments_fit (step.Drop a) = exactly (of_number ∷ []) (arguments (step.Drop a)) refl
arguments_fit (step.UseStmt a b) =
    record {
      front = number a ∷ [];
      more = map term_of b;
      is = refl;
      fixed = refl;
      rest =
          term_kinds b;
    }
arguments_fit step.Proj = exactly ([]) (arguments step.Proj) refl
arguments_fit step.Trace = exactly ([]) (arguments step.Trace) refl
arguments_fit step.Refl = exactly ([]) (arguments step.Refl) refl
arguments_fit step.Sym = exactly ([]) (arguments step.Sym) refl
arguments_fit (step.Trans a) = exactly (of_term ∷ []) (arguments (step.Trans a)) refl
arguments_fit step.Arg = exactly ([]) (arguments step.Arg) refl
arguments_fit (step.Rew a b c) =
    exactly (of_number ∷ of_direction ∷ of_target ∷ []) (arguments (step.Rew a b c)) refl
arguments_fit (step.Fact a) = exactly (of_term ∷ []) (arguments (step.Fact a)) refl
arguments_fit (step.O1 a) = exactly (of_time ∷ []) (arguments (step.O1 a)) refl
arguments_fit (step.O2 a b c) =
    exactly (of_time ∷ of_time ∷ of_time ∷ []) (arguments (step.O2 a b c)) refl
arguments_fit (step.O3 a b) = exactly (of_time ∷ of_time ∷ []) (arguments (step.O3 a b)) refl
arguments_fit (step.O4 a b) = exactly (of_time ∷ of_time ∷ []) (arguments (step.O4 a b)) refl
arguments_fit (step.O5 a b) = exactly (of_time ∷ of_time ∷ []) (arguments (step.O5 a b)) refl
arguments_fit (step.O6 a) = exactly (of_time ∷ []) (arguments (step.O6 a)) refl
arguments_fit (step.O7 a) = exactly (of_time ∷ []) (arguments (step.O7 a)) refl
arguments_fit (step.O8 a b) = exactly (of_time ∷ of_time ∷ []) (arguments (step.O8 a b)) refl
arguments_fit (step.O9 a) = exactly (of_time ∷ []) (arguments (step.O9 a)) refl
arguments_fit (step.O10 a b) = exactly (of_time ∷ of_time ∷ []) (arguments (step.O10 a b)) refl
arguments_fit (step.O11 a) = exactly (of_time ∷ []) (arguments (step.O11 a)) refl
arguments_fit (step.O12 a b c) =
    exactly (of_time ∷ of_time ∷ of_number ∷ []) (arguments (step.O12 a b c)) refl
arguments_fit (step.Tind a) = exactly (of_number ∷ []) (arguments (step.Tind a)) refl
arguments_fit (step.X a b) = exactly (of_macro ∷ of_time ∷ []) (arguments (step.X a b)) refl
arguments_fit (step.Xu a b) = exactly (of_macro ∷ of_time ∷ []) (arguments (step.Xu a b)) refl
arguments_fit (step.Fresh a) = exactly (of_number ∷ []) (arguments (step.Fresh a)) refl
arguments_fit (step.Euf a) = exactly (of_number ∷ []) (arguments (step.Euf a)) refl
arguments_fit (step.Coll a) = exactly (of_number ∷ []) (arguments (step.Coll a)) refl
arguments_fit (step.Eass a) = exactly (of_number ∷ []) (arguments (step.Eass a)) refl
arguments_fit step.Erefl = exactly ([]) (arguments step.Erefl) refl
arguments_fit (step.Esel a) =
    record { front = []; more = map number a; is = refl; fixed = refl; rest = number_kinds a }
arguments_fit (step.Efa a) = exactly (of_number ∷ []) (arguments (step.Efa a)) refl
arguments_fit (step.Eatom a) = exactly (of_number ∷ []) (arguments (step.Eatom a)) refl
arguments_fit (step.Efre a) = exactly (of_number ∷ []) (arguments (step.Efre a)) refl
arguments_fit (step.Ecase a b) =
    exactly (of_number ∷ of_number ∷ []) (arguments (step.Ecase a b)) refl
arguments_fit (step.Erep a b c) =
    exactly (of_hand ∷ of_number ∷ of_term ∷ []) (arguments (step.Erep a b c)) refl
arguments_fit (step.Eded a b) =
    exactly (of_number ∷ of_number ∷ []) (arguments (step.Eded a b)) refl
arguments_fit (step.Eind a) = exactly (of_number ∷ []) (arguments (step.Eind a)) refl
arguments_fit (step.Eprf a b c d) =
    exactly (of_hand ∷ of_number ∷ of_term ∷ of_term ∷ []) (arguments (step.Eprf a b c d)) refl
arguments_fit (step.Euse a b) =
    record {
      front = number a ∷ [];
      more = map value_of b;
      is = refl;
      fixed = refl;
      rest =
          value_kinds b;
    }

fixed_read : (args : List Argument) (ws : List (List ℕ)) → list_all argument_fits args ≡ true
    → fixed_arguments (map kind_of args) (arguments_words args ++ ws) ≡ Some (args, ws)
fixed_read [] ws h = refl
fixed_read (a ∷ more) ws h =
    let fit = both (argument_fits a) (list_all argument_fits more) h in
    ap (fixed_arguments (map kind_of (a ∷ more)))
    (append_assoc (argument_words a) (arguments_words more) ws)
    ∙ next (argument (kind_of a) (argument_words a ++ (arguments_words more ++ ws))) a
    (arguments_words more ++ ws)
    (λ a r. followed (fixed_arguments (map kind_of more) r) (λ others q. Some (a ∷ others, q)))
    (argument_reads a (arguments_words more ++ ws) fit.0)
    ∙ next (fixed_arguments (map kind_of more) (arguments_words more ++ ws)) more ws
    (λ others q. Some (a ∷ others, q)) (fixed_read more ws fit.1)

on_none : (k : Kind) (front : List Argument) → arguments_on k front (length {A = List ℕ} []) []
    ≡ Some (front, [])
unfolding arguments_on
on_none k front = refl

rest_read : (k : Kind) (front args : List Argument) → AreOfKind k args
    → list_all argument_fits args ≡ true
    → arguments_on k front (length (arguments_words args)) (arguments_words args)
    ≡ Some (front ++ args, [])
rest_read k front [] kinds h = on_none k front ∙ ap (λ x. Some (x, [])) (sym (append-nil front))
rest_read k front (a ∷ more) kinds h =
    let fit = both (argument_fits a) (list_all argument_fits more) h in
    let W : List (List ℕ) = argument_words a ++ arguments_words more in
    let some : W ≢ [] = λ e. let z = ap length e in let s = argument_words-some a in let t =
    length-append (argument_words a) (arguments_words more) in absurd (omega arith) in
    let read : argument k W ≡ Some (a, arguments_words more) =
    ap (λ x. argument x W) (sym kinds.0) ∙ argument_reads a (arguments_words more) fit.0 in
    on_more k front W some
    ∙ next (argument k W) a (arguments_words more)
    (λ a r. arguments_on k (front ++ a ∷ []) (length r) r) read
    ∙ rest_read k (front ++ a ∷ []) more kinds.1 fit.1
    ∙ ap (λ x. Some (x, [])) (append_assoc front (a ∷ []) more)

list_all-append : (p : Argument → Bool) (a b : List Argument) → list_all p (a ++ b) ≡ true
    → (list_all p a ≡ true) × (list_all p b ≡ true)
list_all-append p [] b h = (refl, h)
list_all-append p (x ∷ a) b h =
    let first = both (p x) (list_all p (a ++ b)) h in
    let others = list_all-append p a b first.1 in
    (and_true (p x) (list_all p a) first.0 others.0, others.1)

list_all-joined : (p : Argument → Bool) (a b : List Argument) → list_all p a ≡ true
    → list_all p b ≡ true → list_all p (a ++ b) ≡ true
list_all-joined p [] b ha hb = hb
list_all-joined p (x ∷ a) b ha hb =
    let first =
    both (p x) (list_all p a) ha in
    and_true (p x) (list_all p (a ++ b)) first.0 (list_all-joined p a b first.1 hb)

end_read : (o : Option Kind) (front more : List Argument) → RestFits o more
    → list_all argument_fits more ≡ true → up_to_end o front (arguments_words more)
    ≡ Some (front ++ more, [])
end_read None front more fits h = ap (λ x. Some (front, arguments_words x)) fits
    ∙ ap (λ x. Some (x, [])) (sym (append-nil front) ∙ ap (λ x. front ++ x) (sym fits))
end_read (Some k) front more fits h =
    next (all_arguments k (arguments_words more)) more [] (λ more r. Some (front ++ more, r))
    (rest_read k [] more fits h)

args_read : (ks : List Kind × Option Kind) (args : List Argument) → Fit ks args
    → list_all argument_fits args ≡ true → arguments_by ks (arguments_words args) ≡ Some (args, [])
args_read ks args f h =
    let parts =
    list_all-append argument_fits f.front f.more (ap (list_all argument_fits) (sym f.is) ∙ h) in
    let all : arguments_words args ≡ arguments_words f.front ++ arguments_words f.more =
    ap arguments_words f.is ∙ arguments_words-append f.front f.more in
    ap (arguments_by ks) all
    ∙ next (fixed_arguments ks.0 (arguments_words f.front ++ arguments_words f.more)) f.front
    (arguments_words f.more) (up_to_end ks.1)
    (ap (λ x. fixed_arguments x (arguments_words f.front ++ arguments_words f.more)) (sym f.fixed)
    ∙ fixed_read f.front (arguments_words f.more) parts.0)
    ∙ end_read ks.1 f.front f.more f.rest parts.1 ∙ ap (λ x. Some (x, [])) (sym f.is)

pub step_words_unparted : (s : Step) → IsUnparted (step_word s)
step_words_unparted s =
    subst IsUnparted (name_text-name_of s)
    (unparted-from (name_text (name_of s)) (name_no_blank (name_of s)))

-- the line of a step is read as its name and its arguments
pub line_reads : (s : Step) → is_spelled s ≡ true
    → step_read (step_line s) ≡ Some (name_of s, arguments s)
line_reads s h =
    let word : step_word s ≡ name_text (name_of s) = sym (name_text-name_of s) in
    let first : IsUnparted (step_word s) =
    subst IsUnparted (sym word)
    (unparted-from (name_text (name_of s)) (name_no_blank (name_of s))) in
    let cut : words (step_line s) ≡ step_word s ∷ arguments_words (arguments s) =
    words-joined (step_word s) (arguments_words (arguments s)) first
    (arguments_unparted (arguments s) h) in
    let named : name_written (step_word s) ≡ Some (name_of s) =
    ap name_written word ∙ name_reads (name_of s) in
    ap step_in cut
    ∙ ap (λ o. whole
    (followed (as_found o (arguments_words (arguments s)))
    (λ n r. followed (arguments_of n r) (λ more q. Some ((n, more), q))))) named
    ∙ ap (λ o. whole (followed o (λ more q. Some ((name_of s, more), q))))
    (args_read (kinds_of (name_of s)) (arguments s) (arguments_fit s) h)

-- ---- and back

pub record TellsArguments (ws : List (List ℕ)) (args : List Argument) (r : List (List ℕ))
    : Type 0 where
  pub words : ws ≡ arguments_words args ++ r
  pub fits : list_all argument_fits args ≡ true

told_args : (ws : List (List ℕ)) (made found : List Argument × List (List ℕ))
    → Some made ≡ Some found → TellsArguments ws made.0 made.1 → TellsArguments ws found.0 found.1
told_args ws made found e h =
    let same = same_found made found e in
    record {
      words = h.words
          ∙ (λ i. arguments_words (same.0 i) ++ same.1 i);
      fits =
          sym (ap (list_all argument_fits) same.0) ∙ h.fits;
    }

fixed_tell : (ks : List Kind) (ws : List (List ℕ)) (args : List Argument) (r : List (List ℕ))
    → fixed_arguments ks ws ≡ Some (args, r) → TellsArguments ws args r
fixed_tell [] ws args r e = told_args ws ([], ws) (args, r) e (record { words = refl; fits = refl })
fixed_tell (k ∷ ks) ws args r e =
    let p = first_part (argument k ws)
    (λ a r. followed (fixed_arguments ks r) (λ more q. Some (a ∷ more, q))) args r e in
    let q = first_part (fixed_arguments ks p.1) (λ more q. Some (p.0 ∷ more, q)) args r p.3 in
    let first = argument_tells k ws p.0 p.1 p.2 in
    let others = fixed_tell ks p.1 q.0 q.1 q.2 in
    told_args ws (p.0 ∷ q.0, q.1) (args, r) q.3
    (record {
      words = first.words ∙ ap (λ x. argument_words p.0 ++ x) others.words
          ∙ sym (append_assoc (argument_words p.0) (arguments_words q.0) q.1);
      fits = and_true (argument_fits p.0) (list_all argument_fits q.0) first.fits others.fits;
    })

on_tell : (k : Kind) (front : List Argument) (n : ℕ) (ws : List (List ℕ)) (args : List Argument)
    (r : List (List ℕ)) → arguments_on k front n ws ≡ Some (args, r)
    → (more : List Argument) × (args ≡ front ++ more) × TellsArguments ws more r
unfolding arguments_on
on_tell k front n [] args r e =
    let same = same_found (front, []) (args, r) e in
    ([], sym same.0 ∙ sym (append-nil front), record { words = same.1; fits = refl })
on_tell k front zero (w ∷ ws) args r e = cc
on_tell k front (suc n) (w ∷ ws) args r e =
    let p = first_part (argument k (w ∷ ws))
    (λ a r. arguments_on k (front ++ a ∷ []) n r) args r e in
    let first = argument_tells k (w ∷ ws) p.0 p.1 p.2 in
    let rest = on_tell k (front ++ p.0 ∷ []) n p.1 args r p.3 in (
      p.0 ∷ rest.0,
      rest.1 ∙ append_assoc front (p.0 ∷ []) rest.0,
      record {
        words = first.words ∙ ap (λ x. argument_words p.0 ++ x) rest.2.words
            ∙ sym (append_assoc (argument_words p.0) (arguments_words rest.0) r);
        fits = and_true (argument_fits p.0) (list_all argument_fits rest.0) first.fits rest.2.fits;
      },
    )

end_tell : (o : Option Kind) (front : List Argument) (ws : List (List ℕ)) (args : List Argument)
    (r : List (List ℕ)) → up_to_end o front ws ≡ Some (args, r)
    → (more : List Argument) × (args ≡ front ++ more) × TellsArguments ws more r
end_tell None front ws args r e =
    let same = same_found (front, ws) (args, r) e in
    ([], sym same.0 ∙ sym (append-nil front), record { words = same.1; fits = refl })
end_tell (Some k) front ws args r e =
    let p = first_part (all_arguments k ws) (λ more r. Some (front ++ more, r)) args r e in
    let told = on_tell k [] (length ws) ws p.0 p.1 p.2 in
    let same = same_found (front ++ p.0, p.1) (args, r) p.3 in (
      told.0,
      sym same.0
          ∙ ap (λ x. front ++ x) told.1,
      record {
        words = told.2.words
            ∙ ap (λ x. arguments_words told.0 ++ x) same.1;
        fits = told.2.fits;
      },
    )

args_tell : (ks : List Kind × Option Kind) (ws : List (List ℕ)) (args : List Argument)
    (r : List (List ℕ)) → arguments_by ks ws ≡ Some (args, r) → TellsArguments ws args r
args_tell ks ws args r e =
    let p = first_part (fixed_arguments ks.0 ws) (up_to_end ks.1) args r e in
    let front = fixed_tell ks.0 ws p.0 p.1 p.2 in
    let rest = end_tell ks.1 p.0 p.1 args r p.3 in
    record {
      words = front.words ∙ ap (λ x. arguments_words p.0 ++ x) rest.2.words
          ∙ sym (append_assoc (arguments_words p.0) (arguments_words rest.0) r)
          ∙ ap (λ x. x ++ r) (sym (arguments_words-append p.0 rest.0)
          ∙ ap arguments_words (sym rest.1));
      fits = ap (list_all argument_fits) rest.1
          ∙ list_all-joined argument_fits p.0 rest.0 front.fits rest.2.fits;
    }

whole_tells : {A : Type 0} (m : Found A) (a : A) → whole m ≡ Some a → m ≡ Some (a, [])
whole_tells None a e = cc
whole_tells (Some (x, [])) a e = ap (λ y. Some (y, [])) (same_value x a e)
whole_tells (Some (x, w ∷ ws)) a e = cc

as_found_name : (o : Option StepName) (ws : List (List ℕ)) (n : StepName) (r : List (List ℕ))
    → as_found o ws ≡ Some (n, r) → (o ≡ Some n) × (ws ≡ r)
as_found_name None ws n r e = cc
as_found_name (Some m) ws n r e = let same = same_found (m, ws) (n, r) e in (ap Some same.0, same.1)

in_tells : (ws : List (List ℕ)) (n : StepName) (args : List Argument) → step_in ws ≡ Some (n, args)
    → (ws ≡ name_text n ∷ arguments_words args) × (list_all argument_fits args ≡ true)
in_tells [] n args e = cc
in_tells (w ∷ ws) n args e =
    let m = whole_tells
    (followed (as_found (name_written w) ws)
    (λ n r. followed (arguments_of n r) (λ more q. Some ((n, more), q)))) (n, args) e in
    let p = first_part (as_found (name_written w) ws)
    (λ n r. followed (arguments_of n r) (λ more q. Some ((n, more), q))) (n, args) [] m in
    let q = first_part (arguments_of p.0 p.1) (λ more q. Some ((p.0, more), q)) (n, args) [] p.3 in
    let same = same_found ((p.0, q.0), q.1) ((n, args), []) q.3 in
    let same_name = ap (λ x. x.0) same.0 in
    let same_args = ap (λ x. x.1) same.0 in
    let named = as_found_name (name_written w) ws p.0 p.1 p.2 in
    let told = args_tell (kinds_of p.0) p.1 q.0 q.1 q.2 in
    let rest : arguments_words q.0 ++ q.1 ≡ arguments_words args =
    ap (λ x. arguments_words q.0 ++ x) same.1 ∙ append-nil (arguments_words q.0)
    ∙ ap arguments_words same_args in (
      (λ i. (name_tells w p.0 named.0 ∙ ap name_text same_name) i
          ∷ (named.1 ∙ told.words ∙ rest) i),
      sym (ap (list_all argument_fits) same_args) ∙ told.fits,
    )

-- what is read as the name and the arguments of a step was its line
pub line_tells : (line : List ℕ) (s : Step) → step_read line ≡ Some (name_of s, arguments s)
    → (step_line s ≡ line) × (is_spelled s ≡ true)
line_tells line s e =
    let told = in_tells (words line) (name_of s) (arguments s) e in
    let all : words line ≡ step_word s ∷ arguments_words (arguments s) =
    told.0 ∙ ap (λ x. x ∷ arguments_words (arguments s)) (name_text-name_of s) in
    (sym (ap joined all) ∙ joined-words line, told.1)

pub line_refused : (line : List ℕ) → step_read line ≡ None → (s : Step) → is_spelled s ≡ true
    → step_line s ≢ line
line_refused line none s h e =
    let read : step_read line ≡ Some (name_of s, arguments s) =
    ap step_read (sym e) ∙ line_reads s h in
    cc
