-- Arguments that fit are read back, and what is read as an argument was spelled so.
use Rattle.std.proofs.Common.{◌≡◌, ◌≤◌, ℕ, suc, Bool, true, false, cond, if◌then◌else◌, ◌&&◌}
use Rattle.std.proofs.Common.{nat_eq, List, [], ◌∷◌, ◌++◌, Option, Some, None, option_map}
use Rattle.std.proofs.Common.{codes, decimal, refl, sym, ap, ◌∙◌, arith}
use Rattle.std.proofs.lemmas.Bool.Decides.{nat_tests}
use Rattle.std.specs.Char.{is_ascii_digit}
use Rattle.sq_term.specs.declared.term.Idx.{Idx}
use Rattle.sq_term.specs.declared.term.Macro.TheVariants as macro_of
use Rattle.sq_term.specs.Measure.{ts_depth, depth}
use Rattle.sq_term.specs.Syntax.{TsTree, TermTree}
use Rattle.sq_step.specs.declared.step.Hand.TheVariants as hand_of
use Rattle.sq_step.specs.declared.step.Dir.TheVariants as dir
use Rattle.sq_step.specs.declared.step.Target.TheVariants as target_of
use Rattle.sq_cert_words.specs.Spelling.{index_word, ts_words, term_words, is_small}
use Rattle.sq_cert_words.specs.Spelling.{index_fits, ts_fits, term_fits, binds_alone}
use Rattle.sq_cert_steps.specs.Lines.{Spot, at, written, Argument, number, index_value, time_value}
use Rattle.sq_cert_steps.specs.Lines.{time}
use Rattle.sq_cert_steps.specs.Lines.{term, direction, target, hand, macro, spot_words}
use Rattle.sq_cert_steps.specs.Lines.{argument_words}
use Rattle.sq_cert_steps.specs.Lines.{is_shallow}
use Rattle.sq_cert_steps.specs.Lines.{spot_fits, written_ts_fits, written_term_fits}
use Rattle.sq_cert_steps.specs.Lines.{argument_fits}
use Rattle.sq_cert_words.specs.declared.word.Plain.TheVariants as plain
use Rattle.sq_cert_words.specs.declared.word.Word.{Word}
use Rattle.sq_cert_words.specs.declared.word.Word.TheVariants as word
use Rattle.sq_cert_words.specs.Numbers.{last_number}
use Rattle.sq_cert_words.specs.Words.{word_text}
use Rattle.sq_cert_words.specs.Reads.{Found, followed, as_found, any_word, head_word}
use Rattle.sq_cert_words.proofs.NumberLaws.{same_found, decimal_begins, last_of_decimal, last_tells}
use Rattle.sq_cert_terms.specs.Reading.{index_at, index, ts, ts_of}
use Rattle.sq_cert_terms.specs.Reading as terms
use Rattle.sq_cert_terms.proofs.ReadBack.{both, small_is, head_reads, next, index_reads, ts_reads}
use Rattle.sq_cert_terms.proofs.ReadBack.{term_reads}
use Rattle.sq_cert_terms.proofs.Told.{first_part, head_tells, and_true, is_small-true, index_tells}
use Rattle.sq_cert_terms.proofs.Told.{ts_tells, term_tells}
use Rattle.sq_cert_steps.specs.Reading.{index_spot, ts_spot, term_spot, letter_of}
use Rattle.sq_cert_steps.specs.Reading.{direction_at}
use Rattle.sq_cert_steps.specs.Reading.{hand_at, hypothesis_at, target_at, value_at, macro_at, Kind}
use Rattle.sq_cert_steps.specs.Reading.{of_number, of_value, of_time, of_term, of_direction}
use Rattle.sq_cert_steps.specs.Reading.{of_target}
use Rattle.sq_cert_steps.specs.Reading.{of_hand, of_macro, argument}
use Rattle.sq_cert_steps.proofs.PlaceLaws.{written_reads, at_reads, TellsSpot, placed_there}
use Rattle.sq_cert_steps.proofs.PlaceLaws.{written_out}
use Rattle.sq_cert_steps.proofs.PlaceLaws.{spot_tells}

-- which kind an argument is of
abbrev pub kind_of : Argument → Kind
kind_of (number n) = of_number
kind_of (index_value a) = of_value
kind_of (time_value a) = of_value
kind_of (time a) = of_time
kind_of (term a) = of_term
kind_of (direction d) = of_direction
kind_of (target t) = of_target
kind_of (hand h) = of_hand
kind_of (macro m) = of_macro

-- ---- indices, timestamps and terms

index_from_head : (ws : List (List ℕ)) → index ws ≡ followed (head_word ws) index_at
unfolding index
index_from_head ws = refl

ts_from_head : (room : ℕ) (ws : List (List ℕ))
    → ts (suc room) ws ≡ followed (head_word ws) (ts_of room)
unfolding ts
ts_from_head room ws = refl

term_from_head : (room : ℕ) (ws : List (List ℕ))
    → terms.term (suc room) ws ≡ followed (head_word ws) (terms.term_of room)
unfolding terms.term
term_from_head room ws = refl

index_spot_reads : (a : Spot Idx) (ws : List (List ℕ)) → spot_fits index_fits a ≡ true
    → index_spot (spot_words (λ i. index_word i ∷ []) a ++ ws) ≡ Some (a, ws)
index_spot_reads (at p k) ws h = at_reads index_at p k ws h
index_spot_reads (written i) ws h =
    written_reads index_at (index_word i ∷ ws) i ws (sym (index_from_head (index_word i ∷ ws))
    ∙ index_reads i ws h)

shallow : (n : ℕ) → is_shallow n ≡ true → n ≤ 1024
shallow n h = grind (arith, nat_tests)

shallow-true : (n : ℕ) → n ≤ 1024 → is_shallow n ≡ true
shallow-true n h = grind (arith, nat_tests)

ts_spot_reads : (a : Spot TsTree) (ws : List (List ℕ)) → spot_fits written_ts_fits a ≡ true
    → ts_spot (spot_words ts_words a ++ ws) ≡ Some (a, ws)
ts_spot_reads (at p k) ws h = at_reads (ts_of 1023) p k ws h
ts_spot_reads (written t) ws h =
    let fit = both (is_shallow (ts_depth t)) (ts_fits t) h in
    written_reads (ts_of 1023) (ts_words t ++ ws) t ws (sym (ts_from_head 1023 (ts_words t ++ ws))
    ∙ ts_reads t 1024 ws (shallow (ts_depth t) fit.0) fit.1)

term_spot_reads : (a : Spot TermTree) (ws : List (List ℕ)) → spot_fits written_term_fits a ≡ true
    → term_spot (spot_words term_words a ++ ws) ≡ Some (a, ws)
term_spot_reads (at p k) ws h = at_reads (terms.term_of 1023) p k ws h
term_spot_reads (written t) ws h =
    let fit = both (is_shallow (depth t)) (term_fits t && binds_alone t) h in
    let parts = both (term_fits t) (binds_alone t) fit.1 in
    written_reads (terms.term_of 1023) (term_words t ++ ws) t ws
    (sym (term_from_head 1023 (term_words t ++ ws))
    ∙ term_reads t 1024 ws (shallow (depth t) fit.0) parts.0 parts.1)

-- what a spot is that was read: its words and that it fits
abbrev Spelt : {A : Type 0} → (A → List (List ℕ)) → (A → Bool) → List (List ℕ) → Spot A
    → List (List ℕ) → Type 0
Spelt words fits ws s q = (ws ≡ spot_words words s ++ q) × (spot_fits fits s ≡ true)

spelt : {A : Type 0} (reader : Word → List (List ℕ) → Found A) (words : A → List (List ℕ))
    (fits : A → Bool)
    → ((ws : List (List ℕ)) (a : A) (q : List (List ℕ))
    → followed (head_word ws) reader ≡ Some (a, q) → (ws ≡ words a ++ q) × (fits a ≡ true))
    → (ws : List (List ℕ)) (s : Spot A) (q : List (List ℕ)) → TellsSpot reader ws s q
    → Spelt words fits ws s q
spelt reader words fits each ws s q (placed_there p k is fit same) =
    (is ∙ ap (λ x. spot_words words x ++ q) same, sym (ap (spot_fits fits) same) ∙ fit)
spelt reader words fits each ws s q (written_out a found same) =
    let h = each ws a q found in
    (h.0 ∙ ap (λ x. spot_words words x ++ q) same, sym (ap (spot_fits fits) same) ∙ h.1)

index_spot_tells : (ws : List (List ℕ)) (s : Spot Idx) (q : List (List ℕ))
    → index_spot ws ≡ Some (s, q) → Spelt (λ i. index_word i ∷ []) index_fits ws s q
index_spot_tells ws s q e =
    spelt index_at (λ i. index_word i ∷ []) index_fits
    (λ ws i q e. index_tells ws i q (index_from_head ws ∙ e)) ws s q
    (spot_tells index_at ws s q e)

ts_spot_tells : (ws : List (List ℕ)) (s : Spot TsTree) (q : List (List ℕ))
    → ts_spot ws ≡ Some (s, q) → Spelt ts_words written_ts_fits ws s q
ts_spot_tells ws s q e =
    spelt (ts_of 1023) ts_words written_ts_fits
    (λ ws t q e. let h = ts_tells 1024 ws t q (ts_from_head 1023 ws ∙ e) in (
      h.words,
      and_true (is_shallow (ts_depth t)) (ts_fits t)
          (shallow-true (ts_depth t) h.deep) h.fits,
    ))
    ws s q (spot_tells (ts_of 1023) ws s q e)

term_spot_tells : (ws : List (List ℕ)) (s : Spot TermTree) (q : List (List ℕ))
    → term_spot ws ≡ Some (s, q) → Spelt term_words written_term_fits ws s q
term_spot_tells ws s q e =
    spelt (terms.term_of 1023) term_words written_term_fits
    (λ ws t q e. let h = term_tells 1024 ws t q (term_from_head 1023 ws ∙ e) in (
      h.words,
      and_true (is_shallow (depth t)) (term_fits t && binds_alone t)
          (shallow-true (depth t) h.deep) (and_true (term_fits t) (binds_alone t) h.fits h.alone),
    ))
    ws s q (spot_tells (terms.term_of 1023) ws s q e)

-- ---- single words

-- the target that is a hypothesis begins with a digit, and is none of the letters
target_reads : (h : ℕ) (ws : List (List ℕ)) → is_small h ≡ true
    → target_at (letter_of (decimal h)) (decimal h) ws ≡ Some (target (target_of.Hyp h), ws)
target_reads h ws small =
    let b = decimal_begins h (omega (arith, small_is h small)) in
    let found : hypothesis_at (decimal h) ws ≡ Some (target (target_of.Hyp h), ws) =
    ap (λ o. as_found (option_map (λ h. target (target_of.Hyp h)) o) ws)
    (last_of_decimal h (small_is h small)) in
    ap (λ x. target_at (letter_of x) (decimal h) ws) b.is ∙ by b.first b.others b.digit ∙ found
  where
    no_letter : (c : ℕ) → is_ascii_digit c ≡ true → (nat_eq c 103 ≡ false) × (nat_eq c 105 ≡ false)
    no_letter c digit = (grind (arith, nat_tests), grind (arith, nat_tests))

    by : (c : ℕ) (cs : List ℕ) → is_ascii_digit c ≡ true
        → target_at (letter_of (c ∷ cs)) (decimal h) ws ≡ hypothesis_at (decimal h) ws
    by c [] digit = let no = no_letter c digit in rw (no.0, no.1)
    by c (d ∷ cs) digit = refl

pub argument_reads : (a : Argument) (ws : List (List ℕ)) → argument_fits a ≡ true
    → argument (kind_of a) (argument_words a ++ ws) ≡ Some (a, ws)
argument_reads (number n) ws h =
    ap (λ o. as_found (option_map number o) ws) (last_of_decimal n (small_is n h))
argument_reads (index_value a) ws h =
    next (index_spot (spot_words (λ i. index_word i ∷ []) a ++ ws)) a ws
    (λ a r. Some (index_value a, r)) (index_spot_reads a ws h)
argument_reads (time_value a) ws h =
    next (ts_spot (spot_words ts_words a ++ ws)) a ws (λ a r. Some (time_value a, r))
    (ts_spot_reads a ws h)
argument_reads (time a) ws h =
    next (ts_spot (spot_words ts_words a ++ ws)) a ws (λ a r. Some (time a, r))
    (ts_spot_reads a ws h)
argument_reads (term a) ws h =
    next (term_spot (spot_words term_words a ++ ws)) a ws (λ a r. Some (term a, r))
    (term_spot_reads a ws h)
argument_reads (direction dir.Forward) ws h = refl
argument_reads (direction dir.Backward) ws h = refl
argument_reads (target target_of.Goal) ws h = refl
argument_reads (target target_of.Items) ws h = refl
argument_reads (target (target_of.Hyp k)) ws h = target_reads k ws h
argument_reads (hand hand_of.Left) ws h = refl
argument_reads (hand hand_of.Right) ws h = refl
argument_reads (macro macro_of.Input) ws h = head_reads (word.Plain plain.Input) ws macro_at tt
argument_reads (macro macro_of.Output) ws h = head_reads (word.Plain plain.Output) ws macro_at tt
argument_reads (macro macro_of.Cond) ws h = head_reads (word.Plain plain.Cond) ws macro_at tt
argument_reads (macro macro_of.Exec) ws h = head_reads (word.Plain plain.Exec) ws macro_at tt
argument_reads (macro macro_of.Frame) ws h = head_reads (word.Plain plain.Frame) ws macro_at tt

-- ---- and back

pub record TellsArgument (k : Kind) (ws : List (List ℕ)) (a : Argument) (r : List (List ℕ))
    : Type 0 where
  pub kind : kind_of a ≡ k
  pub words : ws ≡ argument_words a ++ r
  pub fits : argument_fits a ≡ true

-- from the argument that was built
built : (k : Kind) (ws : List (List ℕ)) (made found : Argument × List (List ℕ))
    → Some made ≡ Some found → TellsArgument k ws made.0 made.1 → TellsArgument k ws found.0 found.1
built k ws made found e h =
    let same = same_found made found e in
    record {
      kind = sym (ap kind_of same.0) ∙ h.kind;
      words = h.words
          ∙ (λ i. argument_words (same.0 i) ++ same.1 i);
      fits =
          sym (ap argument_fits same.0) ∙ h.fits;
    }

one_letter : (w : List ℕ) (c : ℕ) → letter_of w ≡ Some c → w ≡ c ∷ []
one_letter [] c e = cc
one_letter (x ∷ []) c e = let same : x ≡ c = cc in λ i. same i ∷ []
one_letter (x ∷ y ∷ cs) c e = cc

as_found_is : {A : Type 0} (o : Option A) (ws : List (List ℕ)) (a : A) (r : List (List ℕ))
    → as_found o ws ≡ Some (a, r) → (o ≡ Some a) × (ws ≡ r)
as_found_is None ws a r e = cc
as_found_is (Some x) ws a r e = let same = same_found (x, ws) (a, r) e in (ap Some same.0, same.1)

-- a word that is read by its letter
abbrev TellsWord : Kind → (List ℕ → List (List ℕ) → Found Argument) → Type 0
TellsWord k read = (w : List ℕ) (ws : List (List ℕ)) (a : Argument) (r : List (List ℕ))
    → read w ws ≡ Some (a, r) → TellsArgument k (w ∷ ws) a r

any_tells : (k : Kind) (read : List ℕ → List (List ℕ) → Found Argument) → TellsWord k read
    → (ws : List (List ℕ)) (a : Argument) (r : List (List ℕ))
    → followed (any_word ws) read ≡ Some (a, r) → TellsArgument k ws a r
any_tells k read each [] a r e = cc
any_tells k read each (w ∷ ws) a r e = each w ws a r e

number_word_tells : TellsWord of_number (λ w r. as_found (option_map number (last_number w)) r)
number_word_tells w ws a r e =
    let found = as_found_is (option_map number (last_number w)) ws a r e in
    by (last_number w) refl found.0
  where
    by : (o : Option ℕ) → last_number w ≡ o → option_map number o ≡ Some a
        → TellsArgument of_number (w ∷ ws) a r
    by None f g = cc
    by (Some n) f g =
        let found = as_found_is (option_map number (last_number w)) ws a r e in
        let told = last_tells w n f in
        let same : number n ≡ a = cc in
        built of_number (w ∷ ws) (number n, ws) (a, r) (λ i. Some (same i, found.1 i))
        (record { kind = refl; words = ap (λ x. x ∷ ws) told.0; fits = is_small-true n told.1 })

hypothesis_tells : TellsWord of_target hypothesis_at
hypothesis_tells w ws a r e =
    let found = as_found_is (option_map (λ h. target (target_of.Hyp h)) (last_number w)) ws a r e in
    by (last_number w) refl found.0 found.1
  where
    by : (o : Option ℕ) → last_number w ≡ o → option_map (λ h. target (target_of.Hyp h)) o ≡ Some a
        → ws ≡ r → TellsArgument of_target (w ∷ ws) a r
    by None f g s = cc
    by (Some n) f g s =
        let told = last_tells w n f in
        let same : target (target_of.Hyp n) ≡ a = cc in
        built of_target (w ∷ ws) (target (target_of.Hyp n), ws) (a, r) (λ i. Some (same i, s i))
        (record { kind = refl; words = ap (λ x. x ∷ ws) told.0; fits = is_small-true n told.1 })

-- where the letter is this one, the argument is that one
letter_is : (k : Kind) (w : List ℕ) (ws : List (List ℕ)) (c letter : ℕ) (made : Argument)
    (a : Argument) (r : List (List ℕ)) (other : Found Argument) (b : Bool)
    → letter_of w ≡ Some c → nat_eq c letter ≡ b → kind_of made ≡ k
    → argument_words made ≡ (letter ∷ []) ∷ [] → argument_fits made ≡ true
    → (other ≡ Some (a, r) → TellsArgument k (w ∷ ws) a r)
    → (if b then Some (made, ws) else other) ≡ Some (a, r) → TellsArgument k (w ∷ ws) a r
letter_is k w ws c letter made a r other true is t kind words fits behind e =
    let same : c ≡ letter = grind (arith, nat_tests) in
    built k (w ∷ ws) (made, ws) (a, r) e
    (record {
      kind = kind;
      words = ap (λ x. x ∷ ws) (one_letter w c is ∙ ap (λ x. x ∷ []) same)
          ∙ ap (λ x. x ++ ws) (sym words);
      fits = fits;
    })
letter_is k w ws c letter made a r other false is t kind words fits behind e = behind e

direction_tells : TellsWord of_direction (λ w r. direction_at (letter_of w) r)
direction_tells w ws a r e = by (letter_of w) refl e
  where
    by : (o : Option ℕ) → letter_of w ≡ o → direction_at o ws ≡ Some (a, r)
        → TellsArgument of_direction (w ∷ ws) a r
    by None f g = cc
    by (Some c) f g =
        letter_is of_direction w ws c 62 (direction dir.Forward) a r _
        (nat_eq c 62) f refl refl refl refl
        (letter_is of_direction w ws c 60 (direction dir.Backward) a r _
        (nat_eq c 60) f refl refl refl refl (λ e. cc)) g

hand_tells : TellsWord of_hand (λ w r. hand_at (letter_of w) r)
hand_tells w ws a r e = by (letter_of w) refl e
  where
    by : (o : Option ℕ) → letter_of w ≡ o → hand_at o ws ≡ Some (a, r)
        → TellsArgument of_hand (w ∷ ws) a r
    by None f g = cc
    by (Some c) f g =
        letter_is of_hand w ws c 108 (hand hand_of.Left) a r _ (nat_eq c 108) f refl refl refl refl
        (letter_is of_hand w ws c 114 (hand hand_of.Right) a r _
        (nat_eq c 114) f refl refl refl refl (λ e. cc)) g

target_tells : TellsWord of_target (λ w r. target_at (letter_of w) w r)
target_tells w ws a r e = by (letter_of w) refl e
  where
    by : (o : Option ℕ) → letter_of w ≡ o → target_at o w ws ≡ Some (a, r)
        → TellsArgument of_target (w ∷ ws) a r
    by None f g = hypothesis_tells w ws a r g
    by (Some c) f g =
        letter_is of_target w ws c 103 (target target_of.Goal) a r _
        (nat_eq c 103) f refl refl refl refl
        (letter_is of_target w ws c 105 (target target_of.Items) a r _
        (nat_eq c 105) f refl refl refl refl (hypothesis_tells w ws a r)) g

index_value_tells : (w : List ℕ) (ws : List (List ℕ)) (a : Argument) (r : List (List ℕ))
    → w ≡ codes "i" → followed (index_spot ws) (λ a r. Some (index_value a, r)) ≡ Some (a, r)
    → TellsArgument of_value (w ∷ ws) a r
index_value_tells w ws a r is e =
    let p = first_part (index_spot ws) (λ a r. Some (index_value a, r)) a r e in
    let told = index_spot_tells ws p.0 p.1 p.2 in
    built of_value (w ∷ ws) (index_value p.0, p.1) (a, r) p.3
    (record { kind = refl; words = (λ i. is i ∷ told.0 i); fits = told.1 })

time_value_tells : (w : List ℕ) (ws : List (List ℕ)) (a : Argument) (r : List (List ℕ))
    → w ≡ codes "t" → followed (ts_spot ws) (λ a r. Some (time_value a, r)) ≡ Some (a, r)
    → TellsArgument of_value (w ∷ ws) a r
time_value_tells w ws a r is e =
    let p = first_part (ts_spot ws) (λ a r. Some (time_value a, r)) a r e in
    let told = ts_spot_tells ws p.0 p.1 p.2 in
    built of_value (w ∷ ws) (time_value p.0, p.1) (a, r) p.3
    (record { kind = refl; words = (λ i. is i ∷ told.0 i); fits = told.1 })

value_tells : TellsWord of_value (λ w r. value_at (letter_of w) r)
value_tells w ws a r e = by (letter_of w) refl e
  where
    second : (c : ℕ) (b : Bool) → letter_of w ≡ Some c → nat_eq c 116 ≡ b
        → (if b then followed (ts_spot ws) (λ a r. Some (time_value a, r)) else None) ≡ Some (a, r)
        → TellsArgument of_value (w ∷ ws) a r
    second c true f t g = let same : c ≡ 116 =
        grind (arith, nat_tests) in
        time_value_tells w ws a r (one_letter w c f ∙ ap (λ x. x ∷ []) same) g
    second c false f t g = cc

    first : (c : ℕ) (b : Bool) → letter_of w ≡ Some c → nat_eq c 105 ≡ b
        → (if b then followed (index_spot ws) (λ a r. Some (index_value a, r)) else if nat_eq c 116
        then followed (ts_spot ws) (λ a r. Some (time_value a, r)) else None)
        ≡ Some (a, r)
        → TellsArgument of_value (w ∷ ws) a r
    first c true f t g = let same : c ≡ 105 =
        grind (arith, nat_tests) in
        index_value_tells w ws a r (one_letter w c f ∙ ap (λ x. x ∷ []) same) g
    first c false f t g = second c (nat_eq c 116) f refl g

    by : (o : Option ℕ) → letter_of w ≡ o → value_at o ws ≡ Some (a, r)
        → TellsArgument of_value (w ∷ ws) a r
    by None f g = cc
    by (Some c) f g = first c (nat_eq c 105) f refl g

macro_word_tells : (w : Word) (ws : List (List ℕ)) (a : Argument) (r : List (List ℕ))
    → macro_at w ws ≡ Some (a, r) → TellsArgument of_macro (word_text w ∷ ws) a r
macro_word_tells (word.Plain plain.Input) ws a r e =
    built of_macro (codes "input" ∷ ws) (macro macro_of.Input, ws) (a, r) e
    (record { kind = refl; words = refl; fits = refl })
macro_word_tells (word.Plain plain.Output) ws a r e =
    built of_macro (codes "output" ∷ ws) (macro macro_of.Output, ws) (a, r) e
    (record { kind = refl; words = refl; fits = refl })
macro_word_tells (word.Plain plain.Cond) ws a r e =
    built of_macro (codes "cond" ∷ ws) (macro macro_of.Cond, ws) (a, r) e
    (record { kind = refl; words = refl; fits = refl })
macro_word_tells (word.Plain plain.Exec) ws a r e =
    built of_macro (codes "exec" ∷ ws) (macro macro_of.Exec, ws) (a, r) e
    (record { kind = refl; words = refl; fits = refl })
macro_word_tells (word.Plain plain.Frame) ws a r e =
    built of_macro (codes "frame" ∷ ws) (macro macro_of.Frame, ws) (a, r) e
    (record { kind = refl; words = refl; fits = refl })
macro_word_tells _ ws a r e = cc

macro_tells : (ws : List (List ℕ)) (a : Argument) (r : List (List ℕ))
    → followed (head_word ws) macro_at ≡ Some (a, r) → TellsArgument of_macro ws a r
macro_tells ws a r e =
    let p = first_part (head_word ws) macro_at a r e in
    let head = head_tells ws p.0 p.1 p.2 in
    let told = macro_word_tells p.0 p.1 a r p.3 in
    record { kind = told.kind; words = head.0 ∙ told.words; fits = told.fits }

time_tells : (ws : List (List ℕ)) (a : Argument) (r : List (List ℕ))
    → followed (ts_spot ws) (λ a r. Some (time a, r)) ≡ Some (a, r) → TellsArgument of_time ws a r
time_tells ws a r e =
    let p = first_part (ts_spot ws) (λ a r. Some (time a, r)) a r e in
    let told = ts_spot_tells ws p.0 p.1 p.2 in
    built of_time ws (time p.0, p.1) (a, r) p.3
    (record { kind = refl; words = told.0; fits = told.1 })

term_argument_tells : (ws : List (List ℕ)) (a : Argument) (r : List (List ℕ))
    → followed (term_spot ws) (λ a r. Some (term a, r)) ≡ Some (a, r) → TellsArgument of_term ws a r
term_argument_tells ws a r e =
    let p = first_part (term_spot ws) (λ a r. Some (term a, r)) a r e in
    let told = term_spot_tells ws p.0 p.1 p.2 in
    built of_term ws (term p.0, p.1) (a, r) p.3
    (record { kind = refl; words = told.0; fits = told.1 })

pub argument_tells : (k : Kind) (ws : List (List ℕ)) (a : Argument) (r : List (List ℕ))
    → argument k ws ≡ Some (a, r) → TellsArgument k ws a r
argument_tells of_number ws a r e =
    any_tells of_number
    (λ w r. as_found (option_map number (last_number w)) r) number_word_tells ws a r e
argument_tells of_value ws a r e =
    any_tells of_value (λ w r. value_at (letter_of w) r) value_tells ws a r e
argument_tells of_time ws a r e = time_tells ws a r e
argument_tells of_term ws a r e = term_argument_tells ws a r e
argument_tells of_direction ws a r e =
    any_tells of_direction (λ w r. direction_at (letter_of w) r) direction_tells ws a r e
argument_tells of_target ws a r e =
    any_tells of_target (λ w r. target_at (letter_of w) w r) target_tells ws a r e
argument_tells of_hand ws a r e =
    any_tells of_hand (λ w r. hand_at (letter_of w) r) hand_tells ws a r e
argument_tells of_macro ws a r e = macro_tells ws a r e
