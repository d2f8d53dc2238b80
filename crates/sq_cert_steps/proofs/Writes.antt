-- The words of arguments at the end of a text.
use Rattle.std.proofs.Common.{◌≡◌, ◌<◌, ◌+◌, ℕ, suc, List, [], ◌∷◌, ◌++◌, map, length, drop, get_or}
use Rattle.std.proofs.Common.{refl, sym, ap, ◌∙◌, append_assoc, append-nil, add-one, drop-cons}
use Rattle.sq_step.specs.declared.step.Step.{Step}
use Rattle.sq_step.specs.declared.step.Step.TheVariants as step
use Rattle.sq_cert_words.specs.Spelling.{blanked}
use Rattle.sq_cert_steps.specs.Lines.{Argument, argument_words, arguments_words, step_word}
use Rattle.sq_cert_steps.specs.Lines.{arguments}
use Rattle.sq_cert_steps.specs.Lines.{step_line}
use Rattle.sq_cert_words.proofs.LineLaws.{wrote-first, wrote-more, wrote-one}
use Rattle.sq_cert_steps.specs.Names.{name_of, name_text}

pub arguments_words-append : (a b : List Argument)
    → arguments_words (a ++ b) ≡ arguments_words a ++ arguments_words b
arguments_words-append [] b = refl
arguments_words-append (x ∷ a) b =
    ap (λ w. argument_words x ++ w) (arguments_words-append a b)
    ∙ sym (append_assoc (argument_words x) (arguments_words a) (arguments_words b))

-- one turn of a loop over arguments
pub wrote-argument : {A : Type 0} (f : A → Argument) (out new whole : List ℕ) (xs : List A) (k : ℕ)
    (x : A) → k < length xs → x ≡ get_or xs k x
    → new ≡ out ++ blanked (argument_words (f x))
    → out ++ blanked (arguments_words (map f (drop k xs))) ≡ whole
    → new ++ blanked (arguments_words (map f (drop (k + 1) xs))) ≡ whole
wrote-argument f out new whole xs k x within item wrote same =
    let one : k + 1 ≡ suc k = add-one k in
    let cut : drop k xs ≡ x ∷ drop (k + 1) xs =
    drop-cons xs k x within ∙ (λ i. sym item i ∷ drop (sym one i) xs) in
    ap (λ w. w ++ blanked (arguments_words (map f (drop (k + 1) xs)))) wrote
    ∙ wrote-more out (argument_words (f x)) (arguments_words (map f (drop (k + 1) xs)))
    ∙ ap (λ w. out ++ blanked (arguments_words (map f w))) (sym cut) ∙ same

-- a step's word is that of its name
pub name_text-name_of : (s : Step) → name_text (name_of s) ≡ step_word s
name_text-name_of (step.Hyp a) = refl
name_text-name_of step.True = refl
name_text-name_of (step.Absurd a) = refl
name_text-name_of step.Impi = refl
name_text-name_of step.Noti = refl
name_text-name_of step.Alli = refl
name_text-name_of step.Andi = refl
name_text-name_of step.Orl = refl
name_text-name_of step.Orr = refl
name_text-name_of (step.Exi a) = refl
name_text-name_of (step.Ande a) = refl
name_text-name_of (step.Ore a) = refl
name_text-name_of (step.Impe a) = refl
name_text-name_of (step.Note a) = refl
name_text-name_of (step.Alle a b) = refl
name_text-name_of (step.Exe a) = refl
name_text-name_of (step.Cut a) = refl
name_text-name_of (step.Em a) = refl
name_text-name_of (step.Drop a) = refl
name_text-name_of (step.UseStmt a b) = refl
name_text-name_of step.Proj = refl
name_text-name_of step.Trace = refl
name_text-name_of step.Refl = refl
name_text-name_of step.Sym = refl
name_text-name_of (step.Trans a) = refl
name_text-name_of step.Arg = refl
name_text-name_of (step.Rew a b c) = refl
name_text-name_of (step.Fact a) = refl
name_text-name_of (step.O1 a) = refl
name_text-name_of (step.O2 a b c) = refl
name_text-name_of (step.O3 a b) = refl
name_text-name_of (step.O4 a b) = refl
name_text-name_of (step.O5 a b) = refl
name_text-name_of (step.O6 a) = refl
name_text-name_of (step.O7 a) = refl
name_text-name_of (step.O8 a b) = refl
name_text-name_of (step.O9 a) = refl
name_text-name_of (step.O10 a b) = refl
name_text-name_of (step.O11 a) = refl
name_text-name_of (step.O12 a b c) = refl
name_text-name_of (step.Tind a) = refl
name_text-name_of (step.X a b) = refl
name_text-name_of (step.Xu a b) = refl
name_text-name_of (step.Fresh a) = refl
name_text-name_of (step.Euf a) = refl
name_text-name_of (step.Coll a) = refl
name_text-name_of (step.Eass a) = refl
name_text-name_of step.Erefl = refl
name_text-name_of (step.Esel a) = refl
name_text-name_of (step.Efa a) = refl
name_text-name_of (step.Eatom a) = refl
name_text-name_of (step.Efre a) = refl
name_text-name_of (step.Ecase a b) = refl
name_text-name_of (step.Erep a b c) = refl
name_text-name_of (step.Eded a b) = refl
name_text-name_of (step.Eind a) = refl
name_text-name_of (step.Eprf a b c d) = refl
name_text-name_of (step.Euse a b) = refl

-- the word and then the parts, one after another
pub wrote-step : (out text : List ℕ) (s : Step) (a b c d : List Argument) → text ≡ step_word s
    → a ++ (b ++ (c ++ d)) ≡ arguments s
    → ((((out ++ text) ++ blanked (arguments_words a)) ++ blanked (arguments_words b)) ++ blanked
    (arguments_words c)) ++ blanked (arguments_words d) ≡ out ++ step_line s
wrote-step out text s a b c d word parts =
    let A = arguments_words a in
    let B = arguments_words b in
    let C = arguments_words c in
    let D = arguments_words d in
    let all : A ++ (B ++ (C ++ D)) ≡ arguments_words (arguments s) =
    ap (λ x. A ++ (B ++ x)) (sym (arguments_words-append c d))
    ∙ ap (λ x. A ++ x) (sym (arguments_words-append b (c ++ d)))
    ∙ sym (arguments_words-append a (b ++ (c ++ d))) ∙ ap arguments_words parts in
    wrote-more (((out ++ text) ++ blanked A) ++ blanked B) C D
    ∙ wrote-more ((out ++ text) ++ blanked A) B (C ++ D)
    ∙ wrote-more (out ++ text) A (B ++ (C ++ D))
    ∙ append_assoc out text (blanked (A ++ (B ++ (C ++ D))))
    ∙ (λ i. out ++ (word i ++ blanked (all i)))

pub ruleset write_rules = (wrote-first, wrote-more, wrote-one)

pub ruleset part_rules = (append-nil, wrote-one)

pub ruleset step_rules = (wrote-step, name_text-name_of)
