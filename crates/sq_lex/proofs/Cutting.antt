-- Tokens are cut into sentences where they are said to be.
use Rattle.std.proofs.Common.{◌≡◌, ℕ, Bool, true, false, not, List, [], ◌∷◌, ◌++◌, Result, Ok, Err}
use Rattle.std.proofs.Common.{refl, ap, ◌∙◌, sym, subst}
use Rattle.std.specs.Prelude.{if◌then◌else◌}
use Rattle.std.specs.List.{list_all}
use Rattle.std.proofs.lemmas.Bool.{and_parts, not-true}
use Rattle.std.proofs.lemmas.List.{append_assoc, append-nil}
use Rattle.std.proofs.lemmas.List.Folds.{list_all-append}
use Rattle.sq_lex.specs.declared.fault.LexFault.{LexFault}
use Rattle.sq_lex.specs.declared.fault.LexFault.TheVariants as f
use Rattle.sq_lex.specs.Lexemes.{Lexeme, Line, is_stop}
use Rattle.sq_lex.specs.Lex.{prepend, sentence, cut, joined}
use Rattle.sq_lex.specs.Standing.{AreCut, empty, stopped}

abbrev pub no_stops : List Lexeme → Bool
no_stops ts = list_all (λ t. not (is_stop t.kind)) ts

one_more : (since : List Lexeme) (t : Lexeme) → no_stops since ≡ true → is_stop t.kind ≡ false
    → no_stops (since ++ t ∷ []) ≡ true
one_more since t e h =
    list_all-append (λ x. not (is_stop x.kind)) since (t ∷ []) ∙ rw (e, h) refl

-- some tokens are cut, and behind the last stop there are more, the first of them at this place
pub record IsUnstopped (source : List ℕ) (all : List Lexeme) (at : ℕ) : Type 0 where
  pub cut : List Lexeme
  pub first : Lexeme
  pub others : List Lexeme
  pub sentences : List Line
  pub parts : all ≡ cut ++ first ∷ others
  pub are_cut : AreCut source sentences cut
  pub no_stop : no_stops (first ∷ others) ≡ true
  pub place : at ≡ first.from

abbrev pub IsCutInto : List ℕ → List Lexeme → Result (List Line) LexFault → Type 0
IsCutInto source ts (Ok ss) = AreCut source ss ts
IsCutInto source ts (Err (f.NoStop at)) = IsUnstopped source ts at
IsCutInto source ts (Err _) = ⊥

-- ---- from the cut to what is said

after_stop : (source : List ℕ) (since : List Lexeme) (t : Lexeme) (ts : List Lexeme)
    → no_stops since ≡ true → is_stop t.kind ≡ true
    → (r : Result (List Line) LexFault) → IsCutInto source ts r
    → IsCutInto source (since ++ t ∷ ts) (prepend (sentence source since t) r)
after_stop source since t ts h s (Ok ss) c = stopped (sentence source since t) t ss ts h s refl c
after_stop source since t ts h s (Err (f.NoStop at)) u = record {
  cut = since ++ t ∷ u.cut;
  first = u.first;
  others = u.others;
  sentences = sentence source since t ∷ u.sentences;
  parts =
      ap (λ x. since ++ t ∷ x) u.parts
      ∙ sym (append_assoc since (t ∷ u.cut) (u.first ∷ u.others));
  are_cut = stopped (sentence source since t) t u.sentences u.cut h s refl u.are_cut;
  no_stop = u.no_stop;
  place = u.place;
}
after_stop source since t ts h s (Err (f.NotUtf8 n)) u = u
after_stop source since t ts h s (Err (f.BadChar n)) u = u
after_stop source since t ts h s (Err (f.OpenComment n)) u = u
after_stop source since t ts h s (Err (f.NumberWide n)) u = u
after_stop source since t ts h s (Err f.NoMemory) u = u

pub cut_into : (source : List ℕ) (since ts : List Lexeme) → no_stops since ≡ true
    → IsCutInto source (since ++ ts) (cut source since ts)
cut_into source [] [] h = empty
cut_into source (t ∷ since) [] h = record {
  cut = [];
  first = t;
  others = since;
  sentences = [];
  parts = append-nil (t ∷ since);
  are_cut = empty;
  no_stop = h;
  place = refl;
}
cut_into source since (t ∷ ts) h =
    by (is_stop t.kind) refl (cut_into source [] ts refl) (cut_into source (since ++ t ∷ []) ts)
  where
    by : (b : Bool) → is_stop t.kind ≡ b → IsCutInto source ts (cut source [] ts)
        → (no_stops (since ++ t ∷ []) ≡ true
        → IsCutInto source ((since ++ t ∷ []) ++ ts) (cut source (since ++ t ∷ []) ts))
        → IsCutInto source (since ++ t ∷ ts)
        (if b then prepend (sentence source since t) (cut source [] ts)
        else cut source (since ++ t ∷ []) ts)
    by true s go on = after_stop source since t ts h s (cut source [] ts) go
    by false s go on =
        subst (λ x. IsCutInto source x (cut source (since ++ t ∷ []) ts))
        (append_assoc since (t ∷ []) ts) (on (one_more since t h s))

-- ---- from what is said to the cut

-- tokens that are no stops are gathered
gathered : (source : List ℕ) (since xs ts : List Lexeme) → no_stops xs ≡ true
    → cut source since (xs ++ ts) ≡ cut source (since ++ xs) ts
gathered source since [] ts h = ap (λ x. cut source x ts) (sym (append-nil since))
gathered source since (x ∷ xs) ts h =
    let parts = and_parts (not (is_stop x.kind)) (no_stops xs) h in
    let other : is_stop x.kind ≡ false = not-true _ parts.0 in
    rw other (gathered source (since ++ x ∷ []) xs ts parts.1
    ∙ ap (λ y. cut source y ts) (append_assoc since (x ∷ []) xs))

pub sentences_cut : (source : List ℕ) (ss : List Line) (ts after : List Lexeme)
    → AreCut source ss ts → cut source [] (ts ++ after) ≡ joined ss (cut source [] after)
sentences_cut source _ _ after empty = by (cut source [] after)
  where
    by : (r : Result (List Line) LexFault) → r ≡ joined [] r
    by (Ok ss) = refl
    by (Err e) = refl
sentences_cut source _ _ after (stopped s stop ss ts h e line c) =
    let more = sentences_cut source ss ts after c in
    let made : ℕ → Line = λ n. record { tokens = s.tokens; line = n } in
    ap (cut source []) (append_assoc s.tokens (stop ∷ ts) after)
    ∙ (gathered source [] s.tokens (stop ∷ (ts ++ after)) h
    ∙ (at_stop
    ∙ (ap (λ n. prepend (made n) (cut source [] (ts ++ after))) (sym line)
    ∙ (ap (prepend s) more ∙ by (cut source [] after)))))
  where
    at_stop : cut source s.tokens (stop ∷ (ts ++ after))
        ≡ prepend (sentence source s.tokens stop) (cut source [] (ts ++ after))
    at_stop = rw e refl

    by : (r : Result (List Line) LexFault) → prepend s (joined ss r) ≡ joined (s ∷ ss) r
    by (Ok xs) = refl
    by (Err x) = refl

pub all_cut : (source : List ℕ) (ss : List Line) (ts : List Lexeme) → AreCut source ss ts
    → cut source [] ts ≡ Ok ss
all_cut source ss ts c =
    ap (cut source []) (sym (append-nil ts))
    ∙ (sentences_cut source ss ts [] c ∙ ap Ok (append-nil ss))

pub cut_open : (source : List ℕ) (ss : List Line) (ts : List Lexeme) (first : Lexeme)
    (others : List Lexeme) → AreCut source ss ts → no_stops (first ∷ others) ≡ true
    → cut source [] (ts ++ first ∷ others) ≡ Err (f.NoStop first.from)
cut_open source ss ts first others c h =
    let rest : cut source [] ((first ∷ others) ++ []) ≡ Err (f.NoStop first.from) =
    gathered source [] (first ∷ others) [] h in
    let whole = ap (cut source []) (sym (append-nil (first ∷ others))) ∙ rest in
    sentences_cut source ss ts (first ∷ others) c ∙ ap (joined ss) whole
