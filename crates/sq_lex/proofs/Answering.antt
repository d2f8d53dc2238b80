-- A source is read as what stands in it.
use Rattle.std.proofs.Common.{◌≡◌, ◌≢◌, ◌⊎◌, ◌↔◌, ℕ, zero, suc, ◌<◌, ◌≤◌, Bool, true, false, List}
use Rattle.std.proofs.Common.{[], ◌∷◌, ◌++◌, Result, Ok, Err, length, take, drop, map, refl, ap}
use Rattle.std.proofs.Common.{◌∙◌, sym, subst, arith, inl, inr}
use Rattle.std.specs.Prelude.{if◌then◌else◌}
use Rattle.std.specs.Result.{IfOk, IfErr}
use Rattle.std.specs.Str.{IsUtf8, IsValidUpTo, is_utf8}
use Rattle.std.specs.Str.Lossy.{utf8_valid_len, valid_len_up_to}
use Rattle.std.proofs.lemmas.Bool.{cases_lt}
use Rattle.std.proofs.lemmas.List.{take_all, drop_all}
use Rattle.std.proofs.lemmas.Str.{IsUtf8-from_is_utf8, is_utf8-from_IsUtf8, IsUtf8-nil}
use Rattle.std.proofs.lemmas.Str.{utf8_valid_len-IsValidUpTo}
use Rattle.sq_base.specs.Gives.{Gives}
use Rattle.sq_token.specs.declared.token.Sentence.{Sentence}
use Rattle.sq_lex.specs.declared.fault.LexFault.{LexFault}
use Rattle.sq_lex.specs.declared.fault.LexFault.TheVariants as f
use Rattle.sq_lex.specs.Lexemes.{Lexeme, Line, line_of}
use Rattle.sq_lex.specs.Lex.{lexemes, cut, cut_all, sentences}
use Rattle.sq_lex.specs.Standing.{IsReached}
use Rattle.sq_lex.specs.Faults.{IsOpenComment, IsWideNumber, IsFault}
use Rattle.sq_lex.specs.Answers.{AreSentences, IsAnswer}
use Rattle.sq_lex.proofs.Causes.{open_piece, wide_piece, nothing_piece}
use Rattle.sq_lex.proofs.Cutting.{IsCutInto, cut_into, all_cut, cut_open}
use Rattle.sq_lex.proofs.Reading.{IsReadFrom, IsRefused, read, prepend_all, prepend_all-Ok}
use Rattle.sq_lex.proofs.Reading.{prepend_all-Err, tokens_read}
use Rattle.sq_lex.proofs.Steps.{at_open, at_wide, at_bad}

-- ---- where a source stops being UTF-8

longest_front : (bs : List ℕ) (m : ℕ)
    → IsUtf8 (take (valid_len_up_to bs m) bs)
    × ((k : ℕ) → valid_len_up_to bs m < k → k ≤ m → IsUtf8 (take k bs) → ⊥)
longest_front bs zero = (IsUtf8-nil, λ k above within. absurd (omega arith))
longest_front bs (suc m) = by (is_utf8 (take (suc m) bs)) refl (longest_front bs m)
  where
    IsLongest : ℕ → ℕ → Type 0
    IsLongest n most =
        IsUtf8 (take n bs) × ((k : ℕ) → n < k → k ≤ most → IsUtf8 (take k bs) → ⊥)

    above_all : is_utf8 (take (suc m) bs) ≡ false → IsLongest (valid_len_up_to bs m) m
        → (k : ℕ) → valid_len_up_to bs m < k → k ≤ suc m → IsUtf8 (take k bs)
        → (m < k) ⊎ (k ≤ m) → ⊥
    above_all e rest k above within u (inl top) =
        let same : k ≡ suc m = omega arith in
        let yes = is_utf8-from_IsUtf8 _ (subst (λ n. IsUtf8 (take n bs)) same u) in
        cc
    above_all e rest k above within u (inr low) = rest.1 k above low u

    by : (t : Bool) → is_utf8 (take (suc m) bs) ≡ t → IsLongest (valid_len_up_to bs m) m
        → IsLongest (if t then suc m else valid_len_up_to bs m) (suc m)
    by true e rest = (IsUtf8-from_is_utf8 _ e, λ k above within. absurd (omega arith))
    by false e rest =
        (rest.0, λ k above within u. above_all e rest k above within u (cases_lt m k))

valid_up_to : (bs : List ℕ) → is_utf8 bs ≡ false → IsValidUpTo bs (utf8_valid_len bs)
unfolding utf8_valid_len
valid_up_to bs e = record {
  short = short (cases_lt n (length bs));
  front = front.0;
  longest = λ m above u. longer m above u (cases_lt (length bs) m);
}
  where
    n : ℕ
    n = valid_len_up_to bs (length bs)

    front : IsUtf8 (take n bs) × ((k : ℕ) → n < k → k ≤ length bs → IsUtf8 (take k bs) → ⊥)
    front = longest_front bs (length bs)

    whole : (m : ℕ) → length bs ≤ m → IsUtf8 (take m bs) → ⊥
    whole m le u =
        let yes = is_utf8-from_IsUtf8 bs (subst IsUtf8 (take_all m bs le) u) in
        cc

    short : (n < length bs) ⊎ (length bs ≤ n) → n < length bs
    short (inl less) = less
    short (inr le) = absurd (whole n le front.0)

    longer : (m : ℕ) → n < m → IsUtf8 (take m bs) → (length bs < m) ⊎ (m ≤ length bs) → ⊥
    longer m above u (inl past) = whole m (omega arith) u
    longer m above u (inr within) = front.1 m above within u

not_utf8 : (bs : List ℕ) (n : ℕ) → IsValidUpTo bs n → is_utf8 bs ≡ false
not_utf8 bs n h = by (is_utf8 bs) refl
  where
    by : (t : Bool) → is_utf8 bs ≡ t → t ≡ false
    by true e =
        let same = take_all (length bs) bs (omega arith) in
        absurd (h.longest (length bs) h.short (subst IsUtf8 (sym same) (IsUtf8-from_is_utf8 bs e)))
    by false e = refl

-- ---- what is read is what stands

refused : (source : List ℕ) (e : LexFault) → IsUtf8 source → IsRefused source 0 source e
    → IsFault source e
refused source (f.BadChar at) u h =
    record { tokens = h.tokens; reached = record { utf8 = u; stands = h.stands }; cause = h.cause }
refused source (f.OpenComment at) u h =
    record { tokens = h.tokens; reached = record { utf8 = u; stands = h.stands }; cause = h.cause }
refused source (f.NumberWide at) u h =
    record { tokens = h.tokens; reached = record { utf8 = u; stands = h.stands }; cause = h.cause }
refused source (f.NotUtf8 at) u h = absurd h.cause
refused source (f.NoStop at) u h = absurd h.cause
refused source f.NoMemory u h = absurd h.cause

unstopped : (source : List ℕ) (ts : List Lexeme) → IsReached source (length source) ts
    → (r : Result (List Line) LexFault) → IsCutInto source ts r → IsAnswer source r
unstopped source ts reached (Ok ss) c = record { tokens = ts; reached = reached; are_cut = c }
unstopped source ts reached (Err (f.NoStop at)) u = record {
  cut = u.cut;
  first = u.first;
  others = u.others;
  sentences = u.sentences;
  reached = subst (IsReached source (length source)) u.parts reached;
  are_cut = u.are_cut;
  no_stop = u.no_stop;
  place = u.place;
}
unstopped source ts reached (Err (f.NotUtf8 n)) u = absurd u
unstopped source ts reached (Err (f.BadChar n)) u = absurd u
unstopped source ts reached (Err (f.OpenComment n)) u = absurd u
unstopped source ts reached (Err (f.NumberWide n)) u = absurd u
unstopped source ts reached (Err f.NoMemory) u = absurd u

text_answer : (source : List ℕ) → IsUtf8 source → (r : Result (List Lexeme) LexFault)
    → IsReadFrom source 0 source r → IsAnswer source (cut_all source [] r)
text_answer source u (Ok ts) h =
    unstopped source ts (record { utf8 = u; stands = h }) (cut source [] ts)
    (cut_into source [] ts refl)
text_answer source u (Err e) h = refused source e u h

pub answer_stands : (source : List ℕ) → IsAnswer source (sentences source)
answer_stands source = by (is_utf8 source) refl
  where
    by : (t : Bool) → is_utf8 source ≡ t
        → IsAnswer source (if t then cut_all source [] (lexemes 0 0 source)
        else Err (f.NotUtf8 (utf8_valid_len source)))
    by true e =
        let u = IsUtf8-from_is_utf8 source e in
        text_answer source u (lexemes 0 0 source)
        (read source (length source) 0 source (omega arith) u refl (omega arith))
    by false e = valid_up_to source e

-- ---- what stands is read

by_utf8 : List ℕ → Bool → Result (List Line) LexFault
by_utf8 source utf8 =
    if utf8 then cut_all source [] (lexemes 0 0 source)
    else Err (f.NotUtf8 (utf8_valid_len source))

text_read : (source : List ℕ) → IsUtf8 source
    → sentences source ≡ cut_all source [] (lexemes 0 0 source)
unfolding by_utf8
text_read source u =
    ap (by_utf8 source) (is_utf8-from_IsUtf8 source u)

whole_read : (source : List ℕ) (ts : List Lexeme) → IsReached source (length source) ts
    → sentences source ≡ cut source [] ts
whole_read source ts h =
    let end : drop (length source) source ≡ [] = drop_all (length source) source (omega arith) in
    let found = tokens_read (length source) _ 0 ts source h.stands h.utf8 in
    let none = ap (λ r. prepend_all ts (lexemes 0 (length source) r)) end ∙ prepend_all-Ok ts in
    text_read source h.utf8 ∙ ap (cut_all source []) (found.0 ∙ none)

-- what is refused behind the tokens refuses the source
fault_read : (source : List ℕ) (at : ℕ) (ts : List Lexeme) (e : LexFault) → IsReached source at ts
    → (IsUtf8 (drop at source) → lexemes 0 at (drop at source) ≡ Err e)
    → sentences source ≡ Err e
fault_read source at ts e h refuses =
    let found = tokens_read at (drop at source) 0 ts source h.stands h.utf8 in
    let behind = ap (prepend_all ts) (refuses found.1) ∙ prepend_all-Err ts e in
    text_read source h.utf8 ∙ ap (cut_all source []) (found.0 ∙ behind)

begins_some : (text : List ℕ) → IsOpenComment text → 0 < length text
begins_some [] h = let no = h.begins in cc
begins_some (b ∷ bs) h = omega arith

wide_some : (text : List ℕ) → IsWideNumber text → 0 < length text
wide_some [] h = let no = wide_piece [] h in cc
wide_some (b ∷ bs) h = omega arith

fault_answers : (source : List ℕ) (e : LexFault) → IsFault source e → sentences source ≡ Err e
unfolding by_utf8
fault_answers source (f.NotUtf8 n) h =
    ap (by_utf8 source) (not_utf8 source n h)
    ∙ ap (λ k. Err (f.NotUtf8 k)) (utf8_valid_len-IsValidUpTo source n h)
fault_answers source (f.BadChar at) h =
    fault_read source at h.tokens (f.BadChar at) h.reached
    (λ u. let read = nothing_piece (drop at source) u h.cause in
    at_bad at (drop at source) h.cause.there (sym read))
fault_answers source (f.OpenComment at) h =
    fault_read source at h.tokens (f.OpenComment at) h.reached
    (λ u. let read = open_piece (drop at source) h.cause in
    at_open at (drop at source) (begins_some _ h.cause) (sym read))
fault_answers source (f.NumberWide at) h =
    fault_read source at h.tokens (f.NumberWide at) h.reached
    (λ u. let read = wide_piece (drop at source) h.cause in
    at_wide at (drop at source) (wide_some _ h.cause) (sym read))
fault_answers source (f.NoStop at) h =
    whole_read source (h.cut ++ h.first ∷ h.others) h.reached
    ∙ (cut_open source h.sentences h.cut h.first h.others h.are_cut h.no_stop
    ∙ ap (λ k. Err (f.NoStop k)) (sym h.place))
fault_answers source f.NoMemory h = absurd h

pub stands_answer : (source : List ℕ) (answer : Result (List Line) LexFault)
    → IsAnswer source answer → sentences source ≡ answer
stands_answer source (Ok ss) h =
    whole_read source h.tokens h.reached ∙ all_cut source ss h.tokens h.are_cut
stands_answer source (Err e) h = fault_answers source e h

pub answered : (source : List ℕ) (answer : Result (List Line) LexFault)
    → (sentences source ≡ answer) ↔ IsAnswer source answer
answered source answer =
    (λ e. subst (IsAnswer source) e (answer_stands source), stands_answer source answer)

-- what is read of a text is an answer
pub found_answers : (source text : List ℕ) → text ≡ source → IsUtf8 source
    → (r : Result (List Sentence) LexFault)
    → Gives f.NoMemory (map line_of) r (cut_all text [] (lexemes 0 0 text))
    → IfOk r (λ found. AreSentences source (map line_of found))
    × IfErr r (λ e. e ≢ f.NoMemory → IsFault source e)
found_answers source text e u r g = by r g
  where
    same : sentences source ≡ cut_all text [] (lexemes 0 0 text)
    same = text_read source u ∙ ap (λ t. cut_all t [] (lexemes 0 0 t)) (sym e)

    by : (r : Result (List Sentence) LexFault)
        → Gives f.NoMemory (map line_of) r (cut_all text [] (lexemes 0 0 text))
        → IfOk r (λ found. AreSentences source (map line_of found))
        × IfErr r (λ e. e ≢ f.NoMemory → IsFault source e)
    by (Ok found) h = (subst (IsAnswer source) (same ∙ h) (answer_stands source), tt)
    by (Err e) h = (tt, λ other. subst (IsAnswer source) (same ∙ h other) (answer_stands source))
