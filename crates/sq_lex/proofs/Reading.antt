-- The tokens that are read of a text are those that stand in it.
use Rattle.std.proofs.Common.{◌≡◌, ℕ, zero, suc, ◌+◌, ◌≤◌, true, List, [], ◌∷◌, ◌++◌, Some, Result}
use Rattle.std.proofs.Common.{Ok, Err, length, take, drop, slice_index, refl, ap, ◌∙◌, sym, subst}
use Rattle.std.proofs.Common.{arith, length-append}
use Rattle.std.specs.Str.{IsUtf8, IsCharBoundary}
use Rattle.std.proofs.lemmas.List.{take-append-drop, append_assoc, append-nil, length-take-le}
use Rattle.std.proofs.lemmas.List.{length-drop, drop-drop, drop_all}
use Rattle.std.proofs.lemmas.Str.{IsUtf8-drop}
use Rattle.std.proofs.Math.Seq.{take-append_seam, drop-append_seam}
use Rattle.sq_token.specs.declared.kind.TokenKind.{TokenKind}
use Rattle.sq_lex.specs.declared.fault.LexFault.{LexFault}
use Rattle.sq_lex.specs.declared.fault.LexFault.TheVariants as f
use Rattle.sq_lex.specs.declared.piece.Piece.{Piece}
use Rattle.sq_lex.specs.declared.piece.Piece.TheVariants as p
use Rattle.sq_lex.specs.Characters.{opens}
use Rattle.sq_lex.specs.Lexemes.{Lexeme}
use Rattle.sq_lex.specs.Pieces.{comment_len, commented, piece}
use Rattle.sq_lex.specs.Lex.{lexeme, lexemes, prepend}
use Rattle.sq_lex.specs.Standing.{IsSpacing, none, blank, comment, IsToken, Stands, done, next}
use Rattle.sq_lex.specs.Faults.{BeginsNothing, IsOpenComment, IsWideNumber}
use Rattle.sq_lex.proofs.Causes.{open_comment, wide_number, nothing}
use Rattle.sq_lex.proofs.Comments.{closed_len, comment_closed}
use Rattle.sq_lex.proofs.FirstBytes.{opening_bytes}
use Rattle.sq_lex.proofs.Fits.{IsFit, piece_fits}
use Rattle.sq_lex.proofs.Fronts
use Rattle.sq_lex.proofs.Steps.{at_open, at_wide, at_bad, spacing_step, token_step}
use Rattle.sq_lex.proofs.Tokens.{token_read, token_stands}

-- ---- from what is read to what stands

spacing_append : (xs ys : List ℕ) → IsSpacing xs → IsSpacing ys → IsSpacing (xs ++ ys)
spacing_append _ ys none h = h
spacing_append _ ys (blank b bs e s) h = blank b (bs ++ ys) e (spacing_append bs ys s h)
spacing_append _ ys (comment inside bs e s) h =
    subst (λ t. IsSpacing (40 ∷ 42 ∷ t)) (sym (append_assoc inside bs ys))
    (comment inside (bs ++ ys) e (spacing_append bs ys s h))

comment_spacing : (b n : ℕ) (bs : List ℕ) → opens b (slice_index bs 0) ≡ true
    → comment_len 0 2 (drop 1 bs) ≡ Some n → IsSpacing (take n (b ∷ bs))
comment_spacing b n [] e f =
    let star = (opening_bytes b (slice_index [] 0) e).1 in
    absurd (omega (arith, star))
comment_spacing b n (c ∷ cs) e f =
    let r = comment_closed 0 2 cs n f in
    let bytes = opening_bytes b c e in
    let len : n ≡ suc (suc (suc r.before)) = omega (arith, r.len) in
    let inside = take (suc r.before) cs in
    let whole : IsSpacing (40 ∷ 42 ∷ inside) =
    subst (λ t. IsSpacing (40 ∷ 42 ∷ t)) (append-nil inside) (comment inside [] r.closes none) in
    rw (len, bytes.0, bytes.1) whole

-- the piece that is passed over is spacing
spacing_piece : (bs : List ℕ) (n : ℕ) → p.Spacing n ≡ piece bs → IsSpacing (take n bs)
spacing_piece [] n e = cc
spacing_piece (b ∷ bs) n e = by n (subst (Fronts.Front b bs) (sym e) (Fronts.front b bs))
  where
    by : (n : ℕ) → Fronts.Front b bs (p.Spacing n) → IsSpacing (take n (b ∷ bs))
    by _ (Fronts.blank f) = blank b [] f none
    by _ (Fronts.comment n f g) = comment_spacing b n bs f g

-- spacing in front of what stands
spaced : (end : ℕ) (rest : List ℕ) (at : ℕ) (ts : List Lexeme) (gap bs : List ℕ) → IsSpacing gap
    → Stands end rest (at + length gap) ts bs → Stands end rest at ts (gap ++ bs)
spaced end rest at _ gap _ h (done _ more s e) =
    let place : end ≡ at + length (gap ++ more) = omega (arith, e, length-append gap more) in
    subst (Stands end rest at []) (append_assoc gap more rest)
    (done at (gap ++ more) (spacing_append gap more h s) place)
spaced end rest at _ gap _ h (next _ more t ts after s from is stands) =
    let place : t.from ≡ at + length (gap ++ more) = omega (arith, from, length-append gap more) in
    subst (Stands end rest at (t ∷ ts)) (append_assoc gap more (t.text ++ after))
    (next at (gap ++ more) t ts after (spacing_append gap more h s) place is stands)

-- the place of a fault of the text, and what is wrong there
abbrev pub place_of : LexFault → ℕ
place_of (f.BadChar at) = at
place_of (f.OpenComment at) = at
place_of (f.NumberWide at) = at
place_of _ = 0

abbrev pub cause_of : LexFault → List ℕ → Type 0
cause_of (f.BadChar at) = BeginsNothing
cause_of (f.OpenComment at) = IsOpenComment
cause_of (f.NumberWide at) = IsWideNumber
cause_of _ = λ _. ⊥

-- from this place on, the text is tokens up to the place of the fault
pub record IsRefused (source : List ℕ) (at : ℕ) (text : List ℕ) (e : LexFault) : Type 0 where
  pub tokens : List Lexeme
  pub stands : Stands (place_of e) (drop (place_of e) source) at tokens text
  pub cause : cause_of e (drop (place_of e) source)

abbrev pub IsReadFrom : List ℕ → ℕ → List ℕ → Result (List Lexeme) LexFault → Type 0
IsReadFrom source at text (Ok ts) = Stands (length source) (drop (length source) source) at ts text
IsReadFrom source at text (Err e) = IsRefused source at text e

module _ (source : List ℕ) (at n : ℕ) (text : List ℕ) where
  after_spacing : IsSpacing (take n text) → length (take n text) ≡ n
      → (r : Result (List Lexeme) LexFault) → IsReadFrom source (at + n) (drop n text) r
      → IsReadFrom source at text r
  after_spacing s len r h = by r h
    where
      moved : (end : ℕ) (rest : List ℕ) (ts : List Lexeme)
          → Stands end rest (at + n) ts (drop n text) → Stands end rest at ts text
      moved end rest ts stands =
          subst (Stands end rest at ts) (take-append-drop n text)
          (spaced end rest at ts (take n text) (drop n text) s
          (subst (λ m. Stands end rest (at + m) ts (drop n text)) (sym len) stands))

      by : (r : Result (List Lexeme) LexFault) → IsReadFrom source (at + n) (drop n text) r
          → IsReadFrom source at text r
      by (Ok ts) g = moved _ _ ts g
      by (Err e) g =
          record { tokens = g.tokens; stands = moved _ _ g.tokens g.stands; cause = g.cause }

  after_token : (k : TokenKind) → IsToken (lexeme k n at text) (drop n text)
      → (r : Result (List Lexeme) LexFault) → IsReadFrom source (at + n) (drop n text) r
      → IsReadFrom source at text (prepend (lexeme k n at text) r)
  after_token k is r h = by r h
    where
      moved : (end : ℕ) (rest : List ℕ) (ts : List Lexeme)
          → Stands end rest (at + n) ts (drop n text)
          → Stands end rest at (lexeme k n at text ∷ ts) text
      moved end rest ts stands =
          subst (Stands end rest at (lexeme k n at text ∷ ts)) (take-append-drop n text)
          (next at [] (lexeme k n at text) ts (drop n text) none (omega arith) is stands)

      by : (r : Result (List Lexeme) LexFault) → IsReadFrom source (at + n) (drop n text) r
          → IsReadFrom source at text (prepend (lexeme k n at text) r)
      by (Ok ts) g = moved _ _ ts g
      by (Err e) g = record {
        tokens = lexeme k n at text ∷ g.tokens;
        stands = moved _ _ g.tokens g.stands;
        cause = g.cause;
      }

pub read : (source : List ℕ) (fuel at : ℕ) (text : List ℕ) → length text ≤ fuel → IsUtf8 text
    → text ≡ drop at source → at + length text ≡ length source
    → IsReadFrom source at text (lexemes 0 at text)
read source fuel at [] le u d l =
    let end : drop (length source) source ≡ [] = drop_all (length source) source (omega arith) in
    subst (Stands (length source) (drop (length source) source) at []) end
    (done at [] none (omega arith))
read source zero at (b ∷ bs) le u d l = absurd (omega arith)
read source (suc fuel) at (b ∷ bs) le u d l =
    by (piece (b ∷ bs)) refl (piece_fits (b ∷ bs) u)
    (λ n. read source fuel (at + n) (drop n (b ∷ bs)))
  where
    IsReadBehind : ℕ → Type 0
    IsReadBehind n =
        IsReadFrom source (at + n) (drop n (b ∷ bs)) (lexemes 0 (at + n) (drop n (b ∷ bs)))

    Later : ℕ → Type 0
    Later n = length (drop n (b ∷ bs)) ≤ fuel → IsUtf8 (drop n (b ∷ bs))
        → drop n (b ∷ bs) ≡ drop (at + n) source
        → at + n + length (drop n (b ∷ bs)) ≡ length source → IsReadBehind n

    later : (n : ℕ) → 1 ≤ n → IsCharBoundary (b ∷ bs) n → Later n → IsReadBehind n
    later n some boundary go =
        let len = length-drop n (b ∷ bs) in
        go (omega (arith, le, len)) (IsUtf8-drop (b ∷ bs) n u boundary)
        (ap (drop n) d ∙ drop-drop n at source) (omega (arith, l, len, boundary.0))

    here : Stands at (drop at source) at [] (b ∷ bs)
    here = subst (λ r. Stands at r at [] (b ∷ bs)) d (done at [] none (omega arith))

    refused : (e : LexFault) → place_of e ≡ at → cause_of e (b ∷ bs) → lexemes 0 at (b ∷ bs) ≡ Err e
        → IsReadFrom source at (b ∷ bs) (lexemes 0 at (b ∷ bs))
    refused e place cause is =
        let whole : IsRefused source at (b ∷ bs) e = record {
          tokens = [];
          stands = rw place here;
          cause = rw (place, ← d) cause;
        } in
        subst (IsReadFrom source at (b ∷ bs)) (sym is) whole

    by : (q : Piece) → q ≡ piece (b ∷ bs) → IsFit q (b ∷ bs) → ((n : ℕ) → Later n)
        → IsReadFrom source at (b ∷ bs) (lexemes 0 at (b ∷ bs))
    by (p.Spacing n) q fit go =
        let len = length-take-le n (b ∷ bs) fit.1.0 in
        let step = spacing_step at n (b ∷ bs) _ u q refl in
        subst (IsReadFrom source at (b ∷ bs)) (sym step.0)
        (after_spacing source at n (b ∷ bs) (spacing_piece (b ∷ bs) n q) len _
        (later n fit.0 fit.1 (go n)))
    by (p.Token k n) q fit go =
        let step = token_step at n k (b ∷ bs) _ _ u q refl refl in
        subst (IsReadFrom source at (b ∷ bs)) (sym step.0)
        (after_token source at n (b ∷ bs) k (token_stands k n at (b ∷ bs) u q) _
        (later n fit.0 fit.1 (go n)))
    by p.OpenComment q fit go =
        refused (f.OpenComment at) refl (open_comment b bs q) (at_open at (b ∷ bs) (omega arith) q)
    by p.Wide q fit go =
        refused (f.NumberWide at) refl (wide_number b bs q) (at_wide at (b ∷ bs) (omega arith) q)
    by p.Bad q fit go =
        refused (f.BadChar at) refl (nothing b bs q) (at_bad at (b ∷ bs) (omega arith) q)

-- ---- from what stands to what is read

-- blanks and comments are passed over
gap_read : (at : ℕ) (gap text : List ℕ) → IsSpacing gap → IsUtf8 (gap ++ text)
    → (lexemes 0 at (gap ++ text) ≡ lexemes 0 (at + length gap) text) × IsUtf8 text
gap_read at _ text none u =
    let place : at ≡ at + 0 = omega arith in
    (ap (λ k. lexemes 0 k text) place, u)
gap_read at _ text (blank b bs e s) u =
    let read = Fronts.blank_piece b (bs ++ text) e in
    let first = spacing_step at 1 (b ∷ (bs ++ text)) (bs ++ text) u (sym read) refl in
    let more = gap_read (at + 1) bs text s first.1 in
    let place : at + 1 + length bs ≡ at + length (b ∷ bs) = omega arith in
    (first.0 ∙ (more.0 ∙ ap (λ k. lexemes 0 k text) place), more.1)
gap_read at _ text (comment inside bs c s) u =
    let front : List ℕ = 40 ∷ 42 ∷ inside in
    let assoc : 40 ∷ 42 ∷ ((inside ++ bs) ++ text) ≡ front ++ (bs ++ text) =
    ap (λ t. 40 ∷ 42 ∷ t) (append_assoc inside bs text) in
    let long : 2 + length inside ≡ length front = omega arith in
    let len : comment_len 0 2 (inside ++ (bs ++ text)) ≡ Some (length front) =
    closed_len 0 2 inside (bs ++ text) c ∙ ap Some long in
    let read : piece (front ++ (bs ++ text)) ≡ p.Spacing (length front) =
    Fronts.comment_piece 40 (42 ∷ (inside ++ (bs ++ text))) refl ∙ ap commented len in
    let behind = sym (drop-append_seam front (bs ++ text)) in
    let utf8 = subst IsUtf8 assoc u in
    let first = spacing_step at (length front) _ (bs ++ text) utf8 (sym read) behind in
    let more = gap_read (at + length front) bs text s first.1 in
    let place : at + length front + length bs ≡ at + length (40 ∷ 42 ∷ (inside ++ bs)) =
    omega (arith, length-append inside bs) in (
      ap (lexemes 0 at) assoc ∙ (first.0 ∙ (more.0 ∙ ap (λ k. lexemes 0 k text) place)),
      more.1,
    )

-- these tokens, and what is read behind them
abbrev pub prepend_all : List Lexeme → Result (List Lexeme) LexFault → Result (List Lexeme) LexFault
prepend_all [] r = r
prepend_all (t ∷ ts) r = prepend t (prepend_all ts r)

pub prepend_all-Ok : (ts : List Lexeme) → prepend_all ts (Ok []) ≡ Ok ts
prepend_all-Ok [] = refl
prepend_all-Ok (t ∷ ts) = ap (prepend t) (prepend_all-Ok ts)

pub prepend_all-Err : (ts : List Lexeme) (e : LexFault) → prepend_all ts (Err e) ≡ Err e
prepend_all-Err [] e = refl
prepend_all-Err (t ∷ ts) e = ap (prepend t) (prepend_all-Err ts e)

pub tokens_read : (end : ℕ) (rest : List ℕ) (at : ℕ) (ts : List Lexeme) (text : List ℕ)
    → Stands end rest at ts text → IsUtf8 text
    → (lexemes 0 at text ≡ prepend_all ts (lexemes 0 end rest)) × IsUtf8 rest
tokens_read end rest at _ _ (done _ gap s e) u =
    let r = gap_read at gap rest s u in
    (r.0 ∙ ap (λ k. lexemes 0 k rest) (sym e), r.1)
tokens_read end rest at _ _ (next _ gap t ts after s from is more) u =
    let start = at + length gap in
    let len = length t.text in
    let before = gap_read at gap (t.text ++ after) s u in
    let read = sym (token_read t after before.1 is) in
    let text = sym (take-append_seam t.text after) in
    let behind = sym (drop-append_seam t.text after) in
    let first = token_step start len t.kind _ t.text after before.1 read text behind in
    let others = tokens_read end rest t.to ts after more first.1 in
    let place : start + len ≡ t.to = omega (arith, from, is.end) in
    let made : ℕ → ℕ → Lexeme =
    λ a b. record { kind = t.kind; text = t.text; from = a; to = b } in (
      before.0
          ∙ (first.0
          ∙ (ap (λ a. prepend (made a (start + len)) (lexemes 0 (start + len) after)) (sym from)
          ∙ (ap (λ b. prepend (made t.from b) (lexemes 0 b after)) place
          ∙ ap (prepend t) others.0))),
      others.1,
    )
