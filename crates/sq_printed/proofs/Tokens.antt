-- A token at the front of a text is read as it stands, where what follows does not prolong it.
use Rattle.std.proofs.Common.{◌≡◌, ◌≢◌, ℕ, ◌+◌, ◌<◌, Bool, true, false, ◌&&◌, ◌==◌, nat_eq, nat_lt}
use Rattle.std.proofs.Common.{if◌then◌else◌, List, [], ◌∷◌, ◌++◌, map, Option, Some, None, Result}
use Rattle.std.proofs.Common.{Ok, Err}
use Rattle.std.proofs.Common.{is_none, length, drop, slice_index, refl, ap, ◌∙◌, sym, arith}
use Rattle.std.proofs.Common.{encode_utf8, encode_utf8_all, length-append}
use Rattle.std.specs.Bool.{⊤}
use Rattle.std.specs.List.{prefix_len, list_all}
use Rattle.std.specs.Char.{is_ascii_digit, is_ascii_alphabetic}
use Rattle.std.specs.Str.{chars, IsUtf8, is_utf8}
use Rattle.std.proofs.lemmas.Str.{chars-append, encodes-chars, length-encode, IsUtf8-from_is_utf8}
use Rattle.std.proofs.lemmas.Str.{IsUtf8-from_ascii, chars-nil}
use Rattle.std.proofs.lemmas.Bool.Decides.{nat_tests}
use Rattle.std.proofs.Math.Seq.{take-append_seam}
use Rattle.unicode_ident.specs.Ident.{is_xid_continue}
use Rattle.unicode_ident.proofs.Computing.{unicode_ident}
use Rattle.unicode_ident.proofs.IdentLemmas.{is_xid_start-ascii}
use Rattle.sq_token.specs.declared.kind.Reserved.{Reserved}
use Rattle.sq_token.specs.declared.kind.Reserved.TheVariants as r
use Rattle.sq_token.specs.declared.kind.Punctuation.{Punctuation}
use Rattle.sq_token.specs.declared.kind.Punctuation.TheVariants as m
use Rattle.sq_token.specs.declared.kind.TokenKind.{TokenKind}
use Rattle.sq_token.specs.declared.kind.TokenKind.TheVariants as kind
use Rattle.sq_token.specs.Kinds.{is_start, is_name, IsIdentifier, reserved_of, reserved_text}
use Rattle.sq_token.specs.Kinds.{punctuation_text}
use Rattle.sq_token.specs.Sign.{Sign, sign, word, reserved, mark}
use Rattle.sq_token.proofs.Words.{found_by_text}
use Rattle.sq_lex.specs.declared.fault.LexFault.{LexFault}
use Rattle.sq_lex.specs.declared.piece.Piece.TheVariants.{Spacing, Token}
use Rattle.sq_lex.specs.Pieces as pieces
use Rattle.sq_lex.specs.Characters.{is_blank, opens}
use Rattle.sq_lex.specs.Pieces.{comment_len, commented, continued, name_len, word_kind, digits}
use Rattle.sq_lex.specs.Pieces.{symbol_at, symbol, piece}
use Rattle.sq_lex.specs.Lexemes.{Lexeme}
use Rattle.sq_lex.specs.Lex.{lexeme, lexemes, prepend}
use Rattle.std.proofs.lemmas.Bool.{and_parts}
use Rattle.sq_lex.proofs.Symbols.{ascii}
use Rattle.sq_lex.proofs.Steps.{at_token}
use Rattle.sq_printed.specs.Reads.{sign_at, signs_read, IsRead}

-- ---- a token and what follows

drop_seam : (xs ys : List ℕ) → drop (length xs) (xs ++ ys) ≡ ys
drop_seam [] ys = refl
drop_seam (x ∷ xs) ys = drop_seam xs ys

prepended : (l : Lexeme) (found : Result (List Lexeme) LexFault) (ss : List Sign)
    → signs_read found ≡ Some ss → signs_read (prepend l found) ≡ Some (sign_at l ∷ ss)
prepended l (Ok ls) ss e = let same : map sign_at ls ≡ ss =
    cc in ap (λ x. Some (sign_at l ∷ x)) same
prepended l (Err f) ss e = cc

-- the token of this kind and text, in front of what is read
pub token_first : (k : TokenKind) (text rest : List ℕ) (ss : List Sign) → 0 < length text
    → piece (text ++ rest) ≡ Token k (length text) → IsRead rest ss
    → IsRead (text ++ rest) (sign k text ∷ ss)
token_first k text rest ss some e read at =
    let all = length-append text rest in
    let behind : signs_read (lexemes 0 (at + length text) (drop (length text) (text ++ rest)))
    ≡ Some ss = ap (λ x. signs_read (lexemes 0 (at + length text) x)) (drop_seam text rest)
    ∙ read (at + length text) in
    ap signs_read
    (at_token at k (length text) (text ++ rest) (omega (arith, all)) (sym e) (omega arith)
    (omega (arith, all)))
    ∙ (prepended (lexeme k (length text) at (text ++ rest))
    (lexemes 0 (at + length text) (drop (length text) (text ++ rest))) ss behind
    ∙ ap (λ x. Some (sign k x ∷ ss)) (take-append_seam text rest))

pub space_first : (rest : List ℕ) (ss : List Sign) → IsRead rest ss → IsRead (32 ∷ rest) ss
space_first rest ss read at = read (at + 1)

pub nothing_left : IsRead [] []
nothing_left at = refl

pub moved : (xs ys : List ℕ) (ss ts : List Sign) → xs ≡ ys → ss ≡ ts → IsRead ys ts → IsRead xs ss
moved xs ys ss ts e d read at =
    ap (λ x. signs_read (lexemes 0 at x)) e ∙ (read at ∙ ap Some (sym d))

-- ---- first bytes

-- a byte below 128 is a character
ascii_first : (b : ℕ) (bs : List ℕ) → b < 128 → (cs : List ℕ) × (chars (b ∷ bs) ≡ b ∷ cs)
unfolding chars
ascii_first b bs h = let low : nat_lt b 128 ≡ true = grind (arith, nat_tests) in by bs low
  where
    by : (bs : List ℕ) → nat_lt b 128 ≡ true → (cs : List ℕ) × (chars (b ∷ bs) ≡ b ∷ cs)
    by [] low = ([], rw low refl)
    by (d ∷ ds) low = (chars (d ∷ ds), rw low refl)

no_start : (b : ℕ) → b < 128 → is_ascii_alphabetic b ≡ false → (b == 95) ≡ false
    → is_start b ≡ false
no_start b h a u = rw (is_xid_start-ascii b h, a, u) refl

name_none : (b : ℕ) (bs : List ℕ) → b < 128 → is_start b ≡ false → name_len (chars (b ∷ bs)) ≡ 0
name_none b bs h s = let first = ascii_first b bs h in rw (first.1, s) refl

blank_no_start : (b : ℕ) → is_blank b ≡ true → is_start b ≡ false
blank_no_start b e =
    no_start b (grind (arith, nat_tests)) (grind (arith, nat_tests)) (grind (arith, nat_tests))

open_no_start : (b c : ℕ) → opens b c ≡ true → is_start b ≡ false
open_no_start b c e =
    no_start b (grind (arith, nat_tests)) (grind (arith, nat_tests)) (grind (arith, nat_tests))

-- nothing, or a byte that goes on with no name
abbrev pub Ends : List ℕ → Type 0
Ends [] = ⊤
Ends (b ∷ bs) = (b < 128) × (is_xid_continue b ≡ false)

pub space_ends : (bs : List ℕ) → Ends (32 ∷ bs)
unfolding unicode_ident
space_ends bs = (omega arith, refl)

pub comma_ends : (bs : List ℕ) → Ends (44 ∷ bs)
unfolding unicode_ident
comma_ends bs = (omega arith, refl)

pub colon_ends : (bs : List ℕ) → Ends (58 ∷ bs)
unfolding unicode_ident
colon_ends bs = (omega arith, refl)

pub at_ends : (bs : List ℕ) → Ends (64 ∷ bs)
unfolding unicode_ident
at_ends bs = (omega arith, refl)

pub open_ends : (bs : List ℕ) → Ends (40 ∷ bs)
unfolding unicode_ident
open_ends bs = (omega arith, refl)

pub close_ends : (bs : List ℕ) → Ends (41 ∷ bs)
unfolding unicode_ident
close_ends bs = (omega arith, refl)

pub dot_ends : (bs : List ℕ) → Ends (46 ∷ bs)
unfolding unicode_ident
dot_ends bs = (omega arith, refl)

pub greater_ends : (bs : List ℕ) → Ends (62 ∷ bs)
unfolding unicode_ident
greater_ends bs = (omega arith, refl)

-- a byte that makes no other symbol or comment of a parenthesis or of `<` in front of it
abbrev pub Begins : List ℕ → Type 0
Begins [] = ⊥
Begins (b ∷ bs) = (b ≢ 42) × (b ≢ 45) × (b ≢ 61) × (b ≢ 62)

-- ---- words

-- a text that is written as a name, reserved or not
pub record IsWord (text : List ℕ) : Type 0 where
  pub utf8 : IsUtf8 text
  pub name : is_name (chars text) ≡ true

word_some : (text : List ℕ) → IsWord text → 0 < length text
word_some [] w = let e = w.name in let none : is_name (chars []) ≡ false = rw chars-nil refl in cc
word_some (b ∷ bs) w = omega arith

first_starts : (b : ℕ) (bs : List ℕ) → b < 128 → is_name (chars (b ∷ bs)) ≡ true → is_start b ≡ true
first_starts b bs h e =
    let first = ascii_first b bs h in
    let test : (is_start b && list_all is_xid_continue first.0) ≡ true =
    ap is_name (sym first.1) ∙ e in
    (and_parts (is_start b) (list_all is_xid_continue first.0) test).0

other_first : (m b : ℕ) (bs : List ℕ) → m < 128 → is_ascii_alphabetic m ≡ false → (m == 95) ≡ false
    → is_name (chars (b ∷ bs)) ≡ true → b ≢ m
other_first m b bs h a u e same =
    let starts : is_start m ≡ true =
    first_starts m bs h (ap (λ x. is_name (chars (x ∷ bs))) (sym same) ∙ e) in
    let none : is_start m ≡ false = no_start m h a u in
    cc

pub word_begins : (text rest : List ℕ) → IsWord text → Begins (text ++ rest)
word_begins [] rest w = let some = word_some [] w in absurd (omega arith)
word_begins (b ∷ bs) rest w = (
  other_first 42 b bs (omega arith) refl refl w.name,
  other_first 45 b bs (omega arith) refl refl w.name,
  other_first 61 b bs (omega arith) refl refl w.name,
  other_first 62 b bs (omega arith) refl refl w.name,
)

ends_none : (rest : List ℕ) → Ends rest → continued (chars rest) ≡ 0
ends_none [] h = rw chars-nil refl
ends_none (b ∷ bs) h = let first = ascii_first b bs h.0 in rw (first.1, h.1) refl

continued_exact : (xs ys : List ℕ) → list_all is_xid_continue xs ≡ true → continued ys ≡ 0
    → continued (xs ++ ys) ≡ length (encode_utf8_all xs)
continued_exact [] ys e h = h
continued_exact (x ∷ xs) ys e h =
    let parts = and_parts (is_xid_continue x) (list_all is_xid_continue xs) e in
    let rest = continued_exact xs ys parts.1 h in
    rw (parts.0)
    (omega (arith, rest, length-append (encode_utf8 x) (encode_utf8_all xs), length-encode x))

name_len_exact : (xs ys : List ℕ) → is_name xs ≡ true → continued ys ≡ 0
    → name_len (xs ++ ys) ≡ length (encode_utf8_all xs)
name_len_exact [] ys e h = cc
name_len_exact (x ∷ xs) ys e h =
    let parts = and_parts (is_start x) (list_all is_xid_continue xs) e in
    let rest = continued_exact xs ys parts.1 h in
    rw (parts.0)
    (omega (arith, rest, length-append (encode_utf8 x) (encode_utf8_all xs), length-encode x))

-- where a name of n bytes stands in front, it is the piece
name_piece : (n : ℕ) (bs : List ℕ) → 0 < n → name_len (chars bs) ≡ n → piece bs ≡ pieces.word n bs
name_piece n [] h e = let none : name_len (chars []) ≡ 0 = rw chars-nil refl in absurd (omega arith)
name_piece n (b ∷ bs) h e =
    by (is_blank b) (opens b (slice_index bs 0))
    (nat_lt 0 (name_len (chars (b ∷ bs)))) refl refl refl
  where
    none : b < 128 → is_start b ≡ false → ⊥
    none low s = let z = name_none b bs low s in absurd (omega arith)

    by : (t o s : Bool) → is_blank b ≡ t → opens b (slice_index bs 0) ≡ o
        → nat_lt 0 (name_len (chars (b ∷ bs))) ≡ s
        → (if t then Spacing 1 else if o then commented (comment_len 0 2 (drop 1 bs)) else if s
        then pieces.word (name_len (chars (b ∷ bs))) (b ∷ bs) else if is_ascii_digit b
        then digits (prefix_len is_ascii_digit (b ∷ bs)) (b ∷ bs)
        else symbol (symbol_at (b ∷ bs))) ≡ pieces.word n (b ∷ bs)
    by true o s f g k = absurd (none (grind (arith, nat_tests)) (blank_no_start b f))
    by false true s f g k =
        absurd (none (grind (arith, nat_tests)) (open_no_start b (slice_index bs 0) g))
    by false false true f g k = ap (λ x. pieces.word x (b ∷ bs)) e
    by false false false f g k = let no : ⊥ = grind (arith, nat_tests) in absurd no

word_piece : (text rest : List ℕ) → IsWord text → Ends rest
    → piece (text ++ rest) ≡ Token (word_kind (reserved_of text)) (length text)
word_piece text rest w h =
    let len : length (encode_utf8_all (chars text)) ≡ length text =
    ap length (encodes-chars text w.utf8) in
    let long : name_len (chars (text ++ rest)) ≡ length text =
    ap name_len (chars-append text rest w.utf8)
    ∙ (name_len_exact (chars text) (chars rest) w.name (ends_none rest h) ∙ len) in
    name_piece (length text) (text ++ rest) (word_some text w) long
    ∙ ap (λ x. Token (word_kind (reserved_of x)) (length text)) (take-append_seam text rest)

pub identifier_word : (text : List ℕ) → IsIdentifier text → IsWord text
identifier_word text e =
    let parts = and_parts (is_utf8 text && is_name (chars text)) (is_none (reserved_of text)) e in
    let front = and_parts (is_utf8 text) (is_name (chars text)) parts.0 in
    record { utf8 = IsUtf8-from_is_utf8 text front.0; name = front.1 }

identifier_kind : (text : List ℕ) → IsIdentifier text
    → word_kind (reserved_of text) ≡ kind.Identifier
identifier_kind text e =
    by (reserved_of text)
    (and_parts (is_utf8 text && is_name (chars text)) (is_none (reserved_of text)) e).1
  where
    by : (o : Option Reserved) → is_none o ≡ true → word_kind o ≡ kind.Identifier
    by None h = refl
    by (Some w) h = cc

pub word_first : (text rest : List ℕ) (ss : List Sign) → IsIdentifier text → Ends rest
    → IsRead rest ss → IsRead (text ++ rest) (word text ∷ ss)
word_first text rest ss e h read =
    let w = identifier_word text e in
    token_first kind.Identifier text rest ss (word_some text w)
    (word_piece text rest w h ∙ ap (λ k. Token k (length text)) (identifier_kind text e)) read

-- the reserved words that stand in formulas
abbrev pub IsUsed : Reserved → Type 0
IsUsed w = IsWord (reserved_text w)

ascii_word : (text : List ℕ) → list_all (λ b. nat_lt b 128) text ≡ true
    → is_name (chars text) ≡ true → IsWord text
ascii_word text a e = record { utf8 = IsUtf8-from_ascii text (ascii text a); name = e }

pub reserved_first : (w : Reserved) (rest : List ℕ) (ss : List Sign) → IsUsed w → Ends rest
    → IsRead rest ss → IsRead (reserved_text w ++ rest) (reserved w ∷ ss)
reserved_first w rest ss is h read =
    token_first (kind.Reserved w) (reserved_text w) rest ss (word_some (reserved_text w) is)
    (word_piece (reserved_text w) rest is h
    ∙ ap (λ o. Token (word_kind o) (length (reserved_text w))) (found_by_text w)) read

pub used : (w : Reserved) → IsUsed w
unfolding chars unicode_ident
used r.Hash = ascii_word (reserved_text r.Hash) refl refl
used r.Signature = ascii_word (reserved_text r.Signature) refl refl
used r.Name = ascii_word (reserved_text r.Name) refl refl
used r.Abstract = ascii_word (reserved_text r.Abstract) refl refl
used r.Channel = ascii_word (reserved_text r.Channel) refl refl
used r.Process = ascii_word (reserved_text r.Process) refl refl
used r.System = ascii_word (reserved_text r.System) refl refl
used r.Axiom = ascii_word (reserved_text r.Axiom) refl refl
used r.Lemma = ascii_word (reserved_text r.Lemma) refl refl
used r.Equiv = ascii_word (reserved_text r.Equiv) refl refl
used r.Diff = ascii_word (reserved_text r.Diff) refl refl
used r.Proof = ascii_word (reserved_text r.Proof) refl refl
used r.Qed = ascii_word (reserved_text r.Qed) refl refl
used r.Null = ascii_word (reserved_text r.Null) refl refl
used r.New = ascii_word (reserved_text r.New) refl refl
used r.In = ascii_word (reserved_text r.In) refl refl
used r.Out = ascii_word (reserved_text r.Out) refl refl
used r.If = ascii_word (reserved_text r.If) refl refl
used r.Then = ascii_word (reserved_text r.Then) refl refl
used r.Else = ascii_word (reserved_text r.Else) refl refl
used r.Find = ascii_word (reserved_text r.Find) refl refl
used r.Such = ascii_word (reserved_text r.Such) refl refl
used r.That = ascii_word (reserved_text r.That) refl refl
used r.Let = ascii_word (reserved_text r.Let) refl refl
used r.Forall = ascii_word (reserved_text r.Forall) refl refl
used r.Exists = ascii_word (reserved_text r.Exists) refl refl
used r.True = ascii_word (reserved_text r.True) refl refl
used r.False = ascii_word (reserved_text r.False) refl refl
used r.Empty = ascii_word (reserved_text r.Empty) refl refl
used r.Not = ascii_word (reserved_text r.Not) refl refl
used r.Happens = ascii_word (reserved_text r.Happens) refl refl
used r.Init = ascii_word (reserved_text r.Init) refl refl
used r.Pred = ascii_word (reserved_text r.Pred) refl refl
used r.Input = ascii_word (reserved_text r.Input) refl refl
used r.Output = ascii_word (reserved_text r.Output) refl refl
used r.Cond = ascii_word (reserved_text r.Cond) refl refl
used r.Exec = ascii_word (reserved_text r.Exec) refl refl
used r.Frame = ascii_word (reserved_text r.Frame) refl refl
used r.Fst = ascii_word (reserved_text r.Fst) refl refl
used r.Snd = ascii_word (reserved_text r.Snd) refl refl
used r.OfBool = ascii_word (reserved_text r.OfBool) refl refl
used r.Att = ascii_word (reserved_text r.Att) refl refl
used r.Index = ascii_word (reserved_text r.Index) refl refl
used r.Message = ascii_word (reserved_text r.Message) refl refl
used r.Boolean = ascii_word (reserved_text r.Boolean) refl refl
used r.Timestamp = ascii_word (reserved_text r.Timestamp) refl refl
used r.Mutable = ascii_word (reserved_text r.Mutable) refl refl
used r.As = ascii_word (reserved_text r.As) refl refl
used r.By = ascii_word (reserved_text r.By) refl refl
used r.From = ascii_word (reserved_text r.From) refl refl

-- ---- symbols

-- a byte that begins no blank, name or number
abbrev IsMark : ℕ → Type 0
IsMark b = (b < 128) × (is_blank b ≡ false) × (is_ascii_alphabetic b ≡ false) × ((b == 95) ≡ false)
    × (is_ascii_digit b ≡ false)

mark_piece : (p : Punctuation) (b : ℕ) (bs : List ℕ) → IsMark b → opens b (slice_index bs 0) ≡ false
    → symbol_at (b ∷ bs) ≡ Some p
    → piece (b ∷ bs) ≡ Token (kind.Punctuation p) (length (punctuation_text p))
mark_piece p b bs is o e =
    rw (is.1, o, name_none b bs is.0 (no_start b is.0 is.2 is.3), is.4, e) refl

mark_first : (p : Punctuation) (b : ℕ) (bs rest : List ℕ) (ss : List Sign)
    → punctuation_text p ≡ b ∷ bs → IsMark b → opens b (slice_index (bs ++ rest) 0) ≡ false
    → symbol_at (b ∷ bs ++ rest) ≡ Some p → IsRead rest ss
    → IsRead (b ∷ bs ++ rest) (mark p ∷ ss)
mark_first p b bs rest ss text is o e read =
    token_first (kind.Punctuation p) (b ∷ bs) rest ss (omega arith)
    (mark_piece p b (bs ++ rest) is o e
    ∙ ap (λ x. Token (kind.Punctuation p) (length x)) text) read

pub comma_first : (rest : List ℕ) (ss : List Sign) → IsRead rest ss
    → IsRead (44 ∷ rest) (mark m.Comma ∷ ss)
unfolding symbol_at
comma_first rest ss read =
    mark_first m.Comma 44 [] rest ss refl (omega arith, refl, refl, refl, refl) refl refl read

pub colon_first : (rest : List ℕ) (ss : List Sign) → IsRead rest ss
    → IsRead (58 ∷ rest) (mark m.Colon ∷ ss)
unfolding symbol_at
colon_first rest ss read =
    mark_first m.Colon 58 [] rest ss refl (omega arith, refl, refl, refl, refl) refl refl read

pub at_first : (rest : List ℕ) (ss : List Sign) → IsRead rest ss
    → IsRead (64 ∷ rest) (mark m.At ∷ ss)
unfolding symbol_at
at_first rest ss read =
    mark_first m.At 64 [] rest ss refl (omega arith, refl, refl, refl, refl) refl refl read

pub close_first : (rest : List ℕ) (ss : List Sign) → IsRead rest ss
    → IsRead (41 ∷ rest) (mark m.CloseParenthesis ∷ ss)
unfolding symbol_at
close_first rest ss read =
    mark_first m.CloseParenthesis 41 [] rest ss refl
    (omega arith, refl, refl, refl, refl) refl refl read

pub dot_first : (rest : List ℕ) (ss : List Sign) → IsRead rest ss
    → IsRead (46 ∷ rest) (mark m.Dot ∷ ss)
unfolding symbol_at
dot_first rest ss read =
    mark_first m.Dot 46 [] rest ss refl (omega arith, refl, refl, refl, refl) refl refl read

pub greater_first : (rest : List ℕ) (ss : List Sign) → IsRead rest ss
    → IsRead (62 ∷ rest) (mark m.Greater ∷ ss)
unfolding symbol_at
greater_first rest ss read =
    mark_first m.Greater 62 [] rest ss refl (omega arith, refl, refl, refl, refl) refl refl read

pub open_first : (rest : List ℕ) (ss : List Sign) → Begins rest → IsRead rest ss
    → IsRead (40 ∷ rest) (mark m.OpenParenthesis ∷ ss)
unfolding symbol_at
open_first [] ss h read = absurd h
open_first (b ∷ bs) ss h read =
    let no_star : (b == 42) ≡ false = let ne = h.0 in grind (arith, nat_tests) in
    mark_first m.OpenParenthesis 40 [] (b ∷ bs) ss refl
    (omega arith, refl, refl, refl, refl) no_star refl read

less_at : (b : ℕ) (bs : List ℕ) → Begins (b ∷ bs) → symbol_at (60 ∷ b ∷ bs) ≡ Some m.Less
unfolding symbol_at
less_at b bs h =
    let a : nat_eq 62 b ≡ false = let ne = h.3 in grind (arith, nat_tests) in
    let c : nat_eq 61 b ≡ false = let ne = h.2 in grind (arith, nat_tests) in
    let d : nat_eq 45 b ≡ false = let ne = h.1 in grind (arith, nat_tests) in
    rw (a, c, d) refl

pub less_first : (rest : List ℕ) (ss : List Sign) → Begins rest → IsRead rest ss
    → IsRead (60 ∷ rest) (mark m.Less ∷ ss)
less_first [] ss h read = absurd h
less_first (b ∷ bs) ss h read =
    mark_first m.Less 60 [] (b ∷ bs) ss refl (omega arith, refl, refl, refl, refl) refl
    (less_at b bs h) read

-- operators, with a space on each side
pub and_first : (rest : List ℕ) (ss : List Sign) → IsRead rest ss
    → IsRead (38 ∷ 38 ∷ rest) (mark m.And ∷ ss)
unfolding symbol_at
and_first rest ss read =
    mark_first m.And 38 (38 ∷ []) rest ss refl (omega arith, refl, refl, refl, refl) refl refl read

pub or_first : (rest : List ℕ) (ss : List Sign) → IsRead rest ss
    → IsRead (124 ∷ 124 ∷ rest) (mark m.Or ∷ ss)
unfolding symbol_at
or_first rest ss read =
    mark_first m.Or 124 (124 ∷ []) rest ss refl (omega arith, refl, refl, refl, refl) refl refl read

pub implies_first : (rest : List ℕ) (ss : List Sign) → IsRead rest ss
    → IsRead (61 ∷ 62 ∷ rest) (mark m.Implies ∷ ss)
unfolding symbol_at
implies_first rest ss read =
    mark_first m.Implies 61 (62 ∷ []) rest ss refl
    (omega arith, refl, refl, refl, refl) refl refl read

pub differs_first : (rest : List ℕ) (ss : List Sign) → IsRead rest ss
    → IsRead (60 ∷ 62 ∷ rest) (mark m.Differs ∷ ss)
unfolding symbol_at
differs_first rest ss read =
    mark_first m.Differs 60 (62 ∷ []) rest ss refl
    (omega arith, refl, refl, refl, refl) refl refl read

pub at_most_first : (rest : List ℕ) (ss : List Sign) → IsRead rest ss
    → IsRead (60 ∷ 61 ∷ rest) (mark m.AtMost ∷ ss)
unfolding symbol_at
at_most_first rest ss read =
    mark_first m.AtMost 60 (61 ∷ []) rest ss refl
    (omega arith, refl, refl, refl, refl) refl refl read

pub equals_first : (rest : List ℕ) (ss : List Sign) → IsRead rest ss
    → IsRead (61 ∷ 32 ∷ rest) (mark m.Equals ∷ ss)
unfolding symbol_at
equals_first rest ss read =
    mark_first m.Equals 61 [] (32 ∷ rest) ss refl (omega arith, refl, refl, refl, refl) refl refl
    (space_first rest ss read)

-- `<` with a space behind it
pub below_first : (rest : List ℕ) (ss : List Sign) → IsRead rest ss
    → IsRead (60 ∷ 32 ∷ rest) (mark m.Less ∷ ss)
unfolding symbol_at
below_first rest ss read =
    mark_first m.Less 60 [] (32 ∷ rest) ss refl (omega arith, refl, refl, refl, refl) refl refl
    (space_first rest ss read)
