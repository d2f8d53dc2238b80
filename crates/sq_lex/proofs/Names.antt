-- Characters and their bytes, and the name at the front of a text.
use Rattle.std.proofs.Common.{◌≡◌, ℕ, ◌+◌, ◌<◌, ◌≤◌, Bool, true, false, List, [], ◌∷◌, ◌++◌, length}
use Rattle.std.proofs.Common.{take, refl, ap, ◌∙◌, sym, subst, arith, chars, encode_utf8}
use Rattle.std.proofs.Common.{encode_utf8_all, length-append}
use Rattle.std.specs.Prelude.{if◌then◌else◌}
use Rattle.std.specs.Char.{len_utf8}
use Rattle.std.specs.List.{list_all}
use Rattle.std.specs.Str.{IsUtf8, IsCharBoundary, all_scalars}
use Rattle.std.proofs.lemmas.Bool.{and_parts, and_from}
use Rattle.std.proofs.lemmas.Str.{chars_past_char, length-encode, chars-nil, chars-append}
use Rattle.std.proofs.lemmas.Str.{encodes-chars, encodes-append, scalars-chars, chars-encodes}
use Rattle.std.proofs.lemmas.Str.{IsCharBoundary-at_seam}
use Rattle.std.proofs.Math.Seq.{take-append_seam}
use Rattle.unicode_ident.specs.Ident.{is_xid_continue}
use Rattle.sq_token.specs.Kinds.{is_start, is_name}
use Rattle.sq_lex.specs.Pieces.{continued, name_len}

-- ---- one character

module _ (s t : List ℕ) (c : ℕ) (u : IsUtf8 s) (e : s ≡ encode_utf8 c ++ t) where
  -- one character more that continues a name
  pub continued_more : is_xid_continue c ≡ true
      → continued (chars s) ≡ len_utf8 c + continued (chars t)
  continued_more h = rw (chars_past_char s t c u e, h) refl

  -- a character that continues no name
  pub continued_no_more : is_xid_continue c ≡ false → continued (chars s) ≡ 0
  continued_no_more h = rw (chars_past_char s t c u e, h) refl

  pub name_started : is_start c ≡ true → name_len (chars s) ≡ len_utf8 c + continued (chars t)
  name_started h = rw (chars_past_char s t c u e, h) refl

pub continued_end : (s : List ℕ) → length s ≡ 0 → continued (chars s) ≡ 0
continued_end [] e = rw chars-nil refl
continued_end (b ∷ bs) e = absurd (omega arith)

pub length_past_char : (s t : List ℕ) (c : ℕ) → s ≡ encode_utf8 c ++ t
    → length s ≡ len_utf8 c + length t
length_past_char s t c e =
    ap length e
    ∙ (length-append (encode_utf8 c) t ∙ ap (λ n. n + length t) (length-encode c))

length-encode_more : (c : ℕ) (cs : List ℕ)
    → length (encode_utf8_all (c ∷ cs)) ≡ len_utf8 c + length (encode_utf8_all cs)
length-encode_more c cs =
    length-append (encode_utf8 c) (encode_utf8_all cs)
    ∙ ap (λ n. n + length (encode_utf8_all cs)) (length-encode c)

-- ---- the characters of a name

scalars_split : (xs ys : List ℕ) → all_scalars (xs ++ ys) ≡ true
    → (all_scalars xs ≡ true) × (all_scalars ys ≡ true)
scalars_split [] ys e = (refl, e)
scalars_split (x ∷ xs) ys e =
    let parts = and_parts _ _ e in
    let rest = scalars_split xs ys parts.1 in
    (and_from _ _ parts.0 rest.0, rest.1)

-- these characters are a front, which takes so many bytes and continues a name, and what is behind
record Continues (cs : List ℕ) (n : ℕ) : Type 0 where
  front : List ℕ
  back : List ℕ
  joined : cs ≡ front ++ back
  len : n ≡ length (encode_utf8_all front)
  all : list_all is_xid_continue front ≡ true

continued_front : (cs : List ℕ) → Continues cs (continued cs)
continued_front [] = record { front = []; back = []; joined = refl; len = refl; all = refl }
continued_front (c ∷ cs) = by (is_xid_continue c) refl (continued_front cs)
  where
    by : (t : Bool) → is_xid_continue c ≡ t → Continues cs (continued cs)
        → Continues (c ∷ cs) (if t then len_utf8 c + continued cs else 0)
    by false e r = record { front = []; back = c ∷ cs; joined = refl; len = refl; all = refl }
    by true e r = record {
      front = c ∷ r.front;
      back = r.back;
      joined = ap (λ x. c ∷ x) r.joined;
      len = ap (λ n. len_utf8 c + n) r.len ∙ sym (length-encode_more c r.front);
      all = and_from _ _ e r.all;
    }

-- these characters are a name, which takes so many bytes, and what is behind it
record Names (cs : List ℕ) (n : ℕ) : Type 0 where
  front : List ℕ
  back : List ℕ
  joined : cs ≡ front ++ back
  len : n ≡ length (encode_utf8_all front)
  name : is_name front ≡ true

name_front : (cs : List ℕ) → 0 < name_len cs → Names cs (name_len cs)
name_front [] h = absurd (omega arith)
name_front (c ∷ cs) h = by (is_start c) refl h (continued_front cs)
  where
    by : (t : Bool) → is_start c ≡ t → 0 < (if t then len_utf8 c + continued cs else 0)
        → Continues cs (continued cs) → Names (c ∷ cs) (if t then len_utf8 c + continued cs else 0)
    by false e h r = absurd (omega arith)
    by true e h r = record {
      front = c ∷ r.front;
      back = r.back;
      joined = ap (λ x. c ∷ x) r.joined;
      len = ap (λ n. len_utf8 c + n) r.len ∙ sym (length-encode_more c r.front);
      name = and_from _ _ e r.all;
    }

-- a text that begins with a name, and what is behind the name
pub record NameText (bs : List ℕ) (n : ℕ) : Type 0 where
  pub front : List ℕ
  pub back : List ℕ
  pub joined : bs ≡ front ++ back
  pub len : n ≡ length front
  pub name : is_name (chars front) ≡ true
  pub front_utf8 : IsUtf8 front
  pub back_utf8 : IsUtf8 back

pub name_text : (bs : List ℕ) → IsUtf8 bs → 0 < name_len (chars bs)
    → NameText bs (name_len (chars bs))
name_text bs u h =
    let r = name_front (chars bs) h in
    let whole : all_scalars (r.front ++ r.back) ≡ true =
    subst (λ cs. all_scalars cs ≡ true) r.joined (scalars-chars bs u) in
    let parts = scalars_split r.front r.back whole in
    record {
      front = encode_utf8_all r.front;
      back = encode_utf8_all r.back;
      joined =
          sym (encodes-chars bs u) ∙ (ap encode_utf8_all r.joined ∙ encodes-append r.front r.back);
      len = r.len;
      name = ap is_name (chars-encodes r.front parts.0) ∙ r.name;
      front_utf8 = (r.front, (parts.0, refl));
      back_utf8 = (r.back, (parts.1, refl));
    }

pub name_boundary : (bs : List ℕ) → IsUtf8 bs → 0 < name_len (chars bs)
    → IsCharBoundary bs (name_len (chars bs))
name_boundary bs u h =
    let r = name_text bs u h in
    subst (IsCharBoundary bs) (sym r.len)
    (IsCharBoundary-at_seam bs r.front r.back r.joined r.back_utf8)

pub name_take : (bs : List ℕ) (u : IsUtf8 bs) (h : 0 < name_len (chars bs))
    → take (name_len (chars bs)) bs ≡ (name_text bs u h).front
name_take bs u h =
    let r = name_text bs u h in
    ap (λ n. take n bs) r.len
    ∙ (ap (take (length r.front)) r.joined ∙ take-append_seam r.front r.back)

-- ---- a name in front of anything

continued_least : (xs ys : List ℕ) → list_all is_xid_continue xs ≡ true
    → length (encode_utf8_all xs) ≤ continued (xs ++ ys)
continued_least [] ys e = omega arith
continued_least (x ∷ xs) ys e =
    let parts = and_parts (is_xid_continue x) (list_all is_xid_continue xs) e in
    let rest = continued_least xs ys parts.1 in
    rw (parts.0) (omega (arith, rest, length-encode_more x xs))

name_len_least : (xs ys : List ℕ) → is_name xs ≡ true
    → length (encode_utf8_all xs) ≤ name_len (xs ++ ys)
name_len_least [] ys e = omega arith
name_len_least (x ∷ xs) ys e =
    let parts = and_parts (is_start x) (list_all is_xid_continue xs) e in
    let rest = continued_least xs ys parts.1 in
    rw (parts.0) (omega (arith, rest, length-encode_more x xs))

-- a text that is written as a name, in front of another
pub name_least : (text rest : List ℕ) → IsUtf8 text → is_name (chars text) ≡ true
    → length text ≤ name_len (chars (text ++ rest))
name_least text rest u e =
    let le = name_len_least (chars text) (chars rest) e in
    let len : length (encode_utf8_all (chars text)) ≡ length text =
    ap length (encodes-chars text u) in
    rw (chars-append text rest u) (omega arith)

pub name_some : (text : List ℕ) → is_name (chars text) ≡ true → 0 < length text
name_some [] e = let none : is_name (chars []) ≡ false = rw chars-nil refl in cc
name_some (b ∷ bs) e = omega arith
