-- What the lexer has gathered, after one piece more.
use Rattle.std.proofs.Common.{◌≡◌, ℕ, ◌+◌, Bool, true, false, List, [], ◌∷◌, ◌++◌, take, drop, map}
use Rattle.std.proofs.Common.{Result, Ok, Err, IsTrue, refl, ap, ◌∙◌, sym, subst, arith, count_by}
use Rattle.std.specs.Prelude.{if◌then◌else◌}
use Rattle.std.specs.Bool.{⊤}
use Rattle.std.specs.Str.{IsUtf8}
use Rattle.std.proofs.lemmas.List.{map-append, append_assoc, drop-drop}
use Rattle.std.proofs.lemmas.List.Sums.{sum_by-append}
use Rattle.std.proofs.Math.Seq.{take-add}
use Rattle.sq_token.specs.declared.kind.TokenKind.{TokenKind}
use Rattle.sq_token.specs.declared.token.Token.{Token}
use Rattle.sq_token.specs.declared.token.Sentence.{Sentence}
use Rattle.sq_token.specs.Kinds.{is_of_kind}
use Rattle.sq_lex.specs.declared.fault.LexFault.{LexFault}
use Rattle.sq_lex.specs.declared.piece.Piece.TheVariants as p
use Rattle.sq_lex.specs.declared.sentences.Sentences.{Sentences}
use Rattle.sq_lex.specs.Characters.{is_newline}
use Rattle.sq_lex.specs.Lexemes.{Lexeme, Line, lexeme_of, line_of, line_at, is_stop, first_place}
use Rattle.sq_lex.specs.Pieces.{piece}
use Rattle.sq_lex.specs.Lex.{prepend, sentence, cut_all, joined}
use Rattle.sq_lex.specs.Gathered.{first_line, closed, grown}
use Rattle.sq_lex.proofs.Fits.{token_fit}

-- ---- places

pub rest_more : (text rest after : List ℕ) (at n : ℕ) → rest ≡ drop at text → after ≡ drop n rest
    → after ≡ drop (at + n) text
rest_more text rest after at n e h = h ∙ (ap (drop n) e ∙ drop-drop n at text)

pub line_more : (text rest front : List ℕ) (at n line more : ℕ) → rest ≡ drop at text
    → front ≡ take n rest → line ≡ line_at text at → more ≡ count_by is_newline front
    → line + more ≡ line_at text (at + n)
line_more text rest front at n line more e f l m =
    let before = take at text in
    let behind = take n (drop at text) in
    let split : count_by is_newline (take (at + n) text)
    ≡ count_by is_newline before + count_by is_newline behind =
    ap (count_by is_newline) (take-add at n text)
    ∙ sum_by-append (λ x. if is_newline x then 1 else 0) before behind in
    let same : count_by is_newline front ≡ count_by is_newline behind =
    ap (count_by is_newline) (f ∙ ap (take n) e) in
    omega (arith, split, same, l, m)

-- a token of the piece found is one of its kind
pub kind_kept : (bs text : List ℕ) (k : TokenKind) (n : ℕ) → IsUtf8 bs → p.Token k n ≡ piece bs
    → text ≡ take n bs → IsTrue (is_of_kind k text)
kind_kept bs text k n u e t =
    subst (λ x. IsTrue (is_of_kind k x)) (sym t) (token_fit bs k n u e).2

-- ---- sentences

joined_more : (done : List Line) (s : Line) (r : Result (List Line) LexFault)
    → joined (done ++ s ∷ []) r ≡ joined done (prepend s r)
joined_more done s (Ok ss) = ap Ok (append_assoc done (s ∷ []) ss)
joined_more done s (Err e) = refl

-- a stop, and a token that is none
cut_stop : (text : List ℕ) (since : List Lexeme) (t : Lexeme) (r : Result (List Lexeme) LexFault)
    → is_stop t.kind ≡ true
    → cut_all text since (prepend t r) ≡ prepend (sentence text since t) (cut_all text [] r)
cut_stop text since t (Ok ts) e = rw e refl
cut_stop text since t (Err f) e = refl

cut_other : (text : List ℕ) (since : List Lexeme) (t : Lexeme) (r : Result (List Lexeme) LexFault)
    → is_stop t.kind ≡ false
    → cut_all text since (prepend t r) ≡ cut_all text (since ++ t ∷ []) r
cut_other text since t (Ok ts) e = rw e refl
cut_other text since t (Err f) e = refl

-- this is the line of the first of these tokens, if there is one
abbrev pub IsFirstLine : List ℕ → List Lexeme → ℕ → Type 0
IsFirstLine source [] line = ⊤
IsFirstLine source (t ∷ ts) line = line ≡ line_at source t.from

line_known : (text : List ℕ) (tokens : List Token) (token : Token) (line known : ℕ)
    → line ≡ line_at text token.from → IsFirstLine text (map lexeme_of tokens) known
    → first_line tokens line known
    ≡ line_at text (first_place (map lexeme_of tokens) (lexeme_of token))
line_known text [] token line known e h = e
line_known text (t ∷ ts) token line known e h = h

first_grown : (text : List ℕ) (tokens : List Token) (token : Token) (line known : ℕ)
    → line ≡ line_at text token.from → IsFirstLine text (map lexeme_of tokens) known
    → IsFirstLine text (map lexeme_of (tokens ++ token ∷ [])) (first_line tokens line known)
first_grown text [] token line known e h = e
first_grown text (t ∷ ts) token line known e h = h

module _ (text : List ℕ) (old new : Sentences) (token : Token) (line : ℕ)
    (l : line ≡ line_at text token.from) (h : IsFirstLine text (map lexeme_of old.tokens) old.line)
    (stop : is_stop token.kind ≡ true → new ≡ closed old line)
    (other : is_stop token.kind ≡ false → new ≡ grown old token line) where
  pub gathered : (r : Result (List Lexeme) LexFault)
      → joined (map line_of new.done) (cut_all text (map lexeme_of new.tokens) r)
      ≡ joined (map line_of old.done)
      (cut_all text (map lexeme_of old.tokens) (prepend (lexeme_of token) r))
  gathered r = by (is_stop token.kind) refl
    where
      since : List Lexeme
      since = map lexeme_of old.tokens

      done : Result (List Line) LexFault → Result (List Line) LexFault
      done = joined (map line_of old.done)

      goal : Sentences → Type 0
      goal s = joined (map line_of s.done) (cut_all text (map lexeme_of s.tokens) r)
          ≡ done (cut_all text since (prepend (lexeme_of token) r))

      ended : Sentence
      ended = record { tokens = old.tokens; line = first_line old.tokens line old.line }

      ended_is : line_of ended ≡ sentence text since (lexeme_of token)
      ended_is =
          let lined : ℕ → Line = λ n. record { tokens = since; line = n } in
          ap lined (line_known text old.tokens token line old.line l h)

      by : (b : Bool) → is_stop token.kind ≡ b → goal new
      by true e =
          let behind = cut_all text [] r in
          subst goal (sym (stop e)) (
          ap (λ d. joined d behind) (map-append line_of old.done (ended ∷ []))
          ∙ (joined_more (map line_of old.done) (line_of ended) behind
          ∙ (ap (λ s. done (prepend s behind)) ended_is
          ∙ sym (ap done (cut_stop text since (lexeme_of token) r e)))))
      by false e = subst goal (sym (other e)) (
          ap (λ ts. done (cut_all text ts r)) (map-append lexeme_of old.tokens (token ∷ []))
          ∙ sym (ap done (cut_other text since (lexeme_of token) r e)))

  pub first_kept : IsFirstLine text (map lexeme_of new.tokens) new.line
  first_kept = by (is_stop token.kind) refl
    where
      kept : Sentences → Type 0
      kept s = IsFirstLine text (map lexeme_of s.tokens) s.line

      by : (b : Bool) → is_stop token.kind ≡ b → kept new
      by true e = subst kept (sym (stop e)) tt
      by false e =
          subst kept (sym (other e)) (first_grown text old.tokens token line old.line l h)
