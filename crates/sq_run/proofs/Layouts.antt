-- Bytes that are laid out as sentences are scanned as these.
use Rattle.std.proofs.Common.{◌≡◌, ◌+◌, ℕ, Bool, true, false, ◌&&◌, not, if◌then◌else◌, ◌==◌, List}
use Rattle.std.proofs.Common.{[], ◌∷◌}
use Rattle.std.proofs.Common.{◌++◌, length, map, Option, Some, None, refl, sym, ◌∙◌, ap, arith}
use Rattle.std.proofs.Common.{append_assoc, append-nil, length-append, add-zero}
use Rattle.std.proofs.lemmas.Bool.{and_parts}
use Rattle.std.specs.Prelude.{flat_map}
use Rattle.std.specs.Option.{option_and_then}
use Rattle.std.proofs.lemmas.Bool.Decides.{Decides-eqb}
use Rattle.sq_run.specs.declared.scan.Sentence.{Sentence}
use Rattle.sq_run.specs.declared.scan.Scanner.{Scanner}
use Rattle.sq_run.specs.Scanning.{is_blank, is_part, is_word, is_token, begins, extends}
use Rattle.sq_run.specs.Scanning.{first_end, ended, after_other, after_byte, scanned, finished}
use Rattle.sq_run.specs.Scanning.{sentences_of}
use Rattle.sq_run.specs.Layout.{Spaced, Line, Layout, spaced_bytes, line_bytes, layout_bytes}
use Rattle.sq_run.specs.Layout.{are_blank, is_apart, IsSpaced, AreSpaced, IsLine, AreLines}
use Rattle.sq_run.specs.Layout.{IsLayout, place_of, token_of, sentences_at, layout_sentences}
use Rattle.sq_run.proofs.Tokens.{each_blank, ends, Grows, token_grows, word_from}

abbrev pub scanner : List Sentence → List (List ℕ) → ℕ → List ℕ → Scanner
scanner done words at token = record { done = done; words = words; at = at; token = token }

idle_by : (blank stop first : Bool) (a b c n : Option Scanner) → (blank ≡ true → first ≡ false)
    → (stop ≡ true → first ≡ false)
    → (if first then a else if blank then b else if stop then c else if first then a else n)
    ≡ (if blank then b else if stop then c else if first then a else n)
idle_by blank stop false a b c n h k = refl
idle_by true stop true a b c n h k = absurd (cc (h refl))
idle_by false true true a b c n h k = absurd (cc (k refl))
idle_by false false true a b c n h k = refl

-- where no token has begun, a byte is a blank, the stop, or the first of a token
pub idle : (done : List Sentence) (words : List (List ℕ)) (at n b : ℕ)
    → after_byte (scanner done words at []) n b ≡ after_other b (scanner done words at [])
idle done words at n b =
    idle_by (is_blank b) (b == 46) (begins b) _ _ _ _
    (each_blank (λ c. begins c ≡ false) refl refl refl refl b)
    (λ is. ap begins ((Decides-eqb b 46).0 is))

module _ (done : List Sentence) (words : List (List ℕ)) (at : ℕ) where
  abbrev now : List ℕ → Option Scanner
  now token = Some (scanner done words at token)

  further : (token : List ℕ) (n m : ℕ) (rest : List ℕ) → n ≡ m
      → scanned (now token) n rest ≡ scanned (now token) m rest
  further token n m rest e = ap (λ (k : ℕ). scanned (now token) k rest) e

  pub blanks_scanned : (n : ℕ) (blanks rest : List ℕ) → are_blank blanks ≡ true
      → scanned (now []) n (blanks ++ rest) ≡ scanned (now []) (n + length blanks) rest
  blanks_scanned n [] rest h = further [] n (n + 0) rest (omega arith)
  blanks_scanned n (b ∷ blanks) rest h =
      let p = and_parts (is_blank b) (are_blank blanks) h in
      ap (λ (o : Option Scanner). scanned o (n + 1) (blanks ++ rest))
      (each_blank
      (λ c. after_byte (scanner done words at []) n c ≡ now []) refl refl refl refl b p.0)
      ∙ blanks_scanned (n + 1) blanks rest p.1
      ∙ further [] (n + 1 + length blanks) (n + length (b ∷ blanks)) rest (omega arith)

  end_scanned : (n : ℕ) (blanks : List ℕ) → are_blank blanks ≡ true
      → scanned (now []) n blanks ≡ now []
  end_scanned n blanks h = ap (scanned (now []) n) (sym (append-nil blanks))
      ∙ blanks_scanned n blanks [] h

  grown : (token : List ℕ) (n : ℕ) (more rest : List ℕ) → Grows token more
      → scanned (now token) n (more ++ rest) ≡ scanned (now (token ++ more)) (n + length more) rest
  grown token n [] rest h = (λ i. scanned (now (sym (append-nil token) i)) n rest)
      ∙ further (token ++ []) n (n + 0) rest (omega arith)
  grown token n (b ∷ more) rest h =
      ap (λ (e : Bool). scanned
      (if e then now (token ++ b ∷ [])
      else option_and_then (after_other b) (ended (scanner done words at token) n)) (n + 1)
      (more ++ rest)) h.0
      ∙ grown (token ++ b ∷ []) (n + 1) more rest h.1
      ∙ ap (λ (t : List ℕ). scanned (now t) (n + 1 + length more) rest)
      (append_assoc token (b ∷ []) more)
      ∙ further (token ++ b ∷ more) (n + 1 + length more) (n + length (b ∷ more)) rest (omega arith)

  abbrev Stops : List ℕ → List ℕ → Type 0
  Stops token [] = ⊥
  Stops token (c ∷ cs) = extends token c ≡ false

  abbrev then_token : List ℕ → ℕ → Option Scanner
  then_token token n = Some (scanner done (words ++ token ∷ []) (first_end words at n) [])

  settled : (token : List ℕ) (n : ℕ) (rest : List ℕ) → is_token token ≡ true → Stops token rest
      → scanned (now token) n rest ≡ scanned (then_token token n) n rest
  settled token n [] is h = absurd h
  settled [] n (c ∷ cs) is h = absurd (cc (is))
  settled (t ∷ ts) n (c ∷ cs) is h =
      ap (λ (o : Option Scanner). scanned o (n + 1) cs) (
      ap (λ (e : Bool). (if e then now ((t ∷ ts) ++ c ∷ [])
      else option_and_then (after_other c) (if is_token (t ∷ ts) then then_token (t ∷ ts) n
      else None)))
      h
      ∙ ap (λ (e : Bool). option_and_then (after_other c) (if e then then_token (t ∷ ts) n
      else None)) is
      ∙ sym (idle done (words ++ (t ∷ ts) ∷ []) (first_end words at n) n c))

  token_scanned : (before : List ℕ) (s : Spaced) (n : ℕ) (rest : List ℕ) → IsSpaced before s
      → Stops s.token rest
      → scanned (now []) n (spaced_bytes s ++ rest)
      ≡ scanned (then_token s.token (n + length (spaced_bytes s)))
      (n + length (spaced_bytes s)) rest
  token_scanned before s n rest good stops =
      let place : (n + length s.blanks) + length s.token ≡ n + length (spaced_bytes s) =
      omega (arith, length-append s.blanks s.token) in
      ap (scanned (now []) n) (append_assoc s.blanks s.token rest)
      ∙ blanks_scanned n s.blanks (s.token ++ rest) good.blank
      ∙ grown [] (n + length s.blanks) s.token rest (token_grows s.token good.token)
      ∙ settled s.token (n + length s.blanks + length s.token) rest good.token stops
      ∙ ap (λ (k : ℕ). scanned (then_token s.token k) k rest) place

-- what stands behind a token of a sentence does not go on with it
behind_token : (done : List Sentence) (words : List (List ℕ)) (at : ℕ) (t : List ℕ)
    (tokens : List Spaced) (blanks rest : List ℕ)
    → is_token t ≡ true → AreSpaced t tokens → are_blank blanks ≡ true
    → Stops done words at t (flat_map spaced_bytes tokens ++ (blanks ++ 46 ∷ rest))
behind_token done words at t [] [] rest is good blank = ends t 46 is (λ w. refl)
behind_token done words at t [] (b ∷ blanks) rest is good blank =
    ends t b is
    (λ w. each_blank (λ c. is_part c ≡ false) refl refl refl refl b
    (and_parts (is_blank b) (are_blank blanks) blank).0)
behind_token done words at t (s ∷ tokens) blanks rest is good blank =
    front s.blanks s.token good.0.blank good.0.token good.0.apart
  where
    front : (bs u : List ℕ) → are_blank bs ≡ true → is_token u ≡ true → is_apart t bs u ≡ true
        → Stops done words at t
        (((bs ++ u) ++ flat_map spaced_bytes tokens) ++ (blanks ++ 46 ∷ rest))
    front (b ∷ bs) u bl tok apart =
        ends t b is
        (λ w. each_blank (λ c. is_part c ≡ false) refl refl refl refl b
        (and_parts (is_blank b) (are_blank bs) bl).0)
    front [] [] bl tok apart = absurd (cc (tok))
    front [] (c ∷ u) bl tok apart =
        ends t c is (λ w. word_from c u tok (other (is_word t) (is_word (c ∷ u)) w apart))
      where
        other : (x y : Bool) → x ≡ true → not (x && y) ≡ true → y ≡ false
        other true true a b = absurd (cc (b))
        other true false a b = refl
        other false y a b = absurd (cc (a))

-- the tokens behind the first
more_scanned : (done : List Sentence) (w : List ℕ) (ws : List (List ℕ)) (at n : ℕ) (before : List ℕ)
    (tokens : List Spaced) (blanks rest : List ℕ)
    → AreSpaced before tokens → are_blank blanks ≡ true
    → scanned (Some (scanner done (w ∷ ws) at [])) n
    (flat_map spaced_bytes tokens ++ (blanks ++ 46 ∷ rest))
    ≡ scanned (Some (scanner done (w ∷ ws ++ map token_of tokens) at []))
    (n + length (flat_map spaced_bytes tokens)) (blanks ++ 46 ∷ rest)
more_scanned done w ws at n before [] blanks rest good blank =
    (λ i. scanned (Some (scanner done (w ∷ sym (append-nil ws) i) at [])) n (blanks ++ 46 ∷ rest))
    ∙ ap (λ (k : ℕ). scanned (Some (scanner done (w ∷ ws ++ []) at [])) k (blanks ++ 46 ∷ rest))
    (sym (add-zero n))
more_scanned done w ws at n before (s ∷ tokens) blanks rest good blank =
    let m : ℕ = n + length (spaced_bytes s) in
    let place : m + length (flat_map spaced_bytes tokens)
    ≡ n + length (flat_map spaced_bytes (s ∷ tokens)) =
    omega (arith, length-append (spaced_bytes s) (flat_map spaced_bytes tokens)) in
    ap (scanned (Some (scanner done (w ∷ ws) at [])) n)
    (append_assoc (spaced_bytes s) (flat_map spaced_bytes tokens) (blanks ++ 46 ∷ rest))
    ∙ token_scanned done (w ∷ ws) at before s n
    (flat_map spaced_bytes tokens ++ (blanks ++ 46 ∷ rest)) good.0
    (behind_token done (w ∷ ws) at s.token tokens blanks rest good.0.token good.1 blank)
    ∙ more_scanned done w (ws ++ s.token ∷ []) at m s.token tokens blanks rest good.1 blank
    ∙ (λ i. scanned
    (Some (scanner done (w ∷ append_assoc ws (s.token ∷ []) (map token_of tokens) i) at []))
    (place i) (blanks ++ 46 ∷ rest))

stop_scanned : (done : List Sentence) (words : List (List ℕ)) (at n m : ℕ) (blanks rest : List ℕ)
    → are_blank blanks ≡ true → n + length blanks + 1 ≡ m
    → scanned (Some (scanner done words at [])) n (blanks ++ 46 ∷ rest)
    ≡ scanned (Some (scanner (done ++ record { words = words; at = at } ∷ []) [] at [])) m rest
stop_scanned done words at n m blanks rest blank e =
    blanks_scanned done words at n blanks (46 ∷ rest) blank
    ∙ ap (λ (k : ℕ). scanned
    (Some (scanner (done ++ record { words = words; at = at } ∷ []) [] at [])) k rest) e

-- a line is a sentence more
line_scanned : (done : List Sentence) (at n : ℕ) (l : Line) (rest : List ℕ) → IsLine l
    → scanned (Some (scanner done [] at [])) n (line_bytes l ++ rest)
    ≡ scanned
    (Some (scanner
    (done ++ record { words = map token_of l.tokens; at = place_of l.tokens n at } ∷ []) []
    (place_of l.tokens n at) [])) (n + length (line_bytes l)) rest
line_scanned done at n l rest good = ap (scanned (Some (scanner done [] at [])) n) parted
    ∙ by l.tokens good.tokens
  where
    parted : line_bytes l ++ rest ≡ flat_map spaced_bytes l.tokens ++ (l.blanks ++ 46 ∷ rest)
    parted = append_assoc (flat_map spaced_bytes l.tokens) (l.blanks ++ 46 ∷ []) rest
        ∙ ap (λ (x : List ℕ). flat_map spaced_bytes l.tokens ++ x)
        (append_assoc l.blanks (46 ∷ []) rest)

    place : (tokens : List Spaced) (k : ℕ) → k ≡ n + length (flat_map spaced_bytes tokens)
        → k + length l.blanks + 1
        ≡ n + length (flat_map spaced_bytes tokens ++ (l.blanks ++ 46 ∷ []))
    place tokens k e = let a = length-append (flat_map spaced_bytes tokens) (l.blanks ++ 46 ∷ []) in
        let b = length-append l.blanks (46 ∷ []) in omega arith

    by : (tokens : List Spaced) → AreSpaced [] tokens
        → scanned (Some (scanner done [] at [])) n
        (flat_map spaced_bytes tokens ++ (l.blanks ++ 46 ∷ rest))
        ≡ scanned
        (Some (scanner
        (done ++ record { words = map token_of tokens; at = place_of tokens n at } ∷ []) []
        (place_of tokens n at) []))
        (n + length (flat_map spaced_bytes tokens ++ (l.blanks ++ 46 ∷ []))) rest
    by [] h = stop_scanned done [] at n _ l.blanks rest good.blank (place [] n (sym (add-zero n)))
    by (s ∷ tokens) h =
        let m : ℕ = n + length (spaced_bytes s) in
        let whole : m + length (flat_map spaced_bytes tokens)
        ≡ n + length (flat_map spaced_bytes (s ∷ tokens)) =
        omega (arith, length-append (spaced_bytes s) (flat_map spaced_bytes tokens)) in
        ap (scanned (Some (scanner done [] at [])) n)
        (append_assoc (spaced_bytes s) (flat_map spaced_bytes tokens) (l.blanks ++ 46 ∷ rest))
        ∙ token_scanned done [] at [] s n
        (flat_map spaced_bytes tokens ++ (l.blanks ++ 46 ∷ rest)) h.0
        (behind_token done [] at s.token tokens l.blanks rest h.0.token h.1 good.blank)
        ∙ more_scanned done s.token [] m m s.token tokens l.blanks rest h.1 good.blank
        ∙ stop_scanned done (s.token ∷ map token_of tokens) m _ _ l.blanks rest good.blank
        (place (s ∷ tokens) _ whole)

lines_scanned : (done : List Sentence) (at n : ℕ) (lines : List Line) (blanks : List ℕ)
    → AreLines lines → are_blank blanks ≡ true
    → option_and_then finished
    (scanned (Some (scanner done [] at [])) n (flat_map line_bytes lines ++ blanks))
    ≡ Some (done ++ sentences_at lines n at)
lines_scanned done at n [] blanks good blank =
    ap (option_and_then finished) (end_scanned done [] at n blanks blank)
    ∙ ap Some (sym (append-nil done))
lines_scanned done at n (l ∷ lines) blanks good blank =
    let here : ℕ = place_of l.tokens n at in
    let one : Sentence = record { words = map token_of l.tokens; at = here } in
    ap (λ (x : List ℕ). option_and_then finished (scanned (Some (scanner done [] at [])) n x))
    (append_assoc (line_bytes l) (flat_map line_bytes lines) blanks)
    ∙ ap (option_and_then finished)
    (line_scanned done at n l (flat_map line_bytes lines ++ blanks) good.0)
    ∙ lines_scanned (done ++ one ∷ []) here (n + length (line_bytes l)) lines blanks good.1 blank
    ∙ ap Some (append_assoc done (one ∷ []) (sentences_at lines (n + length (line_bytes l)) here))

pub layout_scanned : (f : Layout) → IsLayout f
    → sentences_of (layout_bytes f) ≡ Some (layout_sentences f)
unfolding sentences_of
layout_scanned f good = lines_scanned [] 0 0 f.lines f.blanks good.lines good.blank
