-- Bytes that are scanned whole are laid out as what was found.
use Rattle.std.proofs.Common.{◌≡◌, ◌+◌, ℕ, Bool, true, false, ◌&&◌, not, if◌then◌else◌, ◌==◌, List}
use Rattle.std.proofs.Common.{[], ◌∷◌}
use Rattle.std.proofs.Common.{◌++◌, Option, Some, None, refl, sym, ◌∙◌, ap, subst, append_assoc}
use Rattle.std.proofs.lemmas.Bool.{and_parts}
use Rattle.std.specs.Option.{option_and_then}
use Rattle.std.proofs.lemmas.Bool.Decides.{Decides-eqb}
use Rattle.sq_run.specs.declared.scan.Sentence.{Sentence}
use Rattle.sq_run.specs.declared.scan.Scanner.{Scanner}
use Rattle.sq_run.specs.Scanning.{is_blank, is_start, is_word, is_token, begins, extends}
use Rattle.sq_run.specs.Scanning.{first_end, after_other, scanned, finished, sentences_of}
use Rattle.sq_run.specs.Layout.{Spaced, Line, Layout, layout_bytes, are_blank, AreSpaced}
use Rattle.sq_run.specs.Layout.{AreLines, IsLayout, layout_sentences, AreLaidOut}
use Rattle.sq_run.proofs.Tokens.{part_goes_on, word_begins}
use Rattle.sq_run.proofs.Layouts.{scanner, idle, layout_scanned}

-- the lines of a file's rest, where this token stands before them
abbrev AreRest : List ℕ → List Line → Type 0
AreRest before [] = Unit {0}
AreRest before (l ∷ lines) =
    AreSpaced before l.tokens × (are_blank l.blanks ≡ true) × AreLines lines

as_lines : (lines : List Line) → AreRest [] lines → AreLines lines
as_lines [] h = tt
as_lines (l ∷ lines) h = (record { tokens = h.0; blank = h.1 }, h.2)

-- the rest of a file is laid out, and where a sentence has words a stop stands in it
record Rest (words : List (List ℕ)) (before bytes : List ℕ) : Type 0 where
  lines : List Line
  blanks : List ℕ
  good : AreRest before lines
  blank : are_blank blanks ≡ true
  parts : layout_bytes (record { lines = lines; blanks = blanks }) ≡ bytes
  none : lines ≡ [] → words ≡ []

-- the rest of a file, where this much of a token stands before it
record Token (words : List (List ℕ)) (token bytes : List ℕ) : Type 0 where
  whole : List ℕ
  rest : List ℕ
  is : is_token whole ≡ true
  parts : token ++ bytes ≡ whole ++ rest
  later : Rest (words ++ whole ∷ []) whole rest

abbrev IsEnd : List ℕ → ℕ → Type 0
IsEnd [] c = Unit {0}
IsEnd (t ∷ ts) c = extends (t ∷ ts) c ≡ false

-- the token before does not go on with the bytes
abbrev Behind : List ℕ → List ℕ → Type 0
Behind before [] = Unit {0}
Behind before (c ∷ cs) = IsEnd before c

behind_nothing : (bytes : List ℕ) → Behind [] bytes
behind_nothing [] = tt
behind_nothing (c ∷ cs) = tt

-- what was scanned came to these sentences
abbrev Ends : Option Scanner → ℕ → List ℕ → List Sentence → Type 0
Ends s n bytes found = option_and_then finished (scanned s n bytes) ≡ Some found

abbrev Idle : List ℕ → Type 0
Idle bytes =
    (done : List Sentence) (words : List (List ℕ)) (at n : ℕ) (before : List ℕ)
    (found : List Sentence) → Ends (Some (scanner done words at [])) n bytes found
    → Behind before bytes → Rest words before bytes

abbrev Pending : List ℕ → Type 0
Pending bytes =
    (done : List Sentence) (words : List (List ℕ)) (at n t : ℕ) (ts : List ℕ)
    (found : List Sentence) → Ends (Some (scanner done words at (t ∷ ts))) n bytes found
    → Token words (t ∷ ts) bytes

idle_nil : Idle []
idle_nil done [] at n before found e b =
    record { lines = []; blanks = []; good = tt; blank = refl; parts = refl; none = λ _. refl }
idle_nil done (w ∷ ws) at n before found e b = absurd (cc (e))

pending_nil : Pending []
pending_nil done [] at n t ts found e = absurd (cc (e))
pending_nil done (w ∷ ws) at n t ts found e = absurd (cc (e))

module _ (b : ℕ) (bytes : List ℕ) where
  module _ (is : is_blank b ≡ true) (words : List (List ℕ)) (before : List ℕ) where
    more_blank : (blanks : List ℕ) → are_blank blanks ≡ true → are_blank (b ∷ blanks) ≡ true
    more_blank blanks h = λ i. is i && h i

    blank_line : (tokens : List Spaced) (own : List ℕ) (lines : List Line) (blanks : List ℕ)
        → AreRest [] (record { tokens = tokens; blanks = own } ∷ lines) → are_blank blanks ≡ true
        → layout_bytes
        (record { lines = record { tokens = tokens; blanks = own } ∷ lines; blanks = blanks })
        ≡ bytes → Rest words before (b ∷ bytes)
    blank_line [] own lines blanks good blank parts =
        record {
          lines = record { tokens = []; blanks = b ∷ own } ∷ lines;
          blanks = blanks;
          good =
              (tt, more_blank own good.1, good.2);
          blank = blank;
          parts =
              ap (λ (x : List ℕ). b ∷ x) parts;
          none = λ e. absurd (cc (e));
        }
    blank_line (s ∷ tokens) own lines blanks good blank parts =
        record {
          lines = record
              { tokens = record { blanks = b ∷ s.blanks; token = s.token } ∷ tokens; blanks = own }
              ∷ lines;
          blanks = blanks;
          good = (
            (
              record {
                blank = more_blank s.blanks good.0.0.blank;
                token =
                    good.0.0.token;
                apart = refl;
              },
              good.0.1,
            ),
            good.1,
            good.2,
          );
          blank = blank;
          parts = ap (λ (x : List ℕ). b ∷ x) parts;
          none = λ e. absurd (cc (e));
        }

    behind_blank : (lines : List Line) (blanks : List ℕ) → AreRest [] lines
        → are_blank blanks ≡ true → layout_bytes (record { lines = lines; blanks = blanks }) ≡ bytes
        → (lines ≡ [] → words ≡ []) → Rest words before (b ∷ bytes)
    behind_blank [] blanks good blank parts none =
        record {
          lines = [];
          blanks = b ∷ blanks;
          good = tt;
          blank =
              more_blank blanks blank;
          parts = ap (λ (x : List ℕ). b ∷ x) parts;
          none = λ _. none refl;
        }
    behind_blank (l ∷ lines) blanks good blank parts none =
        blank_line l.tokens l.blanks lines blanks good blank parts

  in_front_of_stop : (words : List (List ℕ)) (before : List ℕ) → b ≡ 46 → Rest [] [] bytes
      → Rest words before (b ∷ bytes)
  in_front_of_stop words before is r =
      record {
        lines = record { tokens = []; blanks = [] } ∷ r.lines;
        blanks = r.blanks;
        good = (tt, refl, as_lines r.lines r.good);
        blank = r.blank;
        parts = λ i. sym is i ∷ r.parts i;
        none = λ e. absurd (cc (e));
      }

apart_by : (x : ℕ) (xs : List ℕ) (c : ℕ) (cs : List ℕ) (p q : Bool) → is_word (x ∷ xs) ≡ p
    → is_word (c ∷ cs) ≡ q → extends (x ∷ xs) c ≡ false → not (p && q) ≡ true
apart_by x xs c cs true true word next h =
    absurd (cc (sym h
    ∙ part_goes_on x xs c (and_parts (is_start x) _ word).0 (word_begins c cs next)))
apart_by x xs c cs true false word next h = refl
apart_by x xs c cs false q word next h = refl

apart : (before : List ℕ) (c : ℕ) (cs : List ℕ) → IsEnd before c
    → not (is_word before && is_word (c ∷ cs)) ≡ true
apart [] c cs h = refl
apart (x ∷ xs) c cs h = apart_by x xs c cs (is_word (x ∷ xs)) (is_word (c ∷ cs)) refl refl h

some_words : (words : List (List ℕ)) (w : List ℕ) → words ++ w ∷ [] ≡ [] → ⊥
some_words [] w e = cc
some_words (v ∷ words) w e = cc

regroup : (w f b l e : List ℕ) → (((w ++ f) ++ b) ++ l) ++ e ≡ w ++ (((f ++ b) ++ l) ++ e)
regroup w f b l e = simp append_assoc

-- a token in front of the rest of its sentence
token_first : (words : List (List ℕ)) (before bytes : List ℕ) (b : ℕ) → IsEnd before b
    → Token words (b ∷ []) bytes → Rest words before (b ∷ bytes)
token_first words before bytes b ended t =
    by t.whole t.is t.parts t.later.lines t.later.good t.later.parts t.later.none
  where
    by : (whole : List ℕ) → is_token whole ≡ true → b ∷ bytes ≡ whole ++ t.rest
        → (lines : List Line) → AreRest whole lines
        → layout_bytes (record { lines = lines; blanks = t.later.blanks }) ≡ t.rest
        → (lines ≡ [] → words ++ whole ∷ [] ≡ []) → Rest words before (b ∷ bytes)
    by [] is parts lines good rest none = absurd (cc (is))
    by (c ∷ cs) is parts [] good rest none = absurd (some_words words (c ∷ cs) (none refl))
    by (c ∷ cs) is parts (l ∷ lines) good rest none =
        let same : b ≡ c = cc in
        record {
          lines = record {
            tokens = record { blanks = []; token = c ∷ cs } ∷ l.tokens;
            blanks =
                l.blanks;
          } ∷ lines;
          blanks = t.later.blanks;
          good = (
            (
              record {
                blank = refl;
                token = is;
                apart = apart before c cs
                    (subst (IsEnd before) same ended);
              },
              good.0,
            ),
            good.1,
            good.2,
          );
          blank = t.later.blank;
          parts = regroup (c ∷ cs) _ _ _ _ ∙ ap (λ (x : List ℕ). (c ∷ cs) ++ x) rest ∙ sym parts;
          none = λ e. absurd (cc (e));
        }

module _ (b : ℕ) (bytes : List ℕ) (idles : Idle bytes) (pendings : Pending bytes) where
  idle_cons : Idle (b ∷ bytes)
  idle_cons done words at n before found e ended =
      by (is_blank b) (b == 46) (begins b) refl refl refl
      (ap (λ (o : Option Scanner). option_and_then finished (scanned o (n + 1) bytes))
      (sym (idle done words at n b)) ∙ e)
    where
      by : (blank stop first : Bool) → is_blank b ≡ blank → (b == 46) ≡ stop → begins b ≡ first
          → Ends (if blank then Some (scanner done words at []) else if stop
          then Some (scanner (done ++ record { words = words; at = at } ∷ []) [] at [])
          else if first then Some (scanner done words at (b ∷ [])) else None) (n + 1) bytes
          found
          → Rest words before (b ∷ bytes)
      by true stop first x y z h = let r =
          idles done words at (n + 1) [] found h (behind_nothing bytes) in
          behind_blank b bytes x words before r.lines r.blanks r.good r.blank r.parts r.none
      by false true first x y z h =
          in_front_of_stop b bytes words before ((Decides-eqb b 46).0 y)
          (idles (done ++ record { words = words; at = at } ∷ []) [] at (n + 1) [] found h
          (behind_nothing bytes))
      by false false true x y z h =
          token_first words before bytes b ended (pendings done words at (n + 1) b [] found h)
      by false false false x y z h = absurd (cc (h))

  pending_cons : Pending (b ∷ bytes)
  pending_cons done words at n t ts found e =
      by (extends (t ∷ ts) b) (is_token (t ∷ ts)) refl refl e
    where
      by : (more token : Bool) → extends (t ∷ ts) b ≡ more → is_token (t ∷ ts) ≡ token
          → Ends (if more then Some (scanner done words at (t ∷ (ts ++ b ∷ [])))
          else option_and_then (after_other b)
          (if token then Some (scanner done (words ++ (t ∷ ts) ∷ []) (first_end words at n) [])
          else None))
          (n + 1) bytes found
          → Token words (t ∷ ts) (b ∷ bytes)
      by true token x y h =
          let r = pendings done words at (n + 1) t (ts ++ b ∷ []) found h in
          record {
            whole = r.whole;
            rest = r.rest;
            is = r.is;
            parts = ap (λ (u : List ℕ). t ∷ u)
                (sym (append_assoc ts (b ∷ []) bytes)) ∙ r.parts;
            later = r.later;
          }
      by false true x y h =
          record {
            whole = t ∷ ts;
            rest = b ∷ bytes;
            is = y;
            parts = refl;
            later = idle_cons done (words ++ (t ∷ ts) ∷ []) (first_end words at n) n (t ∷ ts) found
                (ap (λ (o : Option Scanner). option_and_then finished (scanned o (n + 1) bytes))
                (idle done (words ++ (t ∷ ts) ∷ []) (first_end words at n) n b) ∙ h) x;
          }
      by false false x y h = absurd (cc (h))

rests : (bytes : List ℕ) → Idle bytes × Pending bytes
rests [] = (idle_nil, pending_nil)
rests (b ∷ bytes) = let r = rests bytes in (idle_cons b bytes r.0 r.1, pending_cons b bytes r.0 r.1)

same_some : (a b : List Sentence) → Some a ≡ Some b → a ≡ b
same_some a b e = cc

pub scanned_laid_out : (bytes : List ℕ) (found : List Sentence) → sentences_of bytes ≡ Some found
    → AreLaidOut bytes found
unfolding sentences_of
scanned_laid_out bytes found e =
    let r = (rests bytes).0 [] [] 0 0 [] found e (behind_nothing bytes) in
    let f : Layout = record { lines = r.lines; blanks = r.blanks } in
    let good : IsLayout f = record { lines = as_lines r.lines r.good; blank = r.blank } in
    record {
      layout = f;
      good = good;
      bytes = r.parts;
      sentences = same_some
          (layout_sentences f) found (sym (layout_scanned f good) ∙ ap sentences_of r.parts ∙ e);
    }

pub laid_out_scanned : (bytes : List ℕ) (found : List Sentence) → AreLaidOut bytes found
    → sentences_of bytes ≡ Some found
laid_out_scanned bytes found a = ap sentences_of (sym a.bytes) ∙ layout_scanned a.layout a.good
    ∙ ap Some a.sentences

pub laid_out_once : (bytes : List ℕ) (a b : List Sentence) → AreLaidOut bytes a → AreLaidOut bytes b
    → a ≡ b
laid_out_once bytes a b first second =
    same_some a b (sym (laid_out_scanned bytes a first) ∙ laid_out_scanned bytes b second)
