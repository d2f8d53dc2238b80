-- A file has no more declarations than bytes, so that each has a number.
use Rattle.std.proofs.Common.{◌≡◌, ◌≤◌, ◌+◌, ℕ, suc, true, List, [], ◌∷◌, ◌++◌, length, map, Option}
use Rattle.std.proofs.Common.{Some, None, refl, ap, subst, arith, length-append}
use Rattle.std.specs.Prelude.{flat_map, nat_le}
use Rattle.std.specs.Option.{option_and_then}
use Rattle.std.proofs.lemmas.Bool.Decides.{nat_tests}
use Rattle.std.proofs.lemmas.List.{length-map}
use Rattle.sq_typing.specs.Functions.{builtin_functions}
use Rattle.sq_system.specs.WellFormed.{are_numbered}
use Rattle.sq_run.specs.declared.scan.Sentence.{Sentence}
use Rattle.sq_run.specs.declared.script.Script.{Script}
use Rattle.sq_run.specs.Answering.{most_bytes}
use Rattle.sq_run.specs.Files.{Claim, File, constant_sentence, claim_sentences}
use Rattle.sq_run.specs.Files.{file_sentences, constant_name, constants_of, constant_functions}
use Rattle.sq_run.specs.Files.{claim_lemmas, file_script, IsFileOf}
use Rattle.sq_run.specs.Formulas.{Declarations}
use Rattle.sq_run.specs.Layout.{Line, spaced_bytes, line_bytes, sentences_at}
use Rattle.sq_run.specs.Layout.{AreLaidOut}
use Rattle.sq_run.specs.Scanning.{sentences_of}
use Rattle.sq_run.specs.Scripts.{script_of, form_of, statement_of, environment_of}
use Rattle.sq_run.proofs.FilesRead.{script_is_of_file}
use Rattle.sq_run.proofs.LaidOut.{scanned_laid_out}
use Rattle.sq_run.proofs.Names.{length-functions}

-- each line has its stop
line_some : (l : Line) → 1 ≤ length (line_bytes l)
line_some l =
    omega (
      arith,
      length-append (flat_map spaced_bytes l.tokens)
          (l.blanks ++ 46 ∷ []),
      length-append l.blanks (46 ∷ []),
    )

lines_few : (lines : List Line) → length lines ≤ length (flat_map line_bytes lines)
lines_few [] = omega arith
lines_few (l ∷ lines) =
    omega (
      arith,
      line_some l,
      lines_few lines,
      length-append (line_bytes l)
          (flat_map line_bytes lines),
    )

length-sentences : (lines : List Line) (at before : ℕ)
    → length (sentences_at lines at before) ≡ length lines
length-sentences [] at before = refl
length-sentences (l ∷ lines) at before = ap suc (length-sentences lines _ _)

sentences_few : (bytes : List ℕ) (found : List Sentence) → AreLaidOut bytes found
    → length found ≤ length bytes
sentences_few bytes found is =
    let lines : List Line = is.layout.lines in
    omega (
      arith,
      ap length is.sentences,
      ap length is.bytes,
      length-sentences lines 0 0,
      lines_few
          lines,
      length-append (flat_map line_bytes lines) is.layout.blanks,
    )

claims_few : (claims : List Claim) → length claims ≤ length (flat_map claim_sentences claims)
claims_few [] = omega arith
claims_few (c ∷ claims) =
    omega (
      arith,
      claims_few claims,
      length-append (claim_sentences c)
          (flat_map claim_sentences claims),
    )

length-lemmas : (table : Declarations) (n : ℕ) (claims : List Claim)
    → length (claim_lemmas table n claims) ≡ length claims
length-lemmas table n [] = refl
length-lemmas table n (c ∷ claims) =
    ap suc (length-lemmas table (n + length c.commands + 3) claims)

-- a file has a sentence for each constant and each lemma
file_few : (f : File) → length f.constants + length f.claims ≤ length (file_sentences f)
file_few f =
    omega (
      arith,
      claims_few f.claims,
      length-map f.constants constant_sentence,
      length-append
          (map constant_sentence f.constants) (flat_map claim_sentences f.claims),
    )

-- the functions of the file and its lemmas
record AreFew (n : ℕ) (s : Script) : Type 0 where
  funs : length s.funs ≤ length builtin_functions + n
  lemmas : length s.lemmas ≤ n

script_few : (f : File) → AreFew (length (file_sentences f)) (file_script f)
script_few f =
    let names : List (List ℕ) = map constant_name f.constants in
    record {
      funs = omega (
        arith,
        file_few f,
        length-append builtin_functions
            (constant_functions names),
        length-functions names,
        length-map f.constants constant_name,
      );
      lemmas = omega
          (arith, file_few f, length-lemmas (constants_of names) (length f.constants) f.claims);
    }

of_file_few : (sentences : List Sentence) (s : Script) → IsFileOf sentences s
    → AreFew (length sentences) s
of_file_few sentences s is =
    subst (λ (ss : List Sentence). AreFew (length ss) s) is.parts
    (subst (AreFew (length (file_sentences is.file))) is.holds (script_few is.file))

numbered : (s : Script) (n : ℕ) → AreFew n s → n ≤ most_bytes
    → are_numbered (environment_of s) ≡ true
numbered s n few short =
    let funs : nat_le (length s.funs) 4294967295 ≡ true =
    grind (arith, nat_tests, few.funs, short) in
    let stmts : nat_le (length (map statement_of s.lemmas)) 4294967295 ≡ true =
    grind (arith, nat_tests, few.lemmas, short, length-map s.lemmas statement_of) in
    rw (funs, stmts) refl

pub declarations_numbered : (bytes : List ℕ) (s : Script) → length bytes ≤ most_bytes
    → form_of bytes ≡ Some s → are_numbered (environment_of s) ≡ true
unfolding form_of
declarations_numbered bytes s short is = go (sentences_of bytes) refl is
  where
    go : (o : Option (List Sentence)) → sentences_of bytes ≡ o
        → option_and_then script_of o ≡ Some s → are_numbered (environment_of s) ≡ true
    go None found k = absurd (cc (k))
    go (Some sentences) found k =
        numbered s (length sentences) (of_file_few sentences s (script_is_of_file sentences s k))
        (omega (
          arith,
          short,
          sentences_few bytes sentences
              (scanned_laid_out bytes sentences found),
        ))
