-- The line of a step is bounded by the nodes that it writes.
use Rattle.std.proofs.Common.{◌≡◌, ◌≤◌, ◌+◌, ◌*◌, ℕ, suc, Bool, true, ◌&&◌, nat_le, List}
use Rattle.std.proofs.Common.{[], ◌∷◌, ◌++◌, length, codes, decimal, refl, ap, ◌∙◌, length-append}
use Rattle.std.proofs.Common.{arith}
use Rattle.std.specs.List.{list_all}
use Rattle.std.proofs.lemmas.Bool.Decides.{nat_tests}
use Rattle.std.proofs.lemmas.Fmt.{length-decimal-le, length-decimal-le_succ}
use Rattle.sq_base.specs.declared.sort.Sort.{Sort}
use Rattle.sq_base.specs.declared.sort.Sort.TheVariants as sort
use Rattle.sq_term.specs.declared.term.Idx.{Idx}
use Rattle.sq_term.specs.declared.term.Idx.TheVariants as idx
use Rattle.sq_term.specs.declared.term.Macro.{Macro}
use Rattle.sq_term.specs.declared.term.Macro.TheVariants as macro_of
use Rattle.sq_term.specs.Measure.{count_terms, ts_size, size, sizes, ts_depth, depth}
use Rattle.sq_term.specs.Symbols.{function_number}
use Rattle.sq_term.specs.Syntax.{TsTree, free, bound, init, pred, action, TermTree, name, fun}
use Rattle.sq_term.specs.Syntax.{macro as macro_term, schema, diff, le, ts_eq, idx_eq, happens, all}
use Rattle.sq_term.specs.Syntax.{some, find, TermTrees, nil, cons}
use Rattle.sq_step.specs.declared.step.Step.{Step}
use Rattle.sq_step.specs.declared.step.Step.TheVariants as step
use Rattle.sq_step.specs.declared.step.Place.{Place}
use Rattle.sq_step.specs.declared.step.Place.TheVariants as place
use Rattle.sq_step.specs.declared.step.Hand.TheVariants as hand_of
use Rattle.sq_step.specs.declared.step.Dir.TheVariants as dir
use Rattle.sq_step.specs.declared.step.Target.TheVariants as target_of
use Rattle.sq_cert_words.specs.Spelling.{blanked, counted, applied, macro_word, universal_word}
use Rattle.sq_cert_words.specs.Spelling.{existential_word, index_word, index_words, ts_words}
use Rattle.sq_cert_words.specs.Spelling.{term_words, all_words, is_small, index_fits, indices_fit}
use Rattle.sq_cert_words.specs.Spelling.{ts_fits, term_fits, all_fit, binds_alone}
use Rattle.sq_cert_steps.specs.Lines.{Spot, at, written, Argument, number, index_value, time_value}
use Rattle.sq_cert_steps.specs.Lines.{time}
use Rattle.sq_cert_steps.specs.Lines.{term, direction, target, hand, macro, place_word, place_fits}
use Rattle.sq_cert_steps.specs.Lines.{spot_words, spot_fits, spot_nodes, argument_words}
use Rattle.sq_cert_steps.specs.Lines.{arguments_words}
use Rattle.sq_cert_steps.specs.Lines.{argument_fits, argument_nodes, arguments_nodes, is_shallow}
use Rattle.sq_cert_steps.specs.Lines.{written_ts_fits, written_term_fits, arguments, step_word}
use Rattle.sq_cert_steps.specs.Lines.{step_line}
use Rattle.sq_cert_steps.specs.Lines.{step_nodes, is_spelled}
use Rattle.sq_cert_words.proofs.LineLaws.{blanked-append}
use Rattle.sq_cert_terms.proofs.ReadBack.{both, small_is}

-- bytes of some words, each with the blank before it
abbrev bytes : List (List ℕ) → ℕ
bytes ws = length (blanked ws)

bytes-cons : (w : List ℕ) (ws : List (List ℕ)) → bytes (w ∷ ws) ≡ suc (length w + bytes ws)
bytes-cons w ws = ap suc (length-append w (blanked ws))

bytes-append : (a b : List (List ℕ)) → bytes (a ++ b) ≡ bytes a + bytes b
bytes-append a b = ap length (blanked-append a b) ∙ length-append (blanked a) (blanked b)

short : (n : ℕ) → is_small n ≡ true → length (decimal n) ≤ 10
short n h =
    length-decimal-le 10 n (omega arith) (omega (arith, small_is n h)) (omega (arith, small_is n h))

shorter : (n : ℕ) → is_small n ≡ true → length (decimal n) ≤ n + 1
shorter n h = length-decimal-le_succ n (omega (arith, small_is n h))

counted-length : (before : List ℕ) (k n : ℕ)
    → length (counted before k n) ≡ length before + suc (length (decimal k) + length (decimal n))
counted-length before k n =
    omega (
      arith,
      length-append before (decimal k ++ 47 ∷ decimal n),
      length-append (decimal k)
          (47 ∷ decimal n),
    )

index_short : (i : Idx) → index_fits i ≡ true → length (index_word i) ≤ 11
index_short (idx.Free k) h = omega (arith, short k h)
index_short (idx.Bound k) h = omega (arith, short k h)

indices_short : (is : List Idx) → indices_fit is ≡ true → bytes (index_words is) ≤ 12 * length is
indices_short [] h = omega arith
indices_short (i ∷ is) h =
    let fit = both (index_fits i) (indices_fit is) h in
    omega (
      arith,
      bytes-cons (index_word i)
          (index_words is),
      index_short i fit.0,
      indices_short is fit.1,
    )

ts_short : (t : TsTree) → ts_fits t ≡ true → bytes (ts_words t) ≤ 24 * ts_size t
ts_short (free k) h = omega (arith, bytes-cons (codes "x" ++ decimal k) [], short k h)
ts_short (bound k) h = omega (arith, bytes-cons (codes "b" ++ decimal k) [], short k h)
ts_short init h = omega arith
ts_short (pred t) h = omega (arith, bytes-cons (codes "pred") (ts_words t), ts_short t h)
ts_short (action a is) h =
    let fit = both (is_small a) (is_small (length is) && indices_fit is) h in
    let lists = both (is_small (length is)) (indices_fit is) fit.1 in
    omega (
      arith,
      bytes-cons (counted (codes "a") a (length is)) (index_words is),
      counted-length
          (codes "a") a (length is),
      short a fit.0,
      shorter
          (length is) lists.0,
      indices_short is lists.1,
    )

macro_short : (m : Macro) → length (macro_word m) ≤ 6
macro_short macro_of.Input = omega arith
macro_short macro_of.Output = omega arith
macro_short macro_of.Cond = omega arith
macro_short macro_of.Exec = omega arith
macro_short macro_of.Frame = omega arith

universal_short : (s : Sort) → length (universal_word s) ≤ 2
universal_short sort.Index = omega arith
universal_short sort.Timestamp = omega arith
universal_short sort.Message = omega arith
universal_short sort.Boolean = omega arith

existential_short : (s : Sort) → length (existential_word s) ≤ 2
existential_short sort.Index = omega arith
existential_short sort.Timestamp = omega arith
existential_short sort.Message = omega arith
existential_short sort.Boolean = omega arith

applied-length : (f n m : ℕ)
    → length (applied f n m)
    ≡ 1 + (length (decimal f) + suc (length (decimal n) + suc (length (decimal m))))
applied-length f n m =
    omega (
      arith,
      length-append (decimal f) (47 ∷ (decimal n ++ 47 ∷ decimal m)),
      length-append
          (decimal n) (47 ∷ decimal m),
    )

two_ts_short : (w : List ℕ) (a b : TsTree) → length w ≤ 4 → (ts_fits a && ts_fits b) ≡ true
    → bytes (w ∷ (ts_words a ++ ts_words b)) + 1 ≤ 24 * suc (ts_size a + ts_size b)
two_ts_short w a b few h =
    let fit = both (ts_fits a) (ts_fits b) h in
    omega (
      arith,
      bytes-cons w (ts_words a ++ ts_words b),
      bytes-append (ts_words a)
          (ts_words b),
      ts_short a fit.0,
      ts_short b fit.1,
    )

mutual
  term_short : (t : TermTree) → term_fits t ≡ true → bytes (term_words t) + 1 ≤ 24 * size t
  term_short (name n is) h =
      let fit = both (is_small n) (is_small (length is) && indices_fit is) h in
      let lists = both (is_small (length is)) (indices_fit is) fit.1 in
      omega (
        arith,
        bytes-cons (counted (codes "n") n (length is)) (index_words is),
        counted-length
            (codes "n") n (length is),
        short n fit.0,
        shorter
            (length is) lists.0,
        indices_short is lists.1,
      )
  term_short (fun f is ts) h =
      let fit =
      both (is_small (function_number f))
      ((is_small (length is) && indices_fit is) && (is_small (count_terms ts) && all_fit ts)) h
      in
      let lists =
      both (is_small (length is) && indices_fit is)
      (is_small (count_terms ts) && all_fit ts) fit.1 in
      let indices_are = both (is_small (length is)) (indices_fit is) lists.0 in
      let terms_are = both (is_small (count_terms ts)) (all_fit ts) lists.1 in
      omega (
        arith,
        bytes-cons (applied (function_number f) (length is) (count_terms ts))
            (index_words is ++ all_words ts),
        bytes-append (index_words is) (all_words ts),
        applied-length (function_number f) (length is) (count_terms ts),
        short
            (function_number f) fit.0,
        shorter (length is) indices_are.0,
        shorter
            (count_terms ts) terms_are.0,
        indices_short is indices_are.1,
        terms_short ts terms_are.1,
      )
  term_short (macro_term m t) h =
      omega (arith, bytes-cons (macro_word m) (ts_words t), macro_short m, ts_short t h)
  term_short (schema k) h = omega (arith, bytes-cons (codes "s" ++ decimal k) [], short k h)
  term_short (diff a b) h =
      let fit = both (term_fits a) (term_fits b) h in
      omega (
        arith,
        bytes-cons (codes "diff") (term_words a ++ term_words b),
        bytes-append
            (term_words a) (term_words b),
        term_short a fit.0,
        term_short b fit.1,
      )
  term_short (le a b) h = two_ts_short (codes "le") a b (omega arith) h
  term_short (ts_eq a b) h = two_ts_short (codes "teq") a b (omega arith) h
  term_short (idx_eq i j) h =
      let fit = both (index_fits i) (index_fits j) h in
      omega (
        arith,
        bytes-cons (codes "ieq") (index_word i ∷ index_word j ∷ []),
        bytes-cons
            (index_word i) (index_word j ∷ []),
        bytes-cons
            (index_word j) [],
        index_short i fit.0,
        index_short j fit.1,
      )
  term_short (happens t) h = omega (arith, bytes-cons (codes "hap") (ts_words t), ts_short t h)
  term_short (all s t) h =
      omega (arith, bytes-cons (universal_word s) (term_words t), universal_short s, term_short t h)
  term_short (some s t) h =
      omega (
        arith,
        bytes-cons (existential_word s)
            (term_words t),
        existential_short s,
        term_short t h,
      )
  term_short (find c a b e) h =
      let fit = both (is_small c) (term_fits a && (term_fits b && term_fits e)) h in
      let first = both (term_fits a) (term_fits b && term_fits e) fit.1 in
      let others = both (term_fits b) (term_fits e) first.1 in
      omega (
        arith,
        bytes-cons (codes "find" ++ decimal c)
            (term_words a ++ (term_words b ++ term_words e)),
        bytes-append (term_words a)
            (term_words b ++ term_words e),
        bytes-append (term_words b) (term_words e),
        short c fit.0,
        term_short a first.0,
        term_short b others.0,
        term_short e others.1,
      )

  terms_short : (ts : TermTrees) → all_fit ts ≡ true
      → bytes (all_words ts) + count_terms ts ≤ 24 * sizes ts
  terms_short nil h = omega arith
  terms_short (cons t ts) h =
      let fit = both (term_fits t) (all_fit ts) h in
      omega (
        arith,
        bytes-append (term_words t)
            (all_words ts),
        term_short t fit.0,
        terms_short ts fit.1,
      )

-- ---- arguments

place_short : (p : Place) (k : ℕ) → place_fits p k ≡ true → length (place_word p k) ≤ 23
place_short place.Goal k h = omega (arith, short k h)
place_short (place.Hyp j) k h =
    let fit =
    both (is_small j) (is_small k) h in
    omega (
      arith,
      length-append (codes "@h" ++ decimal j)
          (46 ∷ decimal k),
      short j fit.0,
      short k fit.1,
    )
place_short (place.Left j) k h =
    let fit =
    both (is_small j) (is_small k) h in
    omega (
      arith,
      length-append (codes "@l" ++ decimal j)
          (46 ∷ decimal k),
      short j fit.0,
      short k fit.1,
    )
place_short (place.Right j) k h =
    let fit =
    both (is_small j) (is_small k) h in
    omega (
      arith,
      length-append (codes "@r" ++ decimal j)
          (46 ∷ decimal k),
      short j fit.0,
      short k fit.1,
    )

spot_short : {A : Type 0} (words : A → List (List ℕ)) (fits : A → Bool) (nodes : A → ℕ)
    → ((a : A) → fits a ≡ true → bytes (words a) ≤ 24 * nodes a)
    → (s : Spot A) → spot_fits fits s ≡ true → bytes (spot_words words s) ≤ 24 * spot_nodes nodes s
spot_short words fits nodes each (at p k) h =
    omega (arith, bytes-cons (place_word p k) [], place_short p k h)
spot_short words fits nodes each (written a) h = each a h

index_spot_short : (s : Spot Idx) → spot_fits index_fits s ≡ true
    → bytes (spot_words (λ i. index_word i ∷ []) s) ≤ 24 * spot_nodes (λ i. 1) s
index_spot_short s h =
    spot_short (λ i. index_word i ∷ []) index_fits (λ i. 1)
    (λ i f. omega (arith, bytes-cons (index_word i) [], index_short i f)) s h

ts_spot_short : (s : Spot TsTree) → spot_fits written_ts_fits s ≡ true
    → bytes (spot_words ts_words s) ≤ 24 * spot_nodes ts_size s
ts_spot_short s h =
    spot_short ts_words written_ts_fits ts_size
    (λ t f. ts_short t (both (is_shallow (ts_depth t)) (ts_fits t) f).1) s h

term_spot_short : (s : Spot TermTree) → spot_fits written_term_fits s ≡ true
    → bytes (spot_words term_words s) ≤ 24 * spot_nodes size s
term_spot_short s h =
    spot_short term_words written_term_fits size
    (λ t f. let all = both (is_shallow (depth t)) (term_fits t && binds_alone t) f in
    omega (arith, term_short t (both (term_fits t) (binds_alone t) all.1).0)) s h

argument_short : (a : Argument) → argument_fits a ≡ true
    → bytes (argument_words a) ≤ 24 * argument_nodes a
argument_short (number n) h = omega (arith, bytes-cons (decimal n) [], short n h)
argument_short (index_value a) h =
    omega (
      arith,
      bytes-cons (codes "i")
          (spot_words (λ i. index_word i ∷ []) a),
      index_spot_short a h,
    )
argument_short (time_value a) h =
    omega (arith, bytes-cons (codes "t") (spot_words ts_words a), ts_spot_short a h)
argument_short (time a) h = ts_spot_short a h
argument_short (term a) h = term_spot_short a h
argument_short (direction dir.Forward) h = omega arith
argument_short (direction dir.Backward) h = omega arith
argument_short (target target_of.Goal) h = omega arith
argument_short (target target_of.Items) h = omega arith
argument_short (target (target_of.Hyp n)) h = omega (arith, bytes-cons (decimal n) [], short n h)
argument_short (hand hand_of.Left) h = omega arith
argument_short (hand hand_of.Right) h = omega arith
argument_short (macro m) h = omega (arith, bytes-cons (macro_word m) [], macro_short m)

arguments_short : (args : List Argument) → list_all argument_fits args ≡ true
    → bytes (arguments_words args) ≤ 24 * arguments_nodes args
arguments_short [] h = omega arith
arguments_short (a ∷ more) h =
    let fit = both (argument_fits a) (list_all argument_fits more) h in
    omega (
      arith,
      bytes-append (argument_words a)
          (arguments_words more),
      argument_short a fit.0,
      arguments_short more fit.1,
    )

word_short : (s : Step) → nat_le (length (step_word s)) 6 ≡ true
word_short (step.Hyp a) = refl
word_short step.True = refl
word_short (step.Absurd a) = refl
word_short step.Impi = refl
word_short step.Noti = refl
word_short step.Alli = refl
word_short step.Andi = refl
word_short step.Orl = refl
word_short step.Orr = refl
word_short (step.Exi a) = refl
word_short (step.Ande a) = refl
word_short (step.Ore a) = refl
word_short (step.Impe a) = refl
word_short (step.Note a) = refl
word_short (step.Alle a b) = refl
word_short (step.Exe a) = refl
word_short (step.Cut a) = refl
word_short (step.Em a) = refl
word_short (step.Drop a) = refl
word_short (step.UseStmt a b) = refl
word_short step.Proj = refl
word_short step.Trace = refl
word_short step.Refl = refl
word_short step.Sym = refl
word_short (step.Trans a) = refl
word_short step.Arg = refl
word_short (step.Rew a b c) = refl
word_short (step.Fact a) = refl
word_short (step.O1 a) = refl
word_short (step.O2 a b c) = refl
word_short (step.O3 a b) = refl
word_short (step.O4 a b) = refl
word_short (step.O5 a b) = refl
word_short (step.O6 a) = refl
word_short (step.O7 a) = refl
word_short (step.O8 a b) = refl
word_short (step.O9 a) = refl
word_short (step.O10 a b) = refl
word_short (step.O11 a) = refl
word_short (step.O12 a b c) = refl
word_short (step.Tind a) = refl
word_short (step.X a b) = refl
word_short (step.Xu a b) = refl
word_short (step.Fresh a) = refl
word_short (step.Euf a) = refl
word_short (step.Coll a) = refl
word_short (step.Eass a) = refl
word_short step.Erefl = refl
word_short (step.Esel a) = refl
word_short (step.Efa a) = refl
word_short (step.Eatom a) = refl
word_short (step.Efre a) = refl
word_short (step.Ecase a b) = refl
word_short (step.Erep a b c) = refl
word_short (step.Eded a b) = refl
word_short (step.Eind a) = refl
word_short (step.Eprf a b c d) = refl
word_short (step.Euse a b) = refl

pub line-short : (s : Step) → is_spelled s ≡ true → length (step_line s) ≤ 24 * step_nodes s + 6
line-short s h =
    let word : length (step_word s) ≤ 6 = let test = word_short s in grind (arith, nat_tests) in
    omega (
      arith,
      length-append (step_word s)
          (blanked (arguments_words (arguments s))),
      arguments_short (arguments s) h,
    )
