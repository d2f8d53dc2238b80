-- No blank stands in a word of what is spelled.
use Rattle.std.proofs.Common.{◌≡◌, ℕ, Bool, true, ◌&&◌, List, [], ◌∷◌, ◌++◌}
use Rattle.std.proofs.Common.{length, codes, decimal, refl, arith}
use Rattle.std.specs.List.{list_all}
use Rattle.sq_base.specs.declared.sort.Sort.{Sort}
use Rattle.sq_base.specs.declared.sort.Sort.TheVariants as sort
use Rattle.sq_term.specs.declared.term.Idx.{Idx}
use Rattle.sq_term.specs.declared.term.Idx.TheVariants as idx
use Rattle.sq_term.specs.declared.term.Macro.{Macro}
use Rattle.sq_term.specs.declared.term.Macro.TheVariants as macro_of
use Rattle.sq_term.specs.Measure.{count_terms, ts_depth, depth}
use Rattle.sq_term.specs.Symbols.{function_number}
use Rattle.sq_term.specs.Syntax.{TsTree, free, bound, init, pred, action, TermTree, name, fun}
use Rattle.sq_term.specs.Syntax.{macro as macro_term, schema, diff, le, ts_eq, idx_eq, happens, all}
use Rattle.sq_term.specs.Syntax.{some, find, TermTrees, nil, cons}
use Rattle.sq_step.specs.declared.step.Place.{Place}
use Rattle.sq_step.specs.declared.step.Place.TheVariants as place
use Rattle.sq_step.specs.declared.step.Hand.TheVariants as hand_of
use Rattle.sq_step.specs.declared.step.Dir.TheVariants as dir
use Rattle.sq_step.specs.declared.step.Target.TheVariants as target_of
use Rattle.sq_cert_words.specs.Spelling.{macro_word, universal_word, existential_word, index_word}
use Rattle.sq_cert_words.specs.Spelling.{index_words, ts_words, term_words, all_words, is_small}
use Rattle.sq_cert_words.specs.Spelling.{index_fits, indices_fit, ts_fits, term_fits, all_fit}
use Rattle.sq_cert_words.specs.Spelling.{binds_alone}
use Rattle.sq_cert_steps.specs.Lines.{Spot, at, written, Argument, number, index_value, time_value}
use Rattle.sq_cert_steps.specs.Lines.{time}
use Rattle.sq_cert_steps.specs.Lines.{term, direction, target, hand, macro, place_word, place_fits}
use Rattle.sq_cert_steps.specs.Lines.{spot_words, spot_fits, argument_words, arguments_words}
use Rattle.sq_cert_steps.specs.Lines.{argument_fits, is_shallow, written_ts_fits, written_term_fits}
use Rattle.sq_cert_words.specs.declared.word.Plain.TheVariants as plain
use Rattle.sq_cert_words.specs.declared.word.Word.TheVariants as word
use Rattle.sq_cert_words.proofs.LineLaws.{IsUnparted, AreUnparted}
use Rattle.sq_cert_words.proofs.WordLaws.{unparted-append, decimal_unparted, word_unparted}
use Rattle.sq_cert_terms.proofs.ReadBack.{both, small_is}

pub are_unparted-append : (a b : List (List ℕ)) → AreUnparted a → AreUnparted b
    → AreUnparted (a ++ b)
are_unparted-append [] b ha hb = hb
are_unparted-append (w ∷ a) b ha hb = (ha.0, are_unparted-append a b ha.1 hb)

index_unparted : (i : Idx) → index_fits i ≡ true → IsUnparted (index_word i)
index_unparted (idx.Free k) h = word_unparted (word.Free k) (small_is k h)
index_unparted (idx.Bound k) h = word_unparted (word.Bound k) (small_is k h)

indices_unparted : (is : List Idx) → indices_fit is ≡ true → AreUnparted (index_words is)
indices_unparted [] h = tt
indices_unparted (i ∷ is) h = let fit = both (index_fits i) (indices_fit is) h in
    (index_unparted i fit.0, indices_unparted is fit.1)

ts_unparted : (t : TsTree) → ts_fits t ≡ true → AreUnparted (ts_words t)
ts_unparted (free k) h = (word_unparted (word.Free k) (small_is k h), tt)
ts_unparted (bound k) h = (word_unparted (word.Bound k) (small_is k h), tt)
ts_unparted init h = (word_unparted (word.Plain plain.Init) tt, tt)
ts_unparted (pred t) h = (word_unparted (word.Plain plain.Pred) tt, ts_unparted t h)
ts_unparted (action a is) h =
    let fit = both (is_small a) (is_small (length is) && indices_fit is) h in
    let lists = both (is_small (length is)) (indices_fit is) fit.1 in (
      word_unparted (word.Action a (length is))
          (small_is a fit.0, small_is (length is) lists.0),
      indices_unparted is lists.1,
    )

macro_unparted : (m : Macro) → IsUnparted (macro_word m)
macro_unparted macro_of.Input = word_unparted (word.Plain plain.Input) tt
macro_unparted macro_of.Output = word_unparted (word.Plain plain.Output) tt
macro_unparted macro_of.Cond = word_unparted (word.Plain plain.Cond) tt
macro_unparted macro_of.Exec = word_unparted (word.Plain plain.Exec) tt
macro_unparted macro_of.Frame = word_unparted (word.Plain plain.Frame) tt

universal_unparted : (s : Sort) → IsUnparted (universal_word s)
universal_unparted sort.Index = word_unparted (word.Plain plain.ForallIndex) tt
universal_unparted sort.Timestamp = word_unparted (word.Plain plain.ForallTimestamp) tt
universal_unparted sort.Message = tt
universal_unparted sort.Boolean = tt

existential_unparted : (s : Sort) → IsUnparted (existential_word s)
existential_unparted sort.Index = word_unparted (word.Plain plain.ExistsIndex) tt
existential_unparted sort.Timestamp = word_unparted (word.Plain plain.ExistsTimestamp) tt
existential_unparted sort.Message = tt
existential_unparted sort.Boolean = tt

two_ts_unparted : (a b : TsTree) → (ts_fits a && ts_fits b) ≡ true
    → AreUnparted (ts_words a ++ ts_words b)
two_ts_unparted a b h = let fit =
    both (ts_fits a) (ts_fits b) h in
    are_unparted-append (ts_words a) (ts_words b) (ts_unparted a fit.0) (ts_unparted b fit.1)

mutual
  term_unparted : (t : TermTree) → term_fits t ≡ true → AreUnparted (term_words t)
  term_unparted (name n is) h =
      let fit = both (is_small n) (is_small (length is) && indices_fit is) h in
      let lists = both (is_small (length is)) (indices_fit is) fit.1 in (
        word_unparted (word.Name n (length is))
            (small_is n fit.0, small_is (length is) lists.0),
        indices_unparted is lists.1,
      )
  term_unparted (fun f is ts) h =
      let fit =
      both (is_small (function_number f))
      ((is_small (length is) && indices_fit is) && (is_small (count_terms ts) && all_fit ts)) h
      in
      let lists =
      both (is_small (length is) && indices_fit is)
      (is_small (count_terms ts) && all_fit ts) fit.1 in
      let indices_are = both (is_small (length is)) (indices_fit is) lists.0 in
      let terms_are = both (is_small (count_terms ts)) (all_fit ts) lists.1 in (
        word_unparted (word.Function (function_number f) (length is) (count_terms ts)) (
          small_is (function_number f) fit.0,
          small_is (length is) indices_are.0,
          small_is
              (count_terms ts) terms_are.0,
        ),
        are_unparted-append (index_words is) (all_words ts) (indices_unparted is indices_are.1)
            (terms_unparted ts terms_are.1),
      )
  term_unparted (macro_term m t) h = (macro_unparted m, ts_unparted t h)
  term_unparted (schema k) h = (word_unparted (word.Schema k) (small_is k h), tt)
  term_unparted (diff a b) h =
      let fit = both (term_fits a) (term_fits b) h in (
        word_unparted (word.Plain plain.Diff) tt,
        are_unparted-append (term_words a) (term_words b)
            (term_unparted a fit.0) (term_unparted b fit.1),
      )
  term_unparted (le a b) h = (word_unparted (word.Plain plain.Le) tt, two_ts_unparted a b h)
  term_unparted (ts_eq a b) h = (word_unparted (word.Plain plain.TsEq) tt, two_ts_unparted a b h)
  term_unparted (idx_eq i j) h =
      let fit = both (index_fits i) (index_fits j) h in (
        word_unparted (word.Plain plain.IdxEq) tt,
        (index_unparted i fit.0, (index_unparted j fit.1, tt)),
      )
  term_unparted (happens t) h = (word_unparted (word.Plain plain.Happens) tt, ts_unparted t h)
  term_unparted (all s t) h = (universal_unparted s, term_unparted t h)
  term_unparted (some s t) h = (existential_unparted s, term_unparted t h)
  term_unparted (find c a b e) h =
      let fit = both (is_small c) (term_fits a && (term_fits b && term_fits e)) h in
      let first = both (term_fits a) (term_fits b && term_fits e) fit.1 in
      let others = both (term_fits b) (term_fits e) first.1 in (
        word_unparted (word.Find c) (small_is c fit.0),
        are_unparted-append (term_words a) (term_words b ++ term_words e) (term_unparted a first.0)
            (are_unparted-append (term_words b) (term_words e) (term_unparted b others.0)
            (term_unparted e others.1)),
      )

  terms_unparted : (ts : TermTrees) → all_fit ts ≡ true → AreUnparted (all_words ts)
  terms_unparted nil h = tt
  terms_unparted (cons t ts) h =
      let fit =
      both (term_fits t) (all_fit ts) h in
      are_unparted-append (term_words t) (all_words ts) (term_unparted t fit.0)
      (terms_unparted ts fit.1)

-- ---- arguments

dotted : (front : List ℕ) (k : ℕ) → IsUnparted front → is_small k ≡ true
    → IsUnparted (front ++ 46 ∷ decimal k)
dotted front k h small =
    unparted-append front (46 ∷ decimal k) h
    (refl, decimal_unparted k (omega (arith, small_is k small)))

place_unparted : (p : Place) (k : ℕ) → place_fits p k ≡ true → IsUnparted (place_word p k)
place_unparted place.Goal k h = dotted (codes "@g") k (refl, (refl, tt)) h
place_unparted (place.Hyp j) k h =
    let fit =
    both (is_small j) (is_small k) h in
    dotted (codes "@h" ++ decimal j) k
    (refl, (refl, decimal_unparted j (omega (arith, small_is j fit.0)))) fit.1
place_unparted (place.Left j) k h =
    let fit =
    both (is_small j) (is_small k) h in
    dotted (codes "@l" ++ decimal j) k
    (refl, (refl, decimal_unparted j (omega (arith, small_is j fit.0)))) fit.1
place_unparted (place.Right j) k h =
    let fit =
    both (is_small j) (is_small k) h in
    dotted (codes "@r" ++ decimal j) k
    (refl, (refl, decimal_unparted j (omega (arith, small_is j fit.0)))) fit.1

spot_unparted : {A : Type 0} (words : A → List (List ℕ)) (fits : A → Bool)
    → ((a : A) → fits a ≡ true → AreUnparted (words a)) → (s : Spot A) → spot_fits fits s ≡ true
    → AreUnparted (spot_words words s)
spot_unparted words fits each (at p k) h = (place_unparted p k h, tt)
spot_unparted words fits each (written a) h = each a h

written_ts_unparted : (t : TsTree) → written_ts_fits t ≡ true → AreUnparted (ts_words t)
written_ts_unparted t h = ts_unparted t (both (is_shallow (ts_depth t)) (ts_fits t) h).1

written_term_unparted : (t : TermTree) → written_term_fits t ≡ true → AreUnparted (term_words t)
written_term_unparted t h =
    term_unparted t
    (both (term_fits t) (binds_alone t)
    (both (is_shallow (depth t)) (term_fits t && binds_alone t) h).1).0

argument_unparted : (a : Argument) → argument_fits a ≡ true → AreUnparted (argument_words a)
argument_unparted (number n) h = (decimal_unparted n (omega (arith, small_is n h)), tt)
argument_unparted (index_value a) h = (
  (refl, tt),
  spot_unparted (λ i. index_word i ∷ []) index_fits
      (λ i f. (index_unparted i f, tt)) a h,
)
argument_unparted (time_value a) h =
    ((refl, tt), spot_unparted ts_words written_ts_fits written_ts_unparted a h)
argument_unparted (time a) h = spot_unparted ts_words written_ts_fits written_ts_unparted a h
argument_unparted (term a) h = spot_unparted term_words written_term_fits written_term_unparted a h
argument_unparted (direction dir.Forward) h = ((refl, tt), tt)
argument_unparted (direction dir.Backward) h = ((refl, tt), tt)
argument_unparted (target target_of.Goal) h = ((refl, tt), tt)
argument_unparted (target target_of.Items) h = ((refl, tt), tt)
argument_unparted (target (target_of.Hyp n)) h =
    (decimal_unparted n (omega (arith, small_is n h)), tt)
argument_unparted (hand hand_of.Left) h = ((refl, tt), tt)
argument_unparted (hand hand_of.Right) h = ((refl, tt), tt)
argument_unparted (macro m) h = (macro_unparted m, tt)

pub arguments_unparted : (args : List Argument) → list_all argument_fits args ≡ true
    → AreUnparted (arguments_words args)
arguments_unparted [] h = tt
arguments_unparted (a ∷ more) h =
    let fit = both (argument_fits a) (list_all argument_fits more) h in
    are_unparted-append (argument_words a) (arguments_words more) (argument_unparted a fit.0)
    (arguments_unparted more fit.1)
