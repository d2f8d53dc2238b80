-- What is spelled can be written.
use Rattle.std.proofs.Common.{◌≡◌, true, ◌&&◌, List, [], ◌∷◌, length, refl}
use Rattle.std.specs.List.{list_all}
use Rattle.sq_term.specs.Measure.{count_terms, ts_depth, depth}
use Rattle.sq_term.specs.Symbols.{function_number}
use Rattle.sq_term.specs.Syntax.{TsTree, free, bound, init, pred, action, TermTree, name, fun}
use Rattle.sq_term.specs.Syntax.{macro as macro_term, schema, diff, le, ts_eq, idx_eq, happens, all}
use Rattle.sq_term.specs.Syntax.{some, find, TermTrees, nil, cons}
use Rattle.sq_step.specs.declared.step.Step.{Step}
use Rattle.sq_cert_words.specs.Spelling.{is_small, indices_fit, ts_fits, term_fits, all_fit}
use Rattle.sq_cert_words.specs.Spelling.{ts_counts_fit, counts_fit, all_counts_fit, binds_alone}
use Rattle.sq_cert_steps.specs.Lines.{at, written, Argument, number, index_value, time_value, time}
use Rattle.sq_cert_steps.specs.Lines.{term}
use Rattle.sq_cert_steps.specs.Lines.{direction, target, hand, macro, argument_fits}
use Rattle.sq_cert_steps.specs.Lines.{argument_writable}
use Rattle.sq_cert_steps.specs.Lines.{is_shallow, arguments, is_spelled, is_writable}
use Rattle.sq_cert_terms.proofs.ReadBack.{both}
use Rattle.sq_cert_terms.proofs.Told.{and_true}

ts_counts : (t : TsTree) → ts_fits t ≡ true → ts_counts_fit t ≡ true
ts_counts (free k) h = refl
ts_counts (bound k) h = refl
ts_counts init h = refl
ts_counts (pred t) h = ts_counts t h
ts_counts (action a is) h =
    (both (is_small (length is)) (indices_fit is)
    (both (is_small a) (is_small (length is) && indices_fit is) h).1).0

two_ts_counts : (a b : TsTree) → (ts_fits a && ts_fits b) ≡ true
    → (ts_counts_fit a && ts_counts_fit b) ≡ true
two_ts_counts a b h = let fit =
    both (ts_fits a) (ts_fits b) h in
    and_true (ts_counts_fit a) (ts_counts_fit b) (ts_counts a fit.0) (ts_counts b fit.1)

mutual
  counts : (t : TermTree) → term_fits t ≡ true → counts_fit t ≡ true
  counts (name n is) h =
      (both (is_small (length is)) (indices_fit is)
      (both (is_small n) (is_small (length is) && indices_fit is) h).1).0
  counts (fun f is ts) h =
      let fit =
      both (is_small (function_number f))
      ((is_small (length is) && indices_fit is) && (is_small (count_terms ts) && all_fit ts)) h
      in
      let lists =
      both (is_small (length is) && indices_fit is)
      (is_small (count_terms ts) && all_fit ts) fit.1 in
      let terms_are = both (is_small (count_terms ts)) (all_fit ts) lists.1 in
      and_true (is_small (length is)) (is_small (count_terms ts) && all_counts_fit ts)
      (both (is_small (length is)) (indices_fit is) lists.0).0
      (and_true (is_small (count_terms ts)) (all_counts_fit ts) terms_are.0
      (all_counts ts terms_are.1))
  counts (macro_term m t) h = ts_counts t h
  counts (schema k) h = refl
  counts (diff a b) h = let fit =
      both (term_fits a) (term_fits b) h in
      and_true (counts_fit a) (counts_fit b) (counts a fit.0) (counts b fit.1)
  counts (le a b) h = two_ts_counts a b h
  counts (ts_eq a b) h = two_ts_counts a b h
  counts (idx_eq i j) h = refl
  counts (happens t) h = ts_counts t h
  counts (all s t) h = counts t h
  counts (some s t) h = counts t h
  counts (find c a b e) h =
      let fit = both (is_small c) (term_fits a && (term_fits b && term_fits e)) h in
      let first = both (term_fits a) (term_fits b && term_fits e) fit.1 in
      let others = both (term_fits b) (term_fits e) first.1 in
      and_true (counts_fit a) (counts_fit b && counts_fit e) (counts a first.0)
      (and_true (counts_fit b) (counts_fit e) (counts b others.0) (counts e others.1))

  all_counts : (ts : TermTrees) → all_fit ts ≡ true → all_counts_fit ts ≡ true
  all_counts nil h = refl
  all_counts (cons t ts) h = let fit =
      both (term_fits t) (all_fit ts) h in
      and_true (counts_fit t) (all_counts_fit ts) (counts t fit.0) (all_counts ts fit.1)

written_ts : (t : TsTree) → (is_shallow (ts_depth t) && ts_fits t) ≡ true
    → (is_shallow (ts_depth t) && ts_counts_fit t) ≡ true
written_ts t h = let fit = both (is_shallow (ts_depth t)) (ts_fits t) h in
    and_true (is_shallow (ts_depth t)) (ts_counts_fit t) fit.0 (ts_counts t fit.1)

written_term : (t : TermTree) → (is_shallow (depth t) && (term_fits t && binds_alone t)) ≡ true
    → (is_shallow (depth t) && (counts_fit t && binds_alone t)) ≡ true
written_term t h =
    let fit = both (is_shallow (depth t)) (term_fits t && binds_alone t) h in
    let parts = both (term_fits t) (binds_alone t) fit.1 in
    and_true (is_shallow (depth t)) (counts_fit t && binds_alone t) fit.0
    (and_true (counts_fit t) (binds_alone t) (counts t parts.0) parts.1)

argument_can : (a : Argument) → argument_fits a ≡ true → argument_writable a ≡ true
argument_can (number n) h = refl
argument_can (index_value a) h = refl
argument_can (time_value (at p k)) h = refl
argument_can (time_value (written t)) h = written_ts t h
argument_can (time (at p k)) h = refl
argument_can (time (written t)) h = written_ts t h
argument_can (term (at p k)) h = refl
argument_can (term (written t)) h = written_term t h
argument_can (direction d) h = refl
argument_can (target t) h = refl
argument_can (hand h) f = refl
argument_can (macro m) h = refl

arguments_can : (args : List Argument) → list_all argument_fits args ≡ true
    → list_all argument_writable args ≡ true
arguments_can [] h = refl
arguments_can (a ∷ more) h =
    let fit = both (argument_fits a) (list_all argument_fits more) h in
    and_true (argument_writable a) (list_all argument_writable more) (argument_can a fit.0)
    (arguments_can more fit.1)

pub spelled-writable : (s : Step) → is_spelled s ≡ true → is_writable s ≡ true
spelled-writable s h = arguments_can (arguments s) h
