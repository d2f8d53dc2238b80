-- What is spelled is read back: indices, timestamps and terms that fit.
use Rattle.std.proofs.Common.{◌≡◌, ◌<◌, ◌≤◌, ◌^◌, ℕ, zero, suc, Bool, true, false}
use Rattle.std.proofs.Common.{◌&&◌, nat_eq, nat_lt, List, [], ◌∷◌, ◌++◌, length, Some}
use Rattle.std.proofs.Common.{refl, sym, ap, ◌∙◌, append_assoc, append-nil, arith}
use Rattle.std.proofs.lemmas.Bool.Decides.{nat_tests}
use Rattle.sq_base.specs.declared.sort.Sort.{Sort}
use Rattle.sq_base.specs.declared.sort.Sort.TheVariants as sort
use Rattle.sq_term.specs.declared.term.Idx.{Idx}
use Rattle.sq_term.specs.declared.term.Idx.TheVariants as idx
use Rattle.sq_term.specs.declared.term.Macro.{Macro}
use Rattle.sq_term.specs.declared.term.Macro.TheVariants as macro_of
use Rattle.sq_term.specs.Measure.{count_terms, indices_depth, ts_depth, depth, depths}
use Rattle.sq_term.specs.Pure.{is_binder_sort}
use Rattle.sq_term.specs.Symbols.{function_number, kind_of}
use Rattle.sq_term.specs.Syntax.{TsTree, free, bound, init, pred, action, TermTree, name, fun}
use Rattle.sq_term.specs.Syntax.{macro, schema, diff, le, ts_eq, idx_eq, happens, all, some, find}
use Rattle.sq_term.specs.Syntax.{TermTrees, nil, cons}
use Rattle.sq_term.specs.View.{row}
use Rattle.sq_term.proofs.KindNumbers.{kind_of-function_number}
use Rattle.sq_cert_words.specs.Spelling.{universal_word, existential_word, index_word}
use Rattle.sq_cert_words.specs.Spelling.{index_words, ts_words, term_words, all_words, is_small}
use Rattle.sq_cert_words.specs.Spelling.{index_fits, indices_fit, ts_fits, term_fits, all_fit}
use Rattle.sq_cert_words.specs.Spelling.{binds_alone, all_bind_alone}
use Rattle.sq_cert_words.specs.declared.word.Plain.TheVariants as plain
use Rattle.sq_cert_words.specs.declared.word.Word.{Word}
use Rattle.sq_cert_words.specs.declared.word.Word.TheVariants as word
use Rattle.sq_cert_words.specs.Words.{word_text, IsSmall}
use Rattle.sq_cert_words.specs.Reads.{Found, followed, as_found, head_word}
use Rattle.sq_cert_words.proofs.WordLaws.{word_reads}
use Rattle.sq_cert_terms.specs.Reading.{index_at, index, indices_on, indices, ts_at, ts, terms_on}
use Rattle.sq_cert_terms.specs.Reading.{a_macro, two_times, two_terms, three_terms, over}
use Rattle.sq_cert_terms.specs.Reading.{two_indices, term_at, term, applied}

pub both : (a b : Bool) → (a && b) ≡ true → (a ≡ true) × (b ≡ true)
both true true e = (refl, refl)
both true false e = cc
both false b e = cc

pub small_is : (n : ℕ) → is_small n ≡ true → n < 2 ^ 32
small_is n h = grind (arith, nat_tests)

-- a word at the front, and what a reader found
pub head_reads : {A : Type 0} (w : Word) (ws : List (List ℕ)) (f : Word → List (List ℕ) → Found A)
    → IsSmall w → followed (head_word (word_text w ∷ ws)) f ≡ f w ws
head_reads w ws f h = ap (λ o. followed (as_found o ws) f) (word_reads w h)

pub next : {A B : Type 0} (m : Found A) (a : A) (r : List (List ℕ))
    (f : A → List (List ℕ) → Found B) → m ≡ Some (a, r) → followed m f ≡ f a r
next m a r f e = ap (λ m. followed m f) e

-- ---- indices

pub index_reads : (i : Idx) (ws : List (List ℕ)) → index_fits i ≡ true
    → index (index_word i ∷ ws) ≡ Some (i, ws)
unfolding index
index_reads (idx.Free k) ws h = head_reads (word.Free k) ws index_at (small_is k h)
index_reads (idx.Bound k) ws h = head_reads (word.Bound k) ws index_at (small_is k h)

indices_on_reads : (is front : List Idx) (ws : List (List ℕ)) → indices_fit is ≡ true
    → indices_on front (length is) (index_words is ++ ws) ≡ Some (front ++ is, ws)
unfolding indices_on
indices_on_reads [] front ws h = ap (λ x. Some (x, ws)) (sym (append-nil front))
indices_on_reads (i ∷ is) front ws h =
    let fit = both (index_fits i) (indices_fit is) h in
    next (index (index_word i ∷ (index_words is ++ ws))) i (index_words is ++ ws)
    (λ j r. indices_on (front ++ j ∷ []) (length is) r)
    (index_reads i (index_words is ++ ws) fit.0)
    ∙ indices_on_reads is (front ++ i ∷ []) ws fit.1
    ∙ ap (λ x. Some (x, ws)) (append_assoc front (i ∷ []) is)

has_room : (room : ℕ) (is : List Idx) → indices_depth is ≤ room
    → (nat_eq room 0 && nat_lt 0 (length is)) ≡ false
has_room room [] h = by (nat_eq room 0)
  where
    by : (b : Bool) → (b && nat_lt 0 0) ≡ false
    by true = refl
    by false = refl
has_room room (i ∷ is) h = let some : nat_eq room 0 ≡ false = grind (arith, nat_tests) in rw some

pub indices_read : (room : ℕ) (is : List Idx) (ws : List (List ℕ)) → indices_depth is ≤ room
    → indices_fit is ≡ true → indices room (length is) (index_words is ++ ws) ≡ Some (is, ws)
indices_read room is ws deep h = let t = has_room room is deep in rw t (indices_on_reads is [] ws h)

-- ---- timestamps

ts_depth-some : (t : TsTree) → 1 ≤ ts_depth t
ts_depth-some (free k) = omega arith
ts_depth-some (bound k) = omega arith
ts_depth-some init = omega arith
ts_depth-some (pred t) = omega arith
ts_depth-some (action a is) = omega arith

pub ts_reads : (t : TsTree) (d : ℕ) (ws : List (List ℕ)) → ts_depth t ≤ d → ts_fits t ≡ true
    → ts d (ts_words t ++ ws) ≡ Some (t, ws)
unfolding ts
ts_reads t zero ws deep h = absurd (omega (arith, ts_depth-some t))
ts_reads (free k) (suc room) ws deep h =
    head_reads (word.Free k) ws (ts_at room (ts room)) (small_is k h)
ts_reads (bound k) (suc room) ws deep h =
    head_reads (word.Bound k) ws (ts_at room (ts room)) (small_is k h)
ts_reads init (suc room) ws deep h = head_reads (word.Plain plain.Init) ws (ts_at room (ts room)) tt
ts_reads (pred t) (suc room) ws deep h =
    head_reads (word.Plain plain.Pred) (ts_words t ++ ws) (ts_at room (ts room)) tt
    ∙ next (ts room (ts_words t ++ ws)) t ws (λ t r. Some (pred t, r))
    (ts_reads t room ws (omega arith) h)
ts_reads (action a is) (suc room) ws deep h =
    let fit = both (is_small a) (is_small (length is) && indices_fit is) h in
    let fits = both (is_small (length is)) (indices_fit is) fit.1 in
    head_reads (word.Action a (length is)) (index_words is ++ ws) (ts_at room (ts room))
    (small_is a fit.0, small_is (length is) fits.0)
    ∙ next (indices room (length is) (index_words is ++ ws)) is ws (λ is r. Some (action a is, r))
    (indices_read room is ws (omega arith) fits.1)

-- ---- terms

abbrev pub list_of : TermTrees → List TermTree
list_of nil = []
list_of (cons t ts) = t ∷ list_of ts

row-list_of : (ts : TermTrees) → row (list_of ts) ≡ ts
row-list_of nil = refl
row-list_of (cons t ts) = ap (cons t) (row-list_of ts)

pub depth-some : (t : TermTree) → 1 ≤ depth t
depth-some (name n is) = omega arith
depth-some (fun f is ts) = omega arith
depth-some (macro m t) = omega arith
depth-some (schema k) = omega arith
depth-some (diff a b) = omega arith
depth-some (le a b) = omega arith
depth-some (ts_eq a b) = omega arith
depth-some (idx_eq i j) = omega arith
depth-some (happens t) = omega arith
depth-some (all s t) = omega arith
depth-some (some s t) = omega arith
depth-some (find c a b e) = omega arith

times_read : (f : TsTree → TsTree → TermTree) (a b : TsTree) (room : ℕ) (ws : List (List ℕ))
    → ts_depth a ≤ room → ts_depth b ≤ room → (ts_fits a && ts_fits b) ≡ true
    → two_times f room ((ts_words a ++ ts_words b) ++ ws) ≡ Some (f a b, ws)
times_read f a b room ws deep_a deep_b h =
    let fit = both (ts_fits a) (ts_fits b) h in
    ap (two_times f room) (append_assoc (ts_words a) (ts_words b) ws)
    ∙ next (ts room (ts_words a ++ (ts_words b ++ ws))) a (ts_words b ++ ws)
    (λ t r. followed (ts room r) (λ s q. Some (f t s, q)))
    (ts_reads a room (ts_words b ++ ws) deep_a fit.0)
    ∙ next (ts room (ts_words b ++ ws)) b ws (λ s q. Some (f a s, q))
    (ts_reads b room ws deep_b fit.1)

macro_reads : (m : Macro) (t : TsTree) (room : ℕ) (ws : List (List ℕ)) → ts_depth t ≤ room
    → ts_fits t ≡ true → a_macro m room (ts_words t ++ ws) ≡ Some (macro m t, ws)
macro_reads m t room ws deep h =
    next (ts room (ts_words t ++ ws)) t ws (λ t r. Some (macro m t, r)) (ts_reads t room ws deep h)

equation_reads : (i j : Idx) (room : ℕ) (ws : List (List ℕ)) → 1 ≤ room
    → (index_fits i && index_fits j) ≡ true → two_indices room (index_word i ∷ index_word j ∷ ws)
    ≡ Some (idx_eq i j, ws)
equation_reads i j zero ws deep h = absurd (omega arith)
equation_reads i j (suc room) ws deep h =
    let fit = both (index_fits i) (index_fits j) h in
    next (index (index_word i ∷ index_word j ∷ ws)) i (index_word j ∷ ws)
    (λ i r. followed (index r) (λ j q. Some (idx_eq i j, q)))
    (index_reads i (index_word j ∷ ws) fit.0)
    ∙ next (index (index_word j ∷ ws)) j ws (λ j q. Some (idx_eq i j, q)) (index_reads j ws fit.1)

-- a part of this depth is read back
abbrev ReadsBack : ℕ → TermTree → Type 0
ReadsBack room t = (ws : List (List ℕ)) → term room (term_words t ++ ws) ≡ Some (t, ws)

under_reads : (f : TermTree → TermTree) (t : TermTree) (room : ℕ) (ws : List (List ℕ))
    → ReadsBack room t → over f (term room) (term_words t ++ ws) ≡ Some (f t, ws)
under_reads f t room ws h = next (term room (term_words t ++ ws)) t ws (λ t r. Some (f t, r)) (h ws)

all_reads : (s : Sort) (t : TermTree) (room : ℕ) (ws : List (List ℕ)) → is_binder_sort s ≡ true
    → ReadsBack room t → term (suc room) (universal_word s ∷ (term_words t ++ ws))
    ≡ Some (all s t, ws)
unfolding term
all_reads sort.Index t room ws sorted h =
    head_reads (word.Plain plain.ForallIndex) (term_words t ++ ws) (term_at room (term room)) tt
    ∙ under_reads (all sort.Index) t room ws h
all_reads sort.Timestamp t room ws sorted h =
    head_reads (word.Plain plain.ForallTimestamp) (term_words t ++ ws) (term_at room (term room)) tt
    ∙ under_reads (all sort.Timestamp) t room ws h
all_reads sort.Message t room ws sorted h = cc
all_reads sort.Boolean t room ws sorted h = cc

some_reads : (s : Sort) (t : TermTree) (room : ℕ) (ws : List (List ℕ)) → is_binder_sort s ≡ true
    → ReadsBack room t → term (suc room) (existential_word s ∷ (term_words t ++ ws))
    ≡ Some (some s t, ws)
unfolding term
some_reads sort.Index t room ws sorted h =
    head_reads (word.Plain plain.ExistsIndex) (term_words t ++ ws) (term_at room (term room)) tt
    ∙ under_reads (some sort.Index) t room ws h
some_reads sort.Timestamp t room ws sorted h =
    head_reads (word.Plain plain.ExistsTimestamp) (term_words t ++ ws) (term_at room (term room)) tt
    ∙ under_reads (some sort.Timestamp) t room ws h
some_reads sort.Message t room ws sorted h = cc
some_reads sort.Boolean t room ws sorted h = cc

diff_reads : (a b : TermTree) (room : ℕ) (ws : List (List ℕ)) → ReadsBack room a → ReadsBack room b
    → two_terms (term room) ((term_words a ++ term_words b) ++ ws) ≡ Some (diff a b, ws)
diff_reads a b room ws first second =
    ap (two_terms (term room)) (append_assoc (term_words a) (term_words b) ws)
    ∙ next (term room (term_words a ++ (term_words b ++ ws))) a (term_words b ++ ws)
    (λ a r. followed (term room r) (λ b q. Some (diff a b, q))) (first (term_words b ++ ws))
    ∙ next (term room (term_words b ++ ws)) b ws (λ b q. Some (diff a b, q)) (second ws)

find_reads : (c : ℕ) (a b e : TermTree) (room : ℕ) (ws : List (List ℕ)) → ReadsBack room a
    → ReadsBack room b → ReadsBack room e
    → three_terms c (term room) ((term_words a ++ (term_words b ++ term_words e)) ++ ws)
    ≡ Some (find c a b e, ws)
find_reads c a b e room ws first second third =
    ap (three_terms c (term room)) (append_assoc (term_words a) (term_words b ++ term_words e) ws
    ∙ ap (λ x. term_words a ++ x) (append_assoc (term_words b) (term_words e) ws))
    ∙ next (term room (term_words a ++ (term_words b ++ (term_words e ++ ws)))) a
    (term_words b ++ (term_words e ++ ws))
    (λ a r. followed (term room r) (λ b q. followed (term room q) (λ e p. Some (find c a b e, p))))
    (first (term_words b ++ (term_words e ++ ws)))
    ∙ next (term room (term_words b ++ (term_words e ++ ws))) b (term_words e ++ ws)
    (λ b q. followed (term room q) (λ e p. Some (find c a b e, p)))
    (second (term_words e ++ ws))
    ∙ next (term room (term_words e ++ ws)) e ws (λ e p. Some (find c a b e, p)) (third ws)

fun_reads : (f : ℕ) (is : List Idx) (ts : TermTrees) (room : ℕ) (ws : List (List ℕ))
    → indices_depth is ≤ room → indices_fit is ≡ true
    → terms_on (term room) [] (count_terms ts) (all_words ts ++ ws) ≡ Some (list_of ts, ws)
    → applied f (length is) (count_terms ts) room (term room)
    ((index_words is ++ all_words ts) ++ ws) ≡ Some (fun (kind_of f) is ts, ws)
fun_reads f is ts room ws deep h parts =
    ap (applied f (length is) (count_terms ts) room (term room))
    (append_assoc (index_words is) (all_words ts) ws)
    ∙ next (indices room (length is) (index_words is ++ (all_words ts ++ ws))) is
    (all_words ts ++ ws)
    (λ is r. followed (terms_on (term room) [] (count_terms ts) r)
    (λ ts q. Some (fun (kind_of f) is (row ts), q)))
    (indices_read room is (all_words ts ++ ws) deep h)
    ∙ next (terms_on (term room) [] (count_terms ts) (all_words ts ++ ws)) (list_of ts) ws
    (λ ts q. Some (fun (kind_of f) is (row ts), q)) parts
    ∙ ap (λ x. Some (fun (kind_of f) is x, ws)) (row-list_of ts)

mutual
  unfolding term terms_on

  pub term_reads : (t : TermTree) (d : ℕ) (ws : List (List ℕ)) → depth t ≤ d → term_fits t ≡ true
      → binds_alone t ≡ true → term d (term_words t ++ ws) ≡ Some (t, ws)
  term_reads t zero ws deep h b = absurd (omega (arith, depth-some t))
  term_reads (name n is) (suc room) ws deep h b =
      let fit = both (is_small n) (is_small (length is) && indices_fit is) h in
      let fits = both (is_small (length is)) (indices_fit is) fit.1 in
      head_reads (word.Name n (length is)) (index_words is ++ ws) (term_at room (term room))
      (small_is n fit.0, small_is (length is) fits.0)
      ∙ next (indices room (length is) (index_words is ++ ws)) is ws (λ is r. Some (name n is, r))
      (indices_read room is ws (omega arith) fits.1)
  term_reads (fun f is ts) (suc room) ws deep h b =
      let fit =
      both (is_small (function_number f))
      ((is_small (length is) && indices_fit is) && (is_small (count_terms ts) && all_fit ts)) h
      in
      let lists =
      both (is_small (length is) && indices_fit is)
      (is_small (count_terms ts) && all_fit ts) fit.1 in
      let indices_are = both (is_small (length is)) (indices_fit is) lists.0 in
      let terms_are = both (is_small (count_terms ts)) (all_fit ts) lists.1 in
      head_reads (word.Function (function_number f) (length is) (count_terms ts))
      ((index_words is ++ all_words ts) ++ ws) (term_at room (term room)) (
        small_is (function_number f) fit.0,
        small_is (length is) indices_are.0,
        small_is
            (count_terms ts) terms_are.0,
      )
      ∙ fun_reads (function_number f) is ts room ws (omega arith) indices_are.1
      (terms_read ts room [] ws (omega arith) terms_are.1 b)
      ∙ ap (λ x. Some (fun x is ts, ws)) (kind_of-function_number f)
  term_reads (macro macro_of.Input t) (suc room) ws deep h b =
      head_reads (word.Plain plain.Input) (ts_words t ++ ws) (term_at room (term room)) tt
      ∙ macro_reads macro_of.Input t room ws (omega arith) h
  term_reads (macro macro_of.Output t) (suc room) ws deep h b =
      head_reads (word.Plain plain.Output) (ts_words t ++ ws) (term_at room (term room)) tt
      ∙ macro_reads macro_of.Output t room ws (omega arith) h
  term_reads (macro macro_of.Cond t) (suc room) ws deep h b =
      head_reads (word.Plain plain.Cond) (ts_words t ++ ws) (term_at room (term room)) tt
      ∙ macro_reads macro_of.Cond t room ws (omega arith) h
  term_reads (macro macro_of.Exec t) (suc room) ws deep h b =
      head_reads (word.Plain plain.Exec) (ts_words t ++ ws) (term_at room (term room)) tt
      ∙ macro_reads macro_of.Exec t room ws (omega arith) h
  term_reads (macro macro_of.Frame t) (suc room) ws deep h b =
      head_reads (word.Plain plain.Frame) (ts_words t ++ ws) (term_at room (term room)) tt
      ∙ macro_reads macro_of.Frame t room ws (omega arith) h
  term_reads (schema k) (suc room) ws deep h b =
      head_reads (word.Schema k) ws (term_at room (term room)) (small_is k h)
  term_reads (diff a e) (suc room) ws deep h b =
      let fit = both (term_fits a) (term_fits e) h in
      let alone = both (binds_alone a) (binds_alone e) b in
      head_reads (word.Plain plain.Diff) ((term_words a ++ term_words e) ++ ws)
      (term_at room (term room)) tt
      ∙ diff_reads a e room ws (λ r. term_reads a room r (omega arith) fit.0 alone.0)
      (λ r. term_reads e room r (omega arith) fit.1 alone.1)
  term_reads (le a e) (suc room) ws deep h b =
      head_reads (word.Plain plain.Le) ((ts_words a ++ ts_words e) ++ ws)
      (term_at room (term room)) tt ∙ times_read le a e room ws (omega arith) (omega arith) h
  term_reads (ts_eq a e) (suc room) ws deep h b =
      head_reads (word.Plain plain.TsEq) ((ts_words a ++ ts_words e) ++ ws)
      (term_at room (term room)) tt ∙ times_read ts_eq a e room ws (omega arith) (omega arith) h
  term_reads (idx_eq i j) (suc room) ws deep h b =
      head_reads (word.Plain plain.IdxEq) (index_word i ∷ index_word j ∷ ws)
      (term_at room (term room)) tt ∙ equation_reads i j room ws (omega arith) h
  term_reads (happens t) (suc room) ws deep h b =
      head_reads (word.Plain plain.Happens) (ts_words t ++ ws) (term_at room (term room)) tt
      ∙ next (ts room (ts_words t ++ ws)) t ws (λ t r. Some (happens t, r))
      (ts_reads t room ws (omega arith) h)
  term_reads (all s t) (suc room) ws deep h b =
      let alone = both (is_binder_sort s) (binds_alone t) b in
      all_reads s t room ws alone.0 (λ r. term_reads t room r (omega arith) h alone.1)
  term_reads (some s t) (suc room) ws deep h b =
      let alone = both (is_binder_sort s) (binds_alone t) b in
      some_reads s t room ws alone.0 (λ r. term_reads t room r (omega arith) h alone.1)
  term_reads (find c a e i) (suc room) ws deep h b =
      let fit = both (is_small c) (term_fits a && (term_fits e && term_fits i)) h in
      let first = both (term_fits a) (term_fits e && term_fits i) fit.1 in
      let others = both (term_fits e) (term_fits i) first.1 in
      let one = both (binds_alone a) (binds_alone e && binds_alone i) b in
      let two = both (binds_alone e) (binds_alone i) one.1 in
      head_reads (word.Find c) ((term_words a ++ (term_words e ++ term_words i)) ++ ws)
      (term_at room (term room)) (small_is c fit.0)
      ∙ find_reads c a e i room ws (λ r. term_reads a room r (omega arith) first.0 one.0)
      (λ r. term_reads e room r (omega arith) others.0 two.0)
      (λ r. term_reads i room r (omega arith) others.1 two.1)

  terms_read : (ts : TermTrees) (d : ℕ) (front : List TermTree) (ws : List (List ℕ)) → depths ts ≤ d
      → all_fit ts ≡ true → all_bind_alone ts ≡ true
      → terms_on (term d) front (count_terms ts) (all_words ts ++ ws)
      ≡ Some (front ++ list_of ts, ws)
  terms_read nil d front ws deep h b = ap (λ x. Some (x, ws)) (sym (append-nil front))
  terms_read (cons t ts) d front ws deep h b =
      let fit = both (term_fits t) (all_fit ts) h in
      let alone = both (binds_alone t) (all_bind_alone ts) b in
      ap (terms_on (term d) front (suc (count_terms ts)))
      (append_assoc (term_words t) (all_words ts) ws)
      ∙ next (term d (term_words t ++ (all_words ts ++ ws))) t (all_words ts ++ ws)
      (λ t r. terms_on (term d) (front ++ t ∷ []) (count_terms ts) r)
      (term_reads t d (all_words ts ++ ws) (omega arith) fit.0 alone.0)
      ∙ terms_read ts d (front ++ t ∷ []) ws (omega arith) fit.1 alone.1
      ∙ ap (λ x. Some (x, ws)) (append_assoc front (t ∷ []) (list_of ts))
