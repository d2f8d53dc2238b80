-- What is read was spelled so: indices, timestamps and terms.
use Rattle.std.proofs.Common.{◌≡◌, ◌<◌, ◌≤◌, ◌^◌, ℕ, zero, suc, Bool, true, false}
use Rattle.std.proofs.Common.{if◌then◌else◌, ◌&&◌, nat_eq, nat_lt, List, [], ◌∷◌, ◌++◌, length}
use Rattle.std.proofs.Common.{codes}
use Rattle.std.proofs.Common.{Option, Some, None, refl, sym, ap, ◌∙◌, subst, append_assoc}
use Rattle.std.proofs.Common.{append-nil, arith}
use Rattle.std.proofs.lemmas.Bool.Decides.{nat_tests}
use Rattle.sq_base.specs.declared.sort.Sort.{Sort}
use Rattle.sq_base.specs.declared.sort.Sort.TheVariants as sort
use Rattle.sq_term.specs.declared.term.Idx.{Idx}
use Rattle.sq_term.specs.declared.term.Idx.TheVariants as idx
use Rattle.sq_term.specs.declared.term.Macro.{Macro}
use Rattle.sq_term.specs.declared.term.Macro.TheVariants as macro_of
use Rattle.sq_term.specs.Measure.{count_terms, indices_depth, ts_depth, depth, depths}
use Rattle.sq_term.specs.Pure.{is_binder_sort}
use Rattle.sq_term.specs.Symbols.{function_number, kind_of}
use Rattle.sq_term.specs.Syntax.{TsTree, free, bound, init, pred, action, TermTree, name, fun}
use Rattle.sq_term.specs.Syntax.{macro, schema, diff, le, ts_eq, idx_eq, happens, all, some, find}
use Rattle.sq_term.specs.View.{row}
use Rattle.sq_term.proofs.KindNumbers.{function_number-kind_of}
use Rattle.sq_cert_words.specs.Spelling.{macro_word, universal_word, existential_word, index_word}
use Rattle.sq_cert_words.specs.Spelling.{index_words, ts_words, term_words, all_words, is_small}
use Rattle.sq_cert_words.specs.Spelling.{index_fits, indices_fit, ts_fits, term_fits, all_fit}
use Rattle.sq_cert_words.specs.Spelling.{binds_alone, all_bind_alone}
use Rattle.sq_cert_words.specs.Spelling as spelling
use Rattle.sq_cert_words.specs.declared.word.Plain.{Plain}
use Rattle.sq_cert_words.specs.declared.word.Plain.TheVariants as plain
use Rattle.sq_cert_words.specs.declared.word.Word.{Word}
use Rattle.sq_cert_words.specs.declared.word.Word.TheVariants as word
use Rattle.sq_cert_words.specs.Words.{plain_text, word_text, word_of, IsSmall}
use Rattle.sq_cert_words.specs.Reads.{Found, followed, as_found, head_word}
use Rattle.sq_cert_words.proofs.WordLaws.{word_tells}
use Rattle.sq_cert_words.proofs.NumberLaws.{same_found}
use Rattle.sq_cert_terms.specs.Reading.{index_at, index, indices_on, indices, ts_at, ts, terms_on}
use Rattle.sq_cert_terms.specs.Reading.{a_macro, two_times, two_terms, three_terms, over}
use Rattle.sq_cert_terms.specs.Reading.{two_indices, plain_at, term_at, term, applied}

pub and_true : (a b : Bool) → a ≡ true → b ≡ true → (a && b) ≡ true
and_true a b p q = rw p q

pub is_small-true : (n : ℕ) → n < 2 ^ 32 → is_small n ≡ true
is_small-true n h = grind (arith, nat_tests)

-- what a chain found, it found in the first part
pub first_part : {A B : Type 0} (m : Found A) (f : A → List (List ℕ) → Found B) (b : B)
    (q : List (List ℕ)) → followed m f ≡ Some (b, q)
    → (a : A) × (r : List (List ℕ)) × (m ≡ Some (a, r)) × (f a r ≡ Some (b, q))
first_part None f b q e = cc
first_part (Some p) f b q e = (p.0, p.1, refl, e)

as_found_tells : {A : Type 0} (o : Option A) (ws : List (List ℕ)) (a : A) (r : List (List ℕ))
    → as_found o ws ≡ Some (a, r) → (o ≡ Some a) × (ws ≡ r)
as_found_tells None ws a r e = cc
as_found_tells (Some x) ws a r e = let same =
    same_found (x, ws) (a, r) e in (ap Some same.0, same.1)

pub head_tells : (ws : List (List ℕ)) (w : Word) (r : List (List ℕ)) → head_word ws ≡ Some (w, r)
    → (ws ≡ word_text w ∷ r) × IsSmall w
head_tells [] w r e = cc
head_tells (x ∷ xs) w r e =
    let found = as_found_tells (word_of x) xs w r e in
    let told = word_tells x w found.0 in
    ((λ i. told.0 i ∷ found.1 i), told.1)

-- ---- indices

index_at_tells : (w : Word) (ws : List (List ℕ)) (i : Idx) (r : List (List ℕ)) → IsSmall w
    → index_at w ws ≡ Some (i, r) → (word_text w ∷ ws ≡ index_word i ∷ r) × (index_fits i ≡ true)
index_at_tells (word.Free k) ws i r h e =
    let same = same_found (idx.Free k, ws) (i, r) e in
    ((λ j. index_word (same.0 j) ∷ same.1 j), sym (ap index_fits same.0) ∙ is_small-true k h)
index_at_tells (word.Bound k) ws i r h e =
    let same = same_found (idx.Bound k, ws) (i, r) e in
    ((λ j. index_word (same.0 j) ∷ same.1 j), sym (ap index_fits same.0) ∙ is_small-true k h)
index_at_tells (word.Plain p) ws i r h e = cc
index_at_tells (word.Schema k) ws i r h e = cc
index_at_tells (word.Find c) ws i r h e = cc
index_at_tells (word.Action k n) ws i r h e = cc
index_at_tells (word.Name k n) ws i r h e = cc
index_at_tells (word.Function k n m) ws i r h e = cc

pub index_tells : (ws : List (List ℕ)) (i : Idx) (r : List (List ℕ)) → index ws ≡ Some (i, r)
    → (ws ≡ index_word i ∷ r) × (index_fits i ≡ true)
unfolding index
index_tells ws i r e =
    let h = first_part (head_word ws) index_at i r e in
    let head = head_tells ws h.0 h.1 h.2 in
    let told = index_at_tells h.0 h.1 i r head.1 h.3 in
    (head.0 ∙ told.0, told.1)

record TellsOf (front : List Idx) (n : ℕ) (ws : List (List ℕ)) (is : List Idx) (r : List (List ℕ))
    : Type 0 where
  pub new : List Idx
  pub whole : is ≡ front ++ new
  pub words : ws ≡ index_words new ++ r
  pub count : length new ≡ n
  pub fit : indices_fit new ≡ true

indices_on_tell : (n : ℕ) (front : List Idx) (ws : List (List ℕ)) (is : List Idx)
    (r : List (List ℕ)) → indices_on front n ws ≡ Some (is, r) → TellsOf front n ws is r
unfolding indices_on
indices_on_tell zero front ws is r e =
    let same = same_found (front, ws) (is, r) e in
    record {
      new = [];
      whole = sym same.0
          ∙ sym (append-nil front);
      words = same.1;
      count = refl;
      fit = refl;
    }
indices_on_tell (suc n) front ws is r e =
    let h = first_part (index ws) (λ i q. indices_on (front ++ i ∷ []) n q) is r e in
    let told = index_tells ws h.0 h.1 h.2 in
    let rest = indices_on_tell n (front ++ h.0 ∷ []) h.1 is r h.3 in
    record {
      new = h.0 ∷ rest.new;
      whole = rest.whole ∙ append_assoc front (h.0 ∷ []) rest.new;
      words = told.0 ∙ ap (λ x. index_word h.0 ∷ x) rest.words;
      count = ap suc rest.count;
      fit = and_true (index_fits h.0) (indices_fit rest.new) told.1 rest.fit;
    }

pub record TellsIndices (room n : ℕ) (ws : List (List ℕ)) (is : List Idx) (r : List (List ℕ))
    : Type 0 where
  pub words : ws ≡ index_words is ++ r
  pub count : length is ≡ n
  pub fit : indices_fit is ≡ true
  pub deep : indices_depth is ≤ room

depth_within : (room n : ℕ) (is : List Idx) → length is ≡ n → (nat_eq room 0 && nat_lt 0 n) ≡ false
    → indices_depth is ≤ room
depth_within room n [] count h = omega arith
depth_within room n (i ∷ is) count h =
    let some : 0 < n = omega (arith, count) in
    by (nat_eq room 0) (nat_lt 0 n) refl refl (grind (arith, nat_tests)) h
  where
    by : (a b : Bool) → nat_eq room 0 ≡ a → nat_lt 0 n ≡ b → b ≡ true → (a && b) ≡ false → 1 ≤ room
    by true true p q s e = cc
    by true false p q s e = cc
    by false b p q s e = grind (arith, nat_tests)

pub indices_tell : (room n : ℕ) (ws : List (List ℕ)) (is : List Idx) (r : List (List ℕ))
    → indices room n ws ≡ Some (is, r) → TellsIndices room n ws is r
indices_tell room n ws is r e = by (nat_eq room 0 && nat_lt 0 n) refl e
  where
    by : (b : Bool) → (nat_eq room 0 && nat_lt 0 n) ≡ b
        → (if b then None else indices_on [] n ws) ≡ Some (is, r) → TellsIndices room n ws is r
    by true t q = cc
    by false t q =
        let told = indices_on_tell n [] ws is r q in
        let same = told.whole in
        record {
          words = told.words ∙ ap (λ x. index_words x ++ r) (sym same);
          count = ap length same ∙ told.count;
          fit = ap indices_fit same ∙ told.fit;
          deep = depth_within room n is (ap length same ∙ told.count) t;
        }

-- ---- timestamps

pub record TellsTs (d : ℕ) (ws : List (List ℕ)) (t : TsTree) (r : List (List ℕ)) : Type 0 where
  pub words : ws ≡ ts_words t ++ r
  pub deep : ts_depth t ≤ d
  pub fits : ts_fits t ≡ true

-- from the tree that was built
told_ts : (d : ℕ) (ws : List (List ℕ)) (built found : TsTree × List (List ℕ))
    → Some built ≡ Some found → TellsTs d ws built.0 built.1 → TellsTs d ws found.0 found.1
told_ts d ws built found e h =
    let same = same_found built found e in
    record {
      words = h.words ∙ (λ i. ts_words (same.0 i) ++ same.1 i);
      deep = subst (λ x. ts_depth x ≤ d) same.0 h.deep;
      fits = sym (ap ts_fits same.0) ∙ h.fits;
    }

ts_at_tells : (room : ℕ) (part : List (List ℕ) → Found TsTree)
    → ((ws : List (List ℕ)) (t : TsTree) (r : List (List ℕ)) → part ws ≡ Some (t, r)
    → TellsTs room ws t r)
    → (w : Word) (ws : List (List ℕ)) (t : TsTree) (r : List (List ℕ)) → IsSmall w
    → ts_at room part w ws ≡ Some (t, r) → TellsTs (suc room) (word_text w ∷ ws) t r
ts_at_tells room part each (word.Free k) ws t r h e =
    told_ts (suc room) (word_text (word.Free k) ∷ ws) (free k, ws) (t, r) e
    (record { words = refl; deep = omega arith; fits = is_small-true k h })
ts_at_tells room part each (word.Bound k) ws t r h e =
    told_ts (suc room) (word_text (word.Bound k) ∷ ws) (bound k, ws) (t, r) e
    (record { words = refl; deep = omega arith; fits = is_small-true k h })
ts_at_tells room part each (word.Plain plain.Init) ws t r h e =
    told_ts (suc room) (word_text (word.Plain plain.Init) ∷ ws) (init, ws) (t, r) e
    (record { words = refl; deep = omega arith; fits = refl })
ts_at_tells room part each (word.Plain plain.Pred) ws t r h e =
    let p = first_part (part ws) (λ t r. Some (pred t, r)) t r e in
    let told = each ws p.0 p.1 p.2 in
    told_ts (suc room) (word_text (word.Plain plain.Pred) ∷ ws) (pred p.0, p.1) (t, r) p.3
    (record {
      words = ap (λ x. word_text (word.Plain plain.Pred) ∷ x) told.words;
      deep = omega
          (arith, told.deep);
      fits = told.fits;
    })
ts_at_tells room part each (word.Action a n) ws t r h e =
    let p = first_part (indices room n ws) (λ is r. Some (action a is, r)) t r e in
    let told = indices_tell room n ws p.0 p.1 p.2 in
    told_ts (suc room) (word_text (word.Action a n) ∷ ws) (action a p.0, p.1) (t, r) p.3
    (record {
      words = (λ i. spelling.counted (codes "a") a (sym told.count i) ∷ told.words i);
      deep = omega (arith, told.deep);
      fits = and_true (is_small a) (is_small (length p.0) && indices_fit p.0) (is_small-true a h.0)
          (and_true (is_small (length p.0)) (indices_fit p.0)
          (ap is_small told.count ∙ is_small-true n h.1) told.fit);
    })
ts_at_tells room part each (word.Plain _) ws t r h e = cc
ts_at_tells room part each (word.Schema k) ws t r h e = cc
ts_at_tells room part each (word.Find c) ws t r h e = cc
ts_at_tells room part each (word.Name k n) ws t r h e = cc
ts_at_tells room part each (word.Function k n m) ws t r h e = cc

pub ts_tells : (d : ℕ) (ws : List (List ℕ)) (t : TsTree) (r : List (List ℕ)) → ts d ws ≡ Some (t, r)
    → TellsTs d ws t r
unfolding ts
ts_tells zero ws t r e = cc
ts_tells (suc room) ws t r e =
    let h = first_part (head_word ws) (ts_at room (ts room)) t r e in
    let head = head_tells ws h.0 h.1 h.2 in
    let told = ts_at_tells room (ts room) (ts_tells room) h.0 h.1 t r head.1 h.3 in
    record { words = head.0 ∙ told.words; deep = told.deep; fits = told.fits }

-- ---- terms

pub record TellsTerm (d : ℕ) (ws : List (List ℕ)) (t : TermTree) (r : List (List ℕ)) : Type 0 where
  pub words : ws ≡ term_words t ++ r
  pub deep : depth t ≤ d
  pub fits : term_fits t ≡ true
  pub alone : binds_alone t ≡ true

-- from the tree that was built
told : (d : ℕ) (ws : List (List ℕ)) (built found : TermTree × List (List ℕ))
    → Some built ≡ Some found → TellsTerm d ws built.0 built.1 → TellsTerm d ws found.0 found.1
told d ws built found e h =
    let same = same_found built found e in
    record {
      words = h.words ∙ (λ i. term_words (same.0 i) ++ same.1 i);
      deep = subst (λ x. depth x ≤ d) same.0 h.deep;
      fits = sym (ap term_fits same.0) ∙ h.fits;
      alone = sym (ap binds_alone same.0) ∙ h.alone;
    }

-- what a reader of parts of this depth tells
abbrev Tells : ℕ → (List (List ℕ) → Found TermTree) → Type 0
Tells room part = (ws : List (List ℕ)) (t : TermTree) (r : List (List ℕ)) → part ws ≡ Some (t, r)
    → TellsTerm room ws t r

-- a reader that takes what is behind a word
abbrev TellsBehind : ℕ → List ℕ → (List (List ℕ) → Found TermTree) → Type 0
TellsBehind room text read = (ws : List (List ℕ)) (t : TermTree) (r : List (List ℕ))
    → read ws ≡ Some (t, r) → TellsTerm (suc room) (text ∷ ws) t r

macro_tells : (room : ℕ) (m : Macro) → TellsBehind room (macro_word m) (a_macro m room)
macro_tells room m ws t r e =
    let p = first_part (ts room ws) (λ t r. Some (macro m t, r)) t r e in
    let h = ts_tells room ws p.0 p.1 p.2 in
    told (suc room) (macro_word m ∷ ws) (macro m p.0, p.1) (t, r) p.3
    (record {
      words = ap (λ x. macro_word m ∷ x) h.words;
      deep = omega
          (arith, h.deep);
      fits = h.fits;
      alone = refl;
    })

happens_tells : (room : ℕ)
    → TellsBehind room (codes "hap") (λ ws. followed (ts room ws) (λ t r. Some (happens t, r)))
happens_tells room ws t r e =
    let p = first_part (ts room ws) (λ t r. Some (happens t, r)) t r e in
    let h = ts_tells room ws p.0 p.1 p.2 in
    told (suc room) (codes "hap" ∷ ws) (happens p.0, p.1) (t, r) p.3
    (record {
      words = ap (λ x. codes "hap" ∷ x) h.words;
      deep = omega
          (arith, h.deep);
      fits = h.fits;
      alone = refl;
    })

-- two timestamps behind one another
record TellsTimes (room : ℕ) (ws : List (List ℕ)) (a b : TsTree) (r : List (List ℕ)) : Type 0 where
  pub words : ws ≡ (ts_words a ++ ts_words b) ++ r
  pub first : ts_depth a ≤ room
  pub second : ts_depth b ≤ room
  pub fits : (ts_fits a && ts_fits b) ≡ true

times_tell : (f : TsTree → TsTree → TermTree) (room : ℕ) (ws : List (List ℕ)) (t : TermTree)
    (r : List (List ℕ)) → two_times f room ws ≡ Some (t, r)
    → (a : TsTree) × (b : TsTree) × (q : List (List ℕ)) × TellsTimes room ws a b q
    × ◌≡◌ {A = Option (TermTree × List (List ℕ))} (Some (f a b, q)) (Some (t, r))
times_tell f room ws t r e =
    let p = first_part (ts room ws) (λ t r. followed (ts room r) (λ s q. Some (f t s, q))) t r e in
    let q = first_part (ts room p.1) (λ s q. Some (f p.0 s, q)) t r p.3 in
    let a = ts_tells room ws p.0 p.1 p.2 in
    let b = ts_tells room p.1 q.0 q.1 q.2 in (
      p.0,
      q.0,
      q.1,
      record {
        words = a.words ∙ ap (λ x. ts_words p.0 ++ x) b.words
            ∙ sym (append_assoc (ts_words p.0) (ts_words q.0) q.1);
        first = a.deep;
        second = b.deep;
        fits = and_true (ts_fits p.0) (ts_fits q.0) a.fits b.fits;
      },
      q.3,
    )

le_tells : (room : ℕ) → TellsBehind room (codes "le") (two_times le room)
le_tells room ws t r e =
    let h = times_tell le room ws t r e in
    told (suc room) (codes "le" ∷ ws) (le h.0 h.1, h.2) (t, r) h.4
    (record {
      words = ap (λ x. codes "le" ∷ x) h.3.words;
      deep = omega
          (arith, h.3.first, h.3.second);
      fits = h.3.fits;
      alone = refl;
    })

ts_eq_tells : (room : ℕ) → TellsBehind room (codes "teq") (two_times ts_eq room)
ts_eq_tells room ws t r e =
    let h = times_tell ts_eq room ws t r e in
    told (suc room) (codes "teq" ∷ ws) (ts_eq h.0 h.1, h.2) (t, r) h.4
    (record {
      words = ap (λ x. codes "teq" ∷ x) h.3.words;
      deep = omega
          (arith, h.3.first, h.3.second);
      fits = h.3.fits;
      alone = refl;
    })

idx_eq_tells : (room : ℕ) → TellsBehind room (codes "ieq") (two_indices room)
idx_eq_tells zero ws t r e = cc
idx_eq_tells (suc room) ws t r e =
    let p = first_part (index ws) (λ i r. followed (index r) (λ j q. Some (idx_eq i j, q))) t r e in
    let q = first_part (index p.1) (λ j q. Some (idx_eq p.0 j, q)) t r p.3 in
    let i = index_tells ws p.0 p.1 p.2 in
    let j = index_tells p.1 q.0 q.1 q.2 in
    told (suc (suc room)) (codes "ieq" ∷ ws) (idx_eq p.0 q.0, q.1) (t, r) q.3
    (record {
      words = ap (λ x. codes "ieq" ∷ x) (i.0 ∙ ap (λ x. index_word p.0 ∷ x) j.0);
      deep = omega arith;
      fits = and_true (index_fits p.0) (index_fits q.0) i.1 j.1;
      alone = refl;
    })

all_tells : (room : ℕ) (part : List (List ℕ) → Found TermTree) (s : Sort) → is_binder_sort s ≡ true
    → Tells room part → TellsBehind room (universal_word s) (over (all s) part)
all_tells room part s bind each ws t r e =
    let p = first_part (part ws) (λ t r. Some (all s t, r)) t r e in
    let h = each ws p.0 p.1 p.2 in
    told (suc room) (universal_word s ∷ ws) (all s p.0, p.1) (t, r) p.3
    (record {
      words = ap (λ x. universal_word s ∷ x) h.words;
      deep = omega (arith, h.deep);
      fits = h.fits;
      alone = and_true (is_binder_sort s) (binds_alone p.0) bind h.alone;
    })

some_tells : (room : ℕ) (part : List (List ℕ) → Found TermTree) (s : Sort) → is_binder_sort s ≡ true
    → Tells room part → TellsBehind room (existential_word s) (over (some s) part)
some_tells room part s bind each ws t r e =
    let p = first_part (part ws) (λ t r. Some (some s t, r)) t r e in
    let h = each ws p.0 p.1 p.2 in
    told (suc room) (existential_word s ∷ ws) (some s p.0, p.1) (t, r) p.3
    (record {
      words = ap (λ x. existential_word s ∷ x) h.words;
      deep = omega (arith, h.deep);
      fits = h.fits;
      alone = and_true (is_binder_sort s) (binds_alone p.0) bind h.alone;
    })

diff_tells : (room : ℕ) (part : List (List ℕ) → Found TermTree) → Tells room part
    → TellsBehind room (codes "diff") (two_terms part)
diff_tells room part each ws t r e =
    let p = first_part (part ws) (λ a r. followed (part r) (λ b q. Some (diff a b, q))) t r e in
    let q = first_part (part p.1) (λ b q. Some (diff p.0 b, q)) t r p.3 in
    let a = each ws p.0 p.1 p.2 in
    let b = each p.1 q.0 q.1 q.2 in
    told (suc room) (codes "diff" ∷ ws) (diff p.0 q.0, q.1) (t, r) q.3
    (record {
      words = ap (λ x. codes "diff" ∷ x) (a.words ∙ ap (λ x. term_words p.0 ++ x) b.words
          ∙ sym (append_assoc (term_words p.0) (term_words q.0) q.1));
      deep = omega (arith, a.deep, b.deep);
      fits = and_true (term_fits p.0) (term_fits q.0) a.fits b.fits;
      alone = and_true (binds_alone p.0) (binds_alone q.0) a.alone b.alone;
    })

find_tells : (room : ℕ) (part : List (List ℕ) → Found TermTree) (c : ℕ) → c < 2 ^ 32
    → Tells room part → TellsBehind room (spelling.numbered (codes "find") c) (three_terms c part)
find_tells room part c small each ws t r e =
    let p = first_part (part ws)
    (λ a r. followed (part r) (λ b q. followed (part q) (λ e p. Some (find c a b e, p)))) t r e
    in
    let q = first_part (part p.1)
    (λ b q. followed (part q) (λ e s. Some (find c p.0 b e, s))) t r p.3 in
    let o = first_part (part q.1) (λ e s. Some (find c p.0 q.0 e, s)) t r q.3 in
    let a = each ws p.0 p.1 p.2 in
    let b = each p.1 q.0 q.1 q.2 in
    let d = each q.1 o.0 o.1 o.2 in
    told (suc room) (spelling.numbered (codes "find") c ∷ ws) (find c p.0 q.0 o.0, o.1) (t, r) o.3
    (record {
      words = ap (λ x. spelling.numbered (codes "find") c ∷ x)
          (a.words ∙ ap (λ x. term_words p.0 ++ x) (b.words ∙ ap (λ x. term_words q.0 ++ x) d.words
          ∙ sym (append_assoc (term_words q.0) (term_words o.0) o.1))
          ∙ sym (append_assoc (term_words p.0) (term_words q.0 ++ term_words o.0) o.1));
      deep = omega (arith, a.deep, b.deep, d.deep);
      fits = and_true (is_small c) (term_fits p.0 && (term_fits q.0 && term_fits o.0))
          (is_small-true c small)
          (and_true (term_fits p.0) (term_fits q.0 && term_fits o.0) a.fits
          (and_true (term_fits q.0) (term_fits o.0) b.fits d.fits));
      alone = and_true (binds_alone p.0) (binds_alone q.0 && binds_alone o.0) a.alone
          (and_true (binds_alone q.0) (binds_alone o.0) b.alone d.alone);
    })

name_tells : (room k n : ℕ) → k < 2 ^ 32 → n < 2 ^ 32
    → TellsBehind room (spelling.counted (codes "n") k n)
    (λ ws. followed (indices room n ws) (λ is r. Some (name k is, r)))
name_tells room k n small few ws t r e =
    let p = first_part (indices room n ws) (λ is r. Some (name k is, r)) t r e in
    let h = indices_tell room n ws p.0 p.1 p.2 in
    told (suc room) (spelling.counted (codes "n") k n ∷ ws) (name k p.0, p.1) (t, r) p.3
    (record {
      words = (λ i. spelling.counted (codes "n") k (sym h.count i) ∷ h.words i);
      deep = omega (arith, h.deep);
      fits = and_true (is_small k) (is_small (length p.0) && indices_fit p.0)
          (is_small-true k small)
          (and_true (is_small (length p.0)) (indices_fit p.0)
          (ap is_small h.count ∙ is_small-true n few) h.fit);
      alone = refl;
    })

-- ---- lists of terms

record TellsMore (room : ℕ) (front : List TermTree) (n : ℕ) (ws : List (List ℕ))
    (ts : List TermTree) (r : List (List ℕ)) : Type 0 where
  pub new : List TermTree
  pub whole : ts ≡ front ++ new
  pub words : ws ≡ all_words (row new) ++ r
  pub count : count_terms (row new) ≡ n
  pub deep : depths (row new) ≤ room
  pub fit : all_fit (row new) ≡ true
  pub alone : all_bind_alone (row new) ≡ true

terms_on_tell : (room : ℕ) (part : List (List ℕ) → Found TermTree) → Tells room part
    → (n : ℕ) (front : List TermTree) (ws : List (List ℕ)) (ts : List TermTree) (r : List (List ℕ))
    → terms_on part front n ws ≡ Some (ts, r) → TellsMore room front n ws ts r
unfolding terms_on
terms_on_tell room part each zero front ws ts r e =
    let same = same_found (front, ws) (ts, r) e in
    record {
      new = [];
      whole = sym same.0
          ∙ sym (append-nil front);
      words = same.1;
      count = refl;
      deep = omega arith;
      fit =
          refl;
      alone = refl;
    }
terms_on_tell room part each (suc n) front ws ts r e =
    let h = first_part (part ws) (λ t q. terms_on part (front ++ t ∷ []) n q) ts r e in
    let first = each ws h.0 h.1 h.2 in
    let rest = terms_on_tell room part each n (front ++ h.0 ∷ []) h.1 ts r h.3 in
    record {
      new = h.0 ∷ rest.new;
      whole = rest.whole ∙ append_assoc front (h.0 ∷ []) rest.new;
      words = first.words ∙ ap (λ x. term_words h.0 ++ x) rest.words
          ∙ sym (append_assoc (term_words h.0) (all_words (row rest.new)) r);
      count = ap suc rest.count;
      deep = omega (arith, first.deep, rest.deep);
      fit = and_true (term_fits h.0) (all_fit (row rest.new)) first.fits rest.fit;
      alone = and_true (binds_alone h.0) (all_bind_alone (row rest.new)) first.alone rest.alone;
    }

fun_tells : (room : ℕ) (part : List (List ℕ) → Found TermTree) (f n m : ℕ) → f < 2 ^ 32 → n < 2 ^ 32
    → m < 2 ^ 32 → Tells room part
    → TellsBehind room (spelling.applied f n m) (applied f n m room part)
fun_tells room part f n m small_f small_n small_m each ws t r e =
    let p = first_part (indices room n ws)
    (λ is r. followed (terms_on part [] m r) (λ ts q. Some (fun (kind_of f) is (row ts), q))) t
    r e in
    let q = first_part (terms_on part [] m p.1)
    (λ ts q. Some (fun (kind_of f) p.0 (row ts), q)) t r p.3 in
    let is = indices_tell room n ws p.0 p.1 p.2 in
    let ts = terms_on_tell room part each m [] p.1 q.0 q.1 q.2 in
    let number = function_number-kind_of f in
    told (suc room) (spelling.applied f n m ∷ ws) (fun (kind_of f) p.0 (row ts.new), q.1) (t, r)
    (ap (λ x. Some (fun (kind_of f) p.0 (row x), q.1)) (sym ts.whole) ∙ q.3)
    (record {
      words = (λ i. spelling.applied (sym number i) (sym is.count i) (sym ts.count i) ∷ is.words i)
          ∙ ap (λ x. spelling.applied (function_number (kind_of f)) (length p.0)
          (count_terms (row ts.new)) ∷ (index_words p.0 ++ x)) ts.words
          ∙ ap (λ x. spelling.applied (function_number (kind_of f)) (length p.0)
          (count_terms (row ts.new)) ∷ x)
          (sym (append_assoc (index_words p.0) (all_words (row ts.new)) q.1));
      deep = omega (arith, is.deep, ts.deep);
      fits = and_true (is_small (function_number (kind_of f)))
          ((is_small (length p.0) && indices_fit p.0)
          && (is_small (count_terms (row ts.new)) && all_fit (row ts.new)))
          (ap is_small number ∙ is_small-true f small_f)
          (and_true (is_small (length p.0) && indices_fit p.0)
          (is_small (count_terms (row ts.new)) && all_fit (row ts.new))
          (and_true (is_small (length p.0)) (indices_fit p.0)
          (ap is_small is.count ∙ is_small-true n small_n) is.fit)
          (and_true (is_small (count_terms (row ts.new))) (all_fit (row ts.new))
          (ap is_small ts.count ∙ is_small-true m small_m) ts.fit));
      alone = ts.alone;
    })

plain_tells : (room : ℕ) (part : List (List ℕ) → Found TermTree) → Tells room part → (p : Plain)
    → TellsBehind room (plain_text p) (plain_at room part p)
plain_tells room part each plain.Init ws t r e = cc
plain_tells room part each plain.Pred ws t r e = cc
plain_tells room part each plain.Input ws t r e = macro_tells room macro_of.Input ws t r e
plain_tells room part each plain.Output ws t r e = macro_tells room macro_of.Output ws t r e
plain_tells room part each plain.Cond ws t r e = macro_tells room macro_of.Cond ws t r e
plain_tells room part each plain.Exec ws t r e = macro_tells room macro_of.Exec ws t r e
plain_tells room part each plain.Frame ws t r e = macro_tells room macro_of.Frame ws t r e
plain_tells room part each plain.Diff ws t r e = diff_tells room part each ws t r e
plain_tells room part each plain.Le ws t r e = le_tells room ws t r e
plain_tells room part each plain.TsEq ws t r e = ts_eq_tells room ws t r e
plain_tells room part each plain.IdxEq ws t r e = idx_eq_tells room ws t r e
plain_tells room part each plain.Happens ws t r e = happens_tells room ws t r e
plain_tells room part each plain.ForallIndex ws t r e =
    all_tells room part sort.Index refl each ws t r e
plain_tells room part each plain.ForallTimestamp ws t r e =
    all_tells room part sort.Timestamp refl each ws t r e
plain_tells room part each plain.ExistsIndex ws t r e =
    some_tells room part sort.Index refl each ws t r e
plain_tells room part each plain.ExistsTimestamp ws t r e =
    some_tells room part sort.Timestamp refl each ws t r e

pub term_at_tells : (room : ℕ) (part : List (List ℕ) → Found TermTree) → Tells room part
    → (w : Word) → IsSmall w → TellsBehind room (word_text w) (term_at room part w)
term_at_tells room part each (word.Plain p) h ws t r e = plain_tells room part each p ws t r e
term_at_tells room part each (word.Name k n) h ws t r e = name_tells room k n h.0 h.1 ws t r e
term_at_tells room part each (word.Function k n m) h ws t r e =
    fun_tells room part k n m h.0 h.1 h.2 each ws t r e
term_at_tells room part each (word.Schema k) h ws t r e =
    told (suc room) (word_text (word.Schema k) ∷ ws) (schema k, ws) (t, r) e
    (record { words = refl; deep = omega arith; fits = is_small-true k h; alone = refl })
term_at_tells room part each (word.Find c) h ws t r e = find_tells room part c h each ws t r e
term_at_tells room part each (word.Free k) h ws t r e = cc
term_at_tells room part each (word.Bound k) h ws t r e = cc
term_at_tells room part each (word.Action k n) h ws t r e = cc

pub term_tells : (d : ℕ) (ws : List (List ℕ)) (t : TermTree) (r : List (List ℕ))
    → term d ws ≡ Some (t, r) → TellsTerm d ws t r
unfolding term
term_tells zero ws t r e = cc
term_tells (suc room) ws t r e =
    let h = first_part (head_word ws) (term_at room (term room)) t r e in
    let head = head_tells ws h.0 h.1 h.2 in
    let rest = term_at_tells room (term room) (term_tells room) h.0 head.1 h.1 t r h.3 in
    record { words = head.0 ∙ rest.words; deep = rest.deep; fits = rest.fits; alone = rest.alone }
