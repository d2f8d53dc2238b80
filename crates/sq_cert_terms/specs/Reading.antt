-- Terms, timestamps and indices at the front of some words. Each reader is told how deep what it
-- reads may be.
use Rattle.std.specs.Prelude.{ℕ, zero, suc, if◌then◌else◌, ◌&&◌, nat_eq, nat_lt}
use Rattle.std.specs.Prelude.{List, [], ◌∷◌, ◌++◌, Some, None}
use Rattle.sq_base.specs.declared.sort.Sort.TheVariants as sort
use Rattle.sq_term.specs.declared.term.Idx.{Idx}
use Rattle.sq_term.specs.declared.term.Idx.TheVariants as idx
use Rattle.sq_term.specs.declared.term.Macro.{Macro}
use Rattle.sq_term.specs.declared.term.Macro.TheVariants as macro_of
use Rattle.sq_term.specs.Symbols.{kind_of}
use Rattle.sq_term.specs.Syntax.{TsTree, free, bound, init, pred, action, TermTree, name, fun}
use Rattle.sq_term.specs.Syntax.{macro, schema, diff, le, ts_eq, idx_eq, happens, all, some, find}
use Rattle.sq_term.specs.View.{row}
use Rattle.sq_cert_words.specs.declared.word.Plain.{Plain}
use Rattle.sq_cert_words.specs.declared.word.Plain.TheVariants as plain
use Rattle.sq_cert_words.specs.declared.word.Word.{Word}
use Rattle.sq_cert_words.specs.declared.word.Word.TheVariants as word
use Rattle.sq_cert_words.specs.Reads.{Found, followed, head_word}

-- ---- indices

abbrev pub index_at : Word → List (List ℕ) → Found Idx
index_at (word.Free k) ws = Some (idx.Free k, ws)
index_at (word.Bound k) ws = Some (idx.Bound k, ws)
index_at _ ws = None

unfoldable pub index : List (List ℕ) → Found Idx
index ws = followed (head_word ws) index_at

-- these indices, and then so many more
unfoldable pub indices_on : List Idx → ℕ → List (List ℕ) → Found (List Idx)
indices_on is zero ws = Some (is, ws)
indices_on is (suc n) ws = followed (index ws) (λ i r. indices_on (is ++ i ∷ []) n r)

-- so many indices, where there is room for them below
abbrev pub indices : ℕ → ℕ → List (List ℕ) → Found (List Idx)
indices room n ws = if nat_eq room 0 && nat_lt 0 n then None else indices_on [] n ws

-- ---- timestamps

-- one whose first word is known; `part` reads what is below it, for which there is so much room
abbrev pub ts_at : ℕ → (List (List ℕ) → Found TsTree) → Word → List (List ℕ) → Found TsTree
ts_at room part (word.Free k) ws = Some (free k, ws)
ts_at room part (word.Bound k) ws = Some (bound k, ws)
ts_at room part (word.Plain plain.Init) ws = Some (init, ws)
ts_at room part (word.Plain plain.Pred) ws = followed (part ws) (λ t r. Some (pred t, r))
ts_at room part (word.Action a n) ws = followed (indices room n ws) (λ is r. Some (action a is, r))
ts_at room part _ ws = None

-- a timestamp of this depth at most
unfoldable pub ts : ℕ → List (List ℕ) → Found TsTree
ts zero ws = None
ts (suc room) ws = followed (head_word ws) (ts_at room (ts room))

-- one whose first word is known, with so much room for what is below it
abbrev pub ts_of : ℕ → Word → List (List ℕ) → Found TsTree
ts_of room w ws = ts_at room (ts room) w ws

-- ---- terms

module _ (part : List (List ℕ) → Found TermTree) where
  -- these terms, and then so many more
  unfoldable pub terms_on : List TermTree → ℕ → List (List ℕ) → Found (List TermTree)
  terms_on ts zero ws = Some (ts, ws)
  terms_on ts (suc n) ws = followed (part ws) (λ t r. terms_on (ts ++ t ∷ []) n r)

abbrev pub a_macro : Macro → ℕ → List (List ℕ) → Found TermTree
a_macro m room ws = followed (ts room ws) (λ t r. Some (macro m t, r))

abbrev pub two_times : (TsTree → TsTree → TermTree) → ℕ → List (List ℕ) → Found TermTree
two_times f room ws = followed (ts room ws) (λ t r. followed (ts room r) (λ s q. Some (f t s, q)))

abbrev pub two_indices : ℕ → List (List ℕ) → Found TermTree
two_indices zero ws = None
two_indices (suc room) ws =
    followed (index ws) (λ i r. followed (index r) (λ j q. Some (idx_eq i j, q)))

abbrev pub over : (TermTree → TermTree) → (List (List ℕ) → Found TermTree) → List (List ℕ)
    → Found TermTree
over f part ws = followed (part ws) (λ t r. Some (f t, r))

abbrev pub two_terms : (List (List ℕ) → Found TermTree) → List (List ℕ) → Found TermTree
two_terms part ws = followed (part ws) (λ a r. followed (part r) (λ b q. Some (diff a b, q)))

abbrev pub three_terms : ℕ → (List (List ℕ) → Found TermTree) → List (List ℕ) → Found TermTree
three_terms c part ws =
    followed (part ws)
    (λ a r. followed (part r) (λ b q. followed (part q) (λ e p. Some (find c a b e, p))))

abbrev pub applied : ℕ → ℕ → ℕ → ℕ → (List (List ℕ) → Found TermTree) → List (List ℕ)
    → Found TermTree
applied f n m room part ws =
    followed (indices room n ws)
    (λ is r. followed (terms_on part [] m r) (λ ts q. Some (fun (kind_of f) is (row ts), q)))

-- a term whose first word has no number
abbrev pub plain_at : ℕ → (List (List ℕ) → Found TermTree) → Plain → List (List ℕ) → Found TermTree
plain_at room part plain.Init ws = None
plain_at room part plain.Pred ws = None
plain_at room part plain.Input ws = a_macro macro_of.Input room ws
plain_at room part plain.Output ws = a_macro macro_of.Output room ws
plain_at room part plain.Cond ws = a_macro macro_of.Cond room ws
plain_at room part plain.Exec ws = a_macro macro_of.Exec room ws
plain_at room part plain.Frame ws = a_macro macro_of.Frame room ws
plain_at room part plain.Diff ws = two_terms part ws
plain_at room part plain.Le ws = two_times le room ws
plain_at room part plain.TsEq ws = two_times ts_eq room ws
plain_at room part plain.IdxEq ws = two_indices room ws
plain_at room part plain.Happens ws = followed (ts room ws) (λ t r. Some (happens t, r))
plain_at room part plain.ForallIndex ws = over (all sort.Index) part ws
plain_at room part plain.ForallTimestamp ws = over (all sort.Timestamp) part ws
plain_at room part plain.ExistsIndex ws = over (some sort.Index) part ws
plain_at room part plain.ExistsTimestamp ws = over (some sort.Timestamp) part ws

abbrev pub term_at : ℕ → (List (List ℕ) → Found TermTree) → Word → List (List ℕ) → Found TermTree
term_at room part (word.Plain p) ws = plain_at room part p ws
term_at room part (word.Name k n) ws = followed (indices room n ws) (λ is r. Some (name k is, r))
term_at room part (word.Function k n m) ws = applied k n m room part ws
term_at room part (word.Schema k) ws = Some (schema k, ws)
term_at room part (word.Find c) ws = three_terms c part ws
term_at room part (word.Free k) ws = None
term_at room part (word.Bound k) ws = None
term_at room part (word.Action a n) ws = None

-- a term of this depth at most
unfoldable pub term : ℕ → List (List ℕ) → Found TermTree
term zero ws = None
term (suc room) ws = followed (head_word ws) (term_at room (term room))

-- one whose first word is known, with so much room for what is below it
abbrev pub term_of : ℕ → Word → List (List ℕ) → Found TermTree
term_of room w ws = term_at room (term room) w ws
