-- A walk over events in two pieces, and the values of a way as they are read off its line.
use Rattle.std.proofs.Common.{◌≡◌, ℕ, List, [], ◌∷◌, ◌++◌, length, Option, Some}
use Rattle.std.proofs.Common.{None, Result, Ok, Err, refl, sym, ap, ◌∙◌, slice_get}
use Rattle.std.proofs.Common.{append_assoc, append-nil}
use Rattle.sq_term.specs.Syntax.{TermTree}
use Rattle.sq_elab.specs.declared.fault.ElabFault.{ElabFault}
use Rattle.sq_elab.specs.Events.{Event}
use Rattle.sq_elab.specs.Events.{Count, counted, counted_all}
use Rattle.sq_resolve.specs.Scopes.{first_some}
use Rattle.sq_elab.specs.Faults.{fault, faults, first_of}
use Rattle.sq_elab.specs.Meanings.{Base, Closing, from_step, values, value_of_step}
use Rattle.sq_elab.specs.Outcome.{node_of, closing_nodes, declaration_of}
use Rattle.sq_elab.specs.Outcome.{declarations, name_arity, name_arities}
use Rattle.sq_elab.specs.Walks.{unless, judge, behind, closing_at, line, Slot, slots_of_step, slots}
use Rattle.sq_elab.specs.Walks.{input_at, slot_value, read_behind, read}
use Rattle.sq_elab.specs.Ways.{Step, creates, receives, repeats, sends, tests, finds, defines}
use Rattle.sq_elab.specs.Ways.{part, labels, enters, Way, closes, indices}

-- ---- in two pieces

module _ (b : Base) where
  pub judge-append : (k : Count) (vs us : List Event)
      → judge b k (vs ++ us) ≡ behind (judge b k vs) (λ j. judge b j us)
  judge-append k [] us = refl
  judge-append k (v ∷ vs) us = by (fault b k v) (judge-append (counted k v) vs us)
    where
      by : (o : Option ElabFault)
          → judge b (counted k v) (vs ++ us)
          ≡ behind (judge b (counted k v) vs) (λ j. judge b j us)
          → unless o (judge b (counted k v) (vs ++ us))
          ≡ behind (unless o (judge b (counted k v) vs)) (λ j. judge b j us)
      by (Some x) rest = refl
      by None rest = rest

  abbrev count_or : Count → Result Count ElabFault → Count
  count_or d (Ok k) = k
  count_or d (Err e) = d

  -- where nothing is refused, all events are counted
  pub judge-counts : (k j : Count) (vs : List Event) → judge b k vs ≡ Ok j → counted_all k vs ≡ j
  judge-counts k j [] e = ap (count_or k) e
  judge-counts k j (v ∷ vs) e = by (fault b k v) e (judge-counts (counted k v) j vs)
    where
      by : (o : Option ElabFault) → unless o (judge b (counted k v) vs) ≡ Ok j
          → (judge b (counted k v) vs ≡ Ok j → counted_all (counted k v) vs ≡ j)
          → counted_all (counted k v) vs ≡ j
      by (Some x) h rest = absurd (cc (h))
      by None h rest = rest h

  abbrev pub refusal_of : Result Count ElabFault → Option ElabFault
  refusal_of (Ok k) = None
  refusal_of (Err e) = Some e

  -- the first of the faults is that of the walk
  pub judge-refuses : (k : Count) (vs : List Event)
      → first_of (faults b k vs) ≡ refusal_of (judge b k vs)
  judge-refuses k [] = refl
  judge-refuses k (v ∷ vs) = by (fault b k v) (judge-refuses (counted k v) vs)
    where
      by : (o : Option ElabFault)
          → first_of (faults b (counted k v) vs) ≡ refusal_of (judge b (counted k v) vs)
          → first_some o (first_of (faults b (counted k v) vs))
          ≡ refusal_of (unless o (judge b (counted k v) vs))
      by (Some x) rest = refl
      by None rest = rest

pub counted-append : (k : Count) (vs us : List Event)
    → counted_all k (vs ++ us) ≡ counted_all (counted_all k vs) us
counted-append k [] us = refl
counted-append k (v ∷ vs) us = counted-append (counted k v) vs us

pub nodes-append : (k : Count) (vs us : List Event)
    → closing_nodes k (vs ++ us) ≡ closing_nodes k vs ++ closing_nodes (counted_all k vs) us
nodes-append k [] us = refl
nodes-append k (v ∷ vs) us =
    ap (λ l. node_of k.actions v ++ l) (nodes-append (counted k v) vs us)
    ∙ sym (append_assoc (node_of k.actions v) (closing_nodes (counted k v) vs)
    (closing_nodes (counted_all (counted k v) vs) us))

pub declarations-append : (system : ℕ) (k : Count) (vs us : List Event)
    → declarations system k (vs ++ us)
    ≡ declarations system k vs ++ declarations system (counted_all k vs) us
declarations-append system k [] us = refl
declarations-append system k (v ∷ vs) us =
    ap (λ l. declaration_of system k v ++ l) (declarations-append system (counted k v) vs us)
    ∙ sym (append_assoc (declaration_of system k v) (declarations system (counted k v) vs)
    (declarations system (counted_all (counted k v) vs) us))

pub arities-append : (vs us : List Event)
    → name_arities (vs ++ us) ≡ name_arities vs ++ name_arities us
arities-append [] us = refl
arities-append (v ∷ vs) us =
    ap (λ l. name_arity v ++ l) (arities-append vs us)
    ∙ sym (append_assoc (name_arity v) (name_arities vs) (name_arities us))

-- ---- the values of a way

at-length : {A : Type 0} (xs ys : List A) (y : A)
    → slice_get (xs ++ y ∷ ys) (length xs) ≡ Some y
at-length [] ys y = refl
at-length (x ∷ xs) ys y = at-length xs ys y

pub read-append : (on : List Closing) (vs : List TermTree) (ss us : List Slot)
    → read_behind on vs (ss ++ us) ≡ read_behind on (read_behind on vs ss) us
read-append on vs [] us = refl
read-append on vs (s ∷ ss) us = read-append on (vs ++ slot_value on vs s ∷ []) ss us

-- the first action behind a step, and what follows it
abbrev tail_from : Option ℕ → Closing → List Closing → List Closing
tail_from None next more = more
tail_from (Some a) next more = next ∷ more

split-line : (o : Option ℕ) (n : ℕ) (next : Closing) (more : List Closing)
    → closing_at o n ++ next ∷ more ≡ from_step o n next ∷ tail_from o next more
split-line None n next more = refl
split-line (Some a) n next more = refl

module _ (b : Base) where
  -- what the step adds, read off the line
  step-read : (next : Closing) (more : List Closing) (s : Step) (w : Way) (vs : List TermTree)
      → read_behind (line (s ∷ w) ++ next ∷ more) vs (slots_of_step b s w)
      ≡ vs ++ value_of_step b next s w vs
  step-read next more (creates x k) w vs = refl
  step-read next more (receives x a) w vs =
      ap (λ o. vs ++ input_at o ∷ []) (at-length (line (receives x a ∷ w)) more next)
  step-read next more (repeats i a) w vs = sym (append-nil vs)
  step-read next more (sends m a) w vs = sym (append-nil vs)
  step-read next more (tests f x) w vs = sym (append-nil vs)
  step-read next more (finds ns f x) w vs = sym (append-nil vs)
  step-read next more (defines x f) w vs = refl
  step-read next more (part k m a) w vs = sym (append-nil vs)
  step-read next more (labels l) w vs = sym (append-nil vs)
  step-read next more (enters xs ys) w vs = sym (append-nil vs)

  -- The lemma of the line: what is held of a way gives its values once the line goes on.
  pub values-are-read : (w : Way) (next : Closing) (more : List Closing)
      → read (line w ++ next ∷ more) (slots b w) ≡ values b next w
  values-are-read [] next more = refl
  values-are-read (s ∷ w) next more =
      let on = line (s ∷ w) ++ next ∷ more in
      let first = from_step (closes s) (indices w) next in
      let same : on ≡ line w ++ first ∷ tail_from (closes s) next more =
      append_assoc (line w) (closing_at (closes s) (indices w)) (next ∷ more)
      ∙ ap (λ l. line w ++ l) (split-line (closes s) (indices w) next more) in
      let before : read on (slots b w) ≡ values b first w =
      ap (λ l. read l (slots b w)) same
      ∙ values-are-read w first (tail_from (closes s) next more) in
      read-append on [] (slots b w) (slots_of_step b s w)
      ∙ (ap (λ vs. read_behind on vs (slots_of_step b s w)) before
      ∙ step-read next more s w (values b first w))
