-- The first candidate that is free is the fresh name, wherever the search begins.
use Rattle.std.proofs.Common.{◌≡◌, ◌≢◌, ℕ, ◌+◌, ◌<◌, ◌^◌, ◌⊎◌, Bool, true, false, cond}
use Rattle.std.proofs.Common.{if◌then◌else◌, List, []}
use Rattle.std.proofs.Common.{◌∷◌, ◌++◌, length, Option, Some, None, option_map, unwrap_or, refl}
use Rattle.std.proofs.Common.{is_some, sym, ap, ◌∙◌, subst, arith, ⊎_elim, String}
use Rattle.std.specs.HashMap.{HashMap, get_by_text, Updates}
use Rattle.std.specs.String.{string_bytes, string_eq}
use Rattle.std.specs.Str.{bytes_eq}
use Rattle.std.proofs.lemmas.Bool.{cases_eq, cases_lt, false≢true}
use Rattle.std.proofs.lemmas.Map.Text.{hash_map_updates_text}
use Rattle.std.proofs.lemmas.Slice.Eq.{bytes_eq-Decides}
use Rattle.sq_sym.specs.declared.symbol.Symbol.{Symbol}
use Rattle.sq_sym.specs.Declarations.{found}
use Rattle.sq_elab.specs.Declarations.{AreTaken, IsTried}
use Rattle.sq_elab.specs.FreshNames.{fresh_name}
use Rattle.sq_sym.specs.Candidates.{candidate}
use Rattle.sq_elab.proofs.NameLaws.{fresh-is-first}

pub fresh-at : (table : List (List ℕ × Symbol)) (n : List ℕ) (k : ℕ) → length table < 2 ^ 32
    → AreTaken table n k → found (candidate n k) table ≡ None → candidate n k ≡ fresh_name table n
fresh-at table n k w taken free =
    let f = fresh-is-first table n w in
    let other : found (candidate n f.place) table ≡ None =
    ap (λ x. found x table) (sym f.is) ∙ f.free in
    by f.place f.is other f.taken_before (cases_eq k f.place)
  where
    by : (p : ℕ) → fresh_name table n ≡ candidate n p → found (candidate n p) table ≡ None
        → ((i : ℕ) → i < p → found (candidate n i) table ≢ None) → (k ≡ p) ⊎ (k ≢ p)
        → candidate n k ≡ fresh_name table n
    by p is none before at =
        ⊎_elim (λ e. ap (candidate n) e ∙ sym is)
        (λ ne. absurd
        (⊎_elim (λ l. before k l free) (λ l. taken p (omega (arith, l, ne)) none) (cases_lt k p)))
        at

mapped-none : {A B : Type 0} (g : A → B) (o : Option A) → option_map g o ≡ None → o ≡ None
mapped-none g None e = refl
mapped-none g (Some a) e = absurd (cc (e))

-- what is absent from a list is absent from its front
none-front : (x : List ℕ) (ds es : List (List ℕ × Symbol)) → found x (ds ++ es) ≡ None
    → found x ds ≡ None
none-front x [] es e = refl
none-front x (d ∷ ds) es e = by (bytes_eq x d.0) e (λ h. none-front x ds es h)
  where
    by : (b : Bool)
        → cond {A = Option (ℕ × Symbol)} b (Some (0, d.1))
        (option_map (λ r. (r.0 + 1, r.1)) (found x (ds ++ es))) ≡ None
        → (found x (ds ++ es) ≡ None → found x ds ≡ None)
        → cond {A = Option (ℕ × Symbol)} b (Some (0, d.1))
        (option_map (λ r. (r.0 + 1, r.1)) (found x ds)) ≡ None
    by true h rest = absurd (cc (h))
    by false h rest =
        ap (option_map (λ r. (r.0 + 1, r.1)))
        (rest (mapped-none (λ r. (r.0 + 1, r.1)) (found x (ds ++ es)) h))

pub taken-still : (table ds : List (List ℕ × Symbol)) (n : List ℕ) (k : ℕ) → AreTaken table n k
    → AreTaken (table ++ ds) n k
taken-still table ds n k taken i h none = taken i h (none-front (candidate n i) table ds none)

pub known-taken : {Y S : Type 0} (table : List (List ℕ × Symbol)) (tried : HashMap (String Y) ℕ S)
    (n : List ℕ) → IsTried table tried → AreTaken table n (unwrap_or (get_by_text tried n) 0)
known-taken table tried n h = by (get_by_text tried n) refl
  where
    by : (o : Option ℕ) → get_by_text tried n ≡ o → AreTaken table n (unwrap_or o 0)
    by None e = λ i l. absurd (omega (arith, l))
    by (Some k) e = h n k e

abbrev number_or : ℕ → Option ℕ → ℕ
number_or d None = d
number_or d (Some k) = k

pub tried-more : {Y S : Type 0} (table ds : List (List ℕ × Symbol))
    (m n : HashMap (String Y) ℕ S) (name : List ℕ) (number : ℕ) → IsTried table m
    → AreTaken table name number
    → ((x : List ℕ) → get_by_text n x
    ≡ (if bytes_eq name x then Some number else (get_by_text m x)))
    → IsTried (table ++ ds) n
tried-more table ds m n name number tried taken updates x k e =
    taken-still table ds x k (by (bytes_eq name x) refl (sym (updates x) ∙ e))
  where
    by : (b : Bool) → bytes_eq name x ≡ b → (if b then Some number else (get_by_text m x)) ≡ Some k
        → AreTaken table x k
    by true same h =
        subst (AreTaken table x) (ap (number_or 0) h)
        (subst (λ y. AreTaken table y number) ((bytes_eq-Decides name x).0 same) taken)
    by false same h = tried x k h

pub tried-behind : {Y S : Type 0} (table ds : List (List ℕ × Symbol))
    (m n : HashMap (String Y) ℕ S) (key : String Y) (name : List ℕ) (number : ℕ)
    → string_bytes key ≡ name → IsTried table m → AreTaken table name number
    → Updates string_eq m n key (Some number) → IsTried (table ++ ds) n
tried-behind table ds m n key name number e tried taken updates =
    tried-more table ds m n (string_bytes key) number tried
    (subst (λ x. AreTaken table x number) (sym e) taken)
    (hash_map_updates_text (string_bytes key) m n (Some number) updates)

pub none-there : {A : Type 0} (o : Option A) → is_some o ≡ false → o ≡ None
none-there None e = refl
none-there (Some a) e = absurd (false≢true (sym e))
