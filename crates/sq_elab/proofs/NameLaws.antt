-- Fresh names are first and free, so all names of a table stay apart.
use Rattle.std.proofs.Common.{◌≡◌, ◌≢◌, ℕ, zero, suc, ◌+◌, ◌<◌, ◌≤◌, ◌^◌, ◌⊎◌, inl, inr, Bool, true}
use Rattle.std.proofs.Common.{false, if◌then◌else◌, ◌||◌, List, [], ◌∷◌, ◌++◌, length, map, Option}
use Rattle.std.proofs.Common.{Some}
use Rattle.std.proofs.Common.{None}
use Rattle.std.proofs.Common.{option_map, is_some, refl, sym, ap, ◌∙◌, subst, arith, length-append}
use Rattle.std.proofs.Common.{Ok, Err}
use Rattle.std.specs.Prelude.{Result}
use Rattle.std.specs.Str.{bytes_eq}
use Rattle.std.proofs.lemmas.Bool.{cases_eq, false≢true}
use Rattle.std.proofs.lemmas.List.{length-map}
use Rattle.sq_sym.specs.declared.symbol.Symbol.{Symbol}
use Rattle.sq_sym.specs.Declarations.{found, NamesDiffer}
use Rattle.sq_sym.proofs.Names.{NamesDiffer-push, none_from_is_some}
use Rattle.sq_elab.specs.declared.fault.ElabFault.{ElabFault}
use Rattle.sq_elab.specs.FreshNames.{first_free, fresh_name, with_fresh}
use Rattle.sq_sym.specs.Candidates.{candidate, candidate_count, among}
use Rattle.sq_elab.specs.Laws.{FreshNamesAreFirst, NamesStayApart}
use Rattle.sq_elab.specs.Outcome.{Elaborated, elaborated, refusal, refused_or, declarations, start}
use Rattle.sq_elab.specs.Outcome.{all_events}
use Rattle.sq_sym.proofs.Candidates.{bounded}

abbrev Table : Type 0
Table = List (List ℕ × Symbol)

-- ---- candidates that are all in a table are no more than its entries

abbrev is_taken : Table → List ℕ → ℕ → Bool
is_taken table n k = is_some (found (candidate n k) table)

found-among : (q : List ℕ) (ds : Table) → is_some (found q ds) ≡ among q (map (λ d. d.0) ds)
found-among q [] = refl
found-among q (d ∷ ds) = by (bytes_eq q d.0) (found q ds) (found-among q ds)
  where
    by : (b : Bool) (o : Option (ℕ × Symbol)) → is_some o ≡ among q (map (λ d. d.0) ds)
        → is_some {T = ℕ × Symbol} (if b then Some (0, d.1)
        else (option_map (λ r. (r.0 + 1, r.1)) o))
        ≡ (b || among q (map (λ d. d.0) ds))
    by true o e = refl
    by false None e = e
    by false (Some r) e = e

few-taken : (table : Table) (n : List ℕ) (k : ℕ) → k ≤ candidate_count
    → ((i : ℕ) → i < k → is_taken table n i ≡ true) → k ≤ length table
few-taken table n k w taken =
    let l = length-map table (λ (d : List ℕ × Symbol). d.0) in
    let most =
    bounded n (map (λ d. d.0) table) k w
    (λ i h. sym (found-among (candidate n i) table) ∙ taken i h) in
    omega arith

-- ---- the first free candidate

-- a candidate that is free, and before which all are taken
record IsFirst (table : Table) (n x : List ℕ) (most : ℕ) : Type 0 where
  k : ℕ
  within : k ≤ most
  is : x ≡ candidate n k
  free : is_taken table n k ≡ false
  before : (i : ℕ) → i < k → is_taken table n i ≡ true

one-more : (table : Table) (n : List ℕ) (j : ℕ) → is_taken table n j ≡ true
    → ((i : ℕ) → i < j → is_taken table n i ≡ true) → (i : ℕ) → i < suc j
    → is_taken table n i ≡ true
one-more table n j taken before i h = by (cases_eq i j)
  where
    by : (i ≡ j) ⊎ (i ≢ j) → is_taken table n i ≡ true
    by (inl same) = ap (is_taken table n) same ∙ taken
    by (inr other) = before i (omega arith)

first-or-all : (table : Table) (n : List ℕ) (left j : ℕ)
    → ((i : ℕ) → i < j → is_taken table n i ≡ true)
    → IsFirst table n (first_free table n left j) (j + left) ⊎
    ((i : ℕ) → i < j + left + 1 → is_taken table n i ≡ true)
first-or-all table n zero j before = by (is_taken table n j) refl
  where
    by : (b : Bool) → is_taken table n j ≡ b → IsFirst table n (candidate n j) (j + 0) ⊎
        ((i : ℕ) → i < j + 0 + 1 → is_taken table n i ≡ true)
    by false e = inl (record { k = j; within = omega arith; is = refl; free = e; before = before })
    by true e = inr (λ i h. one-more table n j e before i (omega arith))
first-or-all table n (suc left) j before =
    by (is_taken table n j) refl (λ more. first-or-all table n left (suc j) more)
  where
    by : (b : Bool) → is_taken table n j ≡ b
        → (((i : ℕ) → i < suc j → is_taken table n i ≡ true)
        → IsFirst table n (first_free table n left (suc j)) (suc j + left) ⊎
        ((i : ℕ) → i < suc j + left + 1 → is_taken table n i ≡ true))
        → IsFirst table n (if b then first_free table n left (suc j) else (candidate n j))
        (j + suc left)
        ⊎ ((i : ℕ) → i < j + suc left + 1 → is_taken table n i ≡ true)
    by false e rest =
        inl (record { k = j; within = omega arith; is = refl; free = e; before = before })
    by true e rest = wider (rest (one-more table n j e before))
      where
        wider : IsFirst table n (first_free table n left (suc j)) (suc j + left) ⊎
            ((i : ℕ) → i < suc j + left + 1 → is_taken table n i ≡ true)
            → IsFirst table n (first_free table n left (suc j)) (j + suc left) ⊎
            ((i : ℕ) → i < j + suc left + 1 → is_taken table n i ≡ true)
        wider (inl f) =
            let le = f.within in
            inl (record {
              k = f.k;
              within = omega arith;
              is = f.is;
              free = f.free;
              before = f.before;
            })
        wider (inr all) = inr (λ i h. all i (omega arith))

first : (table : Table) (n : List ℕ) → length table < 2 ^ 32
    → IsFirst table n (fresh_name table n) (length table)
first table n w = by (first-or-all table n (length table) 0 (λ i h. absurd (omega arith)))
  where
    by : IsFirst table n (first_free table n (length table) 0) (0 + length table) ⊎
        ((i : ℕ) → i < 0 + length table + 1 → is_taken table n i ≡ true)
        → IsFirst table n (first_free table n (length table) 0) (length table)
    by (inl f) =
        let most = f.within in
        record { k = f.k; within = omega arith; is = f.is; free = f.free; before = f.before }
    by (inr all) =
        let most =
        few-taken table n (length table + 1) (omega arith) (λ i h. all i (omega arith)) in
        absurd (omega arith)

is-there : {A : Type 0} (o : Option A) → is_some o ≡ true → o ≢ None
is-there (Some a) e none = cc
is-there None e none = absurd (false≢true e)

pub fresh-is-first : FreshNamesAreFirst
fresh-is-first table n w =
    let f = first table n w in
    record {
      place = f.k;
      is = f.is;
      free = ap (λ x. found x table) f.is
          ∙ none_from_is_some (found (candidate n f.k) table) f.free;
      taken_before = λ k h. is-there (found (candidate n k) table) (f.before k h);
    }

-- ---- names stay apart

grows : (table ds : Table) → length table ≤ length (with_fresh table ds)
grows table [] = omega arith
grows table (d ∷ ds) =
    let more = table ++ (fresh_name table d.0, d.1) ∷ [] in
    let rest : length more ≤ length (with_fresh more ds) = grows more ds in
    let one = length-append table ((fresh_name table d.0, d.1) ∷ []) in
    omega arith

stay-apart : (table ds : Table) → NamesDiffer table → length (with_fresh table ds) < 2 ^ 32
    → NamesDiffer (with_fresh table ds)
stay-apart table [] apart w = apart
stay-apart table (d ∷ ds) apart w =
    let more = table ++ (fresh_name table d.0, d.1) ∷ [] in
    let long = grows table (d ∷ ds) in
    let fresh = fresh-is-first table d.0 (omega arith) in
    stay-apart more ds (NamesDiffer-push table (fresh_name table d.0, d.1) apart fresh.free) w

abbrev table_or : Table → Result Elaborated ElabFault → Table
table_or t (Ok r) = r.table
table_or t (Err e) = t

pub names-stay-apart : NamesStayApart
names-stay-apart b p r e apart w = by (refusal b p) e
  where
    by : (o : Option ElabFault) → refused_or o (elaborated b p) ≡ Ok r → NamesDiffer r.table
    by (Some x) same = absurd (cc (same))
    by None same =
        let ds = declarations (length b.systems) (start b) (all_events b p) in
        let table : with_fresh b.table ds ≡ r.table = ap (table_or []) same in
        subst NamesDiffer table
        (stay-apart b.table ds apart (subst (λ t. length t < 2 ^ 32) (sym table) w))
