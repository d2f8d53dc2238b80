-- Laws of the list of declarations: where a name stands, and that it stands once.
use Rattle.std.proofs.Common.{◌≡◌, ℕ, ◌+◌, zero, suc, Bool, true, false, cond, List, [], ◌∷◌, ◌++◌}
use Rattle.std.proofs.Common.{Option, Some, None, option_map, slice_get, is_some, take, All, ◌≢◌}
use Rattle.std.proofs.Common.{MatchOption, refl, sym, ap, ◌∙◌, subst, arith}
use Rattle.std.proofs.lemmas.Bool.{false≢true}
use Rattle.std.proofs.lemmas.List.Elements.{All-nil, All-cons}
use Rattle.std.proofs.lemmas.Slice.Eq.{bytes_eq-Decides}
use Rattle.std.specs.Str.{bytes_eq}
use Rattle.sq_sym.specs.declared.symbol.Symbol.{Symbol}
use Rattle.sq_sym.specs.Declarations.{found, NamesDiffer}

abbrev Declaration : Type 0
Declaration = List ℕ × Symbol

pub none_from_is_some : {A : Type 0} (o : Option A) → is_some o ≡ false → o ≡ None
none_from_is_some None h = refl
none_from_is_some (Some a) h = cc

-- a name is absent from a longer list exactly where it is no first name and absent from the rest
absent_cons : (name : List ℕ) (d : Declaration) (ds : List Declaration) → bytes_eq name d.0 ≡ false
    → found name ds ≡ None → found name (d ∷ ds) ≡ None
absent_cons name d ds other absent = rw (other, absent) refl

absent_first : (name : List ℕ) (d : Declaration) (ds : List Declaration) → found name (d ∷ ds)
    ≡ None → bytes_eq name d.0 ≡ false
absent_first name d ds h = by (bytes_eq name d.0) h
  where
    by : (b : Bool) → cond {A = Option (ℕ × Symbol)} b (Some (0, d.1))
        (option_map (λ r. (r.0 + 1, r.1)) (found name ds)) ≡ None → b ≡ false
    by true h = cc
    by false h = refl

absent_rest : (name : List ℕ) (d : Declaration) (ds : List Declaration) → found name (d ∷ ds) ≡ None
    → found name ds ≡ None
absent_rest name d ds h = by (bytes_eq name d.0) (found name ds) h
  where
    by : (b : Bool) (f : Option (ℕ × Symbol)) → cond {A = Option (ℕ × Symbol)} b (Some (0, d.1))
        (option_map (λ r. (r.0 + 1, r.1)) f) ≡ None → f ≡ None
    by true f h = cc
    by false None h = refl
    by false (Some r) h = cc

other_way : (a b : List ℕ) → bytes_eq a b ≡ false → bytes_eq b a ≡ false
other_way a b h = by (bytes_eq b a) refl
  where
    by : (t : Bool) → bytes_eq b a ≡ t → t ≡ false
    by true e = absurd (false≢true
        (sym h ∙ (bytes_eq-Decides a b).1 (sym ((bytes_eq-Decides b a).0 e))))
    by false e = refl

absent_push : (name : List ℕ) (ds : List Declaration) (d : Declaration) → found name ds ≡ None
    → bytes_eq name d.0 ≡ false → found name (ds ++ d ∷ []) ≡ None
absent_push name [] d absent other = absent_cons name d [] other refl
absent_push name (x ∷ xs) d absent other =
    absent_cons name x (xs ++ d ∷ []) (absent_first name x xs absent)
    (absent_push name xs d (absent_rest name x xs absent) other)

-- a declaration of a new name leaves all names different
pub NamesDiffer-push : (ds : List Declaration) (d : Declaration) → NamesDiffer ds → found d.0 ds
    ≡ None → NamesDiffer (ds ++ d ∷ [])
NamesDiffer-push [] d differ absent = (refl, tt)
NamesDiffer-push (x ∷ xs) d differ absent = (
  absent_push x.0 xs d differ.0 (other_way d.0 x.0 (absent_first d.0 x xs absent)),
  NamesDiffer-push xs d differ.1 (absent_rest d.0 x xs absent),
)

absent_take : (name : List ℕ) (n : ℕ) (ds : List Declaration) → found name ds ≡ None
    → found name (take n ds) ≡ None
absent_take name zero ds absent = refl
absent_take name (suc n) [] absent = refl
absent_take name (suc n) (d ∷ ds) absent =
    absent_cons name d (take n ds) (absent_first name d ds absent)
    (absent_take name n ds (absent_rest name d ds absent))

-- so does cutting the list
pub NamesDiffer-take : (n : ℕ) (ds : List Declaration) → NamesDiffer ds → NamesDiffer (take n ds)
NamesDiffer-take zero ds differ = tt
NamesDiffer-take (suc n) [] differ = tt
NamesDiffer-take (suc n) (d ∷ ds) differ =
    (absent_take d.0 n ds differ.0, NamesDiffer-take n ds differ.1)

-- where a name is found, and what it means that it is not
abbrev pub Stands : List ℕ → List Declaration → Option (ℕ × Symbol) → Type 0
Stands name ds r = MatchOption r (All (λ d. d.0 ≢ name) ds)
    (λ r. slice_get ds r.0 ≡ Some (name, r.1))

pub Stands-found : (name : List ℕ) (ds : List Declaration) → Stands name ds (found name ds)
Stands-found name [] = All-nil (λ (d : Declaration). d.0 ≢ name)
Stands-found name (d ∷ ds) = by (bytes_eq name d.0) refl (found name ds) (Stands-found name ds)
  where
    by : (b : Bool) → bytes_eq name d.0 ≡ b → (r : Option (ℕ × Symbol)) → Stands name ds r
        → Stands name (d ∷ ds)
        (cond {A = Option (ℕ × Symbol)} b (Some (0, d.1)) (option_map (λ r. (r.0 + 1, r.1)) r))
    by true e r h = ap (λ n. Some (n, d.1)) (sym ((bytes_eq-Decides name d.0).0 e))
    by false e None h = All-cons (λ (d : Declaration). d.0 ≢ name) d ds
        (λ same. false≢true (sym e ∙ (bytes_eq-Decides name d.0).1 (sym same))) h
    by false e (Some r) h = let one : r.0 + 1 ≡ suc r.0 = omega arith in rw one h

absent_there : (name : List ℕ) (s : Symbol) (ds : List Declaration) → found name ds ≡ None → (k : ℕ)
    → slice_get ds k ≡ Some (name, s) → ⊥
absent_there name s [] h k at = cc
absent_there name s (d ∷ ds) h zero at = let same : d.0 ≡ name = cc in
    absurd (false≢true (sym (absent_first name d ds h) ∙ (bytes_eq-Decides name d.0).1 (sym same)))
absent_there name s (d ∷ ds) h (suc k) at = absent_there name s ds (absent_rest name d ds h) k at

-- the other way: a declaration that stands in the table is the one that is found
pub found-there : (ds : List Declaration) → NamesDiffer ds → (name : List ℕ) (k : ℕ) (s : Symbol)
    → slice_get ds k ≡ Some (name, s) → found name ds ≡ Some (k, s)
found-there [] differ name k s at = cc
found-there (d ∷ ds) differ name zero s at =
    let same : name ≡ d.0 = cc in
    let what : d.1 ≡ s = cc in
    rw ((bytes_eq-Decides name d.0).1 same) (ap (λ x. Some (0, x)) what)
found-there (d ∷ ds) differ name (suc k) s at =
    by (bytes_eq name d.0) refl (found-there ds differ.1 name k s at)
  where
    by : (b : Bool) → bytes_eq name d.0 ≡ b → found name ds ≡ Some (k, s)
        → cond {A = Option (ℕ × Symbol)} b (Some (0, d.1))
        (option_map (λ r. (r.0 + 1, r.1)) (found name ds)) ≡ Some (suc k, s)
    by true e rest = absurd
        (absent_there name s ds
        (subst (λ n. found n ds ≡ None) (sym ((bytes_eq-Decides name d.0).0 e)) differ.0) k at)
    by false e rest = let one : k + 1 ≡ suc k = omega arith in rw (rest, one) refl
