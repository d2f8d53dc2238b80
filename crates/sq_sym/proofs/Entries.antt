-- The entries of an index map as declarations.
use Rattle.std.proofs.Common.{◌≡◌, ℕ, ◌+◌, suc, Bool, true, false, cond, if◌then◌else◌, List, []}
use Rattle.std.proofs.Common.{◌∷◌, ◌++◌}
use Rattle.std.proofs.Common.{Option, Some, None, option_map, is_some, position, length, nat_lt}
use Rattle.std.proofs.Common.{refl, sym, ap, ◌∙◌, arith}
use Rattle.std.specs.List.{position_or_len}
use Rattle.std.proofs.lemmas.Bool.Decides.{nat_tests}
use Prim.Native.Nat.compare
use Rattle.std.specs.Str.{bytes_eq}
use Rattle.std.specs.declared.string.String.{String}
use Rattle.std.specs.declared.alloc.Global.{Global}
use Rattle.std.specs.String.{string_bytes}
use Rattle.std.specs.Map.{lookup, keys_of}
use Rattle.sq_sym.specs.declared.symbol.Symbol.{Symbol}
use Rattle.sq_sym.specs.Declarations.{found, seen}

abbrev pub is_name : List ℕ → String Global → Bool
is_name name k = bytes_eq name (string_bytes k)

-- a place and a value, where both are there
abbrev pub both : {A B : Type 0} → Option A → Option B → Option (A × B)
both (Some a) (Some b) = Some (a, b)
both (Some a) None = None
both None b = None

one_more : (n l : ℕ) → (if nat_lt (1 + n) (suc l) then Some (1 + n) else None)
    ≡ option_map (λ k. k + 1) (if nat_lt n l then Some n else None)
one_more n l = ap (λ b. (if b then Some (1 + n) else None)) (lt n l) ∙ by (nat_lt n l)
  where
    lt : (n l : ℕ) → nat_lt (1 + n) (suc l) ≡ nat_lt n l
    lt n l = let e : 1 + n ≡ suc n = omega arith in rw (e, compare.suc-suc) refl

    by : (b : Bool) → (if b then Some (1 + n) else None)
        ≡ option_map (λ k. k + 1) (if b then Some n else None)
    by true = ap Some (omega arith)
    by false = refl

-- `position` by recursion
position-cons : {X : Type 0} (p : X → Bool) (x : X) (xs : List X) → position p (x ∷ xs)
    ≡ (if p x then Some 0 else option_map (λ k. k + 1) (position p xs))
position-cons p x xs = by (p x) refl
  where
    by : (b : Bool) → p x ≡ b → position p (x ∷ xs)
        ≡ (if b then Some 0 else option_map (λ k. k + 1) (position p xs))
    by true e = rw e (grind (arith, nat_tests))
    by false e = rw e (one_more (position_or_len p xs) (length xs))

step : {X : Type 0} (b : Bool) (p : Option ℕ) (v : X) (l : Option X)
    → (if b then Some (0, v) else option_map (λ r. (r.0 + 1, r.1)) (both p l))
    ≡ both (if b then Some 0 else option_map (λ k. k + 1) p) (if b then Some v else l)
step true p v l = refl
step false None v l = refl
step false (Some n) v None = refl
step false (Some n) v (Some w) = refl

-- what the map's two look-ups give together
found_is : (name : List ℕ) (es : List (String Global × Symbol)) → found name (seen es)
    ≡ both (position (is_name name) (keys_of es)) (lookup (is_name name) es)
found_is name [] = refl
found_is name (e ∷ es) =
    ap (λ r. (if is_name name e.0 then Some (0, e.1) else option_map (λ r. (r.0 + 1, r.1)) r))
    (found_is name es)
    ∙ step (is_name name e.0) (position (is_name name) (keys_of es)) e.1 (lookup (is_name name) es)
    ∙ ap (λ p. both p (if is_name name e.0 then Some e.1 else lookup (is_name name) es))
    (sym (position-cons (is_name name) e.0 (keys_of es)))

pub found_from : (name : List ℕ) (es : List (String Global × Symbol)) (p : Option ℕ)
    (l : Option Symbol) → p ≡ position (is_name name) (keys_of es) → l ≡ lookup (is_name name) es
    → both p l ≡ found name (seen es)
found_from name es p l e f = (λ i. both (e i) (f i)) ∙ sym (found_is name es)

-- whether a name is there
pub is_found : (name : List ℕ) (es : List (String Global × Symbol)) → is_some (found name (seen es))
    ≡ is_some (lookup (is_name name) es)
is_found name [] = refl
is_found name (e ∷ es) = by (is_name name e.0) (found name (seen es)) (is_found name es)
  where
    by : (b : Bool) (f : Option (ℕ × Symbol)) → is_some f ≡ is_some (lookup (is_name name) es)
        → is_some (cond {A = Option (ℕ × Symbol)} b (Some (0, e.1))
        (option_map (λ r. (r.0 + 1, r.1)) f))
        ≡ is_some (if b then Some e.1 else lookup (is_name name) es)
    by true f h = refl
    by false None h = h
    by false (Some r) h = h

pub seen-append : (es : List (String Global × Symbol)) (e : String Global × Symbol)
    → seen (es ++ e ∷ []) ≡ seen es ++ (string_bytes e.0, e.1) ∷ []
seen-append [] e = refl
seen-append (x ∷ xs) e = ap (λ ys. (string_bytes x.0, x.1) ∷ ys) (seen-append xs e)
