-- `comment_len` measures the comments that are closed.
use Rattle.std.proofs.Common.{◌≡◌, ℕ, zero, suc, ◌+◌, ◌-◌, ◌<◌, Bool, true, false, ◌==◌, List, []}
use Rattle.std.proofs.Common.{◌∷◌, ◌++◌, Some, length, take, get_or, slice_index, refl, ap, ◌∙◌}
use Rattle.std.proofs.Common.{sym, subst, arith}
use Rattle.std.specs.Prelude.{if◌then◌else◌}
use Rattle.std.proofs.lemmas.Bool.Decides.{nat_tests}
use Rattle.std.proofs.lemmas.List.{length-take-le, get_or-take}
use Rattle.sq_lex.specs.Characters.{opens, closes}
use Rattle.sq_lex.specs.Pieces.{comment_len}
use Rattle.sq_lex.specs.Standing.{Closes, last, inner, opening, other}
use Rattle.sq_lex.proofs.FirstBytes.{opening_bytes, closing_bytes}

-- ---- one step

module _ (inside k c d : ℕ) (cs after rest : List ℕ)
    (e : rest ≡ c ∷ after) (g : after ≡ d ∷ cs) where
  both : rest ≡ c ∷ d ∷ cs
  both = e ∙ ap (λ x. c ∷ x) g

  pub opened : opens c d ≡ true → comment_len inside k rest ≡ comment_len (inside + 1) (k + 2) cs
  opened o = rw (both, o) refl

  pub closed : opens c d ≡ false → closes c d ≡ true → 0 < inside
      → comment_len inside k rest ≡ comment_len (inside - 1) (k + 2) cs
  closed o q h =
      let some : (inside == 0) ≡ false = grind (arith, nat_tests) in
      rw (both, o, q, some) refl

  pub passed : opens c d ≡ false → closes c d ≡ false
      → comment_len inside k rest ≡ comment_len inside (k + 1) after
  passed o q = rw (both, o, q, g) refl

-- ---- a comment that is closed has its length

closes_some : (n : ℕ) (bs : List ℕ) → Closes n bs → 0 < length bs
closes_some _ _ last = omega arith
closes_some _ _ (inner n bs h) = omega arith
closes_some _ _ (opening n bs h) = omega arith
closes_some _ _ (other n b bs o c h) = omega arith

passed_over : (n k b : ℕ) (bs rest : List ℕ) → opens b (slice_index bs 0) ≡ false
    → closes b (slice_index bs 0) ≡ false → 0 < length bs
    → comment_len n k (b ∷ (bs ++ rest)) ≡ comment_len n (k + 1) (bs ++ rest)
passed_over n k b [] rest o c h = absurd (omega arith)
passed_over n k b (d ∷ ds) rest o c h = rw (o, c) refl

pub closed_len : (n k : ℕ) (bs rest : List ℕ) → Closes n bs
    → comment_len n k (bs ++ rest) ≡ Some (k + length bs)
closed_len _ k _ rest last = refl
closed_len _ k _ rest (inner n bs h) =
    let more = closed_len n (k + 2) bs rest h in
    let some : (suc n == 0) ≡ false = grind (arith, nat_tests) in
    let less : suc n - 1 ≡ n = omega arith in
    let len : k + 2 + length bs ≡ k + length (42 ∷ 41 ∷ bs) = omega arith in
    rw (some, less) (more ∙ ap Some len)
closed_len _ k _ rest (opening n bs h) =
    let more = closed_len (suc n) (k + 2) bs rest h in
    let one : n + 1 ≡ suc n = omega arith in
    let len : k + 2 + length bs ≡ k + length (40 ∷ 42 ∷ bs) = omega arith in
    rw one (more ∙ ap Some len)
closed_len _ k _ rest (other n b bs o c h) =
    let more = closed_len n (k + 1) bs rest h in
    let len : k + 1 + length bs ≡ k + length (b ∷ bs) = omega arith in
    passed_over n k b bs rest o c (closes_some n bs h) ∙ (more ∙ ap Some len)

-- ---- what has a length is a comment that is closed

pub record Closed (deep k : ℕ) (cs : List ℕ) (n : ℕ) : Type 0 where
  pub before : ℕ
  pub len : n ≡ k + suc before
  pub within : before < length cs
  pub closes : Closes deep (take (suc before) cs)

opening_closed : (deep k b c : ℕ) (cs : List ℕ) (n : ℕ) → opens b c ≡ true
    → Closed (deep + 1) (k + 2) cs n → Closed deep k (b ∷ c ∷ cs) n
opening_closed deep k b c cs n p r =
    let bytes = opening_bytes b c p in
    let front = take (suc r.before) cs in
    let one : deep + 1 ≡ suc deep = omega arith in
    let inside : Closes (suc deep) front = subst (λ m. Closes m front) one r.closes in
    record {
      before = suc (suc r.before);
      len = omega (arith, r.len);
      within = omega (arith, r.within);
      closes = rw (bytes.0, bytes.1) (opening deep front inside);
    }

inner_closed : (deep k b c : ℕ) (cs : List ℕ) (n : ℕ) → closes b c ≡ true
    → Closed deep (k + 2) cs n → Closed (suc deep) k (b ∷ c ∷ cs) n
inner_closed deep k b c cs n p r =
    let bytes = closing_bytes b c p in
    let front = take (suc r.before) cs in
    record {
      before = suc (suc r.before);
      len = omega (arith, r.len);
      within = omega (arith, r.within);
      closes = rw (bytes.0, bytes.1) (inner deep front r.closes);
    }

last_closed : (k b c : ℕ) (cs : List ℕ) (n : ℕ) → closes b c ≡ true → k + 2 ≡ n
    → Closed 0 k (b ∷ c ∷ cs) n
last_closed k b c cs n p len =
    let bytes = closing_bytes b c p in
    record {
      before = 1;
      len = omega arith;
      within = omega arith;
      closes = rw (bytes.0, bytes.1) last;
    }

pub comment_closed : (deep k : ℕ) (cs : List ℕ) (n : ℕ) → comment_len deep k cs ≡ Some n
    → Closed deep k cs n
comment_closed deep k [] n e = cc
comment_closed deep k (b ∷ []) n e = cc
comment_closed deep k (b ∷ c ∷ cs) n e =
    by deep (opens b c) (closes b c) (deep == 0) refl refl refl e
    (comment_closed (deep + 1) (k + 2) cs n)
    (λ less. comment_closed less (k + 2) cs n)
    (comment_closed deep (k + 1) (c ∷ cs) n)
  where
    by : (deep : ℕ) (o s z : Bool) → opens b c ≡ o → closes b c ≡ s → (deep == 0) ≡ z
        → (if o then comment_len (deep + 1) (k + 2) cs
        else (if s then (if z then Some (k + 2) else comment_len (deep - 1) (k + 2) cs)
        else comment_len deep (k + 1) (c ∷ cs))) ≡ Some n
        → (comment_len (deep + 1) (k + 2) cs ≡ Some n → Closed (deep + 1) (k + 2) cs n)
        → ((less : ℕ) → comment_len less (k + 2) cs ≡ Some n → Closed less (k + 2) cs n)
        → (comment_len deep (k + 1) (c ∷ cs) ≡ Some n → Closed deep (k + 1) (c ∷ cs) n)
        → Closed deep k (b ∷ c ∷ cs) n
    by deep true s z p q t e f g h = opening_closed deep k b c cs n p (f e)
    by zero false true false p q t e f g h = cc
    by zero false true true p q t e f g h =
        let len : k + 2 ≡ n = cc in
        last_closed k b c cs n q len
    by (suc m) false true true p q t e f g h =
        let no : ⊥ = grind (arith, nat_tests) in absurd no
    by (suc m) false true false p q t e f g h =
        let less : suc m - 1 ≡ m = omega arith in
        let below = ap (λ j. comment_len j (k + 2) cs) less in
        inner_closed m k b c cs n q (g m (sym below ∙ e))
    by deep false false z p q t e f g h =
        let r = h e in
        record {
          before = suc r.before;
          len = omega (arith, r.len);
          within = omega (arith, r.within);
          closes = other deep b (c ∷ take r.before cs) p q r.closes;
        }

-- ---- a comment that is closed ends in `)`

record EndsIn (b : ℕ) (bs : List ℕ) : Type 0 where
  before : ℕ
  len : length bs ≡ suc before
  is : get_or bs before 0 ≡ b

longer : (b c : ℕ) (bs : List ℕ) → EndsIn b bs → EndsIn b (c ∷ bs)
longer b c bs r = record { before = suc r.before; len = omega (arith, r.len); is = r.is }

closes_end : (n : ℕ) (bs : List ℕ) → Closes n bs → EndsIn 41 bs
closes_end _ _ last = record { before = 1; len = omega arith; is = refl }
closes_end _ _ (inner n bs h) = longer 41 42 (41 ∷ bs) (longer 41 41 bs (closes_end n bs h))
closes_end _ _ (opening n bs h) =
    longer 41 40 (42 ∷ bs) (longer 41 42 bs (closes_end (suc n) bs h))
closes_end _ _ (other n b bs o c h) = longer 41 b bs (closes_end n bs h)

pub closed_end : (deep k : ℕ) (cs : List ℕ) (n : ℕ) (r : Closed deep k cs n)
    → get_or cs r.before 0 ≡ 41
closed_end deep k cs n r =
    let end = closes_end deep (take (suc r.before) cs) r.closes in
    let len = length-take-le (suc r.before) cs (omega (arith, r.within)) in
    let same : end.before ≡ r.before = omega (arith, end.len, len) in
    sym (get_or-take (suc r.before) cs r.before 0 (omega arith))
    ∙ (ap (λ i. get_or (take (suc r.before) cs) i 0) (sym same) ∙ end.is)
