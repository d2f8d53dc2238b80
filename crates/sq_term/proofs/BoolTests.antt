-- Tests of equality answer whether things are equal.
use Rattle.std.proofs.Common.{◌≡◌, refl, ap, ℕ, List, [], ◌∷◌, Bool, true, false, ◌&&◌, ◌==◌}
use Rattle.std.proofs.lemmas.Bool.{eqb-true, eq-eqb}
use Rattle.sq_term.specs.Lists.{same_numbers}
use Rattle.sq_term.specs.Symbols.{same_kind}
use Rattle.sq_term.proofs.KindNumbers.{same_kind-decides}
use Rattle.sq_term.specs.Ground.{Ground, named, applied, atom, Grounds, none, more}
use Rattle.sq_term.specs.GroundFormulas.{same_ground, same_grounds}

pub and_split : (x y : Bool) → (x && y) ≡ true → (x ≡ true) × (y ≡ true)
and_split true y h = (refl, h)
and_split false y h = (h, let e : false ≡ true = h in cc)

pub and_both : (x y : Bool) → x ≡ true → y ≡ true → (x && y) ≡ true
and_both true y e f = f
and_both false y e f = e

pub number_itself : (n : ℕ) → (n == n) ≡ true
number_itself n = eq-eqb n n refl

pub same_numbers-true : (xs ys : List ℕ) → same_numbers xs ys ≡ true → xs ≡ ys
same_numbers-true [] [] h = refl
same_numbers-true [] (y ∷ ys) h = let e : false ≡ true = h in cc
same_numbers-true (x ∷ xs) [] h = let e : false ≡ true = h in cc
same_numbers-true (x ∷ xs) (y ∷ ys) h =
    let s : ((x == y) ≡ true) × (same_numbers xs ys ≡ true) =
    and_split (x == y) (same_numbers xs ys) h in
    cc (eqb-true x y s.0, same_numbers-true xs ys s.1)

pub same_numbers_itself : (xs : List ℕ) → same_numbers xs xs ≡ true
same_numbers_itself [] = refl
same_numbers_itself (x ∷ xs) =
    and_both (x == x) (same_numbers xs xs) (number_itself x) (same_numbers_itself xs)

mutual
  pub same_ground-true : (t u : Ground) → same_ground t u ≡ true → t ≡ u
  same_ground-true (named n is) (named m js) h =
      let s : ((n == m) ≡ true) × (same_numbers is js ≡ true) =
      and_split (n == m) (same_numbers is js) h in
      cc (eqb-true n m s.0, same_numbers-true is js s.1)
  same_ground-true (named n is) (applied f js ts) h = let e : false ≡ true = h in cc
  same_ground-true (named n is) (atom k) h = let e : false ≡ true = h in cc
  same_ground-true (applied f is ts) (named n js) h = let e : false ≡ true = h in cc
  same_ground-true (applied f is ts) (atom k) h = let e : false ≡ true = h in cc
  same_ground-true (applied f is ts) (applied g js us) h =
      let s : (same_kind f g ≡ true) × ((same_numbers is js && same_grounds ts us) ≡ true) =
      and_split (same_kind f g) (same_numbers is js && same_grounds ts us) h in
      let r : (same_numbers is js ≡ true) × (same_grounds ts us ≡ true) =
      and_split (same_numbers is js) (same_grounds ts us) s.1 in
      cc ((same_kind-decides f g).0 s.0, same_numbers-true is js r.0, same_grounds-true ts us r.1)
  same_ground-true (atom k) (named n is) h = let e : false ≡ true = h in cc
  same_ground-true (atom k) (applied f is ts) h = let e : false ≡ true = h in cc
  same_ground-true (atom k) (atom l) h = ap atom (eqb-true k l h)

  pub same_grounds-true : (ts us : Grounds) → same_grounds ts us ≡ true → ts ≡ us
  same_grounds-true none none h = refl
  same_grounds-true none (more u us) h = let e : false ≡ true = h in cc
  same_grounds-true (more t ts) none h = let e : false ≡ true = h in cc
  same_grounds-true (more t ts) (more u us) h =
      let s : (same_ground t u ≡ true) × (same_grounds ts us ≡ true) =
      and_split (same_ground t u) (same_grounds ts us) h in
      cc (same_ground-true t u s.0, same_grounds-true ts us s.1)

mutual
  pub same_ground_itself : (t : Ground) → same_ground t t ≡ true
  same_ground_itself (named n is) =
      and_both (n == n) (same_numbers is is) (number_itself n) (same_numbers_itself is)
  same_ground_itself (applied f is ts) =
      and_both (same_kind f f) (same_numbers is is && same_grounds ts ts)
      ((same_kind-decides f f).1 refl)
      (and_both (same_numbers is is) (same_grounds ts ts) (same_numbers_itself is)
      (same_grounds_itself ts))
  same_ground_itself (atom k) = number_itself k

  pub same_grounds_itself : (ts : Grounds) → same_grounds ts ts ≡ true
  same_grounds_itself none = refl
  same_grounds_itself (more t ts) =
      and_both (same_ground t t) (same_grounds ts ts) (same_ground_itself t)
      (same_grounds_itself ts)
