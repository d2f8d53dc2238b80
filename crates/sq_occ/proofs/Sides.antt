-- What a side of a term keeps, and what a term holds at its places.
use Rattle.std.proofs.Common.{◌≡◌, refl, ap, ◌∙◌, ℕ, ◌+◌, List, [], ◌∷◌, Bool, true, false, map}
use Rattle.std.specs.Prelude.{◌||◌}
use Rattle.sq_term.specs.declared.model.Value.{Value}
use Rattle.sq_term.specs.declared.term.Idx.{Idx}
use Rattle.sq_term.specs.declared.term.Macro.{Macro}
use Rattle.sq_term.specs.declared.term.Side.{Side}
use Rattle.sq_term.specs.declared.term.Side.TheVariants.{Left, Right, Both}
use Rattle.sq_term.specs.Reads.{AtMacros, AllAtMacros}
use Rattle.sq_term.specs.Syntax.{TsTree, action, TermTree, name, fun, macro, schema, diff, le}
use Rattle.sq_term.specs.Syntax.{ts_eq, idx_eq, happens, all, some, find, TermTrees, nil, cons}
use Rattle.sq_term.specs.Systems.{SystemTree}
use Rattle.sq_term.specs.Translate.{Times}
use Rattle.sq_system.specs.Facts.{IsOwnInput, AreIndicesOf, IsBody, AreBodies}
use Rattle.sq_system.specs.Facts.{first_indices}
use Rattle.sq_subst.specs.Leaves.{on_side, map_ts, map_term, map_terms}
use Rattle.sq_subst.specs.Projection.{projecting}
use Rattle.sq_occ.specs.Reads.{AtPlaces, AllAtPlaces}
use Rattle.sq_occ.specs.Searches.{holds_schema, hold_schema}

pub map_same_indices : (is : List Idx) → map (λ i. i) is ≡ is
map_same_indices [] = refl
map_same_indices (i ∷ is) = ap (λ r. i ∷ r) (map_same_indices is)

pub neither : (p q : Bool) → (p || q) ≡ false → (p ≡ false) × (q ≡ false)
neither true q e = absurd (let f : true ≡ false = e in cc)
neither false q e = (refl, e)

-- a side of a body is one
module _ (s : SystemTree) (k n : ℕ) (side : Side) where
  same_indices_of : (is : List Idx) → AreIndicesOf n is → AreIndicesOf n (map (λ i. i) is)
  same_indices_of [] h = tt
  same_indices_of (i ∷ is) h = (h.0, same_indices_of is h.1)

  one_side_body : (o : Side) (x y : TermTree) → IsBody s k n x → IsBody s k n y
      → IsBody s k n (on_side o x y)
  one_side_body Left x y h g = h
  one_side_body Right x y h g = g
  one_side_body Both x y h g = (h, g)

  same_input : (m : ℕ) (r : Macro) (t : TsTree) → IsOwnInput s k r t
      → IsOwnInput s k r (map_ts (projecting side) m t)
  same_input m r t h = record {
    at = h.at;
    there = h.there;
    there_is = h.there_is;
    on_line = h.on_line;
    read_is = h.read_is;
    time_is = ap (map_ts (projecting side) m) h.time_is
        ∙ ap (action h.at) (map_same_indices (first_indices h.there.arity));
  }

  mutual
    pub side_body : (x : TermTree) (m : ℕ) → IsBody s k n x
        → IsBody s k n (map_term (projecting side) m x)
    side_body (name c is) m h = same_indices_of is h
    side_body (fun f is ts) m h = (same_indices_of is h.0, side_bodies ts m h.1)
    side_body (macro r t) m h = same_input m r t h
    side_body (schema c) m h = absurd h
    side_body (diff x y) m h =
        one_side_body side (map_term (projecting side) m x) (map_term (projecting side) m y)
        (side_body x m h.0) (side_body y m h.1)
    side_body (le a b) m h = absurd h
    side_body (ts_eq a b) m h = absurd h
    side_body (idx_eq i j) m h = h
    side_body (happens t) m h = absurd h
    side_body (all c t) m h = side_body t (m + 1) h
    side_body (some c t) m h = side_body t (m + 1) h
    side_body (find c t a b) m h =
        (side_body t (m + c) h.0, side_body a (m + c) h.1, side_body b m h.2)

    side_bodies : (ts : TermTrees) (m : ℕ) → AreBodies s k n ts
        → AreBodies s k n (map_terms (projecting side) m ts)
    side_bodies nil m h = tt
    side_bodies (cons t ts) m h = (side_body t m h.0, side_bodies ts m h.1)

module _ (w : Times) (P : List Value → Macro → TsTree → Type 0) (S : ℕ → Type 0) where
  mutual
    pub at_places : (x : TermTree) (es : List Value) → AtMacros w P es x → AtPlaces w P S es x
    at_places (name n is) es h = tt
    at_places (fun f is ts) es h = all_at_places ts es h
    at_places (macro m t) es h = h
    at_places (schema k) es h = absurd h
    at_places (diff x y) es h = (at_places x es h.0, at_places y es h.1)
    at_places (le t s) es h = tt
    at_places (ts_eq t s) es h = tt
    at_places (idx_eq i j) es h = tt
    at_places (happens t) es h = tt
    at_places (all s body) es h = λ x i. at_places body (x ∷ es) (h x i)
    at_places (some s body) es h = λ x i. at_places body (x ∷ es) (h x i)
    at_places (find c test found other) es h = (
      λ xs i. (at_places test xs (h.0 xs i).0, at_places found xs (h.0 xs i).1),
      at_places other es h.1,
    )

    all_at_places : (ts : TermTrees) (es : List Value) → AllAtMacros w P es ts
        → AllAtPlaces w P S es ts
    all_at_places nil es h = tt
    all_at_places (cons t ts) es h = (at_places t es h.0, all_at_places ts es h.1)

  -- a side of a term without schema variables, where each macro has the property
  module _ (side : Side) (each : (es : List Value) (m : Macro) (t : TsTree) → P es m t) where
    one_side_plain : (o : Side) (es : List Value) (x y : TermTree) → AtPlaces w P S es x
        → AtPlaces w P S es y → AtPlaces w P S es (on_side o x y)
    one_side_plain Left es x y h g = h
    one_side_plain Right es x y h g = g
    one_side_plain Both es x y h g = (h, g)

    mutual
      pub plain_places : (x : TermTree) (m : ℕ) (es : List Value) → holds_schema x ≡ false
          → AtPlaces w P S es (map_term (projecting side) m x)
      plain_places (name n is) m es h = tt
      plain_places (fun f is ts) m es h = all_plain_places ts m es h
      plain_places (macro r t) m es h = each es r (map_ts (projecting side) m t)
      plain_places (schema k) m es h = absurd (let f : true ≡ false = h in cc)
      plain_places (diff x y) m es h =
          let p = neither (holds_schema x) (holds_schema y) h in
          one_side_plain side es (map_term (projecting side) m x) (map_term (projecting side) m y)
          (plain_places x m es p.0) (plain_places y m es p.1)
      plain_places (le t s) m es h = tt
      plain_places (ts_eq t s) m es h = tt
      plain_places (idx_eq i j) m es h = tt
      plain_places (happens t) m es h = tt
      plain_places (all s body) m es h = λ x i. plain_places body (m + 1) (x ∷ es) h
      plain_places (some s body) m es h = λ x i. plain_places body (m + 1) (x ∷ es) h
      plain_places (find c test found other) m es h =
          let p = neither (holds_schema test) (holds_schema found || holds_schema other) h in
          let q = neither (holds_schema found) (holds_schema other) p.1 in (
            λ xs i. (plain_places test (m + c) xs p.0, plain_places found (m + c) xs q.0),
            plain_places other m es q.1,
          )

      all_plain_places : (ts : TermTrees) (m : ℕ) (es : List Value) → hold_schema ts ≡ false
          → AllAtPlaces w P S es (map_terms (projecting side) m ts)
      all_plain_places nil m es h = tt
      all_plain_places (cons t ts) m es h =
          let p = neither (holds_schema t) (hold_schema ts) h in
          (plain_places t m es p.0, all_plain_places ts m es p.1)
