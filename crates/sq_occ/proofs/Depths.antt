-- A message has no more depth where a side is taken of it and indices are bound in it, so that it
-- can
-- be too large by its nodes alone.
use Rattle.std.proofs.Common.{◌≡◌, refl, sym, ap, ◌∙◌, subst, ℕ, ◌+◌, ◌<◌, ◌≤◌, max, List, []}
use Rattle.std.proofs.Common.{◌∷◌, map, length, Bool, true, false, if◌then◌else◌, nat_le, ◌&&◌}
use Rattle.std.proofs.Common.{arith}
use Rattle.std.proofs.lemmas.Bool.Decides.{nat_tests}
use Rattle.std.specs.Prelude.{Ok, Err, reverse, ◌≢◌}
use Rattle.std.proofs.lemmas.List.{length-reverse}
use Rattle.sq_term.specs.declared.term.Idx.{Idx}
use Rattle.sq_term.specs.declared.term.Side.{Side}
use Rattle.sq_term.specs.declared.term.Side.TheVariants.{Left, Right, Both}
use Rattle.sq_term.specs.declared.term.SizeFault.{SizeFault}
use Rattle.sq_term.specs.declared.term.SizeFault.TheVariants.{TooLarge, NoMemory}
use Rattle.sq_base.specs.declared.sort.Sort.{Sort}
use Rattle.sq_term.specs.Lists.{here}
use Rattle.sq_system.specs.Faults.{list_fault}
use Rattle.sq_term.specs.Symbols.{Kind}
use Rattle.sq_term.specs.Measure.{indices_depth, ts_depth, size, depth, depths}
use Rattle.sq_term.specs.Syntax.{TsTree, free, bound, init, pred, action, TermTree, name, fun}
use Rattle.sq_term.specs.Syntax.{macro, schema, diff, le, ts_eq, idx_eq, happens, all, some, find}
use Rattle.sq_term.specs.Syntax.{TermTrees, nil, cons}
use Rattle.sq_subst.specs.Leaves.{on_side, map_ts, map_term, map_terms}
use Rattle.sq_subst.specs.Renaming.{bound_index, binding}
use Rattle.sq_subst.specs.Room.{within}
use Rattle.sq_occ.specs.Listed.{side_of}
use Rattle.sq_occ.specs.Calls.Scans.{Scan, scanned, key_of}
use Rattle.sq_occ.specs.Calls.Lists.{Refuses}

module _ (r : ℕ) (side : Side) where
  same_indices : (m : ℕ) (is : List Idx) → indices_depth (map (bound_index r m) is)
      ≡ indices_depth is
  same_indices m [] = refl
  same_indices m (i ∷ is) = refl

  same_time : (m : ℕ) (t : TsTree) → ts_depth (map_ts (binding r side) m t) ≡ ts_depth t
  same_time m (free k) = refl
  same_time m (bound k) = refl
  same_time m init = refl
  same_time m (pred t) = ap (λ d. d + 1) (same_time m t)
  same_time m (action n is) = ap (λ d. d + 1) (same_indices m is)

  one_side : (o : Side) (x y : TermTree) (a b : ℕ) → depth x ≤ a → depth y ≤ b
      → depth (on_side o x y) ≤ max a b + 1
  one_side Left x y a b h k = omega arith
  one_side Right x y a b h k = omega arith
  one_side Both x y a b h k = omega arith

  mutual
    pub depth_bound : (t : TermTree) (m : ℕ) → depth (map_term (binding r side) m t) ≤ depth t
    depth_bound (name n is) m = omega (arith, same_indices m is)
    depth_bound (fun f is ts) m = omega (arith, same_indices m is, depths_bound ts m)
    depth_bound (macro x t) m = omega (arith, same_time m t)
    depth_bound (schema k) m = omega arith
    depth_bound (diff x y) m =
        one_side side (map_term (binding r side) m x) (map_term (binding r side) m y) (depth x)
        (depth y) (depth_bound x m) (depth_bound y m)
    depth_bound (le t s) m = omega (arith, same_time m t, same_time m s)
    depth_bound (ts_eq t s) m = omega (arith, same_time m t, same_time m s)
    depth_bound (idx_eq i j) m = omega arith
    depth_bound (happens t) m = omega (arith, same_time m t)
    depth_bound (all s t) m = omega (arith, depth_bound t (m + 1))
    depth_bound (some s t) m = omega (arith, depth_bound t (m + 1))
    depth_bound (find c t a b) m =
        omega (arith, depth_bound t (m + c), depth_bound a (m + c), depth_bound b m)

    depths_bound : (ts : TermTrees) (m : ℕ)
        → depths (map_terms (binding r side) m ts) ≤ depths ts
    depths_bound nil m = omega arith
    depths_bound (cons t ts) m = omega (arith, depth_bound t m, depths_bound ts m)

-- what does not fit has too many nodes, where it is not too deep
pub too_many : (room : ℕ) (t : TermTree) → depth t ≤ 1024 → within room t ≡ Err TooLarge
    → room < size t
too_many room t d e = at (nat_le (size t) room) (nat_le (depth t) 1024) refl refl e
  where
    at : (b c : Bool) → nat_le (size t) room ≡ b → nat_le (depth t) 1024 ≡ c
        → (if b && c then Ok t else Err TooLarge) ≡ Err TooLarge → room < size t
    at true true f g e = absurd (let x : Ok t ≡ Err TooLarge = e in cc)
    at true false f g e = let no : 1024 < depth t = grind (arith, nat_tests) in absurd (omega arith)
    at false c f g e = grind (arith, nat_tests)

-- an entry whose message has no room has none
pub key_refused : (S : Scan) (is : List Idx) (f : Kind) (t : TermTree) (test : Bool)
    (above : List Sort) (d room : ℕ) (side : Side) (x : SizeFault) → side ≡ side_of S.left
    → d ≡ length above
    → (x ≢ NoMemory → within room (map_term (binding S.arity side) d t) ≡ Err x)
    → Refuses (list_fault x) room
    (scanned S is (key_of S f t test (reverse above)) (reverse above) ∷ [])
key_refused S is f t test above d room side NoMemory e l h = λ n. absurd (n refl)
key_refused S is f t test above d room side TooLarge e l h = λ n. (
  refl,
  λ shallow.
      let same : d ≡ length (reverse above) = l ∙ sym (length-reverse above) in
      let no_memory : TooLarge ≢ NoMemory = differ in
      let refused : within room (map_term (binding S.arity (side_of S.left))
      (length (reverse above)) t) ≡ Err TooLarge =
      subst (λ o. within room (map_term (binding S.arity o) (length (reverse above)) t)
      ≡ Err TooLarge) e
      (subst (λ n. within room (map_term (binding S.arity side) n t) ≡ Err TooLarge) same
      (h no_memory)) in
      let deep : depth (map_term (binding S.arity (side_of S.left)) (length (reverse above)) t)
      ≤ 1024 =
      shallow (scanned S is (key_of S f t test (reverse above)) (reverse above)) here in
      let there : room < size (map_term (binding S.arity (side_of S.left))
      (length (reverse above)) t) =
      too_many room (map_term (binding S.arity (side_of S.left)) (length (reverse above)) t) deep
      refused in
      omega (arith, there),
)
  where
    differ : TooLarge ≡ NoMemory → ⊥
    differ q = cc
