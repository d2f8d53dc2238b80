-- Equality of timestamps and what their hash is fed: both read the tree.
use Rattle.std.specs.Prelude.{◌≡◌, ℕ, Bool, true, false, ◌&&◌, ◌==◌, List, [], ◌∷◌, ◌++◌, length}
use Rattle.std.specs.Cmp.Lexicographic.{pointwise, pointwise_decides}
use Rattle.std.specs.Cmp.{IsEquivalence, decided, on_equiv}
use Rattle.std.specs.Bool.{Decides}
use Rattle.std.specs.Hash as fed
use Rattle.std.proofs.Common.{ap, refl}
use Rattle.std.proofs.lemmas.Bool.Decides.{Decides-eqb, Decides-and, Decides-like}
use Rattle.sq_term.specs.declared.term.Idx.{Idx}
use Rattle.sq_term.specs.declared.term.Idx.TheVariants as idx
use Rattle.sq_term.specs.declared.term.Ts.{Ts}
use Rattle.sq_term.specs.Syntax.{TsTree, free, bound, init, pred, action}
use Rattle.sq_term.specs.View.{ts_tree}

abbrev pub is_same_idx : Idx → Idx → Bool
is_same_idx (idx.Free m) (idx.Free n) = m == n
is_same_idx (idx.Bound m) (idx.Bound n) = m == n
is_same_idx _ _ = false

abbrev pub is_same_ts_tree : TsTree → TsTree → Bool
is_same_ts_tree (free m) (free n) = m == n
is_same_ts_tree (bound m) (bound n) = m == n
is_same_ts_tree init init = true
is_same_ts_tree (pred s) (pred t) = is_same_ts_tree s t
is_same_ts_tree (action m is) (action n js) = (m == n) && pointwise is_same_idx is js
is_same_ts_tree _ _ = false

abbrev pub is_same_ts : Ts → Ts → Bool
is_same_ts a b = is_same_ts_tree (ts_tree a) (ts_tree b)

pub is_same_idx-decides : (a b : Idx) → Decides (is_same_idx a b) (a ≡ b)
is_same_idx-decides (idx.Free m) (idx.Free n) =
    Decides-like _ (λ e. ap idx.Free e) (λ e. cc) (Decides-eqb m n)
is_same_idx-decides (idx.Bound m) (idx.Bound n) =
    Decides-like _ (λ e. ap idx.Bound e) (λ e. cc) (Decides-eqb m n)
is_same_idx-decides _ _ = (λ e. cc, λ e. cc)

pub is_same_ts_tree-decides : (a b : TsTree) → Decides (is_same_ts_tree a b) (a ≡ b)
is_same_ts_tree-decides (free m) (free n) =
    Decides-like _ (λ e. ap free e) (λ e. cc) (Decides-eqb m n)
is_same_ts_tree-decides (bound m) (bound n) =
    Decides-like _ (λ e. ap bound e) (λ e. cc) (Decides-eqb m n)
is_same_ts_tree-decides init init = (λ e. refl, λ e. refl)
is_same_ts_tree-decides (pred s) (pred t) =
    Decides-like _ (λ e. ap pred e) (λ e. cc) (is_same_ts_tree-decides s t)
is_same_ts_tree-decides (action m is) (action n js) =
    Decides-like _ (λ e. (λ i. action (e.0 i) (e.1 i))) (λ e. (cc, cc))
    (Decides-and _ _ (Decides-eqb m n) (pointwise_decides is_same_idx-decides is js))
is_same_ts_tree-decides _ _ = (λ e. cc, λ e. cc)

pub is_same_ts-equivalence : IsEquivalence is_same_ts
is_same_ts-equivalence = on_equiv ts_tree (decided is_same_ts_tree is_same_ts_tree-decides)

-- what a hash of an index is fed: the variant and its number
abbrev pub idx_fed : Idx → List (List ℕ)
idx_fed (idx.Free n) = fed.u8 0 ++ fed.u32 n
idx_fed (idx.Bound n) = fed.u8 1 ++ fed.u32 n

abbrev pub indices_fed : List Idx → List (List ℕ)
indices_fed [] = []
indices_fed (i ∷ is) = idx_fed i ++ indices_fed is

abbrev pub ts_tree_fed : TsTree → List (List ℕ)
ts_tree_fed (free n) = fed.u8 0 ++ fed.u32 n
ts_tree_fed (bound n) = fed.u8 1 ++ fed.u32 n
ts_tree_fed init = fed.u8 2
ts_tree_fed (pred t) = fed.u8 3 ++ ts_tree_fed t
ts_tree_fed (action a is) = fed.u8 4 ++ (fed.u32 a ++ (fed.usize (length is) ++ indices_fed is))

abbrev pub ts_fed : Ts → List (List ℕ)
ts_fed t = ts_tree_fed (ts_tree t)

pub ts_fed-respects : (a b : Ts) → is_same_ts a b ≡ true → ts_fed a ≡ ts_fed b
ts_fed-respects a b e = ap ts_tree_fed ((is_same_ts_tree-decides (ts_tree a) (ts_tree b)).0 e)
