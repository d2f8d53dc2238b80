-- Different ids have different trees, so a pool has as many trees as nodes.
use Rattle.std.proofs.Common.{◌≡◌, ℕ, zero, suc, ◌+◌, ◌<◌, ◌≤◌, ◌||◌, Bool, true, false}
use Rattle.std.proofs.Common.{if◌then◌else◌, List}
use Rattle.std.proofs.Common.{[], ◌∷◌, length, slice_get, Some, unwrap_or, refl, sym, ap, ◌∙◌}
use Rattle.std.proofs.Common.{subst, arith}
use Rattle.std.specs.List.{list_any}
use Rattle.std.proofs.lemmas.Option.{slice_get_within}
use Rattle.sq_term.specs.declared.term.Ts.{Ts}
use Rattle.sq_term.specs.Syntax.{TermTree, schema}
use Rattle.sq_term.specs.View.{ts_tree}
use Rattle.sq_term.specs.TreeEquality.{is_same_tree}
use Rattle.sq_term.proofs.Inverse.{of_ts_tree, of_ts_tree_of}
use Rattle.sq_term.proofs.KindNumbers.{kind_of-same}
use Rattle.sq_term.proofs.SameTrees.{is_same_tree-decides}
use Rattle.sq_pool.specs.declared.node.TermId.{TermId}
use Rattle.sq_pool.specs.declared.node.Node.{Node}
use Rattle.sq_pool.specs.declared.node.Node.TheVariants as node
use Rattle.sq_pool.specs.Nodes.{children, AreBefore, IsOver, IsPool, IsLive}
use Rattle.sq_pool.specs.Trees.{children_trees, node_tree, trees, tree_of, HasOneIdPerTree}
use Rattle.sq_pool.specs.Trees.{different_count}
use Rattle.sq_pool.proofs.Trees.{length-trees, tree_of-node}

same_ts : (s t : Ts) → ts_tree s ≡ ts_tree t → s ≡ t
same_ts s t e = sym (of_ts_tree_of s) ∙ ap of_ts_tree e ∙ of_ts_tree_of t

-- ids below a place are equal where their trees are
abbrev OneBelow : (TermId → TermTree) → ℕ → Type 0
OneBelow tree n = (a b : TermId) → a.at < n → b.at < n → tree a ≡ tree b → a ≡ b

module _ (tree : TermId → TermTree) (n : ℕ) (one : OneBelow tree n) where
  same_children : (cs ds : List TermId) → AreBefore n cs → AreBefore n ds
      → children_trees tree cs ≡ children_trees tree ds → cs ≡ ds
  same_children [] [] o p e = refl
  same_children [] (d ∷ ds) o p e = cc
  same_children (c ∷ cs) [] o p e = cc
  same_children (c ∷ cs) (d ∷ ds) o p e =
      let first = one c d o.0 p.0 cc in
      let rest = same_children cs ds o.1 p.1 cc in
      λ i. first i ∷ rest i

  -- nodes of equal trees are equal where children of equal trees are
  same_node : (x y : Node) → IsOver n x → IsOver n y → node_tree tree x ≡ node_tree tree y → x ≡ y
  same_node (node.Name m is) (node.Name k js) o p e = cc
  same_node (node.Fun f is ts) (node.Fun g js us) o p e =
      let function = kind_of-same f g cc in
      let arguments = same_children ts us o p cc in
      cc
  same_node (node.Macro m s) (node.Macro k t) o p e = let time = same_ts s t cc in cc
  same_node (node.Schema m) (node.Schema k) o p e = cc
  same_node (node.Diff a b) (node.Diff c d) o p e =
      let left = one a c o.0 p.0 cc in
      let right = one b d o.1.0 p.1.0 cc in
      cc
  same_node (node.Le s t) (node.Le u v) o p e =
      let left = same_ts s u cc in
      let right = same_ts t v cc in
      cc
  same_node (node.TsEq s t) (node.TsEq u v) o p e =
      let left = same_ts s u cc in
      let right = same_ts t v cc in
      cc
  same_node (node.IdxEq i j) (node.IdxEq k l) o p e = cc
  same_node (node.Happens s) (node.Happens t) o p e = let time = same_ts s t cc in cc
  same_node (node.Forall r a) (node.Forall q b) o p e = let body = one a b o.0 p.0 cc in cc
  same_node (node.Exists r a) (node.Exists q b) o p e = let body = one a b o.0 p.0 cc in cc
  same_node (node.Find m a b c) (node.Find k d f g) o p e =
      let test = one a d o.0 p.0 cc in
      let then_part = one b f o.1.0 p.1.0 cc in
      let else_part = one c g o.1.1.0 p.1.1.0 cc in
      cc
  same_node _ _ o p e = cc

AreBefore-more : (m n : ℕ) (cs : List TermId) → m ≤ n → AreBefore m cs → AreBefore n cs
AreBefore-more m n [] le before = tt
AreBefore-more m n (c ∷ cs) le before =
    let first = before.0 in (omega arith, AreBefore-more m n cs le before.1)

element : {X : Type 0} (xs : List X) (i : ℕ) → i < length xs → (x : X) × (slice_get xs i ≡ Some x)
element [] i lt = absurd (omega arith)
element (x ∷ xs) zero lt = (x, refl)
element (x ∷ xs) (suc i) lt = element xs i (omega arith)

module _ (ns : List Node) (pool : IsPool ns) where
  over_below : (n i : ℕ) (x : Node) → i ≤ n → slice_get ns i ≡ Some x → IsOver n x
  over_below n i x le at = AreBefore-more i n (children x) le (pool.over i x at)

  one_below : (n : ℕ) → n ≤ length ns → OneBelow (tree_of ns) n
  one_below zero long a b o p e = absurd (omega arith)
  one_below (suc n) long a b o p e =
      let x = element ns a.at (omega arith) in
      let y = element ns b.at (omega arith) in
      let over = over_below n a.at x.0 (omega arith) x.1 in
      let over' = over_below n b.at y.0 (omega arith) y.1 in
      let tree = tree_of-node ns pool a x.0 x.1 in
      let tree' = tree_of-node ns pool b y.0 y.1 in
      let one = one_below n (omega arith) in
      let nodes = same_node (tree_of ns) n one x.0 y.0 over over' (sym tree ∙ e ∙ tree') in
      let places = pool.differ a.at b.at y.0 (x.1 ∙ ap Some nodes) y.1 in
      λ i. record { at = places i }

  pub one_id_per_tree : HasOneIdPerTree ns
  one_id_per_tree a b o p = (λ e. ap (tree_of ns) e, one_below (length ns) (omega arith) a b o p)

-- a tree that a list has stands at some place
place_of : (t : TermTree) (ts : List TermTree) → list_any (is_same_tree t) ts ≡ true
    → (i : ℕ) × (slice_get ts i ≡ Some t)
place_of t [] h = cc
place_of t (u ∷ us) h = by (is_same_tree t u) refl (place_of t us)
  where
    by : (b : Bool) → is_same_tree t u ≡ b
        → (list_any (is_same_tree t) us ≡ true → (i : ℕ) × (slice_get us i ≡ Some t))
        → (i : ℕ) × (slice_get (u ∷ us) i ≡ Some t)
    by true e later = (0, ap Some (sym ((is_same_tree-decides t u).0 e)))
    by false e later =
        let rest = later (sym (ap (λ b. b || list_any (is_same_tree t) us) e) ∙ h) in
        (suc rest.0, rest.1)

-- no tree stands at two places
abbrev Differ : List TermTree → Type 0
Differ ts = (i j : ℕ) (t : TermTree) → slice_get ts i ≡ Some t → slice_get ts j ≡ Some t → i ≡ j

different_count-all : (ts : List TermTree) → Differ ts → different_count ts ≡ length ts
different_count-all [] differ = refl
different_count-all (t ∷ ts) differ =
    by (list_any (is_same_tree t) ts) refl (different_count-all ts later)
  where
    later : Differ ts
    later i j u g h = let next : suc i ≡ suc j = differ (suc i) (suc j) u g h in cc

    by : (b : Bool) → list_any (is_same_tree t) ts ≡ b → different_count ts ≡ length ts
        → (if b then different_count ts else (different_count ts + 1)) ≡ suc (length ts)
    by true e rest =
        let place = place_of t ts e in
        let first : 0 ≡ suc place.0 = differ 0 (suc place.0) t refl place.1 in
        cc
    by false e rest = omega arith

-- a pool has as many different trees as nodes
pub different_count-trees : (ns : List Node) → IsPool ns → different_count (trees ns) ≡ length ns
different_count-trees ns pool = different_count-all (trees ns) differ ∙ length-trees ns
  where
    id : ℕ → TermId
    id i = record { at = i }

    live : (i : ℕ) (t : TermTree) → slice_get (trees ns) i ≡ Some t → IsLive ns (id i)
    live i t at = subst (λ n. i < n) (length-trees ns) (slice_get_within (trees ns) i t at)

    differ : Differ (trees ns)
    differ i j t at at' =
        let trees = ap (λ o. unwrap_or o (schema 0)) (at ∙ sym at') in
        let ids = (one_id_per_tree ns pool (id i) (id j) (live i t at) (live j t at')).1 trees in
        ap (λ id. id.at) ids
