-- Laws of the trees of a pool.
use Rattle.std.proofs.Common.{◌≡◌, ℕ, zero, suc, ◌+◌, ◌<◌, min, ◌↔◌, List, [], ◌∷◌, ◌++◌, length}
use Rattle.std.proofs.Common.{length-append, length-take, slice_get, take, drop, Some, unwrap_or}
use Rattle.std.proofs.Common.{refl, sym, ap, ◌∙◌, subst, arith}
use Rattle.std.proofs.lemmas.List.{take-append-drop}
use Rattle.sq_term.specs.Symbols.{kind_of}
use Rattle.sq_term.specs.Syntax as term
use Rattle.sq_term.specs.Syntax.{TermTree}
use Rattle.sq_pool.specs.declared.node.TermId.{TermId}
use Rattle.sq_pool.specs.declared.node.Node.{Node}
use Rattle.sq_pool.specs.declared.node.Node.TheVariants as node
use Rattle.sq_pool.specs.Nodes.{AreBefore, IsOver, IsPool, IsLive, Puts, there, fresh}
use Rattle.sq_pool.specs.Trees.{children_trees, node_tree, tree_at, trees_after, trees, tree_of}
use Rattle.sq_pool.specs.Trees.{KeepsIds, KeepsBelow}

length-trees_after : (before : List TermTree) (xs : List Node)
    → length (trees_after before xs) ≡ length before + length xs
length-trees_after before [] = omega arith
length-trees_after before (x ∷ xs) =
    let t = node_tree (tree_at before) x in
    let longer = length-append before (t ∷ []) in
    let rest = length-trees_after (before ++ t ∷ []) xs in
    omega arith

-- each node has a tree
pub length-trees : (ns : List Node) → length (trees ns) ≡ length ns
unfolding trees
length-trees ns =
    let plus : 0 + length ns ≡ length ns = omega arith in
    length-trees_after [] ns ∙ plus

slice_get-front : {X : Type 0} (xs ys : List X) (i : ℕ) → i < length xs
    → slice_get (xs ++ ys) i ≡ slice_get xs i
slice_get-front [] ys i lt = absurd (omega arith)
slice_get-front (x ∷ xs) ys zero lt = refl
slice_get-front (x ∷ xs) ys (suc i) lt = slice_get-front xs ys i (omega arith)

slice_get-last : {X : Type 0} (xs : List X) (x : X) → slice_get (xs ++ x ∷ []) (length xs) ≡ Some x
slice_get-last [] x = refl
slice_get-last (y ∷ ys) x = slice_get-last ys x

-- the trees that are there stay
kept_after : (before : List TermTree) (xs : List Node) (i : ℕ) → i < length before
    → slice_get (trees_after before xs) i ≡ slice_get before i
kept_after before [] i lt = refl
kept_after before (x ∷ xs) i lt =
    let t = node_tree (tree_at before) x in
    let longer = length-append before (t ∷ []) in
    kept_after (before ++ t ∷ []) xs i (omega arith) ∙ slice_get-front before (t ∷ []) i lt

trees_after-append : (before : List TermTree) (xs ys : List Node)
    → trees_after before (xs ++ ys) ≡ trees_after (trees_after before xs) ys
trees_after-append before [] ys = refl
trees_after-append before (x ∷ xs) ys =
    trees_after-append (before ++ node_tree (tree_at before) x ∷ []) xs ys

-- nodes that are put behind keep what each id means
pub tree_of-append : (front back : List Node) (id : TermId) → IsLive front id
    → tree_of (front ++ back) id ≡ tree_of front id
unfolding trees
tree_of-append front back id live =
    let long = length-trees_after [] front in
    let whole = ap (λ ts. slice_get ts id.at) (trees_after-append [] front back) in
    let kept = kept_after (trees_after [] front) back id.at (omega arith) in
    ap (λ t. unwrap_or t (term.schema 0)) (whole ∙ kept)

-- the last node's tree stands over those before it
pub tree_of-last : (ns : List Node) (x : Node) (id : TermId) → id.at ≡ length ns
    → tree_of (ns ++ x ∷ []) id ≡ node_tree (tree_of ns) x
unfolding trees
tree_of-last ns x id at =
    let long = length-trees_after [] ns in
    let here : id.at ≡ length (trees_after [] ns) = omega arith in
    let last = slice_get-last (trees_after [] ns) (node_tree (tree_of ns) x) in
    ap (λ t. unwrap_or t (term.schema 0))
    ((λ i. slice_get (trees_after-append [] ns (x ∷ []) i) (here i)) ∙ last)

module _ (f g : TermId → TermTree) (n : ℕ) (same : (c : TermId) → c.at < n → f c ≡ g c) where
  children_trees-same : (cs : List TermId) → AreBefore n cs
      → children_trees f cs ≡ children_trees g cs
  children_trees-same [] before = refl
  children_trees-same (c ∷ cs) before =
      λ i. term.cons (same c before.0 i) (children_trees-same cs before.1 i)

  -- the tree of a node depends on those of its children alone
  node_tree-same : (x : Node) → IsOver n x → node_tree f x ≡ node_tree g x
  node_tree-same (node.Name m is) over = refl
  node_tree-same (node.Fun f is ts) over =
      ap (term.fun (kind_of f) is) (children_trees-same ts over)
  node_tree-same (node.Macro m t) over = refl
  node_tree-same (node.Schema m) over = refl
  node_tree-same (node.Diff a b) over = λ i. term.diff (same a over.0 i) (same b over.1.0 i)
  node_tree-same (node.Le s t) over = refl
  node_tree-same (node.TsEq s t) over = refl
  node_tree-same (node.IdxEq k l) over = refl
  node_tree-same (node.Happens t) over = refl
  node_tree-same (node.Forall s t) over = ap (term.all s) (same t over.0)
  node_tree-same (node.Exists s t) over = ap (term.some s) (same t over.0)
  node_tree-same (node.Find m c a b) over =
      λ i. term.find m (same c over.0 i) (same a over.1.0 i) (same b over.1.1.0 i)

cut_at : {X : Type 0} (xs : List X) (i : ℕ) (x : X) → slice_get xs i ≡ Some x
    → (back : List X) × (xs ≡ (take i xs ++ x ∷ []) ++ back) × (length (take i xs) ≡ i)
cut_at [] i x at = cc
cut_at (y ∷ ys) zero x at = let same : y ≡ x = cc in (ys, ap (λ z. z ∷ ys) same, refl)
cut_at (y ∷ ys) (suc i) x at =
    let rest = cut_at ys i x at in
    (rest.0, ap (λ zs. y ∷ zs) rest.1, ap suc rest.2)

-- the tree of an id is its node's over the trees of the node's children
pub tree_of-node : (ns : List Node) → IsPool ns → (id : TermId) (x : Node)
    → slice_get ns id.at ≡ Some x → tree_of ns id ≡ node_tree (tree_of ns) x
tree_of-node ns pool id x at =
    ap (λ l. tree_of l id) cut.1
    ∙ tree_of-append (front ++ x ∷ []) cut.0 id (omega (arith, longer, cut.2))
    ∙ tree_of-last front x id (sym cut.2)
    ∙ node_tree-same (tree_of front) (tree_of ns) id.at kept x (pool.over id.at x at)
  where
    front : List Node
    front = take id.at ns

    cut : (back : List Node) × (ns ≡ (front ++ x ∷ []) ++ back) × (length front ≡ id.at)
    cut = cut_at ns id.at x at

    longer : length (front ++ x ∷ []) ≡ length front + 1
    longer = length-append front (x ∷ [])

    kept : (c : TermId) → c.at < id.at → tree_of front c ≡ tree_of ns c
    kept c lt = sym
        (ap (λ l. tree_of l c) cut.1
        ∙ tree_of-append (front ++ x ∷ []) cut.0 c (omega (arith, longer, cut.2))
        ∙ tree_of-append front (x ∷ []) c (omega (arith, cut.2)))

-- `put` gives the node's tree, and keeps the others
pub tree_of-Puts : (old : List Node) (x : Node) (id : TermId) (new : List Node) → IsPool old
    → Puts old x id new → tree_of new id ≡ node_tree (tree_of old) x
tree_of-Puts old x id new pool (there at same) =
    ap (λ ns. tree_of ns id) same ∙ tree_of-node old pool id x at
tree_of-Puts old x id new pool (fresh absent at same) =
    ap (λ ns. tree_of ns id) same ∙ tree_of-last old x id at

pub KeepsIds-Puts : (old : List Node) (x : Node) (id : TermId) (new : List Node)
    → Puts old x id new → KeepsIds old new
KeepsIds-Puts old x id new (there at same) c live =
    (subst (λ ns. IsLive ns c) (sym same) live, ap (λ ns. tree_of ns c) same)
KeepsIds-Puts old x id new (fresh absent at same) c live =
    let longer = length-append old (x ∷ []) in (
      subst (λ ns. IsLive ns c) (sym same) (omega arith),
      ap (λ ns. tree_of ns c) same ∙ tree_of-append old (x ∷ []) c live,
    )

-- a pool that is cut at a mark keeps what is below
pub KeepsBelow-take : (n : ℕ) (ns : List Node) → KeepsBelow n ns (take n ns)
KeepsBelow-take n ns = record { live = live; trees = kept }
  where
    short : length (take n ns) ≡ min n (length ns)
    short = length-take n ns

    live : (id : TermId) → IsLive (take n ns) id ↔ (IsLive ns id × (id.at < n))
    live id = (
      λ live. (omega (arith, short), omega (arith, short)),
      λ both. let long = both.0 in let below = both.1 in omega (arith, short),
    )

    kept : (id : TermId) → IsLive (take n ns) id → tree_of (take n ns) id ≡ tree_of ns id
    kept id live =
        sym (tree_of-append (take n ns) (drop n ns) id live)
        ∙ ap (λ l. tree_of l id) (take-append-drop n ns)
