-- The nodes of a formula are those of its places, and have its depths.
use Rattle.std.proofs.Common.{◌≡◌, ℕ, zero, suc, List, [], ◌∷◌, ◌++◌, map, refl, sym, ap, ◌∙◌}
use Rattle.std.proofs.lemmas.List.{map-append}
use Rattle.sq_base.specs.declared.sort.Sort.{Sort}
use Rattle.sq_base.specs.declared.sort.Sort.TheVariants.{Message, Boolean, Index, Timestamp}
use Rattle.sq_ast.specs.Tree.{FormulaTree, quantified, binary, group, pair, constant, conditional}
use Rattle.sq_ast.specs.Tree.{find, diff, unary, value, name, apply, FormulaTrees, none, more}
use Rattle.sq_resolve.specs.Places.{Place, places, argument_places, operand_sort, part_sort}
use Rattle.sq_resolve.specs.Places.{index_count}
use Rattle.sq_resolve.specs.Resolved.{own_sort, group_variables, variables}
use Rattle.sq_resolve.specs.Scopes.{Variable, Context, meaning}
use Rattle.sq_resolve.specs.Stops.{nodes, all_nodes, levels, all_levels}

-- ---- of two lists and of three

two : {A B C : Type 0} (f : A → C) (g : B → C) (xs ys : List A) (us vs : List B)
    → map f xs ≡ map g us → map f ys ≡ map g vs → map f (xs ++ ys) ≡ map g (us ++ vs)
two f g xs ys us vs d e =
    map-append f xs ys ∙ ((λ i. d i ++ e i) ∙ sym (map-append g us vs))

three : {A B C : Type 0} (f : A → C) (g : B → C) (xs ys zs : List A) (us vs ws : List B)
    → map f xs ≡ map g us → map f ys ≡ map g vs → map f zs ≡ map g ws
    → map f (xs ++ (ys ++ zs)) ≡ map g (us ++ (vs ++ ws))
three f g xs ys zs us vs ws d e h =
    two f g xs (ys ++ zs) us (vs ++ ws) d (two f g ys zs vs ws e h)

abbrev node_tree : FormulaTree × ℕ → FormulaTree
node_tree n = n.0

abbrev node_depth : FormulaTree × ℕ → ℕ
node_depth n = n.1

abbrev place_tree : Place → FormulaTree
place_tree p = p.tree

abbrev itself : ℕ → ℕ
itself d = d

module _ (c : Context) where
  mutual
    pub place_trees : (bs : List Variable) (w : Sort) (d : ℕ) (f : FormulaTree)
        → map place_tree (places c bs w f) ≡ map node_tree (nodes d f)
    place_trees bs w d (quantified q gs a) =
        ap (λ l. quantified q gs a ∷ l) (place_trees (bs ++ variables gs) Boolean (suc d) a)
    place_trees bs w d (binary o a b) =
        let s = operand_sort o (own_sort c bs a) in
        ap (λ l. binary o a b ∷ l)
        (two place_tree node_tree (places c bs s a) (places c bs s b) (nodes (suc d) a)
        (nodes (suc d) b) (place_trees bs s (suc d) a) (place_trees bs s (suc d) b))
    place_trees bs w d (group a) = ap (λ l. group a ∷ l) (place_trees bs w (suc d) a)
    place_trees bs w d (pair a b) =
        ap (λ l. pair a b ∷ l)
        (two place_tree node_tree (places c bs Message a) (places c bs Message b)
        (nodes (suc d) a) (nodes (suc d) b) (place_trees bs Message (suc d) a)
        (place_trees bs Message (suc d) b))
    place_trees bs w d (constant k) = refl
    place_trees bs w d (conditional a b e) =
        ap (λ l. conditional a b e ∷ l)
        (three place_tree node_tree (places c bs Boolean a) (places c bs Message b)
        (places c bs Message e) (nodes (suc d) a) (nodes (suc d) b) (nodes (suc d) e)
        (place_trees bs Boolean (suc d) a) (place_trees bs Message (suc d) b)
        (place_trees bs Message (suc d) e))
    place_trees bs w d (find ns a b e) =
        let is = bs ++ group_variables Index ns in
        ap (λ l. find ns a b e ∷ l)
        (three place_tree node_tree (places c is Boolean a) (places c is Message b)
        (places c bs Message e) (nodes (suc d) a) (nodes (suc d) b) (nodes (suc d) e)
        (place_trees is Boolean (suc d) a) (place_trees is Message (suc d) b)
        (place_trees bs Message (suc d) e))
    place_trees bs w d (diff a b) =
        ap (λ l. diff a b ∷ l)
        (two place_tree node_tree (places c bs w a) (places c bs w b)
        (nodes (suc d) a) (nodes (suc d) b) (place_trees bs w (suc d) a)
        (place_trees bs w (suc d) b))
    place_trees bs w d (unary u a) =
        ap (λ l. unary u a ∷ l) (place_trees bs (part_sort u) (suc d) a)
    place_trees bs w d (value v a) =
        ap (λ l. value v a ∷ l) (place_trees bs Timestamp (suc d) a)
    place_trees bs w d (name x) = refl
    place_trees bs w d (apply x xs) =
        ap (λ l. apply x xs ∷ l) (argument_trees bs (index_count (meaning c bs x)) (suc d) xs)

    argument_trees : (bs : List Variable) (i d : ℕ) (xs : FormulaTrees)
        → map place_tree (argument_places c bs i xs) ≡ map node_tree (all_nodes d xs)
    argument_trees bs i d none = refl
    argument_trees bs zero d (more a xs) =
        two place_tree node_tree (places c bs Message a) (argument_places c bs zero xs)
        (nodes d a) (all_nodes d xs) (place_trees bs Message d a) (argument_trees bs zero d xs)
    argument_trees bs (suc i) d (more a xs) =
        two place_tree node_tree (places c bs Index a) (argument_places c bs i xs)
        (nodes d a) (all_nodes d xs) (place_trees bs Index d a) (argument_trees bs i d xs)

mutual
  -- the depths of the nodes
  pub node_depths : (d : ℕ) (f : FormulaTree) → map itself (levels d f) ≡ map node_depth (nodes d f)
  node_depths d (quantified q gs a) = ap (λ l. d ∷ l) (node_depths (suc d) a)
  node_depths d (binary o a b) =
      ap (λ l. d ∷ l)
      (two itself node_depth (levels (suc d) a) (levels (suc d) b) (nodes (suc d) a)
      (nodes (suc d) b) (node_depths (suc d) a) (node_depths (suc d) b))
  node_depths d (group a) = ap (λ l. d ∷ l) (node_depths (suc d) a)
  node_depths d (pair a b) =
      ap (λ l. d ∷ l)
      (two itself node_depth (levels (suc d) a) (levels (suc d) b) (nodes (suc d) a)
      (nodes (suc d) b) (node_depths (suc d) a) (node_depths (suc d) b))
  node_depths d (constant k) = refl
  node_depths d (conditional a b e) =
      ap (λ l. d ∷ l)
      (three itself node_depth (levels (suc d) a) (levels (suc d) b) (levels (suc d) e)
      (nodes (suc d) a) (nodes (suc d) b) (nodes (suc d) e) (node_depths (suc d) a)
      (node_depths (suc d) b) (node_depths (suc d) e))
  node_depths d (find ns a b e) =
      ap (λ l. d ∷ l)
      (three itself node_depth (levels (suc d) a) (levels (suc d) b) (levels (suc d) e)
      (nodes (suc d) a) (nodes (suc d) b) (nodes (suc d) e) (node_depths (suc d) a)
      (node_depths (suc d) b) (node_depths (suc d) e))
  node_depths d (diff a b) =
      ap (λ l. d ∷ l)
      (two itself node_depth (levels (suc d) a) (levels (suc d) b) (nodes (suc d) a)
      (nodes (suc d) b) (node_depths (suc d) a) (node_depths (suc d) b))
  node_depths d (unary u a) = ap (λ l. d ∷ l) (node_depths (suc d) a)
  node_depths d (value w a) = ap (λ l. d ∷ l) (node_depths (suc d) a)
  node_depths d (name x) = refl
  node_depths d (apply x xs) = ap (λ l. d ∷ l) (argument_depths (suc d) xs)

  argument_depths : (d : ℕ) (xs : FormulaTrees)
      → map itself (all_levels d xs) ≡ map node_depth (all_nodes d xs)
  argument_depths d none = refl
  argument_depths d (more a xs) =
      two itself node_depth (levels d a) (all_levels d xs) (nodes d a) (all_nodes d xs)
      (node_depths d a) (argument_depths d xs)

unmapped : (xs : List ℕ) → map itself xs ≡ xs
unmapped [] = refl
unmapped (x ∷ xs) = ap (λ l. x ∷ l) (unmapped xs)

pub levels_of_nodes : (d : ℕ) (f : FormulaTree) → levels d f ≡ map node_depth (nodes d f)
levels_of_nodes d f = sym (unmapped (levels d f)) ∙ node_depths d f
