-- Quantifiers and finds as rows of ground terms.
use Rattle.std.proofs.Common.{◌≡◌, refl, sym, ap, ◌∙◌, subst, ℕ, ◌+◌, ◌-◌, ◌<◌, ◌≤◌, ⊎_elim, inl}
use Rattle.std.proofs.Common.{inr, List, [], ◌∷◌, map, length, arith}
use Rattle.std.specs.Prelude.{Result}
use Rattle.std.proofs.lemmas.List.{length-map}
use Rattle.sq_base.specs.declared.sort.Sort.{Sort}
use Rattle.sq_term.specs.declared.term.SizeFault.{SizeFault}
use Rattle.sq_term.specs.declared.model.Value.{Value}
use Rattle.sq_term.specs.Lists.{fold_right}
use Rattle.sq_term.specs.Symbols.{Kind, truth, falsity, conjunction, disjunction}
use Rattle.sq_term.specs.Syntax.{TermTree, all, some, find}
use Rattle.sq_term.specs.Ground.{Ground, named, applied, atom, ground}
use Rattle.sq_term.specs.GroundFormulas.{binary, conditional, conj, disj_of_all}
use Rattle.sq_term.specs.Translate.{World, Assignment, domain, choices, translate}
use Rattle.sq_ground.specs.declared.built.Built.{Built}
use Rattle.sq_ground.specs.Calls.GroundMeasure.{ground_size, ground_depth, total, deepest}
use Rattle.sq_ground.specs.Calls.Builds.{Passes, Builds}
use Rattle.sq_ground.specs.Calls.Rows.{built_ground, joined, nested, RowPasses}
use Rattle.sq_ground.proofs.InstanceLists.{map_fused}

conj_joined : (ts : List Ground) → conj ts ≡ joined conjunction truth ts
conj_joined [] = refl
conj_joined (t ∷ []) = refl
conj_joined (t ∷ u ∷ ts) = ap (binary conjunction t) (conj_joined (u ∷ ts))

disj_joined : (ts : List Ground) → disj_of_all ts ≡ joined disjunction falsity ts
disj_joined [] = refl
disj_joined (t ∷ []) = refl
disj_joined (t ∷ u ∷ ts) = ap (binary disjunction t) (disj_joined (u ∷ ts))

fold_nested : (T F : List Value → Ground) (z : Ground) (xs : List (List Value))
    → fold_right (λ x rest. conditional (T x) (F x) rest) z xs ≡ nested (map T xs) (map F xs) z
fold_nested T F z [] = refl
fold_nested T F z (x ∷ xs) = ap (conditional (T x) (F x)) (fold_nested T F z xs)

module _ (w : World) (a : Assignment) (bs : List Value) (tree : TermTree) where
  pub all_is : (s : Sort) (body : TermTree) → tree ≡ all s body
      → translate w a bs tree
      ≡ joined conjunction truth
      (map (λ xs. translate w a xs body) (map (λ (x : Value). x ∷ bs) (domain w.times s)))
  all_is s body e =
      ap (translate w a bs) e
      ∙ (conj_joined (map (λ x. translate w a (x ∷ bs) body) (domain w.times s))
      ∙ ap (joined conjunction truth)
      (sym (map_fused (λ xs. translate w a xs body) (λ (x : Value). x ∷ bs)
      (domain w.times s))))

  pub some_is : (s : Sort) (body : TermTree) → tree ≡ some s body
      → translate w a bs tree
      ≡ joined disjunction falsity
      (map (λ xs. translate w a xs body) (map (λ (x : Value). x ∷ bs) (domain w.times s)))
  some_is s body e =
      ap (translate w a bs) e
      ∙ (disj_joined (map (λ x. translate w a (x ∷ bs) body) (domain w.times s))
      ∙ ap (joined disjunction falsity)
      (sym (map_fused (λ xs. translate w a xs body) (λ (x : Value). x ∷ bs)
      (domain w.times s))))

  pub find_is : (c : ℕ) (test found other : TermTree) → tree ≡ find c test found other
      → translate w a bs tree ≡ nested (map (λ xs. translate w a xs test) (choices w.times c bs))
      (map (λ xs. translate w a xs found) (choices w.times c bs)) (translate w a bs other)
  find_is c test found other e =
      ap (translate w a bs) e
      ∙ fold_nested (λ xs. translate w a xs test) (λ xs. translate w a xs found)
      (translate w a bs other) (choices w.times c bs)

some_depth : (t : Ground) → 1 ≤ ground_depth t
some_depth (named n is) = omega arith
some_depth (applied f is ts) = omega arith
some_depth (atom k) = omega arith

joined_measures : (f unit : Kind) (ts : List Ground) → (length ts ≤ ground_depth (joined f unit ts))
    × (total ts ≤ ground_size (joined f unit ts)) × (deepest ts ≤ ground_depth (joined f unit ts))
joined_measures f unit [] = (omega arith, omega arith, omega arith)
joined_measures f unit (t ∷ []) = (some_depth t, omega arith, omega arith)
joined_measures f unit (t ∷ u ∷ ts) = let h =
    joined_measures f unit (u ∷ ts) in (omega (arith, h.0), omega (arith, h.1), omega (arith, h.2))

-- what a quantifier's row passes, its term passes
module _ (F : List Value → Ground) (f unit : Kind) (room : ℕ) (whole : Ground)
    (lists : List (List Value)) (is : whole ≡ joined f unit (map F lists)) where
  pub lists_pass : 1024 < length lists → Passes room whole
  lists_pass h =
      subst (Passes room) (sym is)
      (inr (omega (arith, (joined_measures f unit (map F lists)).0, length-map lists F, h)))

  pub row_passes : (shown : List (List Value)) → shown ≡ lists → RowPasses room (map F shown)
      → Passes room whole
  row_passes shown e p =
      let h = joined_measures f unit (map F lists) in
      let q : RowPasses room (map F lists) = subst (λ xs. RowPasses room (map F xs)) e p in
      subst (Passes room) (sym is)
      (⊎_elim (λ k. inl (omega (arith, k, h.1))) (λ k. inr (omega (arith, k, h.2))) q)

  pub joined_builds : (shown : List (List Value)) (parts : List Built) (r : Result Built SizeFault)
      → shown ≡ lists → map built_ground parts ≡ map F shown
      → Builds room (joined f unit (map built_ground parts)) r → Builds room whole r
  joined_builds shown parts r e p b =
      subst (λ x. Builds room x r) (ap (joined f unit) (p ∙ ap (map F) e) ∙ sym is) b

nested_measures : (T F : List Value → Ground) (z : Ground) (xs : List (List Value)) → let g =
    nested (map T xs) (map F xs) z in
    (length xs ≤ ground_depth g)
    × (total (map T xs) + (total (map F xs) + ground_size z) ≤ ground_size g)
    × (deepest (map T xs) ≤ ground_depth g) × (deepest (map F xs) ≤ ground_depth g)
    × (ground_depth z ≤ ground_depth g)
nested_measures T F z [] = (omega arith, omega arith, omega arith, omega arith, omega arith)
nested_measures T F z (x ∷ xs) = let h =
    nested_measures T F z xs in (
      omega (arith, h.0),
      omega (arith, h.1),
      omega (arith, h.2),
      omega (arith, h.3),
      omega
          (arith, h.4),
    )

-- what a find's rows pass, its term passes
module _ (T F : List Value → Ground) (z : Ground) (room : ℕ) (whole : Ground)
    (lists : List (List Value)) (is : whole ≡ nested (map T lists) (map F lists) z) where
  pub choices_pass : 1024 < length lists → Passes room whole
  choices_pass h =
      subst (Passes room) (sym is) (inr (omega (arith, (nested_measures T F z lists).0, h)))

  pub tests_pass : (shown : List (List Value)) → shown ≡ lists → RowPasses room (map T shown)
      → Passes room whole
  tests_pass shown e p =
      let h = nested_measures T F z lists in
      subst (Passes room) (sym is)
      (⊎_elim (λ k. inl (omega (arith, k, h.1))) (λ k. inr (omega (arith, k, h.2)))
      (subst (λ xs. RowPasses room (map T xs)) e p))

  pub founds_pass : (shown again : List (List Value)) (n : ℕ) → shown ≡ lists → again ≡ lists
      → n ≡ total (map T shown) → RowPasses (room - n) (map F again) → Passes room whole
  founds_pass shown again n e d m p =
      let h = nested_measures T F z lists in
      let k : n ≡ total (map T lists) = m ∙ ap (λ xs. total (map T xs)) e in
      subst (Passes room) (sym is)
      (⊎_elim (λ q. inl (omega (arith, q, k, h.1))) (λ q. inr (omega (arith, q, h.3)))
      (subst (λ xs. RowPasses (room - n) (map F xs)) d p))

  pub other_passes : (shown again : List (List Value)) (n m : ℕ) → shown ≡ lists → again ≡ lists
      → n ≡ total (map T shown) → m ≡ total (map F again) → Passes (room - n - m) z
      → Passes room whole
  other_passes shown again n m e d i j p =
      let h = nested_measures T F z lists in
      let k : n ≡ total (map T lists) = i ∙ ap (λ xs. total (map T xs)) e in
      let l : m ≡ total (map F lists) = j ∙ ap (λ xs. total (map F xs)) d in
      subst (Passes room) (sym is)
      (⊎_elim (λ q. inl (omega (arith, q, k, l, h.1))) (λ q. inr (omega (arith, q, h.4))) p)

  pub nested_builds : (shown again : List (List Value)) (tests founds : List Built) (other : Built)
      (r : Result Built SizeFault)
      → shown ≡ lists → again ≡ lists → map built_ground tests ≡ map T shown
      → map built_ground founds ≡ map F again → ground other.term ≡ z
      → Builds room
      (nested (map built_ground tests) (map built_ground founds) (ground other.term)) r
      → Builds room whole r
  nested_builds shown again tests founds other r e d p q o b =
      subst (λ x. Builds room x r)
      ((λ i. nested ((p ∙ ap (map T) e) i) ((q ∙ ap (map F) d) i) (o i)) ∙ sym is) b

pub as_many_parts : (T F : List Value → Ground) (shown again lists : List (List Value))
    (tests founds : List Built)
    → shown ≡ lists → again ≡ lists → map built_ground tests ≡ map T shown
    → map built_ground founds ≡ map F again → length tests ≡ length founds
as_many_parts T F shown again lists tests founds e d p q =
    omega (
      arith,
      length-map tests built_ground,
      length-map founds built_ground,
      ap length p,
      ap
          length q,
      length-map shown T,
      length-map again F,
      ap length e,
      ap length d,
    )
