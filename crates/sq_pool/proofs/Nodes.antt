-- Lists of nodes where one is put at the end.
use Rattle.std.proofs.Common.{◌≡◌, ℕ, zero, suc, Bool, true, false, if◌then◌else◌, true≢false, List}
use Rattle.std.proofs.Common.{[], ◌∷◌}
use Rattle.std.proofs.Common.{◌++◌, length, length-append, slice_get, Some, refl, sym, ap, ◌∙◌}
use Rattle.std.proofs.Common.{subst, ◌⊎◌, inl, inr, ⊎_elim, arith}
use Rattle.std.specs.List.{list_any}
use Rattle.std.proofs.lemmas.Map.Keys.{any_passes_from_place}
use Rattle.std.proofs.lemmas.Option.{slice_get_within}
use Rattle.indexmap.specs.IndexSet.{insert_key}
use Rattle.sq_pool.specs.declared.node.TermId.{TermId}
use Rattle.sq_pool.specs.declared.node.Node.{Node}
use Rattle.sq_pool.specs.contracts.node.NodePartialEq.TheImpl as node_eq
use Rattle.sq_pool.specs.Nodes.{IsOver, IsPool, IsLive, Puts, there, fresh}
use Rattle.sq_pool.proofs.SameNodes.{node-decides}

slice_get-push : {X : Type 0} (xs : List X) (y : X) (i : ℕ) (x : X)
    → slice_get (xs ++ y ∷ []) i ≡ Some x
    → (slice_get xs i ≡ Some x) ⊎ ((i ≡ length xs) × (y ≡ x))
slice_get-push [] y zero x h = inr (refl, cc)
slice_get-push [] y (suc i) x h = cc
slice_get-push (z ∷ zs) y zero x h = inl h
slice_get-push (z ∷ zs) y (suc i) x h =
    ⊎_elim (λ g. inl g) (λ g. inr (ap suc g.0, g.1)) (slice_get-push zs y i x h)

-- what a call of `put` leaves
pub record Put (old : List Node) (x : Node) (id : TermId) (new : List Node) : Type 0 where
  pub puts : Puts old x id new
  pub pool : IsPool new

module _ (old : List Node) (x : Node) (pool : IsPool old) (over : IsOver (length old) x) where
  -- a node that is not there may stand at the end
  IsPool-push : ((i : ℕ) → slice_get old i ≡ Some x → ⊥) → IsPool (old ++ x ∷ [])
  IsPool-push absent = record { differ = differ; over = below }
    where
      at : (i : ℕ) (y : Node) → slice_get (old ++ x ∷ []) i ≡ Some y
          → (slice_get old i ≡ Some y) ⊎ ((i ≡ length old) × (x ≡ y))
      at i y g = slice_get-push old x i y g

      differ : (i j : ℕ) (y : Node) → slice_get (old ++ x ∷ []) i ≡ Some y
          → slice_get (old ++ x ∷ []) j ≡ Some y → i ≡ j
      differ i j y g h = ⊎_elim
          (λ a. ⊎_elim
          (λ b. pool.differ i j y a b)
          (λ b. absurd (absent i (a ∙ ap Some (sym b.1))))
          (at j y h))
          (λ a. ⊎_elim
          (λ b. absurd (absent j (b ∙ ap Some (sym a.1))))
          (λ b. a.0 ∙ sym b.0)
          (at j y h))
          (at i y g)

      below : (i : ℕ) (y : Node) → slice_get (old ++ x ∷ []) i ≡ Some y → IsOver i y
      below i y g = ⊎_elim
          (λ a. pool.over i y a)
          (λ a. subst (λ n. IsOver n y) (sym a.0) (subst (IsOver (length old)) a.1 over))
          (at i y g)

  module _ (id : TermId) (k : Node) (same : node_eq.eq-value.it x k ≡ true) where
    found : (ns : List Node) → slice_get ns id.at ≡ Some k → slice_get ns id.at ≡ Some x
    found ns h = h ∙ ap Some (sym ((node-decides x k).0 same))

    new_put : list_any (node_eq.eq-value.it x) old ≡ false
        → slice_get (old ++ x ∷ []) id.at ≡ Some k → Put old x id (old ++ x ∷ [])
    new_put none h = record { puts = fresh absent last refl; pool = IsPool-push absent }
      where
        absent : (i : ℕ) → slice_get old i ≡ Some x → ⊥
        absent i g =
            let same = (node-decides x x).1 refl in
            let passes = any_passes_from_place (node_eq.eq-value.it x) old i x g same in
            true≢false (sym passes ∙ none)

        last : id.at ≡ length old
        last = ⊎_elim (λ g. absurd (absent id.at g)) (λ g. g.0)
            (slice_get-push old x id.at x (found (old ++ x ∷ []) h))

    pub put_is : (new : List Node) → new ≡ insert_key node_eq.eq-value.it old x
        → slice_get new id.at ≡ Some k → Put old x id new
    put_is new e h = by (list_any (node_eq.eq-value.it x) old) refl
      where
        stays : (ns : List Node) → new ≡ ns → slice_get ns id.at ≡ Some k
        stays ns f = ap (λ ns. slice_get ns id.at) (sym f) ∙ h

        by : (b : Bool) → list_any (node_eq.eq-value.it x) old ≡ b → Put old x id new
        by true c =
            let f : new ≡ old = e ∙ ap (λ t. (if t then old else (old ++ x ∷ []))) c in
            record { puts = there (found old (stays old f)) f; pool = subst IsPool (sym f) pool }
        by false c =
            let f : new ≡ old ++ x ∷ [] = e ∙ ap (λ t. (if t then old else (old ++ x ∷ []))) c in
            subst (Put old x id) (sym f) (new_put c (stays (old ++ x ∷ []) f))

-- the id that `put` answers is one of the pool
pub IsLive-Puts : (old : List Node) (x : Node) (id : TermId) (new : List Node)
    → Puts old x id new → IsLive new id
IsLive-Puts old x id new (there at same) =
    subst (λ ns. IsLive ns id) (sym same) (slice_get_within old id.at x at)
IsLive-Puts old x id new (fresh absent at same) =
    let longer = length-append old (x ∷ []) in
    subst (λ ns. IsLive ns id) (sym same) (omega arith)
