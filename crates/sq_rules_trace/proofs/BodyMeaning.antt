-- What an action's body says at the indices of an instance.
use Rattle.std.proofs.Common.{◌≡◌, refl, ap, ◌∙◌, ℕ, zero, suc, List, [], ◌∷◌}
use Rattle.std.proofs.Common.{length, map, true, false, nat_lt, arith}
use Rattle.std.specs.Prelude.{slice_get, replicate}
use Rattle.std.proofs.lemmas.Bool.Decides.{nat_tests}
use Rattle.sq_base.specs.declared.sort.Sort.{Sort}
use Rattle.sq_base.specs.declared.sort.Sort.TheVariants.{Index, Timestamp}
use Rattle.sq_term.specs.declared.model.Value.TheVariants.{Index as Number}
use Rattle.sq_term.specs.declared.term.Idx.{Idx}
use Rattle.sq_term.specs.declared.term.Side.{Side}
use Rattle.sq_term.specs.Arguments.{an_index}
use Rattle.sq_term.specs.Closed.{indices_closed, idx_closed}
use Rattle.sq_term.specs.Syntax.{action, TermTree}
use Rattle.sq_term.specs.Systems.{SystemTree}
use Rattle.sq_term.specs.Translate.{World, Times, Assignment, idx_value, idx_values, translate}
use Rattle.sq_term.proofs.BoolTests.{and_split, and_both}
use Rattle.sq_typing.specs.Typing.{Signature, has_sort_at}
use Rattle.sq_typing.specs.Typing.{has_sort}
use Rattle.sq_subst.specs.Laws.{is_read_on, takes_index, arg_value, args_closed}
use Rattle.sq_subst.specs.Laws.{instance_values}
use Rattle.sq_subst.specs.Projection.{projected}
use Rattle.sq_subst.proofs.Laws.{instance_law, project_law}
use Rattle.sq_system.specs.Scopes.{signature_of}
use Rattle.sq_system.specs.Statements.{EnvTree}
use Rattle.sq_formula.proofs.Reached.{all_reached}
use Rattle.sq_formula.proofs.SideSorts.{side-sort}
use Rattle.sq_rules_trace.specs.Unfolding.{body_at}

-- ---- over the indices of an action

has_index : (is : List Idx) (n k : ℕ) → length is ≡ n → has_sort_at (replicate n Index) k Index
    ≡ true
    → takes_index (slice_get (map an_index is) k) ≡ true
has_index [] zero k e h = absurd (let z : false ≡ true = h in cc)
has_index [] (suc n) k e h = absurd (omega (arith, e))
has_index (i ∷ is) zero k e h = absurd (omega (arith, e))
has_index (i ∷ is) (suc n) zero e h = refl
has_index (i ∷ is) (suc n) (suc k) e h = has_index is n k (omega (arith, e)) h

no_time : (n k : ℕ) → has_sort_at (replicate n Index) k Timestamp ≡ true → ⊥
no_time zero k h = absurd (let z : false ≡ true = h in cc)
no_time (suc n) zero h = absurd (let z : false ≡ true = h in cc)
no_time (suc n) (suc k) h = no_time n k h

none_below : (k : ℕ) → nat_lt k 0 ≡ true → ⊥
none_below k h = absurd (grind (arith, nat_tests))

closed_indices : (is : List Idx) → indices_closed 0 is ≡ true → args_closed (map an_index is) ≡ true
closed_indices [] h = refl
closed_indices (i ∷ is) h =
    let p = and_split (idx_closed 0 i) (indices_closed 0 is) h in
    and_both (idx_closed 0 i) (args_closed (map an_index is)) p.0 (closed_indices is p.1)

index_arguments : (w : Times) (a : Assignment) (is : List Idx)
    → map (arg_value w a) (map an_index is) ≡ map Number (idx_values a [] is)
index_arguments w a [] = refl
index_arguments w a (i ∷ is) = ap (λ vs. Number (idx_value a [] i) ∷ vs) (index_arguments w a is)

-- the body means what it does at the values of the indices
pub body_meaning : (e : EnvTree) (s : SystemTree) (w : World) (a : Assignment) (side : Side)
    (is : List Idx) (n : ℕ) (x : Sort) (body : TermTree) → is_read_on side w ≡ true
    → indices_closed 0 is ≡ true → length is ≡ n
    → has_sort (signature_of e s 0 (replicate n Index)) [] x body ≡ true
    → translate w a [] (body_at side is body)
    ≡ translate w (record { variables = map Number (idx_values a [] is); schemas = [] }) [] body
body_meaning e s w a side is n x body r c l h =
    let g : Signature = signature_of e s 0 (replicate n Index) in
    instance_law w a (map an_index is) (closed_indices is c) [] (projected side body) refl
    (all_reached g (map an_index is) [] (λ k p. has_index is n k l p)
    (λ k p. absurd (no_time n k p)) (λ k p. absurd (none_below k p)) 0 [] x
    (projected side body) (side-sort g side [] x body h))
    ∙ (project_law w (instance_values w a (map an_index is) []) [] side body r
    ∙ ap (λ vs. translate w (record { variables = vs; schemas = [] }) [] body)
    (index_arguments w.times a is))
