-- The formula of an axiom or a lemma, with messages for its schema variables and on the sequent's
-- side, may stand in the sequent.
use Rattle.std.proofs.Common.{◌≡◌, ℕ, ◌-◌, refl, sym, ap, ◌∙◌, subst, List, []}
use Rattle.std.proofs.Common.{◌∷◌, map, length, get_or, Bool, true, false, ◌&&◌, ◌||◌, not}
use Rattle.std.proofs.Common.{nat_lt}
use Rattle.std.specs.Prelude.{◌==◌}
use Rattle.std.specs.List.{list_all}
use Rattle.std.proofs.lemmas.Bool.{eqb-true}
use Rattle.sq_base.specs.declared.sort.Sort.{Sort}
use Rattle.sq_base.specs.declared.sort.Sort.TheVariants.{Message, Boolean}
use Rattle.sq_term.specs.declared.term.Side.{Side}
use Rattle.sq_term.specs.declared.term.Side.TheVariants.{Left, Right, Both}
use Rattle.sq_term.specs.Syntax.{TermTree}
use Rattle.sq_term.proofs.BoolTests.{and_split, and_both}
use Rattle.sq_typing.specs.Diffs.{holds_diff}
use Rattle.sq_typing.specs.Standing.{of_side, suits}
use Rattle.sq_typing.specs.Standing as typing
use Rattle.sq_typing.specs.Typing.{Signature, has_sort}
use Rattle.sq_subst.specs.Projection.{projected}
use Rattle.sq_subst.specs.Substitution.{instance_of}
use Rattle.sq_system.specs.Sequents.{SequentTree, trace, local, equiv, vars_of, body_of}
use Rattle.sq_system.specs.Statements.{EnvTree, no_actions}
use Rattle.sq_system.specs.Usable.{is_axiom, is_timeless_axiom, speaks_of_time, formula_of}
use Rattle.sq_system.specs.Usable.{statement_at, system_of, usable}
use Rattle.sq_system.specs.Scopes.{signature_of, subject_of}
use Rattle.sq_sequent.specs.Rows.{IsOn}
use Rattle.sq_sequent.specs.Sides.{instance_on}
use Rattle.sq_formula.proofs.InstanceSorts.{instance_sort, instance_no_diff}
use Rattle.sq_formula.proofs.KeptSorts.{with_variables}
use Rattle.sq_sequent.proofs.Offers.{IsStated, signature_at_start}
use Rattle.sq_formula.proofs.SideSorts.{side-sort, side-stands}
use Rattle.sq_formula.proofs.Timeless.{timeless_sort}

-- ---- the instance in the sequent

all_first : (p q : TermTree → Bool) (ms : List TermTree) → list_all (λ t. p t && q t) ms ≡ true
    → list_all p ms ≡ true
all_first p q [] h = refl
all_first p q (m ∷ ms) h =
    let k = and_split (p m && q m) _ h in
    and_both (p m) (list_all p ms) (and_split (p m) (q m) k.0).0 (all_first p q ms k.1)

all_second : (p q : TermTree → Bool) (ms : List TermTree) → list_all (λ t. p t && q t) ms ≡ true
    → list_all q ms ≡ true
all_second p q [] h = refl
all_second p q (m ∷ ms) h =
    let k = and_split (p m && q m) _ h in
    and_both (q m) (list_all q ms) (and_split (p m) (q m) k.0).1 (all_second p q ms k.1)

-- where the formula has a sort over no variables, its instance on a side may stand in a sequent of
-- that side
module _ (symbols : Signature) (n count : ℕ) (vars : List Sort) (ms : List TermTree)
    (many : length ms ≡ count) where
  abbrev there : Signature
  there = with_variables symbols n vars

  abbrev bare : Signature
  bare = with_variables symbols count []

  abbrev Stands : Side → TermTree → Type 0
  Stands side t = typing.may_stand there (of_side side) Boolean t ≡ true

  on_one_side : (side : Side) (t : TermTree) → list_all (has_sort there [] Message) ms ≡ true
      → list_all (λ u. not (holds_diff u)) ms ≡ true
      → (has_sort bare [] Boolean t && not (holds_diff t)) ≡ true
      → (has_sort there [] Boolean (instance_of [] ms t) && not (holds_diff (instance_of [] ms t)))
      ≡ true
  on_one_side side t sorted none h =
      let k = and_split (has_sort bare [] Boolean t) (not (holds_diff t)) h in
      and_both (has_sort there [] Boolean (instance_of [] ms t)) _
      (instance_sort symbols n count vars ms many sorted Boolean t k.0)
      (instance_no_diff ms t none k.1)

  instance_stands : (side : Side) (F : TermTree)
      → list_all (typing.may_stand there (of_side side) Message) ms ≡ true
      → has_sort bare [] Boolean F ≡ true → Stands side (instance_on side ms F)
  instance_stands Both F h e =
      and_both (has_sort there [] Boolean (instance_on Both ms F)) true
      (instance_sort symbols n count vars ms many
      (all_first (has_sort there [] Message) (suits (of_side Both)) ms h) Boolean (projected Both F)
      (side-sort bare Both [] Boolean F e)) refl
  instance_stands Left F h e =
      on_one_side Left (projected Left F)
      (all_first (has_sort there [] Message) (suits (of_side Left)) ms h)
      (all_second (has_sort there [] Message) (suits (of_side Left)) ms h)
      (side-stands bare Left Boolean F (and_both (has_sort bare [] Boolean F) true e refl))
  instance_stands Right F h e =
      on_one_side Right (projected Right F)
      (all_first (has_sort there [] Message) (suits (of_side Right)) ms h)
      (all_second (has_sort there [] Message) (suits (of_side Right)) ms h)
      (side-stands bare Right Boolean F (and_both (has_sort bare [] Boolean F) true e refl))

-- ---- a formula that a goal may use is well-sorted in the goal's system

-- the symbols of the goal's system, with so many schema variables and no variables
abbrev bare_signature : EnvTree → ℕ → ℕ → Signature
bare_signature env goal count = signature_of env (system_of env goal) count []

module _ (env : EnvTree) (goal k n : ℕ) (F : TermTree) (may : usable env goal k ≡ true)
    (stated : IsStated env k n F) where
  abbrev count : ℕ
  count = length (statement_at env k).schemas

  same_system : (statement_at env k).system ≡ (statement_at env goal).system
      → has_sort (bare_signature env goal count) [] Boolean F ≡ true
  same_system e =
      subst
      (λ j. has_sort (signature_of env (get_or env.systems j no_actions) count []) [] Boolean F
      ≡ true)
      e stated.sorted

  timeless : not (speaks_of_time (formula_of (statement_at env k).start)) ≡ true
      → has_sort (bare_signature env goal count) [] Boolean F ≡ true
  timeless e =
      timeless_sort (signature_at_start env k)
      (map (λ a. a.arity) (system_of env goal).actions) [] Boolean F
      (not_so (speaks_of_time F) (ap (λ s. not (speaks_of_time (formula_of s))) (sym stated.starts)
      ∙ e))
      stated.sorted
    where
      not_so : (b : Bool) → not b ≡ true → b ≡ false
      not_so true i = cc
      not_so false i = refl

  sorted_for_goal : has_sort (bare_signature env goal count) [] Boolean F ≡ true
  sorted_for_goal =
      go ((statement_at env k).system == (statement_at env goal).system) refl
      (and_split (nat_lt k goal) _ may).1
    where
      go : (b : Bool) → ((statement_at env k).system == (statement_at env goal).system) ≡ b
          → (b || is_timeless_axiom (statement_at env k)) ≡ true
          → has_sort (bare_signature env goal count) [] Boolean F ≡ true
      go true q h =
          same_system (eqb-true (statement_at env k).system (statement_at env goal).system q)
      go false q h = timeless (and_split (is_axiom (statement_at env k).kind) _ h).1

  -- its instance may stand in a local sequent of the goal
  pub use_stands : (s : SequentTree) (side : Side) (ms : List TermTree) → IsOn (body_of s) side
      → list_all
      (typing.may_stand
      (signature_of env (system_of env goal) (length (statement_at env goal).schemas) (vars_of s))
      (subject_of (body_of s)) Message) ms ≡ true
      → length ms ≡ n
      → typing.may_stand
      (signature_of env (system_of env goal) (length (statement_at env goal).schemas) (vars_of s))
      (subject_of (body_of s)) Boolean (instance_on side ms F) ≡ true
  use_stands (local own vars H c) side ms e h many =
      let schemas : ℕ = length (statement_at env goal).schemas in
      subst
      (λ q. typing.may_stand (signature_of env (system_of env goal) schemas vars)
      (of_side own) Boolean
      (instance_on q ms F) ≡ true) e
      (instance_stands (bare_signature env goal count) schemas count vars ms
      (many ∙ stated.count) own F
      h sorted_for_goal)
  use_stands (trace vars H c) side ms e h many = absurd e
  use_stands (equiv vars H known items) side ms e h many = absurd e
