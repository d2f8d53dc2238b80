-- What a usable axiom or lemma says of messages has a derivation.
use Rattle.std.proofs.Common.{◌≡◌, ℕ, ◌<◌, refl, sym, ap, ◌∙◌, subst, List, [], ◌∷◌, map}
use Rattle.std.proofs.Common.{length, Bool, true, false, not, nat_lt, arith}
use Rattle.std.specs.Prelude.{if◌then◌else◌, ◌&&◌}
use Rattle.std.specs.List.{list_all}
use Rattle.std.proofs.lemmas.Bool.Decides.{nat_tests}
use Rattle.sq_base.specs.declared.sort.Sort.TheVariants.{Message}
use Rattle.sq_term.specs.declared.model.Model.{Model}
use Rattle.sq_term.specs.declared.term.Side.{Side}
use Rattle.sq_term.specs.declared.term.Side.TheVariants.{Left, Right, Both}
use Rattle.sq_term.specs.Closed.{is_closed}
use Rattle.sq_term.specs.Ground.{Ground}
use Rattle.sq_term.specs.Lists.{Member, here, there, Each, count}
use Rattle.sq_term.specs.Syntax.{TermTree}
use Rattle.sq_term.specs.Translate.{World, Assignment, translate}
use Rattle.sq_term.proofs.BoolTests.{and_split, and_both}
use Rattle.sq_term.proofs.Members.{each_none, each_cons, member-flat_map}
use Rattle.sq_typing.specs.Typing.{has_sort}
use Rattle.sq_typing.proofs.Formulas.{sort-of}
use Rattle.sq_subst.specs.Laws.{is_read_on, terms_closed, instance_values}
use Rattle.sq_system.specs.Sequents.{SequentTree, local, vars_of, body_of}
use Rattle.sq_system.specs.Statements.{EnvTree}
use Rattle.sq_system.specs.Usable.{is_axiom, formula_of, statement_at, usable}
use Rattle.sq_system.specs.Scopes.{subject_of}
use Rattle.sq_system.specs.WellFormed.{is_environment}
use Rattle.sq_ground.specs.Derivations.{HasDerivation, IsInstance}
use Rattle.sq_ground.specs.Goals.{theory_of}
use Rattle.sq_ground.specs.GroundSorts.{IsMessage}
use Rattle.sq_ground.specs.Holding.{sides_of, IsAssignment, HoldsAt}
use Rattle.sq_ground.specs.Lines.{fact}
use Rattle.sq_ground.specs.Theories.{Theory, world_at}
use Rattle.sq_ground.proofs.Derivations.{derive_axiom}
use Rattle.sq_ground.proofs.RecordSorts.{translations_keep}
use Rattle.sq_step.specs.declared.step.TermArg.{TermArg}
use Rattle.sq_sequent.specs.Premises.{assuming}
use Rattle.sq_sequent.specs.Rows.{IsOn, AreMessages, Offers}
use Rattle.sq_sequent.specs.Site.{Site}
use Rattle.sq_sequent.specs.Standing.{signature_at, may_stand}
use Rattle.sq_sequent.specs.Sides.{instance_on}
use Rattle.sq_formula.proofs.ClosedSorts.{sorted-closed}
use Rattle.sq_sequent.proofs.Offers.{IsStated, signature_at_start, offered-stated}
use Rattle.sq_sequent.proofs.Terms.{messages-stand, messages-count}
use Rattle.sq_rules_logic.specs.Soundness.{EarlierHoldAt}
use Rattle.sq_rules_logic.proofs.Domains.{count-member}
use Rattle.sq_rules_logic.proofs.FactSound.{Known, known_sound}
use Rattle.sq_rules_logic.proofs.InstanceMeaning.{instance_meaning}

-- ---- the messages of arguments

module _ (at : Site) where
  message_sort : (t : TermTree) → may_stand at Message t ≡ true
      → has_sort (signature_at at) [] Message t ≡ true
  unfolding may_stand
  message_sort t h = sort-of (signature_at at) (subject_of (body_of at.sequent)) Message t h

  -- they hold no loose bound variable
  messages_closed : (ts : List TermTree) → list_all (may_stand at Message) ts ≡ true
      → terms_closed ts ≡ true
  messages_closed [] h = refl
  messages_closed (t ∷ ts) h =
      let p = and_split (may_stand at Message t) _ h in
      and_both (is_closed 0 t) (terms_closed ts)
      (sorted-closed (signature_at at) Message t (message_sort t p.0)) (messages_closed ts p.1)

  module _ (kept : is_environment at.env ≡ true) (m : Model) (left : Bool) (a : Assignment)
      (given : Each (IsMessage at.env.funs) a.schemas) where
    abbrev read : TermTree → Ground
    read t = translate (world_at (theory_of at.env at.goal m) left) a [] t

    -- what they mean are messages
    messages_mean : (ts : List TermTree) → list_all (may_stand at Message) ts ≡ true
        → Each (IsMessage at.env.funs) (map read ts)
    messages_mean [] h = each_none (IsMessage at.env.funs)
    messages_mean (t ∷ ts) h =
        let p = and_split (may_stand at Message t) _ h in
        each_cons (read t) (map read ts) (IsMessage at.env.funs)
        (translations_keep at.env at.goal m left (signature_at at).schemas
        (vars_of at.sequent) a Message t
        kept given (message_sort t p.0))
        (messages_mean ts p.1)

-- ---- the formula of a statement that the goal may use

-- the assignment that gives these messages to the schema variables
abbrev with_schemas : List Ground → Assignment
with_schemas messages = record { variables = []; schemas = messages }

module _ (env : EnvTree) (goal : ℕ) (m : Model) (earlier : EarlierHoldAt env goal m) (k n : ℕ)
    (F : TermTree) (may : usable env goal k ≡ true) (stated : IsStated env k n F) where
  abbrev th : Theory
  th = theory_of env goal m

  abbrev start : SequentTree
  start = (statement_at env k).start

  abbrev axioms_from : ℕ → List TermTree
  axioms_from j =
      if is_axiom (statement_at env j).kind && usable env goal j
      then formula_of (statement_at env j).start ∷ [] else []

  among_axioms : is_axiom (statement_at env k).kind ≡ true → Member th.axioms F
  among_axioms a =
      let lower : k < goal = below (and_split (nat_lt k goal) _ may).0 in
      member-flat_map axioms_from (count 0 goal) k F
      (count-member 0 goal k (omega arith) (omega arith))
      (subst (λ b. Member (if b then formula_of start ∷ [] else []) F)
      (sym (and_both (is_axiom (statement_at env k).kind) (usable env goal k) a may))
      (subst (λ t. Member (t ∷ []) F) (sym (ap formula_of stated.starts)) here))
    where
      below : nat_lt k goal ≡ true → k < goal
      below e = grind (arith, nat_tests)

  -- it has a derivation, whatever messages its schema variables mean
  formula_derived : (left : Bool) (messages : List Ground) → Each (IsMessage env.funs) messages
      → HasDerivation th (fact left (translate (world_at th left) (with_schemas messages) [] F))
  formula_derived left messages given = go (is_axiom (statement_at env k).kind) refl
    where
      on_side : (b : Bool) → Member (true ∷ false ∷ []) b
      on_side true = here
      on_side false = there here

      go : (b : Bool) → is_axiom (statement_at env k).kind ≡ b
          → HasDerivation th (fact left (translate (world_at th left) (with_schemas messages) [] F))
      go true a = derive_axiom th _ (IsInstance.instance left F messages (among_axioms a) given)
      go false a =
          let h : HoldsAt th (local Both [] [] F) = subst (HoldsAt th) stated.starts
          (earlier k may a) in
          h (with_schemas messages) (record { values = tt; messages = given }) left (on_side left)

-- ---- the row

only : (x b : Bool) → Member (x ∷ []) b → b ≡ x
only x b here = refl
only x b (there i) = elim i [ ]

-- a world is read on the sides of its sequent
read_there : (t : Theory) (side : Side) (left : Bool) → Member (sides_of side) left
    → is_read_on side (world_at t left) ≡ true
read_there t Both left i = refl
read_there t Left left i = only true left i
read_there t Right left i = ap not (only false left i)

pub use_sound : (at : Site) (m : Model) → is_environment at.env ≡ true
    → EarlierHoldAt at.env at.goal m
    → (k : ℕ) (args : List TermArg) (s : Side) (F : TermTree) (ts : List TermTree)
    → IsOn (body_of at.sequent) s → Offers at k (length args) F → AreMessages at args ts
    → HoldsAt (theory_of at.env at.goal m) (assuming at.sequent (instance_on s ts F))
    → HoldsAt (theory_of at.env at.goal m) at.sequent
use_sound at m kept earlier k args s F ts on offer given p =
    known_sound (theory_of at.env at.goal m) at.sequent s (instance_on s ts F) on known p
  where
    known : (left : Bool) → Member (sides_of s) left → (a : Assignment)
        → IsAssignment (theory_of at.env at.goal m) (vars_of at.sequent) a
        → Known (theory_of at.env at.goal m) left a (instance_on s ts F)
    known left i a f =
        let stated : IsStated at.env k (length args) F = offered-stated at k
        (length args) F kept offer in
        let stand : list_all (may_stand at Message) ts ≡ true = messages-stand at args ts given in
        let w : World = world_at (theory_of at.env at.goal m) left in
        let same : translate w a [] (instance_on s ts F)
        ≡ translate w (instance_values w a [] ts) [] F =
        instance_meaning (signature_at_start at.env k) (length (statement_at at.env k).schemas) ts
        (messages-count at args ts given ∙ stated.count) w a s F
        (read_there (theory_of at.env at.goal m) s left i)
        (messages_closed at ts stand) stated.sorted in
        subst (λ t. HasDerivation (theory_of at.env at.goal m) (fact left t)) (sym same)
        (formula_derived at.env at.goal m earlier k (length args) F offer.is_usable stated left
        (map (translate w a []) ts) (messages_mean at kept m left a f.messages ts stand))
