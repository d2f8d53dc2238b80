-- The rows that read a sequent on each side, and what it says of the trace, keep what holds.
use Rattle.std.proofs.Common.{◌≡◌, refl, sym, ap, subst, ◌∙◌, List, [], ◌∷◌, map, Bool, true, false}
use Rattle.std.specs.Prelude.{if◌then◌else◌}
use Rattle.sq_base.specs.declared.sort.Sort.{Sort}
use Rattle.sq_term.specs.declared.term.Side.{Side}
use Rattle.sq_term.specs.declared.term.Side.TheVariants.{Left, Right, Both}
use Rattle.sq_term.specs.Formulas.{falsity}
use Rattle.sq_term.specs.Ground.{Ground}
use Rattle.sq_term.specs.Lists.{Member, Each, here}
use Rattle.sq_term.specs.Pure.{is_pure}
use Rattle.sq_term.specs.Syntax.{TermTree}
use Rattle.sq_term.specs.Translate.{World, Assignment, translate}
use Rattle.sq_subst.specs.Laws.{is_read_on}
use Rattle.sq_subst.specs.Projection.{projected}
use Rattle.sq_subst.proofs.Laws.{project_law}
use Rattle.sq_system.specs.Sequents.{SequentTree, trace, local, equiv, vars_of, hyps_of, body_of}
use Rattle.sq_ground.specs.Theories.{Theory, world_at}
use Rattle.sq_ground.specs.Holding.{IsAssignment, claim_of, IsTrueFormula, HoldsAt}
use Rattle.sq_ground.proofs.Propositional.{by_none}
use Rattle.sq_ground.proofs.Propositional as ground_rule
use Rattle.sq_ground.proofs.TraceFormulas.{one_truth}
use Rattle.sq_sequent.specs.Premises.{pure_ones, pure_or_false}
use Rattle.sq_sequent.specs.Rows.{IsOn, AsksOfTrace}
use Rattle.sq_sequent.specs.Sides.{on_side}
use Rattle.sq_sequent.proofs.Hypotheses.{member-pure}
use Rattle.sq_rules_logic.proofs.Holding.{TrueIn, AllTrueIn, hyp_true}

same_hyps : (w : World) (a : Assignment) (side : Side) → is_read_on side w ≡ true
    → (H : List TermTree)
    → map (translate w a []) (map (projected side) H) ≡ map (translate w a []) H
same_hyps w a side e [] = refl
same_hyps w a side e (t ∷ ts) =
    ap (λ x. x ∷ map (translate w a []) (map (projected side) ts)) (project_law w a [] side t e)
    ∙ ap (λ xs. translate w a [] t ∷ xs) (same_hyps w a side e ts)

module _ (th : Theory) where
  abbrev read : Bool → Assignment → TermTree → Ground
  read left a = translate (world_at th left) a []

  -- ---- proj

  -- the line of the side's sequent is that of the sequent
  same_line : (side : Side) (left : Bool) (a : Assignment) (H : List TermTree) (g : TermTree)
      → is_read_on side (world_at th left) ≡ true
      → ground_rule.Proved th left (map (read left a) (map (projected side) H))
      (read left a (projected side g))
      → ground_rule.Proved th left (map (read left a) H) (read left a g)
  same_line side left a H g e p =
      subst (λ hs. ground_rule.Proved th left hs (read left a g))
      (same_hyps (world_at th left) a side e H)
      (subst (λ c. ground_rule.Proved th left (map (read left a) (map (projected side) H)) c)
      (project_law (world_at th left) a [] side g e) p)

  on_each : (vars : List Sort) (H : List TermTree) (g : TermTree)
      → HoldsAt th (on_side Left (local Both vars H g))
      → HoldsAt th (on_side Right (local Both vars H g))
      → (left : Bool) (a : Assignment) → IsAssignment th vars a
      → ground_rule.Proved th left (map (read left a) H) (read left a g)
  on_each vars H g p q true a f = same_line Left true a H g refl (p a f true here)
  on_each vars H g p q false a f = same_line Right false a H g refl (q a f false here)

  pub proj_sound : (s : SequentTree) → IsOn (body_of s) Both → HoldsAt th (on_side Left s)
      → HoldsAt th (on_side Right s) → HoldsAt th s
  proj_sound (local Both vars H g) e p q = λ a f left m. on_each vars H g p q left a f
  proj_sound (local Left vars H g) e p q = absurd (cc)
  proj_sound (local Right vars H g) e p q = absurd (cc)
  proj_sound (trace vars H g) e p q = absurd e
  proj_sound (equiv vars H known items) e p q = absurd e

  -- ---- trace

  -- a trace formula is true on a side and under a valuation where it is plainly true, and the other
  -- way round
  plainly : (left : Bool) (a : Assignment) (v : Ground → Bool) (t : TermTree) → is_pure t ≡ true
      → TrueIn th left a v t → IsTrueFormula th a t
  plainly left a v t p h = sym (one_truth th a t p left v) ∙ h

  from_plain : (left : Bool) (a : Assignment) (v : Ground → Bool) (t : TermTree) → is_pure t ≡ true
      → IsTrueFormula th a t → TrueIn th left a v t
  from_plain left a v t p h = one_truth th a t p left v ∙ h

  pure_hyps : (H : List TermTree) (left : Bool) (a : Assignment) (v : Ground → Bool)
      → AllTrueIn th left a v H → Each (IsTrueFormula th a) (pure_ones H)
  pure_hyps H left a v all t i =
      let m : Member H t × (is_pure t ≡ true) = member-pure H t i in
      plainly left a v t m.1 (hyp_true th H t m.0 left a v all)

  pure_goal : (g : TermTree) (left : Bool) (a : Assignment) (v : Ground → Bool)
      → IsTrueFormula th a (pure_or_false g) → TrueIn th left a v g
  pure_goal g left a v = go (is_pure g) refl
    where
      go : (b : Bool) → is_pure g ≡ b → IsTrueFormula th a (if b then g else falsity)
          → TrueIn th left a v g
      go true e h = from_plain left a v g e h
      go false e h = let x : false ≡ true = h in absurd (cc)

  pub trace_sound : (s : SequentTree) (c : TermTree) → AsksOfTrace (body_of s) c
      → HoldsAt th (trace (vars_of s) (pure_ones (hyps_of s)) c) → HoldsAt th s
  trace_sound (trace vars H g) c e p = absurd e
  trace_sound (local side vars H g) c e p = λ a f left m.
      by_none th left (claim_of (world_at th left) a H g)
      (λ v all.
      pure_goal g left a v (subst (IsTrueFormula th a) e (p a f (pure_hyps H left a v all))))
  trace_sound (equiv vars H known items) c e p = λ a f all k.
      let y : IsTrueFormula th a falsity =
      subst (IsTrueFormula th a) e (p a f (λ t i. all t (member-pure H t i).0)) in
      let x : false ≡ true = y in absurd (cc)
