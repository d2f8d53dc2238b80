-- The records of a system's trace.
use Rattle.std.proofs.Common.{◌≡◌, refl, ap, ℕ, zero, suc, ◌<◌, List, [], ◌∷◌, length, Bool, true}
use Rattle.std.proofs.Common.{arith}
use Rattle.std.specs.Prelude.{Some, get_or, slice_get, nat_lt}
use Rattle.std.proofs.lemmas.Bool.Decides.{nat_tests}
use Rattle.sq_term.specs.declared.model.Inst.{Inst}
use Rattle.sq_term.specs.declared.model.Model.{Model}
use Rattle.sq_term.specs.Lists.{ElementAt}
use Rattle.sq_term.specs.GroundFormulas.{attacked}
use Rattle.sq_term.specs.Systems.{ActionTree, no_action, SystemTree, action_at}
use Rattle.sq_term.specs.Translate.{translate}
use Rattle.sq_term.specs.Models.{IsTraceModel}
use Rattle.sq_term.specs.Records.{next_record, own_indices, field, record_at, world}
use Rattle.sq_term.proofs.BoolTests.{and_split}
use Rattle.sq_term.proofs.Members.{element-member}
use Rattle.sq_term.proofs.Models.{empty_model, empty_model-first_refused, first_refused-none}
use Rattle.sq_term.proofs.Records.{record_at-init, record_equation}
use Rattle.sq_system.specs.Facts.{IsSystem, IsAction}
use Rattle.sq_ground.specs.Laws.{RecordsMeetTheTable, EverySystemHasAModel}
use Rattle.sq_ground.proofs.Bodies.{body_reads}

within-slice : (xs : List ActionTree) (n : ℕ) → n < length xs
    → slice_get xs n ≡ Some (get_or xs n no_action)
within-slice [] n b = absurd (omega arith)
within-slice (x ∷ xs) zero b = refl
within-slice (x ∷ xs) (suc n) b = within-slice xs n (omega arith)

-- the action of an instance is there
pub instance-action : (s : SystemTree) (m : Model) (k : ℕ) (i : Inst) → IsTraceModel s m
    → ElementAt m.list k i → slice_get s.actions i.act ≡ Some (action_at s i.act)
instance-action s m k i M el =
    let p : (nat_lt i.act (length s.actions) ≡ true) × _ =
    and_split (nat_lt i.act (length s.actions)) _ (M.instances i (element-member m.list k i el)) in
    let e : nat_lt i.act (length s.actions) ≡ true = p.0 in
    let b : i.act < length s.actions = grind (arith, nat_tests) in
    within-slice s.actions i.act b

pub system_record : (s : SystemTree) (m : Model) (left : Bool) → IsSystem s → IsTraceModel s m
    → (k : ℕ) (i : Inst) → ElementAt m.list k i
    → record_at s m left (suc k)
    ≡ next_record (record_at s m left k) (attacked (record_at s m left k).frame)
    (translate (world s m left) (own_indices i) [] (action_at s i.act).output)
    (translate (world s m left) (own_indices i) [] (action_at s i.act).cond)
system_record s m left facts M k i el =
    let at : slice_get s.actions i.act ≡ Some (action_at s i.act) = instance-action s m k i M el in
    let a : IsAction s i.act (action_at s i.act) = facts i.act (action_at s i.act) at in
    record_equation s m left k i el
    (body_reads s facts m M i.act k (action_at s i.act) i at el refl (action_at s i.act).arity
    (action_at s i.act).cond [] a.cond_is)
    (body_reads s facts m M i.act k (action_at s i.act) i at el refl (action_at s i.act).arity
    (action_at s i.act).output [] a.output_is)

pub records_meet : RecordsMeetTheTable
records_meet s m left facts M = (
  λ read. ap (field read) (record_at-init s m left),
  λ read. refl,
  λ k i el read. ap (field read)
      (system_record s m left facts M k i el),
)

pub every_system : EverySystemHasAModel
every_system s = first_refused-none s empty_model (empty_model-first_refused s)
