-- The refusal is the first fault of the list of places.
use Rattle.std.proofs.Common.{◌≡◌, ℕ, zero, suc, ◌<◌, List, [], ◌∷◌, Option, Some, None, refl, ap}
use Rattle.std.proofs.Common.{arith, slice_get}
use Rattle.sq_elab.specs.declared.fault.ElabFault.{ElabFault}
use Rattle.sq_elab.specs.Faults.{first_of, faults}
use Rattle.sq_elab.specs.Laws.{IsFirstFault, TheFirstPlaceCounts}
use Rattle.sq_elab.specs.Outcome.{start, all_events}

behind : {os : List (Option ElabFault)} {x : ElabFault} → IsFirstFault os x
    → IsFirstFault (None ∷ os) x
behind {os} {x} h = record { place = suc h.place; is = h.is; none_before = before }
  where
    before : (k : ℕ) → k < suc h.place → slice_get (None ∷ os) k ≡ Some None
    before zero l = refl
    before (suc k) l = h.none_before k (omega arith)

first_fault : (os : List (Option ElabFault)) (x : ElabFault) → first_of os ≡ Some x
    → IsFirstFault os x
first_fault [] x e = absurd (cc (e))
first_fault (Some y ∷ os) x e =
    record { place = 0; is = ap Some e; none_before = λ k l. absurd (omega arith) }
first_fault (None ∷ os) x e = behind (first_fault os x e)

pub the_first_place_counts : TheFirstPlaceCounts
the_first_place_counts b p x e = first_fault (faults b (start b) (all_events b p)) x e
