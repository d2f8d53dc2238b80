-- What is left to walk goes on.
use Rattle.std.proofs.Common.{◌≡◌, List, [], ◌∷◌, ◌++◌, sym, ap, ◌∙◌, append_assoc}
use Rattle.std.proofs.Common.{append-nil}
use Rattle.sq_elab.specs.Events.{Event, Count, counted_all, follow}
use Rattle.sq_elab.specs.Meanings.{Base}
use Rattle.sq_elab.specs.Tasks.{Task, task_events, left_events, WhatIsLeftGoesOn}
use Rattle.sq_elab.proofs.WalkLaws.{counted-append}

follow-assoc : (k : Count) (vs : List Event) (f g : Count → List Event)
    → follow k (follow k vs f) g ≡ follow k vs (λ j. follow j (f j) g)
follow-assoc k vs f g =
    let j : Count = counted_all k vs in
    ap (λ (i : Count). (vs ++ f j) ++ g i) (counted-append k vs (f j))
    ∙ append_assoc vs (f j) (g (counted_all j (f j)))

module _ (b : Base) where
  pub left-append : (ts us : List Task) (k : Count)
      → left_events b (ts ++ us) k ≡ follow k (left_events b us k) (left_events b ts)
  left-append [] us k = sym (append-nil (left_events b us k))
  left-append (t ∷ ts) us k =
      ap (λ (vs : List Event). follow k vs (task_events b t)) (left-append ts us k)
      ∙ follow-assoc k (left_events b us k) (left_events b ts) (task_events b t)

pub what_is_left_goes_on : WhatIsLeftGoesOn
what_is_left_goes_on b k ts us t vs e =
    left-append b ts (t ∷ []) k
    ∙ (ap (λ (x : List Event). follow k x (left_events b ts)) e
    ∙ (follow-assoc k vs (left_events b us) (left_events b ts) ∙ sym (more (counted_all k vs))))
  where
    more : (j : Count)
        → vs ++ left_events b (ts ++ us) j
        ≡ vs ++ follow j (left_events b us j) (left_events b ts)
    more j = ap (λ (x : List Event). vs ++ x) (left-append b ts us j)
