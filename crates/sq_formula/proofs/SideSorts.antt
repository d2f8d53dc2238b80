-- A side of a term has the term's sort and holds no Diff.
use Rattle.std.proofs.Common.{◌≡◌, refl, ap, subst, List, [], ◌∷◌, map, true, false, not}
use Rattle.std.specs.List.{list_all}
use Rattle.sq_base.specs.declared.sort.Sort.{Sort}
use Rattle.sq_base.specs.declared.sort.Sort.TheVariants.{Boolean, Timestamp}
use Rattle.sq_term.specs.declared.term.Side.{Side}
use Rattle.sq_term.specs.declared.term.Side.TheVariants.{Left, Right, Both}
use Rattle.sq_term.specs.Syntax.{TermTree}
use Rattle.sq_term.proofs.BoolTests.{and_split, and_both}
use Rattle.sq_typing.specs.Diffs.{holds_diff}
use Rattle.sq_typing.specs.Standing.{of_side, may_stand}
use Rattle.sq_typing.specs.Typing.{Signature, has_sort_at, is_index, has_sort}
use Rattle.sq_subst.specs.Projection.{projecting, projected}
use Rattle.sq_formula.proofs.KeptParts.{no_diff}
use Rattle.sq_formula.proofs.KeptSorts.{no_some, sort_kept}

pub side-sort : (g : Signature) (side : Side) (bs : List Sort) (s : Sort) (t : TermTree)
    → has_sort g bs s t ≡ true → has_sort g bs s (projected side t) ≡ true
side-sort g side bs s t e =
    sort_kept (projecting side) g g.schemas g.vars (λ m bs cs. bs ≡ cs)
    (λ m bs cs b r. ap (λ xs. b ∷ xs) r)
    (λ m bs cs i r q. subst (λ xs. is_index g xs i ≡ true) r q) (λ m k bs cs r q. q)
    (λ m k bs cs r q. subst (λ xs. has_sort_at xs k Timestamp ≡ true) r q) (λ m k bs cs r q. q)
    (λ m bs cs t u r q p. no_some u p) (λ m bs cs s t u r q p. no_some u p) t 0 bs bs s refl e

left-no_diff : (t : TermTree) → holds_diff (projected Left t) ≡ false
left-no_diff t =
    no_diff (projecting Left) (λ m k. refl) (λ t u q. no_some u q) t 0
    (λ q. absurd (let z : Left ≡ Both = q in cc))

right-no_diff : (t : TermTree) → holds_diff (projected Right t) ≡ false
right-no_diff t =
    no_diff (projecting Right) (λ m k. refl) (λ t u q. no_some u q) t 0
    (λ q. absurd (let z : Right ≡ Both = q in cc))

-- a side may stand in the sequent of that side
pub side-stands : (g : Signature) (side : Side) (s : Sort) (t : TermTree)
    → may_stand g (of_side Both) s t ≡ true → may_stand g (of_side side) s (projected side t) ≡ true
side-stands g Left s t h =
    and_both (has_sort g [] s (projected Left t)) _
    (side-sort g Left [] s t (and_split (has_sort g [] s t) true h).0) (ap not (left-no_diff t))
side-stands g Right s t h =
    and_both (has_sort g [] s (projected Right t)) _
    (side-sort g Right [] s t (and_split (has_sort g [] s t) true h).0) (ap not (right-no_diff t))
side-stands g Both s t h =
    and_both (has_sort g [] s (projected Both t)) true
    (side-sort g Both [] s t (and_split (has_sort g [] s t) true h).0) refl

pub sides-stand : (g : Signature) (side : Side) (H : List TermTree)
    → list_all (may_stand g (of_side Both) Boolean) H ≡ true
    → list_all (may_stand g (of_side side) Boolean) (map (projected side) H) ≡ true
sides-stand g side [] h = refl
sides-stand g side (t ∷ ts) h =
    let p = and_split (may_stand g (of_side Both) Boolean t)
    (list_all (may_stand g (of_side Both) Boolean) ts) h in
    and_both (may_stand g (of_side side) Boolean (projected side t)) _
    (side-stands g side Boolean t p.0) (sides-stand g side ts p.1)
