-- What exchanges terms keeps indices and timestamps.
use Rattle.std.proofs.Common.{◌≡◌, refl, ap, ℕ, List, [], ◌∷◌, map}
use Rattle.sq_term.specs.declared.term.Idx.{Idx}
use Rattle.sq_term.specs.Syntax.{TsTree, TermTree}
use Rattle.sq_subst.specs.Leaves.{map_ts}
use Rattle.sq_subst.specs.Replacement.{exchanging_terms}
use Rattle.sq_subst.proofs.Fusion.{ts_kept}
use Rattle.sq_subst.proofs.TestLaws.{no_tests, ts_free}

pub indices_stay : (is : List Idx) → map (λ (i : Idx). i) is ≡ is
indices_stay [] = refl
indices_stay (i ∷ is) = ap (λ js. i ∷ js) (indices_stay is)

pub times_stay : (from to : TermTree) (m : ℕ) (t : TsTree)
    → map_ts (exchanging_terms from to) m t ≡ t
times_stay from to m t =
    ts_kept (exchanging_terms from to) no_tests (λ m i h. refl) (λ m k h. refl) (λ m k h. refl)
    (λ t. refl) m t (ts_free m t)
