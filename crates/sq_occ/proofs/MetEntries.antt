-- The formula of a list is true exactly where an entry is met.
use Rattle.std.proofs.Common.{◌≡◌, refl, sym, ap, ◌∙◌, subst, [], map}
use Rattle.sq_term.specs.GroundOccurrences as ground
use Rattle.sq_term.specs.GroundOccurrences.{Role}
use Rattle.sq_term.specs.Lists.{Member}
use Rattle.sq_term.specs.Syntax.{TermTree}
use Rattle.sq_term.specs.Translate.{translate}
use Rattle.sq_term.proofs.Members.{member-map, member-map_from}
use Rattle.sq_ground.specs.Truth.{IsTrueAt}
use Rattle.sq_occ.specs.Entries.{RoleTree, bare, public, key, OccTree}
use Rattle.sq_occ.specs.Listed.{Covers}
use Rattle.sq_occ.specs.Facts.{entry_formula}
use Rattle.sq_occ.specs.Met.{FormulaSaysWhatIsMet, IsKeyRole, HasMessage}
use Rattle.sq_occ.specs.Met.{IsKeyOfMessage, KeysAlone}
use Rattle.sq_occ.proofs.Formulas.{disj_from, disj_to, formula_from, formula_to}

pub formula_says : FormulaSaysWhatIsMet
formula_says w a v is more us closed long = (
  λ h.
      let r : (x : TermTree) × Member (map (λ u. entry_formula is u (more u)) us) x
      × IsTrueAt v (translate w a [] x) =
      disj_to w a v [] (map (λ u. entry_formula is u (more u)) us) h in
      let q : (u : OccTree) × Member us u × (r.0 ≡ entry_formula is u (more u)) =
      member-map_from (λ u. entry_formula is u (more u)) us r.0 r.1 in (
        q.0,
        q.1,
        formula_to w a v is closed q.0 (more q.0) (long q.0 q.1)
            (subst (λ x. IsTrueAt v (translate w a [] x)) q.2 r.2),
      ),
  λ (u, i, met).
      disj_from w a v [] (map (λ u. entry_formula is u (more u)) us) (entry_formula is u (more u))
      (member-map (λ u. entry_formula is u (more u)) us u i)
      (formula_from w a v is closed u (more u) met),
)

pub keys_alone : KeysAlone
keys_alone w a js f r us each h = at h.entry.role refl (each h.entry h.is_in) h.covers
  where
    at : (o : RoleTree) → h.entry.role ≡ o → IsKeyRole f o → Covers w a h.values o r
        → IsKeyOfMessage w a js f r us h
    at bare e k c = absurd k
    at public e k c = absurd k
    at (key g m test) e k c = record {
      message = m;
      is_message = subst (λ o. HasMessage o m) (sym e) refl;
      test = c.0;
      role_is = c.1 ∙ ap (λ x. ground.key x (translate w a h.values m) c.0) k;
    }
