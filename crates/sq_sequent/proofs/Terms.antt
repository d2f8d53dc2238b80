-- What an argument gives as a term may stand in the sequent.
use Rattle.std.proofs.Common.{◌≡◌, refl, subst, List, [], ◌∷◌, ap, suc, length, Option, Some, None}
use Rattle.std.proofs.Common.{Bool, true, false}
use Rattle.std.specs.Prelude.{if◌then◌else◌}
use Rattle.std.specs.List.{list_all}
use Rattle.sq_base.specs.declared.sort.Sort.{Sort}
use Rattle.sq_base.specs.declared.sort.Sort.TheVariants.{Message}
use Rattle.sq_term.specs.Syntax.{TermTree}
use Rattle.sq_term.proofs.BoolTests.{and_both}
use Rattle.sq_step.specs.declared.step.TermArg.{TermArg}
use Rattle.sq_sequent.specs.Places.{term_at}
use Rattle.sq_sequent.specs.Rows.{IsTerm, AreMessages}
use Rattle.sq_sequent.specs.Site.{Site}
use Rattle.sq_sequent.specs.Standing.{may_stand, where_standing, term_in}

stands : (at : Site) (sort : Sort) (o : Option TermTree) (t : TermTree)
    → where_standing at sort o ≡ Some t → may_stand at sort t ≡ true
stands at sort None t e = absurd (cc)
stands at sort (Some u) t e = go (may_stand at sort u) refl e
  where
    go : (b : Bool) → may_stand at sort u ≡ b → (if b then Some u else None) ≡ Some t
        → may_stand at sort t ≡ true
    go true q r = let z : u ≡ t = cc in subst (λ v. may_stand at sort v ≡ true) z q
    go false q r = absurd (cc)

pub term-stands : (at : Site) (sort : Sort) (a : TermArg) (t : TermTree) → IsTerm at sort a t
    → may_stand at sort t ≡ true
unfolding term_in
term-stands at sort a t e = stands at sort (term_at at.sequent a) t e

pub messages-stand : (at : Site) (args : List TermArg) (ts : List TermTree) → AreMessages at args ts
    → list_all (may_stand at Message) ts ≡ true
messages-stand at [] [] e = refl
messages-stand at (a ∷ args) (t ∷ ts) e =
    and_both (may_stand at Message t) _ (term-stands at Message a t e.0)
    (messages-stand at args ts e.1)
messages-stand at [] (t ∷ ts) e = absurd e
messages-stand at (a ∷ args) [] e = absurd e

pub messages-count : (at : Site) (args : List TermArg) (ts : List TermTree) → AreMessages at args ts
    → length ts ≡ length args
messages-count at [] [] e = refl
messages-count at (a ∷ args) (t ∷ ts) e = ap suc (messages-count at args ts e.1)
messages-count at [] (t ∷ ts) e = absurd e
messages-count at (a ∷ args) [] e = absurd e
