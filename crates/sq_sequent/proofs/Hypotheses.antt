-- Hypotheses: those at a place, all but one, and the trace formulas among them.
use Rattle.std.proofs.Common.{◌≡◌, ℕ, zero, suc, refl, sym, subst, List, [], ◌∷◌, Some, Bool, true}
use Rattle.std.proofs.Common.{false}
use Rattle.std.specs.Prelude.{slice_get, if◌then◌else◌}
use Rattle.sq_term.specs.Lists.{Member, here, there}
use Rattle.sq_term.specs.Pure.{is_pure}
use Rattle.sq_term.specs.Syntax.{TermTree}
use Rattle.sq_sequent.specs.Premises.{without, pure_ones}

pub get_member : {A : Type 0} (xs : List A) (k : ℕ) (x : A) → slice_get xs k ≡ Some x → Member xs x
get_member [] k x e = absurd (cc)
get_member {A} (y ∷ ys) zero x e =
    let s : x ≡ y = cc in subst (Member (y ∷ ys)) (sym s) here
get_member (y ∷ ys) (suc k) x e = there (get_member ys k x e)

pub member-without : {A : Type 0} (xs : List A) (k : ℕ) (x : A) → Member (without xs k) x
    → Member xs x
member-without [] k x i = i
member-without (y ∷ ys) zero x i = there i
member-without (y ∷ ys) (suc k) z here = here
member-without (y ∷ ys) (suc k) x (there i) = there (member-without ys k x i)

pure-first : (x : TermTree) (xs ys : List TermTree) (t : TermTree) → is_pure x ≡ true
    → (Member ys t → Member xs t × (is_pure t ≡ true))
    → Member (x ∷ ys) t → Member (x ∷ xs) t × (is_pure t ≡ true)
pure-first x xs ys z e rest here = (here, e)
pure-first x xs ys t e rest (there i) = (there (rest i).0, (rest i).1)

pure-step : (x : TermTree) (xs : List TermTree) (t : TermTree) (b : Bool) → is_pure x ≡ b
    → (Member (pure_ones xs) t → Member xs t × (is_pure t ≡ true))
    → Member (if b then x ∷ pure_ones xs else pure_ones xs) t
    → Member (x ∷ xs) t × (is_pure t ≡ true)
pure-step x xs t true e rest i = pure-first x xs (pure_ones xs) t e rest i
pure-step x xs t false e rest i = (there (rest i).0, (rest i).1)

pub member-pure : (ts : List TermTree) (t : TermTree) → Member (pure_ones ts) t
    → Member ts t × (is_pure t ≡ true)
member-pure [] t i = elim i [ ]
member-pure (x ∷ xs) t i = pure-step x xs t (is_pure x) refl (member-pure xs t) i
