-- What a row leaves by the shape of the term that it asks for, as the program reads it.
use Rattle.std.proofs.Common.{◌≡◌, refl, sym, ap, ◌∙◌, subst, List, [], ◌∷◌, Option, Some, None}
use Rattle.std.proofs.Common.{Result, Err, Bool, true, false, Bor}
use Rattle.sq_base.specs.Gives.{Gives}
use Rattle.sq_base.specs.declared.sort.Sort.{Sort}
use Rattle.sq_term.specs.Arguments.{ArgTree}
use Rattle.sq_term.specs.declared.term.Idx.{Idx}
use Rattle.sq_term.specs.declared.term.Term.{Term}
use Rattle.sq_term.specs.declared.term.Ts.{Ts}
use Rattle.sq_term.specs.Formulas.{truth, falsity, negation, both, either, implies, equal}
use Rattle.sq_term.specs.Syntax.{TermTree, ts_eq, idx_eq, all, some}
use Rattle.sq_subst.specs.Substitution.{opened}
use Rattle.sq_system.specs.declared.sequent.Sequent.{Sequent}
use Rattle.sq_system.specs.Sequents.{SequentTree}
use Rattle.sq_system.specs.declared.fault.RuleFault.{RuleFault}
use Rattle.sq_system.specs.declared.fault.RuleFault.TheVariants as fault
use Rattle.sq_formula.specs.declared.shapes.Shape.{Shape}
use Rattle.sq_formula.specs.declared.shapes.Shape.TheVariants as shape
use Rattle.sq_step.specs.declared.step.ValArg.{ValArg}
use Rattle.sq_sequent.specs.Logic as row
use Rattle.sq_sequent.specs.Logic.{sequent_trees, within_limits, judged}
use Rattle.sq_sequent.specs.Premises.{asking, assuming, with_variable, new_variable}
use Rattle.sq_formula.specs.Shapes.{is_plain, Reads}
use Rattle.sq_sequent.specs.Site.{Site}
use Rattle.sq_sequent.specs.Standing.{value_in}

-- ---- premises that are those of the row

pub gives_one : (r : Result (List Sequent) RuleFault) (row : Option (List SequentTree))
    (p q : SequentTree) → row ≡ Some (q ∷ []) → p ≡ q
    → Gives fault.NoMemory sequent_trees r (within_limits (p ∷ []))
    → Gives fault.NoMemory sequent_trees r (judged row)
gives_one r row p q e f g =
    subst (λ o. Gives fault.NoMemory sequent_trees r (judged o)) (sym e)
    (subst (λ x. Gives fault.NoMemory sequent_trees r (within_limits (x ∷ []))) f g)

pub gives_two : (r : Result (List Sequent) RuleFault) (row : Option (List SequentTree))
    (p p' q q' : SequentTree) → row ≡ Some (q ∷ q' ∷ []) → p ≡ q → p' ≡ q'
    → Gives fault.NoMemory sequent_trees r (within_limits (p ∷ p' ∷ []))
    → Gives fault.NoMemory sequent_trees r (judged row)
gives_two r row p p' q q' e f f' g =
    subst (λ o. Gives fault.NoMemory sequent_trees r (judged o)) (sym e)
    (subst (λ x. Gives fault.NoMemory sequent_trees r (within_limits (x ∷ q' ∷ []))) f
    (subst (λ x. Gives fault.NoMemory sequent_trees r (within_limits (p ∷ x ∷ []))) f' g))

no_plain : {P : Type 0} → false ≡ true → P
no_plain e = absurd (let f : false ≡ true = e in cc)

-- ---- the rows

true-plain : (o : Option TermTree) → is_plain o ≡ true → row.true_row o ≡ None
unfolding is_plain row.true_row
true-plain None h = refl
true-plain (Some truth) h = no_plain h
true-plain (Some t) h = refl

pub true-else : (sh : Shape) (found o : Option TermTree) → found ≡ o → Reads sh found
    → (sh ≡ shape.True → ⊥) → judged (row.true_row o) ≡ Err fault.Shape
unfolding row.true_row
true-else shape.True found o e r n = absurd (n refl)
true-else shape.Other found o e r n = ap judged (true-plain o (ap is_plain (sym e) ∙ r))
true-else _ found o e r n = ap (λ t. judged (row.true_row t)) (sym e ∙ r)

pub true-there : (found o : Option TermTree) → found ≡ o
    → found ≡ Some truth
    → row.true_row o ≡ Some []
unfolding row.true_row
true-there found o e r = ap row.true_row (sym e ∙ r)

absurd-plain : (o : Option TermTree) → is_plain o ≡ true → row.absurd_row o ≡ None
unfolding is_plain row.absurd_row
absurd-plain None h = refl
absurd-plain (Some falsity) h = no_plain h
absurd-plain (Some t) h = refl

pub absurd-else : (sh : Shape) (found o : Option TermTree) → found ≡ o → Reads sh found
    → (sh ≡ shape.False → ⊥) → judged (row.absurd_row o) ≡ Err fault.Shape
unfolding row.absurd_row
absurd-else shape.False found o e r n = absurd (n refl)
absurd-else shape.Other found o e r n = ap judged (absurd-plain o (ap is_plain (sym e) ∙ r))
absurd-else _ found o e r n = ap (λ t. judged (row.absurd_row t)) (sym e ∙ r)

pub absurd-there : (found o : Option TermTree) → found ≡ o
    → found ≡ Some falsity
    → row.absurd_row o ≡ Some []
unfolding row.absurd_row
absurd-there found o e r = ap row.absurd_row (sym e ∙ r)

impi-plain : (s : SequentTree) (o : Option TermTree) → is_plain o ≡ true → row.impi_row s o ≡ None
unfolding is_plain row.impi_row
impi-plain s None h = refl
impi-plain s (Some (implies a b)) h = no_plain h
impi-plain s (Some t) h = refl

pub impi-else : (s : SequentTree) (sh : Shape) (found o : Option TermTree) → found ≡ o
    → Reads sh found
    → ((a : Bor Term) (b : Bor Term) → sh ≡ shape.Implies a b → ⊥)
    → judged (row.impi_row s o) ≡ Err fault.Shape
unfolding row.impi_row
impi-else s (shape.Implies a b) found o e r n = absurd (n a b refl)
impi-else s shape.Other found o e r n = ap judged (impi-plain s o (ap is_plain (sym e) ∙ r))
impi-else s _ found o e r n = ap (λ t. judged (row.impi_row s t)) (sym e ∙ r)

pub impi-there : (s : SequentTree) (found o : Option TermTree) (a : TermTree) (b : TermTree)
    → found ≡ o
    → found ≡ Some (implies a b)
    → row.impi_row s o ≡ Some (assuming (asking s b) a ∷ [])
unfolding row.impi_row
impi-there s found o a b e r = ap (row.impi_row s) (sym e ∙ r)

noti-plain : (s : SequentTree) (o : Option TermTree) → is_plain o ≡ true → row.noti_row s o ≡ None
unfolding is_plain row.noti_row
noti-plain s None h = refl
noti-plain s (Some (negation a)) h = no_plain h
noti-plain s (Some t) h = refl

pub noti-else : (s : SequentTree) (sh : Shape) (found o : Option TermTree) → found ≡ o
    → Reads sh found
    → ((a : Bor Term) → sh ≡ shape.Not a → ⊥)
    → judged (row.noti_row s o) ≡ Err fault.Shape
unfolding row.noti_row
noti-else s (shape.Not a) found o e r n = absurd (n a refl)
noti-else s shape.Other found o e r n = ap judged (noti-plain s o (ap is_plain (sym e) ∙ r))
noti-else s _ found o e r n = ap (λ t. judged (row.noti_row s t)) (sym e ∙ r)

pub noti-there : (s : SequentTree) (found o : Option TermTree) (a : TermTree) → found ≡ o
    → found ≡ Some (negation a)
    → row.noti_row s o ≡ Some (assuming (asking s falsity) a ∷ [])
unfolding row.noti_row
noti-there s found o a e r = ap (row.noti_row s) (sym e ∙ r)

alli-plain : (s : SequentTree) (o : Option TermTree) → is_plain o ≡ true → row.alli_row s o ≡ None
unfolding is_plain row.alli_row
alli-plain s None h = refl
alli-plain s (Some (all x a)) h = no_plain h
alli-plain s (Some t) h = refl

pub alli-else : (s : SequentTree) (sh : Shape) (found o : Option TermTree) → found ≡ o
    → Reads sh found
    → ((x : Sort) (a : Bor Term) → sh ≡ shape.Forall x a → ⊥)
    → judged (row.alli_row s o) ≡ Err fault.Shape
unfolding row.alli_row
alli-else s (shape.Forall x a) found o e r n = absurd (n x a refl)
alli-else s shape.Other found o e r n = ap judged (alli-plain s o (ap is_plain (sym e) ∙ r))
alli-else s _ found o e r n = ap (λ t. judged (row.alli_row s t)) (sym e ∙ r)

pub alli-there : (s : SequentTree) (found o : Option TermTree) (x : Sort) (a : TermTree) → found ≡ o
    → found ≡ Some (all x a)
    → row.alli_row s o ≡ Some (with_variable x (asking s (opened (new_variable x s) a)) ∷ [])
unfolding row.alli_row
alli-there s found o x a e r = ap (row.alli_row s) (sym e ∙ r)

andi-plain : (s : SequentTree) (o : Option TermTree) → is_plain o ≡ true → row.andi_row s o ≡ None
unfolding is_plain row.andi_row
andi-plain s None h = refl
andi-plain s (Some (both a b)) h = no_plain h
andi-plain s (Some t) h = refl

pub andi-else : (s : SequentTree) (sh : Shape) (found o : Option TermTree) → found ≡ o
    → Reads sh found
    → ((a : Bor Term) (b : Bor Term) → sh ≡ shape.And a b → ⊥)
    → judged (row.andi_row s o) ≡ Err fault.Shape
unfolding row.andi_row
andi-else s (shape.And a b) found o e r n = absurd (n a b refl)
andi-else s shape.Other found o e r n = ap judged (andi-plain s o (ap is_plain (sym e) ∙ r))
andi-else s _ found o e r n = ap (λ t. judged (row.andi_row s t)) (sym e ∙ r)

pub andi-there : (s : SequentTree) (found o : Option TermTree) (a : TermTree) (b : TermTree)
    → found ≡ o
    → found ≡ Some (both a b)
    → row.andi_row s o ≡ Some (asking s a ∷ asking s b ∷ [])
unfolding row.andi_row
andi-there s found o a b e r = ap (row.andi_row s) (sym e ∙ r)

orl-plain : (s : SequentTree) (o : Option TermTree) → is_plain o ≡ true → row.orl_row s o ≡ None
unfolding is_plain row.orl_row
orl-plain s None h = refl
orl-plain s (Some (either a b)) h = no_plain h
orl-plain s (Some t) h = refl

pub orl-else : (s : SequentTree) (sh : Shape) (found o : Option TermTree) → found ≡ o
    → Reads sh found
    → ((a : Bor Term) (b : Bor Term) → sh ≡ shape.Or a b → ⊥)
    → judged (row.orl_row s o) ≡ Err fault.Shape
unfolding row.orl_row
orl-else s (shape.Or a b) found o e r n = absurd (n a b refl)
orl-else s shape.Other found o e r n = ap judged (orl-plain s o (ap is_plain (sym e) ∙ r))
orl-else s _ found o e r n = ap (λ t. judged (row.orl_row s t)) (sym e ∙ r)

pub orl-there : (s : SequentTree) (found o : Option TermTree) (a : TermTree) (b : TermTree)
    → found ≡ o
    → found ≡ Some (either a b)
    → row.orl_row s o ≡ Some (asking s a ∷ [])
unfolding row.orl_row
orl-there s found o a b e r = ap (row.orl_row s) (sym e ∙ r)

orr-plain : (s : SequentTree) (o : Option TermTree) → is_plain o ≡ true → row.orr_row s o ≡ None
unfolding is_plain row.orr_row
orr-plain s None h = refl
orr-plain s (Some (either a b)) h = no_plain h
orr-plain s (Some t) h = refl

pub orr-else : (s : SequentTree) (sh : Shape) (found o : Option TermTree) → found ≡ o
    → Reads sh found
    → ((a : Bor Term) (b : Bor Term) → sh ≡ shape.Or a b → ⊥)
    → judged (row.orr_row s o) ≡ Err fault.Shape
unfolding row.orr_row
orr-else s (shape.Or a b) found o e r n = absurd (n a b refl)
orr-else s shape.Other found o e r n = ap judged (orr-plain s o (ap is_plain (sym e) ∙ r))
orr-else s _ found o e r n = ap (λ t. judged (row.orr_row s t)) (sym e ∙ r)

pub orr-there : (s : SequentTree) (found o : Option TermTree) (a : TermTree) (b : TermTree)
    → found ≡ o
    → found ≡ Some (either a b)
    → row.orr_row s o ≡ Some (asking s b ∷ [])
unfolding row.orr_row
orr-there s found o a b e r = ap (row.orr_row s) (sym e ∙ r)

ande-plain : (s : SequentTree) (o : Option TermTree) → is_plain o ≡ true → row.ande_row s o ≡ None
unfolding is_plain row.ande_row
ande-plain s None h = refl
ande-plain s (Some (both a b)) h = no_plain h
ande-plain s (Some t) h = refl

pub ande-else : (s : SequentTree) (sh : Shape) (found o : Option TermTree) → found ≡ o
    → Reads sh found
    → ((a : Bor Term) (b : Bor Term) → sh ≡ shape.And a b → ⊥)
    → judged (row.ande_row s o) ≡ Err fault.Shape
unfolding row.ande_row
ande-else s (shape.And a b) found o e r n = absurd (n a b refl)
ande-else s shape.Other found o e r n = ap judged (ande-plain s o (ap is_plain (sym e) ∙ r))
ande-else s _ found o e r n = ap (λ t. judged (row.ande_row s t)) (sym e ∙ r)

pub ande-there : (s : SequentTree) (found o : Option TermTree) (a : TermTree) (b : TermTree)
    → found ≡ o
    → found ≡ Some (both a b)
    → row.ande_row s o ≡ Some (assuming (assuming s a) b ∷ [])
unfolding row.ande_row
ande-there s found o a b e r = ap (row.ande_row s) (sym e ∙ r)

ore-plain : (s : SequentTree) (o : Option TermTree) → is_plain o ≡ true → row.ore_row s o ≡ None
unfolding is_plain row.ore_row
ore-plain s None h = refl
ore-plain s (Some (either a b)) h = no_plain h
ore-plain s (Some t) h = refl

pub ore-else : (s : SequentTree) (sh : Shape) (found o : Option TermTree) → found ≡ o
    → Reads sh found
    → ((a : Bor Term) (b : Bor Term) → sh ≡ shape.Or a b → ⊥)
    → judged (row.ore_row s o) ≡ Err fault.Shape
unfolding row.ore_row
ore-else s (shape.Or a b) found o e r n = absurd (n a b refl)
ore-else s shape.Other found o e r n = ap judged (ore-plain s o (ap is_plain (sym e) ∙ r))
ore-else s _ found o e r n = ap (λ t. judged (row.ore_row s t)) (sym e ∙ r)

pub ore-there : (s : SequentTree) (found o : Option TermTree) (a : TermTree) (b : TermTree)
    → found ≡ o
    → found ≡ Some (either a b)
    → row.ore_row s o ≡ Some (assuming s a ∷ assuming s b ∷ [])
unfolding row.ore_row
ore-there s found o a b e r = ap (row.ore_row s) (sym e ∙ r)

impe-plain : (s : SequentTree) (o : Option TermTree) → is_plain o ≡ true → row.impe_row s o ≡ None
unfolding is_plain row.impe_row
impe-plain s None h = refl
impe-plain s (Some (implies a b)) h = no_plain h
impe-plain s (Some t) h = refl

pub impe-else : (s : SequentTree) (sh : Shape) (found o : Option TermTree) → found ≡ o
    → Reads sh found
    → ((a : Bor Term) (b : Bor Term) → sh ≡ shape.Implies a b → ⊥)
    → judged (row.impe_row s o) ≡ Err fault.Shape
unfolding row.impe_row
impe-else s (shape.Implies a b) found o e r n = absurd (n a b refl)
impe-else s shape.Other found o e r n = ap judged (impe-plain s o (ap is_plain (sym e) ∙ r))
impe-else s _ found o e r n = ap (λ t. judged (row.impe_row s t)) (sym e ∙ r)

pub impe-there : (s : SequentTree) (found o : Option TermTree) (a : TermTree) (b : TermTree)
    → found ≡ o
    → found ≡ Some (implies a b)
    → row.impe_row s o ≡ Some (asking s a ∷ assuming s b ∷ [])
unfolding row.impe_row
impe-there s found o a b e r = ap (row.impe_row s) (sym e ∙ r)

note-plain : (s : SequentTree) (o : Option TermTree) → is_plain o ≡ true → row.note_row s o ≡ None
unfolding is_plain row.note_row
note-plain s None h = refl
note-plain s (Some (negation a)) h = no_plain h
note-plain s (Some t) h = refl

pub note-else : (s : SequentTree) (sh : Shape) (found o : Option TermTree) → found ≡ o
    → Reads sh found
    → ((a : Bor Term) → sh ≡ shape.Not a → ⊥)
    → judged (row.note_row s o) ≡ Err fault.Shape
unfolding row.note_row
note-else s (shape.Not a) found o e r n = absurd (n a refl)
note-else s shape.Other found o e r n = ap judged (note-plain s o (ap is_plain (sym e) ∙ r))
note-else s _ found o e r n = ap (λ t. judged (row.note_row s t)) (sym e ∙ r)

pub note-there : (s : SequentTree) (found o : Option TermTree) (a : TermTree) → found ≡ o
    → found ≡ Some (negation a)
    → row.note_row s o ≡ Some (asking s a ∷ [])
unfolding row.note_row
note-there s found o a e r = ap (row.note_row s) (sym e ∙ r)

exe-plain : (s : SequentTree) (o : Option TermTree) → is_plain o ≡ true → row.exe_row s o ≡ None
unfolding is_plain row.exe_row
exe-plain s None h = refl
exe-plain s (Some (some x a)) h = no_plain h
exe-plain s (Some t) h = refl

pub exe-else : (s : SequentTree) (sh : Shape) (found o : Option TermTree) → found ≡ o
    → Reads sh found
    → ((x : Sort) (a : Bor Term) → sh ≡ shape.Exists x a → ⊥)
    → judged (row.exe_row s o) ≡ Err fault.Shape
unfolding row.exe_row
exe-else s (shape.Exists x a) found o e r n = absurd (n x a refl)
exe-else s shape.Other found o e r n = ap judged (exe-plain s o (ap is_plain (sym e) ∙ r))
exe-else s _ found o e r n = ap (λ t. judged (row.exe_row s t)) (sym e ∙ r)

pub exe-there : (s : SequentTree) (found o : Option TermTree) (x : Sort) (a : TermTree) → found ≡ o
    → found ≡ Some (some x a)
    → row.exe_row s o ≡ Some (with_variable x (assuming s (opened (new_variable x s) a)) ∷ [])
unfolding row.exe_row
exe-there s found o x a e r = ap (row.exe_row s) (sym e ∙ r)

sym-plain : (s : SequentTree) (o : Option TermTree) → is_plain o ≡ true → row.sym_row s o ≡ None
unfolding is_plain row.sym_row
sym-plain s None h = refl
sym-plain s (Some (equal a b)) h = no_plain h
sym-plain s (Some t) h = refl

pub sym-else : (s : SequentTree) (sh : Shape) (found o : Option TermTree) → found ≡ o
    → Reads sh found
    → ((a : Bor Term) (b : Bor Term) → sh ≡ shape.Equal a b → ⊥)
    → judged (row.sym_row s o) ≡ Err fault.Shape
unfolding row.sym_row
sym-else s (shape.Equal a b) found o e r n = absurd (n a b refl)
sym-else s shape.Other found o e r n = ap judged (sym-plain s o (ap is_plain (sym e) ∙ r))
sym-else s _ found o e r n = ap (λ t. judged (row.sym_row s t)) (sym e ∙ r)

pub sym-there : (s : SequentTree) (found o : Option TermTree) (a : TermTree) (b : TermTree)
    → found ≡ o
    → found ≡ Some (equal a b)
    → row.sym_row s o ≡ Some (asking s (equal b a) ∷ [])
unfolding row.sym_row
sym-there s found o a b e r = ap (row.sym_row s) (sym e ∙ r)

exi-plain : (at : Site) (w : ValArg) (o : Option TermTree) → is_plain o ≡ true
    → row.exi_row at w o ≡ None
unfolding is_plain row.exi_row
exi-plain at w None h = refl
exi-plain at w (Some (some x a)) h = no_plain h
exi-plain at w (Some t) h = refl

pub exi-else : (at : Site) (w : ValArg) (sh : Shape) (found o : Option TermTree) → found ≡ o
    → Reads sh found → ((x : Sort) (a : Bor Term) → sh ≡ shape.Exists x a → ⊥)
    → judged (row.exi_row at w o) ≡ Err fault.Shape
unfolding row.exi_row
exi-else at w (shape.Exists x a) found o e r n = absurd (n x a refl)
exi-else at w shape.Other found o e r n = ap judged (exi-plain at w o (ap is_plain (sym e) ∙ r))
exi-else at w _ found o e r n = ap (λ t. judged (row.exi_row at w t)) (sym e ∙ r)

pub exi-there : (at : Site) (w : ValArg) (found o : Option TermTree) (x : Sort) (a : TermTree)
    (v : Option ArgTree) → found ≡ o → found ≡ Some (some x a) → value_in at x w ≡ v
    → row.exi_row at w o ≡ row.asked_at at a v
unfolding row.exi_row
exi-there at w found o x a v e r q =
    ap (row.exi_row at w) (sym e ∙ r) ∙ ap (row.asked_at at a) q

alle-plain : (at : Site) (w : ValArg) (o : Option TermTree) → is_plain o ≡ true
    → row.alle_row at w o ≡ None
unfolding is_plain row.alle_row
alle-plain at w None h = refl
alle-plain at w (Some (all x a)) h = no_plain h
alle-plain at w (Some t) h = refl

pub alle-else : (at : Site) (w : ValArg) (sh : Shape) (found o : Option TermTree) → found ≡ o
    → Reads sh found → ((x : Sort) (a : Bor Term) → sh ≡ shape.Forall x a → ⊥)
    → judged (row.alle_row at w o) ≡ Err fault.Shape
unfolding row.alle_row
alle-else at w (shape.Forall x a) found o e r n = absurd (n x a refl)
alle-else at w shape.Other found o e r n = ap judged (alle-plain at w o (ap is_plain (sym e) ∙ r))
alle-else at w _ found o e r n = ap (λ t. judged (row.alle_row at w t)) (sym e ∙ r)

pub alle-there : (at : Site) (w : ValArg) (found o : Option TermTree) (x : Sort) (a : TermTree)
    (v : Option ArgTree) → found ≡ o → found ≡ Some (all x a) → value_in at x w ≡ v
    → row.alle_row at w o ≡ row.assumed_at at a v
unfolding row.alle_row
alle-there at w found o x a v e r q =
    ap (row.alle_row at w) (sym e ∙ r) ∙ ap (row.assumed_at at a) q

trans-plain : (s : SequentTree) (w o : Option TermTree) → is_plain o ≡ true
    → row.trans_row s o w ≡ None
unfolding is_plain row.trans_row
trans-plain s w None h = refl
trans-plain s w (Some (equal a b)) h = no_plain h
trans-plain s w (Some t) h = refl

pub trans-else : (s : SequentTree) (w : Option TermTree) (sh : Shape) (found o : Option TermTree)
    → found ≡ o → Reads sh found → ((a : Bor Term) (b : Bor Term) → sh ≡ shape.Equal a b → ⊥)
    → judged (row.trans_row s o w) ≡ Err fault.Shape
unfolding row.trans_row
trans-else s w (shape.Equal a b) found o e r n = absurd (n a b refl)
trans-else s w shape.Other found o e r n = ap judged (trans-plain s w o (ap is_plain (sym e) ∙ r))
trans-else s w _ found o e r n = ap (λ t. judged (row.trans_row s t w)) (sym e ∙ r)

-- without a message between
pub trans-none : (s : SequentTree) (w o : Option TermTree) → None ≡ w
    → judged (row.trans_row s o w) ≡ Err fault.Shape
unfolding row.trans_row
trans-none s w o e = ap (λ q. judged (row.trans_row s o q)) (sym e) ∙ ap judged (go o)
  where
    go : (t : Option TermTree) → row.trans_row s t None ≡ None
    go None = refl
    go (Some (equal a b)) = refl
    go (Some t) = refl

pub trans-there : (s : SequentTree) (w found o : Option TermTree) (a b c : TermTree) → found ≡ o
    → found ≡ Some (equal a b) → Some c ≡ w
    → row.trans_row s o w ≡ Some (asking s (equal a c) ∷ asking s (equal c b) ∷ [])
unfolding row.trans_row
trans-there s w found o a b c e r q =
    ap (λ t. row.trans_row s t w) (sym e ∙ r) ∙ ap (row.trans_row s (Some (equal a b))) (sym q)

arg-plain : (s : SequentTree) (o : Option TermTree) → is_plain o ≡ true → row.arg_row s o ≡ None
unfolding is_plain row.arg_row
arg-plain s None h = refl
arg-plain s (Some (equal a b)) h = no_plain h
arg-plain s (Some t) h = refl

pub arg-else : (s : SequentTree) (sh : Shape) (found o : Option TermTree) → found ≡ o
    → Reads sh found → ((a : Bor Term) (b : Bor Term) → sh ≡ shape.Equal a b → ⊥)
    → judged (row.arg_row s o) ≡ Err fault.Shape
unfolding row.arg_row
arg-else s (shape.Equal a b) found o e r n = absurd (n a b refl)
arg-else s shape.Other found o e r n = ap judged (arg-plain s o (ap is_plain (sym e) ∙ r))
arg-else s _ found o e r n = ap (λ t. judged (row.arg_row s t)) (sym e ∙ r)

pub arg-there : (s : SequentTree) (found o : Option TermTree) (a b : TermTree) → found ≡ o
    → found ≡ Some (equal a b) → row.arg_row s o ≡ row.applications_row s a b
unfolding row.arg_row
arg-there s found o a b e r = ap (row.arg_row s) (sym e ∙ r)

-- ---- equations of one term, timestamp or index

reflexive-plain : (m : Bool) (t : TermTree) → is_plain (Some t) ≡ true
    → row.is_reflexive m t ≡ false
unfolding is_plain row.is_reflexive
reflexive-plain m (equal a b) h = no_plain h
reflexive-plain m (ts_eq a b) h = no_plain h
reflexive-plain m (idx_eq i j) h = no_plain h
reflexive-plain m t h = refl

reads-some : (t u : TermTree) → Some t ≡ Some u → t ≡ u
reads-some t u e = cc

pub reflexive-else : (m : Bool) (sh : Shape) (t : TermTree) → Reads sh (Some t)
    → ((a : Bor Term) (b : Bor Term) → sh ≡ shape.Equal a b → ⊥)
    → ((a : Bor Ts) (b : Bor Ts) → sh ≡ shape.EqualTimes a b → ⊥)
    → ((i : Idx) (j : Idx) → sh ≡ shape.EqualIndices i j → ⊥) → row.is_reflexive m t ≡ false
unfolding row.is_reflexive
reflexive-else m (shape.Equal a b) t r n p q = absurd (n a b refl)
reflexive-else m (shape.EqualTimes a b) t r n p q = absurd (p a b refl)
reflexive-else m (shape.EqualIndices i j) t r n p q = absurd (q i j refl)
reflexive-else m shape.Other t r n p q = reflexive-plain m t r
reflexive-else m _ t r n p q = ap (row.is_reflexive m) (reads-some t _ r)

pub reflexive-there : (m : Bool) (t u : TermTree) → Some t ≡ Some u
    → row.is_reflexive m t ≡ row.is_reflexive m u
reflexive-there m t u r = ap (row.is_reflexive m) (reads-some t u r)

pub ruleset true_rules = (true-else, true-there)

pub ruleset absurd_rules = (absurd-else, absurd-there)

pub ruleset impi_rules = (impi-else, impi-there, gives_one, gives_two)

pub ruleset noti_rules = (noti-else, noti-there, gives_one, gives_two)

pub ruleset alli_rules = (alli-else, alli-there, gives_one, gives_two)

pub ruleset andi_rules = (andi-else, andi-there, gives_one, gives_two)

pub ruleset orl_rules = (orl-else, orl-there, gives_one, gives_two)

pub ruleset orr_rules = (orr-else, orr-there, gives_one, gives_two)

pub ruleset ande_rules = (ande-else, ande-there, gives_one, gives_two)

pub ruleset ore_rules = (ore-else, ore-there, gives_one, gives_two)

pub ruleset impe_rules = (impe-else, impe-there, gives_one, gives_two)

pub ruleset note_rules = (note-else, note-there, gives_one, gives_two)

pub ruleset exe_rules = (exe-else, exe-there, gives_one, gives_two)

pub ruleset sym_rules = (sym-else, sym-there, gives_one, gives_two)

pub ruleset exi_rules = (exi-else, exi-there)

pub ruleset alle_rules = (alle-else, alle-there)

pub ruleset trans_rules = (trans-else, trans-none, trans-there)

pub ruleset arg_rules = (arg-else, arg-there)

pub ruleset reflexive_rules = (reflexive-else, reflexive-there)
