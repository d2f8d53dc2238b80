-- Equations that hold by themselves, read by their shape.
use Rattle.std.proofs.Common.{◌≡◌, sym, ap, ◌∙◌, Option, Some, None, Bool, true, false, ◌&&◌, Bor}
use Rattle.sq_term.specs.declared.term.Idx.{Idx}
use Rattle.sq_term.specs.declared.term.Term.{Term}
use Rattle.sq_term.specs.declared.term.Ts.{Ts}
use Rattle.sq_term.specs.Formulas.{equal}
use Rattle.sq_term.specs.Syntax.{TsTree, TermTree, ts_eq, idx_eq}
use Rattle.sq_term.specs.TreeEquality.{is_same_tree}
use Rattle.sq_term.specs.TsEquality.{is_same_idx, is_same_ts_tree}
use Rattle.sq_formula.specs.declared.shapes.Shape.{Shape}
use Rattle.sq_formula.specs.declared.shapes.Shape.TheVariants as shape
use Rattle.sq_sequent.specs.Logic.{is_reflexive}
use Rattle.sq_formula.specs.Shapes.{Reads}
use Rattle.sq_sequent.proofs.RowShapes.{reflexive-else}

abbrev reflexive_in : Bool → Option TermTree → Bool
reflexive_in m None = false
reflexive_in m (Some t) = is_reflexive m t

pub messages-there : (m : Bool) (t a b : TermTree) → Some t ≡ Some (equal a b) → m ≡ true
    → is_same_tree a b ≡ is_reflexive m t
unfolding is_reflexive
messages-there m t a b e h = sym (ap (reflexive_in m) e ∙ ap (λ q. q && is_same_tree a b) h)

pub no-messages : (m : Bool) (t a b : TermTree) → Some t ≡ Some (equal a b) → m ≡ false
    → false ≡ is_reflexive m t
unfolding is_reflexive
no-messages m t a b e h = sym (ap (reflexive_in m) e ∙ ap (λ q. q && is_same_tree a b) h)

pub times-there : (m : Bool) (t : TermTree) (a b : TsTree) → Some t ≡ Some (ts_eq a b)
    → is_same_ts_tree a b ≡ is_reflexive m t
unfolding is_reflexive
times-there m t a b e = sym (ap (reflexive_in m) e)

pub indices-there : (m : Bool) (t : TermTree) (i j : Idx) → Some t ≡ Some (idx_eq i j)
    → is_same_idx i j ≡ is_reflexive m t
unfolding is_reflexive
indices-there m t i j e = sym (ap (reflexive_in m) e)

pub no-equation : (m : Bool) (r : Shape) (t : TermTree) → Reads r (Some t)
    → ((a b : Bor Term) → r ≡ shape.Equal a b → ⊥) → ((a b : Bor Ts) → r ≡ shape.EqualTimes a b → ⊥)
    → ((i j : Idx) → r ≡ shape.EqualIndices i j → ⊥) → false ≡ is_reflexive m t
no-equation m r t e n p q = sym (reflexive-else m r t e n p q)

pub ruleset equality_rules = (messages-there, no-messages, times-there, indices-there, no-equation)
