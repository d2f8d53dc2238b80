-- The equations of `ground`, and its inverse.
use Rattle.std.proofs.Common.{◌≡◌, ℕ, List, [], ◌∷◌, map, refl, ap, ◌∙◌, sym, subst}
use Rattle.sq_term.specs.declared.ground.GTerm.{GTerm, ind-GTerm, map-GTerm, roll-GTerm}
use Rattle.sq_term.specs.declared.ground.GTerm.TheOpen.{GTerm-F}
use Rattle.sq_term.specs.declared.ground.GTerm.TheFolds.{fold-roll-GTerm}
use Rattle.sq_term.specs.declared.ground.GTerm.TheVariants as g
use Rattle.sq_term.specs.Symbols.{kind_of, function_number}
use Rattle.sq_term.specs.Ground.{Ground, named, applied, atom, Grounds, none, more, ground_row}
use Rattle.sq_term.specs.Ground.{ground_step, ground, grounds}
use Rattle.sq_term.proofs.KindNumbers.{kind_of-function_number, function_number-kind_of}

pub ground_row-map : (ts : List GTerm) → ground_row (map ground ts) ≡ grounds ts
ground_row-map [] = refl
ground_row-map (t ∷ ts) = ap (more (ground t)) (ground_row-map ts)

pub ground-Name : (n : ℕ) (is : List ℕ) → ground (g.Name n is) ≡ named n is
unfolding ground
ground-Name n is =
    ap ground (sym (g.rolls-Name n is)) ∙ fold-roll-GTerm Ground ground_step (GTerm-F.Name n is)

pub ground-Fun : (f : ℕ) (is : List ℕ) (ts : List GTerm)
    → ground (g.Fun f is ts) ≡ applied (kind_of f) is (grounds ts)
unfolding ground
ground-Fun f is ts =
    ap ground (sym (g.rolls-Fun f is ts))
    ∙ fold-roll-GTerm Ground ground_step (GTerm-F.Fun f is ts)
    ∙ ap (applied (kind_of f) is) (ground_row-map ts)

pub ground-Atom : (k : ℕ) → ground (g.Atom k) ≡ atom k
unfolding ground
ground-Atom k =
    ap ground (sym (g.rolls-Atom k)) ∙ fold-roll-GTerm Ground ground_step (GTerm-F.Atom k)

pub ruleset ground_rules = (ground-Name, ground-Fun, ground-Atom)

abbrev mutual
  pub of_ground : Ground → GTerm
  of_ground (named n is) = g.Name n is
  of_ground (applied f is ts) = g.Fun (function_number f) is (of_grounds ts)
  of_ground (atom k) = g.Atom k

  pub of_grounds : Grounds → List GTerm
  of_grounds none = []
  of_grounds (more t ts) = of_ground t ∷ of_grounds ts

abbrev Tied : Type 0
Tied = (t : GTerm) × (of_ground (ground t) ≡ t)

tied_all : (es : List Tied) → of_grounds (grounds (map (λ e. e.0) es)) ≡ map (λ e. e.0) es
tied_all [] = refl
tied_all (e ∷ es) = let x = e.1 in let y = tied_all es in cc

layer : (y : GTerm-F Tied) → of_ground (ground (roll-GTerm (map-GTerm Tied GTerm (λ e. e.0) y)))
    ≡ roll-GTerm (map-GTerm Tied GTerm (λ e. e.0) y)
layer (GTerm-F.Name n is) = rw (g.rolls-Name, ground-Name)
layer (GTerm-F.Fun f is ts) =
    let n = function_number-kind_of f in let x = tied_all ts in
    rw (g.rolls-Fun, ground-Fun) (λ i. g.Fun (n i) is (x i))
layer (GTerm-F.Atom k) = rw (g.rolls-Atom, ground-Atom)

pub of_ground_of : (t : GTerm) → of_ground (ground t) ≡ t
of_ground_of =
    ind-GTerm (λ t. of_ground (ground t) ≡ t)
    (λ x y is. subst (λ z. of_ground (ground (roll-GTerm z)) ≡ roll-GTerm z) is (layer y))

mutual
  pub ground_of : (t : Ground) → ground (of_ground t) ≡ t
  ground_of (named n is) = ground-Name n is
  ground_of (applied f is ts) =
      ground-Fun (function_number f) is (of_grounds ts)
      ∙ (λ i. applied (kind_of-function_number f i) is (grounds_of ts i))
  ground_of (atom k) = ground-Atom k

  pub grounds_of : (ts : Grounds) → grounds (of_grounds ts) ≡ ts
  grounds_of none = refl
  grounds_of (more t ts) = λ i. more (ground_of t i) (grounds_of ts i)

-- two ground terms are equal where their trees are
pub same_by_ground : (a b : GTerm) → ground a ≡ ground b → a ≡ b
same_by_ground a b e = sym (of_ground_of a) ∙ ap of_ground e ∙ of_ground_of b
