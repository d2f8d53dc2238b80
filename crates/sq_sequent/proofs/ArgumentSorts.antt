-- What is asked of the arguments of a function may stand in a local sequent whose goal is an
-- equation of two of its applications.
use Rattle.std.proofs.Common.{◌≡◌, ℕ, suc, List, [], Bool, true, false}
use Rattle.std.specs.Prelude.{if◌then◌else◌}
use Rattle.sq_base.specs.declared.sort.Sort.TheVariants.{Message, Boolean}
use Rattle.sq_term.specs.declared.term.Idx.{Idx}
use Rattle.sq_term.specs.declared.term.Side.{Side}
use Rattle.sq_term.specs.Builtins.{takes_boolean}
use Rattle.sq_term.specs.Lists.{Each}
use Rattle.sq_term.specs.Symbols.{Kind}
use Rattle.sq_term.specs.Syntax.{TermTree, fun, TermTrees, nil, cons}
use Rattle.sq_term.proofs.Members.{each_none, each_cons}
use Rattle.sq_term.proofs.BoolTests.{and_split}
use Rattle.sq_typing.specs.Functions.{are_functions}
use Rattle.sq_typing.specs.Standing.{of_side, suits, may_stand}
use Rattle.sq_typing.specs.Typing.{Signature, argument_sort, has_sort, have_sorts}
use Rattle.sq_typing.proofs.Formulas.{sort-of, suits-of, stands, suit_all, first-suits}
use Rattle.sq_typing.proofs.Formulas.{arguments-suit, equivalent-stands, equal-stands}
use Rattle.sq_typing.proofs.SortLaws.{argument_sorts}
use Rattle.sq_system.specs.Sequents.{SequentTree}
use Rattle.sq_sequent.specs.Premises.{asking}
use Rattle.sq_sequent.specs.Premises.{asked_alike, arguments_asked}

module _ (g : Signature) (ok : are_functions g.funs ≡ true) (side : Side) where
  -- of two Booleans, and of two messages
  alike-stands : (b : Bool) (u v : TermTree)
      → has_sort g [] (if b then Boolean else Message) u ≡ true
      → has_sort g [] (if b then Boolean else Message) v ≡ true → suits (of_side side) u ≡ true
      → suits (of_side side) v ≡ true → may_stand g (of_side side) Boolean (asked_alike b u v)
      ≡ true
  alike-stands true u v h k i j =
      equivalent-stands g ok (of_side side) u v (stands g (of_side side) Boolean u h i)
      (stands g (of_side side) Boolean v k j)
  alike-stands false u v h k i j =
      equal-stands g ok side u v (stands g (of_side side) Message u h i)
      (stands g (of_side side) Message v k j)

  module _ (s : SequentTree) (P : SequentTree → Type 0)
      (holds : (F : TermTree) → may_stand g (of_side side) Boolean F ≡ true → P (asking s F)) where
    all-stand : (f : Kind) (k : ℕ) (us vs : TermTrees) → have_sorts g [] f k us ≡ true
        → have_sorts g [] f k vs ≡ true → suit_all (of_side side) us ≡ true
        → suit_all (of_side side) vs ≡ true → Each P (arguments_asked s f k us vs)
    all-stand f k nil vs h i p q = each_none P
    all-stand f k (cons u us) nil h i p q = each_none P
    all-stand f k (cons u us) (cons v vs) h i p q =
        let a = and_split (has_sort g [] (argument_sort f k) u) (have_sorts g [] f (suc k) us) h in
        let b = and_split (has_sort g [] (argument_sort f k) v) (have_sorts g [] f (suc k) vs) i in
        let c = first-suits (of_side side) u us p in
        let d = first-suits (of_side side) v vs q in
        each_cons (asking s (asked_alike (takes_boolean f k) u v))
        (arguments_asked s f (suc k) us vs) P
        (holds (asked_alike (takes_boolean f k) u v)
        (alike-stands (takes_boolean f k) u v a.0 b.0 c.0 d.0))
        (all-stand f (suc k) us vs a.1 b.1 c.1 d.1)

    pub arguments-stand : (f : Kind) (is : List Idx) (us vs : TermTrees)
        → may_stand g (of_side side) Message (fun f is us) ≡ true
        → may_stand g (of_side side) Message (fun f is vs) ≡ true
        → Each P (arguments_asked s f 0 us vs)
    arguments-stand f is us vs h k =
        all-stand f 0 us vs
        (argument_sorts g [] Message f is us (sort-of g (of_side side) Message (fun f is us) h))
        (argument_sorts g [] Message f is vs (sort-of g (of_side side) Message (fun f is vs) k))
        (arguments-suit (of_side side) f is us (suits-of g (of_side side) Message (fun f is us) h))
        (arguments-suit (of_side side) f is vs (suits-of g (of_side side) Message (fun f is vs) k))
