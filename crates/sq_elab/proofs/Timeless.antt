-- Formulas of which no node speaks of time, and the places that show it.
use Rattle.std.proofs.Common.{◌≡◌, ℕ, zero, suc, ◌+◌, List, [], ◌∷◌, ◌++◌, length, false}
use Rattle.std.proofs.Common.{refl, sym, ap, ◌∙◌, arith, length-append}
use Rattle.std.proofs.lemmas.Bool.{false≢true}
use Rattle.std.specs.Prelude.{zip}
use Rattle.sq_base.specs.declared.sort.Sort.{Sort}
use Rattle.sq_base.specs.declared.sort.Sort.TheVariants.{Message, Boolean, Index, Timestamp}
use Rattle.sq_ast.specs.declared.formula.Constant.TheVariants.{True, False, Empty, Init}
use Rattle.sq_ast.specs.declared.formula.Unary.TheVariants.{Not, Fst, Snd, OfBool, Happens, Pred}
use Rattle.sq_ast.specs.Tree.{FormulaTree, quantified, binary, group, pair, constant, conditional}
use Rattle.sq_ast.specs.Tree.{find, diff, unary, value, name, apply, FormulaTrees, none, more}
use Rattle.sq_resolve.specs.Places.{Place, places, argument_places, operand_sort, part_sort}
use Rattle.sq_resolve.specs.Places.{index_count}
use Rattle.sq_resolve.specs.Scopes.{Variable, Context, meaning}
use Rattle.sq_resolve.specs.Resolved.{own_sort, group_variables, variables}
use Rattle.sq_resolve.specs.Stops.{bind_timestamp, speaks_of_time, levels, all_levels}

-- no node speaks of time
abbrev mutual
  pub IsTimeless : FormulaTree → Type 0
  IsTimeless (quantified q gs a) = (bind_timestamp gs ≡ false) × IsTimeless a
  IsTimeless (binary o a b) = IsTimeless a × IsTimeless b
  IsTimeless (group a) = IsTimeless a
  IsTimeless (pair a b) = IsTimeless a × IsTimeless b
  IsTimeless (constant True) = Unit {0}
  IsTimeless (constant False) = Unit {0}
  IsTimeless (constant Empty) = Unit {0}
  IsTimeless (constant Init) = ⊥
  IsTimeless (conditional a b d) = IsTimeless a × IsTimeless b × IsTimeless d
  IsTimeless (find ns a b d) = IsTimeless a × IsTimeless b × IsTimeless d
  IsTimeless (diff a b) = IsTimeless a × IsTimeless b
  IsTimeless (unary Not a) = IsTimeless a
  IsTimeless (unary Fst a) = IsTimeless a
  IsTimeless (unary Snd a) = IsTimeless a
  IsTimeless (unary OfBool a) = IsTimeless a
  IsTimeless (unary Happens a) = ⊥
  IsTimeless (unary Pred a) = ⊥
  IsTimeless (value m a) = ⊥
  IsTimeless (name x) = Unit {0}
  IsTimeless (apply x xs) = AreTimeless xs

  pub AreTimeless : FormulaTrees → Type 0
  AreTimeless none = Unit {0}
  AreTimeless (more a xs) = IsTimeless a × AreTimeless xs

-- ---- from the places

abbrev pub AreTimelessPlaces : List Place → Type 0
AreTimelessPlaces [] = Unit {0}
AreTimelessPlaces (p ∷ ps) = (speaks_of_time p.tree ≡ false) × AreTimelessPlaces ps

front : (ps qs : List Place) → AreTimelessPlaces (ps ++ qs) → AreTimelessPlaces ps
front [] qs h = tt
front (p ∷ ps) qs h = (h.0, front ps qs h.1)

back : (ps qs : List Place) → AreTimelessPlaces (ps ++ qs) → AreTimelessPlaces qs
back [] qs h = h
back (p ∷ ps) qs h = back ps qs h.1

parts_two : {A B : Type 0} (ps qs : List Place) → (AreTimelessPlaces ps → A)
    → (AreTimelessPlaces qs → B) → AreTimelessPlaces (ps ++ qs) → A × B
parts_two ps qs f g h = (f (front ps qs h), g (back ps qs h))

parts_three : {A B D : Type 0} (ps qs rs : List Place) → (AreTimelessPlaces ps → A)
    → (AreTimelessPlaces qs → B) → (AreTimelessPlaces rs → D)
    → AreTimelessPlaces (ps ++ (qs ++ rs)) → A × B × D
parts_three ps qs rs f g k h =
    let behind = back ps (qs ++ rs) h in
    (f (front ps (qs ++ rs) h), g (front qs rs behind), k (back qs rs behind))

module _ (c : Context) where
  mutual
    pub timeless : (a : FormulaTree) (bs : List Variable) (want : Sort)
        → AreTimelessPlaces (places c bs want a) → IsTimeless a
    timeless (quantified q gs a) bs want h =
        (h.0, timeless a (bs ++ variables gs) Boolean h.1)
    timeless (binary o a b) bs want h =
        let s = operand_sort o (own_sort c bs a) in
        parts_two (places c bs s a) (places c bs s b) (timeless a bs s) (timeless b bs s) h.1
    timeless (group a) bs want h = timeless a bs want h.1
    timeless (pair a b) bs want h =
        parts_two (places c bs Message a) (places c bs Message b) (timeless a bs Message)
        (timeless b bs Message) h.1
    timeless (constant True) bs want h = tt
    timeless (constant False) bs want h = tt
    timeless (constant Empty) bs want h = tt
    timeless (constant Init) bs want h = false≢true (sym h.0)
    timeless (conditional a b d) bs want h =
        parts_three (places c bs Boolean a) (places c bs Message b) (places c bs Message d)
        (timeless a bs Boolean) (timeless b bs Message) (timeless d bs Message) h.1
    timeless (find ns a b d) bs want h =
        let all = bs ++ group_variables Index ns in
        parts_three (places c all Boolean a) (places c all Message b) (places c bs Message d)
        (timeless a all Boolean) (timeless b all Message) (timeless d bs Message) h.1
    timeless (diff a b) bs want h =
        parts_two (places c bs want a) (places c bs want b) (timeless a bs want)
        (timeless b bs want) h.1
    timeless (unary Not a) bs want h = timeless a bs Boolean h.1
    timeless (unary Fst a) bs want h = timeless a bs Message h.1
    timeless (unary Snd a) bs want h = timeless a bs Message h.1
    timeless (unary OfBool a) bs want h = timeless a bs Boolean h.1
    timeless (unary Happens a) bs want h = false≢true (sym h.0)
    timeless (unary Pred a) bs want h = false≢true (sym h.0)
    timeless (value m a) bs want h = false≢true (sym h.0)
    timeless (name x) bs want h = tt
    timeless (apply x xs) bs want h = arguments xs bs (index_count (meaning c bs x)) h.1

    arguments : (xs : FormulaTrees) (bs : List Variable) (i : ℕ)
        → AreTimelessPlaces (argument_places c bs i xs) → AreTimeless xs
    arguments none bs i h = tt
    arguments (more a xs) bs zero h =
        let first = places c bs Message a in
        let rest = argument_places c bs zero xs in
        (timeless a bs Message (front first rest h), arguments xs bs zero (back first rest h))
    arguments (more a xs) bs (suc i) h =
        let first = places c bs Index a in
        let rest = argument_places c bs i xs in
        (timeless a bs Index (front first rest h), arguments xs bs i (back first rest h))

-- ---- as many places as levels

abbrev AsLong : List Place → List ℕ → Type 0
AsLong ps ls = length ps ≡ length ls

joined : (ps qs : List Place) (ls ms : List ℕ) → AsLong ps ls → AsLong qs ms
    → AsLong (ps ++ qs) (ls ++ ms)
joined ps qs ls ms e f =
    length-append ps qs ∙ ((λ i. e i + f i) ∙ sym (length-append ls ms))

module _ (c : Context) where
  mutual
    pub as_long : (a : FormulaTree) (bs : List Variable) (want : Sort) (d : ℕ)
        → AsLong (places c bs want a) (levels d a)
    as_long (quantified q gs a) bs want d =
        ap suc (as_long a (bs ++ variables gs) Boolean (suc d))
    as_long (binary o a b) bs want d =
        let s = operand_sort o (own_sort c bs a) in
        ap suc
        (joined (places c bs s a) (places c bs s b) (levels (suc d) a)
        (levels (suc d) b)
        (as_long a bs s (suc d)) (as_long b bs s (suc d)))
    as_long (group a) bs want d = ap suc (as_long a bs want (suc d))
    as_long (pair a b) bs want d =
        ap suc
        (joined (places c bs Message a) (places c bs Message b) (levels (suc d) a)
        (levels (suc d) b)
        (as_long a bs Message (suc d)) (as_long b bs Message (suc d)))
    as_long (constant k) bs want d = refl
    as_long (conditional a b e) bs want d =
        ap suc
        (joined (places c bs Boolean a) (places c bs Message b ++ places c bs Message e)
        (levels (suc d) a) (levels (suc d) b ++ levels (suc d) e)
        (as_long a bs Boolean (suc d))
        (joined (places c bs Message b) (places c bs Message e) (levels (suc d) b)
        (levels (suc d) e) (as_long b bs Message (suc d)) (as_long e bs Message (suc d))))
    as_long (find ns a b e) bs want d =
        let more_bs = bs ++ group_variables Index ns in
        ap suc
        (joined (places c more_bs Boolean a) (places c more_bs Message b ++ places c bs Message e)
        (levels (suc d) a) (levels (suc d) b ++ levels (suc d) e)
        (as_long a more_bs Boolean (suc d))
        (joined (places c more_bs Message b) (places c bs Message e) (levels (suc d) b)
        (levels (suc d) e) (as_long b more_bs Message (suc d)) (as_long e bs Message (suc d))))
    as_long (diff a b) bs want d =
        ap suc
        (joined (places c bs want a) (places c bs want b) (levels (suc d) a)
        (levels (suc d) b)
        (as_long a bs want (suc d)) (as_long b bs want (suc d)))
    as_long (unary u a) bs want d = ap suc (as_long a bs (part_sort u) (suc d))
    as_long (value m a) bs want d = ap suc (as_long a bs Timestamp (suc d))
    as_long (name x) bs want d = refl
    as_long (apply x xs) bs want d =
        ap suc (arguments_long xs bs (index_count (meaning c bs x)) (suc d))

    arguments_long : (xs : FormulaTrees) (bs : List Variable) (i d : ℕ)
        → AsLong (argument_places c bs i xs) (all_levels d xs)
    arguments_long none bs i d = refl
    arguments_long (more a xs) bs zero d =
        joined (places c bs Message a) (argument_places c bs zero xs) (levels d a)
        (all_levels d xs) (as_long a bs Message d) (arguments_long xs bs zero d)
    arguments_long (more a xs) bs (suc i) d =
        joined (places c bs Index a) (argument_places c bs i xs) (levels d a) (all_levels d xs)
        (as_long a bs Index d) (arguments_long xs bs i d)

-- ---- from places with levels

abbrev pub AreTimelessPairs : List (Place × ℕ) → Type 0
AreTimelessPairs [] = Unit {0}
AreTimelessPairs (r ∷ rs) = (speaks_of_time r.0.tree ≡ false) × AreTimelessPairs rs

of_pairs : (ps : List Place) (ls : List ℕ) → AsLong ps ls → AreTimelessPairs (zip ps ls)
    → AreTimelessPlaces ps
of_pairs [] ls e h = tt
of_pairs (p ∷ ps) [] e h = absurd (omega (arith, e))
of_pairs (p ∷ ps) (l ∷ ls) e h = (h.0, of_pairs ps ls (omega (arith, e)) h.1)

pub timeless_formula : (c : Context) (bs : List Variable) (want : Sort) (d : ℕ) (a : FormulaTree)
    → AreTimelessPairs (zip (places c bs want a) (levels d a)) → IsTimeless a
timeless_formula c bs want d a h =
    timeless c a bs want
    (of_pairs (places c bs want a) (levels d a) (as_long c a bs want d) h)
