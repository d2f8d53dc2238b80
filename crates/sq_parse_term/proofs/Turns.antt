-- Single tokens as the code sees them, and the loops over lists with commas, a turn at a time.
use Rattle.std.proofs.Common.{◌≡◌, ℕ, zero, suc, ◌-◌, ◌<◌, List, [], ◌∷◌, ◌++◌, map, refl, sym, ap}
use Rattle.std.proofs.Common.{◌∙◌, subst, arith, append_assoc}
use Rattle.std.specs.Prelude.{Result, Ok, Err}
use Rattle.std.specs.Result.{IsErrAnd}
use denote.Ref.{Bor}
use Rattle.sq_token.specs.declared.token.Token.{Token}
use Rattle.sq_token.specs.Sign.{Sign, sign_of, signs}
use Rattle.sq_ast.specs.declared.formula.Form.{Form}
use Rattle.sq_ast.specs.declared.formula.Form.TheVariants as form
use Rattle.sq_ast.specs.declared.formula.Formula.{Formula}
use Rattle.sq_ast.specs.Tree.{FormulaTree, FormulaTrees, name, more}
use Rattle.sq_ast.specs.Tree as tree
use Rattle.sq_ast.specs.View.{trees, formula_tree}
use Rattle.sq_parse_term.specs.declared.stop.Stop.{Stop}
use Rattle.sq_parse_term.specs.Parse.{Read, deep, none, got, bind, eat, comma, listed, named}
use Rattle.sq_parse_term.specs.Parse.{formulas}
use Rattle.sq_parse_term.specs.Reads.{Fails, Reads}
use Rattle.sq_parse_term.proofs.Outcomes.{eat_self, eat_other}
use Rattle.sq_parse_term.proofs.Steps.{fails_by}

module _ (s : Sign) (t : Token) (ts q : List Token) (at : ts ≡ t ∷ q) where
  pub eat_when : sign_of t ≡ s → eat s (signs ts) ≡ got (tt {0}) (signs q)
  eat_when e = ap (λ z. eat s (signs z)) at ∙
      (ap (λ z. eat s (z ∷ signs q)) e ∙ eat_self s (signs q))

  pub eat_unless : (sign_of t ≡ s → ⊥) → eat s (signs ts) ≡ none
  eat_unless h = ap (λ z. eat s (signs z)) at ∙ eat_other s (sign_of t) (signs q) h

-- what was read of a list, with what was read before it
abbrev pub with_front : {X : Type 0} → List X → Read (List X) → Read (List X)
with_front xs m = bind m (λ ys q. got (xs ++ ys) q)

pub front_twice : {X : Type 0} (xs ys : List X) (m : Read (List X))
    → with_front xs (with_front ys m) ≡ with_front (xs ++ ys) m
front_twice xs ys deep = refl
front_twice xs ys none = refl
front_twice xs ys (got zs q) = ap (λ l. got l q) (sym (append_assoc xs ys zs))

pub front_nothing : {X : Type 0} (m : Read (List X)) → with_front [] m ≡ m
front_nothing deep = refl
front_nothing none = refl
front_nothing (got zs q) = refl

fails_front : {X : Type 0} (e : Stop) (xs : List X) (m : Read (List X)) → Fails e m
    → Fails e (with_front xs m)
fails_front e xs m h = fails_by e m (with_front xs m) (λ f. ap (with_front xs) f)
    (λ f. ap (with_front xs) f) h

module _ {X : Type 0} (one : List Sign → Read X) where
  one_none : (n : ℕ) (ts : List Sign) → one ts ≡ none → listed one n ts ≡ none
  unfolding listed
  one_none zero ts e = refl
  one_none (suc n) ts e = rw e refl

  one_last : (n : ℕ) (ts : List Sign) (x : X) (q : List Sign) → 0 < n → one ts ≡ got x q
      → comma q ≡ none → listed one n ts ≡ got (x ∷ []) q
  unfolding listed
  one_last zero ts x q h e f = absurd (omega arith)
  one_last (suc n) ts x q h e f = rw (e, f) refl

  one_next : (n : ℕ) (ts : List Sign) (x : X) (q u : List Sign) → 0 < n → one ts ≡ got x q
      → comma q ≡ got (tt {0}) u → listed one n ts ≡ with_front (x ∷ []) (listed one (n - 1) u)
  unfolding listed
  one_next zero ts x q u h e f = absurd (omega arith)
  one_next (suc n) ts x q u h e f = let less : suc n - 1 ≡ n = omega arith in rw (e, f, less) refl

  one_deep : (n : ℕ) (ts : List Sign) → 0 < n → one ts ≡ deep → listed one n ts ≡ deep
  unfolding listed
  one_deep zero ts h e = absurd (omega arith)
  one_deep (suc n) ts h e = rw e refl

  one_out : (ts : List Sign) → listed one 0 ts ≡ none
  unfolding listed
  one_out ts = refl

  module _ (n : ℕ) (found : List X) (ts : List Sign) (m : Read (List X))
      (before : with_front found (listed one n ts) ≡ m) where
    pub turn_last : 0 < n → (x : X) (q : List Sign) → one ts ≡ got x q → comma q ≡ none
        → m ≡ got (found ++ x ∷ []) q
    turn_last h x q e f = sym before ∙ ap (with_front found) (one_last n ts x q h e f)

    pub turn_next : 0 < n → (x : X) (q u : List Sign) → one ts ≡ got x q → comma q ≡ got (tt {0}) u
        → with_front (found ++ x ∷ []) (listed one (n - 1) u) ≡ m
    turn_next h x q u e f = sym (front_twice found (x ∷ []) (listed one (n - 1) u)) ∙
        (ap (with_front found) (sym (one_next n ts x q u h e f)) ∙ before)

    pub turn_fails : (e : Stop) → 0 < n → Fails e (one ts) → Fails e m
    turn_fails e h f = subst (Fails e) before
        (fails_front e found (listed one n ts)
        (fails_by e (one ts) (listed one n ts) (one_none n ts) (one_deep n ts h) f))

    pub turn_out : n ≡ 0 → m ≡ none
    turn_out e = sym before ∙ ap (with_front found) (ap (λ k. listed one k ts) e ∙ one_out ts)

-- ---- formulas

abbrev pub onto : List FormulaTree → FormulaTrees → FormulaTrees
onto [] ys = ys
onto (x ∷ xs) ys = more x (onto xs ys)

-- the formulas that were read, with those before them
abbrev pub with_trees : List Formula → Read FormulaTrees → Read FormulaTrees
with_trees fs m = bind m (λ ys q. got (onto (map formula_tree fs) ys) q)

onto_push : (fs : List Formula) (a : Formula) (ys : FormulaTrees)
    → onto (map formula_tree (fs ++ a ∷ [])) ys
    ≡ onto (map formula_tree fs) (more (formula_tree a) ys)
onto_push [] a ys = refl
onto_push (f ∷ fs) a ys = ap (λ z. more (formula_tree f) z) (onto_push fs a ys)

onto_none : (ts : List FormulaTree) → onto ts tree.none ≡ trees ts
onto_none [] = refl
onto_none (t ∷ ts) = ap (λ z. more t z) (onto_none ts)

trees_push : (m : Read FormulaTrees) (fs : List Formula) (a : Formula)
    → with_trees fs (bind m (λ xs q. got (more (formula_tree a) xs) q))
    ≡ with_trees (fs ++ a ∷ []) m
trees_push deep fs a = refl
trees_push none fs a = refl
trees_push (got ys q) fs a = ap (λ z. got z q) (sym (onto_push fs a ys))

pub trees_nothing : (m : Read FormulaTrees) → with_trees [] m ≡ m
trees_nothing deep = refl
trees_nothing none = refl
trees_nothing (got ys q) = refl

fails_trees : (e : Stop) (fs : List Formula) (m : Read FormulaTrees) → Fails e m
    → Fails e (with_trees fs m)
fails_trees e fs m h = fails_by e m (with_trees fs m) (λ f. ap (with_trees fs) f)
    (λ f. ap (with_trees fs) f) h

module _ (P : Form → List Sign → Read FormulaTree) where
  formula_none : (n : ℕ) (ts : List Sign) → P form.Formula ts ≡ none → formulas P n ts ≡ none
  unfolding formulas
  formula_none zero ts e = refl
  formula_none (suc n) ts e = rw e refl

  formula_last : (n : ℕ) (ts : List Sign) (x : FormulaTree) (q : List Sign) → 0 < n
      → P form.Formula ts ≡ got x q → comma q ≡ none → formulas P n ts ≡ got (more x tree.none) q
  unfolding formulas
  formula_last zero ts x q h e f = absurd (omega arith)
  formula_last (suc n) ts x q h e f = rw (e, f) refl

  formula_next : (n : ℕ) (ts : List Sign) (x : FormulaTree) (q u : List Sign) → 0 < n
      → P form.Formula ts ≡ got x q → comma q ≡ got (tt {0}) u
      → formulas P n ts ≡ bind (formulas P (n - 1) u) (λ xs v. got (more x xs) v)
  unfolding formulas
  formula_next zero ts x q u h e f = absurd (omega arith)
  formula_next (suc n) ts x q u h e f = let less : suc n - 1 ≡ n = omega arith in
      rw (e, f, less) refl

  formula_deep : (n : ℕ) (ts : List Sign) → 0 < n → P form.Formula ts ≡ deep
      → formulas P n ts ≡ deep
  unfolding formulas
  formula_deep zero ts h e = absurd (omega arith)
  formula_deep (suc n) ts h e = rw e refl

  formula_out : (ts : List Sign) → formulas P 0 ts ≡ none
  unfolding formulas
  formula_out ts = refl

  module _ (n : ℕ) (found : List Formula) (ts : List Sign) (m : Read FormulaTrees)
      (before : with_trees found (formulas P n ts) ≡ m) where
    pub part_last : 0 < n → (x : Formula) (q : List Sign)
        → P form.Formula ts ≡ got (formula_tree x) q → comma q ≡ none
        → m ≡ got (trees (map formula_tree (found ++ x ∷ []))) q
    part_last h x q e f = sym before ∙
        (ap (with_trees found) (formula_last n ts (formula_tree x) q h e f)
        ∙ ap (λ z. got z q) (sym (onto_push found x tree.none) ∙ onto_none
        (map formula_tree (found ++ x ∷ []))))

    pub part_next : 0 < n → (x : Formula) (q u : List Sign)
        → P form.Formula ts ≡ got (formula_tree x) q → comma q ≡ got (tt {0}) u
        → with_trees (found ++ x ∷ []) (formulas P (n - 1) u) ≡ m
    part_next h x q u e f = sym (trees_push (formulas P (n - 1) u) found x) ∙
        (ap (with_trees found) (sym (formula_next n ts (formula_tree x) q u h e f)) ∙ before)

    pub part_fails : (e : Stop) → 0 < n → Fails e (P form.Formula ts) → Fails e m
    part_fails e h f = subst (Fails e) before
        (fails_trees e found (formulas P n ts)
        (fails_by e (P form.Formula ts) (formulas P n ts) (formula_none n ts)
        (formula_deep n ts h) f))

    pub part_out : n ≡ 0 → m ≡ none
    part_out e = sym before ∙ ap (with_trees found) (ap (λ k. formulas P k ts) e ∙ formula_out ts)

-- ---- identifiers as formulas

abbrev pub with_last : FormulaTrees → FormulaTree → FormulaTrees
with_last tree.none t = more t tree.none
with_last (more a xs) t = more a (with_last xs t)

named_push : (ns : List (List ℕ)) (n : List ℕ)
    → named (ns ++ n ∷ []) ≡ with_last (named ns) (name n)
named_push [] n = refl
named_push (m ∷ ns) n = ap (λ z. more (name m) z) (named_push ns n)

trees_last : (fs : List Formula) (f : Formula)
    → trees (map formula_tree (fs ++ f ∷ []))
    ≡ with_last (trees (map formula_tree fs)) (formula_tree f)
trees_last [] f = refl
trees_last (g ∷ fs) f = ap (λ z. more (formula_tree g) z) (trees_last fs f)

-- one more identifier
pub named_turn : (fs : List Formula) (f : Formula) (ns : List (List ℕ)) (n : List ℕ)
    → trees (map formula_tree fs) ≡ named ns → formula_tree f ≡ name n
    → trees (map formula_tree (fs ++ f ∷ [])) ≡ named (ns ++ n ∷ [])
named_turn fs f ns n e h = trees_last fs f ∙ ((λ i. with_last (e i) (h i)) ∙ sym (named_push ns n))

-- what a `?` hands on
pub err_reads : {X Y : Type 0} (view : X → Y) (e : Stop) (r : Result (X × Bor (List Token)) Stop)
    (m : Read Y) → IsErrAnd r (λ f. f ≡ e) → Fails e m → Reads view r m
err_reads view e (Ok x) m h f = absurd h
err_reads view e (Err g) m h f = subst (λ z. Fails z m) (sym h) f

-- an answer further on is one of the whole
pub reads_from : {X Y : Type 0} (view : X → Y) (r : Result (X × Bor (List Token)) Stop)
    (m n : Read Y)
    → m ≡ n → Reads view r n → Reads view r m
reads_from view r m n e h = subst (Reads view r) (sym e) h
