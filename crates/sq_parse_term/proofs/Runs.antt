-- `parse` is deep exactly where the place runs deep.
use Rattle.std.proofs.Common.{◌≡◌, ℕ, zero, suc, ◌<◌, ◌≤◌, Bool, true, false, if◌then◌else◌, nat_eq}
use Rattle.std.proofs.Common.{List}
use Rattle.std.proofs.Common.{[], ◌∷◌, ◌++◌, length, Option, Some, None, refl, sym, ap, ◌∙◌, subst}
use Rattle.std.proofs.Common.{arith, length-append, inl, inr}
use Rattle.std.specs.Prelude.{⊤}
use Rattle.std.proofs.lemmas.Bool.Decides.{nat_tests}
use Rattle.sq_token.specs.declared.kind.Reserved.{Reserved}
use Rattle.sq_token.specs.declared.kind.Reserved.TheVariants as r
use Rattle.sq_token.specs.declared.kind.Punctuation.{Punctuation}
use Rattle.sq_token.specs.declared.kind.Punctuation.TheVariants as p
use Rattle.sq_token.specs.Sign.{Sign, word, number, reserved, mark}
use Rattle.sq_ast.specs.declared.formula.Form.{Form}
use Rattle.sq_ast.specs.declared.formula.Form.TheVariants as form
use Rattle.sq_ast.specs.declared.formula.Quantifier.{Quantifier}
use Rattle.sq_ast.specs.declared.formula.Binary.{Binary}
use Rattle.sq_ast.specs.declared.formula.Constant.TheVariants.{Init}
use Rattle.sq_ast.specs.declared.formula.Unary.TheVariants.{Pred}
use Rattle.sq_parse_term.specs.declared.words.Start.{Start}
use Rattle.sq_parse_term.specs.declared.words.Start.TheVariants as start
use Rattle.sq_ast.specs.Tree.{FormulaTree, binary, name, apply, FormulaTrees, more}
use Rattle.sq_ast.specs.Tree as tree
use Rattle.sq_ast.specs.Grammar.{quantifier_word, binary_mark, groups_spelled, spelled, rank}
use Rattle.sq_ast.specs.Grammar.{binary_rank, left_form, operand_form, HasForm, IsBuilt}
use Rattle.sq_ast.specs.Deep.{IsFront, IsLongest, Alternative, quantification, grouping, pairing}
use Rattle.sq_ast.specs.Deep.{condition, finding, difference, call, valuation, lead, Element, token}
use Rattle.sq_ast.specs.Deep.{part, elements, IsWhole, IsOf, ElementDeep, AlternativeDeep, ListDeep}
use Rattle.sq_ast.specs.Deep.{ArgumentDeep, OperandDeep, RankDeep, FormDeep, RunsDeep}
use Rattle.sq_parse_term.specs.Parse.{Read, deep, none, got, bind, recover, eat, comma, identifiers}
use Rattle.sq_parse_term.specs.Parse.{binders, binary_of, start_of, build, run, alternative}
use Rattle.sq_parse_term.specs.Parse.{formulas, arguments, applied, found, quantifying, begun}
use Rattle.sq_parse_term.specs.Parse.{marked, term, joined, continued, ranked, formula_at, formula}
use Rattle.sq_parse_term.specs.Parse.{action, time_at, time, any, parse}
use Rattle.sq_parse_term.proofs.Outcomes.{Holds, Tells, Finds, bind_holds, recover_holds, weaken}
use Rattle.sq_parse_term.proofs.Outcomes.{and_tells, never_holds, eat_self, eat_never}
use Rattle.sq_parse_term.proofs.Sound.{start_word, start_of_is, alternative_rank, RankFront}
use Rattle.sq_parse_term.proofs.Sound.{left_has, binary_of_is, identifiers_never, binders_never}
use Rattle.sq_parse_term.proofs.Sound.{action_never, ranked_tells, parse_tells}
use Rattle.sq_parse_term.proofs.Again.{binary_of_mark, start_of_word, identifiers_again}
use Rattle.sq_parse_term.proofs.Again.{binders_again, no_comma}
use Rattle.sq_parse_term.proofs.Complete.{goes_on, Ahead, exact, goes_on_mark, left_rank}
use Rattle.sq_parse_term.proofs.Complete.{plain_below, IsClear, alternative_clear, ranked_finds}
use Rattle.sq_parse_term.proofs.Complete.{formula_plain, parse_finds}

-- deep only where D
abbrev pub Only : {A : Type 0} → Type 0 → (A → List Sign → Type 0) → Read A → Type 0
Only D Q m = Holds D ⊤ Q m

pub only_map : {A : Type 0} (D E : Type 0) (Q : A → List Sign → Type 0) (m : Read A) → Only D Q m
    → (D → E) → Only E Q m
only_map D E Q deep h f = f h
only_map D E Q none h f = h
only_map D E Q (got a q) h f = h

-- what is read is the longest, if each front is read, or something longer
pub longest_of : (f : Form) (ts : List Sign) (m : Read FormulaTree) → Tells (IsFront f ts) m
    → ((u : FormulaTree) (v : List Sign) → IsFront f ts u v → Finds (Ahead (rank f) u v) m)
    → Tells (IsLongest f ts) m
longest_of f ts deep t g = tt
longest_of f ts none t g = tt
longest_of f ts (got a q) t g = record { front = t; longest = λ u v h. no_longer u v (g u v h) }
  where
    no_longer : (u : FormulaTree) (v : List Sign) → Ahead (rank f) u v a q → length q ≤ length v
    no_longer u v (inl e) = omega (arith, ap length e.1)
    no_longer u v (inr e) = omega arith

-- as `IsLongest`, by the rank of the form
pub record RankLongest (l : ℕ) (ts : List Sign) (t : FormulaTree) (q : List Sign) : Type 0 where
  pub front : RankFront l ts t q
  pub longest : (u : FormulaTree) (v : List Sign) → RankFront l ts u v → length q ≤ length v

rank_longest_of : (l : ℕ) (ts : List Sign) (m : Read FormulaTree) → Tells (RankFront l ts) m
    → ((u : FormulaTree) (v : List Sign) → RankFront l ts u v → Finds (Ahead l u v) m)
    → Tells (RankLongest l ts) m
rank_longest_of l ts deep t g = tt
rank_longest_of l ts none t g = tt
rank_longest_of l ts (got a q) t g = record {
  front = t;
  longest = λ u v h. no_longer u v
      (g u v h);
}
  where
    no_longer : (u : FormulaTree) (v : List Sign) → Ahead l u v a q → length q ≤ length v
    no_longer u v (inl e) = omega (arith, ap length e.1)
    no_longer u v (inr e) = omega arith

left_longest : (o : Binary) (l : ℕ) (ts : List Sign) (a : FormulaTree) (q : List Sign)
    → binary_rank o ≡ suc l → RankLongest l ts a q → IsLongest (left_form o) ts a q
left_longest o l ts a q e h = record {
  front = record {
    form_is = left_has o a l e h.front.rank_is;
    built = h.front.built;
    split =
        h.front.split;
  };
  longest = λ u v g. h.longest u v (let less = left_rank o u g.form_is in
      record { rank_is = omega arith; built = g.built; split = g.split });
}

module _ (P : Form → List Sign → Read FormulaTree)
    (sound : (f : Form) (ts : List Sign) → Tells (IsFront f ts) (P f ts))
    (complete : (f : Form) (t : FormulaTree) (rest : List Sign) → HasForm f t → IsBuilt t
    → Finds (Ahead (rank f) t rest) (P f (spelled t ++ rest)))
    (R : Form → List Sign → Type 0)
    (deep_is : (f : Form) (ts : List Sign) → Only (R f ts) (λ a q. ⊤) (P f ts)) where
  P_longest : (f : Form) (ts : List Sign) → Only (R f ts) (IsLongest f ts) (P f ts)
  P_longest f ts = weaken (R f ts) ⊤ _ _ (P f ts)
      (and_tells (R f ts) ⊤ (λ a q. ⊤) (IsLongest f ts) (P f ts) (deep_is f ts)
      (longest_of f ts (P f ts) (sound f ts)
      (λ u v g. subst (λ z. Finds (Ahead (rank f) u v) (P f z)) (sym g.split)
      (complete f u v g.form_is g.built))))
      (λ a q h. h.1)

  run_only : (es : List Element) (k : FormulaTrees → FormulaTree) (ts : List Sign)
      → Only (ElementDeep R es ts) (λ a q. ⊤) (run P es k ts)
  unfolding run
  run_only [] k ts = tt
  run_only (token s ∷ es) k ts =
      let D = ElementDeep R (token s ∷ es) ts in
      bind_holds D ⊤ (λ u q. ts ≡ s ∷ q) _ (eat s ts) _
      (never_holds D _ (eat s ts) (eat_never s ts)) (λ u q e.
      only_map (ElementDeep R es q) D _ (run P es k q) (run_only es k q) (λ h. (q, e, h)))
  run_only (part f ∷ es) k ts =
      let D = ElementDeep R (part f ∷ es) ts in
      bind_holds D ⊤ (IsLongest f ts) _ (P f ts) _
      (only_map (R f ts) D _ (P f ts) (P_longest f ts) (λ h. inl h)) (λ a q h.
      only_map (ElementDeep R es q) D _ (run P es (λ xs. k (more a xs)) q)
      (run_only es (λ xs. k (more a xs)) q) (λ g. inr (a, q, h, g)))

  alternative_only : (D : Type 0) (a : Alternative) (q : List Sign)
      → (ElementDeep R (elements a) q → D) → Only D (λ t v. ⊤) (alternative P a q)
  alternative_only D a q f = only_map (ElementDeep R (elements a) q) D _ (alternative P a q)
      (run_only (elements a) (build a) q) f

  formulas_only : (m : ℕ) (ts : List Sign)
      → Only ((xs : FormulaTrees) × ListDeep R xs ts) (λ a q. ⊤) (formulas P m ts)
  unfolding formulas
  formulas_only zero ts = tt
  formulas_only (suc m) ts =
      let D = (xs : FormulaTrees) × ListDeep R xs ts in
      bind_holds D ⊤ (IsLongest form.Formula ts) _ (P form.Formula ts) _
      (only_map (R form.Formula ts) D _ (P form.Formula ts) (P_longest form.Formula ts)
      (λ h. (tree.none, h))) (λ a q h.
      recover_holds D ⊤ (λ u v. q ≡ mark p.Comma ∷ v) _ ⊤ (comma q) _ _
      (never_holds D _ (comma q) (eat_never (mark p.Comma) q))
      (λ u v e. bind_holds D ⊤ (λ a q. ⊤) _ (formulas P m v) _
      (only_map ((xs : FormulaTrees) × ListDeep R xs v) D _ (formulas P m v) (formulas_only m v)
      (λ g. (more a g.0, (v, subst (IsLongest form.Formula ts a) e h, g.1))))
      (λ xs y g. tt))
      tt)

  applied_only : (n : List ℕ) (ts : List Sign)
      → Only (ArgumentDeep R (word n ∷ ts)) (λ a q. ⊤) (applied P n ts)
  unfolding applied
  applied_only n ts =
      let D = ArgumentDeep R (word n ∷ ts) in
      recover_holds D ⊤ (λ a q. ⊤) _ ⊤ (arguments P ts) _ _
      (bind_holds D ⊤ _ _ (eat (mark p.OpenParenthesis) ts) _
      (never_holds D _ (eat (mark p.OpenParenthesis) ts)
      (eat_never (mark p.OpenParenthesis) ts)) (λ u q e.
      bind_holds D ⊤ (λ a q. ⊤) _ (formulas P (suc (length q)) q) _
      (only_map ((xs : FormulaTrees) × ListDeep R xs q) D _ (formulas P (suc (length q)) q)
      (formulas_only (suc (length q)) q)
      (λ g. record {
        function = n;
        before = g.0;
        rest = q;
        split = ap
            (λ z. word n ∷ z) e;
        runs = g.1;
      }))
      (λ xs v h. bind_holds D ⊤ _ _ (eat (mark p.CloseParenthesis) v) _
      (never_holds D _ (eat (mark p.CloseParenthesis) v)
      (eat_never (mark p.CloseParenthesis) v)) (λ w y g. tt))))
      (λ xs q h. tt) tt

  found_only : (ts : List Sign) → Only (AlternativeDeep R form.Term (reserved r.Find ∷ ts))
      (λ a q. ⊤) (found P ts)
  unfolding found
  found_only ts =
      let D = AlternativeDeep R form.Term (reserved r.Find ∷ ts) in
      bind_holds D ⊤ _ _ (identifiers ts) _
      (never_holds D _ (identifiers ts) (identifiers_never ts)) (λ ns q h.
      alternative_only D (finding ns) q
      (λ g. record {
        alternative = finding ns;
        of_form = tt;
        whole = h.0;
        rest = q;
        split = ap
            (λ z. reserved r.Find ∷ z) h.1;
        runs = g;
      }))

  quantifying_only : (k : Quantifier) (ts : List Sign)
      → Only (AlternativeDeep R form.Formula (reserved (quantifier_word k) ∷ ts)) (λ a q. ⊤)
      (quantifying P k ts)
  unfolding quantifying
  quantifying_only k ts =
      let D = AlternativeDeep R form.Formula (reserved (quantifier_word k) ∷ ts) in
      bind_holds D ⊤ _ _ (eat (mark p.OpenParenthesis) ts) _
      (never_holds D _ (eat (mark p.OpenParenthesis) ts)
      (eat_never (mark p.OpenParenthesis) ts)) (λ u q e.
      bind_holds D ⊤ _ _ (binders q) _ (never_holds D _ (binders q) (binders_never q)) (λ gs v h.
      alternative_only D (quantification k gs) v (λ g. record {
        alternative = quantification k gs;
        of_form = tt;
        whole = h.0;
        rest = v;
        split = ap (λ z. reserved (quantifier_word k) ∷ z)
            (e ∙ ap (λ z. mark p.OpenParenthesis ∷ z) h.1);
        runs = g;
      })))

  begun_only : (w : Reserved) (q : List Sign)
      → Only (AlternativeDeep R form.Term (reserved w ∷ q)) (λ a v. ⊤) (begun P (start_of w) q)
  begun_only w q = by (start_of w) refl
    where
      of : (s : Start) → Only (AlternativeDeep R form.Term (reserved (start_word s) ∷ q))
          (λ a v. ⊤) (begun P (Some s) q)
      of (start.Quantifier k) = tt
      of (start.Constant c) = tt
      of (start.Unary u) = alternative_only _ (call u) q
          (λ g. record {
            alternative = call u;
            of_form = tt;
            whole = tt;
            rest = q;
            split =
                refl;
            runs = g;
          })
      of (start.Macro m) = alternative_only _ (valuation m) q
          (λ g. record {
            alternative = valuation m;
            of_form = tt;
            whole = tt;
            rest = q;
            split =
                refl;
            runs = g;
          })
      of start.If = alternative_only _ condition q
          (λ g. record {
            alternative = condition;
            of_form = tt;
            whole = tt;
            rest = q;
            split =
                refl;
            runs = g;
          })
      of start.Find = found_only q
      of start.Diff = alternative_only _ difference q
          (λ g. record {
            alternative = difference;
            of_form = tt;
            whole = tt;
            rest = q;
            split =
                refl;
            runs = g;
          })

      by : (o : Option Start) → start_of w ≡ o
          → Only (AlternativeDeep R form.Term (reserved w ∷ q)) (λ a v. ⊤) (begun P o q)
      by None e = tt
      by (Some s) e = subst (λ z. Only (AlternativeDeep R form.Term (reserved z ∷ q)) (λ a v. ⊤)
          (begun P (Some s) q)) (sym (start_of_is w s e)) (of s)

  marked_only : (i : Punctuation) (q : List Sign)
      → Only (AlternativeDeep R form.Term (mark i ∷ q)) (λ a v. ⊤) (marked P i q)
  marked_only p.OpenParenthesis q = alternative_only _ grouping q
      (λ g. record {
        alternative = grouping;
        of_form = tt;
        whole = tt;
        rest = q;
        split =
            refl;
        runs = g;
      })
  marked_only p.Less q = alternative_only _ pairing q
      (λ g. record {
        alternative = pairing;
        of_form = tt;
        whole = tt;
        rest = q;
        split = refl;
        runs =
            g;
      })
  marked_only _ q = tt

  term_only : (ts : List Sign) → Only (RankDeep R 0 ts) (λ a q. ⊤) (term P ts)
  unfolding term
  term_only [] = tt
  term_only (word w ∷ q) = only_map (ArgumentDeep R (word w ∷ q)) _ _ (applied P w q)
      (applied_only w q) (λ h. inr h)
  term_only (number n ∷ q) = tt
  term_only (reserved w ∷ q) = only_map (AlternativeDeep R form.Term (reserved w ∷ q)) _ _
      (begun P (start_of w) q) (begun_only w q) (λ h. inl h)
  term_only (mark i ∷ q) = only_map (AlternativeDeep R form.Term (mark i ∷ q)) _ _ (marked P i q)
      (marked_only i q) (λ h. inl h)

  continued_only : (l : ℕ) (ts : List Sign) (a : FormulaTree) (q : List Sign) → RankLongest l ts a q
      → Only (OperandDeep R (suc l) ts) (λ a q. ⊤) (continued P (suc l) a q)
  unfolding continued
  continued_only l ts a [] h = tt
  continued_only l ts a (word w ∷ q) h = tt
  continued_only l ts a (number n ∷ q) h = tt
  continued_only l ts a (reserved w ∷ q) h = tt
  continued_only l ts a (mark i ∷ q) h = by (binary_of i) refl
    where
      by_rank : (o : Binary) → binary_of i ≡ Some o → (b : Bool)
          → nat_eq (binary_rank o) (suc l) ≡ b
          → Only (OperandDeep R (suc l) ts) (λ a q. ⊤)
          (if b then recover (P (operand_form o) q) (λ b v. got (binary o a b) v)
          (got a (mark i ∷ q)) else got a (mark i ∷ q))
      by_rank o e true f =
          let D = OperandDeep R (suc l) ts in
          let same_rank : binary_rank o ≡ suc l = grind (arith, nat_tests) in
          recover_holds D ⊤ (λ a q. ⊤) _ ⊤ (P (operand_form o) q) _ _
          (only_map (R (operand_form o) q) D _ (P (operand_form o) q) (deep_is (operand_form o) q)
          (λ g. record {
            left = a;
            operator = o;
            rest = q;
            operator_is = same_rank;
            longest = subst (λ j. IsLongest (left_form o) ts a (mark j ∷ q)) (binary_of_is i o e)
                (left_longest o l ts a (mark i ∷ q) same_rank h);
            runs = g;
          }))
          (λ b v g. tt) tt
      by_rank o e false f = tt

      by : (w : Option Binary) → binary_of i ≡ w
          → Only (OperandDeep R (suc l) ts) (λ a q. ⊤) (joined P (suc l) a i q w)
      by None e = tt
      by (Some o) e = by_rank o e (nat_eq (binary_rank o) (suc l)) refl

  ranked_only : (l : ℕ) (ts : List Sign) → l ≤ 4 → Only (RankDeep R l ts) (λ a q. ⊤) (ranked P l ts)
  unfolding ranked
  ranked_only zero ts m = term_only ts
  ranked_only (suc l) ts m =
      let D = RankDeep R (suc l) ts in
      bind_holds D ⊤ (RankLongest l ts) _ (ranked P l ts) _
      (weaken D ⊤ _ _ (ranked P l ts)
      (and_tells D ⊤ (λ a q. ⊤) (RankLongest l ts) (ranked P l ts)
      (only_map (RankDeep R l ts) D _ (ranked P l ts) (ranked_only l ts (omega arith))
      (λ h. inl h))
      (rank_longest_of l ts (ranked P l ts) (ranked_tells P sound l ts) (λ u v g.
      subst (λ z. Finds (Ahead l u v) (ranked P l z)) (sym g.split)
      (ranked_finds P sound complete l u v (omega arith)
      (plain_below u (omega (arith, g.rank_is))) g.rank_is g.built))))
      (λ a q h. h.1))
      (λ a q h. only_map (OperandDeep R (suc l) ts) D _ (continued P (suc l) a q)
      (continued_only l ts a q h) (λ g. inr g))

  formula_only : (ts : List Sign) → Only (FormDeep R form.Formula ts) (λ a q. ⊤) (formula P ts)
  unfolding formula
  formula_only [] = only_map (RankDeep R 4 []) _ _ (ranked P 4 []) (ranked_only 4 [] (omega arith))
      (λ h. inr h)
  formula_only (word w ∷ q) = only_map (RankDeep R 4 (word w ∷ q)) _ _ (ranked P 4 (word w ∷ q))
      (ranked_only 4 (word w ∷ q) (omega arith)) (λ h. inr h)
  formula_only (number n ∷ q) = only_map (RankDeep R 4 (number n ∷ q)) _ _
      (ranked P 4 (number n ∷ q)) (ranked_only 4 (number n ∷ q) (omega arith)) (λ h. inr h)
  formula_only (mark i ∷ q) = only_map (RankDeep R 4 (mark i ∷ q)) _ _ (ranked P 4 (mark i ∷ q))
      (ranked_only 4 (mark i ∷ q) (omega arith)) (λ h. inr h)
  formula_only (reserved w ∷ q) = by (start_of w) refl
    where
      by : (o : Option Start) → start_of w ≡ o
          → Only (FormDeep R form.Formula (reserved w ∷ q)) (λ a v. ⊤) (formula_at P w q o)
      by (Some (start.Quantifier k)) e = only_map
          (AlternativeDeep R form.Formula (reserved (quantifier_word k) ∷ q)) _ _
          (quantifying P k q) (quantifying_only k q)
          (λ h. inl (subst (λ z. AlternativeDeep R form.Formula (reserved z ∷ q))
          (sym (start_of_is w (start.Quantifier k) e)) h))
      by _ e = only_map (RankDeep R 4 (reserved w ∷ q)) _ _ (ranked P 4 (reserved w ∷ q))
          (ranked_only 4 (reserved w ∷ q) (omega arith)) (λ h. inr h)

  time_only : (ts : List Sign) → Only (AlternativeDeep R form.Time ts) (λ a q. ⊤) (time P ts)
  unfolding time
  time_only [] = tt
  time_only (word w ∷ q) = weaken _ ⊤ _ _ (action w q)
      (never_holds (AlternativeDeep R form.Time (word w ∷ q)) _ (action w q) (action_never w q))
      (λ a v h. tt)
  time_only (number n ∷ q) = tt
  time_only (mark i ∷ q) = tt
  time_only (reserved w ∷ q) = by (start_of w) refl
    where
      of : (s : Start) → Only (AlternativeDeep R form.Time (reserved (start_word s) ∷ q))
          (λ a v. ⊤) (time_at P (Some s) q)
      of (start.Constant Init) = tt
      of (start.Unary Pred) = alternative_only _ (call Pred) q
          (λ g. record {
            alternative = call Pred;
            of_form = tt;
            whole = tt;
            rest = q;
            split =
                refl;
            runs = g;
          })
      of _ = tt

      by : (o : Option Start) → start_of w ≡ o
          → Only (AlternativeDeep R form.Time (reserved w ∷ q)) (λ a v. ⊤) (time_at P o q)
      by None e = tt
      by (Some s) e = subst (λ z. Only (AlternativeDeep R form.Time (reserved z ∷ q)) (λ a v. ⊤)
          (time_at P (Some s) q)) (sym (start_of_is w s e)) (of s)

  any_only : (f : Form) (ts : List Sign) → Only (FormDeep R f ts) (λ a q. ⊤) (any P f ts)
  unfolding any
  any_only form.Time ts = time_only ts
  any_only form.Term ts = ranked_only 0 ts (omega arith)
  any_only form.Atom ts = ranked_only 1 ts (omega arith)
  any_only form.Conj ts = ranked_only 2 ts (omega arith)
  any_only form.Disj ts = ranked_only 3 ts (omega arith)
  any_only form.Formula ts = formula_only ts

pub parse_only : (d : ℕ) (f : Form) (ts : List Sign)
    → Only (RunsDeep d f ts) (λ a q. ⊤) (parse d f ts)
unfolding parse
parse_only zero f ts = tt
parse_only (suc d) f ts = any_only (parse d) (parse_tells d) (parse_finds d) (RunsDeep d)
    (parse_only d) f ts

-- ---- and there it is

abbrev pub IsDeep : {A : Type 0} → Read A → Type 0
IsDeep m = Holds ⊤ ⊥ (λ a q. ⊥) m

pub deep_bind : {A B : Type 0} (m : Read A) (f : A → List Sign → Read B) → IsDeep m
    → IsDeep (bind m f)
deep_bind deep f h = tt
deep_bind none f h = h
deep_bind (got a q) f h = absurd h

pub deep_recover : {A B : Type 0} (m : Read A) (f : A → List Sign → Read B) (e : Read B) → IsDeep m
    → IsDeep (recover m f e)
deep_recover deep f e h = tt
deep_recover none f e h = absurd h
deep_recover (got a q) f e h = absurd h

module _ (P : Form → List Sign → Read FormulaTree)
    (sound : (f : Form) (ts : List Sign) → Tells (IsFront f ts) (P f ts))
    (complete : (f : Form) (t : FormulaTree) (rest : List Sign) → HasForm f t → IsBuilt t
    → Finds (Ahead (rank f) t rest) (P f (spelled t ++ rest)))
    (R : Form → List Sign → Type 0)
    (deep_at : (f : Form) (ts : List Sign) → R f ts → IsDeep (P f ts)) where
  -- behind a longest part, where the next token is not to go on
  passed : {B : Type 0} (f : Form) (ts : List Sign) (a : FormulaTree) (s : Sign) (x : List Sign)
      (k : FormulaTree → List Sign → Read B) → IsFront f ts a (s ∷ x) → rank f < goes_on s
      → IsDeep (k a (s ∷ x)) → IsDeep (bind (P f ts) k)
  passed f ts a s x k h lt g =
      bind_holds ⊤ ⊥ (Ahead (rank f) a (s ∷ x)) _ (P f ts) k
      (subst (λ z. Finds (Ahead (rank f) a (s ∷ x)) (P f z)) (sym h.split)
      (complete f a (s ∷ x) h.form_is h.built))
      (λ u q i. let e = exact (rank f) a s x u q lt i in
      subst IsDeep (λ j. k (sym e.0 j) (sym e.1 j)) g)

  run_deep : (l : ℕ) (es : List Element) (k : FormulaTrees → FormulaTree) (ts : List Sign)
      → IsClear l es → ElementDeep R es ts → IsDeep (run P es k ts)
  unfolding run
  run_deep l [] k ts c h = absurd h
  run_deep l (token s ∷ es) k ts c h = subst (λ z. IsDeep (bind (eat s z) (λ _ q. run P es k q)))
      (sym h.1) (rw (eat_self s h.0) (run_deep l es k h.0 c h.2))
  run_deep l (part f ∷ es) k ts c (inl h) = deep_bind (P f ts) _ (deep_at f ts h)
  run_deep l (part f ∷ []) k ts c (inr h) = absurd h.3
  run_deep l (part f ∷ token s ∷ es) k ts c (inr h) =
      let front : IsFront f ts h.0 (s ∷ h.3.0) = subst (IsFront f ts h.0) h.3.1 h.2.front in
      passed f ts h.0 s h.3.0 (λ u q. run P (token s ∷ es) (λ xs. k (more u xs)) q) front c.0
      (run_deep l (token s ∷ es) (λ xs. k (more h.0 xs)) (s ∷ h.3.0) c.1 (h.3.0, refl, h.3.2))
  run_deep l (part f ∷ part g ∷ es) k ts c (inr h) = absurd c

  alternative_deep : (a : Alternative) (q : List Sign) → ElementDeep R (elements a) q
      → IsDeep (alternative P a q)
  alternative_deep a q h = run_deep (alternative_rank a) (elements a) (build a) q
      (alternative_clear a) h

  pub formulas_deep : (m : ℕ) (xs : FormulaTrees) (ts : List Sign) → length ts < m
      → ListDeep R xs ts → IsDeep (formulas P m ts)
  unfolding formulas
  formulas_deep zero xs ts lt h = absurd (omega arith)
  formulas_deep (suc m) tree.none ts lt h = deep_bind (P form.Formula ts) _
      (deep_at form.Formula ts h)
  formulas_deep (suc m) (more a xs) ts lt h =
      let f = h.1.front in
      let q = h.0 in
      let less : length q < m = omega
      (arith, ap length f.split, length-append (spelled a) (mark p.Comma ∷ q)) in
      passed form.Formula ts a (mark p.Comma) q _ f (omega arith)
      (rw (eat_self (mark p.Comma) q)
      (deep_bind (formulas P m q) (λ xs v. got (more a xs) v) (formulas_deep m xs q less h.2)))

  argument_deep : (ts : List Sign) → ArgumentDeep R ts → IsDeep (term P ts)
  unfolding term applied
  argument_deep ts h = subst (λ z. IsDeep (term P z)) (sym h.split)
      (deep_recover (arguments P (mark p.OpenParenthesis ∷ h.rest)) _ _
      (rw (eat_self (mark p.OpenParenthesis) h.rest)
      (deep_bind (formulas P (suc (length h.rest)) h.rest) _
      (formulas_deep (suc (length h.rest)) h.before h.rest (omega arith) h.runs))))

  -- behind the tokens that tell which alternative of a term it is
  led_deep : (a : Alternative) (q : List Sign) → IsOf form.Term a → IsWhole a
      → ElementDeep R (elements a) q → IsDeep (term P (lead a ++ q))
  unfolding term found start_of
  led_deep (quantification k gs) q o w h = absurd o
  led_deep grouping q o w h = alternative_deep grouping q h
  led_deep pairing q o w h = alternative_deep pairing q h
  led_deep condition q o w h = alternative_deep condition q h
  led_deep (finding ns) q o w h = rw
      (identifiers_again ns q w (ap comma h.1 ∙ no_comma (reserved r.Such) h.0 (λ e. cc)))
      (alternative_deep (finding ns) q h)
  led_deep difference q o w h = alternative_deep difference q h
  led_deep (call u) q o w h = rw (start_of_word (start.Unary u)) (alternative_deep (call u) q h)
  led_deep (valuation m) q o w h = rw (start_of_word (start.Macro m))
      (alternative_deep (valuation m) q h)

  term_deep : (ts : List Sign) → RankDeep R 0 ts → IsDeep (term P ts)
  term_deep ts (inl h) = subst (λ z. IsDeep (term P z)) (sym h.split)
      (led_deep h.alternative h.rest h.of_form h.whole h.runs)
  term_deep ts (inr h) = argument_deep ts h

  operand_deep : (l : ℕ) (ts : List Sign) → l < 4 → OperandDeep R (suc l) ts
      → IsDeep (bind (ranked P l ts) (continued P (suc l)))
  unfolding continued
  operand_deep l ts m h =
      let f = h.longest.front in
      let o = h.operator in
      let next = mark (binary_mark o) ∷ h.rest in
      let at : binary_rank o ≡ suc l = h.operator_is in
      let left = left_rank o h.left f.form_is in
      let here : nat_eq (binary_rank o) (suc l) ≡ true = grind (arith, nat_tests) in
      let end : IsDeep (continued P (suc l) h.left next) = rw (binary_of_mark o, here)
      (deep_recover (P (operand_form o) h.rest) _ _ (deep_at (operand_form o) h.rest h.runs)) in
      bind_holds ⊤ ⊥ (Ahead l h.left next) _ (ranked P l ts) (continued P (suc l))
      (subst (λ z. Finds (Ahead l h.left next) (ranked P l z)) (sym f.split)
      (ranked_finds P sound complete l h.left next (omega arith)
      (plain_below h.left (omega arith)) (omega arith) f.built))
      (λ u q g. let e = exact l h.left (mark (binary_mark o)) h.rest u q
      (omega (arith, goes_on_mark o)) g in
      subst IsDeep (λ j. continued P (suc l) (sym e.0 j) (sym e.1 j)) end)

  ranked_deep : (l : ℕ) (ts : List Sign) → l ≤ 4 → RankDeep R l ts → IsDeep (ranked P l ts)
  unfolding ranked
  ranked_deep zero ts m h = term_deep ts h
  ranked_deep (suc l) ts m (inl h) = deep_bind (ranked P l ts) _ (ranked_deep l ts (omega arith) h)
  ranked_deep (suc l) ts m (inr h) = operand_deep l ts (omega arith) h

  quantified_deep : (a : Alternative) (q : List Sign) → IsOf form.Formula a → IsWhole a
      → ElementDeep R (elements a) q → IsDeep (formula P (lead a ++ q))
  unfolding formula quantifying start_of
  quantified_deep (quantification k gs) q o w h =
      rw (
        start_of_word (start.Quantifier k),
        eat_self (mark p.OpenParenthesis)
            (groups_spelled gs ++ q),
        binders_again gs q w
            (ap comma h.1 ∙ no_comma (mark p.CloseParenthesis) h.0 (λ e. cc)),
      )
      (alternative_deep (quantification k gs) q h)
  quantified_deep _ q o w h = absurd o

  formula_deep : (ts : List Sign) → FormDeep R form.Formula ts → IsDeep (formula P ts)
  formula_deep ts (inl h) = subst (λ z. IsDeep (formula P z)) (sym h.split)
      (quantified_deep h.alternative h.rest h.of_form h.whole h.runs)
  formula_deep ts (inr h) = formula_plain P sound complete (λ a q. ⊥) ts
      (ranked_deep 4 ts (omega arith) h)

  pred_deep : (a : Alternative) (q : List Sign) → IsOf form.Time a → ElementDeep R (elements a) q
      → IsDeep (time P (lead a ++ q))
  unfolding time start_of
  pred_deep (call Pred) q o h = alternative_deep (call Pred) q h
  pred_deep _ q o h = absurd o

  time_deep : (ts : List Sign) → AlternativeDeep R form.Time ts → IsDeep (time P ts)
  time_deep ts h = subst (λ z. IsDeep (time P z)) (sym h.split)
      (pred_deep h.alternative h.rest h.of_form h.runs)

  any_deep : (f : Form) (ts : List Sign) → FormDeep R f ts → IsDeep (any P f ts)
  unfolding any
  any_deep form.Time ts h = time_deep ts h
  any_deep form.Term ts h = ranked_deep 0 ts (omega arith) h
  any_deep form.Atom ts h = ranked_deep 1 ts (omega arith) h
  any_deep form.Conj ts h = ranked_deep 2 ts (omega arith) h
  any_deep form.Disj ts h = ranked_deep 3 ts (omega arith) h
  any_deep form.Formula ts h = formula_deep ts h

pub parse_deep : (d : ℕ) (f : Form) (ts : List Sign) → RunsDeep d f ts → IsDeep (parse d f ts)
unfolding parse
parse_deep zero f ts h = tt
parse_deep (suc d) f ts h = any_deep (parse d) (parse_tells d) (parse_finds d) (RunsDeep d)
    (parse_deep d) f ts h
