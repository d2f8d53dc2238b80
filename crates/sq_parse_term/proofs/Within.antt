-- A place with no more tokens behind it than nodes may stand around it does not run deep. So no
-- list has two trees.
use Rattle.std.proofs.Common.{◌≡◌, ℕ, zero, suc, ◌<◌, ◌≤◌, Bool, true, false, if◌then◌else◌, nat_eq}
use Rattle.std.proofs.Common.{List}
use Rattle.std.proofs.Common.{[], ◌∷◌, length, Option, Some, None, sym, ap, ◌∙◌, subst, arith}
use Rattle.std.proofs.Common.{length-append, inl, inr}
use Rattle.std.specs.Prelude.{⊤}
use Rattle.std.proofs.lemmas.List.{append-nil}
use Rattle.sq_token.specs.declared.kind.Punctuation.{Punctuation}
use Rattle.sq_token.specs.declared.kind.Punctuation.TheVariants as p
use Rattle.sq_token.specs.Sign.{Sign, word, number, reserved, mark}
use Rattle.sq_ast.specs.declared.formula.Form.{Form}
use Rattle.sq_ast.specs.declared.formula.Form.TheVariants as form
use Rattle.sq_ast.specs.declared.formula.Quantifier.{Quantifier}
use Rattle.sq_ast.specs.declared.formula.Binary.{Binary}
use Rattle.sq_ast.specs.declared.formula.Constant.TheVariants.{Init}
use Rattle.sq_ast.specs.declared.formula.Unary.TheVariants.{Pred}
use Rattle.sq_parse_term.specs.declared.words.Start.{Start}
use Rattle.sq_parse_term.specs.declared.words.Start.TheVariants as start
use Rattle.sq_ast.specs.Tree.{FormulaTree, binary, FormulaTrees, more}
use Rattle.sq_ast.specs.Grammar.{names_spelled, groups_spelled, spelled, rank, binary_rank}
use Rattle.sq_ast.specs.Grammar.{operand_form, Is}
use Rattle.sq_ast.specs.Deep.{Alternative, quantification, grouping, pairing, condition, finding}
use Rattle.sq_ast.specs.Deep.{difference, call, valuation, Element, token, part, elements}
use Rattle.sq_parse_term.specs.Parse.{Read, deep, none, got, bind, recover, eat, comma, identifiers}
use Rattle.sq_parse_term.specs.Parse.{binders, binary_of, start_of, build, run, alternative}
use Rattle.sq_parse_term.specs.Parse.{formulas, arguments, applied, found, quantifying, begun}
use Rattle.sq_parse_term.specs.Parse.{marked, term, joined, continued, ranked, formula_at, formula}
use Rattle.sq_parse_term.specs.Parse.{action, time_at, time, any, parse}
use Rattle.sq_parse_term.proofs.Outcomes.{Holds, Finds, bind_holds, recover_holds, weaken}
use Rattle.sq_parse_term.proofs.Outcomes.{eat_never}
use Rattle.sq_parse_term.proofs.Sound.{identifiers_never, binders_never, action_never}
use Rattle.sq_parse_term.proofs.Complete.{Ahead, parse_finds}

-- not deep, and whatever was read leaves no more than there was
abbrev pub Within : {A : Type 0} → List Sign → Read A → Type 0
Within ts m = Holds ⊥ ⊤ (λ a q. length q ≤ length ts) m

eat_within : (s : Sign) (ts : List Sign) → Within ts (eat s ts)
eat_within s ts = weaken ⊥ ⊤ _ _ (eat s ts) (eat_never s ts) (λ u q e. omega (arith, ap length e))

identifiers_within : (ts : List Sign) → Within ts (identifiers ts)
identifiers_within ts = weaken ⊥ ⊤ _ _ (identifiers ts) (identifiers_never ts)
    (λ ns q h. omega (arith, ap length h.1, length-append (names_spelled ns) q))

binders_within : (ts : List Sign) → Within ts (binders ts)
binders_within ts = weaken ⊥ ⊤ _ _ (binders ts) (binders_never ts)
    (λ gs q h. omega (arith, ap length h.1, length-append (groups_spelled gs) q))

action_within : (n : List ℕ) (ts : List Sign) → Within (word n ∷ ts) (action n ts)
action_within n ts = weaken ⊥ ⊤ _ _ (action n ts) (action_never n ts)
    (λ t q h. omega (arith, ap length h.split, length-append (spelled t) q))

-- a step, and then another
after : {A B : Type 0} (ts : List Sign) (m : Read A) (f : A → List Sign → Read B) → Within ts m
    → ((a : A) (q : List Sign) → length q ≤ length ts → Within ts (f a q)) → Within ts (bind m f)
after ts m f h g = bind_holds ⊥ ⊤ _ _ m f h g

further : {A : Type 0} (ts q : List Sign) (m : Read A) → length q ≤ length ts → Within q m
    → Within ts m
further ts q deep h w = w
further ts q none h w = w
further ts q (got a v) h w = omega arith

module _ (P : Form → List Sign → Read FormulaTree) (d : ℕ)
    (within : (f : Form) (ts : List Sign) → length ts < d → Within ts (P f ts)) where
  run_within : (es : List Element) (k : FormulaTrees → FormulaTree) (ts : List Sign) → length ts < d
      → Within ts (run P es k ts)
  unfolding run
  run_within [] k ts lt = omega arith
  run_within (token s ∷ es) k ts lt = after ts (eat s ts) _ (eat_within s ts)
      (λ u q h. further ts q _ h (run_within es k q (omega arith)))
  run_within (part f ∷ es) k ts lt = after ts (P f ts) _ (within f ts lt)
      (λ a q h. further ts q _ h (run_within es (λ xs. k (more a xs)) q (omega arith)))

  alternative_within : (a : Alternative) (ts : List Sign) → length ts < d
      → Within ts (alternative P a ts)
  alternative_within a ts lt = run_within (elements a) (build a) ts lt

  formulas_within : (m : ℕ) (ts : List Sign) → length ts < d → Within ts (formulas P m ts)
  unfolding formulas
  formulas_within zero ts lt = tt
  formulas_within (suc m) ts lt = after ts (P form.Formula ts) _ (within form.Formula ts lt)
      (λ a q h.
      recover_holds ⊥ ⊤ (λ u v. length v ≤ length ts) _ ⊤ (comma q) _ _
      (further ts q _ h (eat_within (mark p.Comma) q))
      (λ u v i. after ts (formulas P m v) _ (further ts v _ i (formulas_within m v (omega arith)))
      (λ xs y j. j))
      h)

  arguments_within : (ts : List Sign) → length ts < d → Within ts (arguments P ts)
  arguments_within ts lt =
      after ts (eat (mark p.OpenParenthesis) ts) _ (eat_within (mark p.OpenParenthesis) ts)
      (λ u q h.
      after ts (formulas P (suc (length q)) q) _
      (further ts q _ h (formulas_within (suc (length q)) q (omega arith))) (λ xs v i.
      after ts (eat (mark p.CloseParenthesis) v) _
      (further ts v _ i (eat_within (mark p.CloseParenthesis) v)) (λ w y j. j)))

  applied_within : (n : List ℕ) (ts : List Sign) → length ts < d → Within ts (applied P n ts)
  unfolding applied
  applied_within n ts lt = recover_holds ⊥ ⊤ (λ xs q. length q ≤ length ts) _ ⊤
      (arguments P ts) _ _ (arguments_within ts lt) (λ xs q h. h) (omega arith)

  found_within : (ts : List Sign) → length ts < d → Within ts (found P ts)
  unfolding found
  found_within ts lt = after ts (identifiers ts) _ (identifiers_within ts)
      (λ ns q h. further ts q _ h (alternative_within (finding ns) q (omega arith)))

  quantifying_within : (k : Quantifier) (ts : List Sign) → length ts < d
      → Within ts (quantifying P k ts)
  unfolding quantifying
  quantifying_within k ts lt =
      after ts (eat (mark p.OpenParenthesis) ts) _ (eat_within (mark p.OpenParenthesis) ts)
      (λ u q h.
      after ts (binders q) _ (further ts q _ h (binders_within q))
      (λ gs v i. further ts v _ i (alternative_within (quantification k gs) v (omega arith))))

  begun_within : (o : Option Start) (q : List Sign) → length q < d → Within q (begun P o q)
  begun_within None q lt = tt
  begun_within (Some (start.Quantifier k)) q lt = tt
  begun_within (Some (start.Constant c)) q lt = omega arith
  begun_within (Some (start.Unary u)) q lt = alternative_within (call u) q lt
  begun_within (Some (start.Macro m)) q lt = alternative_within (valuation m) q lt
  begun_within (Some start.If) q lt = alternative_within condition q lt
  begun_within (Some start.Find) q lt = found_within q lt
  begun_within (Some start.Diff) q lt = alternative_within difference q lt

  marked_within : (i : Punctuation) (q : List Sign) → length q < d → Within q (marked P i q)
  marked_within p.OpenParenthesis q lt = alternative_within grouping q lt
  marked_within p.Less q lt = alternative_within pairing q lt
  marked_within _ q lt = tt

  term_within : (ts : List Sign) → length ts < suc d → Within ts (term P ts)
  unfolding term
  term_within [] lt = tt
  term_within (word w ∷ q) lt = further (word w ∷ q) q _ (omega arith)
      (applied_within w q (omega arith))
  term_within (number n ∷ q) lt = tt
  term_within (reserved w ∷ q) lt = further (reserved w ∷ q) q _ (omega arith)
      (begun_within (start_of w) q (omega arith))
  term_within (mark i ∷ q) lt = further (mark i ∷ q) q _ (omega arith)
      (marked_within i q (omega arith))

  continued_within : (l : ℕ) (a : FormulaTree) (ts : List Sign) → length ts < suc d
      → Within ts (continued P l a ts)
  unfolding continued
  continued_within l a [] lt = omega arith
  continued_within l a (word w ∷ q) lt = omega arith
  continued_within l a (number n ∷ q) lt = omega arith
  continued_within l a (reserved w ∷ q) lt = omega arith
  continued_within l a (mark i ∷ q) lt = by (binary_of i)
    where
      by_rank : (o : Binary) (b : Bool)
          → Within (mark i ∷ q) (if b then recover (P (operand_form o) q)
          (λ b v. got (binary o a b) v) (got a (mark i ∷ q)) else got a (mark i ∷ q))
      by_rank o true = recover_holds ⊥ ⊤ (λ b v. length v ≤ length q) _ ⊤
          (P (operand_form o) q) _ _ (within (operand_form o) q (omega arith))
          (λ b v h. omega arith) (omega arith)
      by_rank o false = omega arith

      by : (w : Option Binary) → Within (mark i ∷ q) (joined P l a i q w)
      by None = omega arith
      by (Some o) = by_rank o (nat_eq (binary_rank o) l)

  ranked_within : (l : ℕ) (ts : List Sign) → length ts < suc d → Within ts (ranked P l ts)
  unfolding ranked
  ranked_within zero ts lt = term_within ts lt
  ranked_within (suc l) ts lt = after ts (ranked P l ts) _ (ranked_within l ts lt)
      (λ a q h. further ts q _ h (continued_within (suc l) a q (omega arith)))

  formula_within : (ts : List Sign) → length ts < suc d → Within ts (formula P ts)
  unfolding formula
  formula_within [] lt = ranked_within 4 [] lt
  formula_within (word w ∷ q) lt = ranked_within 4 (word w ∷ q) lt
  formula_within (number n ∷ q) lt = ranked_within 4 (number n ∷ q) lt
  formula_within (mark i ∷ q) lt = ranked_within 4 (mark i ∷ q) lt
  formula_within (reserved w ∷ q) lt = by (start_of w)
    where
      by : (o : Option Start) → Within (reserved w ∷ q) (formula_at P w q o)
      by (Some (start.Quantifier k)) = further (reserved w ∷ q) q _ (omega arith)
          (quantifying_within k q (omega arith))
      by _ = ranked_within 4 (reserved w ∷ q) lt

  time_at_within : (o : Option Start) (q : List Sign) → length q < d → Within q (time_at P o q)
  time_at_within (Some (start.Constant Init)) q lt = omega arith
  time_at_within (Some (start.Unary Pred)) q lt = alternative_within (call Pred) q lt
  time_at_within _ q lt = tt

  time_within : (ts : List Sign) → length ts < suc d → Within ts (time P ts)
  unfolding time
  time_within [] lt = tt
  time_within (word w ∷ q) lt = action_within w q
  time_within (number n ∷ q) lt = tt
  time_within (mark i ∷ q) lt = tt
  time_within (reserved w ∷ q) lt = further (reserved w ∷ q) q _ (omega arith)
      (time_at_within (start_of w) q (omega arith))

  any_within : (f : Form) (ts : List Sign) → length ts < suc d → Within ts (any P f ts)
  unfolding any
  any_within form.Time ts lt = time_within ts lt
  any_within form.Term ts lt = ranked_within 0 ts lt
  any_within form.Atom ts lt = ranked_within 1 ts lt
  any_within form.Conj ts lt = ranked_within 2 ts lt
  any_within form.Disj ts lt = ranked_within 3 ts lt
  any_within form.Formula ts lt = formula_within ts lt

pub parse_within : (d : ℕ) (f : Form) (ts : List Sign) → length ts < d → Within ts (parse d f ts)
unfolding parse
parse_within zero f ts lt = absurd (omega arith)
parse_within (suc d) f ts lt = any_within (parse d) d (parse_within d) f ts lt

both : (l : ℕ) (t u : FormulaTree) (ts : List Sign) (m : Read FormulaTree) → Within ts m
    → Finds (Ahead l t []) m → Finds (Ahead l u []) m → t ≡ u
both l t u ts deep w f g = absurd w
both l t u ts none w f g = absurd f
both l t u ts (got a q) w (inl f) (inl g) = sym f.0 ∙ g.0
both l t u ts (got a q) w (inl f) (inr g) = absurd g.1
both l t u ts (got a q) w (inr f) g = absurd f.1

-- as each form, a list of tokens has at most one tree
pub one_tree : (f : Form) (t u : FormulaTree) (ts : List Sign) → Is f t ts → Is f u ts → t ≡ u
one_tree f t u ts h i =
    let d = suc (length ts) in
    let at : (v : FormulaTree) → Is f v ts → Finds (Ahead (rank f) v []) (parse d f ts) = λ v j.
    subst (λ z. Finds (Ahead (rank f) v []) (parse d f z))
    (append-nil (spelled v) ∙ sym j.spelled_is) (parse_finds d f v [] j.form_is j.built) in
    both (rank f) t u ts (parse d f ts) (parse_within d f ts (omega arith)) (at t h) (at u i)
