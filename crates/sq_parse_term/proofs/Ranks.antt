-- The loop over the ranks, a turn at a time.
use Rattle.std.proofs.Common.{◌≡◌, ℕ, zero, suc, ◌+◌, ◌<◌, ◌≤◌, Bool, true, false, nat_eq, List}
use Rattle.std.proofs.Common.{refl, sym, ap, ◌∙◌, subst, arith}
use Rattle.std.proofs.lemmas.Bool.Decides.{nat_tests}
use Rattle.sq_token.specs.Sign.{Sign}
use Rattle.sq_ast.specs.declared.formula.Form.{Form}
use Rattle.sq_ast.specs.Tree.{FormulaTree}
use Rattle.sq_parse_term.specs.declared.stop.Stop.{Stop}
use Rattle.sq_parse_term.specs.Parse.{Read, deep, none, got, bind, term, continued, ranked}
use Rattle.sq_parse_term.specs.Reads.{Fails}
use Rattle.sq_parse_term.proofs.Steps.{fails_by}

module _ (P : Form → List Sign → Read FormulaTree) (ts : List Sign) where
  ranked_suc : (l : ℕ) → ranked P (suc l) ts ≡ bind (ranked P l ts) (continued P (suc l))
  unfolding ranked
  ranked_suc l = refl

  -- what a form answers where it reads nothing is the answer of each looser form
  none_above : (m l : ℕ) → l ≤ m → ranked P l ts ≡ none → ranked P m ts ≡ none
  none_above zero l h e = let same : l ≡ zero = omega arith in
      subst (λ k. ranked P k ts ≡ none) same e
  none_above (suc m) l h e = by (nat_eq l (suc m)) refl (λ g. none_above m l g e)
    where
      by : (b : Bool) → nat_eq l (suc m) ≡ b → (l ≤ m → ranked P m ts ≡ none)
          → ranked P (suc m) ts ≡ none
      by true f lower = let same : l ≡ suc m = grind (arith, nat_tests) in
          subst (λ k. ranked P k ts ≡ none) same e
      by false f lower = let less : l ≤ m = grind (arith, nat_tests) in
          ranked_suc m ∙ ap (λ x. bind x (continued P (suc m))) (lower less)

  deep_above : (m l : ℕ) → l ≤ m → ranked P l ts ≡ deep → ranked P m ts ≡ deep
  deep_above zero l h e = let same : l ≡ zero = omega arith in
      subst (λ k. ranked P k ts ≡ deep) same e
  deep_above (suc m) l h e = by (nat_eq l (suc m)) refl (λ g. deep_above m l g e)
    where
      by : (b : Bool) → nat_eq l (suc m) ≡ b → (l ≤ m → ranked P m ts ≡ deep)
          → ranked P (suc m) ts ≡ deep
      by true f lower = let same : l ≡ suc m = grind (arith, nat_tests) in
          subst (λ k. ranked P k ts ≡ deep) same e
      by false f lower = let less : l ≤ m = grind (arith, nat_tests) in
          ranked_suc m ∙ ap (λ x. bind x (continued P (suc m))) (lower less)

  pub fails_above : (e : Stop) (m l : ℕ) → l ≤ m → Fails e (ranked P l ts) → Fails e (ranked P m ts)
  fails_above e m l h f = fails_by e (ranked P l ts) (ranked P m ts) (none_above m l h)
      (deep_above m l h) f

  -- the tightest form is a term
  pub term_got : (a : FormulaTree) (q : List Sign) → term P ts ≡ got a q → ranked P 0 ts ≡ got a q
  unfolding ranked
  term_got a q e = e

  pub term_fails : (e : Stop) (m : ℕ) → Fails e (term P ts) → Fails e (ranked P m ts)
  unfolding ranked
  term_fails e m f = fails_above e m 0 (omega arith) f

  module _ (below : ℕ) (a : FormulaTree) (q : List Sign)
      (before : ranked P below ts ≡ got a q) where
    next : ranked P (below + 1) ts ≡ continued P (below + 1) a q
    next =
        let e : below + 1 ≡ suc below = omega arith in
        ap (λ l. ranked P l ts) e ∙ (ranked_suc below ∙
        (ap (λ x. bind x (continued P (suc below))) before ∙ ap (λ l. continued P l a q)
        (sym e)))

    pub rank_next : (b : FormulaTree) (v : List Sign) → continued P (below + 1) a q ≡ got b v
        → ranked P (below + 1) ts ≡ got b v
    rank_next b v e = next ∙ e

    pub rank_fails : (e : Stop) (m : ℕ) → below < m → Fails e (continued P (below + 1) a q)
        → Fails e (ranked P m ts)
    rank_fails e m h f = fails_above e m (below + 1) (omega arith) (subst (Fails e) (sym next) f)
