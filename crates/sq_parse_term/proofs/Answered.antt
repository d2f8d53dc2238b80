-- What the outcome of `parse` says in the grammar's own words.
use Rattle.std.proofs.Common.{◌≡◌, ℕ, suc, ◌+◌, ◌≤◌, ◌<◌, ◌-◌, List, [], ◌++◌, take, drop, length}
use Rattle.std.proofs.Common.{refl, sym, ap, ◌∙◌, subst, arith, length-append, length-drop}
use Rattle.std.proofs.Common.{take-append-drop, length-take-le, Bool, true, false, nat_le, IsTrue}
use Rattle.std.proofs.Common.{true≢false}
use Rattle.std.proofs.Math.Seq.{drop-append-add, drop-append_seam}
use Rattle.std.proofs.lemmas.Bool.Decides.{nat_tests}
use Rattle.std.proofs.lemmas.List.{drop-map, length-map, drop_all}
use Rattle.sq_token.specs.declared.token.Token.{Token}
use Rattle.sq_token.specs.Sign.{Sign, sign_of, signs}
use Rattle.sq_ast.specs.declared.formula.Form.TheVariants.{Formula}
use Rattle.sq_ast.specs.Tree.{FormulaTree}
use Rattle.sq_ast.specs.Grammar.{spelled}
use Rattle.sq_ast.specs.Deep.{height, IsFront, IsLongest, RunsDeep}
use Rattle.sq_parse_term.specs.Parse.{deep, none, got, term, ranked, formula, any, parse}
use Rattle.sq_parse_term.specs.Answers.{IsFormula, HasNone, IsTooDeep, place}
use Rattle.sq_parse_term.proofs.Outcomes.{Tells, Finds}
use Rattle.sq_parse_term.proofs.Sound.{parse_tells}
use Rattle.sq_parse_term.proofs.Complete.{Ahead, parse_finds}
use Rattle.sq_parse_term.proofs.Runs.{Only, IsDeep, longest_of, parse_only, parse_deep}

front_found : (d : ℕ) (ts : List Sign) (u : FormulaTree) (q : List Sign) → IsFront Formula ts u q
    → Finds (Ahead 4 u q) (parse d Formula ts)
front_found d ts u q g = subst (λ z. Finds (Ahead 4 u q) (parse d Formula z)) (sym g.split)
    (parse_finds d Formula u q g.form_is g.built)

pub longest_is : (d : ℕ) (ts : List Sign) (t : FormulaTree) (q : List Sign)
    → parse d Formula ts ≡ got t q → IsLongest Formula ts t q
longest_is d ts t q e = subst (Tells (IsLongest Formula ts)) e
    (longest_of Formula ts (parse d Formula ts) (parse_tells d Formula ts) (front_found d ts))

pub formula_is : (ts : List Sign) (t : FormulaTree) (q : List Sign) → parse 256 Formula ts ≡ got t q
    → height t ≤ 256 → IsFormula ts t q
formula_is ts t q e h =
    record {
      longest = longest_is 256 ts t q e;
      depth = h;
      shallow =
          λ g. subst IsDeep e (parse_deep 256 Formula ts g);
    }

pub none_is : (ts : List Sign) → parse 256 Formula ts ≡ none → HasNone ts
none_is ts e = record {
  none = λ t q g. subst (Finds (Ahead 4 t q)) e (front_found 256 ts t q g);
  shallow = λ g. subst IsDeep e (parse_deep 256 Formula ts g);
}

deep_is : (ts : List Sign) → parse 256 Formula ts ≡ deep → RunsDeep 256 Formula ts
deep_is ts e = subst (Only (RunsDeep 256 Formula ts) _) e (parse_only 256 Formula ts)

pub place_is : (ts : List Sign) → parse 256 Formula ts ≡ deep → IsTooDeep ts
place_is ts h = place (deep_is ts h)

pub over : (n m : ℕ) → (n ≤ m → IsTrue false) → m < n
over n m h = by (nat_le n m) refl
  where
    by : (b : Bool) → nat_le n m ≡ b → m < n
    by true e = let le : n ≤ m = grind (arith, nat_tests) in let never : ⊥ =
        true≢false (sym (h le)) in
        absurd never
    by false e = grind (arith, nat_tests)

-- the end of a list, by its length
drop_to_end : (from : ℕ) (ts xs ys : List Sign) → from ≤ length ts → drop from ts ≡ xs ++ ys
    → drop (length ts - length ys) ts ≡ ys
drop_to_end from ts xs ys le e =
    let total : length ts - length ys
    ≡ from + length xs = omega (arith, ap length e, length-append xs ys, length-drop from ts) in
    let front = length-take-le from ts le in
    ap (λ n. drop n ts) total ∙ ((λ i. drop (sym front i + length xs)
    (sym (take-append-drop from ts) i))
    ∙ (drop-append-add (take from ts) (drop from ts) (length xs) ∙
    (ap (drop (length xs)) e ∙ drop-append_seam xs ys)))

-- the tokens behind what was read, by their place
module _ (from : ℕ) (tokens rest : List Token) (t : FormulaTree) (le : from ≤ length tokens)
    (read : parse 256 Formula (signs (drop from tokens)) ≡ got t (signs rest)) where
  told : IsFront Formula (signs (drop from tokens)) t (signs rest)
  told = subst (Tells (IsFront Formula (signs (drop from tokens)))) read
      (parse_tells 256 Formula (signs (drop from tokens)))

  pub shorter : length rest ≤ length tokens
  shorter = omega (
    arith,
    ap length told.split,
    length-append (spelled t)
        (signs rest),
    length-map rest sign_of,
    length-map
        (drop from tokens) sign_of,
    length-drop from tokens,
  )

  pub rest_is : signs (drop (length tokens - length rest) tokens) ≡ signs rest
  rest_is =
      let all = length-map tokens sign_of in
      let count : length (signs tokens) - length (signs rest)
      ≡ length tokens - length rest = omega (arith, length-map rest sign_of) in
      sym (drop-map sign_of (length tokens - length rest) tokens) ∙
      (ap (λ n. drop n (signs tokens)) (sym count)
      ∙ drop_to_end from (signs tokens) (spelled t) (signs rest) (omega arith)
      (drop-map sign_of from tokens ∙ told.split))

parse_nothing : (d : ℕ) → parse (suc d) Formula [] ≡ none
unfolding parse any formula ranked term
parse_nothing d = refl

-- behind the last token nothing begins
pub nothing_is : (from : ℕ) (tokens : List Token) → length tokens < from
    → HasNone (signs (drop from tokens))
nothing_is from tokens h = none_is (signs (drop from tokens))
    (ap (λ ts. parse 256 Formula (signs ts))
    (drop_all from tokens (omega arith)) ∙ parse_nothing 255)
