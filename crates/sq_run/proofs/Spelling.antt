-- Formulas over declared constants are read, and what is read is a formula over declared constants.
use Rattle.std.proofs.Common.{◌≡◌, ◌≤◌, ℕ, Bool, true, ◌&&◌, List, [], ◌∷◌, ◌++◌, Option, Some}
use Rattle.std.proofs.Common.{None, codes, refl, sym, ◌∙◌, ap, nat_le}
use Rattle.std.proofs.lemmas.Bool.{and_parts}
use Rattle.std.specs.List.{list_all}
use Rattle.std.proofs.lemmas.List.Folds.{list_all-append}
use Rattle.std.proofs.lemmas.Bool.{leb-true, le-leb}
use Rattle.sq_term.specs.Syntax.{TermTree}
use Rattle.sq_term.specs.Measure.{depth}
use Rattle.sq_run.specs.declared.formula.Connective.TheVariants.{And, Implies}
use Rattle.sq_run.specs.declared.formula.Chain.{Chain}
use Rattle.sq_run.specs.Formulas.{Declarations, most_depth, is_shallow, function_of}
use Rattle.sq_run.specs.Formulas.{connective_of, one, longer, chain_of}
use Rattle.sq_run.specs.Grammar.{Conj, single, both, Formula, conj, implies}
use Rattle.sq_run.specs.Grammar.{conj_words, formula_words, formula_tree}
use Rattle.sq_run.specs.Files.{is_among, conj_names, formula_names, claim_table, constants_of}
use Rattle.sq_run.specs.Files.{conj_chain, implied_chain, formula_chain}
use Rattle.sq_run.proofs.Grammars.{longer_parts, tree_of-words}
use Rattle.sq_run.proofs.Names.{function-table, function-named, among-function}

chain_of-same : (t u : Declarations) → ((x : List ℕ) → function_of t x ≡ function_of u x)
    → (words : List (List ℕ)) → chain_of t words ≡ chain_of u words
chain_of-same t u h [] = refl
chain_of-same t u h (x ∷ []) = ap one (h x)
chain_of-same t u h (x ∷ sign ∷ words) =
    λ i. longer (h x i) (connective_of sign) (chain_of-same t u h words i)

-- lemmas are no part of formulas
pub chain_of-table : (constants claims words : List (List ℕ))
    → chain_of (constants_of constants ++ claim_table 0 claims) words
    ≡ chain_of (constants_of constants) words
chain_of-table constants claims =
    chain_of-same (constants_of constants ++ claim_table 0 claims) (constants_of constants)
    (λ x. function-table x constants claims)

some_function : (o : Option ℕ) (chain : Chain) → one o ≡ Some chain → (n : ℕ) × (o ≡ Some n)
some_function None chain e = absurd (cc (e))
some_function (Some n) chain e = (n, refl)

module _ (constants : List (List ℕ)) where
  abbrev table : Declarations
  table = constants_of constants

  abbrev are_declared : List (List ℕ) → Bool
  are_declared names = list_all (λ x. is_among x constants) names

  conj_reads : (c : Conj) → are_declared (conj_names c) ≡ true
      → chain_of table (conj_words c) ≡ Some (conj_chain table c)
  conj_reads (single x) h =
      ap one (function-named x constants (and_parts (is_among x constants) true h).0)
  conj_reads (both x c) h =
      let p = and_parts (is_among x constants) (are_declared (conj_names c)) h in
      λ i. longer (function-named x constants p.0 i) (Some And) (conj_reads c p.1 i)

  front_reads : (c : Conj) (words : List (List ℕ)) (chain : Chain)
      → are_declared (conj_names c) ≡ true → chain_of table words ≡ Some chain
      → chain_of table (conj_words c ++ codes "=>" ∷ words) ≡ Some (implied_chain table c chain)
  front_reads (single x) words chain h e =
      λ i. longer (function-named x constants (and_parts (is_among x constants) true h).0 i)
      (Some Implies) (e i)
  front_reads (both x c) words chain h e =
      let p = and_parts (is_among x constants) (are_declared (conj_names c)) h in
      λ i. longer (function-named x constants p.0 i) (Some And) (front_reads c words chain p.1 e i)

  pub formula_reads : (f : Formula) → are_declared (formula_names f) ≡ true
      → chain_of table (formula_words f) ≡ Some (formula_chain table f)
  formula_reads (conj c) h = conj_reads c h
  formula_reads (implies c f) h =
      let p = and_parts (are_declared (conj_names c)) (are_declared (formula_names f))
      (sym (list_all-append (λ x. is_among x constants) (conj_names c) (formula_names f))
      ∙ h) in
      front_reads c (formula_words f) (formula_chain table f) p.0 (formula_reads f p.1)

  conj_declared : (c : Conj) (chain : Chain) → chain_of table (conj_words c) ≡ Some chain
      → are_declared (conj_names c) ≡ true
  conj_declared (single x) chain e = let n = some_function (function_of table x) chain e in
      λ i. among-function x constants n.0 n.1 i && true
  conj_declared (both x c) chain e =
      let p = longer_parts (function_of table x) And (chain_of table (conj_words c)) chain e in
      λ i. among-function x constants p.number p.named i && conj_declared c p.rest p.later i

  -- the names of what is read, in front of `=>` and behind it
  record Declared (c : Conj) (words : List (List ℕ)) : Type 0 where
    rest : Chain
    later : chain_of table words ≡ Some rest
    front : are_declared (conj_names c) ≡ true

  front_declared : (c : Conj) (words : List (List ℕ)) (chain : Chain)
      → chain_of table (conj_words c ++ codes "=>" ∷ words) ≡ Some chain → Declared c words
  front_declared (single x) words chain e =
      let p = longer_parts (function_of table x) Implies (chain_of table words) chain e in
      record {
        rest = p.rest;
        later = p.later;
        front =
            λ i. among-function x constants p.number p.named i && true;
      }
  front_declared (both x c) words chain e =
      let p = longer_parts (function_of table x) And
      (chain_of table (conj_words c ++ codes "=>" ∷ words)) chain e in
      let q = front_declared c words p.rest p.later in
      record {
        rest = q.rest;
        later = q.later;
        front =
            λ i. among-function x constants p.number p.named i && q.front i;
      }

  pub formula_declared : (f : Formula) (chain : Chain)
      → chain_of table (formula_words f) ≡ Some chain → are_declared (formula_names f) ≡ true
  formula_declared (conj c) chain e = conj_declared c chain e
  formula_declared (implies c f) chain e =
      let p = front_declared c (formula_words f) chain e in
      list_all-append (λ x. is_among x constants) (conj_names c) (formula_names f)
      ∙ (λ i. p.front i && formula_declared f p.rest p.later i)

  pub shallow_reads : (f : Formula) → are_declared (formula_names f) ≡ true
      → depth (formula_tree table f) ≤ most_depth → is_shallow (formula_chain table f) ≡ true
  shallow_reads f h le =
      ap (λ (t : TermTree). nat_le (depth t) most_depth)
      (tree_of-words table f (formula_chain table f) (formula_reads f h))
      ∙ le-leb (depth (formula_tree table f)) most_depth le

  pub formula_shallow : (f : Formula) (chain : Chain)
      → chain_of table (formula_words f) ≡ Some chain → is_shallow chain ≡ true
      → depth (formula_tree table f) ≤ most_depth
  formula_shallow f chain e h =
      leb-true (depth (formula_tree table f)) most_depth
      (ap (λ (t : TermTree). nat_le (depth t) most_depth) (sym (tree_of-words table f chain e)) ∙ h)
