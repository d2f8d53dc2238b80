-- A chain has the tree that the grammar gives to its words, and each chain's words are of the
-- grammar.
use Rattle.std.proofs.Common.{◌≡◌, ℕ, Bool, true, false, if◌then◌else◌, List, [], ◌∷◌, ◌++◌, Option}
use Rattle.std.proofs.Common.{Some}
use Rattle.std.proofs.Common.{None, codes, unwrap_or, refl, sym, ◌∙◌, ap}
use Rattle.std.specs.Str.{bytes_eq}
use Rattle.std.proofs.lemmas.Slice.Eq.{bytes_eq-Decides}
use Rattle.sq_term.specs.Formulas as formula
use Rattle.sq_term.specs.Syntax.{TermTree}
use Rattle.sq_run.specs.declared.formula.Connective.{Connective}
use Rattle.sq_run.specs.declared.formula.Connective.TheVariants.{And, Implies}
use Rattle.sq_run.specs.declared.formula.Chain.{Chain}
use Rattle.sq_run.specs.Formulas.{Declarations, Halves, constant, whole, linked, halves_of}
use Rattle.sq_run.specs.Formulas.{tree_of, function_of, connective_of, one, longer, chain_of}
use Rattle.sq_run.specs.Grammar.{Conj, single, both, Formula, conj, implies, conj_words}
use Rattle.sq_run.specs.Grammar.{formula_words, name_tree, conj_tree, formula_tree}

abbrev pub halves : Chain → Halves
halves c = halves_of c.links c.last

same_chain : (a b : Chain) → Some a ≡ Some b → a ≡ b
same_chain a b e = cc

-- what stands behind the first connective of a chain
pub record Longer (f : Option ℕ) (k : Connective) (o : Option Chain) (c : Chain) : Type 0 where
  pub number : ℕ
  pub rest : Chain
  pub named : f ≡ Some number
  pub later : o ≡ Some rest
  pub parts : halves c ≡ linked number k (halves rest)

pub longer_parts : (f : Option ℕ) (k : Connective) (o : Option Chain) (c : Chain)
    → longer f (Some k) o ≡ Some c → Longer f k o c
longer_parts None k o c e = absurd (cc (e))
longer_parts (Some n) k None c e = absurd (cc (e))
longer_parts (Some n) k (Some r) c e =
    record {
      number = n;
      rest = r;
      named = refl;
      later = refl;
      parts = ap halves
          (sym (same_chain
          (record { links = record { function = n; connective = k } ∷ r.links; last = r.last })
          c e));
    }

one_halves : (f : Option ℕ) (c : Chain) → one f ≡ Some c
    → halves c ≡ record { front = constant (unwrap_or f 0); back = None }
one_halves None c e = absurd (cc (e))
one_halves (Some n) c e = ap halves (sym (same_chain (record { links = []; last = n }) c e))

module _ (table : Declarations) where
  named_tree : (x : List ℕ) (n : ℕ) → function_of table x ≡ Some n → constant n ≡ name_tree table x
  named_tree x n e = ap (λ (f : Option ℕ). constant (unwrap_or f 0)) (sym e)

  conj_halves : (c : Conj) (chain : Chain) → chain_of table (conj_words c) ≡ Some chain
      → halves chain ≡ record { front = conj_tree table c; back = None }
  conj_halves (single x) chain e = one_halves (function_of table x) chain e
  conj_halves (both x c) chain e =
      let p = longer_parts (function_of table x) And (chain_of table (conj_words c)) chain e in
      p.parts ∙ ap (linked p.number And) (conj_halves c p.rest p.later)
      ∙ ap (λ (t : TermTree). record { front = formula.both t (conj_tree table c); back = None })
      (named_tree x p.number p.named)

  -- a conjunction in front of `=>`
  record Front (c : Conj) (f : Formula) (chain : Chain) : Type 0 where
    rest : Chain
    later : chain_of table (formula_words f) ≡ Some rest
    parts : halves chain ≡ record { front = conj_tree table c; back = Some (tree_of rest) }

  front_parts : (c : Conj) (f : Formula) (chain : Chain)
      → chain_of table (conj_words c ++ codes "=>" ∷ formula_words f) ≡ Some chain → Front c f chain
  front_parts (single x) f chain e =
      let p = longer_parts (function_of table x) Implies
      (chain_of table (formula_words f)) chain e in
      record {
        rest = p.rest;
        later = p.later;
        parts = p.parts
            ∙ ap (λ (t : TermTree). record { front = t; back = Some (tree_of p.rest) })
            (named_tree x p.number p.named);
      }
  front_parts (both x c) f chain e =
      let p = longer_parts (function_of table x) And
      (chain_of table (conj_words c ++ codes "=>" ∷ formula_words f)) chain e in
      let q = front_parts c f p.rest p.later in
      record {
        rest = q.rest;
        later = q.later;
        parts = p.parts ∙ ap (linked p.number And) q.parts
            ∙ ap (λ (t : TermTree). record {
              front = formula.both t (conj_tree table c);
              back = Some
                  (tree_of q.rest);
            }) (named_tree x p.number p.named);
      }

  pub tree_of-words : (f : Formula) (chain : Chain) → chain_of table (formula_words f) ≡ Some chain
      → tree_of chain ≡ formula_tree table f
  tree_of-words (conj c) chain e = ap whole (conj_halves c chain e)
  tree_of-words (implies c f) chain e =
      let p = front_parts c f chain e in
      ap whole p.parts ∙ ap (formula.implies (conj_tree table c)) (tree_of-words f p.rest p.later)

  -- a word in front of a formula
  with_and : List ℕ → Formula → Formula
  with_and x (conj c) = conj (both x c)
  with_and x (implies c f) = implies (both x c) f

  with_and-words : (x : List ℕ) (f : Formula)
      → formula_words (with_and x f) ≡ x ∷ codes "&&" ∷ formula_words f
  unfolding with_and
  with_and-words x (conj c) = refl
  with_and-words x (implies c f) = refl

  abbrev Spelled : List (List ℕ) → Type 0
  Spelled words = (f : Formula) × (formula_words f ≡ words)

  signed : (x sign : List ℕ) (words : List (List ℕ)) (k : Connective) → connective_of sign ≡ Some k
      → Spelled words → Spelled (x ∷ sign ∷ words)
  signed x sign words k e s = first (bytes_eq sign (codes "&&")) refl e
    where
      second : (b : Bool) → bytes_eq sign (codes "=>") ≡ b → (if b then Some Implies else None)
          ≡ Some k
          → Spelled (x ∷ sign ∷ words)
      second true t h = let is = (bytes_eq-Decides sign (codes "=>")).0 t in
          (implies (single x) s.0, λ i. x ∷ sym is i ∷ s.1 i)
      second false t h = absurd (cc (h))

      first : (b : Bool) → bytes_eq sign (codes "&&") ≡ b
          → (if b then Some And else if bytes_eq sign (codes "=>") then Some Implies else None)
          ≡ Some k
          → Spelled (x ∷ sign ∷ words)
      first true t h = let is = (bytes_eq-Decides sign (codes "&&")).0 t in
          (with_and x s.0, with_and-words x s.0 ∙ (λ i. x ∷ sym is i ∷ s.1 i))
      first false t h = second (bytes_eq sign (codes "=>")) refl h

  pub chain_of-spelled : (words : List (List ℕ)) (chain : Chain) → chain_of table words ≡ Some chain
      → (f : Formula) × (formula_words f ≡ words)
  chain_of-spelled [] chain e = absurd (cc (e))
  chain_of-spelled (x ∷ []) chain e = (conj (single x), refl)
  chain_of-spelled (x ∷ sign ∷ words) chain e =
      split (connective_of sign) refl (chain_of-spelled words) e
    where
      split : (k : Option Connective) → connective_of sign ≡ k
          → ((c : Chain) → chain_of table words ≡ Some c → Spelled words)
          → longer (function_of table x) k (chain_of table words) ≡ Some chain
          → Spelled (x ∷ sign ∷ words)
      split None is later h = absurd (no_sign (function_of table x) (chain_of table words) chain h)
        where
          no_sign : (f : Option ℕ) (o : Option Chain) (c : Chain) → longer f None o ≡ Some c → ⊥
          no_sign None o c h = cc (h)
          no_sign (Some n) o c h = cc (h)
      split (Some k) is later h = let p =
          longer_parts (function_of table x) k (chain_of table words) chain h in
          signed x sign words k is (later p.rest p.later)
