-- Where nothing was read, and why.
use Rattle.std.proofs.Common.{◌≡◌, List, [], ◌∷◌, refl, sym, ap, ◌∙◌, subst}
use Rattle.std.specs.Prelude.{Err}
use Rattle.sq_token.specs.declared.kind.Punctuation.{Punctuation}
use Rattle.sq_token.specs.declared.kind.Punctuation.TheVariants as p
use Rattle.sq_token.specs.Sign.{Sign}
use Rattle.sq_ast.specs.declared.formula.Form.{Form}
use Rattle.sq_ast.specs.Tree.{FormulaTree, FormulaTrees, more}
use Rattle.sq_ast.specs.Tree as tree
use Rattle.sq_ast.specs.Deep.{Element, token, part}
use Rattle.sq_parse_term.specs.declared.stop.Stop.{Stop}
use Rattle.sq_parse_term.specs.declared.stop.Stop.TheVariants as stop
use Rattle.sq_parse_term.specs.Parse.{Read, deep, none, got, bind, eat, run, marked}
use Rattle.sq_parse_term.specs.Ended.{ended}
use Rattle.sq_parse_term.specs.Reads.{Fails, Eats}

-- a step that hands on what it is told fails as that does
pub fails_by : {X Y : Type 0} (e : Stop) (m : Read X) (n : Read Y) → (m ≡ none → n ≡ none)
    → (m ≡ deep → n ≡ deep) → Fails e m → Fails e n
fails_by stop.None m n f g h = f h
fails_by stop.TooDeep m n f g h = g h
fails_by stop.NoMemory m n f g h = tt

-- a token that is not there
pub not_eaten : (e : Stop) (m : Read (Unit {0})) → Eats (Err e) m → m ≡ none
not_eaten stop.None m h = h
not_eaten stop.TooDeep m h = absurd h
not_eaten stop.NoMemory m h = absurd h

pub fails_bind : {X Y : Type 0} (e : Stop) (m : Read X) (k : X → List Sign → Read Y) → Fails e m
    → Fails e (bind m k)
fails_bind e m k h = fails_by e m (bind m k) (λ f. ap (λ n. bind n k) f)
    (λ f. ap (λ n. bind n k) f) h

module _ (P : Form → List Sign → Read FormulaTree) where
  -- no other symbol begins a term
  pub marked_none : (i : Punctuation) (q : List Sign) → (i ≡ p.OpenParenthesis → ⊥)
      → (i ≡ p.Less → ⊥) → marked P i q ≡ none
  marked_none p.OpenParenthesis q h g = absurd (h refl)
  marked_none p.Less q h g = absurd (g refl)
  marked_none _ q h g = refl

  -- a part with the token behind it
  ended_runs : (s : Sign) (f : Form) (es : List Element) (k : FormulaTrees → FormulaTree)
      (ts : List Sign) → run P (part f ∷ token s ∷ es) k ts
      ≡ bind (ended s (P f ts)) (λ a u. run P es (λ xs. k (more a xs)) u)
  unfolding run ended
  ended_runs s f es k ts = by (P f ts)
    where
      of : (a : FormulaTree) (r : Read (Unit {0}))
          → bind r (λ _ u. run P es (λ xs. k (more a xs)) u)
          ≡ bind (bind r (λ _ u. got a u)) (λ b u. run P es (λ xs. k (more b xs)) u)
      of a deep = refl
      of a none = refl
      of a (got t u) = refl

      by : (m : Read FormulaTree) → bind m
          (λ a q. bind (eat s q) (λ _ u. run P es (λ xs. k (more a xs)) u))
          ≡ bind (bind m (λ a q. bind (eat s q) (λ _ u. got a u)))
          (λ a u. run P es (λ xs. k (more a xs)) u)
      by deep = refl
      by none = refl
      by (got a q) = of a (eat s q)

  pub ended_some : (s : Sign) (f : Form) (es : List Element) (k : FormulaTrees → FormulaTree)
      (ts : List Sign) (a : FormulaTree) (u : List Sign) → ended s (P f ts) ≡ got a u
      → run P (part f ∷ token s ∷ es) k ts ≡ run P es (λ xs. k (more a xs)) u
  ended_some s f es k ts a u e = ended_runs s f es k ts ∙ ap
      (λ m. bind m (λ b v. run P es (λ xs. k (more b xs)) v)) e

  pub ended_fails : (e : Stop) (s : Sign) (f : Form) (es : List Element)
      (k : FormulaTrees → FormulaTree) (ts : List Sign) → Fails e (ended s (P f ts))
      → Fails e (run P (part f ∷ token s ∷ es) k ts)
  ended_fails e s f es k ts h = subst (Fails e) (sym (ended_runs s f es k ts))
      (fails_bind e (ended s (P f ts)) (λ a u. run P es (λ xs. k (more a xs)) u) h)

  pub token_some : (s : Sign) (es : List Element) (k : FormulaTrees → FormulaTree)
      (ts q : List Sign) → eat s ts ≡ got (tt {0}) q → run P (token s ∷ es) k ts ≡ run P es k q
  unfolding run
  token_some s es k ts q e = rw e refl

  pub token_fails : (e : Stop) (s : Sign) (es : List Element) (k : FormulaTrees → FormulaTree)
      (ts : List Sign) → Eats (Err e) (eat s ts) → Fails e (run P (token s ∷ es) k ts)
  unfolding run
  token_fails stop.None s es k ts h = rw h refl
  token_fails stop.TooDeep s es k ts h = absurd h
  token_fails stop.NoMemory s es k ts h = absurd h

  -- the last part
  pub last_some : (f : Form) (k : FormulaTrees → FormulaTree) (ts : List Sign) (a : FormulaTree)
      (q : List Sign) → P f ts ≡ got a q → run P (part f ∷ []) k ts ≡ got (k (more a tree.none)) q
  unfolding run
  last_some f k ts a q e = rw e refl

  pub last_fails : (e : Stop) (f : Form) (k : FormulaTrees → FormulaTree) (ts : List Sign)
      → Fails e (P f ts) → Fails e (run P (part f ∷ []) k ts)
  unfolding run
  last_fails e f k ts h = fails_bind e (P f ts) (λ a q. run P [] (λ xs. k (more a xs)) q) h

  pub all_read : (k : FormulaTrees → FormulaTree) (ts : List Sign)
      → run P [] k ts ≡ got (k tree.none) ts
  unfolding run
  all_read k ts = refl

-- a failure further on is one of the whole
pub fails_from : {Y : Type 0} (e : Stop) (m n : Read Y) → m ≡ n → Fails e n → Fails e m
fails_from e m n g h = subst (Fails e) (sym g) h
