-- Scopes in which the printed form of a term is read back.
use Rattle.std.specs.Prelude.{◌≡◌, ◌+◌, ◌<◌, ℕ, suc, ⊤, List, [], ◌++◌, length, map, Some}
use Rattle.std.specs.Prelude.{None, unwrap_or, slice_get, true}
use Rattle.sq_base.specs.declared.sort.Sort.{Sort}
use Rattle.sq_sym.specs.declared.symbol.Symbol.{Symbol}
use Rattle.sq_sym.specs.declared.symbol.Symbol.TheVariants as symbol
use Rattle.sq_sym.specs.Declarations.{found, NamesDiffer}
use Rattle.sq_term.specs.declared.action.Action.{Action}
use Rattle.sq_term.specs.declared.builtin.Builtin.{Builtin}
use Rattle.sq_term.specs.Builtins.{builtin_kind}
use Rattle.sq_term.specs.Symbols as kind
use Rattle.sq_term.specs.Symbols.{Kind, declared, declared_number, function_number}
use Rattle.sq_term.specs.Syntax.{TsTree, pred, action, TermTree, name, fun, macro, schema, diff}
use Rattle.sq_term.specs.Syntax.{le, ts_eq, idx_eq, happens, all, some, find, TermTrees, nil, cons}
use Rattle.sq_typing.specs.Functions.{builtin_functions, is_value_sort}
use Rattle.sq_typing.specs.Typing.{Signature, has_sort}
use Rattle.sq_print.specs.Names.{Names, names_count}
use Rattle.sq_sym.specs.Candidates.{candidate_count}
use Rattle.sq_resolve.specs.Scopes.{Context}
use Rattle.sq_token.specs.Sign.{Sign}
use Rattle.sq_ast.specs.declared.formula.Form.TheVariants.{Formula}
use Rattle.sq_ast.specs.Tree.{FormulaTree}
use Rattle.sq_ast.specs.Grammar.{Is}
use Rattle.sq_resolve.specs.Typed.{IsTerm}
use Rattle.sq_printed.specs.Reads.{IsRead, AreIdentifiers}

-- the names that the scope's terms are printed with
abbrev pub names_of : Context → Names
names_of c =
    record { schemas = c.schemas; vars = map (λ v. v.0) c.vars; system = c.system; table = c.table }

-- the actions of the scope's system
abbrev pub own_actions : Context → List Action
own_actions c = unwrap_or (slice_get c.systems c.system) []

-- what a term of the scope may speak of
abbrev pub signature : Context → Signature
signature c =
    record {
      names = c.names;
      funs = c.funs;
      actions = map (λ a. a.arity)
          (own_actions c);
      schemas = length c.schemas;
      vars = map (λ v. v.1) c.vars;
    }

-- the table has a declaration of the symbol
abbrev pub Declares : List (List ℕ × Symbol) → Symbol → Type 0
Declares table s = (k : ℕ) × ((x : List ℕ) × (slice_get table k ≡ Some (x, s)))

-- the names of all variables, and then of all schema variables
abbrev pub own_names : Context → List (List ℕ)
own_names c = map (λ v. v.0) c.vars ++ c.schemas

-- All names are identifiers, and no name stands for two things or is given another meaning. The
-- built-in functions are written by words and signs of their own.
pub record HasPlainNames (c : Context) : Type 0 where
  pub nothing_given : c.given ≡ []
  pub identifiers : AreIdentifiers (own_names c)
  pub declared_identifiers : AreIdentifiers (map (λ d. d.0) c.table)
  pub apart : (j k : ℕ) (x : List ℕ) → slice_get (own_names c) j ≡ Some x
      → slice_get (own_names c) k ≡ Some x → j ≡ k
  pub no_symbols : (k : ℕ) (x : List ℕ) → slice_get (own_names c) k ≡ Some x
      → found x c.table ≡ None
  pub declared_once : NamesDiffer c.table
  pub builtin : (b : Builtin) → slice_get c.funs (function_number (builtin_kind b))
      ≡ slice_get builtin_functions (function_number (builtin_kind b))

-- The function is written: a built-in one by a word or signs of its own, but for the attacker's,
-- and a declared one by its name in the table.
abbrev pub HasWord : Context → Kind → Type 0
HasWord c kind.attacker = ⊥
HasWord c (declared k) = Declares c.table (symbol.Fun (declared_number k))
HasWord c f = ⊤

abbrev pub TimeHasWords : Context → TsTree → Type 0
TimeHasWords c (pred t) = TimeHasWords c t
TimeHasWords c (action a is) = Declares c.table (symbol.Action c.system a)
TimeHasWords c _ = ⊤

-- so are all functions, names and actions of the term
abbrev mutual
  pub HasWords : Context → TermTree → Type 0
  HasWords c (name n is) = Declares c.table (symbol.Name n)
  HasWords c (fun f is ts) = HasWord c f × HaveWords c ts
  HasWords c (macro m t) = TimeHasWords c t
  HasWords c (schema k) = ⊤
  HasWords c (diff a b) = HasWords c a × HasWords c b
  HasWords c (le t u) = TimeHasWords c t × TimeHasWords c u
  HasWords c (ts_eq t u) = TimeHasWords c t × TimeHasWords c u
  HasWords c (idx_eq i j) = ⊤
  HasWords c (happens t) = TimeHasWords c t
  HasWords c (all s t) = HasWords c t
  HasWords c (some s t) = HasWords c t
  HasWords c (find n t u v) = HasWords c t × HasWords c u × HasWords c v

  pub HaveWords : Context → TermTrees → Type 0
  HaveWords c nil = ⊤
  HaveWords c (cons t ts) = HasWords c t × HaveWords c ts

-- each find in the term binds an index
abbrev mutual
  pub FindsBind : TermTree → Type 0
  FindsBind (fun f is ts) = AllFindsBind ts
  FindsBind (diff a b) = FindsBind a × FindsBind b
  FindsBind (all s t) = FindsBind t
  FindsBind (some s t) = FindsBind t
  FindsBind (find n t u v) = (0 < n) × FindsBind t × FindsBind u × FindsBind v
  FindsBind _ = ⊤

  pub AllFindsBind : TermTrees → Type 0
  AllFindsBind nil = ⊤
  AllFindsBind (cons t ts) = FindsBind t × AllFindsBind ts

-- how many variables the binders of the term bind
abbrev mutual
  pub binders : TermTree → ℕ
  binders (fun f is ts) = all_binders ts
  binders (diff a b) = binders a + binders b
  binders (all s t) = suc (binders t)
  binders (some s t) = suc (binders t)
  binders (find n t u v) = n + (binders t + (binders u + binders v))
  binders _ = 0

  pub all_binders : TermTrees → ℕ
  all_binders nil = 0
  all_binders (cons t ts) = binders t + all_binders ts

-- What may be read back in the scope: a message or a Boolean whose symbols have words, each of
-- whose finds binds an index.
pub record IsReadable (c : Context) (s : Sort) (t : TermTree) : Type 0 where
  pub plain : HasPlainNames c
  pub value : is_value_sort s ≡ true
  pub sorted : has_sort (signature c) [] s t ≡ true
  pub words : HasWords c t
  pub finds_bind : FindsBind t

-- the scope and the binders of the term have fewer names than there are
abbrev pub HasFewNames : Context → TermTree → Type 0
HasFewNames c t = names_count (names_of c) [] + binders t < candidate_count

-- the text is that of a formula of the grammar, and the sorts give this formula the term
pub record IsReadBack (c : Context) (s : Sort) (text : List ℕ) (t : TermTree) : Type 0 where
  pub tree : FormulaTree
  pub signs : List Sign
  pub read : IsRead text signs
  pub formula : Is Formula tree signs
  pub term : IsTerm c [] s tree t
