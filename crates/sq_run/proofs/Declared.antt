-- What a file of the form declares is an environment.
use Rattle.std.proofs.Common.{◌≡◌, ◌≤◌, ◌+◌, ◌*◌, ℕ, zero, suc, max, Bool, true, false, ◌&&◌}
use Rattle.std.proofs.Common.{if◌then◌else◌, List, [], ◌∷◌, ◌++◌, length, map, replicate, Option}
use Rattle.std.proofs.Common.{Some, None, is_none, option_map, refl, sym, ◌∙◌, ap, subst, arith}
use Rattle.std.proofs.Common.{slice_get, nat_le}
use Rattle.std.proofs.lemmas.Bool.{and_from, and_parts}
use Rattle.std.proofs.lemmas.Bool.Decides.{nat_tests}
use Rattle.std.specs.List.{list_all}
use Rattle.std.specs.Str.{bytes_eq}
use Rattle.sq_token.specs.Kinds.{reserved_of}
use Rattle.std.specs.Option.{option_and_then}
use Rattle.sq_base.specs.declared.sort.Sort.TheVariants.{Boolean}
use Rattle.sq_term.specs.declared.signature.FunDecl.{FunDecl}
use Rattle.sq_term.specs.Measure.{size, depth}
use Rattle.sq_term.specs.Syntax.{TermTree}
use Rattle.sq_token.specs.declared.kind.Reserved.{Reserved}
use Rattle.sq_token.specs.declared.kind.Reserved.TheVariants as reserved
use Rattle.sq_sym.specs.declared.symbol.Symbol.{Symbol}
use Rattle.sq_sym.specs.declared.symbol.Symbol.TheVariants as sym_
use Rattle.sq_sym.specs.Declarations.{found}
use Rattle.sq_term.specs.Formulas as formula
use Rattle.sq_term.proofs.KindNumbers.{function_number-kind_of}
use Rattle.sq_typing.specs.Functions.{any_function, are_declared, are_functions, plain_function}
use Rattle.sq_typing.specs.Functions.{builtin_functions}
use Rattle.sq_typing.specs.Typing.{Signature, has_sort}
use Rattle.sq_term.proofs.Members.{each_single}
use Rattle.sq_system.specs.Facts.{IsSystem, AreShallow}
use Rattle.sq_system.specs.Limits as limits
use Rattle.sq_system.specs.Statements.{no_actions}
use Rattle.sq_system.specs.Scopes.{signature_of}
use Rattle.sq_system.specs.WellFormed.{is_environment, is_statement, are_numbered}
use Rattle.sq_system.specs.WellFormed.{IsEnvironment}
use Rattle.sq_system.proofs.EnvLaws.{environment_of_parts}
use Rattle.sq_run.specs.declared.formula.Connective.{Connective}
use Rattle.sq_run.specs.declared.formula.Connective.TheVariants.{And, Implies}
use Rattle.sq_run.specs.declared.formula.Link.{Link}
use Rattle.sq_run.specs.declared.formula.Chain.{Chain}
use Rattle.sq_run.specs.declared.scan.Sentence.{Sentence}
use Rattle.sq_run.specs.declared.script.Command.{Command}
use Rattle.sq_run.specs.declared.script.Place.{Place}
use Rattle.sq_run.specs.declared.script.Lemma.{Lemma}
use Rattle.sq_run.specs.declared.script.Stage.{Stage}
use Rattle.sq_run.specs.declared.script.Stage.TheVariants.{Outside, Stated, Proving}
use Rattle.sq_run.specs.declared.script.Script.{Script}
use Rattle.sq_run.specs.Formulas.{Declarations, constant, Halves, joined, linked}
use Rattle.sq_run.specs.Formulas.{halves_of, tree_of, most_depth, is_shallow, function_in}
use Rattle.sq_run.specs.Formulas.{function_of, connective_of, one, longer, chain_of}
use Rattle.sq_run.specs.Scripts.{is_sort, is_name, is_before_lemmas, is_outside, is_empty}
use Rattle.sq_run.specs.Scripts.{with_symbol, with_constant, declared_constant, declared}
use Rattle.sq_run.specs.Scripts.{with_stage, stated_chain, stated_formula, stated, begun_at}
use Rattle.sq_run.specs.Scripts.{begun, commanded_at, commanded, ended_at, qed, command_of}
use Rattle.sq_run.specs.Scripts.{after_first, after_words, read_from, start, complete, script_of}
use Rattle.sq_run.specs.Scripts.{form_of, statement_of, environment_of}
use Rattle.sq_run.specs.Answering.{most_bytes}
use Rattle.sq_run.proofs.Numbers.{declarations_numbered}
use Rattle.sq_run.specs.Scanning.{sentences_of}

-- a Boolean constant
abbrev truth_value : FunDecl
truth_value = plain_function 0 Boolean

abbrev functions : ℕ → List FunDecl
functions n = builtin_functions ++ replicate n truth_value

declared_constants : (n : ℕ) → are_declared any_function (replicate n truth_value) ≡ true
declared_constants zero = refl
declared_constants (suc n) = declared_constants n

functions_are : (n : ℕ) → are_functions (functions n) ≡ true
functions_are n = declared_constants n

replicate_last : (n : ℕ) (x : FunDecl) → replicate n x ++ x ∷ [] ≡ replicate (suc n) x
replicate_last zero x = refl
replicate_last (suc n) x = ap (λ (l : List FunDecl). x ∷ l) (replicate_last n x)

one_more : (n : ℕ) → functions n ++ truth_value ∷ [] ≡ functions (suc n)
one_more n = ap (λ (l : List FunDecl). builtin_functions ++ l) (replicate_last n truth_value)

-- the function with this number is a Boolean constant
abbrev IsConstant : List FunDecl → ℕ → Type 0
IsConstant funs f = slice_get funs f ≡ Some truth_value

get_before : (funs : List FunDecl) (x : FunDecl) (f : ℕ) → IsConstant funs f
    → IsConstant (funs ++ x ∷ []) f
get_before [] x f is = absurd (cc (is))
get_before (d ∷ ds) x zero is = is
get_before (d ∷ ds) x (suc f) is = get_before ds x f is

get_last : (funs : List FunDecl) (x : FunDecl) → slice_get (funs ++ x ∷ []) (length funs) ≡ Some x
get_last [] x = refl
get_last (d ∷ ds) x = get_last ds x

abbrev SymbolFits : List FunDecl → Symbol → Type 0
SymbolFits funs (sym_.Fun f) = IsConstant funs f
SymbolFits funs s = Unit {0}

abbrev TableFits : List FunDecl → Declarations → Type 0
TableFits funs [] = Unit {0}
TableFits funs (d ∷ ds) = SymbolFits funs d.1 × TableFits funs ds

symbol_before : (funs : List FunDecl) (x : FunDecl) (s : Symbol) → SymbolFits funs s
    → SymbolFits (funs ++ x ∷ []) s
symbol_before funs x (sym_.Fun f) fits = get_before funs x f fits
symbol_before funs x sym_.Channel fits = tt
symbol_before funs x (sym_.Name n) fits = tt
symbol_before funs x (sym_.Process n) fits = tt
symbol_before funs x (sym_.System n) fits = tt
symbol_before funs x (sym_.Action s n) fits = tt
symbol_before funs x (sym_.Statement n) fits = tt

table_before : (funs : List FunDecl) (x : FunDecl) (ds : Declarations) → TableFits funs ds
    → TableFits (funs ++ x ∷ []) ds
table_before funs x [] fits = tt
table_before funs x (d ∷ ds) fits = (symbol_before funs x d.1 fits.0, table_before funs x ds fits.1)

table_and : (funs : List FunDecl) (ds : Declarations) (name : List ℕ) (s : Symbol)
    → TableFits funs ds → SymbolFits funs s → TableFits funs (ds ++ (name, s) ∷ [])
table_and funs [] name s fits own = (own, tt)
table_and funs (d ∷ ds) name s fits own = (fits.0, table_and funs ds name s fits.1 own)

-- the function that a name means
function_later : (o : Option (ℕ × Symbol)) → function_in (option_map (λ r. (r.0 + 1, r.1)) o)
    ≡ function_in o
function_later None = refl
function_later (Some (at, sym_.Fun f)) = refl
function_later (Some (at, sym_.Channel)) = refl
function_later (Some (at, sym_.Name n)) = refl
function_later (Some (at, sym_.Process n)) = refl
function_later (Some (at, sym_.System n)) = refl
function_later (Some (at, sym_.Action s n)) = refl
function_later (Some (at, sym_.Statement n)) = refl

symbol_constant : (funs : List FunDecl) (s : Symbol) (f : ℕ) → SymbolFits funs s
    → function_in (Some (0, s)) ≡ Some f → IsConstant funs f
symbol_constant funs (sym_.Fun g) f fits is = let same : g ≡ f =
    cc in subst (IsConstant funs) same fits
symbol_constant funs sym_.Channel f fits is = absurd (cc (is))
symbol_constant funs (sym_.Name n) f fits is = absurd (cc (is))
symbol_constant funs (sym_.Process n) f fits is = absurd (cc (is))
symbol_constant funs (sym_.System n) f fits is = absurd (cc (is))
symbol_constant funs (sym_.Action s n) f fits is = absurd (cc (is))
symbol_constant funs (sym_.Statement n) f fits is = absurd (cc (is))

found_constant : (funs : List FunDecl) (s : Symbol) (o : Option (ℕ × Symbol)) (f : ℕ) (b : Bool)
    → SymbolFits funs s → (function_in o ≡ Some f → IsConstant funs f)
    → function_in (if b then Some (0, s) else option_map (λ r. (r.0 + 1, r.1)) o) ≡ Some f
    → IsConstant funs f
found_constant funs s o f true fits later k = symbol_constant funs s f fits k
found_constant funs s o f false fits later k = later (sym (function_later o) ∙ k)

function_constant : (funs : List FunDecl) (ds : Declarations) (name : List ℕ) (f : ℕ)
    → TableFits funs ds → function_of ds name ≡ Some f → IsConstant funs f
function_constant funs [] name f fits is = absurd (cc (is))
function_constant funs (d ∷ ds) name f fits is =
    found_constant funs d.1 (found name ds) f (bytes_eq name d.0) fits.0
    (λ k. function_constant funs ds name f fits.1 k) is

-- the names of a formula mean Boolean constants
abbrev LinksFit : List FunDecl → List Link → Type 0
LinksFit funs [] = Unit {0}
LinksFit funs (l ∷ ls) = IsConstant funs l.function × LinksFit funs ls

record ChainFits (funs : List FunDecl) (c : Chain) : Type 0 where
  links : LinksFit funs c.links
  last : IsConstant funs c.last

chain_one : (funs : List FunDecl) (o : Option ℕ) (c : Chain)
    → ((f : ℕ) → o ≡ Some f → IsConstant funs f) → one o ≡ Some c → ChainFits funs c
chain_one funs None c fits is = absurd (cc (is))
chain_one funs (Some f) c fits is =
    let same : record { links = []; last = f } ≡ c = cc in
    subst (ChainFits funs) same (record { links = tt; last = fits f refl })

chain_longer : (funs : List FunDecl) (o : Option ℕ) (d : Option Connective) (more : Option Chain)
    (c : Chain) → ((f : ℕ) → o ≡ Some f → IsConstant funs f)
    → ((m : Chain) → more ≡ Some m → ChainFits funs m) → longer o d more ≡ Some c → ChainFits funs c
chain_longer funs (Some f) (Some d) (Some m) c fits later is =
    let same : record { links = record { function = f; connective = d } ∷ m.links; last = m.last }
    ≡ c = cc in
    let l = later m refl in
    subst (ChainFits funs) same (record { links = (fits f refl, l.links); last = l.last })
chain_longer funs None d more c fits later is = absurd (cc (is))
chain_longer funs (Some f) None more c fits later is = absurd (cc (is))
chain_longer funs (Some f) (Some d) None c fits later is = absurd (cc (is))

chain_fits : (funs : List FunDecl) (ds : Declarations) (words : List (List ℕ)) (c : Chain)
    → TableFits funs ds → chain_of ds words ≡ Some c → ChainFits funs c
chain_fits funs ds [] c fits is = absurd (cc (is))
chain_fits funs ds (name ∷ []) c fits is =
    chain_one funs (function_of ds name) c (λ f h. function_constant funs ds name f fits h) is
chain_fits funs ds (name ∷ sign ∷ words) c fits is =
    chain_longer funs (function_of ds name) (connective_of sign) (chain_of ds words) c
    (λ f h. function_constant funs ds name f fits h)
    (λ m h. chain_fits funs ds words m fits h) is

-- such a formula is well-sorted
module _ (n : ℕ) where
  abbrev g : Signature
  g = record { names = []; funs = functions n; actions = []; schemas = 0; vars = [] }

  is_sorted_constant : (f : ℕ) → IsConstant g.funs f → has_sort g [] Boolean (constant f) ≡ true
  is_sorted_constant f is = rw (function_number-kind_of f) (rw is refl)

  is_sorted_conjunction : (a b : TermTree) → has_sort g [] Boolean a ≡ true
      → has_sort g [] Boolean b ≡ true → has_sort g [] Boolean (formula.both a b) ≡ true
  is_sorted_conjunction a b s t =
      and_from (has_sort g [] Boolean a) (has_sort g [] Boolean b && true) s
      (and_from (has_sort g [] Boolean b) true t refl)

  is_sorted_implication : (a b : TermTree) → has_sort g [] Boolean a ≡ true
      → has_sort g [] Boolean b ≡ true → has_sort g [] Boolean (formula.implies a b) ≡ true
  is_sorted_implication a b s t =
      and_from (has_sort g [] Boolean a) (has_sort g [] Boolean b && true) s
      (and_from (has_sort g [] Boolean b) true t refl)

  abbrev BackSorted : Option TermTree → Type 0
  BackSorted None = Unit {0}
  BackSorted (Some t) = has_sort g [] Boolean t ≡ true

  record HalvesSorted (h : Halves) : Type 0 where
    front : has_sort g [] Boolean h.front ≡ true
    back : BackSorted h.back

  joined_sorted : (front : TermTree) (back : Option TermTree) → has_sort g [] Boolean front ≡ true
      → BackSorted back → has_sort g [] Boolean (joined front back) ≡ true
  joined_sorted front None s t = s
  joined_sorted front (Some back) s t = is_sorted_implication front back s t

  linked_sorted : (f : ℕ) (c : Connective) (h : Halves) → IsConstant g.funs f → HalvesSorted h
      → HalvesSorted (linked f c h)
  linked_sorted f And h is s =
      record {
        front = is_sorted_conjunction (constant f) h.front
            (is_sorted_constant f is) s.front;
        back = s.back;
      }
  linked_sorted f Implies h is s =
      record { front = is_sorted_constant f is; back = joined_sorted h.front h.back s.front s.back }

  halves_sorted : (links : List Link) (last : ℕ) → LinksFit g.funs links → IsConstant g.funs last
      → HalvesSorted (halves_of links last)
  halves_sorted [] last fits is = record { front = is_sorted_constant last is; back = tt }
  halves_sorted (l ∷ ls) last fits is =
      linked_sorted l.function l.connective (halves_of ls last) fits.0
      (halves_sorted ls last fits.1 is)

  tree_sorted : (c : Chain) → ChainFits g.funs c → has_sort g [] Boolean (tree_of c) ≡ true
  tree_sorted c fits = let h = halves_sorted c.links c.last fits.links fits.last in
      joined_sorted (halves_of c.links c.last).front (halves_of c.links c.last).back h.front h.back

-- a formula that is not deep is not large
abbrev FrontSmall : TermTree → Type 0
FrontSmall t = (1 ≤ depth t) × (size t ≤ 2 * depth t)

abbrev BackSmall : Option TermTree → Type 0
BackSmall None = Unit {0}
BackSmall (Some t) = depth t ≤ most_depth → size t ≤ 513 * depth t

and_small : (f : ℕ) (t : TermTree) → FrontSmall t → FrontSmall (formula.both (constant f) t)
and_small f t s = (omega arith, omega (arith, s.0, s.1))

implies_small : (a b : TermTree) → FrontSmall a → BackSmall (Some b)
    → BackSmall (Some (formula.implies a b))
implies_small a b s t low = let later : size b ≤ 513 * depth b =
    t (omega (arith, low)) in omega (arith, s.0, s.1, later, low)

joined_small : (front : TermTree) (back : Option TermTree) → FrontSmall front → BackSmall back
    → BackSmall (Some (joined front back))
joined_small front None s t low = omega (arith, s.1)
joined_small front (Some back) s t low = implies_small front back s t low

linked_small : (f : ℕ) (c : Connective) (h : Halves) → FrontSmall h.front → BackSmall h.back
    → FrontSmall (linked f c h).front × BackSmall (linked f c h).back
linked_small f And h s t = (and_small f h.front s, t)
linked_small f Implies h s t = ((omega arith, omega arith), joined_small h.front h.back s t)

halves_small : (links : List Link) (last : ℕ) → FrontSmall (halves_of links last).front
    × BackSmall (halves_of links last).back
halves_small [] last = ((omega arith, omega arith), tt)
halves_small (l ∷ ls) last = let h =
    halves_small ls last in linked_small l.function l.connective (halves_of ls last) h.0 h.1

tree_small : (c : Chain) → depth (tree_of c) ≤ most_depth
    → size (tree_of c) ≤ 513 * depth (tree_of c)
tree_small c low = let h =
    halves_small c.links c.last in
    joined_small (halves_of c.links c.last).front (halves_of c.links c.last).back h.0 h.1 low

-- a formula that may stand in a lemma
record IsFormula (funs : List FunDecl) (c : Chain) : Type 0 where
  fits : ChainFits funs c
  shallow : is_shallow c ≡ true

abbrev LemmasFit : List FunDecl → List Lemma → Type 0
LemmasFit funs [] = Unit {0}
LemmasFit funs (l ∷ ls) = IsFormula funs l.formula × LemmasFit funs ls

lemmas_and : (funs : List FunDecl) (ls : List Lemma) (l : Lemma) → LemmasFit funs ls
    → IsFormula funs l.formula → LemmasFit funs (ls ++ l ∷ [])
lemmas_and funs [] l fits own = (own, tt)
lemmas_and funs (k ∷ ls) l fits own = (fits.0, lemmas_and funs ls l fits.1 own)

abbrev StageFits : List FunDecl → Stage → Type 0
StageFits funs Outside = Unit {0}
StageFits funs (Stated name formula) = IsFormula funs formula
StageFits funs (Proving name formula tasks) = IsFormula funs formula

record Fine (s : Script) : Type 0 where
  count : ℕ
  funs : s.funs ≡ functions count
  table : TableFits s.funs s.table
  lemmas : LemmasFit s.funs s.lemmas
  stage : StageFits s.funs s.stage

-- what each sentence leaves
abbrev AllFine : Option Script → Type 0
AllFine o = (t : Script) → o ≡ Some t → Fine t

where_test : (b : Bool) (o : Option Script) → (b ≡ true → AllFine o)
    → AllFine (if b then o else None)
where_test true o fine t is = fine refl t is
where_test false o fine t is = absurd (cc (is))

none_fine : AllFine None
none_fine t is = absurd (cc (is))

some_fine : (s : Script) → Fine s → AllFine (Some s)
some_fine s fine t is = let same : s ≡ t = cc in subst Fine same fine

mapped_fine : (f : Script → Script) (o : Option Script) → ((s : Script) → o ≡ Some s → Fine (f s))
    → AllFine (option_map f o)
mapped_fine f None fine = none_fine
mapped_fine f (Some s) fine = some_fine (f s) (fine s refl)

with_name : (s t : Script) (name : List ℕ) (symbol : Symbol) → with_symbol s name symbol ≡ Some t
    → record s { table = s.table ++ (name, symbol) ∷ [] } ≡ t
with_name s t name symbol is = judged (is_none (found name s.table)) is
  where
    judged : (b : Bool)
        → (if b then Some (record s { table = s.table ++ (name, symbol) ∷ [] }) else None) ≡ Some t
        → record s { table = s.table ++ (name, symbol) ∷ [] } ≡ t
    judged true k = cc
    judged false k = absurd (cc (k))

no_lemmas : (funs : List FunDecl) (ls : List Lemma) → is_empty ls ≡ true → LemmasFit funs ls
no_lemmas funs [] e = tt
no_lemmas funs (l ∷ ls) e = absurd (cc (e))

no_stage : (funs : List FunDecl) (s : Stage) → is_outside s ≡ true → StageFits funs s
no_stage funs Outside e = tt
no_stage funs (Stated name formula) e = absurd (cc (e))
no_stage funs (Proving name formula tasks) e = absurd (cc (e))

constant_fine : (s : Script) (name : List ℕ) → Fine s → is_before_lemmas s ≡ true
    → Fine (with_constant (record s { table = s.table ++ (name, sym_.Fun (length s.funs)) ∷ [] }))
constant_fine s name fine before = record {
  count = suc fine.count;
  funs = ap (λ (l : List FunDecl). l ++ truth_value ∷ []) fine.funs ∙ one_more fine.count;
  table = table_and (s.funs ++ truth_value ∷ []) s.table name (sym_.Fun (length s.funs))
      (table_before s.funs truth_value s.table fine.table) (get_last s.funs truth_value);
  lemmas = no_lemmas (s.funs ++ truth_value ∷ []) s.lemmas
      (and_parts (is_outside s.stage) (is_empty s.lemmas) before).1;
  stage = no_stage (s.funs ++ truth_value ∷ []) s.stage
      (and_parts (is_outside s.stage) (is_empty s.lemmas) before).0;
}

declared_fine : (s : Script) (words : List (List ℕ)) → Fine s → AllFine (declared s words)
declared_fine s [] fine = none_fine
declared_fine s (name ∷ []) fine = none_fine
declared_fine s (name ∷ colon ∷ []) fine = none_fine
declared_fine s (name ∷ colon ∷ sort ∷ more ∷ words) fine = none_fine
declared_fine s (name ∷ colon ∷ sort ∷ []) fine =
    where_test (is_sort colon sort && is_before_lemmas s && is_name name) (declared_constant s name)
    (λ tests.
    let before =
    (and_parts (is_sort colon sort) (is_before_lemmas s)
    (and_parts (is_sort colon sort && is_before_lemmas s) (is_name name) tests).0).1 in
    mapped_fine with_constant (with_symbol s name (sym_.Fun (length s.funs))) (λ t is.
    subst (λ (u : Script). Fine (with_constant u))
    (with_name s t name (sym_.Fun (length s.funs)) is) (constant_fine s name fine before)))

-- a name that is no function, and a stage
named_fine : (s : Script) (name : List ℕ) (n : ℕ) (stage : Stage) → Fine s → StageFits s.funs stage
    → Fine (with_stage stage (record s { table = s.table ++ (name, sym_.Statement n) ∷ [] }))
named_fine s name n stage fine own = record {
  count = fine.count;
  funs = fine.funs;
  table = table_and s.funs s.table name (sym_.Statement n) fine.table tt;
  lemmas = fine.lemmas;
  stage = own;
}

chain_fine : (s : Script) (name : List ℕ) (o : Option Chain) → Fine s
    → ((c : Chain) → o ≡ Some c → ChainFits s.funs c) → AllFine (stated_chain s name o)
chain_fine s name None fine fits = none_fine
chain_fine s name (Some c) fine fits =
    where_test (is_shallow c) _ (λ shallow.
    mapped_fine (with_stage (Stated name c)) (with_symbol s name (sym_.Statement (length s.lemmas)))
    (λ t is.
    subst (λ (u : Script). Fine (with_stage (Stated name c) u))
    (with_name s t name (sym_.Statement (length s.lemmas)) is)
    (named_fine s name (length s.lemmas) (Stated name c) fine
    (record { fits = fits c refl; shallow = shallow }))))

stated_fine : (s : Script) (words : List (List ℕ)) → Fine s → AllFine (stated s words)
stated_fine s [] fine = none_fine
stated_fine s (name ∷ []) fine = none_fine
stated_fine s (name ∷ colon ∷ words) fine =
    where_test _ (stated_formula s name words)
    (λ tests. chain_fine s name (chain_of s.table words) fine
    (λ c is. chain_fits s.funs s.table words c fine.table is))

begun_fine : (s : Script) (stage : Stage) → Fine s → StageFits s.funs stage
    → AllFine (begun_at s stage)
begun_fine s Outside fine fits = none_fine
begun_fine s (Stated name formula) fine fits =
    some_fine _
    (record {
      count = fine.count;
      funs = fine.funs;
      table = fine.table;
      lemmas =
          fine.lemmas;
      stage = fits;
    })
begun_fine s (Proving name formula tasks) fine fits = none_fine

commanded_fine : (s : Script) (stage : Stage) (command : Command) (place : Place) → Fine s
    → StageFits s.funs stage → AllFine (commanded_at s stage command place)
commanded_fine s Outside command place fine fits = none_fine
commanded_fine s (Stated name formula) command place fine fits = none_fine
commanded_fine s (Proving name formula tasks) command place fine fits =
    some_fine _
    (record {
      count = fine.count;
      funs = fine.funs;
      table = fine.table;
      lemmas =
          fine.lemmas;
      stage = fits;
    })

ended_fine : (s : Script) (stage : Stage) (place : Place) → Fine s → StageFits s.funs stage
    → AllFine (ended_at s stage place)
ended_fine s Outside place fine fits = none_fine
ended_fine s (Stated name formula) place fine fits = none_fine
ended_fine s (Proving name formula tasks) place fine fits = some_fine _ (record {
  count = fine.count;
  funs = fine.funs;
  table = fine.table;
  lemmas = lemmas_and s.funs s.lemmas
      (record { name = name; formula = formula; tasks = tasks; qed = place }) fine.lemmas fits;
  stage = tt;
})

begun_words : (s : Script) (words : List (List ℕ)) → Fine s → AllFine (begun s words)
begun_words s [] fine = begun_fine s s.stage fine fine.stage
begun_words s (word ∷ words) fine = none_fine

qed_words : (s : Script) (words : List (List ℕ)) (place : Place) → Fine s
    → AllFine (qed s words place)
qed_words s [] place fine = ended_fine s s.stage place fine fine.stage
qed_words s (word ∷ words) place fine = none_fine

command_words : (s : Script) (o : Option Command) (place : Place) → Fine s
    → AllFine (commanded s o place)
command_words s None place fine = none_fine
command_words s (Some command) place fine = commanded_fine s s.stage command place fine fine.stage

first_fine : (s : Script) (word : Option Reserved) (first : List ℕ) (rest : List (List ℕ))
    (place : Place) → Fine s → AllFine (after_first s word first rest place)
first_fine s (Some reserved.Abstract) first rest place fine = declared_fine s rest fine
first_fine s (Some reserved.Lemma) first rest place fine = stated_fine s rest fine
first_fine s (Some reserved.Proof) first rest place fine = begun_words s rest fine
first_fine s (Some reserved.Qed) first rest place fine = qed_words s rest place fine
first_fine s _ first rest place fine = command_words s (command_of (first ∷ rest)) place fine

words_fine : (s : Script) (words : List (List ℕ)) (place : Place) → Fine s
    → AllFine (after_words s words place)
words_fine s [] place fine = none_fine
words_fine s (first ∷ rest) place fine = first_fine s (reserved_of first) first rest place fine

read_fine : (o : Option Script) (number : ℕ) (sentences : List Sentence) → AllFine o
    → AllFine (read_from o number sentences)
read_fine None number sentences fine = none_fine
read_fine (Some s) number [] fine = fine
read_fine (Some s) number (sentence ∷ sentences) fine =
    read_fine (after_words s sentence.words _) (number + 1) sentences
    (words_fine s sentence.words _ (fine s refl))

start_fine : Fine start
start_fine = record { count = 0; funs = refl; table = tt; lemmas = tt; stage = tt }

-- each lemma is a statement
module _ (s : Script) (fine : Fine s) where
  formula_sorted : (c : Chain) → ChainFits s.funs c
      → has_sort (signature_of (environment_of s) no_actions 0 []) [] Boolean (tree_of c) ≡ true
  formula_sorted c fits =
      subst (λ (fs : List FunDecl). has_sort
      (record { names = []; funs = fs; actions = []; schemas = 0; vars = [] }) [] Boolean
      (tree_of c) ≡ true) (sym fine.funs)
      (tree_sorted fine.count c (subst (λ (fs : List FunDecl). ChainFits fs c) fine.funs fits))

  statement_fits : (l : Lemma) → IsFormula s.funs l.formula
      → is_statement (environment_of s) (statement_of l) ≡ true
  statement_fits l f =
      let t = tree_of l.formula in
      let low : depth t ≤ most_depth = grind (arith, nat_tests, f.shallow) in
      let small : size t ≤ 513 * depth t = tree_small l.formula low in
      let nodes : nat_le (0 + size t) limits.most_nodes ≡ true =
      grind (arith, nat_tests, low, small) in
      let levels : nat_le (max 0 (depth t)) limits.most_depth ≡ true =
      grind (arith, nat_tests, low) in
      let sorted : has_sort (signature_of (environment_of s) no_actions 0 []) [] Boolean t ≡ true =
      formula_sorted l.formula f.fits in
      let stands : has_sort (signature_of (environment_of s) no_actions 0 []) [] Boolean t && true
      ≡ true =
      and_from (has_sort (signature_of (environment_of s) no_actions 0 []) [] Boolean t) true sorted
      refl in
      and_from
      ((has_sort (signature_of (environment_of s) no_actions 0 []) [] Boolean t && true)
      && (nat_le (0 + size t) limits.most_nodes && nat_le (max 0 (depth t)) limits.most_depth))
      true
      (and_from (has_sort (signature_of (environment_of s) no_actions 0 []) [] Boolean t && true)
      (nat_le (0 + size t) limits.most_nodes && nat_le (max 0 (depth t)) limits.most_depth)
      stands
      (and_from (nat_le (0 + size t) limits.most_nodes)
      (nat_le (max 0 (depth t)) limits.most_depth) nodes levels)) refl

  statements_fit : (ls : List Lemma) → LemmasFit s.funs ls
      → list_all (is_statement (environment_of s)) (map statement_of ls) ≡ true
  statements_fit [] fits = refl
  statements_fit (l ∷ ls) fits = rw (statement_fits l fits.0, statements_fit ls fits.1) refl

  environment_fits : are_numbered (environment_of s) ≡ true
      → is_environment (environment_of s) ≡ true
  environment_fits numbered =
      let functions_fit : are_functions s.funs ≡ true =
      ap are_functions fine.funs ∙ functions_are fine.count in
      environment_of_parts (environment_of s) numbered functions_fit refl
      (statements_fit s.lemmas fine.lemmas)

form_fine : (o : Option (List Sentence)) (s : Script) → option_and_then script_of o ≡ Some s
    → Fine s
unfolding script_of
form_fine None s is = absurd (cc (is))
form_fine (Some sentences) s is =
    ended (read_from (Some start) 0 sentences)
    (read_fine (Some start) 0 sentences (some_fine start start_fine)) is
  where
    completed : (t : Script) (b : Bool) → Fine t → (if b then Some t else None) ≡ Some s → Fine s
    completed t true fine k = let same : t ≡ s = cc in subst Fine same fine
    completed t false fine k = absurd (cc (k))

    ended : (o : Option Script) → AllFine o → option_and_then complete o ≡ Some s → Fine s
    ended None fine k = absurd (cc (k))
    ended (Some t) fine k = completed t (is_outside t.stage) (fine t refl) k

-- what a file of the form declares is an environment
pub form_is_environment : (bytes : List ℕ) (s : Script) → length bytes ≤ most_bytes
    → form_of bytes ≡ Some s → is_environment (environment_of s) ≡ true
unfolding form_of
form_is_environment bytes s short is =
    environment_fits s (form_fine (sentences_of bytes) s is)
    (declarations_numbered bytes s short is)

-- its one system has no action
pub environment_keeps : (s : Script) → is_environment (environment_of s) ≡ true
    → IsEnvironment (environment_of s)
environment_keeps s kept = record {
  well_formed = kept;
  systems = each_single no_actions IsSystem (λ k a e. absurd (cc (e)));
  shallow = each_single no_actions AreShallow (λ k a e. absurd (cc (e)));
}
