-- Names in the table of a file: which are there, and which are functions.
use Rattle.std.proofs.Common.{◌≡◌, ◌+◌, ℕ, suc, Bool, true, false, ◌&&◌, ◌||◌, not, if◌then◌else◌}
use Rattle.std.proofs.Common.{List, []}
use Rattle.std.proofs.Common.{◌∷◌, ◌++◌, length, Option, Some, None, option_map, is_none, unwrap_or}
use Rattle.std.proofs.Common.{refl, sym, ◌∙◌, ap, arith, append_assoc, append-nil, add-zero}
use Rattle.std.specs.Str.{bytes_eq}
use Rattle.sq_base.specs.declared.sort.Sort.TheVariants.{Boolean}
use Rattle.sq_sym.specs.declared.symbol.Symbol.{Symbol}
use Rattle.sq_sym.specs.declared.symbol.Symbol.TheVariants.{Fun, Statement}
use Rattle.sq_sym.specs.Declarations.{found}
use Rattle.sq_typing.specs.Functions.{plain_function, builtin_functions}
use Rattle.sq_run.specs.Formulas.{Declarations, function_in, function_of}
use Rattle.sq_run.specs.Files.{is_among, constant_table, claim_table, constants_of}
use Rattle.sq_run.specs.Files.{constant_functions, number_in}

-- whether a name is in no front of a table and not in its rest
in_neither : (here front : Bool) (o : Option (ℕ × Symbol)) (r : ℕ × Symbol) (rest : Bool)
    → is_none o ≡ not front && rest
    → is_none (if here then Some r else option_map (λ r. (r.0 + 1, r.1)) o) ≡ not (here || front)
    && rest
in_neither true front o r rest h = refl
in_neither false front None r rest h = h
in_neither false front (Some x) r rest h = h

none-constants : (x : List ℕ) (n : ℕ) (names : List (List ℕ)) (more : Declarations)
    → is_none (found x (constant_table n names ++ more)) ≡ not (is_among x names)
    && is_none (found x more)
none-constants x n [] more = refl
none-constants x n (c ∷ names) more =
    in_neither (bytes_eq x c) (is_among x names) (found x (constant_table (n + 1) names ++ more))
    (0, Fun n) (is_none (found x more)) (none-constants x (n + 1) names more)

and_true : (b : Bool) → b && true ≡ b
and_true true = refl
and_true false = refl

none-claims : (x : List ℕ) (n : ℕ) (names : List (List ℕ)) → is_none (found x (claim_table n names))
    ≡ not (is_among x names)
none-claims x n [] = refl
none-claims x n (c ∷ names) =
    in_neither (bytes_eq x c) (is_among x names) (found x (claim_table (n + 1) names))
    (0, Statement n) true
    (none-claims x (n + 1) names ∙ sym (and_true (not (is_among x names))))
    ∙ and_true (not (bytes_eq x c || is_among x names))

-- a name is free where it is no constant and no lemma
pub none-table : (x : List ℕ) (constants claims : List (List ℕ))
    → is_none (found x (constants_of constants ++ claim_table 0 claims))
    ≡ not (is_among x constants) && not (is_among x claims)
none-table x constants claims =
    none-constants x (length builtin_functions) constants (claim_table 0 claims)
    ∙ ap (λ (b : Bool). not (is_among x constants) && b) (none-claims x 0 claims)

function-later : (o : Option (ℕ × Symbol)) → function_in (option_map (λ r. (r.0 + 1, r.1)) o)
    ≡ function_in o
function-later None = refl
function-later (Some r) = by r.1
  where
    by : (s : Symbol) → function_in (Some (r.0 + 1, s)) ≡ function_in (Some (r.0, s))
    by (Fun f) = refl
    by s = refl

-- no lemma is a function
function-claims : (x : List ℕ) (n : ℕ) (names : List (List ℕ))
    → function_of (claim_table n names) x ≡ None
function-claims x n [] = refl
function-claims x n (c ∷ names) =
    by (bytes_eq x c) (function-later (found x (claim_table (n + 1) names))
    ∙ function-claims x (n + 1) names)
  where
    by : (here : Bool)
        → function_in (option_map (λ r. (r.0 + 1, r.1)) (found x (claim_table (n + 1) names)))
        ≡ None → function_in
        (if here then Some (0, Statement n)
        else option_map (λ r. (r.0 + 1, r.1)) (found x (claim_table (n + 1) names))) ≡ None
    by true h = refl
    by false h = h

function-front : (x : List ℕ) (n m : ℕ) (names claims : List (List ℕ))
    → function_of (constant_table n names ++ claim_table m claims) x
    ≡ function_of (constant_table n names) x
function-front x n m [] claims = function-claims x m claims
function-front x n m (c ∷ names) claims =
    by (bytes_eq x c) (found x (constant_table (n + 1) names ++ claim_table m claims))
    (found x (constant_table (n + 1) names)) (function-front x (n + 1) m names claims)
  where
    by : (here : Bool) (o p : Option (ℕ × Symbol)) → function_in o ≡ function_in p
        → function_in (if here then Some (0, Fun n) else option_map (λ r. (r.0 + 1, r.1)) o)
        ≡ function_in (if here then Some (0, Fun n) else option_map (λ r. (r.0 + 1, r.1)) p)
    by true o p h = refl
    by false o p h = function-later o ∙ h ∙ sym (function-later p)

-- the functions of a file are its constants
pub function-table : (x : List ℕ) (constants claims : List (List ℕ))
    → function_of (constants_of constants ++ claim_table 0 claims) x
    ≡ function_of (constants_of constants) x
function-table x constants claims = function-front x (length builtin_functions) 0 constants claims

named : (x : List ℕ) (n : ℕ) (names : List (List ℕ)) → is_among x names ≡ true
    → function_of (constant_table n names) x ≡ Some (number_in (constant_table n names) x)
named x n [] h = absurd (cc (h))
named x n (c ∷ names) h =
    by (bytes_eq x c) h (function-later (found x (constant_table (n + 1) names)))
    (named x (n + 1) names)
  where
    by : (here : Bool) → here || is_among x names ≡ true
        → function_in (option_map (λ r. (r.0 + 1, r.1)) (found x (constant_table (n + 1) names)))
        ≡ function_of (constant_table (n + 1) names) x
        → (is_among x names ≡ true → function_of (constant_table (n + 1) names) x
        ≡ Some (number_in (constant_table (n + 1) names) x))
        → function_in
        (if here then Some (0, Fun n)
        else option_map (λ r. (r.0 + 1, r.1)) (found x (constant_table (n + 1) names)))
        ≡ Some (unwrap_or
        (function_in
        (if here then Some (0, Fun n)
        else option_map (λ r. (r.0 + 1, r.1)) (found x (constant_table (n + 1) names)))) 0)
    by true h later f = refl
    by false h later f = later ∙ f h ∙ ap (λ (o : Option ℕ). Some (unwrap_or o 0)) (sym later)

-- a declared constant has its number
pub function-named : (x : List ℕ) (names : List (List ℕ)) → is_among x names ≡ true
    → function_of (constants_of names) x ≡ Some (number_in (constants_of names) x)
function-named x names = named x (length builtin_functions) names

is_named : (x : List ℕ) (n : ℕ) (names : List (List ℕ)) (f : ℕ)
    → function_of (constant_table n names) x ≡ Some f → is_among x names ≡ true
is_named x n [] f h = absurd (cc (h))
is_named x n (c ∷ names) f h =
    by (bytes_eq x c) h (function-later (found x (constant_table (n + 1) names)))
    (is_named x (n + 1) names f)
  where
    by : (here : Bool)
        → function_in
        (if here then Some (0, Fun n)
        else option_map (λ r. (r.0 + 1, r.1)) (found x (constant_table (n + 1) names))) ≡ Some f
        → function_in (option_map (λ r. (r.0 + 1, r.1)) (found x (constant_table (n + 1) names)))
        ≡ function_of (constant_table (n + 1) names) x
        → (function_of (constant_table (n + 1) names) x ≡ Some f → is_among x names ≡ true)
        → here || is_among x names ≡ true
    by true h later k = refl
    by false h later k = k (sym later ∙ h)

-- a name that has a number is a declared constant
pub among-function : (x : List ℕ) (names : List (List ℕ)) (f : ℕ)
    → function_of (constants_of names) x ≡ Some f → is_among x names ≡ true
among-function x names f = is_named x (length builtin_functions) names f

constant-more : (n : ℕ) (names : List (List ℕ)) (x : List ℕ)
    → constant_table n names ++ (x, Fun (n + length names)) ∷ []
    ≡ constant_table n (names ++ x ∷ [])
constant-more n [] x = ap (λ (k : ℕ). (x, Fun k) ∷ []) (add-zero n)
constant-more n (c ∷ names) x =
    let next : n + length (c ∷ names) ≡ n + 1 + length names = omega arith in
    ap (λ (k : ℕ). (c, Fun n) ∷ (constant_table (n + 1) names ++ (x, Fun k) ∷ [])) next
    ∙ ap (λ (t : Declarations). (c, Fun n) ∷ t) (constant-more (n + 1) names x)

claim-more : (n : ℕ) (names : List (List ℕ)) (x : List ℕ)
    → claim_table n names ++ (x, Statement (n + length names)) ∷ []
    ≡ claim_table n (names ++ x ∷ [])
claim-more n [] x = ap (λ (k : ℕ). (x, Statement k) ∷ []) (add-zero n)
claim-more n (c ∷ names) x =
    let next : n + length (c ∷ names) ≡ n + 1 + length names = omega arith in
    ap (λ (k : ℕ). (c, Statement n) ∷ (claim_table (n + 1) names ++ (x, Statement k) ∷ [])) next
    ∙ ap (λ (t : Declarations). (c, Statement n) ∷ t) (claim-more (n + 1) names x)

pub length-functions : (names : List (List ℕ)) → length (constant_functions names) ≡ length names
length-functions [] = refl
length-functions (c ∷ names) = ap suc (length-functions names)

-- a constant more in a table without lemmas
pub table-constant : (names : List (List ℕ)) (x : List ℕ)
    → (constants_of names ++ []) ++
    (x, Fun (length (builtin_functions ++ constant_functions names))) ∷ []
    ≡ constants_of (names ++ x ∷ []) ++ []
table-constant names x =
    let number : length (builtin_functions ++ constant_functions names)
    ≡ length builtin_functions + length names = omega (arith, length-functions names) in
    (λ i. append-nil (constants_of names) i ++ (x, Fun (number i)) ∷ [])
    ∙ constant-more (length builtin_functions) names x
    ∙ sym (append-nil (constants_of (names ++ x ∷ [])))

pub functions-more : (names : List (List ℕ)) (x : List ℕ)
    → constant_functions names ++ plain_function 0 Boolean ∷ []
    ≡ constant_functions (names ++ x ∷ [])
functions-more [] x = refl
functions-more (c ∷ names) x = ap (λ l. plain_function 0 Boolean ∷ l) (functions-more names x)

-- a lemma more
pub table-claim : (constants claims : List (List ℕ)) (x : List ℕ) (n : ℕ) → n ≡ length claims
    → (constants_of constants ++ claim_table 0 claims) ++ (x, Statement n) ∷ []
    ≡ constants_of constants ++ claim_table 0 (claims ++ x ∷ [])
table-claim constants claims x n e =
    let number : n ≡ 0 + length claims = omega (arith, e) in
    append_assoc (constants_of constants) (claim_table 0 claims) ((x, Statement n) ∷ [])
    ∙ ap (λ (k : ℕ). constants_of constants ++ (claim_table 0 claims ++ (x, Statement k) ∷ []))
    number
    ∙ ap (λ (t : Declarations). constants_of constants ++ t) (claim-more 0 claims x)
