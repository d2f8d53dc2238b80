-- A well-sorted term has one sort, and the rules read from a function's number what its declaration
-- says.
use Rattle.std.proofs.Common.{◌≡◌, refl, sym, ap, ◌∙◌, ℕ, zero, suc, List, [], ◌∷◌, Bool, true}
use Rattle.std.proofs.Common.{false, if◌then◌else◌, ◌&&◌, ◌==◌, length, slice_get, get_or, Option}
use Rattle.std.proofs.Common.{Some}
use Rattle.std.proofs.Common.{None}
use Rattle.sq_base.specs.declared.sort.Sort.{Sort}
use Rattle.sq_base.specs.declared.sort.Sort.TheVariants.{Message, Boolean}
use Rattle.sq_term.specs.declared.term.Idx.{Idx}
use Rattle.sq_term.specs.declared.signature.FunDecl.{FunDecl}
use Rattle.sq_term.specs.Signatures.{no_function, is_boolean_sort, is_boolean_function}
use Rattle.sq_term.specs.TreeEquality.{is_same_sort}
use Rattle.sq_term.specs.Syntax.{TermTree, name, fun, macro, schema, diff, le, ts_eq, idx_eq}
use Rattle.sq_term.specs.Syntax.{happens, all, some, find, TermTrees}
use Rattle.sq_term.proofs.BoolTests.{and_split}
use Rattle.sq_term.proofs.SameTrees.{is_same_sort-decides}
use Rattle.sq_term.specs.Measure.{count_terms}
use Rattle.sq_term.specs.Symbols.{Kind, empty, truth, falsity, negation, conjunction, disjunction}
use Rattle.sq_term.specs.Symbols.{implication, equality, conditional, pairing, first, second}
use Rattle.sq_term.specs.Symbols.{of_bool, attacker, declared, declared_number, function_number}
use Rattle.sq_typing.specs.Functions.{builtin_function, builtin_functions, begins_with}
use Rattle.sq_typing.specs.Functions.{same_function, are_functions}
use Rattle.sq_typing.specs.Typing.{Signature, result_sort, applies, are_indices, macro_sort}
use Rattle.sq_typing.specs.Typing.{has_sort, have_sorts}

same_sort-true : (r s : Sort) → is_same_sort r s ≡ true → r ≡ s
same_sort-true r s h = (is_same_sort-decides r s).0 h

-- what stands first in the test of a term's sort
pub first_sort : (r s : Sort) (p : Bool) → (is_same_sort r s && p) ≡ true → r ≡ s
first_sort r s p h = same_sort-true r s (and_split (is_same_sort r s) p h).0

one_sort : (q r s : Sort) (m n : Bool) → (is_same_sort q r && m) ≡ true
    → (is_same_sort q s && n) ≡ true → r ≡ s
one_sort q r s m n h k = sym (first_sort q r m h) ∙ first_sort q s n k

-- over any variables
pub sort_is_one : (g : Signature) (bs cs : List Sort) (r s : Sort) (t : TermTree)
    → has_sort g bs r t ≡ true → has_sort g cs s t ≡ true → r ≡ s
sort_is_one g bs cs r s (name n is) h k = one_sort Message r s _ _ h k
sort_is_one g bs cs r s (fun f is ts) h k =
    one_sort (result_sort (slice_get g.funs (function_number f))) r s _ _ h k
sort_is_one g bs cs r s (macro m t) h k = one_sort (macro_sort m) r s _ _ h k
sort_is_one g bs cs r s (schema n) h k = one_sort Message r s _ _ h k
sort_is_one g bs cs r s (diff t u) h k =
    sort_is_one g bs cs r s t (and_split (has_sort g bs r t) _ h).0
    (and_split (has_sort g cs s t) _ k).0
sort_is_one g bs cs r s (le t u) h k = one_sort Boolean r s _ _ h k
sort_is_one g bs cs r s (ts_eq t u) h k = one_sort Boolean r s _ _ h k
sort_is_one g bs cs r s (idx_eq i j) h k = one_sort Boolean r s _ _ h k
sort_is_one g bs cs r s (happens t) h k = one_sort Boolean r s _ _ h k
sort_is_one g bs cs r s (all b t) h k = one_sort Boolean r s _ _ h k
sort_is_one g bs cs r s (some b t) h k = one_sort Boolean r s _ _ h k
sort_is_one g bs cs r s (find c t u v) h k = one_sort Message r s _ _ h k

abbrev result_of : FunDecl → Sort
result_of d = d.result

same_result : (d e : FunDecl) → same_function d e ≡ true → d.result ≡ e.result
same_result d e h =
    let args = (and_split (d.idx == e.idx) _ h).1 in
    let rest = (and_split (d.args == e.args) _ args).1 in
    first_sort d.result e.result _ rest

begun : (bs fs : List FunDecl) (k : ℕ) (b d : FunDecl) → begins_with bs fs ≡ true
    → slice_get bs k ≡ Some b → slice_get fs k ≡ Some d → b.result ≡ d.result
begun [] fs k b d h e q = cc
begun (x ∷ xs) [] k b d h e q = let f : false ≡ true = h in cc
begun (x ∷ xs) (y ∷ ys) zero b d h e q =
    let i : b ≡ x = cc in
    let j : y ≡ d = cc in
    ap result_of i
    ∙ (same_result x y (and_split (same_function x y) (begins_with xs ys) h).0 ∙ ap result_of j)
begun (x ∷ xs) (y ∷ ys) (suc k) b d h e q =
    begun xs ys k b d (and_split (same_function x y) (begins_with xs ys) h).1 e q

read_at : (fs : List FunDecl) (k : ℕ) (d : FunDecl) → slice_get fs k ≡ Some d
    → get_or fs k no_function ≡ d
read_at [] k d e = cc
read_at (x ∷ xs) zero d e = cc
read_at (x ∷ xs) (suc k) d e = read_at xs k d e

-- a function gives a Boolean exactly where it is declared so
pub gives_its_result : (fs : List FunDecl) (f : Kind) (d : FunDecl) → are_functions fs ≡ true
    → slice_get fs (function_number f) ≡ Some d
    → is_boolean_function fs f ≡ is_boolean_sort d.result
gives_its_result fs empty d h e =
    ap is_boolean_sort (begun builtin_functions fs 0 (builtin_function empty) d h refl e)
gives_its_result fs truth d h e =
    ap is_boolean_sort (begun builtin_functions fs 1 (builtin_function truth) d h refl e)
gives_its_result fs falsity d h e =
    ap is_boolean_sort (begun builtin_functions fs 2 (builtin_function falsity) d h refl e)
gives_its_result fs negation d h e =
    ap is_boolean_sort (begun builtin_functions fs 3 (builtin_function negation) d h refl e)
gives_its_result fs conjunction d h e =
    ap is_boolean_sort (begun builtin_functions fs 4 (builtin_function conjunction) d h refl e)
gives_its_result fs disjunction d h e =
    ap is_boolean_sort (begun builtin_functions fs 5 (builtin_function disjunction) d h refl e)
gives_its_result fs implication d h e =
    ap is_boolean_sort (begun builtin_functions fs 6 (builtin_function implication) d h refl e)
gives_its_result fs equality d h e =
    ap is_boolean_sort (begun builtin_functions fs 7 (builtin_function equality) d h refl e)
gives_its_result fs conditional d h e =
    ap is_boolean_sort (begun builtin_functions fs 8 (builtin_function conditional) d h refl e)
gives_its_result fs pairing d h e =
    ap is_boolean_sort (begun builtin_functions fs 9 (builtin_function pairing) d h refl e)
gives_its_result fs first d h e =
    ap is_boolean_sort (begun builtin_functions fs 10 (builtin_function first) d h refl e)
gives_its_result fs second d h e =
    ap is_boolean_sort (begun builtin_functions fs 11 (builtin_function second) d h refl e)
gives_its_result fs of_bool d h e =
    ap is_boolean_sort (begun builtin_functions fs 12 (builtin_function of_bool) d h refl e)
gives_its_result fs attacker d h e =
    ap is_boolean_sort (begun builtin_functions fs 13 (builtin_function attacker) d h refl e)
gives_its_result fs (declared k) d h e =
    ap (λ z. is_boolean_sort (result_of z)) (read_at fs (declared_number k) d e)

application_gives : (g : Signature) (f : Kind) (s : Sort) (o : Option FunDecl) (i n : ℕ)
    → are_functions g.funs ≡ true → slice_get g.funs (function_number f) ≡ o
    → is_same_sort (result_sort o) s ≡ true → applies o i n ≡ true
    → is_boolean_function g.funs f ≡ is_boolean_sort s
application_gives g f s None i n ok e h k = let q : false ≡ true = k in cc
application_gives g f s (Some d) i n ok e h k =
    gives_its_result g.funs f d ok e ∙ ap is_boolean_sort (same_sort-true d.result s h)

-- the parts of the test of an application
pub application_sort : (g : Signature) (bs : List Sort) (s : Sort) (f : Kind) (is : List Idx)
    (ts : TermTrees) → are_functions g.funs ≡ true → has_sort g bs s (fun f is ts) ≡ true
    → is_boolean_function g.funs f ≡ is_boolean_sort s
application_sort g bs s f is ts ok h =
    let o : Option FunDecl = slice_get g.funs (function_number f) in
    let p = and_split (is_same_sort (result_sort o) s) _ h in
    let q = and_split (applies o (length is) (count_terms ts)) _ p.1 in
    application_gives g f s (slice_get g.funs (function_number f)) (length is)
    (count_terms ts) ok refl p.0 q.0

pub argument_sorts : (g : Signature) (bs : List Sort) (s : Sort) (f : Kind) (is : List Idx)
    (ts : TermTrees) → has_sort g bs s (fun f is ts) ≡ true → have_sorts g bs f 0 ts ≡ true
argument_sorts g bs s f is ts h =
    let o : Option FunDecl = slice_get g.funs (function_number f) in
    let p = and_split (is_same_sort (result_sort o) s) _ h in
    let q = and_split (applies o (length is) (count_terms ts)) _ p.1 in
    (and_split (are_indices g bs is) _ q.1).1

pub boolean_or_message : (b : Bool) → is_boolean_sort (if b then Boolean else Message) ≡ b
boolean_or_message true = refl
boolean_or_message false = refl
