-- Places under binders, in roles, at macros and on sides, and why there is no list, by computation.
use Rattle.std.proofs.Common.{◌≡◌, refl, ap, ℕ, zero, suc, ◌*◌, ◌≤◌, List, [], ◌∷◌, ◌++◌, replicate}
use Rattle.std.proofs.Common.{true, false, if◌then◌else◌, nat_le, arith}
use Rattle.std.proofs.lemmas.Bool.Decides.{nat_tests}
use Rattle.std.specs.Prelude.{Ok, Err}
use Rattle.sq_base.specs.declared.sort.Sort.{Sort}
use Rattle.sq_base.specs.declared.sort.Sort.TheVariants.{Message, Index, Timestamp}
use Rattle.sq_term.specs.declared.signature.FunDecl.{FunDecl}
use Rattle.sq_term.specs.declared.signature.FunRole.TheVariants.{Hash, Sign, Pk, Check}
use Rattle.sq_term.specs.declared.term.Idx.{Idx}
use Rattle.sq_term.specs.declared.term.Idx.TheVariants.{Free, Bound}
use Rattle.sq_term.specs.declared.term.Macro.TheVariants.{Input, Output, Frame}
use Rattle.sq_term.specs.declared.term.Side.TheVariants.{Left, Right, Both}
use Rattle.sq_term.specs.Formulas.{truth, negation, both, equal, empty, pair}
use Rattle.sq_term.specs.Signatures.{no_function}
use Rattle.sq_term.specs.Symbols.{declared}
use Rattle.sq_term.specs.Syntax.{free, bound, pred, action, TermTree, name, fun, macro, schema}
use Rattle.sq_term.specs.Syntax.{diff, le, all, some, find, nil, cons}
use Rattle.sq_term.specs.Systems.{SystemTree}
use Rattle.sq_system.specs.declared.fault.OccFault.TheVariants.{HasSchema, TooLarge}
use Rattle.sq_occ.specs.Entries.{RoleTree, bare, public, key, OccTree}
use Rattle.sq_occ.specs.Searches.{places}
use Rattle.sq_occ.specs.Sizes.{list_nodes, within_nodes, outcome}
use Rattle.sq_occ.proofs.Examples.{hashed, step}

-- a hash, a signature function, its check and its public key
abbrev funs : List FunDecl
funs =
    replicate 14 no_function
    ++ record { idx = 0; args = 2; result = Message; role = Hash }
    ∷ record { idx = 0; args = 2; result = Message; role = Sign }
    ∷ record { idx = 0; args = 3; result = Message; role = Check }
    ∷ record { idx = 0; args = 1; result = Message; role = Pk }
    ∷ []

abbrev signed : TermTree → TermTree → TermTree
signed m k = fun (declared 1) [] (cons m (cons k nil))

abbrev public_key : TermTree → TermTree
public_key k = fun (declared 3) [] (cons k nil)

abbrev nothing : SystemTree
nothing = record { actions = [] }

-- outside macros
abbrev plain : List Idx → RoleTree → List Sort → OccTree
plain is role b = record { name = 0; args = is; role = role; bound = b; guard = truth }

-- ---- roles

abbrev k : TermTree
k = name 0 []

abbrev m : TermTree
m = name 1 []

test_under_not : places funs nothing 0 Left (negation (equal m (hashed m k)))
    ≡ plain [] (key (declared 0) m true) [] ∷ []
test_under_not = refl

two_tests : places funs nothing 0 Left (both (equal (hashed m k) m) (equal (hashed empty k) m))
    ≡ plain [] (key (declared 0) m true) [] ∷ plain [] (key (declared 0) empty true) [] ∷ []
two_tests = refl

inside_a_pair : places funs nothing 0 Left (equal (pair (hashed m k) m) m)
    ≡ plain [] (key (declared 0) m false) [] ∷ []
inside_a_pair = refl

-- a signature is no test
signature : places funs nothing 0 Left (equal (signed m k) m)
    ≡ plain [] (key (declared 1) m false) [] ∷ []
signature = refl

public_key_alone : places funs nothing 0 Left (pair (public_key k) k)
    ≡ plain [] public [] ∷ plain [] bare [] ∷ []
public_key_alone = refl

-- under a public key the name alone is public
public_key_of_more : places funs nothing 0 Left (public_key (pair k m)) ≡ plain [] bare [] ∷ []
public_key_of_more = refl

-- the message stands before the key
message_is_bare : places funs nothing 0 Left (hashed k m) ≡ plain [] bare [] ∷ []
message_is_bare = refl

-- ---- binders

two_quantifiers : places funs nothing 0 Left
    (all Timestamp (some Index (equal (name 0 (Bound 0 ∷ [])) m)))
    ≡ plain (Bound 0 ∷ []) bare (Index ∷ Timestamp ∷ []) ∷ []
two_quantifiers = refl

-- the action's index is bound around a find of two indices; what is found is seen below them, what
-- is
-- else is not
abbrev finds : SystemTree
finds = record {
  actions =
      step 1 truth
      (find 2 (equal (name 0 (Bound 1 ∷ Bound 0 ∷ [])) m) (name 0 (Free 0 ∷ Bound 0 ∷ []))
      (name 0 (Free 0 ∷ Free 0 ∷ [])))
      ∷ [];
}

a_find_in_a_body : places funs finds 0 Left (macro Output (free 0))
    ≡ record {
      name = 0;
      args = Bound 1 ∷ Bound 0 ∷ [];
      role = bare;
      bound = Index ∷ Index ∷ Index ∷ [];
      guard = le (action 0 (Bound 2 ∷ [])) (free 0);
    }
    ∷ record {
      name = 0;
      args = Bound 2 ∷ Bound 0 ∷ [];
      role = bare;
      bound = Index ∷ Index ∷ Index ∷ [];
      guard = le (action 0 (Bound 2 ∷ [])) (free 0);
    }
    ∷ record {
      name = 0;
      args = Bound 0 ∷ Bound 0 ∷ [];
      role = bare;
      bound = Index ∷ [];
      guard = le (action 0 (Bound 0 ∷ [])) (free 0);
    }
    ∷ []
a_find_in_a_body = refl

-- ---- macros

abbrev tells : SystemTree
tells = record { actions = step 0 truth (name 0 []) ∷ [] }

abbrev told : TermTree → OccTree
told g = record { name = 0; args = []; role = bare; bound = []; guard = g }

-- an input is made before its action comes about, a frame holds what it puts
at_a_frame : places funs tells 0 Left (macro Frame (free 0)) ≡ told (le (action 0 []) (free 0)) ∷ []
at_a_frame = refl

at_an_input : places funs tells 0 Left (macro Input (free 0))
    ≡ told (le (action 0 []) (pred (free 0))) ∷ []
at_an_input = refl

-- the time at which the macro is read is seen from below the binders of the place
under_a_binder : places funs finds 0 Left (all Timestamp (macro Output (bound 0)))
    ≡ record {
      name = 0;
      args = Bound 1 ∷ Bound 0 ∷ [];
      role = bare;
      bound = Index ∷ Index ∷ Index ∷ Timestamp ∷ [];
      guard = le (action 0 (Bound 2 ∷ [])) (bound 3);
    }
    ∷ record {
      name = 0;
      args = Bound 2 ∷ Bound 0 ∷ [];
      role = bare;
      bound = Index ∷ Index ∷ Index ∷ Timestamp ∷ [];
      guard = le (action 0 (Bound 2 ∷ [])) (bound 3);
    }
    ∷ record {
      name = 0;
      args = Bound 0 ∷ Bound 0 ∷ [];
      role = bare;
      bound = Index ∷ Timestamp ∷ [];
      guard = le (action 0 (Bound 0 ∷ [])) (bound 1);
    }
    ∷ []
under_a_binder = refl

without_actions : places funs nothing 0 Both (macro Frame (free 0)) ≡ []
without_actions = refl

-- ---- sides

left_then_right : places funs nothing 0 Both (pair (diff k m) (diff (pair m k) k))
    ≡ plain [] bare [] ∷ plain [] bare [] ∷ plain [] bare [] ∷ []
left_then_right = refl

one_side : places funs nothing 0 Right (diff (pair k k) m) ≡ []
one_side = refl

-- ---- refusals

-- a schema variable on the side that is not read, and under a find
unseen : outcome funs nothing 0 Right (diff (schema 0) m) ≡ Err HasSchema
unseen = refl

under_a_find : outcome funs nothing 0 Left (find 1 truth (pair m (schema 0)) m) ≡ Err HasSchema
under_a_find = refl

-- entries of three nodes each: so many are within the limit, and one more passes it
abbrev one : OccTree
one = told (le (action 0 []) (free 0))

many : (n : ℕ) → list_nodes (replicate n one) ≡ n * 3
many zero = refl
many (suc n) = omega (arith, many n)

just_within : (n : ℕ) → n ≤ 2796202 → within_nodes (replicate n one) ≡ Ok (replicate n one)
just_within n h =
    let nodes : list_nodes (replicate n one) ≡ n * 3 = many n in
    let fits : nat_le (list_nodes (replicate n one)) 8388608 ≡ true = grind (arith, nat_tests) in
    ap (λ b. (if b then Ok (replicate n one) else Err TooLarge)) fits

just_past : (n : ℕ) → 2796203 ≤ n → within_nodes (replicate n one) ≡ Err TooLarge
just_past n h =
    let nodes : list_nodes (replicate n one) ≡ n * 3 = many n in
    let passes : nat_le (list_nodes (replicate n one)) 8388608 ≡ false =
    grind (arith, nat_tests) in
    ap (λ b. (if b then Ok (replicate n one) else Err TooLarge)) passes
