-- Lists of the examples, by computation.
use Rattle.std.proofs.Common.{◌≡◌, refl, ℕ, List, [], ◌∷◌, ◌++◌, replicate, true, false, None}
use Rattle.sq_base.specs.declared.sort.Sort.TheVariants.{Message, Index}
use Rattle.sq_term.specs.declared.signature.FunDecl.{FunDecl}
use Rattle.sq_term.specs.declared.signature.FunRole.TheVariants.{Hash}
use Rattle.sq_term.specs.declared.term.Idx.TheVariants.{Free, Bound}
use Rattle.sq_term.specs.declared.term.Macro.TheVariants.{Input, Frame}
use Rattle.sq_term.specs.declared.term.Side.TheVariants.{Left, Both}
use Rattle.sq_term.specs.Formulas.{truth, negation, either, equal, empty, pair, first, second}
use Rattle.sq_term.specs.Signatures.{no_function}
use Rattle.sq_term.specs.Symbols.{declared}
use Rattle.sq_term.specs.Syntax.{TsTree, free, pred, action, TermTree, name, fun, macro, diff, le}
use Rattle.sq_term.specs.Syntax.{all}
use Rattle.sq_term.specs.Syntax.{nil, cons}
use Rattle.sq_term.specs.Systems.{SystemTree, ActionTree}
use Rattle.sq_occ.specs.Entries.{key, OccTree}
use Rattle.sq_occ.specs.Searches.{places}
use Rattle.sq_occ.specs.Facts.{occurs}
use Rattle.sq_occ.specs.Sizes.{list_nodes}

-- one hash behind the built-in functions
abbrev pub funs : List FunDecl
funs = replicate 14 no_function ++ record { idx = 0; args = 2; result = Message; role = Hash } ∷ []

abbrev pub hashed : TermTree → TermTree → TermTree
hashed m k = fun (declared 0) [] (cons m (cons k nil))

abbrev pub step : ℕ → TermTree → TermTree → ActionTree
step arity cond output =
    record { arity = arity; parent = None; path = []; cond = cond; output = output }

-- A: in(c,x); if x = n then out(c,ok)
abbrev tests_a_name : SystemTree
tests_a_name = record {
  actions =
      step 0 (equal (macro Input (action 0 [])) (name 0 [])) (name 1 [])
      ∷ step 0 (negation (equal (macro Input (action 1 [])) (name 0 []))) empty
      ∷ [];
}

fresh_name : occurs [] (places funs tests_a_name 0 Left (macro Input (free 0)))
    ≡ either (le (action 0 []) (pred (free 0))) (le (action 1 []) (pred (free 0)))
fresh_name = refl

fresh_name_nodes : list_nodes (places funs tests_a_name 0 Left (macro Input (free 0))) ≡ 8
fresh_name_nodes = refl

-- the tags T(i,k) and the readers R(j,i) and R1(j) of Basic Hash; name 0 is the key, and name 1 the
-- nonce
abbrev basic_hash : SystemTree
basic_hash = record {
  actions =
      step 2 truth
      (pair (name 1 (Free 0 ∷ Free 1 ∷ []))
      (hashed (name 1 (Free 0 ∷ Free 1 ∷ [])) (name 0 (Free 0 ∷ []))))
      ∷ step 2
      (equal (second (macro Input (action 1 (Free 0 ∷ Free 1 ∷ []))))
      (hashed (first (macro Input (action 1 (Free 0 ∷ Free 1 ∷ [])))) (name 0 (Free 1 ∷ []))))
      empty
      ∷ step 1
      (all Index
      (negation (equal (second (macro Input (action 2 (Free 0 ∷ []))))
      (hashed (first (macro Input (action 2 (Free 0 ∷ [])))) (name 0 (Bound 0 ∷ []))))))
      empty
      ∷ [];
}

-- each place of the key up to a time that a macro reaches
abbrev key_places : TsTree → List OccTree
key_places until =
    record {
      name = 0;
      args = Bound 1 ∷ [];
      role = key (declared 0) (name 1 (Bound 1 ∷ Bound 0 ∷ [])) false;
      bound = Index ∷ Index ∷ [];
      guard = le (action 0 (Bound 1 ∷ Bound 0 ∷ [])) until;
    }
    ∷ record {
      name = 0;
      args = Bound 0 ∷ [];
      role = key (declared 0) (first (macro Input (action 1 (Bound 1 ∷ Bound 0 ∷ [])))) true;
      bound = Index ∷ Index ∷ [];
      guard = le (action 1 (Bound 1 ∷ Bound 0 ∷ [])) until;
    }
    ∷ record {
      name = 0;
      args = Bound 0 ∷ [];
      role = key (declared 0) (first (macro Input (action 2 (Bound 1 ∷ [])))) true;
      bound = Index ∷ Index ∷ [];
      guard = le (action 2 (Bound 1 ∷ [])) until;
    }
    ∷ []

authentication : places funs basic_hash 0 Both
    (first (macro Input (action 1 (Free 0 ∷ Free 1 ∷ []))))
    ≡ key_places (pred (action 1 (Free 0 ∷ Free 1 ∷ [])))
    ++ key_places (pred (action 1 (Free 0 ∷ Free 1 ∷ [])))
authentication = refl

prf_list : places funs basic_hash 0 Left (macro Frame (free 1)) ≡ key_places (free 1)
prf_list = refl

-- the key of a hash inside its own message: the outer application comes first
own_message : places funs basic_hash 0 Left
    (equal (name 2 []) (hashed (hashed (name 2 []) (name 0 [])) (name 0 [])))
    ≡ record {
      name = 0;
      args = [];
      role = key (declared 0) (hashed (name 2 []) (name 0 [])) true;
      bound = [];
      guard = truth;
    }
    ∷ record {
      name = 0;
      args = [];
      role = key (declared 0) (name 2 []) false;
      bound = [];
      guard = truth;
    }
    ∷ []
own_message = refl

-- a side is taken before keys are seen
sides : places funs basic_hash 0 Both (hashed (name 2 []) (diff (name 0 []) (name 3 [])))
    ≡ record {
      name = 0;
      args = [];
      role = key (declared 0) (name 2 []) false;
      bound = [];
      guard = truth;
    }
    ∷ []
sides = refl
