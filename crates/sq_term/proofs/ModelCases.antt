-- Models, records and translations of small systems.
use Rattle.std.proofs.Common.{◌≡◌, refl, ℕ, List, [], ◌∷◌, true}
use Rattle.std.specs.Prelude.{Some, None}
use Rattle.sq_base.specs.declared.sort.Sort.TheVariants.{Index, Timestamp}
use Rattle.sq_term.specs.declared.action.PathStep.TheVariants.{Rep, Found, NotFound, Done}
use Rattle.sq_term.specs.declared.term.Idx.TheVariants.{Free, Bound}
use Rattle.sq_term.specs.declared.term.Macro.TheVariants.{Input, Cond, Exec, Frame}
use Rattle.sq_term.specs.declared.model.Inst.{Inst}
use Rattle.sq_term.specs.declared.model.Model.{Model}
use Rattle.sq_term.specs.declared.model.Value.TheVariants.{Index as Number}
use Rattle.sq_term.specs.Symbols as kind
use Rattle.sq_term.specs.Formulas as f
use Rattle.sq_term.specs.Syntax.{TermTree, name, macro, init, pred, action, bound, ts_eq, idx_eq}
use Rattle.sq_term.specs.Syntax.{happens, all, find}
use Rattle.sq_term.specs.Ground.{Ground, named}
use Rattle.sq_term.specs.GroundFormulas as g
use Rattle.sq_term.specs.GroundFormulas.{disj}
use Rattle.sq_term.specs.Systems.{SystemTree}
use Rattle.sq_term.specs.Translate.{Assignment, translate}
use Rattle.sq_term.specs.Models.{first_refused}
use Rattle.sq_term.specs.Records.{world}

abbrev at : ℕ → List ℕ → Inst
at n is = record { act = n; idx = is }

abbrev model : ℕ → List Inst → Model
model n list = record { indices = n; list = list }

abbrev no_values : Assignment
no_values = record { variables = []; schemas = [] }

-- variable 0 is the index 0
abbrev at_zero : Assignment
at_zero = record { variables = Number 0 ∷ []; schemas = [] }

-- a find over two indices under a replication, and its else branch
abbrev finds : SystemTree
finds = record {
  actions =
      record {
        arity = 3;
        parent = None;
        path = Rep ∷ Found 2 ∷ Done ∷ [];
        cond = f.truth;
        output = f.empty;
      }
      ∷ record {
        arity = 1;
        parent = None;
        path = Rep ∷ NotFound ∷ Done ∷ [];
        cond = f.truth;
        output = f.empty;
      }
      ∷ [];
}

refused_else : first_refused finds (model 1 (at 0 (0 ∷ 0 ∷ 0 ∷ []) ∷ at 1 (0 ∷ []) ∷ [])) ≡ Some 2
refused_else = refl

refused_other_indices
    : first_refused finds (model 2 (at 0 (0 ∷ 0 ∷ 0 ∷ []) ∷ at 0 (0 ∷ 0 ∷ 1 ∷ []) ∷ [])) ≡ Some 2
refused_other_indices = refl

two_sessions : first_refused finds (model 2 (at 0 (0 ∷ 0 ∷ 0 ∷ []) ∷ at 0 (1 ∷ 0 ∷ 1 ∷ []) ∷ []))
    ≡ None
two_sessions = refl

no_instances : first_refused finds (model 1 []) ≡ None
no_instances = refl

no_indices : first_refused finds (model 0 []) ≡ Some 0
no_indices = refl

refused_index : first_refused finds (model 1 (at 1 (1 ∷ []) ∷ [])) ≡ Some 1
refused_index = refl

refused_count : first_refused finds (model 1 (at 1 [] ∷ [])) ≡ Some 1
refused_count = refl

refused_action : first_refused finds (model 1 (at 2 [] ∷ [])) ≡ Some 1
refused_action = refl

refused_repeat : first_refused finds (model 1 (at 1 (0 ∷ []) ∷ at 1 (0 ∷ []) ∷ [])) ≡ Some 2
refused_repeat = refl

-- two actions on one line
abbrev line : SystemTree
line = record {
  actions =
      record { arity = 1; parent = None; path = Rep ∷ Done ∷ []; cond = f.truth; output = f.empty }
      ∷ record {
        arity = 1;
        parent = Some 0;
        path = Rep ∷ Done ∷ Done ∷ [];
        cond = f.truth;
        output = name 0 (Free 0 ∷ []);
      }
      ∷ [];
}

parent_first : first_refused line (model 1 (at 0 (0 ∷ []) ∷ at 1 (0 ∷ []) ∷ [])) ≡ None
parent_first = refl

refused_child_first : first_refused line (model 1 (at 1 (0 ∷ []) ∷ at 0 (0 ∷ []) ∷ [])) ≡ Some 1
refused_child_first = refl

refused_other_parent : first_refused line (model 2 (at 0 (1 ∷ []) ∷ at 1 (0 ∷ []) ∷ [])) ≡ Some 2
refused_other_parent = refl

-- the reader of Basic Hash without its tag: action 1 outputs after the negated test of the find
abbrev hash_test : TermTree
hash_test =
    f.equal (f.second (macro Input (action 1 (Free 0 ∷ []))))
    (f.binary (kind.declared 0) (f.first (macro Input (action 1 (Free 0 ∷ []))))
    (name 0 (Bound 0 ∷ [])))

abbrev reader : SystemTree
reader = record {
  actions =
      record {
        arity = 2;
        parent = None;
        path = Rep ∷ Found 1 ∷ Done ∷ [];
        cond = f.truth;
        output = f.empty;
      }
      ∷ record {
        arity = 1;
        parent = None;
        path = Rep ∷ NotFound ∷ Done ∷ [];
        cond = all Index (f.negation hash_test);
        output = f.empty;
      }
      ∷ [];
}

abbrev one_reader : Model
one_reader = model 1 (at 1 (0 ∷ []) ∷ [])

-- if the reader's else branch happens it is not executed: not so, as its translation shows
abbrev attacked : Ground
attacked = g.attacked g.empty

bad_lemma :
    translate (world reader one_reader true) at_zero []
    (f.implies (happens (action 1 (Free 0 ∷ [])))
    (f.negation (macro Exec (action 1 (Free 0 ∷ [])))))
    ≡ g.implies g.truth
    (g.negation
    (g.both g.truth
    (g.negation
    (g.equal (g.second attacked)
    (g.binary (kind.declared 0) (g.first attacked) (named 0 (0 ∷ [])))))))
bad_lemma = refl

frame_before_init : translate (world reader one_reader true) no_values [] (macro Frame (pred init))
    ≡ g.empty
frame_before_init = refl

cond_of_what_does_not_happen : translate (world reader one_reader true) at_zero []
    (macro Cond (action 0 (Free 0 ∷ Free 0 ∷ []))) ≡ g.falsity
cond_of_what_does_not_happen = refl

cond_at_init : translate (world reader one_reader true) no_values [] (macro Cond init) ≡ g.truth
cond_at_init = refl

-- over all timestamps: init, the one instance, and undefined
times : translate (world reader one_reader true) no_values [] (all Timestamp (happens (bound 0)))
    ≡ g.both g.truth (g.both g.truth g.falsity)
times = refl

undefined_is_undefined : translate (world reader one_reader true) no_values []
    (ts_eq (pred init) (pred (pred init))) ≡ g.truth
undefined_is_undefined = refl

-- two indices of two, in ascending lexicographic order
pairs_found :
    translate (world (record { actions = [] }) (model 2 []) true) no_values []
    (find 2 (idx_eq (Bound 1) (Bound 0)) (name 0 (Bound 1 ∷ Bound 0 ∷ [])) (name 1 []))
    ≡ g.conditional g.truth (named 0 (0 ∷ 0 ∷ []))
    (g.conditional g.falsity (named 0 (0 ∷ 1 ∷ []))
    (g.conditional g.falsity (named 0 (1 ∷ 0 ∷ []))
    (g.conditional g.truth (named 0 (1 ∷ 1 ∷ [])) (named 1 []))))
pairs_found = refl

-- a disjunction without repeats
repeats : disj (named 0 [] ∷ named 1 [] ∷ named 0 [] ∷ []) ≡ g.either (named 0 []) (named 1 [])
repeats = refl

-- what the attacker has seen after the first action of the line
frame_of_one :
    translate (world line (model 1 (at 0 (0 ∷ []) ∷ [])) true) at_zero []
    (macro Frame (action 0 (Free 0 ∷ [])))
    ≡ g.pair g.empty
    (g.pair (g.of_bool (g.both g.truth g.truth))
    (g.conditional (g.both g.truth g.truth) g.empty g.empty))
frame_of_one = refl
