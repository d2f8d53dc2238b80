-- One walk over a term, in preorder, that lists the places of a name.
use Rattle.std.specs.Prelude.{ℕ, List, [], ◌∷◌, ◌++◌, Bool, false, if◌then◌else◌, ◌==◌, ◌&&◌}
use Rattle.sq_base.specs.declared.sort.Sort.{Sort}
use Rattle.sq_term.specs.declared.signature.FunDecl.{FunDecl}
use Rattle.sq_term.specs.declared.term.Idx.{Idx}
use Rattle.sq_term.specs.declared.term.Macro.{Macro}
use Rattle.sq_term.specs.Formulas.{truth}
use Rattle.sq_term.specs.Signatures.{function_role, is_hash, is_keyed, is_pk, is_equality}
use Rattle.sq_term.specs.Syntax.{TsTree, TermTree, name, fun, macro, schema, diff, le, ts_eq}
use Rattle.sq_term.specs.Syntax.{idx_eq, happens, all, some, find, TermTrees, nil, cons}
use Rattle.sq_occ.specs.Entries.{bare, public, key, OccTree, place, with_indices}

abbrev pub is_name : ℕ → TermTree → Bool
is_name n (name k is) = k == n
is_name n t = false

abbrev pub name_args : TermTree → List Idx
name_args (name k is) = is
name_args t = []

-- the arguments are a message and the name
abbrev pub is_keyed_by : ℕ → TermTrees → Bool
is_keyed_by n (cons m (cons k nil)) = is_name n k
is_keyed_by n ts = false

-- the name is the only argument
abbrev pub is_only_name : ℕ → TermTrees → Bool
is_only_name n (cons k nil) = is_name n k
is_only_name n ts = false

abbrev pub first_term : TermTrees → TermTree
first_term nil = truth
first_term (cons t ts) = t

-- the indices of the first and of the second argument
abbrev pub first_args : TermTrees → List Idx
first_args nil = []
first_args (cons t ts) = name_args t

abbrev pub second_args : TermTrees → List Idx
second_args nil = []
second_args (cons t ts) = first_args ts

-- The places of name n under the binders b, with what is listed where the term reads a macro and
-- where a schema variable stands. `side` says that the term is a side of an equation. A term of one
-- side holds no difference.
module _ (funs : List FunDecl) (n : ℕ) (at_macro : List Sort → Macro → TsTree → List OccTree)
    (at_schema : List Sort → ℕ → List OccTree) where
  abbrev mutual
    pub walk : List Sort → Bool → TermTree → List OccTree
    walk b side (name k is) = if k == n then place n is bare b ∷ [] else []
    walk b side (fun f is ts) =
        if is_keyed (function_role funs f) && is_keyed_by n ts
        then place n (second_args ts)
        (key f (first_term ts) (side && is_hash (function_role funs f))) b
        ∷ walk_first b ts
        else (if is_pk (function_role funs f) && is_only_name n ts
        then place n (first_args ts) public b ∷ []
        else walk_all b (is_equality f) ts)
    walk b side (macro m t) = at_macro b m t
    walk b side (schema k) = at_schema b k
    walk b side (diff x y) = walk b side x ++ walk b side y
    walk b side (le t s) = []
    walk b side (ts_eq t s) = []
    walk b side (idx_eq i j) = []
    walk b side (happens t) = []
    walk b side (all s body) = walk (s ∷ b) false body
    walk b side (some s body) = walk (s ∷ b) false body
    walk b side (find c test found other) =
        walk (with_indices c b) false test
        ++ (walk (with_indices c b) false found ++ walk b false other)

    pub walk_first : List Sort → TermTrees → List OccTree
    walk_first b nil = []
    walk_first b (cons t ts) = walk b false t

    pub walk_all : List Sort → Bool → TermTrees → List OccTree
    walk_all b side nil = []
    walk_all b side (cons t ts) = walk b side t ++ walk_all b side ts
