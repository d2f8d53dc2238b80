-- The walk as the program takes it: over a term of which one side is read, below the indices of an
-- action.
use Rattle.std.specs.Prelude.{ℕ, List, [], ◌∷◌, ◌++◌, map, length, Bool, true, false}
use Rattle.std.specs.Prelude.{if◌then◌else◌, ◌==◌, ◌&&◌, ◌||◌, Option, Some, None}
use Rattle.sq_base.specs.declared.sort.Sort.{Sort}
use Rattle.sq_term.specs.declared.signature.FunDecl.{FunDecl}
use Rattle.sq_term.specs.declared.signature.FunRole.{FunRole}
use Rattle.sq_term.specs.declared.term.Idx.{Idx}
use Rattle.sq_term.specs.declared.term.Macro.{Macro}
use Rattle.sq_term.specs.Signatures.{function_role, is_hash, is_keyed, is_pk, is_equality}
use Rattle.sq_term.specs.Symbols.{Kind}
use Rattle.sq_term.specs.Syntax.{TsTree, TermTree, name, fun, macro, schema, diff, le, ts_eq}
use Rattle.sq_term.specs.Syntax.{idx_eq, happens, all, some, find, TermTrees, nil, cons}
use Rattle.sq_subst.specs.Leaves.{map_term}
use Rattle.sq_subst.specs.Renaming.{binding, bound_index}
use Rattle.sq_occ.specs.Entries.{RoleTree, bare, public, key, OccTree, place, with_indices}
use Rattle.sq_occ.specs.Walks.{first_term}
use Rattle.sq_occ.specs.Listed.{side_of}

-- the places in the bodies of an action, below its indices
pub record ActionPlaces : Type 0 where
  pub action : ℕ
  pub arity : ℕ
  pub places : List OccTree

-- what is searched for, on which side; how many indices are bound around; what a macro lists
pub record Scan : Type 0 where
  pub funs : List FunDecl
  pub name : ℕ
  pub left : Bool
  pub arity : ℕ
  pub at_macro : List Sort → Macro → TsTree → List OccTree

-- the indices of the name, where the side of the term is the name
abbrev pub named : ℕ → Bool → TermTree → Option (List Idx)
named n left (name k is) = if k == n then Some is else None
named n left (diff x y) = if left then named n left x else named n left y
named n left _ = None

-- the side of the term reads a macro
abbrev mutual
  pub reads_macro : Bool → TermTree → Bool
  reads_macro left (name n is) = false
  reads_macro left (fun f is ts) = read_macro left ts
  reads_macro left (macro m t) = true
  reads_macro left (schema k) = false
  reads_macro left (diff x y) = if left then reads_macro left x else reads_macro left y
  reads_macro left (le t s) = false
  reads_macro left (ts_eq t s) = false
  reads_macro left (idx_eq i j) = false
  reads_macro left (happens t) = false
  reads_macro left (all s body) = reads_macro left body
  reads_macro left (some s body) = reads_macro left body
  reads_macro left (find c test found other) =
      reads_macro left test || (reads_macro left found || reads_macro left other)

  pub read_macro : Bool → TermTrees → Bool
  read_macro left nil = false
  read_macro left (cons t ts) = reads_macro left t || read_macro left ts

-- the indices of the name, where it is the key of an application, or the argument of a public key
abbrev pub keyed : ℕ → Bool → FunRole → TermTrees → Option (List Idx)
keyed n left role (cons m (cons k nil)) = if is_keyed role then named n left k else None
keyed n left role ts = None

abbrev pub only : ℕ → Bool → FunRole → TermTrees → Option (List Idx)
only n left role (cons k nil) = if is_pk role then named n left k else None
only n left role ts = None

abbrev pub at_name : Option (List Idx) → (List Idx → List OccTree) → List OccTree → List OccTree
at_name (Some is) f rest = f is
at_name None f rest = rest

module _ (S : Scan) where
  -- the place of the name under the binders b
  abbrev pub scanned : List Idx → RoleTree → List Sort → OccTree
  scanned is role b = place S.name (map (bound_index S.arity (length b)) is) role b

  -- the role of a key of this message, of which one side is kept
  abbrev pub key_of : Kind → TermTree → Bool → List Sort → RoleTree
  key_of f m test b = key f (map_term (binding S.arity (side_of S.left)) (length b) m) test

  abbrev pub key_role : Bool → Kind → TermTree → List Sort → RoleTree
  key_role equated f m b = key_of f m (equated && is_hash (function_role S.funs f)) b

  abbrev mutual
    pub scan : List Sort → Bool → TermTree → List OccTree
    scan b equated (name k is) = if k == S.name then scanned is bare b ∷ [] else []
    scan b equated (fun f is ts) =
        at_name (keyed S.name S.left (function_role S.funs f) ts)
        (λ js. scanned js (key_role equated f (first_term ts) b) b ∷ scan_first b ts)
        (at_name (only S.name S.left (function_role S.funs f) ts)
        (λ js. scanned js public b ∷ []) (scan_all b (is_equality f) ts))
    scan b equated (macro m t) = S.at_macro b m t
    scan b equated (schema k) = []
    scan b equated (diff x y) = if S.left then scan b equated x else scan b equated y
    scan b equated (le t s) = []
    scan b equated (ts_eq t s) = []
    scan b equated (idx_eq i j) = []
    scan b equated (happens t) = []
    scan b equated (all s body) = scan (s ∷ b) false body
    scan b equated (some s body) = scan (s ∷ b) false body
    scan b equated (find c test found other) =
        scan (with_indices c b) false test
        ++ (scan (with_indices c b) false found ++ scan b false other)

    pub scan_first : List Sort → TermTrees → List OccTree
    scan_first b nil = []
    scan_first b (cons t ts) = scan b false t

    pub scan_all : List Sort → Bool → TermTrees → List OccTree
    scan_all b equated nil = []
    scan_all b equated (cons t ts) = scan b equated t ++ scan_all b equated ts
