-- The occurrence list of a name in a term: its places in the term itself and, where the term reads
-- a macro, in the conditions and outputs of all actions that may have come about by then.
use Rattle.std.specs.Prelude.{ℕ, zero, suc, ◌+◌, List, [], ◌∷◌, ◌++◌, map, length}
use Rattle.std.specs.Prelude.{Bool, true, false, ◌||◌}
use Rattle.sq_base.specs.declared.sort.Sort.{Sort}
use Rattle.sq_term.specs.declared.signature.FunDecl.{FunDecl}
use Rattle.sq_term.specs.declared.term.Idx.{Idx}
use Rattle.sq_term.specs.declared.term.Idx.TheVariants.{Free, Bound}
use Rattle.sq_term.specs.declared.term.Macro.{Macro}
use Rattle.sq_term.specs.declared.term.Macro.TheVariants.{Input, Output, Cond, Exec, Frame}
use Rattle.sq_term.specs.declared.term.Side.{Side}
use Rattle.sq_term.specs.declared.term.Side.TheVariants.{Left, Right, Both}
use Rattle.sq_term.specs.Syntax.{TsTree, free, bound, init, pred, action, TermTree, name, fun}
use Rattle.sq_term.specs.Syntax.{macro, schema, diff, le, ts_eq, idx_eq, happens, all, some, find}
use Rattle.sq_term.specs.Syntax.{TermTrees, nil, cons}
use Rattle.sq_term.specs.Systems.{ActionTree, SystemTree}
use Rattle.sq_subst.specs.Leaves.{map_term}
use Rattle.sq_subst.specs.Projection.{projected}
use Rattle.sq_subst.specs.Renaming.{binding, bound_index}
use Rattle.sq_occ.specs.Entries.{RoleTree, bare, public, key, OccTree, with_indices}
use Rattle.sq_occ.specs.Walks.{walk}

-- the variables of r binders, the outermost first, which have d binders within
abbrev pub binders : ℕ → ℕ → List Idx
binders d zero = []
binders d (suc r) = Bound (d + r) ∷ binders d r

-- under k more binders
abbrev pub lifted_idx : ℕ → Idx → Idx
lifted_idx k (Free i) = Free i
lifted_idx k (Bound i) = Bound (k + i)

abbrev pub lifted_ts : ℕ → TsTree → TsTree
lifted_ts k (free i) = free i
lifted_ts k (bound i) = bound (k + i)
lifted_ts k init = init
lifted_ts k (pred t) = pred (lifted_ts k t)
lifted_ts k (action n is) = action n (map (lifted_idx k) is)

-- up to where a macro looks: an input is made before its action comes about
abbrev pub reach : Macro → TsTree → TsTree
reach Input t = pred t
reach Output t = t
reach Cond t = t
reach Exec t = t
reach Frame t = t

-- a role in a body of r indices, as it is seen below d binders of the body: the indices are
-- variables of binders around it
abbrev pub bound_role : ℕ → ℕ → RoleTree → RoleTree
bound_role r d bare = bare
bound_role r d public = public
bound_role r d (key f m test) = key f (map_term (binding r Both) d m) test

-- A place in a body of action j, which has r indices, as it is met where macro m is read at t under
-- the binders b: these are above the action's indices, and those above the binders of the body.
abbrev pub in_action : ℕ → ℕ → List Sort → Macro → TsTree → OccTree → OccTree
in_action j r b m t u =
    let d : ℕ = length u.bound in
    record u {
      args = map (bound_index r d) u.args;
      role = bound_role r d u.role;
      bound = u.bound ++ with_indices r b;
      guard = le (action j (binders d r)) (lifted_ts (d + r) (reach m t));
    }

module _ (funs : List FunDecl) (n : ℕ) (side : Side) where
  -- In a condition or an output, on the side. Its macros are passed over: it reads inputs of its
  -- own line alone, and these are made of what lies earlier.
  abbrev pub body_places : TermTree → List OccTree
  body_places t = walk funs n (λ b m s. []) (λ b k. []) [] false (projected side t)

  abbrev pub action_places : ActionTree → List OccTree
  action_places a = body_places a.cond ++ body_places a.output

  -- in each action, the first of the list being number j
  abbrev pub in_actions : List Sort → Macro → TsTree → ℕ → List ActionTree → List OccTree
  in_actions b m t j [] = []
  in_actions b m t j (a ∷ rest) =
      map (in_action j a.arity b m t) (action_places a) ++ in_actions b m t (suc j) rest

  -- on the side, with what is listed where a schema variable stands
  abbrev pub side_places_with : (List Sort → ℕ → List OccTree) → SystemTree → TermTree
      → List OccTree
  side_places_with at_schema s t =
      walk funs n (λ b m t. in_actions b m t 0 s.actions) at_schema [] false (projected side t)

  abbrev pub side_places : SystemTree → TermTree → List OccTree
  side_places s t = side_places_with (λ b k. []) s t

-- both sides are searched one after the other
abbrev pub places : List FunDecl → SystemTree → ℕ → Side → TermTree → List OccTree
places funs s n Left t = side_places funs n Left s t
places funs s n Right t = side_places funs n Right s t
places funs s n Both t = side_places funs n Left s t ++ side_places funs n Right s t

-- a schema variable stands in the term, seen from a side or not
abbrev mutual
  pub holds_schema : TermTree → Bool
  holds_schema (name n is) = false
  holds_schema (fun f is ts) = hold_schema ts
  holds_schema (macro m t) = false
  holds_schema (schema k) = true
  holds_schema (diff x y) = holds_schema x || holds_schema y
  holds_schema (le t s) = false
  holds_schema (ts_eq t s) = false
  holds_schema (idx_eq i j) = false
  holds_schema (happens t) = false
  holds_schema (all s body) = holds_schema body
  holds_schema (some s body) = holds_schema body
  holds_schema (find c test found other) =
      holds_schema test || (holds_schema found || holds_schema other)

  pub hold_schema : TermTrees → Bool
  hold_schema nil = false
  hold_schema (cons t ts) = holds_schema t || hold_schema ts
