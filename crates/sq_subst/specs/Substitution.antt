-- Arguments in the place of free variables, of variables that binders around the term would bind,
-- and terms in the place of
-- schema variables, all at once: what was put in is not looked at again.
use Rattle.std.specs.Prelude.{ℕ, ◌-◌, List, [], ◌∷◌, Option, Some, None, slice_get}
use Rattle.std.specs.Prelude.{if◌then◌else◌, nat_le, unwrap_or}
use Rattle.sq_term.specs.declared.term.Idx.{Idx}
use Rattle.sq_term.specs.declared.term.Idx.TheVariants.{Free, Bound}
use Rattle.sq_term.specs.Syntax.{TsTree, free, bound, TermTree, schema}
use Rattle.sq_term.specs.Arguments.{ArgTree, an_index, a_time}
use Rattle.sq_subst.specs.Leaves.{Leaves, keeping, map_term}

-- where the argument is of the other sort, or there is none, the variable stays
abbrev pub index_or : Option ArgTree → Idx → Idx
index_or (Some (an_index i)) j = i
index_or (Some (a_time t)) j = j
index_or None j = j

abbrev pub time_or : Option ArgTree → TsTree → TsTree
time_or (Some (a_time t)) s = t
time_or (Some (an_index i)) s = s
time_or None s = s

-- the argument for bound variable k below m binders: the first is for the innermost of the binders
-- around the term
abbrev pub past : List ArgTree → ℕ → ℕ → Option ArgTree
past outer m k = if nat_le m k then slice_get outer (k - m) else None

abbrev pub put_index : List ArgTree → List ArgTree → ℕ → Idx → Idx
put_index vars outer m (Free k) = index_or (slice_get vars k) (Free k)
put_index vars outer m (Bound k) = index_or (past outer m k) (Bound k)

abbrev pub substitution : List ArgTree → List ArgTree → List TermTree → Leaves
substitution vars outer schemas = record keeping {
  index = put_index vars outer;
  free_time = λ m k. time_or (slice_get vars k) (free k);
  bound_time = λ m k. time_or (past outer m k) (bound k);
  message = λ m k. unwrap_or (slice_get schemas k) (schema k);
}

-- the outermost bound variable replaced
abbrev pub opened : ArgTree → TermTree → TermTree
opened w body = map_term (substitution [] (w ∷ []) []) 0 body

-- free variable k becomes vars[k], and schema variable k becomes schemas[k]
abbrev pub instance_of : List ArgTree → List TermTree → TermTree → TermTree
instance_of vars schemas t = map_term (substitution vars [] schemas) 0 t
