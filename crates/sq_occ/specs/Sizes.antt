-- How large an occurrence list is, and how large it may be.
use Rattle.std.specs.Prelude.{ℕ, ◌+◌, nat_le, List, [], ◌∷◌, length, if◌then◌else◌}
use Rattle.std.specs.Prelude.{Result, Ok, Err}
use Rattle.sq_term.specs.declared.signature.FunDecl.{FunDecl}
use Rattle.sq_term.specs.declared.term.Side.{Side}
use Rattle.sq_term.specs.Measure.{size}
use Rattle.sq_term.specs.Syntax.{TermTree}
use Rattle.sq_term.specs.Systems.{SystemTree}
use Rattle.sq_system.specs.Limits.{most_nodes}
use Rattle.sq_system.specs.declared.fault.OccFault.{OccFault}
use Rattle.sq_system.specs.declared.fault.OccFault.TheVariants.{HasSchema, TooLarge}
use Rattle.sq_occ.specs.Entries.{RoleTree, bare, public, key, OccTree}
use Rattle.sq_occ.specs.Searches.{places, holds_schema}

abbrev pub role_nodes : RoleTree → ℕ
role_nodes bare = 0
role_nodes public = 0
role_nodes (key f m test) = size m

-- the nodes of an entry are its indices and those of its message and of its guard
abbrev pub place_nodes : OccTree → ℕ
place_nodes u = length u.args + (role_nodes u.role + size u.guard)

abbrev pub list_nodes : List OccTree → ℕ
list_nodes [] = 0
list_nodes (u ∷ us) = place_nodes u + list_nodes us

-- HasSchema where a schema variable stands in the term; TooLarge where its list has too many nodes
abbrev pub within_nodes : List OccTree → Result (List OccTree) OccFault
within_nodes us = if nat_le (list_nodes us) most_nodes then Ok us else Err TooLarge

abbrev pub outcome : List FunDecl → SystemTree → ℕ → Side → TermTree
    → Result (List OccTree) OccFault
outcome funs s n side t =
    if holds_schema t then Err HasSchema else within_nodes (places funs s n side t)
