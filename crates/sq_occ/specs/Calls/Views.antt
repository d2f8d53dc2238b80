-- Occurrences as definitions see them.
use Rattle.std.specs.Prelude.{List, map, reverse}
use Rattle.sq_term.specs.Symbols.{kind_of}
use Rattle.sq_term.specs.View.{term_tree}
use Rattle.sq_system.specs.declared.fault.Occ.{Occ}
use Rattle.sq_system.specs.declared.fault.Role.{Role}
use Rattle.sq_system.specs.declared.fault.Role.TheVariants as role
use Rattle.sq_occ.specs.Entries.{RoleTree, bare, public, key, OccTree}

abbrev pub role_tree : Role → RoleTree
role_tree role.Bare = bare
role_tree role.Pub = public
role_tree (role.Key k) = key (kind_of k.fun) (term_tree k.arg) k.test

-- the program's list of binders begins with the outermost
abbrev pub occ_tree : Occ → OccTree
occ_tree o = record {
  name = o.name;
  args = o.args;
  role = role_tree o.role;
  bound = reverse o.bound;
  guard = term_tree o.guard;
}

abbrev pub occ_trees : List Occ → List OccTree
occ_trees os = map occ_tree os
