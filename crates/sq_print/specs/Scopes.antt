-- The names that a scope holds.
use Rattle.sq_print.specs.declared.scope.Scope.{Scope}
use Rattle.sq_print.specs.Names.{Names}

abbrev pub names_of : Scope → Names
names_of s =
    record { schemas = s.schemas.now; vars = s.vars.now; system = s.system; table = s.table.now }
