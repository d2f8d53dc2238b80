use Rattle.std.proofs.Common.{sym, subst}
use Rattle.sq_sym.proofs.Entries.{found_from}
use Rattle.sq_sym.proofs.Names.{Stands, Stands-found}
use Rattle.sq_sym.proofs.table.Table.find.Goals as goal

pub returns-in-Some-clause-first : goal.returns-in-Some-clause-first
returns-in-Some-clause-first c =
    rw (← c.self.view_is)
    (found_from c.args.name.now c.self.inside.symbols.entries _ _ c.in-Some.ensures.index
    c.in-Some.ensures.value)

pub returns-in-Some-clause-stands : goal.returns-in-Some-clause-stands
returns-in-Some-clause-stands c =
    rw (← c.self.view_is)
    (subst (Stands c.args.name.now _)
    (sym (found_from c.args.name.now c.self.inside.symbols.entries _ _ c.in-Some.ensures.index
    c.in-Some.ensures.value)) (Stands-found c.args.name.now _))

pub returns-in-None-clause-first : goal.returns-in-None-clause-first
returns-in-None-clause-first c =
    rw (← c.self.view_is)
    (found_from c.args.name.now c.self.inside.symbols.entries _ _ c.in-None.ensures.index
    c.in-None.ensures.value)

pub returns-in-None-clause-stands : goal.returns-in-None-clause-stands
returns-in-None-clause-stands c =
    rw (← c.self.view_is)
    (subst (Stands c.args.name.now _)
    (sym (found_from c.args.name.now c.self.inside.symbols.entries _ _ c.in-None.ensures.index
    c.in-None.ensures.value)) (Stands-found c.args.name.now _))
