use Rattle.std.proofs.Common.{◌≡◌, length, take, sym, ◌∙◌, refl, ap, subst, arith, length-take}
use Rattle.std.proofs.lemmas.List.{take-map}
use Rattle.sq_sym.specs.Declarations.{seen, NamesDiffer}
use Rattle.sq_sym.proofs.Names.{NamesDiffer-take}
use Rattle.sq_sym.proofs.table.Table.truncate.Goals as goal

pub invariant_of-self : goal.invariant_of-self
invariant_of-self c =
    let es = c.self.inside.symbols.entries in
    let is : seen c.truncate.new.self.entries ≡ take c.args.len (seen es) =
    ap seen c.truncate.ensures.entries ∙ sym (take-map _ c.args.len es) in (
      omega (arith, ap length c.truncate.ensures.entries, length-take c.args.len es),
      subst
          NamesDiffer (sym is) (NamesDiffer-take c.args.len (seen es) c.self.invariant.1),
    )

pub returns : goal.returns
returns c = ap seen c.truncate.ensures.entries
    ∙ (sym (take-map _ c.args.len c.self.inside.symbols.entries) ∙ rw c.self.view_is refl)
