use Rattle.std.proofs.Common.{◌≡◌, ◌+◌, ◌-◌, arith, subst, drop}
use Rattle.sq_print.specs.Spellings.{TellsFrom}
use Rattle.sq_print.proofs.Noted.{noted}
use Rattle.sq_print.proofs.spelling.Spellings.of.Goals as goal

pub declarations-preserved : goal.declarations-preserved
declarations-preserved c =
    let at = c.declarations.at in
    let ds = c.args.table.now in
    let back : at ≡ (at - 1) + 1 = omega arith in
    let told =
    subst (λ n. TellsFrom n (drop n ds) c.args.system c.declarations.spellings) back
    c.declarations.invariant.1 in (
      omega arith,
      noted (at - 1) ds c.args.system c.declarations.spellings c.note.new.self
          (omega arith) told (rw c.symbol_at.ensures at c.in_ok-note.ensures),
    )
