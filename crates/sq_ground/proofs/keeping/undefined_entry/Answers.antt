use Rattle.sq_term.specs.Symbols.{empty, falsity}
use Rattle.sq_term.specs.GroundFormulas.{constant}
use Rattle.sq_term.specs.Records.{at_undefined}
use Rattle.sq_ground.specs.Calls.Readings.{kept}
use Rattle.sq_ground.proofs.AlikeTerms.{alike_record, alike_same}
use Rattle.sq_ground.proofs.keeping.undefined_entry.Goals as goal

pub returns : goal.returns
returns c =
    let r = c.args.room in
    alike_record r _ (record at_undefined { input = kept c.args.input })
    (alike_same r (kept c.args.input))
    (c.in_ok-keep.ensures r (constant empty) c.empty_message.ensures)
    (c.in_ok-keep-2.ensures r (constant falsity) c.truth.ensures)
    (c.in_ok-keep-3.ensures r (constant falsity) c.truth-2.ensures)
    (c.in_ok-keep-4.ensures r (constant empty) c.empty_message-2.ensures)
