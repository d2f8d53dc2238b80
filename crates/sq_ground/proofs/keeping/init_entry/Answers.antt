use Rattle.sq_term.specs.Symbols.{empty, truth}
use Rattle.sq_term.specs.GroundFormulas.{constant}
use Rattle.sq_term.specs.Records.{at_init}
use Rattle.sq_ground.proofs.AlikeTerms.{alike_record}
use Rattle.sq_ground.proofs.keeping.init_entry.Goals as goal

pub returns : goal.returns
returns c =
    let r = c.args.room in
    alike_record r _ at_init (c.in_ok-keep.ensures r (constant empty) c.empty_message.ensures)
    (c.in_ok-keep-2.ensures r (constant empty) c.empty_message-2.ensures)
    (c.in_ok-keep-3.ensures r (constant truth) c.truth.ensures)
    (c.in_ok-keep-4.ensures r (constant truth) c.truth-2.ensures)
    (c.in_ok-keep-5.ensures r (constant empty) c.empty_message-3.ensures)
