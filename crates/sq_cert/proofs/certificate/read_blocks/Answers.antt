use Rattle.std.proofs.Common.{rules, ◌≡◌, ◌≢◌, ◌+◌, length, codes, arith}
use Rattle.sq_cert.proofs.Stops.{blocks-short, blocks-end, blocks-trailing, blocks-refused}
use Rattle.sq_cert.proofs.Stops.{blocks-more}
use Rattle.sq_cert.proofs.Stops.{refusal-stops}
use Rattle.sq_cert.proofs.certificate.read_blocks.Goals as goal

pub returns-in_err-line-clause-refused : goal.returns-in_err-line-clause-refused
returns-in_err-line-clause-refused c =
    refusal-stops c.from_residual.result _ c.in_err-line.field-0.0 c.from_residual.ensures.1
    (blocks-short _ _ _ _ c.in_err-line.field-0.0 c.goals.invariant.takes
    c.in_err-line.ensures.line.0 c.in_err-line.ensures.line.1)

pub returns-then-eq-clause-ok : goal.returns-then-eq-clause-ok
returns-then-eq-clause-ok c =
    let word : c.in_ok-line.line.now ≡ codes "end" = search rules in
    blocks-end c.finished.result _ _ _ _ _ _ _ c.goals.invariant.takes
    c.in_ok-line.ensures.line.0 word c.in_ok-line.ensures.counted c.finished.ensures

pub returns-then-eq-clause-refused : goal.returns-then-eq-clause-refused
returns-then-eq-clause-refused c =
    let word : c.in_ok-line.line.now ≡ codes "end" = search rules in
    blocks-trailing c.finished.result _ _ _ _ _ _ _ c.goals.invariant.takes
    c.in_ok-line.ensures.line.0 word c.in_ok-line.ensures.counted c.finished.ensures

pub returns-in_err-read_block-clause-refused : goal.returns-in_err-read_block-clause-refused
returns-in_err-read_block-clause-refused c =
    let other : c.in_ok-line.line.now ≢ codes "end" = search rules in
    refusal-stops c.from_residual-in_err-read_block.result _ c.in_err-read_block.field-0.0
    c.from_residual-in_err-read_block.ensures.1
    (blocks-refused _ _ _ _ _ _ _ c.in_err-read_block.field-0.0 c.goals.invariant.takes
    c.in_ok-line.ensures.line.0 c.in_ok-line.ensures.line.1 other c.in_ok-line.ensures.counted
    c.in_err-read_block.ensures.refused)

pub goals-preserved : goal.goals-preserved
goals-preserved c =
    let block = c.in_ok-read_block in
    let count : c.read_block.new.lines.taken ≡ c.goals.lines.taken + 1 + length block.field-0.1 =
    omega (arith, block.ensures.counted, c.in_ok-line.ensures.counted) in
    record {
      takes = blocks-more _ _ block.field-0 _ _ _ _ _ _ _ c.goals.invariant.takes
          c.in_ok-line.ensures.line.0 block.ensures.block c.in_ok-push.ensures.ok count;
      within = omega (
        arith,
        block.ensures.within,
        c.in_ok-line.ensures.within,
        c.goals.invariant.within,
      );
    }
