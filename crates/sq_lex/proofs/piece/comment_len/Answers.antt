use Rattle.std.proofs.Common.{sym, ◌∙◌, arith}
use Rattle.sq_lex.proofs.Comments.{opened, closed, passed}
use Rattle.sq_lex.proofs.piece.comment_len.Goals as goal

pub bytes-preserved-then-opens : goal.bytes-preserved-then-opens
bytes-preserved-then-opens c =
    let inside = c.bytes.inner in
    let first = c.in-Some.ensures.cases in
    let second = c.in-Some-split_first.ensures.cases in
    let opens = sym c.opens.ensures ∙ c.if-opens.true in (
      sym (opened inside c.bytes.len _ _ _ _ _ first.0 second.0 opens) ∙ c.bytes.invariant.0,
      omega (arith, first.1, second.1),
      omega arith,
    )

pub bytes-preserved-then-closes : goal.bytes-preserved-then-closes
bytes-preserved-then-closes c =
    let inside = c.bytes.inner in
    let first = c.in-Some.ensures.cases in
    let second = c.in-Some-split_first.ensures.cases in
    let opens = sym c.opens.ensures ∙ c.if-opens.false in
    let closes = sym c.closes.ensures ∙ c.if-closes.true in (
      sym (closed inside c.bytes.len _ _ _ _ _ first.0 second.0 opens closes (omega arith))
          ∙ c.bytes.invariant.0,
      omega (arith, first.1, second.1),
      omega arith,
    )

pub bytes-preserved : goal.bytes-preserved
bytes-preserved c =
    let inside = c.bytes.inner in
    let first = c.in-Some.ensures.cases in
    let second = c.in-Some-split_first.ensures.cases in
    let opens = sym c.opens.ensures ∙ c.if-opens.false in
    let closes = sym c.closes.ensures ∙ c.if-closes.false in (
      sym (passed inside c.bytes.len _ _ _ _ _ first.0 second.0 opens closes)
          ∙ c.bytes.invariant.0,
      omega (arith, first.1),
      omega arith,
    )
