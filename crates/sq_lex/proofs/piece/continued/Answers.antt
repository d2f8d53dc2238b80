use Rattle.std.proofs.Common.{sym, ◌∙◌, arith}
use Rattle.std.specs.Str.Iter.{chars_rest}
use Rattle.std.proofs.lemmas.Str.{IsUtf8-past_char}
use Rattle.sq_lex.proofs.Names.{continued_more, continued_no_more, continued_end, length_past_char}
use Rattle.sq_lex.proofs.piece.continued.Goals as goal

pub returns-then-not-is_xid_continue : goal.returns-then-not-is_xid_continue
returns-then-not-is_xid_continue c =
    let step = c.in-Some.ensures.steps.0 in
    let test = sym c.is_xid_continue.ensures.value ∙ c.if-not-is_xid_continue.true in
    let none = continued_no_more _ _ _ c.chars.invariant.1 step test in
    record { value = omega arith; within = omega arith }

pub chars-preserved : goal.chars-preserved
chars-preserved c =
    let step = c.in-Some.ensures.steps.0 in
    let test = sym c.is_xid_continue.ensures.value ∙ c.if-not-is_xid_continue.false in
    let more = continued_more _ _ _ c.chars.invariant.1 step test in
    let long = length_past_char _ _ _ step in
    let len = c.len_utf8-len.ensures.value in
    (omega arith, IsUtf8-past_char _ _ _ c.chars.invariant.1 step, omega arith)

pub returns : goal.returns
returns c =
    let none = continued_end (chars_rest c.chars.rest) c.in_default.ensures.steps.0.0 in
    record { value = omega arith; within = omega arith }
