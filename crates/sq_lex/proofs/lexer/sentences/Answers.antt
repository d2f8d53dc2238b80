use Rattle.std.proofs.Common.{map, ap, sym, ◌∙◌, arith}
use Rattle.sq_lex.specs.Lexemes.{line_of, lexeme_of}
use Rattle.sq_lex.specs.Lex.{joined, cut_all}
use Rattle.sq_lex.proofs.Fits.{spacing_fit, token_fit}
use Rattle.sq_lex.proofs.Gathering.{rest_more, line_more, gathered, first_kept, kind_kept}
use Rattle.sq_lex.proofs.Steps.{spacing_step, token_step}
use Rattle.sq_lex.proofs.lexer.sentences.Goals as goal

pub split_at-requires : goal.split_at-requires
split_at-requires c =
    (spacing_fit c.pieces.rest.now c.in-Spacing.n c.pieces.invariant.0 c.in-Spacing.ensures).1

pub pieces-smaller-in-Spacing : goal.pieces-smaller-in-Spacing
pieces-smaller-in-Spacing c =
    let text = c.pieces.invariant.0 in
    let fit = spacing_fit c.pieces.rest.now c.in-Spacing.n text c.in-Spacing.ensures in
    omega (arith, c.split_at.ensures.back_len, fit.0)

pub pieces-preserved-in-Spacing : goal.pieces-preserved-in-Spacing
pieces-preserved-in-Spacing c =
    let before = c.pieces.invariant in
    let piece = c.in-Spacing.ensures in
    let cut = c.split_at.ensures in
    let done = map line_of c.pieces.found.done in
    let tokens = map lexeme_of c.pieces.found.tokens in
    let read = spacing_step _ _ _ _ before.0 piece cut.back in (
      read.1,
      ap (λ r. joined done (cut_all c.args.text.now tokens r)) (sym read.0) ∙ before.1,
      rest_more _ _ _ _ _ before.2 cut.back,
      omega (arith, cut.back_len),
      line_more _ _ _ _ _ _ _ before.2 cut.front before.4 c.newlines-line.ensures.value,
      before.5,
    )

pub split_at-requires-in-Token : goal.split_at-requires-in-Token
split_at-requires-in-Token c =
    let text = c.pieces.invariant.0 in
    (token_fit c.pieces.rest.now c.in-Token.kind c.in-Token.n text c.in-Token.ensures).1

pub invariant_of-token : goal.invariant_of-token
invariant_of-token c =
    let text = c.in_ok-text-in-Token.ensures ∙ c.split_at-in-Token.ensures.front in
    record { of_kind = kind_kept _ _ _ _ c.pieces.invariant.0 c.in-Token.ensures text }

pub pieces-smaller : goal.pieces-smaller
pieces-smaller c =
    let text = c.pieces.invariant.0 in
    let fit = token_fit c.pieces.rest.now c.in-Token.kind c.in-Token.n text c.in-Token.ensures in
    omega (arith, c.split_at-in-Token.ensures.back_len, fit.0)

pub pieces-preserved : goal.pieces-preserved
pieces-preserved c =
    let before = c.pieces.invariant in
    let piece = c.in-Token.ensures in
    let cut = c.split_at-in-Token.ensures in
    let pushed = c.in_ok-push-in-Token.ensures in
    let source = c.args.text.now in
    let old = c.pieces.found in
    let new = c.push.new.self in
    let done = map line_of old.done in
    let tokens = map lexeme_of old.tokens in
    let text = c.in_ok-text-in-Token.ensures ∙ cut.front in
    let read = token_step _ _ _ _ _ _ before.0 piece text cut.back in (
      read.1,
      gathered source old new _ c.pieces.line before.4 before.5 pushed.stop pushed.other _
          ∙ (ap (λ r. joined done (cut_all source tokens r)) (sym read.0) ∙ before.1),
      rest_more _ _ _ _ _ before.2 cut.back,
      omega (arith, cut.back_len),
      line_more _ _ _ _ _ _ _ before.2 cut.front before.4 c.newlines-line-in-Token.ensures.value,
      first_kept source old new _ c.pieces.line before.4 before.5 pushed.stop pushed.other,
    )
