use Rattle.std.proofs.Common.{sym, subst}
use Rattle.std.specs.Str.{IsValidUpTo}
use Rattle.sq_lex.proofs.Answering.{found_answers}
use Rattle.sq_lex.proofs.lexer.lex.Goals as goal

pub returns-in-Ok : goal.returns-in-Ok
returns-in-Ok c =
    let text = c.in-Ok.ensures.cases in
    let read = c.sentences.ensures in
    let found = found_answers c.args.bytes.now _ text.0 text.1 c.sentences.result read in
    record { sentences = found.0; fault = found.1 }

pub returns-in-Err : goal.returns-in-Err
returns-in-Err c =
    let valid = c.in-Err.ensures.cases.1 in
    let place = subst (IsValidUpTo c.args.bytes.now) (sym c.valid_up_to.ensures) valid in
    record { sentences = tt; fault = λ other. place }
