use Rattle.std.proofs.Common.{◌∙◌}
use Rattle.sq_term.proofs.KindNumbers.{function_number-kind_of}
use Rattle.sq_print.specs.Names.{function_word}
use Rattle.sq_print.proofs.Words.{function_is}
use Rattle.sq_print.proofs.scope.Scope.function.Goals as goal

pub returns-in-None : goal.returns-in-None
unfolding function_word
returns-in-None c =
    let s = c.args.self.now in
    let own = c.in-None.ensures in
    rw (← own, function_number-kind_of c.args.f)
    (c.declared.ensures ∙ function_is s.table.now s.system s.spellings.now c.args.f s.told)
