use Rattle.std.proofs.Common.{◌∙◌}
use Rattle.sq_print.specs.Names.{name_word}
use Rattle.sq_print.proofs.Words.{name_is}
use Rattle.sq_print.proofs.scope.Scope.name.Goals as goal

pub returns : goal.returns
unfolding name_word
returns c = let s =
    c.args.self.now in c.declared.ensures
    ∙ name_is s.table.now s.system s.spellings.now c.args.n s.told
