use Rattle.std.proofs.Common.{◌∙◌}
use Rattle.sq_print.specs.Names.{action_word}
use Rattle.sq_print.proofs.Words.{action_is}
use Rattle.sq_print.proofs.scope.Scope.action.Goals as goal

pub returns : goal.returns
unfolding action_word
returns c = let s =
    c.args.self.now in c.declared.ensures
    ∙ action_is s.table.now s.system s.spellings.now c.args.a s.told
