use Rattle.std.proofs.Common.{[], ap, ◌∙◌}
use Rattle.sq_term.specs.View.{term_tree}
use Rattle.sq_print.specs.Written.{wrote}
use Rattle.sq_print.specs.Scopes.{names_of}
use Rattle.sq_print.proofs.Behind.{behind}
use Rattle.sq_print.proofs.lines.write_whole.Goals as goal

pub returns-clause-text : goal.returns-clause-text
returns-clause-text c =
    let ns = names_of c.args.scope.now in
    let tree = term_tree c.args.t.now in
    c.in_ok-write.ensures.text
    ∙ (ap (λ a. wrote ns a c.args.out.now tree) c.requires.none
    ∙ behind ns [] c.args.out.now tree)

pub returns-clause-kept : goal.returns-clause-kept
returns-clause-kept c =
    record {
      none = c.in_ok-write.ensures.kept.around
          ∙ c.requires.none;
      is_around = c.in_ok-write.ensures.kept.is_around;
    }
