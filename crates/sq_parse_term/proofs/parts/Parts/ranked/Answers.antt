use Rattle.std.proofs.Common.{arith}
use Rattle.sq_token.specs.Sign.{signs}
use Rattle.sq_ast.specs.View.{formula_tree}
use Rattle.sq_parse_term.specs.Parse.{parse}
use Rattle.sq_parse_term.proofs.Turns.{err_reads}
use Rattle.sq_parse_term.proofs.Ranks.{term_got, term_fails, rank_next, rank_fails}
use Rattle.sq_parse_term.proofs.parts.Parts.ranked.Goals as goal

pub loop-below-init : goal.loop-below-init
loop-below-init g c = term_got (parse c.args.self.now.depth)
    (signs c.args.tokens.now) _ _ c.in_ok-left.ensures

pub returns-in_err-left : goal.returns-in_err-left
returns-in_err-left g c = err_reads formula_tree _ _ _ c.from_residual.ensures.1
    (term_fails (parse c.args.self.now.depth)
    (signs c.args.tokens.now) _ c.args.rank c.in_err-left.ensures)

pub loop-below-preserved : goal.loop-below-preserved
loop-below-preserved g c = rank_next (parse c.args.self.now.depth)
    (signs c.args.tokens.now) c.loop-below.below _ _ c.loop-below.invariant _ _
    c.in_ok-longer.ensures

pub returns-in_err-longer : goal.returns-in_err-longer
returns-in_err-longer g c = err_reads formula_tree _ _ _ c.from_residual-in_err-longer.ensures.1
    (rank_fails (parse c.args.self.now.depth)
    (signs c.args.tokens.now) c.loop-below.below _ _ c.loop-below.invariant _ c.args.rank
    (omega arith) c.in_err-longer.ensures)
