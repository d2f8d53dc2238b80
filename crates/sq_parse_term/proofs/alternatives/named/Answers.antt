use Rattle.std.proofs.Common.{◌≡◌, [], ◌∷◌, ◌++◌, ◌+◌, ◌<◌, take, length, get_or, sym, ap, ◌∙◌}
use Rattle.std.proofs.Common.{arith}
use Rattle.std.proofs.lemmas.List.{take_more}
use Rattle.sq_ast.specs.Tree.{name}
use Rattle.sq_parse_term.proofs.Turns.{named_turn}
use Rattle.sq_parse_term.proofs.alternatives.named.Goals as goal

pub loop-name-preserved : goal.loop-name-preserved
loop-name-preserved c =
    let names = c.args.names in
    let i = c.loop-name.name-index in
    let item = c.name-item.result in
    let same = c.as_slice-name-items.ensures in
    let at : get_or names i item ≡ item = sym (rw same at c.name-item.is) in
    let within : i < length names = omega (arith, ap length same) in
    let one_more : take (i + 1) names
    ≡ take i names ++ item ∷ [] = take_more names i item within ∙ ap
    (λ z. take i names ++ z ∷ []) at in
    rw (c.in_ok-push.ensures.ok, one_more)
    (named_turn c.loop-name.found c.name.result (take i names) item c.loop-name.invariant
    (c.name.ensures ∙ ap name c.in_ok-copy.ensures))
