use Rattle.std.proofs.Common.{◌≡◌, ◌-◌, ◌∙◌, List, take, drop, length, ap, sym, subst, option_map}
use Rattle.sq_run.specs.declared.formula.Link.{Link}
use Rattle.sq_run.specs.Formulas.{chain_of, function_of}
use Rattle.sq_run.proofs.Chains.{behind, two_words}
use Rattle.sq_run.proofs.formula.chain_of.Goals as goal

pub names-preserved : goal.names-preserved
names-preserved c =
    let rest = c.names.rest.now in
    subst (λ (links : List Link). option_map (behind links)
    (chain_of c.args.table.now (take (length rest - 2) (drop 2 rest)))
    ≡ chain_of c.args.table.now c.args.words.now) (sym c.in_ok-push-in-Some-Some.ensures.ok)
    (two_words c.args.table.now c.names.links rest c.name-item-in-names.result c.sign-item.result
    c.in-Some-Some.function c.in-Some-Some.connective c.in-len2-up.len_at_least
    c.name-item-in-names.is c.sign-item.is
    (c.in-Some-Some.ensures
    ∙ ap (function_of c.args.table.now) c.as_str-in-len2-up.ensures) c.in-Some-Some.ensures'
    ∙ c.names.invariant)
