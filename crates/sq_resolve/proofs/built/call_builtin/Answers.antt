use Rattle.std.proofs.Common.{◌≡◌, List, [], ap, ◌∙◌, subst}
use Rattle.sq_term.specs.declared.term.Idx.{Idx}
use Rattle.sq_term.specs.Builtins.{builtin_kind}
use Rattle.sq_term.specs.Symbols.{Kind, kind_of}
use Rattle.sq_term.specs.Syntax as t
use Rattle.sq_term.specs.View.{row}
use Rattle.sq_term.proofs.KindNumbers.{kind_of-function_number}
use Rattle.sq_resolve.specs.Built.{IsBuilt}
use Rattle.sq_resolve.proofs.built.call_builtin.Goals as goal

pub returns : goal.returns
returns c = λ ts h.
    let same : kind_of c.number.result ≡ builtin_kind c.args.function =
    ap kind_of c.number.ensures ∙ kind_of-function_number (builtin_kind c.args.function) in
    subst (λ (k : Kind). IsBuilt c.call.result (t.fun k [] (row ts))) same
    (subst (λ (is : List Idx). IsBuilt c.call.result (t.fun (kind_of c.number.result) is (row ts)))
    c.new.ensures (c.call.ensures ts h))
