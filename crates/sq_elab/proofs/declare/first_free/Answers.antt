use Rattle.std.proofs.Common.{◌≡◌, ◌∙◌, sym, ap, None, not}
use Rattle.sq_sym.specs.Declarations.{found}
use Rattle.sq_sym.specs.Candidates.{candidate}
use Rattle.sq_elab.proofs.DeclareLaws.{fresh-at, none-there}
use Rattle.sq_elab.proofs.declare.first_free.Goals as goal

pub returns-then-is_none-clause-name : goal.returns-then-is_none-clause-name
returns-then-is_none-clause-name c =
    let table = c.args.table.now in
    let name = c.args.name.now in
    let number = c.candidates.number in
    let free : found c.as_str-in-candidates.result.now table ≡ None =
    sym c.find.ensures.first
    ∙ none-there c.find.result (c.is_none.ensures ∙ ap not c.if-is_none.true) in
    let is : c.in_ok-text.text ≡ candidate name number =
    c.in_ok-text.ensures ∙ ap (λ n. candidate n number) c.as_str.ensures in
    let at : c.as_str-in-candidates.result.now ≡ candidate name number = c.as_str-in-candidates.ensures ∙ is in
    is
    ∙ fresh-at table name number c.len-declared.ensures.table.within c.candidates.invariant
    (ap (λ x. found x table) (sym at) ∙ free)
