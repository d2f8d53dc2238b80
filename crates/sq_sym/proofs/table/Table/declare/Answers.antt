use Rattle.std.proofs.Common.{IsSome, refl, sym, ◌∙◌, subst, arith}
use Rattle.std.proofs.lemmas.Bool.{false≢true}
use Rattle.sq_sym.specs.Declarations.{found, seen, NamesDiffer}
use Rattle.sq_sym.proofs.Entries.{is_found}
use Rattle.sq_sym.proofs.Names.{none_from_is_some, NamesDiffer-push}
use Rattle.sq_sym.proofs.table.Table.declare.Goals as goal
use Rattle.sq_sym.proofs.table.Table.declare.Goals.{in-Ok, in-Err}

pub returns-then-contains_key-clause-twice : goal.returns-then-contains_key-clause-twice
returns-then-contains_key-clause-twice c = (
  λ h. subst (λ ds. IsSome (found c.args.name.now ds)) c.self.view_is
      (is_found c.args.name.now c.self.inside.symbols.entries
      ∙ (sym c.contains_key.ensures ∙ c.if-contains_key.true)),
  λ h. refl,
)

pub returns-then-at-clause-twice : goal.returns-then-at-clause-twice
returns-then-at-clause-twice c =
    let absent = is_found c.args.name.now c.self.inside.symbols.entries
    ∙ (sym c.contains_key.ensures ∙ c.if-contains_key.false) in (
      λ h. cc,
      λ h. absurd
          (false≢true (sym absent ∙ subst (λ ds. IsSome (found c.args.name.now ds))
          (sym c.self.view_is) h)),
    )

pub invariant_of-self : goal.invariant_of-self
invariant_of-self c =
    let es = c.self.inside.symbols.entries in
    let absent = none_from_is_some _
    (is_found c.args.name.now es ∙ (sym c.contains_key.ensures ∙ c.if-contains_key.false)) in
    elim c.match-add.branch [
      | in-Ok w ↦ (
        omega (arith, w.in-Ok.ensures.length),
        subst NamesDiffer (sym w.in-Ok.ensures.ok)
            (NamesDiffer-push (seen es) (c.args.name.now, c.args.what) c.self.invariant.1 absent),
      )
      | in-Err w ↦ rw w.in-Err.ensures.err c.self.invariant
    ]

pub returns-clause-twice : goal.returns-clause-twice
returns-clause-twice c =
    let absent = is_found c.args.name.now c.self.inside.symbols.entries
    ∙ (sym c.contains_key.ensures ∙ c.if-contains_key.false) in (
      elim c.match-add.branch
          [ in-Ok w ↦ rw w.result-is (λ h. cc) | in-Err w ↦ rw w.result-is (λ h. cc) ],
      λ h. absurd
          (false≢true (sym absent ∙ subst (λ ds. IsSome (found c.args.name.now ds))
          (sym c.self.view_is) h)),
    )
