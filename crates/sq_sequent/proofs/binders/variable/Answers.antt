use Rattle.std.proofs.Common.{◌≡◌, ◌⊎◌, inl, inr, ap, ◌∙◌, sym, ℕ}
use Rattle.sq_base.specs.declared.sort.Sort.{Sort}
use Rattle.sq_base.specs.declared.sort.Sort.TheVariants.{Message, Boolean, Timestamp}
use Rattle.sq_term.specs.declared.term.Ts.TheVariants as ts
use Rattle.sq_term.specs.Arguments.{a_time}
use Rattle.sq_term.specs.View.{ts_tree}
use Rattle.sq_term.proofs.Views.{ts_tree-Free}
use Rattle.sq_sequent.specs.Premises.{variable}
use Rattle.sq_sequent.proofs.binders.variable.Goals as goal

no_index : (s : Sort) (k : ℕ) → (s ≡ Message) ⊎ ((s ≡ Boolean) ⊎ (s ≡ Timestamp))
    → a_time (ts_tree (ts.Free k)) ≡ variable s k
no_index s k (inl e) = ap a_time (ts_tree-Free k) ∙ ap (λ x. variable x k) (sym e)
no_index s k (inr (inl e)) = ap a_time (ts_tree-Free k) ∙ ap (λ x. variable x k) (sym e)
no_index s k (inr (inr e)) = ap a_time (ts_tree-Free k) ∙ ap (λ x. variable x k) (sym e)

pub returns-in-Message : goal.returns-in-Message
returns-in-Message c = no_index c.args.sort c.args.number c.in-Message.is
