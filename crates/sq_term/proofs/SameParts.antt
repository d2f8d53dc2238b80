-- `==` decides `≡` on sorts, sides, macros, indices, lists of indices and timestamps.
use Rattle.std.proofs.Common.{◌≡◌, Decides, List, ap, sym, refl, ◌∙◌}
use Rattle.std.specs.Cmp.Lexicographic.{pointwise, pointwise_decides}
use Rattle.std.proofs.lemmas.Bool.Decides.{Decides-eqb, Decides-like}
use Rattle.sq_base.specs.declared.sort.Sort.{Sort}
use Rattle.sq_base.specs.declared.sort.Sort.TheVariants.{Message, Boolean, Index, Timestamp}
use Rattle.sq_base.specs.contracts.sort.SortPartialEq.TheImpl as sort_eq
use Rattle.sq_term.specs.declared.term.Side.{Side}
use Rattle.sq_term.specs.declared.term.Side.TheVariants.{Left, Right, Both}
use Rattle.sq_term.specs.contracts.term.SidePartialEq.TheImpl as side_eq
use Rattle.sq_term.specs.declared.term.Macro.{Macro}
use Rattle.sq_term.specs.declared.term.Macro.TheVariants.{Input, Output, Cond, Exec, Frame}
use Rattle.sq_term.specs.contracts.term.MacroPartialEq.TheImpl as macro_eq
use Rattle.sq_term.specs.declared.term.Idx.{Idx}
use Rattle.sq_term.specs.declared.term.Idx.TheVariants.{Free, Bound}
use Rattle.sq_term.specs.contracts.term.IdxPartialEq.TheImpl as idx_eq
use Rattle.sq_term.specs.declared.term.Ts.{Ts}
use Rattle.sq_term.specs.View.{ts_tree}
use Rattle.sq_term.specs.TsEquality.{is_same_ts, is_same_ts_tree-decides}
use Rattle.sq_term.proofs.Inverse.{of_ts_tree, of_ts_tree_of}

pub sort-decides : (a b : Sort) → Decides (sort_eq.eq-value.it a b) (a ≡ b)
sort-decides Message Message = (λ e. refl, λ e. refl)
sort-decides Boolean Boolean = (λ e. refl, λ e. refl)
sort-decides Index Index = (λ e. refl, λ e. refl)
sort-decides Timestamp Timestamp = (λ e. refl, λ e. refl)
sort-decides _ _ = (λ e. cc, λ e. cc)

pub side-decides : (a b : Side) → Decides (side_eq.eq-value.it a b) (a ≡ b)
side-decides Left Left = (λ e. refl, λ e. refl)
side-decides Right Right = (λ e. refl, λ e. refl)
side-decides Both Both = (λ e. refl, λ e. refl)
side-decides _ _ = (λ e. cc, λ e. cc)

pub macro-decides : (a b : Macro) → Decides (macro_eq.eq-value.it a b) (a ≡ b)
macro-decides Input Input = (λ e. refl, λ e. refl)
macro-decides Output Output = (λ e. refl, λ e. refl)
macro-decides Cond Cond = (λ e. refl, λ e. refl)
macro-decides Exec Exec = (λ e. refl, λ e. refl)
macro-decides Frame Frame = (λ e. refl, λ e. refl)
macro-decides _ _ = (λ e. cc, λ e. cc)

pub idx-decides : (a b : Idx) → Decides (idx_eq.eq-value.it a b) (a ≡ b)
idx-decides (Free m) (Free n) = let d = Decides-eqb m n in (λ e. ap Free (d.0 e), λ e. d.1 (cc))
idx-decides (Free m) (Bound n) = (λ e. cc, λ e. cc)
idx-decides (Bound m) (Free n) = (λ e. cc, λ e. cc)
idx-decides (Bound m) (Bound n) = let d = Decides-eqb m n in (λ e. ap Bound (d.0 e), λ e. d.1 (cc))

pub indices-decide : (a b : List Idx) → Decides (pointwise idx_eq.eq-value.it a b) (a ≡ b)
indices-decide a b = pointwise_decides idx-decides a b

pub is_same_ts-decides : (a b : Ts) → Decides (is_same_ts a b) (a ≡ b)
is_same_ts-decides a b =
    Decides-like _ (λ e. sym (of_ts_tree_of a) ∙ (ap of_ts_tree e ∙ of_ts_tree_of b))
    (λ e. ap ts_tree e)
    (is_same_ts_tree-decides (ts_tree a) (ts_tree b))
