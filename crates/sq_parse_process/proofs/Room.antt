-- A place that runs deep with one more node still to go does so with fewer too.
use Rattle.std.proofs.Common.{◌≡◌, ℕ, zero, suc, List, [], ◌∷◌, ◌⊎◌, inl, inr}
use Rattle.std.specs.Prelude.{⊤}
use Rattle.sq_token.specs.Sign.{Sign}
use Rattle.sq_ast.specs.declared.formula.Form.{Form}
use Rattle.sq_ast.specs.declared.formula.Form.TheVariants as form
use Rattle.sq_ast.specs.Tree.{FormulaTrees}
use Rattle.sq_ast.specs.Tree as tree
use Rattle.sq_ast.specs.Deep.{Element, token, part, elements, ElementDeep, AlternativeDeep}
use Rattle.sq_ast.specs.Deep.{ListDeep, ArgumentDeep, OperandDeep, RankDeep, FormDeep, RunsDeep}
use Rattle.sq_ast.specs.ProcTree.{ProcTrees, none, more}
use Rattle.sq_ast.specs.ProcGrammar.{ProcElement, a_formula, a_process, process_elements}
use Rattle.sq_ast.specs.ProcGrammar.{ProcElementDeep, ParallelDeep, ProcessDeep, in_alternative}
use Rattle.sq_ast.specs.ProcGrammar.{in_parallel, ProcessRunsDeep}
use Rattle.sq_ast.specs.ProcGrammar as g

module _ (R S : Form → List Sign → Type 0)
    (more_room : (f : Form) (ts : List Sign) → R f ts → S f ts) where
  elements_room : (es : List Element) (ts : List Sign) → ElementDeep R es ts → ElementDeep S es ts
  elements_room [] ts h = h
  elements_room (token s ∷ es) ts h = (h.0, h.1, elements_room es h.0 h.2)
  elements_room (part f ∷ es) ts (inl h) = inl (more_room f ts h)
  elements_room (part f ∷ es) ts (inr h) = inr (h.0, h.1, h.2, elements_room es h.1 h.3)

  alternative_room : (f : Form) (ts : List Sign) → AlternativeDeep R f ts → AlternativeDeep S f ts
  alternative_room f ts h = record {
    alternative = h.alternative;
    of_form = h.of_form;
    whole = h.whole;
    rest = h.rest;
    split = h.split;
    runs = elements_room (elements h.alternative) h.rest h.runs;
  }

  list_room : (xs : FormulaTrees) (ts : List Sign) → ListDeep R xs ts → ListDeep S xs ts
  list_room tree.none ts h = more_room form.Formula ts h
  list_room (tree.more a xs) ts h = (h.0, h.1, list_room xs h.0 h.2)

  argument_room : (ts : List Sign) → ArgumentDeep R ts → ArgumentDeep S ts
  argument_room ts h = record {
    function = h.function;
    before = h.before;
    rest = h.rest;
    split = h.split;
    runs = list_room h.before h.rest h.runs;
  }

  operand_room : (l : ℕ) (ts : List Sign) → OperandDeep R l ts → OperandDeep S l ts
  operand_room l ts h = record {
    left = h.left;
    operator = h.operator;
    rest = h.rest;
    operator_is = h.operator_is;
    longest = h.longest;
    runs = more_room _ h.rest h.runs;
  }

  rank_room : (l : ℕ) (ts : List Sign) → RankDeep R l ts → RankDeep S l ts
  rank_room zero ts (inl h) = inl (alternative_room form.Term ts h)
  rank_room zero ts (inr h) = inr (argument_room ts h)
  rank_room (suc l) ts (inl h) = inl (rank_room l ts h)
  rank_room (suc l) ts (inr h) = inr (operand_room (suc l) ts h)

  form_deep_room : (f : Form) (ts : List Sign) → FormDeep R f ts → FormDeep S f ts
  form_deep_room form.Time ts h = alternative_room form.Time ts h
  form_deep_room form.Term ts h = rank_room 0 ts h
  form_deep_room form.Atom ts h = rank_room 1 ts h
  form_deep_room form.Conj ts h = rank_room 2 ts h
  form_deep_room form.Disj ts h = rank_room 3 ts h
  form_deep_room form.Formula ts (inl h) = inl (alternative_room form.Formula ts h)
  form_deep_room form.Formula ts (inr h) = inr (rank_room 4 ts h)

form_room : (d : ℕ) (f : Form) (ts : List Sign) → RunsDeep (suc d) f ts → RunsDeep d f ts
form_room zero f ts h = tt
form_room (suc d) f ts h = form_deep_room (RunsDeep (suc d)) (RunsDeep d) (form_room d) f ts h

module _ (F G R S : List Sign → Type 0) (formula : (ts : List Sign) → F ts → G ts)
    (process : (ts : List Sign) → R ts → S ts) where
  process_elements_room : (es : List ProcElement) (ts : List Sign)
      → ProcElementDeep F R es ts → ProcElementDeep G S es ts
  process_elements_room [] ts h = h
  process_elements_room (g.token s ∷ es) ts h = (h.0, h.1, process_elements_room es h.0 h.2)
  process_elements_room (a_formula ∷ es) ts (inl h) = inl (formula ts h)
  process_elements_room (a_formula ∷ es) ts (inr h) =
      inr (h.0, h.1, h.2, process_elements_room es h.1 h.3)
  process_elements_room (a_process ∷ es) ts (inl h) = inl (process ts h)
  process_elements_room (a_process ∷ es) ts (inr h) =
      inr (h.0, h.1, h.2, process_elements_room es h.1 h.3)

  parallel_room : (ps : ProcTrees) (ts : List Sign) → ParallelDeep F R ps ts
      → ParallelDeep G S ps ts
  parallel_room none ts h = process ts h
  parallel_room (more a ps) ts h = (h.0, h.1, parallel_room ps h.0 h.2)

  process_deep_room : (ts : List Sign) → ProcessDeep F R ts → ProcessDeep G S ts
  process_deep_room ts (in_alternative a q w e h) =
      in_alternative a q w e (process_elements_room (process_elements a) q h)
  process_deep_room ts (in_parallel ps q e h) = in_parallel ps q e (parallel_room ps q h)

pub process_room : (d : ℕ) (ts : List Sign) → ProcessRunsDeep (suc d) ts → ProcessRunsDeep d ts
process_room zero ts h = tt
process_room (suc d) ts h =
    process_deep_room (λ us. RunsDeep (suc d) form.Formula us) (λ us. RunsDeep d form.Formula us)
    (ProcessRunsDeep (suc d)) (ProcessRunsDeep d) (form_room d form.Formula) (process_room d) ts h
