-- In no form of a sentence a part goes on with what stands behind it.
use Rattle.std.proofs.Common.{◌≡◌, ℕ, zero, suc, ◌≤◌, Bool, true, false, List, [], ◌∷◌, ◌++◌}
use Rattle.std.proofs.Common.{Option, Some, None, refl, sym, ap, ◌∙◌, subst, arith, true≢false, ◌⊎◌}
use Rattle.std.proofs.Common.{inl, inr}
use Rattle.std.specs.Prelude.{codes, ⊤}
use Rattle.sq_token.specs.declared.kind.Reserved.TheVariants as r
use Rattle.sq_token.specs.declared.kind.Punctuation.TheVariants as p
use Rattle.sq_token.specs.Sign.{Sign, word, reserved, mark}
use Rattle.sq_ast.specs.declared.command.CommandWord.{CommandWord}
use Rattle.sq_ast.specs.declared.command.CommandWord.TheVariants as w
use Rattle.sq_ast.specs.declared.formula.Form.TheVariants as form
use Rattle.sq_ast.specs.Tree.{FormulaTrees}
use Rattle.sq_ast.specs.Grammar.{list_spelled}
use Rattle.sq_ast.specs.Sentence.{Part, either, optional, identifier, identifiers, another, place}
use Rattle.sq_ast.specs.Sentence.{a_number, numbers, a_macro, arrows, parameters, a_formula}
use Rattle.sq_ast.specs.Sentence.{formulas, values, hypotheses, a_process, ValueOf, either_spelled}
use Rattle.sq_ast.specs.Sentence.{arrows_spelled, hypotheses_spelled, PartDeep, Element, literal}
use Rattle.sq_ast.specs.Sentence.{part, Values, all_spelled, AllFit, RowDeep}
use Rattle.sq_ast.specs.Forms.{Kind, hash, channel, signature, name, function, process, system}
use Rattle.sq_ast.specs.Forms.{postulate, lemma, equivalence, proof, qed, exists, command}
use Rattle.sq_ast.specs.Forms.{fresh_item, labelled, formula_labelled, time_labelled}
use Rattle.sq_ast.specs.Forms.{macro_labelled, statement, side, command_form, form_of}
use Rattle.sq_parse_term.specs.Parse.{eat, same}
use Rattle.sq_parse_term.specs.Parse as read
use Rattle.sq_parse_term.proofs.Outcomes.{same_self, eat_self, eat_other, eat_nothing}
use Rattle.sq_parse_file.specs.Read.{arrow}
use Rattle.sq_parse_file.proofs.Stops.{Stops, Closes}
use Rattle.sq_parse_file.proofs.RowReading.{IsClear}

left_right : word (codes "right") ≡ word (codes "left") → ⊥
unfolding same
left_right e = let path : false ≡ true = ap (λ z. same z (word (codes "left"))) e
    ∙ same_self (word (codes "left")) in true≢false (sym path)

-- `message` with nothing behind it is no arrow
message_ends : (b : Bool)
    → arrow r.Message (either_spelled (reserved r.Message) (reserved r.Boolean) b ++ []) ≡ read.none
message_ends true = rw (eat_self (reserved r.Message) []) (eat_nothing (mark p.Arrow))
message_ends false = rw (eat_other (reserved r.Message) (reserved r.Boolean) [] (λ e. cc)) refl

index_ends : (m : ℕ) (b : Bool)
    → arrow r.Index (arrows_spelled r.Message m
    ++ (either_spelled (reserved r.Message) (reserved r.Boolean) b ++ [])) ≡ read.none
index_ends zero true = rw (eat_other (reserved r.Index) (reserved r.Message) [] (λ e. cc)) refl
index_ends zero false = rw (eat_other (reserved r.Index) (reserved r.Boolean) [] (λ e. cc)) refl
index_ends (suc m) b =
    rw (eat_other (reserved r.Index) (reserved r.Message)
    (mark p.Arrow ∷ (arrows_spelled r.Message m
    ++ (either_spelled (reserved r.Message) (reserved r.Boolean) b ++ []))) (λ e. cc)) refl

no_parenthesis : (o : Option FormulaTrees) (x : List Sign)
    → eat (mark p.OpenParenthesis) (hypotheses_spelled o ++ mark p.Colon ∷ x) ≡ read.none
no_parenthesis None x = eat_other (mark p.OpenParenthesis) (mark p.Colon) x (λ e. cc)
no_parenthesis (Some xs) x = eat_other (mark p.OpenParenthesis) (mark p.OpenBracket)
    ((list_spelled xs ++ mark p.CloseBracket ∷ []) ++ mark p.Colon ∷ x) (λ e. cc)

module _ (d : ℕ) where
  free : (a : Part) (es : List Element) → ((v : ValueOf a) (q : List Sign) → Stops a v q)
      → IsClear d es → IsClear d (part a ∷ es)
  free a es h c = (λ v vs f. h v (all_spelled es vs), λ v q g. h v q, c)

  before : (a : Part) (s : Sign) (es : List Element)
      → ((v : ValueOf a) (x : List Sign) → Stops a v (s ∷ x)) → IsClear d es
      → IsClear d (part a ∷ literal s ∷ es)
  before a s es h c = (
    λ v vs f. h v (all_spelled es vs),
    λ v q g. subst (Stops a v) (sym g.1)
        (h v g.0),
    c,
  )

  final : (a : Part) → ((v : ValueOf a) → Stops a v []) → IsClear d (part a ∷ [])
  final a h = (λ v vs f. h v, λ v q g. absurd g, tt)

  -- two parts without trees
  pub pair_shallow : (a b : Part) (q : List Sign) → ((ts : List Sign) → PartDeep d a ts → ⊥)
      → ((ts : List Sign) → PartDeep d b ts → ⊥) → RowDeep d (part a ∷ part b ∷ []) q → ⊥
  pair_shallow a b q f g (inl h) = f q h
  pair_shallow a b q f g (inr h) = of h.1 h.3
    where
      of : (u : List Sign) → RowDeep d (part b ∷ []) u → ⊥
      of u (inl i) = g u i
      of u (inr i) = i.3

  pub one_shallow : (a : Part) (q : List Sign) → ((ts : List Sign) → PartDeep d a ts → ⊥)
      → RowDeep d (part a ∷ []) q → ⊥
  one_shallow a q f (inl h) = f q h
  one_shallow a q f (inr h) = h.3

  last_name : IsClear d (part identifier ∷ [])
  last_name = free identifier [] (λ v q. tt) tt

  named : (es : List Element) → IsClear d es → IsClear d (part identifier ∷ es)
  named es c = free identifier es (λ v q. tt) c

  numbered : (es : List Element) → IsClear d es → IsClear d (part a_number ∷ es)
  numbered es c = free a_number es (λ v q. tt) c

  last_formula : IsClear d (part (a_formula form.Formula) ∷ [])
  last_formula = final (a_formula form.Formula) (λ v h. h)

  last_process : IsClear d (part a_process ∷ [])
  last_process = final a_process (λ v. refl)

  labelled_clear : IsClear d labelled
  labelled_clear = named (literal (reserved r.As) ∷ part identifier ∷ []) last_name

  formula_labelled_clear : IsClear d formula_labelled
  formula_labelled_clear = before (a_formula form.Formula) (reserved r.As) (part identifier ∷ [])
      (λ v x h. let never : ⊥ = omega arith in never) last_name

  time_labelled_clear : IsClear d time_labelled
  time_labelled_clear = before (a_formula form.Time) (reserved r.As) (part identifier ∷ [])
      (λ v x h. let never : ⊥ = omega arith in never) last_name

  macro_labelled_clear : IsClear d macro_labelled
  macro_labelled_clear = free a_macro (literal (mark p.At) ∷ time_labelled) (λ v q. tt)
      time_labelled_clear

  statement_clear : IsClear d statement
  statement_clear = named (literal (mark p.Colon) ∷ part (a_formula form.Formula) ∷ []) last_formula

  function_clear : IsClear d (part (arrows r.Index) ∷ part (arrows r.Message)
      ∷ part (either (reserved r.Message) (reserved r.Boolean)) ∷ [])
  function_clear =
      let result = either (reserved r.Message) (reserved r.Boolean) in (
        λ v vs f. index_ends vs.0 vs.1.0,
        λ v q h. absurd (pair_shallow (arrows r.Message) result q (λ ts g. g) (λ ts g. g) h),
        (
          λ v vs f. message_ends vs.0,
          λ v q h. absurd (one_shallow result q (λ ts g. g) h),
          free
              result [] (λ v q e. cc) tt,
        ),
      )

  equivalence_clear : IsClear d (part parameters ∷ part hypotheses ∷ literal (mark p.Colon)
      ∷ part formulas ∷ [])
  equivalence_clear = (
    λ v vs f. no_parenthesis vs.0 (list_spelled vs.1.0 ++ []),
    λ v q h. of q h,
    before hypotheses (mark p.Colon) (part formulas ∷ [])
        (λ v x. eat_other (mark p.OpenBracket) (mark p.Colon) x (λ e. cc))
        (final formulas (λ v. record { no_more = eat_nothing (mark p.Comma); no_longer = λ h. h })),
  )
    where
      of : (q : List Sign)
          → RowDeep d (part hypotheses ∷ literal (mark p.Colon) ∷ part formulas ∷ []) q
          → eat (mark p.OpenParenthesis) q ≡ read.none
      of q (inl h) = subst (λ z. eat (mark p.OpenParenthesis) z ≡ read.none) (sym h.1)
          (eat_other (mark p.OpenParenthesis) (mark p.OpenBracket) h.0 (λ e. cc))
      of q (inr h) = subst (λ z. eat (mark p.OpenParenthesis) z ≡ read.none)
          (sym (h.2.split ∙ ap (λ z. hypotheses_spelled h.0 ++ z) h.3.1)) (no_parenthesis h.0 h.3.0)

  rewrite_clear : IsClear d (command_form w.Rewrite)
  rewrite_clear = (
    λ v vs f. eat_other (mark p.LeftArrow) (word vs.0) (all_spelled (part place ∷ []) vs.1)
        (λ e. cc),
    λ v q h. absurd (pair_shallow identifier place q (λ ts g. g) (λ ts g. g) h),
    named (part place ∷ []) (final place (λ v. refl)),
  )

  command_clear : (c : CommandWord) → IsClear d (command_form c)
  command_clear w.Intro = final identifiers (λ v. refl)
  command_clear w.Destruct =
      named (literal (reserved r.As) ∷ part identifier ∷ part identifier ∷ [])
      (named (part identifier ∷ []) last_name)
  command_clear w.Mp = labelled_clear
  command_clear w.Contra = last_name
  command_clear w.Spec = named formula_labelled formula_labelled_clear
  command_clear w.Have = statement_clear
  command_clear w.Case = formula_labelled_clear
  command_clear w.Drop = last_name
  command_clear w.Use = named (part values ∷ literal (reserved r.As) ∷ part identifier ∷ [])
      (before values (reserved r.As) (part identifier ∷ []) (λ v x. (x, refl)) last_name)
  command_clear w.Rewrite = rewrite_clear
  command_clear w.Fact = formula_labelled_clear
  command_clear w.Expand = macro_labelled_clear
  command_clear w.Undefined = macro_labelled_clear
  command_clear w.Tcases = time_labelled_clear
  command_clear w.Induction = named (literal (reserved r.As) ∷ part identifier ∷ part another ∷ [])
      (named (part another ∷ []) (final another (λ v. refl)))
  command_clear w.Fresh = labelled_clear
  command_clear w.Euf = labelled_clear
  command_clear w.Collision = labelled_clear
  command_clear w.Assume = last_name
  command_clear w.Select = final numbers (λ v. refl)
  command_clear w.Fa = numbered [] tt
  command_clear w.Atom = numbered [] tt
  command_clear w.IfCase = numbered (part a_number ∷ []) (numbered [] tt)
  command_clear w.Deduce = numbered (literal (reserved r.From) ∷ part a_number ∷ [])
      (numbered [] tt)
  command_clear w.Replace =
      free side (part a_number ∷ literal (reserved r.By) ∷ part (a_formula form.Formula) ∷ [])
      (λ v q e. left_right e)
      (numbered (literal (reserved r.By) ∷ part (a_formula form.Formula) ∷ []) last_formula)
  command_clear w.Prf =
      free side (part a_number ∷ part (a_formula form.Formula) ∷ literal (reserved r.By)
      ∷ part (a_formula form.Formula) ∷ []) (λ v q e. left_right e)
      (numbered (part (a_formula form.Formula) ∷ literal (reserved r.By)
      ∷ part (a_formula form.Formula) ∷ [])
      (before (a_formula form.Formula) (reserved r.By) (part (a_formula form.Formula) ∷ [])
      (λ v x h. let never : ⊥ = omega arith in never) last_formula))
  command_clear _ = tt

  pub clear : (k : Kind) → IsClear d (form_of k)
  clear hash = last_name
  clear channel = last_name
  clear signature =
      named (literal (mark p.Comma) ∷ part identifier ∷ literal (mark p.Comma) ∷ part identifier
      ∷ []) (named (literal (mark p.Comma) ∷ part identifier ∷ []) last_name)
  clear name =
      named (literal (mark p.Colon) ∷ part (arrows r.Index) ∷ literal (reserved r.Message) ∷ [])
      (before (arrows r.Index) (reserved r.Message) []
      (λ v x. rw (eat_other (reserved r.Index) (reserved r.Message) x (λ e. cc)) refl) tt)
  clear function = named (literal (mark p.Colon) ∷ part (arrows r.Index) ∷ part (arrows r.Message)
      ∷ part (either (reserved r.Message) (reserved r.Boolean)) ∷ []) function_clear
  clear process =
      named (part parameters ∷ literal (mark p.Equals) ∷ part a_process ∷ [])
      (before parameters (mark p.Equals) (part a_process ∷ [])
      (λ v x. eat_other (mark p.OpenParenthesis) (mark p.Equals) x (λ e. cc)) last_process)
  clear system = named (literal (mark p.Equals) ∷ part a_process ∷ []) last_process
  clear postulate = statement_clear
  clear lemma = statement_clear
  clear equivalence = named (part parameters ∷ part hypotheses ∷ literal (mark p.Colon)
      ∷ part formulas ∷ []) equivalence_clear
  clear proof = tt
  clear qed = tt
  clear exists = last_formula
  clear (command c) = command_clear c
  clear fresh_item = numbered [] tt
