-- What is read of a part is one, and the place is deep only where it runs deep.
use Rattle.std.proofs.Common.{◌≡◌, ℕ, zero, suc, Bool, true, false, List, [], ◌∷◌, ◌++◌, length}
use Rattle.std.proofs.Common.{Option, Some, None, refl, sym, ap, ◌∙◌, subst, arith, append_assoc}
use Rattle.std.proofs.Common.{◌⊎◌, inl, inr}
use Rattle.std.specs.Prelude.{⊤}
use Rattle.std.proofs.lemmas.List.{append-nil}
use Rattle.sq_token.specs.declared.kind.Reserved.{Reserved}
use Rattle.sq_token.specs.declared.kind.Reserved.TheVariants as r
use Rattle.sq_token.specs.declared.kind.Punctuation.TheVariants as p
use Rattle.sq_token.specs.Sign.{Sign, word, number, reserved, mark}
use Rattle.sq_ast.specs.declared.formula.Form.{Form}
use Rattle.sq_ast.specs.declared.formula.Form.TheVariants.{Formula}
use Rattle.sq_ast.specs.declared.formula.MacroWord.{MacroWord}
use Rattle.sq_ast.specs.Tree.{FormulaTree, FormulaTrees, none, more}
use Rattle.sq_ast.specs.Grammar.{macro_word, groups_spelled, IsFilled, AreBinders, spelled}
use Rattle.sq_ast.specs.Grammar.{list_spelled, more_spelled, IsSome, IsBuilt, AreBuilt}
use Rattle.sq_ast.specs.Deep.{IsLongest, ListDeep, RunsDeep}
use Rattle.sq_ast.specs.ProcGrammar.{process_spelled, IsLongestProcess, ProcessRunsDeep}
use Rattle.sq_ast.specs.Sentence.{Part, either, optional, identifier, identifiers, another, place}
use Rattle.sq_ast.specs.Sentence.{a_number, numbers, a_macro, arrows, parameters, a_formula}
use Rattle.sq_ast.specs.Sentence.{formulas, values, hypotheses, a_process, ValueOf, words}
use Rattle.sq_ast.specs.Sentence.{numbers_spelled, arrows_spelled, part_spelled, AreFormulas}
use Rattle.sq_ast.specs.Sentence.{AreLongest, Passes, ListRunsDeep, PartDeep}
use Rattle.sq_parse_term.specs.declared.words.Start.{Start}
use Rattle.sq_parse_term.specs.declared.words.Start.TheVariants as start
use Rattle.sq_parse_term.specs.Parse.{Read, got, bind, recover, eat, comma, binders, start_of}
use Rattle.sq_parse_term.specs.Parse.{parse, formulas as formulas_within}
use Rattle.sq_parse_term.specs.Parse as term
use Rattle.sq_parse_term.proofs.Outcomes.{Never, bind_holds, recover_holds, weaken, never_holds}
use Rattle.sq_parse_term.proofs.Outcomes.{eat_never, identifier_never}
use Rattle.sq_parse_term.proofs.Sound.{both_split, binders_never, start_of_is, more_list}
use Rattle.sq_parse_term.proofs.Runs.{Only, only_map}
use Rattle.sq_parse_process.specs.Process.{parse_process}
use Rattle.sq_parse_process.proofs.Whole.{form_only, laws}
use Rattle.sq_parse_file.specs.Read.{all_words, all_numbers, some, read_number, macro_at}
use Rattle.sq_parse_file.specs.Read.{read_macro, arrow, arrows_within, read_part}

-- ---- parts without trees

words_never : (ts : List Sign) → Never (λ ns q. ts ≡ words ns ++ q) (all_words ts)
words_never [] = refl
words_never (word n ∷ q) = bind_holds ⊥ ⊤ (λ ns u. q ≡ words ns ++ u) _ (all_words q) _
    (words_never q) (λ ns u e. ap (λ z. word n ∷ z) e)
words_never (number k ∷ q) = refl
words_never (reserved v ∷ q) = refl
words_never (mark i ∷ q) = refl

numbers_never : (ts : List Sign) → Never (λ ks q. ts ≡ numbers_spelled ks ++ q) (all_numbers ts)
numbers_never [] = refl
numbers_never (word n ∷ q) = refl
numbers_never (number k ∷ q) = bind_holds ⊥ ⊤ (λ ks u. q ≡ numbers_spelled ks ++ u) _
    (all_numbers q) _ (numbers_never q) (λ ks u e. ap (λ z. number k ∷ z) e)
numbers_never (reserved v ∷ q) = refl
numbers_never (mark i ∷ q) = refl

some_never : {A : Type 0} (Q : List A → List Sign → Type 0) (xs : List A) (q : List Sign) → Q xs q
    → Never (λ ys u. IsFilled ys × Q ys u) (some xs q)
some_never Q [] q h = tt
some_never Q (x ∷ xs) q h = (tt, h)

number_never : (ts : List Sign) → Never (λ k q. ts ≡ number k ∷ q) (read_number ts)
number_never [] = tt
number_never (word n ∷ q) = tt
number_never (number k ∷ q) = refl
number_never (reserved v ∷ q) = tt
number_never (mark i ∷ q) = tt

macro_never : (ts : List Sign) → Never (λ m q. ts ≡ reserved (macro_word m) ∷ q) (read_macro ts)
macro_never [] = tt
macro_never (word n ∷ q) = tt
macro_never (number k ∷ q) = tt
macro_never (mark i ∷ q) = tt
macro_never (reserved v ∷ q) = by (start_of v) refl
  where
    by : (o : Option Start) → start_of v ≡ o
        → Never (λ m u. reserved v ∷ q ≡ reserved (macro_word m) ∷ u) (macro_at o q)
    by (Some (start.Macro m)) e = ap (λ z. reserved z ∷ q) (start_of_is v (start.Macro m) e)
    by _ e = tt

arrow_never : (v : Reserved) (ts : List Sign) → Never (λ u q. ts ≡ reserved v ∷ mark p.Arrow ∷ q)
    (arrow v ts)
arrow_never v ts =
    bind_holds ⊥ ⊤ (λ u q. ts ≡ reserved v ∷ q) _ (eat (reserved v) ts) _
    (eat_never (reserved v) ts) (λ u q e.
    weaken ⊥ ⊤ (λ i y. q ≡ mark p.Arrow ∷ y) _ (eat (mark p.Arrow) q) (eat_never (mark p.Arrow) q)
    (λ i y g. e ∙ ap (λ z. reserved v ∷ z) g))

arrows_never : (m : ℕ) (v : Reserved) (ts : List Sign) → Never (λ k q. ts ≡ arrows_spelled v k ++ q)
    (arrows_within m v ts)
unfolding arrows_within
arrows_never zero v ts = refl
arrows_never (suc m) v ts =
    recover_holds ⊥ ⊤ (λ u q. ts ≡ reserved v ∷ mark p.Arrow ∷ q)
    (λ k q. ts ≡ arrows_spelled v k ++ q) ⊤ (arrow v ts) _ _ (arrow_never v ts)
    (λ u q e. bind_holds ⊥ ⊤ (λ k y. q ≡ arrows_spelled v k ++ y) _ (arrows_within m v q) _
    (arrows_never m v q) (λ k y g. e ∙ ap (λ z. reserved v ∷ mark p.Arrow ∷ z) g))
    refl

-- ---- parts with trees

-- one formula before others that are the longest
longest_more : (a : FormulaTree) (xs : FormulaTrees) (ts u q : List Sign) → IsSome xs
    → IsLongest Formula ts a (mark p.Comma ∷ u) → AreLongest xs u q → AreLongest (more a xs) ts q
longest_more a none ts u q f l h = absurd f
longest_more a (more b xs) ts u q f l h = (u, l, h)

module _ (d : ℕ) where
  list_only : (m : ℕ) (ts : List Sign)
      → Only (ListRunsDeep d ts) (λ xs q. AreFormulas xs × (ts ≡ list_spelled xs ++ q)
      × AreLongest xs ts q) (formulas_within (parse d) m ts)
  unfolding formulas_within
  list_only zero ts = tt
  list_only (suc m) ts =
      let D = ListRunsDeep d ts in
      let Q : FormulaTrees → List Sign → Type 0 = λ xs q. AreFormulas xs
      × (ts ≡ list_spelled xs ++ q) × AreLongest xs ts q in
      bind_holds D ⊤ (IsLongest Formula ts) Q (parse d Formula ts) _
      (only_map (RunsDeep d Formula ts) D _ (parse d Formula ts) (form_only d Formula ts)
      (λ h. (none, h))) (λ a q h.
      recover_holds D ⊤ (λ u v. q ≡ mark p.Comma ∷ v) Q ⊤ (comma q) _ _
      (never_holds D _ (comma q) (eat_never (mark p.Comma) q))
      (λ u v e. bind_holds D ⊤ (λ xs w. AreFormulas xs × (v ≡ list_spelled xs ++ w)
      × AreLongest xs v w) Q (formulas_within (parse d) m v) _
      (only_map (ListRunsDeep d v) D _ (formulas_within (parse d) m v) (list_only m v)
      (λ g. (more a g.0, (v, subst (IsLongest Formula ts a) e h, g.1))))
      (λ xs w g. (
        (tt, (h.front.built, g.0.1)),
        both_split ts (spelled a) q (more_spelled xs) w h.front.split
            (e ∙ (ap (λ z. mark p.Comma ∷ z) g.1 ∙ ap (λ z. z ++ w) (more_list xs g.0.0))),
        longest_more a xs ts v w g.0.0 (subst (IsLongest Formula ts a) e h) g.2,
      ))) (
        (tt, (h.front.built, tt)),
        h.front.split ∙ ap (λ z. z ++ q) (sym (append-nil (spelled a))),
        h,
      ))

  formulas_only : (ts : List Sign)
      → Only (ListRunsDeep d ts) (λ xs q. AreFormulas xs × (ts ≡ list_spelled xs ++ q)
      × AreLongest xs ts q) (formulas_within (parse d) (suc (length ts)) ts)
  formulas_only ts = list_only (suc (length ts)) ts

  hypotheses_only : (ts : List Sign) → Only (PartDeep d hypotheses ts) (Passes hypotheses ts)
      (read_part d hypotheses ts)
  hypotheses_only ts =
      let D = PartDeep d hypotheses ts in
      recover_holds D ⊤ (λ u q. ts ≡ mark p.OpenBracket ∷ q) (Passes hypotheses ts) ⊤
      (eat (mark p.OpenBracket) ts) _ _
      (never_holds D _ (eat (mark p.OpenBracket) ts) (eat_never (mark p.OpenBracket) ts))
      (λ u q e.
      bind_holds D ⊤ _ (Passes hypotheses ts) (formulas_within (parse d) (suc (length q)) q) _
      (only_map (ListRunsDeep d q) D _ (formulas_within (parse d) (suc (length q)) q)
      (formulas_only q) (λ h. (q, e, h))) (λ xs v h.
      bind_holds D ⊤ _ (Passes hypotheses ts) (eat (mark p.CloseBracket) v) _
      (never_holds D _ (eat (mark p.CloseBracket) v) (eat_never (mark p.CloseBracket) v))
      (λ w y g.
      record {
        fits = h.0;
        split = e ∙ ap (λ z. mark p.OpenBracket ∷ z)
            (both_split q (list_spelled xs) v (mark p.CloseBracket ∷ []) y h.1 g);
        longest = (q, e, subst (AreLongest xs q) g h.2);
      })))
      (record { fits = tt; split = refl; longest = tt })

  parameters_only : (ts : List Sign) → Only ⊥ (Passes parameters ts) (read_part d parameters ts)
  parameters_only ts =
      recover_holds ⊥ ⊤ (λ u q. ts ≡ mark p.OpenParenthesis ∷ q) (Passes parameters ts) ⊤
      (eat (mark p.OpenParenthesis) ts) _ _ (eat_never (mark p.OpenParenthesis) ts)
      (λ u q e.
      bind_holds ⊥ ⊤ _ (Passes parameters ts) (binders q) _ (binders_never q) (λ gs v h.
      bind_holds ⊥ ⊤ _ (Passes parameters ts) (eat (mark p.CloseParenthesis) v) _
      (eat_never (mark p.CloseParenthesis) v) (λ w y g.
      record {
        fits = h.0;
        split =
            e ∙ ap (λ z. mark p.OpenParenthesis ∷ z)
            (both_split q (groups_spelled gs) v (mark p.CloseParenthesis ∷ []) y h.1 g);
        longest =
            tt;
      })))
      (record { fits = tt; split = refl; longest = tt })

  pub part_only : (a : Part) (ts : List Sign) → Only (PartDeep d a ts) (Passes a ts)
      (read_part d a ts)
  part_only (either s t) ts =
      recover_holds ⊥ ⊤ (λ u q. ts ≡ s ∷ q) (Passes (either s t) ts) ⊤ (eat s ts) _ _
      (eat_never s ts) (λ u q e. record { fits = tt; split = e; longest = tt })
      (bind_holds ⊥ ⊤ (λ u q. ts ≡ t ∷ q) (Passes (either s t) ts) (eat t ts) _ (eat_never t ts)
      (λ u q e. record { fits = tt; split = e; longest = tt }))
  part_only (optional s) ts =
      recover_holds ⊥ ⊤ (λ u q. ts ≡ s ∷ q) (Passes (optional s) ts) ⊤ (eat s ts) _ _
      (eat_never s ts) (λ u q e. record { fits = tt; split = e; longest = tt })
      (record { fits = tt; split = refl; longest = tt })
  part_only identifier ts = weaken ⊥ ⊤ _ (Passes identifier ts) (term.identifier ts)
      (identifier_never ts) (λ n q e. record { fits = tt; split = e; longest = tt })
  part_only identifiers ts =
      bind_holds ⊥ ⊤ (λ ns q. ts ≡ words ns ++ q) (Passes identifiers ts) (all_words ts) _
      (words_never ts) (λ ns q e.
      weaken ⊥ ⊤ _ (Passes identifiers ts) (some ns q)
      (some_never (λ ms u. ts ≡ words ms ++ u) ns q e)
      (λ ms u h. record { fits = h.0; split = h.1; longest = tt }))
  part_only another ts =
      recover_holds ⊥ ⊤ (λ n q. ts ≡ word n ∷ q) (Passes another ts) ⊤ (term.identifier ts) _ _
      (identifier_never ts) (λ n q e. record { fits = tt; split = e; longest = tt })
      (record { fits = tt; split = refl; longest = tt })
  part_only place ts =
      recover_holds ⊥ ⊤ (λ u q. ts ≡ reserved r.In ∷ q) (Passes place ts) ⊤ (eat (reserved r.In) ts)
      _ _ (eat_never (reserved r.In) ts)
      (λ u q e. bind_holds ⊥ ⊤ (λ n v. q ≡ word n ∷ v) (Passes place ts) (term.identifier q) _
      (identifier_never q)
      (λ n v g. record { fits = tt; split = e ∙ ap (λ z. reserved r.In ∷ z) g; longest = tt }))
      (record { fits = tt; split = refl; longest = tt })
  part_only a_number ts = weaken ⊥ ⊤ _ (Passes a_number ts) (read_number ts) (number_never ts)
      (λ k q e. record { fits = tt; split = e; longest = tt })
  part_only numbers ts =
      bind_holds ⊥ ⊤ (λ ks q. ts ≡ numbers_spelled ks ++ q) (Passes numbers ts) (all_numbers ts) _
      (numbers_never ts) (λ ks q e.
      weaken ⊥ ⊤ _ (Passes numbers ts) (some ks q)
      (some_never (λ ls u. ts ≡ numbers_spelled ls ++ u) ks q e)
      (λ ls u h. record { fits = h.0; split = h.1; longest = tt }))
  part_only a_macro ts = weaken ⊥ ⊤ _ (Passes a_macro ts) (read_macro ts) (macro_never ts)
      (λ m q e. record { fits = tt; split = e; longest = tt })
  part_only (arrows v) ts = weaken ⊥ ⊤ _ (Passes (arrows v) ts) (arrows_within (length ts) v ts)
      (arrows_never (length ts) v ts) (λ k q e. record { fits = tt; split = e; longest = tt })
  part_only parameters ts = parameters_only ts
  part_only (a_formula f) ts = weaken (RunsDeep d f ts) ⊤ (IsLongest f ts) (Passes (a_formula f) ts)
      (parse d f ts) (form_only d f ts)
      (λ t q h. record {
        fits = (h.front.form_is, h.front.built);
        split = h.front.split;
        longest =
            h;
      })
  part_only formulas ts = weaken (ListRunsDeep d ts) ⊤ _ (Passes formulas ts)
      (formulas_within (parse d) (suc (length ts)) ts) (formulas_only ts)
      (λ xs q h. record { fits = h.0; split = h.1; longest = tt })
  part_only values ts =
      recover_holds (ListRunsDeep d ts) ⊤ _ (Passes values ts) ⊤
      (formulas_within (parse d) (suc (length ts)) ts) _ _ (formulas_only ts)
      (λ xs q h. record { fits = h.0; split = h.1; longest = tt })
      (record { fits = tt; split = refl; longest = tt })
  part_only hypotheses ts = hypotheses_only ts
  part_only a_process ts = weaken (ProcessRunsDeep d ts) ⊤ (IsLongestProcess ts)
      (Passes a_process ts) (parse_process d ts) ((laws d).only ts)
      (λ t q h. record { fits = h.front.built; split = h.front.split; longest = tt })
