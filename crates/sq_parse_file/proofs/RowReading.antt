-- Rows of tokens and parts.
use Rattle.std.proofs.Common.{◌≡◌, ℕ, zero, suc, ◌<◌, ◌≤◌, List, [], ◌∷◌, ◌++◌, length, refl, sym}
use Rattle.std.proofs.Common.{ap, ◌∙◌, subst, arith, append_assoc, length-append, ◌⊎◌, inl, inr}
use Rattle.std.specs.Prelude.{⊤}
use Rattle.sq_token.specs.Sign.{Sign}
use Rattle.sq_token.specs.declared.kind.Punctuation.TheVariants as p
use Rattle.sq_token.specs.Sign.{mark}
use Rattle.sq_ast.specs.declared.formula.Form.TheVariants.{Formula}
use Rattle.sq_ast.specs.Tree.{FormulaTrees, none, more}
use Rattle.sq_ast.specs.Grammar.{spelled}
use Rattle.sq_ast.specs.Deep.{ListDeep, RunsDeep}
use Rattle.sq_ast.specs.Sentence.{Part, a_formula, formulas, values, hypotheses, a_process, ValueOf}
use Rattle.sq_ast.specs.Sentence.{part_spelled, Fits, Passes, ListRunsDeep, PartDeep, Element}
use Rattle.sq_ast.specs.Sentence.{literal, part, Values, all_spelled, AllFit, RowDeep}
use Rattle.sq_parse_term.specs.Parse.{Read, got, bind, eat}
use Rattle.sq_parse_term.proofs.Outcomes.{Finds, bind_holds, weaken, never_holds, eat_self}
use Rattle.sq_parse_term.proofs.Outcomes.{eat_never}
use Rattle.sq_parse_term.proofs.Sound.{both_split}
use Rattle.sq_parse_term.proofs.Complete.{Exactly}
use Rattle.sq_parse_term.proofs.Runs.{Only, only_map, IsDeep, deep_bind}
use Rattle.sq_parse_process.proofs.Whole.{form_shallow, process_shallow}
use Rattle.sq_parse_file.specs.Read.{read_part, read_row}
use Rattle.sq_parse_file.proofs.PartReading.{part_only}
use Rattle.sq_parse_file.proofs.Stops.{Stops, part_finds, part_deep}

module _ (d : ℕ) where
  -- no part goes on with what may stand behind it
  abbrev pub IsClear : List Element → Type 0
  IsClear [] = ⊤
  IsClear (literal s ∷ es) = IsClear es
  IsClear (part a ∷ es) =
      ((v : ValueOf a) (vs : Values es) → AllFit es vs → Stops a v (all_spelled es vs))
      × ((v : ValueOf a) (q : List Sign) → RowDeep d es q → Stops a v q) × IsClear es

  pub row_only : (es : List Element) (ts : List Sign)
      → Only (RowDeep d es ts) (λ vs q. AllFit es vs × (ts ≡ all_spelled es vs ++ q))
      (read_row d es ts)
  unfolding read_row
  row_only [] ts = (tt, refl)
  row_only (literal s ∷ es) ts =
      let D = RowDeep d (literal s ∷ es) ts in
      bind_holds D ⊤ (λ u q. ts ≡ s ∷ q) _ (eat s ts) _
      (never_holds D _ (eat s ts) (eat_never s ts)) (λ u q e.
      weak D (read_row d es q)
      (only_map (RowDeep d es q) D _ (read_row d es q) (row_only es q) (λ h. (q, e, h))) e)
    where
      weak : (D : Type 0) {q : List Sign} (m : Read (Values es))
          → Only D (λ vs v. AllFit es vs × (q ≡ all_spelled es vs ++ v)) m → ts ≡ s ∷ q
          → Only D (λ vs v. AllFit es vs × (ts ≡ s ∷ (all_spelled es vs ++ v))) m
      weak D m h e = weaken D ⊤ _ _ m h (λ vs v g. (g.0, e ∙ ap (λ z. s ∷ z) g.1))
  row_only (part a ∷ es) ts =
      let D = RowDeep d (part a ∷ es) ts in
      bind_holds D ⊤ (Passes a ts) _ (read_part d a ts) _
      (only_map (PartDeep d a ts) D _ (read_part d a ts) (part_only d a ts) (λ h. inl h))
      (λ v q h.
      bind_holds D ⊤ (λ vs u. AllFit es vs × (q ≡ all_spelled es vs ++ u)) _ (read_row d es q) _
      (only_map (RowDeep d es q) D _ (read_row d es q) (row_only es q) (λ g. inr (v, q, h, g)))
      (λ vs u g.
      ((h.fits, g.0), both_split ts (part_spelled a v) q (all_spelled es vs) u h.split g.1)))

  pub row_finds : (es : List Element) (vs : Values es) → IsClear es → AllFit es vs
      → Finds (Exactly vs []) (read_row d es (all_spelled es vs))
  unfolding read_row
  row_finds [] vs c f = (refl, refl)
  row_finds (literal s ∷ es) vs c f = rw (eat_self s (all_spelled es vs)) (row_finds es vs c f)
  row_finds (part a ∷ es) vs c f =
      let Q : Values (part a ∷ es) → List Sign → Type 0 = Exactly vs [] in
      bind_holds ⊤ ⊥ (Exactly vs.0 (all_spelled es vs.1)) Q
      (read_part d a (part_spelled a vs.0 ++ all_spelled es vs.1)) _
      (part_finds d a vs.0 (all_spelled es vs.1) f.0 (c.0 vs.0 vs.1 f.1))
      (λ v q e. subst (Finds Q)
      (λ j. bind (read_row d es (sym e.1 j)) (λ us u. got (sym e.0 j, us) u))
      (bind_holds ⊤ ⊥ (Exactly vs.1 []) Q (read_row d es (all_spelled es vs.1)) _
      (row_finds es vs.1 c.2 f.1) (λ us u g. (ap (λ z. (vs.0, z)) g.0, g.1))))

  pub row_deep : (es : List Element) (ts : List Sign) → IsClear es → RowDeep d es ts
      → IsDeep (read_row d es ts)
  unfolding read_row
  row_deep [] ts c h = absurd h
  row_deep (literal s ∷ es) ts c h = subst (λ z. IsDeep (bind (eat s z) (λ _ q. read_row d es q)))
      (sym h.1) (rw (eat_self s h.0) (row_deep es h.0 c h.2))
  row_deep (part a ∷ es) ts c (inl h) = deep_bind (read_part d a ts) _ (part_deep d a ts h)
  row_deep (part a ∷ es) ts c (inr h) =
      bind_holds ⊤ ⊥ (Exactly h.0 h.1) _ (read_part d a ts) _
      (subst (λ z. Finds (Exactly h.0 h.1) (read_part d a z)) (sym h.2.split)
      (part_finds d a h.0 h.1 h.2.fits (c.1 h.0 h.1 h.3)))
      (λ v q e. subst IsDeep (λ j. bind (read_row d es (sym e.1 j)) (λ us u. got (sym e.0 j, us) u))
      (deep_bind (read_row d es h.1) _ (row_deep es h.1 c.2 h.3)))

  -- ---- few tokens

  list_shallow : (xs : FormulaTrees) (ts : List Sign) → length ts < d → ListDeep (RunsDeep d) xs ts
      → ⊥
  list_shallow none ts lt h = form_shallow d Formula ts lt h
  list_shallow (more a xs) ts lt h =
      list_shallow xs h.0 (omega
      (arith, ap length h.1.front.split, length-append (spelled a) (mark p.Comma ∷ h.0))) h.2

  part_shallow : (a : Part) (ts : List Sign) → length ts < d → PartDeep d a ts → ⊥
  part_shallow (a_formula f) ts lt h = form_shallow d f ts lt h
  part_shallow formulas ts lt h = list_shallow h.0 ts lt h.1
  part_shallow values ts lt h = list_shallow h.0 ts lt h.1
  part_shallow hypotheses ts lt h = list_shallow h.2.0 h.0 (omega (arith, ap length h.1)) h.2.1
  part_shallow a_process ts lt h = process_shallow d ts lt h
  part_shallow _ ts lt h = h

  pub row_shallow : (es : List Element) (ts : List Sign) → length ts < d → RowDeep d es ts → ⊥
  row_shallow [] ts lt h = h
  row_shallow (literal s ∷ es) ts lt h = row_shallow es h.0 (omega (arith, ap length h.1)) h.2
  row_shallow (part a ∷ es) ts lt (inl h) = part_shallow a ts lt h
  row_shallow (part a ∷ es) ts lt (inr h) =
      row_shallow es h.1 (omega
      (arith, ap length h.2.split, length-append (part_spelled a h.0) h.1)) h.3
