-- A part is read as it is spelled where what stands behind it does not go on, and a place that runs
-- deep is deep.
use Rattle.std.proofs.Common.{◌≡◌, ℕ, zero, suc, ◌+◌, ◌<◌, ◌≤◌, Bool, true, false, List, [], ◌∷◌}
use Rattle.std.proofs.Common.{◌++◌, length, Option, Some, None, refl, sym, ap, ◌∙◌, subst, arith}
use Rattle.std.proofs.Common.{append_assoc, length-append, ◌⊎◌, inl, inr}
use Rattle.std.specs.Prelude.{⊤}
use Rattle.std.proofs.lemmas.List.{append-nil}
use Rattle.sq_token.specs.declared.kind.Reserved.{Reserved}
use Rattle.sq_token.specs.declared.kind.Reserved.TheVariants as r
use Rattle.sq_token.specs.declared.kind.Punctuation.TheVariants as p
use Rattle.sq_token.specs.Sign.{Sign, word, number, reserved, mark}
use Rattle.sq_ast.specs.declared.formula.Form.{Form}
use Rattle.sq_ast.specs.declared.formula.Form.TheVariants.{Formula}
use Rattle.sq_ast.specs.declared.formula.MacroWord.{MacroWord}
use Rattle.sq_ast.specs.Tree.{FormulaTree, FormulaTrees, none, more}
use Rattle.sq_ast.specs.Grammar.{groups_spelled, IsFilled, rank, spelled, list_spelled}
use Rattle.sq_ast.specs.Grammar.{more_spelled, HasForm, IsBuilt, AreBuilt}
use Rattle.sq_ast.specs.Deep.{ListDeep, RunsDeep}
use Rattle.sq_ast.specs.ProcTree.{ProcTree}
use Rattle.sq_ast.specs.ProcGrammar.{process_spelled}
use Rattle.sq_ast.specs.Sentence.{Part, either, optional, identifier, identifiers, another, place}
use Rattle.sq_ast.specs.Sentence.{a_number, numbers, a_macro, arrows, parameters, a_formula}
use Rattle.sq_ast.specs.Sentence.{formulas, values, hypotheses, a_process, ValueOf, words}
use Rattle.sq_ast.specs.Sentence.{numbers_spelled, arrows_spelled, part_spelled, AreFormulas, Fits}
use Rattle.sq_ast.specs.Sentence.{ListRunsDeep, PartDeep}
use Rattle.sq_parse_term.specs.declared.words.Start.TheVariants as start
use Rattle.sq_parse_term.specs.Parse.{Read, deep, got, bind, recover, same, eat, comma, binders}
use Rattle.sq_parse_term.specs.Parse.{start_of, parse, any, formula, ranked, term}
use Rattle.sq_parse_term.specs.Parse.{formulas as formulas_within}
use Rattle.sq_parse_term.specs.Parse as read
use Rattle.sq_parse_term.proofs.Outcomes.{Finds, bind_holds, recover_finds, same_is, eat_self}
use Rattle.sq_parse_term.proofs.Outcomes.{eat_other}
use Rattle.sq_parse_term.proofs.Sound.{parse_tells}
use Rattle.sq_parse_term.proofs.Again.{start_of_word, binders_again, no_comma}
use Rattle.sq_parse_term.proofs.Complete.{Goes, Ahead, Exactly, count, more_count, rank_bound}
use Rattle.sq_parse_term.proofs.Complete.{parse_finds}
use Rattle.sq_parse_term.proofs.Runs.{IsDeep, deep_bind, deep_recover, formulas_deep, parse_deep}
use Rattle.sq_parse_process.specs.Process.{parse_process}
use Rattle.sq_parse_process.proofs.Finding as process
use Rattle.sq_parse_process.proofs.Whole.{laws}
use Rattle.sq_parse_file.specs.Read.{all_words, all_numbers, arrow, arrows_within, read_part}

-- nothing behind the list goes on with it
pub record Closes (rest : List Sign) : Type 0 where
  pub no_more : comma rest ≡ read.none
  pub no_longer : Goes 4 rest → ⊥

-- what stands behind the part does not go on with it
abbrev pub Stops : (a : Part) → ValueOf a → List Sign → Type 0
Stops (either s t) v rest = t ≡ s → ⊥
Stops (optional s) v rest = eat s rest ≡ read.none
Stops identifier v rest = ⊤
Stops identifiers v rest = rest ≡ []
Stops another v rest = rest ≡ []
Stops place v rest = rest ≡ []
Stops a_number v rest = ⊤
Stops numbers v rest = rest ≡ []
Stops a_macro v rest = ⊤
Stops (arrows w) v rest = arrow w rest ≡ read.none
Stops parameters v rest = eat (mark p.OpenParenthesis) rest ≡ read.none
Stops (a_formula f) v rest = Goes (rank f) rest → ⊥
Stops formulas v rest = Closes rest
Stops values v rest = (q : List Sign) × (rest ≡ reserved r.As ∷ q)
Stops hypotheses v rest = eat (mark p.OpenBracket) rest ≡ read.none
Stops a_process v rest = rest ≡ []

words_again : (ns : List (List ℕ)) → all_words (words ns ++ []) ≡ got ns []
words_again [] = refl
words_again (n ∷ ns) = ap (λ m. bind m (λ ms u. got (n ∷ ms) u)) (words_again ns)

numbers_again : (ks : List ℕ) → all_numbers (numbers_spelled ks ++ []) ≡ got ks []
numbers_again [] = refl
numbers_again (k ∷ ks) = ap (λ m. bind m (λ ms u. got (k ∷ ms) u)) (numbers_again ks)

arrow_again : (v : Reserved) (q : List Sign) → arrow v (reserved v ∷ mark p.Arrow ∷ q)
    ≡ got (tt {0}) q
arrow_again v q = rw (eat_self (reserved v) (mark p.Arrow ∷ q), eat_self (mark p.Arrow) q) refl

arrows_again : (m : ℕ) (v : Reserved) (k : ℕ) (rest : List Sign) → k ≤ m → arrow v rest ≡ read.none
    → arrows_within m v (arrows_spelled v k ++ rest) ≡ got k rest
unfolding arrows_within
arrows_again zero v zero rest le h = refl
arrows_again zero v (suc k) rest le h = absurd (omega arith)
arrows_again (suc m) v zero rest le h = rw h refl
arrows_again (suc m) v (suc k) rest le h =
    rw (arrow_again v (arrows_spelled v k ++ rest), arrows_again m v k rest (omega arith) h) refl

arrows_length : (v : Reserved) (k : ℕ) (rest : List Sign) → k ≤ length (arrows_spelled v k ++ rest)
arrows_length v zero rest = omega arith
arrows_length v (suc k) rest = omega (arith, arrows_length v k rest)

exact_at : {A : Type 0} (l : ℕ) (t : A) (rest : List Sign) (u : A) (q : List Sign)
    → (Goes l rest → ⊥) → Ahead l t rest u q → Exactly t rest u q
exact_at l t rest u q n (inl e) = e
exact_at l t rest u q n (inr e) = absurd (n e.1)

process_exact : (t : ProcTree) (u : ProcTree) (q : List Sign) → process.Ahead t [] u q
    → Exactly t [] u q
process_exact t u q (inl e) = e
process_exact t u q (inr e) = absurd e.1

-- no formula begins with `as`
as_begins_none : (d : ℕ) (q : List Sign) → parse (suc d) Formula (reserved r.As ∷ q) ≡ read.none
unfolding parse any formula ranked term start_of
as_begins_none d q = refl

module _ (d : ℕ) where
  form_finds : (f : Form) (t : FormulaTree) (rest : List Sign) → HasForm f t × IsBuilt t
      → (Goes (rank f) rest → ⊥) → Finds (Exactly t rest) (parse d f (spelled t ++ rest))
  form_finds f t rest h n = of (parse d f (spelled t ++ rest)) (parse_finds d f t rest h.0 h.1)
    where
      of : (m : Read FormulaTree) → Finds (Ahead (rank f) t rest) m → Finds (Exactly t rest) m
      of deep x = x
      of read.none x = x
      of (got u q) x = exact_at (rank f) t rest u q n x

  list_finds : (m : ℕ) (a : FormulaTree) (xs : FormulaTrees) (rest : List Sign) → count xs < m
      → IsBuilt a → AreBuilt xs → Closes rest
      → Finds (Exactly (more a xs) rest)
      (formulas_within (parse d) m (spelled a ++ (more_spelled xs ++ rest)))
  unfolding formulas_within
  list_finds zero a xs rest lt b c s = absurd (omega arith)
  list_finds (suc m) a none rest lt b c s =
      bind_holds ⊤ ⊥ (Exactly a rest) (Exactly (more a none) rest)
      (parse d Formula (spelled a ++ rest)) _
      (form_finds Formula a rest (rank_bound a, b) s.no_longer)
      (λ u q e. subst (Finds (Exactly (more a none) rest))
      (λ j. recover (comma (sym e.1 j))
      (λ _ y. bind (formulas_within (parse d) m y) (λ xs v. got (more (sym e.0 j) xs) v))
      (got (more (sym e.0 j) none) (sym e.1 j)))
      (rw s.no_more (refl, refl)))
  list_finds (suc m) a (more b xs) rest lt x c s =
      let next = (spelled b ++ more_spelled xs) ++ rest in
      let inner : Finds (Exactly (more b xs) rest) (formulas_within (parse d) m next) =
      subst (λ z. Finds (Exactly (more b xs) rest) (formulas_within (parse d) m z))
      (sym (append_assoc (spelled b) (more_spelled xs) rest))
      (list_finds m b xs rest (omega arith) c.0 c.1 s) in
      bind_holds ⊤ ⊥ (Exactly a (mark p.Comma ∷ next)) (Exactly (more a (more b xs)) rest)
      (parse d Formula (spelled a ++ mark p.Comma ∷ next)) _
      (form_finds Formula a (mark p.Comma ∷ next) (rank_bound a, x)
      (λ h. let never : ⊥ = omega arith in never))
      (λ u q e. subst (Finds (Exactly (more a (more b xs)) rest))
      (λ j. recover (comma (sym e.1 j))
      (λ _ y. bind (formulas_within (parse d) m y) (λ zs v. got (more (sym e.0 j) zs) v))
      (got (more (sym e.0 j) none) (sym e.1 j)))
      (rw (eat_self (mark p.Comma) next)
      (bind_holds ⊤ ⊥ (Exactly (more b xs) rest) (Exactly (more a (more b xs)) rest)
      (formulas_within (parse d) m next) _ inner (λ ys v g. (ap (λ zs. more a zs) g.0, g.1)))))

  formulas_finds : (xs : FormulaTrees) (rest : List Sign) → AreFormulas xs → Closes rest
      → Finds (Exactly xs rest)
      (formulas_within (parse d) (suc (length (list_spelled xs ++ rest))) (list_spelled xs ++ rest))
  formulas_finds none rest h s = absurd h.0
  formulas_finds (more a xs) rest h s =
      let enough : count xs < suc (length ((spelled a ++ more_spelled xs) ++ rest)) =
      omega (
        arith,
        more_count xs,
        length-append (spelled a ++ more_spelled xs) rest,
        length-append (spelled a) (more_spelled xs),
      ) in
      let ts = (spelled a ++ more_spelled xs) ++ rest in
      subst (λ z. Finds (Exactly (more a xs) rest) (formulas_within (parse d) (suc (length ts)) z))
      (sym (append_assoc (spelled a) (more_spelled xs) rest))
      (list_finds (suc (length ts)) a xs rest enough h.1.0 h.1.1 s)

  -- before `as`, and before a bracket
  closes_as : (q : List Sign) → Closes (reserved r.As ∷ q)
  closes_as q = record {
    no_more = no_comma (reserved r.As) q (λ e. cc);
    no_longer =
        λ h. let never : ⊥ = omega arith in never;
  }

  closes_bracket : (q : List Sign) → Closes (mark p.CloseBracket ∷ q)
  closes_bracket q = record {
    no_more = no_comma (mark p.CloseBracket) q (λ e. cc);
    no_longer =
        λ h. let never : ⊥ = omega arith in never;
  }

  no_values : (e : ℕ) (q : List Sign) → Finds (Exactly None (reserved r.As ∷ q))
      (read_part e values (reserved r.As ∷ q))
  unfolding formulas_within parse
  no_values zero q = tt
  no_values (suc e) q = rw (as_begins_none e q) (refl, refl)

  values_finds : (v : Option FormulaTrees) (q : List Sign) → Fits values v
      → Finds (Exactly v (reserved r.As ∷ q))
      (read_part d values (part_spelled values v ++ reserved r.As ∷ q))
  values_finds None q f = no_values d q
  values_finds (Some xs) q f =
      recover_finds ⊤ ⊥ (Exactly xs (reserved r.As ∷ q)) (Exactly (Some xs) (reserved r.As ∷ q)) _ _
      _ (formulas_finds xs (reserved r.As ∷ q) f (closes_as q))
      (λ ys u e. (ap (λ z. Some z) e.0, e.1))

  hypotheses_finds : (v : Option FormulaTrees) (rest : List Sign) → Fits hypotheses v
      → eat (mark p.OpenBracket) rest ≡ read.none
      → Finds (Exactly v rest) (read_part d hypotheses (part_spelled hypotheses v ++ rest))
  hypotheses_finds None rest f s = rw s (refl, refl)
  hypotheses_finds (Some xs) rest f s =
      let end = mark p.CloseBracket ∷ rest in
      let split : (list_spelled xs ++ mark p.CloseBracket ∷ []) ++ rest ≡ list_spelled xs ++ end =
      append_assoc (list_spelled xs) (mark p.CloseBracket ∷ []) rest in
      let ts = list_spelled xs ++ end in
      rw (split, eat_self (mark p.OpenBracket) ts)
      (bind_holds ⊤ ⊥ (Exactly xs end) (Exactly (Some xs) rest)
      (formulas_within (parse d) (suc (length ts)) ts) _
      (formulas_finds xs end f (closes_bracket rest))
      (λ ys q e. subst (λ z. Finds (Exactly (Some xs) rest)
      (bind (eat (mark p.CloseBracket) z) (λ _ v. got (Some ys) v))) (sym e.1)
      (rw (eat_self (mark p.CloseBracket) rest) (ap (λ z. Some z) e.0, refl))))

  parameters_finds : (v : ValueOf parameters) (rest : List Sign) → Fits parameters v
      → eat (mark p.OpenParenthesis) rest ≡ read.none
      → Finds (Exactly v rest) (read_part d parameters (part_spelled parameters v ++ rest))
  parameters_finds None rest f s = rw s (refl, refl)
  parameters_finds (Some gs) rest f s =
      let end = mark p.CloseParenthesis ∷ rest in
      rw (
        append_assoc (groups_spelled gs) (mark p.CloseParenthesis ∷ []) rest,
        eat_self
            (mark p.OpenParenthesis) (groups_spelled gs ++ end),
        binders_again gs end f
            (no_comma (mark p.CloseParenthesis) rest (λ e. cc)),
        eat_self (mark p.CloseParenthesis)
            rest,
      ) (refl, refl)

  words_finds : (ns : List (List ℕ)) → IsFilled ns
      → Finds (Exactly ns []) (read_part d identifiers (words ns ++ []))
  words_finds [] f = absurd f
  words_finds (n ∷ ns) f = rw (words_again ns) (refl, refl)

  numbers_finds : (ks : List ℕ) → IsFilled ks
      → Finds (Exactly ks []) (read_part d numbers (numbers_spelled ks ++ []))
  numbers_finds [] f = absurd f
  numbers_finds (k ∷ ks) f = rw (numbers_again ks) (refl, refl)

  another_finds : (o : Option (List ℕ))
      → Finds (Exactly o []) (read_part d another (part_spelled another o ++ []))
  another_finds None = (refl, refl)
  another_finds (Some n) = (refl, refl)

  place_finds : (o : Option (List ℕ))
      → Finds (Exactly o []) (read_part d place (part_spelled place o ++ []))
  unfolding eat
  place_finds None = (refl, refl)
  place_finds (Some n) = rw (eat_self (reserved r.In) (word n ∷ [])) (refl, refl)

  either_finds : (s t : Sign) (b : Bool) (rest : List Sign) → (t ≡ s → ⊥)
      → Finds (Exactly b rest) (read_part d (either s t) (part_spelled (either s t) b ++ rest))
  either_finds s t true rest n = rw (eat_self s rest) (refl, refl)
  either_finds s t false rest n = rw (eat_other s t rest n, eat_self t rest) (refl, refl)

  optional_finds : (s : Sign) (b : Bool) (rest : List Sign) → eat s rest ≡ read.none
      → Finds (Exactly b rest) (read_part d (optional s) (part_spelled (optional s) b ++ rest))
  optional_finds s true rest n = rw (eat_self s rest) (refl, refl)
  optional_finds s false rest n = rw n (refl, refl)

  -- where the rest is nothing
  at_end : (a : Part) (v : ValueOf a) (rest : List Sign) → rest ≡ []
      → Finds (Exactly v []) (read_part d a (part_spelled a v ++ []))
      → Finds (Exactly v rest) (read_part d a (part_spelled a v ++ rest))
  at_end a v rest e h = subst (λ z. Finds (Exactly v z) (read_part d a (part_spelled a v ++ z)))
      (sym e) h

  process_finds : (t : ProcTree) → Fits a_process t
      → Finds (Exactly t []) (read_part d a_process (process_spelled t ++ []))
  process_finds t f = of (parse_process d (process_spelled t ++ [])) ((laws d).finds t [] f)
    where
      of : (m : Read ProcTree) → Finds (process.Ahead t []) m → Finds (Exactly t []) m
      of deep x = x
      of read.none x = x
      of (got u q) x = process_exact t u q x

  pub part_finds : (a : Part) (v : ValueOf a) (rest : List Sign) → Fits a v → Stops a v rest
      → Finds (Exactly v rest) (read_part d a (part_spelled a v ++ rest))
  part_finds (either s t) v rest f n = either_finds s t v rest n
  part_finds (optional s) v rest f n = optional_finds s v rest n
  part_finds identifier v rest f n = (refl, refl)
  part_finds identifiers v rest f n = at_end identifiers v rest n (words_finds v f)
  part_finds another v rest f n = at_end another v rest n (another_finds v)
  part_finds place v rest f n = at_end place v rest n (place_finds v)
  part_finds a_number v rest f n = (refl, refl)
  part_finds numbers v rest f n = at_end numbers v rest n (numbers_finds v f)
  part_finds a_macro v rest f n = rw (start_of_word (start.Macro v)) (refl, refl)
  part_finds (arrows w) v rest f n =
      rw (arrows_again (length (arrows_spelled w v ++ rest)) w v rest (arrows_length w v rest) n)
      (refl, refl)
  part_finds parameters v rest f n = parameters_finds v rest f n
  part_finds (a_formula g) v rest f n = form_finds g v rest f n
  part_finds formulas v rest f n = formulas_finds v rest f n
  part_finds values v rest f n =
      subst (λ z. Finds (Exactly v z) (read_part d values (part_spelled values v ++ z))) (sym n.1)
      (values_finds v n.0 f)
  part_finds hypotheses v rest f n = hypotheses_finds v rest f n
  part_finds a_process v rest f n = at_end a_process v rest n (process_finds v f)

  -- ---- and places that run deep

  list_deep : (ts : List Sign) → ListRunsDeep d ts
      → IsDeep (formulas_within (parse d) (suc (length ts)) ts)
  list_deep ts h = formulas_deep (parse d) (parse_tells d) (parse_finds d) (RunsDeep d)
      (parse_deep d) (suc (length ts)) h.0 ts (omega arith) h.1

  hypotheses_deep : (ts : List Sign) → PartDeep d hypotheses ts → IsDeep (read_part d hypotheses ts)
  hypotheses_deep ts h = subst (λ z. IsDeep (read_part d hypotheses z)) (sym h.1)
      (rw (eat_self (mark p.OpenBracket) h.0)
      (deep_bind (formulas_within (parse d) (suc (length h.0)) h.0) _ (list_deep h.0 h.2)))

  pub part_deep : (a : Part) (ts : List Sign) → PartDeep d a ts → IsDeep (read_part d a ts)
  part_deep (a_formula f) ts h = parse_deep d f ts h
  part_deep formulas ts h = list_deep ts h
  part_deep values ts h = deep_recover (formulas_within (parse d) (suc (length ts)) ts) _ _
      (list_deep ts h)
  part_deep hypotheses ts h = hypotheses_deep ts h
  part_deep a_process ts h = (laws d).deep ts h
  part_deep _ ts h = absurd h
