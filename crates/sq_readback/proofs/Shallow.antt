-- A tree that is not too deep is read at the front of its tokens, where the token behind does not
-- go on with it.
use Rattle.std.proofs.Common.{◌≡◌, ℕ, zero, suc, ◌<◌, ◌≤◌, Bool, true, false, if◌then◌else◌, nat_eq}
use Rattle.std.proofs.Common.{nat_le}
use Rattle.std.proofs.Common.{List, [], ◌∷◌, ◌++◌, length, Option, Some, None, refl, sym, ap, ◌∙◌}
use Rattle.std.proofs.Common.{arith, append_assoc, length-append}
use Rattle.std.specs.Prelude.{⊤}
use Rattle.std.proofs.lemmas.List.{append-nil}
use Rattle.std.proofs.lemmas.Bool.Decides.{nat_tests}
use Rattle.sq_token.specs.declared.kind.Reserved.TheVariants as r
use Rattle.sq_token.specs.declared.kind.Punctuation.TheVariants as p
use Rattle.sq_token.specs.Sign.{Sign, word, number, reserved, mark}
use Rattle.sq_ast.specs.declared.formula.Form.{Form}
use Rattle.sq_ast.specs.declared.formula.Form.TheVariants as form
use Rattle.sq_ast.specs.declared.formula.Quantifier.{Quantifier}
use Rattle.sq_ast.specs.declared.formula.Quantifier.TheVariants.{Forall, Exists}
use Rattle.sq_ast.specs.declared.formula.Binary.{Binary}
use Rattle.sq_ast.specs.declared.formula.Constant.TheVariants.{Init}
use Rattle.sq_ast.specs.declared.formula.Unary.TheVariants.{Pred}
use Rattle.sq_parse_term.specs.declared.words.Start.{Start}
use Rattle.sq_parse_term.specs.declared.words.Start.TheVariants as start
use Rattle.sq_ast.specs.Tree.{Group, FormulaTree, quantified, binary, group, pair, constant}
use Rattle.sq_ast.specs.Tree.{conditional, find, diff, unary, value, name, apply, FormulaTrees}
use Rattle.sq_ast.specs.Tree.{none, more}
use Rattle.sq_ast.specs.Grammar.{quantifier_word, binary_mark, groups_spelled, AreBinders, spelled}
use Rattle.sq_ast.specs.Grammar.{list_spelled, more_spelled, rank, binary_rank, operand_form}
use Rattle.sq_ast.specs.Grammar.{tree_rank, IsTime, HasForm, IsSome, IsBuilt, AreBuilt}
use Rattle.sq_ast.specs.Deep.{height, heights, Alternative, quantification, grouping, pairing}
use Rattle.sq_ast.specs.Deep.{condition, finding, difference, call, valuation, lead, Element, token}
use Rattle.sq_ast.specs.Deep.{part, elements, IsWhole, IsOf}
use Rattle.sq_parse_term.specs.Parse.{Read, got, bind, recover, eat, binary_of, start_of, build}
use Rattle.sq_parse_term.specs.Parse.{run, alternative, formulas, arguments, applied, found}
use Rattle.sq_parse_term.specs.Parse.{quantifying, term, joined, continued, ranked, formula_at}
use Rattle.sq_parse_term.specs.Parse.{formula, instance, action, time, any, parse}
use Rattle.sq_parse_term.specs.Parse as read
use Rattle.sq_parse_term.proofs.Outcomes.{eat_self, eat_other, eat_nothing}
use Rattle.sq_parse_term.proofs.Sound.{start_of_is, elements_spelled, Fit, alternative_rank, makes}
use Rattle.sq_parse_term.proofs.Again.{binary_of_mark, start_of_word, identifiers_again}
use Rattle.sq_parse_term.proofs.Again.{binders_again, no_comma}
use Rattle.sq_parse_term.proofs.Complete.{goes_on, goes_on_is, goes_on_mark, count, more_count}
use Rattle.sq_parse_term.proofs.Complete.{IsPlain, plain_below, binary_bounds, left_rank}
use Rattle.sq_parse_term.proofs.Complete.{rank_bound, IsClear, alternative_clear, opened}
use Rattle.sq_parse_term.proofs.Complete.{action_again}
use Rattle.sq_parse_term.proofs.Heights.{positive}

-- no form of the rank goes on with the first token
abbrev pub Stops : ℕ → List Sign → Type 0
Stops l [] = ⊤
Stops l (s ∷ q) = l < goes_on s

stops_less : (l m : ℕ) (rest : List Sign) → l ≤ m → Stops m rest → Stops l rest
stops_less l m [] h s = tt
stops_less l m (s ∷ q) h stop = omega arith

-- no parenthesis opens behind
no_open : (rest : List Sign) → Stops 0 rest → eat (mark p.OpenParenthesis) rest ≡ read.none
no_open [] h = eat_nothing (mark p.OpenParenthesis)
no_open (s ∷ q) h =
    eat_other (mark p.OpenParenthesis) s q (λ e. let same : goes_on s ≡ 0 = ap goes_on e in
    omega arith)

action_stops : (n : List ℕ) (rest : List Sign) → Stops 0 rest → action n rest ≡ got (name n) rest
unfolding action
action_stops n rest h = rw (no_open rest h) refl

module _ (P : Form → List Sign → Read FormulaTree) (d : ℕ)
    (reads : (f : Form) (t : FormulaTree) (rest : List Sign) → HasForm f t → IsBuilt t
    → height t ≤ d → Stops (rank f) rest → P f (spelled t ++ rest) ≡ got t rest) where
  run_gets : (l : ℕ) (es : List Element) (k : FormulaTrees → FormulaTree) (xs : FormulaTrees)
      (rest : List Sign) → IsClear l es → Fit es xs → heights xs ≤ d → Stops l rest
      → run P es k (elements_spelled es xs ++ rest) ≡ got (k xs) rest
  unfolding run
  run_gets l [] k none rest c f h s = refl
  run_gets l [] k (more a xs) rest c f h s = absurd f
  run_gets l (token t ∷ es) k xs rest c f h s =
      rw (eat_self t (elements_spelled es xs ++ rest)) (run_gets l es k xs rest c f h s)
  run_gets l (part g ∷ es) k none rest c f h s = absurd f
  run_gets l (part g ∷ []) k (more a (more b xs)) rest c f h s = absurd f.2
  run_gets l (part g ∷ []) k (more a none) rest c f h s =
      rw (
        append-nil (spelled a),
        reads g a rest f.0 f.1 (omega arith)
            (stops_less (rank g) l rest c s),
      ) refl
  run_gets l (part g ∷ token t ∷ es) k (more a xs) rest c f h s =
      rw (
        append_assoc (spelled a) (t ∷ elements_spelled es xs) rest,
        reads g a
            (t ∷ (elements_spelled es xs ++ rest)) f.0 f.1 (omega arith) c.0,
      )
      (run_gets l (token t ∷ es) (λ ys. k (more a ys)) xs rest c.1 f.2 (omega arith) s)
  run_gets l (part g ∷ part j ∷ es) k (more a xs) rest c f h s = absurd c

  alternative_gets : (a : Alternative) (xs : FormulaTrees) (rest : List Sign) → Fit (elements a) xs
      → heights xs ≤ d → Stops (alternative_rank a) rest
      → alternative P a (elements_spelled (elements a) xs ++ rest) ≡ got (build a xs) rest
  alternative_gets a xs rest f h s =
      run_gets (alternative_rank a) (elements a) (build a) xs rest (alternative_clear a) f h s

  formulas_get : (m : ℕ) (a : FormulaTree) (xs : FormulaTrees) (s : Sign) (x : List Sign)
      → count xs < m → IsBuilt a → AreBuilt xs → height a ≤ d → heights xs ≤ d → 4 < goes_on s
      → (s ≡ mark p.Comma → ⊥)
      → formulas P m (spelled a ++ (more_spelled xs ++ s ∷ x)) ≡ got (more a xs) (s ∷ x)
  unfolding formulas
  formulas_get zero a xs s x h b c low lows g n = absurd (omega arith)
  formulas_get (suc m) a none s x h b c low lows g n =
      rw (reads form.Formula a (s ∷ x) (rank_bound a) b low g, no_comma s x n) refl
  formulas_get (suc m) a (more e xs) s x h b c low lows g n =
      let next = (spelled e ++ more_spelled xs) ++ s ∷ x in
      rw (
        reads form.Formula a (mark p.Comma ∷ next) (rank_bound a) b low (omega arith),
        eat_self (mark p.Comma) next,
        append_assoc (spelled e) (more_spelled xs) (s ∷ x),
        formulas_get m e xs s x (omega arith) c.0 c.1 (omega arith) (omega arith) g n,
      ) refl

  arguments_get : (xs : FormulaTrees) (rest : List Sign) → IsSome xs → AreBuilt xs → heights xs ≤ d
      → arguments P
      (mark p.OpenParenthesis ∷ ((list_spelled xs ++ mark p.CloseParenthesis ∷ []) ++ rest))
      ≡ got xs rest
  arguments_get none rest f b h = absurd f
  arguments_get (more a xs) rest f b h =
      let s = mark p.CloseParenthesis in
      let ts = spelled a ++ (more_spelled xs ++ s ∷ rest) in
      let split : ((spelled a ++ more_spelled xs) ++ s ∷ []) ++ rest ≡ ts =
      append_assoc (spelled a ++ more_spelled xs) (s ∷ []) rest
      ∙ append_assoc (spelled a) (more_spelled xs) (s ∷ rest) in
      let enough : count xs < suc (length ts) =
      omega (
        arith,
        more_count xs,
        length-append (spelled a)
            (more_spelled xs ++ s ∷ rest),
        length-append (more_spelled xs) (s ∷ rest),
      ) in
      rw (
        split,
        eat_self (mark p.OpenParenthesis) ts,
        formulas_get
            (suc (length ts)) a xs s rest enough b.0 b.1 (omega arith) (omega arith) (omega arith)
            (λ e. cc),
        eat_self s rest,
      ) refl

  applied_stops : (n : List ℕ) (rest : List Sign) → Stops 0 rest
      → applied P n rest ≡ got (name n) rest
  unfolding applied
  applied_stops n rest h = rw (no_open rest h) refl

  applied_gets : (n : List ℕ) (xs : FormulaTrees) (rest : List Sign) → IsSome xs → AreBuilt xs
      → heights xs ≤ d
      → applied P n
      (mark p.OpenParenthesis ∷ ((list_spelled xs ++ mark p.CloseParenthesis ∷ []) ++ rest))
      ≡ got (apply n xs) rest
  unfolding applied
  applied_gets n xs rest f b h = rw (arguments_get xs rest f b h) refl

  -- an alternative of a term, behind the tokens that tell which it is
  led_to : (a : Alternative) (xs : FormulaTrees) (rest : List Sign) → IsOf form.Term a → IsWhole a
      → Fit (elements a) xs → term P (lead a ++ (elements_spelled (elements a) xs ++ rest))
      ≡ alternative P a (elements_spelled (elements a) xs ++ rest)
  unfolding term found start_of
  led_to (quantification q gs) xs rest o w f = absurd o
  led_to grouping xs rest o w f = refl
  led_to pairing xs rest o w f = refl
  led_to condition xs rest o w f = refl
  led_to (finding ns) xs rest o w f =
      let next = elements_spelled (elements (finding ns)) xs ++ rest in
      rw (identifiers_again ns next w
      (no_comma (reserved r.Such)
      (elements_spelled
      (token (reserved r.That) ∷ part form.Formula ∷ token
      (reserved r.In) ∷ part form.Term ∷ token (reserved r.Else) ∷ part form.Term ∷ []) xs ++
      rest) (λ e. cc))) refl
  led_to difference xs rest o w f = refl
  led_to (call u) xs rest o w f = rw (start_of_word (start.Unary u)) refl
  led_to (valuation m) xs rest o w f = rw (start_of_word (start.Macro m)) refl

  fixed_gets : (a : Alternative) (xs : FormulaTrees) (rest : List Sign) → IsOf form.Term a
      → IsWhole a → Fit (elements a) xs → heights xs ≤ d → Stops (alternative_rank a) rest
      → term P (spelled (build a xs) ++ rest) ≡ got (build a xs) rest
  fixed_gets a xs rest o w f h s = ap (term P) (sym (opened a xs rest (makes a xs w f)))
      ∙ (led_to a xs rest o w f ∙ alternative_gets a xs rest f h s)

  term_gets : (t : FormulaTree) (rest : List Sign) → tree_rank t ≤ 0 → IsBuilt t → height t ≤ suc d
      → Stops 0 rest → term P (spelled t ++ rest) ≡ got t rest
  unfolding term start_of
  term_gets (quantified q gs a) rest h b low s = let never : ⊥ = omega arith in absurd never
  term_gets (binary o e g) rest h b low s = let never : ⊥ =
      omega (arith, (binary_bounds o).0) in absurd never
  term_gets (group a) rest h b low s =
      fixed_gets grouping (more a none) rest tt tt (rank_bound a, b, tt) (omega arith) s
  term_gets (pair a c) rest h b low s =
      fixed_gets pairing (more a (more c none)) rest tt tt (b.0, b.1, (b.2, b.3, tt))
      (omega arith) s
  term_gets (constant c) rest h b low s = rw (start_of_word (start.Constant c)) refl
  term_gets (conditional a c e) rest h b low s =
      fixed_gets condition (more a (more c (more e none))) rest tt tt
      (rank_bound a, b.0, (b.1, b.2, (b.3, b.4, tt))) (omega arith) s
  term_gets (find ns a c e) rest h b low s =
      fixed_gets (finding ns) (more a (more c (more e none))) rest tt b.0
      (rank_bound a, b.1, (b.2, b.3, (b.4, b.5, tt))) (omega arith) s
  term_gets (diff a c) rest h b low s =
      fixed_gets difference (more a (more c none)) rest tt tt
      (rank_bound a, b.0, (rank_bound c, b.1, tt)) (omega arith) s
  term_gets (unary u a) rest h b low s =
      fixed_gets (call u) (more a none) rest tt tt (b.0, b.1, tt) (omega arith) s
  term_gets (value m a) rest h b low s =
      fixed_gets (valuation m) (more a none) rest tt tt (b.0, b.1, tt) (omega arith) s
  term_gets (name n) rest h b low s = applied_stops n rest s
  term_gets (apply n xs) rest h b low s = applied_gets n xs rest b.0 b.1 (omega arith)

  time_gets : (t : FormulaTree) (rest : List Sign) → IsTime t → IsBuilt t → height t ≤ suc d
      → Stops 0 rest → time P (spelled t ++ rest) ≡ got t rest
  unfolding time start_of
  time_gets (constant Init) rest h b low s = refl
  time_gets (unary Pred a) rest h b low s =
      alternative_gets (call Pred) (more a none) rest (b.0, b.1, tt) (omega arith) s
  time_gets (name n) rest h b low s = action_stops n rest s
  time_gets (apply n xs) rest h b low s = action_again n xs rest h b.0
  time_gets _ rest h b low s = absurd h

  -- no operator of the rank stands behind
  itself : (l : ℕ) (t : FormulaTree) (rest : List Sign) → Stops (suc l) rest
      → continued P (suc l) t rest ≡ got t rest
  unfolding continued
  itself l t [] s = refl
  itself l t (word w ∷ q) s = refl
  itself l t (number n ∷ q) s = refl
  itself l t (reserved w ∷ q) s = refl
  itself l t (mark i ∷ q) s = by (binary_of i) refl
    where
      by_rank : (o : Binary) → binary_of i ≡ Some o → (b : Bool)
          → nat_eq (binary_rank o) (suc l) ≡ b
          → (if b then recover (P (operand_form o) q) (λ c v. got (binary o t c) v)
          (got t (mark i ∷ q)) else got t (mark i ∷ q)) ≡ got t (mark i ∷ q)
      by_rank o e true f =
          let same_rank : binary_rank o ≡ suc l = grind (arith, nat_tests) in
          let goes = goes_on_is i o e in
          absurd (omega arith)
      by_rank o e false f = refl

      by : (w : Option Binary) → binary_of i ≡ w → joined P (suc l) t i q w ≡ got t (mark i ∷ q)
      by None e = refl
      by (Some o) e = by_rank o e (nat_eq (binary_rank o) (suc l)) refl

  -- at an operator of the rank
  operand : (l : ℕ) (o : Binary) (a b : FormulaTree) (rest : List Sign) → binary_rank o ≡ suc l
      → IsBuilt b → HasForm (operand_form o) b → height b ≤ d → Stops (suc l) rest
      → continued P (suc l) a (mark (binary_mark o) ∷ (spelled b ++ rest)) ≡ got (binary o a b) rest
  unfolding continued
  operand l o a b rest e built has low s =
      let here : nat_eq (binary_rank o) (suc l) ≡ true = grind (arith, nat_tests) in
      let bounds = binary_bounds o in
      rw (
        binary_of_mark o,
        here,
        reads (operand_form o) b rest has built low
            (stops_less (rank (operand_form o)) (suc l) rest (omega arith) s),
      ) refl

  -- one rank up
  raised : (l : ℕ) (t : FormulaTree) (rest : List Sign) → l < 4 → (c : Bool)
      → nat_le (tree_rank t) l ≡ c → IsPlain t → tree_rank t ≤ suc l → IsBuilt t → height t ≤ suc d
      → Stops (suc l) rest
      → ((u : FormulaTree) (x : List Sign) → IsPlain u → tree_rank u ≤ l → IsBuilt u
      → height u ≤ suc d → Stops l x → ranked P l (spelled u ++ x) ≡ got u x)
      → bind (ranked P l (spelled t ++ rest)) (continued P (suc l)) ≡ got t rest
  raised l t rest m true e p h b low s lower =
      let within : tree_rank t ≤ l = grind (arith, nat_tests) in
      rw (lower t rest p within b low (stops_less l (suc l) rest (omega arith) s))
      (itself l t rest s)
  raised l (quantified q gs a) rest m false e p h b low s lower = absurd p
  raised l (binary o a c) rest m false e p h b low s lower =
      let at : binary_rank o ≡ suc l = grind (arith, nat_tests) in
      let next = mark (binary_mark o) ∷ (spelled c ++ rest) in
      let left = left_rank o a b.0 in
      let goes = goes_on_mark o in
      rw (
        append_assoc (spelled a) (mark (binary_mark o) ∷ spelled c) rest,
        lower a next
            (plain_below a (omega arith)) (omega arith) b.1 (omega arith) (omega arith),
      )
      (operand l o a c rest at b.3 b.2 (omega arith) s)
  raised l (group a) rest m false e p h b low s lower = let never : ⊥ =
      grind (arith, nat_tests) in absurd never
  raised l (pair a c) rest m false e p h b low s lower = let never : ⊥ =
      grind (arith, nat_tests) in absurd never
  raised l (constant a) rest m false e p h b low s lower = let never : ⊥ =
      grind (arith, nat_tests) in absurd never
  raised l (conditional a c g) rest m false e p h b low s lower = let never : ⊥ =
      grind (arith, nat_tests) in absurd never
  raised l (find ns a c g) rest m false e p h b low s lower = let never : ⊥ =
      grind (arith, nat_tests) in absurd never
  raised l (diff a c) rest m false e p h b low s lower = let never : ⊥ =
      grind (arith, nat_tests) in absurd never
  raised l (unary u a) rest m false e p h b low s lower = let never : ⊥ =
      grind (arith, nat_tests) in absurd never
  raised l (value u a) rest m false e p h b low s lower = let never : ⊥ =
      grind (arith, nat_tests) in absurd never
  raised l (name n) rest m false e p h b low s lower = let never : ⊥ =
      grind (arith, nat_tests) in absurd never
  raised l (apply n xs) rest m false e p h b low s lower = let never : ⊥ =
      grind (arith, nat_tests) in absurd never

  ranked_gets : (l : ℕ) (t : FormulaTree) (rest : List Sign) → l ≤ 4 → IsPlain t → tree_rank t ≤ l
      → IsBuilt t → height t ≤ suc d → Stops l rest → ranked P l (spelled t ++ rest) ≡ got t rest
  unfolding ranked
  ranked_gets zero t rest m p h b low s = term_gets t rest h b low s
  ranked_gets (suc l) t rest m p h b low s =
      raised l t rest (omega arith) (nat_le (tree_rank t) l) refl p h b low s
      (λ u x q g c k stop. ranked_gets l u x (omega arith) q g c k stop)

  quantifying_gets : (k : Quantifier) (gs : List Group) (a : FormulaTree) (rest : List Sign)
      → AreBinders gs → IsBuilt a → height a ≤ d → Stops 4 rest
      → quantifying P k
      (mark p.OpenParenthesis ∷
      (groups_spelled gs ++
      (elements_spelled (elements (quantification k gs)) (more a none) ++ rest)))
      ≡ got (quantified k gs a) rest
  unfolding quantifying
  quantifying_gets k gs a rest w b low s =
      let next = elements_spelled (elements (quantification k gs)) (more a none) ++ rest in
      rw (
        eat_self (mark p.OpenParenthesis) (groups_spelled gs ++ next),
        binders_again gs next w
            (no_comma (mark p.CloseParenthesis) (mark p.Comma ∷ ((spelled a ++ []) ++ rest))
            (λ e. cc)),
      )
      (alternative_gets (quantification k gs) (more a none) rest (rank_bound a, b, tt)
      (omega arith) s)

  no_term : (k : Quantifier) (q : List Sign) → ranked P 4 (reserved (quantifier_word k) ∷ q)
      ≡ read.none
  unfolding ranked term start_of
  no_term Forall q = refl
  no_term Exists q = refl

  formula_plain : (ts : List Sign) (t : FormulaTree) (rest : List Sign) → ranked P 4 ts ≡ got t rest
      → formula P ts ≡ got t rest
  unfolding formula
  formula_plain [] t rest h = h
  formula_plain (word w ∷ q) t rest h = h
  formula_plain (number n ∷ q) t rest h = h
  formula_plain (mark i ∷ q) t rest h = h
  formula_plain (reserved w ∷ q) t rest h = by (start_of w) refl
    where
      by : (o : Option Start) → start_of w ≡ o → formula_at P w q o ≡ got t rest
      by (Some (start.Quantifier k)) e =
          let nothing : ranked P 4 (reserved w ∷ q) ≡ read.none =
          ap (λ j. ranked P 4 (reserved j ∷ q)) (start_of_is w (start.Quantifier k) e)
          ∙ no_term k q in
          let never : ⊥ = cc in
          absurd never
      by _ e = h

  formula_gets : (t : FormulaTree) (rest : List Sign) → IsBuilt t → height t ≤ suc d → Stops 4 rest
      → formula P (spelled t ++ rest) ≡ got t rest
  unfolding formula start_of
  formula_gets (quantified k gs a) rest b low s =
      ap (formula P)
      (sym (opened (quantification k gs) (more a none) rest
      (makes (quantification k gs) (more a none) b.0 (rank_bound a, b.1, tt))))
      ∙ rw (start_of_word (start.Quantifier k))
      (quantifying_gets k gs a rest b.0 b.1 (omega arith) s)
  formula_gets t rest b low s =
      formula_plain (spelled t ++ rest) t rest
      (ranked_gets 4 t rest (omega arith) tt (rank_bound t) b low s)

  any_gets : (f : Form) (t : FormulaTree) (rest : List Sign) → HasForm f t → IsBuilt t
      → height t ≤ suc d → Stops (rank f) rest → any P f (spelled t ++ rest) ≡ got t rest
  unfolding any
  any_gets form.Time t rest h b low s = time_gets t rest h b low s
  any_gets form.Term t rest h b low s =
      ranked_gets 0 t rest (omega arith) (plain_below t (omega arith)) h b low s
  any_gets form.Atom t rest h b low s =
      ranked_gets 1 t rest (omega arith) (plain_below t (omega arith)) h b low s
  any_gets form.Conj t rest h b low s =
      ranked_gets 2 t rest (omega arith) (plain_below t (omega arith)) h b low s
  any_gets form.Disj t rest h b low s =
      ranked_gets 3 t rest (omega arith) (plain_below t (omega arith)) h b low s
  any_gets form.Formula t rest h b low s = formula_gets t rest b low s

pub parse_gets : (d : ℕ) (f : Form) (t : FormulaTree) (rest : List Sign) → HasForm f t → IsBuilt t
    → height t ≤ d → Stops (rank f) rest → parse d f (spelled t ++ rest) ≡ got t rest
unfolding parse
parse_gets zero f t rest h b low s = let some = positive t in absurd (omega arith)
parse_gets (suc d) f t rest h b low s = any_gets (parse d) d (parse_gets d) f t rest h b low s
