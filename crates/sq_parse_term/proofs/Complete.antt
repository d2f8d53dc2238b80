-- What begins the list is read, or something longer.
use Rattle.std.proofs.Common.{◌≡◌, ℕ, zero, suc, ◌+◌, ◌<◌, ◌≤◌, Bool, true, false, if◌then◌else◌}
use Rattle.std.proofs.Common.{nat_eq}
use Rattle.std.proofs.Common.{nat_le, List, [], ◌∷◌, ◌++◌, length, Option, Some, None, refl, sym}
use Rattle.std.proofs.Common.{ap, ◌∙◌, subst, arith, append_assoc, length-append, ◌⊎◌, inl, inr}
use Rattle.std.specs.Prelude.{⊤}
use Rattle.std.proofs.lemmas.List.{append-nil}
use Rattle.std.proofs.lemmas.Bool.Decides.{nat_tests}
use Rattle.sq_token.specs.declared.kind.Reserved.TheVariants as r
use Rattle.sq_token.specs.declared.kind.Punctuation.{Punctuation}
use Rattle.sq_token.specs.declared.kind.Punctuation.TheVariants as p
use Rattle.sq_token.specs.Sign.{Sign, word, number, reserved, mark}
use Rattle.sq_ast.specs.declared.formula.Form.{Form}
use Rattle.sq_ast.specs.declared.formula.Form.TheVariants as form
use Rattle.sq_ast.specs.declared.formula.Quantifier.{Quantifier}
use Rattle.sq_ast.specs.declared.formula.Quantifier.TheVariants.{Forall, Exists}
use Rattle.sq_ast.specs.declared.formula.Binary.{Binary}
use Rattle.sq_ast.specs.declared.formula.Binary.TheVariants.{Implies, Or, And, Equal, NotEqual}
use Rattle.sq_ast.specs.declared.formula.Binary.TheVariants.{LessEqual, Less}
use Rattle.sq_ast.specs.declared.formula.Constant.TheVariants.{Init}
use Rattle.sq_ast.specs.declared.formula.Unary.{Unary}
use Rattle.sq_ast.specs.declared.formula.Unary.TheVariants.{Not, Fst, Snd, OfBool, Happens, Pred}
use Rattle.sq_parse_term.specs.declared.words.Start.{Start}
use Rattle.sq_parse_term.specs.declared.words.Start.TheVariants as start
use Rattle.sq_ast.specs.Tree.{Group, FormulaTree, quantified, binary, group, pair, constant}
use Rattle.sq_ast.specs.Tree.{conditional, find, diff, unary, value, name, apply, FormulaTrees}
use Rattle.sq_ast.specs.Tree.{none, more}
use Rattle.sq_ast.specs.Grammar.{quantifier_word, binary_mark, names_spelled, groups_spelled}
use Rattle.sq_ast.specs.Grammar.{AreBinders, spelled, list_spelled, more_spelled, rank, binary_rank}
use Rattle.sq_ast.specs.Grammar.{left_form, operand_form, argument_form, tree_rank, AreNames}
use Rattle.sq_ast.specs.Grammar.{IsTime, HasForm, IsSome, IsBuilt, AreBuilt}
use Rattle.sq_ast.specs.Deep.{IsFront, Alternative, quantification, grouping, pairing, condition}
use Rattle.sq_ast.specs.Deep.{finding, difference, call, valuation, lead, Element, token, part}
use Rattle.sq_ast.specs.Deep.{elements, IsWhole, IsOf}
use Rattle.sq_parse_term.specs.Parse.{Read, got, bind, recover, eat, comma, identifiers, binders}
use Rattle.sq_parse_term.specs.Parse.{binary_of, start_of, build, named, run, alternative, formulas}
use Rattle.sq_parse_term.specs.Parse.{arguments, applied, found, quantifying, begun, marked, term}
use Rattle.sq_parse_term.specs.Parse.{joined, continued, ranked, formula_at, formula, instance}
use Rattle.sq_parse_term.specs.Parse.{action, time_at, time, any, parse}
use Rattle.sq_parse_term.specs.Parse as read
use Rattle.sq_parse_term.proofs.Outcomes.{Tells, Finds, bind_holds, recover_holds, recover_finds}
use Rattle.sq_parse_term.proofs.Outcomes.{never_holds, weaken, eat_self}
use Rattle.sq_parse_term.proofs.Sound.{start_of_is, elements_spelled, Fit, alternative_rank, Makes}
use Rattle.sq_parse_term.proofs.Sound.{makes, arguments_tells, instance_never, named_spelled}
use Rattle.sq_parse_term.proofs.Sound.{parse_tells}
use Rattle.sq_parse_term.proofs.Again.{binary_of_mark, start_of_word, identifiers_again}
use Rattle.sq_parse_term.proofs.Again.{binders_again, no_comma, instance_again, names_of}
use Rattle.sq_parse_term.proofs.Again.{named_again, names_filled}

-- the least rank of a form that may go on with the token
abbrev pub mark_goes_on : Punctuation → ℕ
mark_goes_on p.OpenParenthesis = 0
mark_goes_on p.Equals = 1
mark_goes_on p.Differs = 1
mark_goes_on p.AtMost = 1
mark_goes_on p.Less = 1
mark_goes_on p.And = 2
mark_goes_on p.Or = 3
mark_goes_on p.Implies = 4
mark_goes_on _ = 5

abbrev pub goes_on : Sign → ℕ
goes_on (mark i) = mark_goes_on i
goes_on _ = 5

-- a form of the rank may go on with the first token
abbrev pub Goes : ℕ → List Sign → Type 0
Goes l [] = ⊥
Goes l (s ∷ q) = goes_on s ≤ l

-- u and q are what was to be read, or longer
abbrev pub Ahead : {A : Type 0} → ℕ → A → List Sign → A → List Sign → Type 0
Ahead l t rest u q = ((u ≡ t) × (q ≡ rest)) ⊎ ((length q < length rest) × Goes l rest)

-- what was to be read is read
abbrev pub Exactly : {A : Type 0} → A → List Sign → A → List Sign → Type 0
Exactly t rest u q = (u ≡ t) × (q ≡ rest)

-- where no form of the rank goes on with the token after the end, what was to be read is read
pub exact : {A : Type 0} (l : ℕ) (t : A) (s : Sign) (x : List Sign) (u : A) (q : List Sign)
    → l < goes_on s → Ahead l t (s ∷ x) u q → Exactly t (s ∷ x) u q
exact l t s x u q h (inl e) = e
exact l t s x u q h (inr e) = absurd (omega arith)

pub goes_on_is : (i : Punctuation) (o : Binary) → binary_of i ≡ Some o
    → mark_goes_on i ≡ binary_rank o
goes_on_is p.Implies o h = let e : Implies ≡ o = cc in ap binary_rank e
goes_on_is p.Or o h = let e : Or ≡ o = cc in ap binary_rank e
goes_on_is p.And o h = let e : And ≡ o = cc in ap binary_rank e
goes_on_is p.Equals o h = let e : Equal ≡ o = cc in ap binary_rank e
goes_on_is p.Differs o h = let e : NotEqual ≡ o = cc in ap binary_rank e
goes_on_is p.AtMost o h = let e : LessEqual ≡ o = cc in ap binary_rank e
goes_on_is p.Less o h = let e : Less ≡ o = cc in ap binary_rank e
goes_on_is _ o h = cc

pub goes_on_mark : (o : Binary) → mark_goes_on (binary_mark o) ≡ binary_rank o
goes_on_mark Implies = refl
goes_on_mark Or = refl
goes_on_mark And = refl
goes_on_mark Equal = refl
goes_on_mark NotEqual = refl
goes_on_mark LessEqual = refl
goes_on_mark Less = refl

pub goes_up : (l m : ℕ) (rest : List Sign) → l ≤ m → Goes l rest → Goes m rest
goes_up l m [] h g = g
goes_up l m (s ∷ q) h g = omega arith

pub ahead_up : {A : Type 0} (l m : ℕ) (t : A) (rest : List Sign) (u : A) (q : List Sign) → l ≤ m
    → Ahead l t rest u q → Ahead m t rest u q
ahead_up l m t rest u q h (inl e) = inl e
ahead_up l m t rest u q h (inr g) = inr (g.0, goes_up l m rest h g.1)

abbrev pub count : FormulaTrees → ℕ
count none = 0
count (more a xs) = 1 + count xs

pub more_count : (xs : FormulaTrees) → count xs ≤ length (more_spelled xs)
more_count none = omega arith
more_count (more a xs) = omega (arith, more_count xs, length-append (spelled a) (more_spelled xs))

abbrev pub IsPlain : FormulaTree → Type 0
IsPlain (quantified q gs a) = ⊥
IsPlain _ = ⊤

pub plain_below : (t : FormulaTree) → tree_rank t < 4 → IsPlain t
plain_below (quantified q gs a) h = let never : ⊥ = omega arith in never
plain_below (binary o a b) h = tt
plain_below (group a) h = tt
plain_below (pair a b) h = tt
plain_below (constant c) h = tt
plain_below (conditional a b c) h = tt
plain_below (find ns a b c) h = tt
plain_below (diff a b) h = tt
plain_below (unary u a) h = tt
plain_below (value m a) h = tt
plain_below (name n) h = tt
plain_below (apply n xs) h = tt

pub binary_bounds : (o : Binary)
    → (0 < binary_rank o) × (binary_rank o ≤ 4) × (rank (operand_form o) ≤ binary_rank o)
binary_bounds Implies = (omega arith, omega arith, omega arith)
binary_bounds Or = (omega arith, omega arith, omega arith)
binary_bounds And = (omega arith, omega arith, omega arith)
binary_bounds Equal = (omega arith, omega arith, omega arith)
binary_bounds NotEqual = (omega arith, omega arith, omega arith)
binary_bounds LessEqual = (omega arith, omega arith, omega arith)
binary_bounds Less = (omega arith, omega arith, omega arith)

pub left_rank : (o : Binary) (a : FormulaTree) → HasForm (left_form o) a
    → tree_rank a < binary_rank o
left_rank Implies a h = omega arith
left_rank Or a h = omega arith
left_rank And a h = omega arith
left_rank Equal a h = omega arith
left_rank NotEqual a h = omega arith
left_rank LessEqual a h = omega arith
left_rank Less a h = omega arith

pub rank_bound : (t : FormulaTree) → tree_rank t ≤ 4
rank_bound (quantified q gs a) = omega arith
rank_bound (binary o a b) = (binary_bounds o).1
rank_bound (group a) = omega arith
rank_bound (pair a b) = omega arith
rank_bound (constant c) = omega arith
rank_bound (conditional a b c) = omega arith
rank_bound (find ns a b c) = omega arith
rank_bound (diff a b) = omega arith
rank_bound (unary u a) = omega arith
rank_bound (value m a) = omega arith
rank_bound (name n) = omega arith
rank_bound (apply n xs) = omega arith

-- No part goes on with the token behind it, and the last one binds no looser than the whole.
abbrev pub IsClear : ℕ → List Element → Type 0
IsClear l [] = ⊤
IsClear l (token s ∷ es) = IsClear l es
IsClear l (part f ∷ []) = rank f ≤ l
IsClear l (part f ∷ token s ∷ es) = (rank f < goes_on s) × IsClear l es
IsClear l (part f ∷ part g ∷ es) = ⊥

pub argument_rank : (u : Unary) → rank (argument_form u) < 5
argument_rank Not = omega arith
argument_rank Fst = omega arith
argument_rank Snd = omega arith
argument_rank OfBool = omega arith
argument_rank Happens = omega arith
argument_rank Pred = omega arith

pub alternative_clear : (a : Alternative) → IsClear (alternative_rank a) (elements a)
alternative_clear (quantification q gs) = omega arith
alternative_clear grouping = (omega arith, tt)
alternative_clear pairing = (omega arith, (omega arith, tt))
alternative_clear condition = (omega arith, (omega arith, omega arith))
alternative_clear (finding ns) = (omega arith, (omega arith, omega arith))
alternative_clear difference = (omega arith, (omega arith, tt))
alternative_clear (call u) = (argument_rank u, tt)
alternative_clear (valuation m) = omega arith

-- the tokens of an alternative begin with those that tell which it is
pub opened : (a : Alternative) (xs : FormulaTrees) (rest : List Sign) → Makes a xs
    → lead a ++ (elements_spelled (elements a) xs ++ rest) ≡ spelled (build a xs) ++ rest
opened a xs rest m = sym (append_assoc (lead a) (elements_spelled (elements a) xs) rest) ∙ ap
    (λ z. z ++ rest) m.spelled_is

-- after an identifier, a parenthesis goes on
pub longer : {A : Type 0} (l : ℕ) (t : A) (u : A) (ts xs q : List Sign)
    → ts ≡ mark p.OpenParenthesis ∷ ((xs ++ mark p.CloseParenthesis ∷ []) ++ q) → Ahead l t ts u q
longer l t u ts xs q e = inr (
  omega
      (arith, ap length e, length-append (xs ++ mark p.CloseParenthesis ∷ []) q),
  subst (Goes l)
      (sym e) (omega arith),
)

pub action_finds : (n : List ℕ) (rest : List Sign) → Finds (Ahead 0 (name n) rest) (action n rest)
unfolding action
action_finds n rest = recover_holds ⊤ ⊥ _ (Ahead 0 (name n) rest) ⊤ (instance rest) _ _
    (never_holds ⊤ _ (instance rest) (instance_never rest))
    (λ ns q h. longer 0 (name n) (apply n (named ns)) rest (names_spelled ns) q h.1)
    (inl (refl, refl))

pub action_again : (n : List ℕ) (xs : FormulaTrees) (rest : List Sign) → AreNames xs → IsSome xs
    → action n (mark p.OpenParenthesis
    ∷ ((list_spelled xs ++ mark p.CloseParenthesis ∷ []) ++ rest)) ≡ got (apply n xs) rest
unfolding action
action_again n xs rest h f =
    let same = named_again xs h in
    let spelling : list_spelled xs ≡ names_spelled (names_of xs) = ap list_spelled (sym same) ∙ sym
    (named_spelled (names_of xs)) in
    rw (spelling, instance_again (names_of xs) rest (names_filled xs h f), same) refl

module _ (P : Form → List Sign → Read FormulaTree)
    (sound : (f : Form) (ts : List Sign) → Tells (IsFront f ts) (P f ts))
    (complete : (f : Form) (t : FormulaTree) (rest : List Sign) → HasForm f t → IsBuilt t
    → Finds (Ahead (rank f) t rest) (P f (spelled t ++ rest))) where
  -- at the end of t, where the next token is not to go on
  pub stopped : {B : Type 0} (Q : B → List Sign → Type 0) (f : Form) (t : FormulaTree) (s : Sign)
      (x : List Sign) (k : FormulaTree → List Sign → Read B) → HasForm f t → IsBuilt t
      → rank f < goes_on s → Finds Q (k t (s ∷ x)) → Finds Q (bind (P f (spelled t ++ s ∷ x)) k)
  stopped Q f t s x k has b h g = bind_holds ⊤ ⊥ (Ahead (rank f) t (s ∷ x)) Q
      (P f (spelled t ++ s ∷ x)) k (complete f t (s ∷ x) has b)
      (λ u q a. let e = exact (rank f) t s x u q h a in
      subst (Finds Q) (λ j. k (sym e.0 j) (sym e.1 j)) g)

  pub run_finds : (l : ℕ) (es : List Element) (k : FormulaTrees → FormulaTree) (xs : FormulaTrees)
      (rest : List Sign) → IsClear l es → Fit es xs
      → Finds (Ahead l (k xs) rest) (run P es k (elements_spelled es xs ++ rest))
  unfolding run
  run_finds l [] k none rest c f = inl (refl, refl)
  run_finds l [] k (more a xs) rest c f = absurd f
  run_finds l (token s ∷ es) k xs rest c f = rw (eat_self s (elements_spelled es xs ++ rest))
      (run_finds l es k xs rest c f)
  run_finds l (part f ∷ es) k none rest c h = absurd h
  run_finds l (part f ∷ []) k (more a (more b xs)) rest c h = absurd h.2
  run_finds l (part f ∷ []) k (more a none) rest c h = rw (append-nil (spelled a))
      (bind_holds ⊤ ⊥ (Ahead (rank f) a rest) (Ahead l (k (more a none)) rest)
      (P f (spelled a ++ rest)) _ (complete f a rest h.0 h.1) after)
    where
      after : (u : FormulaTree) (q : List Sign) → Ahead (rank f) a rest u q
          → Ahead l (k (more a none)) rest (k (more u none)) q
      after u q (inl e) = inl (ap (λ z. k (more z none)) e.0, e.1)
      after u q (inr g) = inr (g.0, goes_up (rank f) l rest c g.1)
  run_finds l (part f ∷ token s ∷ es) k (more a xs) rest c h =
      rw (append_assoc (spelled a) (s ∷ elements_spelled es xs) rest)
      (stopped (Ahead l (k (more a xs)) rest) f a s (elements_spelled es xs ++ rest)
      (λ u q. run P (token s ∷ es) (λ ys. k (more u ys)) q) h.0 h.1 c.0
      (run_finds l (token s ∷ es) (λ ys. k (more a ys)) xs rest c.1 h.2))
  run_finds l (part f ∷ part g ∷ es) k (more a xs) rest c h = absurd c

  pub alternative_finds : (a : Alternative) (xs : FormulaTrees) (rest : List Sign)
      → Fit (elements a) xs → Finds (Ahead (alternative_rank a) (build a xs) rest)
      (alternative P a (elements_spelled (elements a) xs ++ rest))
  alternative_finds a xs rest f = run_finds (alternative_rank a) (elements a) (build a) xs rest
      (alternative_clear a) f

  pub formulas_finds : (m : ℕ) (a : FormulaTree) (xs : FormulaTrees) (s : Sign) (x : List Sign)
      → count xs < m → IsBuilt a → AreBuilt xs → 4 < goes_on s → (s ≡ mark p.Comma → ⊥)
      → Finds (Exactly (more a xs) (s ∷ x))
      (formulas P m (spelled a ++ (more_spelled xs ++ s ∷ x)))
  unfolding formulas
  formulas_finds zero a xs s x h b c g n = absurd (omega arith)
  formulas_finds (suc m) a none s x h b c g n = stopped
      (Exactly (more a none) (s ∷ x)) form.Formula a s x _ (rank_bound a) b g
      (rw (no_comma s x n) (refl, refl))
  formulas_finds (suc m) a (more d xs) s x h b c g n =
      let next = (spelled d ++ more_spelled xs) ++ s ∷ x in
      stopped (Exactly (more a (more d xs)) (s ∷ x)) form.Formula a (mark p.Comma) next _
      (rank_bound a) b (omega arith)
      (rw (eat_self (mark p.Comma) next)
      (bind_holds ⊤ ⊥ (Exactly (more d xs) (s ∷ x)) (Exactly (more a (more d xs)) (s ∷ x))
      (formulas P m next) _
      (subst (λ z. Finds (Exactly (more d xs) (s ∷ x)) (formulas P m z))
      (sym (append_assoc (spelled d) (more_spelled xs) (s ∷ x)))
      (formulas_finds m d xs s x (omega arith) c.0 c.1 g n))
      (λ ys q e. (ap (λ zs. more a zs) e.0, e.1))))

  pub arguments_finds : (xs : FormulaTrees) (rest : List Sign) → IsSome xs → AreBuilt xs
      → Finds (Exactly xs rest) (arguments P
      (mark p.OpenParenthesis ∷ ((list_spelled xs ++ mark p.CloseParenthesis ∷ []) ++ rest)))
  arguments_finds none rest f b = absurd f
  arguments_finds (more a xs) rest f b =
      let s = mark p.CloseParenthesis in
      let ts = spelled a ++ (more_spelled xs ++ s ∷ rest) in
      let split : ((spelled a ++ more_spelled xs) ++ s ∷ []) ++ rest
      ≡ ts = append_assoc (spelled a ++ more_spelled xs) (s ∷ []) rest ∙ append_assoc
      (spelled a) (more_spelled xs) (s ∷ rest) in
      let enough : count xs < suc (length ts) = omega (
        arith,
        more_count xs,
        length-append (spelled a)
            (more_spelled xs ++ s ∷ rest),
        length-append (more_spelled xs) (s ∷ rest),
      ) in
      rw (split, eat_self (mark p.OpenParenthesis) ts)
      (bind_holds ⊤ ⊥ (Exactly (more a xs) (s ∷ rest)) (Exactly (more a xs) rest)
      (formulas P (suc (length ts)) ts) _
      (formulas_finds (suc (length ts)) a xs s rest enough b.0 b.1 (omega arith) (λ e. cc))
      (λ ys q e. subst (λ z. Finds (Exactly (more a xs) rest) (bind (eat s z) (λ _ v. got ys v)))
      (sym e.1) (rw (eat_self s rest) (e.0, refl))))

  pub applied_finds : (n : List ℕ) (rest : List Sign)
      → Finds (Ahead 0 (name n) rest) (applied P n rest)
  unfolding applied
  applied_finds n rest = recover_holds ⊤ ⊥ _ (Ahead 0 (name n) rest) ⊤ (arguments P rest) _ _
      (arguments_tells P sound rest)
      (λ xs q h. longer 0 (name n) (apply n xs) rest (list_spelled xs) q h.2)
      (inl (refl, refl))

  pub applied_to : (n : List ℕ) (xs : FormulaTrees) (rest : List Sign) → IsSome xs → AreBuilt xs
      → Finds (Ahead 0 (apply n xs) rest)
      (applied P n (mark p.OpenParenthesis
      ∷ ((list_spelled xs ++ mark p.CloseParenthesis ∷ []) ++ rest)))
  unfolding applied
  applied_to n xs rest f b = recover_finds ⊤ ⊥ (Exactly xs rest) (Ahead 0 (apply n xs) rest) _ _ _
      (arguments_finds xs rest f b) (λ ys q e. inl (ap (λ zs. apply n zs) e.0, e.1))

  -- an alternative of a term, behind the tokens that tell which it is
  pub led : (Q : FormulaTree → List Sign → Type 0) (a : Alternative) (xs : FormulaTrees)
      (rest : List Sign) → IsOf form.Term a → IsWhole a → Fit (elements a) xs
      → Finds Q (alternative P a (elements_spelled (elements a) xs ++ rest))
      → Finds Q (term P (lead a ++ (elements_spelled (elements a) xs ++ rest)))
  unfolding term found start_of
  led Q (quantification q gs) xs rest o w f h = absurd o
  led Q grouping xs rest o w f h = h
  led Q pairing xs rest o w f h = h
  led Q condition xs rest o w f h = h
  led Q (finding ns) xs rest o w f h =
      let next = elements_spelled (elements (finding ns)) xs ++ rest in
      rw (identifiers_again ns next w
      (no_comma (reserved r.Such) (elements_spelled
      (token (reserved r.That) ∷ part form.Formula ∷ token (reserved r.In) ∷ part form.Term
      ∷ token (reserved r.Else) ∷ part form.Term ∷ []) xs ++ rest) (λ e. cc))) h
  led Q difference xs rest o w f h = h
  led Q (call u) xs rest o w f h = rw (start_of_word (start.Unary u)) h
  led Q (valuation m) xs rest o w f h = rw (start_of_word (start.Macro m)) h

  pub fixed_finds : (a : Alternative) (xs : FormulaTrees) (rest : List Sign) → IsOf form.Term a
      → IsWhole a → Fit (elements a) xs
      → Finds (Ahead (alternative_rank a) (build a xs) rest)
      (term P (spelled (build a xs) ++ rest))
  fixed_finds a xs rest o w f = subst
      (λ z. Finds (Ahead (alternative_rank a) (build a xs) rest) (term P z))
      (opened a xs rest (makes a xs w f))
      (led _ a xs rest o w f (alternative_finds a xs rest f))

  pub term_finds : (t : FormulaTree) (rest : List Sign) → tree_rank t ≤ 0 → IsBuilt t
      → Finds (Ahead 0 t rest) (term P (spelled t ++ rest))
  unfolding term start_of
  term_finds (quantified q gs a) rest h b = let never : ⊥ = omega arith in absurd never
  term_finds (binary o c d) rest h b = let never : ⊥ = omega (arith, (binary_bounds o).0) in
      absurd never
  term_finds (group a) rest h b = fixed_finds grouping (more a none) rest tt tt
      (rank_bound a, b, tt)
  term_finds (pair a c) rest h b = fixed_finds pairing (more a (more c none)) rest tt tt
      (b.0, b.1, (b.2, b.3, tt))
  term_finds (constant c) rest h b = rw (start_of_word (start.Constant c)) (inl (refl, refl))
  term_finds (conditional a c d) rest h b = fixed_finds condition
      (more a (more c (more d none))) rest tt tt (rank_bound a, b.0, (b.1, b.2, (b.3, b.4, tt)))
  term_finds (find ns a c d) rest h b = fixed_finds (finding ns)
      (more a (more c (more d none))) rest tt b.0 (rank_bound a, b.1, (b.2, b.3, (b.4, b.5, tt)))
  term_finds (diff a c) rest h b = fixed_finds difference (more a (more c none)) rest tt tt
      (rank_bound a, b.0, (rank_bound c, b.1, tt))
  term_finds (unary u a) rest h b = fixed_finds (call u) (more a none) rest tt tt (b.0, b.1, tt)
  term_finds (value m a) rest h b = fixed_finds (valuation m) (more a none) rest tt tt
      (b.0, b.1, tt)
  term_finds (name n) rest h b = applied_finds n rest
  term_finds (apply n xs) rest h b = applied_to n xs rest b.0 b.1

  pub time_finds : (t : FormulaTree) (rest : List Sign) → IsTime t → IsBuilt t
      → Finds (Ahead 0 t rest) (time P (spelled t ++ rest))
  unfolding time start_of
  time_finds (constant Init) rest h b = inl (refl, refl)
  time_finds (unary Pred a) rest h b = subst
      (λ z. Finds (Ahead 0 (unary Pred a) rest) (alternative P (call Pred) z)) refl
      (alternative_finds (call Pred) (more a none) rest (b.0, b.1, tt))
  time_finds (name n) rest h b = action_finds n rest
  time_finds (apply n xs) rest h b = rw (action_again n xs rest h b.0) (inl (refl, refl))
  time_finds _ rest h b = absurd h

  pub continued_shrinks : (l : ℕ) (a : FormulaTree) (ts : List Sign)
      → Finds (λ u q. length q ≤ length ts) (continued P l a ts)
  unfolding continued
  continued_shrinks l a [] = omega arith
  continued_shrinks l a (word w ∷ q) = omega arith
  continued_shrinks l a (number n ∷ q) = omega arith
  continued_shrinks l a (reserved w ∷ q) = omega arith
  continued_shrinks l a (mark i ∷ q) = by (binary_of i)
    where
      by_rank : (o : Binary) (b : Bool)
          → Finds (λ u v. length v ≤ length (mark i ∷ q))
          (if b then recover (P (operand_form o) q) (λ b v. got (binary o a b) v)
          (got a (mark i ∷ q)) else got a (mark i ∷ q))
      by_rank o true = recover_holds ⊤ ⊥ (IsFront (operand_form o) q) _ ⊤
          (P (operand_form o) q) _ _ (sound (operand_form o) q)
          (λ b v g. omega (arith, ap length g.split, length-append (spelled b) v)) (omega arith)
      by_rank o false = omega arith

      by : (w : Option Binary) → Finds (λ u v. length v ≤ length (mark i ∷ q)) (joined P l a i q w)
      by None = omega arith
      by (Some o) = by_rank o (nat_eq (binary_rank o) l)

  pub itself : (l : ℕ) (t : FormulaTree) (rest : List Sign)
      → Finds (Ahead (suc l) t rest) (continued P (suc l) t rest)
  unfolding continued
  itself l t [] = inl (refl, refl)
  itself l t (word w ∷ q) = inl (refl, refl)
  itself l t (number n ∷ q) = inl (refl, refl)
  itself l t (reserved w ∷ q) = inl (refl, refl)
  itself l t (mark i ∷ q) = by (binary_of i) refl
    where
      by_rank : (o : Binary) → binary_of i ≡ Some o → (b : Bool)
          → nat_eq (binary_rank o) (suc l) ≡ b
          → Finds (Ahead (suc l) t (mark i ∷ q))
          (if b then recover (P (operand_form o) q) (λ b v. got (binary o t b) v)
          (got t (mark i ∷ q)) else got t (mark i ∷ q))
      by_rank o e true f = recover_holds ⊤ ⊥ (IsFront (operand_form o) q) _ ⊤
          (P (operand_form o) q) _ _ (sound (operand_form o) q)
          (λ b v g.
          let same_rank : binary_rank o ≡ suc l = grind (arith, nat_tests) in
          inr (
            omega (arith, ap length g.split, length-append (spelled b) v),
            omega
                (arith, goes_on_is i o e),
          ))
          (inl (refl, refl))
      by_rank o e false f = inl (refl, refl)

      by : (w : Option Binary) → binary_of i ≡ w
          → Finds (Ahead (suc l) t (mark i ∷ q)) (joined P (suc l) t i q w)
      by None e = inl (refl, refl)
      by (Some o) e = by_rank o e (nat_eq (binary_rank o) (suc l)) refl

  pub behind : (l : ℕ) (t : FormulaTree) (rest : List Sign) (u : FormulaTree) (q : List Sign)
      → Ahead l t rest u q → Finds (Ahead (suc l) t rest) (continued P (suc l) u q)
  behind l t rest u q (inl e) = subst (Finds (Ahead (suc l) t rest))
      (λ j. continued P (suc l) (sym e.0 j) (sym e.1 j)) (itself l t rest)
  behind l t rest u q (inr g) = weaken ⊤ ⊥ _ _ (continued P (suc l) u q)
      (continued_shrinks (suc l) u q)
      (λ v w h. inr (omega (arith, g.0, h), goes_up l (suc l) rest (omega arith) g.1))

  -- at an operator of the rank
  pub operand : (l : ℕ) (o : Binary) (a b : FormulaTree) (rest : List Sign) → binary_rank o ≡ suc l
      → IsBuilt b → HasForm (operand_form o) b
      → Finds (Ahead (suc l) (binary o a b) rest)
      (continued P (suc l) a (mark (binary_mark o) ∷ (spelled b ++ rest)))
  unfolding continued
  operand l o a b rest e built has =
      let here : nat_eq (binary_rank o) (suc l) ≡ true = grind (arith, nat_tests) in
      rw (binary_of_mark o, here) (recover_finds ⊤ ⊥ (Ahead (rank (operand_form o)) b rest) _ _ _ _
      (complete (operand_form o) b rest has built)
      (λ c q g. after c q g))
    where
      after : (c : FormulaTree) (q : List Sign) → Ahead (rank (operand_form o)) b rest c q
          → Ahead (suc l) (binary o a b) rest (binary o a c) q
      after c q (inl g) = inl (ap (λ z. binary o a z) g.0, g.1)
      after c q (inr g) = let up = binary_bounds o in
          inr (g.0, goes_up (rank (operand_form o)) (suc l) rest (omega arith) g.1)

  -- one rank up
  raised : (l : ℕ) (t : FormulaTree) (rest : List Sign) → l < 4 → (c : Bool)
      → nat_le (tree_rank t) l ≡ c → IsPlain t → tree_rank t ≤ suc l → IsBuilt t
      → ((u : FormulaTree) (x : List Sign) → IsPlain u → tree_rank u ≤ l → IsBuilt u
      → Finds (Ahead l u x) (ranked P l (spelled u ++ x)))
      → Finds (Ahead (suc l) t rest) (bind (ranked P l (spelled t ++ rest)) (continued P (suc l)))
  raised l t rest m true e p h b lower =
      let le : tree_rank t ≤ l = grind (arith, nat_tests) in
      bind_holds ⊤ ⊥ (Ahead l t rest) _ (ranked P l (spelled t ++ rest)) _ (lower t rest p le b)
      (λ u q g. behind l t rest u q g)
  raised l (quantified q gs a) rest m false e p h b lower = absurd p
  raised l (binary o a d) rest m false e p h b lower =
      let at : binary_rank o ≡ suc l = grind (arith, nat_tests) in
      let next = mark (binary_mark o) ∷ (spelled d ++ rest) in
      let left = left_rank o a b.0 in
      rw (append_assoc (spelled a) (mark (binary_mark o) ∷ spelled d) rest)
      (bind_holds ⊤ ⊥ (Ahead l a next) _ (ranked P l (spelled a ++ next)) _
      (lower a next (plain_below a (omega arith)) (omega arith) b.1)
      (λ u q g.
      let same_end = exact l a (mark (binary_mark o)) (spelled d ++ rest) u q
      (omega (arith, goes_on_mark o)) g in
      subst (Finds (Ahead (suc l) (binary o a d) rest))
      (λ j. continued P (suc l) (sym same_end.0 j) (sym same_end.1 j))
      (operand l o a d rest at b.3 b.2)))
  raised l (group a) rest m false e p h b lower = let never : ⊥ = grind (arith, nat_tests) in
      absurd never
  raised l (pair a d) rest m false e p h b lower = let never : ⊥ = grind (arith, nat_tests) in
      absurd never
  raised l (constant a) rest m false e p h b lower = let never : ⊥ = grind (arith, nat_tests) in
      absurd never
  raised l (conditional a c d) rest m false e p h b lower = let never : ⊥ =
      grind (arith, nat_tests) in
      absurd never
  raised l (find ns a c d) rest m false e p h b lower = let never : ⊥ = grind (arith, nat_tests) in
      absurd never
  raised l (diff a d) rest m false e p h b lower = let never : ⊥ = grind (arith, nat_tests) in
      absurd never
  raised l (unary u a) rest m false e p h b lower = let never : ⊥ = grind (arith, nat_tests) in
      absurd never
  raised l (value u a) rest m false e p h b lower = let never : ⊥ = grind (arith, nat_tests) in
      absurd never
  raised l (name n) rest m false e p h b lower = let never : ⊥ = grind (arith, nat_tests) in
      absurd never
  raised l (apply n xs) rest m false e p h b lower = let never : ⊥ = grind (arith, nat_tests) in
      absurd never

  pub ranked_finds : (l : ℕ) (t : FormulaTree) (rest : List Sign) → l ≤ 4 → IsPlain t
      → tree_rank t ≤ l → IsBuilt t → Finds (Ahead l t rest) (ranked P l (spelled t ++ rest))
  unfolding ranked
  ranked_finds zero t rest m p h b = term_finds t rest h b
  ranked_finds (suc l) t rest m p h b = raised l t rest (omega arith)
      (nat_le (tree_rank t) l) refl p h b (λ u x q g c. ranked_finds l u x (omega arith) q g c)

  pub quantifying_finds : (k : Quantifier) (gs : List Group) (a : FormulaTree) (rest : List Sign)
      → AreBinders gs → IsBuilt a → Finds (Ahead 4 (quantified k gs a) rest)
      (quantifying P k (mark p.OpenParenthesis
      ∷ (groups_spelled gs ++ (elements_spelled (elements (quantification k gs))
      (more a none) ++ rest))))
  unfolding quantifying
  quantifying_finds k gs a rest w b =
      let next = elements_spelled (elements (quantification k gs)) (more a none) ++ rest in
      rw (
        eat_self (mark p.OpenParenthesis) (groups_spelled gs ++ next),
        binders_again gs next w
            (no_comma (mark p.CloseParenthesis) (mark p.Comma ∷ ((spelled a ++ []) ++ rest))
            (λ e. cc)),
      )
      (alternative_finds (quantification k gs) (more a none) rest (rank_bound a, b, tt))

  pub no_term : (k : Quantifier) (q : List Sign)
      → ranked P 4 (reserved (quantifier_word k) ∷ q) ≡ read.none
  unfolding ranked term start_of
  no_term Forall q = refl
  no_term Exists q = refl

  pub formula_plain : (Q : FormulaTree → List Sign → Type 0) (ts : List Sign)
      → Finds Q (ranked P 4 ts) → Finds Q (formula P ts)
  unfolding formula
  formula_plain Q [] h = h
  formula_plain Q (word w ∷ q) h = h
  formula_plain Q (number n ∷ q) h = h
  formula_plain Q (mark i ∷ q) h = h
  formula_plain Q (reserved w ∷ q) h = by (start_of w) refl
    where
      by : (o : Option Start) → start_of w ≡ o → Finds Q (formula_at P w q o)
      by (Some (start.Quantifier k)) e = absurd
          (subst (Finds Q) (ap (λ j. ranked P 4 (reserved j ∷ q))
          (start_of_is w (start.Quantifier k) e) ∙ no_term k q) h)
      by _ e = h

  pub formula_finds : (t : FormulaTree) (rest : List Sign) → IsBuilt t
      → Finds (Ahead 4 t rest) (formula P (spelled t ++ rest))
  unfolding formula start_of
  formula_finds (quantified k gs a) rest b =
      subst (λ z. Finds (Ahead 4 (quantified k gs a) rest) (formula P z))
      (opened (quantification k gs) (more a none) rest
      (makes (quantification k gs) (more a none) b.0 (rank_bound a, b.1, tt)))
      (rw (start_of_word (start.Quantifier k)) (quantifying_finds k gs a rest b.0 b.1))
  formula_finds t rest b = formula_plain _ _
      (ranked_finds 4 t rest (omega arith) tt (rank_bound t) b)

  pub any_finds : (f : Form) (t : FormulaTree) (rest : List Sign) → HasForm f t → IsBuilt t
      → Finds (Ahead (rank f) t rest) (any P f (spelled t ++ rest))
  unfolding any
  any_finds form.Time t rest h b = time_finds t rest h b
  any_finds form.Term t rest h b = ranked_finds 0 t rest (omega arith)
      (plain_below t (omega arith)) h b
  any_finds form.Atom t rest h b = ranked_finds 1 t rest (omega arith)
      (plain_below t (omega arith)) h b
  any_finds form.Conj t rest h b = ranked_finds 2 t rest (omega arith)
      (plain_below t (omega arith)) h b
  any_finds form.Disj t rest h b = ranked_finds 3 t rest (omega arith)
      (plain_below t (omega arith)) h b
  any_finds form.Formula t rest h b = formula_finds t rest b

pub parse_finds : (d : ℕ) (f : Form) (t : FormulaTree) (rest : List Sign) → HasForm f t → IsBuilt t
    → Finds (Ahead (rank f) t rest) (parse d f (spelled t ++ rest))
unfolding parse
parse_finds zero f t rest h b = tt
parse_finds (suc d) f t rest h b = any_finds (parse d) (parse_tells d) (parse_finds d) f t rest h b
