-- What is read is in the grammar, and stands at the front.
use Rattle.std.proofs.Common.{◌≡◌, ℕ, zero, suc, ◌≤◌, Bool, true, false, if◌then◌else◌, nat_eq}
use Rattle.std.proofs.Common.{List, []}
use Rattle.std.proofs.Common.{◌∷◌, ◌++◌, length, Option, Some, None, refl, sym, ap, ◌∙◌, subst}
use Rattle.std.proofs.Common.{arith, append_assoc}
use Rattle.std.specs.Prelude.{⊤}
use Rattle.std.proofs.lemmas.List.{append-nil}
use Rattle.std.proofs.lemmas.Bool.Decides.{nat_tests}
use Rattle.sq_token.specs.declared.kind.Reserved.{Reserved}
use Rattle.sq_token.specs.declared.kind.Reserved.TheVariants as r
use Rattle.sq_token.specs.declared.kind.Punctuation.{Punctuation}
use Rattle.sq_token.specs.declared.kind.Punctuation.TheVariants as p
use Rattle.sq_token.specs.Sign.{Sign, word, number, reserved, mark}
use Rattle.sq_ast.specs.declared.formula.Form.{Form}
use Rattle.sq_ast.specs.declared.formula.Form.TheVariants as form
use Rattle.sq_ast.specs.declared.formula.Quantifier.{Quantifier}
use Rattle.sq_ast.specs.declared.formula.Quantifier.TheVariants.{Forall, Exists}
use Rattle.sq_ast.specs.declared.formula.Binary.{Binary}
use Rattle.sq_ast.specs.declared.formula.Binary.TheVariants.{Implies, Or, And, Equal, NotEqual}
use Rattle.sq_ast.specs.declared.formula.Binary.TheVariants.{LessEqual, Less}
use Rattle.sq_ast.specs.declared.formula.Constant.TheVariants.{True, False, Empty, Init}
use Rattle.sq_ast.specs.declared.formula.Unary.TheVariants.{Not, Fst, Snd, OfBool, Happens, Pred}
use Rattle.sq_ast.specs.declared.formula.MacroWord.TheVariants.{Input, Output, Cond, Exec, Frame}
use Rattle.sq_parse_term.specs.declared.words.Start.{Start}
use Rattle.sq_parse_term.specs.declared.words.Start.TheVariants as start
use Rattle.sq_ast.specs.Tree.{Group, FormulaTree, binary, FormulaTrees, none, more}
use Rattle.sq_ast.specs.Grammar.{quantifier_word, binary_mark, constant_word, unary_word}
use Rattle.sq_ast.specs.Grammar.{macro_word, sort_word, names_spelled, more_names_spelled}
use Rattle.sq_ast.specs.Grammar.{group_spelled, groups_spelled, more_groups_spelled, IsFilled}
use Rattle.sq_ast.specs.Grammar.{IsBinderSort, AreGroups, AreBinders, spelled, list_spelled}
use Rattle.sq_ast.specs.Grammar.{more_spelled, rank, binary_rank, left_form, operand_form}
use Rattle.sq_ast.specs.Grammar.{tree_rank, AreNames, IsTime, HasForm, IsSome, IsBuilt, AreBuilt}
use Rattle.sq_ast.specs.Deep.{IsFront, Alternative, quantification, grouping, pairing, condition}
use Rattle.sq_ast.specs.Deep.{finding, difference, call, valuation, lead, Element, token, part}
use Rattle.sq_ast.specs.Deep.{elements, IsWhole}
use Rattle.sq_parse_term.specs.Parse.{Read, got, recover, eat, comma, identifier, sort_name, listed}
use Rattle.sq_parse_term.specs.Parse.{identifiers, binder_group, binders, binary_of, start_of}
use Rattle.sq_parse_term.specs.Parse.{build, named, run, alternative, formulas, arguments, applied}
use Rattle.sq_parse_term.specs.Parse.{found, quantifying, begun, marked, term, joined, continued}
use Rattle.sq_parse_term.specs.Parse.{ranked, formula_at, formula, instance, action, time_at, time}
use Rattle.sq_parse_term.specs.Parse.{any, parse}
use Rattle.sq_parse_term.proofs.Outcomes.{Tells, Never, bind_holds, recover_holds, weaken}
use Rattle.sq_parse_term.proofs.Outcomes.{never_holds, eat_never, identifier_never, sort_name_never}

pub eat_tells : (s : Sign) (ts : List Sign) → Tells (λ u q. ts ≡ s ∷ q) (eat s ts)
eat_tells s ts = never_holds ⊤ _ (eat s ts) (eat_never s ts)

-- from a split of the list by the first part, one by both
pub both_split : (ts xs q ys v : List Sign) → ts ≡ xs ++ q → q ≡ ys ++ v → ts ≡ (xs ++ ys) ++ v
both_split ts xs q ys v e f = e ∙ (ap (λ zs. xs ++ zs) f ∙ sym (append_assoc xs ys v))

-- ---- lists with commas

abbrev pub Each : {A : Type 0} → (A → Type 0) → List A → Type 0
Each G [] = ⊤
Each G (x ∷ xs) = G x × Each G xs

abbrev pub whole : {A : Type 0} → (A → List Sign) → (List A → List Sign) → List A → List Sign
whole S further [] = []
whole S further (x ∷ xs) = S x ++ further xs

pub record Listed {A : Type 0} (S : A → List Sign) (G : A → Type 0) (further : List A → List Sign)
    (ts : List Sign) (xs : List A) (q : List Sign) : Type 0 where
  pub filled : IsFilled xs
  pub each : Each G xs
  pub split : ts ≡ whole S further xs ++ q

module _ {A : Type 0} (one : List Sign → Read A) (S : A → List Sign) (G : A → Type 0)
    (further : List A → List Sign)
    (at_nil : further [] ≡ []) (at_cons : (x : A) (xs : List A)
    → further (x ∷ xs) ≡ mark p.Comma ∷ (S x ++ further xs))
    (one_never : (ts : List Sign) → Never (λ x q. G x × (ts ≡ S x ++ q)) (one ts)) where
  pub listed_never : (m : ℕ) (ts : List Sign) → Never (Listed S G further ts) (listed one m ts)
  unfolding listed
  listed_never zero ts = tt
  listed_never (suc m) ts = bind_holds ⊥ ⊤ (λ x q. G x × (ts ≡ S x ++ q)) (Listed S G further ts)
      (one ts) _ (one_never ts) (λ x q h.
      recover_holds ⊥ ⊤ (λ u v. q ≡ mark p.Comma ∷ v) (Listed S G further ts) ⊤ (comma q) _ _
      (eat_never (mark p.Comma) q)
      (λ u v e. bind_holds ⊥ ⊤ (Listed S G further v) (Listed S G further ts) (listed one m v) _
      (listed_never m v) (λ xs y g. record {
        filled = tt;
        each = (h.0, g.each);
        split = both_split ts (S x) q (further xs) y h.1
            (e ∙ (ap (λ z. mark p.Comma ∷ z) g.split ∙ next xs y g.filled));
      }))
      (record {
        filled = tt;
        each = (h.0, tt);
        split = h.1 ∙
            (λ i. (sym (append-nil (S x)) ∙ ap (λ z. S x ++ z) (sym at_nil)) i ++ q);
      }))
    where
      next : (xs : List A) (y : List Sign) → IsFilled xs
          → mark p.Comma ∷ (whole S further xs ++ y) ≡ further xs ++ y
      next [] y f = absurd f
      next (x ∷ xs) y f = ap (λ z. z ++ y) (sym (at_cons x xs))

name_sign : List ℕ → List Sign
name_sign n = word n ∷ []

pub identifiers_never : (ts : List Sign)
    → Never (λ ns q. IsFilled ns × (ts ≡ names_spelled ns ++ q)) (identifiers ts)
identifiers_never ts = weaken ⊥ ⊤ (Listed (λ n. word n ∷ []) (λ n. ⊤) more_names_spelled ts) _
    (identifiers ts)
    (listed_never identifier (λ n. word n ∷ []) (λ n. ⊤) more_names_spelled refl (λ x xs. refl)
    (λ us. weaken ⊥ ⊤ _ _ (identifier us) (identifier_never us) (λ n q e. (tt, e)))
    (length ts) ts)
    (λ ns q h. (h.filled, h.split ∙ ap (λ z. z ++ q) (same_names ns)))
  where
    same_names : (ns : List (List ℕ))
        → whole (λ n. word n ∷ []) more_names_spelled ns ≡ names_spelled ns
    same_names [] = refl
    same_names (n ∷ ns) = refl

pub IsGroup : Group → Type 0
IsGroup g = IsFilled g.0 × IsBinderSort g.1

pub binder_group_never : (ts : List Sign)
    → Never (λ g q. (IsFilled g.0 × IsBinderSort g.1) × (ts ≡ group_spelled g ++ q))
    (binder_group ts)
binder_group_never ts =
    bind_holds ⊥ ⊤ _ _ (identifiers ts) _ (identifiers_never ts) (λ ns q h.
    bind_holds ⊥ ⊤ _ _ (eat (mark p.Colon) q) _ (eat_never (mark p.Colon) q) (λ u v e.
    bind_holds ⊥ ⊤ _ _ (sort_name v) _ (sort_name_never v) (λ s y g. (
      (h.0, g.1),
      both_split ts (names_spelled ns) q
          (mark p.Colon ∷ reserved (sort_word s) ∷ []) y h.1 (e ∙ ap (λ z. mark p.Colon ∷ z) g.0),
    ))))

pub binders_never : (ts : List Sign)
    → Never (λ gs q. AreBinders gs × (ts ≡ groups_spelled gs ++ q)) (binders ts)
binders_never ts = weaken ⊥ ⊤ (Listed group_spelled
    (λ g. IsFilled g.0 × IsBinderSort g.1) more_groups_spelled ts) _ (binders ts)
    (listed_never binder_group group_spelled
    (λ g. IsFilled g.0 × IsBinderSort g.1) more_groups_spelled refl
    (λ x xs. refl) binder_group_never (length ts) ts)
    (λ gs q h. ((h.filled, groups_of gs h.each), h.split ∙ ap (λ z. z ++ q) (same_groups gs)))
  where
    same_groups : (gs : List Group) → whole group_spelled more_groups_spelled gs ≡ groups_spelled gs
    same_groups [] = refl
    same_groups (g ∷ gs) = refl

    groups_of : (gs : List Group) → Each (λ g. IsFilled g.0 × IsBinderSort g.1) gs → AreGroups gs
    groups_of [] h = tt
    groups_of (g ∷ gs) h = (h.0.0, h.0.1, groups_of gs h.1)

-- ---- the words

pub binary_of_is : (i : Punctuation) (o : Binary) → binary_of i ≡ Some o → i ≡ binary_mark o
binary_of_is p.Implies o h = let e : Implies ≡ o = cc in ap binary_mark e
binary_of_is p.Or o h = let e : Or ≡ o = cc in ap binary_mark e
binary_of_is p.And o h = let e : And ≡ o = cc in ap binary_mark e
binary_of_is p.Equals o h = let e : Equal ≡ o = cc in ap binary_mark e
binary_of_is p.Differs o h = let e : NotEqual ≡ o = cc in ap binary_mark e
binary_of_is p.AtMost o h = let e : LessEqual ≡ o = cc in ap binary_mark e
binary_of_is p.Less o h = let e : Less ≡ o = cc in ap binary_mark e
binary_of_is _ o h = cc

-- the word that begins so
abbrev pub start_word : Start → Reserved
start_word (start.Quantifier q) = quantifier_word q
start_word (start.Constant c) = constant_word c
start_word (start.Unary u) = unary_word u
start_word (start.Macro m) = macro_word m
start_word start.If = r.If
start_word start.Find = r.Find
start_word start.Diff = r.Diff

pub start_of_is : (w : Reserved) (s : Start) → start_of w ≡ Some s → w ≡ start_word s
unfolding start_of
start_of_is r.Forall s h = let e : start.Quantifier Forall ≡ s = cc in ap start_word e
start_of_is r.Exists s h = let e : start.Quantifier Exists ≡ s = cc in ap start_word e
start_of_is r.True s h = let e : start.Constant True ≡ s = cc in ap start_word e
start_of_is r.False s h = let e : start.Constant False ≡ s = cc in ap start_word e
start_of_is r.Empty s h = let e : start.Constant Empty ≡ s = cc in ap start_word e
start_of_is r.Init s h = let e : start.Constant Init ≡ s = cc in ap start_word e
start_of_is r.Not s h = let e : start.Unary Not ≡ s = cc in ap start_word e
start_of_is r.Fst s h = let e : start.Unary Fst ≡ s = cc in ap start_word e
start_of_is r.Snd s h = let e : start.Unary Snd ≡ s = cc in ap start_word e
start_of_is r.OfBool s h = let e : start.Unary OfBool ≡ s = cc in ap start_word e
start_of_is r.Happens s h = let e : start.Unary Happens ≡ s = cc in ap start_word e
start_of_is r.Pred s h = let e : start.Unary Pred ≡ s = cc in ap start_word e
start_of_is r.Input s h = let e : start.Macro Input ≡ s = cc in ap start_word e
start_of_is r.Output s h = let e : start.Macro Output ≡ s = cc in ap start_word e
start_of_is r.Cond s h = let e : start.Macro Cond ≡ s = cc in ap start_word e
start_of_is r.Exec s h = let e : start.Macro Exec ≡ s = cc in ap start_word e
start_of_is r.Frame s h = let e : start.Macro Frame ≡ s = cc in ap start_word e
start_of_is r.If s h = let e : start.If ≡ s = cc in ap start_word e
start_of_is r.Find s h = let e : start.Find ≡ s = cc in ap start_word e
start_of_is r.Diff s h = let e : start.Diff ≡ s = cc in ap start_word e
start_of_is _ s h = cc

-- ---- alternatives

-- the tokens of these elements, with the parts in their places
abbrev pub elements_spelled : List Element → FormulaTrees → List Sign
elements_spelled [] xs = []
elements_spelled (token s ∷ es) xs = s ∷ elements_spelled es xs
elements_spelled (part f ∷ es) none = []
elements_spelled (part f ∷ es) (more a xs) = spelled a ++ elements_spelled es xs

-- one tree for each part, and of its form
abbrev pub Fit : List Element → FormulaTrees → Type 0
Fit [] none = ⊤
Fit [] (more a xs) = ⊥
Fit (token s ∷ es) xs = Fit es xs
Fit (part f ∷ es) none = ⊥
Fit (part f ∷ es) (more a xs) = HasForm f a × IsBuilt a × Fit es xs

-- the rank of the form that has the alternative
abbrev pub alternative_rank : Alternative → ℕ
alternative_rank (quantification q gs) = 4
alternative_rank _ = 0

-- as `IsFront`, by the rank of the form
pub record RankFront (l : ℕ) (ts : List Sign) (t : FormulaTree) (q : List Sign) : Type 0 where
  pub rank_is : tree_rank t ≤ l
  pub built : IsBuilt t
  pub split : ts ≡ spelled t ++ q

-- what the parts of an alternative make
pub record Makes (a : Alternative) (xs : FormulaTrees) : Type 0 where
  pub rank_is : tree_rank (build a xs) ≤ alternative_rank a
  pub built : IsBuilt (build a xs)
  pub spelled_is : lead a ++ elements_spelled (elements a) xs ≡ spelled (build a xs)

pub makes : (a : Alternative) (xs : FormulaTrees) → IsWhole a → Fit (elements a) xs → Makes a xs
makes (quantification q gs) (more a none) w f = record {
  rank_is = omega arith;
  built = (w, f.1);
  spelled_is = ap (λ z. reserved (quantifier_word q) ∷ mark p.OpenParenthesis
      ∷ (groups_spelled gs ++ mark p.CloseParenthesis ∷ mark p.Comma ∷ z)) (append-nil (spelled a));
}
makes grouping (more a none) w f = record { rank_is = omega arith; built = f.1; spelled_is = refl }
makes pairing (more a (more b none)) w f = record {
  rank_is = omega arith;
  built =
      (f.0, f.1, f.2.0, f.2.1);
  spelled_is = refl;
}
makes condition (more a (more b (more c none))) w f = record {
  rank_is = omega arith;
  built = (f.1, f.2.0, f.2.1, f.2.2.0, f.2.2.1);
  spelled_is = ap (λ z. reserved r.If
      ∷ (spelled a ++ reserved r.Then ∷ (spelled b ++ reserved r.Else ∷ z)))
      (append-nil (spelled c));
}
makes (finding ns) (more a (more b (more c none))) w f = record {
  rank_is = omega arith;
  built = (w, f.1, f.2.0, f.2.1, f.2.2.0, f.2.2.1);
  spelled_is = ap (λ z. reserved r.Find
      ∷ (names_spelled ns ++ reserved r.Such ∷ reserved r.That
      ∷ (spelled a ++ reserved r.In ∷ (spelled b ++ reserved r.Else ∷ z))))
      (append-nil (spelled c));
}
makes difference (more a (more b none)) w f = record {
  rank_is = omega arith;
  built =
      (f.1, f.2.1);
  spelled_is = refl;
}
makes (call u) (more a none) w f = record {
  rank_is = omega arith;
  built =
      (f.0, f.1);
  spelled_is = refl;
}
makes (valuation m) (more a none) w f = record {
  rank_is = omega arith;
  built = (f.0, f.1);
  spelled_is = ap (λ z. reserved (macro_word m) ∷ mark p.At ∷ z) (append-nil (spelled a));
}
makes (quantification q gs) none w f = absurd f
makes (quantification q gs) (more a (more b xs)) w f = absurd f.2
makes grouping none w f = absurd f
makes grouping (more a (more b xs)) w f = absurd f.2
makes pairing none w f = absurd f
makes pairing (more a none) w f = absurd f.2
makes pairing (more a (more b (more c xs))) w f = absurd f.2.2
makes condition none w f = absurd f
makes condition (more a none) w f = absurd f.2
makes condition (more a (more b none)) w f = absurd f.2.2
makes condition (more a (more b (more c (more d xs)))) w f = absurd f.2.2.2
makes (finding ns) none w f = absurd f
makes (finding ns) (more a none) w f = absurd f.2
makes (finding ns) (more a (more b none)) w f = absurd f.2.2
makes (finding ns) (more a (more b (more c (more d xs)))) w f = absurd f.2.2.2
makes difference none w f = absurd f
makes difference (more a none) w f = absurd f.2
makes difference (more a (more b (more c xs))) w f = absurd f.2.2
makes (call u) none w f = absurd f
makes (call u) (more a (more b xs)) w f = absurd f.2
makes (valuation m) none w f = absurd f
makes (valuation m) (more a (more b xs)) w f = absurd f.2

-- what was read of the elements
pub record Ran (es : List Element) (k : FormulaTrees → FormulaTree) (ts : List Sign)
    (t : FormulaTree) (q : List Sign) : Type 0 where
  pub parts : FormulaTrees
  pub fit : Fit es parts
  pub tree_is : t ≡ k parts
  pub split : ts ≡ elements_spelled es parts ++ q

pub more_list : (xs : FormulaTrees) → IsSome xs → mark p.Comma ∷ list_spelled xs ≡ more_spelled xs
more_list none h = absurd h
more_list (more a xs) h = refl

-- formulas with commas
pub record Formulas (ts : List Sign) (xs : FormulaTrees) (q : List Sign) : Type 0 where
  pub filled : IsSome xs
  pub built : AreBuilt xs
  pub split : ts ≡ list_spelled xs ++ q

pub named_names : (ns : List (List ℕ)) → AreNames (named ns) × AreBuilt (named ns)
named_names [] = (tt, tt)
named_names (n ∷ ns) = let h = named_names ns in (h.0, (tt, h.1))

pub named_some : (ns : List (List ℕ)) → IsFilled ns → IsSome (named ns)
named_some [] h = absurd h
named_some (n ∷ ns) h = tt

pub named_more : (ns : List (List ℕ)) → more_names_spelled ns ≡ more_spelled (named ns)
named_more [] = refl
named_more (n ∷ ns) = ap (λ z. mark p.Comma ∷ word n ∷ z) (named_more ns)

pub named_spelled : (ns : List (List ℕ)) → names_spelled ns ≡ list_spelled (named ns)
named_spelled [] = refl
named_spelled (n ∷ ns) = ap (λ z. word n ∷ z) (named_more ns)

pub left_has : (o : Binary) (a : FormulaTree) (l : ℕ) → binary_rank o ≡ suc l → tree_rank a ≤ l
    → HasForm (left_form o) a
left_has Implies a l e h = omega arith
left_has Or a l e h = omega arith
left_has And a l e h = omega arith
left_has Equal a l e h = omega arith
left_has NotEqual a l e h = omega arith
left_has LessEqual a l e h = omega arith
left_has Less a l e h = omega arith

pub instance_never : (ts : List Sign)
    → Never (λ ns q. IsFilled ns ×
    (ts ≡ mark p.OpenParenthesis ∷ ((names_spelled ns ++ mark p.CloseParenthesis ∷ []) ++ q)))
    (instance ts)
instance_never ts =
    bind_holds ⊥ ⊤ _ _ (eat (mark p.OpenParenthesis) ts) _ (eat_never (mark p.OpenParenthesis) ts)
    (λ u q e.
    bind_holds ⊥ ⊤ _ _ (identifiers q) _ (identifiers_never q) (λ ns v h.
    bind_holds ⊥ ⊤ _ _ (eat (mark p.CloseParenthesis) v) _ (eat_never (mark p.CloseParenthesis) v)
    (λ w y g. (
      h.0,
      e ∙ ap (λ z. mark p.OpenParenthesis ∷ z)
          (both_split q (names_spelled ns) v (mark p.CloseParenthesis ∷ []) y h.1 g),
    ))))

pub action_never : (n : List ℕ) (ts : List Sign)
    → Never (IsFront form.Time (word n ∷ ts)) (action n ts)
unfolding action
action_never n ts = recover_holds ⊥ ⊤ _ (IsFront form.Time (word n ∷ ts)) ⊤ (instance ts) _ _
    (instance_never ts)
    (λ ns q h. record {
      form_is = (named_names ns).0;
      built = (named_some ns h.0, (named_names ns).1);
      split = ap (λ z. word n ∷ z) h.1 ∙ ap
          (λ z. word n ∷ mark p.OpenParenthesis ∷ ((z ++ mark p.CloseParenthesis ∷ []) ++ q))
          (named_spelled ns);
    })
    (record { form_is = tt; built = tt; split = refl })

pub pred_time : (xs : FormulaTrees) → Fit (elements (call Pred)) xs → IsTime (build (call Pred) xs)
pred_time none h = absurd h
pred_time (more a none) h = tt
pred_time (more a (more b xs)) h = absurd h.2

-- a form that is no `time`, by its rank
pub front_of_rank : (f : Form) (ts : List Sign) (t : FormulaTree) (q : List Sign)
    → (f ≡ form.Time → ⊥) → RankFront (rank f) ts t q → IsFront f ts t q
front_of_rank form.Time ts t q n h = absurd (n refl)
front_of_rank form.Term ts t q n h =
    record { form_is = h.rank_is; built = h.built; split = h.split }
front_of_rank form.Atom ts t q n h =
    record { form_is = h.rank_is; built = h.built; split = h.split }
front_of_rank form.Conj ts t q n h =
    record { form_is = h.rank_is; built = h.built; split = h.split }
front_of_rank form.Disj ts t q n h =
    record { form_is = h.rank_is; built = h.built; split = h.split }
front_of_rank form.Formula ts t q n h =
    record { form_is = h.rank_is; built = h.built; split = h.split }

module _ (P : Form → List Sign → Read FormulaTree)
    (sound : (f : Form) (ts : List Sign) → Tells (IsFront f ts) (P f ts)) where
  pub run_tells : (es : List Element) (k : FormulaTrees → FormulaTree) (ts : List Sign)
      → Tells (Ran es k ts) (run P es k ts)
  unfolding run
  run_tells [] k ts = record { parts = none; fit = tt; tree_is = refl; split = refl }
  run_tells (token s ∷ es) k ts = bind_holds ⊤ ⊤ (λ u q. ts ≡ s ∷ q) (Ran (token s ∷ es) k ts)
      (eat s ts) _ (eat_tells s ts) (λ u q e.
      weaken ⊤ ⊤ (Ran es k q) _ (run P es k q) (run_tells es k q)
      (λ t v h. record {
        parts = h.parts;
        fit = h.fit;
        tree_is = h.tree_is;
        split = e ∙ ap
            (λ z. s ∷ z) h.split;
      }))
  run_tells (part f ∷ es) k ts = bind_holds ⊤ ⊤ (IsFront f ts) (Ran (part f ∷ es) k ts) (P f ts) _
      (sound f ts) (λ a q h.
      weaken ⊤ ⊤ (Ran es (λ xs. k (more a xs)) q) _ (run P es (λ xs. k (more a xs)) q)
      (run_tells es (λ xs. k (more a xs)) q) (λ t v g. record {
        parts = more a g.parts;
        fit = (h.form_is, h.built, g.fit);
        tree_is = g.tree_is;
        split = both_split ts (spelled a) q (elements_spelled es g.parts) v h.split g.split;
      }))

  pub alternative_tells : (a : Alternative) (ts : List Sign) → IsWhole a
      → Tells (RankFront (alternative_rank a) (lead a ++ ts)) (alternative P a ts)
  alternative_tells a ts w = weaken ⊤ ⊤ (Ran (elements a) (build a) ts) _ (alternative P a ts)
      (run_tells (elements a) (build a) ts) (λ t q h. front t q h (makes a h.parts w h.fit))
    where
      front : (t : FormulaTree) (q : List Sign) (h : Ran (elements a) (build a) ts t q)
          → Makes a h.parts → RankFront (alternative_rank a) (lead a ++ ts) t q
      front t q h m = subst (λ u. RankFront (alternative_rank a) (lead a ++ ts) u q)
          (sym h.tree_is) (record {
            rank_is = m.rank_is;
            built = m.built;
            split = ap (λ z. lead a ++ z) h.split ∙
                (sym (append_assoc (lead a) (elements_spelled (elements a) h.parts) q) ∙ ap
                (λ z. z ++ q) m.spelled_is);
          })

  pub formulas_tells : (m : ℕ) (ts : List Sign) → Tells (Formulas ts) (formulas P m ts)
  unfolding formulas
  formulas_tells zero ts = tt
  formulas_tells (suc m) ts = bind_holds ⊤ ⊤ (IsFront form.Formula ts) (Formulas ts)
      (P form.Formula ts) _ (sound form.Formula ts) (λ a q h.
      recover_holds ⊤ ⊤ (λ u v. q ≡ mark p.Comma ∷ v) (Formulas ts) ⊤ (comma q) _ _
      (eat_tells (mark p.Comma) q)
      (λ u v e. bind_holds ⊤ ⊤ (Formulas v) (Formulas ts) (formulas P m v) _ (formulas_tells m v)
      (λ xs y g. record {
        filled = tt;
        built = (h.built, g.built);
        split = both_split ts (spelled a) q (more_spelled xs) y h.split
            (e ∙ (ap (λ z. mark p.Comma ∷ z) g.split ∙ ap (λ z. z ++ y) (more_list xs g.filled)));
      }))
      (record {
        filled = tt;
        built = (h.built, tt);
        split = h.split ∙ ap (λ z. z ++ q)
            (sym (append-nil (spelled a)));
      }))

  pub arguments_tells : (ts : List Sign)
      → Tells (λ xs q. IsSome xs × AreBuilt xs ×
      (ts ≡ mark p.OpenParenthesis ∷ ((list_spelled xs ++ mark p.CloseParenthesis ∷ []) ++ q)))
      (arguments P ts)
  arguments_tells ts =
      bind_holds ⊤ ⊤ _ _ (eat (mark p.OpenParenthesis) ts) _
      (eat_tells (mark p.OpenParenthesis) ts) (λ u q e.
      bind_holds ⊤ ⊤ (Formulas q) _ (formulas P (suc (length q)) q) _
      (formulas_tells (suc (length q)) q) (λ xs v h.
      bind_holds ⊤ ⊤ _ _ (eat (mark p.CloseParenthesis) v) _
      (eat_tells (mark p.CloseParenthesis) v) (λ w y g. (
        h.filled,
        h.built,
        e ∙ ap (λ z. mark p.OpenParenthesis ∷ z)
            (both_split q (list_spelled xs) v (mark p.CloseParenthesis ∷ []) y h.split g),
      ))))

  pub applied_tells : (n : List ℕ) (ts : List Sign)
      → Tells (RankFront 0 (word n ∷ ts)) (applied P n ts)
  unfolding applied
  applied_tells n ts = recover_holds ⊤ ⊤ _ (RankFront 0 (word n ∷ ts)) ⊤ (arguments P ts) _ _
      (arguments_tells ts)
      (λ xs q h. record {
        rank_is = omega arith;
        built = (h.0, h.1);
        split = ap
            (λ z. word n ∷ z) h.2;
      })
      (record { rank_is = omega arith; built = tt; split = refl })

  pub found_tells : (ts : List Sign) → Tells (RankFront 0 (reserved r.Find ∷ ts)) (found P ts)
  unfolding found
  found_tells ts = bind_holds ⊤ ⊤ _ (RankFront 0 (reserved r.Find ∷ ts)) (identifiers ts) _
      (never_holds ⊤ _ (identifiers ts) (identifiers_never ts)) (λ ns q h.
      subst (λ z. Tells (RankFront 0 z) (alternative P (finding ns) q))
      (ap (λ z. reserved r.Find ∷ z) (sym h.1)) (alternative_tells (finding ns) q h.0))

  pub quantifying_tells : (k : Quantifier) (ts : List Sign)
      → Tells (RankFront 4 (reserved (quantifier_word k) ∷ ts)) (quantifying P k ts)
  unfolding quantifying
  quantifying_tells k ts =
      bind_holds ⊤ ⊤ _ (RankFront 4 (reserved (quantifier_word k) ∷ ts))
      (eat (mark p.OpenParenthesis) ts) _ (eat_tells (mark p.OpenParenthesis) ts) (λ u q e.
      bind_holds ⊤ ⊤ _ (RankFront 4 (reserved (quantifier_word k) ∷ ts)) (binders q) _
      (never_holds ⊤ _ (binders q) (binders_never q)) (λ gs v h.
      subst (λ z. Tells (RankFront 4 z) (alternative P (quantification k gs) v))
      (ap (λ z. reserved (quantifier_word k) ∷ z)
      (sym (e ∙ ap (λ z. mark p.OpenParenthesis ∷ z) h.1)))
      (alternative_tells (quantification k gs) v h.0)))

  pub begun_tells : (w : Reserved) (q : List Sign)
      → Tells (RankFront 0 (reserved w ∷ q)) (begun P (start_of w) q)
  begun_tells w q = by (start_of w) refl
    where
      at : (s : Start) → w ≡ start_word s
          → Tells (RankFront 0 (reserved (start_word s) ∷ q)) (begun P (Some s) q)
          → Tells (RankFront 0 (reserved w ∷ q)) (begun P (Some s) q)
      at s e h = subst (λ x. Tells (RankFront 0 (reserved x ∷ q)) (begun P (Some s) q)) (sym e) h

      of : (s : Start) → Tells (RankFront 0 (reserved (start_word s) ∷ q)) (begun P (Some s) q)
      of (start.Quantifier k) = tt
      of (start.Constant c) = record { rank_is = omega arith; built = tt; split = refl }
      of (start.Unary u) = alternative_tells (call u) q tt
      of (start.Macro m) = alternative_tells (valuation m) q tt
      of start.If = alternative_tells condition q tt
      of start.Find = found_tells q
      of start.Diff = alternative_tells difference q tt

      by : (o : Option Start) → start_of w ≡ o → Tells (RankFront 0 (reserved w ∷ q)) (begun P o q)
      by None e = tt
      by (Some s) e = at s (start_of_is w s e) (of s)

  pub marked_tells : (i : Punctuation) (q : List Sign)
      → Tells (RankFront 0 (mark i ∷ q)) (marked P i q)
  marked_tells p.OpenParenthesis q = alternative_tells grouping q tt
  marked_tells p.Less q = alternative_tells pairing q tt
  marked_tells _ q = tt

  pub term_tells : (ts : List Sign) → Tells (RankFront 0 ts) (term P ts)
  unfolding term
  term_tells [] = tt
  term_tells (word w ∷ q) = applied_tells w q
  term_tells (number n ∷ q) = tt
  term_tells (reserved w ∷ q) = begun_tells w q
  term_tells (mark i ∷ q) = marked_tells i q

  -- a, with more behind it
  pub continued_tells : (l : ℕ) (ts : List Sign) (a : FormulaTree) (q : List Sign)
      → RankFront l ts a q → Tells (RankFront (suc l) ts) (continued P (suc l) a q)
  unfolding continued
  continued_tells l ts a [] h = record {
    rank_is = omega
        (arith, h.rank_is);
    built = h.built;
    split = h.split;
  }
  continued_tells l ts a (word w ∷ q) h = record {
    rank_is = omega
        (arith, h.rank_is);
    built = h.built;
    split = h.split;
  }
  continued_tells l ts a (number n
      ∷ q) h = record { rank_is = omega (arith, h.rank_is); built = h.built; split = h.split }
  continued_tells l ts a (reserved w
      ∷ q) h = record { rank_is = omega (arith, h.rank_is); built = h.built; split = h.split }
  continued_tells l ts a (mark i ∷ q) h = by (binary_of i) refl
    where
      stays : RankFront (suc l) ts a (mark i ∷ q)
      stays = record { rank_is = omega (arith, h.rank_is); built = h.built; split = h.split }

      by_rank : (o : Binary) → binary_of i ≡ Some o → (b : Bool)
          → nat_eq (binary_rank o) (suc l) ≡ b
          → Tells (RankFront (suc l) ts)
          (if b then recover (P (operand_form o) q) (λ b v. got (binary o a b) v)
          (got a (mark i ∷ q)) else got a (mark i ∷ q))
      by_rank o e true f = recover_holds ⊤ ⊤ (IsFront (operand_form o) q) (RankFront (suc l) ts) ⊤
          (P (operand_form o) q) _ _ (sound (operand_form o) q)
          (λ b v g.
          let same_rank : binary_rank o ≡ suc l = grind (arith, nat_tests) in
          record {
            rank_is = omega arith;
            built = (left_has o a l same_rank h.rank_is, h.built, g.form_is, g.built);
            split = both_split ts (spelled a) (mark i ∷ q)
                (mark (binary_mark o) ∷ spelled b) v h.split
                (ap (λ j. mark j ∷ q) (binary_of_is i o e) ∙ ap
                (λ z. mark (binary_mark o) ∷ z) g.split);
          })
          stays
      by_rank o e false f = stays

      by : (w : Option Binary) → binary_of i ≡ w
          → Tells (RankFront (suc l) ts) (joined P (suc l) a i q w)
      by None e = stays
      by (Some o) e = by_rank o e (nat_eq (binary_rank o) (suc l)) refl

  pub ranked_tells : (l : ℕ) (ts : List Sign) → Tells (RankFront l ts) (ranked P l ts)
  unfolding ranked
  ranked_tells zero ts = term_tells ts
  ranked_tells (suc l) ts = bind_holds ⊤ ⊤ (RankFront l ts) (RankFront (suc l) ts)
      (ranked P l ts) _ (ranked_tells l ts) (λ a q h. continued_tells l ts a q h)

  pub formula_tells : (ts : List Sign) → Tells (RankFront 4 ts) (formula P ts)
  unfolding formula
  formula_tells [] = ranked_tells 4 []
  formula_tells (word w ∷ q) = ranked_tells 4 (word w ∷ q)
  formula_tells (number n ∷ q) = ranked_tells 4 (number n ∷ q)
  formula_tells (mark i ∷ q) = ranked_tells 4 (mark i ∷ q)
  formula_tells (reserved w ∷ q) = by (start_of w) refl
    where
      by : (o : Option Start) → start_of w ≡ o
          → Tells (RankFront 4 (reserved w ∷ q)) (formula_at P w q o)
      by (Some (start.Quantifier k)) e = subst
          (λ x. Tells (RankFront 4 (reserved x ∷ q)) (quantifying P k q))
          (sym (start_of_is w (start.Quantifier k) e)) (quantifying_tells k q)
      by _ e = ranked_tells 4 (reserved w ∷ q)

  pub time_tells : (ts : List Sign) → Tells (IsFront form.Time ts) (time P ts)
  unfolding time
  time_tells [] = tt
  time_tells (word w ∷ q) = never_holds ⊤ _ (action w q) (action_never w q)
  time_tells (number n ∷ q) = tt
  time_tells (mark i ∷ q) = tt
  time_tells (reserved w ∷ q) = by (start_of w) refl
    where
      front : (t : FormulaTree) (v : List Sign)
          (h : Ran (elements (call Pred)) (build (call Pred)) q t v) → Makes (call Pred) h.parts
          → IsFront form.Time (reserved r.Pred ∷ q) t v
      front t v h m = subst (λ u. IsFront form.Time (reserved r.Pred ∷ q) u v) (sym h.tree_is)
          (record {
            form_is = pred_time h.parts h.fit;
            built = m.built;
            split = ap (λ z. reserved r.Pred ∷ z) h.split ∙ ap (λ z. z ++ v) m.spelled_is;
          })

      at : (s : Start) → w ≡ start_word s
          → Tells (IsFront form.Time (reserved (start_word s) ∷ q)) (time_at P (Some s) q)
          → Tells (IsFront form.Time (reserved w ∷ q)) (time_at P (Some s) q)
      at s e h = subst (λ x. Tells (IsFront form.Time (reserved x ∷ q)) (time_at P (Some s) q))
          (sym e) h

      of : (s : Start) → Tells (IsFront form.Time (reserved (start_word s) ∷ q))
          (time_at P (Some s) q)
      of (start.Constant Init) = record { form_is = tt; built = tt; split = refl }
      of (start.Unary Pred) = weaken ⊤ ⊤ (Ran (elements (call Pred)) (build (call Pred)) q) _
          (alternative P (call Pred) q) (run_tells (elements (call Pred)) (build (call Pred)) q)
          (λ t v h. front t v h (makes (call Pred) h.parts tt h.fit))
      of _ = tt

      by : (o : Option Start) → start_of w ≡ o
          → Tells (IsFront form.Time (reserved w ∷ q)) (time_at P o q)
      by None e = tt
      by (Some s) e = at s (start_of_is w s e) (of s)

  pub any_tells : (f : Form) (ts : List Sign) → Tells (IsFront f ts) (any P f ts)
  unfolding any
  any_tells form.Time ts = time_tells ts
  any_tells form.Term ts = weaken ⊤ ⊤ (RankFront 0 ts) _ (ranked P 0 ts) (ranked_tells 0 ts)
      (λ t q h. front_of_rank form.Term ts t q (λ e. cc) h)
  any_tells form.Atom ts = weaken ⊤ ⊤ (RankFront 1 ts) _ (ranked P 1 ts) (ranked_tells 1 ts)
      (λ t q h. front_of_rank form.Atom ts t q (λ e. cc) h)
  any_tells form.Conj ts = weaken ⊤ ⊤ (RankFront 2 ts) _ (ranked P 2 ts) (ranked_tells 2 ts)
      (λ t q h. front_of_rank form.Conj ts t q (λ e. cc) h)
  any_tells form.Disj ts = weaken ⊤ ⊤ (RankFront 3 ts) _ (ranked P 3 ts) (ranked_tells 3 ts)
      (λ t q h. front_of_rank form.Disj ts t q (λ e. cc) h)
  any_tells form.Formula ts = weaken ⊤ ⊤ (RankFront 4 ts) _ (formula P ts) (formula_tells ts)
      (λ t q h. front_of_rank form.Formula ts t q (λ e. cc) h)

pub parse_tells : (d : ℕ) (f : Form) (ts : List Sign) → Tells (IsFront f ts) (parse d f ts)
unfolding parse
parse_tells zero f ts = tt
parse_tells (suc d) f ts = any_tells (parse d) (parse_tells d) f ts
