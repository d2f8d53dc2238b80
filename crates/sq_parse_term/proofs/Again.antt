-- Lists of identifiers and of groups are read as they are spelled.
use Rattle.std.proofs.Common.{◌≡◌, ℕ, zero, suc, ◌<◌, ◌≤◌, List, [], ◌∷◌, ◌++◌, length, Some, refl}
use Rattle.std.proofs.Common.{ap, ◌∙◌, subst, arith, append_assoc, length-append}
use Rattle.std.specs.Prelude.{⊤}
use Rattle.std.proofs.lemmas.List.{append-nil}
use Rattle.sq_token.specs.declared.kind.Punctuation.TheVariants as p
use Rattle.sq_token.specs.Sign.{Sign, word, reserved, mark}
use Rattle.sq_ast.specs.declared.formula.Binary.{Binary}
use Rattle.sq_ast.specs.declared.formula.Binary.TheVariants.{Implies, Or, And, Equal, NotEqual}
use Rattle.sq_ast.specs.declared.formula.Binary.TheVariants.{LessEqual, Less}
use Rattle.sq_ast.specs.declared.formula.Quantifier.TheVariants.{Forall, Exists}
use Rattle.sq_ast.specs.declared.formula.Constant.TheVariants.{True, False, Empty, Init}
use Rattle.sq_ast.specs.declared.formula.Unary.TheVariants.{Not, Fst, Snd, OfBool, Happens, Pred}
use Rattle.sq_ast.specs.declared.formula.MacroWord.TheVariants.{Input, Output, Cond, Exec, Frame}
use Rattle.sq_ast.specs.Tree.{Group, FormulaTrees, name, none, more}
use Rattle.sq_ast.specs.Grammar.{binary_mark, sort_word, names_spelled, more_names_spelled}
use Rattle.sq_ast.specs.Grammar.{group_spelled, groups_spelled, more_groups_spelled, IsFilled}
use Rattle.sq_ast.specs.Grammar.{IsBinderSort, AreGroups, AreBinders, AreNames, IsSome}
use Rattle.sq_parse_term.specs.declared.words.Start.{Start}
use Rattle.sq_parse_term.specs.declared.words.Start.TheVariants as start
use Rattle.sq_parse_term.specs.Parse.{Read, got, bind, recover, eat, comma, identifier, sort_name}
use Rattle.sq_parse_term.specs.Parse.{got_some, listed, identifiers, binder_group, binders}
use Rattle.sq_parse_term.specs.Parse.{binary_of, start_of, named, instance}
use Rattle.sq_parse_term.specs.Parse as read
use Rattle.sq_parse_term.proofs.Outcomes.{eat_self, eat_other, sort_of_word}
use Rattle.sq_parse_term.proofs.Sound.{Each, whole, start_word}

pub binary_of_mark : (o : Binary) → binary_of (binary_mark o) ≡ Some o
binary_of_mark Implies = refl
binary_of_mark Or = refl
binary_of_mark And = refl
binary_of_mark Equal = refl
binary_of_mark NotEqual = refl
binary_of_mark LessEqual = refl
binary_of_mark Less = refl

pub start_of_word : (s : Start) → start_of (start_word s) ≡ Some s
unfolding start_of
start_of_word (start.Quantifier Forall) = refl
start_of_word (start.Quantifier Exists) = refl
start_of_word (start.Constant True) = refl
start_of_word (start.Constant False) = refl
start_of_word (start.Constant Empty) = refl
start_of_word (start.Constant Init) = refl
start_of_word (start.Unary Not) = refl
start_of_word (start.Unary Fst) = refl
start_of_word (start.Unary Snd) = refl
start_of_word (start.Unary OfBool) = refl
start_of_word (start.Unary Happens) = refl
start_of_word (start.Unary Pred) = refl
start_of_word (start.Macro Input) = refl
start_of_word (start.Macro Output) = refl
start_of_word (start.Macro Cond) = refl
start_of_word (start.Macro Exec) = refl
start_of_word (start.Macro Frame) = refl
start_of_word start.If = refl
start_of_word start.Find = refl
start_of_word start.Diff = refl

module _ {A : Type 0} (one : List Sign → Read A) (S : A → List Sign) (G : A → Type 0)
    (further : List A → List Sign)
    (at_nil : further [] ≡ []) (at_cons : (x : A) (xs : List A)
    → further (x ∷ xs) ≡ mark p.Comma ∷ (S x ++ further xs))
    (one_again : (x : A) (q : List Sign) → G x → one (S x ++ q) ≡ got x q)
    (some : (x : A) → 0 < length (S x)) where
  pub listed_again : (m : ℕ) (xs : List A) (y : List Sign) → IsFilled xs → Each G xs → length xs ≤ m
      → comma y ≡ read.none → listed one m (whole S further xs ++ y) ≡ got xs y
  unfolding listed
  listed_again m [] y f g h e = absurd f
  listed_again zero (x ∷ xs) y f g h e = absurd (omega arith)
  listed_again (suc m) (x ∷ []) y f g h e =
      let last : (S x ++ further []) ++ y
      ≡ S x ++ y = ap (λ z. (S x ++ z) ++ y) at_nil ∙ ap (λ z. z ++ y) (append-nil (S x)) in
      rw (last, one_again x y g.0, e) refl
  listed_again (suc m) (x ∷ z ∷ xs) y f g h e =
      let next = whole S further (z ∷ xs) ++ y in
      let split : (S x ++ further (z ∷ xs)) ++ y
      ≡ S x ++ (mark p.Comma ∷ next) = ap (λ w. (S x ++ w) ++ y) (at_cons z xs) ∙ append_assoc
      (S x) (mark p.Comma ∷ whole S further (z ∷ xs)) y in
      rw (
        split,
        one_again x (mark p.Comma ∷ next) g.0,
        eat_self
            (mark p.Comma) next,
        listed_again m (z ∷ xs) y tt g.1 (omega arith) e,
      ) refl

  pub more_length : (xs : List A) → length xs ≤ length (further xs)
  more_length [] = omega arith
  more_length (x ∷ xs) = omega (
    arith,
    ap length (at_cons x xs),
    length-append (S x)
        (further xs),
    more_length xs,
  )

  pub whole_length : (xs : List A) (y : List Sign) → length xs ≤ length (whole S further xs ++ y)
  whole_length [] y = omega arith
  whole_length (x ∷ xs) y = omega (
    arith,
    length-append (S x ++ further xs) y,
    length-append (S x)
        (further xs),
    more_length xs,
    some x,
  )

pub each_any : {A : Type 0} (xs : List A) → Each (λ x. ⊤) xs
each_any [] = tt
each_any (x ∷ xs) = (tt, each_any xs)

pub names_whole : (ns : List (List ℕ))
    → whole (λ n. word n ∷ []) more_names_spelled ns ≡ names_spelled ns
names_whole [] = refl
names_whole (n ∷ ns) = refl

pub groups_whole : (gs : List Group)
    → whole group_spelled more_groups_spelled gs ≡ groups_spelled gs
groups_whole [] = refl
groups_whole (g ∷ gs) = refl

pub identifiers_again : (ns : List (List ℕ)) (y : List Sign) → IsFilled ns → comma y ≡ read.none
    → identifiers (names_spelled ns ++ y) ≡ got ns y
identifiers_again ns y f e =
    let at : (m : ℕ) → length ns ≤ m
    → listed identifier m (whole (λ n. word n ∷ []) more_names_spelled ns ++ y)
    ≡ got ns y = λ m h.
    listed_again identifier (λ n. word n ∷ []) (λ n. ⊤) more_names_spelled refl (λ x xs. refl)
    (λ x q g. refl) (λ x. omega arith) m ns y f (each_any ns) h e in
    let all = whole_length identifier (λ n. word n ∷ []) (λ n. ⊤) more_names_spelled refl
    (λ x xs. refl) (λ x q g. refl) (λ x. omega arith) ns y in
    subst (λ z. listed identifier (length (z ++ y)) (z ++ y) ≡ got ns y) (names_whole ns)
    (at (length (whole (λ n. word n ∷ []) more_names_spelled ns ++ y)) all)

pub no_comma : (s : Sign) (q : List Sign) → (s ≡ mark p.Comma → ⊥) → comma (s ∷ q) ≡ read.none
no_comma s q h = eat_other (mark p.Comma) s q h

pub binder_group_again : (g : Group) (q : List Sign) → IsFilled g.0 × IsBinderSort g.1
    → binder_group (group_spelled g ++ q) ≡ got g q
binder_group_again g q h =
    let end = reserved (sort_word g.1) ∷ q in
    rw (
      append_assoc (names_spelled g.0)
          (mark p.Colon ∷ reserved (sort_word g.1) ∷ []) q,
      identifiers_again g.0
          (mark p.Colon ∷ end) h.0 (no_comma (mark p.Colon) end (λ e. cc)),
      eat_self
          (mark p.Colon) end,
      sort_of_word g.1 h.1,
    ) refl

groups_each : (gs : List Group) → AreGroups gs → Each (λ g. IsFilled g.0 × IsBinderSort g.1) gs
groups_each [] h = tt
groups_each (g ∷ gs) h = ((h.0, h.1), groups_each gs h.2)

pub binders_again : (gs : List Group) (y : List Sign) → AreBinders gs → comma y ≡ read.none
    → binders (groups_spelled gs ++ y) ≡ got gs y
binders_again gs y b e =
    let some : (g : Group) → 0 < length (group_spelled g) = λ g. omega
    (arith, length-append (names_spelled g.0) (mark p.Colon ∷ reserved (sort_word g.1) ∷ [])) in
    let at : (m : ℕ) → length gs ≤ m
    → listed binder_group m (whole group_spelled more_groups_spelled gs ++ y)
    ≡ got gs y = λ m h.
    listed_again binder_group group_spelled
    (λ g. IsFilled g.0 × IsBinderSort g.1) more_groups_spelled refl
    (λ x xs. refl) binder_group_again some m gs y b.0 (groups_each gs b.1) h e in
    let all = whole_length binder_group group_spelled
    (λ g. IsFilled g.0 × IsBinderSort g.1) more_groups_spelled refl
    (λ x xs. refl) binder_group_again some gs y in
    subst (λ z. listed binder_group (length (z ++ y)) (z ++ y) ≡ got gs y) (groups_whole gs)
    (at (length (whole group_spelled more_groups_spelled gs ++ y)) all)

pub instance_again : (ns : List (List ℕ)) (y : List Sign) → IsFilled ns
    → instance (mark p.OpenParenthesis ∷ ((names_spelled ns ++ mark p.CloseParenthesis ∷ []) ++ y))
    ≡ got ns y
instance_again ns y f =
    rw (
      append_assoc (names_spelled ns) (mark p.CloseParenthesis ∷ []) y,
      eat_self
          (mark p.OpenParenthesis),
      identifiers_again ns (mark p.CloseParenthesis ∷ y) f
          (no_comma (mark p.CloseParenthesis) y (λ e. cc)),
      eat_self
          (mark p.CloseParenthesis) y,
    ) refl

-- the identifiers of a list that has no other trees
abbrev pub names_of : FormulaTrees → List (List ℕ)
names_of none = []
names_of (more (name n) xs) = n ∷ names_of xs
names_of (more _ xs) = []

pub named_again : (xs : FormulaTrees) → AreNames xs → named (names_of xs) ≡ xs
named_again none h = refl
named_again (more (name n) xs) h = ap (λ ys. more (name n) ys) (named_again xs h)
named_again (more _ xs) h = absurd h

pub names_filled : (xs : FormulaTrees) → AreNames xs → IsSome xs → IsFilled (names_of xs)
names_filled none h f = absurd f
names_filled (more (name n) xs) h f = tt
names_filled (more _ xs) h f = absurd h
