-- The text of a syntax tree is read as the tokens that the tree stands for.
use Rattle.std.proofs.Common.{ℕ, List, [], ◌∷◌, ◌++◌, map, codes, append_assoc, append-nil, refl}
use Rattle.std.proofs.Common.{ap, ◌∙◌, sym, subst, arith}
use Rattle.sq_token.specs.declared.kind.Reserved.{Reserved}
use Rattle.sq_token.specs.declared.kind.Reserved.TheVariants as r
use Rattle.sq_token.specs.declared.kind.Punctuation.TheVariants as m
use Rattle.sq_token.specs.Kinds.{reserved_text, punctuation_text}
use Rattle.sq_token.specs.Sign.{Sign, word, reserved, mark}
use Rattle.sq_ast.specs.declared.formula.Binary.{Binary}
use Rattle.sq_ast.specs.declared.formula.Binary.TheVariants.{Implies, Or, And, Equal, NotEqual}
use Rattle.sq_ast.specs.declared.formula.Binary.TheVariants.{LessEqual, Less}
use Rattle.sq_ast.specs.Tree.{Group, FormulaTree, quantified, binary, group, pair, constant}
use Rattle.sq_ast.specs.Tree.{conditional, find, diff, unary, value, name, apply, FormulaTrees}
use Rattle.sq_ast.specs.Tree.{none, more}
use Rattle.sq_ast.specs.Grammar.{quantifier_word, binary_mark, constant_word, unary_word}
use Rattle.sq_ast.specs.Grammar.{macro_word, sort_word, names_spelled, group_spelled}
use Rattle.sq_ast.specs.Grammar.{groups_spelled, more_groups_spelled, spelled, list_spelled}
use Rattle.sq_ast.specs.Grammar.{more_spelled}
use Rattle.sq_print.specs.Printed.{joined}
use Rattle.sq_printed.specs.Trees.{group_text, text_of, texts_of}
use Rattle.sq_printed.specs.Reads.{IsRead, AreIdentifiers, AreNamedGroups, IsNamed, AreNamed}
use Rattle.sq_printed.proofs.Tokens.{Ends, Begins, moved, space_first, nothing_left, space_ends}
use Rattle.sq_printed.proofs.Tokens.{comma_ends, colon_ends, at_ends, open_ends, close_ends}
use Rattle.sq_printed.proofs.Tokens.{greater_ends, word_begins, identifier_word, word_first}
use Rattle.sq_printed.proofs.Tokens.{reserved_first, used, comma_first, colon_first, at_first}
use Rattle.sq_printed.proofs.Tokens.{close_first, greater_first, open_first, less_first, and_first}
use Rattle.sq_printed.proofs.Tokens.{or_first, implies_first, differs_first, at_most_first}
use Rattle.sq_printed.proofs.Tokens.{equals_first, below_first}

-- a reserved word in front of a text that goes on with no name
said : (w : Reserved) (rest : List ℕ) (ss : List Sign) → Ends rest → IsRead rest ss
    → IsRead (reserved_text w ++ rest) (reserved w ∷ ss)
said w rest ss h read = reserved_first w rest ss (used w) h read

-- names that are parted by commas
names_read : (xs : List (List ℕ)) (rest : List ℕ) (ss : List Sign) → AreIdentifiers xs → Ends rest
    → IsRead rest ss → IsRead (joined (codes ", ") xs ++ rest) (names_spelled xs ++ ss)
names_read [] rest ss h e read = read
names_read (x ∷ []) rest ss h e read = word_first x rest ss h.0 e read
names_read (x ∷ y ∷ ys) rest ss h e read =
    let after = joined (codes ", ") (y ∷ ys) ++ rest in
    moved (joined (codes ", ") (x ∷ y ∷ ys) ++ rest) (x ++ (44 ∷ 32 ∷ after))
    (names_spelled (x ∷ y ∷ ys) ++ ss) (word x ∷ mark m.Comma ∷ (names_spelled (y ∷ ys) ++ ss))
    (simp append_assoc) refl
    (word_first x (44 ∷ 32 ∷ after) (mark m.Comma ∷ (names_spelled (y ∷ ys) ++ ss)) h.0
    (comma_ends (32 ∷ after))
    (comma_first (32 ∷ after) (names_spelled (y ∷ ys) ++ ss)
    (space_first after (names_spelled (y ∷ ys) ++ ss)
    (names_read (y ∷ ys) rest ss h.1 e read))))

group_read : (g : Group) (rest : List ℕ) (ss : List Sign) → AreIdentifiers g.0 → Ends rest
    → IsRead rest ss → IsRead (group_text g ++ rest) (group_spelled g ++ ss)
group_read g rest ss h e read =
    let sorted = reserved_text (sort_word g.1) ++ rest in
    moved (group_text g ++ rest) (joined (codes ", ") g.0 ++ (58 ∷ sorted)) (group_spelled g ++ ss)
    (names_spelled g.0 ++ (mark m.Colon ∷ reserved (sort_word g.1) ∷ ss)) (simp append_assoc)
    (append_assoc (names_spelled g.0) (mark m.Colon ∷ reserved (sort_word g.1) ∷ []) ss)
    (names_read g.0 (58 ∷ sorted) (mark m.Colon ∷ reserved (sort_word g.1) ∷ ss) h
    (colon_ends sorted)
    (colon_first sorted (reserved (sort_word g.1) ∷ ss) (said (sort_word g.1) rest ss e read)))

groups_read : (gs : List Group) (rest : List ℕ) (ss : List Sign) → AreNamedGroups gs → Ends rest
    → IsRead rest ss
    → IsRead (joined (codes ", ") (map group_text gs) ++ rest) (groups_spelled gs ++ ss)
groups_read [] rest ss h e read = read
groups_read (g ∷ []) rest ss h e read =
    moved (joined (codes ", ") (map group_text (g ∷ [])) ++ rest) (group_text g ++ rest)
    (groups_spelled (g ∷ []) ++ ss) (group_spelled g ++ ss) refl
    (ap (λ x. x ++ ss) (append-nil (group_spelled g)))
    (group_read g rest ss h.0 e read)
groups_read (g ∷ f ∷ fs) rest ss h e read =
    let after = joined (codes ", ") (map group_text (f ∷ fs)) ++ rest in
    let more_signs = groups_spelled (f ∷ fs) ++ ss in
    moved (joined (codes ", ") (map group_text (g ∷ f ∷ fs)) ++ rest)
    (group_text g ++ (44 ∷ 32 ∷ after)) (groups_spelled (g ∷ f ∷ fs) ++ ss)
    (group_spelled g ++ (mark m.Comma ∷ more_signs)) (simp append_assoc)
    (append_assoc (group_spelled g) (more_groups_spelled (f ∷ fs)) ss)
    (group_read g (44 ∷ 32 ∷ after) (mark m.Comma ∷ more_signs) h.0 (comma_ends (32 ∷ after))
    (comma_first (32 ∷ after) more_signs
    (space_first after more_signs (groups_read (f ∷ fs) rest ss h.1 e read))))

-- an operator with its spaces
operator_read : (o : Binary) (rest : List ℕ) (ss : List Sign) → IsRead rest ss
    → IsRead ((codes " " ++ (punctuation_text (binary_mark o) ++ codes " ")) ++ rest)
    (mark (binary_mark o) ∷ ss)
operator_read Implies rest ss read =
    space_first (61 ∷ 62 ∷ 32 ∷ rest) (mark m.Implies ∷ ss)
    (implies_first (32 ∷ rest) ss (space_first rest ss read))
operator_read Or rest ss read =
    space_first (124 ∷ 124 ∷ 32 ∷ rest) (mark m.Or ∷ ss)
    (or_first (32 ∷ rest) ss (space_first rest ss read))
operator_read And rest ss read =
    space_first (38 ∷ 38 ∷ 32 ∷ rest) (mark m.And ∷ ss)
    (and_first (32 ∷ rest) ss (space_first rest ss read))
operator_read Equal rest ss read =
    space_first (61 ∷ 32 ∷ rest) (mark m.Equals ∷ ss) (equals_first rest ss read)
operator_read NotEqual rest ss read =
    space_first (60 ∷ 62 ∷ 32 ∷ rest) (mark m.Differs ∷ ss)
    (differs_first (32 ∷ rest) ss (space_first rest ss read))
operator_read LessEqual rest ss read =
    space_first (60 ∷ 61 ∷ 32 ∷ rest) (mark m.AtMost ∷ ss)
    (at_most_first (32 ∷ rest) ss (space_first rest ss read))
operator_read Less rest ss read =
    space_first (60 ∷ 32 ∷ rest) (mark m.Less ∷ ss) (below_first rest ss read)

operator_ends : (o : Binary) (rest : List ℕ)
    → Ends ((codes " " ++ (punctuation_text (binary_mark o) ++ codes " ")) ++ rest)
operator_ends o rest = space_ends ((punctuation_text (binary_mark o) ++ codes " ") ++ rest)

-- ---- what a text begins with

begins_more : (xs ys rest : List ℕ) → Begins (xs ++ (ys ++ rest)) → Begins ((xs ++ ys) ++ rest)
begins_more xs ys rest h = subst Begins (sym (append_assoc xs ys rest)) h

reserved_begins : (w : Reserved) (rest : List ℕ) → Begins (reserved_text w ++ rest)
reserved_begins w rest = word_begins (reserved_text w) rest (used w)

paren_begins : (rest : List ℕ) → Begins (40 ∷ rest)
paren_begins rest = (
  λ e. absurd (omega arith),
  λ e. absurd (omega arith),
  λ e. absurd (omega arith),
  λ e. absurd
      (omega arith),
)

less_begins : (rest : List ℕ) → Begins (60 ∷ rest)
less_begins rest = (
  λ e. absurd (omega arith),
  λ e. absurd (omega arith),
  λ e. absurd (omega arith),
  λ e. absurd
      (omega arith),
)

begins : (f : FormulaTree) (rest : List ℕ) → IsNamed f → Begins (text_of f ++ rest)
begins (quantified q gs a) rest h =
    begins_more (reserved_text (quantifier_word q))
    (codes " (" ++ (joined (codes ", ") (map group_text gs) ++ (codes "), " ++ text_of a))) rest
    (reserved_begins (quantifier_word q) _)
begins (binary o a b) rest h =
    begins_more (text_of a)
    ((codes " " ++ (punctuation_text (binary_mark o) ++ codes " ")) ++ text_of b) rest
    (begins a _ h.0)
begins (group a) rest h = paren_begins ((text_of a ++ codes ")") ++ rest)
begins (pair a b) rest h =
    less_begins ((text_of a ++ (codes "," ++ (text_of b ++ codes ">"))) ++ rest)
begins (constant k) rest h = reserved_begins (constant_word k) rest
begins (conditional a b c) rest h =
    reserved_begins r.If
    (32 ∷ ((text_of a ++ (codes " then " ++ (text_of b ++ (codes " else " ++ text_of c)))) ++ rest))
begins (find xs a b c) rest h =
    reserved_begins r.Find
    (32 ∷ ((joined (codes ", ") xs ++
    (codes " such that " ++
    (text_of a ++ (codes " in " ++ (text_of b ++ (codes " else " ++ text_of c)))))) ++ rest))
begins (diff a b) rest h =
    reserved_begins r.Diff (40 ∷ ((text_of a ++ (codes "," ++ (text_of b ++ codes ")"))) ++ rest))
begins (unary u a) rest h =
    begins_more (reserved_text (unary_word u)) (codes "(" ++ (text_of a ++ codes ")")) rest
    (reserved_begins (unary_word u) _)
begins (value w a) rest h =
    begins_more (reserved_text (macro_word w)) (codes "@" ++ text_of a) rest
    (reserved_begins (macro_word w) _)
begins (name x) rest h = word_begins x rest (identifier_word x h)
begins (apply x xs) rest h =
    begins_more x (codes "(" ++ (joined (codes ",") (texts_of xs) ++ codes ")")) rest
    (word_begins x _ (identifier_word x h.0))

-- the text of arguments, or the parenthesis behind them
arguments_begin : (xs : FormulaTrees) (rest : List ℕ) → AreNamed xs
    → Begins (joined (codes ",") (texts_of xs) ++ (41 ∷ rest))
arguments_begin none rest h = (
  λ e. absurd (omega arith),
  λ e. absurd (omega arith),
  λ e. absurd (omega arith),
  λ e. absurd
      (omega arith),
)
arguments_begin (more a none) rest h = begins a (41 ∷ rest) h.0
arguments_begin (more a (more b xs)) rest h =
    begins_more (text_of a) (codes "," ++ joined (codes ",") (texts_of (more b xs))) (41 ∷ rest)
    (begins a _ h.0)

names_begin : (xs : List (List ℕ)) (rest : List ℕ) → AreIdentifiers xs
    → Begins (joined (codes ", ") xs ++ (58 ∷ rest))
names_begin [] rest h = (
  λ e. absurd (omega arith),
  λ e. absurd (omega arith),
  λ e. absurd (omega arith),
  λ e. absurd
      (omega arith),
)
names_begin (x ∷ []) rest h = word_begins x (58 ∷ rest) (identifier_word x h.0)
names_begin (x ∷ y ∷ ys) rest h =
    begins_more x (codes ", " ++ joined (codes ", ") (y ∷ ys)) (58 ∷ rest)
    (word_begins x _ (identifier_word x h.0))

groups_begin : (gs : List Group) (rest : List ℕ) → AreNamedGroups gs
    → Begins (joined (codes ", ") (map group_text gs) ++ (41 ∷ rest))
groups_begin [] rest h = (
  λ e. absurd (omega arith),
  λ e. absurd (omega arith),
  λ e. absurd (omega arith),
  λ e. absurd
      (omega arith),
)
groups_begin (g ∷ []) rest h =
    begins_more (joined (codes ", ") g.0) (codes ":" ++ reserved_text (sort_word g.1)) (41 ∷ rest)
    (names_begin g.0 (reserved_text (sort_word g.1) ++ (41 ∷ rest)) h.0)
groups_begin (g ∷ f ∷ fs) rest h =
    let others = codes ", " ++ joined (codes ", ") (map group_text (f ∷ fs)) in
    begins_more (group_text g) others (41 ∷ rest)
    (begins_more (joined (codes ", ") g.0) (codes ":" ++ reserved_text (sort_word g.1))
    (others ++ (41 ∷ rest))
    (names_begin g.0 (reserved_text (sort_word g.1) ++ (others ++ (41 ∷ rest))) h.0))

-- ---- trees

-- a tree in parentheses, or between two marks: what is read behind it
enclosed : (f : FormulaTree) (rest : List ℕ) (ss : List Sign) → IsNamed f
    → IsRead (text_of f ++ (41 ∷ rest)) (spelled f ++ (mark m.CloseParenthesis ∷ ss))
    → IsRead (40 ∷ (text_of f ++ (41 ∷ rest)))
    (mark m.OpenParenthesis ∷ (spelled f ++ (mark m.CloseParenthesis ∷ ss)))
enclosed f rest ss h read =
    open_first (text_of f ++ (41 ∷ rest)) (spelled f ++ (mark m.CloseParenthesis ∷ ss))
    (begins f (41 ∷ rest) h) read

mutual
  pub tree_read : (f : FormulaTree) (rest : List ℕ) (ss : List Sign) → IsNamed f → Ends rest
      → IsRead rest ss → IsRead (text_of f ++ rest) (spelled f ++ ss)
  tree_read (quantified q gs a) rest ss h e read =
      let body = text_of a ++ rest in
      let body_signs = spelled a ++ ss in
      let binders = joined (codes ", ") (map group_text gs) ++ (41 ∷ 44 ∷ 32 ∷ body) in
      let binders_signs =
      groups_spelled gs ++ (mark m.CloseParenthesis ∷ mark m.Comma ∷ body_signs) in
      moved (text_of (quantified q gs a) ++ rest)
      (reserved_text (quantifier_word q) ++ (32 ∷ 40 ∷ binders))
      (spelled (quantified q gs a) ++ ss)
      (reserved (quantifier_word q) ∷ mark m.OpenParenthesis ∷ binders_signs)
      (simp append_assoc)
      (ap (λ x. reserved (quantifier_word q) ∷ mark m.OpenParenthesis ∷ x)
      (append_assoc (groups_spelled gs)
      (mark m.CloseParenthesis ∷ mark m.Comma ∷ spelled a) ss))
      (said (quantifier_word q) (32 ∷ 40 ∷ binders) (mark m.OpenParenthesis ∷ binders_signs)
      (space_ends (40 ∷ binders))
      (space_first (40 ∷ binders) (mark m.OpenParenthesis ∷ binders_signs)
      (open_first binders binders_signs (groups_begin gs (44 ∷ 32 ∷ body) h.0)
      (groups_read gs (41 ∷ 44 ∷ 32 ∷ body)
      (mark m.CloseParenthesis ∷ mark m.Comma ∷ body_signs) h.0 (close_ends (44 ∷ 32 ∷ body))
      (close_first (44 ∷ 32 ∷ body) (mark m.Comma ∷ body_signs)
      (comma_first (32 ∷ body) body_signs
      (space_first body body_signs (tree_read a rest ss h.1 e read))))))))
  tree_read (binary o a b) rest ss h e read =
      let right = text_of b ++ rest in
      let right_signs = spelled b ++ ss in
      let operator = codes " " ++ (punctuation_text (binary_mark o) ++ codes " ") in
      moved (text_of (binary o a b) ++ rest) (text_of a ++ (operator ++ right))
      (spelled (binary o a b) ++ ss) (spelled a ++ (mark (binary_mark o) ∷ right_signs))
      (append_assoc (text_of a) (operator ++ text_of b) rest
      ∙ ap (λ x. text_of a ++ x) (append_assoc operator (text_of b) rest))
      (append_assoc (spelled a) (mark (binary_mark o) ∷ spelled b) ss)
      (tree_read a (operator ++ right) (mark (binary_mark o) ∷ right_signs) h.0
      (operator_ends o right)
      (operator_read o right right_signs (tree_read b rest ss h.1 e read)))
  tree_read (group a) rest ss h e read =
      moved (text_of (group a) ++ rest) (40 ∷ (text_of a ++ (41 ∷ rest))) (spelled (group a) ++ ss)
      (mark m.OpenParenthesis ∷ (spelled a ++ (mark m.CloseParenthesis ∷ ss)))
      (ap (λ x. 40 ∷ x) (append_assoc (text_of a) (codes ")") rest))
      (ap (λ x. mark m.OpenParenthesis ∷ x)
      (append_assoc (spelled a) (mark m.CloseParenthesis ∷ []) ss))
      (enclosed a rest ss h
      (tree_read a (41 ∷ rest) (mark m.CloseParenthesis ∷ ss) h (close_ends rest)
      (close_first rest ss read)))
  tree_read (pair a b) rest ss h e read =
      let right = text_of b ++ (62 ∷ rest) in
      let right_signs = spelled b ++ (mark m.Greater ∷ ss) in
      moved (text_of (pair a b) ++ rest) (60 ∷ (text_of a ++ (44 ∷ right)))
      (spelled (pair a b) ++ ss) (mark m.Less ∷ (spelled a ++ (mark m.Comma ∷ right_signs)))
      (simp append_assoc) (simp append_assoc)
      (less_first (text_of a ++ (44 ∷ right)) (spelled a ++ (mark m.Comma ∷ right_signs))
      (begins a (44 ∷ right) h.0)
      (tree_read a (44 ∷ right) (mark m.Comma ∷ right_signs) h.0 (comma_ends right)
      (comma_first right right_signs
      (tree_read b (62 ∷ rest) (mark m.Greater ∷ ss) h.1 (greater_ends rest)
      (greater_first rest ss read)))))
  tree_read (constant k) rest ss h e read = said (constant_word k) rest ss e read
  tree_read (conditional a b c) rest ss h e read =
      let last = text_of c ++ rest in
      let last_signs = spelled c ++ ss in
      let middle = text_of b ++ (32 ∷ (reserved_text r.Else ++ (32 ∷ last))) in
      let middle_signs = spelled b ++ (reserved r.Else ∷ last_signs) in
      let test = text_of a ++ (32 ∷ (reserved_text r.Then ++ (32 ∷ middle))) in
      let test_signs = spelled a ++ (reserved r.Then ∷ middle_signs) in
      moved (text_of (conditional a b c) ++ rest) (reserved_text r.If ++ (32 ∷ test))
      (spelled (conditional a b c) ++ ss) (reserved r.If ∷ test_signs) (simp append_assoc)
      (simp append_assoc)
      (said r.If (32 ∷ test) test_signs (space_ends test) (space_first test test_signs
      (tree_read a (32 ∷ (reserved_text r.Then ++ (32 ∷ middle)))
      (reserved r.Then ∷ middle_signs) h.0 (space_ends (reserved_text r.Then ++ (32 ∷ middle)))
      (space_first (reserved_text r.Then ++ (32 ∷ middle)) (reserved r.Then ∷ middle_signs)
      (said r.Then (32 ∷ middle) middle_signs (space_ends middle)
      (space_first middle middle_signs
      (tree_read b (32 ∷ (reserved_text r.Else ++ (32 ∷ last))) (reserved r.Else ∷ last_signs) h.1
      (space_ends (reserved_text r.Else ++ (32 ∷ last)))
      (space_first (reserved_text r.Else ++ (32 ∷ last)) (reserved r.Else ∷ last_signs)
      (said r.Else (32 ∷ last) last_signs (space_ends last) (space_first last last_signs
      (tree_read c rest ss h.2 e read)))))))))))
  tree_read (find xs a b c) rest ss h e read =
      let last = text_of c ++ rest in
      let last_signs = spelled c ++ ss in
      let middle = text_of b ++ (32 ∷ (reserved_text r.Else ++ (32 ∷ last))) in
      let middle_signs = spelled b ++ (reserved r.Else ∷ last_signs) in
      let test = text_of a ++ (32 ∷ (reserved_text r.In ++ (32 ∷ middle))) in
      let test_signs = spelled a ++ (reserved r.In ∷ middle_signs) in
      let that = reserved_text r.That ++ (32 ∷ test) in
      let such = reserved_text r.Such ++ (32 ∷ that) in
      let such_signs = reserved r.Such ∷ reserved r.That ∷ test_signs in
      let names = joined (codes ", ") xs ++ (32 ∷ such) in
      moved (text_of (find xs a b c) ++ rest) (reserved_text r.Find ++ (32 ∷ names))
      (spelled (find xs a b c) ++ ss) (reserved r.Find ∷ (names_spelled xs ++ such_signs))
      (simp append_assoc) (simp append_assoc)
      (said r.Find (32 ∷ names) (names_spelled xs ++ such_signs) (space_ends names)
      (space_first names (names_spelled xs ++ such_signs)
      (names_read xs (32 ∷ such) such_signs h.0 (space_ends such) (space_first such such_signs
      (said r.Such (32 ∷ that) (reserved r.That ∷ test_signs) (space_ends that)
      (space_first that (reserved r.That ∷ test_signs)
      (said r.That (32 ∷ test) test_signs (space_ends test) (space_first test test_signs
      (tree_read a (32 ∷ (reserved_text r.In ++ (32 ∷ middle))) (reserved r.In ∷ middle_signs) h.1
      (space_ends (reserved_text r.In ++ (32 ∷ middle)))
      (space_first (reserved_text r.In ++ (32 ∷ middle)) (reserved r.In ∷ middle_signs)
      (said r.In (32 ∷ middle) middle_signs (space_ends middle) (space_first middle middle_signs
      (tree_read b (32 ∷ (reserved_text r.Else ++ (32 ∷ last))) (reserved r.Else ∷ last_signs) h.2
      (space_ends (reserved_text r.Else ++ (32 ∷ last)))
      (space_first (reserved_text r.Else ++ (32 ∷ last)) (reserved r.Else ∷ last_signs)
      (said r.Else (32 ∷ last) last_signs (space_ends last) (space_first last last_signs
      (tree_read c rest ss h.3 e read)))))))))))))))))
  tree_read (diff a b) rest ss h e read =
      let right = text_of b ++ (41 ∷ rest) in
      let right_signs = spelled b ++ (mark m.CloseParenthesis ∷ ss) in
      let left = text_of a ++ (44 ∷ right) in
      let left_signs = spelled a ++ (mark m.Comma ∷ right_signs) in
      moved (text_of (diff a b) ++ rest) (reserved_text r.Diff ++ (40 ∷ left))
      (spelled (diff a b) ++ ss) (reserved r.Diff ∷ mark m.OpenParenthesis ∷ left_signs)
      (simp append_assoc) (simp append_assoc)
      (said r.Diff (40 ∷ left) (mark m.OpenParenthesis ∷ left_signs) (open_ends left)
      (open_first left left_signs (begins a (44 ∷ right) h.0)
      (tree_read a (44 ∷ right) (mark m.Comma ∷ right_signs) h.0 (comma_ends right)
      (comma_first right right_signs
      (tree_read b (41 ∷ rest) (mark m.CloseParenthesis ∷ ss) h.1 (close_ends rest)
      (close_first rest ss read))))))
  tree_read (unary u a) rest ss h e read =
      moved (text_of (unary u a) ++ rest)
      (reserved_text (unary_word u) ++ (40 ∷ (text_of a ++ (41 ∷ rest))))
      (spelled (unary u a) ++ ss)
      (reserved (unary_word u) ∷ mark m.OpenParenthesis ∷
      (spelled a ++ (mark m.CloseParenthesis ∷ ss))) (simp append_assoc) (simp append_assoc)
      (said (unary_word u) (40 ∷ (text_of a ++ (41 ∷ rest)))
      (mark m.OpenParenthesis ∷ (spelled a ++ (mark m.CloseParenthesis ∷ ss)))
      (open_ends (text_of a ++ (41 ∷ rest)))
      (enclosed a rest ss h
      (tree_read a (41 ∷ rest) (mark m.CloseParenthesis ∷ ss) h (close_ends rest)
      (close_first rest ss read))))
  tree_read (value w a) rest ss h e read =
      let time = text_of a ++ rest in
      moved (text_of (value w a) ++ rest) (reserved_text (macro_word w) ++ (64 ∷ time))
      (spelled (value w a) ++ ss) (reserved (macro_word w) ∷ mark m.At ∷ (spelled a ++ ss))
      (append_assoc (reserved_text (macro_word w)) (codes "@" ++ text_of a) rest) refl
      (said (macro_word w) (64 ∷ time) (mark m.At ∷ (spelled a ++ ss)) (at_ends time)
      (at_first time (spelled a ++ ss) (tree_read a rest ss h e read)))
  tree_read (name x) rest ss h e read = word_first x rest ss h e read
  tree_read (apply x xs) rest ss h e read =
      let arguments = joined (codes ",") (texts_of xs) ++ (41 ∷ rest) in
      let arguments_signs = list_spelled xs ++ (mark m.CloseParenthesis ∷ ss) in
      moved (text_of (apply x xs) ++ rest) (x ++ (40 ∷ arguments)) (spelled (apply x xs) ++ ss)
      (word x ∷ mark m.OpenParenthesis ∷ arguments_signs) (simp append_assoc)
      (ap (λ y. word x ∷ mark m.OpenParenthesis ∷ y)
      (append_assoc (list_spelled xs) (mark m.CloseParenthesis ∷ []) ss))
      (word_first x (40 ∷ arguments) (mark m.OpenParenthesis ∷ arguments_signs) h.0
      (open_ends arguments)
      (open_first arguments arguments_signs (arguments_begin xs rest h.1)
      (trees_read xs (41 ∷ rest) (mark m.CloseParenthesis ∷ ss) h.1 (close_ends rest)
      (close_first rest ss read))))

  -- arguments that are parted by commas
  trees_read : (xs : FormulaTrees) (rest : List ℕ) (ss : List Sign) → AreNamed xs → Ends rest
      → IsRead rest ss → IsRead (joined (codes ",") (texts_of xs) ++ rest) (list_spelled xs ++ ss)
  trees_read none rest ss h e read = read
  trees_read (more a none) rest ss h e read =
      moved (joined (codes ",") (texts_of (more a none)) ++ rest) (text_of a ++ rest)
      (list_spelled (more a none) ++ ss) (spelled a ++ ss) refl
      (ap (λ x. x ++ ss) (append-nil (spelled a)))
      (tree_read a rest ss h.0 e read)
  trees_read (more a (more b xs)) rest ss h e read =
      let after = joined (codes ",") (texts_of (more b xs)) ++ rest in
      let after_signs = list_spelled (more b xs) ++ ss in
      moved (joined (codes ",") (texts_of (more a (more b xs))) ++ rest) (text_of a ++ (44 ∷ after))
      (list_spelled (more a (more b xs)) ++ ss) (spelled a ++ (mark m.Comma ∷ after_signs))
      (append_assoc (text_of a) (codes "," ++ joined (codes ",") (texts_of (more b xs))) rest)
      (append_assoc (spelled a) (more_spelled (more b xs)) ss)
      (tree_read a (44 ∷ after) (mark m.Comma ∷ after_signs) h.0 (comma_ends after)
      (comma_first after after_signs (trees_read (more b xs) rest ss h.1 e read)))

-- the text of a tree is read as its tokens
pub text_read : (f : FormulaTree) → IsNamed f → IsRead (text_of f) (spelled f)
text_read f h =
    moved (text_of f) (text_of f ++ []) (spelled f) (spelled f ++ []) (sym (append-nil (text_of f)))
    (sym (append-nil (spelled f))) (tree_read f [] [] h tt nothing_left)
