-- With a stop behind it, the text of a syntax tree is one sentence.
use Rattle.std.proofs.Common.{◌≡◌, ℕ, Bool, true, false, if◌then◌else◌, List, [], ◌∷◌, ◌++◌, map}
use Rattle.std.proofs.Common.{codes}
use Rattle.std.proofs.Common.{Some, Result, Ok, Err, append_assoc, append-nil, refl, sym, ap, ◌∙◌}
use Rattle.std.specs.Prelude.{⊤, nat_lt}
use Rattle.std.specs.List.{list_all}
use Rattle.std.specs.Str.{IsUtf8, is_utf8}
use Rattle.std.specs.Str.Lossy.{utf8_valid_len}
use Rattle.std.proofs.lemmas.List.{map-append}
use Rattle.std.proofs.lemmas.Str.{IsUtf8-append, IsUtf8-nil, IsUtf8-from_ascii, is_utf8-from_IsUtf8}
use Rattle.sq_token.specs.declared.kind.Punctuation.TheVariants as m
use Rattle.sq_token.specs.declared.kind.TokenKind.{TokenKind}
use Rattle.sq_token.specs.declared.kind.TokenKind.TheVariants as kind
use Rattle.sq_token.specs.Kinds.{punctuation_text, reserved_text}
use Rattle.sq_token.specs.Sign.{Sign, sign, mark}
use Rattle.sq_lex.specs.declared.fault.LexFault.{LexFault}
use Rattle.sq_lex.specs.declared.fault.LexFault.TheVariants as fault
use Rattle.sq_lex.specs.Lexemes.{Lexeme, Line, is_stop}
use Rattle.sq_lex.specs.Lex.{lexemes, sentence, prepend, cut, cut_all, sentences}
use Rattle.sq_lex.proofs.Symbols.{ascii}
use Rattle.sq_ast.specs.declared.formula.Binary.{Binary}
use Rattle.sq_ast.specs.declared.formula.Binary.TheVariants.{Implies, Or, And, Equal, NotEqual}
use Rattle.sq_ast.specs.declared.formula.Binary.TheVariants.{LessEqual, Less}
use Rattle.sq_ast.specs.Tree.{Group, FormulaTree, quantified, binary, group, pair, constant}
use Rattle.sq_ast.specs.Tree.{conditional, find, diff, unary, value, name, apply, FormulaTrees}
use Rattle.sq_ast.specs.Tree.{none, more}
use Rattle.sq_ast.specs.Grammar.{quantifier_word, binary_mark, constant_word, unary_word}
use Rattle.sq_ast.specs.Grammar.{macro_word, sort_word, names_spelled, more_names_spelled}
use Rattle.sq_ast.specs.Grammar.{group_spelled, groups_spelled, more_groups_spelled, spelled}
use Rattle.sq_ast.specs.Grammar.{list_spelled, more_spelled}
use Rattle.sq_print.specs.Printed.{joined}
use Rattle.sq_printed.specs.Trees.{group_text, text_of, texts_of}
use Rattle.sq_printed.specs.Reads.{sign_at, signs_read, AreIdentifiers, AreNamedGroups, IsNamed}
use Rattle.sq_printed.specs.Reads.{AreNamed}
use Rattle.sq_printed.proofs.Tokens.{nothing_left, identifier_word, used, dot_ends, dot_first}
use Rattle.sq_printed.proofs.Reading.{tree_read}

-- ---- the text is in UTF-8

plain : (text : List ℕ) → list_all (λ b. nat_lt b 128) text ≡ true → IsUtf8 text
plain text e = IsUtf8-from_ascii text (ascii text e)

both_utf8 : (xs ys : List ℕ) → IsUtf8 xs → IsUtf8 ys → IsUtf8 (xs ++ ys)
both_utf8 xs ys x y = IsUtf8-append xs ys x y

abbrev AreUtf8 : List (List ℕ) → Type 0
AreUtf8 [] = ⊤
AreUtf8 (x ∷ xs) = IsUtf8 x × AreUtf8 xs

joined_utf8 : (between : List ℕ) (xs : List (List ℕ)) → IsUtf8 between → AreUtf8 xs
    → IsUtf8 (joined between xs)
joined_utf8 between [] b h = IsUtf8-nil
joined_utf8 between (x ∷ []) b h = h.0
joined_utf8 between (x ∷ y ∷ ys) b h =
    both_utf8 x (between ++ joined between (y ∷ ys)) h.0
    (both_utf8 between (joined between (y ∷ ys)) b (joined_utf8 between (y ∷ ys) b h.1))

names_utf8 : (xs : List (List ℕ)) → AreIdentifiers xs → AreUtf8 xs
names_utf8 [] h = tt
names_utf8 (x ∷ xs) h = ((identifier_word x h.0).utf8, names_utf8 xs h.1)

group_utf8 : (g : Group) → AreIdentifiers g.0 → IsUtf8 (group_text g)
group_utf8 g h =
    both_utf8 (joined (codes ", ") g.0) (codes ":" ++ reserved_text (sort_word g.1))
    (joined_utf8 (codes ", ") g.0 (plain (codes ", ") refl) (names_utf8 g.0 h))
    (both_utf8 (codes ":") (reserved_text (sort_word g.1)) (plain (codes ":") refl)
    (used (sort_word g.1)).utf8)

groups_utf8 : (gs : List Group) → AreNamedGroups gs → AreUtf8 (map group_text gs)
groups_utf8 [] h = tt
groups_utf8 (g ∷ gs) h = (group_utf8 g h.0, groups_utf8 gs h.1)

operator_utf8 : (o : Binary) → IsUtf8 (codes " " ++ (punctuation_text (binary_mark o) ++ codes " "))
operator_utf8 Implies = plain (codes " => ") refl
operator_utf8 Or = plain (codes " || ") refl
operator_utf8 And = plain (codes " && ") refl
operator_utf8 Equal = plain (codes " = ") refl
operator_utf8 NotEqual = plain (codes " <> ") refl
operator_utf8 LessEqual = plain (codes " <= ") refl
operator_utf8 Less = plain (codes " < ") refl

mutual
  tree_utf8 : (f : FormulaTree) → IsNamed f → IsUtf8 (text_of f)
  tree_utf8 (quantified q gs a) h =
      both_utf8 (reserved_text (quantifier_word q)) _ (used (quantifier_word q)).utf8
      (both_utf8 (codes " (") _ (plain (codes " (") refl)
      (both_utf8 (joined (codes ", ") (map group_text gs)) _
      (joined_utf8 (codes ", ") (map group_text gs) (plain (codes ", ") refl)
      (groups_utf8 gs h.0))
      (both_utf8 (codes "), ") (text_of a) (plain (codes "), ") refl) (tree_utf8 a h.1))))
  tree_utf8 (binary o a b) h =
      both_utf8 (text_of a) _ (tree_utf8 a h.0)
      (both_utf8 (codes " " ++ (punctuation_text (binary_mark o) ++ codes " ")) (text_of b)
      (operator_utf8 o) (tree_utf8 b h.1))
  tree_utf8 (group a) h =
      both_utf8 (codes "(") _ (plain (codes "(") refl)
      (both_utf8 (text_of a) (codes ")") (tree_utf8 a h) (plain (codes ")") refl))
  tree_utf8 (pair a b) h =
      both_utf8 (codes "<") _ (plain (codes "<") refl)
      (both_utf8 (text_of a) _ (tree_utf8 a h.0)
      (both_utf8 (codes ",") _ (plain (codes ",") refl)
      (both_utf8 (text_of b) (codes ">") (tree_utf8 b h.1) (plain (codes ">") refl))))
  tree_utf8 (constant c) h = (used (constant_word c)).utf8
  tree_utf8 (conditional a b c) h =
      both_utf8 (codes "if ") _ (plain (codes "if ") refl)
      (both_utf8 (text_of a) _ (tree_utf8 a h.0)
      (both_utf8 (codes " then ") _ (plain (codes " then ") refl)
      (both_utf8 (text_of b) _ (tree_utf8 b h.1)
      (both_utf8 (codes " else ") (text_of c) (plain (codes " else ") refl) (tree_utf8 c h.2)))))
  tree_utf8 (find xs a b c) h =
      both_utf8 (codes "find ") _ (plain (codes "find ") refl)
      (both_utf8 (joined (codes ", ") xs) _
      (joined_utf8 (codes ", ") xs (plain (codes ", ") refl) (names_utf8 xs h.0))
      (both_utf8 (codes " such that ") _ (plain (codes " such that ") refl)
      (both_utf8 (text_of a) _ (tree_utf8 a h.1)
      (both_utf8 (codes " in ") _ (plain (codes " in ") refl)
      (both_utf8 (text_of b) _ (tree_utf8 b h.2)
      (both_utf8 (codes " else ") (text_of c) (plain (codes " else ") refl) (tree_utf8 c h.3)))))))
  tree_utf8 (diff a b) h =
      both_utf8 (codes "diff(") _ (plain (codes "diff(") refl)
      (both_utf8 (text_of a) _ (tree_utf8 a h.0)
      (both_utf8 (codes ",") _ (plain (codes ",") refl)
      (both_utf8 (text_of b) (codes ")") (tree_utf8 b h.1) (plain (codes ")") refl))))
  tree_utf8 (unary u a) h =
      both_utf8 (reserved_text (unary_word u)) _ (used (unary_word u)).utf8
      (both_utf8 (codes "(") _ (plain (codes "(") refl)
      (both_utf8 (text_of a) (codes ")") (tree_utf8 a h) (plain (codes ")") refl)))
  tree_utf8 (value w a) h =
      both_utf8 (reserved_text (macro_word w)) _ (used (macro_word w)).utf8
      (both_utf8 (codes "@") (text_of a) (plain (codes "@") refl) (tree_utf8 a h))
  tree_utf8 (name x) h = (identifier_word x h).utf8
  tree_utf8 (apply x xs) h =
      both_utf8 x _ (identifier_word x h.0).utf8
      (both_utf8 (codes "(") _ (plain (codes "(") refl)
      (both_utf8 (joined (codes ",") (texts_of xs)) (codes ")")
      (joined_utf8 (codes ",") (texts_of xs) (plain (codes ",") refl) (trees_utf8 xs h.1))
      (plain (codes ")") refl)))

  trees_utf8 : (xs : FormulaTrees) → AreNamed xs → AreUtf8 (texts_of xs)
  trees_utf8 none h = tt
  trees_utf8 (more a xs) h = (tree_utf8 a h.0, trees_utf8 xs h.1)

-- ---- no token of a tree is a stop

abbrev is_dot : Sign → Bool
is_dot (mark m.Dot) = true
is_dot _ = false

abbrev HasNoStop : List Sign → Type 0
HasNoStop [] = ⊤
HasNoStop (s ∷ ss) = (is_dot s ≡ false) × HasNoStop ss

neither : (xs ys : List Sign) → HasNoStop xs → HasNoStop ys → HasNoStop (xs ++ ys)
neither [] ys h g = g
neither (x ∷ xs) ys h g = (h.0, neither xs ys h.1 g)

more_names_stopless : (ns : List (List ℕ)) → HasNoStop (more_names_spelled ns)
more_names_stopless [] = tt
more_names_stopless (n ∷ ns) = (refl, (refl, more_names_stopless ns))

names_stopless : (ns : List (List ℕ)) → HasNoStop (names_spelled ns)
names_stopless [] = tt
names_stopless (n ∷ ns) = (refl, more_names_stopless ns)

group_stopless : (g : Group) → HasNoStop (group_spelled g)
group_stopless g = neither (names_spelled g.0) _ (names_stopless g.0) (refl, (refl, tt))

more_groups_stopless : (gs : List Group) → HasNoStop (more_groups_spelled gs)
more_groups_stopless [] = tt
more_groups_stopless (g ∷ gs) = (
  refl,
  neither (group_spelled g) (more_groups_spelled gs) (group_stopless g)
      (more_groups_stopless gs),
)

groups_stopless : (gs : List Group) → HasNoStop (groups_spelled gs)
groups_stopless [] = tt
groups_stopless (g ∷ gs) =
    neither (group_spelled g) (more_groups_spelled gs) (group_stopless g) (more_groups_stopless gs)

operator_stopless : (o : Binary) → is_dot (mark (binary_mark o)) ≡ false
operator_stopless Implies = refl
operator_stopless Or = refl
operator_stopless And = refl
operator_stopless Equal = refl
operator_stopless NotEqual = refl
operator_stopless LessEqual = refl
operator_stopless Less = refl

mutual
  tree_stopless : (f : FormulaTree) → HasNoStop (spelled f)
  tree_stopless (quantified q gs a) = (
    refl,
    (
      refl,
      neither (groups_spelled gs) _ (groups_stopless gs)
          (refl, (refl, tree_stopless a)),
    ),
  )
  tree_stopless (binary o a b) =
      neither (spelled a) _ (tree_stopless a) (operator_stopless o, tree_stopless b)
  tree_stopless (group a) = (refl, neither (spelled a) _ (tree_stopless a) (refl, tt))
  tree_stopless (pair a b) = (
    refl,
    neither (spelled a) _ (tree_stopless a)
        (refl, neither (spelled b) _ (tree_stopless b) (refl, tt)),
  )
  tree_stopless (constant c) = (refl, tt)
  tree_stopless (conditional a b c) = (
    refl,
    neither (spelled a) _ (tree_stopless a)
        (refl, neither (spelled b) _ (tree_stopless b) (refl, tree_stopless c)),
  )
  tree_stopless (find ns a b c) = (
    refl,
    neither (names_spelled ns) _ (names_stopless ns) (
      refl,
      (
        refl,
        neither (spelled a) _ (tree_stopless a)
            (refl, neither (spelled b) _ (tree_stopless b) (refl, tree_stopless c)),
      ),
    ),
  )
  tree_stopless (diff a b) = (
    refl,
    (
      refl,
      neither (spelled a) _ (tree_stopless a)
          (refl, neither (spelled b) _ (tree_stopless b) (refl, tt)),
    ),
  )
  tree_stopless (unary u a) = (refl, (refl, neither (spelled a) _ (tree_stopless a) (refl, tt)))
  tree_stopless (value w a) = (refl, (refl, tree_stopless a))
  tree_stopless (name x) = (refl, tt)
  tree_stopless (apply x xs) =
      (refl, (refl, neither (list_spelled xs) _ (list_stopless xs) (refl, tt)))

  list_stopless : (xs : FormulaTrees) → HasNoStop (list_spelled xs)
  list_stopless none = tt
  list_stopless (more a xs) =
      neither (spelled a) (more_spelled xs) (tree_stopless a) (more_stopless xs)

  more_stopless : (xs : FormulaTrees) → HasNoStop (more_spelled xs)
  more_stopless none = tt
  more_stopless (more a xs) =
      (refl, neither (spelled a) (more_spelled xs) (tree_stopless a) (more_stopless xs))

-- ---- the sentence

stop_is : (k : TokenKind) (text : List ℕ) → is_stop k ≡ is_dot (sign k text)
stop_is kind.Identifier text = refl
stop_is (kind.Reserved r) text = refl
stop_is kind.Number text = refl
stop_is (kind.Punctuation m.Dot) text = refl
stop_is (kind.Punctuation _) text = refl

-- one sentence with these tokens
pub record IsSentence (found : Result (List Line) LexFault) (ss : List Sign) : Type 0 where
  pub line : Line
  pub found_is : found ≡ Ok (line ∷ [])
  pub signs_are : map sign_at line.tokens ≡ ss

one_sentence : (source : List ℕ) (since : List Lexeme) (ss : List Sign) (ts : List Lexeme)
    → HasNoStop ss → map sign_at ts ≡ ss ++ mark m.Dot ∷ []
    → IsSentence (cut source since ts) (map sign_at since ++ ss)
one_sentence source since [] [] h e = let never : ⊥ = cc in absurd never
one_sentence source since (s ∷ ss) [] h e = let never : ⊥ = cc in absurd never
one_sentence source since [] (t ∷ u ∷ us) h e = let never : ⊥ = cc in absurd never
one_sentence source since [] (t ∷ []) h e =
    let dot : sign_at t ≡ mark m.Dot = cc in
    let stop : is_stop t.kind ≡ true = stop_is t.kind t.text ∙ ap is_dot dot in
    record {
      line = sentence source since t;
      found_is = ap
          (λ b. (if b then prepend (sentence source since t) (cut source [] [])
          else cut source (since ++ t ∷ []) [])) stop;
      signs_are = sym (append-nil (map sign_at since));
    }
one_sentence source since (s ∷ ss) (t ∷ ts) h e =
    let first : sign_at t ≡ s = cc in
    let rest : map sign_at ts ≡ ss ++ mark m.Dot ∷ [] = cc in
    let stop : is_stop t.kind ≡ false = stop_is t.kind t.text ∙ (ap is_dot first ∙ h.0) in
    let inner = one_sentence source (since ++ t ∷ []) ss ts h.1 rest in
    let signs : map sign_at (since ++ t ∷ []) ++ ss ≡ map sign_at since ++ s ∷ ss =
    ap (λ x. x ++ ss) (map-append sign_at since (t ∷ []))
    ∙ (append_assoc (map sign_at since) (sign_at t ∷ []) ss
    ∙ ap (λ x. map sign_at since ++ x ∷ ss) first) in
    record {
      line = inner.line;
      found_is =
          ap (λ b. (if b then prepend (sentence source since t) (cut source [] ts)
          else cut source (since ++ t ∷ []) ts)) stop ∙ inner.found_is;
      signs_are = inner.signs_are ∙ signs;
    }

-- the tokens that were read, cut into sentences
cut_read : (source : List ℕ) (found : Result (List Lexeme) LexFault) (ss : List Sign) → HasNoStop ss
    → signs_read found ≡ Some (ss ++ mark m.Dot ∷ []) → IsSentence (cut_all source [] found) ss
cut_read source (Ok ts) ss h e = let signs : map sign_at ts ≡ ss ++ mark m.Dot ∷ [] =
    cc in one_sentence source [] ss ts h signs
cut_read source (Err x) ss h e = let never : ⊥ = cc in absurd never

pub text_sentence : (f : FormulaTree) → IsNamed f
    → IsSentence (sentences (text_of f ++ codes ".")) (spelled f)
text_sentence f h =
    let source = text_of f ++ codes "." in
    let valid : is_utf8 source ≡ true =
    is_utf8-from_IsUtf8 source
    (both_utf8 (text_of f) (codes ".") (tree_utf8 f h) (plain (codes ".") refl)) in
    let read =
    tree_read f (codes ".") (mark m.Dot ∷ []) h (dot_ends [])
    (dot_first [] [] nothing_left) 0 in
    let made = cut_read source (lexemes 0 0 source) (spelled f) (tree_stopless f) read in
    record {
      line = made.line;
      found_is = ap
          (λ b. (if b then cut_all source [] (lexemes 0 0 source)
          else Err (fault.NotUtf8 (utf8_valid_len source)))) valid
          ∙ made.found_is;
      signs_are = made.signs_are;
    }
