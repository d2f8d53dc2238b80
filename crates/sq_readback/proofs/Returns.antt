-- What is printed comes back as the same term.
use Rattle.std.proofs.Common.{◌≡◌, ◌≤◌, ℕ, true, if◌then◌else◌, ◌&&◌, nat_le, List, [], ◌∷◌, ◌++◌}
use Rattle.std.proofs.Common.{map}
use Rattle.std.proofs.Common.{codes, Some, Ok, Err, slice_get, refl, sym, ap, ◌∙◌, subst, arith}
use Rattle.std.proofs.lemmas.Bool.Decides.{nat_tests}
use Rattle.sq_base.specs.declared.sort.Sort.{Sort}
use Rattle.sq_base.specs.declared.sort.Sort.TheVariants.{Message, Boolean, Index, Timestamp}
use Rattle.sq_token.specs.declared.token.Token.{Token}
use Rattle.sq_token.specs.declared.token.Sentence.{Sentence}
use Rattle.sq_token.specs.Sign.{sign_of, signs}
use Rattle.sq_lex.specs.Lexemes.{Line, lexeme_of, line_of}
use Rattle.sq_lex.specs.Lex.{lexemes, sentences}
use Rattle.sq_parse_term.specs.Answers.{IsFormula}
use Rattle.sq_ast.specs.declared.formula.Form.TheVariants.{Formula}
use Rattle.sq_ast.specs.Tree.{FormulaTree}
use Rattle.sq_ast.specs.Grammar.{spelled, Is}
use Rattle.sq_parse_term.proofs.Within.{one_tree}
use Rattle.sq_term.specs.Measure.{size, depth}
use Rattle.sq_term.specs.Syntax.{TermTree}
use Rattle.sq_typing.specs.Functions.{is_value_sort}
use Rattle.sq_print.specs.Printed.{term_text}
use Rattle.sq_resolve.specs.Limits.{most_formula_nodes, most_formula_depth}
use Rattle.sq_resolve.specs.declared.fault.ResolveFault.TheVariants.{TooLarge}
use Rattle.sq_resolve.specs.Scopes.{Context}
use Rattle.sq_resolve.specs.Resolved.{term_of}
use Rattle.sq_resolve.specs.Typed.{IsTerm}
use Rattle.sq_resolve.specs.Built.{within_limits, limited_term}
use Rattle.sq_resolve.proofs.TypedLaws.{typed_term, one_term}
use Rattle.sq_printed.specs.Trees.{term_syntax}
use Rattle.sq_printed.specs.Reads.{sign_at, IsNamed, IsRead, signs_read}
use Rattle.sq_readback.specs.Readable.{names_of, own_actions, signature, IsReadable, HasFewNames}
use Rattle.sq_readback.specs.Readable.{IsReadBack}
use Rattle.sq_readback.specs.Calls.{IsWithinLimits, IsOnlyFormula, ComesBack, IsFormulaOf}
use Rattle.sq_printed.proofs.TreeTexts.{text_is, is_formula, built}
use Rattle.sq_printed.proofs.Reading.{text_read}
use Rattle.sq_readback.proofs.Standing.{AreNamesOf}
use Rattle.sq_readback.proofs.Writable.{writable}
use Rattle.sq_readback.proofs.Around.{none_around}
use Rattle.sq_readback.proofs.Functions.{IsValue}
use Rattle.sq_readback.proofs.Whole.{term_is}
use Rattle.sq_readback.proofs.Named.{named}
use Rattle.sq_readback.proofs.Plain.{plain_names}
use Rattle.sq_printed.proofs.Sentence.{text_sentence}
use Rattle.sq_readback.proofs.Limits.{only_formula, term_low}

value : (s : Sort) → is_value_sort s ≡ true → IsValue s
value Message e = tt
value Boolean e = tt
value Index e = cc
value Timestamp e = cc

own_names_are : (c : Context) → AreNamesOf (names_of c) c
own_names_are c = record { vars = refl; schemas = refl; system = refl; table = refl }

names_are : (c : Context) (s : Sort) (t : TermTree) → IsReadable c s t → HasFewNames c t
    → IsNamed (term_syntax (names_of c) [] t)
names_are c s t h few =
    named c (names_of c) (own_actions c) (own_names_are c) (plain_names c h.plain) [] []
    (none_around (names_of c)) s t (omega arith) h.sorted h.words
    (writable (signature c) [] s t h.sorted h.finds_bind)

term_has : (c : Context) (s : Sort) (t : TermTree) → IsReadable c s t → HasFewNames c t
    → IsTerm c [] s (term_syntax (names_of c) [] t) t
term_has c s t h few =
    let plain = plain_names c h.plain in
    (term_is c (names_of c) (own_actions c) (own_names_are c) plain [] []
    (none_around (names_of c)) s (value s h.value) t (omega arith) h.sorted h.words
    (writable (signature c) [] s t h.sorted h.finds_bind)).0

pub read_back : (c : Context) (s : Sort) (t : TermTree) → IsReadable c s t → HasFewNames c t
    → IsReadBack c s (term_text (names_of c) [] t) t
read_back c s t h few = record {
  tree = term_syntax (names_of c) [] t;
  signs = spelled (term_syntax (names_of c) [] t);
  read = subst (λ x. IsRead x (spelled (term_syntax (names_of c) [] t))) (text_is (names_of c) [] t)
      (text_read (term_syntax (names_of c) [] t) (names_are c s t h few));
  formula = is_formula (names_of c) [] t (writable (signature c) [] s t h.sorted h.finds_bind);
  term = term_has c s t h few;
}

pub apart : (c : Context) (s : Sort) (t u : TermTree) → IsReadable c s t → HasFewNames c t
    → IsReadable c s u → HasFewNames c u
    → term_text (names_of c) [] t ≡ term_text (names_of c) [] u → t ≡ u
apart c s t u h few i few' same =
    let a = read_back c s t h few in
    let b = read_back c s u i few' in
    let first = a.read 0 in
    let second = b.read 0 in
    let texts : signs_read (lexemes 0 0 (term_text (names_of c) [] t))
    ≡ signs_read (lexemes 0 0 (term_text (names_of c) [] u)) =
    ap (λ x. signs_read (lexemes 0 0 x)) same in
    let signs : b.signs ≡ a.signs = cc in
    let tree : b.tree ≡ a.tree =
    one_tree Formula b.tree a.tree a.signs
    (subst (Is Formula b.tree) signs b.formula) a.formula in
    one_term c [] s a.tree t u a.term (subst (λ f. IsTerm c [] s f u) tree b.term)

fits : (n k : ℕ) → n ≤ most_formula_nodes → k ≤ most_formula_depth → within_limits n k ≡ true
fits n k a b =
    let first : nat_le n most_formula_nodes ≡ true = grind (arith, nat_tests) in
    let second : nat_le k most_formula_depth ≡ true = grind (arith, nat_tests) in
    ap (λ x. x && nat_le k most_formula_depth) first ∙ second

pub calls_give : (c : Context) (s : Sort) (t : TermTree) → IsReadable c s t → HasFewNames c t
    → IsWithinLimits c t → ComesBack c s (term_text (names_of c) [] t) t
calls_give c s t h few w =
    let tree = term_syntax (names_of c) [] t in
    let cut = text_sentence tree (names_are c s t h few) in
    let deep = term_low (names_of c) [] t in
    let height = w.depth in
    let room = fits (size t) (depth t) w.nodes (omega arith) in
    let term : term_of c [] s tree ≡ Ok t = typed_term c [] s tree t (term_has c s t h few) in
    record {
      sentence = cut.line;
      lexed = ap (λ x. sentences (x ++ codes ".")) (sym (text_is (names_of c) [] t)) ∙ cut.found_is;
      tree = tree;
      parsed = subst (λ x. IsOnlyFormula x tree) (sym cut.signs_are)
          (only_formula tree
          (built (names_of c) [] t (writable (signature c) [] s t h.sorted h.finds_bind)) w.depth);
      resolved = ap limited_term term ∙ ap (λ b. (if b then Ok t else Err TooLarge)) room;
    }

signs_same : (ts : List Token) → map sign_at (map lexeme_of ts) ≡ signs ts
signs_same [] = refl
signs_same (t ∷ ts) = ap (λ x. sign_of t ∷ x) (signs_same ts)

first_line : (found : List Sentence) (first : Sentence) (l : Line) → slice_get found 0 ≡ Some first
    → map line_of found ≡ l ∷ [] → line_of first ≡ l
first_line [] first l e h = cc
first_line (s ∷ ss) first l e h = let same : s ≡ first = cc in let line : line_of s ≡ l =
    cc in ap line_of (sym same) ∙ line

-- what the calls answer is the term
pub comes_back : (c : Context) (s : Sort) (t : TermTree) → IsReadable c s t → HasFewNames c t
    → IsWithinLimits c t → (found : List Sentence)
    → sentences (term_text (names_of c) [] t ++ codes ".") ≡ Ok (map line_of found)
    → (f : FormulaTree) → IsFormulaOf found f → (u : TermTree)
    → limited_term (term_of c [] s f) ≡ Ok u → u ≡ t
comes_back c s t h few w found lexed f of u resolved =
    let g = calls_give c s t h few w in
    let given = g.lexed in
    let lines : map line_of found ≡ g.sentence ∷ [] = cc in
    let line = first_line found of.first g.sentence of.there lines in
    let tokens : signs of.first.tokens ≡ map sign_at g.sentence.tokens =
    sym (signs_same of.first.tokens) ∙ ap (λ (l : Line). map sign_at l.tokens) line in
    let tree = (g.parsed.only f of.rest (subst (λ x. IsFormula x f of.rest) tokens of.formula)).0 in
    let same : limited_term (term_of c [] s f) ≡ Ok t =
    ap (λ x. limited_term (term_of c [] s x)) tree ∙ g.resolved in
    cc
