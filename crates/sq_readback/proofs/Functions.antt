-- The syntax tree of a built-in function's term has the term as its term.
use Rattle.std.proofs.Common.{◌≡◌, ◌≢◌, ℕ, suc, List, [], ◌∷◌, length, map, Some, slice_get}
use Rattle.std.proofs.Common.{refl, sym, ap, ◌∙◌, subst, arith}
use Rattle.std.proofs.lemmas.Option.{slice_get_within}
use Rattle.std.specs.Prelude.{⊤}
use Rattle.sq_base.specs.declared.sort.Sort.{Sort}
use Rattle.sq_base.specs.declared.sort.Sort.TheVariants.{Message, Boolean, Index, Timestamp}
use Rattle.sq_term.specs.declared.signature.FunDecl.{FunDecl}
use Rattle.sq_term.specs.declared.term.Idx.{Idx}
use Rattle.sq_term.specs.Measure.{count_terms}
use Rattle.sq_term.specs.Symbols as kind
use Rattle.sq_term.specs.Symbols.{Kind, declared, declared_number, function_number}
use Rattle.sq_term.specs.Syntax.{TermTree, fun, TermTrees, nil, cons}
use Rattle.sq_typing.specs.Functions.{plain_function, builtin_functions}
use Rattle.sq_typing.specs.Typing.{argument_sort}
use Rattle.sq_print.specs.declared.form.Form.TheVariants as form
use Rattle.sq_print.specs.Names.{Names, function_word}
use Rattle.sq_resolve.specs.Scopes.{Variable, Context}
use Rattle.sq_resolve.specs.Resolved.{own_sort}
use Rattle.sq_resolve.specs.Typed.{IsTerm, IsEquation}
use Rattle.sq_printed.specs.Trees.{in_place, term_syntax}
use Rattle.sq_readback.proofs.Terms.{placed_term, placed_sort}

-- ---- functions

-- each argument has its term, and no index or timestamp stands where a message or a Boolean is
-- wanted
abbrev pub IsValue : Sort → Type 0
IsValue Message = ⊤
IsValue Boolean = ⊤
IsValue Index = ⊥
IsValue Timestamp = ⊥

-- the tree of the term has the term, and is no index or timestamp
abbrev pub HasTerm : Context → Names → List Variable → Sort → TermTree → Type 0
HasTerm c ns bs s t =
    IsTerm c bs s (term_syntax ns (map (λ v. v.0) bs) t) t
    × IsValue (own_sort c bs (term_syntax ns (map (λ v. v.0) bs) t))

abbrev pub HaveTerms : Context → Names → List Variable → Kind → ℕ → TermTrees → Type 0
HaveTerms c ns bs f k nil = ⊤
HaveTerms c ns bs f k (cons t ts) =
    HasTerm c ns bs (argument_sort f k) t × HaveTerms c ns bs f (suc k) ts

-- what the sorts say of a function's parts
pub record AreParts (d : FunDecl) (s : Sort) (is : List Idx) (ts : TermTrees) : Type 0 where
  pub result : s ≡ d.result
  pub indices : length is ≡ d.idx
  pub arguments : count_terms ts ≡ d.args

pub on_none : (P : List Idx → TermTrees → Type 0) → P [] nil → (is : List Idx) (ts : TermTrees)
    → length is ≡ 0 → count_terms ts ≡ 0 → P is ts
on_none P h [] nil e d = h
on_none P h [] (cons t ts) e d = absurd (omega arith)
on_none P h (i ∷ is) ts e d = absurd (omega arith)

pub on_one : (P : List Idx → TermTrees → Type 0) → ((a : TermTree) → P [] (cons a nil))
    → (is : List Idx) (ts : TermTrees) → length is ≡ 0 → count_terms ts ≡ 1 → P is ts
on_one P h [] nil e d = absurd (omega arith)
on_one P h [] (cons a nil) e d = h a
on_one P h [] (cons a (cons b ts)) e d = absurd (omega arith)
on_one P h (i ∷ is) ts e d = absurd (omega arith)

pub on_two : (P : List Idx → TermTrees → Type 0) → ((a b : TermTree) → P [] (cons a (cons b nil)))
    → (is : List Idx) (ts : TermTrees) → length is ≡ 0 → count_terms ts ≡ 2 → P is ts
on_two P h [] nil e d = absurd (omega arith)
on_two P h [] (cons a nil) e d = absurd (omega arith)
on_two P h [] (cons a (cons b nil)) e d = h a b
on_two P h [] (cons a (cons b (cons g ts))) e d = absurd (omega arith)
on_two P h (i ∷ is) ts e d = absurd (omega arith)

pub on_three : (P : List Idx → TermTrees → Type 0)
    → ((a b g : TermTree) → P [] (cons a (cons b (cons g nil)))) → (is : List Idx) (ts : TermTrees)
    → length is ≡ 0 → count_terms ts ≡ 3 → P is ts
on_three P h [] nil e d = absurd (omega arith)
on_three P h [] (cons a nil) e d = absurd (omega arith)
on_three P h [] (cons a (cons b nil)) e d = absurd (omega arith)
on_three P h [] (cons a (cons b (cons g nil))) e d = h a b g
on_three P h [] (cons a (cons b (cons g (cons x ts)))) e d = absurd (omega arith)
on_three P h (i ∷ is) ts e d = absurd (omega arith)

-- the tree of a function has its term, if its arguments have theirs
abbrev FunctionIs : Context → Names → List Variable → Kind → Sort → List Idx → TermTrees → Type 0
FunctionIs c ns bs f s is ts = HaveTerms c ns bs f 0 ts → HasTerm c ns bs s (fun f is ts)

equation_of : (s : Sort) (a b d : Type 0) → IsValue s → d → IsEquation s a b d
equation_of Message a b d v h = h
equation_of Boolean a b d v h = h
equation_of Index a b d v h = absurd v
equation_of Timestamp a b d v h = absurd v

-- no built-in function has the number of a declared one
pub none_behind : (k : ℕ) {d : FunDecl} → slice_get builtin_functions (declared_number k) ≢ Some d
none_behind k e =
    let within = slice_get_within builtin_functions (declared_number k) _ e in
    let count : length builtin_functions ≡ 14 = refl in
    omega arith

pub builtin_is : (c : Context) (ns : Names) (bs : List Variable) (f : Kind) (d : FunDecl) (s : Sort)
    (is : List Idx) (ts : TermTrees) → slice_get builtin_functions (function_number f) ≡ Some d
    → f ≢ kind.attacker → AreParts d s is ts → FunctionIs c ns bs f s is ts
unfolding function_word
builtin_is c ns bs kind.empty d s is ts e clear p =
    let decl : plain_function 0 Message ≡ d = cc in
    on_none (FunctionIs c ns bs kind.empty s)
    (λ h. ((p.result ∙ ap (λ (x : FunDecl). x.result) (sym decl), refl), tt)) is ts
    (p.indices ∙ ap (λ (x : FunDecl). x.idx) (sym decl))
    (p.arguments ∙ ap (λ (x : FunDecl). x.args) (sym decl))
builtin_is c ns bs kind.truth d s is ts e clear p =
    let decl : plain_function 0 Boolean ≡ d = cc in
    on_none (FunctionIs c ns bs kind.truth s)
    (λ h. ((p.result ∙ ap (λ (x : FunDecl). x.result) (sym decl), refl), tt)) is ts
    (p.indices ∙ ap (λ (x : FunDecl). x.idx) (sym decl))
    (p.arguments ∙ ap (λ (x : FunDecl). x.args) (sym decl))
builtin_is c ns bs kind.falsity d s is ts e clear p =
    let decl : plain_function 0 Boolean ≡ d = cc in
    on_none (FunctionIs c ns bs kind.falsity s)
    (λ h. ((p.result ∙ ap (λ (x : FunDecl). x.result) (sym decl), refl), tt)) is ts
    (p.indices ∙ ap (λ (x : FunDecl). x.idx) (sym decl))
    (p.arguments ∙ ap (λ (x : FunDecl). x.args) (sym decl))
builtin_is c ns bs kind.negation d s is ts e clear p =
    let decl : plain_function 1 Boolean ≡ d = cc in
    on_one (FunctionIs c ns bs kind.negation s)
    (λ a h. ((p.result ∙ ap (λ (x : FunDecl). x.result) (sym decl), (a, (h.0.0, refl))), tt)) is
    ts (p.indices ∙ ap (λ (x : FunDecl). x.idx) (sym decl))
    (p.arguments ∙ ap (λ (x : FunDecl). x.args) (sym decl))
builtin_is c ns bs kind.conjunction d s is ts e clear p =
    let decl : plain_function 2 Boolean ≡ d = cc in
    on_two (FunctionIs c ns bs kind.conjunction s)
    (λ a b h. (
      (
        p.result
            ∙ ap (λ (x : FunDecl). x.result) (sym decl),
        (
          a,
          (
            b,
            (
              placed_term c bs Boolean form.Atom
                  (term_syntax ns (map (λ v. v.0) bs) a) a h.0.0,
              placed_term c bs Boolean form.Conjunction
                  (term_syntax ns (map (λ v. v.0) bs) b) b h.1.0.0,
              refl,
            ),
          ),
        ),
      ),
      tt,
    )) is ts
    (p.indices ∙ ap (λ (x : FunDecl). x.idx) (sym decl))
    (p.arguments ∙ ap (λ (x : FunDecl). x.args) (sym decl))
builtin_is c ns bs kind.disjunction d s is ts e clear p =
    let decl : plain_function 2 Boolean ≡ d = cc in
    on_two (FunctionIs c ns bs kind.disjunction s)
    (λ a b h. (
      (
        p.result
            ∙ ap (λ (x : FunDecl). x.result) (sym decl),
        (
          a,
          (
            b,
            (
              placed_term c bs Boolean form.Conjunction
                  (term_syntax ns (map (λ v. v.0) bs) a) a h.0.0,
              placed_term c bs Boolean form.Disjunction
                  (term_syntax ns (map (λ v. v.0) bs) b) b h.1.0.0,
              refl,
            ),
          ),
        ),
      ),
      tt,
    )) is ts
    (p.indices ∙ ap (λ (x : FunDecl). x.idx) (sym decl))
    (p.arguments ∙ ap (λ (x : FunDecl). x.args) (sym decl))
builtin_is c ns bs kind.implication d s is ts e clear p =
    let decl : plain_function 2 Boolean ≡ d = cc in
    on_two (FunctionIs c ns bs kind.implication s)
    (λ a b h. (
      (
        p.result
            ∙ ap (λ (x : FunDecl). x.result) (sym decl),
        (
          a,
          (
            b,
            (
              placed_term c bs Boolean form.Disjunction
                  (term_syntax ns (map (λ v. v.0) bs) a) a h.0.0,
              placed_term c bs Boolean form.Formula
                  (term_syntax ns (map (λ v. v.0) bs) b) b h.1.0.0,
              refl,
            ),
          ),
        ),
      ),
      tt,
    )) is ts
    (p.indices ∙ ap (λ (x : FunDecl). x.idx) (sym decl))
    (p.arguments ∙ ap (λ (x : FunDecl). x.args) (sym decl))
builtin_is c ns bs kind.equality d s is ts e clear p =
    let decl : plain_function 2 Boolean ≡ d = cc in
    on_two (FunctionIs c ns bs kind.equality s) (λ a b h. (
      (
        p.result ∙ ap (λ (x : FunDecl). x.result) (sym decl),
        equation_of
            (own_sort c bs (in_place form.Term (term_syntax ns (map (λ v. v.0) bs) a))) _ _ _
            (subst IsValue
            (sym (placed_sort c bs form.Term (term_syntax ns (map (λ v. v.0) bs) a))) h.0.1) (
              a,
              (
                b,
                (
                  placed_term c bs Message form.Term
                      (term_syntax ns (map (λ v. v.0) bs) a) a h.0.0,
                  placed_term c bs Message form.Term
                      (term_syntax ns (map (λ v. v.0) bs) b) b h.1.0.0,
                  refl,
                ),
              ),
            ),
      ),
      tt,
    )) is ts (p.indices ∙ ap (λ (x : FunDecl). x.idx) (sym decl))
    (p.arguments ∙ ap (λ (x : FunDecl). x.args) (sym decl))
builtin_is c ns bs kind.conditional d s is ts e clear p =
    let decl : plain_function 3 Message ≡ d = cc in
    on_three (FunctionIs c ns bs kind.conditional s)
    (λ a b g h. (
      (
        p.result
            ∙ ap (λ (x : FunDecl). x.result) (sym decl),
        (
          a,
          (
            b,
            (
              g,
              (
                placed_term c bs Boolean form.Formula
                    (term_syntax ns (map (λ v. v.0) bs) a) a h.0.0,
                placed_term c bs Message form.Term
                    (term_syntax ns (map (λ v. v.0) bs) b) b h.1.0.0,
                placed_term c bs Message form.Term
                    (term_syntax ns (map (λ v. v.0) bs) g) g h.1.1.0.0,
                refl,
              ),
            ),
          ),
        ),
      ),
      tt,
    )) is ts
    (p.indices ∙ ap (λ (x : FunDecl). x.idx) (sym decl))
    (p.arguments ∙ ap (λ (x : FunDecl). x.args) (sym decl))
builtin_is c ns bs kind.pairing d s is ts e clear p =
    let decl : plain_function 2 Message ≡ d = cc in
    on_two (FunctionIs c ns bs kind.pairing s)
    (λ a b h. (
      (
        p.result
            ∙ ap (λ (x : FunDecl). x.result) (sym decl),
        (
          a,
          (
            b,
            (
              placed_term c bs Message form.Term
                  (term_syntax ns (map (λ v. v.0) bs) a) a h.0.0,
              placed_term c bs Message form.Term
                  (term_syntax ns (map (λ v. v.0) bs) b) b h.1.0.0,
              refl,
            ),
          ),
        ),
      ),
      tt,
    )) is ts
    (p.indices ∙ ap (λ (x : FunDecl). x.idx) (sym decl))
    (p.arguments ∙ ap (λ (x : FunDecl). x.args) (sym decl))
builtin_is c ns bs kind.first d s is ts e clear p =
    let decl : plain_function 1 Message ≡ d = cc in
    on_one (FunctionIs c ns bs kind.first s)
    (λ a h. ((p.result ∙ ap (λ (x : FunDecl). x.result) (sym decl), (a, (h.0.0, refl))), tt)) is
    ts (p.indices ∙ ap (λ (x : FunDecl). x.idx) (sym decl))
    (p.arguments ∙ ap (λ (x : FunDecl). x.args) (sym decl))
builtin_is c ns bs kind.second d s is ts e clear p =
    let decl : plain_function 1 Message ≡ d = cc in
    on_one (FunctionIs c ns bs kind.second s)
    (λ a h. ((p.result ∙ ap (λ (x : FunDecl). x.result) (sym decl), (a, (h.0.0, refl))), tt)) is
    ts (p.indices ∙ ap (λ (x : FunDecl). x.idx) (sym decl))
    (p.arguments ∙ ap (λ (x : FunDecl). x.args) (sym decl))
builtin_is c ns bs kind.of_bool d s is ts e clear p =
    let decl : plain_function 1 Message ≡ d = cc in
    on_one (FunctionIs c ns bs kind.of_bool s)
    (λ a h. ((p.result ∙ ap (λ (x : FunDecl). x.result) (sym decl), (a, (h.0.0, refl))), tt)) is
    ts (p.indices ∙ ap (λ (x : FunDecl). x.idx) (sym decl))
    (p.arguments ∙ ap (λ (x : FunDecl). x.args) (sym decl))
builtin_is c ns bs kind.attacker d s is ts e clear p = absurd (clear refl)
builtin_is c ns bs (declared k) d s is ts e clear p = absurd (none_behind k e)
