-- From what the parts of a tree build to what the tree builds.
use Rattle.std.proofs.Common.{◌≡◌, ◌≢◌, ℕ, List, [], ◌∷◌, ◌++◌, true, false, zero, suc, length}
use Rattle.std.proofs.Common.{take, refl, ap, sym, ◌∙◌, subst}
use Rattle.std.proofs.Math.Seq.{take-append_seam}
use Rattle.std.specs.Prelude.{Result, Ok, Err}
use Rattle.sq_base.specs.declared.sort.Sort.{Sort}
use Rattle.sq_ast.specs.Tree.{Group, FormulaTree, name, apply, none}
use Rattle.sq_ast.specs.declared.formula.Formula.{Formula}
use Rattle.sq_ast.specs.View.{formula_trees}
use Rattle.sq_term.specs.Syntax.{TermTree, TermTrees, nil, cons}
use Rattle.sq_term.specs.TreeEquality.{is_same_sort}
use Rattle.sq_resolve.specs.declared.sized.Built.{Built}
use Rattle.sq_resolve.specs.declared.sized.Row.{Row}
use Rattle.sq_resolve.specs.declared.fault.ResolveFault.{ResolveFault}
use Rattle.sq_resolve.specs.declared.fault.ResolveFault.TheVariants.{SortClash, MessageQuantifier}
use Rattle.sq_resolve.specs.declared.fault.ResolveFault.TheVariants.{NoMemory}
use Rattle.sq_resolve.specs.Built.{IsBuilt, Builds, IsRow, BuildsRow}
use Rattle.sq_resolve.specs.declared.shape.Shape.{Shape}
use Rattle.sq_resolve.specs.Shapes.{shape_tree}
use Rattle.sq_resolve.specs.Scopes.{Context, Variable, meaning}
use Rattle.sq_resolve.specs.Resolved.{Found, mapped, both, three, expect, with_binders}
use Rattle.sq_resolve.specs.Resolved.{bind_no_message, Value, schema_variable, name_symbol}
use Rattle.sq_resolve.specs.Resolved.{function, as_value, function_term, judged, with_arguments}
use Rattle.sq_resolve.specs.Resolved.{arguments_of, term_of, application}
use Rattle.sq_resolve.proofs.Rows.{prepend, prepend-push, prepend-nil, count_formula_trees}

-- a fault stands for what was found, unless memory ran out
abbrev pub Faults : {A : Type 0} → ResolveFault → Found A → Type 0
Faults e m = e ≢ NoMemory → m ≡ Err e

pub no_memory : {A : Type 0} (e : ResolveFault) (m : Found A) → e ≡ NoMemory → Faults e m
no_memory e m is = λ n. absurd (n is)

module _ (w o : Sort) where
  pub expected : {A : Type 0} (m : Found A) → is_same_sort w o ≡ true → expect w o m ≡ m
  expected m e = rw e refl

  pub builds_expected : (r : Result Built ResolveFault) (m : Found TermTree)
      → is_same_sort w o ≡ true → Builds r m → Builds r (expect w o m)
  builds_expected r m e h = subst (Builds r) (sym (expected m e)) h

  pub fault_expected : {A : Type 0} (e : ResolveFault) (m : Found A) → is_same_sort w o ≡ true
      → Faults e m → Faults e (expect w o m)
  fault_expected e m s h = λ n. expected m s ∙ h n

  pub unexpected : {A : Type 0} (e : ResolveFault) (m : Found A)
      → (is_same_sort w o ≡ false) × (e ≡ SortClash w o) → Faults e (expect w o m)
  unexpected e m h = λ n. rw h.0 (ap Err (sym h.1))

pub fault_mapped : {A B : Type 0} (f : A → B) (e : ResolveFault) (m : Found A) → Faults e m
    → Faults e (mapped f m)
fault_mapped f e m h = λ n. ap (mapped f) (h n)

pub fault_first : {A B C : Type 0} (f : A → B → C) (e : ResolveFault) (m : Found A) (n : Found B)
    → Faults e m → Faults e (both f m n)
fault_first f e m n h = λ k. ap (λ x. both f x n) (h k)

pub fault_second : {A B C : Type 0} (f : A → B → C) (e : ResolveFault) (a : A) (m : Found A)
    (n : Found B) → m ≡ Ok a → Faults e n → Faults e (both f m n)
fault_second f e a m n is h = λ k. rw is (ap (mapped (f a)) (h k))

-- what a built part is
pub term_built : (b : Built) (m : Found TermTree) → Builds (Ok b) m
    → (t : TermTree) × ((m ≡ Ok t) × IsBuilt b t)
term_built b (Ok t) h = (t, (refl, h))
term_built b (Err e) h = absurd h

pub fault_after : (f : TermTree → TermTree → TermTree) (e : ResolveFault) (b : Built)
    (m n : Found TermTree) → Builds (Ok b) m → Faults e n → Faults e (both f m n)
fault_after f e b m n h g = let x = term_built b m h in fault_second f e x.0 m n x.1.0 g

pub built_one : (f : TermTree → TermTree) (b r : Built) (m : Found TermTree) → Builds (Ok b) m
    → ((x : TermTree) → IsBuilt b x → IsBuilt r (f x)) → Builds (Ok r) (mapped f m)
built_one f b r (Ok x) h g = g x h
built_one f b r (Err e) h g = absurd h

pub built_two : (f : TermTree → TermTree → TermTree) (a b r : Built) (m n : Found TermTree)
    → Builds (Ok a) m → Builds (Ok b) n
    → ((x y : TermTree) → IsBuilt a x → IsBuilt b y → IsBuilt r (f x y))
    → Builds (Ok r) (both f m n)
built_two f a b r (Ok x) (Ok y) h k g = g x y h k
built_two f a b r (Ok x) (Err e) h k g = absurd k
built_two f a b r (Err e) n h k g = absurd h

pub built_three : (f : TermTree → TermTree → TermTree → TermTree) (a b d r : Built)
    (m n o : Found TermTree) → Builds (Ok a) m → Builds (Ok b) n → Builds (Ok d) o
    → ((x y z : TermTree) → IsBuilt a x → IsBuilt b y → IsBuilt d z → IsBuilt r (f x y z))
    → Builds (Ok r) (three f m n o)
built_three f a b d r (Ok x) n o h k l g = built_two (f x) b d r n o k l (λ y z. g x y z h)
built_three f a b d r (Err e) n o h k l g = absurd h

pub fault_three_first : (f : TermTree → TermTree → TermTree → TermTree) (e : ResolveFault)
    (m n o : Found TermTree) → Faults e m → Faults e (three f m n o)
fault_three_first f e m n o h = λ k. ap (λ x. three f x n o) (h k)

pub fault_three_second : (f : TermTree → TermTree → TermTree → TermTree) (e : ResolveFault)
    (a : Built) (m n o : Found TermTree) → Builds (Ok a) m → Faults e n → Faults e (three f m n o)
fault_three_second f e a (Ok x) n o h g = fault_first (f x) e n o g
fault_three_second f e a (Err y) n o h g = absurd h

pub fault_three_third : (f : TermTree → TermTree → TermTree → TermTree) (e : ResolveFault)
    (a b : Built) (m n o : Found TermTree) → Builds (Ok a) m → Builds (Ok b) n → Faults e o
    → Faults e (three f m n o)
fault_three_third f e a b (Ok x) n o h k g = fault_after (f x) e b n o k g
fault_three_third f e a b (Err y) n o h k g = absurd h

-- binders that bind no message
pub builds_bound : (gs : List Group) (r : Result Built ResolveFault) (m : Found TermTree)
    → bind_no_message gs ≡ true → Builds r m → Builds r (with_binders gs m)
builds_bound gs r m e h = let is : with_binders gs m ≡ m = rw e refl in subst (Builds r) (sym is) h

pub fault_bound : (gs : List Group) (e : ResolveFault) (m : Found TermTree)
    → bind_no_message gs ≡ true → Faults e m → Faults e (with_binders gs m)
fault_bound gs e m s h = λ n. rw s (h n)

pub message_bound : (gs : List Group) (m : Found TermTree) → bind_no_message gs ≡ false
    → Faults MessageQuantifier (with_binders gs m)
message_bound gs m s = λ n. rw s refl

-- rows
pub row_more : (xs : List TermTree) (b : Built) (m : Found TermTree) (n all : Found TermTrees)
    → all ≡ mapped (prepend xs) (both cons m n) → Builds (Ok b) m
    → (x : TermTree) × (IsBuilt b x × (all ≡ mapped (prepend (xs ++ x ∷ [])) n))
row_more xs b (Ok x) (Ok ts) all is h = (x, (h, is ∙ ap Ok (sym (prepend-push xs x ts))))
row_more xs b (Ok x) (Err e) all is h = (x, (h, is))
row_more xs b (Err e) n all is h = absurd h

pub row_fault : (xs : List TermTree) (e : ResolveFault) (m : Found TermTree)
    (n all : Found TermTrees) → all ≡ mapped (prepend xs) (both cons m n) → Faults e m
    → Faults e all
row_fault xs e m n all is h = λ k. is ∙ ap (λ x. mapped (prepend xs) (both cons x n)) (h k)

pub row_end : (xs : List TermTree) (r : Row) (all : Found TermTrees)
    → all ≡ mapped (prepend xs) (Ok nil) → IsRow r xs → BuildsRow (Ok r) all
row_end xs r all is h =
    subst (BuildsRow (Ok r)) (sym is)
    (record { terms = xs; row_is = h; terms_are = sym (prepend-nil xs) })

-- scopes that are one
pub at_scope : (c : Context) (s : Sort) (f : FormulaTree) (r : Result Built ResolveFault)
    (bs vs : List Variable) → vs ≡ bs → Builds r (term_of c vs s f) → Builds r (term_of c bs s f)
at_scope c s f r bs vs e h = subst (λ (ws : List Variable). Builds r (term_of c ws s f)) e h

-- the variables that were added are gone again
pub restored : (bs vs us ws : List Variable) (n : ℕ) → n ≡ length bs → us ≡ bs ++ vs
    → ws ≡ take n us → ws ≡ bs
restored bs vs us ws n e f h = h ∙ ap (λ (l : List Variable). take n l) f
    ∙ ap (λ (k : ℕ). take k (bs ++ vs)) e ∙ take-append_seam bs vs

-- identifiers
no_arguments : (c : Context) (bs : List Variable) (i : ℕ) → arguments_of c bs i none ≡ Ok ([], nil)
no_arguments c bs zero = refl
no_arguments c bs (suc i) = refl

with_none : (c : Context) (bs : List Variable) (v : Found Value)
    → with_arguments v (Ok []) (λ i. arguments_of c bs i none)
    ≡ with_arguments v (Ok []) (λ i. Ok ([], nil))
with_none c bs (Ok (schema_variable k)) = refl
with_none c bs (Ok (name_symbol n)) = refl
with_none c bs (Ok (function f i)) = ap (mapped (function_term f)) (no_arguments c bs i)
with_none c bs (Err e) = refl

pub name_applied : (c : Context) (bs : List Variable) (s : Sort) (x : List ℕ)
    → application c bs s x 0 none ≡ term_of c bs s (name x)
name_applied c bs s x = with_none c bs (judged (as_value s) s x 0 (meaning c bs x))

pub apply_applied : (c : Context) (bs : List Variable) (s : Sort) (x : List ℕ) (xs : List Formula)
    → application c bs s x (length xs) (formula_trees xs)
    ≡ term_of c bs s (apply x (formula_trees xs))
apply_applied c bs s x xs =
    ap (λ (n : ℕ). application c bs s x n (formula_trees xs)) (sym (count_formula_trees xs))

-- a tree by its outermost form
pub at_shape : (c : Context) (bs : List Variable) (s : Sort) (r : Result Built ResolveFault)
    (x y : Shape) → x ≡ y → Builds r (term_of c bs s (shape_tree y))
    → Builds r (term_of c bs s (shape_tree x))
at_shape c bs s r x y e h =
    subst (λ (z : Shape). Builds r (term_of c bs s (shape_tree z))) (sym e) h
