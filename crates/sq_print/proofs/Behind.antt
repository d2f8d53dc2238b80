-- What is written behind a text is the printed form.
use Rattle.std.proofs.Common.{◌≡◌, ◌+◌, ℕ, Bool, true, false, if◌then◌else◌, ◌&&◌, nat_eq, List, []}
use Rattle.std.proofs.Common.{◌∷◌, ◌++◌, length, map, codes, append_assoc, append-nil, refl, sym}
use Rattle.std.proofs.Common.{ap, subst, ◌∙◌, arith}
use Rattle.std.proofs.lemmas.Bool.Decides.{nat_tests}
use Rattle.sq_term.specs.declared.term.Idx.{Idx}
use Rattle.sq_term.specs.Syntax.{TsTree, free, bound, init, pred, action, TermTree, name, fun}
use Rattle.sq_term.specs.Syntax.{macro, schema, diff, le, ts_eq, idx_eq, happens, all, some, find}
use Rattle.sq_term.specs.Syntax.{TermTrees, nil, cons}
use Rattle.sq_print.specs.declared.form.Form.{Form}
use Rattle.sq_print.specs.declared.form.Form.TheVariants as form
use Rattle.sq_term.specs.declared.layout.Layout.{Layout}
use Rattle.sq_term.specs.declared.layout.Layout.TheVariants.{Word, Infix, Pair, Conditional}
use Rattle.sq_term.specs.declared.layout.Level.{Level}
use Rattle.sq_term.specs.Builtins.{layout, arguments, sign}
use Rattle.sq_term.specs.Measure.{count_terms}
use Rattle.sq_term.specs.Symbols.{Kind, declared}
use Rattle.sq_term.specs.Symbols as kind
use Rattle.sq_print.specs.Forms.{fits, layout_of, form_of}
use Rattle.sq_print.specs.Names.{Names, name_word, action_word, function_word, binder_name}
use Rattle.sq_print.specs.Names.{bound_names}
use Rattle.sq_print.specs.Printed.{macro_text, joined, call, placed, laid, by_layout, idx_text}
use Rattle.sq_print.specs.Printed.{idx_texts, ts_text, term_text, part_texts}
use Rattle.sq_print.specs.Written as w
use Rattle.sq_print.specs.Written.{opened, closed, ended, is_none, are_none, place, end}
use Rattle.sq_print.specs.Written.{wrote_names, wrote_indices, wrote_call, wrote_ts, wrote_binder}
use Rattle.sq_print.specs.Written.{first_before, wrote_before, wrote, wrote_parts, wrote_arguments}
use Rattle.sq_print.specs.Written.{wrote_branch}

-- texts with something before the first and between the others
abbrev pub spaced : List ℕ → List ℕ → List (List ℕ) → List ℕ
spaced first between [] = []
spaced first between (x ∷ xs) = first ++ (x ++ spaced between between xs)

spaced-joined : (first between x : List ℕ) (xs : List (List ℕ))
    → spaced first between (x ∷ xs) ≡ first ++ joined between (x ∷ xs)
spaced-joined first between x [] = ap (λ r. first ++ r) (append-nil x)
spaced-joined first between x (y ∷ ys) =
    ap (λ r. first ++ (x ++ r)) (spaced-joined between between y ys)

pub joined_is : (between : List ℕ) (xs : List (List ℕ)) → spaced [] between xs ≡ joined between xs
joined_is between [] = refl
joined_is between (x ∷ xs) = spaced-joined [] between x xs

pub one_more : (out a x r : List ℕ) → ((out ++ a) ++ x) ++ r ≡ out ++ (a ++ (x ++ r))
one_more out a x r = simp append_assoc

names_behind : (first out : List ℕ) (xs : List (List ℕ))
    → wrote_names first out xs ≡ out ++ spaced first (codes ", ") xs
names_behind first out [] = sym (append-nil out)
names_behind first out (x ∷ xs) = names_behind (codes ", ") ((out ++ first) ++ x) xs
    ∙ one_more out first x (spaced (codes ", ") (codes ", ") xs)

indices_behind : (ns : Names) (around : List (List ℕ)) (first out : List ℕ) (is : List Idx)
    → wrote_indices ns around first out is
    ≡ out ++ spaced first (codes ",") (idx_texts ns around is)
indices_behind ns around first out [] = sym (append-nil out)
indices_behind ns around first out (i ∷ is) =
    indices_behind ns around (codes ",") ((out ++ first) ++ idx_text ns around i) is
    ∙ one_more out first (idx_text ns around i)
    (spaced (codes ",") (codes ",") (idx_texts ns around is))

-- a word, its arguments in parentheses, and nothing where there are none
called : (out word a : List ℕ) (as_ : List (List ℕ))
    → ((out ++ word) ++ spaced (codes "(") (codes ",") (a ∷ as_)) ++ codes ")"
    ≡ out ++ call word (a ∷ as_)
called out word a as_ =
    ap (λ r. ((out ++ word) ++ r) ++ codes ")") (spaced-joined (codes "(") (codes ",") a as_)
    ∙ simp append_assoc

call_behind : (ns : Names) (around : List (List ℕ)) (out word : List ℕ) (is : List Idx)
    → wrote_call ns around (out ++ word) is ≡ out ++ call word (idx_texts ns around is)
call_behind ns around out word [] = refl
call_behind ns around out word (i ∷ is) =
    ap (λ r. r ++ codes ")") (indices_behind ns around (codes "(") (out ++ word) (i ∷ is))
    ∙ called out word (idx_text ns around i) (idx_texts ns around is)

ts_behind : (ns : Names) (around : List (List ℕ)) (out : List ℕ) (t : TsTree)
    → wrote_ts ns around out t ≡ out ++ ts_text ns around t
ts_behind ns around out (free k) = refl
ts_behind ns around out (bound k) = refl
ts_behind ns around out init = refl
ts_behind ns around out (pred t) =
    ap (λ r. r ++ codes ")") (ts_behind ns around (out ++ codes "pred(") t) ∙ simp append_assoc
ts_behind ns around out (action a is) = call_behind ns around out (action_word ns a) is

two_behind : (ns : Names) (around : List (List ℕ)) (out between : List ℕ) (a b : TsTree)
    → wrote_ts ns around (wrote_ts ns around out a ++ between) b
    ≡ out ++ (ts_text ns around a ++ (between ++ ts_text ns around b))
two_behind ns around out between a b =
    ts_behind ns around (wrote_ts ns around out a ++ between) b
    ∙ (ap (λ r. (r ++ between) ++ ts_text ns around b) (ts_behind ns around out a)
    ∙ simp append_assoc)

-- a part between its parentheses
placed_behind : (p own : Form) (out x y : List ℕ) → y ≡ opened p own out ++ x
    → closed p own y ≡ out ++ placed p (own, x)
placed_behind p own out x y e = ap (closed p own) e ∙ by (fits own p)
  where
    by : (b : Bool)
        → (if b then (if b then out
        else (out ++ codes "(")) ++ x
        else (((if b then out else (out ++ codes "(")) ++ x) ++ codes ")"))
        ≡ out ++ (if b then x else (codes "(" ++ (x ++ codes ")")))
    by true = refl
    by false = simp append_assoc

-- what a layout has before its k-th argument
abbrev before : Layout → ℕ → List ℕ
before Word k = []
before (Infix l) k = (if nat_eq k 0 then [] else (codes " " ++ (sign l ++ codes " ")))
before Pair k = (if nat_eq k 0 then codes "<" else codes ",")
before Conditional k =
    (if nat_eq k 0 then codes "if " else if nat_eq k 1 then codes " then " else codes " else ")

before_behind : (l : Layout) (k : ℕ) (out : List ℕ) → wrote_before l k out ≡ out ++ before l k
before_behind Word k out = sym (append-nil out)
before_behind (Infix l) k out = by (nat_eq k 0)
  where
    by : (b : Bool) → (if b then out else (((out ++ codes " ") ++ sign l) ++ codes " "))
        ≡ out ++ (if b then [] else (codes " " ++ (sign l ++ codes " ")))
    by true = sym (append-nil out)
    by false = simp append_assoc
before_behind Pair k out = by (nat_eq k 0)
  where
    by : (b : Bool) → (if b then out ++ codes "<" else (out ++ codes ","))
        ≡ out ++ (if b then codes "<" else codes ",")
    by true = refl
    by false = refl
before_behind Conditional k out = by (nat_eq k 0) (nat_eq k 1)
  where
    by : (b c : Bool)
        → (if b then out ++ codes "if "
        else (if c then out ++ codes " then " else (out ++ codes " else ")))
        ≡ out ++ (if b then codes "if " else if c then codes " then " else codes " else ")
    by true c = refl
    by false true = refl
    by false false = refl

-- the parts of a layout, from the k-th on
abbrev parts_text : Layout → ℕ → List (Form × List ℕ) → List ℕ
parts_text l k [] = []
parts_text l k (p ∷ ps) = before l k ++ (placed (place l k) p ++ parts_text l (k + 1) ps)

two_laid : (l : Level) (ps : List (Form × List ℕ)) → length ps ≡ 2
    → parts_text (Infix l) 0 ps ++ end (Infix l) ≡ laid (Infix l) ps
two_laid l (a ∷ b ∷ []) h = simp (append_assoc, append-nil)
two_laid l [] h = absurd (omega arith)
two_laid l (a ∷ []) h = absurd (omega arith)
two_laid l (a ∷ b ∷ c ∷ ps) h = absurd (omega arith)

pair_laid : (ps : List (Form × List ℕ)) → length ps ≡ 2
    → parts_text Pair 0 ps ++ end Pair ≡ laid Pair ps
pair_laid (a ∷ b ∷ []) h = simp (append_assoc, append-nil)
pair_laid [] h = absurd (omega arith)
pair_laid (a ∷ []) h = absurd (omega arith)
pair_laid (a ∷ b ∷ c ∷ ps) h = absurd (omega arith)

three_laid : (ps : List (Form × List ℕ)) → length ps ≡ 3
    → parts_text Conditional 0 ps ++ end Conditional ≡ laid Conditional ps
three_laid (a ∷ b ∷ c ∷ []) h = simp (append_assoc, append-nil)
three_laid [] h = absurd (omega arith)
three_laid (a ∷ []) h = absurd (omega arith)
three_laid (a ∷ b ∷ []) h = absurd (omega arith)
three_laid (a ∷ b ∷ c ∷ d ∷ ps) h = absurd (omega arith)

-- what holds of a word, and of each other layout with its counts of indices and arguments, holds of
-- the layout of an application
pub by_counts : (P : Layout → Type 0) (f : Kind) (n m : ℕ) → P Word
    → ((l : Level) → n ≡ 0 → m ≡ 2 → P (Infix l)) → (n ≡ 0 → m ≡ 2 → P Pair)
    → (n ≡ 0 → m ≡ 3 → P Conditional) → P (layout_of f n m)
by_counts P f n m word on_infix pair conditional =
    by (nat_eq n 0) refl (nat_eq m (arguments f)) refl
  where
    laid_out : (f : Kind) → n ≡ 0 → m ≡ arguments f → P (layout f)
    laid_out kind.conjunction e d = on_infix _ e d
    laid_out kind.disjunction e d = on_infix _ e d
    laid_out kind.implication e d = on_infix _ e d
    laid_out kind.equality e d = on_infix _ e d
    laid_out kind.pairing e d = pair e d
    laid_out kind.conditional e d = conditional e d
    laid_out kind.empty e d = word
    laid_out kind.truth e d = word
    laid_out kind.falsity e d = word
    laid_out kind.negation e d = word
    laid_out kind.first e d = word
    laid_out kind.second e d = word
    laid_out kind.of_bool e d = word
    laid_out kind.attacker e d = word
    laid_out (declared k) e d = word

    by : (a : Bool) → nat_eq n 0 ≡ a → (b : Bool) → nat_eq m (arguments f) ≡ b
        → P (if a && b then layout f else Word)
    by true e true d =
        let none : n ≡ 0 = grind (arith, nat_tests) in
        let all : m ≡ arguments f = grind (arith, nat_tests) in
        laid_out f none all
    by true e false d = word
    by false e b d = word

pub count_parts : (ns : Names) (around : List (List ℕ)) (ts : TermTrees)
    → length (part_texts ns around ts) ≡ count_terms ts
count_parts ns around nil = refl
count_parts ns around (cons t ts) = let rest = count_parts ns around ts in omega arith

-- arguments behind indices
spaced_both : (xs ys : List (List ℕ)) → spaced (codes "(") (codes ",") (xs ++ ys)
    ≡ spaced (codes "(") (codes ",") xs ++ spaced (if is_none xs then codes "(" else codes ",")
    (codes ",") ys
spaced_both [] ys = refl
spaced_both (x ∷ xs) ys = ap (λ r. codes "(" ++ (x ++ r)) (rest xs) ∙ simp append_assoc
  where
    rest : (xs : List (List ℕ)) → spaced (codes ",") (codes ",") (xs ++ ys)
        ≡ spaced (codes ",") (codes ",") xs ++ spaced (codes ",") (codes ",") ys
    rest [] = refl
    rest (z ∷ zs) = ap (λ r. codes "," ++ (z ++ r)) (rest zs) ∙ simp append_assoc

called_behind : (ns : Names) (around : List (List ℕ)) (out word : List ℕ) (is : List Idx)
    (ts : TermTrees)
    → ended (is_none is && are_none ts)
    ((out ++ word) ++ spaced (codes "(") (codes ",")
    (idx_texts ns around is ++ map (λ p. p.1) (part_texts ns around ts)))
    ≡ out ++ call word (idx_texts ns around is ++ map (λ p. p.1) (part_texts ns around ts))
called_behind ns around out word [] nil = append-nil (out ++ word)
called_behind ns around out word [] (cons t ts) =
    called out word (term_text ns around t) (map (λ p. p.1) (part_texts ns around ts))
called_behind ns around out word (i ∷ is) ts =
    called out word (idx_text ns around i)
    (idx_texts ns around is ++ map (λ p. p.1) (part_texts ns around ts))

first_is : (ns : Names) (around : List (List ℕ)) (is : List Idx)
    → first_before is ≡ (if is_none (idx_texts ns around is) then codes "(" else codes ",")
first_is ns around [] = refl
first_is ns around (i ∷ is) = refl

find_behind : (out : List ℕ) (xs : List (List ℕ)) (t u v w1 w2 w3 : List ℕ)
    → w1 ≡ (wrote_names [] (out ++ codes "find ") xs ++ codes " such that ") ++ t
    → w2 ≡ (w1 ++ codes " in ") ++ u → w3 ≡ (w2 ++ codes " else ") ++ v
    → w3 ≡ out ++
    (codes "find " ++
    (joined (codes ", ") xs ++
    (codes " such that " ++ (t ++ (codes " in " ++ (u ++ (codes " else " ++ v)))))))
find_behind out xs t u v w1 w2 w3 a b c =
    let names = names_behind [] (out ++ codes "find ") xs
    ∙ ap (λ r. (out ++ codes "find ") ++ r) (joined_is (codes ", ") xs) in
    c ∙ (ap (λ r. (r ++ codes " else ") ++ v)
    (b ∙ ap (λ r. (r ++ codes " in ") ++ u)
    (a ∙ ap (λ r. (r ++ codes " such that ") ++ t) names)) ∙ simp append_assoc)

-- an application, where its function has k arguments
abbrev wrote_application : Names → List (List ℕ) → List ℕ → Kind → List Idx → TermTrees → ℕ → List ℕ
wrote_application ns around out f is ts k =
    w.by_layout (layout_of f (length is) k)
    (ended (is_none is && are_none ts) (wrote_arguments ns around (first_before is)
    (wrote_indices ns around (codes "(") (out ++ function_word ns f) is) ts))
    (wrote_parts ns around (layout_of f (length is) k) 0 out ts ++ end (layout_of f (length is) k))

-- an application, in each layout
abbrev Behind : Names → List (List ℕ) → List ℕ → Kind → List Idx → TermTrees → Layout → Type 0
Behind ns around out f is ts l =
    w.by_layout l
    (ended (is_none is && are_none ts) (wrote_arguments ns around (first_before is)
    (wrote_indices ns around (codes "(") (out ++ function_word ns f) is) ts))
    (wrote_parts ns around l 0 out ts ++ end l)
    ≡ out ++ by_layout l (function_word ns f) (idx_texts ns around is) (part_texts ns around ts)

function_behind : (ns : Names) (around : List (List ℕ)) (out : List ℕ) (f : Kind) (is : List Idx)
    (ts : TermTrees)
    → ((l : Layout)
    → wrote_parts ns around l 0 out ts ≡ out ++ parts_text l 0 (part_texts ns around ts))
    → wrote_arguments ns around (first_before is)
    (wrote_indices ns around (codes "(") (out ++ function_word ns f) is) ts
    ≡ wrote_indices ns around (codes "(") (out ++ function_word ns f) is ++ spaced (first_before is)
    (codes ",") (map (λ p. p.1) (part_texts ns around ts))
    → Behind ns around out f is ts (layout_of f (length is) (length (part_texts ns around ts)))
function_behind ns around out f is ts parts arguments =
    by_counts (Behind ns around out f is ts) f (length is) (length (part_texts ns around ts)) word
    (λ l e d. laid_behind (Infix l) (two_laid l (part_texts ns around ts) d))
    (λ e d. laid_behind Pair (pair_laid (part_texts ns around ts) d))
    (λ e d. laid_behind Conditional (three_laid (part_texts ns around ts) d))
  where
    laid_behind : (l : Layout)
        → parts_text l 0 (part_texts ns around ts) ++ end l ≡ laid l (part_texts ns around ts)
        → wrote_parts ns around l 0 out ts ++ end l ≡ out ++ laid l (part_texts ns around ts)
    laid_behind l h =
        ap (λ r. r ++ end l) (parts l)
        ∙ (append_assoc out (parts_text l 0 (part_texts ns around ts)) (end l)
        ∙ ap (λ r. out ++ r) h)

    word : Behind ns around out f is ts Word
    word =
        let first =
        ap (λ r. spaced r (codes ",") (map (λ p. p.1) (part_texts ns around ts)))
        (first_is ns around is) in
        ap (ended (is_none is && are_none ts)) (arguments
        ∙ ((λ i. indices_behind ns around (codes "(") (out ++ function_word ns f) is i ++ first i)
        ∙ (append_assoc (out ++ function_word ns f)
        (spaced (codes "(") (codes ",") (idx_texts ns around is))
        (spaced (if is_none (idx_texts ns around is) then codes "(" else codes ",") (codes ",")
        (map (λ p. p.1) (part_texts ns around ts)))
        ∙ ap (λ r. (out ++ function_word ns f) ++ r)
        (sym (spaced_both (idx_texts ns around is)
        (map (λ p. p.1) (part_texts ns around ts)))))))
        ∙ called_behind ns around out (function_word ns f) is ts

mutual
  pub behind : (ns : Names) (around : List (List ℕ)) (out : List ℕ) (t : TermTree)
      → wrote ns around out t ≡ out ++ term_text ns around t
  behind ns around out (name n is) = call_behind ns around out (name_word ns n) is
  behind ns around out (fun f is ts) =
      let both = function_behind ns around out f is ts (λ l. parts_behind ns around l 0 out ts)
      (arguments_behind ns around (first_before is)
      (wrote_indices ns around (codes "(") (out ++ function_word ns f) is) ts) in
      subst (λ k. wrote_application ns around out f is ts k
      ≡ out ++ by_layout (layout_of f (length is) (length (part_texts ns around ts)))
      (function_word ns f) (idx_texts ns around is) (part_texts ns around ts))
      (count_parts ns around ts) both
  behind ns around out (macro m t) = ts_behind ns around ((out ++ macro_text m) ++ codes "@") t
      ∙ simp append_assoc
  behind ns around out (schema k) = refl
  behind ns around out (diff a b) =
      ap (λ r. r ++ codes ")")
      (behind ns around (wrote ns around (out ++ codes "diff(") a ++ codes ",") b
      ∙ ap (λ r. (r ++ codes ",") ++ term_text ns around b)
      (behind ns around (out ++ codes "diff(") a)) ∙ simp append_assoc
  behind ns around out (le a b) = two_behind ns around out (codes " <= ") a b
  behind ns around out (ts_eq a b) = two_behind ns around out (codes " = ") a b
  behind ns around out (idx_eq i j) = simp append_assoc
  behind ns around out (happens t) =
      ap (λ r. r ++ codes ")") (ts_behind ns around (out ++ codes "happens(") t) ∙ simp append_assoc
  behind ns around out (all s t) =
      behind ns (around ++ binder_name ns around s ∷ [])
      (wrote_binder (codes "forall") (binder_name ns around s) s out) t ∙ simp append_assoc
  behind ns around out (some s t) =
      behind ns (around ++ binder_name ns around s ∷ [])
      (wrote_binder (codes "exists") (binder_name ns around s) s out) t ∙ simp append_assoc
  behind ns around out (find n t u v) =
      let inner = around ++ bound_names ns around n in
      let o1 = wrote_names [] (out ++ codes "find ")
      (bound_names ns around n) ++ codes " such that " in
      let o2 = wrote ns inner o1 t ++ codes " in " in
      let o3 = closed form.Term (form_of u)
      (wrote ns inner (opened form.Term (form_of u) o2) u) ++ codes " else " in
      find_behind out (bound_names ns around n) (term_text ns inner t)
      (placed form.Term (form_of u, term_text ns inner u))
      (placed form.Term (form_of v, term_text ns around v))
      (wrote ns inner o1 t)
      (closed form.Term (form_of u) (wrote ns inner (opened form.Term (form_of u) o2) u))
      (closed form.Term (form_of v) (wrote ns around (opened form.Term (form_of v) o3) v))
      (behind ns inner o1 t)
      (placed_behind form.Term (form_of u) o2 (term_text ns inner u)
      (wrote ns inner (opened form.Term (form_of u) o2) u)
      (behind ns inner (opened form.Term (form_of u) o2) u))
      (placed_behind form.Term (form_of v) o3 (term_text ns around v)
      (wrote ns around (opened form.Term (form_of v) o3) v)
      (behind ns around (opened form.Term (form_of v) o3) v))

  pub parts_behind : (ns : Names) (around : List (List ℕ)) (l : Layout) (k : ℕ) (out : List ℕ)
      (ts : TermTrees)
      → wrote_parts ns around l k out ts ≡ out ++ parts_text l k (part_texts ns around ts)
  parts_behind ns around l k out nil = sym (append-nil out)
  parts_behind ns around l k out (cons t ts) =
      let own = form_of t in
      let opened_is = ap (opened (place l k) own) (before_behind l k out) in
      parts_behind ns around l (k + 1)
      (closed (place l k) own
      (wrote ns around (opened (place l k) own (wrote_before l k out)) t)) ts
      ∙ (ap (λ r. r ++ parts_text l (k + 1) (part_texts ns around ts))
      (ap (λ r. closed (place l k) own (wrote ns around r t)) opened_is
      ∙ placed_behind (place l k) own (out ++ before l k) (term_text ns around t)
      (wrote ns around (opened (place l k) own (out ++ before l k)) t)
      (behind ns around (opened (place l k) own (out ++ before l k)) t))
      ∙ one_more out (before l k) (placed (place l k) (own, term_text ns around t))
      (parts_text l (k + 1) (part_texts ns around ts)))

  pub arguments_behind : (ns : Names) (around : List (List ℕ)) (first out : List ℕ) (ts : TermTrees)
      → wrote_arguments ns around first out ts
      ≡ out ++ spaced first (codes ",") (map (λ p. p.1) (part_texts ns around ts))
  arguments_behind ns around first out nil = sym (append-nil out)
  arguments_behind ns around first out (cons t ts) =
      arguments_behind ns around (codes ",") (wrote ns around (out ++ first) t) ts
      ∙ (ap (λ r. r ++ spaced (codes ",") (codes ",") (map (λ p. p.1) (part_texts ns around ts)))
      (behind ns around (out ++ first) t)
      ∙ one_more out first (term_text ns around t)
      (spaced (codes ",") (codes ",") (map (λ p. p.1) (part_texts ns around ts))))

-- the steps in which a find is written
pub find_steps : (ns : Names) (around inner mid last : List (List ℕ)) (n : ℕ) (t u v : TermTree)
    (out a b c d e f : List ℕ)
    → inner ≡ around ++ bound_names ns around n → mid ≡ inner → last ≡ around
    → a ≡ wrote_names [] (out ++ codes "find ") (bound_names ns around n) ++ codes " such that "
    → b ≡ wrote ns inner a t → c ≡ b ++ codes " in " → d ≡ wrote_branch ns mid c u
    → e ≡ d ++ codes " else " → f ≡ wrote_branch ns last e v
    → f ≡ wrote ns around out (find n t u v)
find_steps ns around inner mid last n t u v out a b c d e f in_is mid_is last_is ea eb ec ed ee ef =
    let b' : b ≡ wrote ns (around ++ bound_names ns around n)
    (wrote_names [] (out ++ codes "find ") (bound_names ns around n) ++ codes " such that ") t =
    eb ∙ (λ k. wrote ns (in_is k) (ea k) t) in
    let c' = ec ∙ ap (λ r. r ++ codes " in ") b' in
    let d' = ed ∙ (λ k. wrote_branch ns ((mid_is ∙ in_is) k) (c' k) u) in
    let e' = ee ∙ ap (λ r. r ++ codes " else ") d' in
    ef ∙ (λ k. wrote_branch ns (last_is k) (e' k) v)
