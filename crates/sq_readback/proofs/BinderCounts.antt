-- A term binds no more variables than its printed form has bytes.
use Rattle.std.proofs.Common.{◌≡◌, ◌<◌, ◌≤◌, ◌+◌, ◌^◌, ℕ, zero, suc, Bool, true, false}
use Rattle.std.proofs.Common.{if◌then◌else◌}
use Rattle.std.proofs.Common.{◌||◌, nat_eq, List, [], ◌∷◌, ◌++◌, length, map, codes, ap, ◌∙◌}
use Rattle.std.proofs.Common.{arith, length-append}
use Rattle.std.proofs.lemmas.List.{length-map}
use Rattle.std.specs.Fmt.{decimal}
use Rattle.sq_base.specs.declared.sort.Sort.{Sort}
use Rattle.sq_base.specs.declared.sort.Sort.TheVariants as sort
use Rattle.sq_term.specs.declared.term.Idx.{Idx}
use Rattle.sq_term.specs.declared.layout.Layout.{Layout}
use Rattle.sq_term.specs.declared.layout.Layout.TheVariants.{Word, Infix, Pair, Conditional}
use Rattle.sq_term.specs.declared.layout.Level.{Level}
use Rattle.sq_term.specs.Builtins.{sign}
use Rattle.sq_term.specs.Symbols.{Kind}
use Rattle.sq_term.specs.Syntax.{TermTree, name, fun, macro, schema, diff, le, ts_eq, idx_eq}
use Rattle.sq_term.specs.Syntax.{happens, all, some, find, TermTrees, nil, cons}
use Rattle.sq_print.specs.declared.form.Form.{Form}
use Rattle.sq_print.specs.declared.form.Form.TheVariants as form
use Rattle.sq_print.specs.Forms.{fits, form_of, left_form, right_form, layout_of}
use Rattle.sq_print.specs.Names.{Names, is_used, first_free, binder_name}
use Rattle.sq_sym.specs.Candidates.{candidate, among}
use Rattle.sq_print.specs.Names.{bound_names, function_word, names_count, stem}
use Rattle.sq_print.specs.Printed.{joined, call, placed, laid, by_layout, idx_texts, quantified}
use Rattle.sq_print.specs.Printed.{sort_text, term_text, part_texts}
use Rattle.sq_print.proofs.Behind.{by_counts}
use Rattle.sq_resolve.specs.Scopes.{Variable, Context}
use Rattle.sq_readback.specs.Readable.{names_of, binders, all_binders, HasFewNames}

-- ---- lengths of texts that stand one behind another

both : (a b : List ℕ) (m n : ℕ) → m ≤ length a → n ≤ length b → m + n ≤ length (a ++ b)
both a b m n h g = let e = length-append a b in omega arith

behind : (a b : List ℕ) (n : ℕ) → n ≤ length b → n ≤ length (a ++ b)
behind a b n h = let e = length-append a b in omega arith

before : (a b : List ℕ) (m : ℕ) → m ≤ length a → m ≤ length (a ++ b)
before a b m h = let e = length-append a b in omega arith

own : (a : List ℕ) → length a ≤ length a
own a = omega arith

-- the bytes of all texts
abbrev total : List (List ℕ) → ℕ
total [] = 0
total (x ∷ xs) = length x + total xs

total-append : (xs ys : List (List ℕ)) → total (xs ++ ys) ≡ total xs + total ys
total-append [] ys = omega arith
total-append (x ∷ xs) ys = let e = total-append xs ys in omega arith

joined_bytes : (between : List ℕ) (xs : List (List ℕ)) → total xs ≤ length (joined between xs)
joined_bytes between [] = omega arith
joined_bytes between (x ∷ []) = omega arith
joined_bytes between (x ∷ y ∷ ys) =
    both x (between ++ joined between (y ∷ ys)) (length x) (total (y ∷ ys)) (own x)
    (behind between (joined between (y ∷ ys)) (total (y ∷ ys)) (joined_bytes between (y ∷ ys)))

call_bytes : (word : List ℕ) (xs : List (List ℕ)) → total xs ≤ length (call word xs)
call_bytes word [] = omega arith
call_bytes word (x ∷ xs) =
    let inside = joined (codes ",") (x ∷ xs) in
    behind word (codes "(" ++ (inside ++ codes ")")) (total (x ∷ xs))
    (behind (codes "(") (inside ++ codes ")") (total (x ∷ xs))
    (before inside (codes ")") (total (x ∷ xs)) (joined_bytes (codes ",") (x ∷ xs))))

placed_bytes : (at : Form) (p : Form × List ℕ) → length p.1 ≤ length (placed at p)
placed_bytes at p = by (fits p.0 at)
  where
    by : (b : Bool) → length p.1 ≤ length (if b then p.1 else (codes "(" ++ (p.1 ++ codes ")")))
    by true = own p.1
    by false =
        behind (codes "(") (p.1 ++ codes ")") (length p.1)
        (before p.1 (codes ")") (length p.1) (own p.1))

-- ---- names of binders

candidate_some : (s : List ℕ) (k : ℕ) → 1 ≤ length s → 1 ≤ length (candidate s k)
candidate_some s k h = by (nat_eq k 0)
  where
    by : (b : Bool) → 1 ≤ length (if b then s else (s ++ decimal k))
    by true = h
    by false = before s (decimal k) 1 h

first_some_byte : (ns : Names) (around : List (List ℕ)) (s : List ℕ) (left k : ℕ) → 1 ≤ length s
    → 1 ≤ length (first_free ns around s left k)
first_some_byte ns around s zero k h = candidate_some s k h
first_some_byte ns around s (suc left) k h =
    by (is_used ns (candidate s k) || among (candidate s k) around)
    (first_some_byte ns around s left (k + 1) h)
  where
    by : (b : Bool) → 1 ≤ length (first_free ns around s left (k + 1))
        → 1 ≤ length (if b then first_free ns around s left (k + 1) else candidate s k)
    by true rest = rest
    by false rest = candidate_some s k h

stem_some : (s : Sort) → 1 ≤ length (stem s)
stem_some sort.Message = omega arith
stem_some sort.Boolean = omega arith
stem_some sort.Index = omega arith
stem_some sort.Timestamp = omega arith

name_some : (ns : Names) (around : List (List ℕ)) (s : Sort)
    → 1 ≤ length (binder_name ns around s)
unfolding binder_name
name_some ns around s =
    first_some_byte ns around (stem s) (names_count ns around) 0 (stem_some s)

names_bytes : (ns : Names) (around : List (List ℕ)) (n : ℕ) → n ≤ total (bound_names ns around n)
names_bytes ns around zero = omega arith
names_bytes ns around (suc n) =
    let x = binder_name ns around sort.Index in
    let one = name_some ns around sort.Index in
    let rest = names_bytes ns (around ++ x ∷ []) n in
    omega arith

-- ---- parts of applications

abbrev part_bytes : List (Form × List ℕ) → ℕ
part_bytes ps = total (map (λ p. p.1) ps)

infix_bytes : (l : Level) (ps : List (Form × List ℕ)) → length ps ≡ 2
    → part_bytes ps ≤ length (laid (Infix l) ps)
infix_bytes l [] h = absurd (omega arith)
infix_bytes l (p ∷ []) h = absurd (omega arith)
infix_bytes l (p ∷ q ∷ []) h =
    let right = placed_bytes (right_form l) q in
    let between = codes " " ++ (sign l ++ codes " ") in
    both (placed (left_form l) p) (between ++ placed (right_form l) q) (length p.1)
    (length q.1 + 0) (placed_bytes (left_form l) p)
    (behind between (placed (right_form l) q) (length q.1 + 0) (omega arith))
infix_bytes l (p ∷ q ∷ r ∷ ps) h = absurd (omega arith)

pair_bytes : (ps : List (Form × List ℕ)) → length ps ≡ 2 → part_bytes ps ≤ length (laid Pair ps)
pair_bytes [] h = absurd (omega arith)
pair_bytes (p ∷ []) h = absurd (omega arith)
pair_bytes (p ∷ q ∷ []) h =
    let x = placed form.Term p in
    let y = placed form.Term q in
    let right = placed_bytes form.Term q in
    behind (codes "<") (x ++ (codes "," ++ (y ++ codes ">"))) (length p.1 + (length q.1 + 0))
    (both x (codes "," ++ (y ++ codes ">")) (length p.1) (length q.1 + 0)
    (placed_bytes form.Term p)
    (behind (codes ",") (y ++ codes ">") (length q.1 + 0)
    (before y (codes ">") (length q.1 + 0) (omega arith))))
pair_bytes (p ∷ q ∷ r ∷ ps) h = absurd (omega arith)

conditional_bytes : (ps : List (Form × List ℕ)) → length ps ≡ 3
    → part_bytes ps ≤ length (laid Conditional ps)
conditional_bytes [] h = absurd (omega arith)
conditional_bytes (p ∷ []) h = absurd (omega arith)
conditional_bytes (p ∷ q ∷ []) h = absurd (omega arith)
conditional_bytes (p ∷ q ∷ r ∷ []) h =
    let x = placed form.Formula p in
    let y = placed form.Term q in
    let z = placed form.Term r in
    let last = placed_bytes form.Term r in
    let other = codes " else " ++ z in
    behind (codes "if ") (x ++ (codes " then " ++ (y ++ other)))
    (length p.1 + (length q.1 + (length r.1 + 0)))
    (both x (codes " then " ++ (y ++ other)) (length p.1) (length q.1 + (length r.1 + 0))
    (placed_bytes form.Formula p)
    (behind (codes " then ") (y ++ other) (length q.1 + (length r.1 + 0))
    (both y other (length q.1) (length r.1 + 0) (placed_bytes form.Term q)
    (behind (codes " else ") z (length r.1 + 0) (omega arith)))))
conditional_bytes (p ∷ q ∷ r ∷ s ∷ ps) h = absurd (omega arith)

abbrev HasPartBytes : List ℕ → List (List ℕ) → List (Form × List ℕ) → Layout → Type 0
HasPartBytes word indices ps l = part_bytes ps ≤ length (by_layout l word indices ps)

application_bytes : (ns : Names) (around : List (List ℕ)) (f : Kind) (is : List Idx)
    (ps : List (Form × List ℕ))
    → HasPartBytes (function_word ns f) (idx_texts ns around is) ps
    (layout_of f (length is) (length ps))
application_bytes ns around f is ps =
    by_counts (HasPartBytes (function_word ns f) (idx_texts ns around is) ps) f (length is)
    (length ps) called (λ l i d. infix_bytes l ps d) (λ i d. pair_bytes ps d)
    (λ i d. conditional_bytes ps d)
  where
    called : HasPartBytes (function_word ns f) (idx_texts ns around is) ps Word
    called =
        let texts = map (λ (p : Form × List ℕ). p.1) ps in
        let sum = total-append (idx_texts ns around is) texts in
        let most = call_bytes (function_word ns f) (idx_texts ns around is ++ texts) in
        omega arith

-- ---- forms with parts of their own

diff_bytes : (a b : List ℕ) (m n : ℕ) → m ≤ length a → n ≤ length b
    → m + n ≤ length (codes "diff(" ++ (a ++ (codes "," ++ (b ++ codes ")"))))
diff_bytes a b m n h i =
    behind (codes "diff(") (a ++ (codes "," ++ (b ++ codes ")"))) (m + n)
    (both a (codes "," ++ (b ++ codes ")")) m n h
    (behind (codes ",") (b ++ codes ")") n (before b (codes ")") n i)))

quantified_bytes : (word x : List ℕ) (s : Sort) (body : List ℕ) (n : ℕ) → 1 ≤ length word
    → n ≤ length body → suc n ≤ length (quantified word x s body)
quantified_bytes word x s body n one h =
    let inner = codes "), " ++ body in
    let typed = codes ":" ++ (sort_text s ++ inner) in
    let rest = both word (codes " (" ++ (x ++ typed)) 1 n one
    (behind (codes " (") (x ++ typed) n (behind x typed n
    (behind (codes ":") (sort_text s ++ inner) n
    (behind (sort_text s) inner n (behind (codes "), ") body n h))))) in
    omega arith

find_bytes : (names test found other : List ℕ) (n a b c : ℕ) → n ≤ length names
    → a ≤ length test → b ≤ length found → c ≤ length other
    → n + (a + (b + c)) ≤ length (codes "find " ++ (names ++ (codes " such that "
    ++ (test ++ (codes " in " ++ (found ++ (codes " else " ++ other)))))))
find_bytes names test found other n a b c h i j k =
    let last = codes " else " ++ other in
    let branches = codes " in " ++ (found ++ last) in
    let searched = codes " such that " ++ (test ++ branches) in
    behind (codes "find ") (names ++ searched) (n + (a + (b + c)))
    (both names searched n (a + (b + c)) h
    (behind (codes " such that ") (test ++ branches) (a + (b + c))
    (both test branches a (b + c) i
    (behind (codes " in ") (found ++ last) (b + c)
    (both found last b c j (behind (codes " else ") other c k))))))

-- ---- terms

mutual
  pub binders_within : (ns : Names) (around : List (List ℕ)) (t : TermTree)
      → binders t ≤ length (term_text ns around t)
  binders_within ns around (name n is) = omega arith
  binders_within ns around (fun f is ts) =
      let parts = all_within ns around ts in
      let text = application_bytes ns around f is (part_texts ns around ts) in
      omega arith
  binders_within ns around (macro m t) = omega arith
  binders_within ns around (schema k) = omega arith
  binders_within ns around (diff a b) =
      diff_bytes (term_text ns around a) (term_text ns around b) (binders a) (binders b)
      (binders_within ns around a) (binders_within ns around b)
  binders_within ns around (le t u) = omega arith
  binders_within ns around (ts_eq t u) = omega arith
  binders_within ns around (idx_eq i j) = omega arith
  binders_within ns around (happens t) = omega arith
  binders_within ns around (all s t) =
      let x = binder_name ns around s in
      quantified_bytes (codes "forall") x s (term_text ns (around ++ x ∷ []) t) (binders t)
      (omega arith) (binders_within ns (around ++ x ∷ []) t)
  binders_within ns around (some s t) =
      let x = binder_name ns around s in
      quantified_bytes (codes "exists") x s (term_text ns (around ++ x ∷ []) t) (binders t)
      (omega arith) (binders_within ns (around ++ x ∷ []) t)
  binders_within ns around (find n t u v) =
      let names = bound_names ns around n in
      let inside = around ++ names in
      let found = term_text ns inside u in
      let other = term_text ns around v in
      let count = names_bytes ns around n in
      let line = joined_bytes (codes ", ") names in
      let in_found = binders_within ns inside u in
      let in_other = binders_within ns around v in
      let found_placed = placed_bytes form.Term (form_of u, found) in
      let other_placed = placed_bytes form.Term (form_of v, other) in
      find_bytes (joined (codes ", ") names) (term_text ns inside t)
      (placed form.Term (form_of u, found)) (placed form.Term (form_of v, other)) n (binders t)
      (binders u) (binders v) (omega arith) (binders_within ns inside t) (omega arith)
      (omega arith)

  all_within : (ns : Names) (around : List (List ℕ)) (ts : TermTrees)
      → all_binders ts ≤ part_bytes (part_texts ns around ts)
  all_within ns around nil = omega arith
  all_within ns around (cons t ts) =
      let one = binders_within ns around t in
      let rest = all_within ns around ts in
      omega arith

-- what is in memory has few names
pub few_names : (c : Context) (t : TermTree) (text : List ℕ)
    → text ≡ term_text (names_of c) [] t ++ codes "."
    → length c.table + (length c.vars + length c.schemas) + length text < 2 ^ 66 → HasFewNames c t
few_names c t text is short =
    let within = binders_within (names_of c) [] t in
    let longer = ap length is ∙ length-append (term_text (names_of c) [] t) (codes ".") in
    let names = length-map c.vars (λ (v : Variable). v.0) in
    omega arith
