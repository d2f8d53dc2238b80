-- Formulas link by link.
use Rattle.std.proofs.Common.{◌≡◌, ◌≤◌, ◌<◌, ◌+◌, ℕ, zero, suc, max, List, [], ◌∷◌, ◌++◌, drop}
use Rattle.std.proofs.Common.{Option, Some, None, refl, sym, ◌∙◌, ap, arith, append_assoc}
use Rattle.std.proofs.Common.{option_map, slice_get, get_or, length, take, ◌-◌}
use Rattle.sq_term.specs.Syntax.{TermTree, name, fun, macro, schema, diff, le, ts_eq, idx_eq}
use Rattle.sq_term.specs.Syntax.{happens, all, some, find}
use Rattle.sq_term.specs.Formulas as formula
use Rattle.sq_term.specs.Measure.{depth}
use Rattle.sq_run.specs.declared.formula.Connective.{Connective}
use Rattle.sq_run.specs.declared.formula.Connective.TheVariants.{And, Implies}
use Rattle.sq_run.specs.declared.formula.Link.{Link}
use Rattle.sq_run.specs.declared.formula.Chain.{Chain}
use Rattle.sq_run.proofs.Bytes.{take_short}
use Rattle.sq_run.specs.Depths.{joined_depth}
use Rattle.sq_run.specs.Formulas.{Declarations, Halves, constant, joined, whole, linked}
use Rattle.sq_run.specs.Formulas.{halves_of}
use Rattle.sq_run.specs.Formulas.{function_of, connective_of, longer, chain_of}

-- a chain behind further links
abbrev pub behind : List Link → Chain → Chain
behind links c = record { links = links ++ c.links; last = c.last }

-- the depth of what stands behind the first `=>`, where there is something
abbrev pub back_depth : Option TermTree → ℕ
back_depth None = 0
back_depth (Some t) = depth t

pub depth_positive : (t : TermTree) → 1 ≤ depth t
depth_positive (name n is) = omega arith
depth_positive (fun f is ts) = omega arith
depth_positive (macro m t) = omega arith
depth_positive (schema n) = omega arith
depth_positive (diff a b) = omega arith
depth_positive (le a b) = omega arith
depth_positive (ts_eq a b) = omega arith
depth_positive (idx_eq a b) = omega arith
depth_positive (happens t) = omega arith
depth_positive (all s t) = omega arith
depth_positive (some s t) = omega arith
depth_positive (find n c a b) = omega arith

joined_depth_some : (front back : ℕ) → 1 ≤ back → joined_depth front back ≡ max front back + 1
joined_depth_some front zero h = absurd (omega arith)
joined_depth_some front (suc back) h = refl

pub depth-joined : (front : TermTree) (back : Option TermTree)
    → depth (joined front back) ≡ joined_depth (depth front) (back_depth back)
depth-joined front None = refl
depth-joined front (Some back) = let p = depth_positive back in let e =
    joined_depth_some (depth front) (depth back) p in omega (arith, e)

pub depth-conjunction : (f : ℕ) (front : TermTree) → depth (formula.both (constant f) front)
    ≡ depth front + 1
depth-conjunction f front = let p = depth_positive front in omega (arith, p)

pub joined_depth_at_most : (front back : ℕ) → 1 ≤ front
    → joined_depth front back + 1 ≤ front + back + 1
joined_depth_at_most front zero h = omega arith
joined_depth_at_most front (suc back) h = omega arith

-- the halves from one link on
pub halves_at : (links : List Link) (last n : ℕ) (l : Link) → slice_get links n ≡ Some l
    → halves_of (drop n links) last
    ≡ linked l.function l.connective (halves_of (drop (n + 1) links) last)
halves_at [] last n l is = absurd (cc (is))
halves_at (m ∷ links) last zero l is = let same : m ≡ l =
    cc in ap (λ (x : Link). linked x.function x.connective (halves_of links last)) same
halves_at (m ∷ links) last (suc n) l is = let next : suc (n + 1) ≡ suc n + 1 =
    omega arith in halves_at links last n l is
    ∙ ap (λ (k : ℕ). linked l.function l.connective (halves_of (drop k (m ∷ links)) last)) next

longer_behind : (links : List Link) (f : ℕ) (c : Connective) (chain : Option Chain)
    → option_map (behind (links ++ record { function = f; connective = c } ∷ [])) chain
    ≡ option_map (behind links) (longer (Some f) (Some c) chain)
longer_behind links f c None = refl
longer_behind links f c (Some chain) =
    ap (λ (ls : List Link). Some (record { links = ls; last = chain.last }))
    (append_assoc links (record { function = f; connective = c } ∷ []) chain.links)

-- two words more
pub two_words : (table : Declarations) (links : List Link) (rest : List (List ℕ))
    (word sign : List ℕ) (f : ℕ) (c : Connective)
    → 2 ≤ length rest → word ≡ get_or rest 0 word → sign ≡ get_or rest 1 sign
    → Some f ≡ function_of table word → Some c ≡ connective_of sign
    → option_map (behind (links ++ record { function = f; connective = c } ∷ []))
    (chain_of table (take (length rest - 2) (drop 2 rest)))
    ≡ option_map (behind links) (chain_of table rest)
two_words table links [] word sign f c two n s function con = absurd (omega arith)
two_words table links (a ∷ []) word sign f c two n s function con = absurd (omega arith)
two_words table links (a ∷ b ∷ more) word sign f c two n s function con =
    let len : length (a ∷ b ∷ more) - 2 ≡ length more = omega arith in
    ap (λ (k : ℕ). option_map (behind (links ++ record { function = f; connective = c } ∷ []))
    (chain_of table (take k more))) len
    ∙ ap (λ (l : List (List ℕ)). option_map
    (behind (links ++ record { function = f; connective = c } ∷ [])) (chain_of table l))
    (take_short (length more) more (omega arith))
    ∙ longer_behind links f c (chain_of table more)
    ∙ (λ i. option_map (behind links)
    (longer ((function ∙ ap (function_of table) n) i) ((con ∙ ap connective_of s) i)
    (chain_of table more)))

at_link : (links : List Link) (n : ℕ) (d : Link) → n < length links
    → slice_get links n ≡ Some (get_or links n d)
at_link [] n d lt = absurd (omega arith)
at_link (l ∷ links) zero d lt = refl
at_link (l ∷ links) (suc n) d lt = at_link links n d (omega arith)

module _ (links : List Link) (last n front back : ℕ) (d : Link) (k : Connective)
    (within : n < length links) (is : (get_or links n d).connective ≡ k) where
  abbrev link_here : Link
  link_here = get_or links n d

  abbrev later : Halves
  later = halves_of (drop (n + 1) links) last

  pub halves_here : halves_of (drop n links) last ≡ linked link_here.function k later
  halves_here = halves_at links last n link_here (at_link links n d within)
      ∙ ap (λ (c : Connective). linked link_here.function c later) is

-- the depths behind one link more, an `&&` or a `=>`
module _ (links : List Link) (last n front back : ℕ) (d : Link) (within : n < length links)
    (fronts : front ≡ depth (halves_of (drop (n + 1) links) last).front)
    (backs : back ≡ back_depth (halves_of (drop (n + 1) links) last).back) where
  pub and_front : (get_or links n d).connective ≡ And
      → front + 1 ≡ depth (halves_of (drop n links) last).front
  and_front is =
      ap (λ (x : ℕ). x + 1) fronts
      ∙ sym (depth-conjunction (get_or links n d).function
      (halves_of (drop (n + 1) links) last).front)
      ∙ ap (λ (h : Halves). depth h.front)
      (sym (halves_here links last n front back d And within is))

  pub and_back : (get_or links n d).connective ≡ And
      → back ≡ back_depth (halves_of (drop n links) last).back
  and_back is =
      backs ∙ ap (λ (h : Halves). back_depth h.back)
      (sym (halves_here links last n front back d And within is))

  pub implies_front : (get_or links n d).connective ≡ Implies
      → 1 ≡ depth (halves_of (drop n links) last).front
  implies_front is =
      ap (λ (h : Halves). depth h.front)
      (sym (halves_here links last n front back d Implies within is))

  pub implies_back : (get_or links n d).connective ≡ Implies
      → joined_depth front back ≡ back_depth (halves_of (drop n links) last).back
  implies_back is =
      (λ i. joined_depth (fronts i) (backs i))
      ∙ sym (depth-joined (halves_of (drop (n + 1) links) last).front
      (halves_of (drop (n + 1) links) last).back)
      ∙ ap (λ (h : Halves). back_depth h.back)
      (sym (halves_here links last n front back d Implies within is))

-- the depth where all links are taken
pub whole_depth : (links : List Link) (last at front back : ℕ) → at ≤ 0
    → front ≡ depth (halves_of (drop at links) last).front
    → back ≡ back_depth (halves_of (drop at links) last).back
    → joined_depth front back ≡ depth (whole (halves_of links last))
whole_depth links last zero front back none fronts backs = (λ i. joined_depth (fronts i) (backs i))
    ∙ sym (depth-joined (halves_of links last).front (halves_of links last).back)
whole_depth links last (suc at) front back none fronts backs = absurd (omega arith)
