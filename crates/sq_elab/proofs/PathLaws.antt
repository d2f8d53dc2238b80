-- Paths of ways with a common end at the root, and which of them exclude each other.
use Rattle.std.proofs.Common.{◌≡◌, ◌≢◌, ℕ, zero, suc, ◌+◌, ◌≤◌, List, [], ◌∷◌, ◌++◌, Bool, true}
use Rattle.std.proofs.Common.{false, Option, Some, None, take, drop, length, replicate, nat_eq}
use Rattle.std.proofs.Common.{refl, sym, ap, ◌∙◌, subst, arith, append_assoc, append-nil}
use Rattle.std.proofs.lemmas.Bool.Decides.{nat_tests}
use Rattle.std.proofs.lemmas.List.{drop-take}
use Rattle.std.proofs.Math.Seq.{take-take, drop-drop}
use Rattle.sq_term.specs.declared.action.PathStep.{PathStep}
use Rattle.sq_term.specs.declared.action.PathStep.TheVariants.{Side, Rep, Branch, Found, NotFound}
use Rattle.sq_term.specs.declared.action.PathStep.TheVariants.{Done}
use Rattle.sq_term.specs.Lists.{same_numbers, same_bit}
use Rattle.sq_term.specs.Systems.{indices_bound, same_step, in_conflict}
use Rattle.sq_system.proofs.Choices.{same_numbers_are, same_numbers_from}
use Rattle.sq_elab.specs.Laws.{BranchesExclude, FindsExclude, FoundIndicesExclude}
use Rattle.sq_elab.specs.Ways.{Step, creates, receives, repeats, sends, tests, finds, defines}
use Rattle.sq_elab.specs.Ways.{part, labels, enters, Way, indices_of_step, indices, done, sides}
use Rattle.sq_elab.specs.Ways.{marks, path, closed_path}

-- ---- a common front of two paths

nat_itself : (a : ℕ) → nat_eq a a ≡ true
nat_itself a = grind (arith, nat_tests)

same_bit_itself : (b : Bool) → same_bit b b ≡ true
same_bit_itself true = refl
same_bit_itself false = refl

pub same_step_itself : (s : PathStep) → same_step s s ≡ true
same_step_itself (Side a) = same_bit_itself a
same_step_itself Rep = refl
same_step_itself (Branch a) = same_bit_itself a
same_step_itself (Found c) = nat_itself c
same_step_itself NotFound = refl
same_step_itself Done = refl

abbrev pub along : List PathStep → ℕ
along [] = 0
along (s ∷ p) = indices_bound s + along p

pub along-append : (p q : List PathStep) → along (p ++ q) ≡ along p + along q
along-append [] q = omega arith
along-append (s ∷ p) q =
    let rest : along (p ++ q) ≡ along p + along q = along-append p q in
    omega arith

-- where the indices along a common front are equal, what stands behind it decides
front-decides : (p q r : List PathStep) (is js : List ℕ) → take (along p) is ≡ take (along p) js
    → in_conflict (p ++ q) is (p ++ r) js
    ≡ in_conflict q (drop (along p) is) r (drop (along p) js)
front-decides [] q r is js e = refl
front-decides (s ∷ p) q r is js e =
    let c = indices_bound s in
    let n = along p in
    let within : c ≤ c + n = omega arith in
    let here : take c is ≡ take c js =
    sym (take-take c (c + n) is within)
    ∙ (ap (take c) e ∙ take-take c (c + n) js within) in
    let next : take n (drop c is) ≡ take n (drop c js) =
    sym (drop-take c n is) ∙ (ap (drop c) e ∙ drop-take c n js) in
    rw (same_step_itself s, same_numbers_from (take c is) (take c js) here)
    (front-decides p q r (drop c is) (drop c js) next
    ∙ (λ i. in_conflict q (drop-drop n c is i) r (drop-drop n c js i)))

-- ---- paths of ways

path-append : (u w : Way) → path (u ++ w) ≡ path w ++ path u
path-append [] w = sym (append-nil (path w))
path-append (s ∷ u) w =
    ap (λ p. p ++ marks s) (path-append u w) ∙ append_assoc (path w) (path u) (marks s)

along-repeat : (k : ℕ) (p : List PathStep) → along (replicate k (Side true) ++ p) ≡ along p
along-repeat zero p = refl
along-repeat (suc k) p =
    let rest : along (replicate k (Side true) ++ p) ≡ along p = along-repeat k p in
    omega arith

along-done : (a : Option ℕ) (p : List PathStep) → along (done a ++ p) ≡ along p
along-done None p = refl
along-done (Some a) p = omega arith

along-part : (k : ℕ) (more : Bool) (a : Option ℕ) → along (marks (part k more a)) ≡ 0
along-part k true a = along-done a (sides k true) ∙ along-repeat k (Side false ∷ [])
along-part k false a = along-done a (sides k false) ∙ along-repeat k []

along-marks : (s : Step) → along (marks s) ≡ indices_of_step s
along-marks (creates x k) = refl
along-marks (receives x None) = refl
along-marks (receives x (Some a)) = refl
along-marks (repeats i a) = along-done a (Rep ∷ [])
along-marks (sends m a) = refl
along-marks (tests f b) = refl
along-marks (finds ns f true) = omega arith
along-marks (finds ns f false) = refl
along-marks (defines x f) = refl
along-marks (part k more a) = along-part k more a
along-marks (labels l) = refl
along-marks (enters xs ys) = refl

pub along-path : (w : Way) → along (path w) ≡ indices w
along-path [] = refl
along-path (s ∷ w) =
    along-append (path w) (marks s) ∙ (λ i. along-path w i + along-marks s i)

pub closed-path-at : (u w : Way) (s : Step)
    → closed_path (u ++ s ∷ w) ≡ path w ++ (marks s ++ (path u ++ Done ∷ []))
closed-path-at u w s =
    ap (λ p. p ++ Done ∷ []) (path-append u (s ∷ w))
    ∙ (append_assoc (path w ++ marks s) (path u) (Done ∷ [])
    ∙ append_assoc (path w) (marks s) (path u ++ Done ∷ []))

way-decides : (w : Way) (a b : List PathStep) (is js : List ℕ)
    → take (indices w) is ≡ take (indices w) js
    → in_conflict (path w ++ a) is (path w ++ b) js
    ≡ in_conflict a (drop (indices w) is) b (drop (indices w) js)
way-decides w a b is js e =
    subst
    (λ n. take n is ≡ take n js
    → in_conflict (path w ++ a) is (path w ++ b) js ≡ in_conflict a (drop n is) b (drop n js))
    (along-path w) (front-decides (path w) a b is js) e

-- two ways part at steps behind w
parting : (s t : Step) (u v w : Way) (is js : List ℕ)
    → take (indices w) is ≡ take (indices w) js
    → in_conflict (closed_path (u ++ s ∷ w)) is (closed_path (v ++ t ∷ w)) js
    ≡ in_conflict (marks s ++ (path u ++ Done ∷ [])) (drop (indices w) is)
    (marks t ++ (path v ++ Done ∷ [])) (drop (indices w) js)
parting s t u v w is js e =
    (λ i. in_conflict (closed-path-at u w s i) is (closed-path-at v w t i) js)
    ∙ way-decides w (marks s ++ (path u ++ Done ∷ [])) (marks t ++ (path v ++ Done ∷ [])) is js e

pub branches_exclude : BranchesExclude
branches_exclude f u v w is js e = (
  parting (tests f true) (tests f false) u v w is js e,
  parting (tests f false) (tests f true) v u w js is (sym e),
)

pub finds_exclude : FindsExclude
finds_exclude f ns u v w is js e = (
  parting (finds ns f true) (finds ns f false) u v w is js e,
  parting (finds ns f false) (finds ns f true) v u w js is (sym e),
)

differ_as_numbers : (xs ys : List ℕ) → xs ≢ ys → same_numbers xs ys ≡ false
differ_as_numbers xs ys ne = by (same_numbers xs ys) refl
  where
    by : (b : Bool) → same_numbers xs ys ≡ b → b ≡ false
    by true f = absurd (ne (same_numbers_are xs ys f))
    by false f = refl

pub found_indices_exclude : FoundIndicesExclude
found_indices_exclude f ns u v w is js e ne =
    let n = length ns in
    parting (finds ns f true) (finds ns f true) u v w is js e
    ∙ rw (
      nat_itself n,
      differ_as_numbers (take n (drop (indices w) is))
          (take n (drop (indices w) js)) ne,
    ) refl
