-- The propositional rules, as consequences of the truth-table rule.
use Rattle.std.proofs.Common.{◌≡◌, refl, List, [], ◌∷◌, ◌++◌, map, Bool, true, false}
use Rattle.std.specs.Prelude.{if◌then◌else◌}
use Rattle.sq_term.specs.Lists.{Member, here, there, Each}
use Rattle.sq_term.proofs.Members.{member-map, each-map, each-append, each-push, each_cons}
use Rattle.sq_term.proofs.Members.{each_none, each_single, each_pair}
use Rattle.sq_term.specs.Ground.{Ground}
use Rattle.sq_term.specs.GroundFormulas.{truth, falsity, negation, both, either, implies, conj}
use Rattle.sq_term.specs.GroundFormulas.{disj_of_all}
use Rattle.sq_ground.specs.Truth.{value, IsTrueAt}
use Rattle.sq_ground.specs.Lines.{Claim, local, fact, HoldsUnder, Entails}
use Rattle.sq_ground.specs.Rules.{FollowsBy}
use Rattle.sq_ground.specs.Theories.{Theory}
use Rattle.sq_ground.specs.Derivations.{HasDerivation}
use Rattle.sq_ground.proofs.Derivations.{derive}

-- Booleans
pub if_from : (x y : Bool) → (x ≡ true → y ≡ true) → (if x then y else true) ≡ true
if_from true y h = h refl
if_from false y h = refl

pub if_to : (x y : Bool) → (if x then y else true) ≡ true → x ≡ true → y ≡ true
if_to true y h e = h
if_to false y h e = cc

pub not_from : (x : Bool) → (x ≡ true → false ≡ true) → (if x then false else true) ≡ true
not_from true h = h refl
not_from false h = refl

pub not_to : (x : Bool) → (if x then false else true) ≡ true → x ≡ true → false ≡ true
not_to true h e = h
not_to false h e = e

pub and_from : (x y : Bool) → x ≡ true → y ≡ true → (if x then y else false) ≡ true
and_from x y e f = cc

pub and_left : (x y : Bool) → (if x then y else false) ≡ true → x ≡ true
and_left true y h = refl
and_left false y h = h

pub and_right : (x y : Bool) → (if x then y else false) ≡ true → y ≡ true
and_right true y h = h
and_right false y h = cc

pub or_left : (x y : Bool) → x ≡ true → (if x then true else y) ≡ true
or_left x y e = cc

pub or_right : (x y : Bool) → y ≡ true → (if x then true else y) ≡ true
or_right true y e = refl
or_right false y e = e

pub or_cases : {P : Type 0} (x y : Bool) → (if x then true else y) ≡ true → (x ≡ true → P)
    → (y ≡ true → P) → P
or_cases true y h f g = f refl
or_cases false y h f g = g h

pub either_way : {P : Type 0} (x : Bool) → (x ≡ true → P)
    → ((if x then false else true) ≡ true → P) → P
either_way true f g = f refl
either_way false f g = g refl

-- conjunctions and disjunctions of lists
pub conj-from : (v : Ground → Bool) (xs : List Ground) → Each (IsTrueAt v) xs → IsTrueAt v (conj xs)
conj-from v [] h = refl
conj-from v (x ∷ []) h = h x here
conj-from v (x ∷ y ∷ xs) h =
    and_from (value v x) (value v (conj (y ∷ xs))) (h x here)
    (conj-from v (y ∷ xs) (λ z i. h z (there i)))

pub conj-to : (v : Ground → Bool) (xs : List Ground) → IsTrueAt v (conj xs) → Each (IsTrueAt v) xs
conj-to v [] h z i = elim i [ ]
conj-to v (x ∷ []) h z here = h
conj-to v (x ∷ []) h z (there i) = elim i [ ]
conj-to v (x ∷ y ∷ xs) h z here = and_left (value v x) (value v (conj (y ∷ xs))) h
conj-to v (x ∷ y ∷ xs) h z (there i) =
    conj-to v (y ∷ xs) (and_right (value v x) (value v (conj (y ∷ xs))) h) z i

pub disj-from : (v : Ground → Bool) (xs : List Ground) (x : Ground) → Member xs x → IsTrueAt v x
    → IsTrueAt v (disj_of_all xs)
disj-from v [] z i e = elim i [ ]
disj-from v (x ∷ []) z here e = e
disj-from v (x ∷ []) z (there i) e = elim i [ ]
disj-from v (x ∷ y ∷ xs) z here e = or_left (value v x) (value v (disj_of_all (y ∷ xs))) e
disj-from v (x ∷ y ∷ xs) z (there i) e =
    or_right (value v x) (value v (disj_of_all (y ∷ xs))) (disj-from v (y ∷ xs) z i e)

pub disj-cases : (v : Ground → Bool) (xs : List Ground) (P : Type 0) → IsTrueAt v (disj_of_all xs)
    → ((x : Ground) → Member xs x → IsTrueAt v x → P) → P
disj-cases v [] P h f = let e : false ≡ true = h in cc
disj-cases v (x ∷ []) P h f = f x here h
disj-cases v (x ∷ y ∷ xs) P h f =
    or_cases (value v x) (value v (disj_of_all (y ∷ xs))) h (λ e. f x here e)
    (λ e. disj-cases v (y ∷ xs) P e (λ z i. f z (there i)))

abbrev pub claim : List Ground → Ground → Claim
claim H C = record { hyps = H; goal = C }

module _ (th : Theory) (left : Bool) where
  -- the line H : C has a derivation
  abbrev pub Proved : List Ground → Ground → Type 0
  Proved H C = HasDerivation th (local left (claim H C))

  pub by_truth : (cited : List Claim) (c : Claim)
      → Each (λ d. HasDerivation th (local left d)) cited → Entails cited c
      → HasDerivation th (local left c)
  by_truth cited c h e =
      derive th (map (local left) cited) (local left c)
      (each-map (local left) cited (HasDerivation th) h) (FollowsBy.by_truth left cited c e)

  -- citing none, one, two and three lines
  pub by_none : (c : Claim) → ((v : Ground → Bool) → HoldsUnder v c)
      → HasDerivation th (local left c)
  by_none c e = by_truth [] c (each_none (λ d. HasDerivation th (local left d))) (λ v h. e v)

  pub by_one : (b c : Claim) → HasDerivation th (local left b)
      → ((v : Ground → Bool) → HoldsUnder v b → HoldsUnder v c) → HasDerivation th (local left c)
  by_one b c p e =
      by_truth (b ∷ []) c (each_single b (λ d. HasDerivation th (local left d)) p)
      (λ v h. e v (h b here))

  pub by_two : (a b c : Claim) → HasDerivation th (local left a) → HasDerivation th (local left b)
      → ((v : Ground → Bool) → HoldsUnder v a → HoldsUnder v b → HoldsUnder v c)
      → HasDerivation th (local left c)
  by_two a b c p q e =
      by_truth (a ∷ b ∷ []) c (each_pair a b (λ d. HasDerivation th (local left d)) p q)
      (λ v h. e v (h a here) (h b (there here)))

  pub by_three : (a b d c : Claim) → HasDerivation th (local left a)
      → HasDerivation th (local left b) → HasDerivation th (local left d)
      → ((v : Ground → Bool) → HoldsUnder v a → HoldsUnder v b → HoldsUnder v d → HoldsUnder v c)
      → HasDerivation th (local left c)
  by_three a b d c p q r e =
      by_truth (a ∷ b ∷ d ∷ []) c
      (each_cons a (b ∷ d ∷ []) (λ x. HasDerivation th (local left x)) p
      (each_pair b d (λ x. HasDerivation th (local left x)) q r))
      (λ v h. e v (h a here) (h b (there here)) (h d (there (there here))))

  -- a line without hypotheses, under any
  pub from_fact : (H : List Ground) (c : Ground) → HasDerivation th (fact left c) → Proved H c
  from_fact H c p = by_one (claim [] c) (claim H c) p (λ v f h. f (each_none (IsTrueAt v)))

  -- what holds in each valuation that makes the hypotheses true
  pub valid : (H : List Ground) (c : Ground)
      → ((v : Ground → Bool) → Each (IsTrueAt v) H → IsTrueAt v c) → Proved H c
  valid H c e = by_none (claim H c) e

  pub hyp : (H : List Ground) (g : Ground) → Member H g → Proved H g
  hyp H g i = by_none (claim H g) (λ v h. h g i)

  -- the step `true`, and `absurd`
  pub true_goal : (H : List Ground) → Proved H truth
  true_goal H = by_none (claim H truth) (λ v h. refl)

  pub absurd_hyp : (H : List Ground) (g : Ground) → Member H falsity → Proved H g
  absurd_hyp H g i = by_none (claim H g) (λ v h. let e : false ≡ true = h falsity i in cc)

  pub impi : (H : List Ground) (a b : Ground) → Proved (H ++ a ∷ []) b → Proved H (implies a b)
  impi H a b p =
      by_one (claim (H ++ a ∷ []) b) (claim H (implies a b)) p
      (λ v f h. if_from (value v a) (value v b) (λ x. f (each-push H a (IsTrueAt v) h x)))

  pub noti : (H : List Ground) (a : Ground) → Proved (H ++ a ∷ []) falsity → Proved H (negation a)
  noti H a p =
      by_one (claim (H ++ a ∷ []) falsity) (claim H (negation a)) p
      (λ v f h. not_from (value v a) (λ x. f (each-push H a (IsTrueAt v) h x)))

  pub andi : (H : List Ground) (a b : Ground) → Proved H a → Proved H b → Proved H (both a b)
  andi H a b p q =
      by_two (claim H a) (claim H b) (claim H (both a b)) p q
      (λ v f g h. and_from (value v a) (value v b) (f h) (g h))

  pub ande : (H : List Ground) (a b g : Ground) → Member H (both a b) → Proved (H ++ a ∷ b ∷ []) g
      → Proved H g
  ande H a b g i p = by_one (claim (H ++ a ∷ b ∷ []) g) (claim H g) p
      (λ v f h. f
      (each-append H (a ∷ b ∷ []) (IsTrueAt v) h
      (each_pair a b (IsTrueAt v) (and_left (value v a) (value v b) (h _ i))
      (and_right (value v a) (value v b) (h _ i)))))

  pub orl : (H : List Ground) (a b : Ground) → Proved H a → Proved H (either a b)
  orl H a b p =
      by_one (claim H a) (claim H (either a b)) p (λ v f h. or_left (value v a) (value v b) (f h))

  pub orr : (H : List Ground) (a b : Ground) → Proved H b → Proved H (either a b)
  orr H a b p =
      by_one (claim H b) (claim H (either a b)) p (λ v f h. or_right (value v a) (value v b) (f h))

  pub ore : (H : List Ground) (a b g : Ground) → Member H (either a b) → Proved (H ++ a ∷ []) g
      → Proved (H ++ b ∷ []) g → Proved H g
  ore H a b g i p q = by_two (claim (H ++ a ∷ []) g) (claim (H ++ b ∷ []) g) (claim H g) p q
      (λ v f k h. or_cases (value v a) (value v b) (h _ i) (λ x. f (each-push H a (IsTrueAt v) h x))
      (λ x. k (each-push H b (IsTrueAt v) h x)))

  pub impe : (H : List Ground) (a b g : Ground) → Member H (implies a b) → Proved H a
      → Proved (H ++ b ∷ []) g → Proved H g
  impe H a b g i p q =
      by_two (claim H a) (claim (H ++ b ∷ []) g) (claim H g) p q
      (λ v f k h. k (each-push H b (IsTrueAt v) h (if_to (value v a) (value v b) (h _ i) (f h))))

  pub note : (H : List Ground) (a g : Ground) → Member H (negation a) → Proved H a → Proved H g
  note H a g i p =
      by_one (claim H a) (claim H g) p
      (λ v f h. let e : false ≡ true = not_to (value v a) (h _ i) (f h) in cc)

  pub cut : (H : List Ground) (a g : Ground) → Proved H a → Proved (H ++ a ∷ []) g → Proved H g
  cut H a g p q =
      by_two (claim H a) (claim (H ++ a ∷ []) g) (claim H g) p q
      (λ v f k h. k (each-push H a (IsTrueAt v) h (f h)))

  pub em : (H : List Ground) (a g : Ground) → Proved (H ++ a ∷ []) g
      → Proved (H ++ negation a ∷ []) g → Proved H g
  em H a g p q = by_two (claim (H ++ a ∷ []) g) (claim (H ++ negation a ∷ []) g) (claim H g) p q
      (λ v f k h. either_way (value v a) (λ x. f (each-push H a (IsTrueAt v) h x))
      (λ x. k (each-push H (negation a) (IsTrueAt v) h x)))

  -- more hypotheses, in any order
  pub drop : (G H : List Ground) (g : Ground) → Each (Member H) G → Proved G g → Proved H g
  drop G H g sub p = by_one (claim G g) (claim H g) p (λ v f h. f (λ x i. h x (sub x i)))

  -- over all instances of a quantifier
  pub alli : (H : List Ground) (xs : List Ground) → Each (Proved H) xs → Proved H (conj xs)
  alli H xs p =
      by_truth (map (claim H) xs) (claim H (conj xs))
      (each-map (claim H) xs (λ d. HasDerivation th (local left d)) p)
      (λ v f h. conj-from v xs (λ x i. f (claim H x) (member-map (claim H) xs x i) h))

  pub exe : (H : List Ground) (xs : List Ground) (g : Ground) → Member H (disj_of_all xs)
      → Each (λ x. Proved (H ++ x ∷ []) g) xs → Proved H g
  exe H xs g i p =
      by_truth (map (λ x. claim (H ++ x ∷ []) g) xs) (claim H g)
      (each-map (λ x. claim (H ++ x ∷ []) g) xs (λ d. HasDerivation th (local left d)) p)
      (λ v f h. disj-cases v xs (value v g ≡ true) (h _ i)
      (λ x j e. f (claim (H ++ x ∷ []) g) (member-map (λ x. claim (H ++ x ∷ []) g) xs x j)
      (each-push H x (IsTrueAt v) h e)))

  pub alle : (H : List Ground) (xs : List Ground) (x g : Ground) → Member H (conj xs) → Member xs x
      → Proved (H ++ x ∷ []) g → Proved H g
  alle H xs x g i j p =
      by_one (claim (H ++ x ∷ []) g) (claim H g) p
      (λ v f h. f (each-push H x (IsTrueAt v) h (conj-to v xs (h _ i) x j)))

  pub exi : (H : List Ground) (xs : List Ground) (x : Ground) → Member xs x → Proved H x
      → Proved H (disj_of_all xs)
  exi H xs x j p =
      by_one (claim H x) (claim H (disj_of_all xs)) p (λ v f h. disj-from v xs x j (f h))
