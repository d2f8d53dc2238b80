-- Places, and what is written in their stead, are read back, and what is read was spelled so.
use Rattle.std.proofs.Common.{◌≡◌, ◌<◌, ◌^◌, ℕ, Bool, true, false, if◌then◌else◌, ◌&&◌}
use Rattle.std.proofs.Common.{nat_eq, List, [], ◌∷◌, ◌++◌, Option, Some, None, option_map}
use Rattle.std.proofs.Common.{option_and_then, codes, decimal, refl, sym, ap, ◌∙◌}
use Rattle.std.proofs.Common.{append_assoc, arith}
use Rattle.std.proofs.lemmas.Bool.Decides.{nat_tests}
use Rattle.sq_step.specs.declared.step.Place.{Place}
use Rattle.sq_step.specs.declared.step.Place.TheVariants as place
use Rattle.sq_cert_words.specs.Spelling.{is_small}
use Rattle.sq_cert_steps.specs.Lines.{Spot, at, written, place_text, place_word, place_fits}
use Rattle.sq_cert_words.specs.declared.word.Plain.{Plain}
use Rattle.sq_cert_words.specs.declared.word.Plain.TheVariants as plain
use Rattle.sq_cert_words.specs.declared.word.Word.{Word}
use Rattle.sq_cert_words.specs.declared.word.Word.TheVariants as word
use Rattle.sq_cert_words.specs.Numbers.{last_number}
use Rattle.sq_cert_words.specs.Numbers as numbers
use Rattle.sq_cert_words.specs.Reads.{Found, followed, as_found, head_word}
use Rattle.sq_cert_words.specs.Words.{plain_text, word_text, word_of, IsSmall}
use Rattle.sq_cert_words.proofs.NumberLaws.{same_value, same_found, first_found}
use Rattle.sq_cert_words.proofs.NumberLaws.{number_of_decimal, number_tells, last_of_decimal}
use Rattle.sq_cert_words.proofs.NumberLaws.{last_tells}
use Rattle.sq_cert_words.proofs.WordLaws.{word_reads}
use Rattle.sq_cert_terms.proofs.ReadBack.{both, small_is}
use Rattle.sq_cert_terms.proofs.Told.{first_part, head_tells, and_true, is_small-true}
use Rattle.sq_cert_steps.specs.Reading.{behind_dot, node_of, numbered_place, place_behind, is_place}
use Rattle.sq_cert_steps.specs.Reading.{place_of, placed, spot}

-- ---- places

node_reads : (p : Place) (k : ℕ) → is_small k ≡ true → node_of p (46 ∷ decimal k) ≡ Some (p, k)
node_reads p k h = ap (option_map (λ k. (p, k))) (last_of_decimal k (small_is k h))

numbered_reads : (f : ℕ → Place) (j k : ℕ) → is_small j ≡ true → is_small k ≡ true
    → numbered_place f (decimal j ++ 46 ∷ decimal k) ≡ Some (f j, k)
numbered_reads f j k small_j small_k =
    let e = number_of_decimal 4294967295 j (46 ∷ decimal k) (omega (arith, small_is j small_j))
    (omega arith) refl in
    ap (option_and_then (λ j. node_of (f j.0) j.1)) e ∙ node_reads (f j) k small_k

pub place_reads : (p : Place) (k : ℕ) → place_fits p k ≡ true
    → place_of (place_word p k) ≡ Some (p, k)
place_reads place.Goal k h = node_reads place.Goal k h
place_reads (place.Hyp j) k h = let fit =
    both (is_small j) (is_small k) h in numbered_reads place.Hyp j k fit.0 fit.1
place_reads (place.Left j) k h = let fit =
    both (is_small j) (is_small k) h in numbered_reads place.Left j k fit.0 fit.1
place_reads (place.Right j) k h = let fit =
    both (is_small j) (is_small k) h in numbered_reads place.Right j k fit.0 fit.1

pub place_is : (p : Place) (k : ℕ) → is_place (place_word p k) ≡ true
place_is place.Goal k = refl
place_is (place.Hyp j) k = refl
place_is (place.Left j) k = refl
place_is (place.Right j) k = refl

-- ---- and back

dot_tells : (text behind : List ℕ) → behind_dot text ≡ Some behind → text ≡ 46 ∷ behind
dot_tells [] behind e = cc
dot_tells (c ∷ cs) behind e = by (nat_eq c 46) refl e
  where
    by : (b : Bool) → nat_eq c 46 ≡ b → (if b then Some cs else None) ≡ Some behind → c ∷ cs ≡ 46
        ∷ behind
    by true t q = let first : c ≡ 46 =
        grind (arith, nat_tests) in λ i. first i ∷ same_value cs behind q i
    by false t q = cc

some_mapped : {A B : Type 0} (f : A → B) (o : Option A) (b : B) → option_map f o ≡ Some b
    → (a : A) × (o ≡ Some a) × (f a ≡ b)
some_mapped f None b e = cc
some_mapped f (Some a) b e = (a, refl, same_value (f a) b e)

node_tells : (p : Place) (text : List ℕ) (q : Place × ℕ) → node_of p text ≡ Some q
    → (p ≡ q.0) × (text ≡ 46 ∷ decimal q.1) × (q.1 < 2 ^ 32)
node_tells p text q e =
    let d = first_found (behind_dot text)
    (λ behind. option_map (λ k. (p, k)) (last_number behind)) q e in
    let n = some_mapped (λ k. (p, k)) (last_number d.0) q d.2 in
    let told = last_tells d.0 n.0 n.1 in
    let number = ap (λ x. x.1) n.2 in (
      ap (λ x. x.0) n.2,
      dot_tells text d.0 d.1
          ∙ ap (λ x. 46 ∷ x) (told.0 ∙ ap decimal number),
      omega (arith, told.1, number),
    )

-- a place with this letter and a number
numbered_tells : (front : List ℕ) (f : ℕ → Place)
    → ((j : ℕ) → place_text (f j) ≡ front ++ decimal j)
    → ((j k : ℕ) → place_fits (f j) k ≡ (is_small j && is_small k))
    → (text : List ℕ) (q : Place × ℕ) → numbered_place f text ≡ Some q
    → (front ++ text ≡ place_word q.0 q.1) × (place_fits q.0 q.1 ≡ true)
numbered_tells front f spelled fits text q e =
    let j = first_found (numbers.number 4294967295 text) (λ j. node_of (f j.0) j.1) q e in
    let told = number_tells 4294967295 text j.0.0 j.0.1 (omega arith) (omega arith) j.1 in
    let node = node_tells (f j.0.0) j.0.1 q j.2 in (
      ap (λ x. front ++ x) (told.0 ∙ ap (λ x. decimal j.0.0 ++ x) node.1)
          ∙ sym (append_assoc front (decimal j.0.0) (46 ∷ decimal q.1))
          ∙ ap (λ x. x ++ 46 ∷ decimal q.1) (sym (spelled j.0.0)) ∙ ap
          (λ x. place_word x q.1) node.0,
      sym (ap (λ x. place_fits x q.1) node.0) ∙ fits j.0.0 q.1
          ∙ and_true (is_small j.0.0) (is_small q.1) (is_small-true j.0.0 (omega (arith, told.1)))
          (is_small-true q.1 node.2),
    )

goal_tells : (text : List ℕ) (q : Place × ℕ) → node_of place.Goal text ≡ Some q
    → (64 ∷ 103 ∷ text ≡ place_word q.0 q.1) × (place_fits q.0 q.1 ≡ true)
goal_tells text q e =
    let node = node_tells place.Goal text q e in (
      ap (λ x. 64 ∷ 103 ∷ x) node.1
          ∙ ap (λ x. place_word x q.1) node.0,
      sym (ap (λ x. place_fits x q.1) node.0)
          ∙ is_small-true q.1 node.2,
    )

at_letter : (c letter : ℕ) (cs : List ℕ) (q : Place × ℕ) (b : Bool)
    (found other : Option (Place × ℕ)) → nat_eq c letter ≡ b
    → (found ≡ Some q → (64 ∷ letter ∷ cs ≡ place_word q.0 q.1) × (place_fits q.0 q.1 ≡ true))
    → (other ≡ Some q → (64 ∷ c ∷ cs ≡ place_word q.0 q.1) × (place_fits q.0 q.1 ≡ true))
    → (if b then found else other) ≡ Some q → (64 ∷ c ∷ cs ≡ place_word q.0 q.1)
    × (place_fits q.0 q.1 ≡ true)
at_letter c letter cs q true found other t here behind e =
    let same : letter ≡ c = grind (arith, nat_tests) in
    let h = here e in
    (ap (λ x. 64 ∷ x ∷ cs) (sym same) ∙ h.0, h.1)
at_letter c letter cs q false found other t here behind e = behind e

behind_tells : (text : List ℕ) (q : Place × ℕ) → place_behind text ≡ Some q
    → (64 ∷ text ≡ place_word q.0 q.1) × (place_fits q.0 q.1 ≡ true)
behind_tells [] q e = cc
behind_tells (c ∷ cs) q e =
    at_letter c 103 cs q (nat_eq c 103) _ _ refl (goal_tells cs q)
    (at_letter c 104 cs q (nat_eq c 104) _ _ refl
    (numbered_tells (codes "@h") place.Hyp (λ j. refl) (λ j k. refl) cs q)
    (at_letter c 108 cs q (nat_eq c 108) _ _ refl
    (numbered_tells (codes "@l") place.Left (λ j. refl) (λ j k. refl) cs q)
    (at_letter c 114 cs q (nat_eq c 114) _ _ refl
    (numbered_tells (codes "@r") place.Right (λ j. refl) (λ j k. refl) cs q)
    (λ e. cc)))) e

pub place_tells : (text : List ℕ) (q : Place × ℕ) → place_of text ≡ Some q
    → (text ≡ place_word q.0 q.1) × (place_fits q.0 q.1 ≡ true)
place_tells [] q e = cc
place_tells (c ∷ cs) q e = by (nat_eq c 64) refl e
  where
    by : (b : Bool) → nat_eq c 64 ≡ b → (if b then place_behind cs else None) ≡ Some q
        → (c ∷ cs ≡ place_word q.0 q.1) × (place_fits q.0 q.1 ≡ true)
    by true t p =
        let first : c ≡ 64 = grind (arith, nat_tests) in
        let h = behind_tells cs q p in
        (ap (λ x. x ∷ cs) first ∙ h.0, h.1)
    by false t p = cc

-- ---- what is written in the stead of a place

plain_is_no_place : (p : Plain) → is_place (plain_text p) ≡ false
plain_is_no_place plain.Init = refl
plain_is_no_place plain.Pred = refl
plain_is_no_place plain.Input = refl
plain_is_no_place plain.Output = refl
plain_is_no_place plain.Cond = refl
plain_is_no_place plain.Exec = refl
plain_is_no_place plain.Frame = refl
plain_is_no_place plain.Diff = refl
plain_is_no_place plain.Le = refl
plain_is_no_place plain.TsEq = refl
plain_is_no_place plain.IdxEq = refl
plain_is_no_place plain.Happens = refl
plain_is_no_place plain.ForallIndex = refl
plain_is_no_place plain.ForallTimestamp = refl
plain_is_no_place plain.ExistsIndex = refl
plain_is_no_place plain.ExistsTimestamp = refl

word_is_no_place : (w : Word) → is_place (word_text w) ≡ false
word_is_no_place (word.Plain p) = plain_is_no_place p
word_is_no_place (word.Free k) = refl
word_is_no_place (word.Bound k) = refl
word_is_no_place (word.Schema k) = refl
word_is_no_place (word.Find c) = refl
word_is_no_place (word.Action k n) = refl
word_is_no_place (word.Name k n) = refl
word_is_no_place (word.Function k n m) = refl

module _ {A : Type 0} (reader : Word → List (List ℕ) → Found A) where
  abbrev Written : Word → List (List ℕ) → Found (Spot A)
  Written h r = followed (reader h r) (λ a q. Some (written a, q))

  spot_at_head : (h : Word) (r : List (List ℕ)) → IsSmall h
      → spot reader (word_text h ∷ r) ≡ Written h r
  spot_at_head h r small =
      ap (λ b. (if b then placed (place_of (word_text h)) r
      else followed (as_found (word_of (word_text h)) r) Written)) (word_is_no_place h)
      ∙ ap (λ o. followed (as_found o r) Written) (word_reads h small)

  pub written_reads : (ws : List (List ℕ)) (a : A) (q : List (List ℕ))
      → followed (head_word ws) reader ≡ Some (a, q) → spot reader ws ≡ Some (written a, q)
  written_reads ws a q e =
      let p = first_part (head_word ws) reader a q e in
      let head = head_tells ws p.0 p.1 p.2 in
      ap (spot reader) head.0 ∙ spot_at_head p.0 p.1 head.1
      ∙ ap (λ f. followed f (λ a q. Some (written a, q))) p.3

  pub at_reads : (p : Place) (k : ℕ) (ws : List (List ℕ)) → place_fits p k ≡ true
      → spot reader (place_word p k ∷ ws) ≡ Some (at p k, ws)
  at_reads p k ws h =
      ap (λ b. (if b then placed (place_of (place_word p k)) ws
      else followed (as_found (word_of (place_word p k)) ws) Written)) (place_is p k)
      ∙ ap (λ o. placed o ws) (place_reads p k h)

  -- what a spot is that was read
  pub data TellsSpot (ws : List (List ℕ)) (s : Spot A) (q : List (List ℕ)) : Type 0 where
    placed_there : (p : Place) (k : ℕ) → ws ≡ place_word p k ∷ q → place_fits p k ≡ true
        → at p k ≡ s → TellsSpot ws s q
    written_out : (a : A) → followed (head_word ws) reader ≡ Some (a, q) → written a ≡ s
        → TellsSpot ws s q

  placed_tells : (w : List ℕ) (ws : List (List ℕ)) (s : Spot A) (q : List (List ℕ))
      (o : Option (Place × ℕ)) → place_of w ≡ o → placed o ws ≡ Some (s, q) → TellsSpot (w ∷ ws) s q
  placed_tells w ws s q None f e = cc
  placed_tells w ws s q (Some p) f e =
      let told = place_tells w p f in
      let same = same_found (at p.0 p.1, ws) (s, q) e in
      placed_there p.0 p.1 (λ i. told.0 i ∷ same.1 i) told.1 same.0

  out_tells : (w : List ℕ) (ws : List (List ℕ)) (s : Spot A) (q : List (List ℕ))
      → followed (as_found (word_of w) ws) Written ≡ Some (s, q) → TellsSpot (w ∷ ws) s q
  out_tells w ws s q e =
      let h = first_part (as_found (word_of w) ws) Written s q e in
      let a = first_part (reader h.0 h.1) (λ a q. Some (written a, q)) s q h.3 in
      let same = same_found (written a.0, a.1) (s, q) a.3 in
      written_out a.0
      (ap (λ f. followed f reader) h.2 ∙ a.2 ∙ ap (λ x. Some (a.0, x)) same.1) same.0

  pub spot_tells : (ws : List (List ℕ)) (s : Spot A) (q : List (List ℕ))
      → spot reader ws ≡ Some (s, q) → TellsSpot ws s q
  spot_tells [] s q e = cc
  spot_tells (w ∷ ws) s q e = by (is_place w) e
    where
      by : (b : Bool) → (if b then placed (place_of w) ws
          else followed (as_found (word_of w) ws) Written)
          ≡ Some (s, q) → TellsSpot (w ∷ ws) s q
      by true p = placed_tells w ws s q (place_of w) refl p
      by false p = out_tells w ws s q p
