-- A term with messages for its schema variables keeps its sort, and holds no Diff where neither the
-- term nor the messages do.
use Rattle.std.proofs.Common.{◌≡◌, ℕ, zero, suc, ◌-◌, ◌<◌, refl, ap, ◌∙◌, subst, List, [], ◌∷◌}
use Rattle.std.proofs.Common.{length, None, Bool, true, false, not, nat_lt, nat_le, unwrap_or}
use Rattle.std.proofs.Common.{arith}
use Rattle.std.specs.Prelude.{slice_get, if◌then◌else◌}
use Rattle.std.specs.List.{list_all}
use Rattle.std.proofs.lemmas.Bool.Decides.{nat_tests}
use Rattle.sq_base.specs.declared.sort.Sort.{Sort}
use Rattle.sq_base.specs.declared.sort.Sort.TheVariants.{Message, Index, Timestamp}
use Rattle.sq_term.specs.declared.term.Idx.{Idx}
use Rattle.sq_term.specs.declared.term.Idx.TheVariants.{Free, Bound}
use Rattle.sq_term.specs.Arguments.{ArgTree}
use Rattle.sq_term.specs.Syntax.{bound, TermTree, schema}
use Rattle.sq_term.proofs.BoolTests.{and_split}
use Rattle.sq_typing.specs.Diffs.{holds_diff}
use Rattle.sq_typing.specs.Typing.{Signature, has_sort_at, is_index, is_timestamp, has_sort}
use Rattle.sq_subst.specs.Leaves.{Leaves}
use Rattle.sq_subst.specs.Substitution.{index_or, time_or, substitution, instance_of}
use Rattle.sq_formula.proofs.ClosedSorts.{sorted-below}
use Rattle.sq_formula.proofs.KeptParts.{no_diff}
use Rattle.sq_formula.proofs.KeptSorts.{no_some, with_variables, sort_kept}

no_outer : (b : Bool) (n : ℕ) → (if b then slice_get {X = ArgTree} [] n else None) ≡ None
no_outer true n = refl
no_outer false n = refl

message_at : (p : TermTree → Bool) (ms : List TermTree) (k : ℕ) (d : TermTree)
    → list_all p ms ≡ true → nat_lt k (length ms) ≡ true → p (unwrap_or (slice_get ms k) d) ≡ true
message_at p [] k d h l = absurd (grind (arith, nat_tests))
message_at p (m ∷ ms) zero d h l = (and_split (p m) (list_all p ms) h).0
message_at p (m ∷ ms) (suc k) d h l =
    let i : suc k < suc (length ms) = grind (arith, nat_tests) in
    let j : nat_lt k (length ms) ≡ true = grind (arith, nat_tests) in
    message_at p ms k d (and_split (p m) (list_all p ms) h).1 j

-- of a term without variables, with n messages of h for its n schema variables
module _ (symbols : Signature) (n count : ℕ) (vars : List Sort) (ms : List TermTree)
    (many : length ms ≡ count)
    (sorted : list_all (has_sort (with_variables symbols n vars) [] Message) ms ≡ true) where
  abbrev g : Signature
  g = with_variables symbols count []

  abbrev h : Signature
  h = with_variables symbols n vars

  abbrev put : Leaves
  put = substitution [] [] ms

  index_kept : (m : ℕ) (bs cs : List Sort) (i : Idx) → bs ≡ cs → is_index g bs i ≡ true
      → is_index h cs (put.index m i) ≡ true
  index_kept m bs cs (Free k) r e = let z : false ≡ true = e in absurd (cc)
  index_kept m bs cs (Bound k) r e =
      ap (λ o. is_index h cs (index_or o (Bound k))) (no_outer (nat_le m k) (k - m))
      ∙ subst (λ xs. has_sort_at xs k Index ≡ true) r e

  time_kept : (m k : ℕ) (bs cs : List Sort) → bs ≡ cs → has_sort_at bs k Timestamp ≡ true
      → is_timestamp h cs (put.bound_time m k) ≡ true
  time_kept m k bs cs r e =
      ap (λ o. is_timestamp h cs (time_or o (bound k))) (no_outer (nat_le m k) (k - m))
      ∙ subst (λ xs. has_sort_at xs k Timestamp ≡ true) r e

  no_time : (m k : ℕ) (bs cs : List Sort) → bs ≡ cs → has_sort_at g.vars k Timestamp ≡ true
      → is_timestamp h cs (put.free_time m k) ≡ true
  no_time m k bs cs r e = let z : false ≡ true = e in absurd (cc)

  message_kept : (m k : ℕ) (bs cs : List Sort) → bs ≡ cs → nat_lt k g.schemas ≡ true
      → has_sort h cs Message (put.message m k) ≡ true
  message_kept m k bs cs r e =
      sorted-below (with_variables symbols n vars) cs Message
      (unwrap_or (slice_get ms k) (schema k))
      (message_at (has_sort h [] Message) ms k (schema k) sorted (ap (nat_lt k) many ∙ e))

  pub instance_sort : (s : Sort) (t : TermTree) → has_sort g [] s t ≡ true
      → has_sort h [] s (instance_of [] ms t) ≡ true
  instance_sort s t e =
      sort_kept put g n vars (λ m bs cs. bs ≡ cs)
      (λ m bs cs b r. ap (λ xs. b ∷ xs) r) index_kept no_time time_kept message_kept
      (λ m bs cs t u r q p. no_some u p) (λ m bs cs s t u r q p. no_some u p) t 0 [] [] s refl e

none_at : (ms : List TermTree) (k : ℕ) (d : TermTree) → list_all (λ t. not (holds_diff t)) ms ≡ true
    → holds_diff d ≡ false → holds_diff (unwrap_or (slice_get ms k) d) ≡ false
none_at [] k d h e = e
none_at (m ∷ ms) zero d h e = is_none (holds_diff m) (and_split (not (holds_diff m)) _ h).0
  where
    is_none : (b : Bool) → not b ≡ true → b ≡ false
    is_none true i = cc
    is_none false i = refl
none_at (m ∷ ms) (suc k) d h e = none_at ms k d (and_split (not (holds_diff m)) _ h).1 e

pub instance_no_diff : (ms : List TermTree) (t : TermTree)
    → list_all (λ u. not (holds_diff u)) ms ≡ true → not (holds_diff t) ≡ true
    → not (holds_diff (instance_of [] ms t)) ≡ true
instance_no_diff ms t h e =
    ap not (no_diff (substitution [] [] ms) (λ m k. none_at ms k (schema k) h refl)
    (λ t u q. no_some u q) t 0 (λ q. is_none (holds_diff t) e))
  where
    is_none : (b : Bool) → not b ≡ true → b ≡ false
    is_none true i = cc
    is_none false i = refl
