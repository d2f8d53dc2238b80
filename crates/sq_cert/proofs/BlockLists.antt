-- The lines of blocks: no newline stands in one, and each list of lines is that of one list of
-- blocks.
use Rattle.std.proofs.Common.{◌≡◌, ◌≢◌, ◌<◌, ◌^◌, ℕ, Bool, true, false, ◌&&◌}
use Rattle.std.proofs.Common.{not, nat_eq, nat_lt, List, [], ◌∷◌, ◌++◌, map, length, codes, refl}
use Rattle.std.proofs.Common.{sym}
use Rattle.std.proofs.Common.{ap, ◌∙◌, append_assoc, append-nil, arith}
use Rattle.std.specs.List.{list_all}
use Rattle.std.proofs.lemmas.Bool.Decides.{nat_tests}
use Rattle.std.proofs.lemmas.List.{length-map}
use Rattle.sq_token.specs.Kinds.{is_identifier}
use Rattle.sq_step.specs.declared.step.Step.{Step}
use Rattle.sq_cert_steps.specs.Lines.{step_line, is_spelled}
use Rattle.sq_cert_steps.proofs.Inverse.{line-same}
use Rattle.sq_cert.specs.Certificates.{Block, goal_line, block_lines, blocks_lines}
use Rattle.sq_cert.specs.Certificates.{header, certificate_lines, is_block_spelled, are_spelled}
use Rattle.sq_cert.proofs.LineLists.{both, and_true, HasNoNewline, AreLines, are_lines-append}
use Rattle.sq_cert.proofs.LineLists.{append_same}
use Rattle.sq_cert.proofs.GoalLines.{goal_no_newline, goal_same}
use Rattle.sq_cert.proofs.StepLines.{step_no_newline}

-- ---- what is spelled

pub record Spelled (b : Block) : Type 0 where
  pub named : is_identifier b.0 ≡ true
  pub few : length b.1 < 2 ^ 64
  pub steps : list_all is_spelled b.1 ≡ true

pub spelled_parts : (b : Block) → is_block_spelled b ≡ true → Spelled b
spelled_parts b h =
    let named =
    both (is_identifier b.0)
    (nat_lt (length b.1) 18446744073709551616 && list_all is_spelled b.1) h in
    let steps = both (nat_lt (length b.1) 18446744073709551616) (list_all is_spelled b.1) named.1 in
    let few = steps.0 in
    record { named = named.0; few = grind (arith, nat_tests); steps = steps.1 }

pub spelled_block : (b : Block) → Spelled b → is_block_spelled b ≡ true
spelled_block b s =
    let few = s.few in
    let small : nat_lt (length b.1) 18446744073709551616 ≡ true = grind (arith, nat_tests) in
    and_true (is_identifier b.0)
    (nat_lt (length b.1) 18446744073709551616 && list_all is_spelled b.1) s.named
    (and_true (nat_lt (length b.1) 18446744073709551616) (list_all is_spelled b.1) small s.steps)

-- ---- no newline stands in a line

letters_no_newline : (l : List ℕ) → list_all (λ c. not (nat_eq c 10)) l ≡ true → HasNoNewline l
letters_no_newline [] h = tt
letters_no_newline (c ∷ cs) h =
    let fit = both (not (nat_eq c 10)) (list_all (λ c. not (nat_eq c 10)) cs) h in
    (letter (nat_eq c 10) fit.0, letters_no_newline cs fit.1)
  where
    letter : (b : Bool) → not b ≡ true → b ≡ false
    letter true e = cc
    letter false e = refl

steps_are_lines : (ss : List Step) → list_all is_spelled ss ≡ true → AreLines (map step_line ss)
steps_are_lines [] h = tt
steps_are_lines (s ∷ ss) h =
    let fit = both (is_spelled s) (list_all is_spelled ss) h in
    (step_no_newline s fit.0, steps_are_lines ss fit.1)

blocks_are_lines : (bs : List Block) → are_spelled bs ≡ true → AreLines (blocks_lines bs)
blocks_are_lines [] h = (letters_no_newline (codes "end") refl, tt)
blocks_are_lines (b ∷ more) h =
    let fit = both (is_block_spelled b) (are_spelled more) h in
    let own = spelled_parts b fit.0 in
    are_lines-append (block_lines b) (blocks_lines more)
    (goal_no_newline b.0 (length b.1) own.named own.few, steps_are_lines b.1 own.steps)
    (blocks_are_lines more fit.1)

pub certificate_are_lines : (bs : List Block) → are_spelled bs ≡ true
    → AreLines (certificate_lines bs)
certificate_are_lines bs h = (letters_no_newline header refl, blocks_are_lines bs h)

-- ---- the blocks in front of a line

-- the lines of blocks without the end line
abbrev pub heads : List Block → List (List ℕ)
heads [] = []
heads (b ∷ more) = block_lines b ++ heads more

pub blocks_lines-heads : (bs more : List Block)
    → blocks_lines (bs ++ more) ≡ heads bs ++ blocks_lines more
blocks_lines-heads [] more = refl
blocks_lines-heads (b ∷ bs) more =
    ap (λ x. block_lines b ++ x) (blocks_lines-heads bs more)
    ∙ sym (append_assoc (block_lines b) (heads bs) (blocks_lines more))

pub heads-push : (bs : List Block) (b : Block) → heads (bs ++ b ∷ []) ≡ heads bs ++ block_lines b
heads-push [] b = append-nil (block_lines b)
heads-push (c ∷ bs) b =
    ap (λ x. block_lines c ++ x) (heads-push bs b)
    ∙ sym (append_assoc (block_lines c) (heads bs) (block_lines b))

steps_same : (ss ts : List Step) → list_all is_spelled ss ≡ true → list_all is_spelled ts ≡ true
    → map step_line ss ≡ map step_line ts → ss ≡ ts
steps_same [] [] hs ht e = refl
steps_same [] (t ∷ ts) hs ht e = cc
steps_same (s ∷ ss) [] hs ht e = cc
steps_same (s ∷ ss) (t ∷ ts) hs ht e =
    let fs = both (is_spelled s) (list_all is_spelled ss) hs in
    let ft = both (is_spelled t) (list_all is_spelled ts) ht in
    let line : step_line s ≡ step_line t = cc in
    let lines : map step_line ss ≡ map step_line ts = cc in
    let first = line-same s t fs.0 ft.0 line in
    let others = steps_same ss ts fs.1 ft.1 lines in
    λ i. first i ∷ others i

pub end_no_goal : (name : List ℕ) (n : ℕ) → codes "end" ≢ goal_line name n
end_no_goal name n e = cc

-- the first block of two lists that begin with the same lines
block_same : (b c : Block) (x y : List (List ℕ)) → Spelled b → Spelled c
    → block_lines b ++ x ≡ block_lines c ++ y → (b ≡ c) × (x ≡ y)
block_same b c x y hb hc e =
    let line : goal_line b.0 (length b.1) ≡ goal_line c.0 (length c.1) = cc in
    let lines : map step_line b.1 ++ x ≡ map step_line c.1 ++ y = cc in
    let goal = goal_same b.0 c.0 (length b.1) (length c.1) hb.named hb.few hc.named hc.few line in
    let count = goal.1 in
    let counts : length (map step_line b.1) ≡ length (map step_line c.1) =
    length-map b.1 step_line ∙ count ∙ sym (length-map c.1 step_line) in
    let rest = append_same (map step_line b.1) (map step_line c.1) x y counts lines in
    let steps = steps_same b.1 c.1 hb.steps hc.steps rest.0 in
    ((λ i. (goal.0 i, steps i)), rest.1)

-- what follows some blocks in a list of blocks whose lines begin with theirs
pub record Behind (cs bs : List Block) (y : List (List ℕ)) : Type 0 where
  pub more : List Block
  pub whole : bs ≡ cs ++ more
  pub lines : blocks_lines more ≡ y
  pub spelled : are_spelled more ≡ true

pub behind_heads : (cs bs : List Block) (y : List (List ℕ)) → are_spelled cs ≡ true
    → are_spelled bs ≡ true → blocks_lines bs ≡ heads cs ++ y → Behind cs bs y
behind_heads [] bs y hc hb e = record { more = bs; whole = refl; lines = e; spelled = hb }
behind_heads (c ∷ cs) [] y hc hb e =
    let line : codes "end" ≡ goal_line c.0 (length c.1) = cc in
    absurd (end_no_goal c.0 (length c.1) line)
behind_heads (c ∷ cs) (b ∷ bs) y hc hb e =
    let fc = both (is_block_spelled c) (are_spelled cs) hc in
    let fb = both (is_block_spelled b) (are_spelled bs) hb in
    let first =
    block_same b c (blocks_lines bs) (heads cs ++ y) (spelled_parts b fb.0) (spelled_parts c fc.0)
    (e ∙ append_assoc (block_lines c) (heads cs) y) in
    let rest = behind_heads cs bs y fc.1 fb.1 first.1 in
    record {
      more = rest.more;
      whole = λ i. first.0 i ∷ rest.whole i;
      lines = rest.lines;
      spelled = rest.spelled;
    }

-- ---- whole certificates

-- no certificate goes on behind another one
pub certificate_alone : (bs cs : List Block) (more : List (List ℕ)) → are_spelled bs ≡ true
    → are_spelled cs ≡ true → certificate_lines bs ≡ certificate_lines cs ++ more
    → (bs ≡ cs) × (more ≡ [])
certificate_alone bs cs more hb hc e =
    let lines : blocks_lines bs ≡ blocks_lines cs ++ more = cc in
    let ends : blocks_lines cs ≡ heads cs ++ codes "end" ∷ [] =
    ap blocks_lines (sym (append-nil cs)) ∙ blocks_lines-heads cs [] in
    let all : blocks_lines bs ≡ heads cs ++ codes "end" ∷ more =
    lines ∙ ap (λ x. x ++ more) ends ∙ append_assoc (heads cs) (codes "end" ∷ []) more in
    by (behind_heads cs bs (codes "end" ∷ more) hc hb all)
  where
    at_end : (ds : List Block) → bs ≡ cs ++ ds → blocks_lines ds ≡ codes "end" ∷ more
        → (bs ≡ cs) × (more ≡ [])
    at_end [] whole same = (whole ∙ append-nil cs, cc)
    at_end (d ∷ ds) whole same =
        let line : codes "end" ≡ goal_line d.0 (length d.1) = cc in
        absurd (end_no_goal d.0 (length d.1) line)

    by : Behind cs bs (codes "end" ∷ more) → (bs ≡ cs) × (more ≡ [])
    by b = at_end b.more b.whole b.lines
