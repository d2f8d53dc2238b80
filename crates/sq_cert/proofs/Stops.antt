-- Where the reader of a certificate stops, told by the blocks that it has read.
use Rattle.std.proofs.Common.{◌≡◌, ◌≢◌, ◌<◌, ◌^◌, ◌+◌, ◌-◌, ℕ, zero, suc, true, List}
use Rattle.std.proofs.Common.{[]}
use Rattle.std.proofs.Common.{◌∷◌, ◌++◌, map, length, replicate, codes, refl, sym, ap, ◌∙◌, IsTrue}
use Rattle.std.proofs.Common.{IfOk, IfErr, IsErrAnd, MatchResult, Result, Ok, Err, subst}
use Rattle.std.proofs.Common.{append_assoc, append-nil, length-append, arith}
use Rattle.std.specs.List.{list_all}
use Rattle.std.proofs.lemmas.List.{map-append, length-map, length-replicate}
use Rattle.sq_token.specs.Kinds.{is_identifier}
use Rattle.sq_step.specs.declared.step.Step.{Step}
use Rattle.sq_step.specs.declared.step.Step.TheVariants as step
use Rattle.sq_cert_steps.specs.Lines.{step_line, is_spelled}
use Rattle.sq_cert.specs.declared.fault.ReadFault.{ReadFault}
use Rattle.sq_cert.specs.declared.fault.ReadFault.TheVariants.{Truncated, Trailing, BadStep}
use Rattle.sq_cert.specs.declared.fault.ReadFault.TheVariants.{NoMemory}
use Rattle.sq_cert.specs.Certificates.{Block, lines_text, goal_line, block_lines, blocks_lines}
use Rattle.sq_cert.specs.Certificates.{header}
use Rattle.sq_cert.specs.Certificates.{certificate_lines, certificate, is_block_spelled}
use Rattle.sq_cert.specs.Certificates.{are_spelled}
use Rattle.sq_cert.specs.Certificates.{are_writable, IsGoalLine}
use Rattle.sq_cert.specs.Refusals.{IsOneLine, GoesOn, HasNoForm, HasNoStep, HasNoGoal, IsTrailing}
use Rattle.sq_cert.specs.Refusals.{IsBadStep, IsRefused}
use Rattle.sq_cert.specs.Progress.{TakesSteps, StopsInSteps, TakesBlock, StopsInBlock, no_memory}
use Rattle.sq_cert.specs.Progress.{at_goal, in_steps}
use Rattle.sq_cert.proofs.LineLists.{both, and_true, list_all-joined, lines_text-append}
use Rattle.sq_cert.proofs.GoalLines.{goal_same}
use Rattle.sq_cert.proofs.BlockLists.{Spelled, spelled_parts, spelled_block, heads}
use Rattle.sq_cert.proofs.BlockLists.{blocks_lines-heads}
use Rattle.sq_cert.proofs.BlockLists.{heads-push, end_no_goal, behind_heads}
use Rattle.sq_cert.proofs.Writables.{spelled-blocks-writable}

-- ---- one step further in the steps of a goal

pub no_steps : (text : List ℕ) → TakesSteps [] text text
no_steps text = record { spelled = refl; whole = refl }

pub steps-more : (steps more : List Step) (s : Step) (text left line rest : List ℕ)
    → TakesSteps steps text left → left ≡ line ++ 10 ∷ rest → step_line s ≡ line
    → is_spelled s ≡ true → more ≡ steps ++ s ∷ [] → TakesSteps more text rest
steps-more steps more s text left line rest h cut same fits pushed =
    let lines : lines_text (map step_line more)
    ≡ lines_text (map step_line steps) ++ (step_line s ++ 10 ∷ []) =
    ap (λ x. lines_text (map step_line x)) pushed
    ∙ ap lines_text (map-append step_line steps (s ∷ []))
    ∙ lines_text-append (map step_line steps) (step_line s ∷ []) in
    record {
      spelled = ap (list_all is_spelled) pushed
          ∙ list_all-joined is_spelled steps (s ∷ []) h.spelled
          (and_true (is_spelled s) true fits refl);
      whole = h.whole ∙ ap (λ x. lines_text (map step_line steps) ++ x) cut
          ∙ ap (λ x. lines_text (map step_line steps) ++ (x ++ 10 ∷ rest)) (sym same)
          ∙ ap (λ x. lines_text (map step_line steps) ++ x)
          (sym (append_assoc (step_line s) (10 ∷ []) rest))
          ∙ sym (append_assoc (lines_text (map step_line steps)) (step_line s ++ 10 ∷ []) rest)
          ∙ ap (λ x. x ++ rest) (sym lines);
    }

-- no further line is whole
pub steps-short : (steps : List Step) (text left : List ℕ) (owed before : ℕ) (e : ReadFault)
    → TakesSteps steps text left → length steps < owed → e ≡ Truncated → IsOneLine left
    → StopsInSteps owed before text e
steps-short steps text left owed before e h fewer cause one =
    subst (StopsInSteps owed before text) (sym cause)
    (record { steps = steps; rest = left; fewer = fewer; taken = h; unfinished = one })

-- the next line is no step
pub steps-refused : (steps : List Step) (text left line rest : List ℕ) (owed before number : ℕ)
    (e : ReadFault) → TakesSteps steps text left → left ≡ line ++ 10 ∷ rest → IsOneLine line
    → length steps < owed → number ≡ before + length steps + 1
    → (e ≢ NoMemory → (e ≡ BadStep number) × HasNoStep line)
    → StopsInSteps owed before text e
steps-refused steps text left line rest owed before number NoMemory h cut one fewer count cause = tt
steps-refused steps text left line rest owed before number Truncated h cut one fewer count cause =
    let other : Truncated ≢ NoMemory = λ q. cc in let bad = (cause other).0 in cc
steps-refused steps text left line rest owed before number (Trailing n) h cut one fewer count
    cause =
    let other : Trailing n ≢ NoMemory = λ q. cc in let bad = (cause other).0 in cc
steps-refused steps text left line rest owed before number (BadStep n) h cut one fewer count cause =
    let other : BadStep n ≢ NoMemory = λ q. cc in
    let bad = cause other in
    let same : n ≡ number = cc in
    record {
      steps = steps;
      line = line;
      rest = rest;
      fewer = fewer;
      taken = subst (λ x. TakesSteps steps text x) cut h;
      one_line = one;
      refused = bad.1;
      counted = same ∙ count;
    }

pub ruleset steps_rules = (no_steps, steps-more, steps-short, steps-refused)

-- what `?` hands on is refused where its error is
pub refusal-stops : {X : Type 0} (r : Result X ReadFault) (text : List ℕ) (e : ReadFault)
    → IsErrAnd r (λ f. f ≡ e) → IsRefused text e → IfErr r (IsRefused text)
refusal-stops (Ok x) text e h s = tt
refusal-stops (Err f) text e h s = subst (IsRefused text) (sym h) s

-- ---- the state between two blocks

-- these blocks stand behind the first line, and so many lines were taken with it
pub record TakesBlocks (blocks : List Block) (taken : ℕ) (text rest : List ℕ) : Type 0 where
  pub spelled : are_spelled blocks ≡ true
  pub counted : taken ≡ 1 + length (heads blocks)
  pub whole : text ≡ lines_text (heads blocks) ++ rest

pub no_blocks : (taken : ℕ) (text : List ℕ) → taken ≡ 1 → TakesBlocks [] taken text text
no_blocks taken text h = record { spelled = refl; counted = omega arith; whole = refl }

heads_open : (bs : List Block) → are_spelled bs ≡ true → GoesOn (header ∷ heads bs)
heads_open bs h =
    record {
      blocks = bs;
      next = codes "end";
      more = [];
      spelled = h;
      lines = ap (λ x. header ∷ x)
          (ap blocks_lines (sym (append-nil bs)) ∙ blocks_lines-heads bs []);
    }

-- the text with its first line
begun : (bs : List Block) (text rest : List ℕ) → text ≡ lines_text (heads bs) ++ rest
    → header ++ 10 ∷ text ≡ lines_text (header ∷ heads bs) ++ rest
begun bs text rest e = ap (λ x. header ++ 10 ∷ x) e

pub blocks-short : (bs : List Block) (taken : ℕ) (text left : List ℕ) (e : ReadFault)
    → TakesBlocks bs taken text left → e ≡ Truncated → IsOneLine left
    → IsRefused (header ++ 10 ∷ text) e
blocks-short bs taken text left e h cause one =
    subst (IsRefused (header ++ 10 ∷ text)) (sym cause)
    (record {
      front = header ∷ heads bs;
      rest = left;
      whole = begun bs text left h.whole;
      unfinished = one;
      open_front = heads_open bs h.spelled;
    })

-- ---- at the end line

at_end : (bs : List Block) (text line rest : List ℕ)
    → text ≡ lines_text (heads bs) ++ (line ++ 10 ∷ rest)
    → line ≡ codes "end" → header ++ 10 ∷ text ≡ certificate bs ++ rest
at_end bs text line rest e word =
    let lines : blocks_lines bs ≡ heads bs ++ codes "end" ∷ [] =
    ap blocks_lines (sym (append-nil bs)) ∙ blocks_lines-heads bs [] in
    let whole : lines_text (blocks_lines bs) ≡ lines_text (heads bs) ++ (codes "end" ++ 10 ∷ []) =
    ap lines_text lines ∙ lines_text-append (heads bs) (codes "end" ∷ []) in
    ap (λ x. header ++ 10 ∷ x)
    (e ∙ ap (λ x. lines_text (heads bs) ++ (x ++ 10 ∷ rest)) word
    ∙ sym (append_assoc (lines_text (heads bs)) (codes "end" ++ 10 ∷ []) rest)
    ∙ ap (λ x. x ++ rest) (sym whole))

ends_whole : (bs : List Block) (taken : ℕ) (text line rest : List ℕ)
    → TakesBlocks bs taken text (line ++ 10 ∷ rest) → line ≡ codes "end" → rest ≡ []
    → certificate bs ≡ header ++ 10 ∷ text
ends_whole bs taken text line rest h word none =
    sym (at_end bs text line rest h.whole word ∙ ap (λ x. certificate bs ++ x) none
    ∙ append-nil (certificate bs))

ends_early : (bs : List Block) (taken : ℕ) (text line rest : List ℕ)
    → TakesBlocks bs taken text (line ++ 10 ∷ rest) → line ≡ codes "end" → rest ≢ []
    → IsTrailing (header ++ 10 ∷ text) (taken + 2)
ends_early bs taken text line rest h word some =
    let lines : blocks_lines bs ≡ heads bs ++ codes "end" ∷ [] =
    ap blocks_lines (sym (append-nil bs)) ∙ blocks_lines-heads bs [] in
    record {
      blocks = bs;
      rest = rest;
      spelled = h.spelled;
      whole = at_end bs text line rest h.whole word;
      some = some;
      counted = omega (
        arith,
        h.counted,
        ap length lines,
        length-append (heads bs) (codes "end" ∷ []),
      );
    }

-- what is answered at the end line
abbrev Finished : Result (List Block) ReadFault → List Block → ℕ → List ℕ → Type 0
Finished r bs after rest =
    MatchResult r (λ found. (found ≡ bs) × (rest ≡ []))
    (λ e. (e ≡ Trailing (after + 1)) × (rest ≢ []))

pub blocks-end : (r : Result (List Block) ReadFault) (bs : List Block) (taken after : ℕ)
    (text left line rest : List ℕ) → TakesBlocks bs taken text left → left ≡ line ++ 10 ∷ rest
    → line ≡ codes "end" → after ≡ taken + 1 → Finished r bs after rest
    → IfOk r (λ found. (certificate found ≡ header ++ 10 ∷ text) × IsTrue (are_spelled found))
blocks-end (Ok found) bs taken after text left line rest h cut word count f =
    let here : TakesBlocks bs taken text (line ++ 10 ∷ rest) =
    subst (λ x. TakesBlocks bs taken text x) cut h in (
      ap certificate f.0 ∙ ends_whole bs taken text line rest here word f.1,
      ap are_spelled f.0 ∙ h.spelled,
    )
blocks-end (Err e) bs taken after text left line rest h cut word count f = tt

pub blocks-trailing : (r : Result (List Block) ReadFault) (bs : List Block) (taken after : ℕ)
    (text left line rest : List ℕ) → TakesBlocks bs taken text left → left ≡ line ++ 10 ∷ rest
    → line ≡ codes "end" → after ≡ taken + 1 → Finished r bs after rest
    → IfErr r (IsRefused (header ++ 10 ∷ text))
blocks-trailing (Ok found) bs taken after text left line rest h cut word count f = tt
blocks-trailing (Err e) bs taken after text left line rest h cut word count f =
    let here : TakesBlocks bs taken text (line ++ 10 ∷ rest) =
    subst (λ x. TakesBlocks bs taken text x) cut h in
    let number : after + 1 ≡ taken + 2 = omega arith in
    subst (IsRefused (header ++ 10 ∷ text)) (sym (f.0 ∙ ap Trailing number))
    (ends_early bs taken text line rest here word f.1)

-- ---- at a line that is neither

refused_goal : (bs : List Block) (taken : ℕ) (text line rest : List ℕ)
    → TakesBlocks bs taken text (line ++ 10 ∷ rest) → IsOneLine line → line ≢ codes "end"
    → HasNoGoal line → IsBadStep (header ++ 10 ∷ text) (taken + 1)
refused_goal bs taken text line rest h one other none =
    record {
      front = header ∷ heads bs;
      line = line;
      rest = rest;
      whole = begun bs text (line ++ 10 ∷ rest) h.whole;
      one_line = one;
      open_front = heads_open bs h.spelled;
      refused = λ cs more hs e. refused cs more hs e;
      counted = omega (arith, h.counted);
    }
  where
    at_more : (ds : List Block) (more : List (List ℕ)) → are_spelled ds ≡ true
        → blocks_lines ds ≡ line ∷ more → ⊥
    at_more [] more hd e = let same : codes "end" ≡ line = cc in other (sym same)
    at_more (d ∷ ds) more hd e =
        let fit = both (is_block_spelled d) (are_spelled ds) hd in
        let own = spelled_parts d fit.0 in
        let same : goal_line d.0 (length d.1) ≡ line = cc in
        none d.0 (length d.1) own.named own.few same

    refused : (cs : List Block) (more : List (List ℕ)) → are_spelled cs ≡ true
        → certificate_lines cs ≢ (header ∷ heads bs) ++ line ∷ more
    refused cs more hs e =
        let lines : blocks_lines cs ≡ heads bs ++ line ∷ more = cc in
        let behind = behind_heads bs cs (line ∷ more) h.spelled hs lines in
        at_more behind.more more behind.spelled behind.lines

-- ---- among the steps of a goal

-- a step where one is owed
filled : ℕ → List Step
filled k = replicate k step.True

filled_spelled : (k : ℕ) → list_all is_spelled (replicate k step.True) ≡ true
filled_spelled zero = refl
filled_spelled (suc k) = filled_spelled k

-- the goal line and fewer steps than it owes may stand behind some blocks
steps_open : (bs : List Block) (name : List ℕ) (count : ℕ) (ss : List Step) → are_spelled bs ≡ true
    → is_identifier name ≡ true → count < 2 ^ 64 → list_all is_spelled ss ≡ true
    → length ss < count
    → GoesOn (header ∷ (heads bs ++ goal_line name count ∷ map step_line ss))
steps_open bs name count ss h named few fits fewer =
    let k : ℕ = count - length ss - 1 in
    let all : List Step = ss ++ step.True ∷ replicate k step.True in
    let size : length all ≡ count =
    omega (
      arith,
      length-append ss (step.True ∷ replicate k step.True),
      length-replicate k step.True,
    ) in
    let own : list_all is_spelled all ≡ true =
    list_all-joined is_spelled ss (step.True ∷ replicate k step.True) fits (filled_spelled k) in
    let b : Block = (name, all) in
    let b_fits : Spelled b = record { named = named; few = omega arith; steps = own } in
    let rest : List (List ℕ) = map step_line (replicate k step.True) ++ codes "end" ∷ [] in
    let lines : map step_line all ++ codes "end" ∷ []
    ≡ map step_line ss ++ step_line step.True ∷ rest =
    ap (λ x. x ++ codes "end" ∷ []) (map-append step_line ss (step.True ∷ replicate k step.True))
    ∙ append_assoc (map step_line ss) (step_line step.True ∷ map step_line (replicate k step.True))
    (codes "end" ∷ []) in
    let block : blocks_lines (b ∷ [])
    ≡ goal_line name count ∷ (map step_line ss ++ step_line step.True ∷ rest) =
    λ i. goal_line name (size i) ∷ lines i in
    record {
      blocks = bs ++ b ∷ [];
      next = step_line step.True;
      more = rest;
      spelled = list_all-joined is_block_spelled bs (b ∷ []) h
          (and_true (is_block_spelled b) true (spelled_block b b_fits) refl);
      lines = ap (λ x. header ∷ x)
          (blocks_lines-heads bs (b ∷ []) ∙ ap (λ x. heads bs ++ x) block
          ∙ sym (append_assoc (heads bs) (goal_line name count ∷ map step_line ss)
          (step_line step.True ∷ rest)));
    }

-- the text with the goal line and the steps behind it
steps_whole : (bs : List Block) (name : List ℕ) (count : ℕ) (ss : List Step)
    (text behind rest : List ℕ)
    → text ≡ lines_text (heads bs) ++ (goal_line name count ++ 10 ∷ behind)
    → TakesSteps ss behind rest
    → header ++ 10 ∷ text
    ≡ lines_text (header ∷ (heads bs ++ goal_line name count ∷ map step_line ss)) ++ rest
steps_whole bs name count ss text behind rest e h =
    let own : List ℕ = lines_text (map step_line ss) in
    ap (λ x. header ++ 10 ∷ x)
    (e ∙ ap (λ x. lines_text (heads bs) ++ (goal_line name count ++ 10 ∷ x)) h.whole
    ∙ ap (λ x. lines_text (heads bs) ++ x)
    (sym (append_assoc (goal_line name count) (10 ∷ own) rest))
    ∙ sym (append_assoc (lines_text (heads bs)) (goal_line name count ++ 10 ∷ own) rest)
    ∙ ap (λ x. x ++ rest)
    (sym (lines_text-append (heads bs) (goal_line name count ∷ map step_line ss))))

-- a line behind fewer steps than there are is that of a step
step_there : (ts ss : List Step) (line : List ℕ) (x y : List (List ℕ)) → length ss < length ts
    → list_all is_spelled ts ≡ true → map step_line ts ++ x ≡ map step_line ss ++ line ∷ y
    → HasNoStep line → ⊥
step_there [] ss line x y fewer fits e none = omega arith
step_there (t ∷ ts) [] line x y fewer fits e none =
    let fit = both (is_spelled t) (list_all is_spelled ts) fits in
    let same : step_line t ≡ line = cc in
    none t fit.0 same
step_there (t ∷ ts) (s ∷ ss) line x y fewer fits e none =
    let fit = both (is_spelled t) (list_all is_spelled ts) fits in
    let rest : map step_line ts ++ x ≡ map step_line ss ++ line ∷ y = cc in
    step_there ts ss line x y (omega arith) fit.1 rest none

no_step_form : (bs : List Block) (name : List ℕ) (count : ℕ) (ss : List Step) (line : List ℕ)
    → are_spelled bs ≡ true → is_identifier name ≡ true → count < 2 ^ 64 → length ss < count
    → HasNoStep line
    → HasNoForm (header ∷ (heads bs ++ goal_line name count ∷ map step_line ss)) line
no_step_form bs name count ss line h named few fewer none cs more hs e =
    let all : blocks_lines cs
    ≡ heads bs ++ goal_line name count ∷ (map step_line ss ++ line ∷ more) =
    under ∙ append_assoc (heads bs) (goal_line name count ∷ map step_line ss) (line ∷ more) in
    let behind =
    behind_heads bs cs (goal_line name count ∷ (map step_line ss ++ line ∷ more)) h hs all in
    at_more behind.more behind.spelled behind.lines
  where
    under : blocks_lines cs ≡ (heads bs ++ goal_line name count ∷ map step_line ss) ++ line ∷ more
    under = cc

    at_more : (ds : List Block) → are_spelled ds ≡ true
        → blocks_lines ds ≡ goal_line name count ∷ (map step_line ss ++ line ∷ more) → ⊥
    at_more [] hd q =
        let same : codes "end" ≡ goal_line name count = cc in end_no_goal name count same
    at_more (d ∷ ds) hd q =
        let fit = both (is_block_spelled d) (are_spelled ds) hd in
        let own = spelled_parts d fit.0 in
        let goal : goal_line d.0 (length d.1) ≡ goal_line name count = cc in
        let rest : map step_line d.1 ++ blocks_lines ds ≡ map step_line ss ++ line ∷ more = cc in
        let same = goal_same d.0 name (length d.1) count own.named own.few named few goal in
        let count_is = same.1 in
        step_there d.1 ss line (blocks_lines ds) more (omega arith) own.steps rest none

lines_count : (bs : List Block) (name : List ℕ) (count : ℕ) (ss : List Step)
    → length (header ∷ (heads bs ++ goal_line name count ∷ map step_line ss))
    ≡ 2 + length (heads bs) + length ss
lines_count bs name count ss =
    omega (
      arith,
      length-append (heads bs) (goal_line name count ∷ map step_line ss),
      length-map ss step_line,
    )

refused_steps : (bs : List Block) (taken : ℕ) (name : List ℕ) (count : ℕ) (text behind : List ℕ)
    (e : ReadFault) → TakesBlocks bs taken text (goal_line name count ++ 10 ∷ behind)
    → is_identifier name ≡ true → count < 2 ^ 64 → StopsInSteps count (taken + 1) behind e
    → IsRefused (header ++ 10 ∷ text) e
refused_steps bs taken name count text behind Truncated h named few s =
    record {
      front = header ∷ (heads bs ++ goal_line name count ∷ map step_line s.steps);
      rest = s.rest;
      whole = steps_whole bs name count s.steps text behind s.rest h.whole s.taken;
      unfinished = s.unfinished;
      open_front = steps_open bs name count s.steps h.spelled named few s.taken.spelled s.fewer;
    }
refused_steps bs taken name count text behind (Trailing n) h named few s = absurd s
refused_steps bs taken name count text behind (BadStep n) h named few s =
    record {
      front = header ∷ (heads bs ++ goal_line name count ∷ map step_line s.steps);
      line = s.line;
      rest = s.rest;
      whole = steps_whole bs name count s.steps text behind (s.line ++ 10 ∷ s.rest) h.whole s.taken;
      one_line = s.one_line;
      open_front = steps_open bs name count s.steps h.spelled named few s.taken.spelled s.fewer;
      refused = no_step_form bs name count s.steps s.line h.spelled named few s.fewer s.refused;
      counted = omega (arith, s.counted, h.counted, lines_count bs name count s.steps);
    }
refused_steps bs taken name count text behind NoMemory h named few s = tt

pub blocks-refused : (bs : List Block) (taken after : ℕ) (text left line rest : List ℕ)
    (e : ReadFault) → TakesBlocks bs taken text left → left ≡ line ++ 10 ∷ rest → IsOneLine line
    → line ≢ codes "end" → after ≡ taken + 1 → StopsInBlock line after rest e
    → IsRefused (header ++ 10 ∷ text) e
blocks-refused bs taken after text left line rest e h cut one other count (no_memory cause) =
    subst (IsRefused (header ++ 10 ∷ text)) (sym cause) tt
blocks-refused bs taken after text left line rest e h cut one other count (at_goal cause none) =
    subst (IsRefused (header ++ 10 ∷ text)) (sym (cause ∙ ap BadStep count))
    (refused_goal bs taken text line rest (subst (λ x. TakesBlocks bs taken text x) cut h) one
    other none)
blocks-refused bs taken after text left line rest e h cut one other count
    (in_steps name owed goal s) =
    let here : TakesBlocks bs taken text (goal_line name owed ++ 10 ∷ rest) =
    subst (λ x. TakesBlocks bs taken text x) (cut ∙ ap (λ x. x ++ 10 ∷ rest) (sym goal.whole)) h in
    refused_steps bs taken name owed text rest e here goal.named goal.few
    (subst (λ n. StopsInSteps owed n rest e) count s)

-- ---- one block further

pub blocks-more : (bs more : List Block) (b : Block) (taken after : ℕ)
    (text left line behind rest : List ℕ) → TakesBlocks bs taken text left
    → left ≡ line ++ 10 ∷ behind → TakesBlock b line behind rest → more ≡ bs ++ b ∷ []
    → after ≡ taken + 1 + length b.1 → TakesBlocks more after text rest
blocks-more bs more b taken after text left line behind rest h cut s pushed later =
    let b_fits : Spelled b =
    record { named = s.goal.named; few = s.goal.few; steps = s.taken.spelled } in
    let heads_are : heads more ≡ heads bs ++ block_lines b = ap heads pushed ∙ heads-push bs b in
    let own : List ℕ = lines_text (map step_line b.1) in
    let goal : List ℕ = goal_line b.0 (length b.1) in
    record {
      spelled = ap are_spelled pushed
          ∙ list_all-joined is_block_spelled bs (b ∷ []) h.spelled
          (and_true (is_block_spelled b) true (spelled_block b b_fits) refl);
      counted = omega (
        arith,
        h.counted,
        later,
        ap length heads_are,
        length-append (heads bs) (block_lines b),
        length-map b.1 step_line,
      );
      whole = h.whole ∙ ap (λ x. lines_text (heads bs) ++ x) cut
          ∙ (λ i. lines_text (heads bs) ++ (sym s.goal.whole i ++ 10 ∷ s.taken.whole i))
          ∙ ap (λ x. lines_text (heads bs) ++ x) (sym (append_assoc goal (10 ∷ own) rest))
          ∙ sym (append_assoc (lines_text (heads bs)) (goal ++ 10 ∷ own) rest)
          ∙ ap (λ x. x ++ rest)
          (sym (ap lines_text heads_are ∙ lines_text-append (heads bs) (block_lines b)));
    }

pub ruleset blocks_rules = (no_blocks)

-- ---- one block

pub block-read : (line name text rest : List ℕ) (ss : List Step) (owed : ℕ)
    → IsGoalLine line name owed → length ss ≡ owed → TakesSteps ss text rest
    → TakesBlock (name, ss) line text rest
block-read line name text rest ss owed goal size taken =
    record { goal = subst (λ n. IsGoalLine line name n) (sym size) goal; taken = taken }

pub block-stops : {X : Type 0} (r : Result X ReadFault) (line name text : List ℕ) (owed before : ℕ)
    (e : ReadFault) → IsErrAnd r (λ f. f ≡ e) → IsGoalLine line name owed
    → StopsInSteps owed before text e → IfErr r (StopsInBlock line before text)
block-stops (Ok x) line name text owed before e h goal s = tt
block-stops (Err f) line name text owed before e h goal s =
    subst (StopsInBlock line before text) (sym h) (in_steps name owed goal s)

pub block-no_goal : (line text : List ℕ) (before : ℕ) → HasNoGoal line
    → StopsInBlock line before text (BadStep before)
block-no_goal line text before none = at_goal refl none

pub block-no_memory : (line text : List ℕ) (before : ℕ) (e : ReadFault) → e ≡ NoMemory
    → StopsInBlock line before text e
block-no_memory line text before e cause = no_memory cause

pub ruleset block_rules = (block-read, block-no_goal, block-no_memory)

-- ---- at the first line

first_open : GoesOn []
first_open =
    record {
      blocks = [];
      next = header;
      more = codes "end" ∷ [];
      spelled = refl;
      lines = refl;
    }

pub first-short : (text : List ℕ) (e : ReadFault) → e ≡ Truncated → IsOneLine text
    → IsRefused text e
first-short text e cause one =
    subst (IsRefused text) (sym cause)
    (record { front = []; rest = text; whole = refl; unfinished = one; open_front = first_open })

pub first-refused : (text line rest : List ℕ) → text ≡ line ++ 10 ∷ rest → IsOneLine line
    → line ≢ header → IsBadStep text 1
first-refused text line rest whole one other =
    record {
      front = [];
      line = line;
      rest = rest;
      whole = whole;
      one_line = one;
      open_front = first_open;
      refused = λ cs more hs e. refused cs more e;
      counted = refl;
    }
  where
    refused : (cs : List Block) (more : List (List ℕ)) → certificate_lines cs ≢ line ∷ more
    refused cs more e = let same : header ≡ line = cc in other (sym same)

pub blocks-writable : (text : List ℕ) (r : Result (List Block) ReadFault)
    → IfOk r (λ bs. (certificate bs ≡ text) × IsTrue (are_spelled bs))
    → IfOk r (λ bs. IsTrue (are_writable bs))
blocks-writable text (Ok bs) h = spelled-blocks-writable bs h.1
blocks-writable text (Err e) h = tt
