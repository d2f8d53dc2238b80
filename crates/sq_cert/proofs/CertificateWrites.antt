-- Lines at the end of a text, one step further and at the end.
use Rattle.std.proofs.Common.{◌≡◌, ◌<◌, ◌≤◌, ◌+◌, ℕ, suc, List, [], ◌∷◌, ◌++◌, length, drop}
use Rattle.std.proofs.Common.{map, get_or, codes, decimal, sym, ap, ◌∙◌, append_assoc}
use Rattle.std.proofs.Common.{add-one}
use Rattle.std.proofs.Common.{drop-cons}
use Rattle.std.proofs.lemmas.List.{drop_all}
use Rattle.sq_step.specs.declared.step.Step.{Step}
use Rattle.sq_cert_steps.specs.Lines.{step_line}
use Rattle.sq_cert.specs.Certificates.{Block, lines_text, goal_line, block_lines, blocks_lines}
use Rattle.sq_cert.proofs.LineLists.{lines_text-append}

cut_at : {A : Type 0} (xs : List A) (k : ℕ) (x : A) → k < length xs → x ≡ get_or xs k x
    → drop k xs ≡ x ∷ drop (k + 1) xs
cut_at xs k x within item = let one : k + 1 ≡ suc k =
    add-one k in drop-cons xs k x within ∙ (λ i. sym item i ∷ drop (sym one i) xs)

pub wrote-line : (out new whole : List ℕ) (steps : List Step) (k : ℕ) (s : Step) → k < length steps
    → s ≡ get_or steps k s
    → new ≡ (out ++ step_line s) ++ 10 ∷ []
    → out ++ lines_text (map step_line (drop k steps)) ≡ whole
    → new ++ lines_text (map step_line (drop (k + 1) steps)) ≡ whole
wrote-line out new whole steps k s within item wrote same =
    let rest : List ℕ = lines_text (map step_line (drop (k + 1) steps)) in
    ap (λ w. w ++ rest) wrote ∙ append_assoc (out ++ step_line s) (10 ∷ []) rest
    ∙ append_assoc out (step_line s) (10 ∷ rest)
    ∙ ap (λ w. out ++ lines_text (map step_line w)) (sym (cut_at steps k s within item)) ∙ same

pub wrote-block : (out name : List ℕ) (n : ℕ) (steps : List ℕ)
    → (((((out ++ codes "goal ") ++ name) ++ codes " ") ++ decimal n) ++ 10 ∷ []) ++ steps
    ≡ out ++ (goal_line name n ++ 10 ∷ steps)
wrote-block out name n steps = simp append_assoc

pub wrote-blocks : (out new whole : List ℕ) (blocks : List Block) (k : ℕ) (b : Block)
    → k < length blocks → b ≡ get_or blocks k b
    → new ≡ out ++ lines_text (block_lines b)
    → out ++ lines_text (blocks_lines (drop k blocks)) ≡ whole
    → new ++ lines_text (blocks_lines (drop (k + 1) blocks)) ≡ whole
wrote-blocks out new whole blocks k b within item wrote same =
    let rest : List (List ℕ) = blocks_lines (drop (k + 1) blocks) in
    ap (λ w. w ++ lines_text rest) wrote
    ∙ append_assoc out (lines_text (block_lines b)) (lines_text rest)
    ∙ ap (λ w. out ++ w) (sym (lines_text-append (block_lines b) rest))
    ∙ ap (λ w. out ++ lines_text (blocks_lines w)) (sym (cut_at blocks k b within item)) ∙ same

pub wrote-end : (out whole : List ℕ) (blocks : List Block) (k : ℕ) → length blocks ≤ k
    → out ++ lines_text (blocks_lines (drop k blocks)) ≡ whole → out ++ codes "end\n" ≡ whole
wrote-end out whole blocks k h same =
    ap (λ w. out ++ lines_text (blocks_lines w)) (sym (drop_all k blocks h)) ∙ same

pub ruleset line_rules = (wrote-line)

pub ruleset block_rules = (wrote-block)

pub ruleset blocks_rules = (wrote-blocks, wrote-end)
