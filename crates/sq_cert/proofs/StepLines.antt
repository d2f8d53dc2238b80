-- No newline stands in the line of a step.
use Rattle.std.proofs.Common.{◌≡◌, true}
use Rattle.sq_step.specs.declared.step.Step.{Step}
use Rattle.sq_cert_words.specs.Spelling.{blanked}
use Rattle.sq_cert_steps.specs.Lines.{arguments, arguments_words, step_word, step_line, is_spelled}
use Rattle.sq_cert_steps.proofs.StepLaws.{step_words_unparted}
use Rattle.sq_cert_steps.proofs.Unparted.{arguments_unparted}
use Rattle.sq_cert.proofs.LineLists.{HasNoNewline, no_newline-append}
use Rattle.sq_cert.proofs.GoalLines.{word_no_newline, blanked_no_newline}

pub step_no_newline : (s : Step) → is_spelled s ≡ true → HasNoNewline (step_line s)
step_no_newline s h =
    no_newline-append (step_word s) (blanked (arguments_words (arguments s)))
    (word_no_newline (step_word s) (step_words_unparted s))
    (blanked_no_newline (arguments_words (arguments s)) (arguments_unparted (arguments s) h))
