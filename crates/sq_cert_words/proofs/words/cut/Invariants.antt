use Rattle.std.proofs.Common.{◌≡◌, ◌≤◌, ◌++◌, length, take}
use Rattle.sq_cert_words.specs.Lines.{words, words_on}
use Rattle.sq_cert_words.proofs.words.cut.Given as goal

abbrev pub invariant-letters : goal.invariant-letters
invariant-letters l = record {
  within : l.length ≤ length l.line;
  whole : take l.length l.line ++ l.rest ≡ l.line;
  same : words_on (take l.length l.line) l.rest ≡ words l.line;
}

abbrev pub decreases-letters : goal.decreases-letters
decreases-letters l = length l.rest
