use Rattle.std.proofs.Common.{◌≡◌, ◌≤◌, length}
use Rattle.sq_cert_words.specs.Numbers as spec
use Rattle.sq_cert_words.proofs.numbers.digits_on.Given as goal

abbrev pub invariant-digits : goal.invariant-digits
invariant-digits l = record {
  within : l.value ≤ l.most;
  same : spec.digits_on l.most l.value l.rest ≡ spec.digits_on l.most l.fn.value l.text;
}

abbrev pub decreases-digits : goal.decreases-digits
decreases-digits l = length l.rest
