-- What the answers of the reader of lines say, in the words of the lines.
use Rattle.std.proofs.Common.{◌≡◌, ◌≢◌, ℕ, List, Result, Ok, Err, IfOk, IsErrOf, IsTrue}
use Rattle.sq_step.specs.declared.step.Step.{Step}
use Rattle.sq_cert_words.specs.declared.fault.CertFault.{CertFault}
use Rattle.sq_cert_words.specs.declared.fault.CertFault.TheVariants as fault
use Rattle.sq_cert_steps.specs.Lines.{step_line, is_spelled, is_writable}
use Rattle.sq_cert_steps.specs.Reading.{Tells, step_view, step_read}
use Rattle.sq_cert_steps.proofs.StepLaws.{line_tells, line_refused}
use Rattle.sq_cert_steps.proofs.Writables.{spelled-writable}

abbrev Answers : List ℕ → Result Step CertFault → Type 0
Answers line r = Tells step_view r (step_read line)

pub line_ok : (line : List ℕ) (r : Result Step CertFault) → Answers line r
    → IfOk r (λ s. (step_line s ≡ line) × IsTrue (is_spelled s))
line_ok line (Ok s) h = line_tells line s h
line_ok line (Err e) h = tt

pub line_writable : (line : List ℕ) (r : Result Step CertFault) → Answers line r
    → IfOk r (λ s. IsTrue (is_writable s))
line_writable line (Ok s) h = spelled-writable s (line_tells line s h).1
line_writable line (Err e) h = tt

pub line_bad : (line : List ℕ) (r : Result Step CertFault) → Answers line r
    → IsErrOf r fault.BadStep → (s : Step) → IsTrue (is_spelled s) → step_line s ≢ line
line_bad line (Ok x) h bad = cc
line_bad line (Err fault.BadStep) h bad = line_refused line h
line_bad line (Err fault.NoMemory) h bad = cc
