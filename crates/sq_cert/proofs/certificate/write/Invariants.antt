use Rattle.std.proofs.Common.{◌≡◌, ◌++◌, drop}
use Rattle.sq_cert.specs.Certificates.{lines_text, blocks_lines, certificate}
use Rattle.sq_cert.proofs.certificate.write.Given as goal

abbrev pub invariant-loop-name : goal.invariant-loop-name
invariant-loop-name l =
    l.out ++ lines_text (blocks_lines (drop l.name-index l.blocks)) ≡ certificate l.blocks
