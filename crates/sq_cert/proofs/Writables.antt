-- What is spelled can be written.
use Rattle.std.proofs.Common.{◌≡◌, true, List, [], ◌∷◌, refl}
use Rattle.std.specs.List.{list_all}
use Rattle.sq_token.specs.Kinds.{is_identifier}
use Rattle.sq_step.specs.declared.step.Step.{Step}
use Rattle.sq_cert_steps.specs.Lines.{is_spelled, is_writable}
use Rattle.sq_cert_steps.proofs.Writables.{spelled-writable}
use Rattle.sq_cert.specs.Certificates.{Block, is_block_spelled, is_block_writable, are_spelled}
use Rattle.sq_cert.specs.Certificates.{are_writable}
use Rattle.sq_cert.proofs.LineLists.{both, and_true}
use Rattle.sq_cert.proofs.BlockLists.{spelled_parts}

steps_can : (ss : List Step) → list_all is_spelled ss ≡ true → list_all is_writable ss ≡ true
steps_can [] h = refl
steps_can (s ∷ more) h =
    let fit = both (is_spelled s) (list_all is_spelled more) h in
    and_true (is_writable s) (list_all is_writable more) (spelled-writable s fit.0)
    (steps_can more fit.1)

pub spelled-blocks-writable : (bs : List Block) → are_spelled bs ≡ true → are_writable bs ≡ true
spelled-blocks-writable [] h = refl
spelled-blocks-writable (b ∷ more) h =
    let fit = both (is_block_spelled b) (are_spelled more) h in
    let own = spelled_parts b fit.0 in
    and_true (is_block_writable b) (are_writable more)
    (and_true (is_identifier b.0) (list_all is_writable b.1) own.named (steps_can b.1 own.steps))
    (spelled-blocks-writable more fit.1)
