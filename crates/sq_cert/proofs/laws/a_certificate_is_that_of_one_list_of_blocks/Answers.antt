use Rattle.sq_cert.proofs.CertificateLaws.{certificate-same}
use Rattle.sq_cert.proofs.laws.a_certificate_is_that_of_one_list_of_blocks.Goals as goal

pub returns : goal.returns
returns c = certificate-same
