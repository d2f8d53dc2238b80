use Rattle.sq_cert.proofs.CertificateLaws.{certificate-refused}
use Rattle.sq_cert.proofs.laws.no_certificate_is_refused.Goals as goal

pub returns : goal.returns
returns c = certificate-refused
