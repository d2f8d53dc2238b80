use Rattle.sq_cert.proofs.CertificateLaws.{refused-same}
use Rattle.sq_cert.proofs.laws.a_text_is_refused_for_one_cause.Goals as goal

pub returns : goal.returns
returns c = refused-same
