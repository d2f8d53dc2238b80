use Rattle.sq_cert.specs.Certificates.{certificate}
use Rattle.sq_cert.proofs.CertificateWrites.{wrote-blocks}
use Rattle.sq_cert.proofs.certificate.write.Goals as goal

pub loop-name-preserved : goal.loop-name-preserved
loop-name-preserved c =
    wrote-blocks c.loop-name.out c.write_block.new.out (certificate c.args.blocks.now)
    c.args.blocks.now c.loop-name.name-index c.loop-name-item.result c.loop-name-test.true
    c.loop-name-item.is c.in_ok-write_block.ensures c.loop-name.invariant
