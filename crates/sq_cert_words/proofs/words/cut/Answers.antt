use Rattle.sq_cert_words.proofs.LineLaws.{one_letter, letter_on}
use Rattle.sq_cert_words.proofs.words.cut.Goals as goal

pub letters-preserved : goal.letters-preserved
letters-preserved c =
    let kept = c.letters.invariant in
    let further = one_letter _ _ _ _ _ c.in-Some.ensures.cases.0 kept.whole kept.within in
    record {
      within = further.0;
      whole = further.1;
      same = letter_on _ _ _ _ _ _ c.in-Some.ensures.cases.0 kept.whole kept.within
          c.if-letter-eq32.false kept.same;
    }
