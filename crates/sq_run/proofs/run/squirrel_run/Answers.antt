use Rattle.std.proofs.Common.{◌∙◌}
use Rattle.sq_run.proofs.Meaning.{named_answered, usage_answered}
use Rattle.sq_run.proofs.Listing.{ended_done}
use Rattle.sq_run.proofs.run.squirrel_run.Goals as goal

pub returns-in-Some-clause-answers : goal.returns-in-Some-clause-answers
returns-in-Some-clause-answers g c =
    named_answered c.in-Some.name.now _ _ _ _ _ _ _ c.check_file.result c.check_file.ensures.answers
    c.in-Some.ensures

pub returns-in-Some-clause-listed : goal.returns-in-Some-clause-listed
returns-in-Some-clause-listed g c name file old text done is there told wrote =
    ended_done _ _ _ _ _ _ _ c.check_file.result name file old text c.check_file.ensures.answers
    done (c.in-Some.ensures ∙ is) there told wrote

pub returns-in-None-clause-answers : goal.returns-in-None-clause-answers
returns-in-None-clause-answers g c =
    usage_answered _ _ _ _ _ _ _ c.put_answer.result c.put_answer.ensures c.in-None.ensures

pub returns-in-None-clause-listed : goal.returns-in-None-clause-listed
returns-in-None-clause-listed g c name file old text done is there told wrote =
    absurd (cc (c.in-None.ensures ∙ is))
