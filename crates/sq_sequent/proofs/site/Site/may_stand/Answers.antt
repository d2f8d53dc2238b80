use Rattle.sq_term.specs.View.{term_tree}
use Rattle.sq_sequent.specs.Sites.{site_tree}
use Rattle.sq_sequent.proofs.Assumed.{may_be_assumed}
use Rattle.sq_sequent.proofs.site.Site.may_stand.Goals as goal

pub returns-clause-assumed : goal.returns-clause-assumed
returns-clause-assumed c = may_be_assumed (site_tree c.args.self.now) (term_tree c.args.t.now)
