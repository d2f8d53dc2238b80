-- Where the program takes a step.
use Rattle.sq_system.specs.Environments.{env_tree}
use Rattle.sq_system.specs.Sequents.{sequent_tree}
use Rattle.sq_sequent.specs.declared.site.Site.{Site as SiteOf}
use Rattle.sq_sequent.specs.Site.{Site}

-- what the program's value holds
abbrev pub site_tree : SiteOf → Site
site_tree s =
    record { env = env_tree s.env.now; goal = s.goal; sequent = sequent_tree s.sequent.now }
