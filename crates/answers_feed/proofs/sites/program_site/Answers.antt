use Rattle.std.proofs.Common.{◌∙◌}
use Rattle.std.proofs.lemmas.Result.{IfOk-weaker}
use Rattle.answers_feed.proofs.SiteLaws.{shown_own}
use Rattle.answers_feed.proofs.sites.program_site.Goals as goal

pub returns : goal.returns
returns c =
    IfOk-weaker c.site_at.result _ _
    (λ site is. λ document is_open. is ∙ shown_own c.args.store.now.store c.args.program.0 document is_open) c.site_at.ensures
