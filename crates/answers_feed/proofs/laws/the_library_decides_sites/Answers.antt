use Rattle.answers_feed.proofs.SiteLaws.{same_sites}
use Rattle.answers_feed.proofs.laws.the_library_decides_sites.Goals as goal

pub returns : goal.returns
returns c = λ folders old new program document same. same_sites folders old new same program document
