use Rattle.answers_feed.proofs.SiteLaws.{library_opened, library_changed, library_closed}
use Rattle.answers_feed.proofs.laws.programs_leave_the_library.Goals as goal

pub returns-clause-opened : goal.returns-clause-opened
returns-clause-opened c = library_opened

pub returns-clause-changed : goal.returns-clause-changed
returns-clause-changed c = library_changed

pub returns-clause-closed : goal.returns-clause-closed
returns-clause-closed c = library_closed
