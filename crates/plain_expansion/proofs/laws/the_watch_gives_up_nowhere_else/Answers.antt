use Rattle.plain_expansion.proofs.Watching.{watched_runs_keep_to_it}
use Rattle.plain_expansion.proofs.laws.the_watch_gives_up_nowhere_else.Goals as goal

pub returns : goal.returns
returns g c = watched_runs_keep_to_it g.L.MacroLanguage.language
