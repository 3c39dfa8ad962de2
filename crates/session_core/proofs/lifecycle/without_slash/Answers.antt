use Rattle.std.proofs.Common.{lit<, Some, None}
use Rattle.std.proofs.lemmas.Str.Pattern.{strip_suffix_char}
use Rattle.member_paths.proofs.PathLaws.{without_slash-dropped, without_slash-kept}
use Rattle.session_core.proofs.lifecycle.without_slash.Goals as goal

pub returns-in-Some : goal.returns-in-Some
returns-in-Some c =
    without_slash-dropped c.args.path.now c.in-Some.front.now c.utf8.path
    (strip_suffix_char 47 c.args.path.now (Some c.in-Some.front) c.in-Some.ensures.cases (lit< tt))

pub returns-in-None : goal.returns-in-None
returns-in-None c = without_slash-kept c.args.path.now c.utf8.path (strip_suffix_char 47 c.args.path.now None c.in-None.ensures.cases (lit< tt))
