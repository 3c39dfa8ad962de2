use Rattle.std.proofs.Common.{sym, ◌∙◌}
use Rattle.program_config.proofs.PatternLaws.{matches-walked, matches-whole, matches-none}
use Rattle.program_config.proofs.pattern.matches.Goals as goal

pub returns-in-Some-Some : goal.returns-in-Some-Some
returns-in-Some-Some c =
    let is_walked = rw c.in-Some-Some.field-0-is at c.in-Some-Some.ensures in
    c.matches_behind_run.ensures ∙ sym (matches-walked c.args.pattern.now c.args.path.now c.in-Some-Some.signs.now c.in-Some-Some.bytes.now (sym is_walked))

pub returns-in-Some-None : goal.returns-in-Some-None
returns-in-Some-None c =
    let is_walked = rw c.in-Some-None.field-0-is at c.in-Some-None.ensures in
    sym (matches-whole c.args.pattern.now c.args.path.now (sym is_walked))

pub returns-in-None : goal.returns-in-None
returns-in-None c = sym (matches-none c.args.pattern.now c.args.path.now (sym c.in-None.ensures))
