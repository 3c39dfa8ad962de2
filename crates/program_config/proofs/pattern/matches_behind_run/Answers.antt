use Rattle.std.proofs.Common.{sym, ◌∙◌}
use Rattle.program_config.proofs.PatternLaws.{behind_run-walked, behind_run-whole, behind_run-end, behind_run-further, behind_run-stopped, length-walked}
use Rattle.program_config.proofs.pattern.matches_behind_run.Goals as goal

pub loop-left-smaller-in-Some-left : goal.loop-left-smaller-in-Some-left
loop-left-smaller-in-Some-left c =
    let is_walked = rw c.in-Some-left.is at c.in-Some.ensures in
    length-walked c.loop-left.pattern.now c.loop-left.path.now c.in-Some-left.signs.now c.in-Some-left.bytes.now (sym is_walked)

pub loop-left-preserved-in-Some-left : goal.loop-left-preserved-in-Some-left
loop-left-preserved-in-Some-left c =
    let is_walked = rw c.in-Some-left.is at c.in-Some.ensures in
    c.loop-left.invariant
    ∙ behind_run-walked c.loop-left.pattern.now c.loop-left.path.now c.in-Some-left.signs.now c.in-Some-left.bytes.now (sym is_walked)

pub returns-in-None-left : goal.returns-in-None-left
returns-in-None-left c =
    let is_walked = rw c.in-None-left.is at c.in-Some.ensures in
    sym (c.loop-left.invariant ∙ behind_run-whole c.loop-left.pattern.now c.loop-left.path.now (sym is_walked))

pub returns-then-byte-eq47 : goal.returns-then-byte-eq47
returns-then-byte-eq47 c =
    sym (c.loop-left.invariant
    ∙ behind_run-stopped c.loop-left.pattern.now c.loop-left.path.now c.in-Some-split_first.byte.now c.in-Some-split_first.bytes.now
    (sym c.in-None.ensures) c.in-Some-split_first.ensures.cases.0 c.if-byte-eq47.true)

pub loop-left-preserved : goal.loop-left-preserved
loop-left-preserved c =
    c.loop-left.invariant
    ∙ behind_run-further c.loop-left.pattern.now c.loop-left.path.now c.in-Some-split_first.byte.now c.in-Some-split_first.bytes.now
    (sym c.in-None.ensures) c.in-Some-split_first.ensures.cases.0 c.if-byte-eq47.false

pub returns-in-None-split_first : goal.returns-in-None-split_first
returns-in-None-split_first c =
    sym (c.loop-left.invariant
    ∙ behind_run-end c.loop-left.pattern.now c.loop-left.path.now (sym c.in-None.ensures) c.in-None-split_first.ensures.cases)
