use Rattle.std.proofs.Common.{◌≡◌, ◌∙◌, arith, ap, rules}
use Rattle.std.specs.Prelude.{chars}
use Rattle.document_store.specs.Positions.{line_of}
use Rattle.document_store.proofs.FromLemmas.{IsFrom-next, IsFrom-last, IsFrom-within, line_of-from}
use Rattle.document_store.proofs.lines.line_or_last.Goals as goal

pub returns-in-None-clause-number : goal.returns-in-None-clause-number
returns-in-None-clause-number c =
    let count = IsFrom-last (chars c.args.text.now) (chars c.loop-number.rest.now) c.loop-number.number c.loop-number.invariant.0 c.in-None.ensures in
    omega (arith, count)

pub returns-in-None-clause-text : goal.returns-in-None-clause-text
returns-in-None-clause-text c = c.first_line.ensures ∙ line_of-from (chars c.args.text.now) (chars c.loop-number.rest.now) c.loop-number.number c.loop-number.invariant.0

pub loop-number-preserved : goal.loop-number-preserved
loop-number-preserved c =
    (IsFrom-next (chars c.args.text.now) (chars c.loop-number.rest.now) (chars c.in-Some.next.now) c.loop-number.number c.loop-number.invariant.0 c.in-Some.ensures, search rules)

pub returns-clause-number : goal.returns-clause-number
returns-clause-number c =
    let within = IsFrom-within (chars c.args.text.now) (chars c.loop-number.rest.now) c.loop-number.number c.loop-number.invariant.0 in
    omega (arith, within)

pub returns-clause-text : goal.returns-clause-text
returns-clause-text c =
    let all : c.loop-number.number ≡ c.args.line = omega arith in
    c.first_line-2.ensures
    ∙ line_of-from (chars c.args.text.now) (chars c.loop-number.rest.now) c.loop-number.number c.loop-number.invariant.0
    ∙ ap (line_of (chars c.args.text.now)) all
