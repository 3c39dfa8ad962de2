use Rattle.std.proofs.Common.{◌≡◌, ◌∙◌, ◌<◌, ◌≤◌, length, get_or, map, sym, arith}
use Rattle.std.proofs.lemmas.List.{get_or_default, length-map}
use Rattle.literal_places.specs.Shown.{literals_of}
use Rattle.ordinary_symbols.specs.Shown.{table_of}
use Rattle.ordinary_symbols.specs.Table.{known}
use Rattle.section_layout.specs.Views.{lines_of, statement_of}
use Rattle.statement_checks.proofs.Walks.{checked_end, step}
use Rattle.statement_checks.proofs.program.check_all.Goals as goal

pub loop-number-preserved : goal.loop-number-preserved
loop-number-preserved c =
    let statements = c.loop-number.statements in
    let number = c.loop-number.number in
    let inside : number < length statements = omega arith in
    let read = c.index-statements-number.result in
    let first = get_or statements number read in
    step (known (table_of c.args.symbols.now)) (literals_of c.args.literals.now) c.loop-number.ranges c.check_statement.new.ranges
    c.args.lines.now statements number c.in-Some.line.now first c.check_statement.new.statement
    inside c.in-Some.ensures.lookup.3.0 c.in-Some.ensures.lookup.1 (get_or_default statements number read first inside)
    c.in_ok-check_statement.ensures.checked c.in_ok-check_statement.ensures.behind
    ∙ c.loop-number.invariant

pub returns : goal.returns
returns c =
    let statements = c.loop-number.statements in
    let count = length-map statements statement_of in
    let past : length (map statement_of statements) ≤ c.loop-number.number = omega arith in
    sym (checked_end (known (table_of c.args.symbols.now)) (literals_of c.args.literals.now) c.loop-number.ranges (lines_of c.args.lines.now)
    (map statement_of statements) c.loop-number.number past)
    ∙ c.loop-number.invariant
