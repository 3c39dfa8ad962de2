use Rattle.std.proofs.Common.{◌≡◌, ◌∙◌, None, sym, ap}
use Rattle.std.specs.Map.{lookup}
use Rattle.text_lists.specs.Numbers.{is_line, noted}
use Rattle.text_lists.proofs.NumberLaws.{lookup-noted}
use Rattle.text_lists.proofs.TextLaws.{copied-none}
use Rattle.text_lists.proofs.list.note.Goals as goal

pub returns : goal.returns
returns c =
    let old = c.args.numbers.now in
    let line = c.args.line in
    let none : lookup (is_line line) old.entries ≡ None = sym c.get.ensures.value ∙ copied-none c.get.result (sym c.is_some.ensures ∙ c.if-is_some.false) in
    λ n.
    lookup-noted n line c.in_ok-number.number old c.insert.new.self.entries none c.in_ok-insert.ensures.entries
    ∙ ap (noted (lookup (is_line n) old.entries) n line) c.in_ok-number.ensures
