use Rattle.std.proofs.Common.{◌≡◌, ap, sym, ◌∙◌, Some, None}
use Rattle.std.proofs.lemmas.Result.{IfOk-weaker, IfErr-weaker}
use Rattle.std.specs.Map.{lookup, set_value}
use Rattle.set_symbols.specs.Table.{symbol_of}
use Rattle.set_symbols.proofs.TableLemmas.{spells, table_from-held, table_from-stays, lookup-declared}
use Rattle.set_symbols.proofs.table.SetTable.hold.Goals as goal

pub returns-in_default-clause-ok : goal.returns-in_default-clause-ok
returns-in_default-clause-ok c =
    absurd (lookup-declared c.args.self.now c.self.inside.symbols.entries c.args.name.now c.self.view_is c.requires
    (sym (c.in_default.ensures.value ∙ ap (λ bytes. lookup (spells bytes) c.self.inside.symbols.entries) c.text.ensures)))

pub returns-clause-ok : goal.returns-clause-ok
returns-clause-ok c =
    let entries = c.self.inside.symbols.entries in
    let name = c.args.name.now in
    let was = c.in-Some.symbol.now in
    let now = c.hold.new.self in
    let found = sym (c.in-Some.ensures.value ∙ ap (λ bytes. lookup (spells bytes) entries) c.text.ensures) in
    let written = (c.get_mut.follows.holds now).0 ∙ ap (λ bytes. set_value (spells bytes) entries now) c.text.ensures in
    IfOk-weaker c.hold.result _ _
    (λ _ holds. table_from-held c.args.self.now entries _ name was now c.self.view_is found written c.args.at c.args.value holds)
    c.hold.ensures.ok

pub returns-clause-err : goal.returns-clause-err
returns-clause-err c =
    let entries = c.self.inside.symbols.entries in
    let name = c.args.name.now in
    let was = c.in-Some.symbol.now in
    let now = c.hold.new.self in
    let found = sym (c.in-Some.ensures.value ∙ ap (λ bytes. lookup (spells bytes) entries) c.text.ensures) in
    let written = (c.get_mut.follows.holds now).0 ∙ ap (λ bytes. set_value (spells bytes) entries now) c.text.ensures in
    IfErr-weaker c.hold.result _ _
    (λ _ stays. table_from-stays c.args.self.now entries _ name was now c.self.view_is found written stays)
    c.hold.ensures.err
