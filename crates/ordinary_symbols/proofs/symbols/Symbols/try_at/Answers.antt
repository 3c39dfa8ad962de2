use Rattle.std.proofs.Common.{◌≡◌, ap, sym, ◌∙◌, map, set, slice_get}
use Rattle.ordinary_symbols.specs.Rounds.{tried, resolved}
use Rattle.ordinary_symbols.specs.Table.{known}
use Rattle.ordinary_symbols.specs.Views.{entry_of}
use Rattle.ordinary_symbols.proofs.Endings.{resolved-tried}
use Rattle.ordinary_symbols.proofs.Settling.{if_some, held_at, now_tried, table_settled, names_settled, table_unready}
use Rattle.ordinary_symbols.proofs.symbols.Symbols.try_at.Goals as goal

pub invariant_of-self : goal.invariant_of-self
invariant_of-self c =
    let rows = c.args.self.now.rows.items in
    let held = c.index.result.now in
    let o = c.in-Some.outcome in
    let is = now_tried rows c.args.at held c.index_mut.result.now c.settle.new.held o.sized o.length o.value c.requires c.index.ensures c.index_mut.ensures.value c.in-Some.ensures.0 c.in-Some.ensures.1 c.settle.ensures in
    record { named = c.args.self.now.named ∙ sym (names_settled rows c.args.at held c.settle.new.held c.requires c.index.ensures is) }

pub returns-in-Some-clause-table : goal.returns-in-Some-clause-table
returns-in-Some-clause-table c =
    let rows = c.args.self.now.rows.items in
    let held = c.index.result.now in
    let o = c.in-Some.outcome in
    let is = now_tried rows c.args.at held c.index_mut.result.now c.settle.new.held o.sized o.length o.value c.requires c.index.ensures c.index_mut.ensures.value c.in-Some.ensures.0 c.in-Some.ensures.1 c.settle.ensures in
    if_some (slice_get (map entry_of rows) c.args.at)
    (λ e. map entry_of (set rows c.args.at c.settle.new.held) ≡ set (map entry_of rows) c.args.at (tried (known (map entry_of rows)) e))
    (entry_of held) (held_at rows c.args.at held c.requires c.index.ensures) (table_settled rows c.args.at held c.settle.new.held is)

pub returns-in-Some-clause-resolved : goal.returns-in-Some-clause-resolved
returns-in-Some-clause-resolved c =
    let rows = c.args.self.now.rows.items in
    let held = c.index.result.now in
    let o = c.in-Some.outcome in
    let is = now_tried rows c.args.at held c.index_mut.result.now c.settle.new.held o.sized o.length o.value c.requires c.index.ensures c.index_mut.ensures.value c.in-Some.ensures.0 c.in-Some.ensures.1 c.settle.ensures in
    ap resolved (table_settled rows c.args.at held c.settle.new.held is)
    ∙ resolved-tried (map entry_of rows) c.args.at (entry_of held) (held_at rows c.args.at held c.requires c.index.ensures)

pub returns-in-None-clause-table : goal.returns-in-None-clause-table
returns-in-None-clause-table c =
    let rows = c.args.self.now.rows.items in
    let held = c.index.result.now in
    if_some (slice_get (map entry_of rows) c.args.at)
    (λ e. map entry_of rows ≡ set (map entry_of rows) c.args.at (tried (known (map entry_of rows)) e))
    (entry_of held) (held_at rows c.args.at held c.requires c.index.ensures) (table_unready rows c.args.at held c.requires c.index.ensures c.in-None.ensures)
