use Rattle.std.proofs.Common.{◌≡◌, ap, sym, ◌∙◌, ◌++◌, ◌∷◌, ◌+◌, [], length, map, rules, Some}
use Rattle.std.proofs.lemmas.List.{length_push, map-append, length-map}
use Rattle.section_table.specs.Spans as spans
use Rattle.section_table.specs.Tables.{Table}
use Rattle.section_table.specs.Views.{span_of, spelled}
use Rattle.section_table.proofs.Texts.{insert_new, spelled-append}
use Rattle.section_table.proofs.table.SectionTable.begin.Goals as goal

pub invariant_of-self-2 : goal.invariant_of-self-2
invariant_of-self-2 c =
    let table = c.args.self.now in
    let keys = c.in_ok-insert.ensures.keys ∙ insert_new table.names.keys c.in_ok-key.key c.args.name.now c.requires c.in_ok-key.ensures.ok in
    let pushed = c.push_within.ensures ∙ ap (λ all. all ++ c.new.result ∷ []) c.reserve.ensures.items in
    record {
      paired =
          ap length keys ∙ length_push table.names.keys c.in_ok-key.key
          ∙ ap (λ n. n + 1) table.paired
          ∙ sym (ap length pushed ∙ length_push table.spans.items c.new.result);
    }
