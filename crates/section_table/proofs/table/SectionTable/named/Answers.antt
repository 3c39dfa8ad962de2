use Rattle.std.proofs.Common.{◌∙◌, string_bytes}
use Rattle.std.specs.Str.{bytes_eq}
use Rattle.section_table.proofs.Texts.{position_map}
use Rattle.section_table.proofs.table.SectionTable.named.Goals as goal

pub returns : goal.returns
returns c = c.get_index_of.ensures.index ∙ position_map string_bytes (bytes_eq c.args.name.now) c.args.self.now.names.keys
