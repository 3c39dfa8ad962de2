use Rattle.std.proofs.Common.{◌∙◌, ap, string_bytes}
use Rattle.std.specs.List.{list_any}
use Rattle.std.specs.Str.{bytes_eq}
use Rattle.std.specs.declared.string.String.{String}
use Rattle.std.specs.declared.alloc.Global.{Global}
use Rattle.defined_symbols.proofs.SpellingLaws.{any_spelled}
use Rattle.defined_symbols.proofs.symbols.DefinedSymbols.has.Goals as goal

pub returns : goal.returns
returns c =
    c.contains.ensures
    ∙ ap (λ bytes. list_any (λ (key : String Global). bytes_eq bytes (string_bytes key)) c.self.inside.names.keys) c.text.ensures
    ∙ any_spelled c.args.name.now c.self.inside.names.keys
    ∙ ap (list_any (bytes_eq c.args.name.now)) c.self.view_is
