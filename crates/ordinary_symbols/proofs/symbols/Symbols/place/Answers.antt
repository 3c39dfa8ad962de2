use Rattle.std.proofs.Common.{ap, ◌∙◌, position}
use Rattle.std.specs.Str.{bytes_eq}
use Rattle.ordinary_symbols.proofs.Places.{place_named}
use Rattle.ordinary_symbols.proofs.symbols.Symbols.place.Goals as goal

pub returns : goal.returns
returns c =
    let symbols = c.args.self.now in
    c.get_index_of.ensures.index
    ∙ ap (λ text. position (bytes_eq text) symbols.names.keys) c.text.ensures
    ∙ place_named symbols.names.keys symbols.rows.items c.args.name.now symbols.named
