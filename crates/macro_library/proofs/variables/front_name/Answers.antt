use Rattle.std.proofs.Common.{◌∙◌, ap, length, take}
use Rattle.std.specs.Prelude.{take_while}
use Rattle.std.specs.Str.{chars}
use Rattle.hl_base.specs.Symbols.{is_symbol_character}
use Rattle.macro_library.proofs.VariableLaws.{take-take_while}
use Rattle.macro_library.proofs.variables.front_name.Goals as goal

pub returns : goal.returns
returns c =
    c.split_columns.ensures.front
    ∙ ap (λ n. take n (chars c.args.text.now)) c.letter_count.ensures
    ∙ take-take_while is_symbol_character (chars c.args.text.now)
