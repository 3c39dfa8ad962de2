use Rattle.std.proofs.Common.{[], ap, sym, ◌∙◌}
use Rattle.std.specs.Prelude.{chars, encode_utf8_all}
use Rattle.std.proofs.lemmas.Option.{get_or_from_slice_get}
use Rattle.std.proofs.lemmas.Str.{encodes-chars}
use Rattle.symbol_answers.proofs.place.path_text.Goals as goal

pub returns-then-path-path_count : goal.returns-then-path-path_count
returns-then-path-path_count c =
    sym (encodes-chars c.path_text.result.now c.path_text.utf8)
    ∙ ap encode_utf8_all (sym (get_or_from_slice_get c.args.store.now.store.paths c.args.path.0 (chars c.path_text.result.now) [] (sym c.path_text.ensures)))
