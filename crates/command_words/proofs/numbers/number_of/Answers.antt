use Rattle.std.proofs.Common.{◌≡◌, Ok}
use Rattle.std.specs.Str.Parse.{digits_value}
use Rattle.command_words.proofs.WordLaws.{parsed}
use Rattle.command_words.proofs.numbers.number_of.Goals as goal

pub unreachable-requires : goal.unreachable-requires
unreachable-requires c =
    let is : c.parse.result ≡ Ok (digits_value 10 c.args.word.now) = parsed c.args.word.now c.parse.result c.parse.ensures.value.0 c.requires.digits c.requires.some c.requires.few in
    cc
