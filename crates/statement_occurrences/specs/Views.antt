-- What is known where a statement is met, as the code holds it.
use Rattle.std.specs.Option.{option_copied}
use Rattle.statement_occurrences.specs.Named.{Circumstances}
use Rattle.statement_occurrences.specs.declared.surroundings.Surroundings.{Surroundings}

abbrev pub circumstances_of : Surroundings → Circumstances
circumstances_of s =
    record { list = option_copied s.list; call = s.call.now; item = s.item.now; first = s.first.now; member = s.member }
