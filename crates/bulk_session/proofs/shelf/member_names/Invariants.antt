use Rattle.std.proofs.Common.{◌≡◌, map, string_bytes}
use Rattle.bulk_script.specs.Texts.{member_name}
use Rattle.bulk_session.specs.Shelf.{first_numbers}
use Rattle.bulk_session.proofs.shelf.member_names.Given as goal

-- the names so far are there
abbrev pub invariant-loop-number : goal.invariant-loop-number
invariant-loop-number l = map string_bytes l.names.items ≡ map member_name (first_numbers l.number)
