-- What definitions were told of members. No public clause cites this file. This project.
use Rattle.std.specs.Prelude.{◌≡◌, ℕ, List, Some}
use Rattle.macro_library.specs.Members.{Told, member_of}
use Rattle.macro_library.specs.declared.member.Member.{Member}
use Rattle.text_pool.specs.Members as members
use Rattle.called_definitions.specs.Readings.{told_as}

-- what was told is what is found
abbrev pub AreFound : (List ℕ → members.Member) → List Told → Type 0
AreFound found told = (name : List ℕ) (member : Member) → member_of told name ≡ Some member → member ≡ told_as (found name)
