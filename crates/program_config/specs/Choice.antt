-- The group of a program: the first entry whose pattern matches its path decides, also where its group is not there; of
-- several groups of one name the first counts. This project.
use Rattle.std.specs.Prelude.{ℕ, List, Option, find, position, option_and_then, encode_utf8_all}
use Rattle.std.specs.Str.{bytes_eq}
use Rattle.program_config.specs.declared.groups.Group.{Group}
use Rattle.program_config.specs.declared.programs.Entry.{Entry}
use Rattle.program_config.specs.Patterns.{matches}

-- the first entry that matches a path
abbrev pub entry_for : List Entry → List ℕ → Option Entry
entry_for entries path = find (λ entry. matches (encode_utf8_all entry.program) path) entries

-- the place of the first group of a name
abbrev pub place_of : List Group → List ℕ → Option ℕ
place_of groups name = position (λ group. bytes_eq (encode_utf8_all group.name) name) groups

-- the place of the group of a path
abbrev pub group_of : List Entry → List Group → List ℕ → Option ℕ
group_of entries groups path = option_and_then (λ entry. place_of groups (encode_utf8_all entry.group)) (entry_for entries path)
