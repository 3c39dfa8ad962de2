-- Members of a library, as they were told (this project).
use Rattle.std.specs.Prelude.{ℕ, List, [], ◌∷◌, ◌++◌, find, is_some, Option, option_map, if◌then◌else◌}
use Rattle.std.specs.Str.{bytes_eq}
use Rattle.hlasm_statements.specs.Statements.{statements_of}
use Rattle.statement_listing.specs.Listings.{Listed, listing_of}
use Rattle.macro_library.specs.Files as files
use Rattle.macro_library.specs.declared.member.Member.{Member}
use Rattle.macro_library.specs.declared.member.Member.TheVariants.{File}

-- a member under its name
pub record Told : Type 0 where
  pub name : List ℕ
  pub member : Member

abbrev pub member_in : Told → Member
member_in told = told.member

-- what was told of the member of a name: the first counts
abbrev pub member_of : List Told → List ℕ → Option Member
member_of members name = option_map member_in (find (λ (told : Told). bytes_eq name told.name) members)

-- the statements of a file
abbrev pub statements_in : files.File → List Listed
statements_in file = listing_of file.path (statements_of file.text)

-- the statements of a member, where it has a text
abbrev pub lines_of : Member → List Listed
lines_of (File file) = statements_in file
lines_of other = []

-- members, and one more of which nothing was told yet; a member of which something was told stays as it was told
abbrev pub with_member : List Told → List ℕ → Member → List Told
with_member members name member =
    if is_some (member_of members name) then members else members ++ record { name = name; member = member } ∷ []
