-- What an operation is where the definition is kept with its member.
use Rattle.std.proofs.Common.{◌≡◌, ◌∙◌, ℕ, List, [], map, Option, Some, Ok, sym, ap}
use Rattle.kept_values.specs.Trees.{Tree}
use Rattle.plain_expansion.specs.Questions.{Comes, led_by}
use Rattle.macro_library.specs.Contents.{content_of, written}
use Rattle.macro_library.specs.Definitions.{Definition, definition_of}
use Rattle.macro_library.specs.Listings.{Listed}
use Rattle.asked_definitions.specs.Asked.{definition_at, in_lines, is_macro, most_members, said_of}
use Rattle.asked_definitions.specs.declared.definition.AskedDefinition.TheVariants as definition
use Rattle.asked_definitions.proofs.DefiningLaws.{defined-led, read-led}
use Rattle.asked_definitions.proofs.WrittenLaws.{definition_bare}

-- The definition that begins at a MACRO where nothing was told of any member is the one that its questions come to.
pub kept-led : (told : Tree → Option Tree) (list : List Listed) (start : ℕ) (d : Definition) →
    definition_of [] list start ≡ Ok d → Comes (is_macro (content_of d)) ≡ led_by told (in_lines list (Some start))
kept-led told list start d is =
    defined-led told (definition_at (map written list) start) (definition.Read d)
    (sym (read-led told (map written list) start most_members [] (content_of d) (definition_bare [] list start ∙ ap said_of is)))
