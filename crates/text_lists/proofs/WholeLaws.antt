-- Each character of a statement of a text has a place.
use Rattle.std.proofs.Common.{◌≡◌, ◌∙◌, ◌+◌, ℕ, Bool, List, [], ◌∷◌, length, map, sym}
use Rattle.std.specs.List.{All}
use Rattle.std.proofs.lemmas.List.{length-map}
use Rattle.std.proofs.lemmas.List.Elements.{All-cons, All-nil}
use Rattle.hl_base.specs.Texts.{lines}
use Rattle.hl_base.specs.declared.place.PathId.{PathId}
use Rattle.hlasm_statements.specs.Columns.{Placed, groups, body_of, text_of, places_of}
use Rattle.hlasm_statements.specs.Faults.{ends_marked}
use Rattle.hlasm_statements.specs.Fields.{is_alternate}
use Rattle.hlasm_statements.specs.Statements.{lines_read, statement_in, statement_of, statements_from, statements_of}
use Rattle.hlasm_statements.specs.declared.statement.Field.{Field}
use Rattle.hlasm_statements.specs.declared.statement.Field.TheVariants.{Label, Op, Operands}
use Rattle.statement_listing.specs.Listings.{Listed, listed, listing_of}
use Rattle.text_lists.specs.Lists.{AreWhole, IsWhole}

alike : (source : List Placed) → length (places_of source) ≡ length (text_of source)
alike source = length-map source _ ∙ sym (length-map source _)

whole_in : (number : ℕ) (marked alternate : Bool) (bodies : List (List ℕ)) → IsWhole (statement_in number marked alternate bodies)
unfolding statement_in
whole_in number marked alternate bodies Label = alike _
whole_in number marked alternate bodies Op = alike _
whole_in number marked alternate bodies Operands = alike _

whole_of : (number : ℕ) (group : List (List ℕ)) → IsWhole (statement_of number group)
unfolding statement_of
whole_of number group = whole_in number (ends_marked group) (is_alternate lines_read number (map body_of group)) (map body_of group)

abbrev is_whole : Listed → Type 0
is_whole one = IsWhole one.statement

whole_from : (path : PathId) (number : ℕ) (all : List (List (List ℕ))) → AreWhole (listing_of path (statements_from number all))
whole_from path number [] = All-nil is_whole
whole_from path number (group ∷ rest) =
    All-cons is_whole (listed path (statement_of number group)) (listing_of path (statements_from (number + length group) rest)) (whole_of number group)
    (whole_from path (number + length group) rest)

-- those of a text
pub all_whole : (path : PathId) (text : List ℕ) → AreWhole (listing_of path (statements_of text))
all_whole path text = whole_from path 0 (groups (lines text))
