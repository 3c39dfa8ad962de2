-- Lines as they are held: texts that were read, and places in them; and the index of labels. No public clause cites this
-- file. This project.
use Rattle.std.specs.Prelude.{◌≡◌, ℕ, ◌+◌, Bool, List, [], ◌∷◌, slice_index_or, Option, Some, None, string_bytes, if◌then◌else◌}
use Rattle.std.specs.Map.{lookup}
use Rattle.std.specs.Str.{bytes_eq}
use Rattle.std.specs.declared.string.String.{String}
use Rattle.std.specs.declared.alloc.Global.{Global}
use Rattle.hlasm_statements.specs.declared.statement.Shape.TheVariants.{Blank}
use Rattle.hlasm_statements.specs.declared.statement.Statement.{Statement}
use Rattle.statement_listing.specs.Listings.{Listed, Element, listed, is_plain, place_of, plain_numbers}
use Rattle.statement_listing.specs.declared.numbering.Numbering.{Numbering}
use Rattle.statement_listing.specs.declared.source.Source.{Source}

-- what stands past the end of a text
abbrev pub unwritten : Statement
unwritten = record {
  first = 0;
  last = 0;
  shape = Blank;
  faults = [];
  label = [];
  op = [];
  operands = [];
  label_places = [];
  op_places = [];
  operand_places = [];
}

-- the statement of this number in a text
abbrev pub statement_at : Source → ℕ → Statement
statement_at source at = slice_index_or source.statements at unwritten

abbrev pub listed_at : Source → ℕ → Listed
listed_at source at = listed source.path (statement_at source at)

-- of each line, how many before it are processed, and so many before the first
abbrev pub places_before : (place : ℕ) → List Listed → List ℕ
places_before place [] = []
places_before place (one ∷ rest) = place ∷ places_before (if is_plain one.statement.shape then place + 1 else place) rest

-- whether a key spells a name
abbrev pub spells : List ℕ → String Global → Bool
spells name key = bytes_eq name (string_bytes key)

-- each name has the place that it has among the elements
abbrev pub IsIndex : List (String Global × ℕ) → List Element → Type 0
IsIndex entries all = (name : List ℕ) → lookup (spells name) entries ≡ place_of name all

-- the place of a name, where one label more has this place: the first counts
abbrev pub noted : Option ℕ → (name label : List ℕ) (place : ℕ) → Option ℕ
noted (Some earlier) name label place = Some earlier
noted None name label place = if bytes_eq name label then Some place else None

-- the same, where a statement may have no label
abbrev pub noted_found : Option ℕ → (name : List ℕ) (label : Option (List ℕ)) (place : ℕ) → Option ℕ
noted_found before name None place = before
noted_found before name (Some label) place = noted before name label place

-- the numbers of the lines that are processed, and how many are before each line
pub record IsNumbering (numbering : Numbering) (list : List Listed) : Type 0 where
  pub numbers : numbering.numbers.items ≡ plain_numbers 0 list
  pub before : numbering.before.items ≡ places_before 0 list
