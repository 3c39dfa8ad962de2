-- The statements of the texts that are present at paths (this project).
use Rattle.std.specs.Prelude.{ℕ, List, [], Option, Some, None}
use Rattle.std.specs.List.{fold}
use Rattle.document_store.specs.Store.{Store, File, Readable, Unreadable, present_at}
use Rattle.hlasm_statements.specs.Statements.{statements_of}
use Rattle.statement_listing.specs.Listings.{listing_of}
use Rattle.text_lists.specs.Lists.{Source, with_list}

-- texts, and what is present at a path, if it can be read
abbrev pub with_present : List Source → (path : ℕ) → Option File → List Source
with_present texts path None = texts
with_present texts path (Some Unreadable) = texts
with_present texts path (Some (Readable text)) = with_list texts path (listing_of (record { 0 = path }) (statements_of text))

abbrev pub with_text : Store → List Source → (path : ℕ) → List Source
with_text store texts path = with_present texts path (present_at store path)

-- the texts that are present at these paths, in their order
abbrev pub texts_at : Store → (paths : List ℕ) → List Source
texts_at store paths = fold (with_text store) [] paths
