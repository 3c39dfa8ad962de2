-- What is told of names, from its parts.
use Rattle.std.proofs.Common.{◌≡◌, ◌∙◌, ℕ, List, map, ap}
use Rattle.std.specs.List.{flat_map}
use Rattle.hl_base.specs.declared.place.Origin.{Origin}
use Rattle.hl_base.specs.declared.place.PathId.{PathId}
use Rattle.called_definitions.specs.Called.{definitions_of, with_prototypes}
use Rattle.document_store.specs.Store.{Store}
use Rattle.program_occurrences.specs.Programs.{occurrences_of}
use Rattle.text_lists.specs.Definitions.{Defined, defined_paths}
use Rattle.text_lists.specs.Lists.{Source}
use Rattle.text_pool.specs.Members.{Member}
use Rattle.trace_arena.specs.Points.{Point}
use Rattle.trace_values.specs.declared.item.TraceItem.{TraceItem}
use Rattle.trace_values.specs.declared.occurrence.Occurrence.{Occurrence}
use Rattle.trace_values.specs.declared.section.Section.{Section}
use Rattle.trace_values.specs.declared.symbol_row.SymbolRow.{SymbolRow}
use Rattle.program_names.specs.Names.{names_in}
use Rattle.program_names.specs.Paths.{met_paths, with_paths}
use Rattle.program_names.specs.Prototypes.{prototypes}
use Rattle.program_names.specs.Symbols.{rows_of, sections_of}
use Rattle.program_names.specs.Texts.{texts_at}

abbrev numbered : List ℕ → List PathId
numbered ns = map (λ n. record { 0 = n }) ns

pub names_are : (store : Store) (path : ℕ) (members : List ℕ → Member) (points : List (Point TraceItem)) (met : List ℕ) (texts : List Source) (run all : List Defined)
    (occurrences : List Occurrence) (rows : List SymbolRow) (sections : List Section) (places : List Origin) (touched : List PathId) →
    met ≡ met_paths points → texts ≡ texts_at store met → run ≡ definitions_of texts members points → occurrences ≡ occurrences_of texts run members points →
    rows ≡ rows_of points → sections ≡ sections_of points → places ≡ prototypes texts points → all ≡ with_prototypes texts members run places →
    touched ≡ map (λ n. record { 0 = n }) (with_paths met (flat_map defined_paths all)) →
    record { path = path; rows = rows; sections = sections; occurrences = occurrences; touched = touched } ≡ names_in store path members points
names_are store path members points met texts run all occurrences rows sections places touched met_is texts_is run_is occurrences_are rows_are sections_are places_are all_is touched_are =
    let t : List Source = texts_at store (met_paths points) in
    let r : List Defined = definitions_of t members points in
    let of_texts : texts ≡ t = texts_is ∙ ap (texts_at store) met_is in
    let of_run : run ≡ r = run_is ∙ ap (λ (ts : List Source). definitions_of ts members points) of_texts in
    let of_occurrences : occurrences ≡ occurrences_of t r members points =
    occurrences_are ∙ ap (λ (ts : List Source). occurrences_of ts run members points) of_texts ∙ ap (λ (ds : List Defined). occurrences_of t ds members points) of_run in
    let of_places : places ≡ prototypes t points = places_are ∙ ap (λ (ts : List Source). prototypes ts points) of_texts in
    let of_all : all ≡ with_prototypes t members r (prototypes t points) =
    all_is ∙ ap (λ (ts : List Source). with_prototypes ts members run places) of_texts ∙ ap (λ (ds : List Defined). with_prototypes t members ds places) of_run
    ∙ ap (λ (os : List Origin). with_prototypes t members r os) of_places in
    let of_touched : touched ≡ numbered (with_paths (met_paths points) (flat_map defined_paths (with_prototypes t members r (prototypes t points)))) =
    touched_are ∙ ap (λ (ks : List ℕ). numbered (with_paths ks (flat_map defined_paths all))) met_is
    ∙ ap (λ (ds : List Defined). numbered (with_paths (met_paths points) (flat_map defined_paths ds))) of_all in
    λ i. record { path = path; rows = rows_are i; sections = sections_are i; occurrences = of_occurrences i; touched = of_touched i }
