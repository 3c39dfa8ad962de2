-- What an assembly of a program tells of names (this project): of its text, with this SYSPARM and these members, where it may be given
-- so many statements. The texts of the paths that it touches are those that are present.
use Rattle.std.specs.Prelude.{ℕ, List}
use Rattle.called_definitions.specs.Called.{definitions_of, with_prototypes}
use Rattle.document_store.specs.Store.{Store}
use Rattle.program_launch.specs.Traces.{trace_of}
use Rattle.program_occurrences.specs.Programs.{occurrences_of}
use Rattle.text_lists.specs.Definitions.{Defined}
use Rattle.text_lists.specs.Lists.{Source}
use Rattle.text_pool.specs.Members.{Member}
use Rattle.trace_arena.specs.Points.{Point}
use Rattle.trace_values.specs.declared.item.TraceItem.{TraceItem}
use Rattle.waiting_requests.specs.Names.{Names}
use Rattle.program_names.specs.Paths.{met_paths, touched}
use Rattle.program_names.specs.Prototypes.{prototypes}
use Rattle.program_names.specs.Symbols.{rows_of, sections_of}
use Rattle.program_names.specs.Texts.{texts_at}

-- what points tell, whose statements stand in these texts, where these are the statements of the definitions of the macros that they
-- go through, and these those of all definitions that they call or begin
abbrev pub names_by : (path : ℕ) → (members : List ℕ → Member) → List (Point TraceItem) → List Source → (run all : List Defined) → Names
names_by path members points texts run all = record {
  path = path;
  rows = rows_of points;
  sections = sections_of points;
  occurrences = occurrences_of texts run members points;
  touched = touched points all;
}

abbrev pub names_of_run : (path : ℕ) → (members : List ℕ → Member) → List (Point TraceItem) → List Source → (run : List Defined) → Names
names_of_run path members points texts run = names_by path members points texts run (with_prototypes texts members run (prototypes texts points))

abbrev pub names_over : (path : ℕ) → (members : List ℕ → Member) → List (Point TraceItem) → List Source → Names
names_over path members points texts = names_of_run path members points texts (definitions_of texts members points)

-- what points tell
abbrev pub names_in : Store → (path : ℕ) → (members : List ℕ → Member) → List (Point TraceItem) → Names
names_in store path members points = names_over path members points (texts_at store (met_paths points))

unfoldable pub names_of : Store → (path : ℕ) → (text parm : List ℕ) → (members : List ℕ → Member) → (budget : ℕ) → Names
names_of store path text parm members budget = names_in store path members (trace_of path text parm members budget)
