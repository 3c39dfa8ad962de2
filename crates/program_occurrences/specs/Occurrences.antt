-- The occurrences of one point (this project).
use Rattle.std.specs.Prelude.{ℕ, true, List, [], ◌∷◌, ◌++◌, Option, Some, None, if◌then◌else◌}
use Rattle.hl_base.specs.declared.place.Origin.{Origin}
use Rattle.hl_base.specs.declared.place.PathId.{PathId}
use Rattle.hlasm_statements.specs.declared.statement.Statement.{Statement}
use Rattle.running_calls.specs.declared.calls.RunningCall.{RunningCall}
use Rattle.statement_listing.specs.Listings.{Listed}
use Rattle.statement_names.specs.Statements.{names_in}
use Rattle.statement_occurrences.specs.Named.{Circumstances, of_names}
use Rattle.text_lists.specs.Definitions.{Defined}
use Rattle.text_lists.specs.Lists.{Source, line_at}
use Rattle.text_pool.specs.Members.{Member}
use Rattle.trace_values.specs.declared.item.TraceItem.{TraceItem}
use Rattle.trace_values.specs.declared.occurrence.Entity.TheVariants as entity
use Rattle.trace_values.specs.declared.occurrence.Occurrence.{Occurrence}
use Rattle.trace_values.specs.declared.occurrence.Role.TheVariants as role
use Rattle.variable_meanings.specs.Meanings.{Call}
use Rattle.program_occurrences.specs.Known.{running}
use Rattle.program_occurrences.specs.Labels.{of_calls}
use Rattle.program_occurrences.specs.Operations.{is_entered, member_taken, used_by}
use Rattle.program_occurrences.specs.Prototypes.{prototype_at}

-- the place at the start of a member, where it is defined
abbrev pub start_of : PathId → Occurrence
start_of path = record { path = path; line = 0; from = 1; to = 1; entity = entity.Member path; defines = true; role = role.Plain }

-- the start of a member that was taken, if one was
abbrev pub start_in : Option PathId → List Occurrence
start_in None = []
start_in (Some path) = start_of path ∷ []

-- the names of the prototype of the macro that an operation named, if the call was entered
abbrev pub called_at : List Source → TraceItem → (called : Option Origin) → List Occurrence
called_at texts item None = []
called_at texts item (Some origin) = if is_entered item then prototype_at texts origin else []

abbrev pub of_called : List Source → TraceItem → List Occurrence
of_called texts item = called_at texts item item.called

-- What is known where a point is met: the calls that are running, by their levels, and how many of them stand round its own; what
-- variable symbols mean in its call; and the symbol that its label defines first of all.
pub record Situation : Type 0 where
  pub calls : ℕ → Option RunningCall
  pub level : ℕ
  pub variables : Call
  pub first : Option (List ℕ)

-- what is known of its statement
abbrev pub circumstances : List Source → List Defined → Situation → TraceItem → (member : Option PathId) → Circumstances
circumstances texts definitions here item member =
    record { list = running texts definitions item; call = here.variables; item = item; first = here.first; member = member }

-- the occurrences of the names of a statement, which took this member
abbrev pub of_names_in : List Source → List Defined → Situation → TraceItem → Statement → (member : Option PathId) → List Occurrence
of_names_in texts definitions here item statement member =
    of_names (circumstances texts definitions here item member) item.frames.innermost.origin.path statement [] (names_in (used_by item statement) statement)

-- those, and behind them the prototype or the member
abbrev pub of_taken : List Source → List Defined → Situation → TraceItem → Statement → (member : Option PathId) → List Occurrence
of_taken texts definitions here item statement member =
    of_names_in texts definitions here item statement member ++ (of_called texts item ++ start_in member)

-- those of a statement: that of the label of a call, those of its names, and behind them the prototype or the member
abbrev pub of_statement : List Source → List Defined → (List ℕ → Member) → Situation → TraceItem → Statement → List Occurrence
of_statement texts definitions members here item statement =
    of_calls texts here.calls here.level statement here.first
    ++ of_taken texts definitions here item statement (member_taken members (used_by item statement) item statement)

abbrev pub of_line : List Source → List Defined → (List ℕ → Member) → Situation → TraceItem → Option Listed → List Occurrence
of_line texts definitions members here item None = []
of_line texts definitions members here item (Some line) = of_statement texts definitions members here item line.statement

-- the occurrences of a point: those of the statement that stands at its place
abbrev pub of_point : List Source → List Defined → (List ℕ → Member) → Situation → TraceItem → List Occurrence
of_point texts definitions members here item = of_line texts definitions members here item (line_at texts item.frames.innermost.origin)
