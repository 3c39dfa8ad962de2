-- What is known where a point is met, by what was kept of those before. No public clause cites this file. This project.
use Rattle.std.specs.Prelude.{ℕ, List, Option}
use Rattle.defined_symbols.specs.Symbols.{first_in}
use Rattle.running_calls.specs.Calls.{held, met, variables_or}
use Rattle.running_calls.specs.declared.calls.RunningCall.{RunningCall}
use Rattle.trace_values.specs.declared.item.TraceItem.{TraceItem}
use Rattle.program_occurrences.specs.Occurrences.{Situation}

-- at a point of a level, where these calls are running and these symbols are defined
abbrev pub met_with : List (Option RunningCall) → List (List ℕ) → (level : ℕ) → TraceItem → Situation
met_with calls symbols level item = record {
  calls = held (met calls level item);
  level = level;
  variables = variables_or (held calls level) item;
  first = first_in symbols item.line;
}
