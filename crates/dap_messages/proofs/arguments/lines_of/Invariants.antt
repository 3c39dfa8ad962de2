-- the lines so far, and then what is left
use Rattle.std.proofs.Common.{◌≡◌, map, drop}
use Rattle.serde_json.specs.View.{view}
use Rattle.dap_messages.specs.Arguments.{each, line_in}
use Rattle.dap_messages.proofs.ListLaws.{behind}
use Rattle.dap_messages.proofs.arguments.lines_of.Given as goal

abbrev pub invariant-loop-breakpoint : goal.invariant-loop-breakpoint
invariant-loop-breakpoint l = each line_in (map view l.breakpoints) ≡ behind l.lines (each line_in (map view (drop l.breakpoint-index l.breakpoints)))
