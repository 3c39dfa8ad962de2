-- What is written has no float of its own, so its text is known byte for byte.
use Rattle.std.proofs.Common.{◌≡◌, ℕ, List, [], ◌∷◌, false, map, refl}
use Rattle.std.specs.List.{enumerate_from}
use Rattle.serde_json.specs.View.{items_of}
use Rattle.serde_json.specs.Written.{has_float, items_have_float}
use Rattle.dap_messages.specs.declared.bodies.StackFrame.{StackFrame}
use Rattle.dap_messages.specs.declared.bodies.Variable.{Variable}
use Rattle.dap_messages.specs.Written.{breakpoint_value, breakpoints_value, frame_value, stack_value, variable_value, variables_value}

pub items_have_float-breakpoints : (lines : List ℕ) → items_have_float (items_of (map breakpoint_value lines)) ≡ false
items_have_float-breakpoints [] = refl
items_have_float-breakpoints (line ∷ lines) = items_have_float-breakpoints lines

pub items_have_float-frames : (frames : List (ℕ × StackFrame)) → items_have_float (items_of (map frame_value frames)) ≡ false
items_have_float-frames [] = refl
items_have_float-frames (frame ∷ frames) = items_have_float-frames frames

pub items_have_float-variables : (variables : List Variable) → items_have_float (items_of (map variable_value variables)) ≡ false
items_have_float-variables [] = refl
items_have_float-variables (variable ∷ variables) = items_have_float-variables variables

-- ---- the same of whole bodies

pub whole_breakpoints : (lines : List ℕ) → has_float (breakpoints_value lines) ≡ false
whole_breakpoints lines = rw (items_have_float-breakpoints lines) refl

pub whole_stack : (frames : List StackFrame) → has_float (stack_value frames) ≡ false
whole_stack frames = rw (items_have_float-frames (enumerate_from 1 frames)) refl

pub whole_variables : (variables : List Variable) → has_float (variables_value variables) ≡ false
whole_variables variables = rw (items_have_float-variables variables) refl
