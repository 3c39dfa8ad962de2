use Rattle.std.proofs.Common.{◌≡◌, ◌++◌, [], ◌∷◌}
use Rattle.std.specs.Prelude.{codes, string_bytes}
use Rattle.bulk_script.specs.Texts.{text_of, call_lines}
use Rattle.bulk_script.proofs.texts.program_text.Given as goal

-- the calls so far are there
abbrev pub invariant-loop-call : goal.invariant-loop-call
invariant-loop-call l = string_bytes l.text ≡ text_of (codes " GBLA &TOT" ∷ codes "BULK CSECT" ∷ []) ++ call_lines l.count 0 l.call
