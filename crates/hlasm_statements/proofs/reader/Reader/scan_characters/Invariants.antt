use Rattle.std.proofs.Common.{◌≡◌, length}
use Rattle.std.specs.Prelude.{reverse, slice_index, ◌==◌}
use Rattle.hl_base.specs.Quoting.{IsBehind}
use Rattle.hlasm_statements.specs.Fields.{keeps_groups}
use Rattle.hlasm_statements.proofs.ScanLaws.{IsScanning}
use Rattle.hlasm_statements.proofs.reader.Reader.scan_characters.Given as goal

-- the characters so far go on with the field
abbrev pub invariant-loop-c : goal.invariant-loop-c
invariant-loop-c l =
    (IsBehind l.self.nesting (reverse l.self.operands) → l.self.ends_in_comma ≡ (slice_index (reverse l.self.operands) 0 == 44) → IsScanning (keeps_groups l.self.op) (reverse l.self.operands) l.yielded l.nesting l.ends_in_comma)
    × (l.count ≡ length l.yielded)
