use Rattle.std.proofs.Common.{◌≡◌, ◌++◌, take}
use Rattle.std.specs.List.{filter}
use Rattle.using_statements.proofs.Once.{unused_rows}
use Rattle.using_statements.specs.Said.{each_once, is_marked}
use Rattle.using_statements.proofs.unused.push_marked.Given as goal

-- what is said of the registers so far
abbrev pub invariant-loop-place : goal.invariant-loop-place
invariant-loop-place l =
    l.rows.items ≡ l.initial.rows.items ++ unused_rows (filter (is_marked l.mask) (each_once (take l.place l.registers)))
