use Rattle.std.proofs.Common.{◌≡◌, drop}
use Rattle.section_table.specs.Shown.{table_of}
use Rattle.section_steps.specs.Pools.{control_from}
use Rattle.section_steps.proofs.pools.last_home.Given as goal

-- none is found before the number
abbrev pub invariant-loop-number : goal.invariant-loop-number
invariant-loop-number l =
    let spans = (table_of l.sections).spans in
    control_from 0 spans ≡ control_from l.number (drop l.number spans)
