-- What a statement does to what there was before it, by what it asks for (HLASM Language Reference SC26-4940, "Program sectioning",
-- "Location counter").
use Rattle.std.specs.Prelude.{ℕ, true, false, List, [], Option}
use Rattle.instruction_table.specs.Formats.{length_of}
use Rattle.layout_statements.specs.Statements as statements
use Rattle.layout_statements.specs.Statements.{Statement, Task}
use Rattle.symbol_attributes.specs.declared.meaning.OpMeaning.{OpMeaning}
use Rattle.section_steps.specs.Constants.{constants_behind, constants_laid}
use Rattle.section_steps.specs.Ends.{end_behind, end_laid}
use Rattle.section_steps.specs.Equates.{equate_behind, equate_laid}
use Rattle.section_steps.specs.Instructions.{instruction_behind, instruction_laid}
use Rattle.section_steps.specs.Marks.{mark_behind, mark_laid}
use Rattle.section_steps.specs.Needs.{met}
use Rattle.section_steps.specs.Orgs.{org_behind, org_laid}
use Rattle.section_steps.specs.Pools.{pool_behind, pool_laid}
use Rattle.section_steps.specs.Sections.{section_behind, section_laid}
use Rattle.section_steps.specs.States.{State, Laid, Nothing}
use Rattle.section_steps.specs.Symbols.{externals_behind, externals_laid, entries_laid}

-- the state behind a statement that is met
abbrev pub task_behind : OpMeaning → Task → Option (List ℕ) → State → State
task_behind op (statements.Instruction format literals) label state = instruction_behind (length_of format) literals label state
task_behind op (statements.Constants operands) label state = constants_behind operands label state
task_behind op statements.ControlSection label state = section_behind label false state
task_behind op statements.DummySection label state = section_behind label true state
task_behind op (statements.Equate said) label state = equate_behind said label state
task_behind op (statements.Org to) label state = org_behind to label state
task_behind op statements.Pool label state = pool_behind label state
task_behind op (statements.Externals symbols) label state = externals_behind op symbols label state
task_behind op (statements.Entries symbols) label state = mark_behind label state
task_behind op (statements.End at) label state = end_behind label state
task_behind op (statements.Bases reads) label state = mark_behind label state
task_behind op statements.Nothing label state = mark_behind label state

-- what is kept of it
abbrev pub task_laid : OpMeaning → Task → Option (List ℕ) → State → Laid
task_laid op (statements.Instruction format literals) label state = instruction_laid (length_of format) literals label state
task_laid op (statements.Constants operands) label state = constants_laid operands label state
task_laid op statements.ControlSection label state = section_laid label false state
task_laid op statements.DummySection label state = section_laid label true state
task_laid op (statements.Equate said) label state = equate_laid said label state
task_laid op (statements.Org to) label state = org_laid to label state
task_laid op statements.Pool label state = pool_laid label state
task_laid op (statements.Externals symbols) label state = externals_laid op symbols label state
task_laid op (statements.Entries symbols) label state = entries_laid symbols label state
task_laid op (statements.End at) label state = end_laid at label state
task_laid op (statements.Bases reads) label state = mark_laid [] Nothing label state
task_laid op statements.Nothing label state = mark_laid [] Nothing label state

-- a statement, which first begins a section where it needs one
unfoldable pub behind : Statement → State → State
behind statement state = task_behind statement.op statement.task statement.label (met statement state)

unfoldable pub laid : Statement → State → Laid
laid statement state = task_laid statement.op statement.task statement.label (met statement state)
