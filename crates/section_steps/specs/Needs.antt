-- Which statements need a place (this project): where no section has begun yet, they begin the unnamed one. Machine
-- instructions, DC, DS, ORG and LTORG do; EQU where `*` is a term of what it reads; and EXTRN, WXTRN, ENTRY, END, USING and DROP
-- where their label gets the place as its value, END, USING and DROP also where `*` is a term of their operands.
use Rattle.std.specs.Prelude.{ℕ, ◌||◌, Bool, true, false, Option, Some, None, Result, is_some, if◌then◌else◌}
use Rattle.expression_grammar.specs.Trees.{Tree}
use Rattle.layout_statements.specs.Equates.{Equate}
use Rattle.layout_statements.specs.Expressions.{reads_place}
use Rattle.layout_statements.specs.Statements as statements
use Rattle.layout_statements.specs.Statements.{Statement, Task}
use Rattle.section_table.specs.Tables as sections
use Rattle.section_steps.specs.States.{State}

abbrev pub some_reads_place : Option (Result Tree ℕ) → Bool
some_reads_place None = false
some_reads_place (Some reading) = reads_place reading

abbrev pub equate_reads_place : Equate → Bool
equate_reads_place said = reads_place said.value || some_reads_place said.length

abbrev pub needs_by : Task → (labelled : Bool) → Bool
needs_by (statements.Instruction format literals) labelled = true
needs_by (statements.Constants operands) labelled = true
needs_by statements.ControlSection labelled = false
needs_by statements.DummySection labelled = false
needs_by (statements.Equate said) labelled = equate_reads_place said
needs_by (statements.Org to) labelled = true
needs_by statements.Pool labelled = true
needs_by (statements.Externals symbols) labelled = labelled
needs_by (statements.Entries symbols) labelled = labelled
needs_by (statements.End at) labelled = labelled || some_reads_place at
needs_by (statements.Bases reads) labelled = labelled || reads
needs_by statements.Nothing labelled = false

abbrev pub needs : Statement → Bool
needs statement = needs_by statement.task (is_some statement.label)

-- the state in which a statement is met
unfoldable pub met : Statement → State → State
met statement state = record state { sections = if needs statement then sections.needed state.sections else state.sections }
