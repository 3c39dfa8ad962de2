-- What an operand of DC or DS, or a literal, comes to (HLASM Language Reference SC26-4940, "DC instruction", "DS
-- instruction", "Literals"; what is said of it, and that it takes nothing where it cannot be read or a number is wrong or not
-- known, is this project's).
use Rattle.std.specs.Prelude.{List, Option, Some, None, if◌then◌else◌}
use Rattle.hl_base.specs.declared.set.Attr.{Attr}
use Rattle.constant_grammar.specs.Constants.{Constant}
use Rattle.constant_values.specs.Values.{values_of}
use Rattle.note_rows.specs.declared.row.Row.{Row}
use Rattle.constant_operands.specs.declared.number.Numbers.{Numbers}
use Rattle.constant_operands.specs.declared.number.ToldNumbers.{ToldNumbers}
use Rattle.constant_operands.specs.declared.operand.ConstantUse.{ConstantUse}
use Rattle.constant_operands.specs.declared.room.Extent.{Extent}
use Rattle.constant_operands.specs.Labels as labels
use Rattle.constant_operands.specs.Numbers.{numbers_of, are_refused}
use Rattle.constant_operands.specs.Operands.{Operand}
use Rattle.constant_operands.specs.Room.{extent_of}
use Rattle.constant_operands.specs.Said as notes

-- what a label on it means, what it takes, and what is said of it
pub record Measure : Type 0 where
  pub attr : Attr
  pub extent : Option Extent
  pub said : List Row

-- an operand that has a number out of its bounds is not read; a label on it has the letter of its type all the same
abbrev pub refused_measure : Attr → Measure
refused_measure attr = record { attr = attr; extent = None; said = notes.unread }

-- one that is not written as a constant, or lacks values
abbrev pub unread_measure : Measure
unread_measure = refused_measure labels.unread

-- a constant with its numbers
abbrev pub measured : ConstantUse → Numbers → Constant → Measure
measured used numbers one =
    let attr = labels.attr_of one numbers.length in
    if are_refused numbers then refused_measure attr
    else record { attr = attr; extent = extent_of numbers one (values_of one); said = notes.said_of used numbers one (values_of one) }

-- an operand that was read, or not, by what is told of its expressions
abbrev pub measure_by : ConstantUse → Option Constant → ToldNumbers → Measure
measure_by used None values = unread_measure
measure_by used (Some one) values = measured used (numbers_of used values one) one

abbrev pub measure : Operand → ToldNumbers → Measure
measure operand values = measure_by operand.used operand.constant values
