-- Where a statement stands, and what there is (this project).
use Rattle.std.specs.Prelude.{Option}
use Rattle.ordinary_symbols.specs.Known.{Knowledge}
use Rattle.ordinary_symbols.specs.Shown.{table_of}
use Rattle.ordinary_symbols.specs.Table.{known}
use Rattle.trace_values.specs.declared.section.Reloc.{Reloc}
use Rattle.using_ranges.specs.Ranges.{Held}
use Rattle.operand_checks.specs.declared.setting.Setting as declared

-- what is known of symbols, the ranges in force, and the place of the statement, which is the value of `*`
pub record Setting : Type 0 where
  pub known : Knowledge
  pub ranges : Held
  pub here : Option Reloc

-- what the program's setting is
abbrev pub setting_of : declared.Setting → Setting
setting_of setting = record {
  known = known (table_of setting.symbols.now);
  ranges = setting.ranges.now;
  here = setting.here;
}
