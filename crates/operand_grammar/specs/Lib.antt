pub use Rattle.logical_grammar.specs.LogicReadings
pub use Rattle.operand_list.specs.Split
pub use Rattle.logical_grammar.specs.Logics
