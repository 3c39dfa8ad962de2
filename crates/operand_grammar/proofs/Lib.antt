pub use Rattle.logical_grammar.proofs.LogicFinds
