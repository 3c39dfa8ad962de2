use Rattle.std.proofs.Common.{sym, ◌∙◌}
use Rattle.expression_grammar.proofs.CharacterLaws.{kind-letter}
use Rattle.expression_grammar.proofs.part.after_asked.Goals as goal

pub new-requires : goal.new-requires
new-requires c = kind-letter c.args.c (sym c.requires ∙ c.in-Letter.is)
