use Rattle.std.proofs.Common.{◌<◌, rules, subst, sym, ℕ}
use Rattle.expression_grammar.proofs.CharacterLaws.{kind-letter}
use Rattle.expression_grammar.proofs.MoveLaws.{upper_small}
use Rattle.expression_grammar.proofs.reader.begin_word.Goals as goal

pub overflow_cast-letter : goal.overflow_cast-letter
overflow_cast-letter c =
    let small : c.to_ascii_uppercase-letter.result < 256 = subst (λ (n : ℕ). n < 256) (sym c.to_ascii_uppercase-letter.ensures.value) (upper_small c.args.c c.requires) in
    search rules

pub new-requires : goal.new-requires
new-requires c = kind-letter c.args.c c.requires
