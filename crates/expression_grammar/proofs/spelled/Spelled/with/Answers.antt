use Rattle.std.proofs.Common.{◌≡◌, ◌<◌, ◌++◌, ◌∷◌, [], length, rules, sym, subst, List, ℕ}
use Rattle.std.specs.Prelude.{Some}
use Rattle.std.specs.Char.{to_ascii_uppercase}
use Rattle.hl_base.specs.Symbols.{symbol_of}
use Rattle.expression_grammar.proofs.Names.{upper-longer}
use Rattle.expression_grammar.proofs.spelled.Spelled.with.Goals as goal

pub invariant_of-result : goal.invariant_of-result
invariant_of-result c =
    let bytes : List ℕ = c.self.inside.upper.bytes in
    let longer : c.push.new.self.bytes ≡ bytes ++ to_ascii_uppercase c.args.c ∷ [] = search rules in
    let short : length bytes < 63 = search rules in
    subst (λ (xs : List ℕ). symbol_of xs ≡ Some xs) (sym longer) (upper-longer bytes c.args.c c.self.invariant short c.requires.character)
