use Rattle.std.proofs.Common.{◌∙◌, Bool, List, [], ℕ, cond, sym, ap}
use Rattle.std.specs.Str.{chars}
use Rattle.macro_operands.proofs.value.name_entry.Goals as goal

pub returns-then-is_sequence_symbol : goal.returns-then-is_sequence_symbol
unfolding chars
returns-then-is_sequence_symbol c =
    let left : Bool → List ℕ = λ b. cond b [] (chars c.args.label.now) in
    sym (ap left (sym c.is_sequence_symbol.ensures ∙ c.if-is_sequence_symbol.true))
