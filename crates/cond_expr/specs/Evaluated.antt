-- What a call that evaluates an expression answers: its value with its notes; or the key whose answer is needed first and
-- was not given, with the value of a symbol that is not set, and no note. This project.
use Rattle.std.specs.Prelude.{[], Some, None, pos}
use Rattle.hl_base.specs.declared.set.SetValue.{SetValue}
use Rattle.hl_base.specs.declared.set.SetValue.TheVariants.{A, B, C}
use Rattle.expression_grammar.specs.Trees.{Tree}
use Rattle.cond_expr.specs.declared.evaluated.Evaluated.{Evaluated}
use Rattle.cond_expr.specs.Told.{Told}
use Rattle.cond_expr.specs.Outcome.{Outcome, Gives, Asks}
use Rattle.cond_expr.specs.Values.{number, text, is_true}

-- what is answered of an outcome, whose value is made a SET symbol's
abbrev pub answered : {V : Type 0} → (V → SetValue) → V → Outcome V → Evaluated
answered made unset (Gives value notes) = record { value = made value; notes = notes; asked = None }
answered made unset (Asks key) = record { value = made unset; notes = []; asked = Some key }

-- of an arithmetic expression
abbrev pub arithmetic : Tree → Told → Evaluated
arithmetic tree told = answered A (pos 0) (number tree told)

-- of a logical expression
abbrev pub logical : Tree → Told → Evaluated
logical tree told = answered (λ n. B (is_true n)) (pos 0) (number tree told)

-- of a character expression
abbrev pub character : Tree → Told → Evaluated
character tree told = answered C [] (text tree told)
