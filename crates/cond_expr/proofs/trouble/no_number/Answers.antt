use Rattle.std.proofs.Common.{◌≡◌, subst, List, ℕ, IfOk}
use Rattle.std.specs.Str.{chars}
use Rattle.cond_expr.specs.Troubles.{no_number}
use Rattle.cond_expr.proofs.trouble.no_number.Goals as goal

pub returns : goal.returns
unfolding chars
returns c = subst (λ (name : List ℕ). IfOk c.note.result (λ n. n ≡ no_number name)) c.text.ensures c.note.ensures
