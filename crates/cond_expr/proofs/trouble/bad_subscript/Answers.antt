use Rattle.std.proofs.Common.{◌≡◌, subst, List, ℕ, IfOk}
use Rattle.std.specs.Str.{chars}
use Rattle.cond_expr.specs.Troubles.{bad_subscript}
use Rattle.cond_expr.proofs.trouble.bad_subscript.Goals as goal

pub returns : goal.returns
unfolding chars
returns c = subst (λ (name : List ℕ). IfOk c.note.result (λ n. n ≡ bad_subscript name)) c.text.ensures c.note.ensures
