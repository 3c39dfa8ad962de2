use Rattle.std.proofs.Common.{◌≡◌, ◌+◌, ℕ, subst}
use Rattle.std.specs.Prelude.{IfOk}
use Rattle.program_occurrences.proofs.prototype.next_place.Goals as goal

pub returns : goal.returns
returns c = subst (λ (n : ℕ). IfOk c.place_behind.result (λ (next : ℕ). next ≡ c.args.at + (n + 1))) c.in_ok-count.ensures c.place_behind.ensures
