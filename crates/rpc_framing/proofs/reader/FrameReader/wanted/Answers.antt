use Rattle.std.proofs.Common.{ℕ, ◌∙◌, ap, List, subst}
use Rattle.rpc_framing.specs.Reading.{IsWanted, Waits}
use Rattle.rpc_framing.proofs.Standing.{Waits-wanted}
use Rattle.std.specs.Prelude.{unwrap_or}
use Rattle.rpc_framing.proofs.reader.FrameReader.wanted.Goals as goal

pub returns-clause-exact : goal.returns-clause-exact
returns-clause-exact c sound =
    let P : List ℕ → Type 0 = λ rest. IsWanted rest c.unwrap_or.result in
    subst P (ap (λ r. r.rest) c.self.view_is)
    (Waits-wanted _ _ _ _ c.self.invariant (c.unwrap_or.ensures ∙ ap (λ o. unwrap_or o 1) c.missing.ensures)).0

pub returns-clause-waits : goal.returns-clause-waits
returns-clause-waits c sound =
    let P : List ℕ → Type 0 = λ rest. Waits rest c.unwrap_or.result in
    subst P (ap (λ r. r.rest) c.self.view_is)
    (Waits-wanted _ _ _ _ c.self.invariant (c.unwrap_or.ensures ∙ ap (λ o. unwrap_or o 1) c.missing.ensures)).1
