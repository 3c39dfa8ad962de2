use Rattle.std.proofs.Common.{◌∙◌, ◌++◌, ap}
use Rattle.std.specs.Prelude.{chars}
use Rattle.std.proofs.lemmas.Str.{chars-append, IsUtf8-had}
use Rattle.std.proofs.lemmas.Result.{on_ok_weaker}
use Rattle.hl_base.specs.Content.{content_bytes}
use Rattle.hl_base.proofs.TextLaws.{IsUtf8-pushed}
use Rattle.hl_base.proofs.text.Text.push_str.Goals as goal

pub invariant_of-self : goal.invariant_of-self
invariant_of-self c =
    let old = content_bytes c.self.inside.content in
    ∣ IsUtf8-pushed c.push_str.result old c.args.text.now _ (IsUtf8-had old c.self.invariant) c.utf8.text c.push_str.ensures.ok c.push_str.ensures.err ∣₁

pub returns-clause-ok : goal.returns-clause-ok
returns-clause-ok c =
    let old = content_bytes c.self.inside.content in
    on_ok_weaker c.push_str.result
    (λ added. ap chars added ∙ chars-append old c.args.text.now (IsUtf8-had old c.self.invariant)
    ∙ ap (λ front. front ++ chars c.args.text.now) c.self.view_is)
    c.push_str.ensures.ok
