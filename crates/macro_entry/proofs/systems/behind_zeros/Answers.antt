use Rattle.std.proofs.Common.{◌∙◌, ◌++◌, ◌∷◌, [], ap, replicate}
use Rattle.std.specs.Str.{chars}
use Rattle.std.proofs.lemmas.List.{replicate_more}
use Rattle.macro_entry.proofs.SystemLaws.{zero_spelled}
use Rattle.macro_entry.proofs.systems.behind_zeros.Goals as goal

pub loop-place-preserved : goal.loop-place-preserved
loop-place-preserved c =
    c.in_ok-push_str.ensures.ok
    ∙ ap (λ text. text ++ chars (48 ∷ [])) c.loop-place.invariant
    ∙ ap (λ cs. replicate c.loop-place._place 48 ++ cs) zero_spelled
    ∙ replicate_more c.loop-place._place 48
