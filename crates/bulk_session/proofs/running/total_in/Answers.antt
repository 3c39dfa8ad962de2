use Rattle.std.proofs.Common.{◌≡◌, ◌∙◌, ℕ, List, Option, Some, pos, ap, codes, rules, sym}
use Rattle.std.specs.Prelude.{unwrap_or}
use Rattle.std.specs.Int.{w32}
use Rattle.std.proofs.lemmas.Int.{to_z-of_z}
use mir.Val.{SFits}
use Rattle.session_core.specs.Globals.{number_of}
use Rattle.bulk_session.proofs.running.total_in.Goals as goal

pub returns : goal.returns
returns c =
    let fits : SFits w32 c.unwrap_or.result = search rules in
    let read : ◌≡◌ {A = Option (List ℕ)} (Some c.in-Some.name) (Some (codes "TOT")) = sym c.in-Some.is ∙ c.read.ensures in
    let called : c.in-Some.name ≡ codes "TOT" = cc in
    to_z-of_z w32 c.unwrap_or.result fits
    ∙ c.unwrap_or.ensures
    ∙ ap (λ found. unwrap_or found (pos 0)) (c.global.ensures ∙ ap (λ name. number_of name c.args.figures.now.globals) called)
