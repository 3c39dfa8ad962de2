use Rattle.std.proofs.Common.{◌≡◌, ◌∙◌, true, false, List, [], ◌∷◌, ◌++◌, sym, ap, append-nil}
use Rattle.std.specs.Prelude.{None, Some}
use Rattle.lookahead_scan.specs.declared.sight.Label.{Label}
use Rattle.lookahead_scan.specs.declared.sight.Sight.{Sight}
use Rattle.lookahead_scan.specs.declared.sight.Sight.TheVariants.{Ended}
use Rattle.lookahead_scan.specs.Copying.{comes_to, depth_of, outer_of, so_far as met_so_far}
use Rattle.lookahead_scan.specs.Looks.{joined, met, member_met}
use Rattle.lookahead_scan.proofs.Copies.{in_all, in_all-ended, so_far}
use Rattle.lookahead_scan.proofs.copying.Copying.see.Goals as goal

pub returns-in_ok-push-in-Ended-Some : goal.returns-in_ok-push-in-Ended-Some
returns-in_ok-push-in-Ended-Some g c =
    let members = g.P.Present.members c.args.present.now in
    let old = c.args.self.now in
    let is : c.args.sight ≡ Ended (Some c.in-Ended-Some.label) = cc in
    let pushed : c.push-in-Ended-Some.new.labels.items ≡ old.labels.items ++ c.in-Ended-Some.label ∷ [] =
    rw c.in-Ended-Some.field-0-is at c.in_ok-push-in-Ended-Some.ensures in
    sym (in_all-ended members (outer_of old) old.current.items c.push-in-Ended-Some.new.labels.items old.taken.items)
    ∙ ap (λ (labels : List Label). in_all members (outer_of old) old.current.items (so_far labels old.taken.items true)) pushed
    ∙ ap (λ (sight : Sight). comes_to members old (joined (met_so_far old false) (met (member_met members (depth_of old)) old.taken.items sight))) (sym is)

pub returns-in-Ended-None : goal.returns-in-Ended-None
returns-in-Ended-None g c =
    let members = g.P.Present.members c.args.present.now in
    let old = c.args.self.now in
    let is : c.args.sight ≡ Ended None = cc in
    sym (in_all-ended members (outer_of old) old.current.items old.labels.items old.taken.items)
    ∙ ap (λ (labels : List Label). in_all members (outer_of old) old.current.items (so_far labels old.taken.items true)) (sym (append-nil old.labels.items))
    ∙ ap (λ (sight : Sight). comes_to members old (joined (met_so_far old false) (met (member_met members (depth_of old)) old.taken.items sight))) (sym is)
