use Rattle.std.proofs.Common.{false, ◌∙◌, ◌∷◌, [], ap, map}
use Rattle.std.proofs.lemmas.List.{map-append}
use Rattle.lookahead_scan.specs.Copying.{outer_of, so_far}
use Rattle.lookahead_scan.proofs.Copies.{in_all-back}
use Rattle.lookahead_scan.proofs.copying.Copying.back.Goals as goal

pub returns-in-Some : goal.returns-in-Some
returns-in-Some c = λ members.
    in_all-back members (map (λ left. left.items) c.pop.new.self.items) (outer_of c.args.self.now) c.args.self.now.current.items c.in-Some.list.items
    (so_far c.args.self.now false) c.requires
    (ap (map (λ left. left.items)) c.in-Some.ensures.items ∙ map-append (λ left. left.items) c.pop.new.self.items (c.in-Some.list ∷ []))
