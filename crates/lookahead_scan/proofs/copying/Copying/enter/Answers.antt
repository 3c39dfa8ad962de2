use Rattle.std.proofs.Common.{refl}
use Rattle.std.specs.Option.{option_map}
use Rattle.lookahead_scan.specs.Copying.{outer_of, IsListOf}
use Rattle.lookahead_scan.proofs.Copies.{in_all-empty, entered}
use Rattle.lookahead_scan.proofs.copying.Copying.enter.Goals as goal

pub returns-in_ok-begin-in-Some : goal.returns-in_ok-begin-in-Some
returns-in_ok-begin-in-Some g c =
    let has : IsListOf (g.P.Present.members c.args.present.now c.args.name) (option_map (λ left. left.items) c.in_ok-list.list) = c.in_ok-list.ensures in
    entered (g.P.Present.members c.args.present.now) c.args.self.now (record c.args.self.now { taken = c.push_name.new.names }) c.begin.new.self
    c.args.name c.in-Some.list.items c.in_ok-begin-in-Some.ensures refl refl refl c.in_ok-push_name.ensures (rw c.in-Some.is at has)

pub returns-in-None : goal.returns-in-None
returns-in-None g c =
    let none : IsListOf (g.P.Present.members c.args.present.now c.args.name) (option_map (λ left. left.items) c.in_ok-list.list) = c.in_ok-list.ensures in
    in_all-empty (g.P.Present.members c.args.present.now) (outer_of c.args.self.now) c.args.self.now.current.items
    c.args.self.now.labels.items c.args.self.now.taken.items c.push_name.new.names.items c.args.name
    c.in_ok-push_name.ensures (rw c.in-None.is at none)
