use Rattle.std.proofs.Common.{arith}
use Rattle.trace_cursor.proofs.StepLemmas.{step_on}
use Rattle.trace_cursor.proofs.cursor.Cursor.advance.Goals as goal

pub points-points-requires : goal.points-points-requires
points-points-requires c = record { live = c.requires.live }

pub overflow_add-index : goal.overflow_add-index
overflow_add-index c =
    omega (arith, c.requires.stands.room, c.requires.stands.inside, c.points-points.ensures.points, c.points-points.type_inv)

pub overflow_add-self : goal.overflow_add-self
overflow_add-self c = omega (arith, c.requires.stands.inside, c.fits-self)

pub overflow_add-self-then-self : goal.overflow_add-self-then-self
overflow_add-self-then-self c = omega (arith, c.requires.stands.inside, c.fits-self)

pub returns-then-self-clause-stands : goal.returns-then-self-clause-stands
returns-then-self-clause-stands c =
    step_on c.args.arena.now.nodes c.args.self.now c.requires.stands (omega (arith, c.if-self.true))

pub returns-then-index-points-clause-stands : goal.returns-then-index-points-clause-stands
returns-then-index-points-clause-stands c = c.requires.stands

pub returns-then-index-points-clause-last : goal.returns-then-index-points-clause-last
returns-then-index-points-clause-last c =
    omega (arith, c.requires.stands.room, c.requires.stands.inside, c.points-points.ensures.points, c.if-index-points.true)

pub find-requires-clause-inside : goal.find-requires-clause-inside
find-requires-clause-inside c = omega (arith, c.points-points.ensures.points, c.if-index-points.false)
