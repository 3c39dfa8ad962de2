use Rattle.std.proofs.Common.{Some, ◌∙◌, sym, ap, arith}
use Rattle.trace_variables.proofs.CallLemmas.{vec_length, last_there, rest_there, level_found, level_on}
use Rattle.trace_variables.proofs.call.level_in.Goals as goal

pub frames_at-count-requires : goal.frames_at-count-requires
frames_at-count-requires c =
    last_there c.args.arena.now.nodes c.loop-place.places.items c.pop.new.self.items c.in-Some.place c.in-Some.ensures.items c.loop-place.invariant.1

pub returns-then-left-count : goal.returns-then-left-count
returns-then-left-count c =
    ap Some (c.len.ensures ∙ vec_length c.pop.new.self)
    ∙ level_found c.args.arena.now.nodes c.loop-place.places.items c.pop.new.self.items c.in-Some.place c.in-Some.ensures.items
    c.loop-place.left c.frames_at-count.result c.frames_at-count.ensures (omega (arith, c.if-left-count.true))
    ∙ c.loop-place.invariant.0

pub loop-place-preserved : goal.loop-place-preserved
loop-place-preserved c = (
  sym
      (level_on c.args.arena.now.nodes c.loop-place.places.items c.pop.new.self.items c.in-Some.place c.in-Some.ensures.items
      c.loop-place.left c.frames_at-count.result c.frames_at-count.ensures (omega (arith, c.if-left-count.false)))
      ∙ c.loop-place.invariant.0,
  rest_there c.args.arena.now.nodes c.loop-place.places.items c.pop.new.self.items c.in-Some.place c.in-Some.ensures.items
      c.loop-place.invariant.1,
)
