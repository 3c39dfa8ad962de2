use Rattle.std.proofs.Common.{◌≡◌, ℕ, ◌<◌, List, [], length, take, ap, sym, ◌∙◌, ◌++◌, arith}
use Rattle.std.specs.Prelude.{slice_get}
use Rattle.std.specs.List.{flat_map}
use Rattle.std.specs.Option.{option_map, option_map_or}
use Rattle.hl_base.specs.declared.place.Origin.{Origin}
use Rattle.trace_values.specs.declared.item.TraceItem.{TraceItem}
use Rattle.trace_arena.specs.Points.{Point, points}
use Rattle.trace_variables.proofs.ValueLemmas.{step_index}
use Rattle.trace_paths.proofs.ListLaws.{flat_map-more}
use Rattle.trace_paths.proofs.TouchedLaws.{own_item, no_points}
use Rattle.program_names.specs.Prototypes as rules
use Rattle.program_names.specs.Prototypes.{item_prototypes, point_prototypes}
use Rattle.program_names.proofs.PrototypeLaws.{prototypes_there}
use Rattle.program_names.proofs.prototypes.prototypes.Goals as goal

pub returns-in_default : goal.returns-in_default
returns-in_default c =
    let here = points c.args.arena.now.nodes c.args.root.0 in
    c.new-places.ensures.items
    ∙ sym (ap (λ (ps : List (Point TraceItem)). rules.prototypes c.args.texts.now ps) (no_points here c.at.result _ c.in_default.is c.at.ensures))

pub loop-preserved : goal.loop-preserved
loop-preserved c =
    let nodes = c.args.arena.now.nodes in
    let texts = c.args.texts.now in
    let here = points nodes c.args.root.0 in
    let i = c.loop.counter in
    let held = c.loop.invariant in
    let item = c.item.result.now in
    let inside : i < length here = omega (arith, c.loop-test.true) in
    let at : c.loop.cursor.index ≡ i = held.2 inside in
    let there : option_map_or (point_prototypes texts) (slice_get here i) [] ≡ item_prototypes texts item =
    prototypes_there texts (slice_get here i) item
    (ap (λ (n : ℕ). option_map own_item (slice_get here n)) (sym at)
    ∙ ap (λ r. option_map own_item (slice_get (points nodes r.0) c.loop.cursor.index)) (sym held.1)
    ∙ c.item.ensures) in (
      c.advance.ensures.stands,
      c.advance.ensures.root ∙ held.1,
      (λ lt.
          step_index c.advance.result c.advance.new.self.index c.loop.cursor.index i (length here) (length (points nodes c.loop.cursor.root.0))
          c.advance.ensures.next c.advance.ensures.last (ap (λ r. length (points nodes r.0)) held.1) at lt),
      c.in_ok-add_prototypes.ensures
          ∙ ap (λ (os : List Origin). os ++ item_prototypes texts item) held.3
          ∙ ap (λ (os : List Origin). flat_map (point_prototypes texts) (take i here) ++ os) (sym there)
          ∙ sym (flat_map-more (point_prototypes texts) here i),
    )
