use Rattle.std.proofs.Common.{◌≡◌, ◌<◌, Option, option_map, length, get_or, sym, ap, ◌∙◌, arith}
use Rattle.std.proofs.Math.ListN.{set, get_or-map, length-set}
use Rattle.std.proofs.lemmas.List.{length-map, map-set}
use Rattle.std.proofs.lemmas.List.Edits.{map_over_more}
use Rattle.expansion_memo.specs.Kept.{KeptOutcome, while_live}
use Rattle.expansion_memo.specs.Entries.{kept_by, kept_of}
use Rattle.expansion_memo.proofs.table.give_up_all.Goals as goal

pub loop-place-preserved : goal.loop-place-preserved
loop-place-preserved g c =
    let read = option_map (kept_by g.C.Kept.code) in
    let items = c.loop-place.entries.items in
    let i = c.loop-place.place in
    let all = kept_of g.C.Kept.code c.args.entries.now.items in
    let now = kept_of g.C.Kept.code items in
    let x : Option KeptOutcome = read c.index_mut.result.now in
    let lt : i < length all = omega (arith, length-map c.args.entries.now.items (option_map (kept_by g.C.Kept.code)), c.args.entries.now.ok.0) in
    let at : x ≡ get_or now i x = ap read c.index_mut.ensures.value ∙ sym (get_or-map read items i c.index_mut.result.now) in
    record {
      long = length-set items i c.give_up.new.entry ∙ c.loop-place.invariant.long;
      so_far = map-set read items i c.give_up.new.entry
          ∙ ap (set now i) c.give_up.ensures
          ∙ map_over_more (while_live c.args.arena.now.nodes) all now i x lt c.loop-place.invariant.so_far at;
    }
