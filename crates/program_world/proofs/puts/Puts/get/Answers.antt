use Rattle.std.proofs.Common.{◌==◌, [], length, ap, sym, ◌∙◌, subst, arith}
use Rattle.std.specs.HashMap.{get}
use Rattle.std.specs.Option.{option_map_or}
use Rattle.kept_values.specs.Trees.{look_up}
use Rattle.kept_values.specs.Keys.{key_tree}
use Rattle.program_world.specs.Puts.{IsPlace}
use Rattle.program_world.proofs.PairLaws.{noted_pairs, place_inside, value_there}
use Rattle.program_world.proofs.puts.Puts.get.Goals as goal

pub index-requires : goal.index-requires
index-requires c =
    let at = subst (λ xs. IsPlace (noted_pairs xs) (key_tree c.args.key.now) c.in_ok-place.place) c.as_slice.ensures.value c.in_ok-place.ensures in
    let lt = place_inside c.in_ok-pairs.pairs.now.items (key_tree c.args.key.now) c.in_ok-place.place at in
    omega (arith, lt, ap length c.as_slice.ensures.value, c.as_slice.ensures.len)

pub returns : goal.returns
returns c =
    let key = key_tree c.args.key.now in
    let found = c.in_ok-pairs.pairs.now.items in
    let at = subst (λ xs. IsPlace (noted_pairs xs) key c.in_ok-place.place) c.as_slice.ensures.value c.in_ok-place.ensures in
    let lt = place_inside found key c.in_ok-place.place at in
    sym (value_there found key c.in_ok-place.place c.index.result.now at lt c.index.ensures)
    ∙ ap (λ o. look_up (option_map_or (λ pairs. noted_pairs pairs.items) o []) key)
    (c.in_ok-pairs.ensures.value ∙ ap (λ n. get (λ a b. a == b) c.args.self.now.by_number n) c.number.ensures)
