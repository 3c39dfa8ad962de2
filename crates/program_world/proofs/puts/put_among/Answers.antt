use Rattle.std.proofs.Common.{◌≡◌, None, length, ap, sym, ◌∙◌, subst, arith}
use Rattle.kept_values.specs.Trees.{look_up}
use Rattle.kept_values.specs.Keys.{key_tree}
use Rattle.program_world.specs.Puts.{IsPlace}
use Rattle.program_world.proofs.PairLaws.{noted_pairs, place_inside, put_there, put_behind}
use Rattle.program_world.proofs.puts.put_among.Goals as goal

pub index_mut-requires : goal.index_mut-requires
index_mut-requires c =
    let at = subst (λ xs. IsPlace (noted_pairs xs) (key_tree c.args.key) c.in-Some.place) c.as_slice.ensures.value c.in-Some.ensures in
    let lt = place_inside c.args.pairs.now.items (key_tree c.args.key) c.in-Some.place at in
    omega (arith, lt, ap length c.as_slice.ensures.value, c.as_slice.ensures.len)

pub returns-in-Some-clause-ok : goal.returns-in-Some-clause-ok
returns-in-Some-clause-ok c =
    let at = subst (λ xs. IsPlace (noted_pairs xs) (key_tree c.args.key) c.in-Some.place) c.as_slice.ensures.value c.in-Some.ensures in
    put_there c.args.pairs.now.items c.in-Some.place (record { key = c.args.key; value = c.args.value }) at

pub returns-in_ok-push-in-None-clause-ok : goal.returns-in_ok-push-in-None-clause-ok
returns-in_ok-push-in-None-clause-ok c = λ other.
    let none : look_up (noted_pairs c.args.pairs.now.items) (key_tree c.args.key) ≡ None =
    ap (λ xs. look_up (noted_pairs xs) (key_tree c.args.key)) (sym c.as_slice.ensures.value) ∙ c.in-None.ensures in
    ap (λ xs. look_up (noted_pairs xs) other) c.in_ok-push-in-None.ensures.items
    ∙ put_behind c.args.pairs.now.items (record { key = c.args.key; value = c.args.value }) none other
