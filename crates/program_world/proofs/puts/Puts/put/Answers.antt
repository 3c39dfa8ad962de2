use Rattle.std.proofs.Common.{◌≡◌, ℕ, ◌==◌, cond, [], ◌∷◌, ◌++◌, Some, None, refl, ap, sym, ◌∙◌, subst}
use Rattle.std.specs.HashMap.{get}
use Rattle.std.specs.Map.{lookup, set_value}
use Rattle.std.specs.Option.{option_map_or}
use Rattle.std.proofs.lemmas.Result.{IfOk-weaker, IfErr-weaker}
use Rattle.kept_values.specs.Keys.{key_tree}
use Rattle.call_sites.specs.Values.{known_tree}
use Rattle.hl_base.specs.declared.set.Key.{Key}
use Rattle.asking_core.specs.declared.footprint.Noted.{Noted}
use Rattle.call_sites.specs.declared.known.Known.{Known}
use Rattle.program_world.specs.World.{with_put}
use Rattle.program_world.specs.Puts.{IsPut, held_in}
use Rattle.program_world.proofs.PairLaws.{noted_pairs, set_updates, put_held, same_held, put_behind}
use Rattle.program_world.proofs.puts.Puts.put.Goals as goal

pub returns-in-Some-clause-ok : goal.returns-in-Some-clause-ok
returns-in-Some-clause-ok c =
    let key = key_tree c.args.key in
    let value = known_tree c.args.value in
    let number = c.number-number.result in
    let entries = c.args.self.now.by_number.entries in
    let was = c.in-Some.pairs.now in
    let now = c.put_among.new.pairs in
    let map = c.get_mut.follows.lender now in
    let was_is : lookup (λ b. number == b) entries ≡ Some was = sym c.in-Some.ensures.value in
    let written : map.entries ≡ set_value (λ b. number == b) entries now = (c.get_mut.follows.holds now).0 in
    let updates : (m : ℕ) → lookup (λ b. m == b) map.entries ≡ cond (number == m) (Some now) (lookup (λ b. m == b) entries) =
    λ m. ap (λ es. lookup (λ b. m == b) es) written ∙ set_updates entries number was now was_is m in
    IfOk-weaker c.put_among.result _ _
    (λ _ is_put.
    put_held (λ m. lookup (λ b. m == b) entries) (λ m. lookup (λ b. m == b) map.entries) (λ pairs. noted_pairs pairs.items) number now updates
    key value c.number-number.ensures
    (subst (λ o. IsPut (option_map_or (λ pairs. noted_pairs pairs.items) o []) (noted_pairs now.items) key value) (sym was_is) is_put))
    c.put_among.ensures.ok

pub returns-in-Some-clause-err : goal.returns-in-Some-clause-err
returns-in-Some-clause-err c =
    let number = c.number-number.result in
    let entries = c.args.self.now.by_number.entries in
    let was = c.in-Some.pairs.now in
    let now = c.put_among.new.pairs in
    let map = c.get_mut.follows.lender now in
    let was_is : lookup (λ b. number == b) entries ≡ Some was = sym c.in-Some.ensures.value in
    let written : map.entries ≡ set_value (λ b. number == b) entries now = (c.get_mut.follows.holds now).0 in
    let updates : (m : ℕ) → lookup (λ b. m == b) map.entries ≡ cond (number == m) (Some now) (lookup (λ b. m == b) entries) =
    λ m. ap (λ es. lookup (λ b. m == b) es) written ∙ set_updates entries number was now was_is m in
    IfErr-weaker c.put_among.result _ _
    (λ _ same.
    same_held (λ m. lookup (λ b. m == b) entries) (λ m. lookup (λ b. m == b) map.entries) (λ pairs. noted_pairs pairs.items) number now updates
    was was_is (ap noted_pairs same))
    c.put_among.ensures.err

pub returns-clause-ok : goal.returns-clause-ok
returns-clause-ok c =
    let key = key_tree c.args.key in
    let value = known_tree c.args.value in
    let number = c.number-number.result in
    let unchanged = c.get_mut.follows.holds-at-none in
    let before = c.get_mut.follows.lender-at-none in
    let now = c.push.new.self in
    let noted : Noted Key Known = record { key = c.args.key; value = c.args.value } in
    let items : now.items ≡ noted ∷ [] = c.in_ok-push.ensures.items ∙ ap (λ xs. xs ++ noted ∷ []) c.in_ok-pairs.ensures.items in
    let none : get (λ a b. a == b) before number ≡ None =
    ap (λ map. get (λ a b. a == b) map number) unchanged ∙ sym c.in_default.ensures.value in
    let alone : IsPut [] (noted_pairs now.items) key value =
    subst (λ xs. IsPut [] (noted_pairs xs) key value) (sym items) (put_behind [] noted refl) in
    put_held (get (λ a b. a == b) before) (get (λ a b. a == b) c.insert.new.self) (λ pairs. noted_pairs pairs.items) number now
    c.in_ok-insert.ensures.updates.0 key value c.number-number.ensures
    (subst (λ o. IsPut (option_map_or (λ pairs. noted_pairs pairs.items) o []) (noted_pairs now.items) key value) (sym none) alone)
    ∙ ap (λ map. with_put (held_in (get (λ a b. a == b) map) (λ pairs. noted_pairs pairs.items)) key value) unchanged
