use Rattle.std.proofs.Common.{◌≡◌, List, [], ◌∷◌, ◌++◌, is_some, false, refl, sym, ap, ◌∙◌}
use Rattle.kept_values.specs.Trees.{Tree, Pair, look_up}
use Rattle.asking_core.specs.Footprints.{noted}
use Rattle.asking_core.specs.Places.{pair_of, pairs_of}
use Rattle.kept_outcomes.specs.Outcomes.{CallSummary}
use Rattle.kept_outcomes.specs.Pairs.{newest_first}
use Rattle.kept_outcomes.specs.Moments.{putting}
use Rattle.kept_outcomes.proofs.PutLists.{newest_push, one_keys_step, with_puts, kept_put}
use Rattle.kept_outcomes.proofs.summary.CallSummary.push_put.Goals as goal

pub invariant_of-self : goal.invariant_of-self
invariant_of-self g c = λ key.
    let kc = g.K.Kept.code in
    let vc = g.V.Kept.code in
    c.self.invariant key ∙ sym (ap (λ ns. is_some (look_up (newest_first (pairs_of kc vc ns)) key)) c.reserve.ensures.items)

pub invariant_of-self-in_err-note_answer : goal.invariant_of-self-in_err-note_answer
invariant_of-self-in_err-note_answer g c = λ key.
    let kc = g.K.Kept.code in
    let vc = g.V.Kept.code in
    ap (λ ns. is_some (look_up (pairs_of kc vc ns) key)) c.in_err-note_answer.ensures.err
    ∙ c.self.invariant key
    ∙ sym (ap (λ ns. is_some (look_up (newest_first (pairs_of kc vc ns)) key)) c.reserve.ensures.items)

pub invariant_of-self-2 : goal.invariant_of-self-2
invariant_of-self-2 g c = λ key.
    let kc = g.K.Kept.code in
    let vc = g.V.Kept.code in
    let old = pairs_of kc vc c.self.inside.written in
    let p : Pair = pair_of kc vc c.args.put in
    let read : pairs_of kc vc c.note_answer.new.self ≡ noted old p =
    c.in_ok-note_answer.ensures.ok
    ∙ ap (λ (k : Tree). noted old (record { key = k; value = vc c.in_ok-value.value })) c.in_ok-key.ensures
    ∙ ap (λ (v : Tree). noted old (record { key = kc c.args.put.key; value = v })) c.in_ok-value.ensures in
    let puts : newest_first (pairs_of kc vc c.push_reserved.new.self.items) ≡ p ∷ newest_first (pairs_of kc vc c.self.inside.puts.items) =
    ap (λ ns. newest_first (pairs_of kc vc ns)) (c.push_reserved.ensures.items ∙ ap (λ ns. ns ++ c.args.put ∷ []) c.reserve.ensures.items)
    ∙ newest_push kc vc c.self.inside.puts.items c.args.put in
    ap (λ (ps : List Pair). is_some (look_up ps key)) read
    ∙ one_keys_step old (newest_first (pairs_of kc vc c.self.inside.puts.items)) p c.self.invariant key
    ∙ sym (ap (λ (ps : List Pair). is_some (look_up ps key)) puts)

pub returns : goal.returns
returns g c =
    let kc = g.K.Kept.code in
    let vc = g.V.Kept.code in
    let k : Tree = kc c.args.put.key in
    let v : Tree = vc c.args.put.value in
    let p : Pair = pair_of kc vc c.args.put in
    let puts : newest_first (pairs_of kc vc c.push_reserved.new.self.items) ≡ p ∷ newest_first (pairs_of kc vc c.self.inside.puts.items) =
    ap (λ ns. newest_first (pairs_of kc vc ns)) (c.push_reserved.ensures.items ∙ ap (λ ns. ns ++ c.args.put ∷ []) c.reserve.ensures.items)
    ∙ newest_push kc vc c.self.inside.puts.items c.args.put in
    let old : CallSummary = record {
      read = pairs_of kc vc c.self.inside.read;
      puts = newest_first (pairs_of kc vc c.self.inside.puts.items);
      calls = c.self.inside.calls;
      units = c.self.inside.units;
      levels = c.self.inside.levels;
      no_room = c.self.inside.no_room;
      at_told = c.self.inside.at_told;
    } in
    let told : old.at_told ≡ false = ap (λ (s : CallSummary). s.at_told) c.self.view_is ∙ c.requires.kept in
    with_puts old (newest_first (pairs_of kc vc c.push_reserved.new.self.items)) (p ∷ old.puts) puts
    ∙ sym (with_puts old _ (p ∷ old.puts) (kept_put old k v old.at_told refl told))
    ∙ ap (λ s. putting s k v) c.self.view_is
