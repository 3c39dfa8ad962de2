use Rattle.std.proofs.Common.{◌∙◌, ◌++◌, ◌∷◌, [], Some, ap, sym, cond, is_some}
use Rattle.std.specs.Map.{update}
use Rattle.std.specs.Str.{bytes_eq, chars}
use Rattle.std.proofs.lemmas.Map.Text.{hash_map_updates_text}
use Rattle.indexmap.specs.IndexMap.{get_by_text}
use Rattle.macro_binding.specs.Bindings.{given_twice}
use Rattle.macro_binding.specs.Sorting.{is_once}
use Rattle.macro_binding.proofs.SortingLaws.{is_some-copied, sorts-keyword}
use Rattle.macro_binding.proofs.binding.Sorting.give.Goals as goal

pub returns : goal.returns
returns c = λ given sorts.
    let keywords = c.args.self.now.keywords in
    let name = c.args.name.now in
    let found = c.get-given.ensures.value ∙ ap (get_by_text keywords) c.text.ensures in
    let again = c.is_some-again.ensures ∙ sym (is_some-copied c.get-given.result) ∙ ap is_some found in
    let spelled = c.in_ok-key.ensures.ok ∙ c.text-2.ensures in
    sorts-keyword c.args.self.now c.insert.new.self c.note_if.new.notes given name (chars c.args.value.now)
    (λ other.
    hash_map_updates_text _ keywords c.insert.new.self _ c.in_ok-insert.ensures.updates other
    ∙ ap (λ bytes. update bytes_eq (get_by_text keywords) bytes (Some (record { value = c.in_ok-value.value; again = c.is_some-again.result })) other) spelled
    ∙ ap (λ value. update bytes_eq (get_by_text keywords) name (Some (record { value = value; again = c.is_some-again.result })) other) c.in_ok-value.ensures
    ∙ ap (λ again. update bytes_eq (get_by_text keywords) name (Some (record { value = chars c.args.value.now; again = again })) other) again)
    (c.in_ok-note_if.ensures ∙ ap (λ b. c.args.self.now.notes ++ cond b (given_twice name ∷ []) []) (c.is_once-second.ensures ∙ ap is_once found))
    sorts
