use Rattle.std.proofs.Common.{◌≡◌, ◌∙◌, ◌++◌, ◌∷◌, [], ap, cond, List, ℕ}
use Rattle.std.specs.Prelude.{None, Some, string_bytes}
use Rattle.std.specs.Option.{option_map_or}
use Rattle.std.specs.HashMap.{get_by_text}
use Rattle.std.specs.Str.{bytes_eq}
use Rattle.std.proofs.lemmas.Map.Text.{hash_map_updates_text}
use Rattle.lookahead_scan.proofs.Holding.{held-added, held-taken}
use Rattle.lookahead_scan.proofs.index.add_found.Goals as goal

pub returns : goal.returns
returns c = λ sought.
    let name = c.args.name.now in
    let old = c.args.names.now in
    let mid = c.remove.new.self in
    let held = c.push.new.founds in
    held-added (λ vec. vec.items) (get_by_text old) (get_by_text mid) (get_by_text c.insert.new.self) name sought held c.args.found
    (hash_map_updates_text name old mid None c.remove.ensures.updates sought)
    (hash_map_updates_text (string_bytes c.in_ok-key.key) mid c.insert.new.self (Some held) c.in_ok-insert.ensures.updates sought
    ∙ ap (λ (key : List ℕ). cond (bytes_eq key sought) (Some held) (get_by_text mid sought)) c.in_ok-key.ensures.ok)
    (c.in_ok-push.ensures
    ∙ ap (λ vec. vec.items ++ c.args.found ∷ []) c.unwrap_or-held.ensures
    ∙ ap (λ items. items ++ c.args.found ∷ []) (held-taken (λ vec. vec.items) c.remove.result c.new.result c.new.ensures.items)
    ∙ ap (λ taken. option_map_or (λ vec. vec.items) taken [] ++ c.args.found ∷ []) c.remove.ensures.value)
