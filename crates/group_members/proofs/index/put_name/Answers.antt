use Rattle.std.proofs.Common.{◌∙◌, Some, ap}
use Rattle.std.specs.Map.{update}
use Rattle.std.specs.Str.{bytes_eq}
use Rattle.std.proofs.lemmas.Map.Text.{hash_map_updates_text}
use Rattle.indexmap.specs.IndexMap.{get_by_text}
use Rattle.group_members.proofs.index.put_name.Goals as goal

pub returns : goal.returns
returns c = λ other.
    let spelled = c.in_ok-key.ensures.ok ∙ c.text.ensures in
    hash_map_updates_text _ c.args.names.now c.insert.new.self _ c.in_ok-insert.ensures.updates other
    ∙ ap (λ bytes. update bytes_eq (get_by_text c.args.names.now) bytes (Some c.args.path) other) spelled
