use Rattle.std.proofs.Common.{◌∙◌, Some, ap, sym}
use Rattle.std.specs.Map.{update}
use Rattle.std.specs.Str.{bytes_eq}
use Rattle.std.proofs.lemmas.Map.Text.{hash_map_updates_text}
use Rattle.indexmap.specs.IndexMap.{get_by_text}
use Rattle.group_members.specs.Index.{named}
use Rattle.group_members.proofs.IndexLaws.{number_of-put}
use Rattle.group_members.proofs.index.MemberIndex.begin.Goals as goal

pub returns : goal.returns
returns c =
    let folders = c.args.self.now.folders in
    number_of-put c.args.folder.now c.args.name.now c.args.path (get_by_text folders) (get_by_text c.insert.new.self) c.in_ok-names.names
    (λ f.
    hash_map_updates_text _ folders c.insert.new.self _ c.in_ok-insert.ensures.updates f
    ∙ ap (λ bytes. update bytes_eq (get_by_text folders) bytes (Some c.in_ok-names.names) f) c.in_ok-key.ensures.ok)
    (λ n.
    c.in_ok-names.ensures n
    ∙ ap (λ names. update bytes_eq (λ m. named m names) c.args.name.now (Some c.args.path) n) (sym c.requires))
