use Rattle.std.proofs.Common.{◌≡◌, ◌∙◌, Some, ap, sym, refl, subst, Option}
use Rattle.std.specs.Prelude.{IsSome}
use Rattle.std.specs.Map.{update}
use Rattle.std.specs.Str.{bytes_eq}
use Rattle.std.proofs.lemmas.Map.Text.{hash_map_updates_text}
use Rattle.indexmap.specs.IndexMap.{get_by_text}
use Rattle.group_members.specs.Index.{Names, named}
use Rattle.group_members.proofs.IndexLaws.{OnOk-map, number_of-put}
use Rattle.group_members.proofs.index.MemberIndex.put.Goals as goal

pub returns-in-Some : goal.returns-in-Some
returns-in-Some c =
    let folders = c.args.self.now.folders in
    let now = c.put_name.new.names in
    let found : get_by_text folders c.args.folder.now ≡ Some c.in-Some.names.now = sym c.in-Some.ensures.value in
    let some : IsSome (get_by_text folders c.args.folder.now) = subst (λ (o : Option Names). IsSome o) (sym found) refl in
    OnOk-map c.put_name.result
    (λ put.
    number_of-put c.args.folder.now c.args.name.now c.args.path (get_by_text folders) (get_by_text (c.get_mut.follows.lender now)) now
    (λ f. hash_map_updates_text _ folders (c.get_mut.follows.lender now) _ ((c.get_mut.follows.holds now).3 some) f)
    (λ n. put n ∙ ap (λ names. update bytes_eq (λ m. named m names) c.args.name.now (Some c.args.path) n) (sym found)))
    c.put_name.ensures
