use Rattle.std.proofs.Common.{◌≡◌, ◌∙◌, ap, sym, not, Some, None, true, false, []}
use Rattle.std.specs.Prelude.{is_some, slice_get, slice_index_or}
use Rattle.std.specs.Str.{chars}
use Rattle.std.proofs.lemmas.Option.{slice_get-get_or}
use Rattle.member_paths.specs.Paths.{member_name, file_name_of}
use Rattle.document_store.specs.Store.{present}
use Rattle.group_members.specs.Gathering.{goes_first}
use Rattle.group_members.proofs.GatheringLaws.{IndexesFirst-skipped, IndexesFirst-kept, IndexesFirst-put, present-shown, absent-skipped, nameless-skipped}
use Rattle.group_members.proofs.gathering.take_in.Goals as goal

pub returns-then-is_none : goal.returns-then-is_none
returns-then-is_none c =
    let store = c.args.store.now.store in
    let path = slice_index_or store.paths c.args.path.0 [] in
    let at : slice_get store.paths c.args.path.0 ≡ Some path = slice_get-get_or store.paths c.args.path.0 [] c.requires.given in
    let absent : is_some (present store path) ≡ false =
    present-shown store c.args.store.now.pool c.args.path.0 path at c.present.result c.present.ensures ∙ c.is_none.ensures ∙ ap not c.if-is_none.true in
    IndexesFirst-skipped store c.args.path.0 path at c.args.index.now (absent-skipped store path absent) c.requires.indexed

pub returns-in_default : goal.returns-in_default
returns-in_default c =
    let store = c.args.store.now.store in
    let path = chars c.path_text-text.result.now in
    let nameless : member_name (file_name_of path) ≡ None = ap member_name (sym c.file_name_of.ensures) ∙ sym c.member_name.ensures ∙ c.in_default.is in
    IndexesFirst-skipped store c.args.path.0 path (sym c.path_text-text.ensures) c.args.index.now (nameless-skipped store path nameless) c.requires.indexed

pub returns-in_ok-put : goal.returns-in_ok-put
returns-in_ok-put c =
    let store = c.args.store.now.store in
    let path = chars c.path_text-text.result.now in
    let at = sym c.path_text-text.ensures in
    let named = ap member_name (sym c.file_name_of.ensures) ∙ sym c.member_name.ensures ∙ c.in-Some.is in
    let there : is_some (present store path) ≡ true =
    present-shown store c.args.store.now.pool c.args.path.0 path at c.present.result c.present.ensures ∙ c.is_none.ensures ∙ ap not c.if-is_none.false in
    let first = ap (λ o. goes_first store.paths o path) (sym c.number.ensures) ∙ sym c.goes_first.ensures ∙ c.if-goes_first.true in
    IndexesFirst-put store c.args.path.0 path at c.requires.differ c.in-Some.name named there
    c.folder_of-folder.result.now c.folder_of-folder.utf8 c.folder_of-folder.ensures c.args.index.now c.put.new.self c.in_ok-put.ensures first c.requires.indexed

pub returns-else-goes_first : goal.returns-else-goes_first
returns-else-goes_first c =
    let store = c.args.store.now.store in
    let path = chars c.path_text-text.result.now in
    let at = sym c.path_text-text.ensures in
    let named = ap member_name (sym c.file_name_of.ensures) ∙ sym c.member_name.ensures ∙ c.in-Some.is in
    let there : is_some (present store path) ≡ true =
    present-shown store c.args.store.now.pool c.args.path.0 path at c.present.result c.present.ensures ∙ c.is_none.ensures ∙ ap not c.if-is_none.false in
    let later = ap (λ o. goes_first store.paths o path) (sym c.number.ensures) ∙ sym c.goes_first.ensures ∙ c.if-goes_first.false in
    IndexesFirst-kept store c.args.path.0 path at c.requires.differ c.in-Some.name named there
    c.folder_of-folder.result.now c.folder_of-folder.utf8 c.folder_of-folder.ensures c.args.index.now later c.requires.indexed
