use Rattle.std.proofs.Common.{◌≡◌, ◌∙◌, ℕ, List, IfOk, true, false, lit<, subst, sym, ap}
use Rattle.std.specs.Str.{chars}
use Rattle.std.specs.Prelude.{slice_index}
use Rattle.member_paths.specs.Paths.{folder_path, is_slash, without_slash}
use Rattle.member_paths.proofs.PathLaws.{first_is_slash, folder_path-whole, folder_path-below}
use Rattle.member_paths.proofs.folder.folder_path.Goals as goal

pub returns-then-starts_with : goal.returns-then-starts_with
returns-then-starts_with c =
    let written = c.args.written.now in
    let first : is_slash (slice_index (chars written) 0) ≡ true =
    sym (first_is_slash written c.utf8.written) ∙ sym (c.starts_with.ensures.byte (lit< tt) (lit< tt) (λ w o h. h)) ∙ c.if-starts_with.true in
    let is : chars c.without_slash.result.now ≡ folder_path (chars c.args.root.now) (chars written) =
    c.without_slash.ensures ∙ sym (folder_path-whole (chars c.args.root.now) (chars written) first) in
    let Gives : List ℕ → Type 0 = λ wanted. IfOk c.of.result (λ path. path ≡ wanted) in
    subst Gives is c.of.ensures

pub returns : goal.returns
returns c =
    let written = c.args.written.now in
    let first : is_slash (slice_index (chars written) 0) ≡ false =
    sym (first_is_slash written c.utf8.written) ∙ sym (c.starts_with.ensures.byte (lit< tt) (lit< tt) (λ w o h. h)) ∙ c.if-starts_with.false in
    let is : chars c.without_slash-2.result.now ≡ folder_path (chars c.args.root.now) (chars written) =
    c.without_slash-2.ensures
    ∙ ap without_slash (c.as_str.ensures.characters ∙ c.in_ok-whole.ensures)
    ∙ sym (folder_path-below (chars c.args.root.now) (chars written) first) in
    let Gives : List ℕ → Type 0 = λ wanted. IfOk c.of-2.result (λ path. path ≡ wanted) in
    subst Gives is c.of-2.ensures
