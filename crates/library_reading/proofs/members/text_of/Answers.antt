use Rattle.std.proofs.Common.{◌≡◌, ◌≤◌, length, string_bytes, ap, sym, subst, ◌∙◌, chars, arith}
use Rattle.std.specs.Str.{IsUtf8}
use Rattle.std.proofs.lemmas.Str.{IsUtf8-string_bytes}
use Rattle.text_pool.specs.declared.pool.TheConstants.{LONGEST_TEXT}
use Rattle.document_store.specs.Store.{Readable}
use Rattle.library_reading.proofs.FileLaws.{file_of_text, file_of_others, no_text}
use Rattle.library_reading.proofs.members.text_of.Goals as goal

pub returns-in-Ok-clause-text : goal.returns-in-Ok-clause-text
returns-in-Ok-clause-text c =
    let same : string_bytes c.in-Ok.text ≡ c.args.bytes.items = ap (λ v. v.items) c.in-Ok.ensures.ok in
    let short : length c.args.bytes.items ≤ LONGEST_TEXT = omega (arith, c.args.bytes.ok.0, c.len.ensures, c.if-len-gt-LONGEST_TEXT.false) in
    ap (λ z. Readable (chars z)) same ∙ sym (file_of_text c.args.bytes.items (subst IsUtf8 same (IsUtf8-string_bytes c.in-Ok.text)) short)

pub returns-clause-text : goal.returns-clause-text
returns-clause-text c = sym (file_of_others c.args.bytes.items (λ utf8. no_text (c.in-Err.ensures.succeeds utf8)))
