use Rattle.std.proofs.Common.{◌≡◌, ◌≤◌, ◌-◌, List, ℕ, Option, length, take, subst, arith}
use Rattle.std.specs.Prelude.{Some}
use Rattle.memchr.specs.Find.{IsLastByte, is_byte2}
use Rattle.std.proofs.lemmas.Str.{IsCharBoundary-start}
use Rattle.document_store.proofs.SeekLemmas.{cut_behind_last}
use Rattle.document_store.proofs.seeking.line_before.Goals as goal

pub returns-in-Some : goal.returns-in-Some
returns-in-Some c =
    let text = c.args.text.now in
    let end : ℕ = c.args.at - c.end_before.result in
    let within : end ≤ length text = omega (arith, c.requires) in
    let found : IsLastByte (is_byte2 10 13) (take end text) (Some c.in-Some.last) =
    subst (λ (o : Option ℕ). IsLastByte (is_byte2 10 13) (take end text) o) c.in-Some.is c.last_end.ensures in
    cut_behind_last text end c.in-Some.last c.utf8.text within found

pub returns-in-None : goal.returns-in-None
returns-in-None c = IsCharBoundary-start c.args.text.now c.utf8.text
