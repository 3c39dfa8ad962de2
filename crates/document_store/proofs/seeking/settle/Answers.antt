use Rattle.std.proofs.Common.{◌≡◌, true, List, ℕ, refl, subst}
use Rattle.std.specs.Prelude.{chars, IsUtf8}
use Rattle.document_store.specs.Parts.{parted}
use Rattle.document_store.proofs.SeekLemmas.{stays_before}
use Rattle.document_store.proofs.seeking.settle.Goals as goal

pub returns-then-is_between_lines-clause-before : goal.returns-then-is_between_lines-clause-before
returns-then-is_between_lines-clause-before c = λ earlier begins.
    let front = c.args.text.now.front in
    let back = c.args.text.now.back in
    let between : parted (chars front) (chars back) ≡ true =
    subst (λ (bs : List ℕ). parted (chars bs) (chars back) ≡ true) c.front.ensures
    (subst (λ (bs : List ℕ). parted (chars c.front.result.now) (chars bs) ≡ true) c.back.ensures (c.if-is_between_lines.ensures refl)) in
    stays_before front back earlier c.args.line (subst IsUtf8 c.front.ensures c.front.utf8) between begins
