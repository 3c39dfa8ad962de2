use Rattle.std.proofs.Common.{subst}
use Rattle.std.specs.Prelude.{ℕ, List, ◌≡◌, position}
use Rattle.hl_base.specs.Remaining.{ends_line}
use Rattle.hl_base.proofs.FirstBytes.{IsFirstByte-position}
use Rattle.hl_base.proofs.line.end_of_line.Goals as goal

pub returns : goal.returns
returns c =
    let P : List ℕ → Type 0 = λ hay. c.memchr2.result ≡ position ends_line hay in
    subst P c.as_bytes.ensures.value (IsFirstByte-position ends_line c.as_bytes.result.now c.memchr2.result c.memchr2.ensures)
