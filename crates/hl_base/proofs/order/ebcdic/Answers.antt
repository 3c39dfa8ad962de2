use Rattle.hl_base.specs.Order as codes
use Rattle.hl_base.proofs.OrderLaws.{ebcdic-tab, ebcdic-outside, ebcdic-printable}
use Rattle.hl_base.proofs.order.ebcdic.Goals as goal

pub returns-then-c-eq9 : goal.returns-then-c-eq9
returns-then-c-eq9 c = ebcdic-tab c.args.c c.if-c-eq9.true

pub returns-then-c-lt32 : goal.returns-then-c-lt32
returns-then-c-lt32 c = ebcdic-outside c.args.c c.if-c-eq9.false c.then-c-lt32.either

pub returns : goal.returns
unfolding codes.code_page_037
returns c = ebcdic-printable c.args.c c.if-c-lt32.false c.if-c-gt126.false
