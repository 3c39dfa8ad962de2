use Rattle.std.proofs.Common.{◌≡◌, ◌∙◌, sym, refl, ap}
use Rattle.hl_base.specs.Order.{ebcdic}
use Rattle.symbol_attributes.specs.Equates.{character_with}
use Rattle.symbol_attributes.proofs.EquateLaws.{among-met, among-other}
use Rattle.symbol_attributes.proofs.equate.character_with.Goals as goal

pub loop-c-init : goal.loop-c-init
unfolding character_with
loop-c-init c = refl

pub returns-then-from-byte : goal.returns-then-from-byte
returns-then-from-byte c =
    let met : ebcdic c.loop-c.c ≡ c.args.byte = cc in
    among-met c.loop-c.c c.args.byte (character_with c.args.byte) c.loop-c-test.true met c.loop-c.invariant

pub loop-c-preserved : goal.loop-c-preserved
loop-c-preserved c =
    let same : c.from-in-loop-c.result ≡ ebcdic c.loop-c.c = cc in
    among-other c.loop-c.c c.args.byte (character_with c.args.byte) c.loop-c-test.true (λ met. c.if-from-byte.false (same ∙ met)) c.loop-c.invariant
