use Rattle.std.proofs.Common.{◌≡◌, ◌∙◌, ap, take, drop, get_or, length, arith}
use Rattle.std.specs.Prelude.{chars}
use Rattle.std.specs.List.{list_all}
use Rattle.std.proofs.lemmas.List.{length-take-le}
use Rattle.std.proofs.lemmas.Str.{chars-IsAscii}
use Rattle.plain_fields.specs.Cutting.{is_no_comma}
use Rattle.plain_fields.proofs.CuttingLaws.{cut-init, cut-next, cut-end, operands_of-ascii, IfOk-map}
use Rattle.plain_fields.proofs.split.split_plain.Goals as goal

pub loop-byte-init : goal.loop-byte-init
loop-byte-init c =
    cut-init c.new-cutting.result c.args.field.now c.new-cutting.ensures.depth c.new-cutting.ensures.none c.new-cutting.ensures.count
    (ap chars c.new-cutting.ensures.from ∙ chars-IsAscii c.args.field.now c.requires.ascii)

pub loop-byte-preserved : goal.loop-byte-preserved
loop-byte-preserved c =
    let field = c.args.field.now in
    let same = c.as_bytes.ensures.value in
    let long : length (take c.args.end c.as_bytes.result.now) ≡ c.args.end =
    ap (λ t. length (take c.args.end t)) same ∙ length-take-le c.args.end field c.requires.within in
    cut-next c.loop-byte.cutting c.read.new.self field c.loop-byte.byte-index c.args.end _ _ c.loop-byte.invariant
    c.requires.plain (omega (arith, c.loop-byte-test.true, long)) c.requires.within (ap (λ t. get_or (take c.args.end t) c.loop-byte.byte-index 0) same) c.in_ok-read.ensures

pub returns : goal.returns
returns c =
    let field = c.args.field.now in
    let long : length (take c.args.end c.as_bytes.result.now) ≡ c.args.end =
    ap (λ t. length (take c.args.end t)) c.as_bytes.ensures.value ∙ length-take-le c.args.end field c.requires.within in
    let past = c.loop-byte-test.false in
    let most = c.loop-byte.auto.byte-index-end in
    let at : c.loop-byte.byte-index ≡ c.args.end = omega (arith, long, past, most) in
    IfOk-map c.close.result
    (λ texts is. cut-end c.loop-byte.cutting texts _ _ c.loop-byte.invariant (ap (λ n. list_all is_no_comma (drop n field)) at ∙ c.requires.single) is
    ∙ operands_of-ascii field c.requires.ascii c.requires.some)
    c.close.ensures
