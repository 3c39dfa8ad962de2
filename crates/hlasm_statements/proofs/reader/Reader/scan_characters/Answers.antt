use Rattle.std.proofs.Common.{◌≡◌, ◌∙◌, ◌+◌, ◌<◌, ℕ, List, length, take, get_or, sym, ap, subst, refl, arith}
use Rattle.std.specs.Prelude.{chars, reverse}
use Rattle.std.proofs.lemmas.Iterator.{YieldsList-from_chars}
use Rattle.std.proofs.lemmas.Iterator.Consumers.{YieldsList-so_far, YieldsList-turn, YieldsList-end}
use Rattle.std.proofs.lemmas.List.{map-id, length_push}
use Rattle.hlasm_statements.specs.Fields.{keeps_groups}
use Rattle.hlasm_statements.proofs.ResultLaws.{some_value}
use Rattle.hlasm_statements.proofs.ScanLaws.{IsScanning, scanning-none, scanning-more, scanned-whole, scanned-ended}
use Rattle.hlasm_statements.proofs.reader.Reader.scan_characters.Goals as goal

pub loop-c-init : goal.loop-c-init
loop-c-init c = (λ behind comma. scanning-none (keeps_groups c.args.self.now.op) (reverse c.args.self.now.operands) c.args.self.now.nesting c.args.self.now.ends_in_comma behind comma, refl)

pub loop-c-preserved : goal.loop-c-preserved
loop-c-preserved c =
    let on : c.in_ok-count.count ≡ c.loop-c.count + 1 = some_value _ c.checked_add.result _ _ c.checked_add.ensures c.in_ok-count.ensures.ok_part in (
      λ behind comma.
          let is = c.loop-c.invariant.0 behind comma in
          scanning-more (keeps_groups c.args.self.now.op) (reverse c.args.self.now.operands) c.loop-c.yielded c.in-Some.c c.loop-c.nesting c.read.new.self c.loop-c.ends_in_comma _ is
          (sym (c.is_end.ensures _ is.nesting) ∙ c.if-is_end.false) c.in_ok-read.ensures refl,
      omega (arith, on, c.loop-c.invariant.1, length_push c.loop-c.yielded c.in-Some.c),
    )

pub returns-then-is_end : goal.returns-then-is_end
returns-then-is_end c = λ alternate behind comma.
    let is = c.loop-c.invariant.0 behind comma in
    let text = chars c.args.text.now in
    let road = YieldsList-from_chars c.args.text.now c.utf8.text cc in
    let far = YieldsList-so_far road c.loop-c.yielded _ c.loop-c.yielded_by in
    let turn = YieldsList-turn road c.loop-c.yielded _ c.loop-c.yielded_by _ _ c.in-Some.c c.in-Some.is c.next.ensures.steps in
    let count : length c.loop-c.yielded ≡ c.loop-c.count = sym c.loop-c.invariant.1 in
    let below : length c.loop-c.yielded < length text = turn.0 in
    let item : c.in-Some.c ≡ get_or text (length c.loop-c.yielded) c.in-Some.c = turn.1 in
    let within : c.loop-c.count < length text = omega (arith, below, count) in
    scanned-ended alternate (keeps_groups c.args.self.now.op) (reverse c.args.self.now.operands) text c.loop-c.yielded c.in-Some.c _ is
    (sym (map-id c.loop-c.yielded) ∙ far ∙ ap (λ n. take n text) count) refl within
    (item ∙ ap (λ n. get_or text n c.in-Some.c) count) (sym (c.is_end.ensures _ is.nesting) ∙ c.if-is_end.true)

pub returns : goal.returns
returns c = λ alternate behind comma.
    let text = chars c.args.text.now in
    let end = YieldsList-end (YieldsList-from_chars c.args.text.now c.utf8.text cc) c.loop-c.yielded _ c.loop-c.yielded_by _ _ c.in-None.is c.next.ensures.steps in
    let all : c.loop-c.yielded ≡ text = sym (map-id c.loop-c.yielded) ∙ end.0 in
    let P : List ℕ → Type 0 = λ cs. IsScanning (keeps_groups c.args.self.now.op) (reverse c.args.self.now.operands) cs c.loop-c.nesting c.loop-c.ends_in_comma in
    scanned-whole alternate (keeps_groups c.args.self.now.op) (reverse c.args.self.now.operands) text _ (subst P all (c.loop-c.invariant.0 behind comma)) (omega (arith, end.1, c.loop-c.invariant.1)) refl
