use Rattle.std.proofs.Common.{◌≡◌, ◌∷◌, [], ◌++◌, length, arith, suc}
use Rattle.std.specs.Str.{chars}
use Rattle.std.proofs.lemmas.Grind.{common_steps}
use Rattle.std.proofs.lemmas.Iterator.{YieldsList-from_chars}
use Rattle.std.proofs.lemmas.Iterator.Consumers.{YieldsList-turn, YieldsList-end}
use Rattle.std.proofs.lemmas.List.{length_push}
use Rattle.macro_library.specs.Contents.{mixed}
use Rattle.macro_library.proofs.ContentLaws.{one_more, at_end}
use Rattle.macro_library.proofs.content.text_number.Goals as goal

pub loop-character-preserved : goal.loop-character-preserved
loop-character-preserved c =
    let t = YieldsList-turn (YieldsList-from_chars c.args.text.now c.utf8.text cc) c.loop-character.yielded _ c.loop-character.yielded_by _ _ c.in-Some.character c.in-Some.is c.next.ensures.steps in
    let n = length_push c.loop-character.yielded c.in-Some.character in
    let m : length (c.loop-character.yielded ++ c.in-Some.character ∷ []) ≡ suc (length c.loop-character.yielded) = omega (arith, n) in
    let r : c.mixed-number.result ≡ mixed c.loop-character.number c.in-Some.character = grind (arith, common_steps) in
    one_more c.args.start c.loop-character.number c.in-Some.character c.mixed-number.result (chars c.args.text.now) _ _ m t r c.loop-character.invariant

pub returns : goal.returns
returns c =
    let t = YieldsList-end (YieldsList-from_chars c.args.text.now c.utf8.text cc) c.loop-character.yielded _ c.loop-character.yielded_by _ _ c.in-None.is c.next.ensures.steps in
    at_end c.args.start c.loop-character.number (chars c.args.text.now) (length c.loop-character.yielded) (omega (arith, t.1)) c.loop-character.invariant
