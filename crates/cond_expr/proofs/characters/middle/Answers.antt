use Rattle.std.proofs.Common.{sym, take, drop}
use Rattle.std.specs.Str.{chars}
use Rattle.std.proofs.lemmas.Result.{IfOk-weaker}
use Rattle.std.proofs.lemmas.Str.{chars_from_encodes, IsUtf8-string_bytes}
use Rattle.std.proofs.lemmas.Iterator.{YieldsList-from_chars, YieldsList-from_take, text_from_collect}
use Rattle.std.proofs.lemmas.Iterator.Adapters.{YieldsList-from_skip}
use Rattle.cond_expr.proofs.characters.middle.Goals as goal

pub returns : goal.returns
returns c =
    IfOk-weaker c.collect.result _ _
    (λ part is. sym (chars_from_encodes (take c.args.count (drop c.args.before (chars c.args.text.now))) _ (IsUtf8-string_bytes part) (sym is)))
    (text_from_collect _ c.collect.ensures.ran
    (YieldsList-from_take c.args.count (YieldsList-from_skip c.args.before (YieldsList-from_chars c.args.text.now c.utf8.text cc) cc) cc))
