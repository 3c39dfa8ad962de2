use Rattle.std.proofs.Common.{◌≡◌, ◌∙◌, ℕ, List, [], ◌∷◌, sym, ap, subst}
use Rattle.std.specs.Prelude.{chars, reverse}
use Rattle.std.proofs.lemmas.Iterator.{YieldsList-from_chars}
use Rattle.std.proofs.lemmas.Iterator.Consumers.{YieldsList-end}
use Rattle.std.proofs.lemmas.List.{reverse-append, map-id}
use Rattle.hl_base.specs.Quoting.{IsBehind, is_quoted}
use Rattle.hlasm_statements.proofs.quotes.ends_quoted.Goals as goal

pub loop-c-preserved : goal.loop-c-preserved
loop-c-preserved c =
    let P : List ℕ → Type 0 = λ before. IsBehind c.read.new.self before in
    subst P (sym (reverse-append c.loop-c.yielded (c.in-Some.c ∷ []))) (c.in_ok-read.ensures (reverse c.loop-c.yielded) c.loop-c.invariant)

pub returns : goal.returns
returns c =
    let t = YieldsList-end (YieldsList-from_chars c.args.text.now c.utf8.text cc) c.loop-c.yielded _ c.loop-c.yielded_by _ _ c.in-None.is c.next.ensures.steps in
    let all : c.loop-c.yielded ≡ chars c.args.text.now = sym (map-id c.loop-c.yielded) ∙ t.0 in
    c.is_quoted.ensures (reverse c.loop-c.yielded) c.loop-c.invariant ∙ ap (λ text. is_quoted 32 (reverse text)) all
