use Rattle.std.proofs.Common.{◌≡◌, ◌∙◌, ◌++◌, ◌∷◌, [], true, ap, sym, refl, append-nil}
use Rattle.std.specs.Prelude.{string_bytes, chars, encode_utf8}
use Rattle.std.proofs.lemmas.Str.{chars-append, chars-encodes, IsUtf8-string_bytes}
use Rattle.std.proofs.lemmas.Bool.{and_from}
use Rattle.std.proofs.Math.Utf8.{scalar}
use Rattle.character_grammar.proofs.quoted.Characters.push.Goals as goal

pub returns : goal.returns
returns c =
    let one : chars (encode_utf8 c.args.c) ≡ c.args.c ∷ [] =
    ap chars (sym (append-nil (encode_utf8 c.args.c))) ∙ chars-encodes (c.args.c ∷ []) (and_from (scalar c.args.c) true c.ranges.c.0 refl) in
    ap chars c.in_ok-push.ensures.bytes
    ∙ chars-append (string_bytes c.self.inside.content) (encode_utf8 c.args.c) (IsUtf8-string_bytes c.self.inside.content)
    ∙ ap (λ back. chars (string_bytes c.self.inside.content) ++ back) one
    ∙ ap (λ front. front ++ c.args.c ∷ []) c.self.view_is
