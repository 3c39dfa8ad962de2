use Rattle.std.proofs.Common.{◌∙◌, ◌++◌, ◌∷◌, [], refl, ap}
use Rattle.macro_library.specs.Copying.{outer_of}
use Rattle.macro_library.proofs.CopyingLaws.{outer-entered}
use Rattle.macro_library.proofs.copying.Copying.enter.Goals as goal

pub returns : goal.returns
returns c = record {
  lines = refl;
  room = refl;
  begun = refl;
  current = ap (λ left. left.lines.items) c.replace-outside.ensures.after ∙ c.in_ok-inside.ensures;
  outer =
      outer-entered c.args.self.now.outer _ c.in_ok-key.key c.replace-outside.result c.args.name.now c.requires (c.in_ok-key.ensures.ok ∙ c.text.ensures) c.in_ok-insert.ensures.entries
      ∙ ap (λ left. outer_of c.args.self.now ++ record { name = c.args.name.now; left = left.lines.items } ∷ []) c.replace-outside.ensures.value;
  ended_is = refl;
}
