use Rattle.std.proofs.Common.{◌∙◌, ap, ◌∷◌, [], ◌++◌, length, drop}
use Rattle.std.proofs.lemmas.List.{drop-replicate}
use Rattle.instruction_table.specs.Instructions.{padded}
use Rattle.instruction_table.proofs.table.padded.Goals as goal

pub returns : goal.returns
unfolding padded
returns c =
    ap (λ front. front ++ drop (length c.args.name.now) (32 ∷ 32 ∷ 32 ∷ 32 ∷ 32 ∷ 32 ∷ 32 ∷ 32 ∷ [])) c.copy_from_slice.ensures.after
    ∙ ap (λ behind. c.args.name.now ++ behind) (drop-replicate (length c.args.name.now) 8 32)
