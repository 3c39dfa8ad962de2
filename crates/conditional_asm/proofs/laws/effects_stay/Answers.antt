use Rattle.cond_expr.specs.Frames.{told_by}
use Rattle.cond_expr.proofs.AskingLaws.{more_changes_nothing, restarts_end}
use Rattle.conditional_asm.specs.Effects.{effect_of}
use Rattle.conditional_asm.proofs.AskingActs.{effect-asks}
use Rattle.conditional_asm.proofs.laws.effects_stay.Goals as goal

pub returns : goal.returns
returns c = record {
  stays = λ reading frame. more_changes_nothing (λ answers. effect_of reading (told_by frame answers)) (effect-asks frame reading);
  ends = λ reading frame answers. restarts_end (λ some. effect_of reading (told_by frame some)) answers (effect-asks frame reading);
}
