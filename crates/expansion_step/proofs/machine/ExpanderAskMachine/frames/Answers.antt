use Rattle.std.proofs.Common.{◌≡◌, ◌∷◌, map, reverse, sym, ap, ◌∙◌}
use Rattle.plain_expansion.specs.Engine.{levels_of}
use Rattle.expansion_step.specs.Meaning.{meaning, stack_by, level_by}
use Rattle.expansion_step.specs.Places.{progress_by}
use Rattle.expansion_step.proofs.Entries.{levels-phase}
use Rattle.expansion_step.proofs.Steps.{if_ok-map}
use Rattle.expansion_step.proofs.machine.ExpanderAskMachine.frames.Goals as goal

pub returns-in-Within : goal.returns-in-Within
returns-in-Within g c =
    let L = g.X.CodedLanguage.language in
    let m = meaning g.X.CodedLanguage.reads g.X.CodedLanguage.call_of g.X.Call.Kept.code g.X.Key.Kept.code g.X.Value.Kept.code in
    let stack = c.in-Within.stack in
    let phase = c.in-Within.field-1 in
    let lists = ap (λ l. L.frames_of (level_by m stack.here ∷ reverse (map (level_by m) l))) c.as_slice-below.ensures.value in
    let levels = ap L.frames_of (levels-phase m (stack_by m stack) phase) in
    let there = ap (λ p. L.frames_of (levels_of L (progress_by m p))) c.in-Within.is in
    if_ok-map c.frames.result
    (λ f. g.X.CodedLanguage.frames_of f ≡ L.frames_of (level_by m stack.here ∷ reverse (map (level_by m) c.as_slice-below.result.now)))
    (λ f. g.X.CodedLanguage.frames_of f ≡ L.frames_of (levels_of L (progress_by m c.args.local.now.local.progress)))
    (λ f is. is ∙ lists ∙ sym levels ∙ sym there) c.frames.ensures
