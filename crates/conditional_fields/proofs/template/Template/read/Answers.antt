use Rattle.std.proofs.Common.{ℕ, List, Option, subst, sym}
use Rattle.std.specs.Str.{chars}
use Rattle.conditional_fields.specs.declared.template.Step.{Step}
use Rattle.conditional_fields.specs.declared.template.Piece.{Piece}
use Rattle.conditional_fields.specs.Readings.{IsStep}
use Rattle.conditional_fields.specs.Templates.{Reads, IsPiece}
use Rattle.conditional_fields.proofs.TemplateLaws.{reads-more}
use Rattle.conditional_fields.proofs.template.Template.read.Goals as goal

pub loop-rest-preserved : goal.loop-rest-preserved
loop-rest-preserved c =
    let step = subst (λ (o : Option Step). IsStep (chars c.loop-rest.rest.now) o) c.in-Some.is c.in_ok-step.ensures in
    let is : IsPiece (chars c.loop-rest.rest.now) c.in-Some.step.piece (chars c.behind-rest.result.now) =
    subst (λ (t : List ℕ). IsPiece (chars c.loop-rest.rest.now) c.in-Some.step.piece t) (sym c.behind-rest.ensures) step.0 in (
      c.behind-rest.utf8,
      subst (λ (ps : List Piece). Reads (chars c.args.field.now) ps (chars c.behind-rest.result.now)) (sym c.in_ok-push-in-Some.ensures)
          (reads-more (chars c.args.field.now) c.loop-rest.pieces.items (chars c.loop-rest.rest.now) c.in-Some.step.piece (chars c.behind-rest.result.now) c.loop-rest.invariant.1 is),
    )
