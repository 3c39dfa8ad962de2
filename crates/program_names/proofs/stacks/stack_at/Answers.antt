use Rattle.std.proofs.Common.{ap, sym, ◌∙◌, subst}
use Rattle.std.specs.List.{flat_map}
use Rattle.std.proofs.lemmas.Result.{IfOk-weaker}
use Rattle.trace_cursor.specs.Pasts.{AreThere}
use Rattle.program_assembly.specs.Stacks.{frames_there}
use Rattle.program_assembly.proofs.StackLaws.{path_stack}
use Rattle.program_names.proofs.stacks.stack_at.Goals as goal

pub frames_there-requires : goal.frames_there-requires
frames_there-requires c =
    let nodes = c.args.arena.now.nodes in
    record {
      there = subst (λ ps. AreThere nodes ps) (sym c.as_slice.ensures.value) c.in_ok-places.ensures.there;
    }

pub returns : goal.returns
returns c =
    let nodes = c.args.arena.now.nodes in
    let places = c.in_ok-places.places.items in
    IfOk-weaker c.frames_there.result _ _
    (λ stack is. is ∙ ap (flat_map (frames_there nodes)) c.as_slice.ensures.value ∙ path_stack nodes c.args.root.0 c.args.index places c.in_ok-places.ensures.path)
    c.frames_there.ensures
