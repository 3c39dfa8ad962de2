use Rattle.std.proofs.Common.{◌∙◌}
use Rattle.std.specs.Str.{chars}
use Rattle.text_pool.specs.Pool.{text_of}
use Rattle.program_assembly.proofs.FigureLaws.{figures_are}
use Rattle.program_assembly.proofs.KeptRootLaws.{kept_with_next, last_is_owned}
use Rattle.program_assembly.proofs.kept_expansions.KeptExpansions.figures.Goals as goal

pub returns : goal.returns
returns g c =
    let members = g.P.Present.members c.args.present.now in
    let text = text_of (g.P.Present.texts c.args.present.now) c.args.text.0 in
    let parm = chars c.args.parm.now in
    let assembly = c.in_ok-assembly.assembly in
    c.in_ok-figures.ensures
    ∙ figures_are c.args.path.0 text parm members c.args.budget c.assemble.new.arena.nodes assembly
    (c.assemblies_are_plain.ensures c.args.path.0 text parm members c.args.budget c.assemble.new.arena.nodes assembly c.in_ok-assembly.ensures.assembly)

pub retire_root-requires : goal.retire_root-requires
retire_root-requires g c = record {
  kept = record {
    stand = c.in_ok-assembly.ensures.stand;
    owned = last_is_owned c.memo.inside.arena.nodes c.assemble.new.arena.nodes c.assemble.new.arena.nodes c.in_ok-assembly.assembly.root.0 c.in_ok-assembly.ensures.handed c.memo.inside.root c.memo.invariant.owned;
  };
}

pub invariant_of-drop : goal.invariant_of-drop
invariant_of-drop g c =
    kept_with_next c.memo.inside.arena.nodes c.assemble.new.arena.nodes c.retire_root.new.arena.nodes c.in_ok-assembly.assembly.root.0 c.in_ok-assembly.ensures.handed
    c.retire_root.new.memo c.memo.inside.root c.in_ok-assembly.assembly.root (λ i. c.in_ok-assembly.assembly.root.0) c.retire_root.ensures.kept.stand c.memo.invariant.owned c.retire_root.ensures.owners
