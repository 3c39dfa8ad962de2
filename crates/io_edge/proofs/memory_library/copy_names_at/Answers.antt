use Rattle.std.proofs.Common.{◌∙◌, Some, ap, map, string_bytes}
use Rattle.std.specs.Option.{option_map}
use Rattle.io_edge.proofs.MemoryLibraryLemmas.{names_at-map}
use Rattle.io_edge.proofs.memory_library.copy_names_at.Goals as goal

pub returns-in_ok-copy_names-in-Some : goal.returns-in_ok-copy_names-in-Some
returns-in_ok-copy_names-in-Some c =
    ap Some (c.in_ok-copy_names-in-Some.ensures ∙ ap (map string_bytes) c.deref.ensures.value)
    ∙ ap (option_map (λ folder. map string_bytes folder.names.items)) c.in-Some.ensures
    ∙ names_at-map c.args.folders.now c.args.path.now

pub returns-in-None : goal.returns-in-None
returns-in-None c =
    ap (option_map (λ folder. map string_bytes folder.names.items)) c.in-None.ensures
    ∙ names_at-map c.args.folders.now c.args.path.now
