use Rattle.std.proofs.Common.{◌∙◌, Some, ap}
use Rattle.std.specs.Option.{option_map}
use Rattle.io_edge.proofs.MemoryLibraryLemmas.{bytes_at-map}
use Rattle.io_edge.proofs.memory_library.copy_bytes_at.Goals as goal

pub returns-in_ok-from_slice-in-Some : goal.returns-in_ok-from_slice-in-Some
returns-in_ok-from_slice-in-Some c =
    ap Some (c.in_ok-from_slice-in-Some.ensures.items ∙ c.deref.ensures.value)
    ∙ ap (option_map (λ file. file.bytes.items)) c.in-Some.ensures
    ∙ bytes_at-map c.args.files.now c.args.path.now

pub returns-in-None : goal.returns-in-None
returns-in-None c =
    ap (option_map (λ file. file.bytes.items)) c.in-None.ensures
    ∙ bytes_at-map c.args.files.now c.args.path.now
