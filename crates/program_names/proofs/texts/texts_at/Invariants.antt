use Rattle.std.proofs.Common.{◌≡◌}
use Rattle.std.specs.List.{fold}
use Rattle.program_names.specs.Texts.{with_text, texts_at}
use Rattle.program_names.proofs.texts.texts_at.Given as goal

-- with the texts of the paths that are left, all are there
abbrev pub invariant-loop-path : goal.invariant-loop-path
invariant-loop-path l = fold (with_text l.store.store) l.texts l.path-iterator ≡ texts_at l.store.store l.paths.keys
