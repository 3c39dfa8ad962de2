use Rattle.std.proofs.Common.{◌≡◌, ◌∙◌, ◌++◌, ◌∷◌, [], map, ap, sym}
use Rattle.io_edge.specs.MemoryLibraryParts.{folder_of}
use Rattle.io_edge.specs.SureForms.{Cabinet}
use Rattle.bulk_session.specs.Shelf.{folders, answered}
use Rattle.bulk_session.proofs.shelf.BulkLibrary.new.Goals as goal

pub invariant_of-result : goal.invariant_of-result
unfolding folders
invariant_of-result c =
    let none : c.new.result.calls ≡ [] = ap (λ (s : Cabinet). s.calls) c.new.ensures in
    record {
      folders_are = ap (λ (s : Cabinet). s.folders) c.new.ensures
          ∙ ap (map folder_of) (c.in_ok-push.ensures.items ∙ ap (λ z. z ++ c.in_ok-folder.folder ∷ []) c.new-folders.ensures.items)
          ∙ ap (λ z. z ∷ []) c.in_ok-folder.ensures;
      files_are = ap (λ (s : Cabinet). s.files) c.new.ensures ∙ c.in_ok-files.ensures;
      all_answered = ap (map answered) none ∙ sym none;
    }
