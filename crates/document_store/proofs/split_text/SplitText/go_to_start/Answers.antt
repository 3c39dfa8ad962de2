use Rattle.std.proofs.Common.{subst}
use Rattle.std.proofs.lemmas.Str.{IsCharBoundary-start}
use Rattle.std.specs.Prelude.{IsCharBoundary}
use Rattle.document_store.specs.Parts.{Parts}
use Rattle.document_store.proofs.split_text.SplitText.go_to_start.Goals as goal

pub go_back-requires : goal.go_back-requires
go_back-requires c = subst (λ (p : Parts). IsCharBoundary p.front 0) c.self.view_is (IsCharBoundary-start _ c.self.invariant.front)
