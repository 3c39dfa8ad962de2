use Rattle.session_core.proofs.ProgramLaws.{IsSearched}
use Rattle.session_core.proofs.programs.document_at.Given as goal

-- the documents so far have other numbers
abbrev pub invariant-loop-index : goal.invariant-loop-index
invariant-loop-index l = IsSearched l.store.store l.path l.index
