-- What was published last of a program that is listed.
use Rattle.std.proofs.Common.{◌≡◌, ◌&&◌, ℤ, Bool, true, false, List, Option, Some, None, refl, ap, ◌∙◌}
use Rattle.std.specs.Ordering.{int_eq}
use Rattle.std.proofs.lemmas.Bool.Decides.{Decides-int_eq}
use Rattle.hl_base.specs.declared.place.PathId.{PathId}
use Rattle.lsp_messages.specs.declared.outgoing.Diagnostic.{Diagnostic}
use Rattle.lsp_messages.specs.Same.{is_same_list}
use Rattle.lsp_messages.proofs.SameLaws.{is_same_list-Decides}
use Rattle.document_store.specs.Store.{OpenDocument}
use Rattle.session_core.specs.declared.state.LastList.{LastList}
use Rattle.session_core.specs.Diagnostics.{list_of}
use Rattle.session_core.specs.Laws.{is_listed}
use Rattle.session_core.specs.State.{State, last_list}
use Rattle.session_core.specs.Turn.{is_published}
use Rattle.session_core.proofs.FreshLaws.{listed_path}
use Rattle.schedule_law.specs.Schedules.{list_now}

both : (a b : Bool) → (a && b) ≡ true → (a ≡ true) × (b ≡ true)
both true b is = (refl, is)
both false b is = cc

-- ---- what was published last

pub listed_now : (s : State) (n : PathId) (document : OpenDocument) → is_listed s n document ≡ true → last_list s.published n ≡ Some (list_now s n document)
listed_now s n document listed = by_last (last_list s.published n) refl listed where
  list : List Diagnostic
  list = list_of s n document

  by_last : (last : Option LastList) → last_list s.published n ≡ last → is_published last document.version list ≡ true → last ≡ Some (list_now s n document)
  by_last None found is = cc
  by_last (Some last) found is =
      let here = both (int_eq last.version document.version) (is_same_list last.list list) is in
      ap (λ (p : PathId). Some (record last { path = p })) (listed_path s.published n last found)
      ∙ ap (λ (v : ℤ). Some (record last { path = n; version = v })) ((Decides-int_eq last.version document.version).0 here.0)
      ∙ ap (λ (l : List Diagnostic). Some (record { path = n; version = document.version; list = l })) ((is_same_list-Decides last.list list).0 here.1)
