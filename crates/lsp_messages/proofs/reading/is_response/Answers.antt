use Rattle.std.proofs.Common.{◌≡◌, false, Option, None, Some, option_map, refl, sym, ◌∙◌}
use Rattle.std.specs.Prelude.{is_some}
use Rattle.lsp_messages.proofs.MessageLaws.{message_of-no_method}
use Rattle.lsp_messages.proofs.reading.is_response.Goals as goal

option_map-is_none : {A B : Type 0} (f : A → B) (o : Option A) → is_some o ≡ false → option_map f o ≡ None
option_map-is_none f None h = refl
option_map-is_none f (Some x) h = cc

pub returns-then-is_some-clause-no_request : goal.returns-then-is_some-clause-no_request
returns-then-is_some-clause-no_request c = λ _.
    message_of-no_method _ (sym c.get.ensures ∙ option_map-is_none _ _ c.if-is_none.ensures)

pub returns-else-is_some-clause-no_request : goal.returns-else-is_some-clause-no_request
returns-else-is_some-clause-no_request c = λ _.
    message_of-no_method _ (sym c.get.ensures ∙ option_map-is_none _ _ c.if-is_none.ensures)
