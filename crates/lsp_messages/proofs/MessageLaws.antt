-- A value without a method is no message, and so is an answer to a request of ours.
use Rattle.std.proofs.Common.{◌≡◌, Bool, true, false, None, Err, if◌then◌else◌, refl, ap}
use Rattle.std.specs.Prelude.{codes}
use Rattle.serde_json.specs.Data.{Data}
use Rattle.serde_json.specs.Find.{get, as_str}
use Rattle.json_view.specs.Members.{read_as}
use Rattle.lsp_messages.specs.declared.incoming.Refusal.TheVariants.{NotRequest}
use Rattle.lsp_messages.specs.Messages.{is_version_2, or_no_request, id_of, message_named, message_told, message_of}
use Rattle.lsp_messages.specs.Parameters.{◌>>=◌}

pub message_told-no_method : (value : Data) → get (codes "method") value ≡ None → message_told value ≡ Err NotRequest
message_told-no_method value none =
    ap (λ found. or_no_request (read_as as_str found) >>= (λ method. id_of value >>= (λ id. message_named method id value))) none

pub message_of-no_method : (value : Data) → get (codes "method") value ≡ None → message_of value ≡ Err NotRequest
unfolding message_of
message_of-no_method value none = by_version (is_version_2 value) where
  by_version : (b : Bool) → (if b then message_told value else Err NotRequest) ≡ Err NotRequest
  by_version true = message_told-no_method value none
  by_version false = refl
