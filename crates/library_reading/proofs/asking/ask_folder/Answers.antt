use Rattle.std.proofs.Common.{Ok, Err, map, string_bytes, refl, ap}
use Rattle.io_edge.specs.LibraryCall.{absent, found, refused, listing}
use Rattle.library_reading.proofs.AskedLaws.{asks_folder}
use Rattle.library_reading.proofs.asking.ask_folder.Goals as goal

pub returns-in-Ok-Some : goal.returns-in-Ok-Some
returns-in-Ok-Some g c =
    asks_folder _ (found (map string_bytes c.in-Ok-Some.names.items)) _ _ _ _ _ _ _ c.utf8.folder refl (ap (λ z. listing c.args.folder.now (Ok z)) c.in-Ok-Some.field-0-is)
    c.in-Ok-Some.ensures.calls c.in-Ok-Some.ensures.cause.later (λ f. cc)

pub returns-in-Ok-None : goal.returns-in-Ok-None
returns-in-Ok-None g c =
    asks_folder _ absent _ _ _ _ _ _ _ c.utf8.folder refl (ap (λ z. listing c.args.folder.now (Ok z)) c.in-Ok-None.field-0-is)
    c.in-Ok-None.ensures.calls c.in-Ok-None.ensures.cause.later (λ f. cc)

pub returns-in-Err-Failed : goal.returns-in-Err-Failed
returns-in-Err-Failed g c =
    asks_folder _ refused _ _ _ _ _ _ _ c.utf8.folder refl (ap (λ z. listing c.args.folder.now (Err z)) c.in-Err-Failed.field-0-is)
    c.in-Err-Failed.ensures.calls c.in-Err-Failed.ensures.cause.later (λ _. c.in-Err-Failed.ensures.cause.failed (ap Err c.in-Err-Failed.field-0-is))
