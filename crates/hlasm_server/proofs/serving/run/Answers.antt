use Rattle.std.proofs.Common.{◌≡◌, Some, None, inl, inr, refl, ap, map, string_bytes, Err}
use Rattle.command_words.specs.Commands.{command_of}
use Rattle.command_words.specs.declared.command.Command.TheVariants.{Serve, Bulk}
use Rattle.hlasm_server.specs.declared.status.Status.TheVariants.{OutOfMemory}
use Rattle.command_words.proofs.NumberLaws.{count_is_within}
use Rattle.bulk_session.specs.Bulk.{bulk_lines}
use Rattle.hlasm_server.proofs.BulkLaws.{never_bad_words, nothing_written}
use Rattle.hlasm_server.proofs.HeadlineLaws.{completes}
use Rattle.hlasm_server.proofs.ServeLaws.{ends_at_once}
use Rattle.hlasm_server.proofs.WordLaws.{not_both, not_none, serve_asks, bulk_asks_no_session, none_asks_no_session}
use Rattle.hlasm_server.proofs.serving.run.Goals as goal

-- ---- the session of an editor

pub returns-in-Ok-Serve-clause-plain : goal.returns-in-Ok-Serve-clause-plain
returns-in-Ok-Serve-clause-plain g c = λ budget told.
    let same : c.in-Ok-Serve.budget ≡ budget = cc (told, c.in-Ok-Serve.ensures.command, c.in-Ok-Serve.field-0-is) in
    rw same at c.serve.ensures.plain

pub returns-in-Ok-Serve-clause-complete : goal.returns-in-Ok-Serve-clause-complete
returns-in-Ok-Serve-clause-complete g c = λ budget told no_read no_write.
    let same : c.in-Ok-Serve.budget ≡ budget = cc (told, c.in-Ok-Serve.ensures.command, c.in-Ok-Serve.field-0-is) in
    let plain = rw same at c.serve.ensures.plain in
    completes _ _ _ _ _ _ _ _ _ _ _ _ _ _ plain c.serve.ensures.cause no_read no_write

pub returns-in-Ok-Serve-clause-bad_words : goal.returns-in-Ok-Serve-clause-bad_words
returns-in-Ok-Serve-clause-bad_words g c = λ bad. absurd (c.serve.ensures.words bad)

pub returns-in-Ok-Serve-clause-unread : goal.returns-in-Ok-Serve-clause-unread
returns-in-Ok-Serve-clause-unread g c = λ none.
    let asked : command_of (map string_bytes c.args.words.now) ≡ Some (Serve c.in-Ok-Serve.budget) = cc (c.in-Ok-Serve.ensures.command, c.in-Ok-Serve.field-0-is) in
    absurd (serve_asks (map string_bytes c.args.words.now) c.in-Ok-Serve.budget asked none)

pub returns-in-Ok-Serve-clause-unasked : goal.returns-in-Ok-Serve-clause-unasked
returns-in-Ok-Serve-clause-unasked g c = λ none.
    let asked : command_of (map string_bytes c.args.words.now) ≡ Some (Serve c.in-Ok-Serve.budget) = cc (c.in-Ok-Serve.ensures.command, c.in-Ok-Serve.field-0-is) in
    absurd (serve_asks (map string_bytes c.args.words.now) c.in-Ok-Serve.budget asked none)

pub returns-in-Ok-Serve-clause-uncalled : goal.returns-in-Ok-Serve-clause-uncalled
returns-in-Ok-Serve-clause-uncalled g c = λ none.
    let asked : command_of (map string_bytes c.args.words.now) ≡ Some (Serve c.in-Ok-Serve.budget) = cc (c.in-Ok-Serve.ensures.command, c.in-Ok-Serve.field-0-is) in
    absurd (serve_asks (map string_bytes c.args.words.now) c.in-Ok-Serve.budget asked none)

pub returns-in-Ok-Serve-clause-bulk : goal.returns-in-Ok-Serve-clause-bulk
returns-in-Ok-Serve-clause-bulk g c = λ count told.
    let asked : command_of (map string_bytes c.args.words.now) ≡ Some (Serve c.in-Ok-Serve.budget) = cc (c.in-Ok-Serve.ensures.command, c.in-Ok-Serve.field-0-is) in
    absurd (not_both (map string_bytes c.args.words.now) c.in-Ok-Serve.budget count told asked)

pub returns-in-Ok-Serve-clause-bulk_complete : goal.returns-in-Ok-Serve-clause-bulk_complete
returns-in-Ok-Serve-clause-bulk_complete g c = λ count told no_write.
    let asked : command_of (map string_bytes c.args.words.now) ≡ Some (Serve c.in-Ok-Serve.budget) = cc (c.in-Ok-Serve.ensures.command, c.in-Ok-Serve.field-0-is) in
    absurd (not_both (map string_bytes c.args.words.now) c.in-Ok-Serve.budget count told asked)

pub returns-in-Ok-Serve-clause-no_command : goal.returns-in-Ok-Serve-clause-no_command
returns-in-Ok-Serve-clause-no_command g c = λ none.
    let asked : command_of (map string_bytes c.args.words.now) ≡ Some (Serve c.in-Ok-Serve.budget) = cc (c.in-Ok-Serve.ensures.command, c.in-Ok-Serve.field-0-is) in
    absurd (not_none (map string_bytes c.args.words.now) (Serve c.in-Ok-Serve.budget) none asked)

pub returns-in-Ok-Serve-clause-unwritten : goal.returns-in-Ok-Serve-clause-unwritten
returns-in-Ok-Serve-clause-unwritten g c = λ none.
    let asked : command_of (map string_bytes c.args.words.now) ≡ Some (Serve c.in-Ok-Serve.budget) = cc (c.in-Ok-Serve.ensures.command, c.in-Ok-Serve.field-0-is) in
    absurd (not_none (map string_bytes c.args.words.now) (Serve c.in-Ok-Serve.budget) none asked)

pub returns-in-Ok-Serve-clause-uncounted : goal.returns-in-Ok-Serve-clause-uncounted
returns-in-Ok-Serve-clause-uncounted g c = λ none.
    let asked : command_of (map string_bytes c.args.words.now) ≡ Some (Serve c.in-Ok-Serve.budget) = cc (c.in-Ok-Serve.ensures.command, c.in-Ok-Serve.field-0-is) in
    absurd (not_none (map string_bytes c.args.words.now) (Serve c.in-Ok-Serve.budget) none asked)

-- ---- the session of its own

pub returns-in-Ok-Bulk-clause-plain : goal.returns-in-Ok-Bulk-clause-plain
returns-in-Ok-Bulk-clause-plain g c = λ budget told.
    let asked : command_of (map string_bytes c.args.words.now) ≡ Some (Bulk c.in-Ok-Bulk.count) = cc (c.in-Ok-Bulk.ensures.command, c.in-Ok-Bulk.field-0-is) in
    absurd (not_both (map string_bytes c.args.words.now) budget c.in-Ok-Bulk.count asked told)

pub returns-in-Ok-Bulk-clause-complete : goal.returns-in-Ok-Bulk-clause-complete
returns-in-Ok-Bulk-clause-complete g c = λ budget told no_read no_write.
    let asked : command_of (map string_bytes c.args.words.now) ≡ Some (Bulk c.in-Ok-Bulk.count) = cc (c.in-Ok-Bulk.ensures.command, c.in-Ok-Bulk.field-0-is) in
    absurd (not_both (map string_bytes c.args.words.now) budget c.in-Ok-Bulk.count asked told)

pub bulk-requires-clause-some : goal.bulk-requires-clause-some
bulk-requires-clause-some g c =
    let asked : command_of (map string_bytes c.args.words.now) ≡ Some (Bulk c.in-Ok-Bulk.count) = cc (c.in-Ok-Bulk.ensures.command, c.in-Ok-Bulk.field-0-is) in
    (count_is_within (map string_bytes c.args.words.now) c.in-Ok-Bulk.count asked).0

pub bulk-requires-clause-few : goal.bulk-requires-clause-few
bulk-requires-clause-few g c =
    let asked : command_of (map string_bytes c.args.words.now) ≡ Some (Bulk c.in-Ok-Bulk.count) = cc (c.in-Ok-Bulk.ensures.command, c.in-Ok-Bulk.field-0-is) in
    (count_is_within (map string_bytes c.args.words.now) c.in-Ok-Bulk.count asked).1

pub returns-in-Ok-Bulk-clause-bulk : goal.returns-in-Ok-Bulk-clause-bulk
returns-in-Ok-Bulk-clause-bulk g c = λ count told.
    let same : c.in-Ok-Bulk.count ≡ count = cc (told, c.in-Ok-Bulk.ensures.command, c.in-Ok-Bulk.field-0-is) in
    rw same at c.bulk.ensures.writes

pub returns-in-Ok-Bulk-clause-bulk_complete : goal.returns-in-Ok-Bulk-clause-bulk_complete
returns-in-Ok-Bulk-clause-bulk_complete g c = λ count told no_write.
    let same : c.in-Ok-Bulk.count ≡ count = cc (told, c.in-Ok-Bulk.ensures.command, c.in-Ok-Bulk.field-0-is) in
    (rw same at c.bulk.ensures.all) no_write

pub returns-in-Ok-Bulk-clause-bad_words : goal.returns-in-Ok-Bulk-clause-bad_words
returns-in-Ok-Bulk-clause-bad_words g c = λ bad. absurd (never_bad_words (bulk_lines c.in-Ok-Bulk.count) (g.K.Sink.held c.args.sink.now) (g.K.Sink.held c.bulk.new.sink) c.bulk.result c.bulk.ensures.writes bad)

pub returns-in-Ok-Bulk-clause-no_command : goal.returns-in-Ok-Bulk-clause-no_command
returns-in-Ok-Bulk-clause-no_command g c = λ none.
    let asked : command_of (map string_bytes c.args.words.now) ≡ Some (Bulk c.in-Ok-Bulk.count) = cc (c.in-Ok-Bulk.ensures.command, c.in-Ok-Bulk.field-0-is) in
    absurd (not_none (map string_bytes c.args.words.now) (Bulk c.in-Ok-Bulk.count) none asked)

pub returns-in-Ok-Bulk-clause-unwritten : goal.returns-in-Ok-Bulk-clause-unwritten
returns-in-Ok-Bulk-clause-unwritten g c = λ none.
    let asked : command_of (map string_bytes c.args.words.now) ≡ Some (Bulk c.in-Ok-Bulk.count) = cc (c.in-Ok-Bulk.ensures.command, c.in-Ok-Bulk.field-0-is) in
    absurd (not_none (map string_bytes c.args.words.now) (Bulk c.in-Ok-Bulk.count) none asked)

pub returns-in-Ok-Bulk-clause-uncounted : goal.returns-in-Ok-Bulk-clause-uncounted
returns-in-Ok-Bulk-clause-uncounted g c = λ none.
    let asked : command_of (map string_bytes c.args.words.now) ≡ Some (Bulk c.in-Ok-Bulk.count) = cc (c.in-Ok-Bulk.ensures.command, c.in-Ok-Bulk.field-0-is) in
    absurd (not_none (map string_bytes c.args.words.now) (Bulk c.in-Ok-Bulk.count) none asked)

-- ---- words that are no command

pub returns-in-Err-BadWords-clause-plain : goal.returns-in-Err-BadWords-clause-plain
returns-in-Err-BadWords-clause-plain g c = λ budget told.
    absurd (not_none (map string_bytes c.args.words.now) (Serve budget) (c.in-Err-BadWords.ensures.bad_words (ap Err c.in-Err-BadWords.field-0-is)) told)

pub returns-in-Err-BadWords-clause-complete : goal.returns-in-Err-BadWords-clause-complete
returns-in-Err-BadWords-clause-complete g c = λ budget told no_read no_write.
    absurd (not_none (map string_bytes c.args.words.now) (Serve budget) (c.in-Err-BadWords.ensures.bad_words (ap Err c.in-Err-BadWords.field-0-is)) told)

pub returns-in-Err-BadWords-clause-bulk : goal.returns-in-Err-BadWords-clause-bulk
returns-in-Err-BadWords-clause-bulk g c = λ count asked. absurd (not_none (map string_bytes c.args.words.now) (Bulk count) (c.in-Err-BadWords.ensures.bad_words (ap Err c.in-Err-BadWords.field-0-is)) asked)

pub returns-in-Err-BadWords-clause-bulk_complete : goal.returns-in-Err-BadWords-clause-bulk_complete
returns-in-Err-BadWords-clause-bulk_complete g c = λ count asked no_write. absurd (not_none (map string_bytes c.args.words.now) (Bulk count) (c.in-Err-BadWords.ensures.bad_words (ap Err c.in-Err-BadWords.field-0-is)) asked)

pub returns-in-Err-BadWords-clause-bad_words : goal.returns-in-Err-BadWords-clause-bad_words
returns-in-Err-BadWords-clause-bad_words g c = λ _. c.in-Err-BadWords.ensures.bad_words (ap Err c.in-Err-BadWords.field-0-is)

pub returns-in-Err-BadWords-clause-no_command : goal.returns-in-Err-BadWords-clause-no_command
returns-in-Err-BadWords-clause-no_command g c = λ _. inl refl

-- ---- no memory to read the words, so that the session has not begun

pub returns-in-Err-OutOfMemory-clause-plain : goal.returns-in-Err-OutOfMemory-clause-plain
returns-in-Err-OutOfMemory-clause-plain g c = λ budget _. ends_at_once budget _ _ _ _

pub returns-in-Err-OutOfMemory-clause-complete : goal.returns-in-Err-OutOfMemory-clause-complete
returns-in-Err-OutOfMemory-clause-complete g c = λ budget _ no_read no_write.
    let plain = ends_at_once budget (g.S.Source.left c.args.source.now) (g.K.Sink.held c.args.sink.now) (g.S.Source.waits c.args.source.now) (g.B.Library.calls c.args.library.now) in
    completes OutOfMemory _ _ _ _ _ _ _ _ _ _ _ _ _ plain tt no_read no_write

pub returns-in-Err-OutOfMemory-clause-no_command : goal.returns-in-Err-OutOfMemory-clause-no_command
returns-in-Err-OutOfMemory-clause-no_command g c = λ _. inr refl

pub returns-in-Err-OutOfMemory-clause-bulk : goal.returns-in-Err-OutOfMemory-clause-bulk
returns-in-Err-OutOfMemory-clause-bulk g c = λ count _. nothing_written (bulk_lines count) (g.K.Sink.held c.args.sink.now)

pub returns-in-Err-OutOfMemory-clause-bulk_complete : goal.returns-in-Err-OutOfMemory-clause-bulk_complete
returns-in-Err-OutOfMemory-clause-bulk_complete g c = λ count _ no_write. inl refl
