-- What one statement does (HLASM Language Reference SC26-4940, "Conditional assembly instructions", "Macro definitions", "MNOTE
-- instruction", "COPY instruction", "END instruction", "Model statements"), as a function of the statement as it was read and
-- of what is told.
use Rattle.std.specs.Prelude.{ℕ, Bool, List, [], ◌∷◌, ◌++◌, Option, Some, None, Result, Ok, Err, pos, chars, if◌then◌else◌}
use Rattle.std.specs.Option.{option_map_or}
use Rattle.hl_base.specs.declared.note.Note.{Note}
use Rattle.instruction_table.specs.Operations.{operation_of}
use Rattle.cond_expr.specs.Told.{Told}
use Rattle.cond_expr.specs.Outcome.{Outcome, Gives, Asks, gives, noting, and_then}
use Rattle.cond_expr.specs.Characters.{not_below_0}
use Rattle.cond_expr.specs.Values.{number, text}
use Rattle.conditional_fields.specs.Endings.{field_of}
use Rattle.statement_reading.specs.declared.task.Task.{Task}
use Rattle.statement_reading.specs.Bodies as bodies
use Rattle.statement_reading.specs.Branches as branches
use Rattle.statement_reading.specs.Readings as readings
use Rattle.statement_reading.specs.Tasks as tasks
use Rattle.conditional_asm.specs.declared.act.Act.{Act}
use Rattle.conditional_asm.specs.declared.act.Act.TheVariants as act
use Rattle.conditional_asm.specs.declared.act.Effect.{Effect}
use Rattle.conditional_asm.specs.Branching.{label_of, by_first_true}
use Rattle.conditional_asm.specs.Definitions.{defined}
use Rattle.conditional_asm.specs.Generating.{open_quote, line_of}
use Rattle.conditional_asm.specs.Messages.{weight_of}
use Rattle.conditional_asm.specs.Repeating.{once}
use Rattle.conditional_asm.specs.Setting.{put}
use Rattle.conditional_asm.specs.Substitution.{substituted}
use Rattle.conditional_asm.specs.Troubles.{no_operation, undefined, left_out, unreadable, author}

-- a copy of the member that an operand names, or how far it reads as a name
abbrev pub copied : Result (List ℕ) ℕ → Outcome Act
copied (Ok member) = gives (act.Copy member)
copied (Err at) = Gives act.Next (unreadable at ∷ [])

-- What a statement does by what its fields say, whose operation has this name and is written so. A branch to the label of a
-- number outside the list goes to the next statement; a limit below 0 is 0; and END ends whatever its fields are.
abbrev pub doing : bodies.Body → (name op : List ℕ) → Told → Outcome Act
doing (bodies.unread at) name op told = Gives act.Next (unreadable at ∷ [])
doing (bodies.actr count) name op told = and_then (number count told) (λ n. gives (act.Actr (pos (not_below_0 n))))
doing (bodies.ago (branches.to label)) name op told = gives (act.Branch label)
doing (bodies.ago (branches.among tree first others)) name op told =
    and_then (number tree told) (λ n. gives (option_map_or act.Branch (label_of n (first ∷ others)) act.Next))
doing (bodies.aif pairs) name op told = by_first_true pairs told
doing (bodies.declares list) name op told = gives (act.Declare list)
doing (bodies.assigns kind setting) name op told = put kind setting.target setting.value told
doing (bodies.copies member) name op told = gives (act.Copy member)
doing (bodies.copies_varying parts) name op told = and_then (substituted parts told) (λ text. copied (bodies.member (field_of text)))
doing (bodies.mnote message) name op told =
    and_then (weight_of message.severity told) (λ weight. and_then (text message.text told) (λ words. Gives act.Next (author weight words ∷ [])))
doing (bodies.generates fields) name op told = and_then (line_of op fields told) (λ line. gives (act.Generate line))
doing (bodies.generates_unread at open_end) name op told = Gives act.Next (open_quote open_end ++ unreadable at ∷ [])
doing (bodies.ends fields) name op told = and_then (line_of op fields told) (λ line. gives (act.End (Some line)))
doing (bodies.ends_unread at open_end) name op told = Gives (act.End None) (open_quote open_end ++ unreadable at ∷ [])
doing bodies.defines name op told = gives act.Define
doing bodies.leaves name op told = gives (act.Leave name)
doing bodies.nothing name op told = gives act.Next
doing bodies.leaves_out name op told = Gives act.Next (left_out (chars name) ∷ [])
doing bodies.calls name op told = gives (act.Call name)

-- what is said of the operand field as it is read, before anything is done; what is generated is judged as it is generated
abbrev pub said_first : Task → (open_end : Bool) → List Note
said_first does open_end = if tasks.is_generated does then [] else open_quote open_end

-- An operation with a name. Where a macro definition may replace what it does, one is asked for first, and called if there is
-- one.
abbrev pub named : (name op : List ℕ) (does : Task) (lasting open_end : Bool) → bodies.Body → Told → Outcome Act
named name op does lasting open_end body told =
    let done = noting (said_first does open_end) (doing body name op told) in
    if lasting then done else and_then (defined name told) (λ is. if is then Gives (act.Call name) (open_quote open_end) else done)

-- an operation that is no name: there is none, or nothing defines it
abbrev pub nameless : (op : List ℕ) (open_end : Bool) → Outcome Act
nameless [] open_end = Gives act.Next (open_quote open_end ++ no_operation ∷ [])
nameless (c ∷ op) open_end = Gives act.Next (open_quote open_end ++ undefined (c ∷ op) ∷ [])

-- an operation of this name, whose fields are read only now
abbrev pub named_now : (label op operands : List ℕ) (open_end : Bool) → Told → (name : List ℕ) → Outcome Act
named_now label op operands open_end told name =
    let does = tasks.task name (operation_of name) in
    named name op does (tasks.is_lasting (operation_of name)) open_end (bodies.body does label operands) told

-- What a statement does, by its operation. A comment and a blank statement do nothing; an operation with variable symbols is
-- what it is once they have values.
abbrev pub instructed : readings.Instruction → Told → Outcome Act
instructed readings.idle told = gives act.Next
instructed (readings.unread at) told = Gives act.Next (unreadable at ∷ [])
instructed (readings.nameless op open_end) told = nameless op open_end
instructed (readings.known name op does lasting open_end body) told = named name op does lasting open_end body told
instructed (readings.varying parts label operands open_end) told =
    and_then (substituted parts told) (λ op. option_map_or (named_now label op operands open_end told) (readings.name_of op) (nameless op open_end))

abbrev pub effect_of : readings.Reading → Told → Outcome Act
effect_of reading told = instructed reading.instruction told

-- how an outcome is shown: the act with its notes, those once that say that a symbol has no length attribute; or the
-- key that is asked, and no note
abbrev pub shown : Outcome Act → Effect
shown (Gives done notes) = record { act = done; notes = once notes }
shown (Asks key) = record { act = act.Ask key; notes = [] }
