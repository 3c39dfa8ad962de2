-- Effects of statements go along trees of questions, over each frame.
use Rattle.std.proofs.Common.{◌≡◌, refl, ℕ, ℤ, Bool, List, [], ◌∷◌, ◌++◌, Option, Some, None}
use Rattle.std.specs.Prelude.{pos, chars, Result, Ok, Err, if◌then◌else◌}
use Rattle.std.specs.Option.{option_map_or}
use Rattle.hl_base.specs.declared.note.Note.{Note}
use Rattle.hl_base.specs.declared.note.Severity.TheVariants.{Information}
use Rattle.hl_base.specs.declared.set.Answer.{Answer}
use Rattle.hl_base.specs.declared.set.Key.TheVariants.{Op}
use Rattle.hl_base.specs.declared.set.SetKind.{SetKind}
use Rattle.hl_base.specs.declared.set.SetKind.TheVariants.{A, B, C}
use Rattle.hl_base.specs.declared.set.SetValue.TheVariants as set
use Rattle.hlasm_statements.specs.Fields.{ends_quoted}
use Rattle.instruction_table.specs.Operations.{operation_of}
use Rattle.expression_grammar.specs.Trees.{Tree, Number, Here, Ordinary, Variable, Signed, Pair, Paren, Not, Compared, Quoted, Duplicated, Substring, SubstringToEnd, Joined}
use Rattle.cond_expr.specs.Outcome.{Outcome, Gives, Asks, gives, noting, and_then}
use Rattle.cond_expr.specs.Characters.{not_below_0}
use Rattle.cond_expr.specs.Values as values
use Rattle.cond_expr.specs.Asking.{Answers, IsAsking, done, told, outcome}
use Rattle.cond_expr.specs.Frames.{Frame, told_by}
use Rattle.cond_expr.proofs.AskingParts.{gives-asks, then-asks, answer-asks, test-asks}
use Rattle.cond_expr.proofs.AskingValues.{number-asks, text-asks, numbers-asks, inserted-asks}
use Rattle.conditional_fields.specs.Endings.{field_of}
use Rattle.statement_reading.specs.declared.task.Task.{Task}
use Rattle.statement_reading.specs.Bodies as bodies
use Rattle.statement_reading.specs.Branches as branches
use Rattle.statement_reading.specs.Fields as fields
use Rattle.statement_reading.specs.Readings as readings
use Rattle.statement_reading.specs.Tasks as tasks
use Rattle.statement_reading.specs.Templates as templates
use Rattle.conditional_asm.specs.declared.act.Act.TheVariants as act
use Rattle.conditional_asm.specs.Branching as branching
use Rattle.conditional_asm.specs.Definitions as definitions
use Rattle.conditional_asm.specs.Effects as effects
use Rattle.conditional_asm.specs.Generating as generating
use Rattle.conditional_asm.specs.Messages as messages
use Rattle.conditional_asm.specs.Setting as settings
use Rattle.conditional_asm.specs.Substitution as substitution
use Rattle.conditional_asm.specs.Troubles as troubles

-- notes before those of an evaluation
noting-asks : {V : Type 0} (notes : List Note) (evaluation : Answers → Outcome V) → IsAsking evaluation → IsAsking (λ answers. noting notes (evaluation answers))
noting-asks notes evaluation asks = then-asks (λ answers. Gives notes notes) (λ answers _. evaluation answers) (gives-asks notes notes) (λ _. asks)

-- ---- branches, values, messages

by_first_true-asks : (frame : Frame) (pairs : List branches.Choice) → IsAsking (λ answers. branching.by_first_true pairs (told_by frame answers))
by_first_true-asks frame [] = gives-asks act.Next []
by_first_true-asks frame (pair ∷ pairs) =
    then-asks (λ answers. values.number pair.tree (told_by frame answers))
    (λ answers n. if values.is_true n then gives (act.Branch pair.label) else branching.by_first_true pairs (told_by frame answers)) (number-asks frame pair.tree)
    (λ n. test-asks (values.is_true n) (λ answers. gives (act.Branch pair.label)) (λ answers. branching.by_first_true pairs (told_by frame answers)) (gives-asks (act.Branch pair.label) [])
    (by_first_true-asks frame pairs))

value-asks : (frame : Frame) (kind : SetKind) (tree : Tree) → IsAsking (λ answers. settings.value_as kind tree (told_by frame answers))
value-asks frame A tree = then-asks (λ answers. values.number tree (told_by frame answers)) (λ answers n. gives (set.A n)) (number-asks frame tree) (λ n. gives-asks (set.A n) [])
value-asks frame B tree = then-asks (λ answers. values.number tree (told_by frame answers)) (λ answers n. gives (set.B (values.is_true n))) (number-asks frame tree) (λ n. gives-asks (set.B (values.is_true n)) [])
value-asks frame C tree = then-asks (λ answers. values.text tree (told_by frame answers)) (λ answers characters. gives (set.C characters)) (text-asks frame tree) (λ characters. gives-asks (set.C characters) [])

put-asks : (frame : Frame) (kind : SetKind) (target value : Tree) → IsAsking (λ answers. settings.put kind target value (told_by frame answers))
put-asks frame kind (Variable asked symbol subscripts) value =
    then-asks (λ answers. values.numbers subscripts (told_by frame answers))
    (λ answers at. and_then (settings.value_as kind value (told_by frame answers)) (λ v. gives (act.Set symbol.name (settings.element at) v))) (numbers-asks frame subscripts)
    (λ at. then-asks (λ answers. settings.value_as kind value (told_by frame answers)) (λ answers v. gives (act.Set symbol.name (settings.element at) v)) (value-asks frame kind value)
    (λ v. gives-asks (act.Set symbol.name (settings.element at) v) []))
put-asks frame kind (Number form bits) value = gives-asks act.Next []
put-asks frame kind Here value = gives-asks act.Next []
put-asks frame kind (Ordinary asked symbol) value = gives-asks act.Next []
put-asks frame kind (Signed sign operand) value = gives-asks act.Next []
put-asks frame kind (Pair operator left right) value = gives-asks act.Next []
put-asks frame kind (Paren inner) value = gives-asks act.Next []
put-asks frame kind (Not operand) value = gives-asks act.Next []
put-asks frame kind (Compared comparison left right) value = gives-asks act.Next []
put-asks frame kind (Quoted items) value = gives-asks act.Next []
put-asks frame kind (Duplicated factor whole) value = gives-asks act.Next []
put-asks frame kind (Substring whole start count) value = gives-asks act.Next []
put-asks frame kind (SubstringToEnd whole start) value = gives-asks act.Next []
put-asks frame kind (Joined left right) value = gives-asks act.Next []

weight-asks : (frame : Frame) (severity : Option Tree) → IsAsking (λ answers. messages.weight_of severity (told_by frame answers))
weight-asks frame None = gives-asks Information []
weight-asks frame (Some tree) = then-asks (λ answers. values.number tree (told_by frame answers)) (λ answers n. gives (messages.weight n)) (number-asks frame tree) (λ n. gives-asks (messages.weight n) [])

-- ---- fields with the values of their variable symbols

symbol_text-asks : (frame : Frame) (tree : Tree) → IsAsking (λ answers. substitution.part_text (templates.variable tree) (told_by frame answers))
symbol_text-asks frame (Variable asked symbol subscripts) = inserted-asks frame symbol subscripts
symbol_text-asks frame (Number form bits) = gives-asks [] []
symbol_text-asks frame Here = gives-asks [] []
symbol_text-asks frame (Ordinary asked symbol) = gives-asks [] []
symbol_text-asks frame (Signed sign operand) = gives-asks [] []
symbol_text-asks frame (Pair operator left right) = gives-asks [] []
symbol_text-asks frame (Paren inner) = gives-asks [] []
symbol_text-asks frame (Not operand) = gives-asks [] []
symbol_text-asks frame (Compared comparison left right) = gives-asks [] []
symbol_text-asks frame (Quoted items) = gives-asks [] []
symbol_text-asks frame (Duplicated factor whole) = gives-asks [] []
symbol_text-asks frame (Substring whole start count) = gives-asks [] []
symbol_text-asks frame (SubstringToEnd whole start) = gives-asks [] []
symbol_text-asks frame (Joined left right) = gives-asks [] []

part-asks : (frame : Frame) (one : templates.Part) → IsAsking (λ answers. substitution.part_text one (told_by frame answers))
part-asks frame (templates.plain characters) = gives-asks characters []
part-asks frame (templates.variable tree) = symbol_text-asks frame tree

pub substituted-asks : (frame : Frame) (parts : List templates.Part) → IsAsking (λ answers. substitution.substituted parts (told_by frame answers))
substituted-asks frame [] = gives-asks [] []
substituted-asks frame (one ∷ parts) =
    then-asks (λ answers. substitution.part_text one (told_by frame answers)) (λ answers text. and_then (substitution.substituted parts (told_by frame answers)) (λ rest. gives (text ++ rest))) (part-asks frame one)
    (λ text. then-asks (λ answers. substitution.substituted parts (told_by frame answers)) (λ answers rest. gives (text ++ rest)) (substituted-asks frame parts) (λ rest. gives-asks (text ++ rest) []))

-- ---- generated statements

entry-asks : (frame : Frame) (entry : fields.Entry) → IsAsking (λ answers. generating.entry_text entry (told_by frame answers))
entry-asks frame (fields.written text) = gives-asks text []
entry-asks frame (fields.varying parts) = substituted-asks frame parts

operand-asks : (frame : Frame) (entry : fields.Entry) → IsAsking (λ answers. generating.operand_text entry (told_by frame answers))
operand-asks frame (fields.written text) = gives-asks text []
operand-asks frame (fields.varying parts) =
    then-asks (λ answers. substitution.substituted parts (told_by frame answers)) (λ answers text. Gives (field_of text) (generating.open_quote (ends_quoted (field_of text)))) (substituted-asks frame parts)
    (λ text. gives-asks (field_of text) (generating.open_quote (ends_quoted (field_of text))))

line-asks : (frame : Frame) (op : List ℕ) (f : fields.Fields) → IsAsking (λ answers. generating.line_of op f (told_by frame answers))
line-asks frame op f =
    noting-asks (generating.open_quote f.open_end)
    (λ answers. and_then (generating.entry_text f.label (told_by frame answers)) (λ label. and_then (generating.operand_text f.operands (told_by frame answers)) (λ operands. gives (record { label = label; op = op; operands = operands }))))
    (then-asks (λ answers. generating.entry_text f.label (told_by frame answers))
    (λ answers label. and_then (generating.operand_text f.operands (told_by frame answers)) (λ operands. gives (record { label = label; op = op; operands = operands }))) (entry-asks frame f.label)
    (λ label. then-asks (λ answers. generating.operand_text f.operands (told_by frame answers)) (λ answers operands. gives (record { label = label; op = op; operands = operands })) (operand-asks frame f.operands)
    (λ operands. gives-asks (record { label = label; op = op; operands = operands }) [])))

-- ---- what a statement does

copied-asks : (found : Result (List ℕ) ℕ) → IsAsking (λ answers. effects.copied found)
copied-asks (Ok member) = gives-asks (act.Copy member) []
copied-asks (Err at) = gives-asks act.Next (troubles.unreadable at ∷ [])

doing-asks : (frame : Frame) (body : bodies.Body) (name op : List ℕ) → IsAsking (λ answers. effects.doing body name op (told_by frame answers))
doing-asks frame (bodies.unread at) name op = gives-asks act.Next (troubles.unreadable at ∷ [])
doing-asks frame (bodies.actr count) name op =
    then-asks (λ answers. values.number count (told_by frame answers)) (λ answers n. gives (act.Actr (pos (not_below_0 n)))) (number-asks frame count) (λ n. gives-asks (act.Actr (pos (not_below_0 n))) [])
doing-asks frame (bodies.ago (branches.to label)) name op = gives-asks (act.Branch label) []
doing-asks frame (bodies.ago (branches.among tree first others)) name op =
    let next = λ (n : ℤ). option_map_or act.Branch (branching.label_of n (first ∷ others)) act.Next in
    then-asks (λ answers. values.number tree (told_by frame answers)) (λ answers n. gives (next n)) (number-asks frame tree) (λ n. gives-asks (next n) [])
doing-asks frame (bodies.aif pairs) name op = by_first_true-asks frame pairs
doing-asks frame (bodies.declares list) name op = gives-asks (act.Declare list) []
doing-asks frame (bodies.assigns kind setting) name op = put-asks frame kind setting.target setting.value
doing-asks frame (bodies.copies member) name op = gives-asks (act.Copy member) []
doing-asks frame (bodies.copies_varying parts) name op =
    then-asks (λ answers. substitution.substituted parts (told_by frame answers)) (λ answers text. effects.copied (bodies.member (field_of text))) (substituted-asks frame parts)
    (λ text. copied-asks (bodies.member (field_of text)))
doing-asks frame (bodies.mnote message) name op =
    then-asks (λ answers. messages.weight_of message.severity (told_by frame answers))
    (λ answers weight. and_then (values.text message.text (told_by frame answers)) (λ words. Gives act.Next (troubles.author weight words ∷ []))) (weight-asks frame message.severity)
    (λ weight. then-asks (λ answers. values.text message.text (told_by frame answers)) (λ answers words. Gives act.Next (troubles.author weight words ∷ [])) (text-asks frame message.text)
    (λ words. gives-asks act.Next (troubles.author weight words ∷ [])))
doing-asks frame (bodies.generates f) name op =
    then-asks (λ answers. generating.line_of op f (told_by frame answers)) (λ answers line. gives (act.Generate line)) (line-asks frame op f) (λ line. gives-asks (act.Generate line) [])
doing-asks frame (bodies.generates_unread at open_end) name op = gives-asks act.Next (generating.open_quote open_end ++ troubles.unreadable at ∷ [])
doing-asks frame (bodies.ends f) name op =
    then-asks (λ answers. generating.line_of op f (told_by frame answers)) (λ answers line. gives (act.End (Some line))) (line-asks frame op f) (λ line. gives-asks (act.End (Some line)) [])
doing-asks frame (bodies.ends_unread at open_end) name op = gives-asks (act.End None) (generating.open_quote open_end ++ troubles.unreadable at ∷ [])
doing-asks frame bodies.defines name op = gives-asks act.Define []
doing-asks frame bodies.leaves name op = gives-asks (act.Leave name) []
doing-asks frame bodies.nothing name op = gives-asks act.Next []
doing-asks frame bodies.leaves_out name op = gives-asks act.Next (troubles.left_out (chars name) ∷ [])
doing-asks frame bodies.calls name op = gives-asks (act.Call name) []

answered : (op : List ℕ) (answers : Answers) (found : Option Answer) →
    option_map_or (λ answer. gives (definitions.is_definition answer)) found (Asks (Op op))
    ≡ told (Op op) (λ answer. outcome answers (done (record { value = definitions.is_definition answer; notes = [] }))) found
answered op answers None = refl
answered op answers (Some answer) = refl

defined-asks : (frame : Frame) (op : List ℕ) → IsAsking (λ answers. definitions.defined op (told_by frame answers))
defined-asks frame op =
    answer-asks (Op op) (λ answer. done (record { value = definitions.is_definition answer; notes = [] }))
    (λ answers found. option_map_or (λ answer. gives (definitions.is_definition answer)) found (Asks (Op op))) (answered op)

named-asks : (frame : Frame) (name op : List ℕ) (does : Task) (lasting open_end : Bool) (body : bodies.Body) → IsAsking (λ answers. effects.named name op does lasting open_end body (told_by frame answers))
named-asks frame name op does lasting open_end body =
    let run = λ (answers : Answers). noting (effects.said_first does open_end) (effects.doing body name op (told_by frame answers)) in
    let run-asks = noting-asks (effects.said_first does open_end) (λ answers. effects.doing body name op (told_by frame answers)) (doing-asks frame body name op) in
    let call = Gives (act.Call name) (generating.open_quote open_end) in
    test-asks lasting run (λ answers. and_then (definitions.defined name (told_by frame answers)) (λ is. if is then call else run answers)) run-asks
    (then-asks (λ answers. definitions.defined name (told_by frame answers)) (λ answers is. if is then call else run answers) (defined-asks frame name)
    (λ is. test-asks is (λ answers. call) run (gives-asks (act.Call name) (generating.open_quote open_end)) run-asks))

nameless-asks : (op : List ℕ) (open_end : Bool) → IsAsking (λ answers. effects.nameless op open_end)
nameless-asks [] open_end = gives-asks act.Next (generating.open_quote open_end ++ troubles.no_operation ∷ [])
nameless-asks (c ∷ op) open_end = gives-asks act.Next (generating.open_quote open_end ++ troubles.undefined (c ∷ op) ∷ [])

named_now-asks : (frame : Frame) (label op operands : List ℕ) (open_end : Bool) (found : Option (List ℕ)) →
    IsAsking (λ answers. option_map_or (effects.named_now label op operands open_end (told_by frame answers)) found (effects.nameless op open_end))
named_now-asks frame label op operands open_end None = nameless-asks op open_end
named_now-asks frame label op operands open_end (Some name) =
    named-asks frame name op (tasks.task name (operation_of name)) (tasks.is_lasting (operation_of name)) open_end (bodies.body (tasks.task name (operation_of name)) label operands)

instructed-asks : (frame : Frame) (instruction : readings.Instruction) → IsAsking (λ answers. effects.instructed instruction (told_by frame answers))
instructed-asks frame readings.idle = gives-asks act.Next []
instructed-asks frame (readings.unread at) = gives-asks act.Next (troubles.unreadable at ∷ [])
instructed-asks frame (readings.nameless op open_end) = nameless-asks op open_end
instructed-asks frame (readings.known name op does lasting open_end body) = named-asks frame name op does lasting open_end body
instructed-asks frame (readings.varying parts label operands open_end) =
    then-asks (λ answers. substitution.substituted parts (told_by frame answers))
    (λ answers op. option_map_or (effects.named_now label op operands open_end (told_by frame answers)) (readings.name_of op) (effects.nameless op open_end)) (substituted-asks frame parts)
    (λ op. named_now-asks frame label op operands open_end (readings.name_of op))

pub effect-asks : (frame : Frame) (reading : readings.Reading) → IsAsking (λ answers. effects.effect_of reading (told_by frame answers))
effect-asks frame reading = instructed-asks frame reading.instruction
