-- What the effect of a statement gives is never a question.
use Rattle.std.proofs.Common.{ℕ, ℤ, Bool, true, false, cond, List, [], ◌∷◌, Option, Some, None, Result, Ok, Err}
use Rattle.std.specs.Option.{option_map_or}
use Rattle.hl_base.specs.declared.note.Note.{Note}
use Rattle.hl_base.specs.declared.set.SetKind.{SetKind}
use Rattle.hl_base.specs.declared.set.SetValue.{SetValue}
use Rattle.expression_grammar.specs.Trees.{Tree, Variable}
use Rattle.instruction_table.specs.Operations.{operation_of}
use Rattle.cond_expr.specs.Told.{Told}
use Rattle.cond_expr.specs.Outcome.{Outcome, Gives, Asks, noting, and_then}
use Rattle.cond_expr.specs.Values.{number, numbers, text, is_true}
use Rattle.statement_reading.specs.Bodies as bodies
use Rattle.statement_reading.specs.Branches as branches
use Rattle.statement_reading.specs.Branches.{Choice}
use Rattle.statement_reading.specs.Readings as readings
use Rattle.statement_reading.specs.Tasks as tasks
use Rattle.statement_reading.specs.declared.task.Task.{Task}
use Rattle.conditional_asm.specs.declared.act.Act.{Act}
use Rattle.conditional_asm.specs.declared.act.Act.TheVariants as act
use Rattle.conditional_asm.specs.Branching.{label_of, by_first_true}
use Rattle.conditional_asm.specs.Definitions.{defined}
use Rattle.conditional_asm.specs.Effects as effects
use Rattle.conditional_asm.specs.Generating.{open_quote, line_of}
use Rattle.conditional_asm.specs.Messages.{weight_of}
use Rattle.conditional_asm.specs.Setting.{put, value_as}
use Rattle.conditional_asm.specs.Substitution.{substituted}

-- an act is no question
abbrev pub IsAct : Act → Type 0
IsAct (act.Ask key) = ⊥
IsAct other = Unit {0}

abbrev pub GivesAct : Outcome Act → Type 0
GivesAct (Gives done notes) = IsAct done
GivesAct (Asks key) = Unit {0}

noting-gives : (notes : List Note) (o : Outcome Act) → GivesAct o → GivesAct (noting notes o)
noting-gives notes (Gives done more) holds = holds
noting-gives notes (Asks key) holds = holds

then-gives : (V : Type 0) (o : Outcome V) (next : V → Outcome Act) → ((v : V) → GivesAct (next v)) → GivesAct (and_then o next)
then-gives V (Gives v notes) next holds = noting-gives notes (next v) (holds v)
then-gives V (Asks key) next holds = tt

if-gives : (b : Bool) (x y : Outcome Act) → GivesAct x → GivesAct y → GivesAct (cond b x y)
if-gives true x y first second = first
if-gives false x y first second = second

chosen-is : (found : Option (List ℕ)) → IsAct (option_map_or act.Branch found act.Next)
chosen-is None = tt
chosen-is (Some label) = tt

by_first_true-gives : (pairs : List Choice) (told : Told) → GivesAct (by_first_true pairs told)
by_first_true-gives [] told = tt
by_first_true-gives (pair ∷ pairs) told =
    then-gives ℤ (number pair.tree told) _ (λ n. if-gives (is_true n) (Gives (act.Branch pair.label) []) (by_first_true pairs told) tt (by_first_true-gives pairs told))

put-gives : (kind : SetKind) (target operand : Tree) (told : Told) → GivesAct (put kind target operand told)
put-gives kind (Variable asked symbol subscripts) operand told =
    then-gives (List ℤ) (numbers subscripts told) _ (λ at. then-gives SetValue (value_as kind operand told) _ (λ v. tt))
put-gives kind other operand told = tt

copied-gives : (found : Result (List ℕ) ℕ) → GivesAct (effects.copied found)
copied-gives (Ok member) = tt
copied-gives (Err at) = tt

doing-gives : (body : bodies.Body) (name op : List ℕ) (told : Told) → GivesAct (effects.doing body name op told)
doing-gives (bodies.unread at) name op told = tt
doing-gives (bodies.actr count) name op told = then-gives ℤ (number count told) _ (λ n. tt)
doing-gives (bodies.ago (branches.to label)) name op told = tt
doing-gives (bodies.ago (branches.among tree first others)) name op told = then-gives ℤ (number tree told) _ (λ n. chosen-is (label_of n (first ∷ others)))
doing-gives (bodies.aif pairs) name op told = by_first_true-gives pairs told
doing-gives (bodies.declares list) name op told = tt
doing-gives (bodies.assigns kind setting) name op told = put-gives kind setting.target setting.value told
doing-gives (bodies.copies member) name op told = tt
doing-gives (bodies.copies_varying parts) name op told = then-gives (List ℕ) (substituted parts told) _ (λ text. copied-gives _)
doing-gives (bodies.mnote message) name op told =
    then-gives _ (weight_of message.severity told) _ (λ weight. then-gives (List ℕ) (text message.text told) _ (λ words. tt))
doing-gives (bodies.generates fields) name op told = then-gives _ (line_of op fields told) _ (λ line. tt)
doing-gives (bodies.generates_unread at open_end) name op told = tt
doing-gives (bodies.ends fields) name op told = then-gives _ (line_of op fields told) _ (λ line. tt)
doing-gives (bodies.ends_unread at open_end) name op told = tt
doing-gives bodies.defines name op told = tt
doing-gives bodies.leaves name op told = tt
doing-gives bodies.nothing name op told = tt
doing-gives bodies.leaves_out name op told = tt
doing-gives bodies.calls name op told = tt

named-gives : (name op : List ℕ) (does : Task) (lasting open_end : Bool) (body : bodies.Body) (told : Told) →
    GivesAct (effects.named name op does lasting open_end body told)
named-gives name op does lasting open_end body told =
    let call = Gives (act.Call name) (open_quote open_end) in
    let run = noting (effects.said_first does open_end) (effects.doing body name op told) in
    let run-gives = noting-gives (effects.said_first does open_end) (effects.doing body name op told) (doing-gives body name op told) in
    if-gives lasting run (and_then (defined name told) (λ is. cond is call run)) run-gives
    (then-gives Bool (defined name told) _ (λ is. if-gives is call run tt run-gives))

nameless-gives : (op : List ℕ) (open_end : Bool) → GivesAct (effects.nameless op open_end)
nameless-gives [] open_end = tt
nameless-gives (c ∷ op) open_end = tt

named_now-gives : (label op operands : List ℕ) (open_end : Bool) (told : Told) (found : Option (List ℕ)) →
    GivesAct (option_map_or (effects.named_now label op operands open_end told) found (effects.nameless op open_end))
named_now-gives label op operands open_end told None = nameless-gives op open_end
named_now-gives label op operands open_end told (Some name) =
    named-gives name op (tasks.task name (operation_of name)) (tasks.is_lasting (operation_of name)) open_end
    (bodies.body (tasks.task name (operation_of name)) label operands) told

instructed-gives : (instruction : readings.Instruction) (told : Told) → GivesAct (effects.instructed instruction told)
instructed-gives readings.idle told = tt
instructed-gives (readings.unread at) told = tt
instructed-gives (readings.nameless op open_end) told = nameless-gives op open_end
instructed-gives (readings.known name op does lasting open_end body) told = named-gives name op does lasting open_end body told
instructed-gives (readings.varying parts label operands open_end) told =
    then-gives (List ℕ) (substituted parts told) _ (λ op. named_now-gives label op operands open_end told (readings.name_of op))

pub effect-gives : (reading : readings.Reading) (told : Told) → GivesAct (effects.effect_of reading told)
effect-gives reading told = instructed-gives reading.instruction told
