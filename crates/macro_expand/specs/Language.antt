-- The language of open code and macros (HLASM Language Reference SC26-4940, "Conditional assembly language", "Macro language"), as
-- plain expansion sees it.
use Rattle.std.specs.Prelude.{ℕ, ◌≡◌, Bool, true, false, List, [], ◌∷◌, Option, Some}
use Rattle.hl_base.specs.declared.place.Frame.{Frame}
use Rattle.hl_base.specs.declared.set.Answer.{Answer}
use Rattle.hl_base.specs.declared.set.Answer.TheVariants.{Chars}
use Rattle.hl_base.specs.declared.set.Key.TheVariants.{Parm}
use Rattle.kept_values.specs.Trees.{Tree, Pair, look_up}
use Rattle.kept_values.specs.Keys.{key_tree}
use Rattle.cond_expr.specs.Asking.{Noted}
use Rattle.trace_values.specs.declared.item.TraceItem.{TraceItem}
use Rattle.plain_expansion.specs.Questions.{Led, Comes as ComesTo, Wants, and_then, led_by}
use Rattle.plain_expansion.specs.Language.{Language, Effect}
use Rattle.question_trees.specs.Bridge.{answers_in, led_as, over_trees}
use Rattle.conditional_asm.specs.declared.act.Act.{Act}
use Rattle.conditional_asm.specs.Effects as effects
use Rattle.conditional_asm.specs.Repeating.{once}
use Rattle.conditional_asm.proofs.AskingActs.{effect-asks}
use Rattle.call_sites.specs.Calls.{Call, open_code, macro_call}
use Rattle.call_knowledge.specs.Knowledge as knowledge
use Rattle.call_knowledge.specs.Knowledge.{Knowledge}
use Rattle.call_knowledge.specs.Standing.{frame, told_by}
use Rattle.macro_entry.specs.Entries as entries
use Rattle.macro_expand.specs.Passages.{Passage, Placed, is_labelled, passage_of, statements_of}
use Rattle.macro_expand.specs.Acts.{Comes, words, acted}
use Rattle.macro_expand.specs.Items.{item_of, frames_at}

-- what comes of a statement once its act and its notes are known; that a symbol has no length attribute is said once
abbrev pub made : Placed → Knowledge → Noted Act → Comes
made s known noted = acted s known noted.value (once noted.notes)

-- The tree of questions along which the effect of a statement goes, in a call that knows so much: to its act, and then to what
-- comes of that.
abbrev pub effect_tree : Placed → Knowledge → Comes
effect_tree s known = and_then (over_trees (λ noted. noted) (effect-asks (frame known) s.element.reading).tree) (made s known)

-- how far an act that was led to leads
abbrev pub led_on_act : (Tree → Option Tree) → Placed → Knowledge → Led Tree (Noted Act) → Led Tree (Effect words)
led_on_act told s known (Wants key) = Wants key
led_on_act told s known (ComesTo noted) = led_by told (made s known noted)

-- It leads as far as the effect of the statement that was read, under the same answers, and from there as far as the act does.
abbrev pub EffectsAreThoseOfStatements : Type 0
EffectsAreThoseOfStatements = (s : Placed) (known : Knowledge) (told : Tree → Option Tree) →
    led_by told (effect_tree s known)
    ≡ led_on_act told s known (led_as (λ noted. noted) (effects.effect_of s.element.reading (told_by known (answers_in told))))

-- a call of open code is none of a macro
abbrev pub is_open_code : Call → Bool
is_open_code (open_code path text) = true
is_open_code (macro_call content name_entry operands) = false

-- open code asks for SYSPARM before its first statement, and a macro for its system variables
abbrev pub entry_keys : Call → List Tree
entry_keys (open_code path text) = key_tree Parm ∷ []
entry_keys (macro_call content name_entry operands) = entries.entry_keys content

-- the text that is answered for SYSPARM: empty where none is
abbrev pub parm_in : Option Answer → List ℕ
parm_in (Some (Chars text)) = text
parm_in other = []

-- what a call knows before its first statement
abbrev pub bound : Call → List Pair → Knowledge
bound (open_code path text) pairs = knowledge.open_code (parm_in (answers_in (look_up pairs) Parm))
bound (macro_call content name_entry operands) pairs = entries.bound_at_entry content name_entry operands pairs

-- the language
abbrev pub hlasm : Language
hlasm = record {
  words = words;
  Item = TraceItem;
  Frames = List Frame;
  statements_of = statements_of;
  has_label = is_labelled;
  effect_of = effect_tree;
  is_open_code = is_open_code;
  listing_of = passage_of;
  entry_keys = entry_keys;
  bound = bound;
  item_of = item_of;
  frames_of = frames_at;
}
