-- What the values of code mean in the language: lists are seen as they are written, and calls as what they call; all else is seen
-- as what it means. This project.
use Rattle.std.specs.Prelude.{ℕ, List, map, Option}
use Rattle.hl_base.specs.declared.note.Note.{Note}
use Rattle.hl_base.specs.declared.set.Key.{Key}
use Rattle.kept_values.specs.Trees.{Tree, look_up}
use Rattle.kept_values.specs.Keys.{key_tree}
use Rattle.asking_core.specs.declared.footprint.Noted.{Noted}
use Rattle.asking_core.specs.Places.{pairs_of}
use Rattle.plain_expansion.specs.Questions.{Led, Wants, led_by}
use Rattle.plain_expansion.specs.Language.{Effect}
use Rattle.conditional_asm.specs.declared.act.Act.{Act}
use Rattle.conditional_asm.specs.declared.act.Act.TheVariants.{Ask}
use Rattle.statement_listing.specs.Listings.{Element}
use Rattle.expansion_step.specs.declared.stack.Level.{Level}
use Rattle.trace_values.specs.declared.item.TraceItem.{TraceItem}
use Rattle.expansion_step.specs.Meaning.{Reads, Means, meaning}
use Rattle.macro_library.specs.Contents.{written}
use Rattle.call_sites.specs.Calls.{call_of, call_tree}
use Rattle.call_sites.specs.Values.{known_tree}
use Rattle.call_sites.specs.declared.call_site.CallSite.{CallSite}
use Rattle.call_sites.specs.declared.known.Known.{Known}
use Rattle.call_knowledge.specs.Knowledge.{Knowledge}
use Rattle.call_knowledge.specs.declared.change.Change.{Change}
use Rattle.call_knowledge.specs.Changes.{changed}
use Rattle.macro_expand.specs.declared.passage.Passage.{Passage as Held}
use Rattle.macro_expand.specs.declared.said.Said.{Said}
use Rattle.macro_expand.specs.Passages.{Passage, Placed}
use Rattle.macro_expand.specs.Acts.{words, acted}
use Rattle.macro_expand.specs.Language.{hlasm}
use Rattle.std.specs.Global.{Box}

-- a list of statements that is held
abbrev pub passage_by : Held → Passage
passage_by held = record { frames = held.frames; definition = held.definition; list = map written held.listing }

-- the statement at a place that code holds
abbrev pub placed_by : Level Held → Element → Placed
placed_by here element = record { passage = passage_by here.listing; place = here.position; element = element }

-- answers that were noted, as trees
abbrev pub told_by : List (Noted Key Known) → Tree → Option Tree
told_by answers = look_up (pairs_of key_tree known_tree answers)

-- how far an act leads: one that asks is what is wanted
abbrev pub led_to : (Tree → Option Tree) → Placed → Knowledge → Act → List Note → Led Tree (Effect words)
led_to told s known (Ask key) notes = Wants (key_tree key)
led_to told s known other notes = led_by told (acted s known other notes)

abbrev pub reading : Reads hlasm Held (List ℕ) Knowledge Change (Box Said) TraceItem
reading = record {
  listing = passage_by;
  label = λ name. name;
  known = λ known. known;
  changed = changed;
  said = λ said. said.value;
  item = λ item. item;
}

abbrev pub means : Means hlasm Held (List ℕ) Knowledge Change (Box Said) TraceItem CallSite Key Known
means = meaning reading call_of call_tree key_tree known_tree
