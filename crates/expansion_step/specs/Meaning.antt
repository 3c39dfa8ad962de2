-- What the values of code mean in a language. This project.
use Rattle.std.specs.Prelude.{List, map, reverse, Option, Some, None, option_map}
use Rattle.kept_values.specs.Trees.{Tree, Pair}
use Rattle.asking_core.specs.Places.{pairs_of}
use Rattle.asking_core.specs.declared.footprint.Noted.{Noted}
use Rattle.plain_expansion.specs.Questions.{Led, Comes, Wants}
use Rattle.plain_expansion.specs.Language.{Language, Effect, Point}
use Rattle.plain_expansion.specs.Language.{Level as LevelOf, Stack as StackOf, Act as ActOf, Entry as EntryOf, Fault as FaultOf}
use Rattle.plain_expansion.specs.Language.{Nowhere, Calling, Copying, Continues, Skips, Branches, Enters, Returns, Finishes}
use Rattle.plain_expansion.specs.Language.{NoFault, NoLabel, NoBranchLeft, NoRoom}
use Rattle.expansion_step.specs.declared.stack.Level.{Level}
use Rattle.expansion_step.specs.declared.stack.Stack.{Stack}
use Rattle.expansion_step.specs.declared.act.Entry.{Entry}
use Rattle.expansion_step.specs.declared.act.Entry.TheVariants as entry
use Rattle.expansion_step.specs.declared.act.Act.{Act}
use Rattle.expansion_step.specs.declared.act.Act.TheVariants as act
use Rattle.expansion_step.specs.declared.act.Performed.{Performed}
use Rattle.expansion_step.specs.declared.act.Performed.TheVariants as performed
use Rattle.expansion_step.specs.declared.act.Fault.{Fault}
use Rattle.expansion_step.specs.declared.act.Fault.TheVariants as fault

-- what lists, labels, knowledge, what is said, and items mean, and what is known after a change of what was known
pub record Reads (L : Language) (T B N D S I : Type 0) : Type 0 where
  pub listing : T → L.words.Listing
  pub label : B → L.words.Label
  pub known : N → L.words.Known
  pub changed : D → L.words.Known → L.words.Known
  pub said : S → L.words.Said
  pub item : I → L.Item

-- the same, with calls, keys and values; a call is read from its tree
pub record Means (L : Language) (T B N D S I C K V : Type 0) : Type 0 where
  pub reads : Reads L T B N D S I
  pub call_of : Tree → L.words.Call
  pub code : C → Tree
  pub key : K → Tree
  pub value : V → Tree

abbrev pub meaning : {L : Language} {T B N D S I C K V : Type 0} → Reads L T B N D S I → (Tree → L.words.Call) → (C → Tree) → (K → Tree) →
    (V → Tree) → Means L T B N D S I C K V
meaning reads call_of code key value = record { reads = reads; call_of = call_of; code = code; key = key; value = value }

module _ {L : Language} {T B N D S I C K V : Type 0} (m : Means L T B N D S I C K V) where
  abbrev pub call_by : C → L.words.Call
  call_by c = m.call_of (m.code c)

  abbrev pub pairs_by : List (Noted K V) → List Pair
  pairs_by ns = pairs_of m.key m.value ns

  abbrev pub level_by : Level T → LevelOf L.words
  level_by l = record { listing = m.reads.listing l.listing; position = l.position }

  abbrev pub stack_by : Stack T N → StackOf L.words
  stack_by x = record {
    is_open_code = x.is_open_code;
    known = m.reads.known x.known;
    here = level_by x.here;
    below = reverse (map level_by x.below.items);
  }

  abbrev pub entry_by : Entry T C K V → EntryOf L.words
  entry_by entry.Nowhere = Nowhere
  entry_by (entry.Calling c puts) = Calling (call_by c) (pairs_by puts.items)
  entry_by (entry.Copying listing) = Copying (m.reads.listing listing)

  -- an act of code says what changes; what is known after it is a matter of what was known before
  abbrev pub act_by : L.words.Known → Act T B D S C K V → ActOf L.words
  act_by known (act.Continues change puts) = Continues (m.reads.changed change known) (pairs_by puts.items)
  act_by known (act.Skips position change puts) = Skips position (m.reads.changed change known) (pairs_by puts.items)
  act_by known (act.Branches label change) = Branches (m.reads.label label) (option_map (λ d. m.reads.changed d known) change)
  act_by known (act.Enters limited entry) = Enters (m.reads.said limited) (entry_by entry)
  act_by known act.Returns = Returns
  act_by known act.Finishes = Finishes

  abbrev pub effect_by : L.words.Known → S → Act T B D S C K V → Effect L.words
  effect_by known said a = record { said = m.reads.said said; act = act_by known a }

  abbrev pub performed_by : L.words.Known → Performed T B D S C K V → Option (Led Tree (Effect L.words))
  performed_by known performed.Nothing = None
  performed_by known (performed.Wants key) = Some (Wants (m.key key))
  performed_by known (performed.Does said a) = Some (Comes (effect_by known said a))

  abbrev pub point_by : Stack T N → S → FaultOf → Point L.words
  point_by x said fault = record { stack = stack_by x; said = m.reads.said said; fault = fault }

abbrev pub fault_by : Fault → FaultOf
fault_by fault.NoFault = NoFault
fault_by fault.NoLabel = NoLabel
fault_by fault.NoBranchLeft = NoBranchLeft
fault_by fault.NoRoom = NoRoom
