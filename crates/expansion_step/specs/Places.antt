-- The place of the model at which a call stands. This project.
use Rattle.std.specs.Prelude.{Bool, true, false, List, [], ◌∷◌, map, reverse, drop, length, Option, Some, None}
use Rattle.kept_values.specs.Trees.{Tree, Pair}
use Rattle.plain_expansion.specs.Language.{Language, Stack as StackOf}
use Rattle.plain_expansion.specs.Expansion.{statement_at}
use Rattle.plain_expansion.specs.Engine as engine
use Rattle.plain_expansion.specs.Engine.{Tail, Putting, Adding, Entering, GoingOn, Leaving, Finishing}
use Rattle.plain_expansion.specs.Engine.{Step, Performing, Telling, Ready, Doing, Placing, Deciding, Place}
use Rattle.plain_expansion.specs.Engine.{Standing, Hearing, Waiting, puts_then, opened, heard, next_place, levels_of}
use Rattle.expansion_step.specs.declared.phase.Onward.{Onward}
use Rattle.expansion_step.specs.declared.phase.Onward.TheVariants as onward
use Rattle.expansion_step.specs.declared.phase.Pending.{Pending}
use Rattle.expansion_step.specs.declared.phase.Phase.{Phase}
use Rattle.expansion_step.specs.declared.phase.Phase.TheVariants as phase
use Rattle.expansion_step.specs.declared.phase.Entrance.{Entrance}
use Rattle.expansion_step.specs.declared.phase.Progress.{Progress}
use Rattle.expansion_step.specs.declared.phase.Progress.TheVariants as progress
use Rattle.expansion_step.specs.declared.phase.Local.{Local}
use Rattle.expansion_step.specs.Meaning.{Means, call_by, pairs_by, stack_by, entry_by}

module _ {L : Language} {T B N D S I C K V : Type 0} (m : Means L T B N D S I C K V) where
  -- the tail that is left
  abbrev pub onward_by : Onward C → StackOf L.words → Tail L.words
  onward_by onward.On x = GoingOn x
  onward_by (onward.Enter c) x = Entering (call_by m c) x
  onward_by onward.Leave x = Leaving x
  onward_by onward.Finish x = Finishing x

  abbrev pub counted_first : Bool → Tail L.words → Tail L.words
  counted_first true rest = Adding rest
  counted_first false rest = rest

  abbrev pub pending_by : Pending C K V → StackOf L.words → Tail L.words
  pending_by t x = counted_first t.counts (puts_then (reverse (pairs_by m t.puts.items)) (onward_by t.onward x))

  -- a call at its entry, with the keys that are left
  abbrev pub hearing : C → List Tree → List Pair → Place L.words L.Item
  hearing c [] pairs = Standing (opened L (call_by m c) [] pairs)
  hearing c (k ∷ keys) pairs = Hearing (call_by m c) k keys pairs

  abbrev pub keys_left : {X : Type 0} → List K → List X → List Tree
  keys_left keys answers = drop (length answers) (map m.key keys)

  -- a call at its entry: where nothing is waited for, and where it may wait
  abbrev pub opened_by : Entrance C K V → Ready L.words L.Item
  opened_by e = opened L (call_by m e.call) (keys_left e.keys.items e.answers.items) (pairs_by m e.answers.items)

  abbrev pub entering : (waits : Bool) → Entrance C K V → Place L.words L.Item
  entering true e = hearing e.call (keys_left e.keys.items e.answers.items) (pairs_by m e.answers.items)
  entering false e = Standing (opened_by e)

  abbrev pub entrance_by : Entrance C K V → Place L.words L.Item
  entrance_by e = entering e.waits e

  -- a statement that is decided: if there is none, the call goes on
  abbrev pub placing : Option L.words.Statement → StackOf L.words → Ready L.words L.Item
  placing None x = Doing (Performing (GoingOn x))
  placing (Some statement) x = Placing x statement

  abbrev pub deciding : Option L.words.Statement → StackOf L.words → List Pair → Ready L.words L.Item
  deciding None x pairs = Doing (Performing (GoingOn x))
  deciding (Some statement) x pairs = Deciding x statement pairs

  abbrev pub waiting : Option L.words.Statement → StackOf L.words → List Pair → Tree → Place L.words L.Item
  waiting None x pairs key = Standing (Doing (Performing (GoingOn x)))
  waiting (Some statement) x pairs key = Waiting x statement pairs key

  abbrev pub phase_by : StackOf L.words → Phase T C K V I → Place L.words L.Item
  phase_by x phase.Ready = Standing (Doing (Performing (GoingOn x)))
  phase_by x phase.Placed = Standing (placing (statement_at L x.here) x)
  phase_by x (phase.Decides answers) = Standing (deciding (statement_at L x.here) x (pairs_by m answers.items))
  phase_by x (phase.Waits answers key) = waiting (statement_at L x.here) x (pairs_by m answers.items) (m.key key)
  phase_by x (phase.Tells item t) = Standing (Doing (Telling (m.reads.item item.value) (pending_by t x)))
  phase_by x (phase.Does t) = Standing (Doing (Performing (pending_by t x)))
  phase_by x (phase.Tried limited item entry) = engine.Tried (m.reads.item limited.value) (m.reads.item item.value) (entry_by m entry) x
  phase_by x phase.Inside = engine.Inside x

  abbrev pub progress_by : Progress T N C K V I → Place L.words L.Item
  progress_by (progress.Entering e) = entrance_by e
  progress_by (progress.Within x p) = phase_by (stack_by m x) p

  abbrev pub place_by : Local T N C K V I → Place L.words L.Item
  place_by l = progress_by l.progress
