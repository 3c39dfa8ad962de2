-- The machine that expands, as a model: a place is what is left to do. What it is told matters where it asked, where it wanted
-- room for a frame, and within a nested call. This project.
use Rattle.std.specs.Prelude.{Bool, true, false, List, [], ◌∷◌, ◌++◌, Option, Some, None}
use Rattle.kept_values.specs.Trees.{Tree, Pair, look_up}
use Rattle.asking_core.specs.Machines.{Told, Nothing, Answered, Returned, TooDeep, Move, Ask, Put, Count, Bump, Emit, Deepen, Rise, Enter, At, Leave, End, MachineModel}
use Rattle.plain_expansion.specs.Questions.{Led, Comes, Wants, led_by}
use Rattle.plain_expansion.specs.Language.{Vocabulary, Level, Stack, Entry, Nowhere, Calling, Copying, Effect, Language}
use Rattle.plain_expansion.specs.Expansion.{stepped, copying, first_stack, statement_at, outermost, carried, Going, GoesOn, GoesBack, GoesOut, GoesIn}

-- what is left of a statement once its point was told
pub data Tail (V : Vocabulary) : Type 0 where
  Putting : (key value : Tree) (rest : Tail V) → Tail V
  Adding : (rest : Tail V) → Tail V
  Entering : (call : V.Call) (stack : Stack V) → Tail V
  GoingOn : (stack : Stack V) → Tail V
  Leaving : (stack : Stack V) → Tail V
  Finishing : (stack : Stack V) → Tail V

-- what is left of a statement whose effect is known: its point is told once, at once or after a frame that was only tried has
-- ended; or a frame is tried, and then one thing is done where there is no room and another where there is
pub data Step (V : Vocabulary) (I : Type 0) : Type 0 where
  Performing : (rest : Tail V) → Step V I
  Telling : (item : I) (rest : Tail V) → Step V I
  Rising : (item : I) (rest : Tail V) → Step V I
  Trying : (limited item : I) (entry : Entry V) (stack : Stack V) → Step V I

-- where nothing is waited for: a key of the entry is to be asked, with the keys behind it and the answers so far; a step is to
-- be done; the world is to be told of a statement; or a statement has these answers so far
pub data Ready (V : Vocabulary) (I : Type 0) : Type 0 where
  Opening : (call : V.Call) (key : Tree) (keys : List Tree) (pairs : List Pair) → Ready V I
  Doing : (step : Step V I) → Ready V I
  Placing : (stack : Stack V) (statement : V.Statement) → Ready V I
  Deciding : (stack : Stack V) (statement : V.Statement) (pairs : List Pair) → Ready V I

pub data Place (V : Vocabulary) (I : Type 0) : Type 0 where
  Standing : (ready : Ready V I) → Place V I
  Hearing : (call : V.Call) (key : Tree) (keys : List Tree) (pairs : List Pair) → Place V I
  Tried : (limited item : I) (entry : Entry V) (stack : Stack V) → Place V I
  Inside : (stack : Stack V) → Place V I
  Waiting : (stack : Stack V) (statement : V.Statement) (pairs : List Pair) (key : Tree) → Place V I

abbrev pub puts_then : {V : Vocabulary} → List Pair → Tail V → Tail V
puts_then [] rest = rest
puts_then (p ∷ ps) rest = Putting p.key p.value (puts_then ps rest)

-- behind a frame that was tried and has room: it ends at once if it was only tried, since that of a call stands in the call
abbrev pub roomy_step : {V : Vocabulary} {I : Type 0} → I → Entry V → Stack V → Step V I
roomy_step item Nowhere x = Rising item (GoingOn (stepped x))
roomy_step item (Calling call puts) x = Rising item (Adding (puts_then puts (Entering call x)))
roomy_step item (Copying listing) x = Telling item (GoingOn (copying listing x))

module _ (L : Language) where
  -- what is left to do where an act comes to this
  abbrev pub step_of : Going L.words → Stack L.words → Step L.words L.Item
  step_of (GoesOn point puts next) x = Telling (L.item_of point) (puts_then puts (GoingOn next))
  step_of (GoesBack point) x = Telling (L.item_of point) (Leaving x)
  step_of (GoesOut point) x = Telling (L.item_of point) (Finishing x)
  step_of (GoesIn point limited entry) x = Trying (L.item_of limited) (L.item_of point) entry x

  abbrev pub step_by : Effect L.words → Stack L.words → Step L.words L.Item
  step_by effect x = step_of (carried L effect.said effect.act x) x

  -- how far the effect of a statement is known by the answers so far
  abbrev pub led_at : Stack L.words → L.words.Statement → List Pair → Led Tree (Effect L.words)
  led_at x statement pairs = led_by (look_up pairs) (L.effect_of statement x.known)

  -- a call with the answers so far
  abbrev pub opened : L.words.Call → List Tree → List Pair → Ready L.words L.Item
  opened call [] pairs = Doing (Performing (GoingOn (first_stack L call pairs)))
  opened call (key ∷ keys) pairs = Opening call key keys pairs

  -- what is asked is asked again until it is answered
  abbrev pub with_answer : Told → Tree → List Pair → List Pair
  with_answer (Answered value) key pairs = pairs ++ record { key = key; value = value } ∷ []
  with_answer Nothing key pairs = pairs
  with_answer Returned key pairs = pairs
  with_answer TooDeep key pairs = pairs

  abbrev pub entry_heard : Told → L.words.Call → Tree → List Tree → List Pair → Ready L.words L.Item
  entry_heard (Answered value) call key keys pairs = opened call keys (pairs ++ record { key = key; value = value } ∷ [])
  entry_heard Nothing call key keys pairs = Opening call key keys pairs
  entry_heard Returned call key keys pairs = Opening call key keys pairs
  entry_heard TooDeep call key keys pairs = Opening call key keys pairs

  abbrev pub tried : Told → (limited item : L.Item) → Entry L.words → Stack L.words → Step L.words L.Item
  tried TooDeep limited item entry x = Telling limited (GoingOn (stepped x))
  tried Nothing limited item entry x = roomy_step item entry x
  tried (Answered value) limited item entry x = roomy_step item entry x
  tried Returned limited item entry x = roomy_step item entry x

  -- what a place is once it is told
  abbrev pub heard : Place L.words L.Item → Told → Ready L.words L.Item
  heard (Standing ready) g = ready
  heard (Hearing call key keys pairs) g = entry_heard g call key keys pairs
  heard (Tried limited item entry x) g = Doing (tried g limited item entry x)
  heard (Inside x) g = Doing (Performing (GoingOn (stepped x)))
  heard (Waiting x statement pairs key) g = Deciding x statement (with_answer g key pairs)

  -- the move
  abbrev pub here_move : Option L.words.Statement → List (Level L.words) → Move L.words.Call L.Item
  here_move (Some statement) ls = Count
  here_move None [] = Leave
  here_move None (m ∷ ls) = Rise

  abbrev pub tail_move : Tail L.words → Move L.words.Call L.Item
  tail_move (Putting key value rest) = Put key value
  tail_move (Adding rest) = Bump
  tail_move (Entering call x) = Enter call
  tail_move (GoingOn x) = here_move (statement_at L x.here) x.below
  tail_move (Leaving x) = Leave
  tail_move (Finishing x) = End

  abbrev pub step_move : Step L.words L.Item → Move L.words.Call L.Item
  step_move (Performing rest) = tail_move rest
  step_move (Telling item rest) = Emit item
  step_move (Rising item rest) = Rise
  step_move (Trying limited item entry x) = Deepen

  abbrev pub led_move : Led Tree (Effect L.words) → Stack L.words → Move L.words.Call L.Item
  led_move (Wants key) x = Ask key
  led_move (Comes effect) x = step_move (step_by effect x)

  abbrev pub move_of : Ready L.words L.Item → Move L.words.Call L.Item
  move_of (Opening call key keys pairs) = Ask key
  move_of (Doing step) = step_move step
  move_of (Placing x statement) = At (outermost x.here x.below)
  move_of (Deciding x statement pairs) = led_move (led_at x statement pairs) x

  -- the next place
  abbrev pub first_ready : Bool → Stack L.words → L.words.Statement → Ready L.words L.Item
  first_ready true x statement = Placing x statement
  first_ready false x statement = Deciding x statement []

  abbrev pub here_next : Option L.words.Statement → List (Level L.words) → Stack L.words → Ready L.words L.Item
  here_next (Some statement) ls x = first_ready x.is_open_code x statement
  here_next None [] x = Doing (Performing (GoingOn x))
  here_next None (m ∷ ls) x = Doing (Performing (GoingOn (record x { here = m; below = ls })))

  abbrev pub tail_next : Tail L.words → Place L.words L.Item
  tail_next (Putting key value rest) = Standing (Doing (Performing rest))
  tail_next (Adding rest) = Standing (Doing (Performing rest))
  tail_next (Entering call x) = Inside x
  tail_next (GoingOn x) = Standing (here_next (statement_at L x.here) x.below x)
  tail_next (Leaving x) = Standing (Doing (Performing (Leaving x)))
  tail_next (Finishing x) = Standing (Doing (Performing (Finishing x)))

  abbrev pub step_next : Step L.words L.Item → Place L.words L.Item
  step_next (Performing rest) = tail_next rest
  step_next (Telling item rest) = Standing (Doing (Performing rest))
  step_next (Rising item rest) = Standing (Doing (Telling item rest))
  step_next (Trying limited item entry x) = Tried limited item entry x

  abbrev pub led_next : Led Tree (Effect L.words) → Stack L.words → L.words.Statement → List Pair → Place L.words L.Item
  led_next (Wants key) x statement pairs = Waiting x statement pairs key
  led_next (Comes effect) x statement pairs = step_next (step_by effect x)

  abbrev pub next_place : Ready L.words L.Item → Place L.words L.Item
  next_place (Opening call key keys pairs) = Hearing call key keys pairs
  next_place (Doing step) = step_next step
  next_place (Placing x statement) = Standing (Deciding x statement [])
  next_place (Deciding x statement pairs) = led_next (led_at x statement pairs) x statement pairs

  -- the lists at a place, innermost first
  abbrev pub stack_levels : Stack L.words → List (Level L.words)
  stack_levels x = x.here ∷ x.below

  abbrev pub tail_levels : Tail L.words → List (Level L.words)
  tail_levels (Putting key value rest) = tail_levels rest
  tail_levels (Adding rest) = tail_levels rest
  tail_levels (Entering call x) = stack_levels x
  tail_levels (GoingOn x) = stack_levels x
  tail_levels (Leaving x) = stack_levels x
  tail_levels (Finishing x) = stack_levels x

  abbrev pub step_levels : Step L.words L.Item → List (Level L.words)
  step_levels (Performing rest) = tail_levels rest
  step_levels (Telling item rest) = tail_levels rest
  step_levels (Rising item rest) = tail_levels rest
  step_levels (Trying limited item entry x) = stack_levels x

  abbrev pub call_levels : L.words.Call → List (Level L.words)
  call_levels call = record { listing = L.listing_of call; position = 0 } ∷ []

  abbrev pub ready_levels : Ready L.words L.Item → List (Level L.words)
  ready_levels (Opening call key keys pairs) = call_levels call
  ready_levels (Doing step) = step_levels step
  ready_levels (Placing x statement) = stack_levels x
  ready_levels (Deciding x statement pairs) = stack_levels x

  abbrev pub levels_of : Place L.words L.Item → List (Level L.words)
  levels_of (Standing ready) = ready_levels ready
  levels_of (Hearing call key keys pairs) = call_levels call
  levels_of (Tried limited item entry x) = stack_levels x
  levels_of (Inside x) = stack_levels x
  levels_of (Waiting x statement pairs key) = stack_levels x

  -- the machine
  abbrev pub expander : MachineModel
  expander = record {
    Call = L.words.Call;
    Item = L.Item;
    Frames = L.Frames;
    Place = Place L.words L.Item;
    start = λ call. Standing (opened call (L.entry_keys call) []);
    move_at = λ p g. move_of (heard p g);
    after = λ p g. next_place (heard p g);
    frames_at = λ p. L.frames_of (levels_of p);
  }
