-- A macro language: what its statements do, and what a processed statement shows. This project, for the conditional
-- assembly of the Language Reference (SC26-4940).
use Rattle.std.specs.Prelude.{ℕ, Bool, List, Option}
use Rattle.kept_values.specs.Trees.{Tree, Pair}
use Rattle.plain_expansion.specs.Questions.{Asking}

-- What the language speaks of: lists of statements, what a call knows (its parameters, its local symbols, how many branches
-- it may still take), what is said of a statement (what it generates, what it sets, its notes), and calls.
pub record Vocabulary : Type 1 where
  pub Statement : Type 0
  pub Listing : Type 0
  pub Label : Type 0
  pub Known : Type 0
  pub Said : Type 0
  pub Call : Type 0

-- where a list of statements is being processed
pub record Level (V : Vocabulary) : Type 0 where
  pub listing : V.Listing
  pub position : ℕ

-- Where a call is: what it knows, the innermost list that it processes, and the lists that copied it, innermost first. The
-- statements of open code are the outermost ones.
pub record Stack (V : Vocabulary) : Type 0 where
  pub is_open_code : Bool
  pub known : V.Known
  pub here : Level V
  pub below : List (Level V)

-- What a statement enters, where there is room for one more frame: nothing after all, a call, which counts and puts values
-- before it runs, or a copied list, which the same call processes.
pub data Entry (V : Vocabulary) : Type 0 where
  Nowhere : Entry V
  Calling : (call : V.Call) (puts : List Pair) → Entry V
  Copying : (listing : V.Listing) → Entry V

-- What a statement does: it goes on with the next one, knowing and putting so much; it goes on so at the statement of a number
-- of its list, passing over those between; it branches to a label, after which so much is known, or for which no branch is
-- left; it wants room for one more frame, for want of which only so much is said; it ends its call; or it ends all.
pub data Act (V : Vocabulary) : Type 0 where
  Continues : (known : V.Known) (puts : List Pair) → Act V
  Skips : (position : ℕ) (known : V.Known) (puts : List Pair) → Act V
  Branches : (label : V.Label) (known : Option V.Known) → Act V
  Enters : (limited : V.Said) (entry : Entry V) → Act V
  Returns : Act V
  Finishes : Act V

-- the whole effect of a statement: what is said of it, and what it does
pub record Effect (V : Vocabulary) : Type 0 where
  pub said : V.Said
  pub act : Act V

-- What went wrong where a statement was to go on: its label is nowhere, no branch was left, or there was no room for one more
-- frame.
pub data Fault : Type 0 where
  NoFault : Fault
  NoLabel : Fault
  NoBranchLeft : Fault
  NoRoom : Fault

-- A point: a processed statement, with where its call was before it, what is said of it, and what went wrong.
pub record Point (V : Vocabulary) : Type 0 where
  pub stack : Stack V
  pub said : V.Said
  pub fault : Fault

-- A language. The effect of a statement in a call that knows so much is a tree of questions to the world.
pub record Language : Type 1 where
  pub words : Vocabulary
  pub Item : Type 0
  pub Frames : Type 0
  pub statements_of : words.Listing → List words.Statement
  pub has_label : words.Statement → words.Label → Bool
  pub effect_of : words.Statement → words.Known → Asking Tree Tree (Effect words)
  -- whether a call is open code, what it processes, which keys it asks at its entry, and what it knows by their answers
  pub is_open_code : words.Call → Bool
  pub listing_of : words.Call → words.Listing
  pub entry_keys : words.Call → List Tree
  pub bound : words.Call → List Pair → words.Known
  -- what is kept of a point, and of the lists at a statement that was not processed, innermost first
  pub item_of : Point words → Item
  pub frames_of : List (Level words) → Frames
