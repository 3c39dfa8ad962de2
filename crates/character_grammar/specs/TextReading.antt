-- How a character expression is read, character by character (this project): where it stands, with an arithmetic
-- expression within it read by the automaton of arithmetic. No public contract speaks of it.
use Rattle.std.specs.Prelude.{◌≡◌, ℕ, ◌+◌, ◌≤◌, ◌==◌, Bool, true, false, List, [], ◌∷◌, ◌++◌, length, Option, Some, None, nat_le, nat_lt, option_map, option_and_then, if◌then◌else◌}
use Rattle.std.specs.Char.{to_ascii_uppercase}
use Rattle.expression_grammar.specs.declared.character.Grammar.TheVariants.{Arithmetic}
use Rattle.expression_grammar.specs.declared.character.Kind.{Kind}
use Rattle.expression_grammar.specs.declared.character.Kind.TheVariants as kind
use Rattle.expression_grammar.specs.declared.tree.Operator.TheVariants.{Multiply}
use Rattle.expression_grammar.specs.declared.tree.Attribute.TheVariants as attribute
use Rattle.expression_grammar.specs.declared.tree.Reference.TheVariants.{Of}
use Rattle.expression_grammar.specs.declared.tree.Symbol.{Symbol}
use Rattle.expression_grammar.specs.Characters.{kind_of}
use Rattle.expression_grammar.specs.Spelling.{Placed, placed}
use Rattle.expression_grammar.specs.Trees.{Tree, Trees, Items, Ordinary, Variable, Quoted, Duplicated, Substring, SubstringToEnd, Joined, NoTrees, More, NoItems, Plain, Inserted, size, size_trees, size_items}
use Rattle.expression_grammar.specs.Parts.{symbol_at}
use Rattle.expression_grammar.specs.Reading as reading
use Rattle.expression_grammar.specs.Reading.{State, Want}

-- what stands before a quoted text: what it is joined to, and its duplication factor
pub record Opened : Type 0 where
  pub left : Option Tree
  pub factor : Option Tree

-- what a variable symbol belongs to: a quoted text, with the items before it, or a T'
pub data Holder : Type 0 where
  InText : (opened : Opened) (items : Items) → Holder
  AsType : (left : Option Tree) → Holder

-- what an arithmetic expression belongs to
pub data Frame : Type 0 where
  Factor : (left : Option Tree) → Frame
  Subscripts : (holder : Holder) (symbol : Symbol) (others : Trees) → Frame
  Start : (opened : Opened) (items : Items) → Frame
  Count : (opened : Opened) (items : Items) (start : Tree) → Frame

-- Where a text stands: a part is wanted, or a quoted text behind its factor; within a quoted text, behind an ampersand
-- in it, at a variable symbol, behind its subscripts, behind an apostrophe; within an arithmetic expression; where the
-- count of a substring or a `*` is wanted, and behind the `*`, blanks there included; behind a `T`, its apostrophe, its `&`, in its symbol; and
-- behind a part that is whole.
pub data TextState : Type 0 where
  WantPart : (left : Option Tree) → TextState
  WantQuote : (left : Option Tree) (factor : Tree) → TextState
  Inside : (opened : Opened) (items : Items) (plain : List ℕ) → TextState
  Lone : (opened : Opened) (items : Items) (plain : List ℕ) (place : ℕ) → TextState
  Naming : (holder : Holder) (place : ℕ) (name : List ℕ) → TextState
  Behind : (opened : Opened) (items : Items) → TextState
  Closed : (opened : Opened) (items : Items) (plain : List ℕ) → TextState
  Within : (frame : Frame) (inner : State) → TextState
  WantCount : (opened : Opened) (items : Items) (start : Tree) → TextState
  Star : (opened : Opened) (items : Items) (start : Tree) → TextState
  Letter : (left : Option Tree) → TextState
  Asked : (left : Option Tree) → TextState
  Sigil : (left : Option Tree) (place : ℕ) → TextState
  Word : (left : Option Tree) (place : ℕ) (name : List ℕ) → TextState
  Done : (tree : Tree) → TextState

-- Trees.

abbrev pub joined : Option Tree → Tree → Tree
joined None tree = tree
joined (Some left) tree = Joined left tree

abbrev pub duplicated : Option Tree → Tree → Tree
duplicated None tree = tree
duplicated (Some factor) tree = Duplicated factor tree

abbrev pub built : Opened → Tree → Tree
built opened tree = joined opened.left (duplicated opened.factor tree)

-- plain characters behind items
abbrev pub with_plain : Items → List ℕ → Items
with_plain items [] = items
with_plain items (c ∷ cs) = Plain items (c ∷ cs)

abbrev pub typed : Option Tree → Symbol → Trees → Tree
typed left symbol subscripts = joined left (Variable (Of attribute.Type) symbol subscripts)

abbrev pub typed_name : Option Tree → ℕ → List ℕ → Tree
typed_name left place name = joined left (Ordinary (Of attribute.Type) (symbol_at place name))

-- Steps.

-- behind a whole part comes a period
abbrev pub after_part : Tree → ℕ → Option TextState
after_part tree c = if c == 46 then Some (WantPart (Some tree)) else None

-- a part begins
abbrev pub begin_part : Option Tree → Kind → ℕ → Option TextState
begin_part left kind.Quote c = Some (Inside (record { left = left; factor = None }) NoItems [])
begin_part left kind.Open c = Some (Within (Factor left) (Want []))
begin_part left kind.Letter c = if to_ascii_uppercase c == 84 then Some (Letter left) else None
begin_part left _ c = None

abbrev pub begin_quoted : Option Tree → Tree → Kind → Option TextState
begin_quoted left factor kind.Quote = Some (Inside (record { left = left; factor = Some factor }) NoItems [])
begin_quoted left factor _ = None

-- a character within a quoted text
abbrev pub go_inside : Opened → Items → List ℕ → Kind → Placed → TextState
go_inside opened items plain kind.Quote p = Closed opened items plain
go_inside opened items plain kind.Ampersand p = Lone opened items plain p.at
go_inside opened items plain _ p = Inside opened items (plain ++ p.code ∷ [])

-- a character behind an ampersand
abbrev pub after_lone : Opened → Items → List ℕ → ℕ → Kind → Placed → TextState
after_lone opened items plain place kind.Letter p = Naming (InText opened (with_plain items plain)) place (to_ascii_uppercase p.code ∷ [])
after_lone opened items plain place kind.Ampersand p = Inside opened items ((plain ++ 38 ∷ []) ++ p.code ∷ [])
after_lone opened items plain place kind.Quote p = Closed opened items (plain ++ 38 ∷ [])
after_lone opened items plain place _ p = Inside opened items ((plain ++ 38 ∷ []) ++ p.code ∷ [])

-- a character behind a variable symbol in a quoted text
abbrev pub after_symbol : Opened → Items → Kind → Placed → TextState
after_symbol opened items k p = if p.code == 46 then Inside opened items [] else go_inside opened items [] k p

-- a character behind the name of a variable symbol
abbrev pub after_name : Holder → Symbol → Kind → Placed → Option TextState
after_name (InText opened items) symbol k p = Some (after_symbol opened (Inserted items symbol NoTrees) k p)
after_name (AsType left) symbol k p = after_part (typed left symbol NoTrees) p.code

abbrev pub lengthen : Holder → ℕ → List ℕ → ℕ → Option TextState
lengthen holder place name c = if nat_lt (length name) 63 then Some (Naming holder place (name ++ to_ascii_uppercase c ∷ [])) else None

abbrev pub go_naming : Holder → ℕ → List ℕ → Kind → Placed → Option TextState
go_naming holder place name kind.Letter p = lengthen holder place name p.code
go_naming holder place name kind.Digit p = lengthen holder place name p.code
go_naming holder place name kind.Open p = Some (Within (Subscripts holder (symbol_at place name) NoTrees) (Want []))
go_naming holder place name k p = after_name holder (symbol_at place name) k p

-- a character behind the apostrophe that may close a quoted text
abbrev pub after_closed : Opened → Items → List ℕ → Kind → ℕ → Option TextState
after_closed opened items plain kind.Quote c = Some (Inside opened items (plain ++ c ∷ []))
after_closed opened items plain kind.Open c = Some (Within (Start opened (with_plain items plain)) (Want []))
after_closed opened items plain _ c = after_part (built opened (Quoted (with_plain items plain))) c

-- the closing parenthesis of subscripts
abbrev pub subscripted : Holder → Symbol → Trees → TextState
subscripted (InText opened items) symbol subscripts = Behind opened (Inserted items symbol subscripts)
subscripted (AsType left) symbol subscripts = Done (typed left symbol subscripts)

-- what follows an arithmetic expression
abbrev pub leave : Frame → Tree → Kind → Option TextState
leave (Factor left) tree kind.Close = Some (WantQuote left tree)
leave (Subscripts holder symbol others) tree kind.Close = Some (subscripted holder symbol (More others tree))
leave (Subscripts holder symbol others) tree kind.Comma = Some (Within (Subscripts holder symbol (More others tree)) (Want []))
leave (Start opened items) tree kind.Comma = Some (WantCount opened items tree)
leave (Count opened items start) tree kind.Close = Some (Done (built opened (Substring (Quoted items) start tree)))
leave frame tree k = None

-- a closing parenthesis or a comma may stand behind an arithmetic expression
abbrev pub is_end : Kind → Bool
is_end kind.Close = true
is_end kind.Comma = true
is_end _ = false

abbrev pub left_by : Frame → Option Tree → Kind → Option TextState
left_by frame None k = None
left_by frame (Some tree) k = leave frame tree k

abbrev pub go_within : Frame → Option State → Option Tree → Kind → Option TextState
go_within frame (Some inner) whole k = Some (Within frame inner)
go_within frame None whole k = left_by frame whole k

abbrev pub is_star : Kind → Bool
is_star (kind.Mark Multiply) = true
is_star _ = false

abbrev pub begin_count : Opened → Items → Tree → Option State → Kind → Option TextState
begin_count opened items start found kind.Blank = Some (WantCount opened items start)
begin_count opened items start found k = if is_star k then Some (Star opened items start) else option_map (Within (Count opened items start)) found

abbrev pub after_star : Opened → Items → Tree → Kind → Option TextState
after_star opened items start kind.Blank = Some (Star opened items start)
after_star opened items start kind.Close = Some (Done (built opened (SubstringToEnd (Quoted items) start)))
after_star opened items start _ = None

-- T', and its symbol
abbrev pub after_letter : Option Tree → Kind → Option TextState
after_letter left kind.Quote = Some (Asked left)
after_letter left _ = None

abbrev pub after_asked : Option Tree → Kind → Placed → Option TextState
after_asked left kind.Ampersand p = Some (Sigil left p.at)
after_asked left kind.Letter p = Some (Word left p.at (to_ascii_uppercase p.code ∷ []))
after_asked left _ p = None

abbrev pub after_sigil : Option Tree → ℕ → Kind → ℕ → Option TextState
after_sigil left place kind.Letter c = Some (Naming (AsType left) place (to_ascii_uppercase c ∷ []))
after_sigil left place _ c = None

abbrev pub lengthen_word : Option Tree → ℕ → List ℕ → ℕ → Option TextState
lengthen_word left place name c = if nat_lt (length name) 63 then Some (Word left place (name ++ to_ascii_uppercase c ∷ [])) else None

abbrev pub go_word : Option Tree → ℕ → List ℕ → Kind → ℕ → Option TextState
go_word left place name kind.Letter c = lengthen_word left place name c
go_word left place name kind.Digit c = lengthen_word left place name c
go_word left place name _ c = after_part (typed_name left place name) c

-- a state with one character more, unless no character expression goes on so
unfoldable pub text_step : TextState → Placed → Option TextState
text_step (WantPart left) p = begin_part left (kind_of p.code) p.code
text_step (WantQuote left factor) p = begin_quoted left factor (kind_of p.code)
text_step (Inside opened items plain) p = Some (go_inside opened items plain (kind_of p.code) p)
text_step (Lone opened items plain place) p = Some (after_lone opened items plain place (kind_of p.code) p)
text_step (Naming holder place name) p = go_naming holder place name (kind_of p.code) p
text_step (Behind opened items) p = Some (after_symbol opened items (kind_of p.code) p)
text_step (Closed opened items plain) p = after_closed opened items plain (kind_of p.code) p.code
text_step (Within frame inner) p = go_within frame (reading.step Arithmetic inner p) (reading.accept Arithmetic inner) (kind_of p.code)
text_step (WantCount opened items start) p = begin_count opened items start (reading.step Arithmetic (Want []) p) (kind_of p.code)
text_step (Star opened items start) p = after_star opened items start (kind_of p.code)
text_step (Letter left) p = after_letter left (kind_of p.code)
text_step (Asked left) p = after_asked left (kind_of p.code) p
text_step (Sigil left place) p = after_sigil left place (kind_of p.code) p.code
text_step (Word left place name) p = go_word left place name (kind_of p.code) p.code
text_step (Done tree) p = after_part tree p.code

-- the tree of a text that ends here
unfoldable pub text_accept : TextState → Option Tree
text_accept (Naming (AsType left) place name) = Some (typed left (symbol_at place name) NoTrees)
text_accept (Closed opened items plain) = Some (built opened (Quoted (with_plain items plain)))
text_accept (Word left place name) = Some (typed_name left place name)
text_accept (Done tree) = Some tree
text_accept _ = None

-- How many terms, operators and pairs of parentheses each expression has at least that begins so.

abbrev pub left_size : Option Tree → ℕ
left_size None = 0
left_size (Some left) = size left + 1

abbrev pub factor_size : Option Tree → ℕ
factor_size None = 0
factor_size (Some factor) = 1 + size factor

-- with the quoted text itself
abbrev pub opened_size : Opened → ℕ
opened_size opened = left_size opened.left + factor_size opened.factor + 1

-- with the variable symbol itself
abbrev pub holder_size : Holder → ℕ
holder_size (InText opened items) = opened_size opened + size_items items + 1
holder_size (AsType left) = left_size left + 1

abbrev pub frame_size : Frame → ℕ
frame_size (Factor left) = left_size left + 2
frame_size (Subscripts holder symbol others) = holder_size holder + 1 + size_trees others
frame_size (Start opened items) = opened_size opened + size_items items + 1
frame_size (Count opened items start) = opened_size opened + size_items items + 1 + size start

abbrev pub text_weight : TextState → ℕ
text_weight (WantPart left) = left_size left + 1
text_weight (WantQuote left factor) = left_size left + size factor + 2
text_weight (Inside opened items plain) = opened_size opened + size_items items
text_weight (Lone opened items plain place) = opened_size opened + size_items items
text_weight (Naming holder place name) = holder_size holder
text_weight (Behind opened items) = opened_size opened + size_items items
text_weight (Closed opened items plain) = opened_size opened + size_items items
text_weight (Within frame inner) = frame_size frame + reading.weight inner
text_weight (WantCount opened items start) = opened_size opened + size_items items + 1 + size start
text_weight (Star opened items start) = opened_size opened + size_items items + 1 + size start
text_weight (Letter left) = left_size left + 1
text_weight (Asked left) = left_size left + 1
text_weight (Sigil left place) = left_size left + 1
text_weight (Word left place name) = left_size left + 1
text_weight (Done tree) = size tree

abbrev pub text_run : TextState → List Placed → Option TextState
text_run state [] = Some state
text_run state (p ∷ ps) = option_and_then (λ next. text_run next ps) (text_step state p)

-- a state with one character more, unless no expression of at most so many terms, operators and parentheses goes on so
abbrev pub text_kept : ℕ → TextState → Option TextState
text_kept limit state = if nat_le (text_weight state) limit then Some state else None

unfoldable pub text_advance : ℕ → TextState → Placed → Option TextState
text_advance limit state p = option_and_then (text_kept limit) (text_step state p)

-- a text leads to a state, within a limit
pub record TextReaches (limit : ℕ) (text : List ℕ) (state : TextState) : Type 0 where
  pub runs : text_run (WantPart None) (placed 0 text) ≡ Some state
  pub small : text_weight state ≤ limit
