-- What a reader of character expressions knows of the text so far (this project). No public contract speaks of it.
use Rattle.std.specs.Prelude.{◌≡◌, ℕ, Bool, true, false, List, [], ◌∷◌, ◌++◌, Option, Some, None}
use Rattle.expression_grammar.specs.declared.character.Grammar.TheVariants.{Arithmetic}
use Rattle.expression_grammar.specs.declared.character.Kind.TheVariants as kind
use Rattle.expression_grammar.specs.declared.tree.Operator.TheVariants.{Multiply}
use Rattle.expression_grammar.specs.Spelling as spelling
use Rattle.expression_grammar.specs.Spelling.{Placed, Piece, Gap, One, Capital, Letters, Plainly, Join, Period, Reads, IsOf, AreOf, spell, spell_subscripts, begin_subscripts}
use Rattle.expression_grammar.specs.Trees.{Tree, Items, More, NoItems, Plain, Inserted}
use Rattle.expression_grammar.specs.Reading as reading
use Rattle.expression_grammar.specs.Reading.{State, Want}
use Rattle.character_grammar.specs.Texts.{spell_text, spell_items, needs_period, is_lone, has_symbol, ends_plain, ends_lone, AreItems, IsText}
use Rattle.character_grammar.specs.TextReading.{Opened, Holder, InText, AsType, Frame, Factor, Subscripts, Start, Count, TextState, WantPart, WantQuote, Inside, Lone, Naming, Behind, Closed, Within, WantCount, Star, Letter, Asked, Sigil, Word, Done}

-- The pieces of what is before a point, before other pieces.

abbrev pub ahead : Option Tree → List Piece → List Piece
ahead None after = after
ahead (Some left) after = spell_text left (Period ∷ after)

abbrev pub times : Option Tree → List Piece → List Piece
times None after = after
times (Some factor) after = One kind.Open ∷ Gap ∷ spell factor (Gap ∷ One kind.Close ∷ after)

abbrev pub open_text : Opened → List Piece → List Piece
open_text opened after = ahead opened.left (times opened.factor (One kind.Quote ∷ after))

abbrev pub inside : Opened → Items → Bool → List Piece → List Piece
inside opened items must after = open_text opened (spell_items items must after)

abbrev pub asked_type : Option Tree → List Piece → List Piece
asked_type left after = ahead left (Capital 84 ∷ One kind.Quote ∷ after)

abbrev pub held : Holder → List Piece → List Piece
held (InText opened items) after = inside opened items false after
held (AsType left) after = asked_type left after

-- items, where it is still open whether a period stands behind the last symbol
abbrev pub unjoined : Items → List Piece → List Piece
unjoined NoItems after = after
unjoined (Plain others characters) after = after
unjoined (Inserted others symbol subscripts) after = spell_items others false (spelling.Sigil symbol.at ∷ Letters symbol.name ∷ spell_subscripts subscripts after)

abbrev pub framed : Frame → List Piece → List Piece
framed (Factor left) after = ahead left (One kind.Open ∷ after)
framed (Subscripts holder symbol others) after = held holder (spelling.Sigil symbol.at ∷ Letters symbol.name ∷ begin_subscripts others after)
framed (Start opened items) after = inside opened items false (One kind.Quote ∷ One kind.Open ∷ after)
framed (Count opened items start) after = inside opened items false (One kind.Quote ∷ One kind.Open ∷ Gap ∷ spell start (Gap ∷ One kind.Comma ∷ after))

-- behind a symbol and its period, or where the plain characters say it
abbrev pub parted : Items → List ℕ → Bool
parted items [] = true
parted items (c ∷ cs) = needs_period items (c ∷ cs)

abbrev pub text_pieces : TextState → List Piece
text_pieces (WantPart left) = ahead left []
text_pieces (WantQuote left factor) = ahead left (times (Some factor) [])
text_pieces (Inside opened items plain) = inside opened items (parted items plain) (Plainly plain ∷ [])
text_pieces (Lone opened items plain place) = inside opened items (needs_period items plain) (Plainly plain ∷ spelling.Sigil place ∷ [])
text_pieces (Naming holder place name) = held holder (spelling.Sigil place ∷ Letters name ∷ [])
text_pieces (Behind opened items) = open_text opened (unjoined items [])
text_pieces (Closed opened items plain) = inside opened items (needs_period items plain) (Plainly plain ∷ One kind.Quote ∷ [])
text_pieces (Within frame inner) = framed frame []
text_pieces (WantCount opened items start) = framed (Count opened items start) (Gap ∷ [])
text_pieces (Star opened items start) = framed (Count opened items start) (Gap ∷ One (kind.Mark Multiply) ∷ Gap ∷ [])
text_pieces (Letter left) = ahead left (Capital 84 ∷ [])
text_pieces (Asked left) = asked_type left []
text_pieces (Sigil left place) = asked_type left (spelling.Sigil place ∷ [])
text_pieces (Word left place name) = asked_type left (spelling.Word place name ∷ [])
text_pieces (Done tree) = spell_text tree []

-- What is whole before a point.

abbrev pub IsLeft : Option Tree → Type 0
IsLeft None = Unit {0}
IsLeft (Some left) = IsText left

abbrev pub IsFactor : Option Tree → Type 0
IsFactor None = Unit {0}
IsFactor (Some factor) = IsOf Arithmetic factor

abbrev pub IsOpened : Opened → Type 0
IsOpened opened = IsLeft opened.left × IsFactor opened.factor

abbrev pub IsHolder : Holder → Type 0
IsHolder (InText opened items) = IsOpened opened × AreItems items × (ends_lone items ≡ false)
IsHolder (AsType left) = IsLeft left

abbrev pub IsFrame : Frame → Type 0
IsFrame (Factor left) = IsLeft left
IsFrame (Subscripts holder symbol others) = IsHolder holder × AreOf Arithmetic others
IsFrame (Start opened items) = IsOpened opened × AreItems items
IsFrame (Count opened items start) = IsOpened opened × AreItems items × IsOf Arithmetic start

-- a symbol with subscripts is last
abbrev pub IsSubscripted : Items → Type 0
IsSubscripted (Inserted others symbol (More before last)) = Unit {0}
IsSubscripted other = ⊥

abbrev pub IsInside : Opened → Items → List ℕ → Type 0
IsInside opened items plain = IsOpened opened × AreItems items × (ends_plain items ≡ false) × (has_symbol false plain ≡ false)

abbrev pub TextStands : TextState → Type 0
TextStands (WantPart left) = IsLeft left
TextStands (WantQuote left factor) = IsLeft left × IsOf Arithmetic factor
TextStands (Inside opened items plain) = IsInside opened items plain × (is_lone false plain ≡ false)
TextStands (Lone opened items plain place) = IsInside opened items plain × (is_lone false plain ≡ false)
TextStands (Naming holder place name) = IsHolder holder
TextStands (Behind opened items) = IsOpened opened × AreItems items × IsSubscripted items
TextStands (Closed opened items plain) = IsInside opened items plain
TextStands (Within frame inner) = IsFrame frame
TextStands (WantCount opened items start) = IsFrame (Count opened items start)
TextStands (Star opened items start) = IsFrame (Count opened items start)
TextStands (Letter left) = IsLeft left
TextStands (Asked left) = IsLeft left
TextStands (Sigil left place) = IsLeft left
TextStands (Word left place name) = IsLeft left
TextStands (Done tree) = IsText tree

-- what is read of an arithmetic expression at the end of a text
abbrev pub Rests : TextState → List Placed → Type 0
Rests (Within frame inner) back = reading.run Arithmetic (Want []) back ≡ Some inner
Rests other back = back ≡ []

-- what a state knows of the text so far
pub record TextHolds (state : TextState) (text : List Placed) : Type 0 where
  pub front : List Placed
  pub back : List Placed
  pub both : text ≡ front ++ back
  pub stands : TextStands state
  pub reads : Reads Arithmetic (text_pieces state) front
  pub rests : Rests state back
