-- Which texts a character expression has (HLASM Language Reference SC26-4940, "Character (SETC) expressions", "Substring
-- notation", "Duplication factors", "Type attribute (T')"). Factors, operands of substrings and subscripts are arithmetic
-- expressions.
use Rattle.std.specs.Prelude.{◌≡◌, ℕ, ◌==◌, ◌||◌, ◌&&◌, Bool, true, false, List, [], ◌∷◌, if◌then◌else◌}
use Rattle.hl_base.specs.Symbols.{is_letter, is_symbol_character}
use Rattle.expression_grammar.specs.declared.character.Grammar.TheVariants.{Arithmetic}
use Rattle.expression_grammar.specs.declared.character.Kind.TheVariants.{Mark, Open, Close, Comma, Quote}
use Rattle.expression_grammar.specs.declared.tree.Operator.TheVariants.{Multiply}
use Rattle.expression_grammar.specs.declared.tree.Attribute.TheVariants as attribute
use Rattle.expression_grammar.specs.declared.tree.Reference.TheVariants.{Value, Of}
use Rattle.expression_grammar.specs.Trees.{Tree, Trees, Items, Ordinary, Variable, Quoted, Duplicated, Substring, SubstringToEnd, Joined, NoTrees, More, NoItems, Plain, Inserted}
use Rattle.expression_grammar.specs.Spelling.{Piece, Gap, One, Word, Plainly, Join, Period, IsOf, AreOf, Reads, placed, spell, spell_subscripts, variable_spelled, asked_spelled}

-- Quoted texts.

-- whether an ampersand stands alone at the end of plain characters: two in a row belong together
abbrev pub is_lone : Bool → List ℕ → Bool
is_lone lone [] = lone
is_lone lone (c ∷ cs) = is_lone (if lone then false else c == 38) cs

-- whether a letter stands behind an ampersand that is alone, which would be a variable symbol
abbrev pub has_symbol : Bool → List ℕ → Bool
has_symbol lone [] = false
has_symbol lone (c ∷ cs) = (lone && is_letter c) || has_symbol (if lone then false else c == 38) cs

-- whether a plain character directly behind a variable symbol would belong to it
abbrev pub belongs : Trees → ℕ → Bool
belongs NoTrees c = (c == 46) || ((c == 40) || is_symbol_character c)
belongs (More others last) c = c == 46

abbrev pub belongs_first : Trees → List ℕ → Bool
belongs_first subscripts [] = false
belongs_first subscripts (c ∷ cs) = belongs subscripts c

-- whether a period must stand between items and plain characters
abbrev pub needs_period : Items → List ℕ → Bool
needs_period NoItems characters = false
needs_period (Plain others before) characters = false
needs_period (Inserted others symbol subscripts) characters = belongs_first subscripts characters

-- The pieces of items, before other pieces, and whether a period must stand behind the last of them. The period behind a
-- variable symbol belongs to no item.
abbrev pub spell_items : Items → Bool → List Piece → List Piece
spell_items NoItems must after = after
spell_items (Plain others characters) must after = spell_items others (needs_period others characters) (Plainly characters ∷ after)
spell_items (Inserted others symbol subscripts) must after = spell_items others false (variable_spelled Value symbol (spell_subscripts subscripts (Join must ∷ after)))

abbrev pub ends_plain : Items → Bool
ends_plain NoItems = false
ends_plain (Plain others characters) = true
ends_plain (Inserted others symbol subscripts) = false

abbrev pub ends_lone : Items → Bool
ends_lone NoItems = false
ends_lone (Plain others characters) = is_lone false characters
ends_lone (Inserted others symbol subscripts) = false

abbrev pub is_filled : List ℕ → Bool
is_filled [] = false
is_filled (c ∷ cs) = true

-- Plain characters are in one piece, and none of them could be a variable symbol.
abbrev pub AreItems : Items → Type 0
AreItems NoItems = Unit {0}
AreItems (Plain others characters) = AreItems others × (ends_plain others ≡ false) × (is_filled characters ≡ true) × (has_symbol false characters ≡ false)
AreItems (Inserted others symbol subscripts) = AreItems others × (ends_lone others ≡ false) × AreOf Arithmetic subscripts

-- Trees.

-- the pieces of a tree, before other pieces
abbrev pub spell_text : Tree → List Piece → List Piece
spell_text (Ordinary asked symbol) after = asked_spelled asked (Word symbol.at symbol.name ∷ after)
spell_text (Variable asked symbol subscripts) after = variable_spelled asked symbol (spell_subscripts subscripts after)
spell_text (Quoted items) after = One Quote ∷ spell_items items false (One Quote ∷ after)
spell_text (Duplicated factor text) after = One Open ∷ Gap ∷ spell factor (Gap ∷ One Close ∷ spell_text text after)
spell_text (Substring text start count) after =
    spell_text text (One Open ∷ Gap ∷ spell start (Gap ∷ One Comma ∷ Gap ∷ spell count (Gap ∷ One Close ∷ after)))
spell_text (SubstringToEnd text start) after =
    spell_text text (One Open ∷ Gap ∷ spell start (Gap ∷ One Comma ∷ Gap ∷ One (Mark Multiply) ∷ Gap ∷ One Close ∷ after))
spell_text (Joined left right) after = spell_text left (Period ∷ spell_text right after)
spell_text other after = after

abbrev pub IsQuoted : Tree → Type 0
IsQuoted (Quoted items) = AreItems items
IsQuoted other = ⊥

-- a quoted text, or a part of one
abbrev pub IsCut : Tree → Type 0
IsCut (Quoted items) = AreItems items
IsCut (Substring text start count) = IsQuoted text × IsOf Arithmetic start × IsOf Arithmetic count
IsCut (SubstringToEnd text start) = IsQuoted text × IsOf Arithmetic start
IsCut other = ⊥

-- what periods join: the type of a symbol, or a quoted text or a part of one, which may be duplicated
abbrev pub IsUnit : Tree → Type 0
IsUnit (Ordinary (Of attribute.Type) symbol) = Unit {0}
IsUnit (Variable (Of attribute.Type) symbol subscripts) = AreOf Arithmetic subscripts
IsUnit (Quoted items) = AreItems items
IsUnit (Substring text start count) = IsQuoted text × IsOf Arithmetic start × IsOf Arithmetic count
IsUnit (SubstringToEnd text start) = IsQuoted text × IsOf Arithmetic start
IsUnit (Duplicated factor text) = IsOf Arithmetic factor × IsCut text
IsUnit other = ⊥

-- which trees are character expressions: joins go from the left
abbrev pub IsText : Tree → Type 0
IsText (Joined left right) = IsText left × IsUnit right
IsText (Ordinary (Of attribute.Type) symbol) = Unit {0}
IsText (Variable (Of attribute.Type) symbol subscripts) = AreOf Arithmetic subscripts
IsText (Quoted items) = AreItems items
IsText (Substring text start count) = IsQuoted text × IsOf Arithmetic start × IsOf Arithmetic count
IsText (SubstringToEnd text start) = IsQuoted text × IsOf Arithmetic start
IsText (Duplicated factor text) = IsOf Arithmetic factor × IsCut text
IsText other = ⊥

-- a text is a character expression, and this is its tree
pub record SpellsText (text : List ℕ) (tree : Tree) : Type 0 where
  pub fits : IsText tree
  pub reads : Reads Arithmetic (spell_text tree []) (placed 0 text)
