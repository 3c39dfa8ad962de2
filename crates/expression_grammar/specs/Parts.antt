-- How a term is read, character by character (this project). No public contract speaks of it.
use Rattle.std.specs.Prelude.{◌≡◌, ℕ, ◌+◌, ◌*◌, ◌<◌, ◌≤◌, ◌==◌, ◌&&◌, ◌⊎◌, Bool, true, false, List, [], ◌∷◌, ◌++◌, length, Option, Some, None, IsTrue, nat_lt, nat_le, if◌then◌else◌}
use Rattle.std.specs.Char.{digit_value, to_ascii_uppercase}
use Rattle.expression_grammar.specs.declared.character.Grammar.{Grammar}
use Rattle.expression_grammar.specs.declared.character.Kind.{Kind}
use Rattle.expression_grammar.specs.declared.character.Kind.TheVariants as kind
use Rattle.expression_grammar.specs.declared.tree.Form.{Form}
use Rattle.expression_grammar.specs.declared.tree.Form.TheVariants.{Decimal, Hexadecimal, Binary, Character}
use Rattle.expression_grammar.specs.declared.tree.Attribute.{Attribute}
use Rattle.expression_grammar.specs.declared.tree.Attribute.TheVariants as attribute
use Rattle.expression_grammar.specs.declared.tree.Reference.{Reference}
use Rattle.expression_grammar.specs.declared.tree.Reference.TheVariants.{Value, Of}
use Rattle.expression_grammar.specs.declared.tree.Symbol.{Symbol}
use Rattle.expression_grammar.specs.declared.part.Part.{Part}
use Rattle.expression_grammar.specs.declared.part.Part.TheVariants.{Figures, Body, BodyQuote, BodyAmpersand, Asked, Sigil, Word, Property, Named}
use Rattle.expression_grammar.specs.declared.part.Move.{Move}
use Rattle.expression_grammar.specs.declared.part.Move.TheVariants.{To, Done, Begins, Over}
use Rattle.expression_grammar.specs.Characters.{kind_of}
use Rattle.hl_base.specs.Order.{ebcdic}
use Rattle.expression_grammar.specs.Spelling as spelling
use Rattle.expression_grammar.specs.Spelling.{Placed, Piece, base_of, most_of, greatest_of, is_figure, may_vary, asks_of_symbol, is_ordinary}
use Rattle.expression_grammar.specs.Trees as tree
use Rattle.expression_grammar.specs.Trees.{Tree}

-- a symbol of this name at this place
abbrev pub symbol_at : ℕ → List ℕ → Symbol
symbol_at place name = record { name = name; at = place }

-- whether a form has apostrophes
abbrev pub is_quoted : Form → Bool
is_quoted Decimal = false
is_quoted other = true

-- whether a form has digits
abbrev pub has_digits : Form → Bool
has_digits Character = false
has_digits other = true

-- whether a number has room for one digit more
abbrev pub has_room : Form → ℕ → ℕ → ℕ → Bool
has_room form count number digit = nat_lt count (most_of form) && nat_le (number * base_of form + digit) (greatest_of form)

-- the apostrophe behind digits
abbrev pub close_figures : Kind → Form → ℕ → ℕ → Move
close_figures kind.Quote form count number = if is_quoted form && nat_lt 0 count then Done form number else Over (Figures form count number)
close_figures _ form count number = Over (Figures form count number)

abbrev pub after_figures : Form → ℕ → ℕ → ℕ → Move
after_figures form count number c =
    if is_figure form c && has_room form count number (digit_value c)
    then To (Figures form (count + 1) (number * base_of form + digit_value c))
    else close_figures (kind_of c) form count number

-- one character more of a character term
abbrev pub grow : ℕ → ℕ → ℕ → Part → Move
grow count number c part =
    if has_room Character count number (ebcdic c) then To (Body (count + 1) (number * 256 + ebcdic c)) else Over part

abbrev pub after_body : Kind → ℕ → ℕ → ℕ → Move
after_body kind.Quote count number c = To (BodyQuote count number)
after_body kind.Ampersand count number c = if has_room Character count number (ebcdic c) then To (BodyAmpersand count number) else Over (Body count number)
after_body _ count number c = grow count number c (Body count number)

abbrev pub after_quote : Kind → ℕ → ℕ → ℕ → Move
after_quote kind.Quote count number c = grow count number c (BodyQuote count number)
after_quote _ count number c = Over (BodyQuote count number)

abbrev pub after_ampersand : Kind → ℕ → ℕ → ℕ → Move
after_ampersand kind.Ampersand count number c = grow count number c (BodyAmpersand count number)
after_ampersand _ count number c = Over (BodyAmpersand count number)

abbrev pub after_asked : Grammar → Kind → Attribute → Placed → Move
after_asked g kind.Ampersand asked p = if may_vary g (Of asked) then To (Sigil (Of asked) p.at) else Over (Asked asked)
after_asked g kind.Letter asked p = if asks_of_symbol g asked then To (Property asked p.at (to_ascii_uppercase p.code ∷ [])) else Over (Asked asked)
after_asked g _ asked p = Over (Asked asked)

abbrev pub after_sigil : Kind → Reference → ℕ → ℕ → Move
after_sigil kind.Letter asked place c = To (Named asked place (to_ascii_uppercase c ∷ []))
after_sigil _ asked place c = Over (Sigil asked place)

-- the only letter of a name that has one
abbrev pub single : List ℕ → Option ℕ
single [] = None
single (u ∷ []) = Some u
single (u ∷ v ∷ name) = None

-- what the letter before an apostrophe begins
abbrev pub opening_attribute : Grammar → ℕ → Option Part
opening_attribute g u =
    if is_ordinary g then None
    else (if u == 75 then Some (Asked attribute.Count)
    else (if u == 78 then Some (Asked attribute.Number)
    else (if u == 68 then Some (Asked attribute.Defined)
    else None)))

unfoldable pub opening : Grammar → ℕ → Option Part
opening g u =
    if u == 88 then Some (Figures Hexadecimal 0 0)
    else (if u == 66 then Some (Figures Binary 0 0)
    else (if u == 67 then Some (Body 0 0)
    else (if u == 76 then Some (Asked attribute.Length)
    else opening_attribute g u)))

abbrev pub opened : Option Part → Part → Move
opened None part = Over part
opened (Some begun) part = To begun

abbrev pub open_name : Grammar → Option ℕ → Part → Move
open_name g None part = Over part
open_name g (Some u) part = opened (opening g u) part

-- one letter or digit more of a name
abbrev pub lengthen : (List ℕ → Part) → List ℕ → ℕ → Move
lengthen make name c = if nat_lt (length name) 63 then To (make (name ++ to_ascii_uppercase c ∷ [])) else Over (make name)

abbrev pub after_word : Grammar → Kind → ℕ → List ℕ → ℕ → Move
after_word g kind.Letter place name c = if is_ordinary g then lengthen (Word place) name c else Over (Word place name)
after_word g kind.Digit place name c = if is_ordinary g then lengthen (Word place) name c else Over (Word place name)
after_word g kind.Quote place name c = open_name g (single name) (Word place name)
after_word g _ place name c = Over (Word place name)

abbrev pub after_property : Kind → Attribute → ℕ → List ℕ → ℕ → Move
after_property kind.Letter asked place name c = lengthen (Property asked place) name c
after_property kind.Digit asked place name c = lengthen (Property asked place) name c
after_property _ asked place name c = Over (Property asked place name)

abbrev pub after_named : Kind → Reference → ℕ → List ℕ → ℕ → Move
after_named kind.Letter asked place name c = lengthen (Named asked place) name c
after_named kind.Digit asked place name c = lengthen (Named asked place) name c
after_named kind.Open asked place name c = Begins asked (symbol_at place name)
after_named _ asked place name c = Over (Named asked place name)

-- what a character does to a term
unfoldable pub after : Grammar → Part → Placed → Move
after g (Figures form count number) p = after_figures form count number p.code
after g (Body count number) p = after_body (kind_of p.code) count number p.code
after g (BodyQuote count number) p = after_quote (kind_of p.code) count number p.code
after g (BodyAmpersand count number) p = after_ampersand (kind_of p.code) count number p.code
after g (Asked asked) p = after_asked g (kind_of p.code) asked p
after g (Sigil asked place) p = after_sigil (kind_of p.code) asked place p.code
after g (Word place name) p = after_word g (kind_of p.code) place name p.code
after g (Property asked place name) p = after_property (kind_of p.code) asked place name p.code
after g (Named asked place name) p = after_named (kind_of p.code) asked place name p.code

-- the term, where all of it is there
unfoldable pub finish : Grammar → Part → Option Tree
finish g (Figures Decimal count number) = Some (tree.Number Decimal number)
finish g (BodyQuote count number) = if nat_lt 0 count then Some (tree.Number Character number) else None
finish g (Word place name) = if is_ordinary g then Some (tree.Ordinary Value (symbol_at place name)) else None
finish g (Property asked place name) = Some (tree.Ordinary (Of asked) (symbol_at place name))
finish g (Named asked place name) = Some (tree.Variable asked (symbol_at place name) tree.NoTrees)
finish g _ = None

-- the pieces of what is there of a term
abbrev pub figures_spelled : Form → List Piece → List Piece
figures_spelled Decimal pieces = pieces
figures_spelled Hexadecimal pieces = spelling.Capital 88 ∷ spelling.One kind.Quote ∷ pieces
figures_spelled Binary pieces = spelling.Capital 66 ∷ spelling.One kind.Quote ∷ pieces
figures_spelled Character pieces = spelling.Capital 67 ∷ spelling.One kind.Quote ∷ pieces

abbrev pub part_spelled : Part → List Piece
part_spelled (Figures form count number) = figures_spelled form (spelling.Run form count number ∷ [])
part_spelled (Body count number) = figures_spelled Character (spelling.Body count number ∷ [])
part_spelled (BodyQuote count number) = figures_spelled Character (spelling.Body count number ∷ spelling.One kind.Quote ∷ [])
part_spelled (BodyAmpersand count number) = figures_spelled Character (spelling.Body count number ∷ spelling.One kind.Ampersand ∷ [])
part_spelled (Asked asked) = spelling.asked_spelled (Of asked) []
part_spelled (Sigil asked place) = spelling.asked_spelled asked (spelling.Sigil place ∷ [])
part_spelled (Word place name) = spelling.Word place name ∷ []
part_spelled (Property asked place name) = spelling.asked_spelled (Of asked) (spelling.Word place name ∷ [])
part_spelled (Named asked place name) = spelling.variable_spelled asked (symbol_at place name) []

-- what holds of a term that is being read: it can be ended
pub data IsLetterOf (g : Grammar) (name : List ℕ) : Type 0 where
  whole : is_ordinary g ≡ true → IsLetterOf g name
  letter : (u : ℕ) → name ≡ u ∷ [] → (part : Part) → opening g u ≡ Some part → IsLetterOf g name

abbrev pub IsPart : Grammar → Part → Type 0
IsPart g (Figures form count number) = (count ≤ most_of form) × (number ≤ greatest_of form) × IsTrue (has_digits form) × (is_quoted form ≡ false → 0 < count) × (count ≡ 0 → number ≡ 0)
IsPart g (Body count number) = (count ≤ 4) × (number ≤ greatest_of Character) × (count ≡ 0 → number ≡ 0)
IsPart g (BodyQuote count number) = (count ≤ 4) × (number ≤ greatest_of Character) × (count ≡ 0 → number ≡ 0)
IsPart g (BodyAmpersand count number) = has_room Character count number (ebcdic 38) ≡ true
IsPart g (Asked asked) = IsTrue (may_vary g (Of asked)) ⊎ IsTrue (asks_of_symbol g asked)
IsPart g (Sigil asked place) = IsTrue (may_vary g asked)
IsPart g (Word place name) = IsLetterOf g name
IsPart g (Property asked place name) = IsTrue (asks_of_symbol g asked)
IsPart g (Named asked place name) = IsTrue (may_vary g asked)

-- the number with one digit more, where there is room for it
abbrev pub with_digit : Form → ℕ → ℕ → ℕ → Option ℕ
with_digit form count number digit = if has_room form count number digit then Some (number * base_of form + digit) else None
