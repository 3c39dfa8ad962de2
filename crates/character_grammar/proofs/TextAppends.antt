-- The pieces of a character expression, before other pieces.
use Rattle.std.proofs.Common.{◌≡◌, Bool, false, List, ◌∷◌, ◌++◌, refl, ap, ◌∙◌}
use Rattle.std.specs.Prelude.{Option, Some, None}
use Rattle.expression_grammar.specs.declared.character.Kind.TheVariants as kind
use Rattle.expression_grammar.specs.declared.tree.Operator.TheVariants.{Multiply}
use Rattle.expression_grammar.specs.declared.tree.Reference.TheVariants.{Value}
use Rattle.expression_grammar.specs.Spelling as spelling
use Rattle.expression_grammar.specs.Spelling.{Piece, Gap, One, Capital, Letters, Plainly, Join, Period, spell, spell_subscripts, begin_subscripts, variable_spelled, asked_spelled}
use Rattle.expression_grammar.specs.Trees.{Tree, Items, Ordinary, Variable, Quoted, Duplicated, Substring, SubstringToEnd, Joined, NoItems, Plain, Inserted}
use Rattle.character_grammar.specs.Texts.{spell_text, spell_items, needs_period}
use Rattle.character_grammar.specs.TextReading.{Opened, Holder, InText, AsType, Frame, Factor, Subscripts, Start, Count}
use Rattle.character_grammar.specs.TextStanding.{ahead, times, open_text, inside, asked_type, held, unjoined, framed}
use Rattle.expression_grammar.proofs.Appends.{asked_spelled-over, variable_spelled-over, spell-over, spell_subscripts-over, begin_subscripts-over}

pub spell_items-over : (items : Items) (must : Bool) (ks js : List Piece) → spell_items items must (ks ++ js) ≡ spell_items items must ks ++ js
spell_items-over NoItems must ks js = refl
spell_items-over (Plain others characters) must ks js = spell_items-over others (needs_period others characters) (Plainly characters ∷ ks) js
spell_items-over (Inserted others symbol subscripts) must ks js =
    ap (λ xs. spell_items others false (variable_spelled Value symbol xs)) (spell_subscripts-over subscripts (Join must ∷ ks) js)
    ∙ spell_items-over others false (variable_spelled Value symbol (spell_subscripts subscripts (Join must ∷ ks))) js

pub spell_text-over : (tree : Tree) (ks js : List Piece) → spell_text tree (ks ++ js) ≡ spell_text tree ks ++ js
spell_text-over (Ordinary asked symbol) ks js = asked_spelled-over asked (spelling.Word symbol.at symbol.name ∷ ks) js
spell_text-over (Variable asked symbol subscripts) ks js =
    ap (variable_spelled asked symbol) (spell_subscripts-over subscripts ks js) ∙ variable_spelled-over asked symbol (spell_subscripts subscripts ks) js
spell_text-over (Quoted items) ks js = ap (λ xs. One kind.Quote ∷ xs) (spell_items-over items false (One kind.Quote ∷ ks) js)
spell_text-over (Duplicated factor text) ks js =
    ap (λ xs. One kind.Open ∷ Gap ∷ spell factor (Gap ∷ One kind.Close ∷ xs)) (spell_text-over text ks js)
    ∙ ap (λ xs. One kind.Open ∷ Gap ∷ xs) (spell-over factor (Gap ∷ One kind.Close ∷ spell_text text ks) js)
spell_text-over (Substring text start count) ks js =
    ap (λ xs. spell_text text (One kind.Open ∷ Gap ∷ spell start (Gap ∷ One kind.Comma ∷ Gap ∷ xs))) (spell-over count (Gap ∷ One kind.Close ∷ ks) js)
    ∙ ap (λ xs. spell_text text (One kind.Open ∷ Gap ∷ xs)) (spell-over start (Gap ∷ One kind.Comma ∷ Gap ∷ spell count (Gap ∷ One kind.Close ∷ ks)) js)
    ∙ spell_text-over text (One kind.Open ∷ Gap ∷ spell start (Gap ∷ One kind.Comma ∷ Gap ∷ spell count (Gap ∷ One kind.Close ∷ ks))) js
spell_text-over (SubstringToEnd text start) ks js =
    ap (λ xs. spell_text text (One kind.Open ∷ Gap ∷ xs)) (spell-over start (Gap ∷ One kind.Comma ∷ Gap ∷ One (kind.Mark Multiply) ∷ Gap ∷ One kind.Close ∷ ks) js)
    ∙ spell_text-over text (One kind.Open ∷ Gap ∷ spell start (Gap ∷ One kind.Comma ∷ Gap ∷ One (kind.Mark Multiply) ∷ Gap ∷ One kind.Close ∷ ks)) js
spell_text-over (Joined left right) ks js =
    ap (λ xs. spell_text left (Period ∷ xs)) (spell_text-over right ks js) ∙ spell_text-over left (Period ∷ spell_text right ks) js
spell_text-over _ ks js = refl

pub ahead-over : (left : Option Tree) (ks js : List Piece) → ahead left (ks ++ js) ≡ ahead left ks ++ js
ahead-over None ks js = refl
ahead-over (Some left) ks js = spell_text-over left (Period ∷ ks) js

pub times-over : (factor : Option Tree) (ks js : List Piece) → times factor (ks ++ js) ≡ times factor ks ++ js
times-over None ks js = refl
times-over (Some factor) ks js = ap (λ xs. One kind.Open ∷ Gap ∷ xs) (spell-over factor (Gap ∷ One kind.Close ∷ ks) js)

pub open_text-over : (opened : Opened) (ks js : List Piece) → open_text opened (ks ++ js) ≡ open_text opened ks ++ js
open_text-over opened ks js = ap (ahead opened.left) (times-over opened.factor (One kind.Quote ∷ ks) js) ∙ ahead-over opened.left (times opened.factor (One kind.Quote ∷ ks)) js

pub inside-over : (opened : Opened) (items : Items) (must : Bool) (ks js : List Piece) → inside opened items must (ks ++ js) ≡ inside opened items must ks ++ js
inside-over opened items must ks js = ap (open_text opened) (spell_items-over items must ks js) ∙ open_text-over opened (spell_items items must ks) js

pub asked_type-over : (left : Option Tree) (ks js : List Piece) → asked_type left (ks ++ js) ≡ asked_type left ks ++ js
asked_type-over left ks js = ahead-over left (Capital 84 ∷ One kind.Quote ∷ ks) js

pub held-over : (holder : Holder) (ks js : List Piece) → held holder (ks ++ js) ≡ held holder ks ++ js
held-over (InText opened items) ks js = inside-over opened items false ks js
held-over (AsType left) ks js = asked_type-over left ks js

pub unjoined-over : (items : Items) (ks js : List Piece) → unjoined items (ks ++ js) ≡ unjoined items ks ++ js
unjoined-over NoItems ks js = refl
unjoined-over (Plain others characters) ks js = refl
unjoined-over (Inserted others symbol subscripts) ks js =
    ap (λ xs. spell_items others false (spelling.Sigil symbol.at ∷ Letters symbol.name ∷ xs)) (spell_subscripts-over subscripts ks js)
    ∙ spell_items-over others false (spelling.Sigil symbol.at ∷ Letters symbol.name ∷ spell_subscripts subscripts ks) js

pub framed-over : (frame : Frame) (ks js : List Piece) → framed frame (ks ++ js) ≡ framed frame ks ++ js
framed-over (Factor left) ks js = ahead-over left (One kind.Open ∷ ks) js
framed-over (Subscripts holder symbol others) ks js =
    ap (λ xs. held holder (spelling.Sigil symbol.at ∷ Letters symbol.name ∷ xs)) (begin_subscripts-over others ks js)
    ∙ held-over holder (spelling.Sigil symbol.at ∷ Letters symbol.name ∷ begin_subscripts others ks) js
framed-over (Start opened items) ks js = inside-over opened items false (One kind.Quote ∷ One kind.Open ∷ ks) js
framed-over (Count opened items start) ks js =
    ap (λ xs. inside opened items false (One kind.Quote ∷ One kind.Open ∷ Gap ∷ xs)) (spell-over start (Gap ∷ One kind.Comma ∷ ks) js)
    ∙ inside-over opened items false (One kind.Quote ∷ One kind.Open ∷ Gap ∷ spell start (Gap ∷ One kind.Comma ∷ ks)) js
