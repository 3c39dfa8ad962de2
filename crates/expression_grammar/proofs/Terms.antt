-- What each character does to a term: it stays one that can be ended, and its text is as it was read.
use Rattle.std.proofs.Common.{◌≡◌, ℕ, ◌+◌, ◌*◌, ◌<◌, ◌≤◌, Bool, true, false, List, [], ◌∷◌, ◌++◌, length, refl, sym, ap, ◌∙◌, subst, arith, append_assoc, length-append, inl, inr}
use Rattle.std.specs.Prelude.{nat_le, nat_lt, ◌&&◌, ◌==◌, Option, Some, None, IsTrue, map, if◌then◌else◌}
use Rattle.std.specs.List.{list_all}
use Rattle.std.specs.Char.{digit_value, to_ascii_uppercase}
use Rattle.std.proofs.lemmas.Bool.Decides.{nat_tests}
use Rattle.std.proofs.lemmas.List.Folds.{list_all-append}
use Rattle.hl_base.specs.Symbols.{symbol_of, is_symbol_character}
use Rattle.expression_grammar.specs.declared.character.Grammar.{Grammar}
use Rattle.expression_grammar.specs.declared.character.Grammar.TheVariants as grammar
use Rattle.expression_grammar.specs.declared.character.Kind.{Kind}
use Rattle.expression_grammar.specs.declared.character.Kind.TheVariants as kind
use Rattle.expression_grammar.specs.declared.tree.Form.{Form}
use Rattle.expression_grammar.specs.declared.tree.Form.TheVariants.{Decimal, Hexadecimal, Binary, Character}
use Rattle.expression_grammar.specs.declared.tree.Attribute.{Attribute}
use Rattle.expression_grammar.specs.declared.tree.Attribute.TheVariants as attribute
use Rattle.expression_grammar.specs.declared.tree.Reference.{Reference}
use Rattle.expression_grammar.specs.declared.tree.Reference.TheVariants.{Value, Of}
use Rattle.expression_grammar.specs.declared.part.Part.{Part}
use Rattle.expression_grammar.specs.declared.part.Part.TheVariants.{Figures, Body, BodyQuote, BodyAmpersand, Asked, Sigil, Word, Property, Named}
use Rattle.expression_grammar.specs.declared.part.Move.{Move}
use Rattle.expression_grammar.specs.declared.part.Move.TheVariants.{To, Done, Begins, Over}
use Rattle.expression_grammar.specs.Characters.{kind_of, letter_of}
use Rattle.hl_base.specs.Order.{ebcdic}
use Rattle.expression_grammar.specs.Trees as tree
use Rattle.expression_grammar.specs.Trees.{Tree, size}
use Rattle.expression_grammar.specs.Spelling as spelling
use Rattle.expression_grammar.specs.Spelling.{Placed, Piece, One, Capital, Run, Digits, Letters, IsRun, IsDigits, IsBody, IsCharacters, IsWord, IsCapital, IsSigil, Reads, IsPiece, IsOf, codes, figures, bytes_of, doubled, twice, is_figure, base_of, most_of, greatest_of, may_vary, asks_of_symbol, is_ordinary, number_spelled, asked_spelled, variable_spelled, spell, rank}
use Rattle.expression_grammar.specs.Parts.{symbol_at, has_room, after, after_figures, close_figures, grow, after_body, after_quote, after_ampersand, after_asked, after_sigil, single, opening, opening_attribute, opened, open_name, lengthen, after_word, after_property, after_named, finish, figures_spelled, part_spelled, whole, IsPart}
use Rattle.expression_grammar.proofs.CharacterLaws.{kind-letter, kind-quote, kind-ampersand, kind-letter_symbol, kind-digit_symbol}
use Rattle.expression_grammar.proofs.Names.{and-left, and-right, and-both, name-parts, letter-name, name-longer}
use Rattle.expression_grammar.proofs.Pieces.{reads-join, reads-cut, reads-one, piece_of-one, last-turned, last-became, piece-became, reads-kind, codes-append}
use Rattle.expression_grammar.proofs.Appends.{asked_spelled-over}

-- the text of a term with one character more, as the move says
abbrev pub Follows : Grammar → Part → Placed → Move → Type 0
Follows g part p (To next) = IsPart g next × ((b : List Placed) → Reads g (part_spelled part) b → Reads g (part_spelled next) (b ++ p ∷ []))
Follows g part p (Done form number) = (b : List Placed) → Reads g (part_spelled part) b → Reads g (number_spelled form number []) (b ++ p ∷ [])
Follows g part p (Begins asked symbol) = IsTrue (may_vary g asked) × ((b : List Placed) → Reads g (part_spelled part) b → Reads g (variable_spelled asked symbol (One kind.Open ∷ [])) (b ++ p ∷ []))
Follows g part p (Over other) = other ≡ part

-- Digits.

figures-append : (form : Form) (number : ℕ) (cs : List ℕ) (c : ℕ) → figures form number (cs ++ c ∷ []) ≡ figures form number cs * base_of form + digit_value c
figures-append form number [] c = refl
figures-append form number (d ∷ cs) c = figures-append form (number * base_of form + digit_value d) cs c

run-longer : (form : Form) (count number : ℕ) (p : Placed) → is_figure form p.code ≡ true → (a : List Placed) → IsRun form count number a →
    IsRun form (count + 1) (number * base_of form + digit_value p.code) (a ++ p ∷ [])
run-longer form count number p e a i =
    record {
      all = ap (list_all (is_figure form)) (codes-append a (p ∷ [])) ∙ list_all-append (is_figure form) (codes a) (p.code ∷ [])
          ∙ and-both (list_all (is_figure form) (codes a)) (list_all (is_figure form) (p.code ∷ [])) i.all (and-both (is_figure form p.code) true e refl);
      counted = length-append a (p ∷ []) ∙ ap (λ n. n + 1) i.counted;
      valued = ap (figures form 0) (codes-append a (p ∷ [])) ∙ figures-append form 0 (codes a) p.code ∙ ap (λ n. n * base_of form + digit_value p.code) i.valued;
    }

figures_spelled-over : (form : Form) (ks : List Piece) → figures_spelled form ks ≡ figures_spelled form [] ++ ks
figures_spelled-over Decimal ks = refl
figures_spelled-over Hexadecimal ks = refl
figures_spelled-over Binary ks = refl
figures_spelled-over Character ks = refl

figures-turned : (g : Grammar) (form : Form) (k j : Piece) (b ds : List Placed) → ((a : List Placed) → IsPiece g k a → IsPiece g j (a ++ ds)) →
    Reads g (figures_spelled form (k ∷ [])) b → Reads g (figures_spelled form (j ∷ [])) (b ++ ds)
figures-turned g form k j b ds turn r =
    subst (λ ks. Reads g ks (b ++ ds)) (sym (figures_spelled-over form (j ∷ [])))
    (last-turned g (figures_spelled form []) k j b ds turn (subst (λ ks. Reads g ks b) (figures_spelled-over form (k ∷ [])) r))

digits-of_run : (form : Form) (count number : ℕ) → 0 < count → count ≤ most_of form → number ≤ greatest_of form → (a : List Placed) → IsRun form count number a → IsDigits form number a
digits-of_run form count number s f h a i = record { count = count; some = s; few = f; small = h; run = i }

follows-close : (g : Grammar) (form : Form) (count number : ℕ) (p : Placed) → IsPart g (Figures form count number) → (k : Kind) → kind_of p.code ≡ k →
    Follows g (Figures form count number) p (close_figures k form count number)
follows-close g Decimal count number p i kind.Quote e = refl
follows-close g Hexadecimal count number p i kind.Quote e =
    let go : (b : Bool) → nat_lt 0 count ≡ b → Follows g (Figures Hexadecimal count number) p (if b then Done Hexadecimal number else Over (Figures Hexadecimal count number)) =
    elim [
      | true ↦ λ t. λ b r. reads-join g (Capital 88 ∷ One kind.Quote ∷ Digits Hexadecimal number ∷ []) (One kind.Quote ∷ []) b (p ∷ [])
          (last-became g (Capital 88 ∷ One kind.Quote ∷ []) (Run Hexadecimal count number) (Digits Hexadecimal number) b (digits-of_run Hexadecimal count number (grind (arith, nat_tests)) i.0 i.1) r)
          (reads-kind g kind.Quote p e)
      | false ↦ λ t. refl
    ] in
    go (nat_lt 0 count) refl
follows-close g Binary count number p i kind.Quote e =
    let go : (b : Bool) → nat_lt 0 count ≡ b → Follows g (Figures Binary count number) p (if b then Done Binary number else Over (Figures Binary count number)) =
    elim [
      | true ↦ λ t. λ b r. reads-join g (Capital 66 ∷ One kind.Quote ∷ Digits Binary number ∷ []) (One kind.Quote ∷ []) b (p ∷ [])
          (last-became g (Capital 66 ∷ One kind.Quote ∷ []) (Run Binary count number) (Digits Binary number) b (digits-of_run Binary count number (grind (arith, nat_tests)) i.0 i.1) r)
          (reads-kind g kind.Quote p e)
      | false ↦ λ t. refl
    ] in
    go (nat_lt 0 count) refl
follows-close g Character count number p i kind.Quote e = let no : false ≡ true = i.2 in cc
follows-close g form count number p i _ e = refl

follows-figures : (g : Grammar) (form : Form) (count number : ℕ) (p : Placed) → IsPart g (Figures form count number) →
    Follows g (Figures form count number) p (after_figures form count number p.code)
follows-figures g form count number p i =
    let test : Bool = is_figure form p.code && has_room form count number (digit_value p.code) in
    let longer : Part = Figures form (count + 1) (number * base_of form + digit_value p.code) in
    let go : (b : Bool) → test ≡ b → Follows g (Figures form count number) p (if b then To longer else close_figures (kind_of p.code) form count number) =
    elim [
      | true ↦ λ t.
          let figure = and-left (is_figure form p.code) (has_room form count number (digit_value p.code)) t in
          let room = and-right (is_figure form p.code) (has_room form count number (digit_value p.code)) t in
          let few = and-left (nat_lt count (most_of form)) (nat_le (number * base_of form + digit_value p.code) (greatest_of form)) room in
          let small = and-right (nat_lt count (most_of form)) (nat_le (number * base_of form + digit_value p.code) (greatest_of form)) room in (
            (grind (arith, nat_tests), grind (arith, nat_tests), i.2, (λ q. omega arith), (λ q. omega arith)),
            λ b r. figures-turned g form (Run form count number) (Run form (count + 1) (number * base_of form + digit_value p.code)) b (p ∷ []) (run-longer form count number p figure) r,
          )
      | false ↦ λ t. follows-close g form count number p i (kind_of p.code) refl
    ] in
    go test refl

-- Character terms.

bytes_of-append : (number : ℕ) (cs : List ℕ) (c : ℕ) → bytes_of number (cs ++ c ∷ []) ≡ bytes_of number cs * 256 + ebcdic c
bytes_of-append number [] c = refl
bytes_of-append number (d ∷ cs) c = bytes_of-append (number * 256 + ebcdic d) cs c

twice-append : (k : Kind) (c : ℕ) (cs ds : List ℕ) → twice k c (cs ++ ds) ≡ twice k c cs ++ ds
twice-append kind.Quote c cs ds = refl
twice-append kind.Ampersand c cs ds = refl
twice-append _ c cs ds = refl

doubled-append : (cs : List ℕ) (c : ℕ) → doubled (cs ++ c ∷ []) ≡ doubled cs ++ twice (kind_of c) c []
doubled-append [] c = refl
doubled-append (d ∷ cs) c = ap (twice (kind_of d) d) (doubled-append cs c) ∙ twice-append (kind_of d) d (doubled cs) (twice (kind_of c) c [])

body-longer : (count number c : ℕ) (ds : List Placed) → codes ds ≡ twice (kind_of c) c [] → (a : List Placed) → IsBody count number a → IsBody (count + 1) (number * 256 + ebcdic c) (a ++ ds)
body-longer count number c ds e a i =
    record {
      characters = i.characters ++ c ∷ [];
      written = codes-append a ds ∙ ap (λ xs. xs ++ codes ds) i.written ∙ ap (λ xs. doubled i.characters ++ xs) e ∙ sym (doubled-append i.characters c);
      counted = length-append i.characters (c ∷ []) ∙ ap (λ n. n + 1) i.counted;
      valued = bytes_of-append 0 i.characters c ∙ ap (λ n. n * 256 + ebcdic c) i.valued;
    }

room-few : (count number c : ℕ) → has_room Character count number c ≡ true → (count + 1 ≤ 4) × (number * 256 + c ≤ greatest_of Character)
room-few count number c e =
    let few = and-left (nat_lt count 4) (nat_le (number * 256 + c) 4294967295) e in
    let small = and-right (nat_lt count 4) (nat_le (number * 256 + c) 4294967295) e in
    (grind (arith, nat_tests), grind (arith, nat_tests))

-- one character more, with the pieces that it makes
follows-grow : (g : Grammar) (count number : ℕ) (part : Part) (p : Placed) →
    ((b : List Placed) → Reads g (part_spelled part) b → Reads g (part_spelled (Body (count + 1) (number * 256 + ebcdic p.code))) (b ++ p ∷ [])) →
    Follows g part p (grow count number p.code part)
follows-grow g count number part p turn =
    let go : (b : Bool) → has_room Character count number (ebcdic p.code) ≡ b → Follows g part p (if b then To (Body (count + 1) (number * 256 + ebcdic p.code)) else Over part) =
    elim [ true ↦ λ t. (let r = room-few count number (ebcdic p.code) t in (r.0, r.1, (λ q. omega arith)), turn) | false ↦ λ t. refl ] in
    go (has_room Character count number (ebcdic p.code)) refl

-- a plain character
body-plain : (g : Grammar) (count number : ℕ) (p : Placed) → twice (kind_of p.code) p.code [] ≡ p.code ∷ [] → (b : List Placed) →
    Reads g (part_spelled (Body count number)) b → Reads g (part_spelled (Body (count + 1) (number * 256 + ebcdic p.code))) (b ++ p ∷ [])
body-plain g count number p e b r =
    figures-turned g Character (spelling.Body count number) (spelling.Body (count + 1) (number * 256 + ebcdic p.code)) b (p ∷ []) (body-longer count number p.code (p ∷ []) (sym e)) r

-- the second of two
body-second : (g : Grammar) (count number : ℕ) (k : Kind) (p : Placed) → kind_of p.code ≡ k → ((q : Placed) → kind_of q.code ≡ k → q.code ≡ p.code) →
    twice (kind_of p.code) p.code [] ≡ p.code ∷ p.code ∷ [] → (b : List Placed) →
    Reads g (figures_spelled Character (spelling.Body count number ∷ One k ∷ [])) b → Reads g (part_spelled (Body (count + 1) (number * 256 + ebcdic p.code))) (b ++ p ∷ [])
body-second g count number k p e same d b r =
    let c = reads-cut g (figures_spelled Character (spelling.Body count number ∷ [])) (One k ∷ []) b r in
    let one = piece_of-one g (One k) c.back c.second in
    let q : Placed = one.one in
    let pair : codes (q ∷ p ∷ []) ≡ twice (kind_of p.code) p.code [] = ap (λ x. x ∷ p.code ∷ []) (same q one.kind) ∙ sym d in
    let e2 : b ++ p ∷ [] ≡ c.front ++ (q ∷ p ∷ []) = ap (λ xs. xs ++ p ∷ []) (c.both ∙ ap (λ xs. c.front ++ xs) one.only) ∙ append_assoc c.front (q ∷ []) (p ∷ []) in
    subst (Reads g (part_spelled (Body (count + 1) (number * 256 + ebcdic p.code)))) (sym e2)
    (figures-turned g Character (spelling.Body count number) (spelling.Body (count + 1) (number * 256 + ebcdic p.code)) c.front (q ∷ p ∷ []) (body-longer count number p.code (q ∷ p ∷ []) pair) c.first)

follows-body : (g : Grammar) (count number : ℕ) (p : Placed) → IsPart g (Body count number) → (k : Kind) → kind_of p.code ≡ k →
    Follows g (Body count number) p (after_body k count number p.code)
follows-body g count number p i kind.Quote e = (i, λ b r. reads-join g (part_spelled (Body count number)) (One kind.Quote ∷ []) b (p ∷ []) r (reads-kind g kind.Quote p e))
follows-body g count number p i kind.Ampersand e =
    let go : (b : Bool) → has_room Character count number (ebcdic p.code) ≡ b → Follows g (Body count number) p (if b then To (BodyAmpersand count number) else Over (Body count number)) =
    elim [
      | true ↦ λ t. (
        subst (λ c. has_room Character count number (ebcdic c) ≡ true) (kind-ampersand p.code e) t,
        λ b r. reads-join g (part_spelled (Body count number)) (One kind.Ampersand ∷ []) b (p ∷ []) r (reads-kind g kind.Ampersand p e),
      )
      | false ↦ λ t. refl
    ] in
    go (has_room Character count number (ebcdic p.code)) refl
follows-body g count number p i k e = follows-grow g count number (Body count number) p (body-plain g count number p (ap (λ (x : Kind). twice x p.code []) e))

follows-quote : (g : Grammar) (count number : ℕ) (p : Placed) → (k : Kind) → kind_of p.code ≡ k → Follows g (BodyQuote count number) p (after_quote k count number p.code)
follows-quote g count number p kind.Quote e =
    follows-grow g count number (BodyQuote count number) p
    (body-second g count number kind.Quote p e (λ q f. kind-quote q.code f ∙ sym (kind-quote p.code e)) (ap (λ (x : Kind). twice x p.code []) e))
follows-quote g count number p _ e = refl

follows-ampersand : (g : Grammar) (count number : ℕ) (p : Placed) → (k : Kind) → kind_of p.code ≡ k → Follows g (BodyAmpersand count number) p (after_ampersand k count number p.code)
follows-ampersand g count number p kind.Ampersand e =
    follows-grow g count number (BodyAmpersand count number) p
    (body-second g count number kind.Ampersand p e (λ q f. kind-ampersand q.code f ∙ sym (kind-ampersand p.code e)) (ap (λ (x : Kind). twice x p.code []) e))
follows-ampersand g count number p _ e = refl

-- Symbols.

pub word-one : (p : Placed) → kind_of p.code ≡ kind.Letter → IsWord p.at (to_ascii_uppercase p.code ∷ []) (p ∷ [])
word-one p e = record { first = p; others = []; both = refl; here = refl; named = letter-name p.code (kind-letter p.code e) }

pub name-grows : (name : List ℕ) (p : Placed) → length name < 63 → is_symbol_character p.code ≡ true → (a : List Placed) →
    symbol_of (codes a) ≡ Some name → symbol_of (codes (a ++ p ∷ [])) ≡ Some (name ++ to_ascii_uppercase p.code ∷ [])
name-grows name p h s a e = ap symbol_of (codes-append a (p ∷ [])) ∙ name-longer (codes a) name p.code e h s

pub word-longer : (place : ℕ) (name : List ℕ) (p : Placed) → length name < 63 → is_symbol_character p.code ≡ true → (a : List Placed) →
    IsWord place name a → IsWord place (name ++ to_ascii_uppercase p.code ∷ []) (a ++ p ∷ [])
word-longer place name p h s a i =
    record { first = i.first; others = i.others ++ p ∷ []; both = ap (λ xs. xs ++ p ∷ []) i.both; here = i.here; named = name-grows name p h s a i.named }

follows-lengthen : (g : Grammar) (make : List ℕ → Part) (name : List ℕ) (p : Placed) → IsPart g (make (name ++ to_ascii_uppercase p.code ∷ [])) →
    (length name < 63 → (b : List Placed) → Reads g (part_spelled (make name)) b → Reads g (part_spelled (make (name ++ to_ascii_uppercase p.code ∷ []))) (b ++ p ∷ [])) →
    Follows g (make name) p (lengthen make name p.code)
follows-lengthen g make name p i turn =
    let go : (b : Bool) → nat_lt (length name) 63 ≡ b → Follows g (make name) p (if b then To (make (name ++ to_ascii_uppercase p.code ∷ [])) else Over (make name)) =
    elim [ true ↦ λ t. (i, turn (grind (arith, nat_tests))) | false ↦ λ t. refl ] in
    go (nat_lt (length name) 63) refl

follows-asked : (g : Grammar) (asked : Attribute) (p : Placed) → (k : Kind) → kind_of p.code ≡ k → Follows g (Asked asked) p (after_asked g k asked p)
follows-asked g asked p kind.Ampersand e =
    let go : (b : Bool) → may_vary g (Of asked) ≡ b → Follows g (Asked asked) p (if b then To (Sigil (Of asked) p.at) else Over (Asked asked)) =
    elim [
      | true ↦ λ t. (
        t,
        λ b r. reads-join g (part_spelled (Asked asked)) (spelling.Sigil p.at ∷ []) b (p ∷ []) r
            (reads-one g (spelling.Sigil p.at) (p ∷ []) (record { one = p; only = refl; kind = e; here = refl })),
      )
      | false ↦ λ t. refl
    ] in
    go (may_vary g (Of asked)) refl
follows-asked g asked p kind.Letter e =
    let go : (b : Bool) → asks_of_symbol g asked ≡ b → Follows g (Asked asked) p (if b then To (Property asked p.at (to_ascii_uppercase p.code ∷ [])) else Over (Asked asked)) =
    elim [
      | true ↦ λ t. (
        t,
        λ b r. reads-join g (part_spelled (Asked asked)) (spelling.Word p.at (to_ascii_uppercase p.code ∷ []) ∷ []) b (p ∷ []) r
            (reads-one g (spelling.Word p.at (to_ascii_uppercase p.code ∷ [])) (p ∷ []) (word-one p e)),
      )
      | false ↦ λ t. refl
    ] in
    go (asks_of_symbol g asked) refl
follows-asked g asked p _ e = refl

follows-sigil : (g : Grammar) (asked : Reference) (place : ℕ) (p : Placed) → IsPart g (Sigil asked place) → (k : Kind) → kind_of p.code ≡ k →
    Follows g (Sigil asked place) p (after_sigil k asked place p.code)
follows-sigil g asked place p i kind.Letter e = (
  i,
  λ b r. subst (λ ks. Reads g ks (b ++ p ∷ [])) (sym (asked_spelled-over asked (spelling.Sigil place ∷ []) (Letters (to_ascii_uppercase p.code ∷ []) ∷ [])))
      (reads-join g (asked_spelled asked (spelling.Sigil place ∷ [])) (Letters (to_ascii_uppercase p.code ∷ []) ∷ []) b (p ∷ []) r
      (reads-one g (Letters (to_ascii_uppercase p.code ∷ [])) (p ∷ []) (letter-name p.code (kind-letter p.code e)))),
)
follows-sigil g asked place p i _ e = refl

follows-property : (g : Grammar) (asked : Attribute) (place : ℕ) (name : List ℕ) (p : Placed) → IsPart g (Property asked place name) → (k : Kind) → kind_of p.code ≡ k →
    Follows g (Property asked place name) p (after_property k asked place name p.code)
follows-property g asked place name p i kind.Letter e =
    follows-lengthen g (Property asked place) name p i (λ h b r. last-turned g (asked_spelled (Of asked) []) (spelling.Word place name) (spelling.Word place (name ++ to_ascii_uppercase p.code ∷ [])) b (p ∷ [])
    (word-longer place name p h (kind-letter_symbol p.code e)) r)
follows-property g asked place name p i kind.Digit e =
    follows-lengthen g (Property asked place) name p i (λ h b r. last-turned g (asked_spelled (Of asked) []) (spelling.Word place name) (spelling.Word place (name ++ to_ascii_uppercase p.code ∷ [])) b (p ∷ [])
    (word-longer place name p h (kind-digit_symbol p.code e)) r)
follows-property g asked place name p i _ e = refl

named-turned : (g : Grammar) (asked : Reference) (place : ℕ) (name : List ℕ) (p : Placed) → length name < 63 → is_symbol_character p.code ≡ true → (b : List Placed) →
    Reads g (part_spelled (Named asked place name)) b → Reads g (part_spelled (Named asked place (name ++ to_ascii_uppercase p.code ∷ []))) (b ++ p ∷ [])
named-turned g asked place name p h s b r =
    subst (λ ks. Reads g ks (b ++ p ∷ [])) (sym (asked_spelled-over asked (spelling.Sigil place ∷ []) (Letters (name ++ to_ascii_uppercase p.code ∷ []) ∷ [])))
    (last-turned g (asked_spelled asked (spelling.Sigil place ∷ [])) (Letters name) (Letters (name ++ to_ascii_uppercase p.code ∷ [])) b (p ∷ [])
    (name-grows name p h s) (subst (λ ks. Reads g ks b) (asked_spelled-over asked (spelling.Sigil place ∷ []) (Letters name ∷ [])) r))

follows-named : (g : Grammar) (asked : Reference) (place : ℕ) (name : List ℕ) (p : Placed) → IsPart g (Named asked place name) → (k : Kind) → kind_of p.code ≡ k →
    Follows g (Named asked place name) p (after_named k asked place name p.code)
follows-named g asked place name p i kind.Letter e =
    follows-lengthen g (Named asked place) name p i (λ h b r. named-turned g asked place name p h (kind-letter_symbol p.code e) b r)
follows-named g asked place name p i kind.Digit e =
    follows-lengthen g (Named asked place) name p i (λ h b r. named-turned g asked place name p h (kind-digit_symbol p.code e) b r)
follows-named g asked place name p i kind.Open e = (
  i,
  λ b r. subst (λ ks. Reads g ks (b ++ p ∷ [])) (sym (asked_spelled-over asked (spelling.Sigil place ∷ Letters name ∷ []) (One kind.Open ∷ [])))
      (reads-join g (part_spelled (Named asked place name)) (One kind.Open ∷ []) b (p ∷ []) r (reads-kind g kind.Open p e)),
)
follows-named g asked place name p i _ e = refl

-- the letter before an apostrophe
reads-capital : (g : Grammar) (u : ℕ) (q p : Placed) → to_ascii_uppercase q.code ≡ u → kind_of p.code ≡ kind.Quote → Reads g (Capital u ∷ One kind.Quote ∷ []) (q ∷ p ∷ [])
reads-capital g u q p e f = (q ∷ [], p ∷ [], refl, record { one = q; only = refl; upper = e }, reads-kind g kind.Quote p f)

run-none : (form : Form) → IsRun form 0 0 []
run-none form = record { all = refl; counted = refl; valued = refl }

body-none : IsBody 0 0 []
body-none = record { characters = []; written = refl; counted = refl; valued = refl }

-- what an apostrophe begins is no word
abbrev pub is_word : Part → Bool
is_word (Word place name) = true
is_word _ = false

abbrev pub Opens : Grammar → ℕ → Part → Type 0
Opens g u part = IsPart g part × ((q p : Placed) → to_ascii_uppercase q.code ≡ u → kind_of p.code ≡ kind.Quote → Reads g (part_spelled part) (q ∷ p ∷ [])) × (is_word part ≡ false)

abbrev pub AllOpen : Grammar → ℕ → Option Part → Type 0
AllOpen g u None = Unit {0}
AllOpen g u (Some part) = Opens g u part

opens-asked : (g : Grammar) (u : ℕ) (asked : Attribute) → u ≡ letter_of asked → IsPart g (Asked asked) → Opens g u (Asked asked)
opens-asked g u asked e i = (i, (λ q p f h. reads-capital g (letter_of asked) q p (f ∙ e) h), refl)

asked-may : (g : Grammar) (asked : Attribute) → is_ordinary g ≡ false → spelling.asks_of_variable asked ≡ true → IsTrue (may_vary g (Of asked))
asked-may grammar.Arithmetic asked e f = f
asked-may grammar.Ordinary asked e f = cc

test : (u v : ℕ) → (u == v) ≡ true → u ≡ v
test u v e = grind (arith, nat_tests)

opens-attribute : (g : Grammar) (u : ℕ) → AllOpen g u (opening_attribute g u)
opens-attribute g u =
    let three : (b : Bool) → (u == 68) ≡ b → is_ordinary g ≡ false → AllOpen g u (if b then Some (Asked attribute.Defined) else None) =
    elim [ true ↦ λ t o. opens-asked g u attribute.Defined (test u 68 t) (inl (asked-may g attribute.Defined o refl)) | false ↦ λ t o. tt ] in
    let two : (b : Bool) → (u == 78) ≡ b → is_ordinary g ≡ false → AllOpen g u (if b then Some (Asked attribute.Number) else (if u == 68 then Some (Asked attribute.Defined) else None)) =
    elim [ true ↦ λ t o. opens-asked g u attribute.Number (test u 78 t) (inl (asked-may g attribute.Number o refl)) | false ↦ λ t o. three (u == 68) refl o ] in
    let one : (b : Bool) → (u == 75) ≡ b → is_ordinary g ≡ false →
    AllOpen g u (if b then Some (Asked attribute.Count) else (if u == 78 then Some (Asked attribute.Number) else (if u == 68 then Some (Asked attribute.Defined) else None))) =
    elim [ true ↦ λ t o. opens-asked g u attribute.Count (test u 75 t) (inl (asked-may g attribute.Count o refl)) | false ↦ λ t o. two (u == 78) refl o ] in
    let go : (b : Bool) → is_ordinary g ≡ b →
    AllOpen g u (if b then None else (if u == 75 then Some (Asked attribute.Count) else (if u == 78 then Some (Asked attribute.Number) else (if u == 68 then Some (Asked attribute.Defined) else None)))) =
    elim [ true ↦ λ o. tt | false ↦ λ o. one (u == 75) refl o ] in
    go (is_ordinary g) refl

asks-length : (g : Grammar) → asks_of_symbol g attribute.Length ≡ true
asks-length g = refl

pub opens : (g : Grammar) (u : ℕ) → AllOpen g u (opening g u)
unfolding opening
opens g u =
    let four : (b : Bool) → (u == 76) ≡ b → AllOpen g u (if b then Some (Asked attribute.Length) else opening_attribute g u) =
    elim [ true ↦ λ t. opens-asked g u attribute.Length (test u 76 t) (inr (asks-length g)) | false ↦ λ t. opens-attribute g u ] in
    let three : (b : Bool) → (u == 67) ≡ b → AllOpen g u (if b then Some (Body 0 0) else (if u == 76 then Some (Asked attribute.Length) else opening_attribute g u)) =
    elim [
      | true ↦ λ t. ((omega arith, omega arith, (λ e. refl)), (λ q p f h. reads-join g (Capital 67 ∷ One kind.Quote ∷ []) (spelling.Body 0 0 ∷ []) (q ∷ p ∷ []) [] (reads-capital g 67 q p (f ∙ test u 67 t) h) (reads-one g (spelling.Body 0 0) [] body-none)), refl)
      | false ↦ λ t. four (u == 76) refl
    ] in
    let two : (b : Bool) → (u == 66) ≡ b → AllOpen g u (if b then Some (Figures Binary 0 0) else (if u == 67 then Some (Body 0 0) else (if u == 76 then Some (Asked attribute.Length) else opening_attribute g u))) =
    elim [
      | true ↦ λ t. ((omega arith, omega arith, refl, (λ e. cc), (λ e. refl)), (λ q p f h. reads-join g (Capital 66 ∷ One kind.Quote ∷ []) (Run Binary 0 0 ∷ []) (q ∷ p ∷ []) [] (reads-capital g 66 q p (f ∙ test u 66 t) h) (reads-one g (Run Binary 0 0) [] (run-none Binary))), refl)
      | false ↦ λ t. three (u == 67) refl
    ] in
    let one : (b : Bool) → (u == 88) ≡ b →
    AllOpen g u (if b then Some (Figures Hexadecimal 0 0) else (if u == 66 then Some (Figures Binary 0 0) else (if u == 67 then Some (Body 0 0) else (if u == 76 then Some (Asked attribute.Length) else opening_attribute g u)))) =
    elim [
      | true ↦ λ t. ((omega arith, omega arith, refl, (λ e. cc), (λ e. refl)), (λ q p f h. reads-join g (Capital 88 ∷ One kind.Quote ∷ []) (Run Hexadecimal 0 0 ∷ []) (q ∷ p ∷ []) [] (reads-capital g 88 q p (f ∙ test u 88 t) h) (reads-one g (Run Hexadecimal 0 0) [] (run-none Hexadecimal))), refl)
      | false ↦ λ t. two (u == 66) refl
    ] in
    one (u == 88) refl

-- the text of a word of one letter
record OneLetter (u : ℕ) (b : List Placed) : Type 0 where
  q : Placed
  only : b ≡ q ∷ []
  upper : to_ascii_uppercase q.code ≡ u

word-letter_of : (u : ℕ) (q : Placed) (others b : List Placed) → symbol_of (codes (q ∷ others)) ≡ Some (u ∷ []) → b ≡ q ∷ others → OneLetter u b
word-letter_of u q [] b e f = let n = name-parts q.code [] (u ∷ []) e in let h : (u ∷ []) ≡ to_ascii_uppercase q.code ∷ [] = n.upper in record { q = q; only = f; upper = cc }
word-letter_of u q (r ∷ others) b e f = let n = name-parts q.code (codes (r ∷ others)) (u ∷ []) e in let h : (u ∷ []) ≡ to_ascii_uppercase q.code ∷ to_ascii_uppercase r.code ∷ map to_ascii_uppercase (codes others) = n.upper in cc

word-letter : (place u : ℕ) (b : List Placed) → IsWord place (u ∷ []) b → OneLetter u b
word-letter place u b i = word-letter_of u i.first i.others b (subst (λ xs. symbol_of (codes xs) ≡ Some (u ∷ [])) i.both i.named) i.both

single-some : (name : List ℕ) (u : ℕ) → single name ≡ Some u → name ≡ u ∷ []
single-some [] u e = cc
single-some (v ∷ []) u e = cc
single-some (v ∷ w ∷ name) u e = cc

follows-opened : (g : Grammar) (place : ℕ) (name : List ℕ) (p : Placed) → kind_of p.code ≡ kind.Quote → (u : ℕ) → name ≡ u ∷ [] → (found : Option Part) → opening g u ≡ found →
    Follows g (Word place name) p (opened found (Word place name))
follows-opened g place name p e u n None s = refl
follows-opened g place name p e u n (Some part) s =
    let all : Opens g u part = subst (AllOpen g u) s (opens g u) in (
      all.0,
      λ b r.
          let w = word-letter place u b (subst (λ xs. IsWord place xs b) n (piece_of-one g (spelling.Word place name) b r)) in
          subst (λ xs. Reads g (part_spelled part) (xs ++ p ∷ [])) (sym w.only) (all.1 w.q p w.upper e),
    )

follows-ordinary : (g : Grammar) (place : ℕ) (name : List ℕ) (p : Placed) → is_symbol_character p.code ≡ true →
    Follows g (Word place name) p (if is_ordinary g then lengthen (Word place) name p.code else Over (Word place name))
follows-ordinary g place name p s =
    let go : (b : Bool) → is_ordinary g ≡ b → Follows g (Word place name) p (if b then lengthen (Word place) name p.code else Over (Word place name)) =
    elim [
      | true ↦ λ o. follows-lengthen g (Word place) name p (whole o) (λ h b r. last-turned g [] (spelling.Word place name) (spelling.Word place (name ++ to_ascii_uppercase p.code ∷ [])) b (p ∷ []) (word-longer place name p h s) r)
      | false ↦ λ o. refl
    ] in
    go (is_ordinary g) refl

follows-open : (g : Grammar) (place : ℕ) (name : List ℕ) (p : Placed) → kind_of p.code ≡ kind.Quote → (found : Option ℕ) → single name ≡ found →
    Follows g (Word place name) p (open_name g found (Word place name))
follows-open g place name p e None s = refl
follows-open g place name p e (Some u) s = follows-opened g place name p e u (single-some name u s) (opening g u) refl

follows-word : (g : Grammar) (place : ℕ) (name : List ℕ) (p : Placed) → (k : Kind) → kind_of p.code ≡ k → Follows g (Word place name) p (after_word g k place name p.code)
follows-word g place name p kind.Letter e = follows-ordinary g place name p (kind-letter_symbol p.code e)
follows-word g place name p kind.Digit e = follows-ordinary g place name p (kind-digit_symbol p.code e)
follows-word g place name p kind.Quote e = follows-open g place name p e (single name) refl
follows-word g place name p _ e = refl

-- what a character does to a term
pub follows : (g : Grammar) (part : Part) (p : Placed) → IsPart g part → Follows g part p (after g part p)
unfolding after
follows g (Figures form count number) p i = follows-figures g form count number p i
follows g (Body count number) p i = follows-body g count number p i (kind_of p.code) refl
follows g (BodyQuote count number) p i = follows-quote g count number p (kind_of p.code) refl
follows g (BodyAmpersand count number) p i = follows-ampersand g count number p (kind_of p.code) refl
follows g (Asked asked) p i = follows-asked g asked p (kind_of p.code) refl
follows g (Sigil asked place) p i = follows-sigil g asked place p i (kind_of p.code) refl
follows g (Word place name) p i = follows-word g place name p (kind_of p.code) refl
follows g (Property asked place name) p i = follows-property g asked place name p i (kind_of p.code) refl
follows g (Named asked place name) p i = follows-named g asked place name p i (kind_of p.code) refl

-- a term that has ended
pub record Finished (g : Grammar) (part : Part) (found : Tree) : Type 0 where
  pub fits : IsOf g found
  pub high : rank found ≡ 7
  pub one : size found ≡ 1
  pub reads : (b : List Placed) → Reads g (part_spelled part) b → Reads g (spell found []) b

abbrev pub AllFinished : Grammar → Part → Option Tree → Type 0
AllFinished g part None = Unit {0}
AllFinished g part (Some found) = Finished g part found

pub finishes : (g : Grammar) (part : Part) → IsPart g part → AllFinished g part (finish g part)
unfolding finish
finishes g (Figures Decimal count number) i =
    record { fits = tt; high = refl; one = refl; reads = λ b r. last-became g [] (Run Decimal count number) (Digits Decimal number) b (digits-of_run Decimal count number (i.3 refl) i.0 i.1) r }
finishes g (BodyQuote count number) i =
    let go : (b : Bool) → nat_lt 0 count ≡ b → AllFinished g (BodyQuote count number) (if b then Some (tree.Number Character number) else None) =
    elim [
      | true ↦ λ t. record {
        fits = tt;
        high = refl;
        one = refl;
        reads = λ b r.
            piece-became g (Capital 67 ∷ One kind.Quote ∷ []) (spelling.Body count number) (spelling.Characters number) (One kind.Quote ∷ []) b
            (λ a j. record { count = count; some = grind (arith, nat_tests); few = i.0; small = i.1; body = j }) r;
      }
      | false ↦ λ t. tt
    ] in
    go (nat_lt 0 count) refl
finishes g (Word place name) i =
    let go : (b : Bool) → is_ordinary g ≡ b → AllFinished g (Word place name) (if b then Some (tree.Ordinary Value (symbol_at place name)) else None) =
    elim [ true ↦ λ t. record { fits = t; high = refl; one = refl; reads = λ b r. r } | false ↦ λ t. tt ] in
    go (is_ordinary g) refl
finishes g (Property asked place name) i = record { fits = i; high = refl; one = refl; reads = λ b r. r }
finishes g (Named asked place name) i = record { fits = (i, tt); high = refl; one = refl; reads = λ b r. r }
finishes g _ i = tt
