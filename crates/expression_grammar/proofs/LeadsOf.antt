-- Every text of a tree leads to that tree: terms that have a text of their own, and then all trees.
use Rattle.std.proofs.Common.{◌≡◌, ℕ, ◌+◌, ◌*◌, ◌<◌, ◌≤◌, Bool, true, false, List, [], ◌∷◌, ◌++◌, ◌⊎◌, inl, inr, length, refl, sym, ap, ◌∙◌, arith, append_assoc, add-zero, length-append}
use Rattle.std.specs.Prelude.{nat_le, nat_lt, ◌||◌, Some, None, is_some, map, option_and_then, option_map, if◌then◌else◌}
use Rattle.std.specs.List.{list_all}
use Rattle.std.specs.Char.{to_ascii_uppercase}
use Rattle.std.proofs.lemmas.Bool.Decides.{nat_tests}
use Rattle.hl_base.specs.Symbols.{symbol_of, is_letter, is_symbol_character}
use Rattle.expression_grammar.specs.declared.character.Grammar.{Grammar}
use Rattle.expression_grammar.specs.declared.character.Grammar.TheVariants as grammar
use Rattle.expression_grammar.specs.declared.character.Kind.{Kind}
use Rattle.expression_grammar.specs.declared.character.Kind.TheVariants as kind
use Rattle.expression_grammar.specs.declared.tree.Form.{Form}
use Rattle.expression_grammar.specs.declared.tree.Form.TheVariants.{Decimal, Hexadecimal, Binary, Character}
use Rattle.expression_grammar.specs.declared.tree.Attribute.{Attribute}
use Rattle.expression_grammar.specs.declared.tree.Attribute.TheVariants as attribute
use Rattle.expression_grammar.specs.declared.tree.Sign.{Sign}
use Rattle.expression_grammar.specs.declared.tree.Sign.TheVariants.{Plus, Minus}
use Rattle.expression_grammar.specs.declared.tree.Operator.{Operator}
use Rattle.expression_grammar.specs.declared.tree.Operator.TheVariants.{Multiply}
use Rattle.expression_grammar.specs.declared.tree.Reference.{Reference}
use Rattle.expression_grammar.specs.declared.tree.Reference.TheVariants.{Value, Of}
use Rattle.expression_grammar.specs.declared.tree.Symbol.{Symbol}
use Rattle.expression_grammar.specs.declared.part.Part.{Part}
use Rattle.expression_grammar.specs.declared.part.Part.TheVariants.{Figures, Body, BodyQuote, BodyAmpersand, Asked, Sigil, Word, Property, Named}
use Rattle.expression_grammar.specs.declared.part.Move.TheVariants.{To, Done, Over}
use Rattle.expression_grammar.specs.Characters.{kind_of, mark_of, letter_of, strength}
use Rattle.hl_base.specs.Order.{ebcdic}
use Rattle.expression_grammar.specs.Trees.{Tree, Trees, Number, Here, Ordinary, Variable, Signed, Pair, Paren, NoTrees, More}
use Rattle.expression_grammar.specs.Spelling as spelling
use Rattle.expression_grammar.specs.Spelling.{Placed, Piece, Gap, One, IsGap, IsOne, IsRun, IsDigits, IsCharacters, Reads, IsPiece, IsOf, AreOf, codes, figures, bytes_of, doubled, twice, is_figure, base_of, most_of, greatest_of, has_blanks, is_ordinary, may_vary, may_name, asks_of_symbol, rank, spell, spell_subscripts, begin_subscripts, asked_spelled, variable_spelled, number_spelled}
use Rattle.expression_grammar.specs.Parts.{after, has_room, grow, after_body, after_quote, after_ampersand, after_word, after_property, after_named, after_sigil, after_asked, finish, opening, lengthen}
use Rattle.expression_grammar.specs.Reading.{Layer, SignLayer, PairLayer, OpenLayer, SubscriptLayer, State, Want, Have, Within, Folded, fold, closed, parted, joined, behind, begun, moved, step, run, accept, whole, settled, Takes}
use Rattle.expression_grammar.proofs.CharacterLaws.{letter-kind, IsNaming, by_letter, by_digit, symbol-kind}
use Rattle.expression_grammar.proofs.Names.{and-left, and-right, and-both, name-parts}
use Rattle.expression_grammar.proofs.Pieces.{append-nil, length-codes}
use Rattle.expression_grammar.proofs.Folds.{strength-most, takes-more}
use Rattle.expression_grammar.proofs.Completions.{if-true, run-step, step-to, step-done, finish-quote, finish-decimal, finish-named, finish-property, finish-word}
use Rattle.expression_grammar.proofs.Leads.{IsAtTree, as_tree, as_part, Leads, IsFollower, gap-want, gap-then, gap-end, first, first-capital, capital-runs, le-test, lt-test, decimal-runs, quoted-runs, after-close_hexadecimal, after-close_binary, bytes-most, grow-room}

-- Character terms.

after-body_kind : (g : Grammar) (n v : ℕ) (p : Placed) (k : Kind) → kind_of p.code ≡ k → after g (Body n v) p ≡ after_body k n v p.code
unfolding after
after-body_kind g n v p k e = ap (λ x. after_body x n v p.code) e

after-quote_kind : (g : Grammar) (n v : ℕ) (p : Placed) → kind_of p.code ≡ kind.Quote → after g (BodyQuote n v) p ≡ grow n v p.code (BodyQuote n v)
unfolding after
after-quote_kind g n v p e = ap (λ x. after_quote x n v p.code) e

after-ampersand_kind : (g : Grammar) (n v : ℕ) (p : Placed) → kind_of p.code ≡ kind.Ampersand → after g (BodyAmpersand n v) p ≡ grow n v p.code (BodyAmpersand n v)
unfolding after
after-ampersand_kind g n v p e = ap (λ x. after_ampersand x n v p.code) e

-- one character of a character term, as it is written
record Written (g : Grammar) (layers : List Layer) (n v c : ℕ) (ds : List Placed) (cs : List ℕ) : Type 0 where
  others : List Placed
  written : codes others ≡ cs
  runs : (back : List Placed) → run g (Within (Body n v) layers) (ds ++ back) ≡ run g (Within (Body (n + 1) (v * 256 + ebcdic c)) layers) (others ++ back)

plain-written : (g : Grammar) (layers : List Layer) (n v c : ℕ) (k : Kind) → kind_of c ≡ k → after_body k n v c ≡ To (Body (n + 1) (v * 256 + ebcdic c)) →
    (ds : List Placed) (cs : List ℕ) → codes ds ≡ c ∷ cs → Written g layers n v c ds cs
plain-written g layers n v c k e a [] cs w = cc
plain-written g layers n v c k e a (p ∷ ds) cs w =
    let same : p.code ≡ c = cc in let rest : codes ds ≡ cs = cc in
    let go : after g (Body n v) p ≡ To (Body (n + 1) (v * 256 + ebcdic c)) =
    after-body_kind g n v p k (ap kind_of same ∙ e) ∙ ap (after_body k n v) same ∙ a in
    record {
      others = ds;
      written = rest;
      runs = λ back. run-step g (Within (Body n v) layers) (Within (Body (n + 1) (v * 256 + ebcdic c)) layers) p (ds ++ back) (step-to g layers (Body n v) (Body (n + 1) (v * 256 + ebcdic c)) p go);
    }

pair-written : (g : Grammar) (layers : List Layer) (n v c : ℕ) (half : Part) →
    ((p : Placed) → p.code ≡ c → after g (Body n v) p ≡ To half) → ((p : Placed) → p.code ≡ c → after g half p ≡ To (Body (n + 1) (v * 256 + ebcdic c))) →
    (ds : List Placed) (cs : List ℕ) → codes ds ≡ c ∷ c ∷ cs → Written g layers n v c ds cs
pair-written g layers n v c half a b [] cs w = cc
pair-written g layers n v c half a b (p ∷ []) cs w = let tail : [] ≡ c ∷ cs = cc in cc
pair-written g layers n v c half a b (p ∷ q ∷ ds) cs w =
    let one : p.code ≡ c = cc in let tail : codes (q ∷ ds) ≡ c ∷ cs = cc in
    let two : q.code ≡ c = cc in let rest : codes ds ≡ cs = cc in
    record {
      others = ds;
      written = rest;
      runs = λ back. run-step g (Within (Body n v) layers) (Within half layers) p (q ∷ ds ++ back) (step-to g layers (Body n v) half p (a p one))
          ∙ run-step g (Within half layers) (Within (Body (n + 1) (v * 256 + ebcdic c)) layers) q (ds ++ back) (step-to g layers half (Body (n + 1) (v * 256 + ebcdic c)) q (b q two));
    }

written : (g : Grammar) (layers : List Layer) (n v c : ℕ) → n < 4 → v * 256 + ebcdic c ≤ greatest_of Character → (k : Kind) → kind_of c ≡ k →
    (ds : List Placed) (cs : List ℕ) → codes ds ≡ twice k c cs → Written g layers n v c ds cs
written g layers n v c f h kind.Quote e ds cs w =
    pair-written g layers n v c (BodyQuote n v) (λ p s. after-body_kind g n v p kind.Quote (ap kind_of s ∙ e))
    (λ p s. after-quote_kind g n v p (ap kind_of s ∙ e) ∙ ap (λ x. grow n v x (BodyQuote n v)) s ∙ grow-room n v c (BodyQuote n v) f h) ds cs w
written g layers n v c f h kind.Ampersand e ds cs w =
    let room : has_room Character n v (ebcdic c) ≡ true = and-both (nat_lt n 4) (nat_le (v * 256 + ebcdic c) (greatest_of Character)) (lt-test n 4 f) (le-test (v * 256 + ebcdic c) (greatest_of Character) h) in
    pair-written g layers n v c (BodyAmpersand n v)
    (λ p s. after-body_kind g n v p kind.Ampersand (ap kind_of s ∙ e)
    ∙ ap (after_body kind.Ampersand n v) s
    ∙ if-true (has_room Character n v (ebcdic c)) (To (BodyAmpersand n v)) (Over (Body n v)) room)
    (λ p s. after-ampersand_kind g n v p (ap kind_of s ∙ e) ∙ ap (λ x. grow n v x (BodyAmpersand n v)) s ∙ grow-room n v c (BodyAmpersand n v) f h) ds cs w
written g layers n v c f h k e ds cs w = plain-written g layers n v c k e (grow-room n v c (Body n v) f h) ds cs w

body-runs : (g : Grammar) (layers : List Layer) (cs : List ℕ) (n v : ℕ) (ds back : List Placed) → codes ds ≡ doubled cs → n + length cs ≤ 4 → bytes_of v cs ≤ greatest_of Character →
    run g (Within (Body n v) layers) (ds ++ back) ≡ run g (Within (Body (n + length cs) (bytes_of v cs)) layers) back
body-runs g layers [] n v [] back w f h = ap (λ m. run g (Within (Body m v) layers) back) (sym (add-zero n))
body-runs g layers [] n v (p ∷ ds) back w f h = cc
body-runs g layers (c ∷ cs) n v ds back w f h =
    let more = bytes-most (v * 256 + ebcdic c) cs in
    let one : Written g layers n v c ds (doubled cs) = written g layers n v c (omega arith) (omega arith) (kind_of c) refl ds (doubled cs) w in
    one.runs back
    ∙ body-runs g layers cs (n + 1) (v * 256 + ebcdic c) one.others back one.written (omega arith) h
    ∙ ap (λ m. run g (Within (Body m (bytes_of (v * 256 + ebcdic c) cs)) layers) back) (omega arith)

characters-runs : (g : Grammar) (layers : List Layer) (bits : ℕ) (ds back : List Placed) (p : Placed) (i : IsCharacters bits ds) → kind_of p.code ≡ kind.Quote →
    run g (Within (Body 0 0) layers) (ds ++ p ∷ back) ≡ run g (Within (BodyQuote i.count bits) layers) back
characters-runs g layers bits ds back p i e =
    let counted = i.body.counted in let valued = i.body.valued in let few = i.few in let small = i.small in
    body-runs g layers i.body.characters 0 0 ds (p ∷ back) i.body.written (omega arith) (omega arith)
    ∙ ap (λ m. run g (Within (Body m (bytes_of 0 i.body.characters)) layers) (p ∷ back)) (omega arith)
    ∙ ap (λ v. run g (Within (Body i.count v) layers) (p ∷ back)) valued
    ∙ run-step g (Within (Body i.count bits) layers) (Within (BodyQuote i.count bits) layers) p back
    (step-to g layers (Body i.count bits) (BodyQuote i.count bits) p (after-body_kind g i.count bits p kind.Quote e))

-- Names.

name-runs : (g : Grammar) (layers : List Layer) (make : List ℕ → Part) →
    ((name : List ℕ) (p : Placed) → length name < 63 → is_symbol_character p.code ≡ true → after g (make name) p ≡ To (make (name ++ to_ascii_uppercase p.code ∷ []))) →
    (ds back : List Placed) (name : List ℕ) → list_all is_symbol_character (codes ds) ≡ true → length name + length ds ≤ 63 →
    run g (Within (make name) layers) (ds ++ back) ≡ run g (Within (make (name ++ map to_ascii_uppercase (codes ds))) layers) back
name-runs g layers make grows [] back name a h = ap (λ (xs : List ℕ). run g (Within (make xs) layers) back) (sym (append-nil name))
name-runs g layers make grows (p ∷ ds) back name a h =
    let one = and-left (is_symbol_character p.code) (list_all is_symbol_character (codes ds)) a in
    let others = and-right (is_symbol_character p.code) (list_all is_symbol_character (codes ds)) a in
    let u : List ℕ = to_ascii_uppercase p.code ∷ [] in
    run-step g (Within (make name) layers) (Within (make (name ++ u)) layers) p (ds ++ back) (step-to g layers (make name) (make (name ++ u)) p (grows name p (omega arith) one))
    ∙ name-runs g layers make grows ds back (name ++ u) others (omega (arith, length-append name u))
    ∙ ap (λ (xs : List ℕ). run g (Within (make xs) layers) back) (append_assoc name u (map to_ascii_uppercase (codes ds)))

lengthen-room : (make : List ℕ → Part) (name : List ℕ) (c : ℕ) → length name < 63 → lengthen make name c ≡ To (make (name ++ to_ascii_uppercase c ∷ []))
lengthen-room make name c h = if-true (nat_lt (length name) 63) (To (make (name ++ to_ascii_uppercase c ∷ []))) (Over (make name)) (lt-test (length name) 63 h)

named-grows : (g : Grammar) (asked : Reference) (place : ℕ) (name : List ℕ) (p : Placed) → length name < 63 → IsNaming p.code → after g (Named asked place name) p ≡ To (Named asked place (name ++ to_ascii_uppercase p.code ∷ []))
unfolding after
named-grows g asked place name p h (by_letter e) = ap (λ x. after_named x asked place name p.code) e ∙ lengthen-room (Named asked place) name p.code h
named-grows g asked place name p h (by_digit e) = ap (λ x. after_named x asked place name p.code) e ∙ lengthen-room (Named asked place) name p.code h

property-grows : (g : Grammar) (asked : Attribute) (place : ℕ) (name : List ℕ) (p : Placed) → length name < 63 → IsNaming p.code → after g (Property asked place name) p ≡ To (Property asked place (name ++ to_ascii_uppercase p.code ∷ []))
unfolding after
property-grows g asked place name p h (by_letter e) = ap (λ x. after_property x asked place name p.code) e ∙ lengthen-room (Property asked place) name p.code h
property-grows g asked place name p h (by_digit e) = ap (λ x. after_property x asked place name p.code) e ∙ lengthen-room (Property asked place) name p.code h

word-grows : (g : Grammar) (place : ℕ) (name : List ℕ) (p : Placed) → is_ordinary g ≡ true → length name < 63 → IsNaming p.code → after g (Word place name) p ≡ To (Word place (name ++ to_ascii_uppercase p.code ∷ []))
unfolding after
word-grows g place name p o h (by_letter e) =
    ap (λ x. after_word g x place name p.code) e ∙ if-true (is_ordinary g) (lengthen (Word place) name p.code) (Over (Word place name)) o ∙ lengthen-room (Word place) name p.code h
word-grows g place name p o h (by_digit e) =
    ap (λ x. after_word g x place name p.code) e ∙ if-true (is_ordinary g) (lengthen (Word place) name p.code) (Over (Word place name)) o ∙ lengthen-room (Word place) name p.code h

-- a whole name, from the state before its first letter
whole-name : (g : Grammar) (layers : List Layer) (make : List ℕ → Part) (state : State) →
    ((name : List ℕ) (p : Placed) → length name < 63 → IsNaming p.code → after g (make name) p ≡ To (make (name ++ to_ascii_uppercase p.code ∷ []))) →
    (p : Placed) (ds back : List Placed) (name : List ℕ) →
    (kind_of p.code ≡ kind.Letter → step g state p ≡ Some (Within (make (to_ascii_uppercase p.code ∷ [])) layers)) →
    symbol_of (p.code ∷ codes ds) ≡ Some name → run g state (p ∷ ds ++ back) ≡ run g (Within (make name) layers) back
whole-name g layers make state grows p ds back name begins e =
    let n = name-parts p.code (codes ds) name e in
    let u : List ℕ = to_ascii_uppercase p.code ∷ [] in
    let short = n.short in let size = length-codes ds in
    run-step g state (Within (make u) layers) p (ds ++ back) (begins (letter-kind p.code n.letter))
    ∙ name-runs g layers make (λ name' q h s. grows name' q h (symbol-kind q.code s)) ds back u n.all (omega arith)
    ∙ ap (λ (xs : List ℕ). run g (Within (make xs) layers) back) (sym n.upper)

letters-runs : (g : Grammar) (layers : List Layer) (make : List ℕ → Part) (state : State) →
    ((name : List ℕ) (p : Placed) → length name < 63 → IsNaming p.code → after g (make name) p ≡ To (make (name ++ to_ascii_uppercase p.code ∷ []))) →
    ((p : Placed) → kind_of p.code ≡ kind.Letter → step g state p ≡ Some (Within (make (to_ascii_uppercase p.code ∷ [])) layers)) →
    (ds back : List Placed) (name : List ℕ) → symbol_of (codes ds) ≡ Some name → run g state (ds ++ back) ≡ run g (Within (make name) layers) back
letters-runs g layers make state grows begins [] back name e = cc
letters-runs g layers make state grows begins (p ∷ ds) back name e = whole-name g layers make state grows p ds back name (begins p) e

-- What asks for an attribute.

opens-letter : (g : Grammar) (asked : Attribute) → (may_vary g (Of asked) ≡ true) ⊎ (asks_of_symbol g asked ≡ true) → opening g (letter_of asked) ≡ Some (Asked asked)
unfolding opening
opens-letter g attribute.Length m = refl
opens-letter grammar.Arithmetic attribute.Count m = refl
opens-letter grammar.Arithmetic attribute.Number m = refl
opens-letter grammar.Arithmetic attribute.Defined m = refl
opens-letter grammar.Arithmetic attribute.Type (inl e) = cc
opens-letter grammar.Arithmetic attribute.Type (inr e) = cc
opens-letter grammar.Ordinary attribute.Count (inl e) = cc
opens-letter grammar.Ordinary attribute.Count (inr e) = cc
opens-letter grammar.Ordinary attribute.Number (inl e) = cc
opens-letter grammar.Ordinary attribute.Number (inr e) = cc
opens-letter grammar.Ordinary attribute.Defined (inl e) = cc
opens-letter grammar.Ordinary attribute.Defined (inr e) = cc
opens-letter grammar.Ordinary attribute.Type (inl e) = cc
opens-letter grammar.Ordinary attribute.Type (inr e) = cc

letter-of_attribute : (asked : Attribute) → is_letter (letter_of asked) ≡ true
letter-of_attribute attribute.Count = refl
letter-of_attribute attribute.Number = refl
letter-of_attribute attribute.Length = refl
letter-of_attribute attribute.Defined = refl
letter-of_attribute attribute.Type = refl

-- A variable symbol.

record AtName (g : Grammar) (layers : List Layer) (asked : Reference) (symbol : Symbol) (ks : List Piece) (cs : List Placed) : Type 0 where
  rest : List Placed
  runs : run g (Want layers) cs ≡ run g (Within (Named asked symbol.at symbol.name) layers) rest
  reads : Reads g ks rest

begins-named : (g : Grammar) (layers : List Layer) (asked : Reference) (place : ℕ) (p : Placed) → kind_of p.code ≡ kind.Letter →
    step g (Within (Sigil asked place) layers) p ≡ Some (Within (Named asked place (to_ascii_uppercase p.code ∷ [])) layers)
unfolding after
begins-named g layers asked place p e = step-to g layers (Sigil asked place) (Named asked place (to_ascii_uppercase p.code ∷ [])) p (ap (λ x. after_sigil x asked place p.code) e)

-- behind the `&`
sigil-name : (g : Grammar) (layers : List Layer) (asked : Reference) (symbol : Symbol) (ks : List Piece) (before : State) (cs : List Placed) →
    ((p : Placed) → kind_of p.code ≡ kind.Ampersand → p.at ≡ symbol.at → step g before p ≡ Some (Within (Sigil asked symbol.at) layers)) →
    (r : Reads g (spelling.Sigil symbol.at ∷ spelling.Letters symbol.name ∷ ks) cs) →
    run g before cs ≡ run g (Within (Named asked symbol.at symbol.name) layers) r.4.1
sigil-name g layers asked symbol ks before cs begins r =
    let p : Placed = r.3.one in
    ap (run g before) (r.2 ∙ ap (λ xs. xs ++ r.1) r.3.only)
    ∙ run-step g before (Within (Sigil asked symbol.at) layers) p r.1 (begins p r.3.kind r.3.here)
    ∙ ap (run g (Within (Sigil asked symbol.at) layers)) r.4.2
    ∙ letters-runs g layers (Named asked symbol.at) (Within (Sigil asked symbol.at) layers) (named-grows g asked symbol.at) (begins-named g layers asked symbol.at) r.4.0 r.4.1 symbol.name r.4.3

want-sigil : (g : Grammar) (layers : List Layer) (place : ℕ) → may_vary g Value ≡ true → (p : Placed) → kind_of p.code ≡ kind.Ampersand → p.at ≡ place →
    step g (Want layers) p ≡ Some (Within (Sigil Value place) layers)
unfolding step
want-sigil g layers place m p e a =
    ap (λ x. begun g x p layers) e ∙ if-true (may_vary g Value) (Some (Within (Sigil Value p.at) layers)) None m ∙ ap (λ x. Some (Within (Sigil Value x) layers)) a

asked-sigil : (g : Grammar) (layers : List Layer) (asked : Attribute) (place : ℕ) → may_vary g (Of asked) ≡ true → (p : Placed) → kind_of p.code ≡ kind.Ampersand → p.at ≡ place →
    step g (Within (Asked asked) layers) p ≡ Some (Within (Sigil (Of asked) place) layers)
unfolding after
asked-sigil g layers asked place m p e a =
    step-to g layers (Asked asked) (Sigil (Of asked) p.at) p (ap (λ x. after_asked g x asked p) e ∙ if-true (may_vary g (Of asked)) (To (Sigil (Of asked) p.at)) (Over (Asked asked)) m)
    ∙ ap (λ x. Some (Within (Sigil (Of asked) x) layers)) a

at-name : (g : Grammar) (layers : List Layer) (asked : Reference) (symbol : Symbol) (ks : List Piece) (cs : List Placed) → may_vary g asked ≡ true →
    Reads g (variable_spelled asked symbol ks) cs → AtName g layers asked symbol ks cs
at-name g layers Value symbol ks cs m r =
    record { rest = r.4.1; runs = sigil-name g layers Value symbol ks (Want layers) cs (want-sigil g layers symbol.at m) r; reads = r.4.4 }
at-name g layers (Of asked) symbol ks cs m r =
    let f = first-capital g (letter_of asked) (spelling.Sigil symbol.at ∷ spelling.Letters symbol.name ∷ ks) cs r in
    record {
      rest = f.reads.4.1;
      runs = ap (run g (Want layers)) f.both
          ∙ capital-runs g layers (letter_of asked) (Asked asked) f.q f.p f.back (letter-of_attribute asked) (opens-letter g asked (inl m)) f.upper f.kind
          ∙ sigil-name g layers (Of asked) symbol ks (Within (Asked asked) layers) f.back (asked-sigil g layers asked symbol.at m) f.reads;
      reads = f.reads.4.4;
    }

-- Leaves.

leaf-part : (g : Grammar) (layers : List Layer) (tree : Tree) (part : Part) (ks : List Piece) (cs rest : List Placed) → finish g part ≡ Some tree →
    run g (Want layers) cs ≡ run g (Within part layers) rest → Reads g ks rest → Leads g layers tree ks cs
leaf-part g layers tree part ks cs rest f e r =
    record { state = Within part layers; rest = rest; top = tree; above = layers; runs = e; reads = r; there = as_part part refl f; folds = λ floor h. refl }

leaf-tree : (g : Grammar) (layers : List Layer) (tree : Tree) (ks : List Piece) (cs rest : List Placed) →
    run g (Want layers) cs ≡ run g (Have tree layers) rest → Reads g ks rest → Leads g layers tree ks cs
leaf-tree g layers tree ks cs rest e r =
    record { state = Have tree layers; rest = rest; top = tree; above = layers; runs = e; reads = r; there = as_tree refl; folds = λ floor h. refl }

lead-quoted : (g : Grammar) (layers : List Layer) (form : Form) (u bits : ℕ) (ks : List Piece) (cs : List Placed) → is_letter u ≡ true → opening g u ≡ Some (Figures form 0 0) →
    ((n v : ℕ) (p : Placed) → 0 < n → kind_of p.code ≡ kind.Quote → after g (Figures form n v) p ≡ Done form v) →
    Reads g (spelling.Capital u ∷ One kind.Quote ∷ spelling.Digits form bits ∷ One kind.Quote ∷ ks) cs → Leads g layers (Number form bits) ks cs
lead-quoted g layers form u bits ks cs l o closes r =
    let f = first-capital g u (spelling.Digits form bits ∷ One kind.Quote ∷ ks) cs r in
    let digits = f.reads.3 in
    let q = first g kind.Quote ks f.reads.1 f.reads.4 in
    leaf-tree g layers (Number form bits) ks cs q.back
    (ap (run g (Want layers)) f.both
    ∙ capital-runs g layers u (Figures form 0 0) f.q f.p f.back l o f.upper f.kind
    ∙ ap (run g (Within (Figures form 0 0) layers)) (f.reads.2 ∙ ap (λ xs. f.reads.0 ++ xs) q.both)
    ∙ quoted-runs g layers form digits.count bits f.reads.0 (q.p ∷ q.back) digits.few digits.small digits.run
    ∙ run-step g (Within (Figures form digits.count bits) layers) (Have (Number form bits) layers) q.p q.back
    (step-done g layers (Figures form digits.count bits) form bits q.p (closes digits.count bits q.p digits.some q.kind)))
    q.reads

opening-88 : (g : Grammar) → opening g 88 ≡ Some (Figures Hexadecimal 0 0)
unfolding opening
opening-88 g = refl

opening-66 : (g : Grammar) → opening g 66 ≡ Some (Figures Binary 0 0)
unfolding opening
opening-66 g = refl

opening-67 : (g : Grammar) → opening g 67 ≡ Some (Body 0 0)
unfolding opening
opening-67 g = refl

lead-number : (g : Grammar) (layers : List Layer) (form : Form) (bits : ℕ) (ks : List Piece) (cs : List Placed) → Reads g (number_spelled form bits ks) cs → Leads g layers (Number form bits) ks cs
lead-number g layers Decimal bits ks cs r =
    let d = r.3 in
    leaf-part g layers (Number Decimal bits) (Figures Decimal d.count bits) ks cs r.1 (finish-decimal g d.count bits)
    (ap (run g (Want layers)) r.2 ∙ decimal-runs g layers d.count bits r.0 r.1 d.some d.few d.small d.run) r.4
lead-number g layers Hexadecimal bits ks cs r = lead-quoted g layers Hexadecimal 88 bits ks cs refl (opening-88 g) (after-close_hexadecimal g) r
lead-number g layers Binary bits ks cs r = lead-quoted g layers Binary 66 bits ks cs refl (opening-66 g) (after-close_binary g) r
lead-number g layers Character bits ks cs r =
    let f = first-capital g 67 (spelling.Characters bits ∷ One kind.Quote ∷ ks) cs r in
    let body = f.reads.3 in
    let q = first g kind.Quote ks f.reads.1 f.reads.4 in
    leaf-part g layers (Number Character bits) (BodyQuote body.count bits) ks cs q.back (finish-quote g body.count bits body.some)
    (ap (run g (Want layers)) f.both
    ∙ capital-runs g layers 67 (Body 0 0) f.q f.p f.back refl (opening-67 g) f.upper f.kind
    ∙ ap (run g (Within (Body 0 0) layers)) (f.reads.2 ∙ ap (λ xs. f.reads.0 ++ xs) q.both)
    ∙ characters-runs g layers bits f.reads.0 q.back q.p body q.kind)
    q.reads

begins-word : (g : Grammar) (layers : List Layer) (p : Placed) → is_ordinary g ≡ true → kind_of p.code ≡ kind.Letter →
    step g (Want layers) p ≡ Some (Within (Word p.at (to_ascii_uppercase p.code ∷ [])) layers)
unfolding step
begins-word g layers p o e =
    ap (λ x. begun g x p layers) e
    ∙ if-true (is_ordinary g || is_some (opening g (to_ascii_uppercase p.code))) (Some (Within (Word p.at (to_ascii_uppercase p.code ∷ [])) layers)) None
    (ap (λ b. b || is_some (opening g (to_ascii_uppercase p.code))) o)

begins-property : (g : Grammar) (layers : List Layer) (asked : Attribute) (p : Placed) → asks_of_symbol g asked ≡ true → kind_of p.code ≡ kind.Letter →
    step g (Within (Asked asked) layers) p ≡ Some (Within (Property asked p.at (to_ascii_uppercase p.code ∷ [])) layers)
unfolding after
begins-property g layers asked p o e =
    step-to g layers (Asked asked) (Property asked p.at (to_ascii_uppercase p.code ∷ [])) p
    (ap (λ x. after_asked g x asked p) e ∙ if-true (asks_of_symbol g asked) (To (Property asked p.at (to_ascii_uppercase p.code ∷ []))) (Over (Asked asked)) o)

lead-ordinary : (g : Grammar) (layers : List Layer) (asked : Reference) (symbol : Symbol) (ks : List Piece) (cs : List Placed) → may_name g asked ≡ true →
    Reads g (asked_spelled asked (spelling.Word symbol.at symbol.name ∷ ks)) cs → Leads g layers (Ordinary asked symbol) ks cs
lead-ordinary g layers Value symbol ks cs m r =
    let w = r.3 in
    let named : symbol_of (codes (w.first ∷ w.others)) ≡ Some symbol.name = ap (λ xs. symbol_of (codes xs)) (sym w.both) ∙ w.named in
    leaf-part g layers (Ordinary Value symbol) (Word symbol.at symbol.name) ks cs r.1 (finish-word g symbol.at symbol.name m)
    (ap (run g (Want layers)) (r.2 ∙ ap (λ xs. xs ++ r.1) w.both)
    ∙ whole-name g layers (Word symbol.at) (Want layers) (λ name q h s. word-grows g symbol.at name q m h s) w.first w.others r.1 symbol.name
    (λ k. begins-word g layers w.first m k ∙ ap (λ x. Some (Within (Word x (to_ascii_uppercase w.first.code ∷ [])) layers)) w.here) named)
    r.4
lead-ordinary g layers (Of asked) symbol ks cs m r =
    let f = first-capital g (letter_of asked) (spelling.Word symbol.at symbol.name ∷ ks) cs r in
    let w = f.reads.3 in
    let named : symbol_of (codes (w.first ∷ w.others)) ≡ Some symbol.name = ap (λ xs. symbol_of (codes xs)) (sym w.both) ∙ w.named in
    leaf-part g layers (Ordinary (Of asked) symbol) (Property asked symbol.at symbol.name) ks cs f.reads.1 (finish-property g asked symbol.at symbol.name)
    (ap (run g (Want layers)) f.both
    ∙ capital-runs g layers (letter_of asked) (Asked asked) f.q f.p f.back (letter-of_attribute asked) (opens-letter g asked (inr m)) f.upper f.kind
    ∙ ap (run g (Within (Asked asked) layers)) (f.reads.2 ∙ ap (λ xs. xs ++ f.reads.1) w.both)
    ∙ whole-name g layers (Property asked symbol.at) (Within (Asked asked) layers) (property-grows g asked symbol.at) w.first w.others f.reads.1 symbol.name
    (λ k. begins-property g layers asked w.first m k ∙ ap (λ x. Some (Within (Property asked x (to_ascii_uppercase w.first.code ∷ [])) layers)) w.here) named)
    f.reads.4

step-here : (g : Grammar) (layers : List Layer) (p : Placed) → is_ordinary g ≡ true → kind_of p.code ≡ kind.Mark Multiply → step g (Want layers) p ≡ Some (Have Here layers)
unfolding step
step-here g layers p o e = ap (λ x. begun g x p layers) e ∙ if-true (is_ordinary g) (Some (Have Here layers)) None o

lead-here : (g : Grammar) (layers : List Layer) (ks : List Piece) (cs : List Placed) → is_ordinary g ≡ true → Reads g (One (kind.Mark Multiply) ∷ ks) cs → Leads g layers Here ks cs
lead-here g layers ks cs o r =
    let f = first g (kind.Mark Multiply) ks cs r in
    leaf-tree g layers Here ks cs f.back (ap (run g (Want layers)) f.both ∙ run-step g (Want layers) (Have Here layers) f.p f.back (step-here g layers f.p o f.kind)) f.reads

-- Trees.

if-false : {A : Type 0} (b : Bool) (x y : A) → b ≡ false → (if b then x else y) ≡ y
if-false true x y e = cc
if-false false x y e = refl

gt-test : (a b : ℕ) → b < a → nat_le a b ≡ false
gt-test a b h = grind (arith, nat_tests)

-- layers that take an operator do not fold at its strength
fold-none : (floor : ℕ) (tree : Tree) (layers : List Layer) → floor < 7 → Takes layers floor → fold floor tree layers ≡ record { tree = tree; layers = layers }
fold-none floor tree [] h t = refl
fold-none floor tree (SignLayer sign ∷ layers) h t = absurd (omega arith)
fold-none floor tree (PairLayer operator left ∷ layers) h t =
    if-false (nat_le floor (strength operator)) (fold floor (Pair operator left tree) layers) (record { tree = tree; layers = PairLayer operator left ∷ layers }) (gt-test floor (strength operator) t)
fold-none floor tree (OpenLayer ∷ layers) h t = refl
fold-none floor tree (SubscriptLayer asked symbol others ∷ layers) h t = refl

step-sign : (g : Grammar) (layers : List Layer) (sign : Sign) (p : Placed) → kind_of p.code ≡ kind.Mark (mark_of sign) → step g (Want layers) p ≡ Some (Want (SignLayer sign ∷ layers))
unfolding step
step-sign g layers Plus p e = ap (λ x. begun g x p layers) e
step-sign g layers Minus p e = ap (λ x. begun g x p layers) e

step-open : (g : Grammar) (layers : List Layer) (p : Placed) → kind_of p.code ≡ kind.Open → step g (Want layers) p ≡ Some (Want (OpenLayer ∷ layers))
unfolding step
step-open g layers p e = ap (λ x. begun g x p layers) e

step-begins : (g : Grammar) (layers : List Layer) (asked : Reference) (symbol : Symbol) (p : Placed) → kind_of p.code ≡ kind.Open →
    step g (Within (Named asked symbol.at symbol.name) layers) p ≡ Some (Want (SubscriptLayer asked symbol NoTrees ∷ layers))
unfolding step after
step-begins g layers asked symbol p e = ap (λ x. moved g (after_named x asked symbol.at symbol.name p.code) (kind_of p.code) layers) e

-- a gap where an operand is wanted, and then a tree
wanted-gap : (g : Grammar) (layers : List Layer) (ks : List Piece) (cs : List Placed) → (r : Reads g (Gap ∷ ks) cs) → run g (Want layers) cs ≡ run g (Want layers) r.1
wanted-gap g layers ks cs r = ap (run g (Want layers)) r.2 ∙ gap-want g layers r.0 r.1 r.3

-- a gap behind a tree, and then a character that goes on
record Goes (g : Grammar) (state next : State) (ks : List Piece) (cs : List Placed) : Type 0 where
  rest : List Placed
  runs : run g state cs ≡ run g next rest
  reads : Reads g ks rest

goes-on : (g : Grammar) (state next : State) (tree : Tree) (layers : List Layer) (k : Kind) (ks : List Piece) (cs : List Placed) → IsFollower k → IsAtTree g state tree layers →
    behind g k tree layers ≡ Some next → Reads g (Gap ∷ One k ∷ ks) cs → Goes g state next ks cs
goes-on g state next tree layers k ks cs f a b r =
    let one = first g k ks r.1 r.4 in
    record {
      rest = one.back;
      runs = ap (run g state) (r.2 ∙ ap (λ xs. r.0 ++ xs) one.both) ∙ gap-then g state next tree layers r.0 one.p one.back k f one.kind r.3 a b;
      reads = one.reads;
    }

behind-mark : (g : Grammar) (operator : Operator) (left top : Tree) (layers above : List Layer) → strength operator ≤ rank left → Takes layers (strength operator) →
    ((floor : ℕ) → floor ≤ rank left → fold floor top above ≡ fold floor left layers) →
    behind g (kind.Mark operator) top above ≡ Some (Want (PairLayer operator left ∷ layers))
behind-mark g operator left top layers above h t folds =
    ap (λ folded. Some (joined operator folded)) (folds (strength operator) h ∙ fold-none (strength operator) left layers (strength-most operator) t)

behind-close : (g : Grammar) (inner top : Tree) (layers above : List Layer) (next : State) → closed inner layers ≡ Some next → Takes layers 0 →
    ((floor : ℕ) → floor ≤ rank inner → fold floor top above ≡ fold floor inner layers) → behind g kind.Close top above ≡ Some next
behind-close g inner top layers above next c t folds =
    ap (λ (folded : Folded). closed folded.tree folded.layers) (folds 0 (omega arith) ∙ fold-none 0 inner layers (omega arith) t) ∙ c

behind-comma : (g : Grammar) (inner top : Tree) (layers above : List Layer) (next : State) → parted inner layers ≡ Some next → Takes layers 0 →
    ((floor : ℕ) → floor ≤ rank inner → fold floor top above ≡ fold floor inner layers) → behind g kind.Comma top above ≡ Some next
behind-comma g inner top layers above next c t folds =
    ap (λ (folded : Folded). parted folded.tree folded.layers) (folds 0 (omega arith) ∙ fold-none 0 inner layers (omega arith) t) ∙ c

pair-folds : (floor : ℕ) (operator : Operator) (left right : Tree) (layers : List Layer) → floor ≤ strength operator → fold floor right (PairLayer operator left ∷ layers) ≡ fold floor (Pair operator left right) layers
pair-folds floor operator left right layers h =
    if-true (nat_le floor (strength operator)) (fold floor (Pair operator left right) layers) (record { tree = right; layers = PairLayer operator left ∷ layers }) (le-test floor (strength operator) h)

mutual
  pub leads : (g : Grammar) (tree : Tree) (layers : List Layer) (ks : List Piece) (cs : List Placed) → IsOf g tree → Takes layers (rank tree) → Reads g (spell tree ks) cs → Leads g layers tree ks cs
  leads g (Number form bits) layers ks cs i t r = lead-number g layers form bits ks cs r
  leads g Here layers ks cs i t r = lead-here g layers ks cs i r
  leads g (Ordinary asked symbol) layers ks cs i t r = lead-ordinary g layers asked symbol ks cs i r
  leads g (Variable asked symbol NoTrees) layers ks cs i t r =
      let n = at-name g layers asked symbol ks cs i.0 r in
      leaf-part g layers (Variable asked symbol NoTrees) (Named asked symbol.at symbol.name) ks cs n.rest (finish-named g asked symbol.at symbol.name) n.runs n.reads
  leads g (Variable asked symbol (More others last)) layers ks cs i t r =
      let n = at-name g layers asked symbol (spell_subscripts (More others last) ks) cs i.0 r in
      let b = leads-begin g others layers asked symbol (Gap ∷ spell last (Gap ∷ One kind.Close ∷ ks)) n.rest i.1.0 n.reads in
      let inside : List Layer = SubscriptLayer asked symbol others ∷ layers in
      let l = leads g last inside (Gap ∷ One kind.Close ∷ ks) b.reads.1 i.1.1 tt b.reads.4 in
      let c = goes-on g l.state (Have (Variable asked symbol (More others last)) layers) l.top l.above kind.Close ks l.rest tt l.there
      (behind-close g last l.top inside l.above (Have (Variable asked symbol (More others last)) layers) refl tt l.folds) l.reads in
      leaf-tree g layers (Variable asked symbol (More others last)) ks cs c.rest
      (n.runs ∙ b.runs ∙ wanted-gap g inside (spell last (Gap ∷ One kind.Close ∷ ks)) b.rest b.reads ∙ l.runs ∙ c.runs) c.reads
  leads g (Signed sign operand) layers ks cs i t r =
      let f = first g (kind.Mark (mark_of sign)) (Gap ∷ spell operand ks) cs r in
      let inside : List Layer = SignLayer sign ∷ layers in
      let l = leads g operand inside ks f.reads.1 i.0 i.1 f.reads.4 in
      let high = i.1 in
      record {
        state = l.state;
        rest = l.rest;
        top = l.top;
        above = l.above;
        runs = ap (run g (Want layers)) f.both ∙ run-step g (Want layers) (Want inside) f.p f.back (step-sign g layers sign f.p f.kind)
            ∙ wanted-gap g inside (spell operand ks) f.back f.reads ∙ l.runs;
        reads = l.reads;
        there = l.there;
        folds = λ floor h. l.folds floor (omega arith);
      }
  leads g (Pair operator left right) layers ks cs i t r =
      let l = leads g left layers (Gap ∷ One (kind.Mark operator) ∷ Gap ∷ spell right ks) cs i.0 (takes-more layers (strength operator) (rank left) i.2 t) r in
      let inside : List Layer = PairLayer operator left ∷ layers in
      let c = goes-on g l.state (Want inside) l.top l.above (kind.Mark operator) (Gap ∷ spell right ks) l.rest tt l.there (behind-mark g operator left l.top layers l.above i.2 t l.folds) l.reads in
      let m = leads g right inside ks c.reads.1 i.1 i.3 c.reads.4 in
      let high = i.3 in
      record {
        state = m.state;
        rest = m.rest;
        top = m.top;
        above = m.above;
        runs = l.runs ∙ c.runs ∙ wanted-gap g inside (spell right ks) c.rest c.reads ∙ m.runs;
        reads = m.reads;
        there = m.there;
        folds = λ floor h. m.folds floor (omega arith) ∙ pair-folds floor operator left right layers h;
      }
  leads g (Paren inner) layers ks cs i t r =
      let f = first g kind.Open (Gap ∷ spell inner (Gap ∷ One kind.Close ∷ ks)) cs r in
      let inside : List Layer = OpenLayer ∷ layers in
      let l = leads g inner inside (Gap ∷ One kind.Close ∷ ks) f.reads.1 i tt f.reads.4 in
      let c = goes-on g l.state (Have (Paren inner) layers) l.top l.above kind.Close ks l.rest tt l.there
      (behind-close g inner l.top inside l.above (Have (Paren inner) layers) refl tt l.folds) l.reads in
      leaf-tree g layers (Paren inner) ks cs c.rest
      (ap (run g (Want layers)) f.both ∙ run-step g (Want layers) (Want inside) f.p f.back (step-open g layers f.p f.kind)
      ∙ wanted-gap g inside (spell inner (Gap ∷ One kind.Close ∷ ks)) f.back f.reads ∙ l.runs ∙ c.runs) c.reads
  leads g _ layers ks cs i t r = absurd i

  -- up to where the next subscript is wanted
  leads-begin : (g : Grammar) (trees : Trees) (layers : List Layer) (asked : Reference) (symbol : Symbol) (ks : List Piece) (cs : List Placed) → AreOf g trees →
      Reads g (begin_subscripts trees ks) cs → Goes g (Within (Named asked symbol.at symbol.name) layers) (Want (SubscriptLayer asked symbol trees ∷ layers)) ks cs
  leads-begin g NoTrees layers asked symbol ks cs i r =
      let f = first g kind.Open ks cs r in
      record {
        rest = f.back;
        runs = ap (run g (Within (Named asked symbol.at symbol.name) layers)) f.both
            ∙ run-step g (Within (Named asked symbol.at symbol.name) layers) (Want (SubscriptLayer asked symbol NoTrees ∷ layers)) f.p f.back (step-begins g layers asked symbol f.p f.kind);
        reads = f.reads;
      }
  leads-begin g (More others last) layers asked symbol ks cs i r =
      let b = leads-begin g others layers asked symbol (Gap ∷ spell last (Gap ∷ One kind.Comma ∷ ks)) cs i.0 r in
      let inside : List Layer = SubscriptLayer asked symbol others ∷ layers in
      let l = leads g last inside (Gap ∷ One kind.Comma ∷ ks) b.reads.1 i.1 tt b.reads.4 in
      let c = goes-on g l.state (Want (SubscriptLayer asked symbol (More others last) ∷ layers)) l.top l.above kind.Comma ks l.rest tt l.there
      (behind-comma g last l.top inside l.above (Want (SubscriptLayer asked symbol (More others last) ∷ layers)) refl tt l.folds) l.reads in
      record { rest = c.rest; runs = b.runs ∙ wanted-gap g inside (spell last (Gap ∷ One kind.Comma ∷ ks)) b.rest b.reads ∙ l.runs ∙ c.runs; reads = c.reads }

-- the state in which a text ends, and its tree
pub record Accepted (g : Grammar) (cs : List Placed) (tree : Tree) : Type 0 where
  pub last : State
  pub runs : run g (Want []) cs ≡ Some last
  pub accepts : accept g last ≡ Some tree

accept-at : (g : Grammar) (state : State) (tree : Tree) (layers : List Layer) → IsAtTree g state tree layers → accept g state ≡ whole (fold 0 tree layers)
unfolding accept
accept-at g state tree layers (as_tree s) = ap (λ x. option_and_then whole (settled g x)) s
accept-at g state tree layers (as_part part s f) =
    ap (λ x. option_and_then whole (settled g x)) s ∙ ap (λ found. option_and_then whole (option_map (λ t. fold 0 t layers) found)) f

-- each text of a tree is read, and its tree is that
pub accepted : (g : Grammar) (tree : Tree) (cs : List Placed) → IsOf g tree → Reads g (Gap ∷ spell tree (Gap ∷ [])) cs → Accepted g cs tree
accepted g tree cs i r =
    let l = leads g tree [] (Gap ∷ []) r.1 i tt r.4 in
    let gap : l.rest ≡ l.reads.0 = l.reads.2 ∙ ap (λ xs. l.reads.0 ++ xs) l.reads.4 ∙ append-nil l.reads.0 in
    let e = gap-end g l.state l.top l.above l.reads.0 l.reads.3 l.there in
    record {
      last = e.last;
      runs = wanted-gap g [] (spell tree (Gap ∷ [])) cs r ∙ l.runs ∙ ap (run g l.state) gap ∙ e.runs;
      accepts = accept-at g e.last l.top l.above e.there ∙ ap whole (l.folds 0 (omega arith));
    }
