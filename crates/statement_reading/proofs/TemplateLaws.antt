-- Fields with variable symbols, as they are written and as they are read.
use Rattle.std.proofs.Common.{◌≡◌, ◌∙◌, ◌+◌, ◌-◌, ◌<◌, ◌≤◌, ℕ, zero, suc, Bool, true, false, List, [], ◌∷◌, length, take, drop, refl, sym, ap, subst, arith, append-nil, if◌then◌else◌}
use Rattle.std.specs.Prelude.{◌==◌, ◌||◌, Option, Some, None, Result, Ok, Err, MatchResult, map, slice_index}
use Rattle.std.proofs.Math.ListN.{drop_of_length-le}
use Rattle.std.proofs.Math.Seq.{take-length}
use Rattle.std.proofs.lemmas.Bool.{true≢false}
use Rattle.std.proofs.lemmas.List.{length-drop}
use Rattle.expression_grammar.specs.declared.fault.SyntaxFault.{SyntaxFault}
use Rattle.expression_grammar.specs.declared.fault.SyntaxFault.TheVariants.{At, OutOfMemory}
use Rattle.expression_grammar.specs.Reading.{accept}
use Rattle.expression_grammar.specs.Trees.{Tree}
use Rattle.expression_grammar.specs.Views.{tree_of}
use Rattle.conditional_fields.specs.declared.template.Piece.{Piece}
use Rattle.conditional_fields.specs.declared.template.Piece.TheVariants.{Plain, Variable}
use Rattle.conditional_fields.specs.declared.template.Template.{Template}
use Rattle.conditional_fields.specs.Answers.{Says, behind_these}
use Rattle.conditional_fields.specs.Readings.{IsFault}
use Rattle.conditional_fields.specs.Templates.{IsPiece, IsSymbolWith, IsTemplate, IsUnreadable, Reads, behind_symbol, has_subscripts, plain_length}
use Rattle.conditional_fields.proofs.AnswerLaws.{behind-nothing}
use Rattle.statement_reading.specs.Symbols.{Found, reach, symbol}
use Rattle.statement_reading.specs.Templates.{Part, plain, variable, and_more, has_ampersand, next, parts_in, plain_parts, template}
use Rattle.statement_reading.specs.Views.{part_of, parts_of}
use Rattle.statement_reading.proofs.SymbolLaws.{reach-read, symbol-none, symbol-some}

-- ---- one piece

next-plain : (n : ℕ) (found : Option Found) (field rest : List ℕ) (others : List ℕ → Result (List Part) ℕ) → 0 < n → next n found field rest others ≡ and_more (plain (take n rest)) (others (drop n rest))
next-plain zero found field rest others some = absurd (omega arith)
next-plain (suc n) found field rest others some = refl

next-symbol : (n : ℕ) (found : Found) (field rest : List ℕ) (others : List ℕ → Result (List Part) ℕ) → n ≡ 0 →
    next n (Some found) field rest others ≡ and_more (variable found.tree) (others (behind_symbol (drop found.count rest)))
next-symbol zero found field rest others none = refl
next-symbol (suc n) found field rest others none = absurd (omega arith)

next-broken : (n : ℕ) (field rest : List ℕ) (others : List ℕ → Result (List Part) ℕ) → n ≡ 0 → next n None field rest others ≡ Err (length field - length rest + reach rest)
next-broken zero field rest others none = refl
next-broken (suc n) field rest others none = absurd (omega arith)

-- a symbol has a character, and an empty text has no piece
symbol-counts : (subscripts : Bool) (text : List ℕ) (count : ℕ) (tree : Tree) → IsSymbolWith subscripts text count tree → 0 < count
symbol-counts true text count tree is = let e = is.2 in omega arith
symbol-counts false text count tree is = let e = is.0 in omega arith

no-symbol : symbol [] ≡ None
unfolding accept
no-symbol = refl

no-piece : (piece : Piece) (behind : List ℕ) → IsPiece [] piece behind → ⊥
no-piece (Plain characters) behind is = let some = is.0 in omega arith
no-piece (Variable tree) behind is =
    let found : symbol [] ≡ Some (record { tree = tree_of tree; count = is.1.0 }) = symbol-some (has_subscripts []) [] is.1.0 (tree_of tree) is.1.1 in
    let none = no-symbol in
    absurd (cc)

shorter : (n : ℕ) (text : List ℕ) (steps : ℕ) → length text ≤ suc steps → 0 < n → length (drop n text) ≤ steps
shorter n text steps fits some = let e = length-drop n text in omega arith

period-shorter : (b : Bool) (rest : List ℕ) (steps : ℕ) → length rest ≤ steps → length (if b then drop 1 rest else rest) ≤ steps
period-shorter true rest steps fits = let e = length-drop 1 rest in omega arith
period-shorter false rest steps fits = fits

-- some steps, enough for what is left, come to what is read behind some parts
pub record Comes (field text : List ℕ) (steps : ℕ) (parts : List Part) (behind : List ℕ) : Type 0 where
  pub left : ℕ
  pub fits : length behind ≤ left
  pub reads : parts_in steps field text ≡ behind_these parts (parts_in left field behind)

and-behind : (part : Part) (o : Result (List Part) ℕ) → and_more part o ≡ behind_these (part ∷ []) o
and-behind part (Ok parts) = refl
and-behind part (Err at) = refl

piece-comes : (field text behind : List ℕ) (piece : Piece) (steps : ℕ) → length text ≤ steps → IsPiece text piece behind → Comes field text steps (part_of piece ∷ []) behind
piece-comes field [] behind piece steps fits is = absurd (no-piece piece behind is)
piece-comes field (c ∷ rest) behind piece zero fits is = absurd (omega arith)
piece-comes field (c ∷ rest) behind (Plain characters) (suc steps) fits is =
    let text : List ℕ = c ∷ rest in
    let n : ℕ = plain_length false text in
    record {
      left = steps;
      fits = subst (λ (t : List ℕ). length t ≤ steps) (sym is.2) (shorter n text steps fits is.0);
      reads = next-plain n (symbol text) field text (λ others. parts_in steps field others) is.0
          ∙ ap (λ t. and_more (plain (take n text)) (parts_in steps field t)) (sym is.2)
          ∙ ap (λ t. and_more (plain t) (parts_in steps field behind)) (sym is.1)
          ∙ and-behind (plain characters) (parts_in steps field behind);
    }
piece-comes field (c ∷ rest) behind (Variable tree) (suc steps) fits is =
    let text : List ℕ = c ∷ rest in
    let count : ℕ = is.1.0 in
    let found : symbol text ≡ Some (record { tree = tree_of tree; count = count }) = symbol-some (has_subscripts text) text count (tree_of tree) is.1.1 in
    record {
      left = steps;
      fits = subst (λ (t : List ℕ). length t ≤ steps) (sym is.1.2)
          (period-shorter (slice_index (drop count text) 0 == 46) (drop count text) steps (shorter count text steps fits (symbol-counts (has_subscripts text) text count (tree_of tree) is.1.1)));
      reads = ap (λ o. next (plain_length false text) o field text (λ others. parts_in steps field others)) found
          ∙ next-symbol (plain_length false text) (record { tree = tree_of tree; count = count }) field text (λ others. parts_in steps field others) is.0
          ∙ ap (λ t. and_more (variable (tree_of tree)) (parts_in steps field t)) (sym is.1.2)
          ∙ and-behind (variable (tree_of tree)) (parts_in steps field behind);
    }

-- ---- pieces behind one another

behind-both : (part : Part) (parts : List Part) (o : Result (List Part) ℕ) → behind_these (part ∷ []) (behind_these parts o) ≡ behind_these (part ∷ parts) o
behind-both part parts (Ok others) = refl
behind-both part parts (Err at) = refl

pieces-come : (field : List ℕ) (pieces : List Piece) (text behind : List ℕ) (steps : ℕ) → length text ≤ steps → Reads text pieces behind → Comes field text steps (map part_of pieces) behind
pieces-come field [] text behind steps fits same = record {
  left = steps;
  fits = subst (λ (t : List ℕ). length t ≤ steps) same fits;
  reads = ap (parts_in steps field) same ∙ behind-nothing (parts_in steps field behind);
}
pieces-come field (piece ∷ pieces) text behind steps fits reads =
    let one : Comes field text steps (part_of piece ∷ []) reads.0 = piece-comes field text reads.0 piece steps fits reads.1 in
    let others : Comes field reads.0 one.left (map part_of pieces) behind = pieces-come field pieces reads.0 behind one.left one.fits reads.2 in
    record {
      left = others.left;
      fits = others.fits;
      reads = one.reads ∙ ap (behind_these (part_of piece ∷ [])) others.reads ∙ behind-both (part_of piece) (map part_of pieces) (parts_in others.left field behind);
    }

nothing-left : (steps : ℕ) (field : List ℕ) → parts_in steps field [] ≡ Ok []
nothing-left zero field = refl
nothing-left (suc steps) field = refl

-- a field that is written of pieces is read as their parts
pub template-right : (field : List ℕ) (pieces : List Piece) → IsTemplate field pieces → template field ≡ Ok (map part_of pieces)
template-right field pieces is =
    let comes : Comes field field (length field) (map part_of pieces) [] = pieces-come field pieces field [] (length field) (omega arith) is in
    comes.reads ∙ ap (behind_these (map part_of pieces)) (nothing-left comes.left field) ∙ ap Ok (append-nil (map part_of pieces))

broken : (field rest : List ℕ) (steps : ℕ) → length rest ≤ steps → 0 < length rest → plain_length false rest ≡ 0 → symbol rest ≡ None → parts_in steps field rest ≡ Err (length field - length rest + reach rest)
broken field [] steps fits some begins none = absurd (omega arith)
broken field (c ∷ rest) zero fits some begins none = absurd (omega arith)
broken field (c ∷ rest) (suc steps) fits some begins none =
    ap (λ o. next (plain_length false (c ∷ rest)) o field (c ∷ rest) (λ others. parts_in steps field others)) none
    ∙ next-broken (plain_length false (c ∷ rest)) field (c ∷ rest) (λ others. parts_in steps field others) begins

-- and one that cannot be read goes wrong there
pub template-wrong : (field : List ℕ) (at : ℕ) → IsUnreadable field at → template field ≡ Err at
template-wrong field at is =
    let comes : Comes field field (length field) (map part_of is.pieces) is.rest = pieces-come field is.pieces field is.rest (length field) (omega arith) is.reads in
    let wrong : parts_in comes.left field is.rest ≡ Err (length field - length is.rest + reach is.rest) =
    broken field is.rest comes.left comes.fits is.some is.begins (symbol-none (has_subscripts is.rest) is.rest is.broken.none) in
    let place : length field - length is.rest + reach is.rest ≡ at = ap (λ n. length field - length is.rest + n) (sym (reach-read is.rest is.inside is.broken.reach)) ∙ sym is.place in
    comes.reads ∙ ap (behind_these (map part_of is.pieces)) wrong ∙ ap Err place

-- what the reader of a field answers
pub says_template : (field : List ℕ) (r : Result Template SyntaxFault) → MatchResult r (λ t. IsTemplate field t.pieces.items) (IsFault field) → Says parts_of (template field) r
says_template field (Ok found) is = template-right field found.pieces.items is
says_template field (Err (At at)) is = template-wrong field at is
says_template field (Err OutOfMemory) is = tt

-- ---- without an ampersand

no-first : (a b : Bool) → (a || b) ≡ false → a ≡ false
no-first true b e = e
no-first false b e = refl

no-others : (a b : Bool) → (a || b) ≡ false → b ≡ false
no-others true b e = absurd (true≢false e)
no-others false b e = e

plain-step : (second : Bool) (c : ℕ) (rest : List ℕ) → (c == 38) ≡ false → plain_length second (c ∷ rest) ≡ plain_length false rest + 1
plain-step true c rest e = refl
plain-step false c rest e = rw e refl

-- all of it is plain
plain-all : (text : List ℕ) (second : Bool) → has_ampersand text ≡ false → plain_length second text ≡ length text
plain-all [] second none = refl
plain-all (c ∷ rest) second none =
    let others : plain_length false rest ≡ length rest = plain-all rest false (no-others (c == 38) (has_ampersand rest) none) in
    plain-step second c rest (no-first (c == 38) (has_ampersand rest) none) ∙ omega (arith, others)

whole-plain : (n : ℕ) (found : Option Found) (field text : List ℕ) (steps : ℕ) → n ≡ length text → 0 < n → next n found field text (λ others. parts_in steps field others) ≡ Ok (plain text ∷ [])
whole-plain n found field text steps all some =
    next-plain n found field text (λ others. parts_in steps field others) some
    ∙ ap (λ t. and_more (plain t) (parts_in steps field (drop n text))) (ap (λ k. take k text) all ∙ take-length text)
    ∙ ap (λ t. and_more (plain text) (parts_in steps field t)) (drop_of_length-le text (omega arith))
    ∙ ap (and_more (plain text)) (nothing-left steps field)

-- a text without an ampersand is one part
pub template-plain : (text : List ℕ) → has_ampersand text ≡ false → template text ≡ Ok (plain_parts text)
template-plain [] none = refl
template-plain (c ∷ rest) none =
    whole-plain (plain_length false (c ∷ rest)) (symbol (c ∷ rest)) (c ∷ rest) (c ∷ rest) (length rest) (plain-all (c ∷ rest) false none)
    (let all = plain-all (c ∷ rest) false none in omega arith)
