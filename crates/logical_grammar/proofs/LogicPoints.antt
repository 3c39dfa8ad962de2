-- Within an operand of a logical expression, and where one begins, each character keeps what is known of the text.
use Rattle.std.proofs.Common.{◌≡◌, Bool, true, false, List, [], ◌∷◌, ◌++◌, refl, sym, ap, ◌∙◌, subst, arith, append_assoc, inl, inr}
use Rattle.std.specs.Prelude.{Option, Some, None, option_map, option_and_then}
use Rattle.hl_base.specs.Symbols.{is_symbol_character}
use Rattle.expression_grammar.specs.declared.character.Grammar.TheVariants.{Arithmetic}
use Rattle.expression_grammar.specs.declared.character.Kind.TheVariants as kind
use Rattle.expression_grammar.specs.declared.part.Part.{Part}
use Rattle.expression_grammar.specs.Characters.{kind_of}
use Rattle.expression_grammar.specs.Trees.{Tree}
use Rattle.expression_grammar.specs.Spelling.{Placed, Gap, IsGap}
use Rattle.expression_grammar.specs.Parts.{finish}
use Rattle.expression_grammar.specs.Reading as reading
use Rattle.expression_grammar.specs.Reading.{Layer, State, Want as WantTerm, Have, Within, Holds}
use Rattle.logical_grammar.specs.Logics.{IsNumber, IsCharacters, comparison_word, touches_ahead}
use Rattle.logical_grammar.specs.LogicReading.{Open, OpenRelation, Number, Text, at_point, number_side, text_side, settled, behind, on_number, on_text, number_begun, text_begun}
use Rattle.logical_grammar.specs.LogicStanding.{AreOpen, Under, behind_word, is_empty, Begun, IsSide, Behind, PointReads, LogicHolds}
use Rattle.character_grammar.specs.TextReading.{TextState, WantPart, text_step, text_accept}
use Rattle.character_grammar.specs.TextStanding.{TextHolds}
use Rattle.expression_grammar.proofs.Pieces.{append-nil, reads-one}
use Rattle.expression_grammar.proofs.Leads.{as_tree, as_part, step-behind}
use Rattle.expression_grammar.proofs.Steps.{AllHold, steps}
use Rattle.expression_grammar.proofs.Finds.{accept-spells}
use Rattle.character_grammar.proofs.TextSteps.{AllTextHold, text_steps, text_starts}
use Rattle.character_grammar.proofs.TextFinds.{text_accept-spells}
use Rattle.logical_grammar.proofs.LogicUnder.{ahead-kept, behind-last, some-last, comparison-some, joined-some, joined-more, under-grows, under-became}
use Rattle.logical_grammar.proofs.LogicOperands.{AllLogicHold, OperandReads, Whole, TakesBlank, behind_one-holds}

-- A comparison with its left side, and what stands behind it.

pub relation-grows : (is_text : Bool) (relation : Option OpenRelation) (IsPart IsOther : List Placed → Type 0) (text ds : List Placed) → ((u : List Placed) → IsPart u → IsOther (u ++ ds)) →
    ((u : List Placed) → IsPart u → touches_ahead u ≡ false → touches_ahead (u ++ ds) ≡ false) → Behind is_text relation IsPart text → Behind is_text relation IsOther (text ++ ds)
relation-grows is_text None IsPart IsOther text ds g h b = g text b
relation-grows is_text (Some relation) IsPart IsOther text ds g h b = joined-more (IsSide is_text relation.left) IsPart IsOther (comparison_word relation.comparison) text ds b (g b.right b.second) (h b.right b.second)

pub relation-some : (is_text : Bool) (relation : Option OpenRelation) (IsPart : List Placed → Type 0) (text : List Placed) → ((u : List Placed) → IsPart u → is_empty u ≡ false) → Behind is_text relation IsPart text → is_empty text ≡ false
relation-some is_text None IsPart text f b = f text b
relation-some is_text (Some relation) IsPart text f b =
    joined-some (IsSide is_text relation.left) IsPart (comparison_word relation.comparison) text b (comparison-some relation.comparison b.letters b.named)

-- Numbers.

pub gap-holds : (text : List Placed) → IsGap Arithmetic text → Holds Arithmetic (WantTerm []) text
gap-holds text i = record { stands = tt; reads = reads-one Arithmetic Gap text i }

next-holds : (inner next : State) (text : List Placed) (p : Placed) → reading.step Arithmetic inner p ≡ Some next → Holds Arithmetic inner text → Holds Arithmetic next (text ++ p ∷ [])
next-holds inner next text p s h = subst (λ (found : Option State). AllHold Arithmetic found (text ++ p ∷ [])) s (steps Arithmetic inner p text h)

-- a number is read on
abbrev pub NumberPart : State → List Placed → Type 0
NumberPart inner part = Holds Arithmetic inner part × (is_empty part ≡ false)

number-next : (relation : Option OpenRelation) (inner next : State) (touch : Bool) (layers : List Open) (p : Placed) (text : List Placed) → reading.step Arithmetic inner p ≡ Some next → AreOpen layers →
    Under layers (PointReads (behind_word layers) (Number relation inner touch)) text → LogicHolds (at_point layers (Number relation next (is_symbol_character p.code))) (text ++ p ∷ [])
number-next relation inner next touch layers p text s a r =
    let touch_next : Bool = is_symbol_character p.code in
    let grows : (u : List Placed) → Behind false relation (NumberPart inner) u → Behind false relation (NumberPart next) (u ++ p ∷ []) =
    λ u b. relation-grows false relation (NumberPart inner) (NumberPart next) u (p ∷ []) (λ v h. (next-holds inner next v p s h.0, some-last v p)) (λ v h t. ahead-kept v (p ∷ []) h.1 t) b in
    record {
      ordered = a;
      reads = under-grows layers (PointReads (behind_word layers) (Number relation inner touch)) (PointReads (behind_word layers) (Number relation next touch_next)) text (p ∷ []) a
          (λ u b. (grows u b.0, sym (behind-last u p))) (λ w u b t. ahead-kept u (p ∷ []) (relation-some false relation (NumberPart inner) u (λ v h. h.1) b.0) t) r;
    }

pub number-of : (inner : State) (tree : Tree) (text : List Placed) → reading.accept Arithmetic inner ≡ Some tree → Holds Arithmetic inner text → IsNumber tree text
number-of inner tree text e h = let s = accept-spells Arithmetic text inner tree h e in record { fits = s.0; reads = s.1 }

pub side-reads : (relation : Option OpenRelation) (inner : State) (tree : Tree) (text : List Placed) → reading.accept Arithmetic inner ≡ Some tree → Behind false relation (NumberPart inner) text → OperandReads (number_side relation tree) text
side-reads None inner tree text e b = number-of inner tree text e b.0
side-reads (Some relation) inner tree text e b = (
  inl (record {
    left = b.left;
    letters = b.letters;
    right = b.right;
    all = b.all;
    first = b.first;
    second = number-of inner tree b.right e b.second.0;
    named = b.named;
    apart_left = b.apart_left;
    apart_right = b.apart_right;
  }),
  omega arith,
)

-- a number takes each blank behind it
blank-part : (part : Part) (layers : List Layer) (tree : Tree) (p : Placed) (found : Option Tree) → finish Arithmetic part ≡ found → kind_of p.code ≡ kind.Blank →
    option_and_then reading.whole (option_map (λ t. reading.fold 0 t layers) found) ≡ Some tree → reading.step Arithmetic (Within part layers) p ≡ None → ⊥
blank-part part layers tree p None f e a s = cc
blank-part part layers tree p (Some found) f e a s =
    let b : reading.step Arithmetic (Within part layers) p ≡ Some (Have found layers) = step-behind Arithmetic (Within part layers) found layers p kind.Blank tt e (as_part part refl f) in cc

number-blanks : (inner : State) (tree : Tree) (p : Placed) → reading.accept Arithmetic inner ≡ Some tree → reading.step Arithmetic inner p ≡ None → kind_of p.code ≡ kind.Blank → ⊥
unfolding reading.accept
number-blanks (WantTerm layers) tree p a s e = cc
number-blanks (Have found layers) tree p a s e =
    let b : reading.step Arithmetic (Have found layers) p ≡ Some (Have found layers) = step-behind Arithmetic (Have found layers) found layers p kind.Blank tt e (as_tree refl) in cc
number-blanks (Within part layers) tree p a s e = blank-part part layers tree p (finish Arithmetic part) refl e a s

takes-blank : (relation : Option OpenRelation) (tree : Tree) → ⊥ → TakesBlank (number_side relation tree)
takes-blank relation tree n = absurd n

number-behind : (relation : Option OpenRelation) (inner : State) (touch : Bool) (layers : List Open) (p : Placed) (text : List Placed) → reading.step Arithmetic inner p ≡ None → AreOpen layers →
    Under layers (PointReads (behind_word layers) (Number relation inner touch)) text → (found : Option Tree) → reading.accept Arithmetic inner ≡ found →
    AllLogicHold (behind (option_map (number_side relation) found) touch p layers) (text ++ p ∷ [])
number-behind relation inner touch layers p text s a r None e = tt
number-behind relation inner touch layers p text s a r (Some tree) e =
    behind_one-holds (number_side relation tree) touch (kind_of p.code) layers p text (λ k. takes-blank relation tree (number-blanks inner tree p e s k)) a refl
    (under-became layers (PointReads (behind_word layers) (Number relation inner touch)) (Whole (number_side relation tree) touch) text (λ u b. (side-reads relation inner tree u e b.0, sym b.1)) r)

pub number-holds : (relation : Option OpenRelation) (inner : State) (touch : Bool) (layers : List Open) (p : Placed) (text : List Placed) → AreOpen layers →
    Under layers (PointReads (behind_word layers) (Number relation inner touch)) text → (found : Option State) → reading.step Arithmetic inner p ≡ found →
    AllLogicHold (on_number relation found (settled (Number relation inner touch)) touch p layers) (text ++ p ∷ [])
number-holds relation inner touch layers p text a r None s = number-behind relation inner touch layers p text s a r (reading.accept Arithmetic inner) refl
number-holds relation inner touch layers p text a r (Some next) s = number-next relation inner next touch layers p text s a r

-- Texts.

abbrev pub TextPart : TextState → List Placed → Type 0
TextPart inner part = Begun inner part × (is_empty part ≡ false)

text_next-holds : (inner next : TextState) (text : List Placed) (p : Placed) → text_step inner p ≡ Some next → TextHolds inner text → TextHolds next (text ++ p ∷ [])
text_next-holds inner next text p s h = subst (λ (found : Option TextState). AllTextHold found (text ++ p ∷ [])) s (text_steps inner p text h)

pub begun-next : (inner next : TextState) (text : List Placed) (p : Placed) → text_step inner p ≡ Some next → Begun inner text → Begun next (text ++ p ∷ [])
begun-next inner next text p s b =
    record {
      before = b.before;
      core = b.core ++ p ∷ [];
      all = ap (λ xs. xs ++ p ∷ []) b.all ∙ append_assoc b.before b.core (p ∷ []);
      blank = b.blank;
      holds = text_next-holds inner next b.core p s b.holds;
    }

text-next : (relation : Option OpenRelation) (inner next : TextState) (touch : Bool) (layers : List Open) (p : Placed) (text : List Placed) → text_step inner p ≡ Some next → AreOpen layers →
    Under layers (PointReads (behind_word layers) (Text relation inner touch)) text → LogicHolds (at_point layers (Text relation next (is_symbol_character p.code))) (text ++ p ∷ [])
text-next relation inner next touch layers p text s a r =
    let touch_next : Bool = is_symbol_character p.code in
    let grows : (u : List Placed) → Behind true relation (TextPart inner) u → Behind true relation (TextPart next) (u ++ p ∷ []) =
    λ u b. relation-grows true relation (TextPart inner) (TextPart next) u (p ∷ []) (λ v h. (begun-next inner next v p s h.0, some-last v p)) (λ v h t. ahead-kept v (p ∷ []) h.1 t) b in
    record {
      ordered = a;
      reads = under-grows layers (PointReads (behind_word layers) (Text relation inner touch)) (PointReads (behind_word layers) (Text relation next touch_next)) text (p ∷ []) a
          (λ u b. (grows u b.0, sym (behind-last u p))) (λ w u b t. ahead-kept u (p ∷ []) (relation-some true relation (TextPart inner) u (λ v h. h.1) b.0) t) r;
    }

characters-of : (inner : TextState) (tree : Tree) (text : List Placed) → text_accept inner ≡ Some tree → Begun inner text → IsCharacters tree text
characters-of inner tree text e b =
    let s = text_accept-spells b.core inner tree b.holds e in
    record { before = b.before; core = b.core; behind = []; all = b.all ∙ sym (append-nil (b.before ++ b.core)); blank_before = b.blank; blank_behind = tt; fits = s.0; reads = s.1 }

pub text_side-reads : (relation : Option OpenRelation) (inner : TextState) (tree : Tree) (text : List Placed) → text_accept inner ≡ Some tree → Behind true relation (TextPart inner) text → OperandReads (text_side relation tree) text
text_side-reads None inner tree text e b = characters-of inner tree text e b.0
text_side-reads (Some relation) inner tree text e b = (
  inr (record {
    left = b.left;
    letters = b.letters;
    right = b.right;
    all = b.all;
    first = b.first;
    second = characters-of inner tree b.right e b.second.0;
    named = b.named;
    apart_left = b.apart_left;
    apart_right = b.apart_right;
  }),
  omega arith,
)

text_takes-blank : (relation : Option OpenRelation) (tree : Tree) → TakesBlank (text_side relation tree)
text_takes-blank None tree = tt
text_takes-blank (Some relation) tree = tt

text-behind : (relation : Option OpenRelation) (inner : TextState) (touch : Bool) (layers : List Open) (p : Placed) (text : List Placed) → AreOpen layers →
    Under layers (PointReads (behind_word layers) (Text relation inner touch)) text → (found : Option Tree) → text_accept inner ≡ found →
    AllLogicHold (behind (option_map (text_side relation) found) touch p layers) (text ++ p ∷ [])
text-behind relation inner touch layers p text a r None e = tt
text-behind relation inner touch layers p text a r (Some tree) e =
    behind_one-holds (text_side relation tree) touch (kind_of p.code) layers p text (λ k. text_takes-blank relation tree) a refl
    (under-became layers (PointReads (behind_word layers) (Text relation inner touch)) (Whole (text_side relation tree) touch) text (λ u b. (text_side-reads relation inner tree u e b.0, sym b.1)) r)

pub text-holds : (relation : Option OpenRelation) (inner : TextState) (touch : Bool) (layers : List Open) (p : Placed) (text : List Placed) → AreOpen layers →
    Under layers (PointReads (behind_word layers) (Text relation inner touch)) text → (found : Option TextState) → text_step inner p ≡ found →
    AllLogicHold (on_text relation found (settled (Text relation inner touch)) touch p layers) (text ++ p ∷ [])
text-holds relation inner touch layers p text a r None s = text-behind relation inner touch layers p text a r (text_accept inner) refl
text-holds relation inner touch layers p text a r (Some next) s = text-next relation inner next touch layers p text s a r

-- Where an operand begins, above a text that goes on so.

pub number_begun-holds : (relation : Option OpenRelation) (IsPart : List Placed → Type 0) (layers : List Open) (p : Placed) (text : List Placed) → AreOpen layers →
    ((next : State) → reading.step Arithmetic (WantTerm []) p ≡ Some next → (u : List Placed) → IsPart u → Behind false relation (λ part. Holds Arithmetic next part × (is_empty part ≡ false)) (u ++ p ∷ [])) →
    (behind_word layers ≡ true → (u : List Placed) → IsPart u → touches_ahead u ≡ false → touches_ahead (u ++ p ∷ []) ≡ false) → Under layers IsPart text →
    AllLogicHold (number_begun relation p layers) (text ++ p ∷ [])
number_begun-holds relation IsPart layers p text a g h r =
    let go : (found : Option State) → reading.step Arithmetic (WantTerm []) p ≡ found → AllLogicHold (on_number relation found None false p layers) (text ++ p ∷ []) =
    elim [
      | None ↦ λ s. tt
      | Some next ↦ λ s. record {
        ordered = a;
        reads = under-grows layers IsPart (PointReads (behind_word layers) (Number relation next (is_symbol_character p.code))) text (p ∷ []) a
            (λ u b. (g next s u b, sym (behind-last u p))) h r;
      }
    ] in
    go (reading.step Arithmetic (WantTerm []) p) refl

pub text_begun-holds : (relation : Option OpenRelation) (IsPart : List Placed → Type 0) (layers : List Open) (p : Placed) (text : List Placed) → AreOpen layers →
    ((next : TextState) → text_step (WantPart None) p ≡ Some next → (u : List Placed) → IsPart u → Behind true relation (λ part. Begun next part × (is_empty part ≡ false)) (u ++ p ∷ [])) →
    (behind_word layers ≡ true → (u : List Placed) → IsPart u → touches_ahead u ≡ false → touches_ahead (u ++ p ∷ []) ≡ false) → Under layers IsPart text →
    AllLogicHold (text_begun relation p layers) (text ++ p ∷ [])
text_begun-holds relation IsPart layers p text a g h r =
    let go : (found : Option TextState) → text_step (WantPart None) p ≡ found → AllLogicHold (on_text relation found None false p layers) (text ++ p ∷ []) =
    elim [
      | None ↦ λ s. tt
      | Some next ↦ λ s. record {
        ordered = a;
        reads = under-grows layers IsPart (PointReads (behind_word layers) (Text relation next (is_symbol_character p.code))) text (p ∷ []) a
            (λ u b. (g next s u b, sym (behind-last u p))) h r;
      }
    ] in
    go (text_step (WantPart None) p) refl

-- a gap, and the first character of a number or of a text
pub number-first : (next : State) (gap : List Placed) (p : Placed) → reading.step Arithmetic (WantTerm []) p ≡ Some next → IsGap Arithmetic gap → NumberPart next (gap ++ p ∷ [])
number-first next gap p s i = (next-holds (WantTerm []) next gap p s (gap-holds gap i), some-last gap p)

pub part-first : (next : TextState) (gap : List Placed) (p : Placed) → text_step (WantPart None) p ≡ Some next → IsGap Arithmetic gap → TextPart next (gap ++ p ∷ [])
part-first next gap p s i =
    (begun-next (WantPart None) next gap p s (record { before = gap; core = []; all = sym (append-nil gap); blank = i; holds = text_starts }), some-last gap p)
