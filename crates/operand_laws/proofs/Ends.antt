-- Behind an expression no parenthesis and no comma goes on.
use Rattle.std.proofs.Common.{◌≡◌, ◌∙◌, ℕ, ◌+◌, ◌-◌, ◌<◌, ◌≤◌, inl, inr, List, [], ◌∷◌, ◌++◌, length, take, refl, sym, ap, subst, arith, append_assoc, append-nil, length-append}
use Rattle.std.specs.Prelude.{Option, Some, None, option_and_then, option_map}
use Rattle.std.proofs.lemmas.Bool.{false≢true, cases_lt}
use Rattle.expression_grammar.specs.declared.character.Grammar.TheVariants.{Ordinary}
use Rattle.expression_grammar.specs.declared.character.Kind.TheVariants as kind
use Rattle.expression_grammar.specs.declared.part.Part.{Part}
use Rattle.expression_grammar.specs.declared.part.Part.TheVariants.{Figures, Body, BodyQuote, BodyAmpersand, Asked, Sigil, Word, Property, Named}
use Rattle.expression_grammar.specs.declared.part.Move.TheVariants.{Over}
use Rattle.expression_grammar.specs.declared.tree.Form.TheVariants.{Decimal, Hexadecimal, Binary, Character}
use Rattle.expression_grammar.specs.Characters.{kind_of}
use Rattle.expression_grammar.specs.Parts.{after, after_figures, after_quote, after_word, after_property, finish, IsPart}
use Rattle.expression_grammar.specs.Reading.{Layer, State, Want, Have, Within, Folded, fold, closed, parted, behind, ended, moved, step, whole, accept, kept, advance, Holds, Reaches}
use Rattle.expression_grammar.specs.Spelling.{Placed, placed, Spells, IsExpression, IsViable, most_parts}
use Rattle.expression_grammar.specs.Trees.{Tree}
use Rattle.expression_grammar.proofs.Finds.{no-expression, reaches-start, ends-open, whole-some, take-all, take-past}
use Rattle.expression_grammar.proofs.Leads.{as_part, step-behind}
use Rattle.expression_grammar.proofs.LeadsOf.{accepted}
use Rattle.expression_grammar.proofs.ReadLaws.{whole-viable}
use Rattle.expression_grammar.proofs.Steps.{AllHold, runs, starts}
use Rattle.expression_grammar.proofs.Weights.{accept-size}
use Rattle.operand_laws.specs.Right.{IsOrdinary}
use Rattle.operand_laws.proofs.Lists.{Split, inside, beyond, split}

-- a parenthesis or a comma
pub data IsEnd (c : ℕ) : Type 0 where
  opens : c ≡ 40 → IsEnd c
  closes : c ≡ 41 → IsEnd c
  parts : c ≡ 44 → IsEnd c

-- a term that is whole has ended before an opening parenthesis
over-open : (part : Part) (p : Placed) → p.code ≡ 40 → IsPart Ordinary part → (found : Tree) → finish Ordinary part ≡ Some found → after Ordinary part p ≡ Over part
unfolding after finish kind_of
over-open (Figures Decimal n v) p e i found h = ap (λ c. after_figures Decimal n v c) e
over-open (Figures Hexadecimal n v) p e i found h = cc
over-open (Figures Binary n v) p e i found h = cc
over-open (Figures Character n v) p e i found h = cc
over-open (Body n v) p e i found h = cc
over-open (BodyQuote n v) p e i found h = ap (λ c. after_quote (kind_of c) n v c) e
over-open (BodyAmpersand n v) p e i found h = cc
over-open (Asked asked) p e i found h = cc
over-open (Sigil asked place) p e i found h = cc
over-open (Word place name) p e i found h = ap (λ c. after_word Ordinary (kind_of c) place name c) e
over-open (Property asked place name) p e i found h = ap (λ c. after_property (kind_of c) asked place name c) e
over-open (Named asked place name) p e i found h = absurd (false≢true i)

-- where nothing is open, a closing parenthesis and a comma have nothing to close and to part
closed-none : (found : Tree) (layers : List Layer) (tree : Tree) → whole (fold 0 found layers) ≡ Some tree →
    closed (fold 0 found layers).tree (fold 0 found layers).layers ≡ None
closed-none found layers tree w =
    let f : Folded = fold 0 found layers in ap (λ l. closed f.tree l) (whole-some f.tree f.layers tree w).0

parted-none : (found : Tree) (layers : List Layer) (tree : Tree) → whole (fold 0 found layers) ≡ Some tree →
    parted (fold 0 found layers).tree (fold 0 found layers).layers ≡ None
parted-none found layers tree w =
    let f : Folded = fold 0 found layers in ap (λ l. parted f.tree l) (whole-some f.tree f.layers tree w).0

have-stops : (found : Tree) (layers : List Layer) (tree : Tree) (c : ℕ) → whole (fold 0 found layers) ≡ Some tree → IsEnd c →
    behind Ordinary (kind_of c) found layers ≡ None
unfolding kind_of
have-stops found layers tree c w (opens e) = ap (λ x. behind Ordinary (kind_of x) found layers) e
have-stops found layers tree c w (closes e) = ap (λ x. behind Ordinary (kind_of x) found layers) e ∙ closed-none found layers tree w
have-stops found layers tree c w (parts e) = ap (λ x. behind Ordinary (kind_of x) found layers) e ∙ parted-none found layers tree w

kind-41 : (c : ℕ) → c ≡ 41 → kind_of c ≡ kind.Close
unfolding kind_of
kind-41 c e = ap kind_of e

kind-44 : (c : ℕ) → c ≡ 44 → kind_of c ≡ kind.Comma
unfolding kind_of
kind-44 c e = ap kind_of e

part-stops : (part : Part) (layers : List Layer) (p : Placed) (tree : Tree) → IsPart Ordinary part → (found : Option Tree) → finish Ordinary part ≡ found →
    option_and_then whole (option_map (λ t. fold 0 t layers) found) ≡ Some tree → IsEnd p.code → step Ordinary (Within part layers) p ≡ None
unfolding step
part-stops part layers p tree i None h w end = cc
part-stops part layers p tree i (Some found) h w (opens e) =
    ap (λ m. moved Ordinary m (kind_of p.code) layers) (over-open part p e i found h)
    ∙ ap (λ f. ended Ordinary f (kind_of p.code) layers) h ∙ have-stops found layers tree p.code w (opens e)
part-stops part layers p tree i (Some found) h w (closes e) =
    step-behind Ordinary (Within part layers) found layers p kind.Close tt (kind-41 p.code e) (as_part part refl h) ∙ closed-none found layers tree w
part-stops part layers p tree i (Some found) h w (parts e) =
    step-behind Ordinary (Within part layers) found layers p kind.Comma tt (kind-44 p.code e) (as_part part refl h) ∙ parted-none found layers tree w

state-stops : (state : State) (p : Placed) (tree : Tree) (cs : List Placed) → Holds Ordinary state cs → accept Ordinary state ≡ Some tree → IsEnd p.code →
    step Ordinary state p ≡ None
unfolding step accept
state-stops (Want layers) p tree cs h a end = cc
state-stops (Have found layers) p tree cs h a end = have-stops found layers tree p.code a end
state-stops (Within part layers) p tree cs h a end = part-stops part layers p tree h.stands.0 (finish Ordinary part) refl a end

-- behind an expression none goes on
pub nothing_behind : (text : List ℕ) → IsOrdinary text → (c : ℕ) → IsEnd c → (rest : List ℕ) → IsViable (Spells Ordinary) most_parts (text ++ c ∷ rest) → ⊥
unfolding advance
nothing_behind text o c end rest v =
    let e = o.expression in
    let all = accepted Ordinary o.tree (placed 0 text) e.spells.fits e.spells.reads in
    let p : Placed = record { at = length text; code = c } in
    let held : Holds Ordinary all.last (placed 0 text) =
    subst (λ (s : Option State). AllHold Ordinary s (placed 0 text)) all.runs (runs Ordinary (placed 0 text) (Want []) [] (starts Ordinary)) in
    let none : step Ordinary all.last p ≡ None = state-stops all.last p o.tree (placed 0 text) held all.accepts end in
    let small = e.small in
    let measure = accept-size Ordinary all.last o.tree all.accepts in
    let reaches : Reaches Ordinary most_parts text all.last = record { runs = all.runs; small = omega arith } in
    no-expression Ordinary most_parts text c all.last reaches (ap (option_and_then (kept most_parts)) none) (rest ++ v.rest) v.tree
    (subst (λ (xs : List ℕ). IsExpression (Spells Ordinary) most_parts xs v.tree) (append_assoc text (c ∷ rest) v.rest) v.expression)

-- none begins with a comma, and the empty text is none
pub no_comma : (rest : List ℕ) → IsViable (Spells Ordinary) most_parts (44 ∷ rest) → ⊥
unfolding advance step kind_of
no_comma rest v = no-expression Ordinary most_parts [] 44 (Want []) (reaches-start Ordinary most_parts (omega arith)) refl (rest ++ v.rest) v.tree v.expression

pub not_empty : IsOrdinary [] → ⊥
unfolding accept
not_empty o = (ends-open Ordinary most_parts [] (Want []) (reaches-start Ordinary most_parts (omega arith)) refl).none o.tree o.expression

pub viable : (text : List ℕ) → IsOrdinary text → IsViable (Spells Ordinary) most_parts text
viable text o = whole-viable (Spells Ordinary) text o.tree o.expression

pub viable_front : (text rest : List ℕ) → IsViable (Spells Ordinary) most_parts (text ++ rest) → IsViable (Spells Ordinary) most_parts text
viable_front text rest v = record {
  rest = rest ++ v.rest;
  tree = v.tree;
  expression = subst (λ (xs : List ℕ). IsExpression (Spells Ordinary) most_parts xs v.tree) (append_assoc text rest v.rest) v.expression;
}

-- a text that is an expression before such a character is so in one way
pub record AreSame (d f : List ℕ) (x y : ℕ) (u w : List ℕ) : Type 0 where
  pub first : d ≡ f
  pub character : x ≡ y
  pub rest : u ≡ w

same-inside : (d f : List ℕ) (x y : ℕ) (u w e : List ℕ) → IsOrdinary d → IsOrdinary f → IsEnd x → f ≡ d ++ e → x ∷ u ≡ e ++ y ∷ w → AreSame d f x y u w
same-inside d f x y u w [] od of end p q = record { first = sym (p ∙ append-nil d); character = cc; rest = cc }
same-inside d f x y u w (z ∷ e) od of end p q =
    let same : z ≡ x = cc in
    absurd (nothing_behind d od x end e
    (subst (IsViable (Spells Ordinary) most_parts) (p ∙ ap (λ k. d ++ k ∷ e) same) (viable f of)))

pub same_ends : (d f : List ℕ) (x y : ℕ) (u w : List ℕ) → IsOrdinary d → IsOrdinary f → IsEnd x → IsEnd y → d ++ x ∷ u ≡ f ++ y ∷ w → AreSame d f x y u w
same_ends d f x y u w od of ex ey h = by (split d (x ∷ u) f (y ∷ w) h)
  where
    by : Split d (x ∷ u) f (y ∷ w) → AreSame d f x y u w
    by (inside e p q) = same-inside d f x y u w e od of ex p q
    by (beyond z e p q) =
        let same : z ≡ y = cc in
        absurd (nothing_behind f of y ey e
        (subst (IsViable (Spells Ordinary) most_parts) (p ∙ ap (λ k. f ++ k ∷ e) same) (viable d od)))

pub starts_comma : (d : List ℕ) → IsOrdinary d → (c : ℕ) (u v : List ℕ) → d ++ c ∷ u ≡ 44 ∷ v → ⊥
starts_comma [] o c u v h = not_empty o
starts_comma (x ∷ d) o c u v h =
    let same : x ≡ 44 = cc in
    no_comma d (subst (λ (k : ℕ). IsViable (Spells Ordinary) most_parts (k ∷ d)) same (viable (x ∷ d) o))

-- how far a text can be read that is an expression before such a character
pub stops_at : (text : List ℕ) (at : ℕ) → IsViable (Spells Ordinary) most_parts (take at text) →
    ((more : ℕ) → at < more → more ≤ length text → IsViable (Spells Ordinary) most_parts (take more text) → ⊥) →
    (d : List ℕ) (c : ℕ) (z : List ℕ) → text ≡ d ++ c ∷ z → IsOrdinary d → IsEnd c → at ≡ length d
stops_at text at begun longest d c z is o end =
    let counted : length text ≡ length d + length (c ∷ z) = ap length is ∙ length-append d (c ∷ z) in
    elim (cases_lt at (length d)) [
      | inl less ↦ absurd (longest (length d) less (omega arith)
          (subst (IsViable (Spells Ordinary) most_parts) (sym (ap (take (length d)) is ∙ take-all d (c ∷ z))) (viable d o)))
      | inr ge ↦ elim (cases_lt (length d) at) [
        | inl more ↦ absurd (nothing_behind d o c end (take (at - length d - 1) z)
            (subst (IsViable (Spells Ordinary) most_parts) (ap (take at) is ∙ take-past d c z at more) begun))
        | inr le ↦ omega arith
      ]
    ]
