-- Every text of a character expression leads to its tree.
use Rattle.std.proofs.Common.{◌≡◌, ℕ, false, List, [], ◌∷◌, ◌++◌, refl, sym, ap, ◌∙◌}
use Rattle.std.specs.Prelude.{◌==◌, Option, Some, None, if◌then◌else◌}
use Rattle.std.specs.Char.{to_ascii_uppercase}
use Rattle.hl_base.specs.Symbols.{symbol_of}
use Rattle.expression_grammar.specs.declared.character.Grammar.TheVariants.{Arithmetic}
use Rattle.expression_grammar.specs.declared.character.Kind.TheVariants as kind
use Rattle.expression_grammar.specs.declared.tree.Attribute.TheVariants as attribute
use Rattle.expression_grammar.specs.declared.tree.Operator.TheVariants as operator
use Rattle.expression_grammar.specs.declared.tree.Reference.TheVariants.{Of}
use Rattle.expression_grammar.specs.declared.tree.Symbol.{Symbol}
use Rattle.expression_grammar.specs.Characters.{kind_of}
use Rattle.expression_grammar.specs.Spelling as spelling
use Rattle.expression_grammar.specs.Spelling.{Placed, Piece, Gap, One, Capital, Letters, Period, Reads, IsOf, AreOf, codes, spell, spell_subscripts}
use Rattle.expression_grammar.specs.Trees.{Tree, Items, Ordinary, Variable, Quoted, Duplicated, Substring, SubstringToEnd, Joined, NoTrees, More, NoItems}
use Rattle.expression_grammar.specs.Parts.{symbol_at}
use Rattle.expression_grammar.specs.Reading as reading
use Rattle.expression_grammar.specs.Reading.{Want}
use Rattle.character_grammar.specs.Texts.{spell_text, spell_items, AreItems, IsCut, IsUnit, IsText}
use Rattle.character_grammar.specs.TextReading.{Opened, AsType, Factor, Start, TextState, WantPart, WantQuote, Inside, Naming, Closed, Within, WantCount, Star, Letter, Asked, Sigil, Word, Done, joined, built, with_plain, typed, typed_name, after_part, begin_part, begin_quoted, go_naming, after_closed, begin_count, after_star, after_letter, after_asked, after_sigil, go_word, text_step, text_run, text_accept}
use Rattle.expression_grammar.proofs.CharacterLaws.{letter-kind, upper-letter}
use Rattle.expression_grammar.proofs.Leads.{first-capital}
use Rattle.character_grammar.proofs.TextPlain.{no-codes}
use Rattle.character_grammar.proofs.TextLeads.{text_run-step, Reached, reached-one, reached-then, Whole, reached-arithmetic, reached-count, reached-gap, count-blank, whole-name, reached-letters, naming-grows, word-grows, reached-subscripts}
use Rattle.character_grammar.proofs.TextItems.{lead-closed}

-- a part is whole, and then come these pieces
pub record PartLead (tree : Tree) (from : TextState) (ks : List Piece) (cs : List Placed) : Type 0 where
  pub state : TextState
  pub rest : List Placed
  pub runs : text_run from cs ≡ text_run state rest
  pub reads : Reads Arithmetic ks rest
  pub there : Whole state tree

reached-part : (tree : Tree) (from state : TextState) (ks : List Piece) (cs : List Placed) → Reached from state ks cs → Whole state tree → PartLead tree from ks cs
reached-part tree from state ks cs r w = record { state = state; rest = r.rest; runs = r.runs; reads = r.reads; there = w }

part-from : (tree : Tree) (from mid : TextState) (js ks : List Piece) (cs : List Placed) → Reached from mid js cs → ((ds : List Placed) → Reads Arithmetic js ds → PartLead tree mid ks ds) → PartLead tree from ks cs
part-from tree from mid js ks cs l more =
    let n : PartLead tree mid ks l.rest = more l.rest l.reads in
    record { state = n.state; rest = n.rest; runs = l.runs ∙ n.runs; reads = n.reads; there = n.there }

-- Whole parts.

part-goes : (tree : Tree) (c : ℕ) → c ≡ 46 → after_part tree c ≡ Some (WantPart (Some tree))
part-goes tree c e = ap (after_part tree) e

done-whole : (tree : Tree) → Whole (Done tree) tree
unfolding text_step text_accept
done-whole tree = record { accepts = refl; goes = λ p e. part-goes tree p.code e }

closed-goes : (opened : Opened) (items : Items) (plain : List ℕ) (c : ℕ) → c ≡ 46 → after_closed opened items plain (kind_of c) c ≡ Some (WantPart (Some (built opened (Quoted (with_plain items plain)))))
unfolding kind_of
closed-goes opened items plain c e = ap (λ x. after_closed opened items plain (kind_of x) x) e

closed-whole : (opened : Opened) (before items : Items) (plain : List ℕ) → with_plain before plain ≡ items → Whole (Closed opened before plain) (built opened (Quoted items))
unfolding text_step text_accept
closed-whole opened before items plain w =
    record {
      accepts = ap (λ x. Some (built opened (Quoted x))) w;
      goes = λ p e. closed-goes opened before plain p.code e ∙ ap (λ x. Some (WantPart (Some (built opened (Quoted x))))) w;
    }

naming-goes : (left : Option Tree) (place : ℕ) (name : List ℕ) (p : Placed) → p.code ≡ 46 → go_naming (AsType left) place name (kind_of p.code) p ≡ Some (WantPart (Some (typed left (symbol_at place name) NoTrees)))
unfolding kind_of
naming-goes left place name p e =
    ap (λ x. go_naming (AsType left) place name (kind_of x) p) e ∙ part-goes (typed left (symbol_at place name) NoTrees) p.code e

naming-whole : (left : Option Tree) (symbol : Symbol) → Whole (Naming (AsType left) symbol.at symbol.name) (typed left symbol NoTrees)
unfolding text_step text_accept
naming-whole left symbol = record { accepts = refl; goes = λ p e. naming-goes left symbol.at symbol.name p e }

word-goes : (left : Option Tree) (place : ℕ) (name : List ℕ) (c : ℕ) → c ≡ 46 → go_word left place name (kind_of c) c ≡ Some (WantPart (Some (typed_name left place name)))
unfolding kind_of
word-goes left place name c e = ap (λ x. go_word left place name (kind_of x) x) e

word-whole : (left : Option Tree) (symbol : Symbol) → Whole (Word left symbol.at symbol.name) (joined left (Ordinary (Of attribute.Type) symbol))
unfolding text_step text_accept
word-whole left symbol = record { accepts = refl; goes = λ p e. word-goes left symbol.at symbol.name p.code e }

-- Quoted texts and parts of them.

step-start : (opened : Opened) (before items : Items) (plain : List ℕ) (p : Placed) → with_plain before plain ≡ items → kind_of p.code ≡ kind.Open → text_step (Closed opened before plain) p ≡ Some (Within (Start opened items) (Want []))
unfolding text_step
step-start opened before items plain p w e = ap (λ k. after_closed opened before plain k p.code) e ∙ ap (λ x. Some (Within (Start opened x) (Want []))) w

step-star : (opened : Opened) (items : Items) (start : Tree) (p : Placed) → kind_of p.code ≡ kind.Mark operator.Multiply → text_step (WantCount opened items start) p ≡ Some (Star opened items start)
unfolding text_step
step-star opened items start p e = ap (begin_count opened items start (reading.step Arithmetic (Want []) p)) e

star-blank : (opened : Opened) (items : Items) (start : Tree) (p : Placed) → kind_of p.code ≡ kind.Blank → text_step (Star opened items start) p ≡ Some (Star opened items start)
unfolding text_step
star-blank opened items start p e = ap (after_star opened items start) e

step-close : (opened : Opened) (items : Items) (start : Tree) (p : Placed) → kind_of p.code ≡ kind.Close → text_step (Star opened items start) p ≡ Some (Done (built opened (SubstringToEnd (Quoted items) start)))
unfolding text_step
step-close opened items start p e = ap (after_star opened items start) e

-- the `*` of a substring, with the blanks around it
reached-star : (opened : Opened) (items : Items) (start : Tree) (ks : List Piece) (cs : List Placed) → Reads Arithmetic (Gap ∷ One (kind.Mark operator.Multiply) ∷ Gap ∷ One kind.Close ∷ ks) cs →
    Reached (WantCount opened items start) (Done (built opened (SubstringToEnd (Quoted items) start))) ks cs
reached-star opened items start ks cs r =
    let wanted : TextState = WantCount opened items start in
    let star : TextState = Star opened items start in
    let done : TextState = Done (built opened (SubstringToEnd (Quoted items) start)) in
    reached-then wanted wanted done (One (kind.Mark operator.Multiply) ∷ Gap ∷ One kind.Close ∷ ks) ks cs
    (reached-gap wanted (One (kind.Mark operator.Multiply) ∷ Gap ∷ One kind.Close ∷ ks) cs (count-blank opened items start) r)
    (λ ds s. reached-then wanted star done (Gap ∷ One kind.Close ∷ ks) ks ds (reached-one wanted star (kind.Mark operator.Multiply) (Gap ∷ One kind.Close ∷ ks) ds (step-star opened items start) s)
    (λ es t. reached-then star star done (One kind.Close ∷ ks) ks es (reached-gap star (One kind.Close ∷ ks) es (star-blank opened items start) t)
    (λ fs u. reached-one star done kind.Close ks fs (step-close opened items start) u)))

-- the operands of a substring, from where the first is wanted
start-lead : (tree : Tree) (opened : Opened) (items : Items) (from : TextState) (start : Tree) (js ks : List Piece) (cs : List Placed) → AreItems items → IsOf Arithmetic start →
    ((p : Placed) → kind_of p.code ≡ kind.Quote → text_step from p ≡ Some (Inside opened NoItems [])) →
    ((ds : List Placed) → Reads Arithmetic js ds → PartLead tree (WantCount opened items start) ks ds) →
    Reads Arithmetic (One kind.Quote ∷ spell_items items false (One kind.Quote ∷ One kind.Open ∷ Gap ∷ spell start (Gap ∷ One kind.Comma ∷ js))) cs → PartLead tree from ks cs
start-lead tree opened items from start js ks cs a i begins more r =
    let c = lead-closed opened items from (One kind.Open ∷ Gap ∷ spell start (Gap ∷ One kind.Comma ∷ js)) cs a begins r in
    let l = part-from tree (Closed opened c.before c.plain) (Within (Start opened items) (Want [])) (Gap ∷ spell start (Gap ∷ One kind.Comma ∷ js)) ks c.rest
    (reached-one (Closed opened c.before c.plain) (Within (Start opened items) (Want [])) kind.Open (Gap ∷ spell start (Gap ∷ One kind.Comma ∷ js)) c.rest (λ p e. step-start opened c.before items c.plain p c.same e) c.reads)
    (λ ds s. part-from tree (Within (Start opened items) (Want [])) (WantCount opened items start) js ks ds
    (reached-arithmetic (Start opened items) start kind.Comma (WantCount opened items start) js ds i refl refl s) more) in
    record { state = l.state; rest = l.rest; runs = c.runs ∙ l.runs; reads = l.reads; there = l.there }

cut-lead : (opened : Opened) (tree : Tree) (from : TextState) (ks : List Piece) (cs : List Placed) → IsCut tree → ((p : Placed) → kind_of p.code ≡ kind.Quote → text_step from p ≡ Some (Inside opened NoItems [])) →
    Reads Arithmetic (spell_text tree ks) cs → PartLead (built opened tree) from ks cs
cut-lead opened (Quoted items) from ks cs i begins r =
    let c = lead-closed opened items from ks cs i begins r in
    record { state = Closed opened c.before c.plain; rest = c.rest; runs = c.runs; reads = c.reads; there = closed-whole opened c.before items c.plain c.same }
cut-lead opened (Substring (Quoted items) start count) from ks cs i begins r =
    start-lead (built opened (Substring (Quoted items) start count)) opened items from start (Gap ∷ spell count (Gap ∷ One kind.Close ∷ ks)) ks cs i.0 i.1 begins
    (λ ds s. reached-part (built opened (Substring (Quoted items) start count)) (WantCount opened items start) (Done (built opened (Substring (Quoted items) start count))) ks ds
    (reached-count opened items start count ks ds i.2 s) (done-whole (built opened (Substring (Quoted items) start count)))) r
cut-lead opened (SubstringToEnd (Quoted items) start) from ks cs i begins r =
    let whole : Tree = built opened (SubstringToEnd (Quoted items) start) in
    start-lead whole opened items from start (Gap ∷ One (kind.Mark operator.Multiply) ∷ Gap ∷ One kind.Close ∷ ks) ks cs i.0 i.1 begins
    (λ ds s. reached-part whole (WantCount opened items start) (Done whole) ks ds (reached-star opened items start ks ds s) (done-whole whole)) r
cut-lead opened (Substring _ start count) from ks cs i begins r = absurd i.0
cut-lead opened (SubstringToEnd _ start) from ks cs i begins r = absurd i.0
cut-lead opened _ from ks cs i begins r = absurd i

step-part : (left : Option Tree) (p : Placed) → kind_of p.code ≡ kind.Quote → text_step (WantPart left) p ≡ Some (Inside (record { left = left; factor = None }) NoItems [])
unfolding text_step
step-part left p e = ap (λ k. begin_part left k p.code) e

step-factor : (left : Option Tree) (p : Placed) → kind_of p.code ≡ kind.Open → text_step (WantPart left) p ≡ Some (Within (Factor left) (Want []))
unfolding text_step
step-factor left p e = ap (λ k. begin_part left k p.code) e

step-quoted : (left : Option Tree) (factor : Tree) (p : Placed) → kind_of p.code ≡ kind.Quote → text_step (WantQuote left factor) p ≡ Some (Inside (record { left = left; factor = Some factor }) NoItems [])
unfolding text_step
step-quoted left factor p e = ap (begin_quoted left factor) e

-- The type of a symbol.

step-letter : (left : Option Tree) (q : Placed) → to_ascii_uppercase q.code ≡ 84 → text_step (WantPart left) q ≡ Some (Letter left)
unfolding text_step
step-letter left q e =
    ap (λ k. begin_part left k q.code) (letter-kind q.code (upper-letter q.code 84 e refl)) ∙ ap (λ u. if u == 84 then Some (Letter left) else None) e

step-asked : (left : Option Tree) (p : Placed) → kind_of p.code ≡ kind.Quote → text_step (Letter left) p ≡ Some (Asked left)
unfolding text_step
step-asked left p e = ap (after_letter left) e

step-sigil : (left : Option Tree) (p : Placed) → kind_of p.code ≡ kind.Ampersand → text_step (Asked left) p ≡ Some (Sigil left p.at)
unfolding text_step
step-sigil left p e = ap (λ k. after_asked left k p) e

step-word : (left : Option Tree) (p : Placed) → kind_of p.code ≡ kind.Letter → text_step (Asked left) p ≡ Some (Word left p.at (to_ascii_uppercase p.code ∷ []))
unfolding text_step
step-word left p e = ap (λ k. after_asked left k p) e

step-name : (left : Option Tree) (place : ℕ) (p : Placed) → kind_of p.code ≡ kind.Letter → text_step (Sigil left place) p ≡ Some (Naming (AsType left) place (to_ascii_uppercase p.code ∷ []))
unfolding text_step
step-name left place p e = ap (λ k. after_sigil left place k p.code) e

asked-lead : (left : Option Tree) (ks : List Piece) (cs : List Placed) → Reads Arithmetic (Capital 84 ∷ One kind.Quote ∷ ks) cs → Reached (WantPart left) (Asked left) ks cs
asked-lead left ks cs r =
    let f = first-capital Arithmetic 84 ks cs r in
    record {
      rest = f.back;
      runs = ap (text_run (WantPart left)) f.both ∙ text_run-step (WantPart left) (Letter left) f.q (f.p ∷ f.back) (step-letter left f.q f.upper) ∙ text_run-step (Letter left) (Asked left) f.p f.back (step-asked left f.p f.kind);
      reads = f.reads;
    }

word-lead : (left : Option Tree) (symbol : Symbol) (ks : List Piece) (cs : List Placed) → Reads Arithmetic (spelling.Word symbol.at symbol.name ∷ ks) cs → Reached (Asked left) (Word left symbol.at symbol.name) ks cs
word-lead left symbol ks cs r =
    let w = r.3 in
    record {
      rest = r.1;
      runs = ap (text_run (Asked left)) (r.2 ∙ ap (λ xs. xs ++ r.1) w.both)
          ∙ whole-name (Word left symbol.at) (Asked left) (word-grows left symbol.at) w.first w.others r.1 symbol.name
          (λ k. step-word left w.first k ∙ ap (λ x. Some (Word left x (to_ascii_uppercase w.first.code ∷ []))) w.here) (ap (λ xs. symbol_of (codes xs)) (sym w.both) ∙ w.named);
      reads = r.4;
    }

sigil-lead : (left : Option Tree) (symbol : Symbol) (ks : List Piece) (cs : List Placed) → Reads Arithmetic (spelling.Sigil symbol.at ∷ Letters symbol.name ∷ ks) cs → Reached (Asked left) (Naming (AsType left) symbol.at symbol.name) ks cs
sigil-lead left symbol ks cs r =
    let p : Placed = r.3.one in
    record {
      rest = r.4.1;
      runs = ap (text_run (Asked left)) (r.2 ∙ ap (λ xs. xs ++ r.1) r.3.only)
          ∙ text_run-step (Asked left) (Sigil left symbol.at) p r.1 (step-sigil left p r.3.kind ∙ ap (λ x. Some (Sigil left x)) r.3.here)
          ∙ ap (text_run (Sigil left symbol.at)) r.4.2
          ∙ reached-letters (Naming (AsType left) symbol.at) (Sigil left symbol.at) (naming-grows (AsType left) symbol.at) (step-name left symbol.at) r.4.0 r.4.1 symbol.name r.4.3;
      reads = r.4.4;
    }

-- Parts, and whole expressions.

unit-lead : (left : Option Tree) (tree : Tree) (ks : List Piece) (cs : List Placed) → IsUnit tree → Reads Arithmetic (spell_text tree ks) cs → PartLead (joined left tree) (WantPart left) ks cs
unit-lead left (Quoted items) ks cs i r = cut-lead (record { left = left; factor = None }) (Quoted items) (WantPart left) ks cs i (step-part left) r
unit-lead left (Substring text start count) ks cs i r = cut-lead (record { left = left; factor = None }) (Substring text start count) (WantPart left) ks cs i (step-part left) r
unit-lead left (SubstringToEnd text start) ks cs i r = cut-lead (record { left = left; factor = None }) (SubstringToEnd text start) (WantPart left) ks cs i (step-part left) r
unit-lead left (Duplicated factor text) ks cs i r =
    part-from (joined left (Duplicated factor text)) (WantPart left) (Within (Factor left) (Want [])) (Gap ∷ spell factor (Gap ∷ One kind.Close ∷ spell_text text ks)) ks cs
    (reached-one (WantPart left) (Within (Factor left) (Want [])) kind.Open (Gap ∷ spell factor (Gap ∷ One kind.Close ∷ spell_text text ks)) cs (step-factor left) r)
    (λ ds s. part-from (joined left (Duplicated factor text)) (Within (Factor left) (Want [])) (WantQuote left factor) (spell_text text ks) ks ds
    (reached-arithmetic (Factor left) factor kind.Close (WantQuote left factor) (spell_text text ks) ds i.0 refl refl s)
    (λ es t. cut-lead (record { left = left; factor = Some factor }) text (WantQuote left factor) ks es i.1 (step-quoted left factor) t))
unit-lead left (Ordinary (Of attribute.Type) symbol) ks cs i r =
    part-from (joined left (Ordinary (Of attribute.Type) symbol)) (WantPart left) (Asked left) (spelling.Word symbol.at symbol.name ∷ ks) ks cs (asked-lead left (spelling.Word symbol.at symbol.name ∷ ks) cs r)
    (λ ds s. reached-part (joined left (Ordinary (Of attribute.Type) symbol)) (Asked left) (Word left symbol.at symbol.name) ks ds (word-lead left symbol ks ds s) (word-whole left symbol))
unit-lead left (Variable (Of attribute.Type) symbol NoTrees) ks cs i r =
    part-from (typed left symbol NoTrees) (WantPart left) (Asked left) (spelling.Sigil symbol.at ∷ Letters symbol.name ∷ ks) ks cs (asked-lead left (spelling.Sigil symbol.at ∷ Letters symbol.name ∷ ks) cs r)
    (λ ds s. reached-part (typed left symbol NoTrees) (Asked left) (Naming (AsType left) symbol.at symbol.name) ks ds (sigil-lead left symbol ks ds s) (naming-whole left symbol))
unit-lead left (Variable (Of attribute.Type) symbol (More others last)) ks cs i r =
    let whole : Tree = typed left symbol (More others last) in
    let js : List Piece = spell_subscripts (More others last) ks in
    part-from whole (WantPart left) (Asked left) (spelling.Sigil symbol.at ∷ Letters symbol.name ∷ js) ks cs (asked-lead left (spelling.Sigil symbol.at ∷ Letters symbol.name ∷ js) cs r)
    (λ ds s. part-from whole (Asked left) (Naming (AsType left) symbol.at symbol.name) js ks ds (sigil-lead left symbol js ds s)
    (λ es t. reached-part whole (Naming (AsType left) symbol.at symbol.name) (Done whole) ks es (reached-subscripts others last (AsType left) symbol ks es i t) (done-whole whole)))
unit-lead left _ ks cs i r = absurd i

period-lead : (state : TextState) (tree : Tree) (ks : List Piece) (cs : List Placed) → Whole state tree → Reads Arithmetic (Period ∷ ks) cs → Reached state (WantPart (Some tree)) ks cs
period-lead state tree ks cs w r = at-period r.0 r.3 refl
  where
    at-period : (front : List Placed) → codes front ≡ 46 ∷ [] → front ≡ r.0 → Reached state (WantPart (Some tree)) ks cs
    at-period [] e f = cc
    at-period (p ∷ front) e f =
        let code : p.code ≡ 46 = cc in
        let none : codes front ≡ [] = cc in
        record {
          rest = r.1;
          runs = ap (text_run state) (r.2 ∙ ap (λ xs. xs ++ r.1) (sym f ∙ ap (λ xs. p ∷ xs) (no-codes front none))) ∙ text_run-step state (WantPart (Some tree)) p r.1 (w.goes p code);
          reads = r.4;
        }

text-lead : (tree : Tree) (ks : List Piece) (cs : List Placed) → IsText tree → Reads Arithmetic (spell_text tree ks) cs → PartLead tree (WantPart None) ks cs
text-lead (Joined left right) ks cs i r =
    let l = text-lead left (Period ∷ spell_text right ks) cs i.0 r in
    let p = period-lead l.state left (spell_text right ks) l.rest l.there l.reads in
    let n = unit-lead (Some left) right ks p.rest i.1 p.reads in
    record { state = n.state; rest = n.rest; runs = l.runs ∙ p.runs ∙ n.runs; reads = n.reads; there = n.there }
text-lead (Quoted items) ks cs i r = unit-lead None (Quoted items) ks cs i r
text-lead (Substring text start count) ks cs i r = unit-lead None (Substring text start count) ks cs i r
text-lead (SubstringToEnd text start) ks cs i r = unit-lead None (SubstringToEnd text start) ks cs i r
text-lead (Duplicated factor text) ks cs i r = unit-lead None (Duplicated factor text) ks cs i r
text-lead (Ordinary (Of attribute.Type) symbol) ks cs i r = unit-lead None (Ordinary (Of attribute.Type) symbol) ks cs i r
text-lead (Variable (Of attribute.Type) symbol subscripts) ks cs i r = unit-lead None (Variable (Of attribute.Type) symbol subscripts) ks cs i r
text-lead _ ks cs i r = absurd i

-- the state in which a text ends, and its tree
pub record TextAccepted (cs : List Placed) (tree : Tree) : Type 0 where
  pub last : TextState
  pub runs : text_run (WantPart None) cs ≡ Some last
  pub accepts : text_accept last ≡ Some tree

-- each text of a tree is read, and its tree is that
pub text_accepted : (tree : Tree) (cs : List Placed) → IsText tree → Reads Arithmetic (spell_text tree []) cs → TextAccepted cs tree
text_accepted tree cs i r =
    let l = text-lead tree [] cs i r in
    record { last = l.state; runs = l.runs ∙ ap (text_run l.state) l.reads; accepts = l.there.accepts }
