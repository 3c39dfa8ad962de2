-- Each character keeps what is known of the text so far.
use Rattle.std.proofs.Common.{◌≡◌, ℕ, Bool, true, false, List, [], ◌∷◌, ◌++◌, length, refl, sym, ap, ◌∙◌, subst, arith, append_assoc, inl, inr}
use Rattle.std.specs.Prelude.{◌==◌, nat_lt, Option, Some, None, option_and_then, option_map, if◌then◌else◌}
use Rattle.std.specs.Char.{to_ascii_uppercase}
use Rattle.std.proofs.lemmas.Bool.Decides.{nat_tests}
use Rattle.hl_base.specs.Symbols.{is_letter, is_symbol_character}
use Rattle.expression_grammar.specs.declared.character.Grammar.TheVariants.{Arithmetic}
use Rattle.expression_grammar.specs.declared.character.Kind.{Kind}
use Rattle.expression_grammar.specs.declared.character.Kind.TheVariants as kind
use Rattle.expression_grammar.specs.declared.tree.Operator.TheVariants as operator
use Rattle.expression_grammar.specs.declared.tree.Symbol.{Symbol}
use Rattle.expression_grammar.specs.Characters.{kind_of}
use Rattle.expression_grammar.specs.Spelling as spelling
use Rattle.expression_grammar.specs.Spelling.{Placed, Piece, Gap, One, Capital, Letters, Plainly, Join, Period, Reads, IsPiece, IsOf, AreOf, codes, quoted, quoted_one, spell, spell_subscripts}
use Rattle.expression_grammar.specs.Trees.{Tree, Trees, Items, Quoted, Substring, SubstringToEnd, NoTrees, More, NoItems, Plain, Inserted}
use Rattle.expression_grammar.specs.Parts.{symbol_at}
use Rattle.expression_grammar.specs.Reading as reading
use Rattle.expression_grammar.specs.Reading.{State, Want, Holds}
use Rattle.character_grammar.specs.Texts.{spell_text, needs_period, is_lone, belongs, AreItems, IsCut, IsText}
use Rattle.character_grammar.specs.TextReading.{Opened, Holder, InText, AsType, Frame, Factor, Subscripts, Start, Count, TextState, WantPart, WantQuote, Inside, Lone, Naming, Behind, Closed, Within, WantCount, Star, Letter, Asked, Sigil, Word, Done, joined, duplicated, built, with_plain, typed, typed_name, after_part, begin_part, begin_quoted, go_inside, after_lone, after_symbol, after_name, lengthen, go_naming, after_closed, subscripted, leave, left_by, go_within, is_star, begin_count, after_star, after_letter, after_asked, after_sigil, lengthen_word, go_word, text_step, text_run}
use Rattle.character_grammar.specs.TextStanding.{ahead, times, open_text, inside, asked_type, held, unjoined, framed, parted, text_pieces, IsLeft, IsFactor, IsOpened, IsHolder, IsFrame, IsSubscripted, IsInside, TextStands, Rests, TextHolds}
use Rattle.expression_grammar.proofs.CharacterLaws.{kind-letter, kind-quote, kind-ampersand, kind-letter_symbol, kind-digit_symbol}
use Rattle.expression_grammar.proofs.Names.{letter-name}
use Rattle.expression_grammar.proofs.Pieces.{append-nil, reads-join, reads-cut, reads-one, reads-kind_gap, piece_of-one, last-turned, gap-longer, one_of}
use Rattle.expression_grammar.proofs.Appends.{spell-over}
use Rattle.expression_grammar.proofs.Terms.{name-grows, word-one, word-longer}
use Rattle.expression_grammar.proofs.Steps.{AllHold, runs, starts}
use Rattle.expression_grammar.proofs.Finds.{run-append, accept-spells}
use Rattle.expression_grammar.proofs.Completions.{run-step}
use Rattle.expression_grammar.proofs.Leads.{gap-want}
use Rattle.character_grammar.proofs.TextAppends.{spell_text-over, ahead-over, times-over, open_text-over, inside-over, asked_type-over, held-over, unjoined-over, framed-over}
use Rattle.character_grammar.proofs.TextPlain.{test, is_plain, is_letter_kind, is_name, plain-code, quoted-plain, no-letter, belongs-none, plain-longer, no-symbol, and-none, and-last, lone-false, lone-true, lone-past, period-none, period-first, parted-ampersand, parted-quote, with_plain-are, with_plain-lone, ampersand-once, no-codes}

-- what holds of a state, if there is one
abbrev pub AllTextHold : Option TextState → List Placed → Type 0
AllTextHold None text = Unit {0}
AllTextHold (Some state) text = TextHolds state text

-- Pieces behind others.

pub whole-of : (ks : List Piece) (cs front back : List Placed) → cs ≡ front ++ back → back ≡ [] → Reads Arithmetic ks front → Reads Arithmetic ks cs
whole-of ks cs front back e f r = subst (Reads Arithmetic ks) (sym (e ∙ ap (λ xs. front ++ xs) f ∙ append-nil front)) r

turned : (F : List Piece → List Piece) → ((ks js : List Piece) → F (ks ++ js) ≡ F ks ++ js) → (js other : List Piece) (cs ds : List Placed) →
    ((b : List Placed) → Reads Arithmetic js b → Reads Arithmetic other (b ++ ds)) → Reads Arithmetic (F js) cs → Reads Arithmetic (F other) (cs ++ ds)
turned F over js other cs ds turn r =
    let c = reads-cut Arithmetic (F []) js cs (subst (λ ks. Reads Arithmetic ks cs) (over [] js) r) in
    let e : cs ++ ds ≡ c.front ++ (c.back ++ ds) = ap (λ xs. xs ++ ds) c.both ∙ append_assoc c.front c.back ds in
    subst (Reads Arithmetic (F other)) (sym e)
    (subst (λ ks. Reads Arithmetic ks (c.front ++ (c.back ++ ds))) (sym (over [] other)) (reads-join Arithmetic (F []) other c.front (c.back ++ ds) c.first (turn c.back c.second)))

pub added : (F : List Piece → List Piece) → ((ks js : List Piece) → F (ks ++ js) ≡ F ks ++ js) → (js ks : List Piece) (cs ds : List Placed) →
    Reads Arithmetic (F js) cs → Reads Arithmetic ks ds → Reads Arithmetic (F (js ++ ks)) (cs ++ ds)
added F over js ks cs ds r s = turned F over js (js ++ ks) cs ds (λ b q. reads-join Arithmetic js ks b ds q s) r

became : (F : List Piece → List Piece) → ((ks js : List Piece) → F (ks ++ js) ≡ F ks ++ js) → (js other : List Piece) (cs : List Placed) →
    ((b : List Placed) → Reads Arithmetic js b → Reads Arithmetic other b) → Reads Arithmetic (F js) cs → Reads Arithmetic (F other) cs
became F over js other cs turn r =
    subst (Reads Arithmetic (F other)) (append-nil cs) (turned F over js other cs [] (λ b q. subst (Reads Arithmetic other) (sym (append-nil b)) (turn b q)) r)

one : (k : Kind) (p : Placed) → kind_of p.code ≡ k → Reads Arithmetic (One k ∷ []) (p ∷ [])
one k p e = reads-one Arithmetic (One k) (p ∷ []) (one_of k p e)

sigil : (p : Placed) → kind_of p.code ≡ kind.Ampersand → Reads Arithmetic (spelling.Sigil p.at ∷ []) (p ∷ [])
sigil p e = reads-one Arithmetic (spelling.Sigil p.at) (p ∷ []) (record { one = p; only = refl; kind = e; here = refl })

-- a state outside arithmetic expressions
here : (state : TextState) (cs : List Placed) → TextStands state → Reads Arithmetic (text_pieces state) cs → Rests state [] → TextHolds state cs
here state cs s r e = record { front = cs; back = []; both = sym (append-nil cs); stands = s; reads = r; rests = e }

-- Parts.

part-holds : (tree : Tree) (p : Placed) (cs : List Placed) → IsText tree → Reads Arithmetic (spell_text tree []) cs → AllTextHold (after_part tree p.code) (cs ++ p ∷ [])
part-holds tree p cs i r =
    let go : (b : Bool) → (p.code == 46) ≡ b → AllTextHold (if b then Some (WantPart (Some tree)) else None) (cs ++ p ∷ []) =
    elim [
      | true ↦ λ t. here (WantPart (Some tree)) (cs ++ p ∷ []) i
          (added (spell_text tree) (spell_text-over tree) [] (Period ∷ []) cs (p ∷ []) r (reads-one Arithmetic Period (p ∷ []) (ap (λ c. c ∷ []) (test p.code 46 t)))) refl
      | false ↦ λ t. tt
    ] in
    go (p.code == 46) refl

left-pieces : (left : Option Tree) (part : Tree) (ks : List Piece) → spell_text (joined left part) ks ≡ ahead left (spell_text part ks)
left-pieces None part ks = refl
left-pieces (Some left) part ks = refl

factor-pieces : (factor : Option Tree) (part : Tree) (ks : List Piece) → spell_text (duplicated factor part) ks ≡ times factor (spell_text part ks)
factor-pieces None part ks = refl
factor-pieces (Some factor) part ks = refl

pub built-pieces : (opened : Opened) (tree : Tree) (after : List Piece) → spell_text (built opened tree) after ≡ ahead opened.left (times opened.factor (spell_text tree after))
built-pieces opened tree after = left-pieces opened.left (duplicated opened.factor tree) after ∙ ap (ahead opened.left) (factor-pieces opened.factor tree after)

pub typed-pieces : (left : Option Tree) (symbol : Symbol) (subscripts : Trees) (after : List Piece) →
    spell_text (typed left symbol subscripts) after ≡ asked_type left (spelling.Sigil symbol.at ∷ Letters symbol.name ∷ spell_subscripts subscripts after)
typed-pieces None symbol subscripts after = refl
typed-pieces (Some left) symbol subscripts after = refl

pub typed_name-pieces : (left : Option Tree) (place : ℕ) (name : List ℕ) (after : List Piece) → spell_text (typed_name left place name) after ≡ asked_type left (spelling.Word place name ∷ after)
typed_name-pieces None place name after = refl
typed_name-pieces (Some left) place name after = refl

cut-text : (factor : Option Tree) (left : Option Tree) (tree : Tree) → IsLeft left → IsFactor factor → IsCut tree → IsText (joined left (duplicated factor tree))
cut-text None None (Quoted items) l f i = i
cut-text None None (Substring text start count) l f i = i
cut-text None None (SubstringToEnd text start) l f i = i
cut-text None (Some left) (Quoted items) l f i = (l, i)
cut-text None (Some left) (Substring text start count) l f i = (l, i)
cut-text None (Some left) (SubstringToEnd text start) l f i = (l, i)
cut-text (Some factor) None tree l f i = (f, i)
cut-text (Some factor) (Some left) tree l f i = (l, (f, i))
cut-text None None _ l f i = absurd i
cut-text None (Some left) _ l f i = absurd i

pub built-text : (opened : Opened) (tree : Tree) → IsOpened opened → IsCut tree → IsText (built opened tree)
built-text opened tree o i = cut-text opened.factor opened.left tree o.0 o.1 i

pub typed-text : (left : Option Tree) (symbol : Symbol) (subscripts : Trees) → IsLeft left → AreOf Arithmetic subscripts → IsText (typed left symbol subscripts)
typed-text None symbol subscripts l a = a
typed-text (Some left) symbol subscripts l a = (l, a)

pub typed_name-text : (left : Option Tree) (place : ℕ) (name : List ℕ) → IsLeft left → IsText (typed_name left place name)
typed_name-text None place name l = tt
typed_name-text (Some left) place name l = (l, tt)

-- Within a quoted text.

-- a period that must stand may stand
weaken : (b : Bool) (text : List ℕ) → spelling.IsJoin true text → spelling.IsJoin b text
weaken true text e = e
weaken false text e = inr e

unparted : (opened : Opened) (items : Items) (b : Bool) (after : List Piece) (cs : List Placed) → Reads Arithmetic (inside opened items true after) cs → Reads Arithmetic (inside opened items b after) cs
unparted opened NoItems b after cs r = r
unparted opened (Plain others characters) b after cs r = r
unparted opened (Inserted others symbol subscripts) b after cs r =
    became (λ ks. open_text opened (unjoined (Inserted others symbol subscripts) ks))
    (λ ks js. ap (open_text opened) (unjoined-over (Inserted others symbol subscripts) ks js) ∙ open_text-over opened (unjoined (Inserted others symbol subscripts) ks) js)
    (Join true ∷ after) (Join b ∷ after) cs (λ a q. (q.0, q.1, q.2, weaken b (codes q.0) q.3, q.4)) r

-- where a period may be left out
unpart : (opened : Opened) (items : Items) (plain : List ℕ) (after : List Piece) (cs : List Placed) →
    Reads Arithmetic (inside opened items (parted items plain) after) cs → Reads Arithmetic (inside opened items (needs_period items plain) after) cs
unpart opened items [] after cs r = unparted opened items (needs_period items []) after cs r
unpart opened items (c ∷ plain) after cs r = r

repart : (opened : Opened) (items : Items) (plain : List ℕ) (c : ℕ) (after : List Piece) (cs : List Placed) →
    Reads Arithmetic (inside opened items (parted items plain) after) cs → Reads Arithmetic (inside opened items (parted items (plain ++ c ∷ [])) after) cs
repart opened items [] c after cs r = unparted opened items (needs_period items (c ∷ [])) after cs r
repart opened items (d ∷ plain) c after cs r = subst (λ b. Reads Arithmetic (inside opened items b after) cs) (period-first items d plain (plain ++ c ∷ [])) r

-- plain characters, longer by one
push-plain : (opened : Opened) (items : Items) (b : Bool) (plain : List ℕ) (c : ℕ) (cs ds : List Placed) → codes ds ≡ quoted_one (kind_of c) c [] →
    Reads Arithmetic (inside opened items b (Plainly plain ∷ [])) cs → Reads Arithmetic (inside opened items b (Plainly (plain ++ c ∷ []) ∷ [])) (cs ++ ds)
push-plain opened items b plain c cs ds e r =
    turned (inside opened items b) (inside-over opened items b) (Plainly plain ∷ []) (Plainly (plain ++ c ∷ []) ∷ []) cs ds
    (λ a q. last-turned Arithmetic [] (Plainly plain) (Plainly (plain ++ c ∷ [])) a ds (λ x i. plain-longer plain c x ds e i) q) r

plain-one : (p : Placed) (k : Kind) → kind_of p.code ≡ k → is_plain k ≡ true → codes (p ∷ []) ≡ quoted_one (kind_of p.code) p.code []
plain-one p k e i = sym (ap (λ x. quoted_one x p.code []) e ∙ quoted-plain k p.code [] i)

-- a plain character
inside-plain : (opened : Opened) (items : Items) (plain : List ℕ) (k : Kind) (p : Placed) (cs : List Placed) → IsInside opened items plain → is_lone false plain ≡ false → kind_of p.code ≡ k → is_plain k ≡ true →
    Reads Arithmetic (inside opened items (parted items (plain ++ p.code ∷ [])) (Plainly plain ∷ [])) cs → TextHolds (Inside opened items (plain ++ p.code ∷ [])) (cs ++ p ∷ [])
inside-plain opened items plain k p cs s l e i r =
    here (Inside opened items (plain ++ p.code ∷ [])) (cs ++ p ∷ [])
    ((s.0, s.1, s.2, no-symbol plain p.code s.3 (and-none (is_lone false plain) (is_letter p.code) l)), lone-false plain p.code (plain-code p.code (ap is_plain e ∙ i)))
    (push-plain opened items (parted items (plain ++ p.code ∷ [])) plain p.code cs (p ∷ []) (plain-one p k e i) r) refl

inside-holds : (opened : Opened) (items : Items) (plain : List ℕ) (k : Kind) (p : Placed) (cs : List Placed) → IsInside opened items plain → is_lone false plain ≡ false → kind_of p.code ≡ k →
    Reads Arithmetic (inside opened items (needs_period items plain) (Plainly plain ∷ [])) cs →
    (is_plain k ≡ true → Reads Arithmetic (inside opened items (parted items (plain ++ p.code ∷ [])) (Plainly plain ∷ [])) cs) → TextHolds (go_inside opened items plain k p) (cs ++ p ∷ [])
inside-holds opened items plain kind.Quote p cs s l e r q =
    here (Closed opened items plain) (cs ++ p ∷ []) s
    (added (inside opened items (needs_period items plain)) (inside-over opened items (needs_period items plain)) (Plainly plain ∷ []) (One kind.Quote ∷ []) cs (p ∷ []) r (one kind.Quote p e)) refl
inside-holds opened items plain kind.Ampersand p cs s l e r q =
    here (Lone opened items plain p.at) (cs ++ p ∷ []) (s, l)
    (added (inside opened items (needs_period items plain)) (inside-over opened items (needs_period items plain)) (Plainly plain ∷ []) (spelling.Sigil p.at ∷ []) cs (p ∷ []) r (sigil p e)) refl
inside-holds opened items plain k p cs s l e r q = inside-plain opened items plain k p cs s l e refl (q refl)

-- the ampersand before is a plain character
lone-reads : (opened : Opened) (items : Items) (plain : List ℕ) (place : ℕ) (cs : List Placed) →
    Reads Arithmetic (inside opened items (needs_period items plain) (Plainly plain ∷ spelling.Sigil place ∷ [])) cs →
    Reads Arithmetic (inside opened items (parted items (plain ++ 38 ∷ [])) (Plainly (plain ++ 38 ∷ []) ∷ [])) cs
lone-reads opened items plain place cs r =
    became (inside opened items (parted items (plain ++ 38 ∷ []))) (inside-over opened items (parted items (plain ++ 38 ∷ []))) (Plainly plain ∷ spelling.Sigil place ∷ []) (Plainly (plain ++ 38 ∷ []) ∷ []) cs
    (λ a q.
    let s = piece_of-one Arithmetic (spelling.Sigil place) q.1 q.4 in
    let e : codes q.1 ≡ 38 ∷ [] = ap codes s.only ∙ ap (λ c. c ∷ []) (kind-ampersand s.one.code s.kind) in
    reads-one Arithmetic (Plainly (plain ++ 38 ∷ [])) a (ap codes q.2 ∙ plain-longer plain 38 q.0 q.1 (e ∙ ampersand-once) q.3))
    (subst (λ b. Reads Arithmetic (inside opened items b (Plainly plain ∷ spelling.Sigil place ∷ [])) cs) (sym (parted-ampersand items plain)) r)

-- plain characters become an item
pub plain-items : (opened : Opened) (items : Items) (plain : List ℕ) (after : List Piece) (cs : List Placed) →
    Reads Arithmetic (inside opened items (needs_period items plain) (Plainly plain ∷ after)) cs → Reads Arithmetic (inside opened (with_plain items plain) false after) cs
plain-items opened items [] after cs r =
    became (inside opened items false) (inside-over opened items false) (Plainly [] ∷ after) after cs
    (λ a q. subst (Reads Arithmetic after) (sym (q.2 ∙ ap (λ xs. xs ++ q.1) (no-codes q.0 q.3))) q.4)
    (subst (λ b. Reads Arithmetic (inside opened items b (Plainly [] ∷ after)) cs) (period-none items) r)
plain-items opened items (c ∷ plain) after cs r = r

-- behind an ampersand that is a plain character
lone-plain : (opened : Opened) (items : Items) (plain : List ℕ) (place : ℕ) (p : Placed) (cs : List Placed) (k : Kind) → IsInside opened items plain → is_lone false plain ≡ false → kind_of p.code ≡ k →
    is_letter p.code ≡ false → codes (p ∷ []) ≡ quoted_one (kind_of p.code) p.code [] →
    Reads Arithmetic (inside opened items (needs_period items plain) (Plainly plain ∷ spelling.Sigil place ∷ [])) cs →
    TextHolds (Inside opened items ((plain ++ 38 ∷ []) ++ p.code ∷ [])) (cs ++ p ∷ [])
lone-plain opened items plain place p cs k s l e n q r =
    let before : List ℕ = plain ++ 38 ∷ [] in
    here (Inside opened items (before ++ p.code ∷ [])) (cs ++ p ∷ [])
    ((s.0, s.1, s.2, no-symbol before p.code (no-symbol plain 38 s.3 (and-last (is_lone false plain) false refl)) (and-last (is_lone false before) (is_letter p.code) n)), lone-past before p.code (lone-true plain l))
    (push-plain opened items (parted items (before ++ p.code ∷ [])) before p.code cs (p ∷ []) q
    (repart opened items before p.code (Plainly before ∷ []) cs (lone-reads opened items plain place cs r))) refl

lone-holds : (opened : Opened) (items : Items) (plain : List ℕ) (place : ℕ) (k : Kind) (p : Placed) (cs : List Placed) → IsInside opened items plain → is_lone false plain ≡ false → kind_of p.code ≡ k →
    Reads Arithmetic (inside opened items (needs_period items plain) (Plainly plain ∷ spelling.Sigil place ∷ [])) cs → TextHolds (after_lone opened items plain place k p) (cs ++ p ∷ [])
lone-holds opened items plain place kind.Letter p cs s l e r =
    let u : List ℕ = to_ascii_uppercase p.code ∷ [] in
    here (Naming (InText opened (with_plain items plain)) place u) (cs ++ p ∷ []) (s.0, with_plain-are items plain s.1 s.2 s.3, with_plain-lone items plain s.2 l)
    (added (inside opened (with_plain items plain) false) (inside-over opened (with_plain items plain) false) (spelling.Sigil place ∷ []) (Letters u ∷ []) cs (p ∷ [])
    (plain-items opened items plain (spelling.Sigil place ∷ []) cs r) (reads-one Arithmetic (Letters u) (p ∷ []) (letter-name p.code (kind-letter p.code e)))) refl
lone-holds opened items plain place kind.Ampersand p cs s l e r =
    lone-plain opened items plain place p cs kind.Ampersand s l e (no-letter p.code (ap is_letter_kind e)) (sym (ap (λ x. quoted_one x p.code []) e)) r
lone-holds opened items plain place kind.Quote p cs s l e r =
    let before : List ℕ = plain ++ 38 ∷ [] in
    here (Closed opened items before) (cs ++ p ∷ []) (s.0, s.1, s.2, no-symbol plain 38 s.3 (and-last (is_lone false plain) false refl))
    (added (inside opened items (needs_period items before)) (inside-over opened items (needs_period items before)) (Plainly before ∷ []) (One kind.Quote ∷ []) cs (p ∷ [])
    (unpart opened items before (Plainly before ∷ []) cs (lone-reads opened items plain place cs r)) (one kind.Quote p e)) refl
lone-holds opened items plain place k p cs s l e r =
    lone-plain opened items plain place p cs k s l e (no-letter p.code (ap is_letter_kind e)) (plain-one p k e refl) r

-- behind a symbol whose end is still open
symbol-holds : (opened : Opened) (others : Items) (symbol : Symbol) (subscripts : Trees) (k : Kind) (p : Placed) (cs : List Placed) → IsOpened opened → AreItems (Inserted others symbol subscripts) → kind_of p.code ≡ k →
    ((p.code == 46) ≡ false → belongs subscripts p.code ≡ false) → Reads Arithmetic (open_text opened (unjoined (Inserted others symbol subscripts) [])) cs →
    TextHolds (after_symbol opened (Inserted others symbol subscripts) k p) (cs ++ p ∷ [])
symbol-holds opened others symbol subscripts k p cs o a e n r =
    let items : Items = Inserted others symbol subscripts in
    let F : List Piece → List Piece = λ ks. open_text opened (unjoined items ks) in
    let over : (ks js : List Piece) → F (ks ++ js) ≡ F ks ++ js = λ ks js. ap (open_text opened) (unjoined-over items ks js) ∙ open_text-over opened (unjoined items ks) js in
    let go : (b : Bool) → (p.code == 46) ≡ b → TextHolds (if b then Inside opened items [] else go_inside opened items [] k p) (cs ++ p ∷ []) =
    elim [
      | true ↦ λ t. here (Inside opened items []) (cs ++ p ∷ []) ((o, a, refl, refl), refl)
          (added F over [] (Join true ∷ Plainly [] ∷ []) cs (p ∷ []) r
          (p ∷ [], [], refl, ap (λ c. c ∷ []) (test p.code 46 t), reads-one Arithmetic (Plainly []) [] refl)) refl
      | false ↦ λ t.
          let plainly : Reads Arithmetic (inside opened items false (Plainly [] ∷ [])) cs =
          subst (Reads Arithmetic (inside opened items false (Plainly [] ∷ []))) (append-nil cs) (added F over [] (Join false ∷ Plainly [] ∷ []) cs [] r ([], [], refl, inl refl, reads-one Arithmetic (Plainly []) [] refl)) in
          inside-holds opened items [] k p cs (o, a, refl, refl) refl e plainly
          (λ i. subst (λ b. Reads Arithmetic (inside opened items b (Plainly [] ∷ [])) cs) (sym (n t)) plainly)
    ] in
    go (p.code == 46) refl

-- At a variable symbol.

name-holds : (holder : Holder) (place : ℕ) (name : List ℕ) (k : Kind) (p : Placed) (cs : List Placed) → IsHolder holder → kind_of p.code ≡ k → is_name k ≡ false →
    Reads Arithmetic (held holder (spelling.Sigil place ∷ Letters name ∷ [])) cs → AllTextHold (after_name holder (symbol_at place name) k p) (cs ++ p ∷ [])
name-holds (InText opened items) place name k p cs s e i r =
    symbol-holds opened items (symbol_at place name) NoTrees k p cs s.0 (s.1, s.2, tt) e (λ t. belongs-none p.code (ap is_name e ∙ i) t) r
name-holds (AsType left) place name k p cs s e i r =
    part-holds (typed left (symbol_at place name) NoTrees) p cs (typed-text left (symbol_at place name) NoTrees s tt)
    (subst (λ ks. Reads Arithmetic ks cs) (sym (typed-pieces left (symbol_at place name) NoTrees [])) r)

lengthen-holds : (holder : Holder) (place : ℕ) (name : List ℕ) (p : Placed) (cs : List Placed) → IsHolder holder → is_symbol_character p.code ≡ true →
    Reads Arithmetic (held holder (spelling.Sigil place ∷ Letters name ∷ [])) cs → AllTextHold (lengthen holder place name p.code) (cs ++ p ∷ [])
lengthen-holds holder place name p cs s c r =
    let longer : List ℕ = name ++ to_ascii_uppercase p.code ∷ [] in
    let go : (b : Bool) → nat_lt (length name) 63 ≡ b → AllTextHold (if b then Some (Naming holder place longer) else None) (cs ++ p ∷ []) =
    elim [
      | true ↦ λ t. here (Naming holder place longer) (cs ++ p ∷ []) s
          (turned (held holder) (held-over holder) (spelling.Sigil place ∷ Letters name ∷ []) (spelling.Sigil place ∷ Letters longer ∷ []) cs (p ∷ [])
          (λ b q. last-turned Arithmetic (spelling.Sigil place ∷ []) (Letters name) (Letters longer) b (p ∷ []) (name-grows name p (grind (arith, nat_tests)) c) q) r) refl
      | false ↦ λ t. tt
    ] in
    go (nat_lt (length name) 63) refl

naming-holds : (holder : Holder) (place : ℕ) (name : List ℕ) (k : Kind) (p : Placed) (cs : List Placed) → IsHolder holder → kind_of p.code ≡ k →
    Reads Arithmetic (held holder (spelling.Sigil place ∷ Letters name ∷ [])) cs → AllTextHold (go_naming holder place name k p) (cs ++ p ∷ [])
naming-holds holder place name kind.Letter p cs s e r = lengthen-holds holder place name p cs s (kind-letter_symbol p.code e) r
naming-holds holder place name kind.Digit p cs s e r = lengthen-holds holder place name p cs s (kind-digit_symbol p.code e) r
naming-holds holder place name kind.Open p cs s e r =
    here (Within (Subscripts holder (symbol_at place name) NoTrees) (Want [])) (cs ++ p ∷ []) (s, tt)
    (added (held holder) (held-over holder) (spelling.Sigil place ∷ Letters name ∷ []) (One kind.Open ∷ []) cs (p ∷ []) r (one kind.Open p e)) refl
naming-holds holder place name k p cs s e r = name-holds holder place name k p cs s e refl r

behind-holds : (opened : Opened) (items : Items) (k : Kind) (p : Placed) (cs : List Placed) → IsOpened opened → AreItems items → IsSubscripted items → kind_of p.code ≡ k →
    Reads Arithmetic (open_text opened (unjoined items [])) cs → TextHolds (after_symbol opened items k p) (cs ++ p ∷ [])
behind-holds opened (Inserted others symbol (More before last)) k p cs o a i e r = symbol-holds opened others symbol (More before last) k p cs o a e (λ t. t) r
behind-holds opened (Inserted others symbol NoTrees) k p cs o a i e r = absurd i
behind-holds opened NoItems k p cs o a i e r = absurd i
behind-holds opened (Plain others characters) k p cs o a i e r = absurd i

-- Behind an apostrophe.

closed-part : (opened : Opened) (items : Items) (plain : List ℕ) (p : Placed) (cs : List Placed) → IsInside opened items plain →
    Reads Arithmetic (inside opened items (needs_period items plain) (Plainly plain ∷ One kind.Quote ∷ [])) cs →
    AllTextHold (after_part (built opened (Quoted (with_plain items plain))) p.code) (cs ++ p ∷ [])
closed-part opened items plain p cs s r =
    part-holds (built opened (Quoted (with_plain items plain))) p cs (built-text opened (Quoted (with_plain items plain)) s.0 (with_plain-are items plain s.1 s.2 s.3))
    (subst (λ ks. Reads Arithmetic ks cs) (sym (built-pieces opened (Quoted (with_plain items plain)) [])) (plain-items opened items plain (One kind.Quote ∷ []) cs r))

closed-holds : (opened : Opened) (items : Items) (plain : List ℕ) (k : Kind) (p : Placed) (cs : List Placed) → IsInside opened items plain → kind_of p.code ≡ k →
    Reads Arithmetic (inside opened items (needs_period items plain) (Plainly plain ∷ One kind.Quote ∷ [])) cs → AllTextHold (after_closed opened items plain k p.code) (cs ++ p ∷ [])
closed-holds opened items plain kind.Quote p cs s e r =
    let code : p.code ≡ 39 = kind-quote p.code e in
    let must : parted items (plain ++ p.code ∷ []) ≡ needs_period items plain = ap (λ c. parted items (plain ++ c ∷ [])) code ∙ parted-quote items plain in
    here (Inside opened items (plain ++ p.code ∷ [])) (cs ++ p ∷ [])
    ((s.0, s.1, s.2, no-symbol plain p.code s.3 (and-last (is_lone false plain) (is_letter p.code) (no-letter p.code (ap is_letter_kind e)))), lone-false plain p.code (ap (λ c. c == 38) code))
    (turned (inside opened items (parted items (plain ++ p.code ∷ []))) (inside-over opened items (parted items (plain ++ p.code ∷ []))) (Plainly plain ∷ One kind.Quote ∷ []) (Plainly (plain ++ p.code ∷ []) ∷ []) cs (p ∷ [])
    (λ a q.
    let o = piece_of-one Arithmetic (One kind.Quote) q.1 q.4 in
    let pair : codes (q.1 ++ p ∷ []) ≡ quoted_one (kind_of p.code) p.code [] =
    ap (λ xs. codes (xs ++ p ∷ [])) o.only ∙ ap (λ c. c ∷ p.code ∷ []) (kind-quote o.one.code o.kind ∙ sym code) ∙ sym (ap (λ x. quoted_one x p.code []) e) in
    reads-one Arithmetic (Plainly (plain ++ p.code ∷ [])) (a ++ p ∷ [])
    (ap (λ xs. codes (xs ++ p ∷ [])) q.2 ∙ ap codes (append_assoc q.0 q.1 (p ∷ [])) ∙ plain-longer plain p.code q.0 (q.1 ++ p ∷ []) pair q.3))
    (subst (λ b. Reads Arithmetic (inside opened items b (Plainly plain ∷ One kind.Quote ∷ [])) cs) (sym must) r)) refl
closed-holds opened items plain kind.Open p cs s e r =
    here (Within (Start opened (with_plain items plain)) (Want [])) (cs ++ p ∷ []) (s.0, with_plain-are items plain s.1 s.2 s.3)
    (added (inside opened (with_plain items plain) false) (inside-over opened (with_plain items plain) false) (One kind.Quote ∷ []) (One kind.Open ∷ []) cs (p ∷ [])
    (plain-items opened items plain (One kind.Quote ∷ []) cs r) (one kind.Open p e)) refl
closed-holds opened items plain _ p cs s e r = closed-part opened items plain p cs s r

-- Within an arithmetic expression.

frame-over : (frame : Frame) (tree : Tree) (ks js : List Piece) → framed frame (Gap ∷ spell tree (Gap ∷ (ks ++ js))) ≡ framed frame (Gap ∷ spell tree (Gap ∷ ks)) ++ js
frame-over frame tree ks js = ap (λ xs. framed frame (Gap ∷ xs)) (spell-over tree (Gap ∷ ks) js) ∙ framed-over frame (Gap ∷ spell tree (Gap ∷ ks)) js

subscripted-holds : (holder : Holder) (symbol : Symbol) (subscripts others : Trees) (last : Tree) (cs : List Placed) → subscripts ≡ More others last → IsHolder holder → AreOf Arithmetic subscripts →
    Reads Arithmetic (held holder (spelling.Sigil symbol.at ∷ Letters symbol.name ∷ spell_subscripts subscripts [])) cs → TextHolds (subscripted holder symbol subscripts) cs
subscripted-holds (InText opened items) symbol subscripts others last cs m s a r =
    here (Behind opened (Inserted items symbol subscripts)) cs (s.0, (s.1, s.2, a), subst (λ xs. IsSubscripted (Inserted items symbol xs)) (sym m) tt) r refl
subscripted-holds (AsType left) symbol subscripts others last cs m s a r =
    here (Done (typed left symbol subscripts)) cs (typed-text left symbol subscripts s a) (subst (λ ks. Reads Arithmetic ks cs) (sym (typed-pieces left symbol subscripts [])) r) refl

leave-holds : (frame : Frame) (tree : Tree) (k : Kind) (p : Placed) (cs : List Placed) → IsFrame frame → IsOf Arithmetic tree → kind_of p.code ≡ k →
    Reads Arithmetic (framed frame (Gap ∷ spell tree (Gap ∷ []))) cs → AllTextHold (leave frame tree k) (cs ++ p ∷ [])
leave-holds (Factor left) tree kind.Close p cs s i e r =
    here (WantQuote left tree) (cs ++ p ∷ []) (s, i)
    (added (λ ks. framed (Factor left) (Gap ∷ spell tree (Gap ∷ ks))) (frame-over (Factor left) tree) [] (One kind.Close ∷ []) cs (p ∷ []) r (one kind.Close p e)) refl
leave-holds (Subscripts holder symbol others) tree kind.Close p cs s i e r =
    subscripted-holds holder symbol (More others tree) others tree (cs ++ p ∷ []) refl s.0 (s.1, i)
    (added (λ ks. framed (Subscripts holder symbol others) (Gap ∷ spell tree (Gap ∷ ks))) (frame-over (Subscripts holder symbol others) tree) [] (One kind.Close ∷ []) cs (p ∷ []) r (one kind.Close p e))
leave-holds (Subscripts holder symbol others) tree kind.Comma p cs s i e r =
    here (Within (Subscripts holder symbol (More others tree)) (Want [])) (cs ++ p ∷ []) (s.0, (s.1, i))
    (added (λ ks. framed (Subscripts holder symbol others) (Gap ∷ spell tree (Gap ∷ ks))) (frame-over (Subscripts holder symbol others) tree) [] (One kind.Comma ∷ []) cs (p ∷ []) r (one kind.Comma p e)) refl
leave-holds (Start opened items) tree kind.Comma p cs s i e r =
    here (WantCount opened items tree) (cs ++ p ∷ []) (s.0, s.1, i)
    (added (λ ks. framed (Start opened items) (Gap ∷ spell tree (Gap ∷ ks))) (frame-over (Start opened items) tree) [] (One kind.Comma ∷ Gap ∷ []) cs (p ∷ []) r (reads-kind_gap Arithmetic kind.Comma p e)) refl
leave-holds (Count opened items start) tree kind.Close p cs s i e r =
    let whole : Tree = Substring (Quoted items) start tree in
    here (Done (built opened whole)) (cs ++ p ∷ []) (built-text opened whole s.0 (s.1, s.2, i))
    (subst (λ ks. Reads Arithmetic ks (cs ++ p ∷ [])) (sym (built-pieces opened whole []))
    (added (λ ks. framed (Count opened items start) (Gap ∷ spell tree (Gap ∷ ks))) (frame-over (Count opened items start) tree) [] (One kind.Close ∷ []) cs (p ∷ []) r (one kind.Close p e))) refl
leave-holds (Factor left) tree _ p cs s i e r = tt
leave-holds (Subscripts holder symbol others) tree _ p cs s i e r = tt
leave-holds (Start opened items) tree _ p cs s i e r = tt
leave-holds (Count opened items start) tree _ p cs s i e r = tt

pub within-spells : (back : List Placed) (inner : State) (tree : Tree) → reading.run Arithmetic (Want []) back ≡ Some inner → reading.accept Arithmetic inner ≡ Some tree →
    IsOf Arithmetic tree × Reads Arithmetic (Gap ∷ spell tree (Gap ∷ [])) back
within-spells back inner tree e a =
    accept-spells Arithmetic back inner tree (subst (λ (s : Option State). AllHold Arithmetic s back) e (runs Arithmetic back (Want []) [] (starts Arithmetic))) a

left-holds : (frame : Frame) (inner : State) (k : Kind) (p : Placed) (cs : List Placed) → TextHolds (Within frame inner) cs → kind_of p.code ≡ k →
    (whole : Option Tree) → reading.accept Arithmetic inner ≡ whole → AllTextHold (left_by frame whole k) (cs ++ p ∷ [])
left-holds frame inner k p cs h e None a = tt
left-holds frame inner k p cs h e (Some tree) a =
    let s = within-spells h.back inner tree h.rests a in
    leave-holds frame tree k p cs h.stands s.0 e
    (subst (Reads Arithmetic (framed frame (Gap ∷ spell tree (Gap ∷ [])))) (sym h.both) (added (framed frame) (framed-over frame) [] (Gap ∷ spell tree (Gap ∷ [])) h.front h.back h.reads s.1))

within-holds : (frame : Frame) (inner : State) (k : Kind) (p : Placed) (cs : List Placed) → TextHolds (Within frame inner) cs → kind_of p.code ≡ k →
    (found : Option State) → reading.step Arithmetic inner p ≡ found → AllTextHold (go_within frame found (reading.accept Arithmetic inner) k) (cs ++ p ∷ [])
within-holds frame inner k p cs h e None f = left-holds frame inner k p cs h e (reading.accept Arithmetic inner) refl
within-holds frame inner k p cs h e (Some next) f =
    record {
      front = h.front;
      back = h.back ++ p ∷ [];
      both = ap (λ xs. xs ++ p ∷ []) h.both ∙ append_assoc h.front h.back (p ∷ []);
      stands = h.stands;
      reads = h.reads;
      rests = run-append Arithmetic h.back (p ∷ []) (Want []) inner h.rests ∙ run-step Arithmetic inner next p [] f;
    }

pub star-kind : (k : Kind) → is_star k ≡ true → k ≡ kind.Mark operator.Multiply
star-kind (kind.Mark operator.Multiply) e = refl
star-kind (kind.Mark _) e = cc
star-kind _ e = cc

-- blanks, longer by one
longer-gap : (F : List Piece → List Piece) → ((ks js : List Piece) → F (ks ++ js) ≡ F ks ++ js) → (ks : List Piece) (p : Placed) (cs : List Placed) → kind_of p.code ≡ kind.Blank →
    Reads Arithmetic (F (ks ++ Gap ∷ [])) cs → Reads Arithmetic (F (ks ++ Gap ∷ [])) (cs ++ p ∷ [])
longer-gap F over ks p cs e r = turned F over (ks ++ Gap ∷ []) (ks ++ Gap ∷ []) cs (p ∷ []) (λ b q. last-turned Arithmetic ks Gap Gap b (p ∷ []) (gap-longer Arithmetic p refl e) q) r

-- an arithmetic expression begins behind the blanks
begins-count : (opened : Opened) (items : Items) (start : Tree) (p : Placed) (cs : List Placed) → IsFrame (Count opened items start) → Reads Arithmetic (framed (Count opened items start) (Gap ∷ [])) cs →
    (found : Option State) → reading.step Arithmetic (Want []) p ≡ found → AllTextHold (option_map (Within (Count opened items start)) found) (cs ++ p ∷ [])
begins-count opened items start p cs s r None f = tt
begins-count opened items start p cs s r (Some next) f =
    let F : List Piece → List Piece = framed (Count opened items start) in
    let c = reads-cut Arithmetic (F []) (Gap ∷ []) cs (subst (λ ks. Reads Arithmetic ks cs) (framed-over (Count opened items start) [] (Gap ∷ [])) r) in
    record {
      front = c.front;
      back = c.back ++ p ∷ [];
      both = ap (λ xs. xs ++ p ∷ []) c.both ∙ append_assoc c.front c.back (p ∷ []);
      stands = s;
      reads = c.first;
      rests = gap-want Arithmetic [] c.back (p ∷ []) (piece_of-one Arithmetic Gap c.back c.second) ∙ run-step Arithmetic (Want []) next p [] f;
    }

count-holds_of : (opened : Opened) (items : Items) (start : Tree) (k : Kind) (p : Placed) (cs : List Placed) → IsFrame (Count opened items start) → kind_of p.code ≡ k →
    Reads Arithmetic (framed (Count opened items start) (Gap ∷ [])) cs → (b : Bool) → is_star k ≡ b → (found : Option State) → reading.step Arithmetic (Want []) p ≡ found →
    AllTextHold (if b then Some (Star opened items start) else option_map (Within (Count opened items start)) found) (cs ++ p ∷ [])
count-holds_of opened items start k p cs s e r true i found f =
    here (Star opened items start) (cs ++ p ∷ []) s
    (added (framed (Count opened items start)) (framed-over (Count opened items start)) (Gap ∷ []) (One (kind.Mark operator.Multiply) ∷ Gap ∷ []) cs (p ∷ []) r
    (reads-kind_gap Arithmetic (kind.Mark operator.Multiply) p (e ∙ star-kind k i))) refl
count-holds_of opened items start k p cs s e r false i found f = begins-count opened items start p cs s r found f

count-holds : (opened : Opened) (items : Items) (start : Tree) (k : Kind) (p : Placed) (cs : List Placed) → IsFrame (Count opened items start) → kind_of p.code ≡ k →
    Reads Arithmetic (framed (Count opened items start) (Gap ∷ [])) cs → (found : Option State) → reading.step Arithmetic (Want []) p ≡ found →
    AllTextHold (begin_count opened items start found k) (cs ++ p ∷ [])
count-holds opened items start kind.Blank p cs s e r found f =
    here (WantCount opened items start) (cs ++ p ∷ []) s (longer-gap (framed (Count opened items start)) (framed-over (Count opened items start)) [] p cs e r) refl
count-holds opened items start k p cs s e r found f = count-holds_of opened items start k p cs s e r (is_star k) refl found f

star-holds : (opened : Opened) (items : Items) (start : Tree) (k : Kind) (p : Placed) (cs : List Placed) → IsFrame (Count opened items start) → kind_of p.code ≡ k →
    Reads Arithmetic (framed (Count opened items start) (Gap ∷ One (kind.Mark operator.Multiply) ∷ Gap ∷ [])) cs → AllTextHold (after_star opened items start k) (cs ++ p ∷ [])
star-holds opened items start kind.Blank p cs s e r =
    here (Star opened items start) (cs ++ p ∷ []) s
    (longer-gap (framed (Count opened items start)) (framed-over (Count opened items start)) (Gap ∷ One (kind.Mark operator.Multiply) ∷ []) p cs e r) refl
star-holds opened items start kind.Close p cs s e r =
    let whole : Tree = SubstringToEnd (Quoted items) start in
    here (Done (built opened whole)) (cs ++ p ∷ []) (built-text opened whole s.0 (s.1, s.2))
    (subst (λ ks. Reads Arithmetic ks (cs ++ p ∷ [])) (sym (built-pieces opened whole []))
    (added (framed (Count opened items start)) (framed-over (Count opened items start)) (Gap ∷ One (kind.Mark operator.Multiply) ∷ Gap ∷ []) (One kind.Close ∷ []) cs (p ∷ []) r (one kind.Close p e))) refl
star-holds opened items start _ p cs s e r = tt

-- Where a part is wanted.

begin_part-holds : (left : Option Tree) (k : Kind) (p : Placed) (cs : List Placed) → IsLeft left → kind_of p.code ≡ k → Reads Arithmetic (ahead left []) cs → AllTextHold (begin_part left k p.code) (cs ++ p ∷ [])
begin_part-holds left kind.Quote p cs s e r =
    here (Inside (record { left = left; factor = None }) NoItems []) (cs ++ p ∷ []) (((s, tt), tt, refl, refl), refl)
    (added (ahead left) (ahead-over left) [] (One kind.Quote ∷ Plainly [] ∷ []) cs (p ∷ []) r (p ∷ [], [], refl, one_of kind.Quote p e, reads-one Arithmetic (Plainly []) [] refl)) refl
begin_part-holds left kind.Open p cs s e r =
    here (Within (Factor left) (Want [])) (cs ++ p ∷ []) s (added (ahead left) (ahead-over left) [] (One kind.Open ∷ []) cs (p ∷ []) r (one kind.Open p e)) refl
begin_part-holds left kind.Letter p cs s e r =
    let go : (b : Bool) → (to_ascii_uppercase p.code == 84) ≡ b → AllTextHold (if b then Some (Letter left) else None) (cs ++ p ∷ []) =
    elim [
      | true ↦ λ t. here (Letter left) (cs ++ p ∷ []) s
          (added (ahead left) (ahead-over left) [] (Capital 84 ∷ []) cs (p ∷ []) r (reads-one Arithmetic (Capital 84) (p ∷ []) (record { one = p; only = refl; upper = test (to_ascii_uppercase p.code) 84 t }))) refl
      | false ↦ λ t. tt
    ] in
    go (to_ascii_uppercase p.code == 84) refl
begin_part-holds left _ p cs s e r = tt

begin_quoted-holds : (left : Option Tree) (factor : Tree) (k : Kind) (p : Placed) (cs : List Placed) → IsLeft left → IsOf Arithmetic factor → kind_of p.code ≡ k →
    Reads Arithmetic (ahead left (times (Some factor) [])) cs → AllTextHold (begin_quoted left factor k) (cs ++ p ∷ [])
begin_quoted-holds left factor kind.Quote p cs s i e r =
    here (Inside (record { left = left; factor = Some factor }) NoItems []) (cs ++ p ∷ []) (((s, i), tt, refl, refl), refl)
    (added (λ ks. ahead left (times (Some factor) ks)) (λ ks js. ap (ahead left) (times-over (Some factor) ks js) ∙ ahead-over left (times (Some factor) ks) js) [] (One kind.Quote ∷ Plainly [] ∷ []) cs (p ∷ []) r
    (p ∷ [], [], refl, one_of kind.Quote p e, reads-one Arithmetic (Plainly []) [] refl)) refl
begin_quoted-holds left factor _ p cs s i e r = tt

letter-holds : (left : Option Tree) (k : Kind) (p : Placed) (cs : List Placed) → IsLeft left → kind_of p.code ≡ k → Reads Arithmetic (ahead left (Capital 84 ∷ [])) cs → AllTextHold (after_letter left k) (cs ++ p ∷ [])
letter-holds left kind.Quote p cs s e r =
    here (Asked left) (cs ++ p ∷ []) s (added (ahead left) (ahead-over left) (Capital 84 ∷ []) (One kind.Quote ∷ []) cs (p ∷ []) r (one kind.Quote p e)) refl
letter-holds left _ p cs s e r = tt

asked-holds : (left : Option Tree) (k : Kind) (p : Placed) (cs : List Placed) → IsLeft left → kind_of p.code ≡ k → Reads Arithmetic (asked_type left []) cs → AllTextHold (after_asked left k p) (cs ++ p ∷ [])
asked-holds left kind.Ampersand p cs s e r =
    here (Sigil left p.at) (cs ++ p ∷ []) s (added (asked_type left) (asked_type-over left) [] (spelling.Sigil p.at ∷ []) cs (p ∷ []) r (sigil p e)) refl
asked-holds left kind.Letter p cs s e r =
    let u : List ℕ = to_ascii_uppercase p.code ∷ [] in
    here (Word left p.at u) (cs ++ p ∷ []) s (added (asked_type left) (asked_type-over left) [] (spelling.Word p.at u ∷ []) cs (p ∷ []) r (reads-one Arithmetic (spelling.Word p.at u) (p ∷ []) (word-one p e))) refl
asked-holds left _ p cs s e r = tt

sigil-holds : (left : Option Tree) (place : ℕ) (k : Kind) (p : Placed) (cs : List Placed) → IsLeft left → kind_of p.code ≡ k → Reads Arithmetic (asked_type left (spelling.Sigil place ∷ [])) cs →
    AllTextHold (after_sigil left place k p.code) (cs ++ p ∷ [])
sigil-holds left place kind.Letter p cs s e r =
    let u : List ℕ = to_ascii_uppercase p.code ∷ [] in
    here (Naming (AsType left) place u) (cs ++ p ∷ []) s
    (added (asked_type left) (asked_type-over left) (spelling.Sigil place ∷ []) (Letters u ∷ []) cs (p ∷ []) r (reads-one Arithmetic (Letters u) (p ∷ []) (letter-name p.code (kind-letter p.code e)))) refl
sigil-holds left place _ p cs s e r = tt

lengthen_word-holds : (left : Option Tree) (place : ℕ) (name : List ℕ) (p : Placed) (cs : List Placed) → IsLeft left → is_symbol_character p.code ≡ true → Reads Arithmetic (asked_type left (spelling.Word place name ∷ [])) cs →
    AllTextHold (lengthen_word left place name p.code) (cs ++ p ∷ [])
lengthen_word-holds left place name p cs s c r =
    let longer : List ℕ = name ++ to_ascii_uppercase p.code ∷ [] in
    let go : (b : Bool) → nat_lt (length name) 63 ≡ b → AllTextHold (if b then Some (Word left place longer) else None) (cs ++ p ∷ []) =
    elim [
      | true ↦ λ t. here (Word left place longer) (cs ++ p ∷ []) s
          (turned (asked_type left) (asked_type-over left) (spelling.Word place name ∷ []) (spelling.Word place longer ∷ []) cs (p ∷ [])
          (λ b q. last-turned Arithmetic [] (spelling.Word place name) (spelling.Word place longer) b (p ∷ []) (word-longer place name p (grind (arith, nat_tests)) c) q) r) refl
      | false ↦ λ t. tt
    ] in
    go (nat_lt (length name) 63) refl

word-holds : (left : Option Tree) (place : ℕ) (name : List ℕ) (k : Kind) (p : Placed) (cs : List Placed) → IsLeft left → kind_of p.code ≡ k → Reads Arithmetic (asked_type left (spelling.Word place name ∷ [])) cs →
    AllTextHold (go_word left place name k p.code) (cs ++ p ∷ [])
word-holds left place name kind.Letter p cs s e r = lengthen_word-holds left place name p cs s (kind-letter_symbol p.code e) r
word-holds left place name kind.Digit p cs s e r = lengthen_word-holds left place name p cs s (kind-digit_symbol p.code e) r
word-holds left place name _ p cs s e r =
    part-holds (typed_name left place name) p cs (typed_name-text left place name s) (subst (λ ks. Reads Arithmetic ks cs) (sym (typed_name-pieces left place name [])) r)

-- All states.

pub text_steps : (state : TextState) (p : Placed) (cs : List Placed) → TextHolds state cs → AllTextHold (text_step state p) (cs ++ p ∷ [])
unfolding text_step
text_steps (WantPart left) p cs h = begin_part-holds left (kind_of p.code) p cs h.stands refl (whole-of (ahead left []) cs h.front h.back h.both h.rests h.reads)
text_steps (WantQuote left factor) p cs h =
    begin_quoted-holds left factor (kind_of p.code) p cs h.stands.0 h.stands.1 refl (whole-of (ahead left (times (Some factor) [])) cs h.front h.back h.both h.rests h.reads)
text_steps (Inside opened items plain) p cs h =
    let r = whole-of (text_pieces (Inside opened items plain)) cs h.front h.back h.both h.rests h.reads in
    inside-holds opened items plain (kind_of p.code) p cs h.stands.0 h.stands.1 refl (unpart opened items plain (Plainly plain ∷ []) cs r)
    (λ i. repart opened items plain p.code (Plainly plain ∷ []) cs r)
text_steps (Lone opened items plain place) p cs h =
    lone-holds opened items plain place (kind_of p.code) p cs h.stands.0 h.stands.1 refl
    (whole-of (text_pieces (Lone opened items plain place)) cs h.front h.back h.both h.rests h.reads)
text_steps (Naming holder place name) p cs h =
    naming-holds holder place name (kind_of p.code) p cs h.stands refl (whole-of (text_pieces (Naming holder place name)) cs h.front h.back h.both h.rests h.reads)
text_steps (Behind opened items) p cs h =
    behind-holds opened items (kind_of p.code) p cs h.stands.0 h.stands.1 h.stands.2 refl (whole-of (text_pieces (Behind opened items)) cs h.front h.back h.both h.rests h.reads)
text_steps (Closed opened items plain) p cs h =
    closed-holds opened items plain (kind_of p.code) p cs h.stands refl (whole-of (text_pieces (Closed opened items plain)) cs h.front h.back h.both h.rests h.reads)
text_steps (Within frame inner) p cs h = within-holds frame inner (kind_of p.code) p cs h refl (reading.step Arithmetic inner p) refl
text_steps (WantCount opened items start) p cs h =
    count-holds opened items start (kind_of p.code) p cs h.stands refl (whole-of (text_pieces (WantCount opened items start)) cs h.front h.back h.both h.rests h.reads) (reading.step Arithmetic (Want []) p) refl
text_steps (Star opened items start) p cs h =
    star-holds opened items start (kind_of p.code) p cs h.stands refl (whole-of (text_pieces (Star opened items start)) cs h.front h.back h.both h.rests h.reads)
text_steps (Letter left) p cs h = letter-holds left (kind_of p.code) p cs h.stands refl (whole-of (ahead left (Capital 84 ∷ [])) cs h.front h.back h.both h.rests h.reads)
text_steps (Asked left) p cs h = asked-holds left (kind_of p.code) p cs h.stands refl (whole-of (asked_type left []) cs h.front h.back h.both h.rests h.reads)
text_steps (Sigil left place) p cs h = sigil-holds left place (kind_of p.code) p cs h.stands refl (whole-of (text_pieces (Sigil left place)) cs h.front h.back h.both h.rests h.reads)
text_steps (Word left place name) p cs h = word-holds left place name (kind_of p.code) p cs h.stands refl (whole-of (text_pieces (Word left place name)) cs h.front h.back h.both h.rests h.reads)
text_steps (Done tree) p cs h = part-holds tree p cs h.stands (whole-of (spell_text tree []) cs h.front h.back h.both h.rests h.reads)

text_runs-on : (ps : List Placed) (p : Placed) (cs : List Placed) (found : Option TextState) → AllTextHold found (cs ++ p ∷ []) →
    ((state : TextState) (ds : List Placed) → TextHolds state ds → AllTextHold (text_run state ps) (ds ++ ps)) → AllTextHold (option_and_then (λ next. text_run next ps) found) (cs ++ p ∷ ps)
text_runs-on ps p cs None h go = tt
text_runs-on ps p cs (Some state) h go = subst (AllTextHold (text_run state ps)) (append_assoc cs (p ∷ []) ps) (go state (cs ++ p ∷ []) h)

pub text_runs : (ps : List Placed) (state : TextState) (cs : List Placed) → TextHolds state cs → AllTextHold (text_run state ps) (cs ++ ps)
text_runs [] state cs h = subst (TextHolds state) (sym (append-nil cs)) h
text_runs (p ∷ ps) state cs h = text_runs-on ps p cs (text_step state p) (text_steps state p cs h) (λ next ds i. text_runs ps next ds i)

pub text_starts : TextHolds (WantPart None) []
text_starts = here (WantPart None) [] tt refl refl
