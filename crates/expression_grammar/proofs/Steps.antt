-- Each step keeps what is known of the text, and no step lowers the weight.
use Rattle.std.proofs.Common.{◌≡◌, ℕ, ◌<◌, ◌≤◌, Bool, true, false, List, [], ◌∷◌, ◌++◌, refl, sym, ap, ◌∙◌, subst, arith, append_assoc, zero-add}
use Rattle.std.specs.Prelude.{◌||◌, ◌&&◌, Option, Some, None, is_some, option_and_then, if◌then◌else◌}
use Rattle.std.specs.Char.{digit_value, to_ascii_uppercase, is_digit}
use Rattle.std.proofs.lemmas.Bool.Decides.{nat_tests}
use Rattle.expression_grammar.specs.declared.character.Grammar.{Grammar}
use Rattle.expression_grammar.specs.declared.character.Kind.{Kind}
use Rattle.expression_grammar.specs.declared.character.Kind.TheVariants as kind
use Rattle.expression_grammar.specs.declared.tree.Form.TheVariants.{Decimal}
use Rattle.expression_grammar.specs.declared.tree.Operator.{Operator}
use Rattle.expression_grammar.specs.declared.tree.Operator.TheVariants.{Add, Subtract, Multiply}
use Rattle.expression_grammar.specs.declared.tree.Reference.TheVariants.{Value}
use Rattle.expression_grammar.specs.declared.part.Part.{Part}
use Rattle.expression_grammar.specs.declared.part.Part.TheVariants.{Sigil, Word}
use Rattle.expression_grammar.specs.declared.part.Move.{Move}
use Rattle.expression_grammar.specs.declared.part.Move.TheVariants.{To, Done, Begins, Over}
use Rattle.expression_grammar.specs.Characters.{kind_of, strength}
use Rattle.expression_grammar.specs.Trees.{Tree, Here}
use Rattle.expression_grammar.specs.Spelling as spelling
use Rattle.expression_grammar.specs.Spelling.{Placed, Piece, Gap, One, Run, IsRun, IsGap, Reads, IsPiece, IsOf, spell, has_blanks, is_ordinary, may_vary, rank, number_spelled, variable_spelled}
use Rattle.expression_grammar.specs.Parts.{after, finish, opening, part_spelled, IsLetterOf, whole, letter}
use Rattle.expression_grammar.specs.Reading.{Layer, SignLayer, PairLayer, OpenLayer, SubscriptLayer, State, Want, Have, Within, Folded, fold, closed, parted, joined, behind, marked, begun, ended, moved, step, run, under, Takes, AreLayers, Stands, Holds}
use Rattle.expression_grammar.proofs.CharacterLaws.{kind-digit}
use Rattle.expression_grammar.proofs.Pieces.{Cut, reads-join, reads-cut, reads-one, last-turned, reads-kind_gap, gap-longer, append-nil}
use Rattle.expression_grammar.proofs.Appends.{number_spelled-over, variable_spelled-over, spell-over, under-over, under-ends}
use Rattle.expression_grammar.proofs.Folds.{strength-most, takes-most, fold-spelled, IsFolded, fold-stands}
use Rattle.expression_grammar.proofs.Terms.{Follows, follows, Finished, AllFinished, finishes, word-one}

-- what holds of a state, if there is one
abbrev pub AllHold : Grammar → Option State → List Placed → Type 0
AllHold g None text = Unit {0}
AllHold g (Some state) text = Holds g state text

-- pieces above the layers, with text behind
under-join : (g : Grammar) (layers : List Layer) (js : List Piece) (cs ds : List Placed) → Reads g (under layers []) cs → Reads g js ds → Reads g (under layers js) (cs ++ ds)
under-join g layers js cs ds r s = subst (λ ks. Reads g ks (cs ++ ds)) (sym (under-over layers [] js)) (reads-join g (under layers []) js cs ds r s)

have-over : (layers : List Layer) (tree : Tree) (js : List Piece) → under layers (spell tree (Gap ∷ js)) ≡ under layers (spell tree (Gap ∷ [])) ++ js
have-over layers tree js = ap (under layers) (spell-over tree (Gap ∷ []) js) ∙ under-over layers (spell tree (Gap ∷ [])) js

pub have-join : (g : Grammar) (layers : List Layer) (tree : Tree) (js : List Piece) (cs ds : List Placed) →
    Reads g (under layers (spell tree (Gap ∷ []))) cs → Reads g js ds → Reads g (under layers (spell tree (Gap ∷ js))) (cs ++ ds)
have-join g layers tree js cs ds r s =
    subst (λ ks. Reads g ks (cs ++ ds)) (sym (have-over layers tree js)) (reads-join g (under layers (spell tree (Gap ∷ []))) js cs ds r s)

gap-last : (g : Grammar) (ks : List Piece) (cs : List Placed) → Reads g ks cs → Reads g (ks ++ Gap ∷ []) cs
gap-last g ks cs r = subst (Reads g (ks ++ Gap ∷ [])) (append-nil cs) (reads-join g ks (Gap ∷ []) cs [] r ([], [], refl, tt, refl))

-- Where an operand is wanted.

want-blank : (g : Grammar) (layers : List Layer) (p : Placed) (cs : List Placed) → Holds g (Want layers) cs → kind_of p.code ≡ kind.Blank →
    (b : Bool) → has_blanks g ≡ b → AllHold g (if b then Some (Want layers) else None) (cs ++ p ∷ [])
want-blank g layers p cs h e false t = tt
want-blank g layers p cs h e true t =
    let ends = under-ends layers in
    record {
      stands = h.stands;
      reads = subst (λ ks. Reads g ks (cs ++ p ∷ [])) (sym ends.both)
          (last-turned g ends.before Gap Gap cs (p ∷ []) (gap-longer g p t e) (subst (λ ks. Reads g ks cs) ends.both h.reads));
    }

want-mark : (g : Grammar) (layers : List Layer) (p : Placed) (cs : List Placed) → Holds g (Want layers) cs → (operator : Operator) → kind_of p.code ≡ kind.Mark operator →
    AllHold g (marked g operator layers) (cs ++ p ∷ [])
want-mark g layers p cs h Add e = record { stands = h.stands; reads = under-join g layers (One (kind.Mark Add) ∷ Gap ∷ []) cs (p ∷ []) h.reads (reads-kind_gap g (kind.Mark Add) p e) }
want-mark g layers p cs h Subtract e = record { stands = h.stands; reads = under-join g layers (One (kind.Mark Subtract) ∷ Gap ∷ []) cs (p ∷ []) h.reads (reads-kind_gap g (kind.Mark Subtract) p e) }
want-mark g layers p cs h Multiply e =
    let go : (b : Bool) → is_ordinary g ≡ b → AllHold g (if b then Some (Have Here layers) else None) (cs ++ p ∷ []) =
    elim [
      | true ↦ λ t. record { stands = (t, refl, h.stands); reads = under-join g layers (One (kind.Mark Multiply) ∷ Gap ∷ []) cs (p ∷ []) h.reads (reads-kind_gap g (kind.Mark Multiply) p e) }
      | false ↦ λ t. tt
    ] in
    go (is_ordinary g) refl
want-mark g layers p cs h _ e = tt

digit-run : (p : Placed) → is_digit p.code 10 ≡ true → IsRun Decimal 1 (digit_value p.code) (p ∷ [])
digit-run p e = record { all = ap (λ b. b && true) e; counted = refl; valued = zero-add (digit_value p.code) }

letter-of : (g : Grammar) (u : ℕ) (name : List ℕ) → name ≡ u ∷ [] → (b : Bool) → is_ordinary g ≡ b → (found : Option Part) → opening g u ≡ found → (b || is_some found) ≡ true → IsLetterOf g name
letter-of g u name n true o found e t = whole o
letter-of g u name n false o None e t = cc
letter-of g u name n false o (Some part) e t = letter u n part e

want-letter : (g : Grammar) (layers : List Layer) (p : Placed) (cs : List Placed) → Holds g (Want layers) cs → kind_of p.code ≡ kind.Letter →
    (b : Bool) → (is_ordinary g || is_some (opening g (to_ascii_uppercase p.code))) ≡ b →
    AllHold g (if b then Some (Within (Word p.at (to_ascii_uppercase p.code ∷ [])) layers) else None) (cs ++ p ∷ [])
want-letter g layers p cs h e false t = tt
want-letter g layers p cs h e true t =
    let u = to_ascii_uppercase p.code in
    record {
      stands = (letter-of g u (u ∷ []) refl (is_ordinary g) refl (opening g u) refl t, h.stands);
      reads = under-join g layers (spelling.Word p.at (u ∷ []) ∷ []) cs (p ∷ []) h.reads (reads-one g (spelling.Word p.at (u ∷ [])) (p ∷ []) (word-one p e));
    }

want-sigil : (g : Grammar) (layers : List Layer) (p : Placed) (cs : List Placed) → Holds g (Want layers) cs → kind_of p.code ≡ kind.Ampersand →
    (b : Bool) → may_vary g Value ≡ b → AllHold g (if b then Some (Within (Sigil Value p.at) layers) else None) (cs ++ p ∷ [])
want-sigil g layers p cs h e false t = tt
want-sigil g layers p cs h e true t =
    record {
      stands = (t, h.stands);
      reads = under-join g layers (spelling.Sigil p.at ∷ []) cs (p ∷ []) h.reads (reads-one g (spelling.Sigil p.at) (p ∷ []) (record { one = p; only = refl; kind = e; here = refl }));
    }

want-holds : (g : Grammar) (layers : List Layer) (p : Placed) (cs : List Placed) → Holds g (Want layers) cs → (k : Kind) → kind_of p.code ≡ k → AllHold g (begun g k p layers) (cs ++ p ∷ [])
want-holds g layers p cs h kind.Blank e = want-blank g layers p cs h e (has_blanks g) refl
want-holds g layers p cs h (kind.Mark operator) e = want-mark g layers p cs h operator e
want-holds g layers p cs h kind.Open e = record { stands = h.stands; reads = under-join g layers (One kind.Open ∷ Gap ∷ []) cs (p ∷ []) h.reads (reads-kind_gap g kind.Open p e) }
want-holds g layers p cs h kind.Digit e =
    let d = kind-digit p.code e in
    let r : digit_value p.code < 10 = grind (arith, nat_tests) in
    record {
      stands = ((omega arith, omega arith, refl, (λ q. omega arith), (λ q. omega arith)), h.stands);
      reads = under-join g layers (Run Decimal 1 (digit_value p.code) ∷ []) cs (p ∷ []) h.reads (reads-one g (Run Decimal 1 (digit_value p.code)) (p ∷ []) (digit-run p d));
    }
want-holds g layers p cs h kind.Letter e = want-letter g layers p cs h e (is_ordinary g || is_some (opening g (to_ascii_uppercase p.code))) refl
want-holds g layers p cs h kind.Ampersand e = want-sigil g layers p cs h e (may_vary g Value) refl
want-holds g layers p cs h _ e = tt

-- Behind a tree.

have-blank : (g : Grammar) (tree : Tree) (layers : List Layer) (p : Placed) (cs : List Placed) → Holds g (Have tree layers) cs → kind_of p.code ≡ kind.Blank →
    (b : Bool) → has_blanks g ≡ b → AllHold g (if b then Some (Have tree layers) else None) (cs ++ p ∷ [])
have-blank g tree layers p cs h e false t = tt
have-blank g tree layers p cs h e true t =
    let over : under layers (spell tree (Gap ∷ [])) ≡ under layers (spell tree []) ++ Gap ∷ [] = ap (under layers) (spell-over tree [] (Gap ∷ [])) ∙ under-over layers (spell tree []) (Gap ∷ []) in
    record {
      stands = h.stands;
      reads = subst (λ ks. Reads g ks (cs ++ p ∷ [])) (sym over)
          (last-turned g (under layers (spell tree [])) Gap Gap cs (p ∷ []) (gap-longer g p t e) (subst (λ ks. Reads g ks cs) over h.reads));
    }

folds : (g : Grammar) (floor : ℕ) (tree : Tree) (layers : List Layer) → floor ≤ 7 → Stands g (Have tree layers) → IsFolded g floor (fold floor tree layers)
folds g floor tree layers f s =
    fold-stands g floor tree layers (let r = s.1 in omega arith) s.0 (subst (Takes layers) (sym s.1) (takes-most layers)) s.2

fold-reads : (g : Grammar) (floor : ℕ) (tree : Tree) (layers : List Layer) (js : List Piece) (cs : List Placed) →
    Reads g (under layers (spell tree js)) cs → Reads g (under (fold floor tree layers).layers (spell (fold floor tree layers).tree js)) cs
fold-reads g floor tree layers js cs r = subst (λ ks. Reads g ks cs) (sym (fold-spelled floor tree layers js)) r

have-mark : (g : Grammar) (operator : Operator) (p : Placed) (cs : List Placed) → kind_of p.code ≡ kind.Mark operator → (folded : Folded) → IsFolded g (strength operator) folded →
    Reads g (under folded.layers (spell folded.tree (Gap ∷ []))) cs → Holds g (joined operator folded) (cs ++ p ∷ [])
have-mark g operator p cs e folded i r =
    record {
      stands = (i.fits, i.high, i.takes, i.layers);
      reads = have-join g folded.layers folded.tree (One (kind.Mark operator) ∷ Gap ∷ []) cs (p ∷ []) r (reads-kind_gap g (kind.Mark operator) p e);
    }

have-close : (g : Grammar) (p : Placed) (cs : List Placed) → kind_of p.code ≡ kind.Close → (tree : Tree) (layers : List Layer) → IsOf g tree → AreLayers g layers →
    Reads g (under layers (spell tree (Gap ∷ []))) cs → AllHold g (closed tree layers) (cs ++ p ∷ [])
have-close g p cs e tree [] i a r = tt
have-close g p cs e tree (SignLayer sign ∷ layers) i a r = tt
have-close g p cs e tree (PairLayer operator left ∷ layers) i a r = tt
have-close g p cs e tree (OpenLayer ∷ layers) i a r =
    record { stands = (i, refl, a); reads = have-join g (OpenLayer ∷ layers) tree (One kind.Close ∷ Gap ∷ []) cs (p ∷ []) r (reads-kind_gap g kind.Close p e) }
have-close g p cs e tree (SubscriptLayer asked symbol others ∷ layers) i a r =
    record {
      stands = ((a.0, (a.1, i)), refl, a.2);
      reads = have-join g (SubscriptLayer asked symbol others ∷ layers) tree (One kind.Close ∷ Gap ∷ []) cs (p ∷ []) r (reads-kind_gap g kind.Close p e);
    }

have-comma : (g : Grammar) (p : Placed) (cs : List Placed) → kind_of p.code ≡ kind.Comma → (tree : Tree) (layers : List Layer) → IsOf g tree → AreLayers g layers →
    Reads g (under layers (spell tree (Gap ∷ []))) cs → AllHold g (parted tree layers) (cs ++ p ∷ [])
have-comma g p cs e tree [] i a r = tt
have-comma g p cs e tree (SignLayer sign ∷ layers) i a r = tt
have-comma g p cs e tree (PairLayer operator left ∷ layers) i a r = tt
have-comma g p cs e tree (OpenLayer ∷ layers) i a r = tt
have-comma g p cs e tree (SubscriptLayer asked symbol others ∷ layers) i a r =
    record {
      stands = (a.0, (a.1, i), a.2);
      reads = have-join g (SubscriptLayer asked symbol others ∷ layers) tree (One kind.Comma ∷ Gap ∷ []) cs (p ∷ []) r (reads-kind_gap g kind.Comma p e);
    }

have-holds : (g : Grammar) (tree : Tree) (layers : List Layer) (p : Placed) (cs : List Placed) → Holds g (Have tree layers) cs → (k : Kind) → kind_of p.code ≡ k →
    AllHold g (behind g k tree layers) (cs ++ p ∷ [])
have-holds g tree layers p cs h kind.Blank e = have-blank g tree layers p cs h e (has_blanks g) refl
have-holds g tree layers p cs h (kind.Mark operator) e =
    have-mark g operator p cs e (fold (strength operator) tree layers) (folds g (strength operator) tree layers (omega (arith, strength-most operator)) h.stands)
    (fold-reads g (strength operator) tree layers (Gap ∷ []) cs h.reads)
have-holds g tree layers p cs h kind.Close e =
    let i = folds g 0 tree layers (omega arith) h.stands in
    have-close g p cs e (fold 0 tree layers).tree (fold 0 tree layers).layers i.fits i.layers (fold-reads g 0 tree layers (Gap ∷ []) cs h.reads)
have-holds g tree layers p cs h kind.Comma e =
    let i = folds g 0 tree layers (omega arith) h.stands in
    have-comma g p cs e (fold 0 tree layers).tree (fold 0 tree layers).layers i.fits i.layers (fold-reads g 0 tree layers (Gap ∷ []) cs h.reads)
have-holds g tree layers p cs h _ e = tt

-- Within a term.

cut-part : (g : Grammar) (part : Part) (layers : List Layer) (cs : List Placed) → Reads g (under layers (part_spelled part)) cs → Cut g (under layers []) (part_spelled part) cs
cut-part g part layers cs r = reads-cut g (under layers []) (part_spelled part) cs (subst (λ ks. Reads g ks cs) (under-over layers [] (part_spelled part)) r)

part-turned : (g : Grammar) (part : Part) (layers : List Layer) (cs ds : List Placed) (js : List Piece) →
    ((b : List Placed) → Reads g (part_spelled part) b → Reads g js (b ++ ds)) →
    Reads g (under layers (part_spelled part)) cs → Reads g (under layers js) (cs ++ ds)
part-turned g part layers cs ds js turn r =
    let c = cut-part g part layers cs r in
    let e : cs ++ ds ≡ c.front ++ (c.back ++ ds) = ap (λ xs. xs ++ ds) c.both ∙ append_assoc c.front c.back ds in
    subst (Reads g (under layers js)) (sym e) (under-join g layers js c.front (c.back ++ ds) c.first (turn c.back c.second))

-- a term that has ended is a tree
pub finished-holds : (g : Grammar) (part : Part) (layers : List Layer) (cs : List Placed) (tree : Tree) → Finished g part tree → Holds g (Within part layers) cs → Holds g (Have tree layers) cs
finished-holds g part layers cs tree f h =
    record {
      stands = (f.fits, f.high, h.stands.1);
      reads = subst (Reads g (under layers (spell tree (Gap ∷ [])))) (append-nil cs)
          (part-turned g part layers cs [] (spell tree (Gap ∷ []))
          (λ b r. subst (λ ks. Reads g ks (b ++ [])) (sym (spell-over tree [] (Gap ∷ [])))
          (gap-last g (spell tree []) (b ++ []) (subst (Reads g (spell tree [])) (sym (append-nil b)) (f.reads b r))))
          h.reads);
    }

over-holds : (g : Grammar) (part : Part) (layers : List Layer) (p : Placed) (cs : List Placed) → Holds g (Within part layers) cs → (k : Kind) → kind_of p.code ≡ k →
    (found : Option Tree) → AllFinished g part found → AllHold g (ended g found k layers) (cs ++ p ∷ [])
over-holds g part layers p cs h k e None f = tt
over-holds g part layers p cs h k e (Some tree) f = have-holds g tree layers p cs (finished-holds g part layers cs tree f h) k e

within-holds : (g : Grammar) (part : Part) (layers : List Layer) (p : Placed) (cs : List Placed) → Holds g (Within part layers) cs → (k : Kind) → kind_of p.code ≡ k →
    (move : Move) → Follows g part p move → AllHold g (moved g move k layers) (cs ++ p ∷ [])
within-holds g part layers p cs h k e (To next) f =
    record { stands = (f.0, h.stands.1); reads = part-turned g part layers cs (p ∷ []) (part_spelled next) f.1 h.reads }
within-holds g part layers p cs h k e (Done form number) f =
    record {
      stands = (tt, refl, h.stands.1);
      reads = part-turned g part layers cs (p ∷ []) (number_spelled form number (Gap ∷ []))
          (λ b r. subst (λ ks. Reads g ks (b ++ p ∷ [])) (sym (number_spelled-over form number [] (Gap ∷ []))) (gap-last g (number_spelled form number []) (b ++ p ∷ []) (f b r)))
          h.reads;
    }
within-holds g part layers p cs h k e (Begins asked symbol) f =
    record {
      stands = (f.0, tt, h.stands.1);
      reads = part-turned g part layers cs (p ∷ []) (variable_spelled asked symbol (One kind.Open ∷ Gap ∷ []))
          (λ b r. subst (λ ks. Reads g ks (b ++ p ∷ [])) (sym (variable_spelled-over asked symbol (One kind.Open ∷ []) (Gap ∷ [])))
          (gap-last g (variable_spelled asked symbol (One kind.Open ∷ [])) (b ++ p ∷ []) (f.1 b r)))
          h.reads;
    }
within-holds g part layers p cs h k e (Over other) f =
    subst (λ (x : Part). AllHold g (ended g (finish g x) k layers) (cs ++ p ∷ [])) (sym f)
    (over-holds g part layers p cs h k e (finish g part) (finishes g part h.stands.0))

pub steps : (g : Grammar) (state : State) (p : Placed) (cs : List Placed) → Holds g state cs → AllHold g (step g state p) (cs ++ p ∷ [])
unfolding step
steps g (Want layers) p cs h = want-holds g layers p cs h (kind_of p.code) refl
steps g (Have tree layers) p cs h = have-holds g tree layers p cs h (kind_of p.code) refl
steps g (Within part layers) p cs h = within-holds g part layers p cs h (kind_of p.code) refl (after g part p) (follows g part p h.stands.0)

runs-on : (g : Grammar) (ps : List Placed) (p : Placed) (cs : List Placed) (found : Option State) → AllHold g found (cs ++ p ∷ []) →
    ((state : State) (ds : List Placed) → Holds g state ds → AllHold g (run g state ps) (ds ++ ps)) → AllHold g (option_and_then (λ next. run g next ps) found) (cs ++ p ∷ ps)
runs-on g ps p cs None h go = tt
runs-on g ps p cs (Some state) h go = subst (AllHold g (run g state ps)) (append_assoc cs (p ∷ []) ps) (go state (cs ++ p ∷ []) h)

pub runs : (g : Grammar) (ps : List Placed) (state : State) (cs : List Placed) → Holds g state cs → AllHold g (run g state ps) (cs ++ ps)
runs g [] state cs h = subst (Holds g state) (sym (append-nil cs)) h
runs g (p ∷ ps) state cs h = runs-on g ps p cs (step g state p) (steps g state p cs h) (λ next ds i. runs g ps next ds i)

pub starts : (g : Grammar) → Holds g (Want []) []
starts g = record { stands = tt; reads = ([], [], refl, tt, refl) }
