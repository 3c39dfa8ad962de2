-- Every text of a character expression leads to its tree: its pieces one by one.
use Rattle.std.proofs.Common.{◌≡◌, ℕ, ◌+◌, ◌<◌, ◌≤◌, Bool, true, false, List, [], ◌∷◌, ◌++◌, length, refl, sym, ap, ◌∙◌, subst, arith, append_assoc, length-append}
use Rattle.std.specs.Prelude.{nat_lt, map, Option, Some, None, option_and_then, option_map, if◌then◌else◌}
use Rattle.std.specs.List.{list_all}
use Rattle.std.specs.Char.{to_ascii_uppercase}
use Rattle.hl_base.specs.Symbols.{symbol_of, is_symbol_character}
use Rattle.expression_grammar.specs.declared.character.Grammar.TheVariants.{Arithmetic}
use Rattle.expression_grammar.specs.declared.character.Kind.{Kind}
use Rattle.expression_grammar.specs.declared.character.Kind.TheVariants as kind
use Rattle.expression_grammar.specs.declared.tree.Symbol.{Symbol}
use Rattle.expression_grammar.specs.Characters.{kind_of}
use Rattle.expression_grammar.specs.Spelling.{Placed, Piece, Gap, One, IsGap, Reads, IsOf, AreOf, codes, spell, spell_subscripts, begin_subscripts}
use Rattle.expression_grammar.specs.Trees.{Tree, Trees, Items, Quoted, Substring, NoTrees, More}
use Rattle.expression_grammar.specs.Parts.{symbol_at, finish}
use Rattle.expression_grammar.specs.Reading as reading
use Rattle.expression_grammar.specs.Reading.{Layer, State, Want, Have, Folded, fold, whole, whole_over, accept, marked, begun}
use Rattle.character_grammar.specs.TextReading.{Holder, Frame, Subscripts, Count, Opened, TextState, WantPart, Naming, Within, WantCount, Word, Star, Done, built, lengthen, go_naming, subscripted, leave, is_end, go_within, is_star, begin_count, lengthen_word, go_word, text_step, text_run, text_accept}
use Rattle.expression_grammar.proofs.CharacterLaws.{letter-kind, IsNaming, by_letter, by_digit, symbol-kind}
use Rattle.expression_grammar.proofs.Names.{and-left, and-right, name-parts}
use Rattle.expression_grammar.proofs.Pieces.{append-nil, reads-cut, length-codes}
use Rattle.expression_grammar.proofs.Appends.{spell-over}
use Rattle.expression_grammar.proofs.Completions.{if-true}
use Rattle.expression_grammar.proofs.Leads.{IsAtTree, as_tree, as_part, first, lt-test, blank-want}
use Rattle.expression_grammar.proofs.LeadsOf.{accepted}
use Rattle.expression_grammar.proofs.Finds.{whole-some}
use Rattle.character_grammar.proofs.TextMoveLaws.{at_within, leaves}
use Rattle.character_grammar.proofs.TextSteps.{star-kind}

pub text_run-step : (state next : TextState) (p : Placed) (ps : List Placed) → text_step state p ≡ Some next → text_run state (p ∷ ps) ≡ text_run next ps
text_run-step state next p ps e = ap (option_and_then (λ s. text_run s ps)) e

-- from a state the text leads to another, and then come these pieces
pub record Reached (from to : TextState) (ks : List Piece) (cs : List Placed) : Type 0 where
  pub rest : List Placed
  pub runs : text_run from cs ≡ text_run to rest
  pub reads : Reads Arithmetic ks rest

-- a part is whole
pub record Whole (state : TextState) (tree : Tree) : Type 0 where
  pub accepts : text_accept state ≡ Some tree
  pub goes : (p : Placed) → p.code ≡ 46 → text_step state p ≡ Some (WantPart (Some tree))

pub reached-one : (from to : TextState) (k : Kind) (ks : List Piece) (cs : List Placed) → ((p : Placed) → kind_of p.code ≡ k → text_step from p ≡ Some to) → Reads Arithmetic (One k ∷ ks) cs → Reached from to ks cs
reached-one from to k ks cs steps r =
    let f = first Arithmetic k ks cs r in
    record { rest = f.back; runs = ap (text_run from) f.both ∙ text_run-step from to f.p f.back (steps f.p f.kind); reads = f.reads }

pub reached-then : (from mid to : TextState) (js ks : List Piece) (cs : List Placed) → Reached from mid js cs → ((ds : List Placed) → Reads Arithmetic js ds → Reached mid to ks ds) → Reached from to ks cs
reached-then from mid to js ks cs l more =
    let n : Reached mid to ks l.rest = more l.rest l.reads in
    record { rest = n.rest; runs = l.runs ∙ n.runs; reads = n.reads }

-- Blanks.

gap-stays : (state : TextState) → ((p : Placed) → kind_of p.code ≡ kind.Blank → text_step state p ≡ Some state) → (front back : List Placed) → IsGap Arithmetic front → text_run state (front ++ back) ≡ text_run state back
gap-stays state steps [] back i = refl
gap-stays state steps (p ∷ front) back i = text_run-step state state p (front ++ back) (steps p i.1) ∙ gap-stays state steps front back i.2

-- where a state stays at blanks
pub reached-gap : (state : TextState) (ks : List Piece) (cs : List Placed) → ((p : Placed) → kind_of p.code ≡ kind.Blank → text_step state p ≡ Some state) → Reads Arithmetic (Gap ∷ ks) cs → Reached state state ks cs
reached-gap state ks cs steps r = record { rest = r.1; runs = ap (text_run state) r.2 ∙ gap-stays state steps r.0 r.1 r.3; reads = r.4 }

-- Arithmetic expressions.

-- the automaton of arithmetic at the end of its text
record AtWhole (state : State) (tree : Tree) : Type 0 where
  top : Tree
  layers : List Layer
  there : IsAtTree Arithmetic state top layers
  folded : fold 0 top layers ≡ record { tree = tree; layers = [] }

whole-folded : (folded : Folded) (tree : Tree) → whole folded ≡ Some tree → folded ≡ record { tree = tree; layers = [] }
whole-folded folded tree e =
    let s = whole-some folded.tree folded.layers tree e in
    ap (λ xs. record { tree = folded.tree; layers = xs }) s.0 ∙ ap (λ (t : Tree). record { tree = t; layers = [] }) s.1

part-whole : (part : _) (layers : List Layer) (tree : Tree) (found : Option Tree) → finish Arithmetic part ≡ found → option_and_then whole (option_map (λ t. fold 0 t layers) found) ≡ Some tree →
    AtWhole (reading.Within part layers) tree
part-whole part layers tree None f e = cc
part-whole part layers tree (Some one) f e = record { top = one; layers = layers; there = as_part part refl f; folded = whole-folded (fold 0 one layers) tree e }

at-whole : (state : State) (tree : Tree) → accept Arithmetic state ≡ Some tree → AtWhole state tree
unfolding accept
at-whole (Want layers) tree e = cc
at-whole (Have one layers) tree e = record { top = one; layers = layers; there = as_tree refl; folded = whole-folded (fold 0 one layers) tree e }
at-whole (reading.Within part layers) tree e = part-whole part layers tree (finish Arithmetic part) refl e

-- behind a whole arithmetic expression
pub step-leaves : (frame : Frame) (inner : State) (tree : Tree) (p : Placed) (k : Kind) → accept Arithmetic inner ≡ Some tree → kind_of p.code ≡ k → is_end k ≡ true → text_step (Within frame inner) p ≡ leave frame tree k
unfolding text_step
step-leaves frame inner tree p k a e i =
    let w = at-whole inner tree a in
    ap (go_within frame (reading.step Arithmetic inner p) (accept Arithmetic inner)) e
    ∙ at_within frame inner w.top w.layers p k w.there (sym e) i
    ∙ leaves frame w.top tree w.layers p k (sym e) i w.folded

pub step-within : (frame : Frame) (inner next : State) (p : Placed) → reading.step Arithmetic inner p ≡ Some next → text_step (Within frame inner) p ≡ Some (Within frame next)
unfolding text_step
step-within frame inner next p e = ap (λ found. go_within frame found (accept Arithmetic inner) (kind_of p.code)) e

within-run_of : (frame : Frame) (p : Placed) (ps qs : List Placed) (inner last : State) (found : Option State) → reading.step Arithmetic inner p ≡ found →
    ((next : State) → reading.run Arithmetic next ps ≡ Some last → text_run (Within frame next) (ps ++ qs) ≡ text_run (Within frame last) qs) →
    option_and_then (λ next. reading.run Arithmetic next ps) found ≡ Some last → text_run (Within frame inner) (p ∷ ps ++ qs) ≡ text_run (Within frame last) qs
within-run_of frame p ps qs inner last None s go e = cc
within-run_of frame p ps qs inner last (Some next) s go e = text_run-step (Within frame inner) (Within frame next) p (ps ++ qs) (step-within frame inner next p s) ∙ go next e

pub within-run : (frame : Frame) (ps qs : List Placed) (inner last : State) → reading.run Arithmetic inner ps ≡ Some last → text_run (Within frame inner) (ps ++ qs) ≡ text_run (Within frame last) qs
within-run frame [] qs inner last e = let same : inner ≡ last = cc in ap (λ x. text_run (Within frame x) qs) same
within-run frame (p ∷ ps) qs inner last e = within-run_of frame p ps qs inner last (reading.step Arithmetic inner p) refl (λ next f. within-run frame ps qs next last f) e

-- where an arithmetic expression is wanted, from another state that is as good
arithmetic-from : (from : TextState) (frame : Frame) →
    ((ps qs : List Placed) (last : State) (tree : Tree) → reading.run Arithmetic (Want []) ps ≡ Some last → accept Arithmetic last ≡ Some tree → text_run from (ps ++ qs) ≡ text_run (Within frame (Want [])) (ps ++ qs)) →
    (tree : Tree) (k : Kind) (to : TextState) (ks : List Piece) (cs : List Placed) → IsOf Arithmetic tree → is_end k ≡ true → leave frame tree k ≡ Some to →
    Reads Arithmetic (Gap ∷ spell tree (Gap ∷ One k ∷ ks)) cs → Reached from to ks cs
arithmetic-from from frame same tree k to ks cs i n l r =
    let over : Gap ∷ spell tree (Gap ∷ One k ∷ ks) ≡ (Gap ∷ spell tree (Gap ∷ [])) ++ (One k ∷ ks) = ap (λ xs. Gap ∷ xs) (spell-over tree (Gap ∷ []) (One k ∷ ks)) in
    let c = reads-cut Arithmetic (Gap ∷ spell tree (Gap ∷ [])) (One k ∷ ks) cs (subst (λ xs. Reads Arithmetic xs cs) over r) in
    let a = accepted Arithmetic tree c.front i c.first in
    let f = first Arithmetic k ks c.back c.second in
    record {
      rest = f.back;
      runs = ap (text_run from) c.both
          ∙ same c.front c.back a.last tree a.runs a.accepts
          ∙ within-run frame c.front c.back (Want []) a.last a.runs
          ∙ ap (text_run (Within frame a.last)) f.both
          ∙ text_run-step (Within frame a.last) to f.p f.back (step-leaves frame a.last tree f.p k a.accepts f.kind n ∙ l);
      reads = f.reads;
    }

pub reached-arithmetic : (frame : Frame) (tree : Tree) (k : Kind) (to : TextState) (ks : List Piece) (cs : List Placed) → IsOf Arithmetic tree → is_end k ≡ true → leave frame tree k ≡ Some to →
    Reads Arithmetic (Gap ∷ spell tree (Gap ∷ One k ∷ ks)) cs → Reached (Within frame (Want [])) to ks cs
reached-arithmetic frame tree k to ks cs i n l r = arithmetic-from (Within frame (Want [])) frame (λ ps qs last t e a. refl) tree k to ks cs i n l r

-- no arithmetic expression begins with a `*`
star-none : (p : Placed) → is_star (kind_of p.code) ≡ true → reading.step Arithmetic (Want []) p ≡ None
unfolding reading.step
star-none p e = ap (λ k. begun Arithmetic k p []) (star-kind (kind_of p.code) e)

step-count_of : (opened : Opened) (items : Items) (start : Tree) (next : State) (p : Placed) (k : Kind) → kind_of p.code ≡ k → (k ≡ kind.Blank → ⊥) → reading.step Arithmetic (Want []) p ≡ Some next →
    begin_count opened items start (reading.step Arithmetic (Want []) p) k ≡ Some (Within (Count opened items start) next)
step-count_of opened items start next p kind.Blank f b e = absurd (b refl)
step-count_of opened items start next p k f b e =
    let go : (b : Bool) → is_star k ≡ b → (if b then Some (Star opened items start) else option_map (Within (Count opened items start)) (reading.step Arithmetic (Want []) p)) ≡ Some (Within (Count opened items start) next) =
    elim [
      | true ↦ λ t. let none = star-none p (ap is_star f ∙ t) in cc
      | false ↦ λ t. ap (option_map (Within (Count opened items start))) e
    ] in
    go (is_star k) refl

-- an arithmetic expression begins where the count is wanted
step-count : (opened : Opened) (items : Items) (start : Tree) (next : State) (p : Placed) → (kind_of p.code ≡ kind.Blank → ⊥) → reading.step Arithmetic (Want []) p ≡ Some next →
    text_step (WantCount opened items start) p ≡ Some (Within (Count opened items start) next)
unfolding text_step
step-count opened items start next p b e = step-count_of opened items start next p (kind_of p.code) refl b e

pub count-blank : (opened : Opened) (items : Items) (start : Tree) (p : Placed) → kind_of p.code ≡ kind.Blank → text_step (WantCount opened items start) p ≡ Some (WantCount opened items start)
unfolding text_step
count-blank opened items start p e = ap (begin_count opened items start (reading.step Arithmetic (Want []) p)) e

-- whether a character is a blank
data Blankness (p : Placed) : Type 0 where
  blank : kind_of p.code ≡ kind.Blank → Blankness p
  other : (kind_of p.code ≡ kind.Blank → ⊥) → Blankness p

blankness : (p : Placed) (k : Kind) → kind_of p.code ≡ k → Blankness p
blankness p kind.Blank e = blank e
blankness p _ e = other (λ f. cc)

count-same_of : (opened : Opened) (items : Items) (start : Tree) (p : Placed) (ps qs : List Placed) (last : State) (found : Option State) → reading.step Arithmetic (Want []) p ≡ found → Blankness p →
    (reading.run Arithmetic (Want []) ps ≡ Some last → text_run (WantCount opened items start) (ps ++ qs) ≡ text_run (Within (Count opened items start) (Want [])) (ps ++ qs)) →
    option_and_then (λ next. reading.run Arithmetic next ps) found ≡ Some last → text_run (WantCount opened items start) (p ∷ ps ++ qs) ≡ text_run (Within (Count opened items start) (Want [])) (p ∷ ps ++ qs)
count-same_of opened items start p ps qs last None s b go e = cc
count-same_of opened items start p ps qs last (Some next) s (blank f) go e =
    let stays = blank-want Arithmetic [] p refl f in
    let same : next ≡ Want [] = cc in
    text_run-step (WantCount opened items start) (WantCount opened items start) p (ps ++ qs) (count-blank opened items start p f)
    ∙ go (ap (λ x. reading.run Arithmetic x ps) (sym same) ∙ e)
    ∙ sym (text_run-step (Within (Count opened items start) (Want [])) (Within (Count opened items start) (Want [])) p (ps ++ qs) (step-within (Count opened items start) (Want []) (Want []) p stays))
count-same_of opened items start p ps qs last (Some next) s (other n) go e =
    text_run-step (WantCount opened items start) (Within (Count opened items start) next) p (ps ++ qs) (step-count opened items start next p n s)
    ∙ sym (text_run-step (Within (Count opened items start) (Want [])) (Within (Count opened items start) next) p (ps ++ qs) (step-within (Count opened items start) (Want []) next p s))

count-same : (opened : Opened) (items : Items) (start : Tree) (ps qs : List Placed) (last : State) (tree : Tree) → reading.run Arithmetic (Want []) ps ≡ Some last → accept Arithmetic last ≡ Some tree →
    text_run (WantCount opened items start) (ps ++ qs) ≡ text_run (Within (Count opened items start) (Want [])) (ps ++ qs)
unfolding accept
count-same opened items start [] qs last tree e a =
    let same : Want [] ≡ last = cc in
    let none : accept Arithmetic (Want []) ≡ Some tree = ap (accept Arithmetic) same ∙ a in cc
count-same opened items start (p ∷ ps) qs last tree e a =
    count-same_of opened items start p ps qs last (reading.step Arithmetic (Want []) p) refl (blankness p (kind_of p.code) refl) (λ f. count-same opened items start ps qs last tree f a) e

pub reached-count : (opened : Opened) (items : Items) (start count : Tree) (ks : List Piece) (cs : List Placed) → IsOf Arithmetic count →
    Reads Arithmetic (Gap ∷ spell count (Gap ∷ One kind.Close ∷ ks)) cs → Reached (WantCount opened items start) (Done (built opened (Substring (Quoted items) start count))) ks cs
reached-count opened items start count ks cs i r =
    arithmetic-from (WantCount opened items start) (Count opened items start) (count-same opened items start) count kind.Close (Done (built opened (Substring (Quoted items) start count))) ks cs i refl refl r

-- Names.

name-runs : (make : List ℕ → TextState) →
    ((name : List ℕ) (p : Placed) → length name < 63 → IsNaming p.code → text_step (make name) p ≡ Some (make (name ++ to_ascii_uppercase p.code ∷ []))) →
    (ds back : List Placed) (name : List ℕ) → list_all is_symbol_character (codes ds) ≡ true → length name + length ds ≤ 63 →
    text_run (make name) (ds ++ back) ≡ text_run (make (name ++ map to_ascii_uppercase (codes ds))) back
name-runs make grows [] back name a h = ap (λ (xs : List ℕ). text_run (make xs) back) (sym (append-nil name))
name-runs make grows (p ∷ ds) back name a h =
    let one = and-left (is_symbol_character p.code) (list_all is_symbol_character (codes ds)) a in
    let others = and-right (is_symbol_character p.code) (list_all is_symbol_character (codes ds)) a in
    let u : List ℕ = to_ascii_uppercase p.code ∷ [] in
    text_run-step (make name) (make (name ++ u)) p (ds ++ back) (grows name p (omega arith) (symbol-kind p.code one))
    ∙ name-runs make grows ds back (name ++ u) others (omega (arith, length-append name u))
    ∙ ap (λ (xs : List ℕ). text_run (make xs) back) (append_assoc name u (map to_ascii_uppercase (codes ds)))

-- a whole name, from the state before its first letter
pub whole-name : (make : List ℕ → TextState) (before : TextState) →
    ((name : List ℕ) (p : Placed) → length name < 63 → IsNaming p.code → text_step (make name) p ≡ Some (make (name ++ to_ascii_uppercase p.code ∷ []))) →
    (p : Placed) (ds back : List Placed) (name : List ℕ) → (kind_of p.code ≡ kind.Letter → text_step before p ≡ Some (make (to_ascii_uppercase p.code ∷ []))) →
    symbol_of (p.code ∷ codes ds) ≡ Some name → text_run before (p ∷ ds ++ back) ≡ text_run (make name) back
whole-name make before grows p ds back name begins e =
    let n = name-parts p.code (codes ds) name e in
    let u : List ℕ = to_ascii_uppercase p.code ∷ [] in
    let short = n.short in let size = length-codes ds in
    text_run-step before (make u) p (ds ++ back) (begins (letter-kind p.code n.letter))
    ∙ name-runs make grows ds back u n.all (omega arith)
    ∙ ap (λ (xs : List ℕ). text_run (make xs) back) (sym n.upper)

pub reached-letters : (make : List ℕ → TextState) (before : TextState) →
    ((name : List ℕ) (p : Placed) → length name < 63 → IsNaming p.code → text_step (make name) p ≡ Some (make (name ++ to_ascii_uppercase p.code ∷ []))) →
    ((p : Placed) → kind_of p.code ≡ kind.Letter → text_step before p ≡ Some (make (to_ascii_uppercase p.code ∷ []))) →
    (ds back : List Placed) (name : List ℕ) → symbol_of (codes ds) ≡ Some name → text_run before (ds ++ back) ≡ text_run (make name) back
reached-letters make before grows begins [] back name e = cc
reached-letters make before grows begins (p ∷ ds) back name e = whole-name make before grows p ds back name (begins p) e

lengthen-some : (holder : Holder) (place : ℕ) (name : List ℕ) (c : ℕ) → length name < 63 → lengthen holder place name c ≡ Some (Naming holder place (name ++ to_ascii_uppercase c ∷ []))
lengthen-some holder place name c h = if-true (nat_lt (length name) 63) (Some (Naming holder place (name ++ to_ascii_uppercase c ∷ []))) None (lt-test (length name) 63 h)

pub naming-grows : (holder : Holder) (place : ℕ) (name : List ℕ) (p : Placed) → length name < 63 → IsNaming p.code → text_step (Naming holder place name) p ≡ Some (Naming holder place (name ++ to_ascii_uppercase p.code ∷ []))
unfolding text_step
naming-grows holder place name p h (by_letter e) = ap (λ k. go_naming holder place name k p) e ∙ lengthen-some holder place name p.code h
naming-grows holder place name p h (by_digit e) = ap (λ k. go_naming holder place name k p) e ∙ lengthen-some holder place name p.code h

lengthen_word-some : (left : Option Tree) (place : ℕ) (name : List ℕ) (c : ℕ) → length name < 63 → lengthen_word left place name c ≡ Some (Word left place (name ++ to_ascii_uppercase c ∷ []))
lengthen_word-some left place name c h = if-true (nat_lt (length name) 63) (Some (Word left place (name ++ to_ascii_uppercase c ∷ []))) None (lt-test (length name) 63 h)

pub word-grows : (left : Option Tree) (place : ℕ) (name : List ℕ) (p : Placed) → length name < 63 → IsNaming p.code → text_step (Word left place name) p ≡ Some (Word left place (name ++ to_ascii_uppercase p.code ∷ []))
unfolding text_step
word-grows left place name p h (by_letter e) = ap (λ k. go_word left place name k p.code) e ∙ lengthen_word-some left place name p.code h
word-grows left place name p h (by_digit e) = ap (λ k. go_word left place name k p.code) e ∙ lengthen_word-some left place name p.code h

-- Subscripts.

step-open : (holder : Holder) (place : ℕ) (name : List ℕ) (p : Placed) → kind_of p.code ≡ kind.Open → text_step (Naming holder place name) p ≡ Some (Within (Subscripts holder (symbol_at place name) NoTrees) (Want []))
unfolding text_step
step-open holder place name p e = ap (λ k. go_naming holder place name k p) e

-- up to where the next subscript is wanted
reached-begin : (trees : Trees) (holder : Holder) (symbol : Symbol) (ks : List Piece) (cs : List Placed) → AreOf Arithmetic trees → Reads Arithmetic (begin_subscripts trees ks) cs →
    Reached (Naming holder symbol.at symbol.name) (Within (Subscripts holder symbol trees) (Want [])) ks cs
reached-begin NoTrees holder symbol ks cs i r = reached-one (Naming holder symbol.at symbol.name) (Within (Subscripts holder symbol NoTrees) (Want [])) kind.Open ks cs (step-open holder symbol.at symbol.name) r
reached-begin (More others last) holder symbol ks cs i r =
    reached-then (Naming holder symbol.at symbol.name) (Within (Subscripts holder symbol others) (Want [])) (Within (Subscripts holder symbol (More others last)) (Want []))
    (Gap ∷ spell last (Gap ∷ One kind.Comma ∷ ks)) ks cs (reached-begin others holder symbol (Gap ∷ spell last (Gap ∷ One kind.Comma ∷ ks)) cs i.0 r)
    (λ ds s. reached-arithmetic (Subscripts holder symbol others) last kind.Comma (Within (Subscripts holder symbol (More others last)) (Want [])) ks ds i.1 refl refl s)

pub reached-subscripts : (others : Trees) (last : Tree) (holder : Holder) (symbol : Symbol) (ks : List Piece) (cs : List Placed) → AreOf Arithmetic (More others last) →
    Reads Arithmetic (spell_subscripts (More others last) ks) cs → Reached (Naming holder symbol.at symbol.name) (subscripted holder symbol (More others last)) ks cs
reached-subscripts others last holder symbol ks cs i r =
    reached-then (Naming holder symbol.at symbol.name) (Within (Subscripts holder symbol others) (Want [])) (subscripted holder symbol (More others last))
    (Gap ∷ spell last (Gap ∷ One kind.Close ∷ ks)) ks cs (reached-begin others holder symbol (Gap ∷ spell last (Gap ∷ One kind.Close ∷ ks)) cs i.0 r)
    (λ ds s. reached-arithmetic (Subscripts holder symbol others) last kind.Close (subscripted holder symbol (More others last)) ks ds i.1 refl refl s)
