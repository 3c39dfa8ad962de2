-- What the reading of a character expression finds: its tree, or where no character expression goes on.
use Rattle.std.proofs.Common.{◌≡◌, ℕ, ◌+◌, ◌<◌, List, [], ◌∷◌, ◌++◌, length, take, get_or, refl, sym, subst, arith}
use Rattle.std.specs.Prelude.{MatchResult, Result, Ok, Err, nat_le, Option, Some, None, option_and_then, if◌then◌else◌}
use Rattle.expression_grammar.specs.declared.character.Grammar.TheVariants.{Arithmetic}
use Rattle.expression_grammar.specs.declared.character.Kind.TheVariants as kind
use Rattle.expression_grammar.specs.declared.fault.SyntaxFault.{SyntaxFault}
use Rattle.expression_grammar.specs.declared.fault.SyntaxFault.TheVariants.{At, OutOfMemory}
use Rattle.expression_grammar.specs.Trees.{Tree, Quoted, NoTrees, size}
use Rattle.expression_grammar.specs.Parts.{symbol_at}
use Rattle.expression_grammar.specs.Spelling.{Placed, placed, One, Reads, IsExpression, IsAt, most_parts}
use Rattle.expression_grammar.specs.Answers.{IsFault}
use Rattle.expression_grammar.specs.declared.tree.Expr.{Expr}
use Rattle.expression_grammar.specs.Readings.{Tells}
use Rattle.expression_grammar.specs.Views.{tree_of}
use Rattle.expression_grammar.proofs.ReadLaws.{Finds, finds, read-tree, read-fault}
use Rattle.character_grammar.specs.TextReadings.{read_text}
use Rattle.character_grammar.specs.Texts.{spell_text, IsText, SpellsText}
use Rattle.character_grammar.specs.TextAnswers.{TextStops}
use Rattle.character_grammar.specs.TextReading.{AsType, TextState, WantPart, Naming, Closed, Word, Done, built, with_plain, typed, typed_name, text_step, text_run, text_accept, text_weight, text_advance, TextReaches}
use Rattle.character_grammar.specs.TextStanding.{text_pieces, TextHolds}
use Rattle.character_grammar.proofs.TextPlain.{with_plain-are}
use Rattle.character_grammar.proofs.TextWeights.{text_run-least, text_accept-size}
use Rattle.character_grammar.proofs.TextSteps.{AllTextHold, text_runs, text_starts, whole-of, plain-items, built-pieces, built-text, typed-pieces, typed-text, typed_name-pieces, typed_name-text}
use Rattle.character_grammar.proofs.TextCompletions.{text_ends}
use Rattle.character_grammar.proofs.TextTrees.{text_accepted}
use Rattle.character_grammar.proofs.Automata as automata
use Rattle.character_grammar.proofs.Automata.{Automaton, Reached, placed-more}

-- what holds of the state that a text leads to
reached-holds : (ps : List Placed) (state : TextState) → text_run (WantPart None) ps ≡ Some state → TextHolds state ps
reached-holds ps state e = subst (λ (s : Option TextState). AllTextHold s ps) e (text_runs ps (WantPart None) [] text_starts)

-- The tree of a whole text.

spells-same : (found tree : Tree) (cs : List Placed) → Some found ≡ Some tree → IsText found → Reads Arithmetic (spell_text found []) cs → IsText tree × Reads Arithmetic (spell_text tree []) cs
spells-same found tree cs e i r = let same : found ≡ tree = cc in (subst IsText same i, subst (λ x. Reads Arithmetic (spell_text x []) cs) same r)

pub text_accept-spells : (cs : List Placed) (state : TextState) (tree : Tree) → TextHolds state cs → text_accept state ≡ Some tree → IsText tree × Reads Arithmetic (spell_text tree []) cs
unfolding text_accept
text_accept-spells cs (Naming (AsType left) place name) tree h e =
    spells-same (typed left (symbol_at place name) NoTrees) tree cs e (typed-text left (symbol_at place name) NoTrees h.stands tt)
    (subst (λ ks. Reads Arithmetic ks cs) (sym (typed-pieces left (symbol_at place name) NoTrees [])) (whole-of (text_pieces (Naming (AsType left) place name)) cs h.front h.back h.both h.rests h.reads))
text_accept-spells cs (Closed opened items plain) tree h e =
    let s = h.stands in
    spells-same (built opened (Quoted (with_plain items plain))) tree cs e (built-text opened (Quoted (with_plain items plain)) s.0 (with_plain-are items plain s.1 s.2 s.3))
    (subst (λ ks. Reads Arithmetic ks cs) (sym (built-pieces opened (Quoted (with_plain items plain)) []))
    (plain-items opened items plain (One kind.Quote ∷ []) cs (whole-of (text_pieces (Closed opened items plain)) cs h.front h.back h.both h.rests h.reads)))
text_accept-spells cs (Word left place name) tree h e =
    spells-same (typed_name left place name) tree cs e (typed_name-text left place name h.stands)
    (subst (λ ks. Reads Arithmetic ks cs) (sym (typed_name-pieces left place name [])) (whole-of (text_pieces (Word left place name)) cs h.front h.back h.both h.rests h.reads))
text_accept-spells cs (Done found) tree h e = spells-same found tree cs e h.stands (whole-of (text_pieces (Done found)) cs h.front h.back h.both h.rests h.reads)
text_accept-spells cs _ tree h e = cc

-- a rest, and the tree of the whole
pub record TextCompletes (at : ℕ) (cs : List Placed) (wanted : ℕ) : Type 0 where
  pub rest : List ℕ
  pub tree : Tree
  pub fits : IsText tree
  pub reads : Reads Arithmetic (spell_text tree []) (cs ++ placed at rest)
  pub exact : size tree ≡ wanted

-- whatever was read can be completed
pub text_completes : (state : TextState) (at : ℕ) (cs : List Placed) → TextHolds state cs → TextCompletes at cs (text_weight state)
text_completes state at cs h =
    let e = text_ends at state cs h in
    let held : TextHolds e.last (cs ++ placed at e.rest) = subst (λ (s : Option TextState). AllTextHold s (cs ++ placed at e.rest)) e.runs (text_runs (placed at e.rest) state cs h) in
    let s = text_accept-spells (cs ++ placed at e.rest) e.last e.tree held e.accepts in
    record { rest = e.rest; tree = e.tree; fits = s.0; reads = s.1; exact = e.exact }

text-advances : (limit : ℕ) (state : TextState) (p : Placed) → text_advance limit state p ≡ option_and_then (λ next. if nat_le (text_weight next) limit then Some next else None) (text_step state p)
unfolding text_advance
text-advances limit state p = refl

text-spells : (text : List ℕ) (state : TextState) (tree : Tree) → text_run (WantPart None) (placed 0 text) ≡ Some state → text_accept state ≡ Some tree → SpellsText text tree
text-spells text state tree r a = let s = text_accept-spells (placed 0 text) state tree (reached-holds (placed 0 text) state r) a in record { fits = s.0; reads = s.1 }

text-completed : (text : List ℕ) (state : TextState) → text_run (WantPart None) (placed 0 text) ≡ Some state → (rest : List ℕ) × (tree : Tree) × SpellsText (text ++ rest) tree × (size tree ≡ text_weight state)
text-completed text state r =
    let c = text_completes state (length text) (placed 0 text) (reached-holds (placed 0 text) state r) in
    (c.rest, c.tree, record { fits = c.fits; reads = subst (Reads Arithmetic (spell_text c.tree [])) (placed-more text c.rest) c.reads }, c.exact)

-- the reader of character expressions
abbrev text_automaton : Automaton SpellsText TextState
text_automaton =
    record {
      start = WantPart None;
      step = text_step;
      run = text_run;
      accept = text_accept;
      weight = text_weight;
      advance = text_advance;
      ends = λ state. refl;
      goes = λ state p ps. refl;
      advances = text-advances;
      least = text_run-least;
      exact = text_accept-size;
      accepted = λ text tree s. let a = text_accepted tree (placed 0 text) s.fits s.reads in (a.last, a.runs, a.accepts);
      spells = text-spells;
      completes = text-completed;
    }

reached : (limit : ℕ) (text : List ℕ) (state : TextState) → TextReaches limit text state → Reached text_automaton limit text state
reached limit text state r = record { runs = r.runs; small = r.small }

-- a text has one tree
pub one_text-tree : (text : List ℕ) (tree other : Tree) → SpellsText text tree → SpellsText text other → tree ≡ other
one_text-tree text tree other s t = automata.one-tree text_automaton text tree other s t

-- what is read of a text
pub read_text-finds : (text : List ℕ) → Finds SpellsText text (read_text text)
read_text-finds text = finds (automata.reader text_automaton) [] text (WantPart None) (record { runs = refl; small = omega arith })

-- the same answer, by the function
pub tells : (text : List ℕ) (r : Result Expr SyntaxFault) → MatchResult r (λ e. IsExpression SpellsText most_parts text (tree_of e)) (IsFault SpellsText text) → Tells (read_text text) r
tells text (Ok e) m = (read-tree SpellsText text (read_text text) (read_text-finds text) one_text-tree (tree_of e)).1 m
tells text (Err (At count)) m = (read-fault SpellsText text (read_text text) (read_text-finds text) count).1 m
tells text (Err OutOfMemory) m = tt

-- In the words of the reader.

pub text_starts_here : (all : List ℕ) → TextReaches most_parts (take 0 all) (WantPart None)
text_starts_here all = record { runs = refl; small = omega arith }

-- no state follows here
pub text_stop_here : (all : List ℕ) (n c at : ℕ) (state : TextState) (fault : SyntaxFault) → n < length all → c ≡ get_or all n c → at ≡ n → TextReaches most_parts (take n all) state →
    TextStops state (record { at = at; code = c }) fault → IsFault SpellsText all fault
text_stop_here all n c at state (At count) h e a r s = automata.stop_here text_automaton all n c at count state h e a (reached most_parts (take n all) state r) s.0 s.1
text_stop_here all n c at state OutOfMemory h e a r s = tt

-- a state follows here
pub text_go_on_here : (all : List ℕ) (n c at m : ℕ) (state next : TextState) → n < length all → c ≡ get_or all n c → at ≡ n → m ≡ n + 1 → TextReaches most_parts (take n all) state →
    text_advance most_parts state (record { at = at; code = c }) ≡ Some next → TextReaches most_parts (take m all) next
text_go_on_here all n c at m state next h e a f r s =
    let x = automata.go_on_here text_automaton all n c at m state next h e a f (reached most_parts (take n all) state r) s in
    record { runs = x.runs; small = x.small }

pub text_end_some : (all : List ℕ) (n : ℕ) (state : TextState) (tree : Tree) → n ≡ length all → TextReaches most_parts (take n all) state → Some tree ≡ text_accept state → IsExpression SpellsText most_parts all tree
text_end_some all n state tree e r a = automata.end_some text_automaton all n state tree e (reached most_parts (take n all) state r) a

pub text_end_none : (all : List ℕ) (n at : ℕ) (state : TextState) → n ≡ length all → at ≡ n → TextReaches most_parts (take n all) state → None ≡ text_accept state → IsAt SpellsText most_parts all at
text_end_none all n at state e f r a = automata.end_none text_automaton all n at state e f (reached most_parts (take n all) state r) a
