-- Each state of a character expression has a rest that makes it an expression of exactly its weight.
use Rattle.std.proofs.Common.{◌≡◌, ℕ, ◌+◌, true, List, [], ◌∷◌, ◌++◌, length, refl, sym, ap, ◌∙◌, subst, arith}
use Rattle.std.specs.Prelude.{Option, Some, None}
use Rattle.expression_grammar.specs.declared.character.Grammar.TheVariants.{Arithmetic}
use Rattle.expression_grammar.specs.declared.character.Kind.{Kind}
use Rattle.expression_grammar.specs.declared.character.Kind.TheVariants as kind
use Rattle.expression_grammar.specs.declared.tree.Symbol.{Symbol}
use Rattle.expression_grammar.specs.Characters.{kind_of}
use Rattle.expression_grammar.specs.Spelling.{Placed, placed}
use Rattle.expression_grammar.specs.Trees.{Tree, Trees, Items, Quoted, Substring, SubstringToEnd, NoTrees, More, NoItems, Inserted, size}
use Rattle.expression_grammar.specs.Parts.{symbol_at}
use Rattle.expression_grammar.specs.Reading as reading
use Rattle.expression_grammar.specs.Reading.{State, Want}
use Rattle.character_grammar.specs.TextReading.{Opened, Holder, InText, AsType, Frame, Factor, Subscripts, Start, Count, TextState, WantPart, WantQuote, Inside, Lone, Naming, Behind, Closed, Within, WantCount, Star, Letter, Asked, Sigil, Word, Done, built, with_plain, typed, typed_name, subscripted, leave, is_end, text_step, text_run, text_accept, text_weight, frame_size}
use Rattle.character_grammar.specs.TextStanding.{TextHolds}
use Rattle.expression_grammar.proofs.Steps.{AllHold, runs, starts}
use Rattle.expression_grammar.proofs.Completions.{completes, placed-append}
use Rattle.expression_grammar.proofs.LeadsOf.{accepted}
use Rattle.expression_grammar.proofs.Finds.{run-append}
use Rattle.character_grammar.proofs.TextWeights.{subscripted-weight, count-weight, star-weight, text_accept-size}
use Rattle.character_grammar.proofs.TextLeads.{text_run-step, within-run, step-leaves}

-- a rest that ends the text, with a tree as large as the state
pub record TextEnding (at : ℕ) (state : TextState) : Type 0 where
  pub rest : List ℕ
  pub last : TextState
  pub tree : Tree
  pub runs : text_run state (placed at rest) ≡ Some last
  pub accepts : text_accept last ≡ Some tree
  pub exact : size tree ≡ text_weight state

end_now : (at : ℕ) (state : TextState) (tree : Tree) → text_accept state ≡ Some tree → TextEnding at state
end_now at state tree a = record { rest = []; last = state; tree = tree; runs = refl; accepts = a; exact = text_accept-size state tree a }

end_after : (at c : ℕ) (state next : TextState) → text_step state (record { at = at; code = c }) ≡ Some next → text_weight next ≡ text_weight state → TextEnding (at + 1) next → TextEnding at state
end_after at c state next e w n =
    record {
      rest = c ∷ n.rest;
      last = n.last;
      tree = n.tree;
      runs = text_run-step state next (record { at = at; code = c }) (placed (at + 1) n.rest) e ∙ n.runs;
      accepts = n.accepts;
      exact = n.exact ∙ w;
    }

end-closed : (at : ℕ) (opened : Opened) (items : Items) (plain : List ℕ) → TextEnding at (Closed opened items plain)
unfolding text_accept
end-closed at opened items plain = end_now at (Closed opened items plain) (built opened (Quoted (with_plain items plain))) refl

end-done : (at : ℕ) (tree : Tree) → TextEnding at (Done tree)
unfolding text_accept
end-done at tree = end_now at (Done tree) tree refl

end-inside : (at : ℕ) (opened : Opened) (items : Items) (plain : List ℕ) → TextEnding at (Inside opened items plain)
unfolding text_step kind_of
end-inside at opened items plain = end_after at 39 (Inside opened items plain) (Closed opened items plain) refl refl (end-closed (at + 1) opened items plain)

end-lone : (at : ℕ) (opened : Opened) (items : Items) (plain : List ℕ) (place : ℕ) → TextEnding at (Lone opened items plain place)
unfolding text_step kind_of
end-lone at opened items plain place = end_after at 39 (Lone opened items plain place) (Closed opened items (plain ++ 38 ∷ [])) refl refl (end-closed (at + 1) opened items (plain ++ 38 ∷ []))

end-want : (at : ℕ) (left : Option Tree) → TextEnding at (WantPart left)
unfolding text_step kind_of
end-want at left =
    end_after at 39 (WantPart left) (Inside (record { left = left; factor = None }) NoItems []) refl (omega arith) (end-inside (at + 1) (record { left = left; factor = None }) NoItems [])

end-quote : (at : ℕ) (left : Option Tree) (factor : Tree) → TextEnding at (WantQuote left factor)
unfolding text_step kind_of
end-quote at left factor =
    end_after at 39 (WantQuote left factor) (Inside (record { left = left; factor = Some factor }) NoItems []) refl (omega arith) (end-inside (at + 1) (record { left = left; factor = Some factor }) NoItems [])

end-naming : (at : ℕ) (holder : Holder) (place : ℕ) (name : List ℕ) → TextEnding at (Naming holder place name)
unfolding text_step text_accept kind_of
end-naming at (InText opened items) place name =
    end_after at 39 (Naming (InText opened items) place name) (Closed opened (Inserted items (symbol_at place name) NoTrees) []) refl (omega arith) (end-closed (at + 1) opened (Inserted items (symbol_at place name) NoTrees) [])
end-naming at (AsType left) place name = end_now at (Naming (AsType left) place name) (typed left (symbol_at place name) NoTrees) refl

end-behind : (at : ℕ) (opened : Opened) (items : Items) → TextEnding at (Behind opened items)
unfolding text_step kind_of
end-behind at opened items = end_after at 39 (Behind opened items) (Closed opened items []) refl refl (end-closed (at + 1) opened items [])

end-word : (at : ℕ) (left : Option Tree) (place : ℕ) (name : List ℕ) → TextEnding at (Word left place name)
unfolding text_accept
end-word at left place name = end_now at (Word left place name) (typed_name left place name) refl

end-sigil : (at : ℕ) (left : Option Tree) (place : ℕ) → TextEnding at (Sigil left place)
unfolding text_step kind_of
end-sigil at left place = end_after at 65 (Sigil left place) (Naming (AsType left) place (65 ∷ [])) refl refl (end-naming (at + 1) (AsType left) place (65 ∷ []))

end-asked : (at : ℕ) (left : Option Tree) → TextEnding at (Asked left)
unfolding text_step kind_of
end-asked at left = end_after at 65 (Asked left) (Word left at (65 ∷ [])) refl refl (end-word (at + 1) left at (65 ∷ []))

end-letter : (at : ℕ) (left : Option Tree) → TextEnding at (Letter left)
unfolding text_step kind_of
end-letter at left = end_after at 39 (Letter left) (Asked left) refl refl (end-asked (at + 1) left)

end-star : (at : ℕ) (opened : Opened) (items : Items) (start : Tree) → TextEnding at (Star opened items start)
unfolding text_step kind_of
end-star at opened items start =
    let tree : Tree = built opened (SubstringToEnd (Quoted items) start) in
    end_after at 41 (Star opened items start) (Done tree) refl (star-weight opened items start) (end-done (at + 1) tree)

end-count : (at : ℕ) (opened : Opened) (items : Items) (start : Tree) → TextEnding at (WantCount opened items start)
unfolding text_step kind_of
end-count at opened items start = end_after at 42 (WantCount opened items start) (Star opened items start) refl refl (end-star (at + 1) opened items start)

-- Arithmetic expressions.

record Inner (at : ℕ) (inner : State) : Type 0 where
  rest : List ℕ
  last : State
  tree : Tree
  runs : reading.run Arithmetic inner (placed at rest) ≡ Some last
  accepts : reading.accept Arithmetic last ≡ Some tree
  exact : size tree ≡ reading.weight inner

inner-ending : (at : ℕ) (inner : State) (back : List Placed) → reading.run Arithmetic (Want []) back ≡ Some inner → Inner at inner
inner-ending at inner back e =
    let held = subst (λ (s : Option State). AllHold Arithmetic s back) e (runs Arithmetic back (Want []) [] (starts Arithmetic)) in
    let c = completes Arithmetic inner at back held in
    let a = accepted Arithmetic c.tree (back ++ placed at c.rest) c.fits c.reads in
    record {
      rest = c.rest;
      last = a.last;
      tree = c.tree;
      runs = sym (run-append Arithmetic back (placed at c.rest) (Want []) inner e) ∙ a.runs;
      accepts = a.accepts;
      exact = c.exact;
    }

kind-41 : kind_of 41 ≡ kind.Close
unfolding kind_of
kind-41 = refl

kind-44 : kind_of 44 ≡ kind.Comma
unfolding kind_of
kind-44 = refl

end-leave : (at c : ℕ) (k : Kind) (frame : Frame) (inner : State) (n : Inner at inner) (next : TextState) → kind_of c ≡ k → is_end k ≡ true → leave frame n.tree k ≡ Some next →
    text_weight next ≡ frame_size frame + size n.tree → TextEnding (at + length n.rest + 1) next → TextEnding at (Within frame inner)
end-leave at c k frame inner n next e i l w m =
    let p : Placed = record { at = at + length n.rest; code = c } in
    record {
      rest = n.rest ++ c ∷ m.rest;
      last = m.last;
      tree = m.tree;
      runs = ap (text_run (Within frame inner)) (placed-append at n.rest (c ∷ m.rest))
          ∙ within-run frame (placed at n.rest) (placed (at + length n.rest) (c ∷ m.rest)) inner n.last n.runs
          ∙ text_run-step (Within frame n.last) next p (placed (at + length n.rest + 1) m.rest) (step-leaves frame n.last n.tree p k n.accepts e i ∙ l)
          ∙ m.runs;
      accepts = m.accepts;
      exact = m.exact ∙ w ∙ ap (λ x. frame_size frame + x) n.exact;
    }

end-subscripted : (at : ℕ) (holder : Holder) (symbol : Symbol) (subscripts : Trees) → TextEnding at (subscripted holder symbol subscripts)
end-subscripted at (InText opened items) symbol subscripts = end-behind at opened (Inserted items symbol subscripts)
end-subscripted at (AsType left) symbol subscripts = end-done at (typed left symbol subscripts)

end-within : (at : ℕ) (frame : Frame) (inner : State) → Inner at inner → TextEnding at (Within frame inner)
end-within at (Factor left) inner n =
    end-leave at 41 kind.Close (Factor left) inner n (WantQuote left n.tree) kind-41 refl refl (omega arith) (end-quote (at + length n.rest + 1) left n.tree)
end-within at (Subscripts holder symbol others) inner n =
    end-leave at 41 kind.Close (Subscripts holder symbol others) inner n (subscripted holder symbol (More others n.tree)) kind-41 refl refl (subscripted-weight holder symbol others n.tree)
    (end-subscripted (at + length n.rest + 1) holder symbol (More others n.tree))
end-within at (Start opened items) inner n =
    end-leave at 44 kind.Comma (Start opened items) inner n (WantCount opened items n.tree) kind-44 refl refl refl (end-count (at + length n.rest + 1) opened items n.tree)
end-within at (Count opened items start) inner n =
    let tree : Tree = built opened (Substring (Quoted items) start n.tree) in
    end-leave at 41 kind.Close (Count opened items start) inner n (Done tree) kind-41 refl refl (count-weight opened items start n.tree) (end-done (at + length n.rest + 1) tree)

-- whatever was read can be ended
pub text_ends : (at : ℕ) (state : TextState) (cs : List Placed) → TextHolds state cs → TextEnding at state
text_ends at (WantPart left) cs h = end-want at left
text_ends at (WantQuote left factor) cs h = end-quote at left factor
text_ends at (Inside opened items plain) cs h = end-inside at opened items plain
text_ends at (Lone opened items plain place) cs h = end-lone at opened items plain place
text_ends at (Naming holder place name) cs h = end-naming at holder place name
text_ends at (Behind opened items) cs h = end-behind at opened items
text_ends at (Closed opened items plain) cs h = end-closed at opened items plain
text_ends at (Within frame inner) cs h = end-within at frame inner (inner-ending at inner h.back h.rests)
text_ends at (WantCount opened items start) cs h = end-count at opened items start
text_ends at (Star opened items start) cs h = end-star at opened items start
text_ends at (Letter left) cs h = end-letter at left
text_ends at (Asked left) cs h = end-asked at left
text_ends at (Sigil left place) cs h = end-sigil at left place
text_ends at (Word left place name) cs h = end-word at left place name
text_ends at (Done tree) cs h = end-done at tree
