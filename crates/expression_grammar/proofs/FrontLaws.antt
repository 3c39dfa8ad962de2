-- What is read of an arithmetic or ordinary expression, and of a front.
use Rattle.std.proofs.Common.{◌≡◌, ◌&&◌, ℕ, suc, ◌+◌, ◌<◌, ◌≤◌, Bool, true, false, List, [], ◌∷◌, length, drop, drop-cons, add-one, get_or, refl, sym, ap, ◌∙◌, subst, arith}
use Rattle.std.specs.Prelude.{Option, Some, None, is_some, Result, Ok, Err, MatchResult, ◌==◌}
use Rattle.std.proofs.Math.ListN.{drop_of_length-le}
use Rattle.expression_grammar.specs.declared.character.Grammar.{Grammar}
use Rattle.expression_grammar.specs.declared.character.Grammar.TheVariants.{Arithmetic}
use Rattle.expression_grammar.specs.declared.fault.SyntaxFault.{SyntaxFault}
use Rattle.expression_grammar.specs.declared.fault.SyntaxFault.TheVariants.{At, OutOfMemory}
use Rattle.expression_grammar.specs.declared.front.Front as declared
use Rattle.expression_grammar.specs.declared.tree.Expr.{Expr}
use Rattle.expression_grammar.specs.declared.tree.Reference.TheVariants.{Value}
use Rattle.expression_grammar.specs.Answers.{IsFault, Stops}
use Rattle.expression_grammar.specs.Trees.{Tree, Variable}
use Rattle.expression_grammar.specs.Views.{tree_of}
use Rattle.expression_grammar.specs.Spelling.{Placed, IsExpression, Spells, most_parts}
use Rattle.expression_grammar.specs.Reading.{State, Want, accept, advance, Reaches}
use Rattle.expression_grammar.specs.Readings.{going, ended_front, closed_by, variable_only, variable_by, read_variable, read, Front, front_by, read_front, front_of, Tells, TellsFront}
use Rattle.expression_grammar.specs.Fronts.{IsClosed, IsVariableClosed, IsFirst, IsNoFront, IsFrontFault}
use Rattle.expression_grammar.proofs.Finds.{reaches-start, reaches-next, stops, ends-open, ends-whole, reaches-viable, one-tree}
use Rattle.expression_grammar.proofs.ReadLaws as laws
use Rattle.expression_grammar.proofs.ReadLaws.{Reader, Finds, FindsFront}

-- the reader of arithmetic and ordinary expressions
arithmetic : (g : Grammar) → Reader (Spells g) (advance g most_parts) (accept g) (Reaches g most_parts)
arithmetic g = record {
  goes = λ text c state next r e. reaches-next g most_parts text c state next r e;
  stops = λ text c rest state r e. stops g most_parts text c rest state r e;
  whole = λ text state tree r e. ends-whole g most_parts text state tree r e;
  partly = λ text state r e. ends-open g most_parts text state r e;
  viable = λ text state r. reaches-viable g most_parts text state r;
  one = λ text tree other s t. one-tree g text tree other s t;
}

pub read-finds : (g : Grammar) (text : List ℕ) → Finds (Spells g) text (read g text)
read-finds g text = laws.finds (arithmetic g) [] text (Want []) (reaches-start g most_parts (omega arith))

pub read_front-finds : (g : Grammar) (text : List ℕ) → FindsFront (Spells g) (IsClosed (Spells g) text) text (read_front g text)
read_front-finds g text =
    laws.front-finds (arithmetic g) text [] text (Want []) refl (reaches-start g most_parts (omega arith)) (λ earlier tree less closed. absurd (omega arith))

pub read_variable-finds : (text : List ℕ) → FindsFront (Spells Arithmetic) (IsVariableClosed text) text (read_variable text)
read_variable-finds text =
    laws.variable-finds (arithmetic Arithmetic) text [] text (Want []) refl (reaches-start Arithmetic most_parts (omega arith)) (λ earlier tree less closed. absurd (omega arith))

-- In the words of the callers.

-- the same answer, by the function
pub tells : (g : Grammar) (text : List ℕ) (r : Result Expr SyntaxFault) → MatchResult r (λ e. IsExpression (Spells g) most_parts text (tree_of e)) (IsFault (Spells g) text) → Tells (read g text) r
tells g text (Ok e) m = (laws.read-tree (Spells g) text (read g text) (read-finds g text) (one-tree g) (tree_of e)).1 m
tells g text (Err (At count)) m = (laws.read-fault (Spells g) text (read g text) (read-finds g text) count).1 m
tells g text (Err OutOfMemory) m = tt

-- and of a front
pub front_told : (Written : List ℕ → Tree → Type 0) (Ends : ℕ → Tree → Type 0) (text : List ℕ) (found : Result Front ℕ) → FindsFront Written Ends text found → (r : Result declared.Front SyntaxFault) → TellsFront found r →
    MatchResult r (λ f. IsFirst Ends f.before (tree_of f.tree)) (IsFrontFault Written Ends text)
front_told Written Ends text (Ok front) f (Ok answer) e = let same : front ≡ front_of answer = cc in subst (λ (x : Front). IsFirst Ends x.before x.tree) same f
front_told Written Ends text (Err n) f (Ok answer) e = absurd (let x = e in cc)
front_told Written Ends text (Ok front) f (Err (At count)) e = absurd (let x = e in cc)
front_told Written Ends text (Err n) f (Err (At count)) e = let same : n ≡ count = cc in subst (IsNoFront Written Ends text) same f
front_told Written Ends text found f (Err OutOfMemory) e = tt

closed-here : (n : ℕ) (b : Bool) (found : Option Tree) (others : Result Front ℕ) → (b && is_some found) ≡ true → closed_by n b found others ≡ ended_front n found
closed-here n true (Some tree) others e = refl
closed-here n true None others e = absurd (let x = e in cc)
closed-here n false found others e = absurd (let x = e in cc)

not-closed : (n : ℕ) (b : Bool) (found : Option Tree) (others : Result Front ℕ) → (b && is_some found) ≡ false → closed_by n b found others ≡ others
not-closed n true None others e = refl
not-closed n true (Some tree) others e = absurd (let x = e in cc)
not-closed n false found others e = refl

and-right : (a b : Bool) → (a && b) ≡ true → b ≡ true
and-right true b e = e
and-right false b e = absurd (let x = e in cc)

pub variable-found : (found : Option Tree) → is_some (variable_only found) ≡ true → variable_only found ≡ found
variable-found None e = refl
variable-found (Some (Variable Value symbol subscripts)) e = refl
variable-found _ e = absurd (let x = e in cc)

-- What is left to read, from a state on.

module _ {S : Type 0} (step : S → Placed → Option S) (end : S → Option Tree) (all : List ℕ) (n c at : ℕ) (state : S) (whole : Result Front ℕ) where
  front-at : n < length all → c ≡ get_or all n c →
      front_by step end state n (drop n all) ≡ closed_by n (c == 41) (end state) (going n (λ next. front_by step end next (n + 1) (drop (n + 1) all)) (step state (record { at = n; code = c })))
  front-at h e =
      ap (front_by step end state n) (drop-cons all n c h ∙ ap (λ x. x ∷ drop (suc n) all) (sym e)) ∙
      ap (λ k. closed_by n (c == 41) (end state) (going n (λ next. front_by step end next (n + 1) (drop k all)) (step state (record { at = n; code = c })))) (sym (add-one n))

  -- nothing is left
  pub front_past : length all ≤ n → at ≡ n → whole ≡ front_by step end state n (drop n all) → whole ≡ Err at
  front_past h a e = e ∙ ap (front_by step end state n) (drop_of_length-le all h) ∙ ap Err (sym a)

  -- the front is here
  pub front_here : (r : Result declared.Front SyntaxFault) → n < length all → c ≡ get_or all n c → at ≡ n → whole ≡ front_by step end state n (drop n all) →
      ((c == 41) && is_some (end state)) ≡ true → TellsFront (ended_front at (end state)) r → TellsFront whole r
  front_here r h e a w is told =
      subst (λ (x : Result Front ℕ). TellsFront x r) (sym (w ∙ front-at h e ∙ closed-here n (c == 41) (end state) _ is ∙ ap (λ k. ended_front k (end state)) (sym a))) told

  -- the text goes no further
  pub front_stop : (count : ℕ) → n < length all → c ≡ get_or all n c → at ≡ n → whole ≡ front_by step end state n (drop n all) →
      ((c == 41) && is_some (end state)) ≡ false → count ≡ at → step state (record { at = at; code = c }) ≡ None → whole ≡ Err count
  front_stop count h e a w not k s =
      let none : step state (record { at = n; code = c }) ≡ None = ap (λ i. step state (record { at = i; code = c })) (sym a) ∙ s in
      w ∙ front-at h e ∙ not-closed n (c == 41) (end state) _ not ∙ ap (going n (λ next. front_by step end next (n + 1) (drop (n + 1) all))) none ∙ ap Err (sym (k ∙ a))

  -- it goes on
  pub front_on : (m : ℕ) (next : S) → n < length all → c ≡ get_or all n c → at ≡ n → m ≡ n + 1 → whole ≡ front_by step end state n (drop n all) →
      ((c == 41) && is_some (end state)) ≡ false → step state (record { at = at; code = c }) ≡ Some next → whole ≡ front_by step end next m (drop m all)
  front_on m next h e a k w not s =
      let some : step state (record { at = n; code = c }) ≡ Some next = ap (λ i. step state (record { at = i; code = c })) (sym a) ∙ s in
      w ∙ front-at h e ∙ not-closed n (c == 41) (end state) _ not ∙ ap (going n (λ next. front_by step end next (n + 1) (drop (n + 1) all))) some ∙ ap (λ i. front_by step end next i (drop i all)) (sym k)

  variable-at : n < length all → c ≡ get_or all n c →
      variable_by step end state n (drop n all) ≡ going n (λ next. closed_by n (c == 41) (variable_only (end next)) (variable_by step end next (n + 1) (drop (n + 1) all))) (step state (record { at = n; code = c }))
  variable-at h e =
      ap (variable_by step end state n) (drop-cons all n c h ∙ ap (λ x. x ∷ drop (suc n) all) (sym e)) ∙
      ap (λ k. going n (λ next. closed_by n (c == 41) (variable_only (end next)) (variable_by step end next (n + 1) (drop k all))) (step state (record { at = n; code = c }))) (sym (add-one n))

  pub variable_past : length all ≤ n → at ≡ n → whole ≡ variable_by step end state n (drop n all) → whole ≡ Err at
  variable_past h a e = e ∙ ap (variable_by step end state n) (drop_of_length-le all h) ∙ ap Err (sym a)

  variable-steps : (next : S) → n < length all → c ≡ get_or all n c → at ≡ n → whole ≡ variable_by step end state n (drop n all) → step state (record { at = at; code = c }) ≡ Some next →
      whole ≡ closed_by n (c == 41) (variable_only (end next)) (variable_by step end next (n + 1) (drop (n + 1) all))
  variable-steps next h e a w s =
      let some : step state (record { at = n; code = c }) ≡ Some next = ap (λ i. step state (record { at = i; code = c })) (sym a) ∙ s in
      w ∙ variable-at h e ∙ ap (going n (λ x. closed_by n (c == 41) (variable_only (end x)) (variable_by step end x (n + 1) (drop (n + 1) all)))) some

  pub variable_here : (next : S) (r : Result declared.Front SyntaxFault) → n < length all → c ≡ get_or all n c → at ≡ n → whole ≡ variable_by step end state n (drop n all) → step state (record { at = at; code = c }) ≡ Some next →
      ((c == 41) && is_some (variable_only (end next))) ≡ true → TellsFront (ended_front at (end next)) r → TellsFront whole r
  variable_here next r h e a w s is told =
      subst (λ (x : Result Front ℕ). TellsFront x r)
      (sym (variable-steps next h e a w s ∙ closed-here n (c == 41) (variable_only (end next)) _ is ∙ ap (ended_front n) (variable-found (end next) (and-right (c == 41) (is_some (variable_only (end next))) is)) ∙ ap (λ k. ended_front k (end next)) (sym a))) told

  pub variable_stop : (count : ℕ) → n < length all → c ≡ get_or all n c → at ≡ n → whole ≡ variable_by step end state n (drop n all) → count ≡ at → step state (record { at = at; code = c }) ≡ None → whole ≡ Err count
  variable_stop count h e a w k s =
      let none : step state (record { at = n; code = c }) ≡ None = ap (λ i. step state (record { at = i; code = c })) (sym a) ∙ s in
      w ∙ variable-at h e ∙ ap (going n (λ x. closed_by n (c == 41) (variable_only (end x)) (variable_by step end x (n + 1) (drop (n + 1) all)))) none ∙ ap Err (sym (k ∙ a))

  pub variable_on : (m : ℕ) (next : S) → n < length all → c ≡ get_or all n c → at ≡ n → m ≡ n + 1 → whole ≡ variable_by step end state n (drop n all) → step state (record { at = at; code = c }) ≡ Some next →
      ((c == 41) && is_some (variable_only (end next))) ≡ false → whole ≡ variable_by step end next m (drop m all)
  variable_on m next h e a k w s not =
      variable-steps next h e a w s ∙ not-closed n (c == 41) (variable_only (end next)) _ not ∙ ap (λ i. variable_by step end next i (drop i all)) (sym k)

-- In the words of the loops.

-- the text goes no further
pub stops_front : (g : Grammar) (all : List ℕ) (n c at : ℕ) (state : State) (whole : Result Front ℕ) (fault : SyntaxFault) → n < length all → c ≡ get_or all n c → at ≡ n →
    whole ≡ front_by (advance g most_parts) (accept g) state n (drop n all) → ((c == 41) && is_some (accept g state)) ≡ false → Stops g state (record { at = at; code = c }) fault → TellsFront whole (Err fault)
stops_front g all n c at state whole (At count) h e a w not s = front_stop (advance g most_parts) (accept g) all n c at state whole count h e a w not s.0 s.1
stops_front g all n c at state whole OutOfMemory h e a w not s = tt

pub stops_variable : (all : List ℕ) (n c at : ℕ) (state : State) (whole : Result Front ℕ) (fault : SyntaxFault) → n < length all → c ≡ get_or all n c → at ≡ n →
    whole ≡ variable_by (advance Arithmetic most_parts) (accept Arithmetic) state n (drop n all) → Stops Arithmetic state (record { at = at; code = c }) fault → TellsFront whole (Err fault)
stops_variable all n c at state whole (At count) h e a w s = variable_stop (advance Arithmetic most_parts) (accept Arithmetic) all n c at state whole count h e a w s.0 s.1
stops_variable all n c at state whole OutOfMemory h e a w s = tt

-- where a variable symbol is, there is a tree
pub some-accepted : (c : ℕ) (found : Option Tree) → ((c == 41) && is_some (variable_only found)) ≡ true → is_some found ≡ true
some-accepted c found e =
    let some = and-right (c == 41) (is_some (variable_only found)) e in
    ap is_some (sym (variable-found found some)) ∙ some
