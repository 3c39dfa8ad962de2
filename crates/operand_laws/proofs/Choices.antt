-- Numbers and conditions in parentheses with a sequence symbol.
use Rattle.std.proofs.Common.{◌≡◌, ◌∙◌, ℕ, suc, ◌+◌, ◌-◌, ◌<◌, ◌≤◌, ◌==◌, inl, inr, Bool, true, false, List, [], ◌∷◌, ◌++◌, length, take, drop, get_or, refl, sym, ap, subst, arith, append_assoc, length-append}
use Rattle.std.specs.Prelude.{Result, Ok, Err, slice_index, if◌then◌else◌}
use Rattle.std.proofs.lemmas.Bool.{cases_lt, eqb-true}
use Rattle.std.proofs.lemmas.List.{drop_at, get_or-take, length-take-le, take-take, take_at}
use Rattle.std.proofs.Math.Seq.{get_or-append_seam}
use Rattle.expression_grammar.specs.Spelling.{IsExpression, most_parts}
use Rattle.expression_grammar.specs.Trees.{Tree}
use Rattle.conditional_fields.specs.declared.front.Sought.{Sought}
use Rattle.conditional_fields.specs.declared.front.Sought.TheVariants.{Condition, Number, Variable}
use Rattle.conditional_fields.specs.Fronts.{IsClosed, IsFirstClosed, IsNeverClosed, IsReach, IsSought, Written, accepts, extent}
use Rattle.conditional_fields.specs.Sequences.{sequence}
use Rattle.statement_reading.specs.Branches.{Choice, IsChosen, choice, pair}
use Rattle.statement_reading.proofs.BranchLaws.{condition-chosen, number-chosen}
use Rattle.operand_laws.specs.Right.{IsBegun, IsLongest}
use Rattle.operand_laws.specs.Fields.{IsChoosing, IsSequence}
use Rattle.operand_laws.proofs.Lists.{cut, rejoin}
use Rattle.operand_laws.proofs.Longest.{Reads, behind-one, empty-wrong, lifted, over-more, unbegun}
use Rattle.operand_laws.proofs.Symbols.{reads-sequence, some-sequence}

-- Texts that begin alike.

take-less : (xs ys : List ℕ) (k n : ℕ) → k ≤ n → take n xs ≡ take n ys → take k xs ≡ take k ys
take-less xs ys k n h same = sym (take-take k n xs h) ∙ ap (take k) same ∙ take-take k n ys h

index-same : (xs ys : List ℕ) (i n : ℕ) → i < n → take n xs ≡ take n ys → slice_index xs i ≡ slice_index ys i
index-same xs ys i n h same = sym (get_or-take n xs i 0 h) ∙ ap (λ (l : List ℕ). get_or l i 0) same ∙ get_or-take n ys i 0 h

extent-le : (sought : Sought) (before : ℕ) → extent sought before ≤ before + 1
extent-le Number before = omega arith
extent-le Condition before = omega arith
extent-le Variable before = omega arith

closed-same : (sought : Sought) (xs ys : List ℕ) (n before : ℕ) (tree : Tree) → before < n → take n xs ≡ take n ys → IsClosed sought xs before tree → IsClosed sought ys before tree
closed-same sought xs ys n before tree h same closed =
    let small = extent-le sought before in
    record {
      closes = sym (index-same xs ys before n h same) ∙ closed.closes;
      within = subst (λ (l : List ℕ). IsSought sought l tree) (take-less xs ys (extent sought before) n (omega arith) same) closed.within;
    }

first-same : (sought : Sought) (xs ys : List ℕ) (n before : ℕ) (tree : Tree) → before < n → take n xs ≡ take n ys → IsFirstClosed sought xs before tree → IsFirstClosed sought ys before tree
first-same sought xs ys n before tree h same first = record {
  closed = closed-same sought xs ys n before tree h same first.closed;
  first = λ earlier other less closed. first.first earlier other less (closed-same sought ys xs n earlier other (omega arith) (sym same) closed);
}

first-once : (sought : Sought) (xs ys : List ℕ) (n before other : ℕ) (tree tree2 : Tree) → before < n → take n xs ≡ take n ys → IsFirstClosed sought xs before tree → IsFirstClosed sought ys other tree2 →
    other ≡ before
first-once sought xs ys n before other tree tree2 h same one two = elim (cases_lt other before) [
  | inl less ↦ absurd (one.first other tree2 less (closed-same sought ys xs n other tree2 (omega arith) (sym same) two.closed))
  | inr ge ↦ elim (cases_lt before other) [
    | inl less ↦ absurd (two.first before tree less (closed-same sought xs ys n before tree h same one.closed))
    | inr le ↦ omega arith
  ]
]

index-within : (xs : List ℕ) (i : ℕ) → slice_index xs i ≡ 41 → i < length xs
index-within xs i is =
    let c = cut xs i is in
    let parts = ap length c.parts in
    let counted = length-append (take i xs) (41 ∷ drop (suc i) xs) in
    let count = c.count in
    let one : length (41 ∷ drop (suc i) xs) ≡ suc (length (drop (suc i) xs)) = refl in
    omega arith

-- Labels.

ok-sequence : (w : List ℕ) → IsSequence w → (name : List ℕ) × (sequence w ≡ Ok name)
ok-sequence w s = by (sequence w) refl (reads-sequence w)
  where
    by : (found : Result (List ℕ) ℕ) → sequence w ≡ found → Reads IsSequence w found → (name : List ℕ) × (sequence w ≡ Ok name)
    by (Ok name) e r = (name, e)
    by (Err n) e r = absurd (r.none s)

sequence-ok : (w name : List ℕ) → sequence w ≡ Ok name → IsSequence w
sequence-ok w name e = subst (λ (found : Result (List ℕ) ℕ). Reads IsSequence w found) e (reads-sequence w)

behind : (c n : ℕ) (xs : List ℕ) → drop (n + 2) (c ∷ xs) ≡ drop (n + 1) xs
behind c n xs = let next : n + 2 ≡ suc (n + 1) = omega arith in ap (λ k. drop k (c ∷ xs)) next

-- an operand of which the front is right
choosing : (sought : Sought) (inner front : List ℕ) (before : ℕ) (tree : Tree) → length front ≡ before + 1 → take (before + 1) inner ≡ front → IsFirstClosed sought inner before tree →
    (w : List ℕ) → IsSequence w → IsChoosing sought (40 ∷ (front ++ w))
choosing sought inner front before tree size same first w s =
    let named = ok-sequence w s in
    record {
      rest = front ++ w;
      begins = refl;
      tree = tree;
      label = named.0;
      choice = record {
        before = before;
        inner = first-same sought inner (front ++ w) (before + 1) before tree (omega arith) (same ∙ sym (take_at front w (before + 1) size)) first;
        label = ap sequence (behind 40 before (front ++ w) ∙ drop_at front w (before + 1) size) ∙ named.1;
      };
    }

chosen-label : (sought : Sought) (inner front : List ℕ) (before : ℕ) (tree : Tree) → length front ≡ before + 1 → take (before + 1) inner ≡ front → IsFirstClosed sought inner before tree →
    (w : List ℕ) → IsChoosing sought (40 ∷ (front ++ w)) → IsSequence w
chosen-label sought inner front before tree size same first w x =
    let is = x.choice in
    let at : is.before ≡ before =
    first-once sought inner (front ++ w) (before + 1) before is.before tree x.tree (omega arith) (same ∙ sym (take_at front w (before + 1) size)) first is.inner in
    let label = is.label in
    sequence-ok w x.label
    (sym (ap sequence (ap (λ n. drop (n + 2) (40 ∷ (front ++ w))) at ∙ behind 40 before (front ++ w) ∙ drop_at front w (before + 1) size)) ∙ label)

label-longest : (sought : Sought) (inner : List ℕ) (before : ℕ) (tree : Tree) (inside : ℕ) → IsFirstClosed sought inner before tree → sequence (drop (before + 1) inner) ≡ Err inside →
    IsLongest (IsChoosing sought) (40 ∷ inner) (inside + (before + 2))
label-longest sought inner before tree inside first e =
    let fits = index-within inner before first.closed.closes in
    let front = take (before + 1) inner in
    let rest = drop (before + 1) inner in
    let size : length front ≡ before + 1 = length-take-le (before + 1) inner (omega arith) in
    let wrong : IsLongest IsSequence rest inside = subst (λ (found : Result (List ℕ) ℕ). Reads IsSequence rest found) e (reads-sequence rest) in
    let one : length (40 ∷ front) ≡ suc (length front) = refl in
    subst (IsLongest (IsChoosing sought) (40 ∷ inner)) (let total : length (40 ∷ front) + inside ≡ inside + (before + 2) = omega arith in total)
    (subst (λ (l : List ℕ). IsLongest (IsChoosing sought) (40 ∷ l) (length (40 ∷ front) + inside)) (sym (rejoin inner (before + 1)))
    (lifted IsSequence (IsChoosing sought) (40 ∷ front) rest inside (choosing sought inner front before tree size refl first) (chosen-label sought inner front before tree size refl first) wrong))

-- What stands in the parentheses.

-- a number or a condition is any expression that is written so, without its parenthesis
record IsPlain (sought : Sought) : Type 0 where
  any : (tree : Tree) → accepts sought tree ≡ true
  plain : (before : ℕ) → extent sought before ≡ before
  chosen : (operand : List ℕ) → IsChosen sought operand (choice sought operand)

-- some parenthesis is the first at which a text is closed that is closed at all
first-closed : (sought : Sought) → IsPlain sought → (text : List ℕ) (before : ℕ) (tree : Tree) → IsClosed sought text before tree → (at : ℕ) × (other : Tree) × IsFirstClosed sought text at other
first-closed sought kind text before tree closed = by (choice sought (40 ∷ text)) (kind.chosen (40 ∷ text))
  where
    by : (found : Result Choice ℕ) → IsChosen sought (40 ∷ text) found → (at : ℕ) × (other : Tree) × IsFirstClosed sought text at other
    by (Ok found) is = (is.before, found.tree, is.inner)
    by (Err at) (inl is) = absurd (is.none before tree closed)
    by (Err at) (inr is) = (is.before, is.tree, is.inner)

never-begun : (sought : Sought) → IsPlain sought → (inner : List ℕ) (inside : ℕ) → IsNeverClosed sought inner → IsReach sought inner inside → IsBegun (λ w. IsChoosing sought (40 ∷ w)) (take inside inner)
never-begun sought kind inner inside never reach =
    let v = reach.viable in
    let within = reach.within in
    let front = take inside inner in
    let size : length front ≡ inside = length-take-le inside inner within in
    let whole = front ++ v.rest in
    let text = whole ++ 41 ∷ [] in
    let closed : IsClosed sought text (length whole) v.tree = record {
      closes = get_or-append_seam whole 41 [] 0;
      within = record {
        expression = subst (λ (l : List ℕ). IsExpression (Written sought) most_parts l v.tree)
            (sym (ap (λ n. take n text) (kind.plain (length whole)) ∙ take_at whole (41 ∷ []) (length whole) refl)) v.expression;
        accepted = kind.any v.tree;
      };
    } in
    let found = first-closed sought kind text (length whole) v.tree closed in
    let first = found.2 in
    let alike : take inside text ≡ take inside inner = ap (take inside) (append_assoc front v.rest (41 ∷ [])) ∙ take_at front (v.rest ++ 41 ∷ []) inside size in
    let late : inside ≤ found.0 = elim (cases_lt found.0 inside) [
      | inl less ↦ absurd (never found.0 found.1 (closed-same sought text inner inside found.0 found.1 less alike first.closed))
      | inr ge ↦ ge
    ] in
    let fits = index-within text found.0 first.closed.closes in
    let part = take (found.0 + 1) text in
    let long : length part ≡ found.0 + 1 = length-take-le (found.0 + 1) text (omega arith) in
    let right = choosing sought text part found.0 found.1 long refl first (46 ∷ 65 ∷ []) some-sequence in
    let ends = part ++ 46 ∷ 65 ∷ [] in
    let same : take inside ends ≡ take inside inner =
    take-less ends text inside (found.0 + 1) (omega arith) (take_at part (46 ∷ 65 ∷ []) (found.0 + 1) long) ∙ alike in
    record {
      rest = drop inside ends;
      right = subst (λ (l : List ℕ). IsChoosing sought (40 ∷ l)) (rejoin ends inside ∙ ap (λ l. l ++ drop inside ends) same) right;
    }

never-longest : (sought : Sought) → IsPlain sought → (inner : List ℕ) (inside : ℕ) → IsNeverClosed sought inner → IsReach sought inner inside → IsLongest (λ w. IsChoosing sought (40 ∷ w)) inner inside
never-longest sought kind inner inside never reach = record {
  within = reach.within;
  begun = never-begun sought kind inner inside never reach;
  longest = λ more h w b. longer more h w b.rest b.right;
  none = λ x. never x.choice.before x.tree x.choice.inner.closed;
}
  where
    longer : (more : ℕ) → inside < more → more ≤ length inner → (r : List ℕ) → IsChoosing sought (40 ∷ (take more inner ++ r)) → ⊥
    longer more h w r x =
        let front = take more inner in
        let size : length front ≡ more = length-take-le more inner w in
        let at = x.choice.before in
        let closed = x.choice.inner.closed in
        elim (cases_lt at more) [
          | inl less ↦ never at x.tree (closed-same sought (front ++ r) inner more at x.tree less (take_at front r more size) closed)
          | inr ge ↦
              reach.longest more h w (record {
                rest = take (at - length front) r;
                tree = x.tree;
                expression = subst (λ (l : List ℕ). IsExpression (Written sought) most_parts l x.tree)
                    (ap (λ n. take n (front ++ r)) (kind.plain at) ∙ over-more front r at (omega arith)) closed.within.expression;
              })
        ]

-- Operands.

reads-choice : (sought : Sought) → IsPlain sought → (inner : List ℕ) → Reads (IsChoosing sought) (40 ∷ inner) (choice sought (40 ∷ inner))
reads-choice sought kind inner = by (choice sought (40 ∷ inner)) (kind.chosen (40 ∷ inner))
  where
    by : (found : Result Choice ℕ) → IsChosen sought (40 ∷ inner) found → Reads (IsChoosing sought) (40 ∷ inner) found
    by (Ok found) is = record { rest = inner; begins = refl; tree = found.tree; label = found.label; choice = is }
    by (Err at) (inl is) =
        subst (IsLongest (IsChoosing sought) (40 ∷ inner)) (sym is.place)
        (behind-one (λ w. IsChoosing sought (40 ∷ w)) (IsChoosing sought) 40 inner is.inside (λ w x. x) (λ w x. x) (never-longest sought kind inner is.inside is.none is.reach))
    by (Err at) (inr is) =
        subst (IsLongest (IsChoosing sought) (40 ∷ inner)) (sym is.place)
        (label-longest sought inner is.before is.tree is.inside is.inner (ap sequence (sym (behind 40 is.before inner)) ∙ is.label))

some-choosing : (sought : Sought) → IsPlain sought → IsBegun (IsChoosing sought) []
some-choosing sought kind = by (choice sought (40 ∷ [])) (reads-choice sought kind [])
  where
    by : (found : Result Choice ℕ) → Reads (IsChoosing sought) (40 ∷ []) found → IsBegun (IsChoosing sought) []
    by (Ok found) right = record { rest = 40 ∷ []; right = right }
    by (Err n) l = let begun = l.begun in record { rest = take n (40 ∷ []) ++ begun.rest; right = begun.right }

first-open : (sought : Sought) (x : ℕ) (xs : List ℕ) → IsChoosing sought (x ∷ xs) → x ≡ 40
first-open sought x xs c = let is = c.begins in cc

number-plain : IsPlain Number
number-plain = record { any = λ tree. refl; plain = λ before. refl; chosen = number-chosen }

condition-plain : IsPlain Condition
condition-plain = record { any = λ tree. refl; plain = λ before. refl; chosen = condition-chosen }

pub reads-number : (inner : List ℕ) → Reads (IsChoosing Number) (40 ∷ inner) (choice Number (40 ∷ inner))
reads-number = reads-choice Number number-plain

pub reads-pair : (text : List ℕ) → Reads (IsChoosing Condition) text (pair text)
reads-pair [] =
    let some = some-choosing Condition condition-plain in
    empty-wrong (IsChoosing Condition) some.rest some.right (λ c. let is = c.begins in cc)
reads-pair (c ∷ rest) = by (c == 40) refl
  where
    by : (b : Bool) → (c == 40) ≡ b → Reads (IsChoosing Condition) (c ∷ rest) (if b then choice Condition (c ∷ rest) else Err 0)
    by true e =
        subst (λ (x : ℕ). Reads (IsChoosing Condition) (x ∷ rest) (choice Condition (x ∷ rest))) (sym (eqb-true c 40 e)) (reads-choice Condition condition-plain rest)
    by false e =
        let some = some-choosing Condition condition-plain in
        unbegun (IsChoosing Condition) c 40 rest some.rest some.right (first-open Condition) e
