-- What is whole in a logical expression: it is never empty, blanks may stand behind it, and operators close over it.
use Rattle.std.proofs.Common.{◌≡◌, ℕ, ◌<◌, ◌≤◌, Bool, true, false, List, [], ◌∷◌, ◌++◌, refl, sym, ap, ◌∙◌, subst, arith, append_assoc, inl, inr}
use Rattle.std.specs.Prelude.{None, IsTrue, nat_le, if◌then◌else◌}
use Rattle.std.proofs.lemmas.Bool.Decides.{nat_tests}
use Rattle.expression_grammar.specs.declared.character.Grammar.TheVariants.{Arithmetic}
use Rattle.expression_grammar.specs.declared.character.Kind.TheVariants as kind
use Rattle.expression_grammar.specs.declared.tree.Operator.{Operator}
use Rattle.expression_grammar.specs.declared.tree.Operator.TheVariants.{And, Or, Xor}
use Rattle.expression_grammar.specs.Characters.{kind_of, strength}
use Rattle.expression_grammar.specs.Trees.{Tree, Pair, Paren, Not, Compared}
use Rattle.expression_grammar.specs.Spelling.{Placed, Piece, Gap, One, Reads, spell, rank}
use Rattle.expression_grammar.specs.Reading.{Want, accept}
use Rattle.character_grammar.specs.Texts.{spell_text, IsText}
use Rattle.logical_grammar.specs.Logics.{IsNumber, IsCharacters, IsTruth, IsLogical, Joined, Negated, operator_word, comparison_word, is_logical, touches_behind}
use Rattle.character_grammar.specs.TextReading.{WantPart, text_accept}
use Rattle.logical_grammar.specs.LogicReading.{Open, Negation, LeftOperand, Group, LogicFolded, logic_fold}
use Rattle.logical_grammar.specs.LogicStanding.{Takes, AreOpen, Under, is_empty}
use Rattle.expression_grammar.proofs.Appends.{spell-over}
use Rattle.expression_grammar.proofs.Pieces.{reads-cut, last-turned, gap-longer}
use Rattle.expression_grammar.proofs.LeadsOf.{accepted}
use Rattle.character_grammar.proofs.TextTrees.{text_accepted}
use Rattle.logical_grammar.proofs.LogicUnder.{blank-apart, ahead-apart, behind-tail, some-left, some-right, word-some, comparison-some, joined-some, negated-some, joined-more, negated-more, under-became, takes-high}

-- What is whole is not empty.

pub number-some : (tree : Tree) (text : List Placed) → IsNumber tree text → is_empty text ≡ false
unfolding accept
number-some tree [] i =
    let a = accepted Arithmetic tree [] i.fits i.reads in
    let same : Want [] ≡ a.last = let r = a.runs in cc in
    let e = ap (accept Arithmetic) same ∙ a.accepts in cc
number-some tree (p ∷ text) i = refl

text-some : (tree : Tree) (core : List Placed) → IsText tree → Reads Arithmetic (spell_text tree []) core → is_empty core ≡ false
unfolding text_accept
text-some tree [] i r =
    let a = text_accepted tree [] i r in
    let same : WantPart None ≡ a.last = let b = a.runs in cc in
    let e = ap text_accept same ∙ a.accepts in cc
text-some tree (p ∷ core) i r = refl

pub characters-some : (tree : Tree) (text : List Placed) → IsCharacters tree text → is_empty text ≡ false
characters-some tree text i = ap is_empty i.all ∙ some-left (i.before ++ i.core) i.behind (some-right i.before i.core (text-some tree i.core i.fits i.reads))

pub logical-some : (tree : Tree) (text : List Placed) → IsLogical tree text → is_empty text ≡ false
logical-some (Pair operator left right) text i = joined-some (IsTruth left) (IsTruth right) (operator_word operator) text i.3 (word-some operator i.3.letters i.0 i.3.named)
logical-some (Not operand) text i = negated-some (IsTruth operand) text i.1
logical-some (Compared comparison left right) text (inl j) = joined-some (IsNumber left) (IsNumber right) (comparison_word comparison) text j (comparison-some comparison j.letters j.named)
logical-some (Compared comparison left right) text (inr j) = joined-some (IsCharacters left) (IsCharacters right) (comparison_word comparison) text j (comparison-some comparison j.letters j.named)
logical-some (Paren inner) text i = ap is_empty i.all ∙ some-right i.before (i.opening ∷ (i.inner ++ i.closing ∷ i.behind)) refl
logical-some _ text i = absurd i

pub truth-some : (tree : Tree) (text : List Placed) → IsTruth tree text → is_empty text ≡ false
truth-some tree text (inl i) = number-some tree text i
truth-some tree text (inr i) = logical-some tree text i

-- A blank behind it.

pub number-blank : (tree : Tree) (text : List Placed) (p : Placed) → kind_of p.code ≡ kind.Blank → IsNumber tree text → IsNumber tree (text ++ p ∷ [])
number-blank tree text p e i =
    let over : Gap ∷ spell tree (Gap ∷ []) ≡ (Gap ∷ spell tree []) ++ Gap ∷ [] = ap (λ ks. Gap ∷ ks) (spell-over tree [] (Gap ∷ [])) in
    record {
      fits = i.fits;
      reads = subst (λ ks. Reads Arithmetic ks (text ++ p ∷ [])) (sym over)
          (last-turned Arithmetic (Gap ∷ spell tree []) Gap Gap text (p ∷ []) (gap-longer Arithmetic p refl e) (subst (λ ks. Reads Arithmetic ks text) over i.reads));
    }

pub characters-blank : (tree : Tree) (text : List Placed) (p : Placed) → kind_of p.code ≡ kind.Blank → IsCharacters tree text → IsCharacters tree (text ++ p ∷ [])
characters-blank tree text p e i =
    record {
      before = i.before;
      core = i.core;
      behind = i.behind ++ p ∷ [];
      all = ap (λ xs. xs ++ p ∷ []) i.all ∙ append_assoc (i.before ++ i.core) i.behind (p ∷ []);
      blank_before = i.blank_before;
      blank_behind = gap-longer Arithmetic p refl e i.behind i.blank_behind;
      fits = i.fits;
      reads = i.reads;
    }

truth-blank_of : (tree : Tree) (text : List Placed) (p : Placed) → kind_of p.code ≡ kind.Blank → ((u : List Placed) → IsLogical tree u → IsLogical tree (u ++ p ∷ [])) → IsTruth tree text → IsTruth tree (text ++ p ∷ [])
truth-blank_of tree text p e go (inl i) = inl (number-blank tree text p e i)
truth-blank_of tree text p e go (inr i) = inr (go text i)

pub logical-blank : (tree : Tree) (text : List Placed) (p : Placed) → kind_of p.code ≡ kind.Blank → IsLogical tree text → IsLogical tree (text ++ p ∷ [])
logical-blank (Pair operator left right) text p e i = (
  i.0,
  i.1,
  i.2,
  joined-more (IsTruth left) (IsTruth right) (IsTruth right) (operator_word operator) text (p ∷ []) i.3
      (truth-blank_of right i.3.right p e (λ u l. logical-blank right u p e l) i.3.second) (ahead-apart i.3.right p (blank-apart p.code e)),
)
logical-blank (Not operand) text p e i = (
  i.0,
  negated-more (IsTruth operand) (IsTruth operand) text (p ∷ []) i.1
      (truth-blank_of operand i.1.operand p e (λ u l. logical-blank operand u p e l) i.1.is) (ahead-apart i.1.operand p (blank-apart p.code e)),
)
logical-blank (Compared comparison left right) text p e (inl j) =
    inl (joined-more (IsNumber left) (IsNumber right) (IsNumber right) (comparison_word comparison) text (p ∷ []) j (number-blank right j.right p e j.second) (ahead-apart j.right p (blank-apart p.code e)))
logical-blank (Compared comparison left right) text p e (inr j) =
    inr (joined-more (IsCharacters left) (IsCharacters right) (IsCharacters right) (comparison_word comparison) text (p ∷ []) j (characters-blank right j.right p e j.second) (ahead-apart j.right p (blank-apart p.code e)))
logical-blank (Paren inner) text p e i =
    record {
      before = i.before;
      opening = i.opening;
      inner = i.inner;
      closing = i.closing;
      behind = i.behind ++ p ∷ [];
      all = ap (λ xs. xs ++ p ∷ []) i.all ∙ append_assoc i.before (i.opening ∷ (i.inner ++ i.closing ∷ i.behind)) (p ∷ [])
          ∙ ap (λ xs. i.before ++ i.opening ∷ xs) (append_assoc i.inner (i.closing ∷ i.behind) (p ∷ []));
      blank_before = i.blank_before;
      blank_behind = gap-longer Arithmetic p refl e i.behind i.blank_behind;
      opens = i.opens;
      closes = i.closes;
      is = i.is;
    }
logical-blank _ text p e i = absurd i

-- How strongly it binds.

mark-strength : (c : ℕ) (operator : Operator) → kind_of c ≡ kind.Mark operator → 5 ≤ strength operator
unfolding kind_of
mark-strength c And e = absurd (grind (arith, nat_tests))
mark-strength c Or e = absurd (grind (arith, nat_tests))
mark-strength c Xor e = absurd (grind (arith, nat_tests))
mark-strength c _ e = omega arith

pub number-rank : (tree : Tree) (text : List Placed) → IsNumber tree text → 5 ≤ rank tree
number-rank (Pair operator left right) text i =
    let ks : List Piece = Gap ∷ One (kind.Mark operator) ∷ Gap ∷ spell right (Gap ∷ []) in
    let r = i.reads in
    let c = reads-cut Arithmetic (spell left []) ks r.1 (subst (λ xs. Reads Arithmetic xs r.1) (spell-over left [] ks) r.4) in
    let o = c.second.4.3 in
    mark-strength o.one.code operator o.kind
number-rank (Not operand) text i = absurd i.fits
number-rank (Compared comparison left right) text i = absurd i.fits
number-rank _ text i = omega arith

-- Operators close over it.

-- a tree, and what is known of the last character
abbrev pub Ends : (Tree → List Placed → Type 0) → Tree → Bool → List Placed → Type 0
Ends Is tree touch part = Is tree part × (touches_behind false part ≡ touch)

-- what is left, with what is known of its tree and of the last character
pub record Folds (Is : Tree → List Placed → Type 0) (floor : ℕ) (touch : Bool) (text : List Placed) (folded : LogicFolded) : Type 0 where
  pub high : floor ≤ rank folded.tree
  pub takes : Takes folded.layers floor
  pub ordered : AreOpen folded.layers
  pub reads : Under folded.layers (λ part. Is folded.tree part × (touches_behind false part ≡ touch)) text

negated-closes : (tree : Tree) (touch : Bool) (text : List Placed) → 3 ≤ rank tree → Negated (λ part. IsTruth tree part × (touches_behind false part ≡ touch)) text →
    IsLogical (Not tree) text × (touches_behind false text ≡ touch)
negated-closes tree touch text h n =
    let some = truth-some tree n.operand n.is.0 in (
      (h, record { before = n.before; letters = n.letters; operand = n.operand; all = n.all; blank = n.blank; named = n.named; is = n.is.0; apart = n.apart }),
      ap (touches_behind false) n.all ∙ behind-tail (n.before ++ n.letters) n.operand some ∙ n.is.1,
    )

joined-closes : (operator : Operator) (left tree : Tree) (touch : Bool) (text : List Placed) → IsTrue (is_logical operator) → strength operator ≤ rank left → strength operator < rank tree →
    Joined (IsTruth left) (operator_word operator) (λ part. IsTruth tree part × (touches_behind false part ≡ touch)) text →
    IsLogical (Pair operator left tree) text × (touches_behind false text ≡ touch)
joined-closes operator left tree touch text i l h j =
    let some = truth-some tree j.right j.second.0 in (
      (i, l, h, record { left = j.left; letters = j.letters; right = j.right; all = j.all; first = j.first; second = j.second.0; named = j.named; apart_left = j.apart_left; apart_right = j.apart_right }),
      ap (touches_behind false) j.all ∙ behind-tail (j.left ++ j.letters) j.right some ∙ j.second.1,
    )

pub fold-logical : (floor : ℕ) (tree : Tree) (layers : List Open) (touch : Bool) (text : List Placed) → floor ≤ 3 → floor ≤ rank tree → Takes layers (rank tree) → AreOpen layers →
    Under layers (λ part. IsLogical tree part × (touches_behind false part ≡ touch)) text → Folds IsLogical floor touch text (logic_fold floor tree layers)
fold-logical floor tree [] touch text f h t a r = record { high = h; takes = tt; ordered = a; reads = r }
fold-logical floor tree (Negation ∷ layers) touch text f h t a r =
    fold-logical floor (Not tree) layers touch text f f (takes-high layers 3 (omega arith) a) a
    (under-became layers (Negated (Ends IsLogical tree touch)) (Ends IsLogical (Not tree) touch) text
    (λ u n. negated-closes tree touch u t
    (record { before = n.before; letters = n.letters; operand = n.operand; all = n.all; blank = n.blank; named = n.named; is = (inr n.is.0, n.is.1); apart = n.apart })) r)
fold-logical floor tree (LeftOperand operator left ∷ layers) touch text f h t a r =
    let otherwise : LogicFolded = record { tree = tree; layers = LeftOperand operator left ∷ layers } in
    let go : (b : Bool) → nat_le floor (strength operator) ≡ b → Folds IsLogical floor touch text (if b then logic_fold floor (Pair operator left tree) layers else otherwise) =
    elim [
      | true ↦ λ e. fold-logical floor (Pair operator left tree) layers touch text f (grind (arith, nat_tests)) a.2 a.3
          (under-became layers (Joined (IsTruth left) (operator_word operator) (Ends IsLogical tree touch)) (Ends IsLogical (Pair operator left tree) touch) text
          (λ u j. joined-closes operator left tree touch u a.0 a.1 t
          (record { left = j.left; letters = j.letters; right = j.right; all = j.all; first = j.first; second = (inr j.second.0, j.second.1); named = j.named; apart_left = j.apart_left; apart_right = j.apart_right })) r)
      | false ↦ λ e. record { high = h; takes = grind (arith, nat_tests); ordered = a; reads = r }
    ] in
    go (nat_le floor (strength operator)) refl
fold-logical floor tree (Group ∷ layers) touch text f h t a r = record { high = h; takes = tt; ordered = a; reads = r }

-- a logical expression is a truth
logical-truth : (floor : ℕ) (touch : Bool) (text : List Placed) (folded : LogicFolded) → Folds IsLogical floor touch text folded → Folds IsTruth floor touch text folded
logical-truth floor touch text folded f =
    record {
      high = f.high;
      takes = f.takes;
      ordered = f.ordered;
      reads = under-became folded.layers (Ends IsLogical folded.tree touch) (Ends IsTruth folded.tree touch) text (λ u i. (inr i.0, i.1)) f.reads;
    }

-- a NOT, and an operator that binds strongly enough, close over a truth
pub fold-not : (floor : ℕ) (tree : Tree) (layers : List Open) (touch : Bool) (text : List Placed) → floor ≤ 3 → 3 ≤ rank tree → AreOpen layers →
    Under layers (Negated (λ part. IsTruth tree part × (touches_behind false part ≡ touch))) text → Folds IsLogical floor touch text (logic_fold floor (Not tree) layers)
fold-not floor tree layers touch text f t a r =
    fold-logical floor (Not tree) layers touch text f f (takes-high layers 3 (omega arith) a) a
    (under-became layers (Negated (Ends IsTruth tree touch)) (Ends IsLogical (Not tree) touch) text (λ u n. negated-closes tree touch u t n) r)

pub fold-pair : (floor : ℕ) (operator : Operator) (left tree : Tree) (layers : List Open) (touch : Bool) (text : List Placed) → floor ≤ 3 → floor ≤ strength operator → strength operator < rank tree →
    AreOpen (LeftOperand operator left ∷ layers) → Under layers (Joined (IsTruth left) (operator_word operator) (λ part. IsTruth tree part × (touches_behind false part ≡ touch))) text →
    Folds IsLogical floor touch text (logic_fold floor (Pair operator left tree) layers)
fold-pair floor operator left tree layers touch text f h t a r =
    fold-logical floor (Pair operator left tree) layers touch text f h a.2 a.3
    (under-became layers (Joined (IsTruth left) (operator_word operator) (Ends IsTruth tree touch)) (Ends IsLogical (Pair operator left tree) touch) text
    (λ u j. joined-closes operator left tree touch u a.0 a.1 t j) r)

pub fold-truth : (floor : ℕ) (tree : Tree) (layers : List Open) (touch : Bool) (text : List Placed) → floor ≤ 3 → floor ≤ rank tree → Takes layers (rank tree) → AreOpen layers →
    Under layers (λ part. IsTruth tree part × (touches_behind false part ≡ touch)) text → Folds IsTruth floor touch text (logic_fold floor tree layers)
fold-truth floor tree [] touch text f h t a r = record { high = h; takes = tt; ordered = a; reads = r }
fold-truth floor tree (Negation ∷ layers) touch text f h t a r =
    logical-truth floor touch text (logic_fold floor (Not tree) layers) (fold-not floor tree layers touch text f t a r)
fold-truth floor tree (LeftOperand operator left ∷ layers) touch text f h t a r =
    let otherwise : LogicFolded = record { tree = tree; layers = LeftOperand operator left ∷ layers } in
    let go : (b : Bool) → nat_le floor (strength operator) ≡ b → Folds IsTruth floor touch text (if b then logic_fold floor (Pair operator left tree) layers else otherwise) =
    elim [
      | true ↦ λ e. logical-truth floor touch text (logic_fold floor (Pair operator left tree) layers) (fold-pair floor operator left tree layers touch text f (grind (arith, nat_tests)) t a r)
      | false ↦ λ e. record { high = h; takes = grind (arith, nat_tests); ordered = a; reads = r }
    ] in
    go (nat_le floor (strength operator)) refl
fold-truth floor tree (Group ∷ layers) touch text f h t a r = record { high = h; takes = tt; ordered = a; reads = r }
