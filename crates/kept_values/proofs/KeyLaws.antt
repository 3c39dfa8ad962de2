-- Keys and answers with one tree are one.
use Rattle.std.proofs.Common.{◌≡◌, ℕ, Bool, ℤ, List, refl, ap, ◌∙◌, arith}
use Rattle.hl_base.specs.declared.set.SetKind.{SetKind}
use Rattle.hl_base.specs.declared.set.SetKind.TheVariants as kind
use Rattle.hl_base.specs.declared.set.Key.{Key}
use Rattle.hl_base.specs.declared.set.Key.TheVariants as key
use Rattle.hl_base.specs.declared.set.Answer.{Answer}
use Rattle.hl_base.specs.declared.set.Attr.{Attr}
use Rattle.hl_base.specs.declared.place.PathId.{PathId}
use Rattle.hl_base.specs.declared.place.TextId.{TextId}
use Rattle.hl_base.specs.declared.set.Answer.TheVariants as answer
use Rattle.kept_values.specs.Trees.{Tree, Leaf, Fork}
use Rattle.kept_values.specs.Lists.{list_tree, bit_tree, integer_tree}
use Rattle.kept_values.specs.Keys.{kind_number, key_tree}
use Rattle.kept_values.specs.Answers.{answer_tree}
use Rattle.kept_values.proofs.ListLaws.{list_tree-one, bit_tree-one, integer_tree-one}

-- what a tree begins with
abbrev sort_of : Tree → ℕ
sort_of (Leaf n) = n
sort_of (Fork (Leaf n) rest) = n
sort_of (Fork (Fork a b) rest) = 0

kind_number-one : (a b : SetKind) → kind_number a ≡ kind_number b → a ≡ b
kind_number-one kind.A kind.A is = refl
kind_number-one kind.B kind.B is = refl
kind_number-one kind.C kind.C is = refl
kind_number-one a b is = absurd (omega (arith, is))

global_one : (k l : SetKind) (m n : List ℕ) (e f : ℕ) → key_tree (key.Global k m e) ≡ key_tree (key.Global l n f) → key.Global k m e ≡ key.Global l n f
global_one k l m n e f is =
    let kinds : kind_number k ≡ kind_number l = cc in
    let names : list_tree m ≡ list_tree n = cc in
    let kind_is : k ≡ l = kind_number-one k l kinds in
    let name_is : m ≡ n = list_tree-one m n names in
    let element_is : e ≡ f = cc in
    cc

named_one : (n : ℕ) (xs ys : List ℕ) → Fork (Leaf n) (list_tree xs) ≡ Fork (Leaf n) (list_tree ys) → xs ≡ ys
named_one n xs ys is =
    let names : list_tree xs ≡ list_tree ys = cc in
    list_tree-one xs ys names

pub key_tree-one : (a b : Key) → key_tree a ≡ key_tree b → a ≡ b
key_tree-one (key.Global k m e) (key.Global l n f) is = global_one k l m n e f is
key_tree-one (key.Op m) (key.Op n) is = ap key.Op (named_one 1 m n is)
key_tree-one (key.Member m) (key.Member n) is = ap key.Member (named_one 2 m n is)
key_tree-one (key.Sym m) (key.Sym n) is = ap key.Sym (named_one 3 m n is)
key_tree-one (key.Look m) (key.Look n) is = ap key.Look (named_one 4 m n is)
key_tree-one key.Sect key.Sect is = refl
key_tree-one key.Nest key.Nest is = refl
key_tree-one key.Parm key.Parm is = refl
key_tree-one key.Counter key.Counter is = refl
key_tree-one a b is = let sorts = ap sort_of is in absurd (omega (arith, sorts))

path_one : (p q : PathId) → p.0 ≡ q.0 → p ≡ q
path_one p q is = let make : ℕ → PathId = λ n. record { 0 = n } in ap make is

text_one : (p q : TextId) → p.0 ≡ q.0 → p ≡ q
text_one p q is = let make : ℕ → TextId = λ n. record { 0 = n } in ap make is

file_one : (p q : PathId) (t u : TextId) → answer_tree (answer.File p t) ≡ answer_tree (answer.File q u) → answer.File p t ≡ answer.File q u
file_one p q t u is =
    let paths : p.0 ≡ q.0 = cc in
    let texts : t.0 ≡ u.0 = cc in
    let path_is : p ≡ q = path_one p q paths in
    let text_is : t ≡ u = text_one t u texts in
    cc

meaning_one : (a b : Attr) → answer_tree (answer.Meaning a) ≡ answer_tree (answer.Meaning b) → answer.Meaning a ≡ answer.Meaning b
meaning_one a b is =
    let letters : a.letter ≡ b.letter = cc in
    let lengths : a.length ≡ b.length = cc in
    let make : ℕ → ℕ → Attr = λ x y. record { letter = x; length = y } in
    ap (λ x. answer.Meaning (make x a.length)) letters ∙ ap (λ y. answer.Meaning (make b.letter y)) lengths

number_one : (a b : ℤ) → answer_tree (answer.Number a) ≡ answer_tree (answer.Number b) → a ≡ b
number_one a b is = let e : integer_tree a ≡ integer_tree b = cc in integer_tree-one a b e

bit_one : (a b : Bool) → answer_tree (answer.Bit a) ≡ answer_tree (answer.Bit b) → a ≡ b
bit_one a b is = let e : bit_tree a ≡ bit_tree b = cc in bit_tree-one a b e

pub answer_tree-one : (a b : Answer) → answer_tree a ≡ answer_tree b → a ≡ b
answer_tree-one answer.Nothing answer.Nothing is = refl
answer_tree-one (answer.Number m) (answer.Number n) is = ap answer.Number (number_one m n is)
answer_tree-one (answer.Bit m) (answer.Bit n) is = ap answer.Bit (bit_one m n is)
answer_tree-one (answer.Chars m) (answer.Chars n) is = ap answer.Chars (named_one 3 m n is)
answer_tree-one answer.Defined answer.Defined is = refl
answer_tree-one (answer.File p t) (answer.File q u) is = file_one p q t u is
answer_tree-one answer.Unreadable answer.Unreadable is = refl
answer_tree-one (answer.Meaning m) (answer.Meaning n) is = meaning_one m n is
answer_tree-one a b is = let sorts = ap sort_of is in absurd (omega (arith, sorts))
