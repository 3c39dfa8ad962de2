-- What is known by its tree.
use Rattle.std.proofs.Common.{◌≡◌, ◌==◌, ◌∙◌, ℕ, Bool, true, false, List, [], ◌∷◌, None, refl, ap, sym, true≢false}
use Rattle.hl_base.specs.declared.set.Answer.{Answer}
use Rattle.hl_base.specs.declared.set.Answer.TheVariants as answer
use Rattle.kept_values.specs.Trees.{Tree, Leaf, Fork}
use Rattle.kept_values.specs.Lists.{list_tree}
use Rattle.kept_values.specs.Answers.{answer_tree}
use Rattle.macro_library.specs.Contents.{Content}
use Rattle.macro_library.specs.Trees.{content_in, list_in, left_in, right_in, number_in}
use Rattle.macro_library.proofs.TreeLaws.{content_back}
use Rattle.macro_library.specs.Files.{File}
use Rattle.call_sites.specs.Values.{definition_known, member_known}
use Rattle.call_sites.specs.Rules.{bits_in}

-- whether a tree is of this kind, and says something more
abbrev is_kind : ℕ → Tree → Bool
is_kind kind (Leaf n) = false
is_kind kind (Fork a b) = number_in a == kind

-- no answer is of the kind of macros, or of members
answer_kind_8 : (a : Answer) → is_kind 8 (answer_tree a) ≡ false
answer_kind_8 answer.Nothing = refl
answer_kind_8 (answer.Number number) = refl
answer_kind_8 (answer.Bit bit) = refl
answer_kind_8 (answer.Chars text) = refl
answer_kind_8 answer.Defined = refl
answer_kind_8 (answer.File path text) = refl
answer_kind_8 answer.Unreadable = refl
answer_kind_8 (answer.Meaning meaning) = refl

answer_kind_9 : (a : Answer) → is_kind 9 (answer_tree a) ≡ false
answer_kind_9 answer.Nothing = refl
answer_kind_9 (answer.Number number) = refl
answer_kind_9 (answer.Bit bit) = refl
answer_kind_9 (answer.Chars text) = refl
answer_kind_9 answer.Defined = refl
answer_kind_9 (answer.File path text) = refl
answer_kind_9 answer.Unreadable = refl
answer_kind_9 (answer.Meaning meaning) = refl

pub no_macro_answer : (a : Answer) (c : Content) → definition_known c ≡ answer_tree a → ⊥
no_macro_answer a c is = true≢false (ap (is_kind 8) is ∙ answer_kind_8 a)

pub no_member_answer : (a : Answer) (m : File) → member_known m ≡ answer_tree a → ⊥
no_member_answer a m is = true≢false (ap (is_kind 9) is ∙ answer_kind_9 a)

pub no_member_macro : (c : Content) (m : File) → member_known m ≡ definition_known c → ⊥
no_member_macro c m is = true≢false (ap (is_kind 9) is)

-- macros say one thing where they are known as one
abbrev pub content_known : Tree → Content
content_known tree = content_in (right_in tree)

pub contents_same : (c d : Content) → definition_known c ≡ definition_known d → c ≡ d
contents_same c d is = sym (content_back c) ∙ ap content_known is ∙ content_back d

list_back : (xs : List ℕ) → list_in (list_tree xs) ≡ xs
list_back [] = refl
list_back (x ∷ xs) = ap (λ l. x ∷ l) (list_back xs)

-- a member is what its tree says
abbrev file_in : Tree → File
file_in tree = record { path = record { 0 = number_in (left_in (right_in tree)) }; text = list_in (right_in (right_in tree)) }

file_back : (f : File) → file_in (member_known f) ≡ f
file_back f = ap (λ t. record { path = f.path; text = t }) (list_back f.text)

pub files_same : (f g : File) → member_known f ≡ member_known g → f ≡ g
files_same f g is = sym (file_back f) ∙ ap file_in is ∙ file_back g

pub file_as : (f g : File) → f.path.0 ≡ g.path.0 → f.text ≡ g.text → f ≡ g
file_as f g a b = ap {B = File} (λ x. record { path = record { 0 = x }; text = f.text }) a ∙ ap {B = File} (λ x. record { path = g.path; text = x }) b

-- no text is a number
pub bits_in_member : (path : ℕ) (text : List ℕ) → bits_in (Fork (Leaf 9) (Fork (Leaf path) (list_tree text))) ≡ None
bits_in_member path [] = refl
bits_in_member path (x ∷ xs) = refl
