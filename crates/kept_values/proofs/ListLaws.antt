-- Lists, bits and integers as trees are one where they are one.
use Rattle.std.proofs.Common.{◌≡◌, ℕ, Bool, true, false, ℤ, pos, negsuc, List, [], ◌∷◌, refl}
use Rattle.kept_values.specs.Lists.{list_tree, bit_tree, integer_tree}

-- trees of lists are one where the lists are one
pub list_tree-one : (xs ys : List ℕ) → list_tree xs ≡ list_tree ys → xs ≡ ys
list_tree-one [] [] is = refl
list_tree-one [] (y ∷ ys) is = cc
list_tree-one (x ∷ xs) [] is = cc
list_tree-one (x ∷ xs) (y ∷ ys) is =
    let rest : list_tree xs ≡ list_tree ys = cc in
    let rest_is : xs ≡ ys = list_tree-one xs ys rest in
    cc

-- trees of bits are one where the bits are one
pub bit_tree-one : (a b : Bool) → bit_tree a ≡ bit_tree b → a ≡ b
bit_tree-one false false is = refl
bit_tree-one false true is = cc
bit_tree-one true false is = cc
bit_tree-one true true is = refl

-- trees of integers are one where the integers are one
pub integer_tree-one : (a b : ℤ) → integer_tree a ≡ integer_tree b → a ≡ b
integer_tree-one (pos m) (pos n) is = cc
integer_tree-one (pos m) (negsuc n) is = cc
integer_tree-one (negsuc m) (pos n) is = cc
integer_tree-one (negsuc m) (negsuc n) is = cc
