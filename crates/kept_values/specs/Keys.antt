-- Keys as trees: what kind of key it is, and then what it names. This project.
use Rattle.std.specs.Prelude.{ℕ}
use Rattle.hl_base.specs.declared.set.SetKind.{SetKind}
use Rattle.hl_base.specs.declared.set.SetKind.TheVariants as kind
use Rattle.hl_base.specs.declared.set.Key.{Key}
use Rattle.hl_base.specs.declared.set.Key.TheVariants as key
use Rattle.kept_values.specs.Trees.{Tree, Leaf, Fork}
use Rattle.kept_values.specs.Lists.{list_tree}

-- the type of a SET symbol
abbrev pub kind_number : SetKind → ℕ
kind_number kind.A = 0
kind_number kind.B = 1
kind_number kind.C = 2

-- a key
abbrev pub key_tree : Key → Tree
key_tree (key.Global kind name element) = Fork (Leaf 0) (Fork (Leaf (kind_number kind)) (Fork (Leaf element) (list_tree name)))
key_tree (key.Op name) = Fork (Leaf 1) (list_tree name)
key_tree (key.Member name) = Fork (Leaf 2) (list_tree name)
key_tree (key.Sym name) = Fork (Leaf 3) (list_tree name)
key_tree (key.Look name) = Fork (Leaf 4) (list_tree name)
key_tree key.Sect = Leaf 5
key_tree key.Nest = Leaf 6
key_tree key.Parm = Leaf 7
key_tree key.Counter = Leaf 8
