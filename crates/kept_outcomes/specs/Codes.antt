-- How trees and summaries are stored as lists of numbers and tuples, so that they are values that can be told apart. This
-- project.
use Rattle.std.specs.Prelude.{◌≡◌, ℕ, zero, suc, Bool, List, [], ◌∷◌}
use Rattle.std.proofs.Common.{refl, ap, ◌∙◌}
use Rattle.std.specs.Coded.{Coded, code_by, coded×, coded_ℕ, coded_bool, coded_list}
use Rattle.kept_values.specs.Trees.{Tree, Leaf, Fork, Pair}
use Rattle.kept_outcomes.specs.Outcomes.{CallSummary}

-- a tree in postfix order: a leaf is its number and one, and 0 joins the two trees before it
abbrev spell : Tree → List ℕ → List ℕ
spell (Leaf n) rest = suc n ∷ rest
spell (Fork a b) rest = spell a (spell b (0 ∷ rest))

abbrev join : List Tree → List Tree
join [] = []
join (b ∷ []) = []
join (b ∷ a ∷ ts) = Fork a b ∷ ts

abbrev read : List ℕ → List Tree → List Tree
read [] ts = ts
read (zero ∷ ns) ts = read ns (join ts)
read (suc n ∷ ns) ts = read ns (Leaf n ∷ ts)

abbrev first : List Tree → Tree
first [] = Leaf 0
first (t ∷ ts) = t

pub read-spell : (t : Tree) (rest : List ℕ) (ts : List Tree) → read (spell t rest) ts ≡ read rest (t ∷ ts)
read-spell (Leaf n) rest ts = refl
read-spell (Fork a b) rest ts = read-spell a (spell b (0 ∷ rest)) ts ∙ read-spell b (0 ∷ rest) (a ∷ ts)

abbrev pub tree_code : Coded Tree
tree_code = code_by (List ℕ) (coded_list coded_ℕ) (λ t. spell t []) (λ ns. first (read ns [])) (λ t. ap first (read-spell t [] []))

abbrev pub pair_code : Coded Pair
pair_code = code_by (Tree × Tree) (coded× tree_code tree_code) (λ p. (p.key, p.value)) (λ p. record { key = p.0; value = p.1 }) (λ _. refl)

abbrev pub summary_code : Coded CallSummary
summary_code =
    code_by
    (List Pair × (List Pair × (ℕ × (ℕ × (ℕ × (Bool × Bool))))))
    (coded× (coded_list pair_code) (coded× (coded_list pair_code) (coded× coded_ℕ (coded× coded_ℕ (coded× coded_ℕ (coded× coded_bool coded_bool))))))
    (λ s. (s.read, (s.puts, (s.calls, (s.units, (s.levels, (s.no_room, s.at_told)))))))
    (λ p. record { read = p.0; puts = p.1.0; calls = p.1.1.0; units = p.1.1.1.0; levels = p.1.1.1.1.0; no_room = p.1.1.1.1.1.0; at_told = p.1.1.1.1.1.1 })
    (λ _. refl)
