-- The keys that are read first, by the numbers of calls. This project.
use Rattle.std.specs.Prelude.{ℕ, Option, List, map, option_map}
use Rattle.std.specs.Coded.{Coded, code_by, coded×, coded_ℕ, coded_list, coded_option}
use Rattle.std.proofs.Common.{refl}
use Rattle.kept_values.specs.Trees.{Tree}
use Rattle.kept_outcomes.specs.Codes.{tree_code}
use Rattle.expansion_memo.specs.Kept.{IsListed}

-- numbers of calls, and the key that a call of that number reads first, if it reads any
pub record FirstKeys : Type 0 where
  pub numbers : List ℕ
  pub keys : List (Option Tree)

abbrev pub keys_of : {K : Type 0} → (K → Tree) → List (Option K) → List (Option Tree)
keys_of code keys = map (option_map code) keys

abbrev pub firsts_code : Coded FirstKeys
firsts_code =
    code_by (List ℕ × List (Option Tree)) (coded× (coded_list coded_ℕ) (coded_list (coded_option tree_code)))
    (λ f. (f.numbers, f.keys)) (λ p. record { numbers = p.0; keys = p.1 }) (λ _. refl)

-- what was listed still is
abbrev pub StaysListed : FirstKeys → FirstKeys → Type 0
StaysListed old new = (number : ℕ) (key : Option Tree) → IsListed old.numbers old.keys number key → IsListed new.numbers new.keys number key
