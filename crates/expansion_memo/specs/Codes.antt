-- How kept outcomes are stored as tuples, so that they are values that can be told apart. This project.
use Rattle.std.specs.Prelude.{◌≡◌, ℕ, zero, suc, Option, List}
use Rattle.std.proofs.Common.{refl}
use Rattle.std.specs.Coded.{Coded, code_by, coded×, coded_ℕ, coded_list, coded_option}
use Rattle.kept_values.specs.Trees.{Tree}
use Rattle.asking_core.specs.Runs.{Ending, ByLeave, ByEnd, ByBudget}
use Rattle.kept_outcomes.specs.Outcomes.{CallSummary}
use Rattle.kept_outcomes.specs.Codes.{tree_code, summary_code}
use Rattle.expansion_memo.specs.Kept.{KeptOutcome}

abbrev ending_number : Ending → ℕ
ending_number ByLeave = 0
ending_number ByEnd = 1
ending_number ByBudget = 2

abbrev number_ending : ℕ → Ending
number_ending zero = ByLeave
number_ending (suc zero) = ByEnd
number_ending (suc (suc n)) = ByBudget

pub ending_back : (e : Ending) → number_ending (ending_number e) ≡ e
ending_back ByLeave = refl
ending_back ByEnd = refl
ending_back ByBudget = refl

abbrev pub ending_code : Coded Ending
ending_code = code_by ℕ coded_ℕ ending_number number_ending ending_back

abbrev pub outcome_code : Coded KeptOutcome
outcome_code =
    code_by
    (Tree × (ℕ × (ℕ × (Ending × CallSummary))))
    (coded× tree_code (coded× coded_ℕ (coded× coded_ℕ (coded× ending_code summary_code))))
    (λ o. (o.call, (o.depth, (o.node, (o.ended, o.summary)))))
    (λ p. record { call = p.0; depth = p.1.0; node = p.1.1.0; ended = p.1.1.1.0; summary = p.1.1.1.1 })
    (λ _. refl)

abbrev pub kept_code : Coded (List (Option KeptOutcome))
kept_code = coded_list (coded_option outcome_code)
