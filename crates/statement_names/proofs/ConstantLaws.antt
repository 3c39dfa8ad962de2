-- What is read of the parts of a constant, one behind the other.
use Rattle.std.proofs.Common.{◌≡◌, ◌∙◌, ℕ, ◌+◌, List, ◌++◌, take, drop, Result, OnOk, ap, append_assoc}
use Rattle.std.proofs.lemmas.Result.{on_ok_weaker}
use Rattle.statement_names.specs.declared.name.WrittenName.{WrittenName}
use Rattle.statement_names.specs.Constants.{symbols}

-- the symbols of so many characters, and then what is found behind them
pub push-then : {T E : Type 0} (g : ℕ → List ℕ → List WrittenName) (r : Result T E) (old middle new : List WrittenName) (count at next : ℕ) (text front back : List ℕ) →
    next ≡ at + count → front ≡ take count text → back ≡ drop count text →
    middle ≡ old ++ symbols at front → OnOk r (new ≡ middle ++ g next back) →
    OnOk r (new ≡ old ++ (symbols at (take count text) ++ g (at + count) (drop count text)))
push-then g r old middle new count at next text front back is_next is_front is_back first second =
    on_ok_weaker r
    (λ grows.
    grows
    ∙ ap (λ l. l ++ g next back) first
    ∙ append_assoc old (symbols at front) (g next back)
    ∙ ap (λ f. old ++ (symbols at f ++ g next back)) is_front
    ∙ ap (λ b. old ++ (symbols at (take count text) ++ g next b)) is_back
    ∙ ap (λ n. old ++ (symbols at (take count text) ++ g n (drop count text))) is_next)
    second
