-- Meanings stand.
use Rattle.std.proofs.Common.{◌≡◌, ◌∙◌, ℕ, Bool, true, false, cond, List, [], ◌∷◌, ◌++◌, Option, Some, None, refl, sym, ap, is_some}
use Rattle.std.specs.Option.{option_map}
use Rattle.std.specs.List.{find}
use Rattle.std.specs.Str.{bytes_eq}
use Rattle.std.proofs.lemmas.Slice.Eq.{bytes_eq-Decides}
use Rattle.variable_meanings.specs.declared.meaning.Meaning.{Meaning}
use Rattle.variable_meanings.specs.Laws.{MeaningsStand, MeaningIsGiven}
use Rattle.variable_meanings.specs.Meanings.{Known, has_name, meaning_in, meaning_of, with_meaning}

step : (b : Bool) (one : Known) (rest more : Option Known) (first : Meaning) →
    (option_map meaning_in rest ≡ Some first → option_map meaning_in more ≡ Some first) →
    option_map meaning_in (cond b (Some one) rest) ≡ Some first → option_map meaning_in (cond b (Some one) more) ≡ Some first
step true one rest more first goes is = is
step false one rest more first goes is = goes is

-- what is found in front stays so whatever stands behind
behind : (known last : List Known) (name : List ℕ) (first : Meaning) → meaning_of known name ≡ Some first → meaning_of (known ++ last) name ≡ Some first
behind [] last name first is = absurd cc
behind (one ∷ known) last name first is =
    step (has_name name one) one (find (has_name name) known) (find (has_name name) (known ++ last)) first (behind known last name first) is

added : (b : Bool) (known last : List Known) (name : List ℕ) (first : Meaning) → meaning_of known name ≡ Some first →
    meaning_of (cond b known (known ++ last)) name ≡ Some first
added true known last name first is = is
added false known last name first is = behind known last name first is

pub stands : MeaningsStand
stands known name other first later is =
    added (is_some (meaning_of known other)) known (record { name = other; meaning = later } ∷ []) name first is

fresh_step : (b : Bool) (one : Known) (rest more : Option Known) (meaning : Meaning) →
    (option_map meaning_in rest ≡ None → option_map meaning_in more ≡ Some meaning) →
    option_map meaning_in (cond b (Some one) rest) ≡ None → option_map meaning_in (cond b (Some one) more) ≡ Some meaning
fresh_step true one rest more meaning goes none = absurd cc
fresh_step false one rest more meaning goes none = goes none

last_one : (known : List Known) (name : List ℕ) (meaning : Meaning) → meaning_of known name ≡ None →
    meaning_of (known ++ record { name = name; meaning = meaning } ∷ []) name ≡ Some meaning
last_one [] name meaning none = ap (λ b. option_map meaning_in (cond b (Some (record { name = name; meaning = meaning })) None)) ((bytes_eq-Decides name name).1 refl)
last_one (one ∷ known) name meaning none =
    fresh_step (has_name name one) one (find (has_name name) known) (find (has_name name) (known ++ record { name = name; meaning = meaning } ∷ [])) meaning
    (last_one known name meaning) none

pub given : MeaningIsGiven
given known name meaning none =
    ap (λ o. meaning_of (cond (is_some o) known (known ++ record { name = name; meaning = meaning } ∷ [])) name) none ∙ last_one known name meaning none
