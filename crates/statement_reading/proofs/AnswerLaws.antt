-- Texts that are read one after the other, each seen as what is read.
use Rattle.std.proofs.Common.{◌≡◌, ◌∙◌, ℕ, List, [], ◌∷◌, ◌++◌, sym, ap}
use Rattle.std.specs.Prelude.{Result, Ok, map}
use Rattle.std.proofs.lemmas.List.{map_push}
use Rattle.conditional_fields.specs.Answers.{behind_these, and_others}
use Rattle.conditional_fields.proofs.AnswerLaws.{each-goes}

-- one more of some texts
pub each-more : {V W : Type 0} (view : V → W) (whole : Result (List W) ℕ) (done : List V) (one : Result W ℕ) (others : Result (List W) ℕ) (v : V) →
    whole ≡ behind_these (map view done) (and_others one others) → one ≡ Ok (view v) → whole ≡ behind_these (map view (done ++ v ∷ [])) others
each-more view whole done one others v e is =
    each-goes whole (map view done) one others (view v) e is ∙ ap (λ front. behind_these front others) (sym (map_push view done v))
