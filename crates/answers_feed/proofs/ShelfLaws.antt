-- What is kept of the members.
use Rattle.std.proofs.Common.{◌≡◌, ℕ, Bool, true, false, cond, ◌==◌, Option, Some, Result, Ok, Err, OnOk, OnErr, refl, sym, ap, ◌∙◌, eqb-true}
use Rattle.std.specs.HashMap.{HashMap, get, Updates, IsUnchanged}
use Rattle.std.specs.Map.{lookup}
use Rattle.answers_feed.specs.Inside.{AreSites, member_of_shelf}
use Rattle.text_sites.specs.Sites.{Site}

-- one site more is kept
pub kept_with : {S : Type 0} (members : ℕ → Option Site) (old new : HashMap ℕ Site S) (number : ℕ) (site : Site) → AreSites members old → site ≡ member_of_shelf members number
    → ((other : ℕ) → get (λ a b. a == b) new other ≡ cond (number == other) (Some site) (get (λ a b. a == b) old other)) → AreSites members new
kept_with members old new number site known is updates other found got = by_test (number == other) refl where
  by_test : (b : Bool) → (number == other) ≡ b → found ≡ member_of_shelf members other
  by_test true e =
      let at : Some found ≡ Some site = sym got ∙ updates other ∙ ap (λ b. cond b (Some site) (get (λ x y. x == y) old other)) e in
      let same : found ≡ site = cc in
      same ∙ is ∙ ap (member_of_shelf members) (eqb-true number other e)
  by_test false e =
      known other found (sym (ap (λ b. cond b (Some site) (get (λ x y. x == y) old other)) e) ∙ sym (updates other) ∙ got)

-- the same where there may be no room for it
pub kept_after : {S T E : Type 0} (result : Result T E) (members : ℕ → Option Site) (old new : HashMap ℕ Site S) (number : ℕ) (site : Site) → AreSites members old
    → site ≡ member_of_shelf members number → OnOk result (Updates (λ a b. a == b) old new number (Some site)) → OnErr result (IsUnchanged old new) → AreSites members new
kept_after (Ok x) members old new number site known is updates unchanged = kept_with members old new number site known is updates.0
kept_after (Err e) members old new number site known is updates unchanged = λ other found got.
    known other found (ap (lookup (λ b. other == b)) (sym unchanged) ∙ got)
