-- Ids are one or not.
use Rattle.std.proofs.Common.{◌≡◌, Bool, true, false, refl, ap, ◌∙◌}
use Rattle.std.proofs.lemmas.Bool.Decides.{Decides-int_eq}
use Rattle.std.proofs.lemmas.Slice.Eq.{bytes_eq-Decides}
use Rattle.lsp_messages.specs.declared.incoming.Id.{Id}
use Rattle.lsp_messages.specs.declared.incoming.Id.TheVariants.{Number, Words}
use Rattle.waiting_requests.specs.Requests.{is_same_id}

id_itself : (id : Id) → is_same_id id id ≡ true
id_itself (Number number) = (Decides-int_eq number number).1 refl
id_itself (Words words) = (bytes_eq-Decides words words).1 refl

id_one : (one other : Id) → is_same_id one other ≡ true → one ≡ other
id_one (Number one) (Number other) is = ap Number ((Decides-int_eq one other).0 is)
id_one (Words one) (Words other) is = ap Words ((bytes_eq-Decides one other).0 is)
id_one (Number one) (Words other) is = cc
id_one (Words one) (Number other) is = cc

pub not_both : (b : Bool) → b ≡ true → b ≡ false → ⊥
not_both true is other = cc
not_both false is other = cc

-- whichever is looked at first
pub id_back : (one other : Id) → is_same_id one other ≡ false → is_same_id other one ≡ false
id_back one other differs = by_test (is_same_id other one) refl where
  by_test : (b : Bool) → is_same_id other one ≡ b → b ≡ false
  by_test false is = refl
  by_test true is =
      let same : is_same_id one other ≡ true = ap (λ (z : Id). is_same_id one z) (id_one other one is) ∙ id_itself one in
      absurd (not_both (is_same_id one other) same differs)
