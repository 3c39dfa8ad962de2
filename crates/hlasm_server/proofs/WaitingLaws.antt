-- Answers of `waiting`, one after another.
use Rattle.std.proofs.Common.{◌≡◌, ℕ, Bool, true, false, List, [], ◌∷◌, ◌++◌, drop, Option, IfSome, nat_lt, if◌then◌else◌, refl, ap, subst}
use Rattle.std.specs.Option.{option_map}
use Rattle.io_edge.specs.Told.{first_wait}
use Rattle.hlasm_server.specs.Waiting.{most_held, Asked, Asks}

pub Asked-append : (before middle now : Option (List Bool)) (first others : List Bool) → Asked before first middle → Asked middle others now → Asked before (first ++ others) now
Asked-append before middle now [] others is more = subst (λ (z : Option (List Bool)). Asked z others now) is more
Asked-append before middle now (answer ∷ first) others (here, is) more = (here, Asked-append (option_map (drop 1) before) middle now first others is more)

-- nothing was asked, since many messages came
pub asks_nothing : (since : ℕ) (w : Option (List Bool)) → nat_lt since most_held ≡ false → Asks since false w w
asks_nothing since w many = record {
  answers = [];
  asked = refl;
  held_back = λ more. ap (λ b. if b then first_wait more else false) many;
  left = λ more. ap (λ b. if b then drop 1 more else more) many;
}

-- one answer was asked for
pub asks_once : (since : ℕ) (answer : Bool) (before now : Option (List Bool)) → nat_lt since most_held ≡ true → IfSome before (λ told. answer ≡ first_wait told) → now ≡ option_map (drop 1) before
    → Asks since answer before now
asks_once since answer before now few here rest = record {
  answers = answer ∷ [];
  asked = (here, rest);
  held_back = λ more. ap (λ b. if b then answer else false) few;
  left = λ more. ap (λ b. if b then more else (answer ∷ more)) few;
}
