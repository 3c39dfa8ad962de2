-- Texts under numbers, each held once, with a count of its owners (this project).
use Rattle.std.specs.Prelude.{◌≡◌, ◌↔◌, ℕ, ◌+◌, ◌<◌, List, [], IsSome, refl}
use Rattle.std.specs.Option.{option_map_or}
use Rattle.std.specs.Ordering.{nat_cmp}
use Rattle.std.specs.FinMap as map
use Rattle.std.specs.Coded.{Coded, code_by, coded×, coded_ℕ, coded_list}

-- what is held of a live text: its characters, and how many own it
pub record Held : Type 0 where
  pub text : List ℕ
  pub owners : ℕ

abbrev pub held_code : Coded Held
held_code =
    code_by
    (List ℕ × ℕ)
    (coded× (coded_list coded_ℕ) coded_ℕ)
    (λ held. (held.text, held.owners))
    (λ pair. record { text = pair.0; owners = pair.1 })
    (λ _. refl)

-- the live numbers, and what is held under each
abbrev pub Pool : Type 0
Pool = map.FinMap nat_cmp Held

abbrev pub pool_code : Coded Pool
pool_code = map.code coded_ℕ held_code

-- a text is held under the number
abbrev pub IsLive : Pool → ℕ → Type 0
IsLive pool id = IsSome (map.get pool id)

-- the characters held under a live number
abbrev pub text_of : Pool → ℕ → List ℕ
text_of pool id = option_map_or (λ held. held.text) (map.get pool id) []

-- how many own the text under a number: nobody where it is not live
abbrev pub owners_of : Pool → ℕ → ℕ
owners_of pool id = option_map_or (λ held. held.owners) (map.get pool id) 0

-- the pool has this text under this number
pub record HasText (pool : Pool) (text : List ℕ) (id : ℕ) : Type 0 where
  pub live : IsLive pool id
  pub is : text_of pool id ≡ text

-- the pool with this text and so many owners under the number, and every other number as it was
abbrev pub holding : Pool → ℕ → List ℕ → ℕ → Pool
holding pool id text owners = map.insert pool id (record { text = text; owners = owners })

-- the text of a live number has this many owners, and nothing else changed
abbrev pub with_owners : Pool → ℕ → ℕ → Pool
with_owners pool id owners = holding pool id (text_of pool id) owners

-- A text came under the number. It is the number of the equal live text, if there is one, and else none that was live;
-- the text has one owner more there, and nothing else changed.
pub record IsInterned (old new : Pool) (text : List ℕ) (id : ℕ) : Type 0 where
  pub number : (other : ℕ) → IsLive old other → (text_of old other ≡ text) ↔ (other ≡ id)
  pub counted : new ≡ holding old id text (owners_of old id + 1)

-- equal live texts have equal numbers, and equal numbers have equal texts
abbrev pub TextsDiffer : Pool → Type 0
TextsDiffer pool = (id other : ℕ) → IsLive pool id → IsLive pool other → (text_of pool id ≡ text_of pool other) ↔ (id ≡ other)

-- each live text has an owner
abbrev pub AllOwned : Pool → Type 0
AllOwned pool = (id : ℕ) → IsLive pool id → 0 < owners_of pool id
