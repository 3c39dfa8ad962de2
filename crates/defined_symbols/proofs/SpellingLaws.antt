-- Names among the keys that spell them.
use Rattle.std.proofs.Common.{◌≡◌, ◌∙◌, ◌||◌, ℕ, Bool, true, false, cond, List, [], ◌∷◌, ◌++◌, refl, ap, string_bytes}
use Rattle.std.specs.List.{list_any}
use Rattle.std.specs.Str.{bytes_eq}
use Rattle.std.specs.String.{string_eq}
use Rattle.std.specs.declared.string.String.{String}
use Rattle.std.specs.declared.alloc.Global.{Global}
use Rattle.std.proofs.lemmas.List.{map-append}
use Rattle.indexmap.specs.IndexSet.{insert_key}
use Rattle.defined_symbols.specs.Held.{spelled}
use Rattle.defined_symbols.specs.Symbols.{with_symbol}

-- a name is spelled by a key exactly where it is among those that are
pub any_spelled : (name : List ℕ) (keys : List (String Global)) →
    list_any (λ key. bytes_eq name (string_bytes key)) keys ≡ list_any (bytes_eq name) (spelled keys)
any_spelled name [] = refl
any_spelled name (key ∷ keys) = ap (λ b. bytes_eq name (string_bytes key) || b) (any_spelled name keys)

inserted_by : (b : Bool) (keys : List (String Global)) (key : String Global) →
    spelled (cond b keys (keys ++ key ∷ [])) ≡ cond b (spelled keys) (spelled keys ++ string_bytes key ∷ [])
inserted_by true keys key = refl
inserted_by false keys key = map-append string_bytes keys (key ∷ [])

-- a key that is inserted spells one more
pub spelled-insert : (keys : List (String Global)) (key : String Global) →
    spelled (insert_key string_eq keys key) ≡ with_symbol (spelled keys) (string_bytes key)
spelled-insert keys key =
    inserted_by (list_any (string_eq key) keys) keys key
    ∙ ap (λ b. cond b (spelled keys) (spelled keys ++ string_bytes key ∷ [])) (any_spelled (string_bytes key) keys)
