-- What is known under a name, told of the entries of the map.
use Rattle.std.proofs.Common.{◌≡◌, ◌∙◌, ℕ, Bool, true, false, cond, List, [], ◌∷◌, ◌++◌, Option, Some, None, refl, sym, ap, string_bytes, is_some}
use Rattle.std.specs.Option.{option_map}
use Rattle.std.specs.List.{find}
use Rattle.std.specs.Str.{bytes_eq}
use Rattle.std.specs.Map.{lookup}
use Rattle.std.specs.String.{string_eq}
use Rattle.std.specs.declared.string.String.{String}
use Rattle.std.specs.declared.alloc.Global.{Global}
use Rattle.std.specs.declared.hash.FoldHasher.{FoldHasher}
use Rattle.std.specs.declared.hash.BuildHasherDefault.{BuildHasherDefault}
use Rattle.indexmap.specs.IndexMap.{IndexMap, insert_entry}
use Rattle.indexmap.proofs.CallerLemmas.{insert_entry-new}
use Rattle.variable_meanings.specs.declared.meaning.Meaning.{Meaning}
use Rattle.variable_meanings.specs.Meanings.{Known, has_name, meaning_in, meaning_of, with_meaning}
use Rattle.variable_meanings.specs.Entries.{seen, known_from}

-- whether a key spells a name
abbrev pub spells : List ℕ → String Global → Bool
spells name key = bytes_eq name (string_bytes key)

lookup_step : (name : List ℕ) (e : String Global × Meaning) (es : List (String Global × Meaning)) (b : Bool) → spells name e.0 ≡ b →
    meaning_of (known_from es) name ≡ lookup (spells name) es →
    meaning_of (known_from (e ∷ es)) name ≡ lookup (spells name) (e ∷ es)
lookup_step name e es true is rest =
    ap (λ b. option_map meaning_in (cond b (Some (seen e)) (find (has_name name) (known_from es)))) is
    ∙ sym (ap (λ b. cond b (Some e.1) (lookup (spells name) es)) is)
lookup_step name e es false is rest =
    ap (λ b. option_map meaning_in (cond b (Some (seen e)) (find (has_name name) (known_from es)))) is
    ∙ rest
    ∙ sym (ap (λ b. cond b (Some e.1) (lookup (spells name) es)) is)

-- what a name means is what is found under it
pub meaning-lookup : (name : List ℕ) (entries : List (String Global × Meaning)) →
    meaning_of (known_from entries) name ≡ lookup (spells name) entries
meaning-lookup name [] = refl
meaning-lookup name (e ∷ es) = lookup_step name e es (spells name e.0) refl (meaning-lookup name es)

none_of_some : {X : Type 0} (o : Option X) → is_some o ≡ false → o ≡ None
none_of_some None is = refl
none_of_some (Some x) is = cc

pushed : (entries : List (String Global × Meaning)) (key : String Global) (meaning : Meaning) →
    known_from (entries ++ (key, meaning) ∷ []) ≡ known_from entries ++ record { name = string_bytes key; meaning = meaning } ∷ []
pushed [] key meaning = refl
pushed (e ∷ es) key meaning = ap (λ list. seen e ∷ list) (pushed es key meaning)

-- a name that had no meaning goes last
pub known-new : (old : IndexMap (String Global) Meaning (BuildHasherDefault FoldHasher)) (new : List (String Global × Meaning))
    (key : String Global) (meaning : Meaning) (name : List ℕ) (list : List Known) →
    known_from old.entries ≡ list → is_some (meaning_of list name) ≡ false → string_bytes key ≡ name →
    new ≡ insert_entry string_eq old.entries key meaning → known_from new ≡ with_meaning list name meaning
known-new old new key meaning name list is absent spelled inserted =
    let there : is_some (meaning_of (known_from old.entries) (string_bytes key)) ≡ false =
    ap (λ l. is_some (meaning_of l (string_bytes key))) is ∙ ap (λ n. is_some (meaning_of list n)) spelled ∙ absent in
    let none : lookup (spells (string_bytes key)) old.entries ≡ None =
    sym (meaning-lookup (string_bytes key) old.entries) ∙ none_of_some _ there in
    ap known_from (inserted ∙ insert_entry-new string_eq old key meaning none)
    ∙ pushed old.entries key meaning
    ∙ ap (λ l. l ++ record { name = string_bytes key; meaning = meaning } ∷ []) is
    ∙ ap (λ n. list ++ record { name = n; meaning = meaning } ∷ []) spelled
    ∙ ap (λ b. cond b list (list ++ record { name = name; meaning = meaning } ∷ [])) (sym absent)

-- one that had a meaning keeps it
pub known-old : (name : List ℕ) (meaning : Meaning) (list : List Known) → is_some (meaning_of list name) ≡ true → list ≡ with_meaning list name meaning
known-old name meaning list there = ap (λ b. cond b list (list ++ record { name = name; meaning = meaning } ∷ [])) (sym there)
