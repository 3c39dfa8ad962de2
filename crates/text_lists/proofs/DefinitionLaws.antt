-- Definitions under the places of their prototypes, as the map has them.
use Rattle.std.proofs.Common.{◌≡◌, ◌∙◌, ◌==◌, ◌&&◌, ℕ, Bool, true, false, cond, List, [], ◌∷◌, ◌++◌, map, Option, Some, None, refl, sym, ap, is_some, rules}
use Rattle.std.specs.List.{find}
use Rattle.std.specs.Map.{lookup}
use Rattle.std.specs.Option.{option_map}
use Rattle.std.specs.declared.hash.FoldHasher.{FoldHasher}
use Rattle.std.specs.declared.hash.BuildHasherDefault.{BuildHasherDefault}
use Rattle.std.proofs.lemmas.List.{map-append}
use Rattle.hl_base.specs.declared.place.Origin.{Origin}
use Rattle.indexmap.specs.IndexMap.{IndexMap, insert_entry}
use Rattle.indexmap.proofs.CallerLemmas.{insert_entry-new}
use Rattle.statement_listing.specs.Listings.{Listed}
use Rattle.text_lists.specs.DefinitionPlaces.{place_of}
use Rattle.text_lists.specs.Definitions.{Defined, list_in, list_of, stands_at, with_list}
use Rattle.text_lists.specs.HeldDefinitions.{defined_in, one_of}
use Rattle.text_lists.specs.contracts.definitions.PlacePartialEq.TheImpl as place_eq
use Rattle.text_lists.specs.declared.definitions.Place.{Place}
use Rattle.text_lists.proofs.TextLaws.{nothing-there}

-- whether a definition is under a place
pub same_place : (x y : Place) → (place_eq.ghosts).eq x y ≡ (x.path == y.path && x.line == y.line)
same_place x y = search rules

by_place : (b : Bool) (entry : Place × List Listed) (rest : List (Place × List Listed)) (origin : Origin) →
    list_of (defined_in rest) origin ≡ lookup ((place_eq.ghosts).eq (place_of origin)) rest →
    option_map list_in (cond b (Some (one_of entry)) (find (stands_at origin) (defined_in rest)))
    ≡ cond b (Some entry.1) (lookup ((place_eq.ghosts).eq (place_of origin)) rest)
by_place true entry rest origin is = refl
by_place false entry rest origin is = is

-- the statements of a definition are what is found under its place
pub list_of-lookup : (entries : List (Place × List Listed)) (origin : Origin) →
    list_of (defined_in entries) origin ≡ lookup ((place_eq.ghosts).eq (place_of origin)) entries
list_of-lookup [] origin = refl
list_of-lookup (entry ∷ rest) origin =
    ap (λ (b : Bool). option_map list_in (cond b (Some (one_of entry)) (find (stands_at origin) (defined_in rest)))) (sym (same_place (place_of origin) entry.0))
    ∙ by_place ((place_eq.ghosts).eq (place_of origin) entry.0) entry rest origin (list_of-lookup rest origin)

-- a place that has no definition has one
pub definition-added : (old : IndexMap Place (List Listed) (BuildHasherDefault FoldHasher)) (new : List (Place × List Listed)) (known : List Defined) (origin : Origin) (list : List Listed) →
    defined_in old.entries ≡ known → is_some (list_of known origin) ≡ false → new ≡ insert_entry (place_eq.ghosts).eq old.entries (place_of origin) list →
    defined_in new ≡ with_list known origin list
definition-added old new known origin list seen absent inserted =
    let none : lookup ((place_eq.ghosts).eq (place_of origin)) old.entries ≡ None =
    nothing-there (lookup ((place_eq.ghosts).eq (place_of origin)) old.entries)
    (ap is_some (sym (list_of-lookup old.entries origin)) ∙ ap (λ (ds : List Defined). is_some (list_of ds origin)) seen ∙ absent) in
    ap defined_in (inserted ∙ insert_entry-new (place_eq.ghosts).eq old (place_of origin) list none)
    ∙ map-append one_of old.entries ((place_of origin, list) ∷ [])
    ∙ ap (λ (ds : List Defined). ds ++ one_of (place_of origin, list) ∷ []) seen
    ∙ sym (ap (λ (b : Bool). cond b known (known ++ one_of (place_of origin, list) ∷ [])) absent)

-- one that has a definition keeps it
pub definition-kept : (known : List Defined) (origin : Origin) (list : List Listed) → is_some (list_of known origin) ≡ true → known ≡ with_list known origin list
definition-kept known origin list there = sym (ap (λ (b : Bool). cond b known (known ++ one_of (place_of origin, list) ∷ [])) there)
