-- Texts under their paths, as the map has them.
use Rattle.std.proofs.Common.{◌≡◌, ◌∙◌, ℕ, Bool, true, false, cond, List, [], ◌∷◌, ◌++◌, map, Option, Some, None, refl, sym, ap, is_some, true≢false}
use Rattle.std.specs.Prelude.{nat_eq}
use Rattle.std.specs.List.{find}
use Rattle.std.specs.Map.{lookup}
use Rattle.std.specs.Borrow.{Bor}
use Rattle.std.specs.Option.{option_copied, option_map}
use Rattle.std.specs.declared.hash.FoldHasher.{FoldHasher}
use Rattle.std.specs.declared.hash.BuildHasherDefault.{BuildHasherDefault}
use Rattle.std.proofs.lemmas.List.{map-append}
use Rattle.indexmap.specs.IndexMap.{IndexMap, insert_entry}
use Rattle.indexmap.proofs.CallerLemmas.{insert_entry-new}
use Rattle.statement_listing.specs.Listings.{Listed}
use Rattle.text_lists.specs.Held.{source_in, sources_in}
use Rattle.text_lists.specs.Lists.{Source, has_path, list_in, list_of, with_list}
use Rattle.text_lists.specs.Numbers.{is_line}

by_path : (b : Bool) (entry : ℕ × List Listed) (rest : List (ℕ × List Listed)) (path : ℕ) → list_of (sources_in rest) path ≡ lookup (is_line path) rest →
    option_map list_in (cond b (Some (source_in entry)) (find (has_path path) (sources_in rest))) ≡ cond b (Some entry.1) (lookup (is_line path) rest)
by_path true entry rest path is = refl
by_path false entry rest path is = is

-- the text of a path is what is found under it
pub list_of-lookup : (entries : List (ℕ × List Listed)) (path : ℕ) → list_of (sources_in entries) path ≡ lookup (is_line path) entries
list_of-lookup [] path = refl
list_of-lookup (entry ∷ rest) path = by_path (has_path path (source_in entry)) entry rest path (list_of-lookup rest path)

-- nothing is there
pub nothing-there : {X : Type 0} (o : Option X) → is_some o ≡ false → o ≡ None
nothing-there None is = refl
nothing-there (Some x) is = absurd (true≢false is)

pub copied-none : {X : Type 0} (r : Option (Bor X)) → is_some r ≡ false → option_copied r ≡ None
copied-none None is = refl
copied-none (Some x) is = absurd (true≢false is)

-- a path that has no text has one
pub text-added : (old : IndexMap ℕ (List Listed) (BuildHasherDefault FoldHasher)) (new : List (ℕ × List Listed)) (texts : List Source) (path : ℕ) (list : List Listed) →
    sources_in old.entries ≡ texts → is_some (list_of texts path) ≡ false → new ≡ insert_entry nat_eq old.entries path list →
    sources_in new ≡ with_list texts path list
text-added old new texts path list seen absent inserted =
    let none : lookup (is_line path) old.entries ≡ None =
    nothing-there (lookup (is_line path) old.entries)
    (ap is_some (sym (list_of-lookup old.entries path)) ∙ ap (λ (ts : List Source). is_some (list_of ts path)) seen ∙ absent) in
    ap sources_in (inserted ∙ insert_entry-new nat_eq old path list none)
    ∙ map-append source_in old.entries ((path, list) ∷ [])
    ∙ ap (λ (ts : List Source). ts ++ source_in (path, list) ∷ []) seen
    ∙ sym (ap (λ (b : Bool). cond b texts (texts ++ source_in (path, list) ∷ [])) absent)

-- one that has a text keeps it
pub text-kept : (texts : List Source) (path : ℕ) (list : List Listed) → is_some (list_of texts path) ≡ true → texts ≡ with_list texts path list
text-kept texts path list there = sym (ap (λ (b : Bool). cond b texts (texts ++ source_in (path, list) ∷ [])) there)
