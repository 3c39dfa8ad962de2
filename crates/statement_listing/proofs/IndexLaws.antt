-- What is looked up in an index where one name more has a place.
use Rattle.std.proofs.Common.{◌≡◌, ◌∙◌, ◌++◌, ℕ, Bool, true, false, cond, List, [], ◌∷◌, Option, Some, None, refl, ap, string_bytes}
use Rattle.std.specs.Option.{option_copied, is_some}
use Rattle.std.specs.Borrow.{Bor}
use Rattle.std.specs.Map.{lookup}
use Rattle.std.specs.Str.{bytes_eq}
use Rattle.std.specs.String.{string_eq}
use Rattle.std.specs.declared.string.String.{String}
use Rattle.std.specs.declared.alloc.Global.{Global}
use Rattle.std.specs.declared.hash.FoldHasher.{FoldHasher}
use Rattle.std.specs.declared.hash.BuildHasherDefault.{BuildHasherDefault}
use Rattle.indexmap.specs.IndexMap.{IndexMap, insert_entry}
use Rattle.indexmap.proofs.CallerLemmas.{insert_entry-new}
use Rattle.statement_listing.specs.Sources.{noted, spells}

abbrev both : Option ℕ → Option ℕ → Option ℕ
both (Some earlier) later = Some earlier
both None later = later

behind-by : (b : Bool) (value : ℕ) (whole rest later : Option ℕ) → whole ≡ both rest later → cond b (Some value) whole ≡ both (cond b (Some value) rest) later
behind-by true value whole rest later is = refl
behind-by false value whole rest later is = is

lookup-behind : (name : List ℕ) (entries : List (String Global × ℕ)) (key : String Global) (place : ℕ) →
    lookup (spells name) (entries ++ (key, place) ∷ []) ≡ both (lookup (spells name) entries) (cond (spells name key) (Some place) None)
lookup-behind name [] key place = refl
lookup-behind name (e ∷ es) key place = behind-by (spells name e.0) e.1 _ (lookup (spells name) es) _ (lookup-behind name es key place)

noted-both : (before : Option ℕ) (name label own : List ℕ) (place : ℕ) → own ≡ label →
    both before (cond (bytes_eq name own) (Some place) None) ≡ noted before name label place
noted-both (Some earlier) name label own place is = refl
noted-both None name label own place is = ap (λ l. cond (bytes_eq name l) (Some place) None) is

pub lookup-noted : (name label : List ℕ) (old : IndexMap (String Global) ℕ (BuildHasherDefault FoldHasher)) (new : List (String Global × ℕ))
    (key : String Global) (place : ℕ) → lookup (spells label) old.entries ≡ None → string_bytes key ≡ label →
    new ≡ insert_entry string_eq old.entries key place → lookup (spells name) new ≡ noted (lookup (spells name) old.entries) name label place
lookup-noted name label old new key place none spelled inserted =
    ap (lookup (spells name)) (inserted ∙ insert_entry-new string_eq old key place (ap (λ l. lookup (spells l) old.entries) spelled ∙ none))
    ∙ lookup-behind name old.entries key place
    ∙ noted-both (lookup (spells name) old.entries) name label (string_bytes key) place spelled

pub copied-none : {X : Type 0} (r : Option (Bor X)) → is_some r ≡ false → option_copied r ≡ None
copied-none None is = refl
copied-none (Some x) is = cc
