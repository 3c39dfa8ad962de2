-- What was told of a member, by the entries that members are made of.
use Rattle.std.proofs.Common.{◌≡◌, ℕ, Bool, true, false, cond, List, [], ◌∷◌, ◌++◌, Option, Some, None, refl, sym, ap, ◌∙◌, string_bytes, is_some}
use Rattle.std.specs.Borrow.{Bor}
use Rattle.std.specs.Option.{option_copied, option_map}
use Rattle.std.specs.List.{find}
use Rattle.std.specs.Str.{bytes_eq}
use Rattle.std.specs.Map.{lookup}
use Rattle.std.specs.String.{string_eq}
use Rattle.std.specs.declared.string.String.{String}
use Rattle.std.specs.declared.alloc.Global.{Global}
use Rattle.std.specs.declared.hash.FoldHasher.{FoldHasher}
use Rattle.std.specs.declared.hash.BuildHasherDefault.{BuildHasherDefault}
use Rattle.indexmap.specs.IndexMap.{IndexMap, insert_entry}
use Rattle.indexmap.proofs.CallerLemmas.{insert_entry-new}
use Rattle.macro_library.specs.declared.member.Member.{Member}
use Rattle.macro_library.specs.Members.{Told, member_in, member_of}
use Rattle.macro_library.specs.Held.{told_at, told_from}

-- whether a key spells a name
abbrev pub spells : List ℕ → String Global → Bool
spells name key = bytes_eq name (string_bytes key)

-- the first under a name
abbrev first_told : List ℕ → List Told → Option Told
first_told name members = find (λ (told : Told). bytes_eq name told.name) members

member_step : (name : List ℕ) (e : String Global × Member) (es : List (String Global × Member)) (b : Bool) → spells name e.0 ≡ b →
    member_of (told_from es) name ≡ lookup (spells name) es →
    member_of (told_from (e ∷ es)) name ≡ lookup (spells name) (e ∷ es)
member_step name e es true is rest =
    ap (λ b. option_map member_in (cond b (Some (told_at e)) (first_told name (told_from es)))) is
    ∙ sym (ap (λ b. cond b (Some e.1) (lookup (spells name) es)) is)
member_step name e es false is rest =
    ap (λ b. option_map member_in (cond b (Some (told_at e)) (first_told name (told_from es)))) is
    ∙ rest
    ∙ sym (ap (λ b. cond b (Some e.1) (lookup (spells name) es)) is)

-- what was told of a member is what is found under its name
pub member_of-lookup : (name : List ℕ) (entries : List (String Global × Member)) → member_of (told_from entries) name ≡ lookup (spells name) entries
member_of-lookup name [] = refl
member_of-lookup name (e ∷ es) = member_step name e es (spells name e.0) refl (member_of-lookup name es)

pub none_of_some : {X : Type 0} (o : Option X) → is_some o ≡ false → o ≡ None
none_of_some None is = refl
none_of_some (Some x) is = cc

-- members behind one another are their entries behind one another
pub told_from-push : (entries : List (String Global × Member)) (key : String Global) (member : Member) →
    told_from (entries ++ (key, member) ∷ []) ≡ told_from entries ++ record { name = string_bytes key; member = member } ∷ []
told_from-push [] key member = refl
told_from-push (e ∷ es) key member = ap (λ list. told_at e ∷ list) (told_from-push es key member)

-- a member of a new name goes last
pub told_from-added : (old : IndexMap (String Global) Member (BuildHasherDefault FoldHasher)) (new : List (String Global × Member))
    (key : String Global) (member : Member) (name : List ℕ) (list : List Told) →
    told_from old.entries ≡ list → is_some (member_of list name) ≡ false → string_bytes key ≡ name →
    new ≡ insert_entry string_eq old.entries key member → told_from new ≡ list ++ record { name = name; member = member } ∷ []
told_from-added old new key member name list is absent spelled inserted =
    let there : is_some (member_of (told_from old.entries) (string_bytes key)) ≡ false =
    ap (λ l. is_some (member_of l (string_bytes key))) is ∙ ap (λ n. is_some (member_of list n)) spelled ∙ absent in
    let none : lookup (spells (string_bytes key)) old.entries ≡ None =
    sym (member_of-lookup (string_bytes key) old.entries) ∙ none_of_some _ there in
    ap told_from (inserted ∙ insert_entry-new string_eq old key member none)
    ∙ told_from-push old.entries key member
    ∙ ap (λ l. l ++ record { name = string_bytes key; member = member } ∷ []) is
    ∙ ap (λ n. list ++ record { name = n; member = member } ∷ []) spelled

pub copied-some : {X : Type 0} (r : Option (Bor X)) → is_some r ≡ is_some (option_copied r)
copied-some None = refl
copied-some (Some x) = refl
