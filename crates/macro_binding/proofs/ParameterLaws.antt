-- What parameters are under a name, told of the entries that they are made of.
use Rattle.std.proofs.Common.{◌≡◌, ℕ, ◌+◌, Bool, true, false, cond, List, [], ◌∷◌, ◌++◌, Option, Some, None, refl, sym, ap, ◌∙◌, string_bytes, is_some, ◌||◌, arith}
use Rattle.std.specs.Option.{option_map}
use Rattle.std.specs.Str.{bytes_eq}
use Rattle.std.specs.Map.{lookup}
use Rattle.std.specs.String.{string_eq}
use Rattle.std.specs.declared.string.String.{String}
use Rattle.std.specs.declared.alloc.Global.{Global}
use Rattle.std.specs.declared.hash.FoldHasher.{FoldHasher}
use Rattle.std.specs.declared.hash.BuildHasherDefault.{BuildHasherDefault}
use Rattle.indexmap.specs.IndexMap.{IndexMap, insert_entry}
use Rattle.indexmap.proofs.CallerLemmas.{insert_entry-new}
use Rattle.macro_binding.specs.declared.role.Role.{Role}
use Rattle.macro_binding.specs.Prototypes.{Parameter, parameter_of, role_of, is_positional, positional_count}
use Rattle.macro_binding.specs.Entries.{seen, parameters_from}

-- whether a key spells a name
abbrev pub spells : List ℕ → String Global → Bool
spells name key = bytes_eq name (string_bytes key)

-- what a parameter stands for
abbrev pub role_in : Parameter → Role
role_in parameter = parameter.role

role_step : (name : List ℕ) (e : String Global × Role) (es : List (String Global × Role)) (b : Bool) → spells name e.0 ≡ b →
    role_of (parameters_from es) name ≡ lookup (spells name) es →
    role_of (parameters_from (e ∷ es)) name ≡ lookup (spells name) (e ∷ es)
role_step name e es true is rest =
    ap (λ b. option_map role_in (cond b (Some (seen e)) (parameter_of (parameters_from es) name))) is
    ∙ sym (ap (λ b. cond b (Some e.1) (lookup (spells name) es)) is)
role_step name e es false is rest =
    ap (λ b. option_map role_in (cond b (Some (seen e)) (parameter_of (parameters_from es) name))) is
    ∙ rest
    ∙ sym (ap (λ b. cond b (Some e.1) (lookup (spells name) es)) is)

-- what the parameter of a name stands for is what is found under it
pub role-lookup : (name : List ℕ) (entries : List (String Global × Role)) →
    role_of (parameters_from entries) name ≡ lookup (spells name) entries
role-lookup name [] = refl
role-lookup name (e ∷ es) = role_step name e es (spells name e.0) refl (role-lookup name es)

none_of_some : {X : Type 0} (o : Option X) → is_some o ≡ false → o ≡ None
none_of_some None is = refl
none_of_some (Some x) is = cc

-- parameters behind one another are their entries behind one another
pub parameters_from-push : (entries : List (String Global × Role)) (key : String Global) (role : Role) →
    parameters_from (entries ++ (key, role) ∷ []) ≡ parameters_from entries ++ record { name = string_bytes key; role = role } ∷ []
parameters_from-push [] key role = refl
parameters_from-push (e ∷ es) key role = ap (λ list. seen e ∷ list) (parameters_from-push es key role)

-- a parameter of a new name goes last
pub parameters_from-admitted : (old : IndexMap (String Global) Role (BuildHasherDefault FoldHasher)) (new : List (String Global × Role))
    (key : String Global) (role : Role) (name : List ℕ) (list : List Parameter) →
    parameters_from old.entries ≡ list → is_some (role_of list name) ≡ false → string_bytes key ≡ name →
    new ≡ insert_entry string_eq old.entries key role → parameters_from new ≡ list ++ record { name = name; role = role } ∷ []
parameters_from-admitted old new key role name list is absent spelled inserted =
    let there : is_some (role_of (parameters_from old.entries) (string_bytes key)) ≡ false =
    ap (λ l. is_some (role_of l (string_bytes key))) is ∙ ap (λ n. is_some (role_of list n)) spelled ∙ absent in
    let none : lookup (spells (string_bytes key)) old.entries ≡ None =
    sym (role-lookup (string_bytes key) old.entries) ∙ none_of_some _ there in
    ap parameters_from (inserted ∙ insert_entry-new string_eq old key role none)
    ∙ parameters_from-push old.entries key role
    ∙ ap (λ l. l ++ record { name = string_bytes key; role = role } ∷ []) is
    ∙ ap (λ n. list ++ record { name = n; role = role } ∷ []) spelled

count-step : (b : Bool) (all front back : ℕ) → all ≡ front + back → cond b (all + 1) all ≡ cond b (front + 1) front + back
count-step true all front back is = omega arith
count-step false all front back is = is

-- how many positional parameters there are with one more
pub positional_count-push : (list : List Parameter) (p : Parameter) →
    positional_count (list ++ p ∷ []) ≡ positional_count list + cond (is_positional p.role) 1 0
positional_count-push [] p = by (is_positional p.role)
  where
    by : (b : Bool) → cond b (0 + 1) 0 ≡ 0 + cond b 1 0
    by true = refl
    by false = refl
positional_count-push (q ∷ list) p =
    count-step (is_positional q.role) (positional_count (list ++ p ∷ [])) (positional_count list) (cond (is_positional p.role) 1 0) (positional_count-push list p)

-- where neither of two is, the second is not
pub neither : (a b : Bool) → (a || b) ≡ false → b ≡ false
neither true b is = cc
neither false b is = is
