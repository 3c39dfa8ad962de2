-- What a binding says of its parameters, told of what holds it.
use Rattle.std.proofs.Common.{◌≡◌, ℕ, Bool, true, false, cond, List, [], ◌∷◌, Some, refl, sym, ap, ◌∙◌, map, take, length, ◌≤◌}
use Rattle.std.specs.Option.{option_map}
use Rattle.std.specs.Str.{bytes_eq}
use Rattle.std.proofs.lemmas.List.{take_all}
use Rattle.std.proofs.lemmas.Slice.Eq.{bytes_eq-Decides}
use Rattle.indexmap.specs.IndexMap.{get_by_text}
use Rattle.macro_binding.specs.declared.binding.Sorting.{Sorting}
use Rattle.macro_binding.specs.declared.role.Role.{Role}
use Rattle.macro_binding.specs.declared.role.Role.TheVariants.{NameEntry, Positional, Keyword}
use Rattle.macro_binding.specs.Bindings.{Given, binding_notes, binding_of, bound, bound_by, givens, last_or, positionals, value_as, values_for}
use Rattle.macro_binding.specs.Held.{Keywords, binding_in, bound_held, value_held, value_in, value_or}
use Rattle.macro_binding.specs.Prototypes.{Parameter, parameter_of, role_of}
use Rattle.macro_binding.specs.Sorting.{Sorts, entry_of}
use Rattle.macro_binding.specs.Values.{bound_of}

module _ (entry : List ℕ) (texts : List (List ℕ)) (keywords : Keywords) (name : List ℕ) where
  found_step : (p : Parameter) (ps : List Parameter) (b : Bool) → bytes_eq name p.name ≡ b →
      option_map value_in (bound_of (map (bound_held entry texts keywords) ps) name) ≡ option_map (value_held entry texts keywords name) (role_of ps name) →
      option_map value_in (bound_of (map (bound_held entry texts keywords) (p ∷ ps)) name) ≡ option_map (value_held entry texts keywords name) (role_of (p ∷ ps) name)
  found_step p ps true is rest =
      ap (λ b. option_map value_in (cond b (Some (bound_held entry texts keywords p)) (bound_of (map (bound_held entry texts keywords) ps) name))) is
      ∙ ap (λ n. Some (value_held entry texts keywords n p.role)) (sym ((bytes_eq-Decides name p.name).0 is))
      ∙ sym (ap (λ b. option_map (value_held entry texts keywords name) (option_map (λ (p : Parameter). p.role) (cond b (Some p) (parameter_of ps name)))) is)
  found_step p ps false is rest =
      ap (λ b. option_map value_in (cond b (Some (bound_held entry texts keywords p)) (bound_of (map (bound_held entry texts keywords) ps) name))) is
      ∙ rest
      ∙ sym (ap (λ b. option_map (value_held entry texts keywords name) (option_map (λ (p : Parameter). p.role) (cond b (Some p) (parameter_of ps name)))) is)

  -- what the parameter of a name is worth goes by what it stands for
  pub value-role : (ps : List Parameter) →
      option_map value_in (bound_of (map (bound_held entry texts keywords) ps) name) ≡ option_map (value_held entry texts keywords name) (role_of ps name)
  value-role [] = refl
  value-role (p ∷ ps) = found_step p ps (bytes_eq name p.name) refl (value-role ps)

value_or-entry_of : (default : List ℕ) (values : List (List ℕ)) → value_or default (entry_of values) ≡ last_or default values
value_or-entry_of default [] = refl
value_or-entry_of default (value ∷ []) = refl
value_or-entry_of default (value ∷ next ∷ rest) = refl

module _ (entry : List ℕ) (given : List Given) (keywords : Keywords)
    (are : (name : List ℕ) → get_by_text keywords name ≡ entry_of (values_for name given)) where
  value-held : (name : List ℕ) (role : Role) → value_held entry (positionals given) keywords name role ≡ value_as entry given name role
  value-held name NameEntry = refl
  value-held name (Positional place) = refl
  value-held name (Keyword default) = ap (value_or default) (are name) ∙ value_or-entry_of default (values_for name given)

  bounds-held : (ps : List Parameter) → map (bound_held entry (positionals given) keywords) ps ≡ map (bound entry given) ps
  bounds-held [] = refl
  bounds-held (p ∷ ps) =
      ap (λ value. record { name = p.name; value = value } ∷ map (bound_held entry (positionals given) keywords) ps) (value-held p.name p.role)
      ∙ ap (λ bounds. bound entry given p ∷ bounds) (bounds-held ps)

  -- what holds a binding is the binding, where it holds what was given
  pub binding-held : (ps : List Parameter) (texts : List (List ℕ)) → texts ≡ positionals given → binding_in ps entry texts keywords ≡ bound_by ps entry given
  binding-held ps texts is =
      ap (λ texts. binding_in ps entry texts keywords) is
      ∙ ap (λ bounds. record { name_entry = entry; positionals = positionals given; parameters = bounds }) (bounds-held ps)

module _ (parameters : List Parameter) (items operands : List (List ℕ)) (n : ℕ) (sorting : Sorting)
    (sorts : Sorts sorting (givens parameters (take n items))) (all : length items ≤ n) (are : items ≡ operands) where
  every : take n items ≡ operands
  every = take_all n items all ∙ are

  -- what holds a binding is the binding, once all operands are sorted
  pub whole_binding : (ps : List Parameter) (entry name_entry : List ℕ) → ps ≡ parameters → entry ≡ name_entry →
      binding_in ps entry sorting.positionals sorting.keywords ≡ binding_of parameters name_entry operands
  whole_binding ps entry name_entry same entered =
      ap (λ ps. binding_in ps entry sorting.positionals sorting.keywords) same
      ∙ ap (λ entry. binding_in parameters entry sorting.positionals sorting.keywords) entered
      ∙ binding-held name_entry (givens parameters (take n items)) sorting.keywords sorts.keywords parameters sorting.positionals sorts.positionals
      ∙ ap (λ list. binding_of parameters name_entry list) every

  -- and so are its notes
  pub whole_notes : sorting.notes ≡ binding_notes parameters operands
  whole_notes = sorts.notes ∙ ap (binding_notes parameters) every
