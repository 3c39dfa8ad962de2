-- Operands as they are sorted, one more behind the others.
use Rattle.std.proofs.Common.{◌≡◌, ℕ, ◌==◌, Bool, true, false, cond, is_some, List, [], ◌∷◌, ◌++◌, Option, Some, None, refl, sym, ap, ◌∙◌, append_assoc, append-nil, length, map, Bor, arith}
use Rattle.std.specs.Map.{update}
use Rattle.std.specs.Option.{option_copied}
use Rattle.std.specs.Str.{bytes_eq}
use Rattle.std.proofs.lemmas.List.{map-append}
use Rattle.std.proofs.lemmas.Slice.Eq.{bytes_eq-Decides}
use Rattle.indexmap.specs.IndexMap.{get_by_text}
use Rattle.hl_base.specs.declared.note.Note.{Note}
use Rattle.macro_binding.specs.declared.binding.KeywordValue.{KeywordValue}
use Rattle.macro_binding.specs.declared.binding.Sorting.{Sorting}
use Rattle.macro_binding.specs.Bindings.{Given, keyword, positional, positionals, values_for, last_or, repeated, repeated_by, repeated_behind, given_twice}
use Rattle.macro_binding.specs.Held.{Keywords}
use Rattle.macro_binding.specs.Sorting.{Sorts, entry_of, added, is_once}

pub positionals-push : (given : List Given) (one : Given) → positionals (given ++ one ∷ []) ≡ positionals given ++ positionals (one ∷ [])
positionals-push [] one = refl
positionals-push (keyword name value ∷ rest) one = positionals-push rest one
positionals-push (positional text ∷ rest) one = ap (λ texts. text ∷ texts) (positionals-push rest one)

values-step : (b : Bool) (value : List ℕ) (all front back : List (List ℕ)) → all ≡ front ++ back →
    cond b (value ∷ all) all ≡ cond b (value ∷ front) front ++ back
values-step true value all front back is = ap (λ values. value ∷ values) is
values-step false value all front back is = is

pub values_for-push : (name : List ℕ) (given : List Given) (one : Given) → values_for name (given ++ one ∷ []) ≡ values_for name given ++ values_for name (one ∷ [])
values_for-push name [] one = refl
values_for-push name (keyword own value ∷ rest) one =
    values-step (bytes_eq name own) value (values_for name (rest ++ one ∷ [])) (values_for name rest) (values_for name (one ∷ [])) (values_for-push name rest one)
values_for-push name (positional text ∷ rest) one = values_for-push name rest one

pub repeated_behind-push : (before given : List Given) (one : Given) →
    repeated_behind before (given ++ one ∷ []) ≡ repeated_behind before given ++ repeated_by (before ++ given) one
repeated_behind-push before [] one = append-nil _ ∙ ap (λ all. repeated_by all one) (sym (append-nil before))
repeated_behind-push before (first ∷ rest) one =
    ap (λ names. repeated_by before first ++ names) (repeated_behind-push (before ++ first ∷ []) rest one)
    ∙ sym (append_assoc (repeated_by before first) (repeated_behind (before ++ first ∷ []) rest) (repeated_by ((before ++ first ∷ []) ++ rest) one))
    ∙ ap (λ all. (repeated_by before first ++ repeated_behind (before ++ first ∷ []) rest) ++ repeated_by all one) (append_assoc before (first ∷ []) rest)

last_or-push : (default value : List ℕ) (values : List (List ℕ)) → last_or default (values ++ value ∷ []) ≡ value
last_or-push default value [] = refl
last_or-push default value (next ∷ rest) = last_or-push next value rest

-- what is kept after one more value
pub entry_of-push : (values : List (List ℕ)) (value : List ℕ) → entry_of (values ++ value ∷ []) ≡ Some (added (entry_of values) value)
entry_of-push [] value = refl
entry_of-push (first ∷ []) value = refl
entry_of-push (first ∷ next ∷ rest) value = ap (λ last. Some (record { value = last; again = true })) (last_or-push next value rest)

-- whether it was one value
pub is_once-entry_of : (values : List (List ℕ)) → is_once (entry_of values) ≡ (length values == 1)
is_once-entry_of [] = refl
is_once-entry_of (value ∷ []) = refl
is_once-entry_of (value ∷ next ∷ rest) = grind arith

by_truth : (b : Bool) → (b ≡ true → ⊥) → b ≡ false
by_truth true not_so = absurd (not_so refl)
by_truth false not_so = refl

true_is_false : true ≡ false → ⊥
true_is_false is = cc

-- either of two names may be asked whether it is the other
pub bytes_eq-sym : (x y : List ℕ) (b : Bool) → bytes_eq x y ≡ b → bytes_eq y x ≡ b
bytes_eq-sym x y true is = (bytes_eq-Decides y x).1 (sym ((bytes_eq-Decides x y).0 is))
bytes_eq-sym x y false is =
    by_truth (bytes_eq y x) (λ same. true_is_false (sym ((bytes_eq-Decides x y).1 (sym ((bytes_eq-Decides y x).0 same))) ∙ is))

pub is_some-copied : {X : Type 0} (o : Option (Bor X)) → is_some (option_copied o) ≡ is_some o
is_some-copied None = refl
is_some-copied (Some x) = refl

-- a positional operand more
pub sorts-positional : (old : Sorting) (texts : List (List ℕ)) (given : List Given) (one : Given) (text : List ℕ) →
    one ≡ positional text → texts ≡ old.positionals ++ text ∷ [] → Sorts old given →
    Sorts (record { positionals = texts; keywords = old.keywords; notes = old.notes }) (given ++ one ∷ [])
sorts-positional old texts given one text one-is is sorts = record {
  positionals =
      is ∙ ap (λ all. all ++ text ∷ []) sorts.positionals
      ∙ sym (positionals-push given one ∙ ap (λ g. positionals given ++ positionals (g ∷ [])) one-is);
  keywords = λ name.
      sorts.keywords name
      ∙ sym (ap entry_of (values_for-push name given one ∙ ap (λ g. values_for name given ++ values_for name (g ∷ [])) one-is ∙ append-nil _));
  notes =
      sorts.notes
      ∙ sym (ap (map given_twice) (repeated_behind-push [] given one ∙ ap (λ g. repeated given ++ repeated_by given g) one-is ∙ append-nil _));
}

module _ (given : List Given) (name value : List ℕ) (kept : List ℕ → Option KeywordValue)
    (are : (other : List ℕ) → kept other ≡ entry_of (values_for other given)) where
  kept-step : (other : List ℕ) (b : Bool) → bytes_eq name other ≡ b →
      cond b (Some (added (kept name) value)) (kept other) ≡ entry_of (values_for other (given ++ keyword name value ∷ []))
  kept-step other true is =
      let same : name ≡ other = (bytes_eq-Decides name other).0 is in
      ap (λ old. Some (added old value)) (ap kept same ∙ are other)
      ∙ sym (entry_of-push (values_for other given) value)
      ∙ ap (λ b. entry_of (values_for other given ++ cond b (value ∷ []) [])) (sym (bytes_eq-sym name other true is))
      ∙ sym (ap entry_of (values_for-push other given (keyword name value)))
  kept-step other false is =
      are other
      ∙ ap entry_of (sym (append-nil (values_for other given)))
      ∙ ap (λ b. entry_of (values_for other given ++ cond b (value ∷ []) [])) (sym (bytes_eq-sym name other false is))
      ∙ sym (ap entry_of (values_for-push other given (keyword name value)))

  -- what is kept of each keyword after one more value of this one
  pub kept-added : (other : List ℕ) → update bytes_eq kept name (Some (added (kept name) value)) other ≡ entry_of (values_for other (given ++ keyword name value ∷ []))
  kept-added other = kept-step other (bytes_eq name other) refl

map-once : (b : Bool) (name : List ℕ) → map given_twice (cond b (name ∷ []) []) ≡ cond b (given_twice name ∷ []) []
map-once true name = refl
map-once false name = refl

-- a value of a keyword more
pub sorts-keyword : (old : Sorting) (keywords : Keywords) (notes : List Note) (given : List Given) (name value : List ℕ) →
    ((other : List ℕ) → get_by_text keywords other ≡ update bytes_eq (get_by_text old.keywords) name (Some (added (get_by_text old.keywords name) value)) other) →
    notes ≡ old.notes ++ cond (is_once (get_by_text old.keywords name)) (given_twice name ∷ []) [] → Sorts old given →
    Sorts (record { positionals = old.positionals; keywords = keywords; notes = notes }) (given ++ keyword name value ∷ [])
sorts-keyword old keywords notes given name value are is sorts = record {
  positionals = sorts.positionals ∙ sym (positionals-push given (keyword name value) ∙ append-nil (positionals given));
  keywords = λ other. are other ∙ kept-added given name value (get_by_text old.keywords) sorts.keywords other;
  notes =
      is
      ∙ ap (λ all. all ++ cond (is_once (get_by_text old.keywords name)) (given_twice name ∷ []) []) sorts.notes
      ∙ ap (λ b. map given_twice (repeated given) ++ cond b (given_twice name ∷ []) []) (ap is_once (sorts.keywords name) ∙ is_once-entry_of (values_for name given))
      ∙ ap (λ all. map given_twice (repeated given) ++ all) (sym (map-once (length (values_for name given) == 1) name))
      ∙ sym (map-append given_twice (repeated given) (cond (length (values_for name given) == 1) (name ∷ []) []))
      ∙ sym (ap (map given_twice) (repeated_behind-push [] given (keyword name value)));
}
