-- The map as the list of its values.
use Rattle.std.proofs.Common.{◌≡◌, List, [], ◌∷◌, map, cond, Some, refl, ap, ◌∙◌}
use Rattle.std.specs.declared.cmp.Ordering.{Ordering}
use Rattle.std.specs.declared.cmp.Ordering.TheVariants.{Less, Equal, Greater}
use Rattle.std.specs.Ordering.{match_ordering, is_eq}
use Rattle.std.specs.Map.{lookup}
use Rattle.std.specs.BTreeMap.{is_at, insert_entry}
use Rattle.hl_base.specs.declared.set.SetValue.{SetValue}
use Rattle.trace_variables.specs.declared.key.Key.{Key}
use Rattle.trace_variables.specs.Values.{key_order}
use Rattle.trace_variables.specs.Seen.{seen_key, seen_entry}

map_match : {X Y : Type 0} (f : X → Y) (o : Ordering) (a b c : List X) →
    map f (match_ordering o a b c) ≡ match_ordering o (map f a) (map f b) (map f c)
map_match f Less a b c = refl
map_match f Equal a b c = refl
map_match f Greater a b c = refl

module _ (R : Key → Key → Ordering) (same : (x y : Key) → R x y ≡ key_order (seen_key x) (seen_key y)) where
  pub insert_seen : (es : List (Key × SetValue)) (key : Key) (held : SetValue) →
      map seen_entry (insert_entry R es key held) ≡ insert_entry key_order (map seen_entry es) (seen_key key) held
  insert_seen [] key held = refl
  insert_seen (e ∷ es) key held =
      ap (λ o. map seen_entry (match_ordering o ((key, held) ∷ e ∷ es) ((e.0, held) ∷ es) (e ∷ insert_entry R es key held))) (same key e.0)
      ∙ map_match seen_entry (key_order (seen_key key) (seen_key e.0)) ((key, held) ∷ e ∷ es) ((e.0, held) ∷ es)
      (e ∷ insert_entry R es key held)
      ∙ ap (λ t. match_ordering (key_order (seen_key key) (seen_key e.0)) ((seen_key key, held) ∷ seen_entry e ∷ map seen_entry es)
      ((seen_key e.0, held) ∷ map seen_entry es) (seen_entry e ∷ t)) (insert_seen es key held)

  pub lookup_seen : (es : List (Key × SetValue)) (key : Key) →
      lookup (is_at (R key)) es ≡ lookup (is_at (key_order (seen_key key))) (map seen_entry es)
  lookup_seen [] key = refl
  lookup_seen (e ∷ es) key =
      ap (λ o. cond (is_eq o) (Some e.1) (lookup (is_at (R key)) es)) (same key e.0)
      ∙ ap (cond (is_eq (key_order (seen_key key) (seen_key e.0))) (Some e.1)) (lookup_seen es key)
