-- Labels under their names, with one more.
use Rattle.std.proofs.Common.{◌≡◌, ◌∙◌, ℕ, Bool, true, false, cond, List, [], ◌∷◌, ◌++◌, refl, sym, ap, append-nil, inl, inr}
use Rattle.std.specs.Prelude.{Option, Some, None, if◌then◌else◌}
use Rattle.std.specs.Option.{option_map_or, unwrap_or}
use Rattle.std.specs.Str.{bytes_eq}
use Rattle.std.proofs.lemmas.Bool.{cases_Bool}
use Rattle.std.proofs.lemmas.Slice.Eq.{bytes_eq-Decides}
use Rattle.lookahead_scan.specs.declared.index.Found.{Found}

-- those under the name were taken out, and are back with one more
pub held-added : {H : Type 0} (items : H → List Found) (old mid new : List ℕ → Option H) (name sought : List ℕ) (held : H) (found : Found) →
    mid sought ≡ cond (bytes_eq name sought) None (old sought) → new sought ≡ cond (bytes_eq name sought) (Some held) (mid sought) →
    items held ≡ option_map_or items (old name) [] ++ found ∷ [] →
    option_map_or items (new sought) [] ≡ option_map_or items (old sought) [] ++ (if bytes_eq name sought then found ∷ [] else [])
held-added {H} items old mid new name sought held found without within has = elim (cases_Bool (bytes_eq name sought)) [
  | inl same ↦
      let is : name ≡ sought = (bytes_eq-Decides name sought).0 same in
      ap (λ (o : Option H). option_map_or items o []) (within ∙ ap (λ (b : Bool). cond b (Some held) (mid sought)) same)
      ∙ has
      ∙ ap (λ (n : List ℕ). option_map_or items (old n) [] ++ found ∷ []) is
      ∙ ap (λ (b : Bool). option_map_or items (old sought) [] ++ (if b then found ∷ [] else [])) (sym same)
  | inr other ↦
      ap (λ (o : Option H). option_map_or items o [])
      (within ∙ ap (λ (b : Bool). cond b (Some held) (mid sought)) other ∙ without ∙ ap (λ (b : Bool). cond b None (old sought)) other)
      ∙ sym (append-nil (option_map_or items (old sought) []))
      ∙ ap (λ (b : Bool). option_map_or items (old sought) [] ++ (if b then found ∷ [] else [])) (sym other)
]

-- what was taken out, or none
pub held-taken : {H : Type 0} (items : H → List Found) (taken : Option H) (none : H) → items none ≡ [] → items (unwrap_or taken none) ≡ option_map_or items taken []
held-taken items None none is = is
held-taken items (Some held) none is = refl
