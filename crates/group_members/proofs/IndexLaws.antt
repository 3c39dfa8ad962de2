-- An index in which a path was put.
use Rattle.std.proofs.Common.{◌≡◌, ◌∙◌, ℕ, Bool, true, false, cond, ◌&&◌, List, Option, Some, Result, Ok, Err, OnOk, refl, ap, if◌then◌else◌}
use Rattle.std.specs.Option.{option_map}
use Rattle.std.specs.Map.{update}
use Rattle.std.specs.Str.{bytes_eq}
use Rattle.std.proofs.lemmas.Slice.Eq.{bytes_eq-Decides}
use Rattle.indexmap.specs.IndexMap.{get_by_text}
use Rattle.hl_base.specs.declared.place.PathId.{PathId}
use Rattle.group_members.specs.Index.{Names, named, put}

pub OnOk-map : {T E : Type 0} {P Q : Type 0} (r : Result T E) → (P → Q) → OnOk r P → OnOk r Q
OnOk-map (Ok x) f h = f h
OnOk-map (Err e) f h = tt

-- the number of a name among the names of a folder
abbrev pub number_of : List ℕ → Option Names → Option ℕ
number_of name names = option_map (λ (path : PathId). path.0) (named name names)

-- the names of folders before and after a path was put among those of one
module _ (folder name : List ℕ) (at : PathId) (old new : List ℕ → Option Names) (names : Names)
    (folders : (f : List ℕ) → new f ≡ update bytes_eq old folder (Some names) f)
    (members : (n : List ℕ) → get_by_text names n ≡ update bytes_eq (λ n. named n (old folder)) name (Some at) n) where
  here : (f n : List ℕ) → bytes_eq folder f ≡ true → (b : Bool) → bytes_eq name n ≡ b →
      number_of n (Some names) ≡ (if b then Some at.0 else number_of n (old f))
  here f n same true is =
      ap (option_map (λ (path : PathId). path.0)) (members n ∙ ap (λ b. cond b (Some at) (named n (old folder))) is)
  here f n same false other =
      ap (option_map (λ (path : PathId). path.0)) (members n ∙ ap (λ b. cond b (Some at) (named n (old folder))) other)
      ∙ ap (λ g. number_of n (old g)) ((bytes_eq-Decides folder f).0 same)

  by : (f n : List ℕ) (b : Bool) → bytes_eq folder f ≡ b →
      number_of n (cond b (Some names) (old f)) ≡ (if b && bytes_eq name n then Some at.0 else number_of n (old f))
  by f n true same = here f n same (bytes_eq name n) refl
  by f n false other = refl

  pub number_of-put : (f n : List ℕ) → number_of n (new f) ≡ put folder name at.0 (λ g m. number_of m (old g)) f n
  number_of-put f n = ap (number_of n) (folders f) ∙ by f n (bytes_eq folder f) refl
