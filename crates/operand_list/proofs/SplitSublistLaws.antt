-- How a sublist is read on.
use Rattle.std.proofs.Common.{◌≡◌, ◌∙◌, ℕ, ◌+◌, ◌<◌, Bool, true, false, cond, Option, Some, None, List, [], ◌∷◌, ◌++◌, length, take, drop, get_or, refl, sym, ap, subst, append-nil}
use Rattle.std.specs.Prelude.{◌==◌, chars, option_map}
use Rattle.std.proofs.lemmas.Bool.{eq-eqb}
use Rattle.std.proofs.lemmas.List.{at_drop_more}
use Rattle.hl_base.specs.Quoting.{IsBehind, depth}
use Rattle.operand_list.specs.declared.split.Parting.{Parting}
use Rattle.operand_list.specs.declared.split_elements.Stage.{Stage}
use Rattle.operand_list.specs.declared.split_elements.Stage.TheVariants.{Outside, Within, Closed, Broken}
use Rattle.operand_list.specs.Split.{left_of, part_of, parts, whole_parts}
use Rattle.operand_list.specs.SplitSublist.{at_end, closed_by, closed_elements, IsListed}
use Rattle.operand_list.proofs.SplitLaws.{with_front-nil, Reads}

map-same : {X Y : Type 0} (f g : X → Y) (o : Option X) → ((x : X) → f x ≡ g x) → option_map f o ≡ option_map g o
map-same f g None same = refl
map-same f g (Some x) same = ap (λ y. Some y) (same x)

map-twice : {X Y : Type 0} (f : X → Y) (g : X → X) (o : Option X) → option_map f (option_map g o) ≡ option_map (λ x. f (g x)) o
map-twice f g None = refl
map-twice f g (Some x) = refl

-- a first character that is no parenthesis
pub listed-broken : (parting : Parting) (c : ℕ) (rest : List ℕ) (whole : Option (List (List ℕ))) → (c == 40) ≡ false → IsListed Outside parting (c ∷ rest) whole → IsListed Broken parting rest whole
listed-broken parting c rest whole other listed = sym (ap (λ b. option_map (parts 1 (40 ∷ [])) (cond b (closed_by (c ∷ []) rest) None)) other) ∙ listed.4

-- the parenthesis that opens it
pub listed-opened : (old new : Parting) (c : ℕ) (rest : List ℕ) (whole : Option (List (List ℕ))) → c ≡ 40 → new.done ≡ old.done → new.count ≡ 0 → chars new.from.now ≡ drop 1 (chars old.from.now)
    → ((before : List ℕ) → IsBehind old.nesting before → IsBehind new.nesting (c ∷ before)) → IsListed Outside old (c ∷ rest) whole → IsListed Within new rest whole
listed-opened old new c rest whole at done count from reads listed =
    let is : (c == 40) ≡ true = eq-eqb c 40 at in
    let here : chars old.from.now ≡ c ∷ rest = ap (λ n. drop n (chars old.from.now)) (sym listed.2) ∙ listed.3 in (
      c ∷ [],
      reads [] listed.0,
      ap (λ n. drop n (chars new.from.now)) count ∙ from ∙ ap (drop 1) here,
      map-same (λ inner. whole_parts 1 new.done (part_of new) (c ∷ []) inner) (parts 1 (40 ∷ [])) (closed_by (c ∷ []) rest) (λ inner.
          ap (λ d. whole_parts 1 d (part_of new) (c ∷ []) inner) (done ∙ listed.1)
          ∙ ap (λ n. whole_parts 1 [] (take n (chars new.from.now)) (c ∷ []) inner) count
          ∙ with_front-nil 1 (c ∷ []) inner
          ∙ ap (λ k. parts 1 (k ∷ []) inner) at)
          ∙ sym (ap (λ b. option_map (parts 1 (40 ∷ [])) (cond b (closed_by (c ∷ []) rest) None)) is)
          ∙ listed.4,
    )

closed-end : (done : List (List ℕ)) (part before rest : List ℕ) → option_map (λ inner. whole_parts 1 done part before inner) (at_end rest) ≡ closed_elements (done ++ part ∷ []) rest
closed-end done part before [] = ap (λ p. Some (done ++ p ∷ [])) (append-nil part)
closed-end done part before (c ∷ rest) = refl

-- the parenthesis that closes it
pub listed-closed : (parting : Parting) (c : ℕ) (rest : List ℕ) (whole : Option (List (List ℕ))) (yes : Bool) → yes ≡ true
    → ((before : List ℕ) → IsBehind parting.nesting before → yes ≡ (depth (c ∷ before) == 0)) → IsListed Within parting (c ∷ rest) whole → IsListed Closed parting rest whole
listed-closed parting c rest whole shut is closes listed =
    let before = listed.0 in
    let F = λ (inner : List ℕ). whole_parts 1 parting.done (part_of parting) before inner in
    sym (closed-end parting.done (part_of parting) before rest)
    ∙ sym (ap (λ b. option_map F (cond b (at_end rest) (option_map (λ inner. c ∷ inner) (closed_by (c ∷ before) rest)))) (sym (closes before listed.1) ∙ is))
    ∙ listed.3

-- any other character within it
pub listed-within : (old new : Parting) (c : ℕ) (rest : List ℕ) (whole : Option (List (List ℕ))) (yes : Bool) → yes ≡ false
    → ((before : List ℕ) → IsBehind old.nesting before → yes ≡ (depth (c ∷ before) == 0)) → Reads 1 old new c → IsListed Within old (c ∷ rest) whole → IsListed Within new rest whole
listed-within old new c rest whole shut is closes reads listed =
    let before = listed.0 in
    let step = reads before rest listed.1 listed.2 in
    let F = λ (inner : List ℕ). whole_parts 1 old.done (part_of old) before inner in
    let G = λ (inner : List ℕ). whole_parts 1 new.done (part_of new) (c ∷ before) inner in (
      c ∷ before,
      step.0,
      step.1,
      map-same G (λ inner. F (c ∷ inner)) (closed_by (c ∷ before) rest) (λ inner. step.2 inner)
          ∙ sym (map-twice F (λ inner. c ∷ inner) (closed_by (c ∷ before) rest))
          ∙ sym (ap (λ b. option_map F (cond b (at_end rest) (option_map (λ inner. c ∷ inner) (closed_by (c ∷ before) rest)))) (sym (closes before listed.1) ∙ is))
          ∙ listed.3,
    )

pub listed-past : (parting : Parting) (c : ℕ) (rest : List ℕ) (whole : Option (List (List ℕ))) → IsListed Closed parting (c ∷ rest) whole → IsListed Broken parting rest whole
listed-past parting c rest whole listed = listed

-- one character is read
abbrev pub ReadsList : Stage → Parting → Stage → Parting → ℕ → Type 0
ReadsList old parting new parted c = (rest : List ℕ) (whole : Option (List (List ℕ))) → IsListed old parting (c ∷ rest) whole → IsListed new parted rest whole

pub listed-more : (old new : Stage) (parting parted : Parting) (text : List ℕ) (n m c : ℕ) (whole : Option (List (List ℕ))) → IsListed old parting (drop n text) whole
    → (n < length text) × (c ≡ get_or text n c) → m ≡ n + 1 → ReadsList old parting new parted c → IsListed new parted (drop m text) whole
listed-more old new parting parted text n m c whole listed at next reads =
    let here : drop n text ≡ c ∷ drop m text = at_drop_more (λ rest. rest) text n c at.0 ∙ ap (λ x. x ∷ drop (n + 1) text) (sym at.1) ∙ ap (λ k. c ∷ drop k text) (sym next) in
    let P : List ℕ → Type 0 = λ rest. IsListed old parting rest whole in
    reads (drop m text) whole (subst P here listed)
