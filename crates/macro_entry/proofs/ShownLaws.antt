-- What is shown, one parameter and one operand after the other.
use Rattle.std.proofs.Common.{◌≡◌, ◌∙◌, ◌+◌, ◌++◌, ℕ, Bool, true, false, List, [], ◌∷◌, Option, Some, None, length, drop, map, refl, sym, ap, zero, suc, add-one, append_assoc}
use Rattle.std.proofs.Math.Seq.{drop-cons}
use Rattle.std.proofs.lemmas.Option.{get_or_from_slice_get, slice_get_within}
use Rattle.std.specs.Prelude.{◌==◌, if◌then◌else◌}
use Rattle.std.specs.List.{slice_get}
use Rattle.macro_binding.specs.Bindings.{Bound, Given, keyword, positional, given, given_named, given_parted, givens, is_keyword_role, positionals}
use Rattle.macro_binding.specs.Prototypes.{Parameter, Parted, name_of, parted, role_of}
use Rattle.trace_values.specs.declared.variable.Setting.{Setting}
use Rattle.macro_entry.specs.Shown.{is_positional, parameter_shown, positional_among}

-- ---- parameters

-- what stands at a place, and what is behind it
pub drop_there : {X : Type 0} (xs : List X) (i : ℕ) (x : X) → slice_get xs i ≡ Some x → drop i xs ≡ x ∷ drop (i + 1) xs
drop_there xs i x is =
    drop-cons xs i x (slice_get_within xs i x is)
    ∙ ap (λ y. y ∷ drop (suc i) xs) (get_or_from_slice_get xs i x x is)
    ∙ ap (λ k. x ∷ drop k xs) (sym (add-one i))

pub drop_past : {X : Type 0} (xs : List X) (i : ℕ) → slice_get xs i ≡ None → drop i xs ≡ []
drop_past [] zero is = refl
drop_past [] (suc i) is = refl
drop_past (y ∷ ys) zero is = cc
drop_past (y ∷ ys) (suc i) is = drop_past ys i is

-- one parameter more is shown
pub parameter_more : (before all : List Setting) (bounds : List Bound) (i : ℕ) (b : Bound) → slice_get bounds i ≡ Some b →
    before ++ map parameter_shown (drop i bounds) ≡ all → (before ++ parameter_shown b ∷ []) ++ map parameter_shown (drop (i + 1) bounds) ≡ all
parameter_more before all bounds i b there is =
    append_assoc before (parameter_shown b ∷ []) (map parameter_shown (drop (i + 1) bounds))
    ∙ ap (λ bs. before ++ map parameter_shown bs) (sym (drop_there bounds i b there))
    ∙ is

-- ---- positional operands

-- an operand that is a positional one has its own text
abbrev pub IsText : (operand : List ℕ) → Given → Type 0
IsText operand (keyword name value) = Unit {0}
IsText operand (positional text) = text ≡ operand

chosen-text : (operand name value : List ℕ) (b : Bool) → IsText operand (if b then keyword name value else positional operand)
chosen-text operand name value true = tt
chosen-text operand name value false = refl

named-text : (parameters : List Parameter) (operand value : List ℕ) (o : Option (List ℕ)) → IsText operand (given_named parameters operand value o)
named-text parameters operand value None = refl
named-text parameters operand value (Some name) = chosen-text operand name value (is_keyword_role (role_of parameters name))

parted-text : (parameters : List Parameter) (operand : List ℕ) (o : Option Parted) → IsText operand (given_parted parameters operand o)
parted-text parameters operand None = refl
parted-text parameters operand (Some p) = named-text parameters operand p.behind (name_of p.before)

pub given-text : (parameters : List Parameter) (operand : List ℕ) → IsText operand (given parameters operand)
given-text parameters operand = parted-text parameters operand (parted operand)

-- one alone is among the positional ones or not
alone : (operand : List ℕ) (g : Given) → IsText operand g → (length (positionals (g ∷ [])) == 1) ≡ true → positionals (g ∷ []) ≡ operand ∷ []
alone operand (keyword name value) same is = cc
alone operand (positional text) same is = ap (λ t. t ∷ []) same

pub positional_alone : (parameters : List Parameter) (operand : List ℕ) → is_positional parameters operand ≡ true →
    positional_among parameters (operand ∷ []) ≡ operand ∷ []
positional_alone parameters operand is = alone operand (given parameters operand) (given-text parameters operand) is

none : (g : Given) → (length (positionals (g ∷ [])) == 1) ≡ false → positionals (g ∷ []) ≡ []
none (keyword name value) is = refl
none (positional text) is = cc

pub keyword_alone : (parameters : List Parameter) (operand : List ℕ) → is_positional parameters operand ≡ false →
    positional_among parameters (operand ∷ []) ≡ []
keyword_alone parameters operand is = none (given parameters operand) is

-- one and others
ones : (g : Given) (rest : List Given) → positionals (g ∷ rest) ≡ positionals (g ∷ []) ++ positionals rest
ones (keyword name value) rest = refl
ones (positional text) rest = refl

pub positional_more : (parameters : List Parameter) (operand : List ℕ) (rest : List (List ℕ)) →
    positional_among parameters (operand ∷ rest) ≡ positional_among parameters (operand ∷ []) ++ positional_among parameters rest
positional_more parameters operand rest = ones (given parameters operand) (givens parameters rest)
