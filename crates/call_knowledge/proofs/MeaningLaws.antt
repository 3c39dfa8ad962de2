-- What a name means, and where SETx puts a value.
use Rattle.std.proofs.Common.{◌≡◌, ℕ, Bool, true, false, cond, Option, Some, None}
use Rattle.hl_base.specs.declared.set.SetKind.{SetKind}
use Rattle.set_symbols.specs.Table.{place}
use Rattle.set_symbols.specs.declared.symbol.Declared.{Declared}
use Rattle.call_knowledge.specs.declared.aim.Aim.{Aim}
use Rattle.call_knowledge.specs.declared.aim.Aim.TheVariants.{OtherType, Local}
use Rattle.call_knowledge.specs.declared.system.SystemVariable.{SystemVariable}
use Rattle.call_knowledge.specs.Knowledge.{Meaning, Unknown, SystemText, Scalar, Array, meant}
use Rattle.call_knowledge.specs.Changes.{aim_at, scalar_aim, array_aim, aim_by, same_kind}

-- a symbol without a subscript stands in the table of these
pub meant-scalar : (system : Option SystemVariable) (scalar array : Option Declared) (declared : Declared) →
    meant system scalar array ≡ Scalar declared → scalar ≡ Some declared
meant-scalar (Some system) scalar array declared is = cc
meant-scalar None (Some own) array declared is = cc
meant-scalar None None (Some own) declared is = cc
meant-scalar None None None declared is = cc

-- one with a subscript in the other
pub meant-array : (system : Option SystemVariable) (scalar array : Option Declared) (declared : Declared) →
    meant system scalar array ≡ Array declared → array ≡ Some declared
meant-array (Some system) scalar array declared is = cc
meant-array None (Some own) array declared is = cc
meant-array None None (Some own) declared is = cc
meant-array None None None declared is = cc

-- a local place that is aimed at is the one that is named
aim_at-local : (global : Bool) (named : Option ℕ) (at : ℕ) → aim_at global named ≡ Local at → named ≡ Some at
aim_at-local global None at is = cc
aim_at-local true (Some n) at is = cc
aim_at-local false (Some n) at is = cc

scalar-local : (global : Bool) (element : Option ℕ) (at : ℕ) → scalar_aim global element ≡ Local at → place element ≡ Some at
scalar-local global None at is = aim_at-local global (Some 0) at is
scalar-local global (Some n) at is = cc

array-local : (global : Bool) (element : Option ℕ) (at : ℕ) → array_aim global element ≡ Local at → place element ≡ Some at
array-local global None at is = cc
array-local global (Some n) at is = aim_at-local global (place (Some n)) at is

typed : {P : Type 0} (b : Bool) (one : Aim) (at : ℕ) → (one ≡ Local at → P) → cond b one OtherType ≡ Local at → P
typed true one at then is = then is
typed false one at then is = cc

aim_by-local : (meaning : Meaning) (element : Option ℕ) (kind : SetKind) (at : ℕ) → aim_by meaning element kind ≡ Local at → place element ≡ Some at
aim_by-local Unknown element kind at is = aim_at-local false (place element) at is
aim_by-local (SystemText text) element kind at is = cc
aim_by-local (Scalar d) element kind at is =
    typed (same_kind d.kind kind) (scalar_aim d.global element) at (λ e. scalar-local d.global element at e) is
aim_by-local (Array d) element kind at is =
    typed (same_kind d.kind kind) (array_aim d.global element) at (λ e. array-local d.global element at e) is

-- where a parameter aims at nothing
chosen : {P : Type 0} (b : Bool) (one : Aim) (at : ℕ) → (one ≡ Local at → P) → cond b OtherType one ≡ Local at → P
chosen true one at then is = cc
chosen false one at then is = then is

pub aim_local : (bound : Bool) (meaning : Meaning) (element : Option ℕ) (kind : SetKind) (at : ℕ) →
    cond bound OtherType (aim_by meaning element kind) ≡ Local at → place element ≡ Some at
aim_local bound meaning element kind at is =
    chosen bound (aim_by meaning element kind) at (λ e. aim_by-local meaning element kind at e) is
