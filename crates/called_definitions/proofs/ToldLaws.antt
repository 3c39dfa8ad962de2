-- What was told of members is what is found, also once one more was told of.
use Rattle.std.proofs.Common.{◌≡◌, ◌∙◌, ℕ, zero, suc, ◌+◌, ◌-◌, ◌==◌, Bool, true, false, cond, List, [], ◌∷◌, ◌++◌, drop, Option, Some, None, refl, sym, ap, is_some, true≢false, arith}
use Rattle.std.specs.List.{find}
use Rattle.std.specs.Option.{option_map}
use Rattle.std.specs.Str.{bytes_eq}
use Rattle.std.proofs.lemmas.Slice.Eq.{bytes_eq-Decides}
use Rattle.hl_base.specs.declared.place.PathId.{PathId}
use Rattle.hl_base.specs.declared.place.TextId.{TextId}
use Rattle.hl_base.specs.declared.set.Answer.{Answer}
use Rattle.hl_base.specs.declared.set.Answer.TheVariants as answer
use Rattle.macro_library.specs.Files as files
use Rattle.macro_library.specs.Members.{Told, member_in, member_of, with_member}
use Rattle.macro_library.specs.declared.member.Member.{Member}
use Rattle.macro_library.specs.declared.member.Member.TheVariants.{Absent, Unreadable, File}
use Rattle.statement_listing.specs.Listings.{Listed}
use Rattle.text_pool.specs.Members as members
use Rattle.text_pool.specs.Pool.{Pool, IsLive, text_of}
use Rattle.called_definitions.specs.Readings.{list_from, list_in, told_as, told_by}
use Rattle.called_definitions.specs.Told.{AreFound}
use Rattle.called_definitions.proofs.AskingLaws.{TellsMore}

none-some : {X : Type 0} (x : X) → None ≡ Some x → ⊥
none-some x is = true≢false (sym (ap is_some is))

-- nothing was told
pub none_told : (found : List ℕ → members.Member) → AreFound found []
none_told found name member is = absurd (none-some member is)

-- so more is told where all is told as it is found
pub found_tells : (found : List ℕ → members.Member) (told : List Told) → AreFound found told → TellsMore (member_of told) (told_by found)
found_tells found told are name member is = ap Some (sym (are name member is))

-- ---- one more

abbrev or_else : Option Member → Option Member → Option Member
or_else (Some member) later = Some member
or_else None later = later

behind_by : (b : Bool) (one : Told) (here whole : Option Told) (later : Option Member) → option_map member_in whole ≡ or_else (option_map member_in here) later →
    option_map member_in (cond b (Some one) whole) ≡ or_else (option_map member_in (cond b (Some one) here)) later
behind_by true one here whole later is = refl
behind_by false one here whole later is = is

last_by : (b : Bool) (one : Told) → option_map member_in (cond b (Some one) None) ≡ cond b (Some one.member) None
last_by true one = refl
last_by false one = refl

member_behind : (told : List Told) (one : Told) (name : List ℕ) →
    member_of (told ++ one ∷ []) name ≡ or_else (member_of told name) (cond (bytes_eq name one.name) (Some one.member) None)
member_behind [] one name = last_by (bytes_eq name one.name) one
member_behind (first ∷ told) one name = behind_by (bytes_eq name first.name) first _ _ _ (member_behind told one name)

some_same : {X : Type 0} (x y : X) → Some x ≡ Some y → x ≡ y
some_same x y is = cc

either_found : (wanted : Member) (o : Option Member) (b : Bool) (later member : Member) → ((m : Member) → o ≡ Some m → m ≡ wanted) → (b ≡ true → later ≡ wanted) →
    or_else o (cond b (Some later) None) ≡ Some member → member ≡ wanted
either_found wanted (Some earlier) b later member old new is = old member is
either_found wanted None true later member old new is = sym (some_same later member is) ∙ new refl
either_found wanted None false later member old new is = absurd (none-some member is)

behind_found : (found : List ℕ → members.Member) (told : List Told) (one : Told) → AreFound found told → one.member ≡ told_as (found one.name) → AreFound found (told ++ one ∷ [])
behind_found found told one are is name member at =
    either_found (told_as (found name)) (member_of told name) (bytes_eq name one.name) one.member member (λ m there. are name m there)
    (λ same. is ∙ ap (λ (n : List ℕ). told_as (found n)) (sym ((bytes_eq-Decides name one.name).0 same)))
    (sym (member_behind told one name) ∙ at)

with_by : (b : Bool) (found : List ℕ → members.Member) (told more : List Told) → AreFound found told → AreFound found more → AreFound found (cond b told more)
with_by true found told more are grown = are
with_by false found told more are grown = grown

-- one more member was told of as it is found
pub one_more_told : (found : List ℕ → members.Member) (told : List Told) (name : List ℕ) (member : Member) → AreFound found told → member ≡ told_as (found name) →
    AreFound found (with_member told name member)
one_more_told found told name member are is =
    with_by (is_some (member_of told name)) found told (told ++ record { name = name; member = member } ∷ []) are
    (behind_found found told (record { name = name; member = member }) are is)

-- ---- the prototype of a number

-- what is behind the line before a prototype begins with the prototype
pub list_before : (told : List ℕ → Option Member) (list : List Listed) (number : ℕ) → ((number ≡ 0) → ⊥) →
    list_in told (drop ((number - 1) + 1) list) ≡ list_from told list number
list_before told list zero some = absurd (some refl)
list_before told list (suc before) some = let same : (suc before - 1) + 1 ≡ suc before = omega arith in ap (λ (n : ℕ). list_in told (drop n list)) same

-- ---- what an answer tells

-- a file as it is told
pub file_told : (file : files.File) (path : PathId) (text : List ℕ) → file.path ≡ path → file.text ≡ text → File file ≡ told_as (members.File path.0 text)
file_told file path text same_path same_text = λ i. File (record { path = same_path i; text = same_text i })

-- a file is answered: its text is live, and it is what is found
pub answered_live : (pool : Pool) (m : members.Member) (path : PathId) (text : TextId) → members.Tells pool m (answer.File path text) → IsLive pool text.0
answered_live pool members.Absent path text told = absurd told
answered_live pool members.Unreadable path text told = absurd told
answered_live pool (members.File at characters) path text told = told.1.live

pub answered_file : (pool : Pool) (m : members.Member) (path : PathId) (text : TextId) → members.Tells pool m (answer.File path text) →
    told_as (members.File path.0 (text_of pool text.0)) ≡ told_as m
answered_file pool members.Absent path text told = absurd told
answered_file pool members.Unreadable path text told = absurd told
answered_file pool (members.File at characters) path text told =
    ap (λ (n : ℕ). told_as (members.File n (text_of pool text.0))) told.0 ∙ ap (λ (cs : List ℕ). told_as (members.File at cs)) told.1.is

pub answered_unreadable : (pool : Pool) (m : members.Member) → members.Tells pool m answer.Unreadable → Unreadable ≡ told_as m
answered_unreadable pool members.Absent told = absurd told
answered_unreadable pool members.Unreadable told = refl
answered_unreadable pool (members.File at characters) told = absurd told

-- any other answer says that there is none
pub answered_absent : (pool : Pool) (m : members.Member) (given : Answer) → members.Tells pool m given → (given ≡ answer.Unreadable → ⊥) →
    ((path : PathId) (text : TextId) → given ≡ answer.File path text → ⊥) → Absent ≡ told_as m
answered_absent pool members.Absent given told readable file = refl
answered_absent pool members.Unreadable answer.Unreadable told readable file = absurd (readable refl)
answered_absent pool members.Unreadable answer.Nothing told readable file = absurd told
answered_absent pool members.Unreadable (answer.Number number) told readable file = absurd told
answered_absent pool members.Unreadable (answer.Bit bit) told readable file = absurd told
answered_absent pool members.Unreadable (answer.Chars chars) told readable file = absurd told
answered_absent pool members.Unreadable answer.Defined told readable file = absurd told
answered_absent pool members.Unreadable (answer.File path text) told readable file = absurd told
answered_absent pool members.Unreadable (answer.Meaning attr) told readable file = absurd told
answered_absent pool (members.File at text) (answer.File path id) told readable file = absurd (file path id refl)
answered_absent pool (members.File at text) answer.Nothing told readable file = absurd told
answered_absent pool (members.File at text) (answer.Number number) told readable file = absurd told
answered_absent pool (members.File at text) (answer.Bit bit) told readable file = absurd told
answered_absent pool (members.File at text) (answer.Chars chars) told readable file = absurd told
answered_absent pool (members.File at text) answer.Defined told readable file = absurd told
answered_absent pool (members.File at text) answer.Unreadable told readable file = absurd told
answered_absent pool (members.File at text) (answer.Meaning attr) told readable file = absurd told
