-- What is met of a definition, one line after the other.
use Rattle.std.proofs.Common.{◌≡◌, ◌∙◌, ◌+◌, ◌-◌, ◌<◌, ℕ, zero, suc, Bool, true, false, cond, List, [], ◌∷◌, ◌++◌, length, map, length-append, append-nil, append_assoc, refl, sym, ap, subst, arith}
use Rattle.std.proofs.lemmas.List.{map-append, length_push}
use Rattle.std.specs.Prelude.{Option, Some, None, Result, Ok, Err}
use Rattle.std.proofs.Common.{◌||◌, is_some, string_bytes}
use Rattle.std.specs.Map.{lookup}
use Rattle.std.specs.String.{string_eq}
use Rattle.std.specs.declared.string.String.{String}
use Rattle.std.specs.declared.alloc.Global.{Global}
use Rattle.std.specs.declared.hash.FoldHasher.{FoldHasher}
use Rattle.std.specs.declared.hash.BuildHasherDefault.{BuildHasherDefault}
use Rattle.indexmap.specs.IndexMap.{IndexMap, insert_entry}
use Rattle.indexmap.proofs.CallerLemmas.{insert_entry-new}
use Rattle.statement_listing.specs.Listings.{Listed}
use Rattle.macro_library.specs.declared.copying.Left.{Left}
use Rattle.macro_library.proofs.MemberLaws.{none_of_some, spells}
use Rattle.macro_library.specs.declared.copying.Copying.{Copying}
use Rattle.macro_library.specs.declared.copying.Progress.{Progress}
use Rattle.macro_library.specs.declared.copying.Progress.TheVariants.{Goes, Ends}
use Rattle.macro_library.specs.declared.fault.DefFault.{DefFault}
use Rattle.macro_library.specs.declared.fault.DefFault.TheVariants.{NoMend, CopyAbsent, CopyUnreadable, CopyCycle, TooLong, Asks}
use Rattle.macro_library.specs.declared.member.Member.{Member}
use Rattle.macro_library.specs.declared.member.Member.TheVariants.{Absent, Unreadable, File}
use Rattle.macro_library.specs.Members.{Told, lines_of, member_of}
use Rattle.macro_library.specs.Extents.{behind}
use Rattle.macro_library.specs.Definitions.{IsFault, Met, stays, replaced, fails, and_behind, and_line, behind_met, copied_at, deepest, ending, is_open, lines_met, met_at, met_behind, met_in, met_in_member, met_in_told, most_statements}
use Rattle.macro_library.specs.Copying.{Comes, Copies, Enters, Goes_on, IsNew, Keeps, Meets, Outside, behind_lines, comes, comes_behind, comes_with, ended_with, met_in_all, met_inside, met_outside, name_in, names_of, outer_of, outside_of}

-- ---- what is behind what was met

behind_met-append : (begun : ℕ) (a b : List Met) → behind_met begun (a ++ b) ≡ behind_met (behind_met begun a) b
behind_met-append begun [] b = refl
behind_met-append begun (stays line ∷ a) b = behind_met-append (behind begun line) a b
behind_met-append begun (replaced ∷ a) b = behind_met-append begun a b
behind_met-append begun (fails fault ∷ a) b = behind_met-append begun a b

and_behind-assoc : (begun : ℕ) (inside : List Met) (next others : ℕ → List Met) →
    and_behind begun (and_behind begun inside next) others ≡ and_behind begun inside (λ b. and_behind b (next b) others)
and_behind-assoc begun inside next others =
    let passed = behind_met begun inside in
    append_assoc inside (next passed) (others (behind_met begun (inside ++ next passed)))
    ∙ ap (λ n. inside ++ (next passed ++ others n)) (behind_met-append begun inside (next passed))

-- ---- the lists outside

met_outside-push : (told : List ℕ → Option Member) (levels : ℕ) (copying : List (List ℕ)) (outer : List Outside) (one : Outside) (final : ℕ → List Met) (begun : ℕ) →
    met_outside told levels copying (outer ++ one ∷ []) final begun
    ≡ and_behind begun (met_in (met_in_member (levels - length outer) told (copying ++ names_of outer)) begun one.left) (met_outside told levels copying outer final)
met_outside-push told levels copying [] one final begun =
    let whole : levels ≡ levels - 0 = omega arith in
    ap (λ n. and_behind begun (met_in (met_in_member n told copying) begun one.left) final) whole
    ∙ ap (λ c. and_behind begun (met_in (met_in_member (levels - 0) told c) begun one.left) final) (sym (append-nil copying))
met_outside-push told levels copying (first ∷ more) one final begun =
    let less : levels - 1 - length more ≡ levels - length (first ∷ more) = omega arith in
    let others = met_outside told levels copying (first ∷ more) final in
    met_outside-push told (levels - 1) (copying ++ first.name ∷ []) more one (λ b. and_behind b (met_in (met_in_member levels told copying) b first.left) final) begun
    ∙ ap (λ n. and_behind begun (met_in (met_in_member n told ((copying ++ first.name ∷ []) ++ names_of more)) begun one.left) others) less
    ∙ ap (λ c. and_behind begun (met_in (met_in_member (levels - length (first ∷ more)) told c) begun one.left) others) (append_assoc copying (first.name ∷ []) (names_of more))

-- nothing is left of the innermost list
pub met_in_all-back : (told : List ℕ → Option Member) (ended : Bool) (outer : List Outside) (name : List ℕ) (list : List Listed) (begun : ℕ) →
    met_in_all told ended outer list begun ≡ met_in_all told ended (outer ++ record { name = name; left = list } ∷ []) [] begun
met_in_all-back told ended outer name list begun =
    sym (met_outside-push told deepest [] outer (record { name = name; left = list }) (λ all. ending ended) begun)

-- a line that stays
met_in_all-stays : (told : List ℕ → Option Member) (ended : Bool) (outer : List Outside) (line : Listed) (rest : List Listed) (begun : ℕ) →
    copied_at begun line ≡ None → met_in_all told ended outer (line ∷ rest) begun ≡ stays line ∷ met_in_all told ended outer rest (behind begun line)
met_in_all-stays told ended outer line rest begun none =
    ap (λ o. and_behind begun (met_at (met_inside told outer) begun line o (λ b. met_in (met_inside told outer) b rest))
    (met_outside told deepest [] outer (λ all. ending ended))) none

-- a COPY
met_in_all-copies : (told : List ℕ → Option Member) (ended : Bool) (outer : List Outside) (line : Listed) (rest : List Listed) (begun : ℕ) (name : List ℕ) →
    copied_at begun line ≡ Some name →
    met_in_all told ended outer (line ∷ rest) begun
    ≡ replaced ∷ and_behind begun (met_inside told outer begun name) (λ b. met_in_all told ended outer rest b)
met_in_all-copies told ended outer line rest begun name some =
    let others = met_outside told deepest [] outer (λ all. ending ended) in
    ap (λ o. and_behind begun (met_at (met_inside told outer) begun line o (λ b. met_in (met_inside told outer) b rest)) others) some
    ∙ ap (λ l. replaced ∷ l) (and_behind-assoc begun (met_inside told outer begun name) (λ b. met_in (met_inside told outer) b rest) others)

-- a member within those that are being copied
met_in_all-entered : (told : List ℕ → Option Member) (ended : Bool) (outer : List Outside) (name : List ℕ) (current list : List Listed) (begun : ℕ) →
    met_in_all told ended (outer ++ record { name = name; left = current } ∷ []) list begun
    ≡ and_behind begun (met_in (met_in_member (deepest - suc (length outer)) told (names_of outer ++ name ∷ [])) begun list) (λ b. met_in_all told ended outer current b)
met_in_all-entered told ended outer name current list begun =
    let one : Outside = record { name = name; left = current } in
    let others = met_outside told deepest [] (outer ++ one ∷ []) (λ all. ending ended) in
    let count : length (outer ++ one ∷ []) ≡ suc (length outer) = omega (arith, length_push outer one) in
    let deep = met_in_member (deepest - suc (length outer)) told (names_of outer ++ name ∷ []) in
    ap (λ n. and_behind begun (met_in (met_in_member (deepest - n) told (names_of (outer ++ one ∷ []))) begun list) others) count
    ∙ ap (λ names. and_behind begun (met_in (met_in_member (deepest - suc (length outer)) told names) begun list) others) (map-append name_in outer (one ∷ []))
    ∙ ap (λ l. met_in deep begun list ++ l)
    (met_outside-push told deepest [] outer one (λ all. ending ended) (behind_met begun (met_in deep begun list)))

-- ---- members that are copied

level : (all used : ℕ) → used < all → all - used ≡ suc (all - suc used)
level all used within = omega arith

-- one that is being copied
met_inside-cycle : (told : List ℕ → Option Member) (outer : List Outside) (begun : ℕ) (name : List ℕ) → length outer < deepest →
    is_open (names_of outer) name ≡ true → met_inside told outer begun name ≡ fails (CopyCycle name) ∷ []
met_inside-cycle told outer begun name shallow cycles =
    ap (λ n. met_in_member n told (names_of outer) begun name) (level deepest (length outer) shallow)
    ∙ ap (λ b. cond b (fails (CopyCycle name) ∷ [])
    (met_in_told (met_in (met_in_member (deepest - suc (length outer)) told (names_of outer ++ name ∷ [])) begun) name (told name))) cycles

-- any other
met_inside-told : (told : List ℕ → Option Member) (outer : List Outside) (begun : ℕ) (name : List ℕ) (member : Option Member) → length outer < deepest →
    is_open (names_of outer) name ≡ false → member ≡ told name →
    met_inside told outer begun name
    ≡ met_in_told (met_in (met_in_member (deepest - suc (length outer)) told (names_of outer ++ name ∷ [])) begun) name member
met_inside-told told outer begun name member shallow closed is =
    let inside = met_in_told (met_in (met_in_member (deepest - suc (length outer)) told (names_of outer ++ name ∷ [])) begun) name in
    ap (λ n. met_in_member n told (names_of outer) begun name) (level deepest (length outer) shallow)
    ∙ ap (λ b. cond b (fails (CopyCycle name) ∷ []) (inside (told name))) closed
    ∙ ap inside (sym is)

-- these are the statements of a member that has a text
abbrev pub HasText : Member → List Listed → Type 0
HasText (File file) list = list ≡ lines_of (File file)
HasText Absent list = ⊥
HasText Unreadable list = ⊥

text_in : (in_lines : List Listed → List Met) (name : List ℕ) (member : Member) (list : List Listed) → HasText member list →
    met_in_told in_lines name (Some member) ≡ in_lines list
text_in in_lines name (File file) list is = ap in_lines (sym is)
text_in in_lines name Absent list none = absurd none
text_in in_lines name Unreadable list none = absurd none

-- one with a text
met_inside-text : (told : List ℕ → Option Member) (outer : List Outside) (begun : ℕ) (name : List ℕ) (list : List Listed) (member : Member) → length outer < deepest →
    is_open (names_of outer) name ≡ false → Some member ≡ told name → HasText member list →
    met_inside told outer begun name ≡ met_in (met_in_member (deepest - suc (length outer)) told (names_of outer ++ name ∷ [])) begun list
met_inside-text told outer begun name list member shallow closed is text =
    met_inside-told told outer begun name (Some member) shallow closed is
    ∙ text_in (met_in (met_in_member (deepest - suc (length outer)) told (names_of outer ++ name ∷ [])) begun) name member list text

-- ---- what comes of all

-- what comes of these parts
abbrev whole : (told : List ℕ → Option Member) (operation : List ℕ) (lines : List Listed) (room : ℕ) (ended : Bool) (outer : List Outside) (current : List Listed) (begun : ℕ) → Result (List Listed) DefFault
whole told operation lines room ended outer current begun = behind_lines lines (lines_met operation (met_in_all told ended outer current begun) room)

-- of equal parts the same comes
pub whole-same : (told : List ℕ → Option Member) (operation : List ℕ) (l m : List Listed) (r s : ℕ) (d e : Bool) (o p : List Outside) (c b : List Listed) (n k : ℕ) →
    l ≡ m → r ≡ s → d ≡ e → o ≡ p → c ≡ b → n ≡ k → whole told operation l r d o c n ≡ whole told operation m s e p b k
whole-same told operation l m r s d e o p c b n k hl hr hd ho hc hn =
    ap (λ x. whole told operation x r d o c n) hl
    ∙ ap (λ x. whole told operation m x d o c n) hr
    ∙ ap (λ x. whole told operation m s x o c n) hd
    ∙ ap (λ x. whole told operation m s e x c n) ho
    ∙ ap (λ x. whole told operation m s e p x n) hc
    ∙ ap (λ x. whole told operation m s e p b x) hn

behind_lines-one : (lines : List Listed) (line : Listed) (result : Result (List Listed) DefFault) →
    behind_lines (lines ++ line ∷ []) result ≡ behind_lines lines (and_line line result)
behind_lines-one lines line (Ok more) = ap Ok (append_assoc lines (line ∷ []) more)
behind_lines-one lines line (Err fault) = refl

behind_lines-none : (result : Result (List Listed) DefFault) → behind_lines [] result ≡ result
behind_lines-none (Ok more) = refl
behind_lines-none (Err fault) = refl

-- a line was kept
pub kept-comes : (told : List ℕ → Option Member) (operation : List ℕ) (old counted new : Copying) (line : Listed) →
    old.room ≡ suc counted.room → counted.lines.items ≡ old.lines.items → counted.begun ≡ old.begun → counted.current.lines.items ≡ old.current.lines.items →
    outer_of counted ≡ outer_of old → counted.ended ≡ old.ended → copied_at old.begun line ≡ None → Keeps counted new line →
    comes told operation new ≡ comes_with told operation old line
kept-comes told operation old counted new line room lines begun current outer ended none keeps =
    whole-same told operation new.lines.items (old.lines.items ++ line ∷ []) new.room counted.room new.ended old.ended (outer_of new) (outer_of old)
    new.current.lines.items old.current.lines.items new.begun (behind old.begun line)
    (keeps.lines ∙ ap (λ l. l ++ line ∷ []) lines) keeps.room (keeps.ended_is ∙ ended) (keeps.outer ∙ outer) (keeps.current ∙ current)
    (keeps.begun ∙ ap (λ n. behind n line) begun)
    ∙ behind_lines-one old.lines.items line (lines_met operation (met_in_all told old.ended (outer_of old) old.current.lines.items (behind old.begun line)) counted.room)
    ∙ sym (ap (λ r. behind_lines old.lines.items (lines_met operation (met_in_all told old.ended (outer_of old) (line ∷ old.current.lines.items) old.begun) r)) room
    ∙ ap (λ met. behind_lines old.lines.items (lines_met operation met (suc counted.room)))
    (met_in_all-stays told old.ended (outer_of old) line old.current.lines.items old.begun none))

-- there is no room for a line
too_long-by : (told : List ℕ → Option Member) (operation : List ℕ) (old : Copying) (line : Listed) (copied : Option (List ℕ)) → copied_at old.begun line ≡ copied →
    comes_with told operation (record old { room = 0 }) line ≡ Err (TooLong operation)
too_long-by told operation old line None is =
    ap (λ met. behind_lines old.lines.items (lines_met operation met 0)) (met_in_all-stays told old.ended (outer_of old) line old.current.lines.items old.begun is)
too_long-by told operation old line (Some name) is =
    ap (λ met. behind_lines old.lines.items (lines_met operation met 0)) (met_in_all-copies told old.ended (outer_of old) line old.current.lines.items old.begun name is)

pub too_long-comes : (told : List ℕ → Option Member) (operation : List ℕ) (old : Copying) (line : Listed) → old.room ≡ 0 →
    comes_with told operation old line ≡ Err (TooLong operation)
too_long-comes told operation old line none =
    ap (λ r. behind_lines old.lines.items (lines_met operation (met_in_all told old.ended (outer_of old) (line ∷ old.current.lines.items) old.begun) r)) none
    ∙ too_long-by told operation old line (copied_at old.begun line) refl

-- what is met of a member, and then what is left
abbrev copied_next : (List ℕ → Option Member) → (name : List ℕ) → Bool → List Outside → List Listed → ℕ → List Met
copied_next told name ended outer current begun = and_behind begun (met_inside told outer begun name) (λ b. met_in_all told ended outer current b)

-- a COPY is counted, and its member comes
pub copies-comes : (told : List ℕ → Option Member) (operation : List ℕ) (old counted : Copying) (line : Listed) (name : List ℕ) →
    old.room ≡ suc counted.room → counted.lines.items ≡ old.lines.items → counted.begun ≡ old.begun → counted.current.lines.items ≡ old.current.lines.items →
    outer_of counted ≡ outer_of old → counted.ended ≡ old.ended → copied_at old.begun line ≡ Some name →
    comes_with told operation old line ≡ comes_behind told operation counted name
copies-comes told operation old counted line name room lines begun current outer ended some =
    ap (λ r. behind_lines old.lines.items (lines_met operation (met_in_all told old.ended (outer_of old) (line ∷ old.current.lines.items) old.begun) r)) room
    ∙ ap (λ met. behind_lines old.lines.items (lines_met operation met (suc counted.room)))
    (met_in_all-copies told old.ended (outer_of old) line old.current.lines.items old.begun name some)
    ∙ ap (λ l. behind_lines l (lines_met operation (copied_next told name old.ended (outer_of old) old.current.lines.items old.begun) counted.room)) (sym lines)
    ∙ ap (λ e. behind_lines counted.lines.items (lines_met operation (copied_next told name e (outer_of old) old.current.lines.items old.begun) counted.room)) (sym ended)
    ∙ ap (λ o. behind_lines counted.lines.items (lines_met operation (copied_next told name counted.ended o old.current.lines.items old.begun) counted.room)) (sym outer)
    ∙ ap (λ c. behind_lines counted.lines.items (lines_met operation (copied_next told name counted.ended (outer_of counted) c old.begun) counted.room)) (sym current)
    ∙ ap (λ n. behind_lines counted.lines.items (lines_met operation (copied_next told name counted.ended (outer_of counted) counted.current.lines.items n) counted.room)) (sym begun)

-- a member fails
failed-comes : (told : List ℕ → Option Member) (operation : List ℕ) (old : Copying) (name : List ℕ) (fault : DefFault) →
    met_inside told (outer_of old) old.begun name ≡ fails fault ∷ [] → comes_behind told operation old name ≡ Err fault
failed-comes told operation old name fault is =
    ap (λ inside. behind_lines old.lines.items (lines_met operation
    (and_behind old.begun inside (λ b. met_in_all told old.ended (outer_of old) old.current.lines.items b)) old.room)) is

pub cycle-comes : (told : List ℕ → Option Member) (operation : List ℕ) (old : Copying) (name : List ℕ) → length (outer_of old) < deepest →
    is_open (names_of (outer_of old)) name ≡ true → comes_behind told operation old name ≡ Err (CopyCycle name)
cycle-comes told operation old name shallow cycles =
    failed-comes told operation old name (CopyCycle name) (met_inside-cycle told (outer_of old) old.begun name shallow cycles)

pub asks-comes : (told : List ℕ → Option Member) (operation : List ℕ) (old : Copying) (name : List ℕ) → length (outer_of old) < deepest →
    is_open (names_of (outer_of old)) name ≡ false → None ≡ told name → comes_behind told operation old name ≡ Err (Asks name)
asks-comes told operation old name shallow closed is =
    failed-comes told operation old name (Asks name) (met_inside-told told (outer_of old) old.begun name None shallow closed is)

pub absent-comes : (told : List ℕ → Option Member) (operation : List ℕ) (old : Copying) (name : List ℕ) → length (outer_of old) < deepest →
    is_open (names_of (outer_of old)) name ≡ false → Some Absent ≡ told name → comes_behind told operation old name ≡ Err (CopyAbsent name)
absent-comes told operation old name shallow closed is =
    failed-comes told operation old name (CopyAbsent name) (met_inside-told told (outer_of old) old.begun name (Some Absent) shallow closed is)

pub unreadable-comes : (told : List ℕ → Option Member) (operation : List ℕ) (old : Copying) (name : List ℕ) → length (outer_of old) < deepest →
    is_open (names_of (outer_of old)) name ≡ false → Some Unreadable ≡ told name → comes_behind told operation old name ≡ Err (CopyUnreadable name)
unreadable-comes told operation old name shallow closed is =
    failed-comes told operation old name (CopyUnreadable name) (met_inside-told told (outer_of old) old.begun name (Some Unreadable) shallow closed is)

-- ---- steps

-- what is wanted may be replaced by what it is
pub Comes-as : (wanted is now : Result (List Listed) DefFault) (result : Result (Unit {0}) DefFault) → wanted ≡ is → Comes is now result → Comes wanted now result
Comes-as wanted is now result same comes = subst (λ w. Comes w now result) (sym same) comes

pub IsFault-as : (wanted is : Result (List Listed) DefFault) (fault : DefFault) → wanted ≡ is → IsFault is fault → IsFault wanted fault
IsFault-as wanted is fault same stands = subst (λ (w : Result (List Listed) DefFault). IsFault w fault) (sym same) stands

-- a member was begun
pub entered-comes : (told : List ℕ → Option Member) (operation : List ℕ) (old new : Copying) (name : List ℕ) (list : List Listed) (member : Member) →
    length (outer_of old) < deepest → is_open (names_of (outer_of old)) name ≡ false → Some member ≡ told name → HasText member list →
    Enters old new name list → comes told operation new ≡ comes_behind told operation old name
entered-comes told operation old new name list member shallow closed is text enters =
    whole-same told operation new.lines.items old.lines.items new.room old.room new.ended old.ended (outer_of new)
    (outer_of old ++ record { name = name; left = old.current.lines.items } ∷ []) new.current.lines.items list new.begun old.begun
    enters.lines enters.room enters.ended_is enters.outer enters.current enters.begun
    ∙ ap (λ met. behind_lines old.lines.items (lines_met operation met old.room))
    (met_in_all-entered told old.ended (outer_of old) name old.current.lines.items list old.begun
    ∙ ap (λ inside. and_behind old.begun inside (λ b. met_in_all told old.ended (outer_of old) old.current.lines.items b))
    (sym (met_inside-text told (outer_of old) old.begun name list member shallow closed is text)))

-- a step that goes on from what the same comes of
pub Goes_on-as : (told : List ℕ → Option Member) (operation : List ℕ) (before popped new : Copying) (progress : Progress) →
    comes told operation popped ≡ comes told operation before → Goes_on told operation popped new progress → Goes_on told operation before new progress
Goes_on-as told operation before popped new Goes same goes = goes ∙ same
Goes_on-as told operation before popped new Ends same ends = ends ∙ same

-- back in the list outside
pub back-comes : (told : List ℕ → Option Member) (operation : List ℕ) (old new : Copying) (name : List ℕ) (left : List Listed) →
    old.current.lines.items ≡ [] → outer_of old ≡ outer_of new ++ record { name = name; left = left } ∷ [] → new.current.lines.items ≡ left →
    new.lines.items ≡ old.lines.items → new.room ≡ old.room → new.ended ≡ old.ended → new.begun ≡ old.begun →
    comes told operation new ≡ comes told operation old
back-comes told operation old new name left none outer current lines room ended begun =
    let outside = outer_of new ++ record { name = name; left = left } ∷ [] in
    whole-same told operation new.lines.items old.lines.items new.room old.room new.ended old.ended (outer_of new) (outer_of new)
    new.current.lines.items left new.begun old.begun lines room ended refl current begun
    ∙ ap (λ met. behind_lines old.lines.items (lines_met operation met old.room)) (met_in_all-back told old.ended (outer_of new) name left old.begun)
    ∙ whole-same told operation old.lines.items old.lines.items old.room old.room old.ended old.ended outside (outer_of old) [] old.current.lines.items old.begun old.begun
    refl refl refl (sym outer) (sym none) refl

ended-by : (operation : List ℕ) (lines : List Listed) (room : ℕ) (ended : Bool) →
    ended_with lines ended ≡ behind_lines lines (lines_met operation (ending ended) room)
ended-by operation lines room true = ap Ok (sym (append-nil lines))
ended-by operation lines room false = refl

-- nothing is left
pub ended-comes : (told : List ℕ → Option Member) (operation : List ℕ) (old : Copying) → old.current.lines.items ≡ [] → outer_of old ≡ [] →
    ended_with old.lines.items old.ended ≡ comes told operation old
ended-comes told operation old none last =
    ended-by operation old.lines.items old.room old.ended
    ∙ whole-same told operation old.lines.items old.lines.items old.room old.room old.ended old.ended [] (outer_of old) [] old.current.lines.items old.begun old.begun
    refl refl refl (sym last) (sym none) refl

-- nothing was read
pub new-comes : (members : List Told) (operation : List ℕ) (new : Copying) (rest : List Listed) (ended : Bool) → IsNew rest ended new →
    comes (member_of members) operation new ≡ lines_met operation (met_behind members ended rest) most_statements
new-comes members operation new rest ended is =
    let all : deepest - 0 ≡ deepest = omega arith in
    whole-same (member_of members) operation new.lines.items [] new.room most_statements new.ended ended (outer_of new) [] new.current.lines.items rest new.begun 0
    is.lines is.room is.ended_is is.outer is.current is.begun
    ∙ behind_lines-none _
    ∙ ap (λ n. lines_met operation (met_in (met_in_member n (member_of members) []) 0 rest ++ ending ended) most_statements) all

-- the next line was taken off
pub next-comes : (told : List ℕ → Option Member) (operation : List ℕ) (old popped : Copying) (line : Listed) →
    old.current.lines.items ≡ line ∷ popped.current.lines.items → outer_of popped ≡ outer_of old → popped.lines.items ≡ old.lines.items →
    popped.room ≡ old.room → popped.ended ≡ old.ended → popped.begun ≡ old.begun →
    comes told operation old ≡ comes_with told operation popped line
next-comes told operation old popped line current outer lines room ended begun =
    whole-same told operation old.lines.items popped.lines.items old.room popped.room old.ended popped.ended (outer_of old) (outer_of popped)
    old.current.lines.items (line ∷ popped.current.lines.items) old.begun popped.begun
    (sym lines) (sym room) (sym ended) (sym outer) current (sym begun)

-- ---- members on the way

open_by : (b : Bool) (value : Left) (rest : Option Left) (others : Bool) → is_some rest ≡ others → is_some (cond b (Some value) rest) ≡ b || others
open_by true value rest others is = refl
open_by false value rest others is = is

-- a member is being copied where something is found under its name
pub names-lookup : (name : List ℕ) (entries : List (String Global × Left)) →
    is_some (lookup (spells name) entries) ≡ is_open (names_of (map outside_of entries)) name
names-lookup name [] = refl
names-lookup name (e ∷ es) =
    open_by (spells name e.0) e.1 (lookup (spells name) es) (is_open (names_of (map outside_of es)) name) (names-lookup name es)

-- a member that is begun goes last
pub outer-entered : (old : IndexMap (String Global) Left (BuildHasherDefault FoldHasher)) (new : List (String Global × Left))
    (key : String Global) (left : Left) (name : List ℕ) → is_open (names_of (map outside_of old.entries)) name ≡ false → string_bytes key ≡ name →
    new ≡ insert_entry string_eq old.entries key left → map outside_of new ≡ map outside_of old.entries ++ record { name = name; left = left.lines.items } ∷ []
outer-entered old new key left name closed spelled inserted =
    let none : lookup (spells (string_bytes key)) old.entries ≡ None =
    none_of_some _ (ap (λ n. is_some (lookup (spells n) old.entries)) spelled ∙ names-lookup name old.entries ∙ closed) in
    ap (map outside_of) (inserted ∙ insert_entry-new string_eq old key left none)
    ∙ map-append outside_of old.entries ((key, left) ∷ [])
    ∙ ap (λ n. map outside_of old.entries ++ record { name = n; left = left.lines.items } ∷ []) spelled

-- the same is left
pub same-comes : (told : List ℕ → Option Member) (operation : List ℕ) (old popped : Copying) →
    old.current.lines.items ≡ popped.current.lines.items → outer_of popped ≡ outer_of old → popped.lines.items ≡ old.lines.items →
    popped.room ≡ old.room → popped.ended ≡ old.ended → popped.begun ≡ old.begun →
    comes told operation popped ≡ comes told operation old
same-comes told operation old popped current outer lines room ended begun =
    whole-same told operation popped.lines.items old.lines.items popped.room old.room popped.ended old.ended (outer_of popped) (outer_of old)
    popped.current.lines.items old.current.lines.items popped.begun old.begun lines room ended outer (sym current) begun

-- a list that has nothing
pub empty_of : {X : Type 0} (xs : List X) → (0 < length xs → false ≡ true) → xs ≡ []
empty_of [] none = refl
empty_of (x ∷ xs) none = let is : false ≡ true = none (omega arith) in cc
