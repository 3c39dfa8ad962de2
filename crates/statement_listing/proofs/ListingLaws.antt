-- What is processed of a list, and where its labels are, one line after the other.
use Rattle.std.proofs.Common.{◌≡◌, ◌∙◌, ◌+◌, ◌-◌, ℕ, Bool, true, false, cond, List, [], ◌∷◌, ◌++◌, length, map, Option, Some, None, refl, sym, ap, append_assoc, arith, add-one, drop, get_or, suc, ◌<◌, ◌≤◌}
use Rattle.std.specs.Option.{option_copied, option_map, is_some}
use Rattle.std.specs.List.{slice_get}
use Rattle.std.specs.Borrow.{Bor}
use Rattle.std.proofs.Math.Seq.{drop-cons}
use Rattle.std.specs.Str.{bytes_eq}
use Rattle.std.proofs.lemmas.Option.{slice_get-map}
use Rattle.statement_reading.specs.Readings.{Instruction, Reading}
use Rattle.statement_listing.specs.Listings.{Listed, Element, Lent, is_plain, processed, begins, ends, begun_behind, elements, elements_from, found_label, is_labelled, lent, listed, place_of, plain_lines}
use Rattle.statement_listing.specs.Sources.{listed_at, noted, noted_found, unwritten}
use Rattle.statement_listing.specs.declared.source.Source.{Source}
use Rattle.statement_listing.specs.Views.{lent_line}

-- a line as an element, read so
abbrev pub as_element : ℕ → Listed → Reading → Element
as_element begun one reading = record { origin = one.origin; reading = reading; label = found_label begun reading.label }

-- a line that is processed
elements-shown : (b : ℕ) (one : Listed) (rest : List Listed) (reading : Reading) (p : Bool) → is_plain one.statement.shape ≡ p →
    processed one.statement ≡ Some reading →
    elements_from b (one ∷ rest) ≡ as_element b one reading ∷ elements_from (begun_behind b reading.instruction) rest
elements-shown b one rest reading p is some = grind (arith)

pub elements-plain : (b : ℕ) (one : Listed) (rest : List Listed) (reading : Reading) → processed one.statement ≡ Some reading →
    elements_from b (one ∷ rest) ≡ as_element b one reading ∷ elements_from (begun_behind b reading.instruction) rest
elements-plain b one rest reading some = elements-shown b one rest reading (is_plain one.statement.shape) refl some

pub plain_lines-plain : (one : Listed) (rest : List Listed) (reading : Reading) → processed one.statement ≡ Some reading →
    plain_lines (one ∷ rest) ≡ one ∷ plain_lines rest
plain_lines-plain one rest reading some = grind (arith)

-- a line that is not processed
pub elements-idle : (b : ℕ) (one : Listed) (rest : List Listed) → processed one.statement ≡ None → elements_from b (one ∷ rest) ≡ elements_from b rest
elements-idle b one rest none = grind (arith)

pub plain_lines-idle : (one : Listed) (rest : List Listed) → processed one.statement ≡ None → plain_lines (one ∷ rest) ≡ plain_lines rest
plain_lines-idle one rest none = grind (arith)

-- the place of a label among some elements and those behind them: of the first alone, if it has one there
abbrev pub place_behind : Option ℕ → (count : ℕ) → Option ℕ → Option ℕ
place_behind (Some place) count behind = Some place
place_behind None count behind = option_map (λ n. count + n) behind

pub place_behind-none : (count : ℕ) (behind : Option ℕ) → count ≡ 0 → place_behind None count behind ≡ behind
place_behind-none count None is = refl
place_behind-none count (Some n) is = ap Some (omega (arith, is))

pub place_behind-start : (before : Option ℕ) (count : ℕ) (behind : Option ℕ) → before ≡ None → count ≡ 0 → behind ≡ place_behind before count behind
place_behind-start before count behind none is =
    sym (ap (λ o. place_behind o count behind) none ∙ place_behind-none count behind is)

pub place_behind-end : (before : Option ℕ) (count : ℕ) → place_behind before count None ≡ before
place_behind-end (Some place) count = refl
place_behind-end None count = refl

shifted : (count : ℕ) (behind : Option ℕ) → option_map (λ n. count + n) (option_map (λ n. n + 1) behind) ≡ option_map (λ n. count + 1 + n) behind
shifted count None = refl
shifted count (Some n) = ap Some (omega arith)

-- an element that a branch does not find
pub place_behind-unfound : (name : List ℕ) (before : Option ℕ) (count : ℕ) (one : Element) (rest : List Element) → one.label ≡ None →
    place_behind before count (place_of name (one ∷ rest)) ≡ place_behind before (count + 1) (place_of name rest)
place_behind-unfound name (Some place) count one rest none = refl
place_behind-unfound name None count one rest none =
    ap (λ label. option_map (λ n. count + n) (cond (is_labelled name label) (Some 0) (option_map (λ n. n + 1) (place_of name rest)))) none
    ∙ shifted count (place_of name rest)

found-by : (name label : List ℕ) (count : ℕ) (rest : Option ℕ) (b : Bool) →
    option_map (λ n. count + n) (cond b (Some 0) (option_map (λ n. n + 1) rest)) ≡ place_behind (cond b (Some count) None) (count + 1) rest
found-by name label count rest true = ap Some (omega arith)
found-by name label count rest false = shifted count rest

-- an element with a label
pub place_behind-found : (name label : List ℕ) (before : Option ℕ) (count : ℕ) (one : Element) (rest : List Element) → one.label ≡ Some label →
    place_behind before count (place_of name (one ∷ rest)) ≡ place_behind (noted before name label count) (count + 1) (place_of name rest)
place_behind-found name label (Some place) count one rest some = refl
place_behind-found name label None count one rest some =
    ap (λ l. option_map (λ n. count + n) (cond (is_labelled name l) (Some 0) (option_map (λ n. n + 1) (place_of name rest)))) some
    ∙ found-by name label count (place_of name rest) (bytes_eq name label)

lents-by : (b : ℕ) (one : Listed) (rest : List Listed) (shown : Option Reading) → processed one.statement ≡ shown →
    ((c : ℕ) → map (λ e. Some (lent e)) (elements_from c rest) ≡ map lent_line (plain_lines rest)) →
    map (λ e. Some (lent e)) (elements_from b (one ∷ rest)) ≡ map lent_line (plain_lines (one ∷ rest))
lents-by b one rest None is others =
    ap (map (λ e. Some (lent e))) (elements-idle b one rest is) ∙ others b ∙ ap (map lent_line) (sym (plain_lines-idle one rest is))
lents-by b one rest (Some reading) is others =
    ap (map (λ e. Some (lent e))) (elements-plain b one rest reading is)
    ∙ ap (λ ls. Some (record { origin = one.origin; reading = reading }) ∷ ls) (others (begun_behind b reading.instruction))
    ∙ ap (λ shown. option_map (λ r. record { origin = one.origin; reading = r }) shown ∷ map lent_line (plain_lines rest)) (sym is)
    ∙ ap (map lent_line) (sym (plain_lines-plain one rest reading is))

-- what is lent of the elements is what is lent of the lines
lents : (b : ℕ) (ls : List Listed) → map (λ e. Some (lent e)) (elements_from b ls) ≡ map lent_line (plain_lines ls)
lents b [] = refl
lents b (one ∷ rest) = lents-by b one rest (processed one.statement) refl (λ c. lents c rest)

pub lent-at : (ls : List Listed) (n : ℕ) →
    option_map (λ e. Some (lent e)) (slice_get (elements ls) n) ≡ option_map lent_line (slice_get (plain_lines ls) n)
lent-at ls n =
    sym (slice_get-map (λ e. Some (lent e)) (elements ls) n) ∙ ap (λ xs. slice_get xs n) (lents 0 ls) ∙ slice_get-map lent_line (plain_lines ls) n

-- the same, of a line that is there
lent-flat : (found : Option Element) (shown : Option Lent) → option_map (λ e. Some (lent e)) found ≡ Some shown → option_map lent found ≡ shown
lent-flat None shown e = cc
lent-flat (Some e) shown is = cc

pub lent-there : (ls : List Listed) (n : ℕ) (one : Listed) → slice_get (plain_lines ls) n ≡ Some one →
    option_map lent (slice_get (elements ls) n) ≡ lent_line one
lent-there ls n one is = lent-flat (slice_get (elements ls) n) (lent_line one) (lent-at ls n ∙ ap (option_map lent_line) is)

lent-nothing : (found : Option Element) → option_map (λ e. Some (lent e)) found ≡ None → option_map lent found ≡ None
lent-nothing None e = refl
lent-nothing (Some e) is = cc

pub lent-past : (ls : List Listed) (n : ℕ) → slice_get (plain_lines ls) n ≡ None → option_map lent (slice_get (elements ls) n) ≡ None
lent-past ls n is = lent-nothing (slice_get (elements ls) n) (lent-at ls n ∙ ap (option_map lent_line) is)

some-mapped : {X Y : Type 0} (f : X → Y) (x : Option X) → is_some (option_map f x) ≡ is_some x
some-mapped f None = refl
some-mapped f (Some x) = refl

pub elements-are : (ls : List Listed) (n : ℕ) → is_some (slice_get (elements ls) n) ≡ is_some (slice_get (plain_lines ls) n)
elements-are ls n =
    sym (some-mapped (λ e. Some (lent e)) (slice_get (elements ls) n)) ∙ ap is_some (lent-at ls n) ∙ some-mapped lent_line (slice_get (plain_lines ls) n)

pub copied-some : {X : Type 0} (r : Option (Bor X)) → is_some r ≡ is_some (option_copied r)
copied-some None = refl
copied-some (Some x) = refl

-- an element with this label, if it has one
pub place_behind-one : (name : List ℕ) (before : Option ℕ) (count : ℕ) (one : Element) (rest : List Element) (label : Option (List ℕ)) → one.label ≡ label →
    place_behind before count (place_of name (one ∷ rest)) ≡ place_behind (noted_found before name label count) (count + 1) (place_of name rest)
place_behind-one name before count one rest None is = place_behind-unfound name before count one rest is
place_behind-one name before count one rest (Some label) is = place_behind-found name label before count one rest is

-- a line that is processed, and its label noted
pub line-noted : (name : List ℕ) (whole before after : Option ℕ) (count more begun behind : ℕ) (one : Listed) (rest : List Listed) (reading : Reading) (label : Option (List ℕ)) →
    processed one.statement ≡ Some reading →
    whole ≡ place_behind before count (place_of name (elements_from begun (one ∷ rest))) →
    label ≡ found_label begun reading.label →
    after ≡ noted_found before name label count → more ≡ count + 1 → behind ≡ begun_behind begun reading.instruction →
    whole ≡ place_behind after more (place_of name (elements_from behind rest))
line-noted name whole before after count more begun behind one rest reading label some is found noted counted passed =
    let step = ap (λ es. place_behind before count (place_of name es)) (elements-plain begun one rest reading some) in
    let here = place_behind-one name before count (as_element begun one reading) (elements_from (begun_behind begun reading.instruction) rest) (found_label begun reading.label) refl in
    is ∙ step ∙ here
    ∙ ap (λ l. place_behind (noted_found before name l count) (count + 1) (place_of name (elements_from (begun_behind begun reading.instruction) rest))) (sym found)
    ∙ ap (λ o. place_behind o (count + 1) (place_of name (elements_from (begun_behind begun reading.instruction) rest))) (sym noted)
    ∙ ap (λ n. place_behind after n (place_of name (elements_from (begun_behind begun reading.instruction) rest))) (sym counted)
    ∙ ap (λ b. place_behind after more (place_of name (elements_from b rest))) (sym passed)

-- one more definition at most is begun behind a statement
begun-by : (begun : ℕ) (first second : Bool) (most : ℕ) → begun ≤ most → cond first (begun + 1) (cond second (begun - 1) begun) ≤ most + 1
begun-by begun true second most h = omega (arith, h)
begun-by begun false true most h = omega (arith, h)
begun-by begun false false most h = omega (arith, h)

pub begun-most : (begun : ℕ) (one : Instruction) (most : ℕ) → begun ≤ most → begun_behind begun one ≤ most + 1
begun-most begun one most h = begun-by begun (begins one) (ends one) most h

-- one line more is read
pub line-read : (all lines after : List Listed) (source : Source) (at : ℕ) (line : Listed) → at < length source.statements →
    all ≡ lines ++ map (listed source.path) (drop at source.statements) → line ≡ listed_at source at → after ≡ lines ++ line ∷ [] →
    all ≡ after ++ map (listed source.path) (drop (at + 1) source.statements)
line-read all lines after source at line within is read pushed =
    let rest = map (listed source.path) (drop (at + 1) source.statements) in
    is
    ∙ ap (λ ss. lines ++ map (listed source.path) ss) (drop-cons source.statements at unwritten within ∙ ap (λ k. get_or source.statements at unwritten ∷ drop k source.statements) (sym (add-one at)))
    ∙ sym (append_assoc lines (listed_at source at ∷ []) rest)
    ∙ ap (λ l. (lines ++ l ∷ []) ++ rest) (sym read)
    ∙ ap (λ ls. ls ++ rest) (sym pushed)

-- what is left of a list, whose item at a place is this
pub line-at : (all : List Listed) (i : ℕ) (one : Listed) → i < length all → one ≡ get_or all i one → drop i all ≡ one ∷ drop (i + 1) all
line-at all i one within is =
    drop-cons all i one within ∙ ap (λ l. l ∷ drop (suc i) all) (sym is) ∙ ap (λ k. one ∷ drop k all) (sym (add-one i))

-- the same of a list that is read under another name
pub line-in : (all read : List Listed) (i : ℕ) (one : Listed) → read ≡ all → i < length read → one ≡ get_or read i one → drop i all ≡ one ∷ drop (i + 1) all
line-in all read i one same within is = ap (drop i) (sym same) ∙ line-at read i one within is ∙ ap (λ ls. one ∷ drop (i + 1) ls) same
