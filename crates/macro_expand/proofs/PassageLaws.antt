-- Statements of lists: where labels are, where statements stand, and that columns are no part of what is processed.
use Rattle.std.proofs.Common.{◌≡◌, ◌∙◌, ◌+◌, ◌++◌, ◌||◌, ℕ, zero, suc, Bool, true, false, cond, List, [], ◌∷◌, map, take, drop, length, Option, Some, None, refl, sym, ap, arith}
use Rattle.std.specs.List.{list_any, slice_get}
use Rattle.std.specs.Str.{bytes_eq}
use Rattle.std.specs.Option.{option_map, option_map_or, is_some}
use Rattle.std.proofs.lemmas.Option.{slice_get-map}
use Rattle.plain_expansion.specs.Expansion.{first_where}
use Rattle.statement_reading.specs.Readings.{Reading, read_statement}
use Rattle.statement_listing.specs.Listings.{Element, Lent, Listed, begun_behind, element, elements, elements_from, has_label, is_plain, lent, line_number, place_at, place_of, plain_lines, plain_numbers}
use Rattle.hl_base.specs.declared.place.Frame.{Frame}
use Rattle.hl_base.specs.declared.place.Origin.{Origin}
use Rattle.macro_library.specs.Contents.{listed_in, written}
use Rattle.macro_library.specs.Definitions.{is_open}
use Rattle.macro_library.specs.Extents.{behind_definition, extent}
use Rattle.asked_definitions.proofs.WrittenLaws.{bare_line, bare_lines, drop-bare, extent-bare, take-bare}
use Rattle.macro_expand.specs.Passages.{Passage, Placed, copied_by, copied_in, faults_in, is_labelled, label_in, nowhere, operands_in, origin_in, placed_from, statements_of}

-- ---- elements

elements-by : (begun : ℕ) (one : Listed) (rest : List Listed) (p : Bool) → ((b : ℕ) → elements_from b (bare_lines rest) ≡ elements_from b rest) →
    cond p (element begun one ∷ elements_from (begun_behind begun (read_statement one.statement).instruction) (bare_lines rest)) (elements_from begun (bare_lines rest))
    ≡ cond p (element begun one ∷ elements_from (begun_behind begun (read_statement one.statement).instruction) rest) (elements_from begun rest)
elements-by begun one rest true is = ap (λ es. element begun one ∷ es) (is (begun_behind begun (read_statement one.statement).instruction))
elements-by begun one rest false is = is begun

elements_from-bare : (begun : ℕ) (list : List Listed) → elements_from begun (bare_lines list) ≡ elements_from begun list
elements_from-bare begun [] = refl
elements_from-bare begun (one ∷ rest) = elements-by begun one rest (is_plain one.statement.shape) (λ b. elements_from-bare b rest)

pub elements-bare : (list : List Listed) → elements (bare_lines list) ≡ elements list
elements-bare list = elements_from-bare 0 list

-- ---- lines that are processed

plain-by : (one : Listed) (rest : List Listed) (p : Bool) → plain_lines (bare_lines rest) ≡ bare_lines (plain_lines rest) →
    cond p (bare_line one ∷ plain_lines (bare_lines rest)) (plain_lines (bare_lines rest)) ≡ bare_lines (cond p (one ∷ plain_lines rest) (plain_lines rest))
plain-by one rest true is = ap (λ ls. bare_line one ∷ ls) is
plain-by one rest false is = is

plain_lines-bare : (list : List Listed) → plain_lines (bare_lines list) ≡ bare_lines (plain_lines list)
plain_lines-bare [] = refl
plain_lines-bare (one ∷ rest) = plain-by one rest (is_plain one.statement.shape) (plain_lines-bare rest)

numbers-by : (first : ℕ) (one : Listed) (rest : List Listed) (p : Bool) → plain_numbers (first + 1) (bare_lines rest) ≡ plain_numbers (first + 1) rest →
    cond p (first ∷ plain_numbers (first + 1) (bare_lines rest)) (plain_numbers (first + 1) (bare_lines rest))
    ≡ cond p (first ∷ plain_numbers (first + 1) rest) (plain_numbers (first + 1) rest)
numbers-by first one rest true is = ap (λ ns. first ∷ ns) is
numbers-by first one rest false is = is

numbers-bare : (first : ℕ) (list : List Listed) → plain_numbers first (bare_lines list) ≡ plain_numbers first list
numbers-bare first [] = refl
numbers-bare first (one ∷ rest) = numbers-by first one rest (is_plain one.statement.shape) (numbers-bare (first + 1) rest)

pub line_number-bare : (list : List Listed) (place : ℕ) → line_number (bare_lines list) place ≡ line_number list place
line_number-bare list place = ap (λ ns. slice_get ns place) (numbers-bare 0 list)

length-bare : (list : List Listed) → length (bare_lines list) ≡ length list
length-bare [] = refl
length-bare (one ∷ rest) = ap suc (length-bare rest)

place_at-bare : (list : List Listed) (line : ℕ) → place_at (bare_lines list) line ≡ place_at list line
place_at-bare list line =
    ap (λ ls. length (plain_lines ls)) (take-bare line list) ∙ ap length (plain_lines-bare (take line list)) ∙ length-bare (plain_lines (take line list))

behind_definition-bare : (list : List Listed) (start : ℕ) → behind_definition (bare_lines list) start ≡ behind_definition list start
behind_definition-bare list start =
    ap (λ ls. start + 1 + length (extent ls)) (drop-bare (start + 1) list)
    ∙ ap (λ ls. start + 1 + length ls) (extent-bare (drop (start + 1) list))
    ∙ ap (λ n. start + 1 + n) (length-bare (extent (drop (start + 1) list)))

-- the place behind a definition
pub behind-bare : (list : List Listed) (start : ℕ) →
    place_at (bare_lines list) (behind_definition (bare_lines list) start) ≡ place_at list (behind_definition list start)
behind-bare list start = place_at-bare list (behind_definition (bare_lines list) start) ∙ ap (place_at list) (behind_definition-bare list start)

-- the texts of a line that is processed
twice : (o : Option Listed) → option_map listed_in (option_map written o) ≡ option_map bare_line o
twice None = refl
twice (Some one) = refl

line-bare : (list : List Listed) (place : ℕ) → slice_get (plain_lines (bare_lines list)) place ≡ option_map bare_line (slice_get (plain_lines list) place)
line-bare list place =
    ap (λ ls. slice_get ls place) (plain_lines-bare list)
    ∙ slice_get-map listed_in (map written (plain_lines list)) place
    ∙ ap (option_map listed_in) (slice_get-map written (plain_lines list) place)
    ∙ twice (slice_get (plain_lines list) place)

pub label-there : (list : List Listed) (place : ℕ) (one : Listed) → slice_get (plain_lines list) place ≡ Some one →
    option_map_or label_in (slice_get (plain_lines (bare_lines list)) place) [] ≡ one.statement.label
label-there list place one is =
    ap (λ (o : Option Listed). option_map_or label_in o []) (line-bare list place ∙ ap (option_map bare_line) is)

pub operands-there : (list : List Listed) (place : ℕ) (one : Listed) → slice_get (plain_lines list) place ≡ Some one →
    option_map_or operands_in (slice_get (plain_lines (bare_lines list)) place) [] ≡ one.statement.operands
operands-there list place one is =
    ap (λ (o : Option Listed). option_map_or operands_in o []) (line-bare list place ∙ ap (option_map bare_line) is)

pub faults-there : (list : List Listed) (place : ℕ) (one : Listed) → slice_get (plain_lines list) place ≡ Some one →
    option_map_or faults_in (slice_get (plain_lines (bare_lines list)) place) [] ≡ one.statement.faults
faults-there list place one is =
    ap (λ (o : Option Listed). option_map_or faults_in o []) (line-bare list place ∙ ap (option_map bare_line) is)

pub no-faults : (list : List Listed) (place : ℕ) → slice_get (plain_lines list) place ≡ None →
    option_map_or faults_in (slice_get (plain_lines (bare_lines list)) place) [] ≡ []
no-faults list place is =
    ap (λ (o : Option Listed). option_map_or faults_in o []) (line-bare list place ∙ ap (option_map bare_line) is)

-- ---- statements of passages

abbrev pub placed_at : Passage → ℕ → Element → Placed
placed_at passage n one = record { passage = passage; place = n; element = one }

placed-from : (passage : Passage) (n : ℕ) (list : List Element) (i : ℕ) →
    slice_get (placed_from passage n list) i ≡ option_map (placed_at passage (n + i)) (slice_get list i)
placed-from passage n [] i = refl
placed-from passage n (one ∷ rest) zero = let same : n ≡ n + 0 = omega arith in ap (λ k. Some (placed_at passage k one)) same
placed-from passage n (one ∷ rest) (suc i) =
    let same : n + 1 + i ≡ n + suc i = omega arith in
    placed-from passage (n + 1) rest i ∙ ap (λ k. option_map (placed_at passage k) (slice_get rest i)) same

pub statement-at : (passage : Passage) (i : ℕ) →
    slice_get (statements_of passage) i ≡ option_map (placed_at passage i) (slice_get (elements (map listed_in passage.list)) i)
statement-at passage i =
    let same : 0 + i ≡ i = omega arith in
    placed-from passage 0 (elements (map listed_in passage.list)) i
    ∙ ap (λ k. option_map (placed_at passage k) (slice_get (elements (map listed_in passage.list)) i)) same

placed-some : (passage : Passage) (i : ℕ) (o : Option Element) → is_some (option_map (placed_at passage i) o) ≡ is_some o
placed-some passage i None = refl
placed-some passage i (Some one) = refl

pub statement-some : (passage : Passage) (i : ℕ) → is_some (slice_get (statements_of passage) i) ≡ is_some (slice_get (elements (map listed_in passage.list)) i)
statement-some passage i = ap is_some (statement-at passage i) ∙ placed-some passage i (slice_get (elements (map listed_in passage.list)) i)

-- the first statement with a label
first-placed : (passage : Passage) (name : List ℕ) (n : ℕ) (list : List Element) →
    place_of name list ≡ first_where (λ s. is_labelled s name) (placed_from passage n list)
first-placed passage name n [] = refl
first-placed passage name n (one ∷ rest) =
    ap (λ o. cond (has_label one name) (Some 0) (option_map (λ k. k + 1) o)) (first-placed passage name (n + 1) rest)

pub place-first : (passage : Passage) (name : List ℕ) →
    place_of name (elements (map listed_in passage.list)) ≡ first_where (λ s. is_labelled s name) (statements_of passage)
place-first passage name = first-placed passage name 0 (elements (map listed_in passage.list))

-- where a statement that is lent stands
pub lent-origin : (o : Option Element) (l : Lent) → Some l ≡ option_map lent o → l.origin ≡ origin_in o
lent-origin None l is = cc
lent-origin (Some s) l is = let one : l ≡ lent s = cc in ap {A = Lent} (λ y. y.origin) one

pub none-origin : (o : Option Element) → None ≡ option_map lent o → nowhere ≡ origin_in o
none-origin None is = refl
none-origin (Some s) is = cc

-- what is said of a statement that is read so
pub element-led : {A : Type 0} (passage : Passage) (i : ℕ) (goes : Placed → A) (o : Option Element) (origin : Origin) (reading : Reading) (performed : Option A) →
    option_map lent o ≡ Some (record { origin = origin; reading = reading }) → ((e : Element) → e.reading ≡ reading → performed ≡ Some (goes (placed_at passage i e))) →
    performed ≡ option_map goes (option_map (placed_at passage i) o)
element-led passage i goes None origin reading performed is each = cc
element-led passage i goes (Some e) origin reading performed is each = each e (let one : lent e ≡ record { origin = origin; reading = reading } = cc in ap {A = Lent} (λ l. l.reading) one)

-- and nothing of one that is not there
lent-none : (o : Option Element) → option_map lent o ≡ None → o ≡ None
lent-none None is = refl
lent-none (Some e) is = cc

pub none-placed : (passage : Passage) (list : List Listed) (i : ℕ) → option_map lent (slice_get (elements list) i) ≡ None →
    passage.list ≡ map written list → slice_get (statements_of passage) i ≡ None
none-placed passage list i none same =
    statement-at passage i
    ∙ ap (λ ws. option_map (placed_at passage i) (slice_get (elements (map listed_in ws)) i)) same
    ∙ ap (λ es. option_map (placed_at passage i) (slice_get es i)) (elements-bare list)
    ∙ ap (option_map (placed_at passage i)) (lent-none (slice_get (elements list) i) none)

-- ---- members that are being copied

either : (b c d e : Bool) → c ≡ (d || e) → (b || c) ≡ ((b || d) || e)
either true c d e is = refl
either false c d e is = is

any-append : (test : List ℕ → Bool) (xs ys : List (List ℕ)) → list_any test (xs ++ ys) ≡ (list_any test xs || list_any test ys)
any-append test [] ys = refl
any-append test (x ∷ xs) ys = either (test x) (list_any test (xs ++ ys)) (list_any test xs) (list_any test ys) (any-append test xs ys)

pub open_here : (frame : Frame) (frames : List Frame) (name : List ℕ) → is_open (copied_by frame.kind frame.name) name ≡ true →
    is_open (copied_in (frame ∷ frames)) name ≡ true
open_here frame frames name is =
    any-append (bytes_eq name) (copied_by frame.kind frame.name) (copied_in frames)
    ∙ ap (λ b. b || is_open (copied_in frames) name) is

pub open_behind : (frame : Frame) (frames : List Frame) (name : List ℕ) → is_open (copied_by frame.kind frame.name) name ≡ false →
    is_open (copied_in (frame ∷ frames)) name ≡ is_open (copied_in frames) name
open_behind frame frames name is =
    any-append (bytes_eq name) (copied_by frame.kind frame.name) (copied_in frames)
    ∙ ap (λ b. b || is_open (copied_in frames) name) is
