-- Numbers of statements by the lines in which they begin.
use Rattle.std.proofs.Common.{◌≡◌, ◌∙◌, ◌+◌, ◌<◌, ◌==◌, ℕ, zero, suc, Bool, true, false, cond, List, [], ◌∷◌, ◌++◌, length, take, get_or, Option, Some, None, refl, sym, ap, arith, add-one, is_some, true≢false}
use Rattle.std.specs.Prelude.{slice_get}
use Rattle.std.specs.List.{find}
use Rattle.std.specs.Map.{lookup}
use Rattle.std.specs.Option.{option_and_then, option_map}
use Rattle.std.proofs.lemmas.Bool.{eqb-true}
use Rattle.std.proofs.lemmas.List.{take_more, length-take-le}
use Rattle.std.specs.Prelude.{nat_eq}
use Rattle.std.specs.declared.hash.FoldHasher.{FoldHasher}
use Rattle.std.specs.declared.hash.BuildHasherDefault.{BuildHasherDefault}
use Rattle.indexmap.specs.IndexMap.{IndexMap, insert_entry}
use Rattle.indexmap.proofs.CallerLemmas.{insert_entry-new}
use Rattle.statement_listing.specs.Listings.{Listed}
use Rattle.text_lists.specs.Lists.{begins_in, number_in}
use Rattle.text_lists.specs.Numbers.{is_line, noted}

-- the number of a line where one statement more stands behind others
counted_by : (b : Bool) (more : Option ℕ) (n : ℕ) (whole : Option ℕ) → whole ≡ more → option_map (λ k. k + 1) whole ≡ option_map (λ k. k + 1) more
counted_by b more n whole is = ap (option_map (λ k. k + 1)) is

abbrev both : Option ℕ → Option ℕ → Option ℕ
both (Some earlier) later = Some earlier
both None later = later

abbrev at_end : (line number : ℕ) → Listed → Option ℕ
at_end line number one = cond (begins_in line one) (Some number) None

moved : (o : Option ℕ) (b : Bool) (n : ℕ) → option_map (λ k. k + 1) (both o (cond b (Some n) None)) ≡ both (option_map (λ k. k + 1) o) (cond b (Some (suc n)) None)
moved (Some k) b n = refl
moved None true n = ap Some (add-one n)
moved None false n = refl

joined : (b : Bool) (o later whole : Option ℕ) → whole ≡ both o later → cond b (Some 0) whole ≡ both (cond b (Some 0) o) later
joined true o later whole is = refl
joined false o later whole is = is

pub number_in-append : (line : ℕ) (list : List Listed) (one : Listed) → number_in line (list ++ one ∷ []) ≡ both (number_in line list) (at_end line (length list) one)
number_in-append line [] one = by (begins_in line one)
  where
    by : (b : Bool) → cond b (Some 0) None ≡ both None (cond b (Some 0) None)
    by true = refl
    by false = refl
number_in-append line (first ∷ rest) one =
    joined (begins_in line first) (option_map (λ k. k + 1) (number_in line rest)) (at_end line (suc (length rest)) one) _
    (ap (option_map (λ k. k + 1)) (number_in-append line rest one) ∙ moved (number_in line rest) (begins_in line one) (length rest))

found_by : (b : Bool) (one : Listed) (rest : List Listed) (o : Option ℕ) (f : Option Listed) → option_and_then (slice_get rest) o ≡ f →
    option_and_then (slice_get (one ∷ rest)) (cond b (Some 0) (option_map (λ k. k + 1) o)) ≡ cond b (Some one) f
found_by true one rest o f is = refl
found_by false one rest None f is = is
found_by false one rest (Some k) f is = ap (slice_get (one ∷ rest)) (add-one k) ∙ is

-- the statement of that number is the one that begins there
pub number_in-find : (line : ℕ) (list : List Listed) → option_and_then (slice_get list) (number_in line list) ≡ find (begins_in line) list
number_in-find line [] = refl
number_in-find line (one ∷ rest) = found_by (begins_in line one) one rest (number_in line rest) (find (begins_in line) rest) (number_in-find line rest)

-- ---- an index in which one line more has a number

behind_by : (b : Bool) (value : ℕ) (whole rest later : Option ℕ) → whole ≡ both rest later → cond b (Some value) whole ≡ both (cond b (Some value) rest) later
behind_by true value whole rest later is = refl
behind_by false value whole rest later is = is

lookup_behind : (line : ℕ) (entries : List (ℕ × ℕ)) (key number : ℕ) →
    lookup (is_line line) (entries ++ (key, number) ∷ []) ≡ both (lookup (is_line line) entries) (cond (line == key) (Some number) None)
lookup_behind line [] key number = refl
lookup_behind line (e ∷ es) key number = behind_by (is_line line e.0) e.1 _ (lookup (is_line line) es) _ (lookup_behind line es key number)

noted_both : (before : Option ℕ) (line begun number : ℕ) → both before (cond (line == begun) (Some number) None) ≡ noted before line begun number
noted_both (Some earlier) line begun number = refl
noted_both None line begun number = refl

pub lookup-noted : (line begun number : ℕ) (old : IndexMap ℕ ℕ (BuildHasherDefault FoldHasher)) (new : List (ℕ × ℕ)) → lookup (is_line begun) old.entries ≡ None →
    new ≡ insert_entry nat_eq old.entries begun number → lookup (is_line line) new ≡ noted (lookup (is_line line) old.entries) line begun number
lookup-noted line begun number old new none inserted =
    ap (lookup (is_line line)) (inserted ∙ insert_entry-new nat_eq old begun number none)
    ∙ lookup_behind line old.entries begun number
    ∙ noted_both (lookup (is_line line) old.entries) line begun number

kept_noted : (o : Option ℕ) (line begun number : ℕ) → (line ≡ begun → is_some o ≡ true) → o ≡ noted o line begun number
kept_noted (Some earlier) line begun number there = refl
kept_noted None line begun number there = by (line == begun) refl
  where
    by : (b : Bool) → line == begun ≡ b → None ≡ cond b (Some number) None
    by true same = absurd (true≢false (sym (there (eqb-true line begun same))))
    by false same = refl

-- a line that has a number keeps it
pub lookup-kept : (line begun number : ℕ) (entries : List (ℕ × ℕ)) → is_some (lookup (is_line begun) entries) ≡ true →
    lookup (is_line line) entries ≡ noted (lookup (is_line line) entries) line begun number
lookup-kept line begun number entries there =
    kept_noted (lookup (is_line line) entries) line begun number (λ same. ap (λ (n : ℕ). is_some (lookup (is_line n) entries)) same ∙ there)

-- the index of the first so many statements, and of one more
pub index_next : (list : List Listed) (i : ℕ) (one : Listed) (old new : List (ℕ × ℕ)) → i < length list → one ≡ get_or list i one →
    ((line : ℕ) → lookup (is_line line) old ≡ number_in line (take i list)) →
    ((line : ℕ) → lookup (is_line line) new ≡ noted (lookup (is_line line) old) line one.origin.line i) →
    (line : ℕ) → lookup (is_line line) new ≡ number_in line (take (i + 1) list)
index_next list i one old new within is so_far grown line =
    let count : length (take i list) ≡ i = length-take-le i list (omega arith) in
    grown line
    ∙ ap (λ (o : Option ℕ). noted o line one.origin.line i) (so_far line)
    ∙ sym (noted_both (number_in line (take i list)) line one.origin.line i)
    ∙ ap (λ (n : ℕ). both (number_in line (take i list)) (cond (line == one.origin.line) (Some n) None)) (sym count)
    ∙ sym (number_in-append line (take i list) one)
    ∙ ap (λ (x : Listed). number_in line (take i list ++ x ∷ [])) is
    ∙ ap (number_in line) (sym (take_more list i one within))
