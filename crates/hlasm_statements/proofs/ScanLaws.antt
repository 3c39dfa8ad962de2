-- One character more of the operand field.
use Rattle.std.proofs.Common.{◌≡◌, ◌∙◌, ℕ, ◌<◌, Bool, true, false, List, [], ◌∷◌, ◌++◌, length, take, get_or, sym, ap, subst, arith, take_all}
use Rattle.std.specs.Prelude.{◌==◌, ◌&&◌, reverse, slice_index}
use Rattle.std.proofs.lemmas.List.{reverse-append}
use Rattle.hl_base.specs.Quoting.{IsBehind}
use Rattle.hl_base.specs.declared.quoting.Nesting.{Nesting}
use Rattle.hlasm_statements.specs.declared.reader.Scan.{Scan}
use Rattle.hlasm_statements.specs.Columns.{is_blank}
use Rattle.hlasm_statements.specs.Fields.{ends_field}
use Rattle.hlasm_statements.specs.Reading.{Passes, EndsAt, IsScan}
use Rattle.hlasm_statements.proofs.OperandLaws.{behind-cons}

pub passes-push : (keeps : Bool) (before cs : List ℕ) (c : ℕ) → Passes keeps before cs → (is_blank c && ends_field keeps c (reverse cs ++ before)) ≡ false → Passes keeps before (cs ++ c ∷ [])
passes-push keeps before [] c passes on = (on, tt)
passes-push keeps before (d ∷ cs) c passes on =
    let P : List ℕ → Type 0 = λ b. (is_blank c && ends_field keeps c b) ≡ false in
    (passes.0, passes-push keeps (d ∷ before) cs c passes.1 (subst P (behind-cons d cs before) on))

-- the characters so far go on with the field, and this is what they leave
pub record IsScanning (keeps : Bool) (before text : List ℕ) (left : Nesting) (ends : Bool) : Type 0 where
  pub passes : Passes keeps before text
  pub nesting : IsBehind left (reverse text ++ before)
  pub comma : ends ≡ (slice_index (reverse text ++ before) 0 == 44)

pub behind-push : (before cs : List ℕ) (c : ℕ) → reverse (cs ++ c ∷ []) ++ before ≡ c ∷ (reverse cs ++ before)
behind-push before cs c = ap (λ r. r ++ before) (reverse-append cs (c ∷ []))

pub scanning-none : (keeps : Bool) (before : List ℕ) (nesting : Nesting) (comma : Bool) → IsBehind nesting before → comma ≡ (slice_index before 0 == 44) → IsScanning keeps before [] nesting comma
scanning-none keeps before nesting comma is_behind ends = record { passes = tt; nesting = is_behind; comma = ends }

pub scanning-more : (keeps : Bool) (before cs : List ℕ) (c : ℕ) (nesting next : Nesting) (comma ends : Bool) → IsScanning keeps before cs nesting comma → (is_blank c && ends_field keeps c (reverse cs ++ before)) ≡ false
    → ((b : List ℕ) → IsBehind nesting b → IsBehind next (c ∷ b)) → ends ≡ (c == 44) → IsScanning keeps before (cs ++ c ∷ []) next ends
scanning-more keeps before cs c nesting next comma ends is on read comma_is =
    let P : List ℕ → Type 0 = λ b. IsBehind next b in record {
      passes = passes-push keeps before cs c is.passes on;
      nesting = subst P (sym (behind-push before cs c)) (read (reverse cs ++ before) is.nesting);
      comma = comma_is ∙ ap (λ b. slice_index b 0 == 44) (sym (behind-push before cs c));
    }

-- a scan that is at its end
pub scanned-whole : (alternate keeps : Bool) (before text : List ℕ) (scan : Scan) → IsScanning keeps before text scan.nesting scan.ends_in_comma → scan.count ≡ length text → scan.is_ended ≡ false → IsScan alternate keeps before text scan
scanned-whole alternate keeps before text scan is count ended =
    let whole : take scan.count text ≡ text = take_all scan.count text (omega (arith, count)) in
    let P : List ℕ → Type 0 = λ front. Passes keeps before front in
    let Q : List ℕ → Type 0 = λ front. IsBehind scan.nesting (reverse front ++ before) in
    let R : Bool → Type 0 = λ e. EndsAt e keeps scan.count (reverse (take scan.count text) ++ before) text in record {
      passes = subst P (sym whole) is.passes;
      fits = omega (arith, count);
      ends = subst R (sym ended) count;
      nesting = λ over. subst Q (sym whole) is.nesting;
      comma = is.comma ∙ ap (λ front. slice_index (reverse front ++ before) 0 == 44) (sym whole);
    }

pub scanned-ended : (alternate keeps : Bool) (before text front : List ℕ) (c : ℕ) (scan : Scan) → IsScanning keeps before front scan.nesting scan.ends_in_comma → front ≡ take scan.count text → scan.is_ended ≡ true
    → scan.count < length text → c ≡ get_or text scan.count c → (is_blank c && ends_field keeps c (reverse front ++ before)) ≡ true → IsScan alternate keeps before text scan
scanned-ended alternate keeps before text front c scan is whole ended within item ends =
    let P : List ℕ → Type 0 = λ front. Passes keeps before front in
    let Q : List ℕ → Type 0 = λ front. IsBehind scan.nesting (reverse front ++ before) in
    let E : List ℕ → Type 0 = λ front. (is_blank c && ends_field keeps c (reverse front ++ before)) ≡ true in
    let R : Bool → Type 0 = λ e. EndsAt e keeps scan.count (reverse (take scan.count text) ++ before) text in record {
      passes = subst P whole is.passes;
      fits = omega arith;
      ends = subst R (sym ended) (c, within, item, subst E whole ends);
      nesting = λ over. subst Q whole is.nesting;
      comma = is.comma ∙ ap (λ front. slice_index (reverse front ++ before) 0 == 44) whole;
    }
