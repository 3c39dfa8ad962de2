-- Paths below the root, by what begins a text.
use Rattle.std.proofs.Common.{◌≡◌, ◌≢◌, ◌∙◌, ℕ, Bool, true, false, List, [], ◌∷◌, ◌++◌, length, drop, refl, sym, ap, subst, Option, Some, None, lit<}
use Rattle.std.specs.Prelude.{◌==◌, slice_get, chars, IsUtf8, encode_utf8_all}
use Rattle.std.specs.Option.{option_map, option_copied, MatchOption}
use Rattle.std.specs.Slice.{IsItemAt}
use Rattle.std.specs.Borrow.{Bor}
use Rattle.std.specs.Str.Pattern.{StripsPrefix, FindsTextPrefix, FindsCharPrefix}
use Rattle.std.proofs.lemmas.Str.Pattern.{strip_prefix_char}
use Rattle.std.proofs.lemmas.Bool.{eq-eqb, eqb-true, cond-true, cond-false}
use Rattle.std.proofs.lemmas.Option.{none-some, slice_get_past, slice_get-get_or}
use Rattle.std.proofs.lemmas.Str.{IsUtf8-drop, chars-append, encodes-chars, encodes-append}
use Rattle.member_paths.specs.Paths.{slash}
use Rattle.member_paths.proofs.PathLaws.{chars-slash, slash_utf8}
use Rattle.library_folders.specs.Folders.{behind}

eqb-same : (c : ℕ) → (c == c) ≡ true
eqb-same c = eq-eqb c c refl

-- a text behind another
pub behind-append : (front rest : List ℕ) → behind front (front ++ rest) ≡ Some rest
behind-append [] rest = refl
behind-append (c ∷ front) rest = cond-true (c == c) (behind front (front ++ rest)) None (eqb-same c) ∙ behind-append front rest

pub behind-Some : (front text rest : List ℕ) → behind front text ≡ Some rest → text ≡ front ++ rest
behind-Some [] text rest e = cc
behind-Some (c ∷ front) [] rest e = absurd (none-some rest e)
behind-Some (c ∷ front) (d ∷ text) rest e = by (c == d) refl (λ found. behind-Some front text rest found)
  where
    by : (b : Bool) → (c == d) ≡ b → (behind front text ≡ Some rest → text ≡ front ++ rest) → d ∷ text ≡ c ∷ (front ++ rest)
    by true same more =
        let is : c ≡ d = eqb-true c d same in
        let found : behind front text ≡ Some rest = sym (cond-true (c == d) (behind front text) None same) ∙ e in
        ap (λ k. k ∷ text) (sym is) ∙ ap (λ ys. c ∷ ys) (more found)
    by false other more =
        let nothing : None ≡ Some rest = sym (cond-false (c == d) (behind front text) None other) ∙ e in
        absurd (none-some rest nothing)

-- the characters behind the front of a text
pub behind-text : (front text rest : List ℕ) → IsUtf8 front → text ≡ front ++ rest → behind (chars front) (chars text) ≡ Some (chars rest)
behind-text front text rest u e =
    ap (λ bytes. behind (chars front) (chars bytes)) e
    ∙ ap (behind (chars front)) (chars-append front rest u)
    ∙ behind-append (chars front) (chars rest)

-- nothing stands behind what is no front of the text
pub behind-other : (front text : List ℕ) → IsUtf8 front → IsUtf8 text → ((rest : List ℕ) → text ≢ front ++ rest) → behind (chars front) (chars text) ≡ None
behind-other front text u v none = by (behind (chars front) (chars text)) refl
  where
    by : (found : Option (List ℕ)) → behind (chars front) (chars text) ≡ found → behind (chars front) (chars text) ≡ None
    by None e = e
    by (Some rest) e =
        let whole : chars text ≡ chars front ++ rest = behind-Some (chars front) (chars text) rest e in
        absurd (none (encode_utf8_all rest) (
        sym (encodes-chars text v)
        ∙ ap encode_utf8_all whole
        ∙ encodes-append (chars front) rest
        ∙ ap (λ bytes. bytes ++ encode_utf8_all rest) (encodes-chars front u)))

-- ---- what the calls that cut a text say

-- the text behind its front
pub behind-stripped : (front text rest : List ℕ) → IsUtf8 front → StripsPrefix (FindsTextPrefix front) text rest → behind (chars front) (chars text) ≡ Some (chars rest)
behind-stripped front text rest u cut =
    behind-text front text rest u (cut.1.1 ∙ ap (λ bytes. front ++ bytes) (sym cut.2))

pub utf8-stripped : (front text rest : List ℕ) → IsUtf8 text → StripsPrefix (FindsTextPrefix front) text rest → IsUtf8 rest
utf8-stripped front text rest u cut =
    subst IsUtf8 (sym (cut.2 ∙ ap (λ k. drop k text) cut.1.0)) (IsUtf8-drop text (length front) u cut.1.2)

-- what stands behind the `/` with which a text begins
abbrev pub slash_first : List ℕ → Option (List ℕ)
slash_first text = behind (slash ∷ []) text

pub slash-taken : (text : List ℕ) (taken : Option (Bor (List ℕ))) → IsUtf8 text → MatchOption taken ((rest : List ℕ) → text ≢ slash ∷ rest) (λ x. text ≡ slash ∷ x.now) →
    option_map (λ (below : Bor (List ℕ)). chars below.now) taken ≡ slash_first (chars text)
slash-taken text None u none =
    sym (ap (λ front. behind front (chars text)) (sym chars-slash) ∙ behind-other (slash ∷ []) text slash_utf8 u none)
slash-taken text (Some rest) u whole =
    sym (ap (λ front. behind front (chars text)) (sym chars-slash) ∙ behind-text (slash ∷ []) text rest.now slash_utf8 whole)

pub slash-stripped : (text : List ℕ) (taken : Option (Bor (List ℕ))) → IsUtf8 text → MatchOption taken (FindsCharPrefix slash text None) (λ x. StripsPrefix (FindsCharPrefix slash) text x.now) →
    option_map (λ (below : Bor (List ℕ)). chars below.now) taken ≡ slash_first (chars text)
slash-stripped text taken u cut = slash-taken text taken u (strip_prefix_char slash text taken cut (lit< tt))

-- ---- a group by its place

-- what a call that reads at a place gives
pub read_at : {X : Type 0} (xs : List X) (i : ℕ) (read : Option (Bor X)) → IsItemAt xs i read → option_copied read ≡ slice_get xs i
read_at xs i None h = sym (slice_get_past xs i h.3)
read_at xs i (Some x) h = sym (slice_get-get_or xs i x.now h.3.0 ∙ ap Some (sym (h.3.1 x.now)))
