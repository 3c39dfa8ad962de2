-- Breakpoints under the numbers of paths.
use Rattle.std.proofs.Common.{◌≡◌, ◌∙◌, ℕ, zero, suc, ◌+◌, ◌-◌, ◌<◌, Bool, true, false, cond, ◌||◌, List, [], ◌∷◌, refl, sym, ap, subst, Some, None, Option, arith, get_or, drop, length}
use Rattle.std.specs.Prelude.{◌==◌, nat_lt, position, slice_get, find, map, filter}
use Rattle.std.specs.Option.{option_map_or}
use Rattle.std.specs.Str.{bytes_eq}
use Rattle.std.proofs.lemmas.Slice.Eq.{bytes_eq-Decides}
use Rattle.std.proofs.lemmas.Bool.{false≢true, eqb-true, eq-eqb, ne_eqb, lt-ltb}
use Rattle.std.proofs.lemmas.List.Quantifiers.{position-Some}
use Rattle.std.proofs.Math.Seq.{drop-cons, drop-length}
use Rattle.std.proofs.lemmas.Option.{slice_get-get_or, slice_get_within, get_or_from_slice_get}
use Rattle.hl_base.specs.declared.place.Origin.{Origin}
use Rattle.document_store.specs.Store.{number_of}
use Rattle.document_store.specs.Shown.{PathsDiffer}
use Rattle.macro_debugger.specs.Stops.{Breaks, is_among, is_set, replaced}
use Rattle.macro_debugger.specs.Laws.{BreakpointsAreReplaced}
use Rattle.debug_sessions.specs.declared.breakpoints.PathLines.{PathLines}
use Rattle.debug_sessions.specs.Launches.{has_path, lines_of}
use Rattle.debug_sessions.specs.Inside.{from_zero, under_number, lines_set, AreNumbered}
use Rattle.debug_sessions.specs.Stops.{breaks_in, breaks_at}

-- ---- lines

-- tests of numbers answer alike where their numbers are equal alike
tests_alike : (a b c d : ℕ) → (a ≡ b → c ≡ d) → (c ≡ d → a ≡ b) → (a == b) ≡ (c == d)
tests_alike a b c d to from = by (a == b) (c == d) refl refl
  where
    by : (x y : Bool) → x ≡ (a == b) → y ≡ (c == d) → x ≡ y
    by true true p q = refl
    by false false p q = refl
    by true false p q = absurd (false≢true (q ∙ eq-eqb c d (to (eqb-true a b (sym p)))))
    by false true p q = absurd (false≢true (p ∙ eq-eqb a b (from (eqb-true c d (sym q)))))

-- a line that counts from 0 is among those that do where the line behind it is among the others
pub among_from_zero : (line : ℕ) (lines : List ℕ) → is_among line (from_zero lines) ≡ is_among (line + 1) lines
among_from_zero line [] = refl
among_from_zero line (zero ∷ ns) =
    among_from_zero line ns ∙ ap (λ b. b || is_among (line + 1) ns) (sym (ne_eqb (line + 1) 0 (λ same. omega arith)))
among_from_zero line (suc n ∷ ns) =
    ap (λ b. is_among line (map (λ n. n - 1) (cond b (suc n ∷ filter (λ n. nat_lt 0 n) ns) (filter (λ n. nat_lt 0 n) ns)))) (lt-ltb 0 (suc n) (omega arith))
    ∙ ap (λ b. b || is_among line (from_zero ns)) (tests_alike line (suc n - 1) (line + 1) (suc n) (λ same. omega arith) (λ same. omega arith))
    ∙ ap (λ b. (line + 1 == suc n) || b) (among_from_zero line ns)

-- ---- paths

-- the text of the number of a path is that path
pub text_of_number : (paths : List (List ℕ)) (path : List ℕ) (n : ℕ) → number_of paths path ≡ Some n → slice_get paths n ≡ Some path
text_of_number paths path n is =
    let found = position-Some (bytes_eq path) paths n [] is in
    let same : path ≡ get_or paths n [] = (bytes_eq-Decides path (get_or paths n [])).0 found.1 in
    slice_get-get_or paths n [] found.0 ∙ ap Some (sym same)

some_same : {X : Type 0} (x y : X) → Some x ≡ Some y → x ≡ y
some_same x y is = cc

module _ (paths : List (List ℕ)) (differ : PathsDiffer paths) (b : PathLines) (bs : List PathLines) (breaks : Breaks) (before : AreNumbered paths bs breaks) (replaces : BreakpointsAreReplaced) (at : Origin) where
  -- lines of another path change nothing there
  passes_over : (path : List ℕ) → (b.path ≡ path → ⊥) → breaks_in bs at.line path ≡ breaks_in (b ∷ bs) at.line path
  passes_over path other = by (bytes_eq b.path path) refl
    where
      by : (t : Bool) → bytes_eq b.path path ≡ t → breaks_in bs at.line path ≡ breaks_in (b ∷ bs) at.line path
      by true e = absurd (other ((bytes_eq-Decides b.path path).0 e))
      by false e = ap (λ t. is_among (at.line + 1) (option_map_or (λ (c : PathLines). c.lines) (cond t (Some b) (find (has_path path) bs)) [])) (sym e)

  -- and so it is at a statement whose path is another one, or has no text
  apart : ((path : List ℕ) → slice_get paths at.path.0 ≡ Some path → b.path ≡ path → ⊥) → is_set breaks at ≡ breaks_at paths (b ∷ bs) at
  apart other = before at ∙ by (slice_get paths at.path.0) refl
    where
      by : (found : Option (List ℕ)) → slice_get paths at.path.0 ≡ found → option_map_or (breaks_in bs at.line) found false ≡ option_map_or (breaks_in (b ∷ bs) at.line) found false
      by None e = refl
      by (Some path) e = passes_over path (other path e)

  -- at a statement of its own path they are what is set
  own : slice_get paths at.path.0 ≡ Some b.path → is_among at.line (from_zero b.lines) ≡ breaks_at paths (b ∷ bs) at
  own is =
      among_from_zero at.line b.lines
      ∙ ap (λ t. is_among (at.line + 1) (option_map_or (λ (c : PathLines). c.lines) (cond t (Some b) (find (has_path b.path) bs)) [])) (sym ((bytes_eq-Decides b.path b.path).1 refl))
      ∙ ap (λ found. option_map_or (breaks_in (b ∷ bs) at.line) found false) (sym is)

  by_number : (number : Option ℕ) → number_of paths b.path ≡ number → is_set (under_number number b breaks) at ≡ breaks_at paths (b ∷ bs) at
  by_number None none = apart (λ path found same. none_some (sym none ∙ ap (number_of paths) same ∙ differ at.path.0 path found))
    where
      none_some : {n : ℕ} → None ≡ Some n → ⊥
      none_some is = cc
  by_number (Some n) is = replaces n (from_zero b.lines) breaks at ∙ by (at.path.0 == n) refl
    where
      by : (t : Bool) → (at.path.0 == n) ≡ t → cond t (is_among at.line (from_zero b.lines)) (is_set breaks at) ≡ breaks_at paths (b ∷ bs) at
      by true e = own (ap (slice_get paths) (eqb-true at.path.0 n e) ∙ text_of_number paths b.path n is)
      by false e =
          apart (λ path found same.
          false≢true (sym e ∙ eq-eqb at.path.0 n (some_same at.path.0 n (sym (differ at.path.0 path found) ∙ ap (number_of paths) (sym same) ∙ is))))

  -- what is set under the number of one path more
  pub one_more : is_set (lines_set paths b breaks) at ≡ breaks_at paths (b ∷ bs) at
  one_more = by_number (number_of paths b.path) refl

-- where nothing is set, nothing is
pub none_numbered : (paths : List (List ℕ)) → AreNumbered paths [] []
none_numbered paths at = by (slice_get paths at.path.0)
  where
    by : (found : Option (List ℕ)) → false ≡ option_map_or (breaks_in [] at.line) found false
    by None = refl
    by (Some path) = refl

-- behind all paths nothing is set
pub none_behind : (paths : List (List ℕ)) (bs : List PathLines) (left : ℕ) (breaks : Breaks) → left ≡ length bs → breaks ≡ [] → AreNumbered paths (drop left bs) breaks
none_behind paths bs left breaks all none =
    subst (λ cs. AreNumbered paths cs breaks) (sym (ap (λ n. drop n bs) all ∙ drop-length bs))
    (λ at. ap (λ cs. is_set cs at) none ∙ none_numbered paths at)

-- one path more, of those that stand from a place on
pub set_behind : (paths : List (List ℕ)) → PathsDiffer paths → BreakpointsAreReplaced → (bs : List PathLines) (left : ℕ) (b : PathLines) (breaks new : Breaks) →
    slice_get bs left ≡ Some b → AreNumbered paths (drop (suc left) bs) breaks → new ≡ lines_set paths b breaks → AreNumbered paths (drop left bs) new
set_behind paths differ replaces bs left b breaks new at before is =
    subst (λ cs. AreNumbered paths cs new) (sym (drop_there bs left b at))
    (λ at. ap (λ cs. is_set cs at) is ∙ one_more paths differ b (drop (suc left) bs) breaks before replaces at)
  where
    drop_there : (cs : List PathLines) (n : ℕ) (c : PathLines) → slice_get cs n ≡ Some c → drop n cs ≡ c ∷ drop (suc n) cs
    drop_there cs n c at = drop-cons cs n c (slice_get_within cs n c at) ∙ ap (λ d. d ∷ drop (suc n) cs) (get_or_from_slice_get cs n c c at)
