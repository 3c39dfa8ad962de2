-- What stands in parentheses behind a displacement, and how far it can be read.
use Rattle.std.proofs.Common.{◌≡◌, ◌∙◌, ℕ, zero, suc, ◌+◌, ◌<◌, ◌≤◌, ◌==◌, ◌&&◌, Bool, true, false, List, [], ◌∷◌, ◌++◌, length, take, drop, refl, sym, ap, subst, arith, append_assoc, append-nil}
use Rattle.std.specs.Prelude.{Option, Some, None, Result, Ok, Err, IsTrue, if◌then◌else◌}
use Rattle.std.proofs.lemmas.Bool.{false≢true, eqb-true, eq-eqb}
use Rattle.std.proofs.lemmas.List.{length-take-le}
use Rattle.std.proofs.Math.ListN.{drop_of_length-le}
use Rattle.expression_grammar.specs.declared.character.Grammar.TheVariants.{Ordinary}
use Rattle.expression_grammar.specs.Readings.{Front, read, read_front}
use Rattle.expression_grammar.specs.Spelling.{Spells, IsViable, most_parts}
use Rattle.expression_grammar.specs.Trees.{Tree}
use Rattle.expression_grammar.specs.Reading.{Want}
use Rattle.expression_grammar.proofs.Finds.{reaches-start, reaches-viable, take-all}
use Rattle.constant_grammar.specs.Elements.{tree_in}
use Rattle.machine_operands.specs.declared.form.AddressForm.{AddressForm}
use Rattle.machine_operands.specs.declared.form.AddressForm.TheVariants.{Based}
use Rattle.machine_operands.specs.Forms.{has_two, may_omit_first}
use Rattle.machine_operands.specs.Parts.{Parts, last_by, last, with_base, alone, with_first, two_by, two, given_by, given, omitted, parts_by, parts}
use Rattle.operand_laws.specs.Right.{IsOrdinary, IsInner, one, second, both, IsEnclosed, IsBegun, IsLongest}
use Rattle.operand_laws.proofs.Ends.{closes, parts as parts_at, viable, viable_front, same_ends, starts_comma, stops_at}
use Rattle.operand_laws.proofs.Lists.{Split, inside, beyond, split, seen, nil-not, rejoin}
use Rattle.operand_laws.proofs.Longest.{lifted, nothing_follows}
use Rattle.operand_laws.proofs.Readers.{tree_some, tree_there, IsClosedFront, front_ok, IsOpenFront, front_err}

-- Texts of which no part ends.

-- nothing that ends is at the front of a text, and so far some expression goes
pub record IsBlocked (form : AddressForm) (text : List ℕ) (at : ℕ) : Type 0 where
  pub reached : IsOpenFront text at
  pub no_two : IsTrue (has_two form) → (d z : List ℕ) → text ≡ d ++ 44 ∷ z → IsOrdinary d → ⊥
  pub no_omitted : IsTrue (may_omit_first form) → (z : List ℕ) → text ≡ 44 ∷ z → ⊥

blocked-none : (form : AddressForm) (text : List ℕ) (at : ℕ) → IsBlocked form text at → (inner : List ℕ) → text ≡ inner ++ 41 ∷ [] → IsInner form inner → ⊥
blocked-none form text at k inner ends (one o) = k.reached.never inner [] ends o
blocked-none form text at k inner ends (second t base is o) = k.no_omitted t (base ++ 41 ∷ []) (ends ∙ ap (λ l. l ++ 41 ∷ []) is)
blocked-none form text at k inner ends (both t first base is of ob) =
    k.no_two t first (base ++ 41 ∷ []) (ends ∙ ap (λ l. l ++ 41 ∷ []) is ∙ append_assoc first (44 ∷ base) (41 ∷ [])) of

-- a front that is longer than some expression goes, before a character of a right text
pub crossed : (text : List ℕ) (more : ℕ) → (IsViable (Spells Ordinary) most_parts (take more text) → ⊥) → (r f w : List ℕ) (c : ℕ) → IsOrdinary f →
    ((z : List ℕ) → text ≡ f ++ c ∷ z → ⊥) → take more text ++ r ≡ f ++ c ∷ w → ⊥
crossed text more far r f w c o never h = by (split (take more text) r f (c ∷ w) h)
  where
    by : Split (take more text) r f (c ∷ w) → ⊥
    by (inside e p q) = far (viable_front (take more text) e (subst (IsViable (Spells Ordinary) most_parts) p (viable f o)))
    by (beyond x e p q) =
        let same : x ≡ c = cc in
        never (e ++ drop more text) (seen text (take more text) (drop more text) f e x c (rejoin text more) p same)

-- a text that is not empty, whose front begins with a comma
first-comma : (text : List ℕ) (more : ℕ) → 0 < more → more ≤ length text → ((z : List ℕ) → text ≡ 44 ∷ z → ⊥) → (r w : List ℕ) → take more text ++ r ≡ 44 ∷ w → ⊥
first-comma text zero h le never r w e = absurd (omega arith)
first-comma [] (suc k) h le never r w e = absurd (omega arith)
first-comma (x ∷ text) (suc k) h le never r w e = let same : x ≡ 44 = cc in never text (ap (λ y. y ∷ text) same)

blocked-longest : (form : AddressForm) (text : List ℕ) (at : ℕ) → IsBlocked form text at → (more : ℕ) → at < more → more ≤ length text → (r inner : List ℕ) →
    take more text ++ r ≡ inner ++ 41 ∷ [] → IsInner form inner → ⊥
blocked-longest form text at k more h le r inner ends (one o) =
    crossed text more (k.reached.longest more h le) r inner [] 41 o (λ z is. k.reached.never inner z is o) ends
blocked-longest form text at k more h le r inner ends (second t base is o) =
    first-comma text more (omega arith) le (k.no_omitted t) r (base ++ 41 ∷ []) (ends ∙ ap (λ l. l ++ 41 ∷ []) is)
blocked-longest form text at k more h le r inner ends (both t first base is of ob) =
    crossed text more (k.reached.longest more h le) r first (base ++ 41 ∷ []) 44 of (λ z there. k.no_two t first z there of)
    (ends ∙ ap (λ l. l ++ 41 ∷ []) is ∙ append_assoc first (44 ∷ base) (41 ∷ []))

pub blocked : (form : AddressForm) (text : List ℕ) (at : ℕ) → IsBlocked form text at → IsLongest (IsEnclosed form) text at
blocked form text at k =
    let begun = k.reached.begun in
    record {
      within = k.reached.within;
      begun = record {
        rest = begun.rest ++ 41 ∷ [];
        right = record {
          inner = take at text ++ begun.rest;
          ends = sym (append_assoc (take at text) begun.rest (41 ∷ []));
          fits = one (record { tree = begun.tree; expression = begun.expression });
        };
      };
      longest = λ more h le b. let right = b.right in blocked-longest form text at k more h le b.rest right.inner right.ends right.fits;
      none = λ right. blocked-none form text at k right.inner right.ends right.fits;
    }

-- Texts of which the front ends, and more stands behind it.

closed-into : (form : AddressForm) (d : List ℕ) → IsOrdinary d → (w : List ℕ) → w ≡ [] → IsEnclosed form ((d ++ 41 ∷ []) ++ w)
closed-into form d o w e = record { inner = d; ends = ap (λ l. (d ++ 41 ∷ []) ++ l) e ∙ append-nil (d ++ 41 ∷ []); fits = one o }

closed-out : (form : AddressForm) (d w inner : List ℕ) → IsOrdinary d → d ++ 41 ∷ w ≡ inner ++ 41 ∷ [] → IsInner form inner → w ≡ []
closed-out form d w inner o h (one other) = (same_ends d inner 41 41 w [] o other (closes refl) (closes refl) h).rest
closed-out form d w inner o h (second t base is ob) = absurd (starts_comma d o 41 w (base ++ 41 ∷ []) (h ∙ ap (λ l. l ++ 41 ∷ []) is))
closed-out form d w inner o h (both t first base is of ob) =
    let s = same_ends d first 41 44 w (base ++ 41 ∷ []) o of (closes refl) (parts_at refl)
    (h ∙ ap (λ l. l ++ 41 ∷ []) is ∙ append_assoc first (44 ∷ base) (41 ∷ [])) in
    let never = s.character in absurd (omega arith)

length-one : (d : List ℕ) (c : ℕ) → length (d ++ c ∷ []) ≡ length d + 1
length-one [] c = refl
length-one (x ∷ d) c = let r = length-one d c in omega arith

pub closed_longest : (form : AddressForm) (d z : List ℕ) → IsOrdinary d → (z ≡ [] → ⊥) → IsLongest (IsEnclosed form) (d ++ 41 ∷ z) (length d + 1)
closed_longest form d z o some =
    let all = lifted (λ w. w ≡ []) (IsEnclosed form) (d ++ 41 ∷ []) z 0 (closed-into form d o)
    (λ w right. closed-out form d w right.inner o (sym (append_assoc d (41 ∷ []) w) ∙ right.ends) right.fits) (nothing_follows z some) in
    let counted = length-one d 41 in
    let count : length (d ++ 41 ∷ []) + 0 ≡ length d + 1 = omega arith in
    subst (λ (n : ℕ). IsLongest (IsEnclosed form) (d ++ 41 ∷ z) n) count
    (subst (λ (l : List ℕ). IsLongest (IsEnclosed form) l (length (d ++ 41 ∷ []) + 0)) (append_assoc d (41 ∷ []) z) all)

-- The last expression.

-- so many characters behind others, and how far a text can be read
pub record IsWrong (form : AddressForm) (count : ℕ) (text : List ℕ) (n : ℕ) : Type 0 where
  pub more : ℕ
  pub sum : n ≡ count + more
  pub longest : IsLongest (IsEnclosed form) text more

abbrev pub FindsLast : ℕ → List ℕ → Result Tree ℕ → Type 0
FindsLast count text (Ok tree) = IsEnclosed Based text
FindsLast count text (Err n) = IsWrong Based count text n

ended : (text : List ℕ) (before : ℕ) → IsClosedFront text before → before + 1 ≡ length text → (form : AddressForm) → IsEnclosed form text
ended text before k end form =
    let nothing : drop (suc before) text ≡ [] = drop_of_length-le text {i = suc before} (omega arith) in
    record { inner = take before text; ends = k.cut.parts ∙ ap (λ l. take before text ++ 41 ∷ l) nothing; fits = one k.front }

not-ended : (text : List ℕ) (before : ℕ) → IsClosedFront text before → (before + 1 ≡ length text → ⊥) → (form : AddressForm) →
    IsLongest (IsEnclosed form) text (before + 1)
not-ended text before k reached form =
    let d = take before text in
    let z = drop (suc before) text in
    let cut = k.cut in
    let count = cut.count in
    let some : z ≡ [] → ⊥ = λ e. reached (
    let whole : text ≡ d ++ 41 ∷ [] = cut.parts ∙ ap (λ l. d ++ 41 ∷ l) e in
    let size : length text ≡ length d + 1 = ap length whole ∙ length-one d 41 in omega arith) in
    subst (λ (l : List ℕ). IsLongest (IsEnclosed form) l (before + 1)) (sym cut.parts)
    (subst (λ (n : ℕ). IsLongest (IsEnclosed form) (d ++ 41 ∷ z) (n + 1)) count (closed_longest form d z k.front some))

closed-last : (count : ℕ) (text : List ℕ) (front : Front) → IsClosedFront text front.before → (b : Bool) → ((front.before + 1) == length text) ≡ b →
    FindsLast count text (if b then Ok front.tree else Err (count + (front.before + 1)))
closed-last count text front k true e = ended text front.before k (eqb-true (front.before + 1) (length text) e) Based
closed-last count text front k false e = record {
  more = front.before + 1;
  sum = refl;
  longest = not-ended text front.before k (λ same. false≢true (sym e ∙ eq-eqb (front.before + 1) (length text) same)) Based;
}

last-by : (count : ℕ) (text : List ℕ) (found : Result Front ℕ) → read_front Ordinary text ≡ found → FindsLast count text (last_by count text found)
last-by count text (Ok front) e = closed-last count text front (front_ok text front e) ((front.before + 1) == length text) refl
last-by count text (Err at) e = record {
  more = at;
  sum = refl;
  longest = blocked Based text at (record {
    reached = front_err text at e;
    no_two = λ t. absurd (false≢true t);
    no_omitted = λ t. absurd (false≢true t);
  });
}

pub last_finds : (count : ℕ) (text : List ℕ) → FindsLast count text (last count text)
unfolding last
last_finds count text = last-by count text (read_front Ordinary text) refl

-- All forms.

abbrev pub FindsParts : AddressForm → ℕ → List ℕ → Result Parts ℕ → Type 0
FindsParts form count text (Ok found) = IsEnclosed form text
FindsParts form count text (Err n) = IsWrong form count text n

-- what is enclosed where one expression alone may stand
based-one : (w : List ℕ) → IsEnclosed Based w → (inner : List ℕ) × (w ≡ inner ++ 41 ∷ []) × IsOrdinary inner
based-one w right = (right.inner, right.ends, by right.fits)
  where
    by : IsInner Based right.inner → IsOrdinary right.inner
    by (one o) = o
    by (second t base is o) = absurd (false≢true t)
    by (both t first base is of ob) = absurd (false≢true t)

-- behind an expression and a comma
two-into : (form : AddressForm) (f : List ℕ) → IsOrdinary f → IsTrue (has_two form) → (w : List ℕ) → IsEnclosed Based w → IsEnclosed form ((f ++ 44 ∷ []) ++ w)
two-into form f of t w right =
    let k = based-one w right in
    record {
      inner = f ++ 44 ∷ k.0;
      ends = append_assoc f (44 ∷ []) w ∙ ap (λ l. f ++ 44 ∷ l) k.1 ∙ sym (append_assoc f (44 ∷ k.0) (41 ∷ []));
      fits = both t f k.0 refl of k.2;
    }

two-out : (form : AddressForm) (f w inner : List ℕ) → IsOrdinary f → f ++ 44 ∷ w ≡ inner ++ 41 ∷ [] → IsInner form inner → IsEnclosed Based w
two-out form f w inner of h (one o) =
    let s = same_ends f inner 44 41 w [] of o (parts_at refl) (closes refl) h in
    let never = s.character in absurd (omega arith)
two-out form f w inner of h (second t base is o) = absurd (starts_comma f of 44 w (base ++ 41 ∷ []) (h ∙ ap (λ l. l ++ 41 ∷ []) is))
two-out form f w inner of h (both t first base is og ob) =
    let s = same_ends f first 44 44 w (base ++ 41 ∷ []) of og (parts_at refl) (parts_at refl)
    (h ∙ ap (λ l. l ++ 41 ∷ []) is ∙ append_assoc first (44 ∷ base) (41 ∷ [])) in
    record { inner = base; ends = s.rest; fits = one ob }

two-longest : (form : AddressForm) (f z : List ℕ) (m : ℕ) → IsOrdinary f → IsTrue (has_two form) → IsLongest (IsEnclosed Based) z m →
    IsLongest (IsEnclosed form) (f ++ 44 ∷ z) ((length f + 1) + m)
two-longest form f z m of t inner =
    let all = lifted (IsEnclosed Based) (IsEnclosed form) (f ++ 44 ∷ []) z m (two-into form f of t)
    (λ w right. two-out form f w right.inner of (sym (append_assoc f (44 ∷ []) w) ∙ right.ends) right.fits) inner in
    subst (λ (n : ℕ). IsLongest (IsEnclosed form) (f ++ 44 ∷ z) (n + m)) (length-one f 44)
    (subst (λ (l : List ℕ). IsLongest (IsEnclosed form) l (length (f ++ 44 ∷ []) + m)) (append_assoc f (44 ∷ []) z) all)

-- where two expressions are found
two-found : (form : AddressForm) (count at : ℕ) (text rest : List ℕ) → length (take at text) ≡ at → text ≡ take at text ++ 44 ∷ rest →
    IsOrdinary (take at text) → IsTrue (has_two form) → (first : Tree) (base : Result Tree ℕ) → FindsLast ((count + at) + 1) rest base →
    FindsParts form count text (with_base (Some first) base)
two-found form count at text rest size is o t first (Ok base) f =
    subst (IsEnclosed form) (append_assoc (take at text) (44 ∷ []) rest ∙ sym is) (two-into form (take at text) o t rest f)
two-found form count at text rest size is o t first (Err n) f =
    let m = f.more in
    let sum = f.sum in
    record {
      more = (at + 1) + m;
      sum = omega arith;
      longest = subst (λ (l : List ℕ). IsLongest (IsEnclosed form) l ((at + 1) + m)) (sym is)
          (subst (λ (n : ℕ). IsLongest (IsEnclosed form) (take at text ++ 44 ∷ rest) ((n + 1) + m)) size
          (two-longest form (take at text) rest m o t f.longest));
    }

-- where no two expressions are found
stuck : (form : AddressForm) (count : ℕ) (text : List ℕ) (at : ℕ) → IsOpenFront text at →
    (IsTrue (may_omit_first form) → (z : List ℕ) → text ≡ 44 ∷ z → ⊥) →
    (IsTrue (has_two form) → (z : List ℕ) → drop at text ≡ 44 ∷ z → IsOrdinary (take at text) → ⊥) → IsWrong form count text (count + at)
stuck form count text at reached no_omitted no_two = record {
  more = at;
  sum = refl;
  longest = blocked form text at (record {
    reached = reached;
    no_two = λ t d z is o.
        let there : at ≡ length d = stops_at text at reached.begun reached.longest d 44 z is o (parts_at refl) in
        let front : take at text ≡ d = ap (λ n. take n text) there ∙ ap (take (length d)) is ∙ take-all d (44 ∷ z) in
        let behind : drop at text ≡ 44 ∷ z = ap (λ n. drop n text) there ∙ ap (drop (length d)) is ∙ drop-all d (44 ∷ z) in
        no_two t z behind (subst IsOrdinary (sym front) o);
    no_omitted = no_omitted;
  });
}
  where
    drop-all : (d rest : List ℕ) → drop (length d) (d ++ rest) ≡ rest
    drop-all [] rest = refl
    drop-all (x ∷ d) rest = drop-all d rest

with-first : (form : AddressForm) (count at : ℕ) (text rest : List ℕ) → IsOpenFront text at → (IsTrue (may_omit_first form) → (z : List ℕ) → text ≡ 44 ∷ z → ⊥) →
    drop at text ≡ 44 ∷ rest → IsTrue (has_two form) → (found : Option Tree) → tree_in (read Ordinary (take at text)) ≡ found →
    FindsParts form count text (with_first found count at rest)
with-first form count at text rest reached no_omitted is t None none =
    stuck form count text at reached no_omitted (λ u z there o. tree_some (take at text) o none)
with-first form count at text rest reached no_omitted is t (Some first) some =
    two-found form count at text rest (length-take-le at text reached.within) (rejoin text at ∙ ap (λ l. take at text ++ l) is)
    (tree_there (take at text) first some) t first (last ((count + at) + 1) rest) (last_finds ((count + at) + 1) rest)

and-both : (a b : Bool) → (a && b) ≡ true → (a ≡ true) × (b ≡ true)
and-both true b h = (refl, h)
and-both false b h = absurd (false≢true h)

both-and : (a b : Bool) → a ≡ true → b ≡ true → (a && b) ≡ true
both-and a b ha hb = cc

two-at : (form : AddressForm) (count at : ℕ) (text : List ℕ) (c : ℕ) (rest : List ℕ) → IsOpenFront text at →
    (IsTrue (may_omit_first form) → (z : List ℕ) → text ≡ 44 ∷ z → ⊥) → drop at text ≡ c ∷ rest → (b : Bool) → ((c == 44) && has_two form) ≡ b →
    FindsParts form count text (if b then with_first (tree_in (read Ordinary (take at text))) count at rest else Err (count + at))
two-at form count at text c rest reached no_omitted is true e =
    let k = and-both (c == 44) (has_two form) e in
    with-first form count at text rest reached no_omitted (is ∙ ap (λ y. y ∷ rest) (eqb-true c 44 k.0)) k.1
    (tree_in (read Ordinary (take at text))) refl
two-at form count at text c rest reached no_omitted is false e =
    stuck form count text at reached no_omitted (λ t z there o.
    let same : c ≡ 44 = let head : c ∷ rest ≡ 44 ∷ z = sym is ∙ there in cc in
    false≢true (sym e ∙ both-and (c == 44) (has_two form) (eq-eqb c 44 same) t))

two-by : (form : AddressForm) (count at : ℕ) (text : List ℕ) → IsOpenFront text at → (IsTrue (may_omit_first form) → (z : List ℕ) → text ≡ 44 ∷ z → ⊥) →
    (left : List ℕ) → drop at text ≡ left → FindsParts form count text (two_by form count text at left)
two-by form count at text reached no_omitted [] is = stuck form count text at reached no_omitted (λ t z there o. let never : [] ≡ 44 ∷ z = sym is ∙ there in cc)
two-by form count at text reached no_omitted (c ∷ rest) is = two-at form count at text c rest reached no_omitted is ((c == 44) && has_two form) refl

closed-given : (form : AddressForm) (count : ℕ) (text : List ℕ) (front : Front) → IsClosedFront text front.before → (b : Bool) →
    ((front.before + 1) == length text) ≡ b → FindsParts form count text (alone form (if b then Ok front.tree else Err (count + (front.before + 1))))
closed-given form count text front k true e = ended text front.before k (eqb-true (front.before + 1) (length text) e) form
closed-given form count text front k false e = record {
  more = front.before + 1;
  sum = refl;
  longest = not-ended text front.before k (λ same. false≢true (sym e ∙ eq-eqb (front.before + 1) (length text) same)) form;
}

given-by : (form : AddressForm) (count : ℕ) (text : List ℕ) → (IsTrue (may_omit_first form) → (z : List ℕ) → text ≡ 44 ∷ z → ⊥) →
    (found : Result Front ℕ) → read_front Ordinary text ≡ found → FindsParts form count text (given_by form count text found)
unfolding two
given-by form count text no_omitted (Ok front) e = closed-given form count text front (front_ok text front e) ((front.before + 1) == length text) refl
given-by form count text no_omitted (Err at) e = two-by form count at text (front_err text at e) no_omitted (drop at text) refl

given-finds : (form : AddressForm) (count : ℕ) (text : List ℕ) → (IsTrue (may_omit_first form) → (z : List ℕ) → text ≡ 44 ∷ z → ⊥) →
    FindsParts form count text (given form count text)
unfolding given
given-finds form count text no_omitted = given-by form count text no_omitted (read_front Ordinary text) refl

-- where the first of two is left away
omitted-into : (form : AddressForm) → IsTrue (may_omit_first form) → (w : List ℕ) → IsEnclosed Based w → IsEnclosed form ((44 ∷ []) ++ w)
omitted-into form t w right =
    let k = based-one w right in
    record { inner = 44 ∷ k.0; ends = ap (λ l. 44 ∷ l) k.1; fits = second t k.0 refl k.2 }

omitted-out : (form : AddressForm) (w inner : List ℕ) → 44 ∷ w ≡ inner ++ 41 ∷ [] → IsInner form inner → IsEnclosed Based w
omitted-out form w inner h (one o) = absurd (starts_comma inner o 41 [] w (sym h))
omitted-out form w inner h (second t base is o) =
    let whole : 44 ∷ w ≡ 44 ∷ (base ++ 41 ∷ []) = h ∙ ap (λ l. l ++ 41 ∷ []) is in
    let rest : w ≡ base ++ 41 ∷ [] = cc in
    record { inner = base; ends = rest; fits = one o }
omitted-out form w inner h (both t first base is of ob) =
    absurd (starts_comma first of 44 (base ++ 41 ∷ []) w (sym (h ∙ ap (λ l. l ++ 41 ∷ []) is ∙ append_assoc first (44 ∷ base) (41 ∷ []))))

omitted-by : (form : AddressForm) (count : ℕ) (rest : List ℕ) → IsTrue (may_omit_first form) → (base : Result Tree ℕ) → FindsLast (count + 1) rest base →
    FindsParts form count (44 ∷ rest) (with_base None base)
omitted-by form count rest t (Ok base) f = omitted-into form t rest f
omitted-by form count rest t (Err n) f =
    let m = f.more in
    let sum = f.sum in
    record {
      more = 1 + m;
      sum = omega arith;
      longest = lifted (IsEnclosed Based) (IsEnclosed form) (44 ∷ []) rest m (omitted-into form t)
          (λ w right. omitted-out form w right.inner right.ends right.fits) f.longest;
    }

parts-at : (form : AddressForm) (count c : ℕ) (rest : List ℕ) → (b : Bool) → ((c == 44) && may_omit_first form) ≡ b →
    FindsParts form count (c ∷ rest) (if b then omitted count rest else given form count (c ∷ rest))
parts-at form count c rest true e =
    let k = and-both (c == 44) (may_omit_first form) e in
    subst (λ (y : ℕ). FindsParts form count (y ∷ rest) (omitted count rest)) (sym (eqb-true c 44 k.0))
    (omitted-by form count rest k.1 (last (count + 1) rest) (last_finds (count + 1) rest))
parts-at form count c rest false e =
    given-finds form count (c ∷ rest) (λ t z is.
    let same : c ≡ 44 = cc in false≢true (sym e ∙ both-and (c == 44) (may_omit_first form) (eq-eqb c 44 same) t))

-- the empty text
empty-reached : IsOpenFront [] 0
empty-reached = record {
  within = omega arith;
  begun = reaches-viable Ordinary most_parts [] (Want []) (reaches-start Ordinary most_parts (omega arith));
  longest = λ more h le v. absurd (omega arith);
  never = λ d z is o. nil-not d z 41 is;
}

parts-by : (form : AddressForm) (count : ℕ) (text left : List ℕ) → text ≡ left → FindsParts form count text (parts_by form count text left)
parts-by form count text [] e =
    subst (λ (l : List ℕ). FindsParts form count l (Err count)) (sym e) (record {
      more = 0;
      sum = omega arith;
      longest = blocked form [] 0 (record {
        reached = empty-reached;
        no_two = λ t d z is o. nil-not d z 44 is;
        no_omitted = λ t z is. nil-not [] z 44 is;
      });
    })
parts-by form count text (c ∷ rest) e =
    subst (λ (l : List ℕ). FindsParts form count l (parts_by form count l (c ∷ rest))) (sym e)
    (parts-at form count c rest ((c == 44) && may_omit_first form) refl)

pub parts_finds : (form : AddressForm) (count : ℕ) (text : List ℕ) → FindsParts form count text (parts form count text)
unfolding parts
parts_finds form count text = parts-by form count text text refl

-- something right begins so
pub some_enclosed : (form : AddressForm) → IsBegun (IsEnclosed form) []
some_enclosed form =
    let begun = empty-reached.begun in
    record {
      rest = begun.rest ++ 41 ∷ [];
      right = record { inner = begun.rest; ends = refl; fits = one (record { tree = begun.tree; expression = begun.expression }) };
    }
