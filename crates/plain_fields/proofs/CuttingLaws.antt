-- How a field in which no comma stands behind the first apostrophe is cut on.
use Rattle.std.proofs.Common.{◌≡◌, ◌∙◌, ℕ, zero, suc, ◌+◌, ◌<◌, ◌≤◌, Bool, true, false, cond, List, [], ◌∷◌, ◌++◌, length, take, drop, get_or, refl, sym, ap, subst, arith}
use Rattle.std.specs.Prelude.{not, ◌&&◌, ◌==◌, chars, Result, Ok, Err, IfOk}
use Rattle.std.specs.List.{list_all, onto_first, prefix_len}
use Rattle.std.specs.Str.{IsAscii}
use Rattle.std.proofs.lemmas.Str.{chars-IsAscii}
use Rattle.std.proofs.lemmas.List.{at_drop_more, get_or-take, length-take-le, take-append-drop}
use Rattle.std.proofs.lemmas.List.Sums.{prefix_len-le-length}
use Rattle.hl_base.specs.Quoting as quoting
use Rattle.hl_base.specs.Quoting.{is_quoted, depth}
use Rattle.operand_list.specs.Split.{is_separator, parts, operands_of, with_front, whole_parts}
use Rattle.operand_list.proofs.SplitLaws.{with_front-nil, operands-some}
use Rattle.plain_fields.specs.declared.state.Cutting.{Cutting}
use Rattle.plain_fields.specs.Cutting.{is_no_comma, is_plain, IsBehind, IsCut, part_of, left_of}

plain_first : (c : ℕ) (cs : List ℕ) → list_all is_plain (c ∷ cs) ≡ true → (c == 39) ≡ false
plain_first c cs all = grind arith

plain_others : (c : ℕ) (cs : List ℕ) → list_all is_plain (c ∷ cs) ≡ true → list_all is_plain cs ≡ true
plain_others c cs all = grind arith

-- nothing is quoted where no apostrophe stands before it
pub unquoted : (c : ℕ) (before : List ℕ) → list_all is_plain before ≡ true → is_quoted c before ≡ false
unquoted c [] all = refl
unquoted c (last ∷ before) all =
    let rest = unquoted last before (plain_others last before all) in
    let first = plain_first last before all in
    grind (arith, rest, first)

-- so many parentheses are open behind one more
pub depth_more : (c : ℕ) (before : List ℕ) → list_all is_plain before ≡ true → depth (c ∷ before) ≡ quoting.depth_outside (depth before) c
depth_more c before all = ap (λ b. cond b (depth before) (quoting.depth_outside (depth before) c)) (unquoted c before all)

pub plain_more : (c : ℕ) (before : List ℕ) → (c == 39) ≡ false → list_all is_plain before ≡ true → list_all is_plain (c ∷ before) ≡ true
plain_more c before first others = grind (arith, first, others)

pub behind_more : (level behind c : ℕ) (before : List ℕ) → IsBehind level before → (c == 39) ≡ false → behind ≡ quoting.depth_outside level c → IsBehind behind (c ∷ before)
behind_more level behind c before is first more = record {
  plain = plain_more c before first is.plain;
  counted = more ∙ ap (λ d. quoting.depth_outside d c) is.counted ∙ sym (depth_more c before is.plain);
}

-- which commas separate
pub separator : (level c : ℕ) (before : List ℕ) → IsBehind level before → is_separator 0 c before ≡ ((c == 44) && (level == 0))
separator level c before is =
    ap (λ b. (c == 44) && ((depth before == 0) && not b)) (unquoted c before is.plain)
    ∙ ap (λ d. (c == 44) && ((d == 0) && true)) (sym is.counted)
    ∙ (let same : (c == 44) && ((level == 0) && true) ≡ ((c == 44) && (level == 0)) = grind arith in same)

-- a comma that separates leaves as many parentheses open
pub separator-stays : (level c : ℕ) (before : List ℕ) → IsBehind level before → (c == 39) ≡ false → ((c == 44) && (level == 0)) ≡ true → IsBehind level (c ∷ before)
separator-stays level c before is plain comma =
    let stays : level ≡ quoting.depth_outside level c = grind (arith, comma) in
    behind_more level level c before is plain stays

-- ---- the whole field

pub cut-init : (cutting : Cutting) (text : List ℕ) → cutting.depth ≡ 0 → cutting.done ≡ [] → cutting.count ≡ 0 → chars cutting.from.now ≡ text → IsCut cutting text (parts 0 [] text)
cut-init cutting text depth done count from = record {
  before = [];
  behind = record { plain = refl; counted = depth };
  left = ap (λ n. drop n (chars cutting.from.now)) count ∙ from;
  same =
      ap (λ d. d ++ with_front (part_of cutting) (parts 0 [] text)) done
      ∙ ap (λ n. with_front (take n (chars cutting.from.now)) (parts 0 [] text)) count
      ∙ with_front-nil 0 [] text;
}

-- one character is read
abbrev pub Reads : Cutting → Cutting → ℕ → Type 0
Reads old new c =
    (before left : List ℕ) → IsBehind old.depth before → left_of old ≡ c ∷ left → (c == 39) ≡ false →
    IsBehind new.depth (c ∷ before) × (left_of new ≡ left)
    × ((rest : List ℕ) → whole_parts 0 new.done (part_of new) (c ∷ before) rest ≡ whole_parts 0 old.done (part_of old) before (c ∷ rest))

plain-at : (text : List ℕ) (n : ℕ) → list_all is_plain text ≡ true → n < length text → (get_or text n 0 == 39) ≡ false
plain-at [] n plain within = absurd (omega (arith, within))
plain-at (x ∷ text) zero plain within = plain_first x text plain
plain-at (x ∷ text) (suc n) plain within = plain-at text n (plain_others x text plain) (omega (arith, within))

at_within : (text : List ℕ) (n : ℕ) → n < length text → get_or text n 0 ≡ get_or text n (get_or text n 0)
at_within [] n within = absurd (omega (arith, within))
at_within (x ∷ text) zero within = refl
at_within (x ∷ text) (suc n) within = at_within text n (omega (arith, within))

cut-more : (old new : Cutting) (text : List ℕ) (n m c : ℕ) (whole : List (List ℕ)) → IsCut old (drop n text) whole → (c == 39) ≡ false → n < length text → c ≡ get_or text n c → m ≡ n + 1 → Reads old new c → IsCut new (drop m text) whole
cut-more old new text n m c whole cut plain within at next reads =
    let here : drop n text ≡ c ∷ drop m text = at_drop_more (λ rest. rest) text n c within ∙ ap (λ x. x ∷ drop (n + 1) text) (sym at) ∙ ap (λ k. c ∷ drop k text) (sym next) in
    let step = reads cut.before (drop m text) cut.behind (cut.left ∙ here) plain in
    record {
      before = c ∷ cut.before;
      behind = step.0;
      left = step.1;
      same = step.2 (drop m text) ∙ ap (whole_parts 0 old.done (part_of old) cut.before) (sym here) ∙ cut.same;
    }

-- one more of so many characters at the front of a text, none of which is an apostrophe
pub cut-next : (old new : Cutting) (text : List ℕ) (n end c : ℕ) (whole : List (List ℕ)) → IsCut old (drop n text) whole → list_all is_plain (take end text) ≡ true → n < end → end ≤ length text →
    c ≡ get_or (take end text) n 0 → Reads old new c → IsCut new (drop (n + 1) text) whole
cut-next old new text n end c whole cut plain before within is reads =
    let long = length-take-le end text within in
    let unquoted : (get_or (take end text) n 0 == 39) ≡ false = plain-at (take end text) n plain (omega (arith, before, long)) in
    let same : c ≡ get_or text n 0 = is ∙ get_or-take end text n 0 before in
    let inside : n < length text = omega (arith, before, within) in
    cut-more old new text n (n + 1) c whole cut (ap (λ x. x == 39) is ∙ unquoted) inside
    (same ∙ at_within text n inside ∙ ap (get_or text n) (sym same)) refl reads

-- no character before the first apostrophe is one
before_first : (p : ℕ → Bool) (text : List ℕ) → list_all p (take (prefix_len p text) text) ≡ true
before_first p [] = refl
before_first p (x ∷ text) = by (p x) refl (before_first p text)
  where
    by : (b : Bool) → p x ≡ b → list_all p (take (prefix_len p text) text) ≡ true → list_all p (take (prefix_len p (x ∷ text)) (x ∷ text)) ≡ true
    by true is others =
        let more : 1 + prefix_len p text ≡ suc (prefix_len p text) = omega arith in
        ap (λ b. list_all p (take (cond b (1 + prefix_len p text) 0) (x ∷ text))) is
        ∙ ap (λ k. list_all p (take k (x ∷ text))) more
        ∙ ap (λ b. b && list_all p (take (prefix_len p text) text)) is
        ∙ others
    by false is others = ap (λ b. list_all p (take (cond b (1 + prefix_len p text) 0) (x ∷ text))) is

pub first_plain : (text : List ℕ) (count : ℕ) → count ≡ prefix_len is_plain text → list_all is_plain (take count text) ≡ true
first_plain text count is = ap (λ n. list_all is_plain (take n text)) is ∙ before_first is_plain text

pub first_within : (text : List ℕ) (count : ℕ) → count ≡ prefix_len is_plain text → count ≤ length text
first_within text count is = subst (λ n. n ≤ length text) (sym is) (prefix_len-le-length is_plain text)

-- ---- what is left where no comma is

comma_first : (c : ℕ) (cs : List ℕ) → list_all is_no_comma (c ∷ cs) ≡ true → (c == 44) ≡ false
comma_first c cs all = grind arith

comma_others : (c : ℕ) (cs : List ℕ) → list_all is_no_comma (c ∷ cs) ≡ true → list_all is_no_comma cs ≡ true
comma_others c cs all = grind arith

-- a text without a comma is not cut, whatever stands before it
pub parts-single : (before text : List ℕ) → list_all is_no_comma text ≡ true → parts 0 before text ≡ text ∷ []
parts-single before [] all = refl
parts-single before (c ∷ text) all =
    let none : is_separator 0 c before ≡ false = ap (λ b. b && ((depth before == 0) && not (is_quoted c before))) (comma_first c text all) in
    ap (λ b. cond b ([] ∷ parts 0 (c ∷ before) text) (onto_first c (parts 0 (c ∷ before) text))) none
    ∙ ap (onto_first c) (parts-single (c ∷ before) text (comma_others c text all))

pub operands_of-ascii : (text : List ℕ) → IsAscii text → 0 < length text → parts 0 [] text ≡ operands_of (chars text)
operands_of-ascii text ascii some = operands-some text some ∙ ap operands_of (sym (chars-IsAscii text ascii))

pub IfOk-map : {T E : Type 0} {P Q : T → Type 0} (r : Result T E) → ((x : T) → P x → Q x) → IfOk r P → IfOk r Q
IfOk-map (Ok x) f h = f x h
IfOk-map (Err e) f h = h

-- all that is left is the last text
pub cut-end : (cutting : Cutting) (texts whole : List (List ℕ)) (rest : List ℕ) → IsCut cutting rest whole → list_all is_no_comma rest ≡ true →
    texts ≡ cutting.done ++ chars cutting.from.now ∷ [] → texts ≡ whole
cut-end cutting texts whole rest cut single is =
    let all : part_of cutting ++ rest ≡ chars cutting.from.now =
    ap (λ left. part_of cutting ++ left) (sym cut.left) ∙ take-append-drop cutting.count (chars cutting.from.now) in
    is ∙ ap (λ p. cutting.done ++ p ∷ []) (sym all)
    ∙ ap (λ ps. cutting.done ++ with_front (part_of cutting) ps) (sym (parts-single cut.before rest single))
    ∙ cut.same
