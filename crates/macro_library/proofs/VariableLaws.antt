-- System variables that are joined, one after the other.
use Rattle.std.proofs.Common.{◌≡◌, ◌∙◌, ◌||◌, ◌&&◌, ◌==◌, ◌-◌, ◌≤◌, ℕ, Bool, true, false, cond, not, length, take, drop, get_or, arith, List, [], ◌∷◌, refl, sym, ap}
use Rattle.std.specs.Prelude.{take_while}
use Rattle.std.specs.List.{prefix_len}
use Rattle.std.proofs.lemmas.List.{length-take, take_all, take_min}
use Rattle.statement_listing.specs.Listings.{Listed}
use Rattle.macro_library.specs.declared.variables.SystemVariables.{SystemVariables}
use Rattle.macro_library.specs.Extents.{behind}
use Rattle.macro_library.specs.Variables.{joined, named_by, named_first, named_from, none_named, variables_from}

or_same : (a b c : Bool) → a || (b || c) ≡ (a || b) || c
or_same true b c = refl
or_same false b c = refl

abbrev made : (a b c d e f : Bool) → SystemVariables
made a b c d e f = record { sysndx = a; sysect = b; syslist = c; sysmac = d; sysnest = e; sysparm = f }

made-same : (a b c d e f p q r s t u : Bool) → a ≡ p → b ≡ q → c ≡ r → d ≡ s → e ≡ t → f ≡ u → made a b c d e f ≡ made p q r s t u
made-same a b c d e f p q r s t u h i j k l m =
    ap (λ x. made x b c d e f) h ∙ ap (λ x. made p x c d e f) i ∙ ap (λ x. made p q x d e f) j
    ∙ ap (λ x. made p q r x e f) k ∙ ap (λ x. made p q r s x f) l ∙ ap (λ x. made p q r s t x) m

pub joined-assoc : (a b c : SystemVariables) → joined a (joined b c) ≡ joined (joined a b) c
joined-assoc a b c =
    made-same _ _ _ _ _ _ _ _ _ _ _ _
    (or_same a.sysndx b.sysndx c.sysndx) (or_same a.sysect b.sysect c.sysect) (or_same a.syslist b.syslist c.syslist)
    (or_same a.sysmac b.sysmac c.sysmac) (or_same a.sysnest b.sysnest c.sysnest) (or_same a.sysparm b.sysparm c.sysparm)

or_nothing : (a : Bool) → a || false ≡ a
or_nothing true = refl
or_nothing false = refl

pub joined-none : (a : SystemVariables) → joined a none_named ≡ a
joined-none a =
    made-same _ _ _ _ _ _ _ _ _ _ _ _
    (or_nothing a.sysndx) (or_nothing a.sysect) (or_nothing a.syslist) (or_nothing a.sysmac) (or_nothing a.sysnest) (or_nothing a.sysparm)

next-by : (b : Bool) (so_far next first others : SystemVariables) → next ≡ cond (true && not b) (joined so_far first) so_far →
    joined so_far (cond b others (joined first others)) ≡ joined next others
next-by true so_far next first others is = ap (λ n. joined n others) (sym is)
next-by false so_far next first others is = joined-assoc so_far first others ∙ ap (λ n. joined n others) (sym is)

-- one character more
pub named_from-next : (so_far next : SystemVariables) (after : Bool) (c : ℕ) (left rest : List ℕ) → left ≡ c ∷ rest →
    next ≡ cond (after && not (c == 38)) (joined so_far (named_first left)) so_far →
    joined so_far (named_from left after) ≡ joined next (named_from rest (not after && (c == 38)))
named_from-next so_far next false c left rest is named =
    ap (λ l. joined so_far (named_from l false)) is ∙ ap (λ n. joined n (named_from rest (c == 38))) (sym named)
named_from-next so_far next true c left rest is named =
    ap (λ l. joined so_far (named_from l true)) is
    ∙ next-by (c == 38) so_far next (named_first (c ∷ rest)) (named_from rest false)
    (named ∙ ap (λ l. cond (true && not (c == 38)) (joined so_far (named_first l)) so_far) is)

-- no character more
pub named_from-none : (so_far : SystemVariables) (after : Bool) (left : List ℕ) → left ≡ [] → joined so_far (named_from left after) ≡ so_far
named_from-none so_far after left is = ap (λ l. joined so_far (named_from l after)) is ∙ joined-none so_far

-- a line
pub variables_from-next : (so_far : SystemVariables) (begun next : ℕ) (one : Listed) (rest : List Listed) (named : SystemVariables) →
    named ≡ cond (begun == 0) (named_by one.statement) none_named → next ≡ behind begun one →
    joined so_far (variables_from begun (one ∷ rest)) ≡ joined (joined so_far named) (variables_from next rest)
variables_from-next so_far begun next one rest named is passed =
    joined-assoc so_far (cond (begun == 0) (named_by one.statement) none_named) (variables_from (behind begun one) rest)
    ∙ ap (λ v. joined (joined so_far v) (variables_from (behind begun one) rest)) (sym is)
    ∙ ap (λ n. joined (joined so_far named) (variables_from n rest)) (sym passed)

-- the characters that pass are as many from the front
pub take-take_while : (test : ℕ → Bool) (xs : List ℕ) → take (length (take_while test xs)) xs ≡ take_while test xs
take-take_while test xs = ap (λ k. take k xs) (length-take (prefix_len test xs) xs) ∙ take_min (prefix_len test xs) xs

-- a list that has a first line
pub split-first : (left : List Listed) (one : Listed) (n : ℕ) → 1 ≤ length left → one ≡ get_or left 0 one → n ≡ length left →
    left ≡ one ∷ take (n - 1) (drop 1 left)
split-first [] one n some is count = absurd (omega arith)
split-first (x ∷ xs) one n some is count =
    let less : n - 1 ≡ length xs = omega arith in
    ap (λ l. l ∷ xs) (sym is) ∙ ap (λ ls. one ∷ ls) (sym (ap (λ k. take k xs) less ∙ take_all (length xs) xs (omega arith)))

-- a line more
pub variables_from-step : (whole so_far named next : SystemVariables) (begun passed : ℕ) (one : Listed) (left rest : List Listed) →
    left ≡ one ∷ rest → whole ≡ joined so_far (variables_from begun left) → named ≡ cond (begun == 0) (named_by one.statement) none_named →
    passed ≡ behind begun one → next ≡ joined so_far named → whole ≡ joined next (variables_from passed rest)
variables_from-step whole so_far named next begun passed one left rest is so named_is passed_is next_is =
    so
    ∙ ap (λ ls. joined so_far (variables_from begun ls)) is
    ∙ variables_from-next so_far begun passed one rest named named_is passed_is
    ∙ ap (λ n. joined n (variables_from passed rest)) (sym next_is)
