-- The global symbols that are declared, and the values that are shown of them.
use Rattle.std.proofs.Common.{◌≡◌, ◌==◌, ℕ, ◌<◌, Bool, true, false, ◌&&◌, ◌||◌, cond, if◌then◌else◌, nat_lt, List, [], ◌∷◌, map, refl, sym, ap, ◌∙◌, arith}
use Rattle.std.proofs.Math.Path.{fun_ext}
use Rattle.std.specs.Bool.{beq}
use Rattle.std.specs.List.{flat_map, list_any}
use Rattle.std.specs.Ordering.{nat_cmp, is_eq, match_ordering, ordering_then}
use Rattle.std.specs.declared.cmp.Ordering.{Ordering}
use Rattle.std.specs.declared.cmp.Ordering.TheVariants.{Less, Equal, Greater}
use Rattle.std.specs.Cmp.Lexicographic.{slice_cmp}
use Rattle.std.specs.BTreeMap.{is_at}
use Rattle.std.specs.BTreeSet.{insert_key}
use Rattle.std.specs.Str.{bytes_eq}
use Rattle.std.proofs.lemmas.Bool.{false≢true, ltb-true, ne_eqb}
use Rattle.std.proofs.lemmas.Map.Lookups.{exact_bytes, exact_unsigned}
use Rattle.std.proofs.lemmas.Map.Text.{is_eq-slice_cmp}
use Rattle.hl_base.specs.declared.set.Declaration.{Declaration}
use Rattle.hl_base.specs.declared.set.SetKind.{SetKind}
use Rattle.hl_base.specs.declared.set.SetKind.TheVariants.{A, B, C}
use Rattle.hl_base.specs.declared.set.SetValue.{SetValue}
use Rattle.trace_values.specs.declared.item.TraceItem.{TraceItem}
use Rattle.trace_variables.specs.declared.key.Key.{Key}
use Rattle.trace_variables.specs.Values.{VariableKey, place_of, key_order}
use Rattle.trace_variables.specs.Variables.{makes_known, is_known}
use Rattle.trace_variables.specs.Seen.{seen_key, symbol_of, declared_symbol, noted, all_noted, is_among}

map_match : {X Y : Type 0} (f : X → Y) (o : Ordering) (a b c : List X) →
    map f (match_ordering o a b c) ≡ match_ordering o (map f a) (map f b) (map f c)
map_match f Less a b c = refl
map_match f Equal a b c = refl
map_match f Greater a b c = refl

-- keys as contracts see them
module _ (R : Key → Key → Ordering) (same : (x y : Key) → R x y ≡ key_order (seen_key x) (seen_key y)) where
  pub insert_seen : (ks : List Key) (key : Key) → map seen_key (insert_key R ks key) ≡ insert_key key_order (map seen_key ks) (seen_key key)
  insert_seen [] key = refl
  insert_seen (k ∷ ks) key =
      ap (λ o. map seen_key (match_ordering o (key ∷ k ∷ ks) (k ∷ ks) (k ∷ insert_key R ks key))) (same key k)
      ∙ map_match seen_key (key_order (seen_key key) (seen_key k)) (key ∷ k ∷ ks) (k ∷ ks) (k ∷ insert_key R ks key)
      ∙ ap (λ t. match_ordering (key_order (seen_key key) (seen_key k)) (seen_key key ∷ seen_key k ∷ map seen_key ks)
      (seen_key k ∷ map seen_key ks) (seen_key k ∷ t)) (insert_seen ks key)

  pub any_seen : (ks : List Key) (key : Key) → list_any (is_at (R key)) ks ≡ list_any (is_at (key_order (seen_key key))) (map seen_key ks)
  any_seen [] key = refl
  any_seen (k ∷ ks) key =
      ap (λ o. is_eq o || list_any (is_at (R key)) ks) (same key k)
      ∙ ap (λ b. is_eq (key_order (seen_key key) (seen_key k)) || b) (any_seen ks key)

-- keys at one place in the order are one key
then_first : (o p : Ordering) → ordering_then o p ≡ Equal → o ≡ Equal
then_first Less p e = e
then_first Equal p e = refl
then_first Greater p e = e

then_last : (o p : Ordering) → ordering_then o p ≡ Equal → p ≡ Equal
then_last Less p e = absurd (false≢true (ap is_eq e))
then_last Equal p e = e
then_last Greater p e = absurd (false≢true (ap is_eq e))

one_kind : (a b : SetKind) → place_of a ≡ place_of b → a ≡ b
one_kind A A e = refl
one_kind A B e = absurd (omega (arith, e))
one_kind A C e = absurd (omega (arith, e))
one_kind B A e = absurd (omega (arith, e))
one_kind B B e = refl
one_kind B C e = absurd (omega (arith, e))
one_kind C A e = absurd (omega (arith, e))
one_kind C B e = absurd (omega (arith, e))
one_kind C C e = refl

one_key : (a b : VariableKey) → key_order a b ≡ Equal → a ≡ b
one_key a b e =
    let kinds = nat_cmp (place_of a.kind) (place_of b.kind) in
    let elements = nat_cmp a.element b.element in
    let later : ordering_then kinds elements ≡ Equal = then_last (slice_cmp nat_cmp a.name b.name) (ordering_then kinds elements) e in
    let name : a.name ≡ b.name =
    exact_bytes a.name b.name (then_first (slice_cmp nat_cmp a.name b.name) (ordering_then kinds elements) e) in
    let kind : a.kind ≡ b.kind =
    one_kind a.kind b.kind (exact_unsigned (place_of a.kind) (place_of b.kind) (then_first kinds elements later)) in
    let element : a.element ≡ b.element = exact_unsigned a.element b.element (then_last kinds elements later) in
    λ i. record { name = name i; kind = kind i; element = element i }

-- what three cases of an order have alike
by_cases : {X : Type 0} (P : X → Type 0) (o : Ordering) (less same more : X) → P less → (o ≡ Equal → P same) → P more →
    P (match_ordering o less same more)
by_cases P Less less same more a b c = a
by_cases P Equal less same more a b c = b refl
by_cases P Greater less same more a b c = c

or_same : (b c r : Bool) → b ≡ c → (c || r) ≡ (b || (c || r))
or_same true c r e = ap (λ d. d || r) (sym e)
or_same false c r e = refl

or_swap : (b c r : Bool) → (b || (c || r)) ≡ (c || (b || r))
or_swap true true r = refl
or_swap true false r = refl
or_swap false c r = refl

among_put : (test : VariableKey → Bool) (ks : List VariableKey) (k : VariableKey) →
    list_any test (insert_key key_order ks k) ≡ (test k || list_any test ks)
among_put test [] k = refl
among_put test (x ∷ xs) k =
    by_cases (λ (ls : List VariableKey). list_any test ls ≡ (test k || (test x || list_any test xs)))
    (key_order k x) (k ∷ x ∷ xs) (x ∷ xs) (x ∷ insert_key key_order xs k) refl
    (λ same. or_same (test k) (test x) (list_any test xs) (ap test (one_key k x same)))
    (ap (λ r. test x || r) (among_put test xs k) ∙ or_swap (test x) (test k) (list_any test xs))

-- the symbol of an element is declared
by_order : (less same : Bool) → (less ≡ true → same ≡ false) → is_eq (cond less Less (cond same Equal Greater)) ≡ same
by_order true same apart = sym (apart refl)
by_order false true apart = refl
by_order false false apart = refl

same_number : (a b : ℕ) → is_eq (nat_cmp a b) ≡ (a == b)
same_number a b =
    by_order (nat_lt a b) (a == b) (λ less. let lt : a < b = ltb-true a b less in ne_eqb a b (λ same. omega arith))

both_equal : (o p : Ordering) → is_eq (ordering_then o p) ≡ (is_eq o && is_eq p)
both_equal Less p = refl
both_equal Equal p = refl
both_equal Greater p = refl

same_bits : (b c : Bool) → ((if b then 1 else 0) == (if c then 1 else 0)) ≡ beq b c
same_bits true true = refl
same_bits true false = refl
same_bits false true = refl
same_bits false false = refl

same_symbol : (key : VariableKey) (d : Declaration) → is_at (key_order (symbol_of key)) (declared_symbol d)
    ≡ (bytes_eq key.name d.name && ((place_of key.kind == place_of d.kind) && beq (nat_lt 0 key.element) d.array))
same_symbol key d =
    let element = (if nat_lt 0 key.element then 1 else 0) in
    let other = (if d.array then 1 else 0) in
    let kinds = nat_cmp (place_of key.kind) (place_of d.kind) in
    both_equal (slice_cmp nat_cmp key.name d.name) (ordering_then kinds (nat_cmp element other))
    ∙ ap (λ b. b && is_eq (ordering_then kinds (nat_cmp element other))) (is_eq-slice_cmp key.name d.name)
    ∙ ap (λ b. bytes_eq key.name d.name && b)
    (both_equal kinds (nat_cmp element other)
    ∙ ap (λ b. b && is_eq (nat_cmp element other)) (same_number (place_of key.kind) (place_of d.kind))
    ∙ ap (λ b. (place_of key.kind == place_of d.kind) && b) (same_number element other ∙ same_bits (nat_lt 0 key.element) d.array))

noted_or_not : (global : Bool) (test : VariableKey → Bool) (ks : List VariableKey) (k : VariableKey) →
    list_any test (if global then insert_key key_order ks k else ks) ≡ ((global && test k) || list_any test ks)
noted_or_not true test ks k = among_put test ks k
noted_or_not false test ks k = refl

or_move : (a b c : Bool) → (a || (b || c)) ≡ ((b || a) || c)
or_move true true c = refl
or_move true false c = refl
or_move false true c = refl
or_move false false c = refl

or_none : (b : Bool) → (b || false) ≡ b
or_none true = refl
or_none false = refl

all_known : (key : VariableKey) (ks : List VariableKey) (ds : List Declaration) →
    list_any (is_at (key_order (symbol_of key))) (all_noted ks ds)
    ≡ (list_any (makes_known key) ds || list_any (is_at (key_order (symbol_of key))) ks)
all_known key ks [] = refl
all_known key ks (d ∷ ds) =
    let test = is_at (key_order (symbol_of key)) in
    all_known key (noted ks d) ds
    ∙ ap (λ b. list_any (makes_known key) ds || b)
    (noted_or_not d.global test ks (declared_symbol d) ∙ ap (λ b. (d.global && b) || list_any test ks) (same_symbol key d))
    ∙ or_move (list_any (makes_known key) ds) (makes_known key d) (list_any test ks)

pub known_is : (symbols : List VariableKey) (items : List TraceItem) → symbols ≡ all_noted [] (flat_map (λ item. item.declared) items) →
    is_among symbols ≡ is_known items
known_is symbols items e =
    ap (λ ks. is_among ks) e
    ∙ fun_ext (λ (entry : VariableKey × SetValue). all_known entry.0 [] (flat_map (λ item. item.declared) items)
    ∙ or_none (list_any (makes_known entry.0) (flat_map (λ item. item.declared) items)))
