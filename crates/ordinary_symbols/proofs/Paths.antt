-- Trying symbols in any order comes to the same in the end.
use Rattle.std.proofs.Common.{◌≡◌, ◌≢◌, ℕ, ◌⊎◌, inl, inr, Bool, true, false, cond, List, [], ◌∷◌, Option, Some, None, refl, sym, ap, subst, ◌∙◌, map, set, slice_get, position}
use Rattle.std.specs.Str.{bytes_eq}
use Rattle.std.proofs.lemmas.Bool.{cases_eq}
use Rattle.std.proofs.lemmas.List.{map-set}
use Rattle.ordinary_symbols.specs.declared.known.Known.{Known}
use Rattle.ordinary_symbols.specs.Known.{Knowledge}
use Rattle.ordinary_symbols.specs.Table.{Table, Entry, name_of, place_of, entry_at, known_at, known}
use Rattle.ordinary_symbols.specs.Rounds.{tried}
use Rattle.ordinary_symbols.proofs.Lists.{slice_get-set_same, slice_get-set_other, set-slice_get, same_at_all, slice_get-map, none_alike}
use Rattle.ordinary_symbols.proofs.Agreement.{Below}
use Rattle.ordinary_symbols.proofs.Tries.{tried-name, tried-more, tried-again, tried-known}

-- one table becomes another when some symbols are tried, one after the other
pub data Reaches (t : Table) : Table → Type 0 where
  start : Reaches t t
  then_tried : (u : Table) (k : ℕ) (e : Entry) → Reaches t u → slice_get u k ≡ Some e → Reaches t (set u k (tried (known u) e))

-- whichever symbol is tried stays
abbrev pub Closed : Table → Type 0
Closed t = (k : ℕ) (e : Entry) → slice_get t k ≡ Some e → tried (known t) e ≡ e

-- tables of the same names
abbrev pub Alike : Table → Table → Type 0
Alike t u = map name_of t ≡ map name_of u

names-tried : (u : Table) (k : ℕ) (e : Entry) (l : Knowledge) → slice_get u k ≡ Some e → Alike u (set u k (tried l e))
names-tried u k e l at =
    sym (map-set name_of u k (tried l e)
    ∙ ap (λ n. set (map name_of u) k n) (tried-name l e)
    ∙ set-slice_get (map name_of u) k (name_of e) (slice_get-map name_of u k e at))

pub reaches-alike : (t u : Table) → Reaches t u → Alike t u
reaches-alike t _ start = refl
reaches-alike t _ (then_tried u k e path at) = reaches-alike t u path ∙ names-tried u k e (known u) at

pub reaches-trans : (t u v : Table) → Reaches t u → Reaches u v → Reaches t v
reaches-trans t u _ first start = first
reaches-trans t u _ first (then_tried v k e path at) = then_tried v k e (reaches-trans t u v first path) at

place-alike : (t u : Table) (name : List ℕ) → Alike t u → place_of t name ≡ place_of u name
place-alike t u name alike = ap (position (bytes_eq name)) alike

-- what is known in one table is known in another of the same names, where each symbol of which something is known stays
below_by : (t u : Table) → Alike t u →
    ((k : ℕ) (e : Entry) (x : Known) → slice_get t k ≡ Some e → known_at (Some e) ≡ Some x → slice_get u k ≡ Some e) → Below (known t) (known u)
below_by t u alike stays name x is =
    ap (λ p. known_at (entry_at u p)) (sym (place-alike t u name alike)) ∙ at_place (place_of t name) is
  where
    at_entry : (p : ℕ) (o : Option Entry) → slice_get t p ≡ o → known_at o ≡ Some x → known_at (slice_get u p) ≡ Some x
    at_entry p None at says = absurd cc
    at_entry p (Some e) at says = ap known_at (stays p e x at says) ∙ says

    at_place : (p : Option ℕ) → known_at (entry_at t p) ≡ Some x → known_at (entry_at u p) ≡ Some x
    at_place None says = says
    at_place (Some p) says = at_entry p (slice_get t p) refl says

same_some : (e f : Entry) → Some e ≡ Some f → e ≡ f
same_some e f is = cc

-- a symbol that is tried takes nothing away from what is known
tried-below : (u : Table) (k : ℕ) (e : Entry) → slice_get u k ≡ Some e → Below (known u) (known (set u k (tried (known u) e)))
tried-below u k e at = below_by u (set u k (tried (known u) e)) (names-tried u k e (known u) at) (λ j f x there says. by j f x there says (cases_eq k j))
  where
    by : (j : ℕ) (f : Entry) (x : Known) → slice_get u j ≡ Some f → known_at (Some f) ≡ Some x → (k ≡ j) ⊎ (k ≢ j) →
        slice_get (set u k (tried (known u) e)) j ≡ Some f
    by j f x there says (inr differ) = slice_get-set_other u k j (tried (known u) e) differ ∙ there
    by j f x there says (inl same) =
        let one : e ≡ f = same_some e f (sym at ∙ ap (slice_get u) same ∙ there) in
        ap (slice_get (set u k (tried (known u) e))) (sym same)
        ∙ slice_get-set_same u k e (tried (known u) e) at
        ∙ ap Some (tried-known (known u) e x (ap (λ g. known_at (Some g)) one ∙ says) ∙ one)

-- each symbol of a table that was reached is as it was, or as it is when it is tried now
pub reached : (t u : Table) → Reaches t u → (k : ℕ) (e : Entry) → slice_get t k ≡ Some e →
    (slice_get u k ≡ Some e) ⊎ (slice_get u k ≡ Some (tried (known u) e))
reached t _ start k e at = inl at
reached t _ (then_tried u j f path there) k e at = by (cases_eq j k) (reached t u path k e at)
  where
    next : Table
    next = set u j (tried (known u) f)

    again : (tried (known u) e ≡ e) ⊎ (tried (known u) e ≡ tried (known next) e) → slice_get next k ≡ Some (tried (known u) e) →
        (slice_get next k ≡ Some e) ⊎ (slice_get next k ≡ Some (tried (known next) e))
    again (inl stays) is = inl (is ∙ ap Some stays)
    again (inr same) is = inr (is ∙ ap Some same)

    here : j ≡ k → (g : Entry) → slice_get u k ≡ Some g → slice_get next k ≡ Some (tried (known u) g)
    here same g is =
        let one : f ≡ g = same_some f g (sym there ∙ ap (slice_get u) same ∙ is) in
        ap (slice_get next) (sym same) ∙ slice_get-set_same u j f (tried (known u) f) there ∙ ap (λ h. Some (tried (known u) h)) one

    by : (j ≡ k) ⊎ (j ≢ k) → (slice_get u k ≡ Some e) ⊎ (slice_get u k ≡ Some (tried (known u) e)) →
        (slice_get next k ≡ Some e) ⊎ (slice_get next k ≡ Some (tried (known next) e))
    by (inr differ) (inl is) = inl (slice_get-set_other u j k (tried (known u) f) differ ∙ is)
    by (inr differ) (inr is) =
        again (tried-more (known u) (known next) e (tried-below u j f there)) (slice_get-set_other u j k (tried (known u) f) differ ∙ is)
    by (inl same) (inl is) = again (tried-more (known u) (known next) e (tried-below u j f there)) (here same e is)
    by (inl same) (inr is) =
        again (tried-more (known u) (known next) e (tried-below u j f there))
        (here same (tried (known u) e) is ∙ ap Some (tried-again (known u) (known u) e (λ name x known. known)))

-- in a table that is closed each symbol is as it is when it is tried
pub ended : (t u : Table) → Reaches t u → Closed u → (k : ℕ) (e : Entry) → slice_get t k ≡ Some e → slice_get u k ≡ Some (tried (known u) e)
ended t u path closed k e at = by (reached t u path k e at)
  where
    by : (slice_get u k ≡ Some e) ⊎ (slice_get u k ≡ Some (tried (known u) e)) → slice_get u k ≡ Some (tried (known u) e)
    by (inl is) = is ∙ ap Some (sym (closed k e is))
    by (inr is) = is

-- a symbol of a table that was reached comes from one that was there
origin : (t u : Table) → Reaches t u → (k : ℕ) (e : Entry) → slice_get u k ≡ Some e → (f : Entry) × (slice_get t k ≡ Some f)
origin t u path k e at = by (slice_get t k) refl
  where
    by : (o : Option Entry) → slice_get t k ≡ o → (f : Entry) × (slice_get t k ≡ Some f)
    by (Some f) is = (f, is)
    by None is =
        let never : Some e ≡ None = sym at ∙ none_alike name_of t u k (reaches-alike t u path) is in absurd cc

-- where each symbol of a table that was reached is as it was or as it will be in a closed one, nothing more is known there
pub below_end : (t end : Table) → Reaches t end → Closed end → (u : Table) → Reaches t u →
    ((k : ℕ) (e : Entry) → slice_get t k ≡ Some e → (slice_get u k ≡ Some e) ⊎ (slice_get u k ≡ Some (tried (known end) e))) → Below (known u) (known end)
below_end t end path closed u way is =
    below_by u end (sym (reaches-alike t u way) ∙ reaches-alike t end path) (λ k e x at says. by k e x at says (origin t u way k e at))
  where
    by : (k : ℕ) (e : Entry) (x : Known) → slice_get u k ≡ Some e → known_at (Some e) ≡ Some x → (f : Entry) × (slice_get t k ≡ Some f) →
        slice_get end k ≡ Some e
    by k e x at says (f, was) = cases (is k f was)
      where
        cases : (slice_get u k ≡ Some f) ⊎ (slice_get u k ≡ Some (tried (known end) f)) → slice_get end k ≡ Some e
        cases (inl same) =
            let one : e ≡ f = same_some e f (sym at ∙ same) in
            ended t end path closed k f was
            ∙ ap Some (tried-known (known end) f x (ap (λ g. known_at (Some g)) (sym one) ∙ says) ∙ sym one)
        cases (inr later) = ended t end path closed k f was ∙ sym later ∙ at

-- one more symbol is tried on the way
tried_on_the_way : (t end : Table) → Reaches t end → Closed end → (u : Table) → Reaches t u → (j : ℕ) (f : Entry) → slice_get u j ≡ Some f →
    ((k : ℕ) (e : Entry) → slice_get t k ≡ Some e → (slice_get u k ≡ Some e) ⊎ (slice_get u k ≡ Some (tried (known end) e))) →
    (k : ℕ) (e : Entry) → slice_get t k ≡ Some e →
    (slice_get (set u j (tried (known u) f)) k ≡ Some e) ⊎ (slice_get (set u j (tried (known u) f)) k ≡ Some (tried (known end) e))
tried_on_the_way t end path closed u way j f there before k e at = by (cases_eq j k) (before k e at)
  where
    below : Below (known u) (known end)
    below = below_end t end path closed u way before

    next : Table
    next = set u j (tried (known u) f)

    here : j ≡ k → (g : Entry) → slice_get u k ≡ Some g → slice_get next k ≡ Some (tried (known u) g)
    here same g is =
        let one : f ≡ g = same_some f g (sym there ∙ ap (slice_get u) same ∙ is) in
        ap (slice_get next) (sym same) ∙ slice_get-set_same u j f (tried (known u) f) there ∙ ap (λ h. Some (tried (known u) h)) one

    first : (tried (known u) e ≡ e) ⊎ (tried (known u) e ≡ tried (known end) e) → slice_get next k ≡ Some (tried (known u) e) →
        (slice_get next k ≡ Some e) ⊎ (slice_get next k ≡ Some (tried (known end) e))
    first (inl stays) is = inl (is ∙ ap Some stays)
    first (inr same) is = inr (is ∙ ap Some same)

    by : (j ≡ k) ⊎ (j ≢ k) → (slice_get u k ≡ Some e) ⊎ (slice_get u k ≡ Some (tried (known end) e)) →
        (slice_get next k ≡ Some e) ⊎ (slice_get next k ≡ Some (tried (known end) e))
    by (inr differ) (inl is) = inl (slice_get-set_other u j k (tried (known u) f) differ ∙ is)
    by (inr differ) (inr is) = inr (slice_get-set_other u j k (tried (known u) f) differ ∙ is)
    by (inl same) (inl is) = first (tried-more (known u) (known end) e below) (here same e is)
    by (inl same) (inr is) = inr (here same (tried (known end) e) is ∙ ap Some (tried-again (known u) (known end) e below))

-- On the way to a table, each symbol is as it was or as it will be in any closed table that is reached from the same one.
on_the_way : (t end : Table) → Reaches t end → Closed end → (u : Table) → Reaches t u → (k : ℕ) (e : Entry) → slice_get t k ≡ Some e →
    (slice_get u k ≡ Some e) ⊎ (slice_get u k ≡ Some (tried (known end) e))
on_the_way t end path closed _ start k e at = inl at
on_the_way t end path closed _ (then_tried u j f way there) k e at =
    tried_on_the_way t end path closed u way j f there (λ i g was. on_the_way t end path closed u way i g was) k e at

-- two closed tables that are reached from one are one
pub one_end : (t u v : Table) → Reaches t u → Closed u → Reaches t v → Closed v → u ≡ v
one_end t u v way closed path shut = same_at_all u v (λ k. by k (slice_get t k) refl)
  where
    less : Below (known u) (known v)
    less = below_end t v path shut u way (on_the_way t v path shut u way)

    more : Below (known v) (known u)
    more = below_end t u way closed v path (on_the_way t u way closed v path)

    same : (e : Entry) → (tried (known u) e ≡ e) ⊎ (tried (known u) e ≡ tried (known v) e) →
        (tried (known v) e ≡ e) ⊎ (tried (known v) e ≡ tried (known u) e) → tried (known u) e ≡ tried (known v) e
    same e (inr is) other = is
    same e (inl stays) (inl too) = stays ∙ sym too
    same e (inl stays) (inr is) = sym is

    by : (k : ℕ) (o : Option Entry) → slice_get t k ≡ o → slice_get u k ≡ slice_get v k
    by k (Some e) at =
        ended t u way closed k e at
        ∙ ap Some (same e (tried-more (known u) (known v) e less) (tried-more (known v) (known u) e more))
        ∙ sym (ended t v path shut k e at)
    by k None at = none_alike name_of t u k (reaches-alike t u way) at ∙ sym (none_alike name_of t v k (reaches-alike t v path) at)
