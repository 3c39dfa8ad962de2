-- How the values of texts make those of all entries of a call.
use Rattle.std.proofs.Common.{◌≡◌, ◌∙◌, refl, ◌+◌, ◌<◌, ◌≤◌, suc, length, get_or, drop, drop-cons, add-one, ℕ, List, [], ◌∷◌, ◌++◌, Option, Some, None, sym, ap, append_assoc, append-nil, Result, Ok, Err}
use Rattle.std.specs.Prelude.{option_map}
use Rattle.std.proofs.Math.ListN.{drop_of_length-le}
use Rattle.hl_base.specs.declared.note.Note.{Note}
use Rattle.cond_expr.specs.declared.stop.Stop.{Stop}
use Rattle.cond_expr.specs.declared.stop.Stop.TheVariants.{Asked, OutOfMemory}
use Rattle.cond_expr.specs.Outcome.{Outcome, Gives, Asks, gives, and_then, Tells}
use Rattle.cond_expr.proofs.OutcomeLemmas.{Tells-stop}
use Rattle.cond_expr.specs.Told.{Told}
use Rattle.macro_operands.specs.Calling.{value, and_others, values}

some-same : {A : Type 0} (x y : A) → Some x ≡ Some y → x ≡ y
some-same x y e = cc

-- these values, and then others
abbrev pub behind : List (List ℕ) → Outcome (Option (List (List ℕ))) → Outcome (Option (List (List ℕ)))
behind done outcome = and_then outcome (λ found. gives (option_map (λ texts. done ++ texts) found))

-- one value, and then those behind it
abbrev pub one_of : Outcome (Option (List ℕ)) → Outcome (Option (List (List ℕ))) → Outcome (Option (List (List ℕ)))
one_of one others = and_then one (λ found. and_others found others)

-- behind no value
pub tells-all : (o : Outcome (Option (List (List ℕ)))) (before after : List Note) (r : Result (Option (List (List ℕ))) Stop) → Tells (behind [] o) before after r → Tells o before after r
tells-all (Gives None ns) before after (Ok w) t = (t.0, t.1 ∙ ap (λ more. before ++ more) (append-nil ns))
tells-all (Gives (Some v) ns) before after (Ok w) t = (t.0, t.1 ∙ ap (λ more. before ++ more) (append-nil ns))
tells-all (Gives v ns) before after (Err (Asked key)) t = absurd t
tells-all (Gives v ns) before after (Err OutOfMemory) t = tt
tells-all (Asks key) before after (Ok w) t = t
tells-all (Asks key) before after (Err (Asked other)) t = t
tells-all (Asks key) before after (Err OutOfMemory) t = tt

-- notes of two parts, one behind the other
notes-joined : (before ns ms middle after : List Note) → middle ≡ before ++ ns → after ≡ middle ++ (ms ++ []) → after ≡ before ++ ((ns ++ (ms ++ [])) ++ [])
notes-joined before ns ms middle after first second =
    second ∙ ap (λ notes. notes ++ (ms ++ [])) first ∙ append_assoc before ns (ms ++ []) ∙ ap (λ more. before ++ more) (sym (append-nil (ns ++ (ms ++ []))))

pub tells-more : (one : Outcome (Option (List ℕ))) (others : Outcome (Option (List (List ℕ)))) (done : List (List ℕ)) (text : List ℕ) (before middle after : List Note) (r : Result (Option (List (List ℕ))) Stop) →
    Tells one before middle (Ok (Some text)) → Tells (behind (done ++ text ∷ []) others) middle after r → Tells (behind done (one_of one others)) before after r
tells-more (Asks key) others done text before middle after r first t = absurd first
tells-more (Gives None ns) others done text before middle after r first t = cc
tells-more (Gives (Some u) ns) (Asks key) done text before middle after (Ok w) first t = t
tells-more (Gives (Some u) ns) (Asks key) done text before middle after (Err (Asked other)) first t = t
tells-more (Gives (Some u) ns) (Asks key) done text before middle after (Err OutOfMemory) first t = tt
tells-more (Gives (Some u) ns) (Gives v ms) done text before middle after (Err (Asked key)) first t = absurd t
tells-more (Gives (Some u) ns) (Gives v ms) done text before middle after (Err OutOfMemory) first t = tt
tells-more (Gives (Some u) ns) (Gives None ms) done text before middle after (Ok w) first t = (t.0, notes-joined before ns ms middle after first.1 t.1)
tells-more (Gives (Some u) ns) (Gives (Some s) ms) done text before middle after (Ok w) first t = (
  t.0 ∙ ap Some (append_assoc done (text ∷ []) s ∙ ap (λ front. done ++ (front ∷ s)) (some-same text u first.0)),
  notes-joined before ns ms middle after first.1 t.1,
)

-- the first that cannot be read
pub tells-none : (one : Outcome (Option (List ℕ))) (others : Outcome (Option (List (List ℕ)))) (done : List (List ℕ)) (before after : List Note) →
    Tells one before after (Ok None) → Tells (behind done (one_of one others)) before after (Ok None)
tells-none (Asks key) others done before after first = absurd first
tells-none (Gives (Some u) ns) others done before after first = cc
tells-none (Gives None ns) others done before after first =
    (refl, first.1 ∙ ap (λ more. before ++ more) (sym (append-nil ns)) ∙ ap (λ more. before ++ more) (sym (append-nil (ns ++ []))))

-- the first that stops
pub tells-stop : (one : Outcome (Option (List ℕ))) (others : Outcome (Option (List (List ℕ)))) (done : List (List ℕ)) (before middle after : List Note) (stop : Stop) →
    Tells one before middle (Err stop) → Tells (behind done (one_of one others)) before after (Err stop)
tells-stop one others done before middle after stop first =
    Tells-stop (one_of one others) (λ found. gives (option_map (λ texts. done ++ texts) found)) before middle after stop (Tells-stop one (λ found. and_others found others) before middle middle stop first)

-- none is left
pub tells-end : (done : List (List ℕ)) (notes : List Note) → Tells (behind done (gives (Some []))) notes notes (Ok (Some done))
tells-end done notes = (ap Some (sym (append-nil done)), sym (append-nil notes))

-- one of some texts, and then those behind it
pub values-at : (texts : List (List ℕ)) (i : ℕ) (one : List ℕ) (told : Told) → i < length texts → one ≡ get_or texts i one →
    values (drop i texts) told ≡ one_of (value one told) (values (drop (i + 1) texts) told)
values-at texts i one told h is =
    ap (λ ts. values ts told) (drop-cons texts i one h ∙ ap (λ t. t ∷ drop (suc i) texts) (sym is))
    ∙ ap (λ k. one_of (value one told) (values (drop k texts) told)) (sym (add-one i))

-- past the last there is none
pub values-past : (texts : List (List ℕ)) (i : ℕ) (told : Told) → length texts ≤ i → values (drop i texts) told ≡ gives (Some [])
values-past texts i told h = ap (λ ts. values ts told) (drop_of_length-le texts h)
