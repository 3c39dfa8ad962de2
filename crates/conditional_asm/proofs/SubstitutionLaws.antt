-- How the texts of pieces make that of a field.
use Rattle.std.proofs.Common.{◌≡◌, ◌∙◌, ◌+◌, ◌<◌, ◌≤◌, suc, length, get_or, drop, drop-cons, add-one, ℕ, List, [], ◌∷◌, ◌++◌, sym, ap, append_assoc, append-nil, Result, Ok, Err}
use Rattle.std.specs.Prelude.{map}
use Rattle.hl_base.specs.declared.note.Note.{Note}
use Rattle.std.proofs.Math.ListN.{drop_of_length-le}
use Rattle.cond_expr.specs.declared.stop.Stop.{Stop}
use Rattle.cond_expr.specs.declared.stop.Stop.TheVariants.{Asked, OutOfMemory}
use Rattle.cond_expr.specs.Outcome.{Outcome, Gives, Asks, gives, and_then, Tells}
use Rattle.cond_expr.proofs.OutcomeLemmas.{Tells-stop}
use Rattle.cond_expr.specs.Told.{Told}
use Rattle.conditional_fields.specs.declared.template.Piece.{Piece}
use Rattle.statement_reading.specs.Views.{part_of}
use Rattle.conditional_asm.specs.Substitution.{substituted, part_text}

-- a text, and then what is told
abbrev pub behind_text : List ℕ → Outcome (List ℕ) → Outcome (List ℕ)
behind_text done outcome = and_then outcome (λ rest. gives (done ++ rest))

-- behind no text
pub tells-all : (o : Outcome (List ℕ)) (before after : List Note) (r : Result (List ℕ) Stop) → Tells (behind_text [] o) before after r → Tells o before after r
tells-all (Gives v ns) before after (Ok w) t = (t.0, t.1 ∙ ap (λ more. before ++ more) (append-nil ns))
tells-all (Gives v ns) before after (Err (Asked key)) t = t
tells-all (Gives v ns) before after (Err OutOfMemory) t = tt
tells-all (Asks key) before after (Ok w) t = t
tells-all (Asks key) before after (Err (Asked other)) t = t
tells-all (Asks key) before after (Err OutOfMemory) t = tt

-- one text, and then those behind it
abbrev pub then_others : Outcome (List ℕ) → Outcome (List ℕ) → Outcome (List ℕ)
then_others one others = and_then one (λ text. and_then others (λ rest. gives (text ++ rest)))

pub tells-more : (one others : Outcome (List ℕ)) (done text : List ℕ) (before middle after : List Note) (r : Result (List ℕ) Stop) → Tells one before middle (Ok text) →
    Tells (behind_text (done ++ text) others) middle after r → Tells (behind_text done (then_others one others)) before after r
tells-more (Asks key) others done text before middle after r first t = absurd first
tells-more (Gives u ns) (Asks key) done text before middle after (Ok w) first t = t
tells-more (Gives u ns) (Asks key) done text before middle after (Err (Asked other)) first t = t
tells-more (Gives u ns) (Asks key) done text before middle after (Err OutOfMemory) first t = tt
tells-more (Gives u ns) (Gives s ms) done text before middle after (Err (Asked key)) first t = t
tells-more (Gives u ns) (Gives s ms) done text before middle after (Err OutOfMemory) first t = tt
tells-more (Gives u ns) (Gives s ms) done text before middle after (Ok w) first t = (
  t.0 ∙ append_assoc done text s ∙ ap (λ front. done ++ (front ++ s)) first.0,
  t.1 ∙ ap (λ notes. notes ++ (ms ++ [])) first.1 ∙ append_assoc before ns (ms ++ []) ∙ ap (λ more. before ++ more) (sym (append-nil (ns ++ (ms ++ [])))),
)

-- the first that stops
pub tells-stop : (one others : Outcome (List ℕ)) (done : List ℕ) (before middle after : List Note) (stop : Stop) → Tells one before middle (Err stop) →
    Tells (behind_text done (then_others one others)) before after (Err stop)
tells-stop one others done before middle after stop first =
    Tells-stop (then_others one others) (λ rest. gives (done ++ rest)) before middle after stop (Tells-stop one (λ text. and_then others (λ rest. gives (text ++ rest))) before middle middle stop first)

-- none is left
pub tells-end : (done : List ℕ) (notes : List Note) → Tells (behind_text done (gives [])) notes notes (Ok done)
tells-end done notes = (sym (append-nil done), sym (append-nil notes))

-- one of some pieces, and then those behind it
pub substituted-at : (pieces : List Piece) (i : ℕ) (one : Piece) (told : Told) → i < length pieces → one ≡ get_or pieces i one →
    substituted (map part_of (drop i pieces)) told ≡ then_others (part_text (part_of one) told) (substituted (map part_of (drop (i + 1) pieces)) told)
substituted-at pieces i one told h is =
    ap (λ ps. substituted (map part_of ps) told) (drop-cons pieces i one h ∙ ap (λ p. p ∷ drop (suc i) pieces) (sym is))
    ∙ ap (λ k. then_others (part_text (part_of one) told) (substituted (map part_of (drop k pieces)) told)) (sym (add-one i))

-- past the last there is none
pub substituted-past : (pieces : List Piece) (i : ℕ) (told : Told) → length pieces ≤ i → substituted (map part_of (drop i pieces)) told ≡ gives []
substituted-past pieces i told h = ap (λ ps. substituted (map part_of ps) told) (drop_of_length-le pieces h)
