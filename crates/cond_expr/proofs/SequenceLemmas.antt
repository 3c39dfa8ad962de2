-- How the telling of the parts of a list makes that of the list.
use Rattle.std.proofs.Common.{◌≡◌, ℕ, ◌+◌, ◌<◌, List, [], ◌∷◌, ◌++◌, length, take, drop, get_or, take-append-drop, ℤ, Result, Ok, Err, refl, sym, ap, ◌∙◌, subst}
use Rattle.hl_base.specs.declared.note.Note.{Note}
use Rattle.std.specs.Result.{IsErrAnd}
use Rattle.std.proofs.lemmas.List.{take_more}
use Rattle.expression_grammar.specs.declared.tree.Expr.{Expr}
use Rattle.expression_grammar.specs.declared.tree.Item.{Item}
use Rattle.expression_grammar.specs.declared.tree.Item.TheVariants as item
use Rattle.expression_grammar.specs.Trees.{Tree, Trees, Items, NoTrees, NoItems, More}
use Rattle.expression_grammar.specs.Views.{tree_of, trees_in, items_in, with_item}
use Rattle.cond_expr.specs.declared.stop.Stop.{Stop}
use Rattle.cond_expr.specs.Told.{Told}
use Rattle.cond_expr.specs.Outcome.{Outcome, gives, and_then, Tells}
use Rattle.cond_expr.specs.Values.{number, numbers, pieces, piece}
use Rattle.cond_expr.proofs.OutcomeLemmas.{Tells-and_then, Tells-stop, Tells-gives}

-- one number more
pub numbers-more : (told : Told) (others : Trees) (last : Tree) (before middle after : List Note) (ns : List ℤ) (n : ℤ) →
    Tells (numbers others told) before middle (Ok ns) → Tells (number last told) middle after (Ok n) →
    Tells (numbers (More others last) told) before after (Ok (ns ++ n ∷ []))
numbers-more told others last before middle after ns n first second =
    Tells-and_then (numbers others told) (λ ms. and_then (number last told) (λ m. gives (ms ++ m ∷ []))) before middle after ns (Ok (ns ++ n ∷ [])) first
    (Tells-and_then (number last told) (λ m. gives (ns ++ m ∷ [])) middle after after n (Ok (ns ++ n ∷ [])) second
    (Tells-gives (ns ++ n ∷ []) (ns ++ n ∷ []) after refl))

-- a number that stops
pub numbers-stop : (told : Told) (others : Trees) (last : Tree) (before middle after : List Note) (ns : List ℤ) (stop : Stop) →
    Tells (numbers others told) before middle (Ok ns) → Tells (number last told) middle after (Err stop) →
    Tells (numbers (More others last) told) before after (Err stop)
numbers-stop told others last before middle after ns stop first second =
    Tells-and_then (numbers others told) (λ ms. and_then (number last told) (λ m. gives (ms ++ m ∷ []))) before middle after ns (Err stop) first
    (Tells-stop (number last told) (λ m. gives (ns ++ m ∷ [])) middle after after stop second)

-- a list whose front stops stops
pub numbers-stopped : (told : Told) (rest : List Expr) (front : Trees) (before after : List Note) (stop : Stop) →
    Tells (numbers front told) before after (Err stop) → Tells (numbers (trees_in front rest) told) before after (Err stop)
numbers-stopped told [] front before after stop first = first
numbers-stopped told (one ∷ rest) front before after stop first =
    numbers-stopped told rest (More front (tree_of one)) before after stop
    (Tells-stop (numbers front told) (λ ms. and_then (number (tree_of one) told) (λ m. gives (ms ++ m ∷ []))) before after after stop first)

pub trees_in-append : (front : Trees) (some rest : List Expr) → trees_in front (some ++ rest) ≡ trees_in (trees_in front some) rest
trees_in-append front [] rest = refl
trees_in-append front (one ∷ some) rest = trees_in-append (More front (tree_of one)) some rest

-- what an item adds
pub pieces-with_item : (told : Told) (others : Items) (one : Item) →
    pieces (with_item others one) told ≡ and_then (pieces others told) (λ s. and_then (piece one told) (λ t. gives (s ++ t)))
pieces-with_item told others (item.Plain characters) = refl
pieces-with_item told others (item.Inserted' symbol n subscripts) = refl

-- one item more
pub pieces-more : (told : Told) (others : Items) (one : Item) (before middle after : List Note) (s t : List ℕ) →
    Tells (pieces others told) before middle (Ok s) → Tells (piece one told) middle after (Ok t) →
    Tells (pieces (with_item others one) told) before after (Ok (s ++ t))
pieces-more told others one before middle after s t first second =
    subst (λ (o : Outcome (List ℕ)). Tells o before after (Ok (s ++ t))) (sym (pieces-with_item told others one))
    (Tells-and_then (pieces others told) (λ u. and_then (piece one told) (λ v. gives (u ++ v))) before middle after s (Ok (s ++ t)) first
    (Tells-and_then (piece one told) (λ v. gives (s ++ v)) middle after after t (Ok (s ++ t)) second
    (Tells-gives (s ++ t) (s ++ t) after refl)))

-- an item that stops
pub pieces-stop : (told : Told) (others : Items) (one : Item) (before middle after : List Note) (s : List ℕ) (stop : Stop) →
    Tells (pieces others told) before middle (Ok s) → Tells (piece one told) middle after (Err stop) →
    Tells (pieces (with_item others one) told) before after (Err stop)
pieces-stop told others one before middle after s stop first second =
    subst (λ (o : Outcome (List ℕ)). Tells o before after (Err stop)) (sym (pieces-with_item told others one))
    (Tells-and_then (pieces others told) (λ u. and_then (piece one told) (λ v. gives (u ++ v))) before middle after s (Err stop) first
    (Tells-stop (piece one told) (λ v. gives (s ++ v)) middle after after stop second))

-- items whose front stops stop
pub pieces-stopped : (told : Told) (rest : List Item) (front : Items) (before after : List Note) (stop : Stop) →
    Tells (pieces front told) before after (Err stop) → Tells (pieces (items_in front rest) told) before after (Err stop)
pieces-stopped told [] front before after stop first = first
pieces-stopped told (one ∷ rest) front before after stop first =
    pieces-stopped told rest (with_item front one) before after stop
    (subst (λ (o : Outcome (List ℕ)). Tells o before after (Err stop)) (sym (pieces-with_item told front one))
    (Tells-stop (pieces front told) (λ u. and_then (piece one told) (λ v. gives (u ++ v))) before after after stop first))

pub items_in-append : (front : Items) (some rest : List Item) → items_in front (some ++ rest) ≡ items_in (items_in front some) rest
items_in-append front [] rest = refl
items_in-append front (one ∷ some) rest = items_in-append (with_item front one) some rest

trees_in-next : (all : List Expr) (i : ℕ) (one : Expr) → i < length all → one ≡ get_or all i one →
    trees_in NoTrees (take (i + 1) all) ≡ More (trees_in NoTrees (take i all)) (tree_of one)
trees_in-next all i one within is =
    ap (trees_in NoTrees) (take_more all i one within)
    ∙ trees_in-append NoTrees (take i all) (get_or all i one ∷ [])
    ∙ ap (λ e. More (trees_in NoTrees (take i all)) (tree_of e)) (sym is)

trees_in-whole : (all : List Expr) (n : ℕ) → trees_in (trees_in NoTrees (take n all)) (drop n all) ≡ trees_in NoTrees all
trees_in-whole all n = sym (trees_in-append NoTrees (take n all) (drop n all)) ∙ ap (trees_in NoTrees) (take-append-drop n all)

-- one number more of a list
pub numbers-kept : (told : Told) (all : List Expr) (i : ℕ) (one : Expr) (before middle after : List Note) (ns pushed : List ℤ) (n : ℤ) →
    i < length all → one ≡ get_or all i one → pushed ≡ ns ++ n ∷ [] →
    Tells (numbers (trees_in NoTrees (take i all)) told) before middle (Ok ns) → Tells (number (tree_of one) told) middle after (Ok n) →
    Tells (numbers (trees_in NoTrees (take (i + 1) all)) told) before after (Ok pushed)
numbers-kept told all i one before middle after ns pushed n within is more first second =
    subst (λ (trees : Trees). Tells (numbers trees told) before after (Ok pushed)) (sym (trees_in-next all i one within is))
    (subst (λ (ms : List ℤ). Tells (numbers (More (trees_in NoTrees (take i all)) (tree_of one)) told) before after (Ok ms)) (sym more)
    (numbers-more told (trees_in NoTrees (take i all)) (tree_of one) before middle after ns n first second))

-- a number of a list that stops
pub numbers-failed : (told : Told) (all : List Expr) (i : ℕ) (one : Expr) (before middle after : List Note) (ns : List ℤ) (stop : Stop) (r : Result (List ℤ) Stop) →
    i < length all → one ≡ get_or all i one → IsErrAnd r (λ x. x ≡ stop) →
    Tells (numbers (trees_in NoTrees (take i all)) told) before middle (Ok ns) → Tells (number (tree_of one) told) middle after (Err stop) →
    Tells (numbers (trees_in NoTrees all) told) before after r
numbers-failed told all i one before middle after ns stop (Ok v) within is failed first second = absurd failed
numbers-failed told all i one before middle after ns stop (Err x) within is failed first second =
    subst (λ (s : Stop). Tells (numbers (trees_in NoTrees all) told) before after (Err s)) (sym failed)
    (subst (λ (trees : Trees). Tells (numbers trees told) before after (Err stop)) (trees_in-whole all (i + 1))
    (numbers-stopped told (drop (i + 1) all) (trees_in NoTrees (take (i + 1) all)) before after stop
    (subst (λ (trees : Trees). Tells (numbers trees told) before after (Err stop)) (sym (trees_in-next all i one within is))
    (numbers-stop told (trees_in NoTrees (take i all)) (tree_of one) before middle after ns stop first second))))

items_in-next : (all : List Item) (i : ℕ) (one : Item) → i < length all → one ≡ get_or all i one →
    items_in NoItems (take (i + 1) all) ≡ with_item (items_in NoItems (take i all)) one
items_in-next all i one within is =
    ap (items_in NoItems) (take_more all i one within)
    ∙ items_in-append NoItems (take i all) (get_or all i one ∷ [])
    ∙ ap (with_item (items_in NoItems (take i all))) (sym is)

items_in-whole : (all : List Item) (n : ℕ) → items_in (items_in NoItems (take n all)) (drop n all) ≡ items_in NoItems all
items_in-whole all n = sym (items_in-append NoItems (take n all) (drop n all)) ∙ ap (items_in NoItems) (take-append-drop n all)

-- one item more of a list
pub pieces-kept : (told : Told) (all : List Item) (i : ℕ) (one : Item) (before middle after : List Note) (s pushed t : List ℕ) →
    i < length all → one ≡ get_or all i one → pushed ≡ s ++ t →
    Tells (pieces (items_in NoItems (take i all)) told) before middle (Ok s) → Tells (piece one told) middle after (Ok t) →
    Tells (pieces (items_in NoItems (take (i + 1) all)) told) before after (Ok pushed)
pieces-kept told all i one before middle after s pushed t within is more first second =
    subst (λ (items : Items). Tells (pieces items told) before after (Ok pushed)) (sym (items_in-next all i one within is))
    (subst (λ (u : List ℕ). Tells (pieces (with_item (items_in NoItems (take i all)) one) told) before after (Ok u)) (sym more)
    (pieces-more told (items_in NoItems (take i all)) one before middle after s t first second))

-- an item of a list that stops
pub pieces-failed : (told : Told) (all : List Item) (i : ℕ) (one : Item) (before middle after : List Note) (s : List ℕ) (stop : Stop) (r : Result (List ℕ) Stop) →
    i < length all → one ≡ get_or all i one → IsErrAnd r (λ x. x ≡ stop) →
    Tells (pieces (items_in NoItems (take i all)) told) before middle (Ok s) → Tells (piece one told) middle after (Err stop) →
    Tells (pieces (items_in NoItems all) told) before after r
pieces-failed told all i one before middle after s stop (Ok v) within is failed first second = absurd failed
pieces-failed told all i one before middle after s stop (Err x) within is failed first second =
    subst (λ (y : Stop). Tells (pieces (items_in NoItems all) told) before after (Err y)) (sym failed)
    (subst (λ (items : Items). Tells (pieces items told) before after (Err stop)) (items_in-whole all (i + 1))
    (pieces-stopped told (drop (i + 1) all) (items_in NoItems (take (i + 1) all)) before after stop
    (subst (λ (items : Items). Tells (pieces items told) before after (Err stop)) (sym (items_in-next all i one within is))
    (pieces-stop told (items_in NoItems (take i all)) one before middle after s stop first second))))
