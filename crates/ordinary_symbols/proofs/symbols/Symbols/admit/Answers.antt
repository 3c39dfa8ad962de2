use Rattle.std.proofs.Common.{◌≡◌, ◌∙◌, ℕ, Bool, true, false, not, Option, None, refl, sym, subst}
use Rattle.std.specs.Prelude.{IsSome}
use Rattle.std.proofs.lemmas.Bool.{true≢false}
use Rattle.std.specs.List.{list_any}
use Rattle.std.specs.Str.{bytes_eq}
use Rattle.ordinary_symbols.specs.Shown.{table_of}
use Rattle.ordinary_symbols.specs.Table.{place_of}
use Rattle.ordinary_symbols.proofs.Places.{defined_by, undefined_by}
use Rattle.ordinary_symbols.proofs.symbols.Symbols.admit.Goals as goal

is_there : (b : Bool) → false ≡ not b → b ≡ true
is_there true is = refl
is_there false is = absurd cc

is_new : (b : Bool) → true ≡ not b → b ≡ false
is_new true is = absurd cc
is_new false is = refl

undefined : (found : Option ℕ) → found ≡ None → IsSome found → ⊥
undefined found none some = let is : false ≡ true = subst IsSome none some in true≢false (sym is)

pub returns-then-not-new-clause-already : goal.returns-then-not-new-clause-already
returns-then-not-new-clause-already c =
    let symbols = c.args.self.now in
    let keys = symbols.names.keys in
    let name = c.args.held.row.name in
    let found : list_any (bytes_eq c.copy.result) keys ≡ true =
    is_there (list_any (bytes_eq c.copy.result) keys) (sym c.if-not-new.true ∙ c.in-Ok.ensures.added) in
    let there : list_any (bytes_eq name) keys ≡ true = subst (λ n. list_any (bytes_eq n) keys ≡ true) c.copy.ensures found in
    (λ _. defined_by keys symbols.rows.items name symbols.named there, λ _. refl)

pub returns-else-not-new-clause-already : goal.returns-else-not-new-clause-already
returns-else-not-new-clause-already c =
    let symbols = c.args.self.now in
    let keys = symbols.names.keys in
    let name = c.args.held.row.name in
    let sought : list_any (bytes_eq c.copy.result) keys ≡ false =
    is_new (list_any (bytes_eq c.copy.result) keys) (sym c.if-not-new.false ∙ c.in-Ok.ensures.added) in
    let new : list_any (bytes_eq name) keys ≡ false = subst (λ n. list_any (bytes_eq n) keys ≡ false) c.copy.ensures sought in
    let none : place_of (table_of symbols) name ≡ None = undefined_by keys symbols.rows.items name symbols.named new in
    (λ no. absurd cc, λ defined. absurd (undefined (place_of (table_of symbols) name) none defined))

pub returns-in-Err-clause-already : goal.returns-in-Err-clause-already
returns-in-Err-clause-already c =
    let symbols = c.args.self.now in
    let keys = symbols.names.keys in
    let name = c.args.held.row.name in
    let new : list_any (bytes_eq name) keys ≡ false = subst (λ n. list_any (bytes_eq n) keys ≡ false) c.copy.ensures c.in-Err.ensures.absent in
    let none : place_of (table_of symbols) name ≡ None = undefined_by keys symbols.rows.items name symbols.named new in
    (λ no. absurd cc, λ defined. absurd (undefined (place_of (table_of symbols) name) none defined))
