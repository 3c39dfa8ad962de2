-- What a table has under a name, told of the entries that it is made of.
use Rattle.std.proofs.Common.{◌≡◌, ◌≢◌, ℕ, Bool, true, false, cond, List, [], ◌∷◌, ◌++◌, Option, Some, None, IsSome, refl, sym, ap, subst, ◌∙◌, map, find, string_bytes, unwrap_or, Bor}
use Rattle.std.specs.Ordering.{nat_cmp, eq_by_cmp}
use Rattle.std.specs.Option.{option_map, option_copied}
use Rattle.std.specs.Str.{bytes_eq}
use Rattle.std.specs.Map.{lookup, set_value}
use Rattle.std.specs.Cmp.{nat_cmp_total, eq_by_cmp_equiv}
use Rattle.std.specs.FinMap as finite
use Rattle.std.specs.FinMap.{get-from_entries, get-insert, same_map, nat_cmp-IsAntisymmetric}
use Rattle.std.specs.BTreeMap as tree
use Rattle.std.specs.BTreeMap.{BTreeMap}
use Rattle.std.specs.declared.string.String.{String}
use Rattle.std.specs.declared.alloc.Global.{Global}
use Rattle.std.specs.String.{string_eq}
use Rattle.std.specs.declared.hash.FoldHasher.{FoldHasher}
use Rattle.std.specs.declared.hash.BuildHasherDefault.{BuildHasherDefault}
use Rattle.indexmap.specs.IndexMap.{IndexMap, insert_entry}
use Rattle.indexmap.proofs.CallerLemmas.{insert_entry-new}
use Rattle.std.proofs.lemmas.Slice.Eq.{bytes_eq-Decides}
use Rattle.hl_base.specs.declared.set.SetKind.{SetKind}
use Rattle.hl_base.specs.declared.set.SetValue.{SetValue}
use Rattle.set_symbols.specs.Table.{Table, Symbol as Seen, kind_of, symbol_of, declared_of, with_symbol, put, holding, fresh, local_of}
use Rattle.set_symbols.specs.Entries.{named, seen, table_from, values_of, Holds, Stays}
use Rattle.set_symbols.specs.declared.symbol.Symbol.{Symbol}

-- whether a key spells a name
abbrev pub spells : List ℕ → String Global → Bool
spells name key = bytes_eq name (string_bytes key)

symbol_of-step : (name : List ℕ) (e : String Global × Symbol) (es : List (String Global × Symbol)) (b : Bool) →
    spells name e.0 ≡ b →
    symbol_of (table_from es) name ≡ option_map (named name) (lookup (spells name) es) →
    symbol_of (table_from (e ∷ es)) name ≡ option_map (named name) (lookup (spells name) (e ∷ es))
symbol_of-step name e es true is rest =
    ap (λ b. cond b (Some (seen e)) (symbol_of (table_from es) name)) is
    ∙ ap (λ n. Some (named n e.1)) (sym ((bytes_eq-Decides name (string_bytes e.0)).0 is))
    ∙ sym (ap (λ b. option_map (named name) (cond b (Some e.1) (lookup (spells name) es))) is)
symbol_of-step name e es false is rest =
    ap (λ b. cond b (Some (seen e)) (symbol_of (table_from es) name)) is
    ∙ rest
    ∙ sym (ap (λ b. option_map (named name) (cond b (Some e.1) (lookup (spells name) es))) is)

-- the symbol of a name is the one that is found under it
pub symbol_of-table_from : (name : List ℕ) (entries : List (String Global × Symbol)) →
    symbol_of (table_from entries) name ≡ option_map (named name) (lookup (spells name) entries)
symbol_of-table_from name [] = refl
symbol_of-table_from name (e ∷ es) = symbol_of-step name e es (spells name e.0) refl (symbol_of-table_from name es)

find-lookup : (q : ℕ) (es : List (ℕ × SetValue)) → finite.find nat_cmp q es ≡ lookup (tree.is_at (nat_cmp q)) es
find-lookup q [] = refl
find-lookup q (e ∷ es) = ap (cond (eq_by_cmp nat_cmp q e.0) (Some e.1)) (find-lookup q es)

-- what a symbol holds at a place is what its map has there
pub get-values_of : (symbol : Symbol) (at : ℕ) → finite.get (values_of symbol) at ≡ tree.get nat_cmp symbol.values at
get-values_of symbol at = get-from_entries nat_cmp_total symbol.values.entries at ∙ find-lookup at symbol.values.entries

get-from : (m : BTreeMap ℕ SetValue) (q : ℕ) → finite.get (finite.from_entries {R = nat_cmp} m.entries) q ≡ tree.get nat_cmp m q
get-from m q = get-from_entries nat_cmp_total m.entries q ∙ find-lookup q m.entries

-- a map where a place was set is the finite map where it was set
pub from_entries-updates : (old new : BTreeMap ℕ SetValue) (at : ℕ) (held : SetValue) → tree.Updates nat_cmp old new at (Some held) →
    finite.from_entries {R = nat_cmp} new.entries ≡ finite.insert (finite.from_entries old.entries) at held
from_entries-updates old new at held updates =
    same_map nat_cmp_total nat_cmp-IsAntisymmetric _ _ (λ q.
    get-from new q
    ∙ updates.0 q
    ∙ ap (λ b. cond b (Some held) (tree.get nat_cmp old q)) ((eq_by_cmp_equiv nat_cmp_total).symm at q)
    ∙ ap (cond (eq_by_cmp nat_cmp q at) (Some held)) (sym (get-from old q))
    ∙ sym (get-insert nat_cmp_total (finite.from_entries old.entries) at held q))

with_symbol-step : (new symbol : Seen) (rest : Table) (b : Bool) → bytes_eq new.name symbol.name ≡ b →
    (symbol_of rest new.name ≡ None → with_symbol rest new ≡ rest ++ new ∷ []) →
    symbol_of (symbol ∷ rest) new.name ≡ None → with_symbol (symbol ∷ rest) new ≡ (symbol ∷ rest) ++ new ∷ []
with_symbol-step new symbol rest true is further none =
    let some : Some symbol ≡ None = sym (ap (λ b. cond b (Some symbol) (symbol_of rest new.name)) is) ∙ none in cc
with_symbol-step new symbol rest false is further none =
    ap (λ b. cond b (new ∷ rest) (symbol ∷ with_symbol rest new)) is
    ∙ ap (λ table. symbol ∷ table) (further (sym (ap (λ b. cond b (Some symbol) (symbol_of rest new.name)) is) ∙ none))

-- a symbol of a new name goes last
pub with_symbol-new : (table : Table) (new : Seen) → symbol_of table new.name ≡ None → with_symbol table new ≡ table ++ new ∷ []
with_symbol-new [] new none = refl
with_symbol-new (symbol ∷ rest) new none =
    with_symbol-step new symbol rest (bytes_eq new.name symbol.name) refl (with_symbol-new rest new) none

set_value-step : (name : List ℕ) (w : Symbol) (e : String Global × Symbol) (es : List (String Global × Symbol)) (b : Bool) →
    spells name e.0 ≡ b →
    (IsSome (lookup (spells name) es) → table_from (set_value (spells name) es w) ≡ with_symbol (table_from es) (named name w)) →
    IsSome (lookup (spells name) (e ∷ es)) →
    table_from (set_value (spells name) (e ∷ es) w) ≡ with_symbol (table_from (e ∷ es)) (named name w)
set_value-step name w e es true is further some =
    ap (λ b. table_from (cond b ((e.0, w) ∷ es) (e ∷ set_value (spells name) es w))) is
    ∙ ap (λ n. named n w ∷ table_from es) (sym ((bytes_eq-Decides name (string_bytes e.0)).0 is))
    ∙ sym (ap (λ b. cond b (named name w ∷ table_from es) (seen e ∷ with_symbol (table_from es) (named name w))) is)
set_value-step name w e es false is further some =
    ap (λ b. table_from (cond b ((e.0, w) ∷ es) (e ∷ set_value (spells name) es w))) is
    ∙ ap (λ table. seen e ∷ table) (further (subst IsSome (ap (λ b. cond b (Some e.1) (lookup (spells name) es)) is) some))
    ∙ sym (ap (λ b. cond b (named name w ∷ table_from es) (seen e ∷ with_symbol (table_from es) (named name w))) is)

-- a symbol that is written in place
pub table_from-set_value : (name : List ℕ) (w : Symbol) (entries : List (String Global × Symbol)) →
    IsSome (lookup (spells name) entries) →
    table_from (set_value (spells name) entries w) ≡ with_symbol (table_from entries) (named name w)
table_from-set_value name w [] some = absurd (cc)
table_from-set_value name w (e ∷ es) some =
    set_value-step name w e es (spells name e.0) refl (table_from-set_value name w es) some

same_step : (new symbol : Seen) (rest : Table) (b : Bool) → bytes_eq new.name symbol.name ≡ b →
    (symbol_of rest new.name ≡ Some new → with_symbol rest new ≡ rest) →
    symbol_of (symbol ∷ rest) new.name ≡ Some new → with_symbol (symbol ∷ rest) new ≡ symbol ∷ rest
same_step new symbol rest true is further some =
    let one : Some symbol ≡ Some new = sym (ap (λ b. cond b (Some symbol) (symbol_of rest new.name)) is) ∙ some in
    let same : symbol ≡ new = cc in
    ap (λ b. cond b (new ∷ rest) (symbol ∷ with_symbol rest new)) is ∙ ap (λ s. s ∷ rest) (sym same)
same_step new symbol rest false is further some =
    ap (λ b. cond b (new ∷ rest) (symbol ∷ with_symbol rest new)) is
    ∙ ap (λ table. symbol ∷ table) (further (sym (ap (λ b. cond b (Some symbol) (symbol_of rest new.name)) is) ∙ some))

-- a symbol that is there already changes nothing
pub with_symbol-same : (table : Table) (new : Seen) → symbol_of table new.name ≡ Some new → with_symbol table new ≡ table
with_symbol-same [] new some = absurd (cc)
with_symbol-same (symbol ∷ rest) new some =
    same_step new symbol rest (bytes_eq new.name symbol.name) refl (with_symbol-same rest new) some

-- symbols behind one another are their entries behind one another
pub table_from-push : (entries : List (String Global × Symbol)) (key : String Global) (w : Symbol) →
    table_from (entries ++ (key, w) ∷ []) ≡ table_from entries ++ named (string_bytes key) w ∷ []
table_from-push [] key w = refl
table_from-push (e ∷ es) key w = ap (λ table. seen e ∷ table) (table_from-push es key w)

pub none_of_map : {X Y : Type 0} (f : X → Y) (o : Option X) → option_map f o ≡ None → o ≡ None
none_of_map f None is = refl
none_of_map f (Some x) is = absurd (cc)

-- what is not in the table is not found
pub lookup-absent : (table : Table) (entries : List (String Global × Symbol)) (name : List ℕ) → table_from entries ≡ table →
    declared_of table name ≡ None → lookup (spells name) entries ≡ None
lookup-absent table entries name is none =
    none_of_map (named name) (lookup (spells name) entries)
    (sym (symbol_of-table_from name entries)
    ∙ ap (λ t. symbol_of t name) is
    ∙ none_of_map (λ (s : Seen). s.declared) (symbol_of table name) none)

-- a symbol that was not there and goes last
pub table_from-admitted : (old : IndexMap (String Global) Symbol (BuildHasherDefault FoldHasher)) (new : List (String Global × Symbol))
    (key : String Global) (w : Symbol) (name : List ℕ) (table : Table) →
    table_from old.entries ≡ table → declared_of table name ≡ None → string_bytes key ≡ name →
    new ≡ insert_entry string_eq old.entries key w → table_from new ≡ table ++ named name w ∷ []
table_from-admitted old new key w name table is none spelled inserted =
    ap table_from (inserted ∙ insert_entry-new string_eq old key w (lookup-absent table old.entries (string_bytes key) is (ap (declared_of table) spelled ∙ none)))
    ∙ table_from-push old.entries key w
    ∙ ap (λ t. t ++ named (string_bytes key) w ∷ []) is
    ∙ ap (λ n. table ++ named n w ∷ []) spelled

-- a value that is set under a new name
pub put-new : (table : Table) (name : List ℕ) (at : ℕ) (held : SetValue) → declared_of table name ≡ None →
    put table name at held ≡ table ++ holding (fresh name (local_of held)) at held ∷ []
put-new table name at held none =
    let absent : symbol_of table name ≡ None = none_of_map (λ (s : Seen). s.declared) (symbol_of table name) none in
    ap (λ o. with_symbol table (holding (unwrap_or o (fresh name (local_of held))) at held)) absent
    ∙ with_symbol-new table (holding (fresh name (local_of held)) at held) absent

-- a value that is set under a name that is there
module _ (table : Table) (old new : List (String Global × Symbol)) (name : List ℕ) (was now : Symbol)
    (is : table_from old ≡ table) (found : lookup (spells name) old ≡ Some was) (written : new ≡ set_value (spells name) old now) where
  symbol-is : symbol_of table name ≡ Some (named name was)
  symbol-is = ap (λ t. symbol_of t name) (sym is) ∙ symbol_of-table_from name old ∙ ap (option_map (named name)) found

  table-is : table_from new ≡ with_symbol table (named name now)
  table-is =
      ap table_from written
      ∙ table_from-set_value name now old (subst IsSome (sym found) refl)
      ∙ ap (λ t. with_symbol t (named name now)) is

  pub table_from-held : (at : ℕ) (held : SetValue) → Holds was now at held → table_from new ≡ put table name at held
  table_from-held at held holds =
      let same : named name now ≡ holding (named name was) at held =
      λ i. record { name = name; declared = holds.declared i; values = holds.values i } in
      table-is
      ∙ ap (with_symbol table) same
      ∙ sym (ap (λ o. with_symbol table (holding (unwrap_or o (fresh name (local_of held))) at held)) symbol-is)

  pub table_from-stays : Stays was now → table_from new ≡ table
  table_from-stays stays =
      let same : named name now ≡ named name was = λ i. record { name = name; declared = stays.declared i; values = stays.values i } in
      table-is ∙ ap (with_symbol table) same ∙ with_symbol-same table (named name was) symbol-is

-- a reference to a symbol, and the symbol
pub named_copied : (name : List ℕ) (r : Option (Bor Symbol)) → option_map (λ (s : Bor Symbol). named name s.now) r ≡ option_map (named name) (option_copied r)
named_copied name None = refl
named_copied name (Some s) = refl

-- a symbol that holds its first value
pub named-first : (name : List ℕ) (kind : SetKind) (empty values : BTreeMap ℕ SetValue) (at : ℕ) (held : SetValue) →
    kind ≡ kind_of held → tree.IsEmpty empty → tree.Updates nat_cmp empty values at (Some held) →
    named name (record { declared = record { kind = kind; global = false }; values = values }) ≡ holding (fresh name (local_of held)) at held
named-first name kind empty values at held is none updates =
    let values-is = from_entries-updates empty values at held updates ∙ ap (λ es. finite.insert (finite.from_entries {R = nat_cmp} es) at held) none in
    λ i. record { name = name; declared = record { kind = is i; global = false }; values = values-is i }

-- what is in the table is found
pub lookup-declared : (table : Table) (entries : List (String Global × Symbol)) (name : List ℕ) → table_from entries ≡ table →
    IsSome (symbol_of table name) → lookup (spells name) entries ≡ None → ⊥
lookup-declared table entries name is some none =
    let absent : symbol_of table name ≡ None =
    ap (λ t. symbol_of t name) (sym is) ∙ symbol_of-table_from name entries ∙ ap (option_map (named name)) none in
    let impossible : IsSome {T = Seen} None = subst IsSome absent some in cc
