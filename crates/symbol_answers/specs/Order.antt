-- The order in which references are shown: by the bytes of their paths' texts, then by line, then by column (this project).
use Rattle.std.specs.Prelude.{ℕ, Bool, List, [], ◌∷◌, encode_utf8_all, slice_index_or, if◌then◌else◌}
use Rattle.std.specs.Ordering.{nat_cmp, ordering_then, is_lt}
use Rattle.std.specs.Cmp.Lexicographic.{slice_cmp}
use Rattle.std.specs.declared.cmp.Ordering.{Ordering}
use Rattle.document_store.specs.Store.{Store}
use Rattle.trace_values.specs.declared.occurrence.Occurrence.{Occurrence}

-- where an occurrence stands: the bytes of its path's text, its line, its columns, and the number of its path
pub record Spot : Type 0 where
  pub path : List ℕ
  pub line : ℕ
  pub from : ℕ
  pub to : ℕ
  pub number : ℕ

abbrev pub spot_of : Store → Occurrence → Spot
spot_of store one = record {
  path = encode_utf8_all (slice_index_or store.paths one.path.0 []);
  line = one.line;
  from = one.from;
  to = one.to;
  number = one.path.0;
}

-- by path, by line, by where they begin and by where they end; two paths that are not known at all stand by their numbers
abbrev pub spot_order : Spot → Spot → Ordering
spot_order a b =
    ordering_then (slice_cmp nat_cmp a.path b.path)
    (ordering_then (nat_cmp a.line b.line)
    (ordering_then (nat_cmp a.from b.from)
    (ordering_then (nat_cmp a.to b.to) (nat_cmp a.number b.number))))

abbrev pub comes_before : Spot → Spot → Bool
comes_before a b = is_lt (spot_order a b)

-- a spot put into its place among spots in order
abbrev pub placed : Spot → List Spot → List Spot
placed spot [] = spot ∷ []
placed spot (first ∷ others) = if comes_before first spot then first ∷ placed spot others else spot ∷ first ∷ others

-- spots in order
abbrev pub in_order : List Spot → List Spot
in_order [] = []
in_order (spot ∷ spots) = placed spot (in_order spots)
