-- The order of keys is that of what contracts see of them.
use Rattle.std.proofs.Common.{◌≡◌, refl, ap}
use Rattle.std.specs.Ordering.{nat_cmp, ordering_then}
use Rattle.std.specs.Cmp.Lexicographic.{slice_cmp}
use Rattle.trace_variables.specs.contracts.key.KindOrd.TheImpl as kind_ord
use Rattle.trace_variables.specs.contracts.key.KeyOrd.TheImpl as key_ord
use Rattle.trace_variables.specs.declared.key.Key.{Key}
use Rattle.trace_variables.specs.declared.key.Kind.{Kind}
use Rattle.trace_variables.specs.declared.key.Kind.TheVariants.{A, B, C}
use Rattle.trace_variables.specs.Values.{place_of, key_order}
use Rattle.trace_variables.specs.Seen.{set_kind, seen_key}

kind_same : (x y : Kind) → (kind_ord.ghosts).cmp x y ≡ nat_cmp (place_of (set_kind x)) (place_of (set_kind y))
kind_same A A = refl
kind_same A B = refl
kind_same A C = refl
kind_same B A = refl
kind_same B B = refl
kind_same B C = refl
kind_same C A = refl
kind_same C B = refl
kind_same C C = refl

pub key_same : (x y : Key) → (key_ord.ghosts).cmp x y ≡ key_order (seen_key x) (seen_key y)
key_same x y =
    ap (λ o. ordering_then (slice_cmp nat_cmp x.name y.name) (ordering_then o (nat_cmp x.element y.element)))
    (kind_same x.kind y.kind)
