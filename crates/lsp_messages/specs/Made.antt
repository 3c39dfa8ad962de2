-- Objects that are made member by member.
use Rattle.std.specs.Prelude.{◌≡◌, Result, String, IfOk}
use Rattle.std.specs.BTreeMap.{BTreeMap}
use Rattle.std.specs.declared.alloc.Global.{Global}
use Rattle.serde_json.specs.Data.{Members}
use Rattle.serde_json.specs.View.{members_view}
use Rattle.serde_json.specs.declared.value.Value.{Value}

-- where there was memory for all of it, these members were made
abbrev pub HasMade : {E : Type 0} → Result (BTreeMap (String Global) Value) E → Members → Type 0
HasMade made ms = IfOk made (λ m. members_view m.entries ≡ ms)
