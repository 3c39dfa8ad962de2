-- How what a call knows is stored as tuples, so that it is a value that can be told apart. This project.
use Rattle.std.specs.Prelude.{ℕ, List, Option, refl}
use Rattle.std.specs.Coded.{Coded, code_by, coded×, coded_ℕ, coded_list, coded_option}
use Rattle.hl_base.specs.declared.set.SetValue.{SetValue}
use Rattle.set_symbols.specs.Codes.{table_code, value_code}
use Rattle.set_symbols.specs.Table.{Table}
use Rattle.macro_binding.specs.Bindings.{Binding, Bound}
use Rattle.trace_values.specs.declared.variable.Setting.{Setting}
use Rattle.call_knowledge.specs.declared.system.SystemVariable.{SystemVariable}
use Rattle.call_knowledge.specs.Knowledge.{Knowledge}

abbrev pub system_code : Coded SystemVariable
system_code =
    code_by
    (List ℕ × List ℕ)
    (coded× (coded_list coded_ℕ) (coded_list coded_ℕ))
    (λ s. (s.name, s.text))
    (λ t. record { name = t.0; text = t.1 })
    (λ _. refl)

abbrev pub bound_code : Coded Bound
bound_code =
    code_by
    (List ℕ × List ℕ)
    (coded× (coded_list coded_ℕ) (coded_list coded_ℕ))
    (λ b. (b.name, b.value))
    (λ t. record { name = t.0; value = t.1 })
    (λ _. refl)

abbrev pub binding_code : Coded Binding
binding_code =
    code_by
    (List ℕ × (List (List ℕ) × List Bound))
    (coded× (coded_list coded_ℕ) (coded× (coded_list (coded_list coded_ℕ)) (coded_list bound_code)))
    (λ b. (b.name_entry, (b.positionals, b.parameters)))
    (λ t. record { name_entry = t.0; positionals = t.1.0; parameters = t.1.1 })
    (λ _. refl)

abbrev pub setting_code : Coded Setting
setting_code =
    code_by
    (List ℕ × (ℕ × SetValue))
    (coded× (coded_list coded_ℕ) (coded× coded_ℕ value_code))
    (λ s. (s.name, (s.element, s.value)))
    (λ t. record { name = t.0; element = t.1.0; value = t.1.1 })
    (λ _. refl)

abbrev pub knowledge_code : Coded Knowledge
knowledge_code =
    code_by
    ((Table × Table) × (ℕ × (List SystemVariable × (Option Binding × List Setting))))
    (coded× (coded× table_code table_code)
    (coded× coded_ℕ (coded× (coded_list system_code) (coded× (coded_option binding_code) (coded_list setting_code)))))
    (λ k. ((k.scalars, k.arrays), (k.branches, (k.systems, (k.binding, k.shown)))))
    (λ t. record { scalars = t.0.0; arrays = t.0.1; branches = t.1.0; systems = t.1.1.0; binding = t.1.1.1.0; shown = t.1.1.1.1 })
    (λ _. refl)
