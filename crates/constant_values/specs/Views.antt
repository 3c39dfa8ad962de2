-- What the program's values are. This project.
use Rattle.constant_values.specs.declared.values.Values as declared
use Rattle.constant_values.specs.declared.values.Values.TheVariants.{Absent, Texts, Elements}
use Rattle.constant_values.specs.Values.{Values, absent, texts, elements}

abbrev pub values_of : declared.Values → Values
values_of Absent = absent
values_of (Texts all) = texts all.items
values_of (Elements count) = elements count
