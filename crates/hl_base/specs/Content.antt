-- The bytes of a text, whichever way they lie in memory. This project.
use Rattle.std.specs.Prelude.{ℕ, List, string_bytes}
use Rattle.hl_base.specs.declared.text.Content.{Content}
use Rattle.hl_base.specs.declared.text.Content.TheVariants.{Inside, Heap}

-- the bytes of a text, within the value itself or on the heap
abbrev pub content_bytes : Content → List ℕ
content_bytes (Inside text) = text.bytes
content_bytes (Heap text) = string_bytes text
