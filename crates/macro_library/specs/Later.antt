-- Whether statements of a definition may copy members when its macro is called (HLASM Language Reference SC26-4940, "COPY
-- instruction").
use Rattle.std.specs.Prelude.{ℕ, ◌==◌, ◌&&◌, ◌||◌, Bool, true, false, List, [], ◌∷◌, codes}
use Rattle.std.specs.Str.{bytes_eq}
use Rattle.statement_listing.specs.Readings.{Instruction, known, varying}
use Rattle.statement_listing.specs.Listings.{Listed, processed}
use Rattle.macro_library.specs.Extents.{behind, is_read}

-- whether an instruction may be COPY when it is processed: it is COPY, or its operation has variable symbols
abbrev pub may_be_copy : Instruction → Bool
may_be_copy (known name op does lasting open_end body) = bytes_eq name (codes "COPY")
may_be_copy (varying op label operands open_end) = true
may_be_copy other = false

abbrev pub may_copy : Listed → Bool
may_copy one = is_read may_be_copy (processed one.statement)

-- whether one of these may that stands in no inner definition, where so many are begun before them
abbrev pub copies_from : (begun : ℕ) → List Listed → Bool
copies_from begun [] = false
copies_from begun (one ∷ rest) = ((begun == 0) && may_copy one) || copies_from (behind begun one) rest

-- whether one of the statements of a definition may
abbrev pub copies_later : List Listed → Bool
copies_later lines = copies_from 0 lines
