-- What a definition names follows from what it says.
use Rattle.std.proofs.Common.{◌≡◌, ◌∷◌, [], zero, suc, lit<}
use Rattle.std.specs.Str.{IsAscii, chars}
use Rattle.std.proofs.lemmas.Str.{chars-IsAscii}
use Rattle.macro_library.specs.Contents.{content_of, copies_later_in, variables_in}
use Rattle.macro_library.specs.Definitions.{Definition}
use Rattle.macro_library.specs.Later.{copies_later}
use Rattle.macro_library.specs.Variables.{variables_of}
use Rattle.macro_library.proofs.ContentLaws.{copies_later_in-content, variables_in-content}

pub variables_said : (d : Definition) → variables_in (content_of d) ≡ variables_of d.list
variables_said d = variables_in-content d

pub copies_said : (d : Definition) → copies_later_in (content_of d) ≡ copies_later d.list
copies_said d = copies_later_in-content d

-- a zero is one character
zero_is_ascii : IsAscii (48 ∷ [])
zero_is_ascii zero = lit< tt
zero_is_ascii (suc i) = lit< tt

pub zero_spelled : chars (48 ∷ []) ≡ 48 ∷ []
zero_spelled = chars-IsAscii (48 ∷ []) zero_is_ascii
