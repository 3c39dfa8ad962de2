-- The tokens of a value, as they are written. No public clause cites this file. This project.
use Rattle.std.specs.Prelude.{List}
use Rattle.json.specs.Token.{Token}
use Rattle.json.specs.Tree.{json_tokens, items_tokens}
use Rattle.serde_json.specs.Data.{Data, Items}
use Rattle.serde_json.specs.Written.{outline, items_outline}

-- the tokens of a value that has no float
abbrev pub tokens_of : Data → List Token
tokens_of value = json_tokens (outline value)

-- those of the items that are left of a list, with its bracket
abbrev pub tokens_left : Items → List Token
tokens_left items = items_tokens (items_outline items)
