-- The tokens of the compact text of a value.
use Rattle.std.specs.Prelude.{ℕ, List, [], ◌∷◌, Option, Some, None}
use Rattle.json.specs.Token.{Token, key}
use Rattle.json.specs.Tree.{items_tokens, json_tokens}
use Rattle.serde_json.specs.Data.{Data, Items}
use Rattle.serde_json.specs.Written.{items_outline, outline}

abbrev pub tokens_of : Data → List Token
tokens_of d = json_tokens (outline d)

-- those of an array's items, with the closing bracket
abbrev pub tokens_of_items : Items → List Token
tokens_of_items ds = items_tokens (items_outline ds)

-- a member of an object, where it is there
abbrev pub tokens_of_member : List ℕ → Option Data → List Token
tokens_of_member name None = []
tokens_of_member name (Some d) = key name ∷ tokens_of d
