-- What the bytes of a certificate file read as.
use Rattle.std.proofs.Common.{◌≡◌, ℕ, List, Bool, true, false, cond, Option, None, refl}
use Rattle.std.specs.Str.{IsUtf8, is_utf8}
use Rattle.std.proofs.lemmas.Str.{IsUtf8-from_is_utf8, is_utf8-from_IsUtf8}
use Rattle.serde_json.specs.Data.{Data}
use Rattle.serde_json.specs.Read.{read}
use Rattle.query_json.specs.Walk.{json_of}

pub json_text : (bytes : List ℕ) → IsUtf8 bytes → json_of bytes ≡ read bytes
json_text bytes text = rw (is_utf8-from_IsUtf8 bytes text) refl

none_by : (b : Bool) (said : Option Data) → (b ≡ true → said ≡ None) → cond b said None ≡ None
none_by true said h = h refl
none_by false said h = refl

pub json_none : (bytes : List ℕ) → (IsUtf8 bytes → read bytes ≡ None) → json_of bytes ≡ None
json_none bytes h = none_by (is_utf8 bytes) (read bytes) (λ e. h (IsUtf8-from_is_utf8 bytes e))
