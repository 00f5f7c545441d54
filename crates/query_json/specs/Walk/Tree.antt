-- The data that serde_json makes of a tree of json: numbers have values, and the last value of a name stays.
use Rattle.std.specs.Prelude.{◌&&◌, List, map, Bool, true, false, Option, Some, None, is_some}
use Rattle.json.specs.Json as json
use Rattle.json.specs.Value.{value_view}
use Rattle.json.specs.declared.value.Value.{Value}
use Rattle.serde_json.specs.Data.{Num, Data, null, boolean, number, string, array, object, Items, no_items, item, Members, no_members, put}
use Rattle.serde_json.specs.Read.{number_of}
use Rattle.serde_json.specs.View.{items_of}

-- a number that is too large has no value, and then serde_json reads no file
abbrev pub number_data : Option Num → Data
number_data None = boolean false
number_data (Some n) = number n

abbrev mutual
  pub data_of : json.Json → Data
  data_of json.null = null
  data_of (json.boolean b) = boolean b
  data_of (json.number s) = number_data (number_of s)
  data_of (json.string s) = string s
  data_of (json.array js) = array (items_data js)
  data_of (json.object ms) = object (members_data ms no_members)

  pub items_data : json.Items → Items
  items_data json.no_items = no_items
  items_data (json.item j js) = item (data_of j) (items_data js)

  pub members_data : json.Members → Members → Members
  members_data json.no_members found = found
  members_data (json.member k j ms) found = members_data ms (put k (data_of j) found)

-- each number has a value
abbrev mutual
  pub numbers_fit : json.Json → Bool
  numbers_fit json.null = true
  numbers_fit (json.boolean b) = true
  numbers_fit (json.number s) = is_some (number_of s)
  numbers_fit (json.string s) = true
  numbers_fit (json.array js) = items_fit js
  numbers_fit (json.object ms) = members_fit ms

  pub items_fit : json.Items → Bool
  items_fit json.no_items = true
  items_fit (json.item j js) = numbers_fit j && items_fit js

  pub members_fit : json.Members → Bool
  members_fit json.no_members = true
  members_fit (json.member k j ms) = numbers_fit j && members_fit ms

abbrev pub seen : {A : Type 0} → Value A → Data
seen v = data_of (value_view v)

abbrev pub seen_items : {A : Type 0} → List (Value A) → Items
seen_items vs = items_of (map seen vs)
