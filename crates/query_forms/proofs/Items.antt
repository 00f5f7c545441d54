-- The items of an array, one after the other.
use Rattle.std.proofs.Common.{◌≡◌, List, [], ◌∷◌, map, refl, ap}
use Rattle.serde_json.specs.Data.{Data, item}
use Rattle.serde_json.specs.View.{items_of, view}
use Rattle.serde_json.specs.declared.value.Value.{Value}
use Rattle.query_forms.specs.Forms.{each_item}

pub each_item_view : (f : Data → Data) (vs : List Value) → items_of (map (λ v. f (view v)) vs) ≡ each_item f (items_of (map view vs))
each_item_view f [] = refl
each_item_view f (v ∷ vs) = ap (item (f (view v))) (each_item_view f vs)
