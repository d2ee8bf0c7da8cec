-- What is read from a heap and written into it beside the built-in members.
use Rattle.std.specs.Prelude.{ℕ, List, [], ◌∷◌, ◌++◌, slice_get, slice_set, slice_index_or, unwrap_or, option_map, Option, None, Some, codes}
use Rattle.std.specs.Fmt.{signed_decimal}
use Rattle.program.specs.declared.numbered.Class.{Class}
use Rattle.dart_values.specs.Values.{Text, Value, null, bool, num, text, at, Thing, object, list, Heap, class_of}
use Rattle.dart_values.specs.Natives.{thing_at, address, bool_text, instance_text}

-- the units of a string; other values have none
abbrev pub text_in : Value → Option Text
text_in (text units) = Some units
text_in _ = None

-- the fields of an object, in their order
abbrev pub object_fields : Option Thing → List Value
object_fields (Some (object class fields)) = fields
object_fields _ = []

-- field k of an object
abbrev pub field_of : Heap → Value → ℕ → Value
field_of heap v k = slice_index_or (object_fields (thing_at heap v)) k null

-- field k of the object at address a is w now
abbrev pub put_field : Option Thing → Heap → ℕ → ℕ → Value → Heap
put_field (Some (object class fields)) heap a k w = slice_set heap a (object class (slice_set fields k w))
put_field _ heap a k w = heap

-- the object's field k is w now
abbrev pub with_field : Heap → Value → ℕ → Value → Heap
with_field heap v k w = put_field (thing_at heap v) heap (address v) k w

-- the elements of a list
abbrev pub items_in : Option Thing → List Value
items_in (Some (list items)) = items
items_in _ = []

-- element k of a list
abbrev pub element_of : Heap → Value → ℕ → Option Value
element_of heap v k = slice_get (items_in (thing_at heap v)) k

-- the strings in order
abbrev pub joined : List Value → Text
joined [] = []
joined (text units ∷ more) = units ++ joined more
joined (_ ∷ more) = joined more

-- the name of a class, or nothing where it is not there
abbrev pub class_name : List Class → ℕ → Text
class_name classes c = unwrap_or (option_map (λ (k : Class). k.name) (slice_get classes c)) []

-- What `throw` tells of a value, without a call.
abbrev pub thrown_text : (ℕ → Text) → Heap → Value → Text
thrown_text names heap null = codes "null"
thrown_text names heap (bool b) = bool_text b
thrown_text names heap (num z) = signed_decimal z
thrown_text names heap (text units) = units
thrown_text names heap (at a) = instance_text (names (class_of heap (at a)))
