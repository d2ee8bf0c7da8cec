-- What the maps of a tree tell is what the tree has.
use Rattle.std.proofs.Common.{◌≡◌, ℕ, suc, ◌+◌, false, ◌||◌, ◌&&◌, not, List, [], ◌++◌, map, length, is_some, option_map, Option, None, Some, refl, ◌∙◌, ap, unwrap_or, bytes_eq, arith}
use Rattle.std.specs.Prelude.{flat_map, filter_map, find, position, slice_index_or, reverse}
use Rattle.std.proofs.Math.Logic.{∥∥₁_elim}
use Rattle.std.proofs.Props.{props}
use Rattle.dart_syntax.specs.Syntax.{Tree, ClassDecl, Function, Local, Top}
use Rattle.dart_syntax.specs.Bytes.{Text}
use Rattle.program.specs.declared.numbered.Method.{Method}
use Rattle.program.specs.declared.numbered.SelectorKind.{SelectorKind}
use Rattle.program.specs.BuiltIn.{built_in_members}
use Rattle.dart_meaning.specs.Classes.{object, classes, function_at, variable_at, class_named, class_names, class_number, built_in_names, parent, children, preorder, own, own_fields, declared_fields, fields_above, chain_above, field_of, is_own_member, class_declares, is_constructed, variable_place}
use Rattle.dart_meaning.specs.Numbering.{Key, key, same_key, all_keys, member_keys, built_in_key, member_number, function_number}
use Rattle.tree_numbers.specs.Maps.{Known, nothing_known}
use Rattle.tree_numbers.specs.Parts.{function_name, variable_name}
use Rattle.tree_numbers.specs.Places.{also_placed}
use Rattle.tree_numbers.specs.ClassFacts.{Facts, facts, also_classes}
use Rattle.tree_numbers.specs.Order.{above_in, no_children, also_below, ordered}
use Rattle.tree_numbers.specs.Members.{Held, no_members, also_keyed, keys_in}
use Rattle.tree_numbers.specs.Walks.{fields_up, owns_by, owner_up}
use Rattle.tree_numbers.specs.Asked.{known_of, has_name, declares_in, is_made, own_place}
use Rattle.tree_numbers.specs.Exact.{IsExact}
use Rattle.tree_numbers.proofs.Kept as kept
use Rattle.tree_numbers.proofs.Pairs as pairs
use Rattle.tree_numbers.proofs.Preorder as preorders
use Rattle.tree_numbers.proofs.Climbing.{above_is, chain_is, fields_are, owner_is, owns_are}

one_more : (n : ℕ) → suc (6 + n) ≡ 7 + n
one_more n = omega arith

-- the order that src/ finds
abbrev pub order_by : ℕ → (Text → Option Text) → List ClassDecl → List Text
order_by levels above cs = built_in_names ++ flat_map (ordered (suc levels) (also_below above cs no_children)) (also_below above cs no_children object)

order_are : (tree : Tree) → order_by (6 + length (classes tree)) (parent tree) (classes tree) ≡ class_names tree
order_are tree =
    ap (λ below. built_in_names ++ flat_map (ordered (suc (6 + length (classes tree))) below) (below object)) (preorders.children_are tree)
    ∙ ap (λ f. built_in_names ++ flat_map f (children tree object)) (λ i name. preorders.preorder_is tree (suc (6 + length (classes tree))) name i)
    ∙ ap (λ n. built_in_names ++ flat_map (preorder n tree) (children tree object)) (one_more (length (classes tree)))

-- what was built is exact
module _ (tree : Tree) (ts : List Top) (cs : List ClassDecl) (all_tops : ts ≡ tree.tops) (all_classes : cs ≡ classes tree) where
  pub known_is : (known : Known Facts) → known ≡ also_classes cs nothing_known → known ≡ known_of tree
  known_is known e = e ∙ ap (λ xs. also_classes xs nothing_known) all_classes ∙ (λ i q. kept.classes_are tree q i)

  pub levels_is : (levels n : ℕ) → levels ≡ 6 + n → n ≡ length cs → levels ≡ 6 + length (classes tree)
  levels_is levels n e f = e ∙ ap (λ k. 6 + k) (f ∙ ap length all_classes)

  pub order_is : (known : Known Facts) (levels : ℕ) (order : List Text) → known ≡ known_of tree → levels ≡ 6 + length (classes tree) → order ≡ order_by levels (above_in known) cs → order ≡ class_names tree
  order_is known levels order k l e =
      e ∙ ap (λ m. order_by levels (above_in m) cs) k ∙ ap (λ a. order_by levels a cs) (above_is tree) ∙ ap (λ xs. order_by levels (parent tree) xs) all_classes
      ∙ ap (λ n. order_by n (parent tree) (classes tree)) l ∙ order_are tree

  pub numbers_is : (order : List Text) (numbers : Known ℕ) → order ≡ class_names tree → numbers ≡ also_placed 0 order nothing_known → (q : Text) → numbers q ≡ position (bytes_eq q) (class_names tree)
  numbers_is order numbers o e q =
      ap (λ (m : Known ℕ). m q) e ∙ kept.places_are order q ∙ pairs.position_swap q order ∙ ap (position (bytes_eq q)) o

  abbrev key_at : List Text → Method → Key
  key_at order m = key (slice_index_or order m.owner.0 []) m.role m.name

  keys_are : (ks : List ClassDecl) → flat_map keys_in ks ≡ flat_map (λ (k : ClassDecl). flat_map (member_keys k.name.text) k.members) ks
  unfolding keys_in
  keys_are ks = refl

  pub members_is : (order : List Text) (ms : List Method) (keys : List Key) (members : Held) → order ≡ class_names tree → ms ≡ built_in_members → keys ≡ map (key_at order) ms ++ flat_map keys_in cs
      → members ≡ also_keyed 0 keys no_members → (k : Key) → members k ≡ position (same_key k) (all_keys tree)
  members_is order ms keys members o b e m k =
      ap (λ (h : Held). h k) m ∙ pairs.numbers_are keys k
      ∙ ap (position (same_key k)) (e ∙ ap (λ xs. map (key_at xs) ms ++ flat_map keys_in cs) o ∙ ap (λ xs. map (key_at (class_names tree)) xs ++ flat_map keys_in cs) b
      ∙ ap (λ xs. map (built_in_key tree) built_in_members ++ flat_map keys_in xs) all_classes ∙ ap (λ xs. map (built_in_key tree) built_in_members ++ xs) (keys_are (classes tree)))

  pub functions_is : (names : List Text) (places : Known ℕ) → names ≡ filter_map function_name ts → places ≡ also_placed 0 names nothing_known → (q : Text) → places q ≡ function_number tree q
  functions_is names places e f q =
      ap (λ (m : Known ℕ). m q) f ∙ ap (λ xs. also_placed 0 xs nothing_known q) (e ∙ ap (filter_map function_name) all_tops) ∙ kept.named_places (λ (g : Function). g.name.text) function_at tree.tops q

  pub variables_is : (names : List Text) (places : Known ℕ) → names ≡ filter_map variable_name ts → places ≡ also_placed 0 names nothing_known → (q : Text) → places q ≡ variable_place tree q
  variables_is names places e f q =
      ap (λ (m : Known ℕ). m q) f ∙ ap (λ xs. also_placed 0 xs nothing_known q) (e ∙ ap (filter_map variable_name) all_tops) ∙ kept.named_places (λ (v : Local). v.name.text) variable_at tree.tops q

-- ---- what is asked

declares_are : (tree : Tree) (here : Option Text) (q : Text) → declares_in (known_of tree) here q ≡ class_declares tree here q
declares_are tree None q = refl
declares_are tree (Some h) q = elim (class_named tree h) as (λ o. has_name (option_map facts o) q ≡ is_own_member o q) [
  | None ↦ refl
  | Some c ↦ kept.members_are q c.members
]

made_are : (q : Text) (o : Option ClassDecl) → (bytes_eq q object || is_made (option_map facts o)) ≡ (bytes_eq q object || is_some o && not (unwrap_or (option_map (λ (c : ClassDecl). c.is_abstract) o) false))
made_are q None = refl
made_are q (Some c) = refl

places_are : (o : Option ClassDecl) (q : Text) → own_place (option_map facts o) q ≡ unwrap_or (position (λ (f : Local). bytes_eq f.name.text q) (declared_fields o)) 0
places_are None q = refl
places_are (Some c) q = ap (λ o. unwrap_or o 0) (kept.named_places (λ (f : Local). f.name.text) field_of c.members q)

module _ (tree : Tree) (built_in : List Method) (known : Known Facts) (levels : ℕ) (order : List Text) (numbers : Known ℕ) (members : Held) (functions variables : Known ℕ) (exact : ∥ IsExact tree built_in known levels order numbers members functions variables ∥₁) where
  known_all : IsExact tree built_in known levels order numbers members functions variables → known ≡ known_of tree
  known_all e i q = e.classes_are q i

  pub order_told : order ≡ class_names tree
  order_told = ∥∥₁_elim exact (hlevel props) (λ e. e.order_is)

  pub number_told : (q : Text) → unwrap_or (numbers q) 0 ≡ class_number tree q
  number_told q = ∥∥₁_elim exact (hlevel props) (λ e. ap (λ o. unwrap_or o 0) (e.numbers_are q))

  pub function_told : (q : Text) → functions q ≡ function_number tree q
  function_told q = ∥∥₁_elim exact (hlevel props) (λ e. e.functions_are q)

  pub variable_told : (q : Text) → variables q ≡ variable_place tree q
  variable_told q = ∥∥₁_elim exact (hlevel props) (λ e. e.variables_are q)

  pub member_told : (k : Key) → unwrap_or (members k) 0 ≡ member_number tree k.class k.kind k.name
  member_told k = ∥∥₁_elim exact (hlevel props) (λ e. ap (λ o. unwrap_or o 0) (e.members_are k))

  pub above_told : (q : Text) → above_in known q ≡ parent tree q
  above_told q = ∥∥₁_elim exact (hlevel props) (λ e. ap (λ m. above_in m q) (known_all e) ∙ ap (λ (a : Text → Option Text). a q) (above_is tree))

  pub declares_told : (here : Option Text) (q : Text) → declares_in known here q ≡ class_declares tree here q
  declares_told here q = ∥∥₁_elim exact (hlevel props) (λ e. ap (λ m. declares_in m here q) (known_all e) ∙ declares_are tree here q)

  pub constructed_told : (q : Text) → (bytes_eq q object || is_made (known q)) ≡ is_constructed tree q
  constructed_told q = ∥∥₁_elim exact (hlevel props) (λ e. ap (λ o. bytes_eq q object || is_made o) (e.classes_are q) ∙ made_are q (class_named tree q))

  pub above_count_told : (q : Text) → fields_up levels known q ≡ length (fields_above tree q)
  above_count_told q = ∥∥₁_elim exact (hlevel props) (λ e.
      ap (λ n. fields_up n known q) e.levels_are ∙ ap (λ m. fields_up (6 + length (classes tree)) m q) (known_all e) ∙ fields_are tree (6 + length (classes tree)) q
      ∙ ap (λ cs. length (flat_map (own_fields tree) (reverse cs))) (chain_is tree q))

  pub place_told : (class q : Text) → own_place (known class) q ≡ unwrap_or (position (λ (f : Local). bytes_eq f.name.text q) (own_fields tree class)) 0
  place_told class q = ∥∥₁_elim exact (hlevel props) (λ e. ap (λ o. own_place o q) (e.classes_are class) ∙ places_are (class_named tree class) q)

  pub owner_told : (class : Text) (kind : SelectorKind) (name : Text) → owner_up levels (owns_by built_in known kind name) (above_in known) class ≡ unwrap_or (find (λ c. is_some (own tree c kind name)) (chain_above tree class)) []
  owner_told class kind name = ∥∥₁_elim exact (hlevel props) (λ e.
      ap (λ n. owner_up n (owns_by built_in known kind name) (above_in known) class) e.levels_are
      ∙ ap (λ ms. owner_up (6 + length (classes tree)) (owns_by ms known kind name) (above_in known) class) e.built_in_are
      ∙ ap (λ m. owner_up (6 + length (classes tree)) (owns_by built_in_members m kind name) (above_in m) class) (known_all e)
      ∙ ap (λ a. owner_up (6 + length (classes tree)) (owns_by built_in_members (known_of tree) kind name) a class) (above_is tree)
      ∙ ap (λ p. owner_up (6 + length (classes tree)) p (parent tree) class) (λ i c. owns_are tree c kind name i)
      ∙ owner_is tree (λ c. is_some (own tree c kind name)) (6 + length (classes tree)) class
      ∙ ap (λ cs. unwrap_or (find (λ c. is_some (own tree c kind name)) cs) []) (chain_is tree class))
