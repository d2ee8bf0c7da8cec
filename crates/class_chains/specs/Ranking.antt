-- Ranks of names, and the names above a class.
use Rattle.std.specs.Prelude.{◌≡◌, ℕ, zero, suc, Bool, true, false, ◌||◌, ◌&&◌, nat_eq, nat_le, nat_lt, List, [], ◌++◌, map, option_map, unwrap_or, Option, None, Some}
use Rattle.std.specs.Option.{option_to_list}
use Rattle.std.specs.List.{list_any, list_all}
use Rattle.std.specs.Str.{bytes_eq}
use Rattle.std.specs.HashMap.{HashMap, get_by}
use Rattle.std.specs.Borrow.{Bor}
use Rattle.dart_syntax.specs.declared.tree.Name.{Name}
use Rattle.dart_syntax.specs.declared.tree.ClassDecl as src
use Rattle.dart_syntax.specs.Syntax.{ClassDecl}
use Rattle.dart_syntax.specs.Bytes.{Text}
use Rattle.dart_meaning.specs.Classes.{object, parent_of}
use Rattle.dart_syntax.specs.declared.token.Span.{Span}
use Rattle.class_chains.specs.declared.reaching.Reached.{Reached}
use Rattle.static_rules.specs.Places.{Fault, at_if}
use Rattle.declaration_rules.specs.Seen.{class_of}
use Rattle.declaration_rules.specs.Finding.{Find}
use Rattle.static_rules.specs.Supers.{supers}

-- ---- ranks: where they fall from a class to each one above it, there is no cycle

-- a number for each name
abbrev pub Rank : Type 0
Rank = Text → ℕ

-- the ranks that a map of src/ holds, 0 for other names
abbrev pub rank_in : {S : Type 0} → HashMap (Bor Text) ℕ S → Rank
rank_in m q = unwrap_or (get_by (λ k. bytes_eq q k.now) m) 0

-- no class named after `extends` or `implements` has a greater rank
abbrev pub keeps : Rank → ClassDecl → Bool
keeps rank c = list_all (λ (n : Name). nat_le (rank n.text) (rank c.name.text)) (supers c)

-- each has a lesser one
abbrev pub falls : Rank → ClassDecl → Bool
falls rank c = list_all (λ (n : Name). nat_lt (rank n.text) (rank c.name.text)) (supers c)

-- no rank rises on the way up, and none is below that of Object
abbrev pub tells : Rank → List (Bor src.ClassDecl) → Bool
tells rank cs = nat_eq (rank object) 0 && list_all (λ c. keeps rank (class_of c)) cs

-- ---- the classes above one, by a map from names

abbrev pub name_texts : List Name → List Text
name_texts = map (λ (n : Name). n.text)

-- the name behind `extends`, or Object where none is written
abbrev pub parent_text : Option Name → Text
parent_text o = unwrap_or (option_map (λ (n : Name). n.text) o) object

-- the names behind `implements`, of a class that is known
abbrev pub interfaces_in : Option ClassDecl → List Text
interfaces_in o = unwrap_or (option_map (λ (c : ClassDecl). name_texts c.interfaces) o) []

-- the names directly above a class
abbrev pub above_of : Find → Text → List Text
above_of find q = option_to_list (parent_of (find q) q) ++ interfaces_in (find q)

-- a class is another one, or leads up to it in less than so many steps
abbrev pub reaches : ℕ → Find → Text → Text → Bool
reaches zero find class other = false
reaches (suc n) find class other = bytes_eq class other || list_any (λ c. reaches n find c other) (above_of find class)

abbrev pub texts : List Reached → List Text
texts = map (λ (r : Reached). r.text.now)

-- a class leads up to itself by the names that stand in its head
abbrev pub is_above_itself_by : ℕ → Find → ClassDecl → Bool
is_above_itself_by most find c = list_any (λ (n : Name). reaches most find n.text c.name.text) (supers c)

-- the place of a class that does
abbrev pub cycle_at : ℕ → Find → ClassDecl → Fault
cycle_at most find c = at_if (is_above_itself_by most find c) c.name.span

-- a place stands before another one, if there is one
abbrev pub is_earlier : Span → Fault → Bool
is_earlier place None = true
is_earlier place (Some other) = nat_lt place.start other.start

-- what falling ranks tell of a class
abbrev pub AreTold : ℕ → Rank → Find → Type 0
AreTold most rank find = (c : ClassDecl) → falls rank c ≡ true → is_above_itself_by most find c ≡ false

-- each name that was there before is one of these
abbrev pub AreIn : (Text → Bool) → List Text → Type 0
AreIn seen xs = (q : Text) → seen q ≡ true → list_any (λ x. bytes_eq x q) xs ≡ true
