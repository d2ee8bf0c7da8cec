-- What each use of a body gives: of what its name, its operator or its word stands for, what a sound body in the numbered program needs.
use Rattle.std.specs.Prelude.{◌≡◌, ℕ, ◌<◌, Bool, true, false, IsTrue, List, [], ◌∷◌, length, slice_get, Option, None, Some, is_some, codes}
use Rattle.std.specs.Str.{bytes_eq}
use Rattle.dart_syntax.specs.declared.tree.Name.{Name}
use Rattle.dart_syntax.specs.Syntax.{Tree}
use Rattle.program.specs.declared.numbered.Selector.{Selector}
use Rattle.program.specs.BuiltIn.{is_open}
use Rattle.program.specs.Parts.{Parts, selector_at}
use Rattle.program.specs.Sound.{FunctionAccepts, MakeAccepts, binary_name}
use Rattle.dart_values.specs.Values.{Text}
use Rattle.dart_meaning.specs.declared.seen.Seen.{Seen}
use Rattle.dart_meaning.specs.declared.seen.Seen.TheVariants.{Late, Ready}
use Rattle.dart_meaning.specs.Place.{Place, reading, writing}
use Rattle.dart_meaning.specs.Program.{calling, getting, setting, to_string}
use Rattle.dart_meaning.specs.Classes.{class_declares, class_number, is_constructed, variable_place}
use Rattle.dart_meaning.specs.Meaning.{Owner, of_body, of_this, of_unit, owner_by}
use Rattle.dart_meaning.specs.Numbering as num
use Rattle.dart_meaning.specs.Sites.{site_of, prefix_name}
use Rattle.dart_meaning.specs.Uses.{Use, reads, writes, calls, this_at, super_reads, super_writes, super_calls, member_reads, member_writes, member_calls, index_reads, index_writes, operates, prefixes, shows, names_class, leaves_loop, returns_value}
use Rattle.accepted_trees.proofs.bodies.Tables.{ReachesAbove}

-- `here` is the class that holds the body, if any, and `me` its number, where there is a `this`; `answers` says whether a `return` may have a value.
module _ (tree : Tree) (p : Parts) (here : Option Text) (me : Option ℕ) (answers : Bool) where
  abbrev pub HasThis : Type 0
  HasThis = IsTrue (is_some me)

  -- the site at a place has this selector
  abbrev pub Asks : Place → Selector → Type 0
  Asks place sel = selector_at p (site_of tree place) ≡ Some sel

  abbrev pub AsksThis : Place → Selector → Type 0
  AsksThis place sel = HasThis × Asks place sel

  -- a bare name that is read or written, and that no local has
  abbrev pub FineOutside : Owner → Text → Place → Selector → Type 0
  FineOutside of_body name place sel = Unit {0}
  FineOutside of_this name place sel = AsksThis place sel
  FineOutside of_unit name place sel = num.variable tree (site_of tree) here name < length p.globals

  abbrev pub FineName : Option Seen → Text → Place → Selector → Type 0
  FineName (Some Late) name place sel = ⊥
  FineName (Some (Ready is_final)) name place sel = Unit {0}
  FineName None name place sel = FineOutside (owner_by false (class_declares tree here name) (is_some (variable_place tree name))) name place sel

  -- a bare name that is called with so many arguments: whether the class declares it, the function of this name, whether it is a class, and whether it is `print`
  abbrev pub FineCall : Bool → Option ℕ → Bool → Bool → Name → ℕ → Type 0
  FineCall true f is_class is_print n k = AsksThis (reading n.span.start) (calling n.text k)
  FineCall false (Some f) is_class is_print n k = FunctionAccepts k (slice_get p.functions f)
  FineCall false None true is_print n k = IsTrue (is_open (class_number tree n.text)) × MakeAccepts k (slice_get p.classes (class_number tree n.text))
  FineCall false None false true n k = k ≡ 1
  FineCall false None false false n k = AsksThis (reading n.span.start) (calling n.text k)

  abbrev pub Fine : Use → Type 0
  Fine (reads n seen) = FineName seen n.text (reading n.span.start) (getting n.text)
  Fine (writes n seen) = FineName seen n.text (writing n.span.start) (setting n.text)
  Fine (calls n seen k) = FineCall (class_declares tree here n.text) (num.function_number tree n.text) (is_constructed tree n.text) (bytes_eq n.text (codes "print")) n k
  Fine (this_at at) = HasThis
  Fine (super_reads at n) = ReachesAbove tree p here me (getting n.text)
  Fine (super_writes at n) = ReachesAbove tree p here me (setting n.text)
  Fine (super_calls at n k) = ReachesAbove tree p here me (calling n.text k)
  Fine (member_reads n) = Asks (reading n.span.start) (getting n.text)
  Fine (member_writes n) = Asks (writing n.span.start) (setting n.text)
  Fine (member_calls n k) = Asks (reading n.span.start) (calling n.text k)
  Fine (index_reads at) = Asks (reading at.start) (calling (codes "[]") 1)
  Fine (index_writes at) = Asks (writing at.start) (calling (codes "[]=") 2)
  Fine (operates op at) = Asks (reading at.start) (calling (binary_name op) 1)
  Fine (prefixes op at) = Asks (reading at.start) (calling (prefix_name op) 0)
  Fine (shows at) = Asks (reading at.start) to_string
  Fine (names_class n) = class_number tree n.text < length p.classes
  Fine (leaves_loop at loops) = IsTrue loops
  Fine (returns_value at) = IsTrue answers
  Fine _ = Unit {0}

  abbrev pub AllFine : List Use → Type 0
  AllFine [] = Unit {0}
  AllFine (x ∷ more) = Fine x × AllFine more
