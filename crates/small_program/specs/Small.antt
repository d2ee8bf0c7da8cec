-- Which small programs have a numbered program.
use Rattle.std.specs.Prelude.{◌≢◌, ℕ, ◌<◌, ◌≤◌, Bool, length, codes}
use Rattle.std.specs.List.{AllByRecursion, sum_by}
use Rattle.std.specs.Str.{IsAscii, bytes_eq}
use Rattle.program.specs.Whole.{AreDistinct}
use Rattle.small_program.specs.declared.small.SmallMethod.{SmallMethod}
use Rattle.small_program.specs.declared.small.SmallClass.{SmallClass}
use Rattle.small_program.specs.declared.small.SmallPrint.{SmallPrint}
use Rattle.small_program.specs.declared.small.Small.{Small}

-- A `noSuchMethod` would take an argument.
pub record IsSmallMethod (m : SmallMethod) : Type 0 where
  pub text : IsAscii m.name
  pub named : m.name ≢ codes "noSuchMethod"

-- two methods of one name, which no class may have
abbrev pub same_name : SmallMethod → SmallMethod → Bool
same_name a b = bytes_eq a.name b.name

-- no two methods of a class have one name
pub record IsSmallClass (k : SmallClass) : Type 0 where
  pub text : IsAscii k.name
  pub methods : AllByRecursion IsSmallMethod k.methods
  pub differ : AreDistinct same_name k.methods

-- a call on one of so many classes
pub record IsSmallPrint (classes : ℕ) (p : SmallPrint) : Type 0 where
  pub class : p.class < classes
  pub text : IsAscii p.method

-- how many methods the classes have
abbrev pub methods_in : Small → ℕ
methods_in s = sum_by (λ (k : SmallClass). length k.methods) s.classes

-- The bounds leave room for the built-in classes and members.
pub record IsSmall (s : Small) : Type 0 where
  pub classes : AllByRecursion IsSmallClass s.classes
  pub prints : AllByRecursion (IsSmallPrint (length s.classes)) s.prints
  pub few_classes : length s.classes ≤ 2041
  pub few_methods : methods_in s ≤ 32718
  pub few_prints : length s.prints ≤ 2047
