-- What a class table tells.
use Rattle.std.specs.Prelude.{◌≡◌, ℕ, ◌<◌, ◌≤◌, Bool, List, length, map}
use Rattle.program.specs.declared.numbered.Class.{Class}
use Rattle.program.specs.Hierarchy.{Parents, Supers, IsPreorder}
use Rattle.program.specs.Parts.{parents, supers}
use Rattle.class_table.specs.Lasts.{AreLasts}
use Rattle.class_table.specs.Rows.{AreRows, IsFilled}

-- for each class its name, the class above it, whether it is abstract, and the classes that it names behind `extends` and `implements`
pub record Table : Type 0 where
  pub names : List (List ℕ)
  pub parents : Parents
  pub abstracts : List Bool
  pub named : Supers

-- the table of a program's classes
abbrev pub table_of : List Class → Table
table_of classes = record { names = map (λ k. k.name) classes; parents = parents classes; abstracts = map (λ k. k.is_abstract) classes; named = supers classes }

-- what is true of the fields of a class table
pub record IsTable (names : List (List ℕ)) (up : Parents) (abstracts : List Bool) (named : Supers) (last : List ℕ) (above : List (List ℕ)) : Type 0 where
  pub order : IsPreorder up
  pub few : length up ≤ 2048
  pub each_name : length names ≡ length up
  pub each_flag : length abstracts ≡ length up
  pub each_named : length named ≡ length up
  pub lasts : AreLasts up last
  pub each_row : length above ≡ length up
  pub rows : AreRows named above
  pub filled : (c : ℕ) → c < length up → IsFilled above c
