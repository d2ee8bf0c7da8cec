-- What is assigned to is sound, where it is written and where it is read before.
use Rattle.std.proofs.Common.{ℕ, ◌<◌, Bool, true, false, length}
use Rattle.std.specs.Prelude.{Option, codes}
use Rattle.dart_syntax.specs.Syntax.{Tree}
use Rattle.program.specs.declared.numbered.SelectorKind.TheVariants.{Call, Get, Set}
use Rattle.program.specs.Parts.{Parts, selector_at}
use Rattle.program.specs.Sound.{Sound, SoundTarget, SoundUpdate, Is, IsOf, IsAbove}
use Rattle.dart_values.specs.Values.{Text}
use Rattle.dart_meaning.specs.Place.{Place, reading, writing}
use Rattle.dart_meaning.specs.Agree.{Where}
use Rattle.dart_meaning.specs.Numbering as num
use Rattle.dart_meaning.specs.Numbering.{Assignable}
use Rattle.dart_meaning.specs.Sites.{site_of}

module _ (tree : Tree) (p : Parts) (here : Option Text) (me : Option ℕ) where
  abbrev at : Place → ℕ
  at = site_of tree

  -- With so many slots open, what writes it fits, and what reads it, where it is read before.
  abbrev pub SoundAssignable : Bool → ℕ → Assignable → Type 0
  SoundAssignable reads_too slots (num.a_local k) = k < slots
  SoundAssignable reads_too slots (num.a_global k) = k < length p.globals
  SoundAssignable reads_too slots (num.a_super name) = Where reads_too (IsAbove p me Get 0 (num.super_number tree at here Get name)) × IsAbove p me Set 1 (num.super_number tree at here Set name)
  SoundAssignable reads_too slots (num.a_member e span) =
      Where reads_too (IsOf Get 0 (selector_at p (at (reading span.start)))) × IsOf Set 1 (selector_at p (at (writing span.start))) × Sound p me slots e
  SoundAssignable reads_too slots (num.an_element e i span) =
      Where reads_too (Is Call (codes "[]") 1 (selector_at p (at (reading span.start)))) × Is Call (codes "[]=") 2 (selector_at p (at (writing span.start))) × Sound p me slots e × Sound p me slots i

  pub sound_target : (slots : ℕ) (to : Assignable) → SoundAssignable false slots to → SoundTarget p me slots (num.target_of tree at here to)
  sound_target slots (num.a_local k) s = s
  sound_target slots (num.a_global k) s = s
  sound_target slots (num.a_super name) s = s.1
  sound_target slots (num.a_member e span) (read, write, s) = (write, s)
  sound_target slots (num.an_element e i span) (read, write, s, r) = (write, s, r)

  pub sound_update : (slots : ℕ) (to : Assignable) → SoundAssignable true slots to → SoundUpdate p me slots (num.update_of tree at here to)
  sound_update slots (num.a_local k) s = s
  sound_update slots (num.a_global k) s = s
  sound_update slots (num.a_super name) s = s
  sound_update slots (num.a_member e span) s = s
  sound_update slots (num.an_element e i span) s = s
