-- What src/ says that a bare name means.
use Rattle.name_uses.specs.declared.names.Means.{Means}
use Rattle.name_uses.specs.declared.names.Means.TheVariants as v
use Rattle.dart_meaning.specs.Means as m

-- a meaning, as src/ has it
abbrev pub means_of : Means → m.Means
means_of v.TooEarly = m.too_early
means_of (v.ALocal is_final) = m.a_local is_final
means_of v.AMember = m.a_member
means_of v.ATop = m.a_top
means_of v.OfThis = m.of_this
means_of v.Nothing = m.nothing
