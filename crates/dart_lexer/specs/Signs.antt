-- The longest sign at the front of a text, as a function of an ordered table.
use Rattle.std.specs.Prelude.{ℕ, Bool, true, not, ◌&&◌, ◌==◌, nat_le, if◌then◌else◌, [], ◌∷◌, length, Option, Some, None}
use Rattle.std.specs.Str.{bytes_eq}
use Rattle.dart_syntax.specs.declared.token.Sign.{Sign}
use Rattle.dart_syntax.specs.Bytes.{Text}
use Rattle.dart_syntax.specs.Signs.{Table}

-- the text behind a front that it begins with, or None
abbrev pub strip : Text → Text → Option Text
strip [] bs = Some bs
strip (a ∷ text) [] = None
strip (a ∷ text) (b ∷ bs) = if a == b then strip text bs else None

-- this sign with the text behind it, if it was found, and else the other one
abbrev pub sign_or : Option Text → Sign → Option (Sign × Text) → Option (Sign × Text)
sign_or None c other = other
sign_or (Some rest) c other = Some (c, rest)

-- the first sign of the table that the text begins with, and the text behind it
abbrev pub sign_in : Table → Text → Option (Sign × Text)
sign_in [] bs = None
sign_in (e ∷ es) bs = sign_or (strip e.0 bs) e.1 (sign_in es bs)

-- each text is no longer than those before it, and stands there once
abbrev pub no_longer : ℕ → Table → Bool
no_longer n [] = true
no_longer n (e ∷ es) = nat_le (length e.0) n && no_longer n es

-- no sign of the table has this text
abbrev pub lacks : Text → Table → Bool
lacks text [] = true
lacks text (e ∷ es) = not (bytes_eq text e.0) && lacks text es

-- The longer signs stand first, so the first one that fits is the longest.
abbrev pub is_ordered : Table → Bool
is_ordered [] = true
is_ordered (e ∷ es) = no_longer (length e.0) es && lacks e.0 es && is_ordered es
