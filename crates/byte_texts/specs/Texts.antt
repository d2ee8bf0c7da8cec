-- Texts of code units as bytes.
use Rattle.std.specs.Prelude.{ℕ, List}
use Rattle.std.specs.Char.Utf16.{utf16_lossy_chars}
use Rattle.std.specs.Str.{encode_utf8_all}

-- UTF-16 as UTF-8: a high surrogate directly before a low one is one character with it, and any other surrogate is written as U+FFFD
unfoldable pub utf8_of : List ℕ → List ℕ
utf8_of units = encode_utf8_all (utf16_lossy_chars units)
