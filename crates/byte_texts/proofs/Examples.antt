-- Small texts, as bytes.
use Rattle.std.proofs.Common.{◌≡◌, [], ◌∷◌, refl}
use Rattle.std.specs.Char.Utf16.{utf16_chars}
use Rattle.std.specs.Char.{encode_utf8}
use Rattle.byte_texts.specs.Texts.{utf8_of}

-- `hé`
two : utf8_of (104 ∷ 233 ∷ []) ≡ 104 ∷ 195 ∷ 169 ∷ []
unfolding utf8_of utf16_chars encode_utf8
two = refl

-- a pair is one character
pair : utf8_of (0xD83D ∷ 0xDE00 ∷ []) ≡ 0xF0 ∷ 0x9F ∷ 0x98 ∷ 0x80 ∷ []
unfolding utf8_of utf16_chars encode_utf8
pair = refl

-- a low surrogate before a high one, and then a letter: two surrogates without a partner
lone : utf8_of (0xDE00 ∷ 0xD83D ∷ 120 ∷ []) ≡ 0xEF ∷ 0xBF ∷ 0xBD ∷ 0xEF ∷ 0xBF ∷ 0xBD ∷ 120 ∷ []
unfolding utf8_of utf16_chars encode_utf8
lone = refl
