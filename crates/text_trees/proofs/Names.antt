-- Names are ASCII.
use Rattle.std.proofs.Common.{◌≡◌, ℕ, true, not, ◌&&◌, nat_lt, [], ◌∷◌, is_none, refl, arith}
use Rattle.std.specs.List.{list_all}
use Rattle.std.proofs.lemmas.Bool.Decides.{nat_tests}
use Rattle.dart_syntax.specs.declared.byte_kind.ByteKind.TheVariants as byte
use Rattle.dart_syntax.specs.Bytes.{Text, is_in}
use Rattle.dart_syntax.specs.Names.{keyword_of, is_reserved, is_name}
use Rattle.dart_printer.proofs.Marks.{in_ascii, both_true, ascii_is}
use Rattle.text_trees.specs.Written.{IsWrittenName}

start_low : (b : ℕ) → is_in byte.Start b ≡ true → nat_lt b 128 ≡ true
start_low b h = grind (arith, nat_tests, h)

part_low : (b : ℕ) → is_in byte.Part b ≡ true → nat_lt b 128 ≡ true
part_low b h = grind (arith, nat_tests, h)

parts_low : (bs : Text) → list_all (is_in byte.Part) bs ≡ true → in_ascii bs ≡ true
parts_low [] h = refl
parts_low (b ∷ bs) h = let p = both_true (is_in byte.Part b) (list_all (is_in byte.Part) bs) h in rw (part_low b p.0) (parts_low bs p.1)

pub name_low : (text : Text) → is_name text ≡ true → in_ascii text ≡ true
name_low [] h = refl
name_low (b ∷ bs) h =
    let p = both_true (is_in byte.Start b && list_all (is_in byte.Part) bs && is_none (keyword_of (b ∷ bs))) (not (is_reserved (b ∷ bs))) h in
    let q = both_true (is_in byte.Start b && list_all (is_in byte.Part) bs) (is_none (keyword_of (b ∷ bs))) p.0 in
    let r = both_true (is_in byte.Start b) (list_all (is_in byte.Part) bs) q.0 in
    rw (start_low b r.0) (parts_low bs r.1)

pub name_is : (text : Text) → is_name text ≡ true → IsWrittenName text
name_is text h = record { name = h; ascii = ascii_is text (name_low text h) }
