-- Kinds of tokens one behind the other, and the lists of tokens that have them.
use Rattle.std.proofs.Common.{◌≡◌, false, if◌then◌else◌, ◌==◌, List, [], ◌∷◌, ◌++◌, length, map, refl, ap, sym, ◌∙◌, append_assoc, arith, length-append}
use Rattle.std.proofs.lemmas.Bool.{eq-eqb}
use Rattle.dart_syntax.specs.declared.token.Span.{Span}
use Rattle.dart_syntax.specs.declared.token.Token.{Token}
use Rattle.dart_syntax.specs.declared.token.TokenKind.{TokenKind}
use Rattle.dart_syntax.specs.Words.{Tokens, token}
use Rattle.dart_printer.specs.Spans.{nowhere}

pub data Kinds : Type 0 where
  nothing : Kinds
  one : TokenKind → Kinds
  both : Kinds → Kinds → Kinds

abbrev pub flat : Kinds → List TokenKind
flat nothing = []
flat (one k) = k ∷ []
flat (both a b) = flat a ++ flat b

abbrev pub kind_of : Token → TokenKind
kind_of t = t.kind

-- f tells the span of the token before a list
module _ (f : Tokens → Span) where
  abbrev pub put : Kinds → Tokens → Tokens
  put nothing rest = rest
  put (one k) rest = token k (f rest) ∷ rest
  put (both a b) rest = put a (put b rest)

  abbrev put_list : List TokenKind → Tokens → Tokens
  put_list [] rest = rest
  put_list (k ∷ ks) rest = token k (f (put_list ks rest)) ∷ put_list ks rest

  put_append : (ks ls : List TokenKind) (rest : Tokens) → put_list (ks ++ ls) rest ≡ put_list ks (put_list ls rest)
  put_append [] ls rest = refl
  put_append (k ∷ ks) ls rest = ap (λ ts. token k (f ts) ∷ ts) (put_append ks ls rest)

  put_is : (kinds : Kinds) (rest : Tokens) → put kinds rest ≡ put_list (flat kinds) rest
  put_is nothing rest = refl
  put_is (one k) rest = refl
  put_is (both a b) rest = put_is a (put b rest) ∙ ap (put_list (flat a)) (put_is b rest) ∙ sym (put_append (flat a) (flat b) rest)

  -- f tells the spans of these tokens before rest
  abbrev Places : Tokens → Tokens → Type 0
  Places [] rest = Unit {0}
  Places (t ∷ found) rest = (f (found ++ rest) ≡ t.span) × Places found rest

  list_is : (found rest : Tokens) → Places found rest → put_list (map kind_of found) rest ≡ found ++ rest
  list_is [] rest p = refl
  list_is (t ∷ found) rest p = ap (λ ts. token t.kind (f ts) ∷ ts) (list_is found rest p.1) ∙ ap (λ at. token t.kind at ∷ (found ++ rest)) p.0

-- the span of the token of a list behind which as many tokens stand as ts has
abbrev pub place : Tokens → Tokens → Span
place [] ts = nowhere
place (t ∷ list) ts = if length list == length ts then t.span else place list ts

place_behind : (before : Tokens) (t : Token) (ts : Tokens) → place (before ++ t ∷ ts) ts ≡ t.span
place_behind [] t ts = rw (eq-eqb (length ts) (length ts) refl)
place_behind (b ∷ before) t ts = rw longer (place_behind before t ts)
  where
    longer : (length (before ++ t ∷ ts) == length ts) ≡ false
    longer = grind (arith, length-append)

places : (whole before found rest : Tokens) → whole ≡ before ++ (found ++ rest) → Places (place whole) found rest
places whole before [] rest e = tt
places whole before (t ∷ found) rest e = (
  ap (λ w. place w (found ++ rest)) e ∙ place_behind before t (found ++ rest),
  places whole (before ++ t ∷ []) found rest (e ∙ sym (append_assoc before (t ∷ []) (found ++ rest))),
)

-- a list is its kinds, with its own spans
pub put_back : (kinds : Kinds) (found rest : Tokens) → map kind_of found ≡ flat kinds → put (place (found ++ rest)) kinds rest ≡ found ++ rest
put_back kinds found rest e =
    let f = place (found ++ rest) in
    put_is f kinds rest ∙ ap (λ ks. put_list f ks rest) (sym e) ∙ list_is f found rest (places (found ++ rest) [] found rest refl)
