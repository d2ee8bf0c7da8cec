-- Whole texts: the canonical text of a tree that is derived reads back.
use Rattle.std.proofs.Common.{◌≡◌, ◌-◌, List, [], ◌∷◌, ◌++◌, length, map, flat_map, take, refl, ap, sym, ◌∙◌, subst, arith, length-append}
use Rattle.std.specs.Str.{IsAscii, IsUtf8}
use Rattle.std.proofs.lemmas.Str.{IsAscii-append, IsAscii-take, IsUtf8-from_ascii}
use Rattle.std.proofs.lemmas.Grind.{common_steps}
use Rattle.dart_syntax.specs.declared.token.Span.{Span}
use Rattle.dart_syntax.specs.declared.token.TokenKind.TheVariants as tk
use Rattle.dart_syntax.specs.Syntax.{Sta, Exp, Top, Tree, tree_of}
use Rattle.dart_syntax.specs.Words.{Tokens, token}
use Rattle.dart_syntax.specs.Bytes.{Text, span}
use Rattle.dart_syntax.specs.Tokens.{TokenList}
use Rattle.dart_syntax.specs.Tokens as to
use Rattle.dart_syntax.specs.Text.{line, top_text, text}
use Rattle.dart_syntax.specs.Grammar.{Reading, Many, ExprWithin, StmtWithin}
use Rattle.dart_syntax.specs.Derivation.{TopText, LEVELS, Derives}
use Rattle.dart_printer.specs.Spans.{bare_top}
use Rattle.dart_printer.specs.ReadsBack.{ArePossible, ReadsBack}
use Rattle.dart_printer.proofs.Lists.{Kinds, place, put_back}
use Rattle.dart_printer.proofs.Cuts.{Cut, cut_two, cut_nothing}
use Rattle.dart_printer.proofs.Marks.{ascii_is}
use Rattle.dart_printer.proofs.Back.{GivesBack}
use Rattle.dart_printer.proofs.Expressions.{expr_back}
use Rattle.dart_printer.proofs.Statements.{GivesStaBack, stmt_back}
use Rattle.dart_printer.proofs.Tops.{Ended, empty, closed, tops_back}

line_is : (core : Text) → line (core ++ 32 ∷ []) ≡ core ++ 10 ∷ []
line_is core = let e : length (core ++ 32 ∷ []) - 1 ≡ length core = omega (arith, length-append core (32 ∷ [])) in ap (λ t. t ++ 10 ∷ []) (rw e (grind (arith, common_steps)))

line_ascii : (words : Text) → IsAscii words → IsAscii (line words)
line_ascii words h = IsAscii-append (take (length words - 1) words) (10 ∷ []) (IsAscii-take words (length words - 1) h) (ascii_is (10 ∷ []) refl)

-- the tokens of a whole text
record Lexed (words : Text) (kinds : Kinds) : Type 0 where
  utf8 : IsUtf8 words
  cut : Cut (length words) [] words kinds [] []

lexed : {words : Text} {kinds : Kinds} → Ended words kinds → Lexed (line words) kinds
lexed empty = record { utf8 = IsUtf8-from_ascii (10 ∷ []) (ascii_is (10 ∷ []) refl); cut = cut_two cut_nothing (to.Takes.blank refl) }
lexed {words} {kinds} (closed x) = record {
  utf8 = IsUtf8-from_ascii (line words) (line_ascii words x.ascii);
  cut = subst (λ t. Cut (length (line words)) [] t kinds [] []) (sym (ap line x.is ∙ line_is x.core)) (cut_two (x.cut (length (line words)) [] 10 [] refl) (to.Takes.blank refl));
}

module _ (I : Reading Sta) (inner : GivesStaBack I) (W : Reading Exp) (whole : GivesBack W) where
  record WholeBack (xs : List Top) : Type 0 where
    list : Tokens
    tokens : TokenList (line (flat_map top_text xs)) list
    at : Span
    again : List Top
    reads : Many (TopText I W) list again (token tk.End at ∷ [])
    same : map bare_top again ≡ map bare_top xs

  whole_back : {ts rest : Tokens} {xs : List Top} → Many (TopText I W) ts xs rest → ArePossible ts → WholeBack xs
  whole_back {xs = xs} d ok =
      let words = line (flat_map top_text xs) in
      let b = tops_back I inner W whole d ok in
      let c = (lexed b.cuts).cut in
      let at = span (length words) 0 0 in
      let end = token tk.End at ∷ [] in
      let list = c.tokens ++ end in
      let r = b.reads (place list) end in
      record {
        list = list;
        tokens = record { utf8 = (lexed b.cuts).utf8; found = c.tokens; still_open = []; runs = c.runs; no_string = refl; is = refl };
        at = at;
        again = r.it;
        reads = subst (λ ts. Many (TopText I W) ts r.it end) (put_back b.kinds c.tokens end c.are) r.reads;
        same = r.same;
      }

pub reads_back : (list : Tokens) (t : Tree) → ArePossible list → Derives list t → ReadsBack (text t) t
unfolding Derives
reads_back list t ok d =
    let b = whole_back (StmtWithin LEVELS) (stmt_back LEVELS) (ExprWithin LEVELS) (expr_back LEVELS) d.1 ok in
    record { list = b.list; tokens = b.tokens; again = tree_of b.again; derives = (b.at, b.reads); same = ap tree_of b.same }
