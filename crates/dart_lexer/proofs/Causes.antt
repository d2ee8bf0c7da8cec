-- What is answered, towards the definitions of the token list and of refusals.
use Rattle.std.proofs.Common.{◌≡◌, ◌≢◌, ℕ, List, length, Result, Ok, Err, refl, ap, sym, subst, ◌∙◌}
use Rattle.std.specs.Prelude.{IfErr, MatchResult}
use Rattle.std.specs.Str.{IsUtf8, IsValidUpTo}
use Rattle.std.proofs.lemmas.Str.{utf8_valid_len-IsValidUpTo}
use Rattle.std.proofs.Math.Seq.{take-length}
use Rattle.dart_syntax.specs.declared.token.Token.{Token}
use Rattle.dart_syntax.specs.Bytes.{Text}
use Rattle.dart_syntax.specs.Tokens.{TokenList}
use Rattle.dart_lexer.specs.declared.error.LexError.{LexError}
use Rattle.dart_lexer.specs.declared.error.LexError.TheVariants as error
use Rattle.dart_lexer.specs.declared.fault.Fault.{Fault}
use Rattle.dart_lexer.specs.declared.fault.Fault.TheVariants.{NoMemory, BadChar, UnclosedString, UnclosedComment, WideInteger, ReservedWord}
use Rattle.dart_lexer.specs.FirstFault as ff
use Rattle.dart_lexer.specs.FirstFault.{FaultOf, FirstFault, Refused, at_place}
use Rattle.dart_lexer.specs.Model.{lex}
use Rattle.dart_lexer.proofs.Cuts.{lex_complete, lex_fault, lex_first}

same_list : {x y : List Token} → ◌≡◌ {A = Result (List Token) Fault} (Ok x) (Ok y) → x ≡ y
same_list e = cc

same_fault : {x y : Fault} → ◌≡◌ {A = Result (List Token) Fault} (Err x) (Err y) → x ≡ y
same_fault e = cc

list_or_fault : {x : List Token} {y : Fault} → ◌≡◌ {A = Result (List Token) Fault} (Ok x) (Err y) → ⊥
list_or_fault e = cc

-- ---- UTF-8

utf8_to_the_end : (text : Text) (n : ℕ) → IsUtf8 text → IsValidUpTo text n → ⊥
utf8_to_the_end text n utf8 v = v.longest (length text) v.short (subst (λ bs. IsUtf8 bs) (sym (take-length text)) utf8)

one_front : (text : Text) (n m : ℕ) → IsValidUpTo text n → IsValidUpTo text m → n ≡ m
one_front text n m v w = sym (utf8_valid_len-IsValidUpTo text n v) ∙ utf8_valid_len-IsValidUpTo text m w

pub no_list_at : (text : Text) → ¬ IsUtf8 text → (ts : List Token) → TokenList text ts → ⊥
no_list_at text other ts x = other x.utf8

pub only_not_utf8 : (text : Text) (n : ℕ) → ¬ IsUtf8 text → IsValidUpTo text n → (e : LexError) → Refused text e → error.NotUtf8 n ≡ e
only_not_utf8 text n other v e (ff.Refused.not_utf8 {at} w) = ap error.NotUtf8 (one_front text n at v w)
only_not_utf8 text n other v e (ff.Refused.faulty x) = absurd (other x.utf8)

-- ---- a text that is UTF-8, or not

pub list_or_none : (text : Text) (r : Result (List Token) LexError) → IsUtf8 text → (IsUtf8 text → IfErr r (λ e. e ≢ error.NoMemory → FirstFault text e)) → IfErr r (λ e. e ≢ error.NoMemory → Refused text e)
list_or_none text (Ok ts) utf8 h = tt
list_or_none text (Err e) utf8 h = λ other. ff.Refused.faulty (h utf8 other)

pub any_cause : (text : Text) (r : Result (List Token) LexError) → IsUtf8 text
    → ((e : LexError) → FirstFault text e → MatchResult r (λ ts. ⊥) (λ d. d ≢ error.NoMemory → d ≡ e)) → (e : LexError) → Refused text e → MatchResult r (λ ts. ⊥) (λ d. d ≢ error.NoMemory → d ≡ e)
any_cause text r utf8 h e (ff.Refused.not_utf8 {at} w) = absurd (utf8_to_the_end text at utf8 w)
any_cause text r utf8 h e (ff.Refused.faulty x) = h e x

-- ---- a list

pub one_list : (text : Text) (us : List Token) → lex text ≡ Ok us → (ts : List Token) → TokenList text ts → us ≡ ts
one_list text us e ts x = same_list (sym e ∙ lex_complete text ts x)

-- a text has at most one list
pub same_tokens : (text : Text) (ts us : List Token) → TokenList text ts → TokenList text us → ts ≡ us
same_tokens text ts us x y = one_list text ts (lex_complete text ts x) us y

pub no_first_fault : (text : Text) (us : List Token) → lex text ≡ Ok us → (e : LexError) → FirstFault text e → ⊥
no_first_fault text us is e x = list_or_fault (sym is ∙ lex_first text x.fault x.is_fault)

-- ---- a fault

-- only want of memory is no fault of the text
known : (n : ℕ) (f : Fault) → at_place n f ≢ error.NoMemory → f ≢ NoMemory
known n f other is = other (ap (at_place n) is)

pub only_memory : (text : Text) (f : Fault) → (f ≢ NoMemory → lex text ≡ Err f) → (ts : List Token) → TokenList text ts → at_place (length text) f ≡ error.NoMemory
only_memory text NoMemory h ts x = refl
only_memory text (BadChar at) h ts x = absurd (list_or_fault (sym (lex_complete text ts x) ∙ h (λ e. cc)))
only_memory text (UnclosedString at) h ts x = absurd (list_or_fault (sym (lex_complete text ts x) ∙ h (λ e. cc)))
only_memory text (UnclosedComment at) h ts x = absurd (list_or_fault (sym (lex_complete text ts x) ∙ h (λ e. cc)))
only_memory text (WideInteger at) h ts x = absurd (list_or_fault (sym (lex_complete text ts x) ∙ h (λ e. cc)))
only_memory text (ReservedWord at) h ts x = absurd (list_or_fault (sym (lex_complete text ts x) ∙ h (λ e. cc)))

pub is_faulty : (text : Text) (f : Fault) → IsUtf8 text → (f ≢ NoMemory → lex text ≡ Err f) → at_place (length text) f ≢ error.NoMemory → FirstFault text (at_place (length text) f)
is_faulty text f utf8 h other = record { utf8 = utf8; fault = f; is_fault = lex_fault text f (h (known (length text) f other)); is = refl }

pub one_fault : (text : Text) (f : Fault) → (f ≢ NoMemory → lex text ≡ Err f) → (e : LexError) → FirstFault text e → at_place (length text) f ≢ error.NoMemory → at_place (length text) f ≡ e
one_fault text f h e x other = ap (at_place (length text)) (same_fault (sym (h (known (length text) f other)) ∙ lex_first text x.fault x.is_fault)) ∙ sym x.is
