-- What uses name are names, and the names that call sites call are ASCII: a weight counts the names that are none.
use Rattle.std.proofs.Common.{◌≡◌, ℕ, zero, suc, Bool, true, false, if◌then◌else◌, List, [], ◌∷◌, ◌++◌, flat_map, slice_get, Option, Some, None, refl, subst, codes, arith}
use Rattle.dart_syntax.specs.declared.token.Span.{Span}
use Rattle.dart_syntax.specs.declared.token.TokenKind.{TokenKind}
use Rattle.dart_syntax.specs.declared.token.TokenKind.TheVariants as tk
use Rattle.dart_syntax.specs.declared.tree.Unary.{Unary}
use Rattle.dart_syntax.specs.declared.tree.Unary.TheVariants as unary
use Rattle.dart_syntax.specs.Words.{Tokens}
use Rattle.dart_syntax.specs.Bytes.{Text}
use Rattle.dart_syntax.specs.Names.{is_name}
use Rattle.dart_syntax.specs.Syntax.{Tree}
use Rattle.program.specs.declared.body.BinaryOperator.{BinaryOperator}
use Rattle.program.specs.declared.body.BinaryOperator.TheVariants as by
use Rattle.program.specs.Sound.{binary_name}
use Rattle.dart_meaning.specs.Uses as u
use Rattle.dart_meaning.specs.Uses.{Use, Part, parts}
use Rattle.dart_meaning.specs.Means.{means, is_of_this}
use Rattle.dart_meaning.specs.Sites.{Site, if_of_this, sites_of_use, text_sites, prefix_name}
use Rattle.dart_printer.specs.ReadsBack.{IsPossible, ArePossible}
use Rattle.dart_printer.proofs.Marks.{in_ascii, ascii_is}
use Rattle.text_trees.specs.Written.{IsWrittenSite, IsWrittenName, IsWrittenUse, AreWrittenUses, Each}
use Rattle.text_trees.proofs.Weights.{Weight, split, use_weight, weigh, weigh_parts, kind_weight, tokens}
use Rattle.text_trees.proofs.Names.{name_is}

-- 1 for a name that is none
abbrev pub strange : Weight
strange k None = 0
strange k (Some name) = if is_name name then 0 else 1

a_name : (name : Text) → strange 0 (Some name) ≡ 0 → is_name name ≡ true
a_name name h = split (is_name name) (λ e. e) (λ e. let f : 1 ≡ 0 = rw e at h in absurd (omega arith))

written : (name : Text) → strange 0 (Some name) ≡ 0 → IsWrittenName name
written name h = name_is name (a_name name h)

-- ---- tokens

kind_none : (c : TokenKind) (span : Span) → IsPossible c → kind_weight strange c span ≡ 0
kind_none tk.End span h = refl
kind_none (tk.Name n) span h = rw h refl
kind_none _ span h = refl

pub tokens_none : (ts : Tokens) → ArePossible ts → tokens strange ts ≡ 0
tokens_none [] ok = refl
tokens_none (t ∷ ts) ok = omega (arith, kind_none t.kind t.span ok.0, tokens_none ts ok.1)

-- ---- sites

each_join : {A : Type 0} (P : A → Type 0) (xs ys : List A) → Each P xs → Each P ys → Each P (xs ++ ys)
each_join P [] ys a b = b
each_join P (x ∷ xs) ys a b = (a.0, each_join P xs ys a.1 b)

pub each_get : {A : Type 0} (P : A → Type 0) (xs : List A) (i : ℕ) (x : A) → Each P xs → slice_get xs i ≡ Some x → P x
each_get P [] i x a e = cc
each_get {A = A} P (y ∷ xs) zero x a e = subst P (some_is e) a.0
  where
    some_is : {b c : A} → ◌≡◌ {A = Option A} (Some b) (Some c) → b ≡ c
    some_is e = cc
each_get P (y ∷ xs) (suc i) x a e = each_get P xs i x a.1 e

if_written : (b : Bool) (x : Site) → IsWrittenSite x → Each IsWrittenSite (if_of_this b x)
if_written true x h = (h, tt)
if_written false x h = tt

binary_low : (op : BinaryOperator) → in_ascii (binary_name op) ≡ true
binary_low by.Equal = refl
binary_low _ = refl

prefix_low : (op : Unary) → in_ascii (prefix_name op) ≡ true
prefix_low unary.Not = refl
prefix_low _ = refl

use_written : (tree : Tree) (part : Part) (x : Use) → use_weight strange x ≡ 0 → Each IsWrittenSite (sites_of_use tree part x)
use_written tree part (u.reads n seen) h = if_written (is_of_this (means tree part n seen)) _ (record { stands = tt; ascii = (written n.text h).ascii })
use_written tree part (u.writes n seen) h = if_written (is_of_this (means tree part n seen)) _ (record { stands = tt; ascii = (written n.text h).ascii })
use_written tree part (u.calls n seen k) h = if_written (is_of_this (means tree part n seen)) _ (record { stands = tt; ascii = (written n.text h).ascii })
use_written tree part (u.member_reads n) h = (record { stands = tt; ascii = (written n.text h).ascii }, tt)
use_written tree part (u.member_writes n) h = (record { stands = tt; ascii = (written n.text h).ascii }, tt)
use_written tree part (u.member_calls n k) h = (record { stands = tt; ascii = (written n.text h).ascii }, tt)
use_written tree part (u.index_reads at) h = (record { stands = tt; ascii = ascii_is (codes "[]") refl }, tt)
use_written tree part (u.index_writes at) h = (record { stands = tt; ascii = ascii_is (codes "[]=") refl }, tt)
use_written tree part (u.operates op at) h = (record { stands = tt; ascii = ascii_is (binary_name op) (binary_low op) }, tt)
use_written tree part (u.prefixes op at) h = (record { stands = tt; ascii = ascii_is (prefix_name op) (prefix_low op) }, tt)
use_written tree part (u.shows at) h = (record { stands = tt; ascii = ascii_is (codes "toString") refl }, tt)
use_written tree part _ h = tt

uses_written : (tree : Tree) (part : Part) (xs : List Use) → weigh strange xs ≡ 0 → Each IsWrittenSite (flat_map (sites_of_use tree part) xs)
uses_written tree part [] h = tt
uses_written tree part (x ∷ xs) h =
    each_join IsWrittenSite (sites_of_use tree part x) (flat_map (sites_of_use tree part) xs) (use_written tree part x (omega (arith, h))) (uses_written tree part xs (omega (arith, h)))

parts_written : (tree : Tree) (ps : List Part) → weigh_parts strange ps ≡ 0 → Each IsWrittenSite (flat_map (λ part. flat_map (sites_of_use tree part) part.uses) ps)
parts_written tree [] h = tt
parts_written tree (x ∷ xs) h =
    each_join IsWrittenSite (flat_map (sites_of_use tree x) x.uses) (flat_map (λ part. flat_map (sites_of_use tree part) part.uses) xs) (uses_written tree x x.uses (omega (arith, h))) (parts_written tree xs (omega (arith, h)))

pub text_written : (tree : Tree) → weigh_parts strange (parts tree) ≡ 0 → Each IsWrittenSite (text_sites tree)
unfolding text_sites
text_written tree h = parts_written tree (parts tree) h

-- ---- uses

use_named : (x : Use) → use_weight strange x ≡ 0 → IsWrittenUse x
use_named (u.reads n seen) h = written n.text h
use_named (u.writes n seen) h = written n.text h
use_named (u.calls n seen k) h = written n.text h
use_named (u.member_reads n) h = written n.text h
use_named (u.member_writes n) h = written n.text h
use_named (u.member_calls n k) h = written n.text h
use_named _ h = tt

uses_named : (xs : List Use) → weigh strange xs ≡ 0 → Each IsWrittenUse xs
uses_named [] h = tt
uses_named (x ∷ xs) h = (use_named x (omega (arith, h)), uses_named xs (omega (arith, h)))

pub parts_named : (ps : List Part) → weigh_parts strange ps ≡ 0 → Each AreWrittenUses ps
parts_named [] h = tt
parts_named (x ∷ xs) h = (uses_named x.uses (omega (arith, h)), parts_named xs (omega (arith, h)))
