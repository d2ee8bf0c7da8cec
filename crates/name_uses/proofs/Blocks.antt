-- Blocks, statement by statement.
use Rattle.std.proofs.Common.{◌≡◌, Bool, List, [], ◌∷◌, ◌++◌, Option, Some, option_map, true, map, drop, ℕ, refl, sym, ap, ◌∙◌, append_assoc}
use Rattle.dart_syntax.specs.declared.tree.Name.{Name}
use Rattle.dart_syntax.specs.declared.tree.Expr.{Expr}
use Rattle.dart_syntax.specs.declared.tree.First.{First}
use Rattle.dart_syntax.specs.declared.tree.Stmt.{Stmt}
use Rattle.dart_syntax.specs.declared.tree.Stmt.TheVariants as s
use Rattle.dart_syntax.specs.declared.tree.Stmt.TheFolds.{fold_out-Stmt}
use Rattle.dart_syntax.specs.Bytes.{Text}
use Rattle.dart_syntax.specs.Syntax as tree
use Rattle.dart_syntax.specs.Syntax.{Exp, Sta, exps, stas}
use Rattle.dart_syntax.specs.View.{sta, sta_step, exp, first_part}
use Rattle.dart_meaning.specs.declared.seen.Seen.{Seen}
use Rattle.dart_meaning.specs.declared.seen.Seen.TheVariants.{Late}
use Rattle.dart_meaning.specs.Uses as u
use Rattle.dart_meaning.specs.Uses.{Scope, Use, opened, locals, declared, with_seen}
use Rattle.name_uses.specs.Undo.{with_meaning}
use Rattle.name_uses.specs.Using.{branch_uses}

opened_both : (xs ys : List Name) (m : Scope) → opened (xs ++ ys) m ≡ opened ys (opened xs m)
opened_both [] ys m = refl
opened_both (x ∷ xs) ys m = opened_both xs ys (with_seen x Late m)

pub begin_next : (all : List Stmt) (i : ℕ) (x : Stmt) (rest : List Stmt) (m next whole : Scope) → drop i all ≡ x ∷ rest → next ≡ opened (declared (sta x)) m → opened (locals (stas (map sta (drop i all)))) m ≡ whole → opened (locals (stas (map sta rest))) next ≡ whole
begin_next all i x rest m next whole is grown was =
    ap (opened (locals (stas (map sta rest)))) grown ∙ sym (opened_both (declared (sta x)) (locals (stas (map sta rest))) m)
    ∙ sym (ap (λ ys. opened (locals (stas (map sta ys))) m) is) ∙ was

pub stas_next : (loops : Bool) (all : List Stmt) (i : ℕ) (x : Stmt) (rest : List Stmt) (m mid next : Scope) (out grown whole : List Use) → drop i all ≡ x ∷ rest → grown ≡ out ++ u.sta loops m (sta x) → mid ≡ m → next ≡ u.after (sta x) mid → out ++ u.stas loops m (stas (map sta (drop i all))) ≡ whole → grown ++ u.stas loops next (stas (map sta rest)) ≡ whole
stas_next loops all i x rest m mid next out grown whole is more same after was =
    ap (λ n. grown ++ u.stas loops n (stas (map sta rest))) (after ∙ ap (u.after (sta x)) same)
    ∙ ap (λ o. o ++ u.stas loops (u.after (sta x) m) (stas (map sta rest))) more
    ∙ append_assoc out (u.sta loops m (sta x)) (u.stas loops (u.after (sta x) m) (stas (map sta rest)))
    ∙ sym (ap (λ ys. out ++ u.stas loops m (stas (map sta ys))) is) ∙ was

-- the local of a `for`
pub first_local_uses : (n : Name) (m next : Scope) (value : Option Exp) (name : Text) (seen : Option Seen) (out mid new : List Use) → name ≡ n.text → seen ≡ m name → mid ≡ out ++ u.declares n seen ∷ [] → next ≡ with_meaning name (Some Late) m → new ≡ mid ++ u.exp_if next value → new ≡ out ++ u.declares n (m n.text) ∷ u.exp_if (with_seen n Late m) value
first_local_uses n m next value name seen out mid new named looked pushed set_ more =
    more ∙ ap (λ o. o ++ u.exp_if next value) pushed ∙ append_assoc out (u.declares n seen ∷ []) (u.exp_if next value)
    ∙ ap (λ s. out ++ u.declares n s ∷ u.exp_if next value) (looked ∙ ap m named)
    ∙ ap (λ k. out ++ u.declares n (m n.text) ∷ u.exp_if k value) (set_ ∙ ap (λ t. with_meaning t (Some Late) m) named)

-- ---- loops

sta_do : (x : Stmt) (c : Expr) → sta (s.Do x c) ≡ tree.do_while (sta x) (exp c)
sta_do x c = fold_out-Stmt Sta sta_step (s.Do x c) ∙ rw (s.outs-Do x c)

pub do_uses : (loops : Bool) (x y : Stmt) (c : Expr) (m mid : Scope) (out grown new : List Use) → y ≡ x → grown ≡ out ++ branch_uses true m (sta y) → mid ≡ m → new ≡ grown ++ u.exp mid (exp c) → new ≡ out ++ u.sta loops m (sta (s.Do x c))
do_uses loops x y c m mid out grown new body more same last =
    let opens = u.declared_uses m (declared (sta x)) in
    let runs = u.sta true (opened (declared (sta x)) m) (sta x) in
    last ∙ ap (λ k. grown ++ u.exp k (exp c)) same
    ∙ ap (λ o. o ++ u.exp m (exp c)) (more ∙ ap (λ z. out ++ branch_uses true m (sta z)) body)
    ∙ append_assoc out (opens ++ runs) (u.exp m (exp c)) ∙ ap (λ o. out ++ o) (append_assoc opens runs (u.exp m (exp c)))
    ∙ sym (ap (λ z. out ++ u.sta loops m z) (sta_do x c))

sta_for : (first : First) (test : Option Expr) (last : List Expr) (body : Stmt) → sta (s.For first test last body) ≡ tree.for (first_part first) (option_map exp test) (exps (map exp last)) (sta body)
sta_for first test last body = fold_out-Stmt Sta sta_step (s.For first test last body) ∙ rw (s.outs-For first test last body)

pub for_uses : (loops : Bool) (first : First) (test : Option Expr) (last : List Expr) (body y : Stmt) (m inner : Scope) (out a b c new : List Use) → y ≡ body → inner ≡ u.after_first (first_part first) m → a ≡ out ++ u.first_uses m (first_part first) → b ≡ a ++ u.exp_if inner (option_map exp test) → c ≡ b ++ u.exps inner (exps (map exp last)) → new ≡ c ++ branch_uses true inner (sta y) → new ≡ out ++ u.sta loops m (sta (s.For first test last body))
for_uses loops first test last body y m inner out a b c new same after firsts tests lasts bodies =
    let k = u.after_first (first_part first) m in
    let f = u.first_uses m (first_part first) in
    let t = u.exp_if k (option_map exp test) in
    let l = u.exps k (exps (map exp last)) in
    let r = branch_uses true k (sta body) in
    let a_is : a ≡ out ++ f = firsts in
    let b_is : b ≡ (out ++ f) ++ t = tests ∙ ap (λ k. a ++ u.exp_if k (option_map exp test)) after ∙ ap (λ o. o ++ t) a_is in
    let c_is : c ≡ ((out ++ f) ++ t) ++ l = lasts ∙ ap (λ k. b ++ u.exps k (exps (map exp last))) after ∙ ap (λ o. o ++ l) b_is in
    let new_is : new ≡ (((out ++ f) ++ t) ++ l) ++ r = bodies ∙ ap (λ k. c ++ branch_uses true k (sta y)) after ∙ ap (λ z. c ++ branch_uses true k (sta z)) same ∙ ap (λ o. o ++ r) c_is in
    new_is ∙ append_assoc ((out ++ f) ++ t) l r ∙ append_assoc (out ++ f) t (l ++ r) ∙ append_assoc out f (t ++ (l ++ r))
    ∙ sym (ap (λ z. out ++ u.sta loops m z) (sta_for first test last body))
