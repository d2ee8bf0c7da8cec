-- The bare names of a body whose uses break no rule are in the run what the text means by them.
use Rattle.std.proofs.Common.{◌≡◌, Bool, true, false, List, [], ◌++◌}
use Rattle.std.specs.Prelude.{Option, Some, None}
use Rattle.dart_syntax.specs.Syntax as t
use Rattle.dart_syntax.specs.Syntax.{ClassDecl, Tree}
use Rattle.dart_values.specs.Values.{Text}
use Rattle.dart_meaning.specs.declared.seen.Seen.TheVariants.{Late}
use Rattle.dart_meaning.specs.Classes.{class_declares, is_own_member}
use Rattle.dart_meaning.specs.Numbering as run
use Rattle.dart_meaning.specs.Uses as uses
use Rattle.dart_meaning.specs.Uses.{Kind, Part, Scope, Use, declared, declared_uses, locals, opened, part, with_seen}
use Rattle.text_trees.specs.Written.{Each}
use Rattle.accepted_trees.proofs.bodies.Each.{each_append}
use Rattle.bare_names.specs.OpenVariables as law
use Rattle.bare_names.proofs.OpenNames.{Opens, opens_after, opens_first, opens_late, opens_locals}
use Rattle.bare_names.proofs.SeenUses.{seen_exp, seen_exps, seen_value}
use Rattle.bare_names.proofs.UsesAgree as agree
use Rattle.bare_names.proofs.UsesAgree.{Kept}

module _ (tree : Tree) (kind : Kind) (class : Option ClassDecl) (all_uses : List Use) (here : Option Text) (declares : (name : Text) → class_declares tree here name ≡ is_own_member class name) where
  abbrev in_part : Part
  in_part = part kind class []

  abbrev All : List Use → Type 0
  All = Each (Kept tree (part kind class all_uses))

  both : (xs ys : List Use) → All (xs ++ ys) → All xs × All ys
  both = each_append (Kept tree (part kind class all_uses))

  abbrev StaIn : Scope → List Text → t.Sta → Type 0
  StaIn = law.StaAgrees tree in_part here

  exp_in : (scope : Scope) (names : List Text) → Opens scope names → (e : t.Exp) → All (uses.exp scope e) → law.ExpAgrees tree in_part here scope names e
  exp_in scope names o e k = agree.uses_agree tree kind class all_uses here declares scope names o (uses.exp scope e) k (seen_exp scope e)

  pub exps_in : (scope : Scope) (names : List Text) → Opens scope names → (es : t.Exps) → All (uses.exps scope es) → law.ExpsAgree tree in_part here scope names es
  exps_in scope names o es k = agree.uses_agree tree kind class all_uses here declares scope names o (uses.exps scope es) k (seen_exps scope es)

  value_in : (scope : Scope) (names : List Text) → Opens scope names → (e : Option t.Exp) → All (uses.exp_if scope e) → law.ValueAgrees tree in_part here scope names e
  value_in scope names o e k = agree.uses_agree tree kind class all_uses here declares scope names o (uses.exp_if scope e) k (seen_value scope e)

  first_in : (scope : Scope) (names : List Text) → Opens scope names → (first : t.First) → All (uses.first_uses scope first) → law.FirstAgrees tree in_part here scope names first
  first_in scope names o t.nothing k = tt
  first_in scope names o (t.local_first l) (d, k) = value_in (with_seen l.name Late scope) names (opens_late l.name scope names o) l.value k
  first_in scope names o (t.run_first e) k = exp_in scope names o e k

  -- a statement that is a block of its own
  abbrev inner : Bool → Scope → t.Sta → List Use
  inner loops scope x = declared_uses scope (declared x) ++ uses.sta loops (opened (declared x) scope) x

  alone : (loops : Bool) (scope : Scope) (x : t.Sta) → All (inner loops scope x) → All (uses.sta loops (opened (declared x) scope) x)
  alone loops scope x k = (both (declared_uses scope (declared x)) (uses.sta loops (opened (declared x) scope) x) k).1

  -- and others behind it
  alone_then : (loops : Bool) (scope : Scope) (x : t.Sta) (rest : List Use) → All (declared_uses scope (declared x) ++ (uses.sta loops (opened (declared x) scope) x ++ rest))
      → All (uses.sta loops (opened (declared x) scope) x) × All rest
  alone_then loops scope x rest k =
      both (uses.sta loops (opened (declared x) scope) x) rest (both (declared_uses scope (declared x)) (uses.sta loops (opened (declared x) scope) x ++ rest) k).1

  mutual
    sta_in : (x : t.Sta) (loops : Bool) (scope : Scope) (names : List Text) → Opens scope names → All (uses.sta loops scope x) → StaIn scope names x
    sta_in (t.block all) loops scope names o k =
        stas_in all loops (opened (locals all) scope) names (opens_locals (locals all) scope names o) (both (declared_uses scope (locals all)) (uses.stas loops (opened (locals all) scope) all) k).1
    sta_in (t.local l) loops scope names o k = value_in scope names o l.value k
    sta_in (t.run e) loops scope names o k = exp_in scope names o e k
    sta_in t.empty loops scope names o k = tt
    sta_in (t.when c x) loops scope names o k =
        let parts = both (uses.exp scope c) (inner loops scope x) k in
        (exp_in scope names o c parts.0, sta_in x loops (opened (declared x) scope) names (opens_locals (declared x) scope names o) (alone loops scope x parts.1))
    sta_in (t.when_else c x y) loops scope names o k =
        let parts = both (uses.exp scope c) (declared_uses scope (declared x) ++ (uses.sta loops (opened (declared x) scope) x ++ inner loops scope y)) k in
        let branches = alone_then loops scope x (inner loops scope y) parts.1 in (
          exp_in scope names o c parts.0,
          sta_in x loops (opened (declared x) scope) names (opens_locals (declared x) scope names o) branches.0,
          sta_in y loops (opened (declared y) scope) names (opens_locals (declared y) scope names o) (alone loops scope y branches.1),
        )
    sta_in (t.while c x) loops scope names o k =
        let parts = both (uses.exp scope c) (inner true scope x) k in
        (exp_in scope names o c parts.0, sta_in x true (opened (declared x) scope) names (opens_locals (declared x) scope names o) (alone true scope x parts.1))
    sta_in (t.do_while x c) loops scope names o k =
        let parts = alone_then true scope x (uses.exp scope c) k in
        (sta_in x true (opened (declared x) scope) names (opens_locals (declared x) scope names o) parts.0, exp_in scope names o c parts.1)
    sta_in (t.for first c last x) loops scope names o k =
        let within = uses.after_first first scope in
        let open_names = run.after_first names first in
        let opens = opens_first first scope names o in
        let parts = both (uses.first_uses scope first) (uses.exp_if within c ++ (uses.exps within last ++ inner true within x)) k in
        let behind = both (uses.exp_if within c) (uses.exps within last ++ inner true within x) parts.1 in
        let at_end = both (uses.exps within last) (inner true within x) behind.1 in (
          first_in scope names o first parts.0,
          value_in within open_names opens c behind.0,
          exps_in within open_names opens last at_end.0,
          sta_in x true (opened (declared x) within) open_names (opens_locals (declared x) within open_names opens) (alone true within x at_end.1),
        )
    sta_in (t.break at) loops scope names o k = tt
    sta_in (t.continue at) loops scope names o k = tt
    sta_in (t.return at None) loops scope names o k = tt
    sta_in (t.return at (Some e)) loops scope names o k = exp_in scope names o e k.1

    stas_in : (all : t.Stas) (loops : Bool) (scope : Scope) (names : List Text) → Opens scope names → All (uses.stas loops scope all) → law.StasAgree tree in_part here scope names all
    stas_in t.done loops scope names o k = tt
    stas_in (t.next x more) loops scope names o k =
        let parts = both (uses.sta loops scope x) (uses.stas loops (uses.after x scope) more) k in
        (sta_in x loops scope names o parts.0, stas_in more loops (uses.after x scope) (run.after names x) (opens_after x scope names o) parts.1)

  pub block_in : (scope : Scope) (names : List Text) (all : t.Stas) → Opens scope names → All (uses.block_uses scope all) → law.BlockAgrees tree in_part here scope names all
  block_in scope names all o k =
      stas_in all false (opened (locals all) scope) names (opens_locals (locals all) scope names o) (both (declared_uses scope (locals all)) (uses.stas false (opened (locals all) scope) all) k).1

  pub body_in : (scope : Scope) (names : List Text) (b : t.Body) → Opens scope names → All (uses.body_uses scope b) → law.BodyAgrees tree in_part here scope names b
  body_in scope names (t.arrow e) o k = exp_in scope names o e k
  body_in scope names (t.code all) o k = block_in scope names all o k
