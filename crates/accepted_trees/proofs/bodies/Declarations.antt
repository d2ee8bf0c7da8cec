-- Each declaration of an accepted tree has good bodies.
use Rattle.std.proofs.Common.{◌≡◌, ℕ, Bool, true, false, not, List, [], ◌∷◌, ◌++◌, length, flat_map, filter_map, refl, ap, subst, arith, nat_eq}
use Rattle.std.specs.Prelude.{Option, Some, None, unwrap_or, if◌then◌else◌}
use Rattle.std.specs.Option.{option_map}
use Rattle.std.specs.List.{list_any}
use Rattle.std.proofs.lemmas.Bool.Decides.{nat_tests}
use Rattle.dart_syntax.specs.Syntax as t
use Rattle.dart_syntax.specs.Syntax.{Tree, Top, Member, Param, Passed, ClassDecl}
use Rattle.program.specs.Parts.{Parts}
use Rattle.program.specs.Sound.{AllSound}
use Rattle.dart_values.specs.Values.{Text}
use Rattle.dart_meaning.specs.Classes as classes
use Rattle.dart_meaning.specs.Classes.{class_at, class_named, class_number, constructor_in, first_some, if_so}
use Rattle.dart_meaning.specs.Agree.{ExpsCall}
use Rattle.dart_meaning.specs.Numbering as num
use Rattle.dart_meaning.specs.Sites.{site_of}
use Rattle.dart_meaning.specs.Uses as uses
use Rattle.dart_meaning.specs.Uses.{Part, Use, Kind, of_function, of_member, of_passed, of_constructor, part, nothing_seen, with_params, with_passed, class_parts, constructor_parts, field_uses, is_constructor, member_part, member_parts, passed_uses, some_block_uses, top_parts}
use Rattle.static_rules.specs.UndefinedName.{has_field}
use Rattle.static_rules.specs.WrongArgumentsOfStatic.{super_count}
use Rattle.text_trees.specs.Written.{AreWrittenParams, Each, IsPlainParam, IsWrittenBody, IsWrittenMember, IsWrittenTop, MayBeWrittenBlock, MayBeWrittenBody, MayBeWrittenPassed}
use Rattle.accepted_trees.proofs.bodies.Tables.{Tables}
use Rattle.accepted_trees.proofs.bodies.Bodies.{GoodBlock, GoodCode, all_fine, good_block, good_body}
use Rattle.accepted_trees.proofs.bodies.Each.{each_append, each_from, kept_each}
use Rattle.accepted_trees.proofs.bodies.Expressions as exps
use Rattle.accepted_trees.proofs.bodies.StaticNames.{not_false}
use Rattle.accepted_trees.proofs.bodies.OpenNames.{knows_body, knows_passed}
use Rattle.accepted_trees.proofs.bodies.RulesAtUses.{Kept, at_none}
use Rattle.accepted_trees.proofs.bodies.UsesFine.{Placed}

-- ---- what is good

-- a constructor: what it passes has no `this`, and its body answers nothing
pub record GoodConstructor (tree : Tree) (p : Parts) (c : ClassDecl) (k : classes.Constructor) : Type 0 where
  pub written : AreWrittenParams k.params
  pub passes : ExpsCall tree (site_of tree) p (Some c.name.text) (num.param_names k.params) k.passes
      × AllSound p None (length (num.param_names k.params)) (num.exps tree (site_of tree) (Some c.name.text) (num.param_names k.params) k.passes)
  pub body : GoodBlock tree p (Some c.name.text) (Some (class_number tree c.name.text)) false (num.body_names k.params) k.body
  pub sets : Each (λ (q : Param). q.is_field ≡ true → has_field (Some c) q.name.text ≡ true) k.params
  pub count : uses.count k.passes ≡ super_count tree (Some c)

module _ (tree : Tree) (p : Parts) where
  abbrev pub MayBeGood : ClassDecl → List Param → Option t.Body → Type 0
  MayBeGood c params None = Unit {0}
  MayBeGood c params (Some b) = GoodCode tree p (Some c.name.text) (Some (class_number tree c.name.text)) params b

  abbrev pub GoodIf : ClassDecl → Option classes.Constructor → Type 0
  GoodIf c None = Unit {0}
  GoodIf c (Some k) = GoodConstructor tree p c k

  abbrev pub GoodMember : ClassDecl → Member → Type 0
  GoodMember c (t.field l) = Unit {0}
  GoodMember c (t.method n params b) = MayBeGood c params b
  GoodMember c (t.getter n b) = MayBeGood c [] b
  GoodMember c (t.setter n param b) = MayBeGood c (param ∷ []) b
  GoodMember c (t.operator op at params b) = MayBeGood c params b
  GoodMember c (t.constructor n params passed b) = GoodIf c (constructor_in (t.constructor n params passed b))

  -- A class without a constructor passes nothing to that of the superclass.
  pub record GoodClass (c : ClassDecl) : Type 0 where
    pub members : Each (GoodMember c) c.members
    pub implicit : list_any is_constructor c.members ≡ false → 0 ≡ super_count tree (Some c)

  abbrev pub GoodTop : Top → Type 0
  GoodTop (t.a_class c) = GoodClass c
  GoodTop (t.a_function f) = GoodCode tree p None None f.params f.body
  GoodTop (t.a_variable v) = Unit {0}

-- ---- why

module _ (tree : Tree) (p : Parts) (tables : Tables tree p) where
  abbrev pub KeptIn : Part → Type 0
  KeptIn x = Each (Kept tree p x) x.uses

  function_placed : (xs : List Use) → Placed tree p (part of_function None xs) None None true
  function_placed xs = record { declares = λ name. refl; this = λ e. absurd cc; above = λ e. absurd cc; may_answer = λ e. refl }

  pub function_good : (f : t.Function) → Each IsPlainParam f.params → IsWrittenBody f.body → Each KeptIn (top_parts (t.a_function f)) → GoodTop tree p (t.a_function f)
  function_good f plain w (k, rest) = record {
    plain = plain;
    good = good_body tree p None None f.params f.body plain
        (all_fine tree p tables (part of_function None (uses.body_uses (with_params f.params nothing_seen) f.body)) None None true (function_placed (uses.body_uses (with_params f.params nothing_seen) f.body))
        (uses.body_uses (with_params f.params nothing_seen) f.body) k) w;
  }

  module _ (c : ClassDecl) (named : class_named tree c.name.text ≡ Some c) where
    abbrev here : Option Text
    here = Some c.name.text

    abbrev number : ℕ
    number = class_number tree c.name.text

    declares : (name : Text) → classes.class_declares tree here name ≡ classes.is_own_member (Some c) name
    declares name = ap (λ o. classes.is_own_member o name) named

    member_placed : (xs : List Use) → Placed tree p (part of_member (Some c) xs) here (Some number) true
    member_placed xs = record { declares = declares; this = λ e. refl; above = λ e. tables.above c named; may_answer = λ e. refl }

    passed_placed : (xs : List Use) → Placed tree p (part of_passed (Some c) xs) here None true
    passed_placed xs = record { declares = declares; this = λ e. absurd cc; above = λ e. absurd cc; may_answer = λ e. refl }

    constructor_placed : (xs : List Use) → Placed tree p (part of_constructor (Some c) xs) here (Some number) false
    constructor_placed xs = record { declares = declares; this = λ e. refl; above = λ e. tables.above c named; may_answer = λ e. absurd cc }

    code_good : (params : List Param) (b : Option t.Body) → Each IsPlainParam params → MayBeWrittenBody b → Each KeptIn (member_part c params b) → MayBeGood tree p c params b
    code_good params None plain w k = tt
    code_good params (Some b) plain w (k, rest) = record {
      plain = plain;
      good = good_body tree p here (Some number) params b plain
          (all_fine tree p tables (part of_member (Some c) (uses.body_uses (with_params params nothing_seen) b)) here (Some number) true (member_placed (uses.body_uses (with_params params nothing_seen) b))
          (uses.body_uses (with_params params nothing_seen) b) k) w;
    }

    same_number : (x y : ℕ) → not (nat_eq x y) ≡ false → x ≡ y
    same_number x y h = grind (arith, nat_tests, not_false (nat_eq x y) h)

    set_one : (xs : List Use) (q : Param) (b : Bool) (more : List Use) → Each (Kept tree p (part of_constructor (Some c) xs)) (if b then uses.sets_field q.name ∷ more else more)
        → (b ≡ true → has_field (Some c) q.name.text ≡ true) × Each (Kept tree p (part of_constructor (Some c) xs)) more
    set_one xs q true more ((u, k), rest) = ((λ e. not_false (has_field (Some c) q.name.text) (at_none (not (has_field (Some c) q.name.text)) q.name.span u)), rest)
    set_one xs q false more k = ((λ e. absurd cc), k)

    sets_good : (xs : List Use) (params : List Param) → Each (Kept tree p (part of_constructor (Some c) xs)) (field_uses params) → Each (λ (q : Param). q.is_field ≡ true → has_field (Some c) q.name.text ≡ true) params
    sets_good xs [] k = tt
    sets_good xs (q ∷ more) k = ((set_one xs q q.is_field (field_uses more) k).0, sets_good xs more (set_one xs q q.is_field (field_uses more) k).1)

    abbrev passes_of : Option Passed → t.Exps
    passes_of passed = unwrap_or (option_map (λ (x : Passed). x.args) passed) t.no_more

    abbrev PassesGood : List Param → t.Exps → Type 0
    PassesGood params args = ExpsCall tree (site_of tree) p here (num.param_names params) args × AllSound p None (length (num.param_names params)) (num.exps tree (site_of tree) here (num.param_names params) args)

    passes_good : (params : List Param) (passed : Option Passed) → MayBeWrittenPassed passed → KeptIn (part of_passed (Some c) (passed_uses c params passed))
        → PassesGood params (passes_of passed) × (uses.count (passes_of passed) ≡ super_count tree (Some c))
    passes_good params None w ((u, (torn, (a, (f, (m, (d, k)))))), rest) = ((tt, tt), same_number 0 (super_count tree (Some c)) (at_none (not (nat_eq 0 (super_count tree (Some c)))) c.name.span d))
    passes_good params (Some x) w ((u, (torn, (a, (f, (m, (d, k)))))), rest) = (
      exps.good_all tree p here None true (with_passed params nothing_seen) (num.param_names params) (knows_passed params) x.args
          (all_fine tree p tables (part of_passed (Some c) (passed_uses c params (Some x))) here None true (passed_placed (passed_uses c params (Some x))) (uses.exps (with_passed params nothing_seen) x.args) rest) w,
      same_number (uses.count x.args) (super_count tree (Some c)) (at_none (not (nat_eq (uses.count x.args) (super_count tree (Some c)))) x.at d),
    )

    abbrev block_of : Option t.Stas → t.Stas
    block_of b = unwrap_or b t.done

    block_good : (xs : List Use) (params : List Param) (b : Option t.Stas) → MayBeWrittenBlock b → Each (Kept tree p (part of_constructor (Some c) xs)) (some_block_uses (with_params params nothing_seen) b)
        → GoodBlock tree p here (Some number) false (num.body_names params) (block_of b)
    block_good xs params None w k = (tt, tt)
    block_good xs params (Some all) w k =
        good_block tree p here (Some number) false (with_params params nothing_seen) (num.body_names params) all (knows_body params)
        (all_fine tree p tables (part of_constructor (Some c) xs) here (Some number) false (constructor_placed xs) (uses.block_uses (with_params params nothing_seen) all) k) w

    constructor_good : (params : List Param) (passed : Option Passed) (b : Option t.Stas) → AreWrittenParams params → MayBeWrittenPassed passed → MayBeWrittenBlock b → Each KeptIn (constructor_parts c params passed b)
        → GoodConstructor tree p c (record { params = params; passes = passes_of passed; body = block_of b })
    constructor_good params passed b w v u (k, (h, rest)) =
        let xs : List Use = field_uses params ++ some_block_uses (with_params params nothing_seen) b in
        let parts_of : Each (Kept tree p (part of_constructor (Some c) xs)) (field_uses params) × Each (Kept tree p (part of_constructor (Some c) xs)) (some_block_uses (with_params params nothing_seen) b) =
        each_append (Kept tree p (part of_constructor (Some c) xs)) (field_uses params) (some_block_uses (with_params params nothing_seen) b) h in
        record {
          written = w;
          passes = (passes_good params passed v k).0;
          body = block_good xs params b u parts_of.1;
          sets = sets_good xs params parts_of.0;
          count = (passes_good params passed v k).1;
        }

    member_good : (m : Member) → IsWrittenMember m → Each KeptIn (member_parts c m) → GoodMember tree p c m
    member_good (t.field l) w k = tt
    member_good (t.method n params b) (name, plain, w) k = code_good params b plain w k
    member_good (t.getter n b) (name, w) k = code_good [] b tt w k
    member_good (t.setter n param b) (name, plain, w) k = code_good (param ∷ []) b (plain, tt) w k
    member_good (t.operator op at params b) (plain, w) k = code_good params b plain w k
    member_good (t.constructor n params passed b) (w, v, u) k = constructor_good params passed b w v u k

    members_good : (ms : List Member) → Each IsWrittenMember ms → Each KeptIn (flat_map (member_parts c) ms) → Each (GoodMember tree p c) ms
    members_good [] w k = tt
    members_good (m ∷ more) (w, v) k =
        (member_good m w (each_append KeptIn (member_parts c m) (flat_map (member_parts c) more) k).0, members_good more v (each_append KeptIn (member_parts c m) (flat_map (member_parts c) more) k).1)

    class_by : (b : Bool) → list_any is_constructor c.members ≡ b → Each IsWrittenMember c.members
        → Each KeptIn (if b then flat_map (member_parts c) c.members else constructor_parts c [] None None ++ flat_map (member_parts c) c.members) → GoodClass tree p c
    class_by true e w k = record { members = members_good c.members w k; implicit = λ h. absurd (wrong h) } where
      wrong : list_any is_constructor c.members ≡ false → ⊥
      wrong h = cc
    class_by false e w k = record {
      members = members_good c.members w (each_append KeptIn (constructor_parts c [] None None) (flat_map (member_parts c) c.members) k).1;
      implicit = λ h. (constructor_good [] None None tt tt tt (each_append KeptIn (constructor_parts c [] None None) (flat_map (member_parts c) c.members) k).0).count;
    }

    pub class_good : Each IsWrittenMember c.members → Each KeptIn (class_parts c) → GoodClass tree p c
    class_good w k = class_by (list_any is_constructor c.members) refl w k

  abbrev Named : ClassDecl → Type 0
  Named c = class_named tree c.name.text ≡ Some c

  tops_from : (tops : List Top) → Each Named (filter_map class_at tops) → Each IsWrittenTop tops → Each KeptIn (flat_map top_parts tops) → Each (GoodTop tree p) tops
  tops_from [] n w k = tt
  tops_from (t.a_class c ∷ more) (n, names) ((name, w), v) k =
      (class_good c n w (each_append KeptIn (class_parts c) (flat_map top_parts more) k).0, tops_from more names v (each_append KeptIn (class_parts c) (flat_map top_parts more) k).1)
  tops_from (t.a_function f ∷ more) names ((name, plain, w), v) k =
      (function_good f plain w (each_append KeptIn (top_parts (t.a_function f)) (flat_map top_parts more) k).0, tops_from more names v (each_append KeptIn (top_parts (t.a_function f)) (flat_map top_parts more) k).1)
  tops_from (t.a_variable x ∷ more) names (w, v) k = (tt, tops_from more names v k)

  pub tops_good : Each IsWrittenTop tree.tops → Each KeptIn (uses.parts tree) → Each (GoodTop tree p) tree.tops
  tops_good w k = tops_from tree.tops (each_from Named (classes.classes tree) tables.named) w k

class_at_is : (tree : Tree) (p : Parts) (top : Top) (c : ClassDecl) → class_at top ≡ Some c → GoodTop tree p top → GoodClass tree p c
class_at_is tree p (t.a_class d) c e h = let same : d ≡ c = cc in subst (GoodClass tree p) same h
class_at_is tree p (t.a_function g) c e h = absurd cc
class_at_is tree p (t.a_variable v) c e h = absurd cc

pub classes_good : (tree : Tree) (p : Parts) → Each (GoodTop tree p) tree.tops → Each (GoodClass tree p) (classes.classes tree)
classes_good tree p h = kept_each (GoodTop tree p) (GoodClass tree p) class_at tree.tops (class_at_is tree p) h
