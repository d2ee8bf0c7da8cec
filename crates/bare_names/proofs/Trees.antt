-- So are those of each declaration of an accepted tree.
use Rattle.std.proofs.Common.{◌≡◌, inl, inr, Bool, true, false, List, [], ◌∷◌, ◌++◌, flat_map, filter_map, refl, ap}
use Rattle.std.specs.Prelude.{Option, Some, None, if◌then◌else◌}
use Rattle.std.specs.List.{list_any}
use Rattle.dart_syntax.specs.Syntax as t
use Rattle.dart_syntax.specs.Syntax.{ClassDecl, Function, Member, Param, Passed, Top, Tree}
use Rattle.dart_values.specs.Values.{Text}
use Rattle.dart_meaning.specs.Classes.{class_at, class_declares, class_named, classes, is_own_member}
use Rattle.dart_meaning.specs.Numbering.{param_names, body_names}
use Rattle.dart_meaning.specs.Uses as uses
use Rattle.dart_meaning.specs.Uses.{Part, of_constructor, of_function, of_member, of_passed, class_parts, constructor_parts, field_uses, is_constructor, member_part, member_parts, nothing_seen, passed_uses, some_block_uses, top_parts, with_params, with_passed}
use Rattle.text_trees.specs.Written.{Each, IsPlainParam, IsWrittenMember, IsWrittenTop}
use Rattle.accepted_trees.proofs.RulesKept.{accepted_keeps, keeps_rules}
use Rattle.accepted_trees.proofs.bodies.Each.{each_append}
use Rattle.accepted_trees.proofs.classes.ClassRules.{KeepsClasses, named_first}
use Rattle.accepted_trees.proofs.classes.Lists.{In}
use Rattle.bare_names.specs.OpenVariables.{CodeAgrees, ConstructorBodyAgrees, MemberAgrees, MemberBodyAgrees, NamesAgree, PassedAgrees, TopAgrees}
use Rattle.bare_names.proofs.Bodies as bodies
use Rattle.bare_names.proofs.OpenNames.{opens_body, opens_params, opens_passed}
use Rattle.bare_names.proofs.UsesAgree.{Kept, kept}

each_in : {A : Type 0} (P : A → Type 0) (xs : List A) → ((x : A) → In x xs → P x) → Each P xs
each_in P [] h = tt
each_in P (x ∷ more) h = (h x (inl refl), each_in P more (λ y i. h y (inr i)))

module _ (tree : Tree) where
  abbrev KeptIn : Part → Type 0
  KeptIn p = Each (Kept tree p) p.uses

  function_agrees : (f : Function) → Each IsPlainParam f.params → Each KeptIn (top_parts (t.a_function f)) → CodeAgrees tree of_function None f.params f.body
  function_agrees f plain (k, rest) =
      bodies.body_in tree of_function None (uses.body_uses (with_params f.params nothing_seen) f.body) None (λ name. refl)
      (with_params f.params nothing_seen) (param_names f.params) f.body (opens_params f.params plain) k

  module _ (c : ClassDecl) (named : class_named tree c.name.text ≡ Some c) where
    declares : (name : Text) → class_declares tree (Some c.name.text) name ≡ is_own_member (Some c) name
    declares name = ap (λ o. is_own_member o name) named

    member_body : (params : List Param) (b : Option t.Body) → Each IsPlainParam params → Each KeptIn (member_part c params b) → MemberBodyAgrees tree c params b
    member_body params None plain k = tt
    member_body params (Some b) plain (k, rest) =
        bodies.body_in tree of_member (Some c) (uses.body_uses (with_params params nothing_seen) b) (Some c.name.text) declares
        (with_params params nothing_seen) (param_names params) b (opens_params params plain) k

    passed_agrees : (params : List Param) (passed : Option Passed) → Each (Kept tree (uses.part of_passed (Some c) (passed_uses c params passed))) (passed_uses c params passed) → PassedAgrees tree c params passed
    passed_agrees params None k = tt
    passed_agrees params (Some p) (k, rest) =
        bodies.exps_in tree of_passed (Some c) (passed_uses c params (Some p)) (Some c.name.text) declares
        (with_passed params nothing_seen) (param_names params) (opens_passed params) p.args rest

    abbrev constructor_uses : List Param → Option t.Stas → List uses.Use
    constructor_uses params b = field_uses params ++ some_block_uses (with_params params nothing_seen) b

    constructor_body : (params : List Param) (b : Option t.Stas) → Each (Kept tree (uses.part of_constructor (Some c) (constructor_uses params b))) (constructor_uses params b) → ConstructorBodyAgrees tree c params b
    constructor_body params None k = tt
    constructor_body params (Some all) k =
        bodies.block_in tree of_constructor (Some c) (constructor_uses params (Some all)) (Some c.name.text) declares (with_params params nothing_seen) (body_names params) all (opens_body params)
        (each_append (Kept tree (uses.part of_constructor (Some c) (constructor_uses params (Some all)))) (field_uses params) (uses.block_uses (with_params params nothing_seen) all) k).1

    member_agrees : (m : Member) → IsWrittenMember m → Each KeptIn (member_parts c m) → MemberAgrees tree c m
    member_agrees (t.field l) w k = tt
    member_agrees (t.method n params b) (name, plain, w) k = member_body params b plain k
    member_agrees (t.getter n b) w k = member_body [] b tt k
    member_agrees (t.setter n param b) (name, plain, w) k = member_body (param ∷ []) b (plain, tt) k
    member_agrees (t.operator op at params b) (plain, w) k = member_body params b plain k
    member_agrees (t.constructor n params passed b) w (k, (h, rest)) = (passed_agrees params passed k, constructor_body params b h)

    members_agree : (ms : List Member) → Each IsWrittenMember ms → Each KeptIn (flat_map (member_parts c) ms) → Each (MemberAgrees tree c) ms
    members_agree [] w k = tt
    members_agree (m ∷ more) (w, v) k =
        let parts = each_append KeptIn (member_parts c m) (flat_map (member_parts c) more) k in (member_agrees m w parts.0, members_agree more v parts.1)

    parts_of_members : (b : Bool) → Each KeptIn (if b then flat_map (member_parts c) c.members else constructor_parts c [] None None ++ flat_map (member_parts c) c.members) → Each KeptIn (flat_map (member_parts c) c.members)
    parts_of_members true k = k
    parts_of_members false k = (each_append KeptIn (constructor_parts c [] None None) (flat_map (member_parts c) c.members) k).1

    class_agrees : Each IsWrittenMember c.members → Each KeptIn (class_parts c) → Each (MemberAgrees tree c) c.members
    class_agrees w k = members_agree c.members w (parts_of_members (list_any is_constructor c.members) k)

  abbrev Named : ClassDecl → Type 0
  Named c = class_named tree c.name.text ≡ Some c

  tops_agree : (tops : List Top) → Each Named (filter_map class_at tops) → Each IsWrittenTop tops → Each KeptIn (flat_map top_parts tops) → Each (TopAgrees tree) tops
  tops_agree [] n w k = tt
  tops_agree (t.a_class c ∷ more) (n, names) ((name, w), v) k =
      let parts = each_append KeptIn (class_parts c) (flat_map top_parts more) k in (class_agrees c n w parts.0, tops_agree more names v parts.1)
  tops_agree (t.a_function f ∷ more) names ((name, plain, w), v) k =
      let parts = each_append KeptIn (top_parts (t.a_function f)) (flat_map top_parts more) k in (function_agrees f plain parts.0, tops_agree more names v parts.1)
  tops_agree (t.a_variable x ∷ more) names (w, v) k = (tt, tops_agree more names v k)

  all_named : KeepsClasses tree → Each Named (classes tree)
  all_named keeps = each_in Named (classes tree) (λ c i. named_first (classes tree) c keeps.differ i)

pub names_agree : NamesAgree
names_agree tree accepted written = tops_agree tree tree.tops (all_named tree (accepted_keeps tree accepted)) written.tops (kept tree (keeps_rules tree accepted) written.uses)
