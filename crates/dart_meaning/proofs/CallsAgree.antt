-- Calls of a tree, and of a numbered program that stands for it, do the same.
use Rattle.std.proofs.Common.{◌≡◌, ℕ, ◌+◌, ◌<◌, List, [], ◌∷◌, ◌++◌, length, refl, ap, sym, subst, arith}
use Rattle.std.specs.Prelude.{true, false, not, ◌&&◌, ◌||◌, Option, Some, None, unwrap_or, nat_eq, flat_map, position, codes}
use Rattle.std.specs.Str.{bytes_eq}
use Rattle.std.proofs.lemmas.List.{length-append}
use Rattle.std.proofs.lemmas.List.Quantifiers.{position-Some}
use Rattle.dart_syntax.specs.Syntax.{Tree}
use Rattle.program.specs.declared.body.BinaryOperator.{BinaryOperator}
use Rattle.program.specs.declared.body.BinaryOperator.TheVariants as b
use Rattle.program.specs.declared.body.Joint.{Joint}
use Rattle.program.specs.declared.body.Joint.TheVariants as joint
use Rattle.program.specs.declared.body.OperatorCall.{OperatorCall}
use Rattle.program.specs.declared.numbered.Selector.{Selector}
use Rattle.program.specs.Parts.{Parts}
use Rattle.program.specs.Sound.{binary_name}
use Rattle.dart_values.specs.declared.fault.Trap.TheVariants as trap
use Rattle.dart_values.specs.Values.{Text, Value, null, bool, object, list, invocation}
use Rattle.dart_values.specs.Reads.{thrown_text}
use Rattle.dart_meaning.specs.Place.{Place}
use Rattle.dart_meaning.specs.Program.{Found, built_in, reads, writes, coded, target_or, no_such_method, to_string, calling, Entry, running, listing}
use Rattle.dart_meaning.specs.Run.{M, pure, new, threw, again}
use Rattle.dart_meaning.specs.Calls as calls
use Rattle.dart_meaning.specs.Calls.{World, is_null, argument, told_name, comma_before}
use Rattle.dart_meaning.specs.Classes.{Code, class_names, class_number, class_numbers, class_count, built_in_names, preorder, children, of_tree}
use Rattle.dart_meaning.specs.Meaning.{Bound}
use Rattle.dart_meaning.specs.Meaning as m
use Rattle.dart_meaning.specs.Numbered as n
use Rattle.dart_meaning.specs.Numbered.{of_numbered}
use Rattle.dart_meaning.specs.Numbering as num
use Rattle.dart_meaning.specs.Agree.{Agree, BothOrNone, IsFound, IsCode}
use Rattle.dart_meaning.proofs.Simulation.{Sim, IsClass, sim_pure, sim_stop, sim_bind, sim_then, sim_look, sim_choose, sim_need_bool, sim_need_text, sim_new, sim_native, sim_ask, sim_class, sim_note_test, sim_add_line, sim_set_field, sim_looping}

-- how many classes the user has
abbrev pub user_classes : Tree → ℕ
user_classes tree = length (flat_map (preorder (class_count tree) tree) (children tree Rattle.dart_meaning.specs.Classes.object))

all_classes : (tree : Tree) → class_numbers tree ≡ 7 + user_classes tree
all_classes tree = length-append built_in_names (flat_map (preorder (class_count tree) tree) (children tree Rattle.dart_meaning.specs.Classes.object))

pub in_range : (tree : Tree) (c : ℕ) → IsClass (user_classes tree) c → c < class_numbers tree
in_range tree c h = omega (arith, h, all_classes tree)

position_in : (tree : Tree) (name : Text) (o : Option ℕ) → position (bytes_eq name) (class_names tree) ≡ o → unwrap_or o 0 < class_numbers tree
position_in tree name None e = omega (arith, all_classes tree)
position_in tree name (Some c) e = (position-Some (bytes_eq name) (class_names tree) c [] e).0

pub number_in : (tree : Tree) (name : Text) → class_number tree name < class_numbers tree
number_in tree name = position_in tree name (position (bytes_eq name) (class_names tree)) refl

-- What is entered does the same, whatever names are open.
pub record Enters (tree : Tree) (site_of : Place → ℕ) (p : Parts) (enter : Entry Code → M Bound Value) (enter' : Entry n.Code → M Value Value) : Type 0 where
  pub codes : (k : Code) (k' : n.Code) → IsCode tree site_of p k k' → (me : Value) (args : List Value) (names : List Text)
      → Sim (user_classes tree) names (enter (running k me args)) (enter' (running k' me args))
  pub lists : (v : Value) (names : List Text) → Sim (user_classes tree) names (enter (listing v)) (enter' (listing v))

module _ (tree : Tree) (site_of : Place → ℕ) (p : Parts) (agree : Agree tree site_of p)
    (enter : Entry Code → M Bound Value) (enter' : Entry n.Code → M Value Value) (enters : Enters tree site_of p enter enter') (here : Option Text) (names : List Text) where
  abbrev count : ℕ
  count = user_classes tree

  abbrev w : World Bound Code
  w = m.world tree site_of here enter

  abbrev w' : World Value n.Code
  w' = n.world p enter'

  abbrev Same : {A : Type 0} → M Bound A → M Value A → Type 0
  Same x y = Sim count names x y

  sim_natively : (k : ℕ) (v : Value) (args : List Value) → Same (calls.natively (of_tree tree) k v args) (calls.natively (of_numbered p) k v args)
  sim_natively k v args = rw agree.class_name (sim_native ((of_tree tree).class_name) k v args)

  pub sim_do_member : (found : Found Code) (found' : Found n.Code) → IsFound tree site_of p found found' → (v : Value) (args : List Value)
      → Same (calls.do_member w found v args) (calls.do_member w' found' v args)
  sim_do_member (built_in k) (built_in k') is v args = rw is (sim_choose (nat_eq k calls.list_to_string) (enters.lists v names) (sim_natively k v args))
  sim_do_member (reads k) (reads k') is v args = rw is (sim_look (λ r. refl))
  sim_do_member (writes k) (writes k') is v args = rw is (sim_then (sim_set_field v k (argument 0 args)) (sim_pure null))
  sim_do_member (coded k) (coded k') is v args = enters.codes k k' is v args names
  sim_do_member _ _ is v args = absurd is

  sim_invoked : (sel : Selector) (args : List Value) → Same (calls.invoked sel args) (calls.invoked sel args)
  sim_invoked sel args = sim_bind (sim_new (list args) tt) (λ all. sim_new (invocation (told_name sel.kind sel.name) all sel.kind) tt)

  or_object : (o : Option (Found Code)) (o' : Option (Found n.Code)) → BothOrNone (IsFound tree site_of p) o o' → IsFound tree site_of p (unwrap_or o (built_in 2)) (unwrap_or o' (built_in 2))
  or_object (Some f) (Some f') is = is
  or_object None None is = refl
  or_object _ _ is = absurd is

  pub sim_reach : (o : Option (Found Code)) (o' : Option (Found n.Code)) → BothOrNone (IsFound tree site_of p) o o'
      → (other : Option (Found Code)) (other' : Option (Found n.Code)) → BothOrNone (IsFound tree site_of p) other other' → (sel : Selector) (v : Value) (args : List Value)
      → Same (calls.reach w (target_or o other) sel v args) (calls.reach w' (target_or o' other') sel v args)
  sim_reach (Some f) (Some f') is other other' h sel v args = sim_do_member f f' is v args
  sim_reach None None is other other' h sel v args = sim_bind (sim_invoked sel args) (λ i. sim_do_member (unwrap_or other (built_in 2)) (unwrap_or other' (built_in 2)) (or_object other other' h) v (i ∷ []))
  sim_reach _ _ is other other' h sel v args = absurd is

  pub sim_send : (site : ℕ) (sel : Selector) (v : Value) (args : List Value) → Same (calls.send w site sel v args) (calls.send w' site sel v args)
  sim_send site sel v args = sim_ask site v (λ c is.
      sim_reach ((of_tree tree).lookup c sel) ((of_numbered p).lookup c sel) (agree.lookup c (in_range tree c is) sel)
      ((of_tree tree).lookup c no_such_method) ((of_numbered p).lookup c no_such_method) (agree.lookup c (in_range tree c is) no_such_method) sel v args)

  pub sim_to_text : (site : ℕ) (v : Value) → Same (calls.to_text w site v) (calls.to_text w' site v)
  sim_to_text site v = sim_bind (sim_send site to_string v []) sim_need_text

  sim_text_at : (site site' : ℕ) → site' ≡ site → (v : Value) → Same (calls.to_text w site v) (calls.to_text w' site' v)
  sim_text_at site site' e v = subst (λ k. Same (calls.to_text w site v) (calls.to_text w' k v)) (sym e) (sim_to_text site v)

  sim_equals : (site : ℕ) (v u : Value) → Same (calls.equals w site v u) (calls.equals w' site v u)
  sim_equals site v u = sim_choose (is_null v || is_null u) (sim_pure (is_null v && is_null u)) (sim_bind (sim_send site (calling (codes "==") 1) v (u ∷ [])) sim_need_bool)

  pub sim_operate : (k : OperatorCall) (v u : Value) → Same (calls.operate w k v u) (calls.operate w' k v u)
  sim_operate k v u = sim_send k.site.0 (calling (binary_name k.operator) 1) v (u ∷ [])

  sim_combine_by : (op : BinaryOperator) (k : OperatorCall) (v u : Value) → Same (calls.combine_by w op k v u) (calls.combine_by w' op k v u)
  sim_combine_by b.Equal k v u = sim_bind (sim_equals k.site.0 v u) (λ same. sim_pure (bool same))
  sim_combine_by b.NotEqual k v u = sim_bind (sim_equals k.site.0 v u) (λ same. sim_pure (bool (not same)))
  sim_combine_by _ k v u = sim_operate k v u

  sim_truth : {x : M Bound Value} {y : M Value Value} → Same x y → Same (calls.truth w x) (calls.truth w' y)
  sim_truth s = sim_bind (sim_bind s sim_need_bool) (λ x. sim_pure (bool x))

  pub sim_combine : (op : Joint) (v : Value) {x : M Bound Value} {y : M Value Value} → Same x y → Same (calls.combine w op v x) (calls.combine w' op v y)
  sim_combine joint.And v s = sim_bind (sim_need_bool v) (λ go. sim_choose go (sim_truth s) (sim_pure (bool false)))
  sim_combine joint.Or v s = sim_bind (sim_need_bool v) (λ go. sim_choose go (sim_pure (bool true)) (sim_truth s))
  sim_combine (joint.Operator k) v s = sim_bind s (sim_combine_by k.operator k v)

  pub sim_is_of : (v : Value) (c : ℕ) → c < class_numbers tree → Same (calls.is_of (of_tree tree) v c) (calls.is_of (of_numbered p) v c)
  sim_is_of v c in_c = sim_choose (is_null v) (sim_pure _)
      (sim_class v (λ own is. sim_then (sim_note_test own c)
      (subst (λ x. Same (pure ((of_tree tree).is_subtype own c)) (pure x)) (sym (agree.is_subtype own c (in_range tree own is) in_c)) (sim_pure ((of_tree tree).is_subtype own c)))))

  pub sim_throw : (v : Value) → Same (calls.throw (of_tree tree) v) (calls.throw (of_numbered p) v)
  sim_throw v = sim_choose (is_null v) (sim_stop (threw trap.TypeFault))
      (sim_bind (sim_look (λ r. ap (λ of. thrown_text of r.store.heap v) (sym agree.class_name))) (λ s. sim_stop (threw (trap.Thrown s))))

  pub sim_construct : (o : Option Code) (o' : Option n.Code) → BothOrNone (IsCode tree site_of p) o o' → (v : Value) (args : List Value) → Same (calls.construct w o v args) (calls.construct w' o' v args)
  sim_construct (Some k) (Some k') is v args = enters.codes k k' is v args names
  sim_construct None None is v args = sim_pure null
  sim_construct _ _ is v args = absurd is

  sim_object : (c : ℕ) → c < class_numbers tree → Same (new (object c ((of_tree tree).fields c))) (new (object c ((of_numbered p).fields c)))
  sim_object c in_c = subst (λ l. Same (new (object c ((of_tree tree).fields c))) (new (object c l))) (sym (agree.fields c in_c)) (sim_new (object c ((of_tree tree).fields c)) (omega (arith, in_c, all_classes tree)))

  pub sim_make : (c : ℕ) → c < class_numbers tree → (args : List Value) → Same (calls.make w c args) (calls.make w' c args)
  sim_make c in_c args = sim_bind (sim_object c in_c) (λ v.
      sim_then (sim_construct ((of_tree tree).constructor c) ((of_numbered p).constructor c) (agree.constructor c in_c) v args) (sim_pure v))

  pub sim_print : (v : Value) → Same (calls.print w v) (calls.print w' v)
  sim_print v = sim_then (sim_bind (sim_text_at _ _ agree.print_site v) sim_add_line) (sim_pure null)

  pub sim_list_text : (v : Value) → Same (calls.list_text w v) (calls.list_text w' v)
  sim_list_text v = sim_looping (λ s. sim_look (λ r. refl))
      (λ s. sim_bind (sim_bind (sim_look (λ r. refl)) (sim_text_at _ _ agree.list_site)) (λ shown. sim_pure (again (s.0 + 1, s.1 ++ (comma_before s.0 ++ shown)))))
      (0, codes "[")
