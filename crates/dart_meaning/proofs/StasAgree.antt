-- A statement and its numbered form do the same.
use Rattle.std.proofs.Common.{◌≡◌, ℕ, List, [], ◌∷◌, ◌++◌, refl, ap, sym, ◌∙◌, append_assoc}
use Rattle.std.specs.Prelude.{true, Option, Some, None}
use Rattle.dart_syntax.specs.Syntax as t
use Rattle.dart_syntax.specs.Syntax.{Tree}
use Rattle.program.specs.declared.literal.Literal.TheVariants as l
use Rattle.program.specs.Bodies as c
use Rattle.program.specs.Parts.{Parts}
use Rattle.dart_values.specs.Values.{Text, Value, null}
use Rattle.dart_meaning.specs.Place.{Place}
use Rattle.dart_meaning.specs.Program.{Entry}
use Rattle.dart_meaning.specs.Run.{M, ◌>>=◌, declare, scoped, Flow, onward, broke, continued, returned}
use Rattle.dart_meaning.specs.Classes.{Code}
use Rattle.dart_meaning.specs.Meaning.{Bound}
use Rattle.dart_meaning.specs.Meaning as m
use Rattle.dart_meaning.specs.Numbered as n
use Rattle.dart_meaning.specs.Numbering as num
use Rattle.dart_meaning.specs.Agree.{Agree, ExpCalls, ExpsCall, IfCalls, FirstCalls, StaCalls, StasCall}
use Rattle.dart_meaning.proofs.Simulation.{Sim, sim_pure, sim_bind, sim_then, sim_choose, sim_need_bool}
use Rattle.dart_meaning.proofs.CallsAgree.{Enters, user_classes}
use Rattle.dart_meaning.proofs.ExpsAgree as exps
use Rattle.dart_meaning.proofs.Blocks.{SimFlow, SimOpen, open_of, open_bind, sim_declare, flow_open, flow_of, flow_next, sim_scoped, sim_while, sim_do}

module _ (tree : Tree) (site_of : Place → ℕ) (p : Parts) (agree : Agree tree site_of p)
    (enter : Entry Code → M Bound Value) (enter' : Entry n.Code → M Value Value) (enters : Enters tree site_of p enter enter') (here : Option Text) where
  abbrev Same : {A : Type 0} → List Text → M Bound A → M Value A → Type 0
  Same names x y = Sim (user_classes tree) names x y

  abbrev Flows : List Text → List Text → M Bound Flow → M Value Flow → Type 0
  Flows names after x y = SimFlow (user_classes tree) names after x y

  abbrev tree_value : t.Exp → M Bound Value
  tree_value = m.value tree site_of here enter

  abbrev code_value : c.Exp → M Value Value
  code_value = n.value p enter'

  abbrev tree_doing : t.Sta → M Bound Flow
  tree_doing = m.doing tree site_of here enter

  abbrev code_doing : c.Sta → M Value Flow
  code_doing = n.doing p enter'

  abbrev tree_all : t.Stas → M Bound Flow
  tree_all = m.doing_all tree site_of here enter

  abbrev code_all : c.Stas → M Value Flow
  code_all = n.doing_all p enter'

  abbrev number : List Text → t.Sta → c.Sta
  number = num.sta tree site_of here

  abbrev after : List Text → t.Sta → List Text
  after = num.after

  abbrev after_first : List Text → t.First → List Text
  after_first = num.after_first

  sim_exp : (e : t.Exp) (names : List Text) → ExpCalls tree site_of p here names e → Same names (tree_value e) (code_value (num.exp tree site_of here names e))
  sim_exp = exps.sim_exp tree site_of p agree enter enter' enters here

  sim_test : (e : t.Exp) (names : List Text) → ExpCalls tree site_of p here names e → Same names (m.test tree site_of here enter e) (n.test p enter' (num.exp tree site_of here names e))
  sim_test e names is = sim_bind (sim_exp e names is) sim_need_bool

  sim_value_if : (e : Option t.Exp) (names : List Text) → IfCalls tree site_of p here names e → Same names (m.value_if tree site_of here enter e) (code_value (num.exp_or tree site_of here names l.Null e))
  sim_value_if None names is = sim_pure null
  sim_value_if (Some e) names is = sim_exp e names is

  sim_test_if : (e : Option t.Exp) (names : List Text) → IfCalls tree site_of p here names e → Same names (m.test_if tree site_of here enter e) (n.test p enter' (num.exp_or tree site_of here names (l.Bool true) e))
  sim_test_if None names is = sim_pure true
  sim_test_if (Some e) names is = sim_test e names is

  -- the names that are open behind statements, all of a block
  abbrev after_all : List Text → t.Stas → List Text
  after_all names t.done = names
  after_all names (t.next x more) = after_all (after names x) more

  -- the names that a statement opens
  more_after : (x : t.Sta) (names : List Text) → (more : List Text) × (after names x ≡ more ++ names)
  more_after (t.local x) names = (x.name.text ∷ [], refl)
  more_after _ names = ([], refl)

  more_after_all : (all : t.Stas) (names : List Text) → (more : List Text) × (after_all names all ≡ more ++ names)
  more_after_all t.done names = ([], refl)
  more_after_all (t.next x all) names =
      let (some, e) = more_after x names in
      let (more, h) = more_after_all all (after names x) in
      (more ++ some, h ∙ (ap (λ xs. more ++ xs) e ∙ sym (append_assoc more some names)))

  one : (x : t.Sta) (names : List Text) → Flows names (after names x) (tree_doing x) (code_doing (number names x)) → Same names (scoped (tree_doing x)) (scoped (code_doing (number names x)))
  one x names s = sim_scoped (more_after x names).0 (more_after x names).1 s

  block : (all : t.Stas) (names : List Text) → Flows names (after_all names all) (tree_all all) (code_all (num.stas tree site_of here names all))
      → Same names (scoped (tree_all all)) (scoped (code_all (num.stas tree site_of here names all)))
  block all names s = sim_scoped (more_after_all all names).0 (more_after_all all names).1 s

  sim_local : (x : t.Local) (names : List Text) → IfCalls tree site_of p here names x.value
      → SimOpen (user_classes tree) names (x.name.text ∷ names) (m.local tree site_of here enter x) (code_value (num.exp_or tree site_of here names l.Null x.value) >>= declare)
  sim_local x names is = open_bind (sim_value_if x.value names is) (λ z. sim_declare x.name.text z)

  sim_first : (x : t.First) (names : List Text) → FirstCalls tree site_of p here names x
      → SimOpen (user_classes tree) names (after_first names x) (m.first tree site_of here enter x) (n.first p enter' (num.first tree site_of here names x))
  sim_first t.nothing names is = open_of (sim_pure tt)
  sim_first (t.local_first x) names is = sim_local x names is
  sim_first (t.run_first e) names is = open_of (sim_then (sim_exp e names is) (sim_pure tt))

  first_more : (x : t.First) (names : List Text) → (more : List Text) × (after_first names x ≡ more ++ names)
  first_more (t.local_first x) names = (x.name.text ∷ [], refl)
  first_more _ names = ([], refl)

  sim_for : (start : t.First) (e : Option t.Exp) (last : t.Exps) (x : t.Sta) (names : List Text)
      → FirstCalls tree site_of p here names start → IfCalls tree site_of p here (after_first names start) e → ExpsCall tree site_of p here (after_first names start) last
      → Same (after_first names start) (scoped (tree_doing x)) (scoped (code_doing (number (after_first names start) x)))
      → Same names (tree_doing (t.for start e last x)) (code_doing (number names (t.for start e last x)))
  sim_for start e last x names a b d s =
      let inner = after_first names start in
      sim_scoped (first_more start names).0 (first_more start names).1
      (flow_open inner (first_more start names).0 (first_more start names).1 (sim_first start names a)
      (flow_of (sim_while (sim_test_if e inner b) s (sim_then (exps.sim_exps tree site_of p agree enter enter' enters here last inner d) (sim_pure tt)))))

  mutual
    pub sim_sta : (x : t.Sta) (names : List Text) → StaCalls tree site_of p here names x → Flows names (after names x) (tree_doing x) (code_doing (number names x))
    sim_sta (t.block all) names is = flow_of (block all names (sim_stas all names is))
    sim_sta (t.local x) names is = flow_open (x.name.text ∷ names) (x.name.text ∷ []) refl (sim_local x names is) (flow_of (sim_pure onward))
    sim_sta (t.run e) names is = flow_of (sim_then (sim_exp e names is) (sim_pure onward))
    sim_sta t.empty names is = flow_of (sim_pure onward)
    sim_sta (t.when e x) names (a, b) = flow_of (sim_bind (sim_test e names a) (λ go. sim_choose go (one x names (sim_sta x names b)) (sim_pure onward)))
    sim_sta (t.when_else e x y) names (a, b, d) = flow_of (sim_bind (sim_test e names a) (λ go. sim_choose go (one x names (sim_sta x names b)) (one y names (sim_sta y names d))))
    sim_sta (t.while e x) names (a, b) = flow_of (sim_while (sim_test e names a) (one x names (sim_sta x names b)) (sim_pure tt))
    sim_sta (t.do_while x e) names (a, b) = flow_of (sim_do (one x names (sim_sta x names a)) (sim_test e names b))
    sim_sta (t.for start e last x) names (a, b, d, f) = flow_of (sim_for start e last x names a b d (one x (after_first names start) (sim_sta x (after_first names start) f)))
    sim_sta (t.break span) names is = flow_of (sim_pure broke)
    sim_sta (t.continue span) names is = flow_of (sim_pure continued)
    sim_sta (t.return span e) names is = flow_of (sim_bind (sim_value_if e names is) (λ z. sim_pure (returned z)))

    pub sim_stas : (all : t.Stas) (names : List Text) → StasCall tree site_of p here names all → Flows names (after_all names all) (tree_all all) (code_all (num.stas tree site_of here names all))
    sim_stas t.done names is = flow_of (sim_pure onward)
    sim_stas (t.next x all) names (a, b) = flow_next (after names x) (more_after x names).0 (more_after x names).1 (sim_sta x names a) (sim_stas all (after names x) b)
