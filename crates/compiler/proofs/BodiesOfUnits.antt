-- What is written is the unit of its body, whatever constants come later.
use Rattle.std.proofs.Common.{◌≡◌, ℕ, suc, ◌+◌, ◌-◌, ◌≤◌, Bool, true, false, List, [], ◌∷◌, ◌++◌, length, map, refl, sym, ◌∙◌, ap, subst, arith}
use Rattle.std.specs.Prelude.{zero, replicate, Option, Some, None, nat_eq, max, slice_get, pos, codes}
use Rattle.program.specs.declared.literal.Literal.{Literal}
use Rattle.program.specs.declared.literal.Literal.TheVariants as l
use Rattle.program.specs.declared.body.Body.{Body}
use Rattle.program.specs.declared.body.Body.TheVariants as body
use Rattle.program.specs.declared.numbered.Constructor.{Constructor}
use Rattle.program.specs.declared.numbered.Function.{Function}
use Rattle.program.specs.declared.numbered.Site.{Site}
use Rattle.program.specs.declared.numbered.SitePlace.TheVariants as place
use Rattle.program.specs.Bodies.{Exps, Stas}
use Rattle.program.specs.Parts.{Parts}
use Rattle.dart_meaning.specs.Numbered as n
use Rattle.code_unit.specs.declared.unit.Unit as declared_unit
use Rattle.program_code.specs.Code as d
use Rattle.program_code.specs.Needs.{CoversAll, CoversBody, CoversStas, RoomyAll, RoomyBody}
use Rattle.program_code.specs.IsCode.{BodyCode, ConstructorCode, ListCode, first_of, passes_of, body_of, sets_of, required_of, defaults_of}
use Rattle.code_writer.specs.declared.layout.Layout.{Layout}
use Rattle.code_writer.specs.Constants.{number_in}
use Rattle.code_writer.specs.Out.{Out, turned, started, put_constant}
use Rattle.code_writer.specs.Laws.{IsLayout, IsKnown}
use Rattle.code_writer.specs.EmittedStatements.{emit_body, emit_constructor, emit_list_text, emit_sets, most_of, most_open_all}
use Rattle.code_writer.proofs.Tables.{Keeps, keeps}
use Rattle.code_writer.proofs.Whole.{IsWritten, body_written, constructor_written, list_written, body_roomy, body_least, all_roomy, least}
use Rattle.compiler.specs.Units.{IsUnit, IsTextUnit, IsBodyUnit, IsPartsUnit, IsConstructorUnit, IsListUnit, HasListLiterals, BeginsWith, HasParts}
use Rattle.compiler.specs.declared.units.ConstructorParts.{ConstructorParts}
use Rattle.program.specs.declared.numbered.Class.{Class}
use Rattle.program.specs.Bodies.{exp, exps}
use Rattle.code_writer.specs.Views.{stas_of}
use Rattle.std.specs.Prelude.{get_or, drop, option_map, option_and_then, unwrap_or}
use Rattle.std.proofs.lemmas.Option.{slice_get-map}
use Rattle.std.proofs.lemmas.List.{drop_more}
use Rattle.std.proofs.Common.{◌<◌}

append_nothing : {A : Type 0} (xs : List A) → xs ++ [] ≡ xs
append_nothing [] = refl
append_nothing (x ∷ xs) = ap (λ ys. x ∷ ys) (append_nothing xs)

length_replicate : {A : Type 0} (n : ℕ) (x : A) → length (replicate n x) ≡ n
length_replicate zero x = refl
length_replicate (suc n) x = ap suc (length_replicate n x)

a_site : Site
a_site = record { selector = record { 0 = 0 }; place = place.Print }

a_function : Function
a_function = record { name = []; is_entry = false; required = 0; defaults = []; body = body.Block [] }

-- For each layout there is a list of sites and of functions.
some_program : (layout : Layout) → (p : Parts) × IsLayout p layout
some_program layout = (
  record { classes = []; methods = []; functions = replicate layout.functions a_function; selectors = []; sites = replicate (layout.print_site + 2) a_site; globals = [] },
  record { print_site = sym (ap (λ n. n - 2) (length_replicate (layout.print_site + 2) a_site) ∙ omega arith); functions = sym (length_replicate layout.functions a_function) },
)

some_sites : (list_site : ℕ) → (p : Parts) × (list_site ≡ length p.sites - 1)
some_sites k =
    (record { classes = []; methods = []; functions = []; selectors = []; sites = replicate (k + 1) a_site; globals = [] }, sym (ap (λ n. n - 1) (length_replicate (k + 1) a_site) ∙ omega arith))

abbrev pub body_layout : Layout → ℕ → ℕ → Bool → Layout
body_layout base first scratch made = record base { first = first; scratch = scratch; of_constructor = made }

module _ (base : Layout) (of_this : Bool) (b : Body) (required : ℕ) (defaults : List Literal) (first scratch params parameters : ℕ) (s s' : Out) (u : declared_unit.Unit)
    (parameters_are : parameters ≡ required + length defaults) (first_is : first ≡ first_of of_this) (scratch_is : scratch ≡ first + most_of parameters b) (params_are : params ≡ first + parameters)
    (written : s' ≡ emit_body (body_layout base first scratch false) b parameters (started s)) (unit : IsUnit s' params scratch defaults u) where
  known : (p : Parts) → IsLayout p base → (more : List Literal)
      → IsWritten s s' (d.body_code p (number_in (s'.table ++ more)) first scratch b parameters) (s'.table ++ more) (CoversBody (IsKnown (s'.table ++ more)) s'.room b)
  known p h more =
      subst (λ (o : Out). IsWritten s o (d.body_code p (number_in (o.table ++ more)) first scratch b parameters) (o.table ++ more) (CoversBody (IsKnown (o.table ++ more)) o.room b)) (sym written)
      (body_written p (body_layout base first scratch false) (record { print_site = h.print_site; functions = h.functions }) refl b parameters s more)

  pub body_is : IsBodyUnit base s'.table of_this b required defaults u
  body_is p h more =
      let k = known p h more in
      let least_is : parameters ≤ most_of parameters b = body_least parameters b in
      record {
        takes = unit.takes ∙ params_are ∙ ap (λ n. n + parameters) first_is ∙ ap (λ n. first_of of_this + n) parameters_are;
        defaults_are = unit.defaults_are;
        scratch = scratch;
        most = most_of parameters b;
        room = s'.room;
        apart = omega (arith, scratch_is, first_is);
        spares = omega (arith, unit.locals);
        rooms = omega (arith, unit.locals);
        small = omega (arith, least_is, parameters_are);
        code = unit.code ∙ k.code ∙ ap (λ n. d.body_code p (number_in (s'.table ++ more)) n scratch b parameters) first_is ∙ ap (λ n. d.body_code p (number_in (s'.table ++ more)) (first_of of_this) scratch b n) parameters_are;
        depths = unit.depths;
        covers = k.needs;
        roomy = subst (λ n. RoomyBody (most_of parameters b) n b) parameters_are (body_roomy parameters b);
      }

  pub body_begins : BeginsWith s.table s'.table
  body_begins =
      let some = some_program base in
      let k = known some.0 some.1 [] in
      record { more = k.rest; is = sym (append_nothing s'.table) ∙ k.begins }

module _ (base : Layout) (above : ℕ) (sets : List (Option ℕ)) (passes : Exps) (all : Stas) (required : ℕ) (defaults : List Literal) (scratch params parameters : ℕ) (s s' : Out) (u : declared_unit.Unit)
    (parameters_are : parameters ≡ required + length defaults) (scratch_is : scratch ≡ 1 + most_open_all parameters all) (params_are : params ≡ 1 + parameters)
    (written : s' ≡ emit_constructor (body_layout base 1 scratch true) above sets passes all parameters (started s)) (unit : IsUnit s' params scratch defaults u) where
  abbrev Needs : Out → List Literal → Type 0
  Needs o more = (nat_eq above 0 ≡ false → CoversAll (IsKnown (o.table ++ more)) o.room passes) × CoversStas (IsKnown (o.table ++ more)) o.room all

  known_parts : (p : Parts) → IsLayout p base → (more : List Literal)
      → IsWritten s s' (d.constructor_code p (number_in (s'.table ++ more)) 1 scratch above sets passes all parameters) (s'.table ++ more) (Needs s' more)
  known_parts p h more =
      subst (λ (o : Out). IsWritten s o (d.constructor_code p (number_in (o.table ++ more)) 1 scratch above sets passes all parameters) (o.table ++ more) (Needs o more)) (sym written)
      (constructor_written p (body_layout base 1 scratch true) (record { print_site = h.print_site; functions = h.functions }) refl above sets passes all parameters s more)

  parts_code : (p : Parts) → IsLayout p base → (more : List Literal) (class : ℕ) (o : Option Constructor) → n.class_above p class ≡ above
      → sets_of o ≡ sets → passes_of o ≡ passes → body_of o ≡ all → required_of o ≡ required → defaults_of o ≡ defaults
      → ConstructorCode p (s'.table ++ more) (number_in (s'.table ++ more)) class o u
  parts_code p h more class o above_is sets_are passes_are all_is required_is defaults_are =
      let k = known_parts p h more in
      let constant : Literal → ℕ = number_in (s'.table ++ more) in
      let least_is : parameters ≤ most_open_all parameters all = least parameters all in
      let count : parameters ≡ required_of o + length (defaults_of o) = parameters_are ∙ ap (λ n. n + length defaults) (sym required_is) ∙ ap (λ ds. required_of o + length ds) (sym defaults_are) in
      record {
        takes = unit.takes ∙ params_are ∙ ap (λ n. 1 + n) count;
        defaults_are = unit.defaults_are ∙ sym defaults_are;
        scratch = scratch;
        most = most_open_all parameters all;
        room = s'.room;
        apart = omega (arith, scratch_is);
        spares = omega (arith, unit.locals);
        rooms = omega (arith, unit.locals);
        small = omega (arith, least_is, count);
        code = unit.code ∙ k.code
            ∙ ap (λ a. d.constructor_code p constant 1 scratch a sets passes all parameters) (sym above_is)
            ∙ ap (λ xs. d.constructor_code p constant 1 scratch (n.class_above p class) xs passes all parameters) (sym sets_are)
            ∙ ap (λ xs. d.constructor_code p constant 1 scratch (n.class_above p class) (sets_of o) xs all parameters) (sym passes_are)
            ∙ ap (λ xs. d.constructor_code p constant 1 scratch (n.class_above p class) (sets_of o) (passes_of o) xs parameters) (sym all_is)
            ∙ ap (λ n0. d.constructor_code p constant 1 scratch (n.class_above p class) (sets_of o) (passes_of o) (body_of o) n0) count;
        depths = unit.depths;
        passes_cover = λ e. subst (CoversAll (IsKnown (s'.table ++ more)) s'.room) (sym passes_are) (k.needs.0 (ap (λ a. nat_eq a 0) (sym above_is) ∙ e));
        covers = subst (CoversStas (IsKnown (s'.table ++ more)) s'.room) (sym all_is) k.needs.1;
        roomy = subst (λ m. RoomyAll (most_open_all parameters all) m (body_of o)) count (subst (RoomyAll (most_open_all parameters all) parameters) (sym all_is) (all_roomy parameters all));
      }

  pub parts_are : IsPartsUnit base s'.table above sets passes all required defaults u
  parts_are = parts_code

  pub parts_begin : BeginsWith s.table s'.table
  parts_begin =
      let some = some_program base in
      let k = known_parts some.0 some.1 [] in
      record { more = k.rest; is = sym (append_nothing s'.table) ∙ k.begins }

module _ (list_site : ℕ) (s s0 s' : Out) (u : declared_unit.Unit) (null : s0 ≡ put_constant l.Null s) (written : s' ≡ emit_list_text list_site (started s0)) (unit : IsTextUnit s' u) where
  abbrev Five : List Literal → Type 0
  Five all = IsKnown all (l.Str (codes "[")) × (IsKnown all (l.Int (pos 0)) × (IsKnown all (l.Str []) × (IsKnown all (l.Str (codes ", ")) × (IsKnown all (l.Str (codes "]")) × Unit {0}))))

  known_list : (p : Parts) → list_site ≡ length p.sites - 1 → (more : List Literal)
      → IsWritten s0 s' (d.list_text_code p (number_in (s'.table ++ more)) 1 1) (s'.table ++ more) (Five (s'.table ++ more))
  known_list p h more =
      subst (λ (o : Out). IsWritten s0 o (d.list_text_code p (number_in (o.table ++ more)) 1 1) (o.table ++ more) (Five (o.table ++ more))) (sym written) (list_written p list_site h s0 more)

  -- null is among the constants, since it was before
  with_null : (all rest : List Literal) → all ≡ s0.table ++ rest → Keeps l.Null s.table all
  with_null all rest e = subst (Keeps l.Null s.table) (sym (e ∙ ap (λ (o : Out). o.table ++ rest) null)) (keeps l.Null s.table rest)

  list_code : (p : Parts) → list_site ≡ length p.sites - 1 → (more : List Literal) → ListCode p (s'.table ++ more) (number_in (s'.table ++ more)) u × HasListLiterals (s'.table ++ more)
  list_code p h more =
      let k = known_list p h more in (
        record {
          takes = unit.takes;
          defaults_are = unit.defaults_are;
          three = omega (arith, unit.locals);
          code = unit.code ∙ k.code;
          depths = unit.depths;
        },
        record {
          null = (with_null (s'.table ++ more) k.rest k.begins).there;
          open_bracket = k.needs.0;
          zero = k.needs.1.0;
          no_text = k.needs.1.1.0;
          comma = k.needs.1.1.1.0;
          close_bracket = k.needs.1.1.1.1.0;
        },
      )

  pub list_is : IsListUnit list_site s'.table u
  list_is = list_code

  pub list_begins : BeginsWith s.table s'.table
  list_begins =
      let some = some_sites list_site in
      let k = known_list some.0 some.1 [] in
      let kept = with_null (s'.table ++ []) k.rest k.begins in
      record { more = kept.rest; is = sym (append_nothing s'.table) ∙ kept.begins }

one_set : (layout : Layout) (x : Option ℕ) (more : List (Option ℕ)) (slot : ℕ) (s : Out) → emit_sets layout (x ∷ []) slot (emit_sets layout more (suc slot) s) ≡ emit_sets layout (x ∷ more) slot s
one_set layout None more slot s = refl
one_set layout (Some field) more slot s = refl

-- the unit of a class's constructor, from its parts
pub constructor_is : (base : Layout) (table : List Literal) (k : Class) (above : ℕ) (parts : ConstructorParts) (u : declared_unit.Unit) → HasParts k.constructor parts → above ≡ unwrap_or (option_map (λ q. q.0) k.parent) 0
    → IsPartsUnit base table above parts.sets.now (exps (map exp parts.passes.now)) (stas_of parts.body.now) parts.required parts.defaults.now u → IsConstructorUnit base table k u
constructor_is base table k above parts u has up f = λ p h more class there.
    let o : n.constructor_of p class ≡ k.constructor = ap (option_and_then (λ (c : Class). c.constructor)) there in
    let parent : n.class_above p class ≡ above
    = ap (λ x. unwrap_or (option_and_then (λ q. q) x) 0) (slice_get-map (λ (c : Class). option_map (λ q. q.0) c.parent) p.classes class ∙ ap (option_map (λ (c : Class). option_map (λ q. q.0) c.parent)) there) ∙ sym up in
    f p h more class (n.constructor_of p class) parent (ap sets_of o ∙ has.sets) (ap passes_of o ∙ has.passes) (ap body_of o ∙ has.body) (ap required_of o ∙ has.required) (ap defaults_of o ∙ has.defaults)

-- one parameter more, before the others
pub sets_next : (layout : Layout) (sets : List (Option ℕ)) (i j slot : ℕ) (x : Option ℕ) (s0 s1 s2 : Out) → j < length sets → i ≡ j + 1
    → s1 ≡ emit_sets layout (drop i sets) (layout.first + i) s0 → slot ≡ layout.first + j → s2 ≡ emit_sets layout (get_or sets j x ∷ []) slot s1 → s2 ≡ emit_sets layout (drop j sets) (layout.first + j) s0
sets_next layout sets i j slot x s0 s1 s2 small step e1 at_slot e2 =
    let after_slot : layout.first + i ≡ suc slot = omega (arith, step, at_slot) in
    e2 ∙ ap (emit_sets layout (get_or sets j x ∷ []) slot) (e1 ∙ ap (λ k. emit_sets layout (drop i sets) k s0) after_slot ∙ ap (λ k. emit_sets layout (drop k sets) (suc slot) s0) step)
    ∙ one_set layout (get_or sets j x) (drop (j + 1) sets) slot s0
    ∙ ap (λ ys. emit_sets layout ys slot s0) (sym (drop_more sets j x small)) ∙ ap (λ k. emit_sets layout (drop j sets) k s0) at_slot
