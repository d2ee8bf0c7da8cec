use Rattle.std.proofs.Common.{rules, arith, ◌∙◌, ◌≡◌, ◌-◌, ap, sym, subst, length, drop, map, false, ◌+◌, ◌++◌, [], ◌∷◌}
use Rattle.std.proofs.lemmas.List.{length-append}
use Rattle.program.specs.Parts.{Parts}
use Rattle.program.specs.Program.{parts_of}
use Rattle.program_code.specs.IsCode.{selector_of, unit_id}
use Rattle.code_writer.specs.declared.layout.Layout.{Layout}
use Rattle.compiler.specs.Units.{Built, FunctionHas, ClassHas, MethodHas, IsListUnit, Reaches, code_of}
use Rattle.compiler.proofs.Growing.{item_last, grows_by}
use Rattle.compiler.proofs.Pools.{pool_is_code}
use Rattle.compiler.proofs.Uses.{no_other_unit}
use Rattle.compiler.proofs.compile.Goals as goal

pub returns-clause-code : goal.returns-clause-code
returns-clause-code c =
    let p : Parts = parts_of c.args.program.now in
    let base : Layout = record { first = 0; scratch = 0; print_site = c.in_ok-small.field-0; functions = c.in_ok-small-2.field-0; of_constructor = false } in
    let sites : c.as_slice-sites.result.now ≡ c.args.program.now.sites = c.as_slice-sites.ensures in
    let count : length c.as_slice-sites.result.now ≡ length c.args.program.now.sites = ap length sites in
    let print_is : c.in_ok-small.field-0 ≡ length c.args.program.now.sites - 2 = first_of (search rules, cc, grind (arith)) in
    let functions_are : c.in_ok-small-2.field-0 ≡ length c.args.program.now.functions = first_of (search rules, cc) in
    let list_is : c.in_ok-list_site.list_site ≡ length c.args.program.now.sites - 1 = first_of (search rules, cc, grind (arith)) in
    let constants_are : c.build.result.constants ≡ c.methods.new.out.table = first_of (search rules, cc) in
    let statics_are : c.build.result.statics ≡ c.in_ok-entries.entries.items ++ c.in_ok-constructors.constructors.items = first_of (search rules, cc) in
    let sites_are : c.build.result.sites ≡ map selector_of c.args.program.now.sites = first_of (search rules, cc) in
    pool_is_code p base (record { print_site = print_is; functions = functions_are }) c.in_ok-list_site.list_site list_is
    c.functions.new.units.items c.classes.new.units.items c.add.new.units.items c.methods.new.units.items c.functions.new.out.table c.classes.new.out.table c.list_unit.new.out.table c.methods.new.out.table
    c.in_ok-entries.entries.items c.in_ok-constructors.constructors.items c.in_ok-text.text c.in_ok-methods.methods.items c.build.result
    (subst (λ fs. Built (FunctionHas base c.functions.new.units.items c.functions.new.out.table) fs (length fs) c.in_ok-entries.entries.items) c.as_slice.ensures c.in_ok-entries.ensures.built)
    c.in_ok-constructors.ensures.grows
    (subst (λ ks. Built (ClassHas base c.classes.new.units.items c.classes.new.out.table) ks (length ks) c.in_ok-constructors.constructors.items) (c.users_of.ensures ∙ ap (drop 7) c.as_slice-classes.ensures) c.in_ok-constructors.ensures.built)
    (grows_by c.classes.new.units.items c.add.new.units.items c.in_ok-list_unit.field-0 c.classes.new.out.table c.list_unit.new.out.table c.in_ok-text.ensures.units c.in_ok-list_unit.ensures.table)
    (item_last c.classes.new.units.items c.add.new.units.items c.in_ok-list_unit.field-0 c.in_ok-text.text (IsListUnit c.in_ok-list_site.list_site c.list_unit.new.out.table) c.in_ok-text.ensures.units c.in_ok-text.ensures.number c.in_ok-list_unit.ensures.unit)
    c.in_ok-methods.ensures.grows
    (subst (λ ms. Built (MethodHas base c.methods.new.units.items c.methods.new.out.table c.in_ok-text.text) ms (length ms) c.in_ok-methods.methods.items) c.as_slice-2.ensures c.in_ok-methods.ensures.built)
    c.build.ensures.units constants_are statics_are sites_are c.build.ensures.entries c.build.ensures.methods

pub returns-clause-no_other : goal.returns-clause-no_other
returns-clause-no_other c =
    let base : Layout = record { first = 0; scratch = 0; print_site = c.in_ok-small.field-0; functions = c.in_ok-small-2.field-0; of_constructor = false } in
    let statics_are : c.build.result.statics ≡ c.in_ok-entries.entries.items ++ c.in_ok-constructors.constructors.items = first_of (search rules, cc) in
    let added : length c.add.new.units.items ≡ length c.classes.new.units.items + 1 = ap length c.in_ok-text.ensures.units ∙ length-append c.classes.new.units.items (c.in_ok-list_unit.field-0 ∷ []) in
    no_other_unit (parts_of c.args.program.now) c.args.program.now.sound base c.methods.new.units.items c.methods.new.out.table
    c.in_ok-entries.entries.items c.in_ok-constructors.constructors.items c.in_ok-text.text c.in_ok-methods.methods.items c.build.result (length c.functions.new.units.items) (length c.classes.new.units.items)
    (c.in_ok-entries.ensures.built.as_many ∙ ap length c.as_slice.ensures)
    (subst (λ n. Reaches unit_id c.in_ok-entries.entries.items n (length c.functions.new.units.items)) (ap length c.new-units.ensures.items) c.in_ok-entries.ensures.uses)
    (c.in_ok-constructors.ensures.built.as_many ∙ ap length (c.users_of.ensures ∙ ap (drop 7) c.as_slice-classes.ensures))
    c.in_ok-constructors.ensures.uses
    c.in_ok-text.ensures.number
    (subst (λ ms. Built (MethodHas base c.methods.new.units.items c.methods.new.out.table c.in_ok-text.text) ms (length ms) c.in_ok-methods.methods.items) c.as_slice-2.ensures c.in_ok-methods.ensures.built)
    (subst (λ n. Reaches code_of c.in_ok-methods.methods.items n (length c.methods.new.units.items)) added c.in_ok-methods.ensures.uses)
    c.build.ensures.units statics_are c.build.ensures.methods
