use Rattle.std.proofs.Common.{◌≡◌, ℕ, ◌+◌, ◌<◌, length, slice_get, get_or, Some, refl, ◌∙◌, ap, arith}
use Rattle.std.proofs.lemmas.Option.{slice_get_read}
use Rattle.program.specs.Program.{parts_of}
use Rattle.method_lookup.proofs.Visits.{lookup_visits_is, lookup_most}
use Rattle.method_lookup.proofs.Walks.{lookup_is, name_at, length-names}
use Rattle.method_lookup.proofs.linked.Linked.lookup.Goals as goal

pub returns-clause-found : goal.returns-clause-found
returns-clause-found g c =
    let here : slice_get c.args.self.now.program.selectors c.args.sel.0 ≡ Some c.index-as_slice-sel.result =
    slice_get_read c.args.self.now.program.selectors (length c.args.self.now.program.selectors) c.args.sel.0 c.index-as_slice-sel.result refl c.requires.selector (c.index-as_slice-sel.is ∙ ap (λ xs. get_or xs c.args.sel.0 c.index-as_slice-sel.result) c.as_slice.ensures) in
    let count : length c.args.self.now.index.selector_names.items ≡ length c.args.self.now.program.selectors = ap (λ xs. length xs) c.args.self.now.names ∙ length-names c.args.self.now.program.methods c.args.self.now.program.selectors in
    let within : c.args.sel.0 < length c.args.self.now.index.selector_names.items = omega (arith, count, c.requires.selector) in
    c.find.ensures.found
    ∙ lookup_is (parts_of c.args.self.now.program) c.args.c.0 c.args.sel.0 c.index-as_slice-sel.result c.index-name.result.now here
    (name_at (parts_of c.args.self.now.program) c.args.self.now.index.selector_names.items c.args.sel.0 c.index-as_slice-sel.result c.index-name.result.now c.args.self.now.names here within c.index-name.ensures)

pub returns-clause-visits : goal.returns-clause-visits
returns-clause-visits g c =
    let here : slice_get c.args.self.now.program.selectors c.args.sel.0 ≡ Some c.index-as_slice-sel.result =
    slice_get_read c.args.self.now.program.selectors (length c.args.self.now.program.selectors) c.args.sel.0 c.index-as_slice-sel.result refl c.requires.selector (c.index-as_slice-sel.is ∙ ap (λ xs. get_or xs c.args.sel.0 c.index-as_slice-sel.result) c.as_slice.ensures) in
    let count : length c.args.self.now.index.selector_names.items ≡ length c.args.self.now.program.selectors = ap (λ xs. length xs) c.args.self.now.names ∙ length-names c.args.self.now.program.methods c.args.self.now.program.selectors in
    let within : c.args.sel.0 < length c.args.self.now.index.selector_names.items = omega (arith, count, c.requires.selector) in
    let same =
    lookup_visits_is (parts_of c.args.self.now.program) c.args.c.0 c.args.sel.0 c.index-as_slice-sel.result c.index-name.result.now here
    (name_at (parts_of c.args.self.now.program) c.args.self.now.index.selector_names.items c.args.sel.0 c.index-as_slice-sel.result c.index-name.result.now c.args.self.now.names here within c.index-name.ensures) in
    c.find.ensures.visits ∙ ap (λ (n : ℕ). c.args.steps.now + n) same

pub returns-clause-cost : goal.returns-clause-cost
returns-clause-cost g c =
    let here : slice_get c.args.self.now.program.selectors c.args.sel.0 ≡ Some c.index-as_slice-sel.result =
    slice_get_read c.args.self.now.program.selectors (length c.args.self.now.program.selectors) c.args.sel.0 c.index-as_slice-sel.result refl c.requires.selector (c.index-as_slice-sel.is ∙ ap (λ xs. get_or xs c.args.sel.0 c.index-as_slice-sel.result) c.as_slice.ensures) in
    let count : length c.args.self.now.index.selector_names.items ≡ length c.args.self.now.program.selectors = ap (λ xs. length xs) c.args.self.now.names ∙ length-names c.args.self.now.program.methods c.args.self.now.program.selectors in
    let within : c.args.sel.0 < length c.args.self.now.index.selector_names.items = omega (arith, count, c.requires.selector) in
    let same =
    lookup_visits_is (parts_of c.args.self.now.program) c.args.c.0 c.args.sel.0 c.index-as_slice-sel.result c.index-name.result.now here
    (name_at (parts_of c.args.self.now.program) c.args.self.now.index.selector_names.items c.args.sel.0 c.index-as_slice-sel.result c.index-name.result.now c.args.self.now.names here within c.index-name.ensures) in
    let most = lookup_most (parts_of c.args.self.now.program) c.args.c.0 c.args.sel.0 in
    omega (arith, c.find.ensures.visits, same, most)
