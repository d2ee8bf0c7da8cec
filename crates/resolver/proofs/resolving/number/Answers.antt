use Rattle.std.proofs.Common.{◌∙◌, ap, arith}
use Rattle.dart_syntax.specs.View.{unit}
use Rattle.program.specs.Parts.{parts}
use Rattle.site_list.specs.SourceSites.{listed}
use Rattle.site_list.proofs.Limits.{are_limited, few_enough}
use Rattle.resolver.proofs.Programs.{is_numbered, is_sound}
use Rattle.resolver.proofs.resolving.number.Goals as goal

pub sites_in_order-requires : goal.sites_in_order-requires
sites_in_order-requires c = c.requires.accepted

pub tables_of-requires-clause-small : goal.tables_of-requires-clause-small
tables_of-requires-clause-small c = omega (arith, c.requires.small)

pub tables_of-requires-clause-limited : goal.tables_of-requires-clause-limited
tables_of-requires-clause-limited c =
    let tree = unit c.args.tree.now in
    (tree, are_limited tree c.deref.result.now (ap listed c.deref.ensures.value ∙ c.in_ok-sites.ensures) c.requires.accepted.limits c.requires.written)

pub lists_of-requires-clause-exact : goal.lists_of-requires-clause-exact
lists_of-requires-clause-exact c = ap listed c.deref-2.ensures.value ∙ c.in_ok-sites.ensures

pub lists_of-requires-clause-few : goal.lists_of-requires-clause-few
lists_of-requires-clause-few c = few_enough (unit c.args.tree.now) c.deref-2.result.now (ap listed c.deref-2.ensures.value ∙ c.in_ok-sites.ensures) c.requires.accepted.limits

pub invariant_of-result : goal.invariant_of-result
invariant_of-result c =
    let tree = unit c.args.tree.now in
    let exact = ap listed c.deref.ensures.value ∙ c.in_ok-sites.ensures in
    let lists = c.in_ok-lists.lists in
    let tables = c.in_ok-tables.tables in
    let p = parts lists.classes lists.methods lists.functions tables.selectors tables.sites lists.globals in
    let made = c.in_ok-lists.ensures in
    record {
      sound = is_sound c.args.text.now tree p
          (is_numbered c.args.text.now tree p c.requires.accepted made.classes made.front made.methods made.functions (c.in_ok-tables.ensures.selectors tree exact) (c.in_ok-tables.ensures.sites tree exact) made.globals)
          c.requires.accepted c.requires.written;
    }

pub returns : goal.returns
returns c =
    let tree = unit c.args.tree.now in
    let exact = ap listed c.deref.ensures.value ∙ c.in_ok-sites.ensures in
    let lists = c.in_ok-lists.lists in
    let tables = c.in_ok-tables.tables in
    let p = parts lists.classes lists.methods lists.functions tables.selectors tables.sites lists.globals in
    let made = c.in_ok-lists.ensures in
    is_numbered c.args.text.now tree p c.requires.accepted made.classes made.front made.methods made.functions (c.in_ok-tables.ensures.selectors tree exact) (c.in_ok-tables.ensures.sites tree exact) made.globals
