use Rattle.std.proofs.Common.{◌≡◌, ◌∙◌, ◌∷◌, [], ◌++◌, ◌≤◌, length, map, ap, sym, subst}
use Rattle.dart_meaning.specs.Program.{to_string}
use Rattle.dart_meaning.specs.Sites.{prelude_sites}
use Rattle.dart_meaning.specs.Sites.{also_used}
use Rattle.site_list.specs.Rows.{row_in}
use Rattle.site_list.specs.SourceSites.{selector_of, listed, asked, held}
use Rattle.site_list.proofs.Numbers.{few_first, few_last, fitting, selectors_is, all_rows}
use Rattle.site_list.proofs.tables.tables_of.Goals as goal

pub rows_of_text-requires-clause-few : goal.rows_of_text-requires-clause-few
rows_of_text-requires-clause-few c =
    let e = ap (map selector_of) c.new-known.ensures.empty in
    subst (λ known. length (also_used known (asked c.args.sites.now)) ≤ 2048) (sym e) (few_first c.requires.limited.0 c.args.sites.now c.requires.limited.1)

pub put_last_rows-requires : goal.put_last_rows-requires
put_last_rows-requires c =
    let e : held c.rows_of_text.new.known ≡ also_used [] (asked c.args.sites.now) = c.in_ok-rows.ensures.known ∙ ap (λ keys. also_used (map selector_of keys) (asked c.args.sites.now)) c.new-known.ensures.empty in
    subst (λ known. length (also_used known (to_string ∷ [])) ≤ 2048) (sym e) (few_last c.requires.limited.0 c.args.sites.now c.requires.limited.1)

pub selector_rows-requires : goal.selector_rows-requires
selector_rows-requires c =
    let e : held c.rows_of_text.new.known ≡ also_used [] (asked c.args.sites.now) = c.in_ok-rows.ensures.known ∙ ap (λ keys. also_used (map selector_of keys) (asked c.args.sites.now)) c.new-known.ensures.empty in
    fitting c.requires.limited.0 c.args.sites.now c.as_slice.result.now c.requires.limited.1
    (ap (map selector_of) c.as_slice.ensures.keys ∙ c.in_ok-put_last_rows.ensures.known ∙ ap (λ known. also_used known (to_string ∷ to_string ∷ [])) e)

pub returns-clause-selectors : goal.returns-clause-selectors
returns-clause-selectors c = λ tree is.
    let e : held c.rows_of_text.new.known ≡ also_used [] (asked c.args.sites.now) = c.in_ok-rows.ensures.known ∙ ap (λ keys. also_used (map selector_of keys) (asked c.args.sites.now)) c.new-known.ensures.empty in
    c.in_ok-selector_rows.ensures ∙ ap (map selector_of) c.as_slice.ensures.keys ∙ c.in_ok-put_last_rows.ensures.known ∙ ap (λ known. also_used known (to_string ∷ to_string ∷ [])) e ∙ selectors_is tree c.args.sites.now is

pub returns-clause-sites : goal.returns-clause-sites
returns-clause-sites c = λ tree is.
    let e : held c.rows_of_text.new.known ≡ also_used [] (asked c.args.sites.now) = c.in_ok-rows.ensures.known ∙ ap (λ keys. also_used (map selector_of keys) (asked c.args.sites.now)) c.new-known.ensures.empty in
    let text = c.args.text.now in
    c.from_vec.ensures ∙ c.in_ok-put_last_rows.ensures.rows text
    ∙ ap (λ rows. rows ++ map (row_in text (also_used (held c.rows_of_text.new.known) (to_string ∷ to_string ∷ []))) prelude_sites) (c.in_ok-rows.ensures.rows ∙ ap (λ keys. map (row_in text (also_used (map selector_of keys) (asked c.args.sites.now))) (listed c.args.sites.now)) c.new-known.ensures.empty)
    ∙ ap (λ known. map (row_in text (also_used [] (asked c.args.sites.now))) (listed c.args.sites.now) ++ map (row_in text (also_used known (to_string ∷ to_string ∷ []))) prelude_sites) e
    ∙ all_rows text tree c.args.sites.now is
