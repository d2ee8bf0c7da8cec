-- What was told of the bytes that were read, said of the bytes that the source held.
use Rattle.std.proofs.Common.{◌≡◌, ℕ, List, Bool, sym, ap, subst, ◌∙◌, Option, Some, None}
use Rattle.std.specs.Io.KnownBytes.{Appends}
use Rattle.dart_sites.specs.declared.words.Request.{Request}
use Rattle.dart_sites.specs.Outside.{ReadAll}
use Rattle.dart_sites.specs.Source.{IsSource}
use Rattle.dart_syntax.specs.Syntax.{Tree}
use Rattle.static_rules.specs.Accepted as rules
use Rattle.static_rules.specs.Accepted.{failing, exceeded, counts}
use Rattle.dart_sites.specs.Refusals.{missing}
use Rattle.dart_sites.specs.Top.{Says, Defines, WholeWritten, PartWritten, CutShort, NoSource, NamesRefused, WrongNames, breaks, no_entry, OverLimit, LineWritten, SourceRefused, RequestRefused, IsAccepted}
use Rattle.dart_sites.specs.Words.{Asks, entries}
use Rattle.dart_sites.proofs.RunWords.{same_entries}

defines : (words : List (List ℕ)) (old left : Option (List ℕ)) (bytes given text : List ℕ) (asked : Request) (all_done : Bool) →
    Asks words asked → ReadAll old left bytes → given ≡ bytes → Says asked given text all_done → Defines words old left text all_done
defines words old left bytes given text asked all_done asks all same says =
    record { asked = asked; asks = asks; input = bytes; read = all; says = subst (λ b. Says asked b text all_done) same says }

pub whole_written : (words : List (List ℕ)) (old left held holds : Option (List ℕ)) (bytes given text : List ℕ) (asked : Request) (all_done is : Bool) →
    Asks words asked → ReadAll old left bytes → given ≡ bytes → Says asked given text all_done → all_done ≡ is → Appends held holds text →
    WholeWritten words old left held holds is
whole_written words old left held holds bytes given text asked all_done is asks all same says e written =
    record { text = text; defined = defines words old left bytes given text asked is asks all same (subst (Says asked given text) e says); written = written }

pub part_written : (words : List (List ℕ)) (old left held holds : Option (List ℕ)) (bytes given text : List ℕ) (asked : Request) (all_done : Bool) →
    Asks words asked → ReadAll old left bytes → given ≡ bytes → Says asked given text all_done → CutShort held holds text →
    PartWritten words old left held holds
part_written words old left held holds bytes given text asked all_done asks all same says cut =
    record { text = text; all_done = all_done; defined = defines words old left bytes given text asked all_done asks all same says; written = cut }

pub source_refused : (why : List ℕ → List ℕ → Type 0) (old left held holds : Option (List ℕ)) (before now : ℕ) (bytes given line : List ℕ) → ReadAll old left bytes → given ≡ bytes → why given line →
    LineWritten held holds before now line → SourceRefused why old left held holds before now
source_refused why old left held holds before now bytes given line all same because written =
    record { input = bytes; read = all; line = line; because = subst (λ b. why b line) same because; written = written }

pub request_refused : (words : List (List ℕ)) (old left held holds : Option (List ℕ)) (before now : ℕ) (bytes given line : List ℕ) (asked : Request) → Asks words asked →
    ReadAll old left bytes → given ≡ bytes → NamesRefused asked given line → LineWritten held holds before now line →
    RequestRefused words old left held holds before now
request_refused words old left held holds before now bytes given line asked asks all same because written =
    record { asked = asked; asks = asks; refused = source_refused (NamesRefused asked) old left held holds before now bytes given line all same because written }

pub no_source_not_accepted : (words : List (List ℕ)) (old left : Option (List ℕ)) (bytes given line : List ℕ) → ReadAll old left bytes → given ≡ bytes → NoSource given line → IsAccepted words old → ⊥
no_source_not_accepted words None left bytes given line all same none accepted = accepted.source
no_source_not_accepted words (Some input) left bytes given line all same none accepted =
    none.no_tree accepted.tree (subst (λ b. IsSource b accepted.tree) (all.all.0 ∙ sym same) accepted.source.0)

-- An accepted tree has no wrong names.
names_fit : (r s : Request) (tree : Tree) (input line : List ℕ) → entries r ≡ entries s → rules.IsAccepted tree → missing tree (entries s) ≡ None → WrongNames r tree input line → ⊥
names_fit r s tree input line same accepted there (breaks broken is) =
    let none : failing tree ≡ None = accepted.rules in
    cc
names_fit r s tree input line same accepted there (no_entry also gone is) =
    let named : missing tree (entries r) ≡ missing tree (entries s) = ap (missing tree) same in
    cc

pub names_not_accepted : (words : List (List ℕ)) (old left : Option (List ℕ)) (bytes given line : List ℕ) (asked : Request) → Asks words asked → ReadAll old left bytes → given ≡ bytes →
    NamesRefused asked given line → IsAccepted words old → ⊥
names_not_accepted words None left bytes given line asked asks all same refused accepted = accepted.source
names_not_accepted words (Some input) left bytes given line asked asks all same refused accepted =
    let tree : refused.tree ≡ accepted.tree = refused.tree_of.only accepted.tree (subst (λ b. IsSource b accepted.tree) (all.all.0 ∙ sym same) accepted.source.0) in
    names_fit asked accepted.asked accepted.tree given line (same_entries words asked accepted.asked asks accepted.asks) accepted.accepted accepted.named
    (subst (λ t. WrongNames asked t given line) tree refused.wrong)

pub limit_not_accepted : (words : List (List ℕ)) (old left : Option (List ℕ)) (bytes given line : List ℕ) → ReadAll old left bytes → given ≡ bytes → OverLimit given line → IsAccepted words old → ⊥
limit_not_accepted words None left bytes given line all same over accepted = accepted.source
limit_not_accepted words (Some input) left bytes given line all same over accepted =
    let tree : over.tree ≡ accepted.tree = over.tree_of.only accepted.tree (subst (λ b. IsSource b accepted.tree) (all.all.0 ∙ sym same) accepted.source.0) in
    let some : exceeded (counts accepted.tree) ≡ Some (over.what, over.count) = subst (λ t. exceeded (counts t) ≡ Some (over.what, over.count)) tree over.over in
    let none : exceeded (counts accepted.tree) ≡ None = accepted.accepted.limits in
    cc
