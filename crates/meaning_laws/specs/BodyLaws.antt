-- What is true of the expressions and statements of every sound numbered program.
use Rattle.std.specs.Prelude.{◌≡◌, ℕ, ◌-◌, Bool, ◌&&◌, ◌||◌, [], ◌∷◌, length, Option, codes}
use Rattle.program.specs.declared.body.OperatorCall.{OperatorCall}
use Rattle.program.specs.declared.numbered.SelectorKind.TheVariants.{Call}
use Rattle.program.specs.Bodies.{Exp, First, Sta}
use Rattle.program.specs.Parts.{Parts, selector_at}
use Rattle.program.specs.Sound.{Is, Sound, SoundFirst, SoundSta, after, after_first, binary_name}
use Rattle.program.specs.Whole.{IsSound}
use Rattle.dart_values.specs.Values.{classes, Text, Value}
use Rattle.dart_meaning.specs.Calls as calls
use Rattle.dart_meaning.specs.Calls.{is_null}
use Rattle.dart_meaning.specs.Laws.{IsFront}
use Rattle.dart_meaning.specs.Numbered.{Code, world, send, value, first, doing, enter}
use Rattle.dart_meaning.specs.Program.{Entry}
use Rattle.dart_meaning.specs.Run.{Run, Store, M, ◌>>=◌, pure, choose, need_bool, need_text}
use Rattle.meaning_laws.specs.Laws.{last, Goes, IsHeap, IfWent}

-- ---- variables

-- as many variables, and the same `this`
pub record SameCount (r s : Run Value) : Type 0 where
  pub vars : length s.vars ≡ length r.vars
  pub this : s.this ≡ r.this

-- so many variables, and the same `this`
pub record Opens (count : ℕ) (r s : Run Value) : Type 0 where
  pub vars : length s.vars ≡ count
  pub this : s.this ≡ r.this

-- An expression leaves as many variables as there were.
abbrev pub ExpressionsOpenNone : Type 0
ExpressionsOpenNone = (p : Parts) (here : Option ℕ) (slots : ℕ) (e : Exp) → Sound p here slots e →
    (depth : ℕ) (r : Run Value) → IfWent (value p (enter p depth) e r) (SameCount r)

-- Behind the first part of a `for` are as many as soundness counts.
abbrev pub FirstPartsOpen : Type 0
FirstPartsOpen = (p : Parts) (here : Option ℕ) (slots : ℕ) (x : First) → SoundFirst p here slots x →
    (depth : ℕ) (r : Run Value) → IfWent (first p (enter p depth) x r) (Opens (after_first (length r.vars) x) r)

-- Behind a statement are as many as soundness counts, however it ends.
abbrev pub StatementsOpen : Type 0
StatementsOpen = (p : Parts) (here : Option ℕ) (answers loops : Bool) (slots : ℕ) (x : Sta) → SoundSta p here answers slots loops x →
    (depth : ℕ) (r : Run Value) → IfWent (doing p (enter p depth) x r) (Opens (after (length r.vars) x) r)

-- ---- the store

-- What an expression, a statement or an entry leads to: no turn came back, what was told is still told, the top-level variables are as many, an address keeps its class, and objects have their fields.
pub record Follows (p : Parts) (s t : Store) : Type 0 where
  pub goes : Goes s t
  pub globals : length t.globals ≡ length s.globals
  pub classes : IsFront (classes s.heap) (classes t.heap)
  pub heap : IsHeap p s.heap → IsHeap p t.heap

-- so an entry
abbrev pub EntriesFollow : Type 0
EntriesFollow = (p : Parts) → IsSound p → (depth : ℕ) (x : Entry Code) (r : Run Value) →
    Follows p r.store (last (enter p depth x r)).store

-- so an expression of a sound body
abbrev pub ExpressionsFollow : Type 0
ExpressionsFollow = (p : Parts) → IsSound p → (here : Option ℕ) (slots : ℕ) (e : Exp) → Sound p here slots e →
    (depth : ℕ) (r : Run Value) → Follows p r.store (last (value p (enter p depth) e r)).store

-- so a statement of a sound body
abbrev pub StatementsFollow : Type 0
StatementsFollow = (p : Parts) → IsSound p → (here : Option ℕ) (answers loops : Bool) (slots : ℕ) (x : Sta) → SoundSta p here answers slots loops x →
    (depth : ℕ) (r : Run Value) → Follows p r.store (last (doing p (enter p depth) x r)).store

-- ---- selectors

-- `a == b` through a site, by the site's selector
abbrev pub equals_at : Parts → (Entry Code → M Value Value) → ℕ → Value → Value → M Value Bool
equals_at p enter site v u =
    choose (is_null v || is_null u) (pure (is_null v && is_null u)) (send p enter site v (u ∷ []) >>= need_bool)

-- the text of a value through a site, by the site's selector
abbrev pub text_at : Parts → (Entry Code → M Value Value) → ℕ → Value → M Value Text
text_at p enter site v = send p enter site v [] >>= need_text

-- Each call goes by the selector of its site, also where it is that of an operator or of a text.
pub record BySite (p : Parts) (enter : Entry Code → M Value Value) : Type 0 where
  pub operators : (k : OperatorCall) → Is Call (binary_name k.operator) 1 (selector_at p k.site.0) → (v u : Value) →
      calls.operate (world p enter) k v u ≡ send p enter k.site.0 v (u ∷ [])
  pub equalities : (site : ℕ) → Is Call (codes "==") 1 (selector_at p site) → (v u : Value) →
      calls.equals (world p enter) site v u ≡ equals_at p enter site v u
  pub interpolations : (site : ℕ) → Is Call (codes "toString") 0 (selector_at p site) → (v : Value) →
      calls.to_text (world p enter) site v ≡ text_at p enter site v
  pub print : (v : Value) → calls.to_text (world p enter) (length p.sites - 2) v ≡ text_at p enter (length p.sites - 2) v
  pub lists : (v : Value) → calls.to_text (world p enter) (length p.sites - 1) v ≡ text_at p enter (length p.sites - 1) v

-- Whatever enters bodies, calls go by the sites of the program.
abbrev pub CallsGoBySite : Type 0
CallsGoBySite = (p : Parts) → IsSound p → (enter : Entry Code → M Value Value) → BySite p enter
