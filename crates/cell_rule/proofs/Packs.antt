-- A packed word tells what was packed.
use Rattle.std.proofs.Common.{◌≡◌, ℕ, ◌+◌, ◌-◌, ◌*◌, ◌/◌, ◌%◌, ◌<◌, true, false, ltb, sym, refl, ap, ◌∙◌, arith}
use Rattle.std.proofs.lemmas.Nat.{div-mul-add, mod-mul-add}
use Rattle.std.proofs.lemmas.Bool.Decides.{nat_tests}
use Rattle.program.specs.declared.numbered.Target.{Target}
use Rattle.program.specs.declared.numbered.Target.TheVariants.{Method, Nsm}
use Rattle.miss_handler.specs.declared.state.CallState.{CallState}
use Rattle.miss_handler.specs.declared.state.CallState.TheVariants.{Unlinked, Mono, Single, Cached, Mega}
use Rattle.miss_handler.specs.declared.row.Check.{Check}
use Rattle.miss_handler.specs.States.{check}
use Rattle.cell_rule.specs.declared.words.Stub.{Stub}
use Rattle.cell_rule.specs.declared.words.Stub.TheVariants as stub
use Rattle.cell_rule.specs.declared.words.Info.{Info}
use Rattle.cell_rule.specs.declared.words.Entry.{Entry}
use Rattle.cell_rule.specs.Words.{info, entry, IsSmall, target_field, kind_of, low_of, high_of, stub_number, data_word, target_word, check_word, StateFits, DataFits, TargetFits, CheckFits}
use Rattle.cell_rule.specs.Unpacked.{target_at, target_from, state_from, stub_from}

digit : (w a b a' b' : ℕ) → b < w → b' < w → a * w + b ≡ a' * w + b' → (a ≡ a') × (b ≡ b')
digit w a b a' b' h h' e = (sym (div-mul-add a w b h) ∙ (ap (λ (n : ℕ). n / w) e ∙ div-mul-add a' w b' h'), sym (mod-mul-add a w b h) ∙ (ap (λ (n : ℕ). n % w) e ∙ mod-mul-add a' w b' h'))

pub target_back : (t : Target) → IsSmall t → target_from (target_field t) ≡ t
target_back (Method k) h = let low : ltb k.0 32768 ≡ true = grind (arith, nat_tests) in ap (λ b. target_at b k.0) low
target_back (Nsm k) h =
    let high : ltb (32768 + k.0) 32768 ≡ false = grind (arith, nat_tests) in let less : 32768 + k.0 - 32768 ≡ k.0 = omega arith in
    ap (λ b. target_at b (32768 + k.0)) high ∙ ap (λ (n : ℕ). Nsm record { 0 = n }) less

pub field_small : (t : Target) → IsSmall t → target_field t < 65536
field_small (Method k) h = omega arith
field_small (Nsm k) h = omega arith

pub state_back : (s : CallState) (t : Target) → StateFits s t → state_from (kind_of s) (low_of s) (high_of s) t ≡ s
unfolding state_from
state_back Unlinked t f = refl
state_back (Mono a) t f = refl
state_back (Single lo hi u) t f = ap (λ (z : Target). Single lo hi z) f.2
state_back Cached t f = refl
state_back Mega t f = refl

pub kind_small : (s : CallState) → kind_of s < 256
kind_small Unlinked = omega arith
kind_small (Mono a) = omega arith
kind_small (Single lo hi u) = omega arith
kind_small Cached = omega arith
kind_small Mega = omega arith

pub low_small : (s : CallState) (t : Target) → StateFits s t → low_of s < 4096
low_small Unlinked t f = omega arith
low_small (Mono a) t f = f
low_small (Single lo hi u) t f = f.0
low_small Cached t f = omega arith
low_small Mega t f = omega arith

pub high_small : (s : CallState) (t : Target) → StateFits s t → high_of s < 4096
high_small Unlinked t f = omega arith
high_small (Mono a) t f = f
high_small (Single lo hi u) t f = f.1
high_small Cached t f = omega arith
high_small Mega t f = omega arith

pub data_inj : (k : ℕ) (i : Info) (k' : ℕ) (i' : Info) → DataFits k i → DataFits k' i' → data_word k i ≡ data_word k' i' → (k ≡ k') × (i ≡ i')
unfolding data_word
data_inj k i k' i' f f' e =
    let s = i.state in let t = i.target in let s' = i'.state in let t' = i'.target in
    let d0 = digit 65536 (((k * 256 + kind_of s) * 4096 + low_of s) * 4096 + high_of s) (target_field t) (((k' * 256 + kind_of s') * 4096 + low_of s') * 4096 + high_of s') (target_field t') (field_small t f.target) (field_small t' f'.target) e in
    let d1 = digit 4096 ((k * 256 + kind_of s) * 4096 + low_of s) (high_of s) ((k' * 256 + kind_of s') * 4096 + low_of s') (high_of s') (high_small s t f.state) (high_small s' t' f'.state) d0.0 in
    let d2 = digit 4096 (k * 256 + kind_of s) (low_of s) (k' * 256 + kind_of s') (low_of s') (low_small s t f.state) (low_small s' t' f'.state) d1.0 in
    let d3 = digit 256 k (kind_of s) k' (kind_of s') (kind_small s) (kind_small s') d2.0 in
    let same_target : t ≡ t' = sym (target_back t f.target) ∙ (ap target_from d0.1 ∙ target_back t' f'.target) in
    let same_state : s ≡ s' = sym (state_back s t f.state) ∙ ((λ j. state_from (d3.1 j) (d2.1 j) (d1.1 j) (same_target j)) ∙ state_back s' t' f'.state) in
    (d3.0, λ j. info (same_state j) (same_target j))

pub stub_back : (s : Stub) → stub_from (stub_number s) ≡ s
unfolding stub_from
stub_back stub.Miss = refl
stub_back stub.CheckedEntry = refl
stub_back stub.Single = refl
stub_back stub.Cached = refl
stub_back stub.Mega = refl

pub stub_small : (s : Stub) → stub_number s < 4294967296
stub_small stub.Miss = omega arith
stub_small stub.CheckedEntry = omega arith
stub_small stub.Single = omega arith
stub_small stub.Cached = omega arith
stub_small stub.Mega = omega arith

pub entry_inj : (k : ℕ) (i : Entry) (k' : ℕ) (i' : Entry) → TargetFits k i → TargetFits k' i' → target_word k i ≡ target_word k' i' → (k ≡ k') × (i ≡ i')
unfolding target_word
entry_inj k i k' i' f f' e =
    let d0 = digit 65536 (k * 4294967296 + stub_number i.stub) (target_field i.target) (k' * 4294967296 + stub_number i'.stub) (target_field i'.target) (field_small i.target f.target) (field_small i'.target f'.target) e in
    let d1 = digit 4294967296 k (stub_number i.stub) k' (stub_number i'.stub) (stub_small i.stub) (stub_small i'.stub) d0.0 in
    let same_target : i.target ≡ i'.target = sym (target_back i.target f.target) ∙ (ap target_from d0.1 ∙ target_back i'.target f'.target) in
    let same_stub : i.stub ≡ i'.stub = sym (stub_back i.stub) ∙ (ap stub_from d1.1 ∙ stub_back i'.stub) in
    (d1.0, λ j. entry (same_stub j) (same_target j))

-- the parts of a packed word
pub record DataParts (n k : ℕ) (i : Info) : Type 0 where
  pub stamp : n / 281474976710656 ≡ k
  pub kind : n / 1099511627776 % 256 ≡ kind_of i.state
  pub low : n / 268435456 % 4096 ≡ low_of i.state
  pub high : n / 65536 % 4096 ≡ high_of i.state
  pub field : n % 65536 ≡ target_field i.target

pub data_parts : (n k : ℕ) (i : Info) → DataFits k i → n ≡ data_word k i → DataParts n k i
unfolding data_word
data_parts n k i f e =
    let a = field_small i.target f.target in let b = high_small i.state i.target f.state in let c = low_small i.state i.target f.state in let d = kind_small i.state in
    record { stamp = omega arith; kind = omega arith; low = omega arith; high = omega arith; field = omega arith }

-- what the parts are put together to
pub info_parts : (n k : ℕ) (i : Info) → DataFits k i → n ≡ data_word k i
    → (info (state_from (n / 1099511627776 % 256) (n / 268435456 % 4096) (n / 65536 % 4096) (target_from (n % 65536))) (target_from (n % 65536)) ≡ i)
info_parts n k i f e =
    let d = data_parts n k i f e in let t : target_from (n % 65536) ≡ i.target = ap target_from d.field ∙ target_back i.target f.target in
    let s : state_from (n / 1099511627776 % 256) (n / 268435456 % 4096) (n / 65536 % 4096) (target_from (n % 65536)) ≡ i.state =
    (λ j. state_from (d.kind j) (d.low j) (d.high j) (t j)) ∙ state_back i.state i.target f.state in
    λ j. info (s j) (t j)

pub record EntryParts (n k : ℕ) (i : Entry) : Type 0 where
  pub stamp : n / 281474976710656 ≡ k
  pub stub : n / 65536 % 4294967296 ≡ stub_number i.stub
  pub field : n % 65536 ≡ target_field i.target

pub entry_parts : (n k : ℕ) (i : Entry) → TargetFits k i → n ≡ target_word k i → EntryParts n k i
unfolding target_word
entry_parts n k i f e =
    let a = field_small i.target f.target in let b = stub_small i.stub in
    record { stamp = omega arith; stub = omega arith; field = omega arith }

pub stub_parts : (n k : ℕ) (i : Entry) → TargetFits k i → n ≡ target_word k i → entry (stub_from (n / 65536 % 4294967296)) (target_from (n % 65536)) ≡ i
stub_parts n k i f e =
    let d = entry_parts n k i f e in let t : target_from (n % 65536) ≡ i.target = ap target_from d.field ∙ target_back i.target f.target in
    let s : stub_from (n / 65536 % 4294967296) ≡ i.stub = ap stub_from d.stub ∙ stub_back i.stub in
    λ j. entry (s j) (t j)

pub check_inj : (k l : Check) → CheckFits k → CheckFits l → check_word k ≡ check_word l → k ≡ l
unfolding check_word
check_inj k l f g e =
    let d = digit 65536 (65536 + k.class.0) (target_field k.target) (65536 + l.class.0) (target_field l.target) (field_small k.target f.target) (field_small l.target g.target) e in
    let classes = d.0 in let same : k.class.0 ≡ l.class.0 = omega arith in
    let targets : k.target ≡ l.target = sym (target_back k.target f.target) ∙ (ap target_from d.1 ∙ target_back l.target g.target) in
    λ j. check (same j) (targets j)

-- a check that is set is not empty
pub check_some : (k : Check) → ¬ (check_word k ≡ 0)
unfolding check_word
check_some k e = omega arith

-- the parts of a check
pub check_parts : (n : ℕ) (k : Check) → CheckFits k → n ≡ check_word k → (n / 65536 % 4096 ≡ k.class.0) × (target_from (n % 65536) ≡ k.target)
unfolding check_word
check_parts n k f e =
    let a = field_small k.target f.target in let b = f.class in let field : n % 65536 ≡ target_field k.target = omega arith in
    (omega arith, ap target_from field ∙ target_back k.target f.target)
