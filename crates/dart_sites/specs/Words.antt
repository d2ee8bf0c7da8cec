-- What the words of the command line ask for: a request, or none.
use Rattle.std.specs.Prelude.{◌≡◌, ℕ, ◌≤◌, List, [], ◌∷◌, Bool, true, false, map, length, codes, String, string_bytes, if◌then◌else◌, ◌==◌, ◌+◌, ◌*◌, ◌-◌, ◌&&◌, fold, nat_le}
use Rattle.std.specs.List.{list_all}
use Rattle.std.specs.declared.alloc.Global.{Global}
use Rattle.dart_sites.specs.declared.words.Request.{Request}
use Rattle.dart_sites.specs.declared.words.Request.TheVariants as request

abbrev pub is_digit_byte : ℕ → Bool
is_digit_byte b = nat_le 48 b && nat_le b 57

-- the number that decimal digits write
abbrev pub digits_value : List ℕ → ℕ
digits_value text = fold (λ n b. 10 * n + (b - 48)) 0 text

-- digits without a leading zero, or `0`
abbrev pub is_plain : List ℕ → Bool
is_plain [] = false
is_plain (d ∷ []) = is_digit_byte d
is_plain (d ∷ rest) = if d == 48 then false else list_all is_digit_byte (d ∷ rest)

-- the text is the number in plain digits
pub record IsNumber (text : List ℕ) (n : ℕ) : Type 0 where
  pub plain : is_plain text ≡ true
  pub value : digits_value text ≡ n

-- the words
abbrev pub texts : List (String Global) → List (List ℕ)
texts words = map string_bytes words

-- run TURNS 1 ENTRY ..
pub record AsksRun (words : List (List ℕ)) (turns : ℕ) (names : List (List ℕ)) : Type 0 where
  pub text : List ℕ
  pub words_are : words ≡ codes "run" ∷ text ∷ codes "1" ∷ names
  pub number : IsNumber text turns
  pub some : 1 ≤ turns
  pub most : turns ≤ 1000000000
  pub named : 1 ≤ length names
  pub few : length names ≤ 64

-- the words ask for this request
abbrev pub Asks : List (List ℕ) → Request → Type 0
Asks words request.Check = words ≡ codes "check" ∷ []
Asks words request.List = words ≡ codes "list" ∷ []
Asks words (request.Run turns names) = AsksRun words turns (texts names.now)

-- the words ask for nothing
abbrev pub NoRequest : List (List ℕ) → Type 0
NoRequest words = (r : Request) → Asks words r → ⊥

-- the entries that a request names
abbrev pub entries : Request → List (List ℕ)
entries request.Check = []
entries request.List = []
entries (request.Run turns names) = texts names.now

-- it keeps to the greatest number of turns and of entries
abbrev pub IsWithin : Request → Type 0
IsWithin request.Check = Unit {0}
IsWithin request.List = Unit {0}
IsWithin (request.Run turns names) = (turns ≤ 1000000000) × (length names.now ≤ 64)

-- how many workers a request names
abbrev pub workers : Request → ℕ
workers request.Check = 1
workers request.List = 1
workers (request.Run turns names) = 1

-- the words ask for a request with so many workers
pub record AsksWorkers (words : List (List ℕ)) (count : ℕ) : Type 0 where
  pub request : Request
  pub asks : Asks words request
  pub count_is : count ≡ workers request
