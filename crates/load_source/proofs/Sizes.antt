-- How long the text of a load is.
use Rattle.std.proofs.Common.{◌≡◌, ℕ, zero, suc, ◌+◌, ◌*◌, ◌/◌, ◌%◌, ◌^◌, ◌<◌, ◌≤◌, Bool, true, false, if◌then◌else◌, ◌==◌, List, [], ◌++◌, length, refl, arith}
use Rattle.std.specs.Prelude.{codes}
use Rattle.std.specs.Fmt.{decimal}
use Rattle.std.proofs.lemmas.Fmt.{length-decimal-le}
use Rattle.std.proofs.lemmas.List.{length-append}
use Rattle.load_source.specs.Generated.{each, parent, superclass, members, class_text, class_line, numbered, add_line, all_text, work_text, entry, generated}

-- two texts, one behind the other
both_short : (xs ys : List ℕ) (a b : ℕ) → length xs ≤ a → length ys ≤ b → length (xs ++ ys) ≤ a + b
both_short xs ys a b low high = omega (arith, length-append xs ys, low, high)

digits_short : (n : ℕ) → n < 2 ^ 32 → length (decimal n) ≤ 10
digits_short n small = length-decimal-le 10 n (omega arith) (omega (arith, small)) (omega (arith, small))

each_short : (f : ℕ → List ℕ) (n b : ℕ) → ((k : ℕ) → k < n → length (f k) ≤ b) → length (each f n) ≤ n * b
each_short f zero b short = omega arith
each_short f (suc n) b short =
    let rest : length (each f n) ≤ n * b = each_short f n b (λ k low. short k (omega (arith, low))) in
    let whole : length (each f n ++ f n) ≤ n * b + b = both_short (each f n) (f n) (n * b) b rest (short n (omega arith)) in
    let times : suc n * b ≡ n * b + b = omega arith in
    omega (arith, whole, times)

superclass_short : (k x : ℕ) → k < 2 ^ 32 → length (superclass k x) ≤ 20
superclass_short zero x small = omega arith
superclass_short (suc k) x small =
    let below : parent (suc k) x < suc k = omega arith in
    both_short (codes " extends C") (decimal (parent (suc k) x)) 10 10 (omega arith) (digits_short (parent (suc k) x) (omega (arith, below, small)))

members_short : (k : ℕ) → k < 2 ^ 32 → (b : Bool) → length (if b then codes " {}\n" else codes " { m(x) => x + " ++ decimal k ++ codes "; }\n") ≤ 29
members_short k small true = omega arith
members_short k small false =
    both_short (codes " { m(x) => x + ") (decimal k ++ codes "; }\n") 15 14 (omega arith) (both_short (decimal k) (codes "; }\n") 10 4 (digits_short k small) (omega arith))

class_short : (k x : ℕ) → k < 2 ^ 32 → length (class_text k x) ≤ 66
class_short k x small =
    both_short (codes "class C") (decimal k ++ superclass k x ++ members k) 7 59 (omega arith)
    (both_short (decimal k ++ superclass k x) (members k) 30 29 (both_short (decimal k) (superclass k x) 10 20 (digits_short k small) (superclass_short k x small)) (members_short k small (k % 3 == 2)))

add_short : (k : ℕ) → k < 2 ^ 32 → length (add_line k) ≤ 24
add_short k small = both_short (codes "  a.add(C") (decimal k ++ codes "());\n") 9 15 (omega arith) (both_short (decimal k) (codes "());\n") 10 5 (digits_short k small) (omega arith))

all_short : (classes : ℕ) → classes ≤ 1000 → length (all_text classes) ≤ 24100
all_short classes few =
    let lines : length (each add_line classes) ≤ classes * 24 = each_short add_line classes 24 (λ k low. add_short k (omega (arith, low, few))) in
    both_short (codes "all() {\n  var a = [];\n") (each add_line classes ++ codes "  return a;\n}\n") 50 24050 (omega arith)
    (both_short (each add_line classes) (codes "  return a;\n}\n") 24000 50 (omega (arith, lines, few)) (omega arith))

entry_short : (calls k : ℕ) → calls < 2 ^ 32 → k < 4 → length (entry calls k) ≤ 100
entry_short calls k small low =
    let opens : List ℕ = codes "() { print(work(" in
    let ends : List ℕ = codes ")); }\n" in
    let digits : length (decimal k) ≤ 10 = digits_short k (omega (arith, low)) in
    both_short (codes "@pragma('vm:entry-point')\ne") (decimal k ++ opens ++ decimal k ++ codes ", " ++ decimal calls ++ ends) 30 70 (omega arith)
    (both_short (decimal k ++ opens ++ decimal k ++ codes ", " ++ decimal calls) ends 60 10
    (both_short (decimal k ++ opens ++ decimal k ++ codes ", ") (decimal calls) 50 10
    (both_short (decimal k ++ opens ++ decimal k) (codes ", ") 40 10
    (both_short (decimal k ++ opens) (decimal k) 30 10 (both_short (decimal k) opens 10 20 digits (omega arith)) digits) (omega arith)) (digits_short calls small)) (omega arith))

-- A load of at most 1,000 classes is shorter than the longest source.
pub short : (number classes calls : ℕ) → classes ≤ 1000 → calls < 2 ^ 32 → length (generated number classes calls) ≤ 1048576
short number classes calls few small =
    let lines : length (each (class_line number) classes) ≤ classes * 66 = each_short (class_line number) classes 66 (λ k low. class_short k (numbered number k) (omega (arith, low, few))) in
    let entries : length (each (entry calls) 4) ≤ 4 * 100 = each_short (entry calls) 4 100 (λ k low. entry_short calls k small low) in
    let whole : length (generated number classes calls) ≤ 90400 + 400 =
    both_short (each (class_line number) classes ++ all_text classes ++ work_text) (each (entry calls) 4) 90400 400
    (both_short (each (class_line number) classes ++ all_text classes) work_text 90100 300
    (both_short (each (class_line number) classes) (all_text classes) 66000 24100 (omega (arith, lines, few)) (all_short classes few)) (omega arith)) (omega (arith, entries)) in
    omega (arith, whole)
