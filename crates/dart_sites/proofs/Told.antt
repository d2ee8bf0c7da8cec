-- Bytes that are told, over several reads and writes.
use Rattle.std.proofs.Common.{◌≡◌, ℕ, ◌+◌, List, ◌++◌, length, take, drop, Option, Some, None, IfSome, ap, sym, ◌∙◌, subst, arith, append_assoc, append-nil, take-add, ◌-◌}
use Rattle.std.proofs.lemmas.Grind.{common_steps}
use Rattle.std.specs.Io.KnownBytes.{Appends, Consumes, Keeps, IsAtEnd}

pub appends_more : (old mid new : Option (List ℕ)) (a b : List ℕ) → Appends old mid a → Appends mid new b → Appends old new (a ++ b)
appends_more None mid new a b p q = tt
appends_more (Some x) None new a b p q = absurd p
appends_more (Some x) (Some y) None a b p q = absurd q
appends_more (Some x) (Some y) (Some z) a b p q = q ∙ ap (λ l. l ++ b) p ∙ append_assoc x a b

pub take_further : (text : List ℕ) (a n : ℕ) → take a text ++ take n (drop a text) ≡ take (a + n) text
take_further text a n = sym (take-add a n text)

pub appends_taken : (old mid new : Option (List ℕ)) (text : List ℕ) (a n : ℕ) → Appends old mid (take a text) → Appends mid new (take n (drop a text)) → Appends old new (take (a + n) text)
appends_taken old mid new text a n p q = subst (Appends old new) (take_further text a n) (appends_more old mid new _ _ p q)

pub consumes_more : (old mid new : Option (List ℕ)) (a b : List ℕ) → Consumes old mid a → Consumes mid new b → Consumes old new (a ++ b)
consumes_more None mid new a b p q = tt
consumes_more (Some x) None new a b p q = absurd p
consumes_more (Some x) (Some y) None a b p q = absurd q
consumes_more (Some x) (Some y) (Some z) a b p q = p ∙ ap (λ l. a ++ l) q ∙ sym (append_assoc a b z)

pub consumed_all : (old mid new : Option (List ℕ)) (bytes : List ℕ) → Consumes old mid bytes → IsAtEnd mid → Keeps mid new → IfSome old (λ rest. (rest ≡ bytes) × IsAtEnd new)
consumed_all None mid new bytes p e k = tt
consumed_all (Some x) None new bytes p e k = absurd p
consumed_all (Some x) (Some y) None bytes p e k = absurd k
consumed_all (Some x) (Some y) (Some z) bytes p e k = (p ∙ ap (λ l. bytes ++ l) e ∙ append-nil bytes, k ∙ e)

pub all_of_rest : (text : List ℕ) (at : ℕ) → take (length text - at) (drop at text) ≡ drop at text
all_of_rest text at = grind (arith, common_steps)
