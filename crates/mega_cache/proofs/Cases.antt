-- The definitions on worked cases. Two classes with one home in a generation of 16 places have two in one of 32.
use Rattle.std.proofs.Common.{◌≡◌, ◌+◌, ◌*◌, refl}
use Rattle.program.specs.declared.numbered.Target.TheVariants.{Method, Nsm}
use Rattle.mega_cache.specs.Entries.{packed}
use Rattle.mega_cache.specs.Places.{last_generation, words_up_to, window_place}

last_of_27 : last_generation 27 ≡ 1
unfolding last_generation
last_of_27 = refl

last_of_16 : last_generation 16 ≡ 0
unfolding last_generation
last_of_16 = refl

last_of_17 : last_generation 17 ≡ 1
unfolding last_generation
last_of_17 = refl

last_of_2048 : last_generation 2048 ≡ 7
unfolding last_generation
last_of_2048 = refl

words_of_27 : words_up_to 1 ≡ 1 + 16 + 32
words_of_27 = refl

words_of_2048 : words_up_to 7 ≡ 4081
words_of_2048 = refl

-- place 1 of the first generation, behind the root
home_of_7 : window_place 7 0 0 ≡ 1 + 1
unfolding window_place
home_of_7 = refl

home_of_23 : window_place 23 0 0 ≡ 1 + 1
unfolding window_place
home_of_23 = refl

-- places 17 and 1 of the second one
home_of_7_later : window_place 7 1 0 ≡ 1 + 16 + 17
unfolding window_place
home_of_7_later = refl

home_of_23_later : window_place 23 1 0 ≡ 1 + 16 + 1
unfolding window_place
home_of_23_later = refl

-- a window goes on at the first place: from 14 and 15 to 0
window_of_2 : window_place 2 0 2 ≡ 1 + 0
unfolding window_place
window_of_2 = refl

word_of_a_method : packed 9 (Method (record { 0 = 49 })) ≡ 4294967296 + 9 * 65536 + 49
unfolding packed
word_of_a_method = refl

word_of_a_missing_method : packed 9 (Nsm (record { 0 = 2 })) ≡ 4294967296 + 9 * 65536 + 32768 + 2
unfolding packed
word_of_a_missing_method = refl
