-- Worked words.
use Rattle.std.proofs.Common.{◌≡◌, refl}
use Rattle.program.specs.declared.numbered.Target.{Target}
use Rattle.program.specs.declared.numbered.Target.TheVariants.{Method, Nsm}
use Rattle.miss_handler.specs.declared.state.CallState.TheVariants.{Unlinked, Mono, Single}
use Rattle.miss_handler.specs.States.{check, class_id}
use Rattle.cell_rule.specs.declared.words.Stub.TheVariants as stub
use Rattle.cell_rule.specs.Words.{info, entry, no_target, data_word, target_word, check_word, entry_of}

abbrev method_49 : Target
method_49 = Method record { 0 = 49 }

-- class 7 with method 49 and stamp 1: 0001010070070031 and 0001000000010031 in hexadecimal
mono_data : data_word 1 (info (Mono (class_id 7)) method_49) ≡ 282576367845425
unfolding data_word
mono_data = refl

mono_target : target_word 1 (entry stub.CheckedEntry method_49) ≡ 281474976776241
unfolding target_word
mono_target = refl

mono_words : entry_of (info (Mono (class_id 7)) method_49) ≡ entry stub.CheckedEntry method_49
mono_words = refl

-- classes 8 to 9 with method 49 and stamp 2: 0002020080090031
single_data : data_word 2 (info (Single (class_id 8) (class_id 9) method_49) method_49) ≡ 565151124750385
unfolding data_word
single_data = refl

-- an unlinked site has words that are 0
unlinked_data : data_word 0 (info Unlinked no_target) ≡ 0
unfolding data_word
unlinked_data = refl

unlinked_target : target_word 0 (entry_of (info Unlinked no_target)) ≡ 0
unfolding target_word
unlinked_target = refl

-- a check of class 7 whose `noSuchMethod` is method 2: 0000000100078002
check_of_7 : check_word (check 7 (Nsm record { 0 = 2 })) ≡ 4295458818
unfolding check_word
check_of_7 = refl
