-- The texts of the program of the built-in classes, and of small states.
use Rattle.std.proofs.Common.{◌≡◌, [], ◌∷◌, ◌++◌, refl, codes}
use Rattle.std.specs.Fmt.{digits}
use Rattle.std.specs.Char.Utf16.{utf16_chars}
use Rattle.std.specs.Char.{encode_utf8}
use Rattle.byte_texts.specs.Texts.{utf8_of}
use Rattle.program.specs.declared.numbered.Target.TheVariants as target
use Rattle.program.specs.BuiltIn.{built_in_parts}
use Rattle.miss_handler.specs.declared.state.CallState.TheVariants.{Unlinked, Single, Cached}
use Rattle.miss_handler.specs.States.{class_id, check}
use Rattle.dart_values.specs.declared.fault.Trap.TheVariants as trap
use Rattle.dart_meaning.specs.Run.{done, threw}
use Rattle.site_report.specs.Report.{class_name, member_name, selector_text, site_name, arrow_text, state_text, ending_text, printed, entry_head, entry_text, entry_line, last_text, site_line, sites_text, report_text, load_text_of, check_text_of, last_below, class_line, listed_site, list_text_of}

checked : check_text_of built_in_parts ≡ codes "ok classes 7 methods 49 selectors 1 sites 2\n"
unfolding check_text_of digits
checked = refl

-- an entry that printed nothing, over sites that had no call
empty_run : report_text built_in_parts (record { name = codes "main"; lines = []; ending = done } ∷ []) (λ s. 0) (λ s. Unlinked) (λ s. [])
    ≡ codes "entry 0 main\nend done\nsites 2\n0 toString/0 print calls 0 unlinked\n1 toString/0 list calls 0 unlinked\n"
unfolding report_text entry_text entry_head printed sites_text site_line site_name selector_text digits
empty_run = refl

-- the built-in `toString` of Object, and a getter of String
single_state : state_text built_in_parts 0 (Single (class_id 1) (class_id 3) (target.Method (record { 0 = 1 }))) [] ≡ codes "single Null..int -> Object.toString"
unfolding arrow_text class_name member_name
single_state = refl

cached_state : state_text built_in_parts 0 Cached (check 4 (target.Method (record { 0 = 32 })) ∷ check 5 (target.Nsm (record { 0 = 2 })) ∷ []) ≡ codes "cached String -> String.length, List -> nsm Object.noSuchMethod"
unfolding arrow_text class_name member_name
cached_state = refl

-- a name and a text are written as UTF-8
missing : ending_text (threw (trap.NoSuchMethod (109 ∷ []))) ≡ codes "threw NoSuchMethod m"
unfolding utf8_of utf16_chars encode_utf8
missing = refl

loaded : load_text_of built_in_parts (record { name = codes "e0"; lines = (49 ∷ []) ∷ (56 ∷ []) ∷ []; ending = done } ∷ record { name = codes "e1"; lines = []; ending = done } ∷ []) 12
    ≡ codes "classes 7\nsites 2\nentry 0 e0 lines 2 last 8 end done\nentry 1 e1 lines 0 end done\ncalls 12\n"
unfolding load_text_of entry_line entry_head last_text digits utf8_of utf16_chars encode_utf8
loaded = refl
